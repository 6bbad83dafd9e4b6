use Rattle.std.proofs.Common.{ℕ, List, take, Result, ap, ◌∙◌}
use Rattle.std.specs.Option.{option_map}
use Rattle.std.specs.Result.{result_map_both}
use Rattle.book.specs.declared.filed_row.FiledRow.{FiledRow}
use Rattle.energy.specs.PartyCodes.{code_text}
use Rattle.nomination.specs.Reading.{line_at, line_values}
use Rattle.nomination.specs.ValuesHeld.{said, values_said}
use Rattle.intake.specs.Filing.{row_into, line_into}
use Rattle.intake.specs.Intake.{day_of, space_of}
use Rattle.intake.specs.Noting.{noted, row_from}
use Rattle.intake.specs.declared.fault.FileFault.{FileFault}
use Rattle.intake.proofs.Adding.{said_there, row_there, followed}
use Rattle.intake.proofs.filing.Filing.add_line.Goals as goal

pub returns : goal.returns
unfolding line_into
returns c =
    let reader = c.args.reader.now in
    let rows = c.args.filed.now.rows.now in
    let used = c.args.filed.now.used in
    let filed = take used rows in
    let day = day_of c.args.self.now.day.register.now c.args.self.now.day.terms in
    let filer = code_text c.args.self.now.filer in
    let bytes = reader.text.now in
    let x = said (option_map values_said) c.next_values.result in
    let at = reader.at in
    let n = reader.line in
    let last = c.next_values.new.self in
    let here = c.next_values.ensures.answer in
    let there = row_there day filer bytes at n x last.at last.line c.requires.more c.requires.short here in
    let into : Result FiledRow FileFault → List FiledRow × Result (Unit {0}) FileFault = λ q. noted rows used (row_into (space_of rows) n filed q) in
    let is = c.line_row.ensures ∙ ap (λ (m : ℕ). row_from day filer m x) c.line-line.ensures in
    let put = c.admit_row.ensures.rows
    ∙ ap (λ (m : ℕ). noted rows used (row_into (space_of rows) m filed (result_map_both (λ e. e.row) (λ fault. fault) c.line_row.result))) c.line-line.ensures ∙ ap into is in
    record {
      rows = put ∙ ap into there;
      used = c.admit_row.ensures.used;
      lender = c.admit_row.ensures.lender;
      place = followed day filer bytes at n rows c.admit_row.new.filed.rows.now used (space_of rows) filed (line_values n (line_at bytes at)) x last.at last.line
          c.admit_row.result (here ∙ said_there bytes at n c.requires.more c.requires.short) put;
      text = c.next_values.ensures.text;
    }
