use Rattle.std.proofs.Common.{◌<◌, ◌≤◌, length, sym, ap, ◌∙◌, arith}
use Rattle.std.proofs.lemmas.Result.{err_from_is_err_and}
use Rattle.std.proofs.lemmas.Bool.{leb-true, leb-false}
use Rattle.energy.specs.PartyCodes.{code_text}
use Rattle.intake.specs.Intake.{day_of}
use Rattle.intake.proofs.Looping.{turn, stop, done}
use Rattle.intake.proofs.filing.Filing.take_lines.Goals as goal

pub returns-in_err-add_line : goal.returns-in_err-add_line
returns-in_err-add_line c =
    let l = c.loop-reader in
    let begun = c.args.filed.now in
    let long = ap length l.invariant.3 in
    let left = leb-false (length l.reader.text.now) l.reader.at (sym c.loop-reader-test.ensures) in
    let more : l.reader.at < length c.args.from.text.now = omega arith in
    let p = err_from_is_err_and c.from_residual.result c.from_residual.ensures.1 in
    record {
      answer = rw (p.1, p.2)
          (stop (day_of c.args.self.now.day.register.now c.args.self.now.day.terms) (code_text c.args.self.now.filer) begun.rows.now l.filed.rows.now begun.used l.filed.used
          c.args.from.text.now l.reader.text.now l.reader.at l.reader.line _ l.invariant.0 l.filed.within l.invariant.1 l.invariant.2 l.invariant.3 l.invariant.6
          c.add_line.new.filed.rows.now c.in_err-add_line.field-0.0 more c.in_err-add_line.ensures.rows);
      lender = c.in_err-add_line.ensures.lender ∙ l.invariant.5;
    }

pub loop-reader-preserved : goal.loop-reader-preserved
loop-reader-preserved c =
    let l = c.loop-reader in
    let begun = c.args.filed.now in
    let last = c.add_line.new in
    let took = c.in_ok-add_line.ensures in
    let long = ap length l.invariant.3 in
    let left = leb-false (length l.reader.text.now) l.reader.at (sym c.loop-reader-test.ensures) in
    let more : l.reader.at < length c.args.from.text.now = omega arith in
    let t = turn (day_of c.args.self.now.day.register.now c.args.self.now.day.terms) (code_text c.args.self.now.filer) begun.rows.now l.filed.rows.now begun.used l.filed.used
    c.args.from.text.now l.reader.text.now l.reader.at l.reader.line _ l.invariant.0 l.filed.within l.invariant.1 l.invariant.2 l.invariant.3 l.invariant.6
    last.filed.rows.now last.filed.used last.reader.at last.reader.line more took.rows took.used took.place.0 took.place.1 in
    (t.0, t.1, t.2, took.text ∙ l.invariant.3, l.invariant.4, took.lender ∙ l.invariant.5, t.3)

pub returns : goal.returns
returns c =
    let l = c.loop-reader in
    let begun = c.args.filed.now in
    let long = ap length l.invariant.3 in
    let none = leb-true (length l.reader.text.now) l.reader.at (sym c.loop-reader-test.ensures) in
    let end : length c.args.from.text.now ≤ l.reader.at = omega arith in
    record {
      answer = rw (c.used-before.ensures, c.used-used.ensures) (done (day_of c.args.self.now.day.register.now c.args.self.now.day.terms) (code_text c.args.self.now.filer) begun.rows.now l.filed.rows.now begun.used l.filed.used
          c.args.from.text.now l.reader.text.now l.reader.at l.reader.line _ l.invariant.0 l.filed.within l.invariant.1 l.invariant.2 l.invariant.3 l.invariant.6 end);
      lender = l.invariant.5;
    }
