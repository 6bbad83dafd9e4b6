use Rattle.std.proofs.Common.{ℕ, ap, ◌∙◌}
use Rattle.std.specs.Option.{option_map}
use Rattle.nomination.specs.Reading.{said_next}
use Rattle.nomination.specs.ValuesHeld.{said, values_said}
use Rattle.intake.specs.Intake.{day_of}
use Rattle.intake.proofs.Heading.{filer_there, header_behind}
use Rattle.intake.proofs.asked_day.AskedDay.take_header.Goals as goal

pub returns : goal.returns
returns c =
    let reader = c.args.reader.now in
    let bytes = reader.text.now in
    let day = day_of c.args.self.now.register.now c.args.self.now.terms in
    let x = said (option_map values_said) c.next_values.result in
    let last = c.next_values.new.self in
    let here = c.next_values.ensures.answer ∙ ap (λ (k : ℕ). said_next bytes k reader.line) c.requires.start ∙ ap (said_next bytes 0) c.requires.first in
    let behind = header_behind day bytes c.filer_of.result last.at last.line x here c.filer_of.ensures in
    record {
      filer = c.filer_of.ensures ∙ filer_there day bytes x last.at last.line here;
      place = behind.0;
      short = behind.1;
      text = c.next_values.ensures.text;
    }
