use Rattle.std.proofs.Common.{◌∷◌, length, sym, ap, ◌∙◌, arith}
use Rattle.std.proofs.lemmas.List.{take_rest}
use Rattle.nomination.specs.FieldsLeft.{fields_left}
use Rattle.nomination.specs.Parts.{part_seen, parts_from}
use Rattle.nomination.proofs.Fielding.{parts_first, fields_one}
use Rattle.nomination.proofs.line.fields.FieldsIterator.next.Goals as goal

pub returns-in_default-clause-steps : goal.returns-in_default-clause-steps
returns-in_default-clause-steps c =
    let line = c.in_ok-line.line in
    ap (λ r. fields_left record { rest = r }) (sym c.take.ensures.value ∙ c.in_ok-line.was) ∙ ap (parts_from line.at) (fields_one line.bytes.now c.in_default.ensures)
    ∙ ap (λ r. part_seen record { bytes = line.bytes; at = line.at } ∷ fields_left record { rest = r }) (sym c.take.ensures.after)

pub returns-in_default-clause-goes : goal.returns-in_default-clause-goes
returns-in_default-clause-goes c =
    record { on = λ _. (tt, tt, omega (arith, ap length (returns-in_default-clause-steps c))); keeps = tt; rests = λ _. tt }

pub returns-clause-steps : goal.returns-clause-steps
returns-clause-steps c =
    let line = c.in_ok-line.line in
    rw take_rest (ap (λ r. fields_left record { rest = r }) (sym c.take.ensures.value ∙ c.in_ok-line.was) ∙ parts_first line.at line.bytes.now c.in-Some.comma c.in-Some.ensures)

pub returns-clause-goes : goal.returns-clause-goes
returns-clause-goes c =
    record { on = λ _. (tt, tt, omega (arith, ap length (returns-clause-steps c))); keeps = tt; rests = λ _. tt }
