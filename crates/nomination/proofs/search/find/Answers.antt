use Rattle.std.proofs.Common.{ℕ, not, eqb, arith}
use Rattle.std.proofs.lemmas.List.Sums.{prefix_len-drop_yes, prefix_len-drop_no}
use Rattle.std.proofs.lemmas.Bool.Decides.{nat_tests}
use Rattle.nomination.specs.Marks.{mark_byte}
use Rattle.nomination.proofs.Marking.{place_on, place_none}
use Rattle.nomination.proofs.search.find.Goals as goal

pub returns-then-text-place : goal.returns-then-text-place
returns-then-text-place c =
    let on = place_on c.args.mark c.args.text.now c.loop-place.at c.in-Some.place c.in-Some.ensures in
    let here = prefix_len-drop_no (λ (b : ℕ). not (eqb b (mark_byte c.args.mark))) c.args.text.now c.in-Some.place 0 on.2 (grind (arith, nat_tests)) in
    grind (arith, nat_tests)

pub loop-place-preserved : goal.loop-place-preserved
loop-place-preserved c =
    let on = place_on c.args.mark c.args.text.now c.loop-place.at c.in-Some.place c.in-Some.ensures in
    let here = prefix_len-drop_yes (λ (b : ℕ). not (eqb b (mark_byte c.args.mark))) c.args.text.now c.in-Some.place 0 on.2 (grind (arith, nat_tests)) in
    (omega arith, omega arith)

pub returns : goal.returns
returns c =
    let none = place_none c.args.mark c.args.text.now c.loop-place.at c.loop-place.invariant.1 c.in_default.ensures in
    grind (arith, nat_tests)
