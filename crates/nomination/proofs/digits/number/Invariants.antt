use Rattle.std.proofs.Common.{◌≡◌, ◌^◌, ◌<◌, ◌≤◌, length, drop}
use Rattle.nomination.specs.Digits.{digits_after}
use Rattle.nomination.proofs.digits.number.Given as goal

abbrev pub invariant-loop-b : goal.invariant-loop-b
invariant-loop-b l =
    (digits_after l.value (drop l.b-index l.digits) ≡ digits_after 0 l.digits)
    × (l.value < 10 ^ l.b-index)
    × (1 ≤ length l.digits)
    × (length l.digits ≤ 4)
    × (l.b-index ≤ length l.digits)
