use Rattle.std.proofs.Common.{◌≡◌, ◌-◌, ◌≤◌, ◌==◌, length}
use Rattle.std.specs.List.{position_or_len}
use Rattle.nomination.specs.Marks.{place_of, mark_byte}
use Rattle.nomination.proofs.search.find.Given as goal

abbrev pub invariant-loop-place : goal.invariant-loop-place
invariant-loop-place l =
    (place_of (mark_byte l.mark) l.text l.at ≡ position_or_len (λ b. b == mark_byte l.mark) l.text) × (l.at ≤ length l.text)

abbrev pub decreases-loop-place : goal.decreases-loop-place
decreases-loop-place l = length l.text - l.at
