use Rattle.std.proofs.Common.{◌≡◌, ◌+◌, ◌++◌}
use Rattle.arrayvec.specs.ArrayString.{array_string_len}
use Rattle.nomination.specs.LastDigits.{last_digits}
use Rattle.nomination.proofs.field_text.push_digits.Given as goal

-- what is written and the digits of the places left are the whole text
abbrev pub invariant-loop-place : goal.invariant-loop-place
invariant-loop-place l =
    (array_string_len l.text + l.place ≡ array_string_len l.initial.text + l.count)
    × (l.text.bytes ++ last_digits l.place l.number ≡ l.initial.text.bytes ++ last_digits l.count l.number)
