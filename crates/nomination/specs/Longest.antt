-- How long a line can be.
use Rattle.std.specs.Prelude.{◌≡◌, ℕ, ◌≤◌, length, codes}
use Rattle.energy.specs.Units.{kwh}
use Rattle.book.specs.declared.filed_row.Flag.TheVariants.{Chp}
use Rattle.nomination.specs.Texts.{line_text}
use Rattle.nomination.specs.Values.{DetailValues, trading}
use Rattle.nomination.specs.ValuesHeld.{Values, values_said}

-- A trade whose every field is as long as it can be.
abbrev pub long_detail : DetailValues
long_detail = record { period = 50; north = codes "AAAA"; south = codes "XXXX"; ns = kwh 9999999; sn = kwh 9999999 }

-- No line is longer, and that trade's line is as long.
abbrev pub Longest : ℕ → Type 0
Longest n = ((v : Values) → length (line_text (values_said v)) ≤ n) × (length (line_text (trading long_detail Chp)) ≡ n)
