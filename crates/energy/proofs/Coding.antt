-- What four characters of a code come to.
use Rattle.std.proofs.Common.{rules, ◌≡◌, ℕ, false, length, List, [], ◌∷◌}
use Rattle.std.specs.Prelude.{Option, None}
use Rattle.std.specs.List.{list_all}
use Rattle.energy.specs.Codes.{code_char, code_read}

-- Four bytes of which one may not stand in a code are no code.
pub no_code : (text : List ℕ) → length text ≡ 4 → list_all code_char text ≡ false → ◌≡◌ {A = Option (List ℕ)} None (code_read text)
no_code (a ∷ b ∷ c ∷ d ∷ []) four bad = search rules
no_code text four bad = search rules
