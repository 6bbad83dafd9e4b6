-- The texts of fields, and how long they can be.
use Rattle.std.proofs.Common.{◌≡◌, ℕ, zero, suc, ◌-◌, ◌/◌, ◌^◌, ◌<◌, ◌≤◌, List, [], ◌∷◌, length, get_or, refl, arith}
use Rattle.std.proofs.Math.Nat.{one-le-pow}
use Rattle.nomination.specs.LastDigits.{last_digits}
use Rattle.nomination.specs.Texts.{digit, three_text, date_text, line_text}
use Rattle.nomination.specs.ValuesHeld.{Values, values_said}
use Rattle.nomination.specs.declared.record.RecordOf.TheVariants.{Heading, Trading, Matching}
use Rattle.std.proofs.lemmas.Bool.Decides.{nat_tests}
use Rattle.std.proofs.lemmas.Grind.{common_steps}
use Rattle.energy.specs.Codes.{first_four}
use Rattle.energy.specs.PartyCodes.{code_text}
use Rattle.energy.specs.declared.party_code.PartyCode.{PartyCode}

-- no place divides by 0
pub tens_some : (k : ℕ) → 0 < 10 ^ k
tens_some k = one-le-pow k 10 (omega arith)

-- the first of some last digits stands before the others
pub digits_next : (k n : ℕ) → 0 < k → last_digits k n ≡ digit (n / 10 ^ (k - 1)) ∷ last_digits (k - 1) n
digits_next zero n h = absurd (omega arith)
digits_next (suc k) n h = let same : suc k - 1 ≡ k = omega arith in rw same refl

-- a version's digits are the last three
pub three_digits : (n : ℕ) → last_digits 3 n ≡ three_text n
three_digits n = grind arith

-- a date's digits are the last eight
pub date_digits : (n : ℕ) → last_digits 8 n ≡ date_text n
date_digits n = grind arith

-- no line is longer than the longest
pub line_short : (v : Values) → length (line_text (values_said v)) ≤ 36
line_short (Heading h) = grind (arith, common_steps)
line_short (Trading d flag) = grind (arith, common_steps)
line_short (Matching d) = grind (arith, common_steps)

-- a code's bytes are below 128
pub code_small : (code : PartyCode) (items : List ℕ) (i : ℕ) → length items ≡ 4 → first_four items ≡ code_text code → i < 4 → get_or items i 0 < 128
code_small code (a ∷ b ∷ c ∷ d ∷ []) zero l e h = let sound = code.sound in grind (arith, nat_tests)
code_small code (a ∷ b ∷ c ∷ d ∷ []) (suc zero) l e h = let sound = code.sound in grind (arith, nat_tests)
code_small code (a ∷ b ∷ c ∷ d ∷ []) (suc (suc zero)) l e h = let sound = code.sound in grind (arith, nat_tests)
code_small code (a ∷ b ∷ c ∷ d ∷ []) (suc (suc (suc zero))) l e h = let sound = code.sound in grind (arith, nat_tests)
code_small code items i l e h = absurd (omega arith)
