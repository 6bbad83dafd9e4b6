-- The text of each field holds no mark, and is read as the value that it was written for.
use Rattle.std.proofs.Common.{◌≡◌, ℕ, ◌/◌, ◌%◌, ◌<◌, ◌≤◌, true, List, ◌∷◌, Some, None, refl, arith}
use Rattle.std.proofs.lemmas.Bool.{cond-true}
use Rattle.std.proofs.lemmas.Bool.Decides.{nat_tests}
use Rattle.energy.specs.Codes.{well_formed, first_four, code_read}
use Rattle.book.specs.declared.filed_row.Flag.{Flag}
use Rattle.book.specs.declared.filed_row.Flag.TheVariants.{Brown, Chp, Renewable}
use Rattle.energy.specs.declared.unit.Kwh.{Kwh}
use Rattle.nomination.specs.Fields.{amount_of, period_of, version_of, date_of, flag_of}
use Rattle.nomination.specs.Texts.{plain_text, three_text, four_text, amount_text, date_text, flag_text}
use Rattle.nomination.proofs.Backing.{free, free_append}

-- both marks are below the point, the digits and the letters
module _ (sep : ℕ) (low : sep < 46) where
  pub three_free : (n : ℕ) → free sep (three_text n) ≡ true
  three_free n = grind (arith, nat_tests)

  pub four_free : (n : ℕ) → free sep (four_text n) ≡ true
  four_free n = grind (arith, nat_tests)

  pub plain_free : (n : ℕ) → free sep (plain_text n) ≡ true
  plain_free n = grind (arith, nat_tests)

  point_free : (n : ℕ) → free sep (46 ∷ three_text n) ≡ true
  point_free n = grind (arith, nat_tests)

  pub amount_free : (e : Kwh) → free sep (amount_text e) ≡ true
  amount_free e = free_append sep (plain_text (e.0 / 1000)) (46 ∷ three_text (e.0 % 1000)) (plain_free (e.0 / 1000)) (point_free (e.0 % 1000))

  pub date_free : (n : ℕ) → free sep (date_text n) ≡ true
  date_free n = free_append sep (four_text (n / 10000)) (four_text (n % 10000)) (four_free (n / 10000)) (four_free (n % 10000))

  pub code_free : (chars : List ℕ) → well_formed (first_four chars) ≡ true → free sep (first_four chars) ≡ true
  code_free chars e = grind (arith, nat_tests)

  pub flag_free : (flag : Flag) → free sep (flag_text flag) ≡ true
  flag_free Brown = refl
  flag_free Chp = grind (arith, nat_tests)
  flag_free Renewable = grind (arith, nat_tests)

pub period_back : (p : ℕ) → 1 ≤ p → p ≤ 99 → period_of (plain_text p) ≡ Some p
period_back p h k = grind (arith, nat_tests)

pub version_back : (v : ℕ) → 1 ≤ v → v ≤ 999 → version_of (three_text v) ≡ Some v
version_back v h k = grind (arith, nat_tests)

pub date_back : (d : ℕ) → d ≤ 99999999 → date_of (date_text d) ≡ Some d
date_back d h = grind (arith, nat_tests)

pub amount_back : (e : Kwh) → e.0 ≤ 9999999 → amount_of (amount_text e) ≡ Some e
amount_back e h = grind (arith, nat_tests)

pub flag_back : (flag : Flag) → flag_of (flag_text flag) ≡ Some flag
flag_back Brown = refl
flag_back Chp = refl
flag_back Renewable = refl

pub code_back : (chars : List ℕ) → well_formed (first_four chars) ≡ true → code_read (first_four chars) ≡ Some (first_four chars)
code_back chars e = cond-true (well_formed (first_four chars)) (Some (first_four chars)) None e
