-- The row of registered parties stands for an entry.
use Rattle.std.proofs.Common.{rules, ◌≡◌, ℕ, ◌+◌, ◌<◌, ◌≤◌, true, false, refl, leb, nat_le, List, [], ◌∷◌, length, Some, None, Option, Err, Result, sym, ◌∙◌, inl, inr, arith}
use Rattle.std.proofs.lemmas.Bool.{cases_Bool, and_parts, leb-true, cond-true, cond-false}
use Rattle.std.proofs.lemmas.Bool.Decides.{nat_tests}
use Rattle.std.specs.Option.{option_map, IsSome}
use Rattle.book.specs.Books.{checked}
use Rattle.book.specs.FiledRows.{filed_fit}
use Rattle.book.specs.declared.filed_row.FiledKind.{FiledKind}
use Rattle.book.specs.declared.filed_row.Flag.{Flag}
use Rattle.energy.specs.Codes.{same_code}
use Rattle.energy.specs.declared.side.Side.{Side}
use Rattle.energy.specs.declared.side.Side.TheVariants.{Northern, Southern}
use Rattle.book.specs.declared.filed_row.FiledRow.{FiledRow}
use Rattle.nomination.specs.Values.{DetailValues}
use Rattle.register.proofs.Finding.{codes_length}
use Rattle.register.specs.Parties.{Parties, codes_of, place_from, number_in, on, sides_few}
use Rattle.intake.specs.Filing.{FileDay, filing_side, registered}
use Rattle.intake.specs.declared.fault.RegisterFault.{RegisterFault}
use Rattle.intake.specs.declared.fault.RegisterFault.TheVariants.{NoSuchPeriod}

place_below : (n k : ℕ) (text : List ℕ) (cs : List (List ℕ)) → place_from n text cs ≡ Some k → k < n + length cs
place_below n k text [] e = absurd (let z : ◌≡◌ {A = ℕ} 0 1 = cc in omega arith)
place_below n k text (c ∷ cs) e =
    elim (cases_Bool (same_code c text)) [
      | inl t ↦ (let hit = sym (cond-true (same_code c text) (Some n) (place_from (n + 1) text cs) t) ∙ e in let same : n ≡ k = cc in omega arith)
      | inr t ↦ omega (arith, place_below (n + 1) k text cs (sym (cond-false (same_code c text) (Some n) (place_from (n + 1) text cs) t) ∙ e))
    ]

side_few : (ps : Parties) → sides_few ps ≡ true → (s : Side) → length (on s ps) ≤ 16
side_few ps few Northern = leb-true (length ps.northern) 16 (and_parts (leb (length ps.northern) 16) (leb (length ps.southern) 16) few).0
side_few ps few Southern = leb-true (length ps.southern) 16 (and_parts (leb (length ps.northern) 16) (leb (length ps.southern) 16) few).1

-- a party's number is at most 15, since a side has at most 16 parties
pub number_few : (ps : Parties) → sides_few ps ≡ true → (s : Side) (text : List ℕ) (k : ℕ) → number_in text (on s ps) ≡ Some k → k ≤ 15
number_few ps few s text k e =
    omega (arith, place_below 0 k text (codes_of (on s ps)) e, codes_length (on s ps), side_few ps few s)

pub row_fit : (x : FiledRow) → x.north ≤ 15 → x.south ≤ 15 → x.ns.0 ≤ 9999999 → x.sn.0 ≤ 9999999 → filed_fit x ≡ true
row_fit x north south ns sn = grind (arith, nat_tests)

-- a line of registered parties, the filer among them, is refused where the day has not its period
pub late : (day : FileDay) (filer : List ℕ) (n : ℕ) (kind : FiledKind) (flag : Flag) (d : DetailValues) {a b : ℕ} {s : Side}
    → number_in d.north day.parties.northern ≡ Some a → number_in d.south day.parties.southern ≡ Some b → filing_side filer d ≡ Some s → day.periods < d.period
    → ◌≡◌ {A = Result FiledRow RegisterFault} (Err (NoSuchPeriod n)) (registered day filer n kind flag d)
late day filer n kind flag d north south side past =
    let none : nat_le d.period day.periods ≡ false = grind (arith, nat_tests) in
    rw (north, south, side, none) refl

-- a row of numbers and amounts within the limits stands for an entry
pub stands : {E : Type 0} (row : E → FiledRow) (o : Option E) (x : FiledRow) → option_map row o ≡ checked filed_fit x
    → x.north ≤ 15 → x.south ≤ 15 → x.ns.0 ≤ 9999999 → x.sn.0 ≤ 9999999 → IsSome o
stands row (Some e) x is north south ns sn = search rules
stands row None x is north south ns sn =
    let some : ◌≡◌ {A = Option FiledRow} None (Some x) = is ∙ rw (row_fit x north south ns sn) refl in
    let z : ◌≡◌ {A = ℕ} 0 1 = cc in absurd (omega arith)
