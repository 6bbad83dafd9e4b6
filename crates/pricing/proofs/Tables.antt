-- The makeup factor table, computed from its bands.
use Rattle.std.proofs.Common.{◌≡◌, ℕ, ◌+◌, ◌-◌, ◌<◌, Bool, true, ◌&&◌, ltb, List, [], map, get_or, refl, ap, ◌∙◌, arith}
use Rattle.std.specs.List.{list_all, range_with_len}
use Rattle.std.proofs.lemmas.Bool.{and_parts, ltb-true}
use Rattle.std.proofs.lemmas.List.Elements.{All-get_or}
use Rattle.std.proofs.lemmas.List.FromFn.{get_or-map-range_with_len, length-map-range_with_len}
use Rattle.std.proofs.lemmas.List.Sums.{AllPass-from_list_all}
use Rattle.calendar.specs.declared.column.FactorColumn.{FactorColumn}
use Rattle.calendar.specs.declared.column.FactorColumn.TheVariants.{MaySeptemberWorkday, AprilOctoberWorkday, OtherSummerDay, WinterPeakWorkday, OtherWinterWorkday, OtherWinterDay}
use Rattle.pricing.specs.Factors.{bands, factors_at, place_in, factor_of}
use Rattle.pricing.specs.Theorems.{FactorRange}

-- the table that the bands make
abbrev pub tabulated : List (List ℕ)
tabulated = map (factors_at bands) (range_with_len 1 48)

-- what it has at a place and a line is the factor at the column with that place and the row that is one more
pub tabulated_at : (i n j : ℕ) (kind : FactorColumn) → i < 48 → 1 + i ≡ n → j ≡ place_in kind → get_or (get_or tabulated i []) j 0 ≡ factor_of kind n
tabulated_at i n j kind h e f =
    ap (λ (line : List ℕ). get_or line j 0) (get_or-map-range_with_len (factors_at bands) 1 48 i n [] h e)
    ∙ ap (λ (k : ℕ). get_or (factors_at bands n) k 0) f

-- a factor is in range
abbrev in_range : ℕ → Bool
in_range factor = ltb 9 factor && ltb factor 16

-- the factors of a column, row by row
abbrev column : FactorColumn → List ℕ
column kind = map (factor_of kind) (range_with_len 1 48)

tested : (kind : FactorColumn) → list_all in_range (column kind) ≡ true
tested MaySeptemberWorkday = refl
tested AprilOctoberWorkday = refl
tested OtherSummerDay = refl
tested WinterPeakWorkday = refl
tested OtherWinterWorkday = refl
tested OtherWinterDay = refl

pub factor_range : FactorRange
factor_range kind n first last =
    let factor = get_or (column kind) (n - 1) 0 in
    let same = get_or-map-range_with_len (factor_of kind) 1 48 (n - 1) n 0 (omega arith) (omega arith) in
    let each = AllPass-from_list_all in_range (column kind) (tested kind) in
    let passes = All-get_or (λ f. in_range f ≡ true) (column kind) (n - 1) 0 (omega (arith, length-map-range_with_len (factor_of kind) 1 48)) each in
    let tests = and_parts (ltb 9 factor) (ltb factor 16) passes in
    (omega (arith, same, ltb-true 9 factor tests.0), omega (arith, same, ltb-true factor 16 tests.1))
