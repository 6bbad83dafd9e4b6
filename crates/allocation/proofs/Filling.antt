-- Arrays of 16 as functions of the place.
use Rattle.std.proofs.Common.{◌≡◌, ℕ, ◌+◌, ◌<◌, ◌≤◌, ◌⊎◌, List, [], length, get_or, set, replicate, sym, refl, ap, ◌∙◌, subst, inl, inr, ⊎_elim, arith}
use Rattle.std.proofs.lemmas.List.{length-replicate, length-set, get_or_past, get_or-replicate, get_or-set_same, get_or-set_other}
use Rattle.std.proofs.lemmas.Bool.{cases_lt, cases_eq}
use Rattle.energy.specs.declared.unit.Kwh.{Kwh}
use Rattle.energy.specs.Grids.{figure_at}
use Rattle.energy.specs.Units.{kwh}
use Rattle.allocation.specs.Told.{grid_at}

-- squares that agree at each place inside, and outside, are equal as functions
pub square_is : {X : Type 0} (f g : ℕ → ℕ → X) → ((i j : ℕ) → i < 16 → j < 16 → g i j ≡ f i j) → ((i j : ℕ) → (16 ≤ i) ⊎ (16 ≤ j) → g i j ≡ f i j) → g ≡ f
square_is {X} f g inside outside =
    let at : (i j : ℕ) → g i j ≡ f i j =
    λ i j. ⊎_elim
    (λ (hi : i < 16). ⊎_elim (λ (hj : j < 16). inside i j hi hj) (λ (hj : 16 ≤ j). outside i j (inr hj)) (cases_lt j 16))
    (λ (hi : 16 ≤ i). outside i j (inl hi))
    (cases_lt i 16) in
    λ t i j. at i j t

-- what holds of a function at each place holds of an equal one
pub pointwise : (P : ℕ → ℕ → ℕ → Type 0) (f g : ℕ → ℕ → ℕ) → f ≡ g → ((i j : ℕ) → P i j (g i j)) → (i j : ℕ) → P i j (f i j)
pointwise P f g e h i j = subst (λ (k : ℕ → ℕ → ℕ). P i j (k i j)) (sym e) (h i j)

-- a row of nothing, and a square of nothing
pub nil_row : (n i : ℕ) → get_or (replicate n (kwh 0)) i (kwh 0) ≡ kwh 0
nil_row n i =
    ⊎_elim (λ (h : i < n). get_or-replicate n i (kwh 0) (kwh 0) h)
    (λ (h : n ≤ i). get_or_past (replicate n (kwh 0)) i (kwh 0) (omega (arith, length-replicate n (kwh 0))))
    (cases_lt i n)

pub nil_square : (i j : ℕ) → grid_at (replicate 16 (replicate 16 (kwh 0))) i j ≡ 0
nil_square i j =
    let row : List Kwh = replicate 16 (kwh 0) in
    ⊎_elim (λ (h : i < 16). ap (λ (r : List Kwh). figure_at r j) (get_or-replicate 16 i row [] h) ∙ ap (λ (x : Kwh). x.0) (nil_row 16 j))
    (λ (h : 16 ≤ i). ap (λ (r : List Kwh). figure_at r j) (get_or_past (replicate 16 row) i [] h)) (cases_lt i 16)

-- the first n of 16 rows hold what is asked of each place, and all rows end at 16
pub record Filled (P : ℕ → ℕ → Kwh → Type 0) (g : List (List Kwh)) (n : ℕ) : Type 0 where
  pub long : length g ≡ 16
  pub inside : (i j : ℕ) → i < n → j < 16 → P i j (kwh (grid_at g i j))
  pub outside : (i j : ℕ) → 16 ≤ j → grid_at g i j ≡ 0

module _ (P : ℕ → ℕ → Kwh → Type 0) where
  pub filled_none : Filled P (replicate 16 (replicate 16 (kwh 0))) 0
  filled_none = record { long = refl; inside = λ i j h hj. absurd (omega arith); outside = λ i j h. nil_square i j }

  pub filled_more : (g : List (List Kwh)) (n : ℕ) (row : List Kwh) → n < 16 → Filled P g n → ((j : ℕ) → j < 16 → P n j (kwh (figure_at row j))) → length row ≡ 16 → Filled P (set g n row) (n + 1)
  filled_more g n row few f here wide =
      let same : get_or (set g n row) n [] ≡ row = get_or-set_same g n row [] (omega (arith, f.long)) in
      let others : (i : ℕ) → (i ≡ n → ⊥) → get_or (set g n row) i [] ≡ get_or g i [] = λ i e. get_or-set_other g n i row [] e in
      record {
        long = length-set g n row ∙ f.long;
        inside = λ i j h hj.
            ⊎_elim
            (λ (e : i ≡ n).
            subst (λ (k : ℕ). P k j (kwh (grid_at (set g n row) k j))) (sym e) (subst (λ (r : List Kwh). P n j (kwh (figure_at r j))) (sym same) (here j hj)))
            (λ (e : i ≡ n → ⊥).
            let before : i < n = ⊎_elim (λ (lt : i < n). lt) (λ (le : n ≤ i). absurd (e (omega arith))) (cases_lt i n) in
            subst (λ (r : List Kwh). P i j (kwh (figure_at r j))) (sym (others i e)) (f.inside i j before hj))
            (cases_eq i n);
        outside = λ i j h.
            ⊎_elim
            (λ (e : i ≡ n).
            subst (λ (k : ℕ). grid_at (set g n row) k j ≡ 0) (sym e) (ap (λ (r : List Kwh). figure_at r j) same ∙ ap (λ (x : Kwh). x.0) (get_or_past row j (kwh 0) (omega arith))))
            (λ (e : i ≡ n → ⊥). ap (λ (r : List Kwh). figure_at r j) (others i e) ∙ f.outside i j h)
            (cases_eq i n);
      }
