-- Arrays that a closure makes place by place, where a call leaves the closure as it was.
use Rattle.std.proofs.Common.{◌≡◌, ℕ, zero, suc, ◌+◌, ◌<◌, ◌≤◌, List, length, get_or, sym, ap, ◌∙◌, subst, ⊎_elim, arith}
use Rattle.std.proofs.lemmas.Bool.{cases_lt}
use Rattle.std.proofs.lemmas.List.{get_or_past}
use Rattle.energy.specs.declared.unit.Kwh.{Kwh}
use Rattle.energy.specs.Grids.{figure_at}
use Rattle.energy.specs.Units.{kwh}
use Rattle.std.specs.Array.{IsFromFnResult, IsFromFnResultFrom, IsMapOf, MapsFrom}
use Rattle.std.specs.Fn.{Mut, Called}

-- what holds of each call's answer holds at each place of what `from_fn` makes
module _ {F B : Type 0} {g : Mut F (ℕ × Unit {0}) B} {f : F} (P : ℕ → B → Type 0) (call : (i : ℕ) (y : B) (q : F) → Called g f (i, tt) y q → P i y × (q ≡ f)) where
  made_from : (ys : List B) (i n k m : ℕ) (e : B) → IsFromFnResultFrom g f ys i n → k < n → i + k ≡ m → P m (get_or ys m e)
  made_from ys i zero k m e y h j = absurd (omega arith)
  made_from ys i (suc n) zero m e y h j =
      let at : i ≡ m = omega arith in
      subst (λ (v : ℕ). P v (get_or ys v e)) at (subst (P i) (sym (y.2.1 e)) (call i y.1 y.0 y.3).0)
  made_from ys i (suc n) (suc k) m e y h j =
      made_from ys (i + 1) n k m e (subst (λ (q : F). IsFromFnResultFrom g q ys (i + 1) n) (call i y.1 y.0 y.3).1 y.4) (omega arith) (omega arith)

pub made_at : {F B : Type 0} {g : Mut F (ℕ × Unit {0}) B} {f : F} {ys : List B} {n : ℕ} → IsFromFnResult g f ys n → (P : ℕ → B → Type 0) → ((i : ℕ) (y : B) (q : F) → Called g f (i, tt) y q → P i y × (q ≡ f)) → (k : ℕ) (e : B) → k < n → P k (get_or ys k e)
made_at {ys = ys} {n = n} made P call k e h = made_from P call ys 0 n k k e made.each h (omega arith)

-- and at each place of what `map` makes of an array
module _ {F A B : Type 0} {g : Mut F (A × Unit {0}) B} {f : F} (P : A → B → Type 0) (call : (x : A) (y : B) (q : F) → Called g f (x, tt) y q → P x y × (q ≡ f)) where
  mapped_from : (xs : List A) (ys : List B) (i n k m : ℕ) (d : A) (e : B) → MapsFrom g f xs ys i n → k < n → i + k ≡ m → P (get_or xs m d) (get_or ys m e)
  mapped_from xs ys i zero k m d e y h j = absurd (omega arith)
  mapped_from xs ys i (suc n) zero m d e y h j =
      let at : i ≡ m = omega arith in
      subst (λ (v : ℕ). P (get_or xs v d) (get_or ys v e)) at
      (subst (λ (x : A). P x (get_or ys i e)) (sym (y.3.1 d)) (subst (P y.1) (sym (y.4.1 e)) (call y.1 y.2 y.0 y.5).0))
  mapped_from xs ys i (suc n) (suc k) m d e y h j =
      mapped_from xs ys (i + 1) n k m d e (subst (λ (q : F). MapsFrom g q xs ys (i + 1) n) (call y.1 y.2 y.0 y.5).1 y.6) (omega arith) (omega arith)

-- a row made by `map`, as a function of the place: nil outside
pub row_mapped : {F A : Type 0} {g : Mut F (A × Unit {0}) Kwh} {f : F} {xs : List A} {ys : List Kwh} {n : ℕ} → IsMapOf g f xs ys n → (figure : A → ℕ) → ((x : A) (y : Kwh) (q : F) → Called g f (x, tt) y q → (y.0 ≡ figure x) × (q ≡ f)) → (d : A) → figure d ≡ 0 → length xs ≡ n → figure_at ys ≡ (λ i. figure (get_or xs i d))
row_mapped {A = A} {xs = xs} {ys = ys} {n = n} made figure call d none long =
    let at : (k : ℕ) → figure_at ys k ≡ figure (get_or xs k d) =
    λ k. ⊎_elim (λ (h : k < n). mapped_from (λ (x : A) (e : Kwh). e.0 ≡ figure x) call xs ys 0 n k k d (kwh 0) made.each h (omega arith))
    (λ (h : n ≤ k).
    ap (λ (e : Kwh). e.0) (get_or_past ys k (kwh 0) (omega (arith, made.long)))
    ∙ sym (ap figure (get_or_past xs k d (omega arith)) ∙ none))
    (cases_lt k n) in
    λ i k. at k i
