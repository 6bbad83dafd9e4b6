-- A test that every element of a list passes.
use Rattle.std.proofs.Common.{◌≡◌, ℕ, zero, suc, Bool, true, List, [], ◌∷◌, ◌++◌, get_or, set, sym, refl, ap, ◌∙◌}
use Rattle.std.proofs.lemmas.Bool.{and_parts, and_from}
use Rattle.std.proofs.lemmas.List.Folds.{list_all-append}
use Rattle.std.specs.List.{list_all}

module _ {X : Type 0} (p : X → Bool) where
  -- one element is changed by a function whose values pass where its arguments do
  pub pass_change : (f : X → X) → ((x : X) → p x ≡ true → p (f x) ≡ true) → (xs : List X) (i : ℕ) (d y : X) → y ≡ f (get_or xs i d) → list_all p xs ≡ true → list_all p (set xs i y) ≡ true
  pass_change f keeps [] i d y same e = refl
  pass_change f keeps (x ∷ xs) zero d y same e =
      let both = and_parts (p x) (list_all p xs) e in
      and_from (p y) (list_all p xs) (ap p same ∙ keeps x both.0) both.1
  pass_change f keeps (x ∷ xs) (suc i) d y same e =
      let both = and_parts (p x) (list_all p xs) e in
      and_from (p x) (list_all p (set xs i y)) both.0 (pass_change f keeps xs i d y same both.1)

  pub pass_append : (xs ys : List X) → list_all p xs ≡ true → list_all p ys ≡ true → list_all p (xs ++ ys) ≡ true
  pass_append xs ys e k = list_all-append p xs ys ∙ and_from (list_all p xs) (list_all p ys) e k

  pub pass_parts : (xs ys : List X) → list_all p (xs ++ ys) ≡ true → (list_all p xs ≡ true) × (list_all p ys ≡ true)
  pass_parts xs ys e = and_parts (list_all p xs) (list_all p ys) (sym (list_all-append p xs ys) ∙ e)
