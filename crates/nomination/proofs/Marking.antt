-- Where marks stand: from one to the next.
use Rattle.std.proofs.Common.{◌≡◌, ℕ, ◌+◌, ◌<◌, ◌≤◌, Bool, true, cond, not, eqb, ltb, List, [], ◌∷◌, length, drop, Some, None, Option, sym, refl, ap, ◌∙◌, inl, inr, one-add, arith, length-drop}
use Rattle.std.proofs.lemmas.List.{drop-drop}
use Rattle.std.proofs.lemmas.List.Sums.{prefix_len-drop_all, prefix_len-le-length}
use Rattle.std.proofs.lemmas.Bool.{cases_Bool}
use Rattle.std.proofs.lemmas.Bool.Decides.{nat_tests}
use Rattle.std.specs.List.{prefix_len}
use Rattle.nomination.specs.Marks.{is_mark, first_mark, place_of, mark_byte}
use Rattle.nomination.specs.declared.mark.Mark.{Mark}
use Rattle.nomination.specs.declared.mark.Mark.TheVariants.{Comma, LineEnd}

-- what passes a narrower test from the front on passes a wider one, which goes on from there
pub leading_over : (p q : ℕ → Bool) → ((b : ℕ) → p b ≡ true → q b ≡ true) → (xs : List ℕ)
    → prefix_len q xs ≡ prefix_len p xs + prefix_len q (drop (prefix_len p xs) xs)
leading_over p q h [] = refl
leading_over p q h (x ∷ xs) =
    elim (cases_Bool (p x)) [
      | inl e ↦ (let k = h x e in let ih = leading_over p q h xs in rw (e, k) (simp one-add (omega arith)))
      | inr e ↦ rw e (omega arith)
    ]

-- no byte that is no mark is one of the marks
no_mark : (mark : Mark) (b : ℕ) → not (is_mark b) ≡ true → not (eqb b (mark_byte mark)) ≡ true
no_mark Comma b e = grind (arith, nat_tests)
no_mark LineEnd b e = grind (arith, nat_tests)

-- what a test that passed or failed tells of a place
pub some_below : (n k m : ℕ) → Some m ≡ cond (ltb n k) (Some n) None → (m ≡ n) × (n < k)
some_below n k m e = (grind (arith, nat_tests), grind (arith, nat_tests))

pub none_below : (n k : ℕ) → ◌≡◌ {A = Option ℕ} None (cond (ltb n k) (Some n) None) → k ≤ n
none_below n k e = grind (arith, nat_tests)

module _ (mark : Mark) (text : List ℕ) (at : ℕ) where
  over : place_of (mark_byte mark) text at ≡ place_of (mark_byte mark) text (at + prefix_len (λ b. not (is_mark b)) (drop at text))
  over =
      let p : ℕ → Bool = λ b. not (is_mark b) in
      let q : ℕ → Bool = λ b. not (eqb b (mark_byte mark)) in
      let e = leading_over p q (no_mark mark) (drop at text) in
      let d = ap (prefix_len q) (drop-drop (prefix_len p (drop at text)) at text) in
      omega arith

  -- from the next mark of either kind on, the place looked for is the same
  pub place_on : (m : ℕ) → Some m ≡ first_mark text at
      → (place_of (mark_byte mark) text at ≡ place_of (mark_byte mark) text m) × (at ≤ m) × (m < length text)
  place_on m e =
      let found = some_below (at + prefix_len (λ b. not (is_mark b)) (drop at text)) (length text) m e in
      let same = ap (place_of (mark_byte mark) text) found.0 in
      (over ∙ sym same, omega arith, omega arith)

  -- where no mark is left, the place is the text's end
  pub place_none : at ≤ length text → None ≡ first_mark text at → place_of (mark_byte mark) text at ≡ length text
  place_none h e =
      let q : ℕ → Bool = λ b. not (eqb b (mark_byte mark)) in
      let p : ℕ → Bool = λ b. not (is_mark b) in
      let past = none_below (at + prefix_len p (drop at text)) (length text) e in
      let all = prefix_len-drop_all q text (at + prefix_len p (drop at text)) past in
      let most = prefix_len-le-length p (drop at text) in
      let o = over in
      let within = simp length-drop at most in
      omega arith
