-- Fields and lines that hold no mark are found again.
use Rattle.std.proofs.Common.{◌≡◌, ℕ, Bool, true, false, not, ◌&&◌, eqb, List, [], ◌∷◌, ◌++◌, length, refl, ap, ◌∙◌, one-add, arith}
use Rattle.std.proofs.lemmas.Bool.{and_parts, and_from}
use Rattle.std.proofs.lemmas.Bool.Decides.{nat_tests}
use Rattle.std.specs.List.{prefix_len}
use Rattle.nomination.specs.Lines.{fields_of}
use Rattle.nomination.specs.Texts.{parted}

-- no byte of a text is this one
abbrev pub free : ℕ → List ℕ → Bool
free sep [] = true
free sep (x ∷ xs) = not (eqb x sep) && free sep xs

abbrev pub all_free : ℕ → List (List ℕ) → Bool
all_free sep [] = true
all_free sep (f ∷ fs) = free sep f && all_free sep fs

pub not_true : (b : Bool) → not b ≡ true → b ≡ false
not_true false e = refl
not_true true e = absurd (let z : ◌≡◌ {A = ℕ} 0 1 = cc in omega arith)

pub free_append : (sep : ℕ) (xs ys : List ℕ) → free sep xs ≡ true → free sep ys ≡ true → free sep (xs ++ ys) ≡ true
free_append sep [] ys e f = f
free_append sep (x ∷ xs) ys e f =
    let p = and_parts (not (eqb x sep)) (free sep xs) e in
    and_from (not (eqb x sep)) (free sep (xs ++ ys)) p.0 (free_append sep xs ys p.1 f)

-- a text goes up to the first such byte behind it
pub leading_free : (sep : ℕ) (xs rest : List ℕ) → free sep xs ≡ true → prefix_len (λ b. not (eqb b sep)) (xs ++ (sep ∷ rest)) ≡ length xs
leading_free sep [] rest e = let same : eqb sep sep ≡ true = grind (arith, nat_tests) in rw same refl
leading_free sep (x ∷ xs) rest e =
    let p = and_parts (not (eqb x sep)) (free sep xs) e in
    let ih = leading_free sep xs rest p.1 in
    rw (p.0, ih) (simp one-add)

-- a field before a comma is found again
field_before : (f rest : List ℕ) → free 44 f ≡ true → fields_of (f ++ (44 ∷ rest)) ≡ f ∷ fields_of rest
unfolding fields_of
field_before [] rest e = refl
field_before (x ∷ xs) rest e =
    let p = and_parts (not (eqb x 44)) (free 44 xs) e in
    let no = not_true (eqb x 44) p.0 in
    let ih = field_before xs rest p.1 in
    rw (no, ih) refl

field_last : (f : List ℕ) → free 44 f ≡ true → fields_of f ≡ f ∷ []
unfolding fields_of
field_last [] e = refl
field_last (x ∷ xs) e =
    let p = and_parts (not (eqb x 44)) (free 44 xs) e in
    let no = not_true (eqb x 44) p.0 in
    let ih = field_last xs p.1 in
    rw (no, ih) refl

-- fields with commas between them are found again
pub fields_back : (f : List ℕ) (fs : List (List ℕ)) → all_free 44 (f ∷ fs) ≡ true → fields_of (parted (f ∷ fs)) ≡ f ∷ fs
fields_back f [] e = field_last f (and_parts (free 44 f) true e).0
fields_back f (g ∷ fs) e =
    let p = and_parts (free 44 f) (all_free 44 (g ∷ fs)) e in
    field_before f (parted (g ∷ fs)) p.0 ∙ ap (λ (r : List (List ℕ)). f ∷ r) (fields_back g fs p.1)

-- a comma is no line end
pub parted_free : (fs : List (List ℕ)) → all_free 10 fs ≡ true → free 10 (parted fs) ≡ true
parted_free [] e = refl
parted_free (f ∷ []) e = (and_parts (free 10 f) true e).0
parted_free (f ∷ g ∷ fs) e =
    let p = and_parts (free 10 f) (all_free 10 (g ∷ fs)) e in
    free_append 10 f (44 ∷ parted (g ∷ fs)) p.0 (parted_free (g ∷ fs) p.1)
