-- The lines of a text, from one line end to the next.
use Rattle.std.proofs.Common.{◌≡◌, ℕ, ◌+◌, ◌<◌, ◌≤◌, not, eqb, ltb, List, [], ◌∷◌, length, take, drop, refl, add-one, arith, length-drop, length-take}
use Rattle.std.proofs.lemmas.List.{drop-drop}
use Rattle.std.proofs.lemmas.List.Sums.{prefix_len-le-length}
use Rattle.std.proofs.lemmas.Bool.Decides.{nat_tests}
use Rattle.std.specs.List.{prefix_len}
use Rattle.nomination.specs.Lines.{Line, lines_of}
use Rattle.nomination.specs.Marks.{place_of}
use Rattle.nomination.specs.Reading.{line_at}

-- how far it is to the next line end
abbrev reach : List ℕ → ℕ
reach xs = prefix_len (λ b. not (eqb b 10)) xs

abbrev first_line : List ℕ → Line
first_line xs = record { ended = ltb (reach xs) (length xs); bytes = take (reach xs) xs }

-- the first line goes up to the first line end, and the others follow it
lines_first : (xs : List ℕ) → 0 < length xs → lines_of xs ≡ first_line xs ∷ lines_of (drop (reach xs + 1) xs)
unfolding lines_of
lines_first [] h = absurd (omega arith)
lines_first (x ∷ []) h = grind (arith, nat_tests)
lines_first (x ∷ y ∷ ys) h = grind (arith, nat_tests, lines_first (y ∷ ys) (omega arith), add-one)

pub lines_none : lines_of [] ≡ []
unfolding lines_of
lines_none = refl

-- where bytes are left, there is a line more
pub lines_more : (text : List ℕ) (at : ℕ) → at < length text
    → lines_of (drop at text) ≡ line_at text at ∷ lines_of (drop (place_of 10 text at + 1) text)
lines_more text at h =
    let more = lines_first (drop at text) in
    grind (arith, nat_tests, more, drop-drop {A = ℕ}, length-drop {A = ℕ})

-- a line goes up to its end
pub line_reaches : (text : List ℕ) (at : ℕ) → at ≤ length text → at + length (line_at text at).bytes ≡ place_of 10 text at
line_reaches text at h = grind (arith, prefix_len-le-length (λ (b : ℕ). not (eqb b 10)) (drop at text), length-take {A = ℕ}, length-drop {A = ℕ})
