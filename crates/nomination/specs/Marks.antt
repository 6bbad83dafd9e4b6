-- The marks that part a text, and where they stand.
use Rattle.std.specs.Prelude.{ℕ, ◌+◌, Bool, cond, not, ◌||◌, List, length, drop, Some, None, Option, ◌==◌, nat_lt}
use Rattle.std.specs.List.{prefix_len}
use Rattle.nomination.specs.declared.mark.Mark.{Mark}
use Rattle.nomination.specs.declared.mark.Mark.TheVariants.{Comma, LineEnd}

-- A comma stands between two fields, and byte 10 ends a line.
abbrev pub mark_byte : Mark → ℕ
mark_byte Comma = 44
mark_byte LineEnd = 10

abbrev pub is_mark : ℕ → Bool
is_mark b = b == 44 || b == 10

-- The first comma or byte 10 at or after a place, where one is left.
abbrev pub first_mark : List ℕ → ℕ → Option ℕ
first_mark text from =
    let at : ℕ = from + prefix_len (λ b. not (is_mark b)) (drop from text) in
    cond (nat_lt at (length text)) (Some at) None

-- The place of the first such byte at or after a place, or the text's end where none is left.
abbrev pub place_of : ℕ → List ℕ → ℕ → ℕ
place_of sep text from = from + prefix_len (λ b. not (b == sep)) (drop from text)
