-- The kinds of what is filed, as digits.
use Rattle.std.specs.Prelude.{ℕ}
use Rattle.book.specs.declared.filed_row.FiledKind.{FiledKind}
use Rattle.book.specs.declared.filed_row.FiledKind.TheVariants.{Trade, Match}

-- A trade is named by 1, and a match by 2.
abbrev pub kind_digit : FiledKind → ℕ
kind_digit Trade = 49
kind_digit Match = 50
