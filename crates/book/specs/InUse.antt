-- The rows in use.
use Rattle.std.specs.Prelude.{List, take}
use Rattle.book.specs.declared.held.Book.{Book}

-- A book's rows in use are the first of those that a caller lends.
abbrev pub in_use : {R : Type 0} → Book R → List R
in_use book = take book.used book.rows.now
