-- Why a book does not take an entry.
use Rattle.book.specs.declared.fault.BookFull.{BookFull}
use Rattle.book.specs.declared.fault.NotInUse.{NotInUse}

-- There is no space for one more entry.
abbrev pub no_space : BookFull
no_space = record {}

-- There is no such row in use.
abbrev pub not_there : NotInUse
not_there = record {}
