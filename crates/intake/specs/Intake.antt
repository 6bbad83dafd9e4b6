-- A file handed in to a book.
use Rattle.std.specs.Prelude.{ℕ, ◌-◌, min, List, length, Ok, Err, Result}
use Rattle.book.specs.FiledRows.{filed_most}
use Rattle.book.specs.declared.filed_row.FiledRow.{FiledRow}
use Rattle.calendar.specs.Calendar.{numbered}
use Rattle.calendar.specs.Dates.{calendar_day}
use Rattle.calendar.specs.Periods.{periods_of}
use Rattle.register.specs.Registers.{parties_of}
use Rattle.register.specs.declared.register.Register.{Register}
use Rattle.intake.specs.Filing.{FileDay, take_all_lines}
use Rattle.intake.specs.declared.fault.FileFault.{FileFault}
use Rattle.intake.specs.declared.taken.Taken.{Taken}
use Rattle.intake.specs.declared.terms.FileTerms.{FileTerms}

-- What the program's register and terms stand for.
abbrev pub day_of : Register → FileTerms → FileDay
day_of r t = record { parties = parties_of r; date = numbered (calendar_day t.date); periods = periods_of t.length; files = t.files }

-- A book takes as many rows as it is long, and at most those of filed entries.
abbrev pub space_of : List FiledRow → ℕ
space_of rows = min (length rows) filed_most

abbrev pub taken_of : ℕ → ℕ → Taken
taken_of n k = record { used = n; lines = k }

-- A file is taken whole, with the number of rows then in use and of its lines, or not at all.
abbrev pub whole : List FiledRow → Result (List FiledRow) FileFault → List FiledRow × Result Taken FileFault
whole filed (Ok after) = (after, Ok (taken_of (length after) (length after - length filed)))
whole filed (Err fault) = (filed, Err fault)

abbrev pub handed_in : FileDay → ℕ → List FiledRow → List ℕ → List FiledRow × Result Taken FileFault
handed_in day space filed bytes = whole filed (take_all_lines day space filed bytes)

-- How many rows are in use after a file, where so many were before it.
abbrev pub used_after : ℕ → Result Taken FileFault → ℕ
used_after used (Ok t) = t.used
used_after used (Err fault) = used
