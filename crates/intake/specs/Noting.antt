-- A line's row behind the rows in use.
use Rattle.std.specs.Prelude.{◌≡◌, ℕ, ◌+◌, ◌≤◌, cond, List, length, Some, None, Ok, Err, Option, Result, nat_lt, slice_set}
use Rattle.book.specs.declared.filed_row.FiledRow.{FiledRow}
use Rattle.nomination.specs.Marks.{place_of}
use Rattle.nomination.specs.Reading.{line_at}
use Rattle.nomination.specs.Values.{RecordValues}
use Rattle.nomination.specs.declared.fault.TextFault.{TextFault}
use Rattle.nomination.specs.declared.fault.TextFault.TheVariants as text
use Rattle.intake.specs.Filing.{FileDay, filer_said, filer_of, row_said}
use Rattle.intake.specs.declared.fault.FileFault.{FileFault}
use Rattle.intake.specs.declared.fault.FileFault.TheVariants as file

-- A row that is granted is written behind the rows in use, and a fault leaves all rows as they are.
abbrev pub noted : {F : Type 0} → List FiledRow → ℕ → Result FiledRow F → List FiledRow × Result (Unit {0}) F
noted rows used (Ok row) = (slice_set rows used row, Ok tt)
noted rows used (Err fault) = (rows, Err fault)

-- A row that is granted is one more in use.
abbrev pub grown : {F : Type 0} → ℕ → Result (Unit {0}) F → ℕ
grown used (Ok x) = used + 1
grown used (Err fault) = used

-- The row that line n files, from what the reader answers there; where there is no line, it is bad.
abbrev pub row_from : FileDay → List ℕ → ℕ → Result (Option RecordValues) TextFault → Result FiledRow FileFault
row_from day filer n (Ok (Some v)) = row_said day filer n v
row_from day filer n (Ok None) = Err (file.Text (text.BadLine n))
row_from day filer n (Err fault) = Err (file.Text fault)

-- After a line that is taken the reader stands behind it.
abbrev pub Followed : {X F : Type 0} → Result X F → List ℕ → ℕ → ℕ → ℕ → ℕ → Type 0
Followed (Ok x) bytes at n at' n' = (at' ≡ place_of 10 bytes at + 1) × (n' ≡ n + 1)
Followed (Err fault) bytes at n at' n' = Unit {0}

-- The party that files a text, from what the reader answers at line 1.
abbrev pub filer_from : FileDay → Result (Option RecordValues) TextFault → Result (List ℕ) FileFault
filer_from day (Ok (Some v)) = filer_said day v
filer_from day (Ok None) = Err (file.Text (text.BadLine 1))
filer_from day (Err fault) = Err (file.Text fault)

-- The party that files a text of at most 65,536 bytes, by its first line.
abbrev pub head_of : FileDay → List ℕ → Result (List ℕ) FileFault
head_of day bytes = cond (nat_lt 65536 (length bytes)) (Err (file.Text text.TooLong)) (filer_of day (line_at bytes 0))

-- A header that is granted stands in a text that is not too long.
abbrev pub ShortEnough : {X F : Type 0} → Result X F → List ℕ → Type 0
ShortEnough (Ok x) bytes = length bytes ≤ 65536
ShortEnough (Err fault) bytes = Unit {0}
