-- The questions that a nomination file is asked.
use Rattle.std.specs.Prelude.{ℕ, ◌+◌, false, cond, List, [], ◌∷◌, ◌++◌, length, drop, is_some, Some, None, Ok, Err, Option, Result, ◌==◌, nat_le, nat_lt, slice_index_or}
use Rattle.book.specs.Books.{place_under}
use Rattle.book.specs.FiledRows.{filed_fit, filed_key, filed_under}
use Rattle.book.specs.declared.filed_row.FiledKind.{FiledKind}
use Rattle.book.specs.declared.filed_row.FiledKind.TheVariants.{Trade, Match}
use Rattle.book.specs.declared.filed_row.FiledRow.{FiledRow}
use Rattle.energy.specs.Codes.{same_code}
use Rattle.book.specs.declared.filed_row.Flag.{Flag}
use Rattle.book.specs.declared.filed_row.Flag.TheVariants.{Brown}
use Rattle.energy.specs.declared.side.Side.{Side}
use Rattle.energy.specs.declared.side.Side.TheVariants.{Northern, Southern}
use Rattle.nomination.specs.Lines.{Line, lines_of}
use Rattle.nomination.specs.Reading.{line_values}
use Rattle.nomination.specs.Values.{HeaderValues, DetailValues, RecordValues, heading, trading, matching, onward}
use Rattle.nomination.specs.declared.fault.TextFault.TheVariants as text
use Rattle.register.specs.Parties.{Parties, number_in, found}
use Rattle.intake.specs.declared.fault.BookFault.{BookFault}
use Rattle.intake.specs.declared.fault.BookFault.TheVariants.{FilesFull, KnownKey, BookFull}
use Rattle.intake.specs.declared.fault.FileFault.{FileFault}
use Rattle.intake.specs.declared.fault.FileFault.TheVariants as file
use Rattle.intake.specs.declared.fault.RegisterFault.{RegisterFault}
use Rattle.intake.specs.declared.fault.RegisterFault.TheVariants.{UnknownFiler, OtherDate, UnknownNorth, UnknownSouth, AbsentFiler, NoSuchPeriod}

-- What a file is asked against: the day's parties, its date as YYYYMMDD, its number of periods, and the number of files taken.
pub record FileDay : Type 0 where
  pub parties : Parties
  pub date : ℕ
  pub periods : ℕ
  pub files : ℕ

-- What a layer grants goes on to the next question, and its fault is carried up whole.
abbrev pub carried : {X Y E F : Type 0} → (E → F) → Result X E → (X → Result Y F) → Result Y F
carried wrap (Ok x) next = next x
carried wrap (Err e) next = Err (wrap e)

-- What is there goes on to the next question, and what is not there is a fault.
abbrev pub asked : {X Y E : Type 0} → Option X → E → (X → Result Y E) → Result Y E
asked (Some x) fault next = next x
asked None fault next = Err fault

-- A header names a registered party and the day's date, and the day takes one more of 31,968 files; its filer files the lines.
abbrev pub header_asked : FileDay → HeaderValues → Result (List ℕ) FileFault
header_asked day h =
    cond (is_some (found h.filer day.parties)) (
    cond (h.date == day.date) (
    cond (nat_lt day.files 31968) (Ok h.filer)
    (Err (file.Book FilesFull))) (Err (file.Register OtherDate))) (Err (file.Register UnknownFiler))

-- Line 1 is a header and no other record.
abbrev pub filer_said : FileDay → RecordValues → Result (List ℕ) FileFault
filer_said day (heading h) = header_asked day h
filer_said day (trading d flag) = Err (file.Text (text.BadLine 1))
filer_said day (matching d) = Err (file.Text (text.BadLine 1))

abbrev pub filer_of : FileDay → Line → Result (List ℕ) FileFault
filer_of day l = carried file.Text (line_values 1 l) (filer_said day)

-- The party that files a line files as the Northern party, as the Southern party, or is neither.
abbrev pub filing_side : List ℕ → DetailValues → Option Side
filing_side filer d = cond (same_code filer d.north) (Some Northern) (cond (same_code filer d.south) (Some Southern) None)

abbrev pub filed_row : Side → FiledKind → DetailValues → ℕ → ℕ → Flag → FiledRow
filed_row s k d a b f =
    record { filer = s; kind = k; period = d.period; north = a; south = b; ns = d.ns; sn = d.sn; flag = f }

-- A detail line names a Northern and a Southern party, the filer is one of the two, and the day has the period.
abbrev pub registered : FileDay → List ℕ → ℕ → FiledKind → Flag → DetailValues → Result FiledRow RegisterFault
registered day filer n kind flag d =
    asked (number_in d.north day.parties.northern) (UnknownNorth n) (λ a.
    asked (number_in d.south day.parties.southern) (UnknownSouth n) (λ b.
    asked (filing_side filer d) (AbsentFiler n) (λ s.
    cond (nat_le d.period day.periods) (Ok (filed_row s kind d a b flag)) (Err (NoSuchPeriod n)))))

-- A trade is filed with its flag, a match as brown; a later line is no header.
abbrev pub row_said : FileDay → List ℕ → ℕ → RecordValues → Result FiledRow FileFault
row_said day filer n (heading h) = Err (file.Text (text.BadLine n))
row_said day filer n (trading d flag) = carried file.Register (registered day filer n Trade flag d) (λ row. Ok row)
row_said day filer n (matching d) = carried file.Register (registered day filer n Match Brown d) (λ row. Ok row)

-- The row that a detail line files.
unfoldable pub row_of : FileDay → List ℕ → ℕ → Line → Result FiledRow FileFault
row_of day filer n l = carried file.Text (line_values n l) (row_said day filer n)

-- An entry is the first under its key, among the rows in use, and there is space for it.
abbrev pub admitted : ℕ → ℕ → List FiledRow → FiledRow → Result FiledRow BookFault
admitted space n filed row =
    cond (is_some (place_under filed_fit filed_under (filed_key row) filed)) (Err (KnownKey n))
    (cond (nat_lt (length filed) space) (Ok row) (Err (BookFull n)))

-- The row of a line goes on to the book.
abbrev pub row_into : ℕ → ℕ → List FiledRow → Result FiledRow FileFault → Result FiledRow FileFault
row_into space n filed o = onward o (λ row. carried file.Book (admitted space n filed row) (λ x. Ok x))

-- The row that line n adds to the rows in use: the text is asked first, then the register, then the book.
unfoldable pub line_into : FileDay → List ℕ → ℕ → ℕ → List FiledRow → Line → Result FiledRow FileFault
line_into day filer space n filed l = row_into space n filed (row_of day filer n l)

-- The rows in use after detail lines from line n on: each line finds those of the lines before it.
unfoldable pub take_lines : FileDay → List ℕ → ℕ → ℕ → List FiledRow → List Line → Result (List FiledRow) FileFault
take_lines day filer space n filed [] = Ok filed
take_lines day filer space n filed (l ∷ ls) =
    onward (line_into day filer space n filed l) (λ row. take_lines day filer space (n + 1) (filed ++ (row ∷ [])) ls)

-- The first line of a text; a text without a line has one that is not ended.
abbrev pub first_of : List Line → Line
first_of ls = slice_index_or ls 0 (record { ended = false; bytes = [] })

-- The rows in use after a whole file: a text has at most 65,536 bytes, its first line is its header.
abbrev pub take_all_lines : FileDay → ℕ → List FiledRow → List ℕ → Result (List FiledRow) FileFault
take_all_lines day space filed bytes =
    cond (nat_lt 65536 (length bytes)) (Err (file.Text text.TooLong))
    (onward (filer_of day (first_of (lines_of bytes))) (λ filer. take_lines day filer space 2 filed (drop 1 (lines_of bytes))))
