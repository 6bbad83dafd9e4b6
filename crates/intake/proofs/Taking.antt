-- The lines of a file, one after the other.
use Rattle.std.proofs.Common.{◌≡◌, ℕ, ◌+◌, ◌<◌, ◌≤◌, Bool, true, false, cond, ltb, List, [], ◌∷◌, ◌++◌, length, take, drop, set, is_some, Ok, Err, Result, sym, refl, ap, ◌∙◌, arith, length-set}
use Rattle.std.proofs.lemmas.List.{at_drop_all, take_more_set, take-set-le, length-take-le}
use Rattle.std.proofs.lemmas.Bool.{ltb-true}
use Rattle.book.specs.Books.{place_under}
use Rattle.book.specs.FiledRows.{filed_fit, filed_key, filed_under}
use Rattle.book.specs.declared.filed_row.FiledRow.{FiledRow}
use Rattle.nomination.proofs.Lining.{lines_none, lines_more}
use Rattle.nomination.specs.Lines.{Line, lines_of}
use Rattle.nomination.specs.Marks.{place_of}
use Rattle.nomination.specs.Reading.{line_at}
use Rattle.intake.specs.Filing.{FileDay, carried, row_of, row_into, line_into, take_lines}
use Rattle.intake.specs.Noting.{noted}
use Rattle.intake.specs.declared.fault.BookFault.TheVariants.{KnownKey, BookFull}
use Rattle.intake.specs.declared.fault.FileFault.{FileFault}
use Rattle.intake.specs.declared.fault.FileFault.TheVariants as file

-- a row that is written was granted, and a fault wrote nothing
pub noted_ok : (rows after : List FiledRow) (used : ℕ) (o : Result FiledRow FileFault)
    → ◌≡◌ {A = List FiledRow × Result (Unit {0}) FileFault} (after, Ok tt) (noted rows used o)
    → (row : FiledRow) × ((o ≡ Ok row) × (after ≡ set rows used row))
noted_ok rows after used (Ok row) e = (row, (refl, ap (λ (p : List FiledRow × Result (Unit {0}) FileFault). p.0) e))
noted_ok rows after used (Err f) e =
    let q = ap (λ (p : List FiledRow × Result (Unit {0}) FileFault). p.1) e in absurd (let z : ◌≡◌ {A = ℕ} 0 1 = cc in omega arith)

pub noted_err : (rows after : List FiledRow) (used : ℕ) (o : Result FiledRow FileFault) (f : FileFault)
    → ◌≡◌ {A = List FiledRow × Result (Unit {0}) FileFault} (after, Err f) (noted rows used o) → (o ≡ Err f) × (after ≡ rows)
noted_err rows after used (Ok row) f e =
    let q = ap (λ (p : List FiledRow × Result (Unit {0}) FileFault). p.1) e in absurd (let z : ◌≡◌ {A = ℕ} 0 1 = cc in omega arith)
noted_err rows after used (Err g) f e =
    let q = ap (λ (p : List FiledRow × Result (Unit {0}) FileFault). p.1) e in
    (cc, ap (λ (p : List FiledRow × Result (Unit {0}) FileFault). p.0) e)

-- a row that the book admits has space
room : (space n : ℕ) (filed : List FiledRow) (row x : FiledRow) (known free : Bool)
    → carried file.Book (cond known (Err (KnownKey n)) (cond free (Ok row) (Err (BookFull n)))) (λ y. Ok y) ≡ Ok x → free ≡ true
room space n filed row x true free e = absurd (let z : ◌≡◌ {A = ℕ} 0 1 = cc in omega arith)
room space n filed row x false true e = refl
room space n filed row x false false e = absurd (let z : ◌≡◌ {A = ℕ} 0 1 = cc in omega arith)

into_room : (space n : ℕ) (filed : List FiledRow) (o : Result FiledRow FileFault) (x : FiledRow) → row_into space n filed o ≡ Ok x → length filed < space
into_room space n filed (Ok row) x e =
    ltb-true (length filed) space
    (room space n filed row x (is_some (place_under filed_fit filed_under (filed_key row) filed)) (ltb (length filed) space) e)
into_room space n filed (Err f) x e = absurd (let z : ◌≡◌ {A = ℕ} 0 1 = cc in omega arith)

module _ (day : FileDay) (filer : List ℕ) (space n : ℕ) (filed : List FiledRow) where
  pub line_room : (l : Line) (row : FiledRow) → line_into day filer space n filed l ≡ Ok row → length filed < space
  unfolding line_into
  line_room l row e = into_room space n filed (row_of day filer n l) row e

  takes_more : (l : Line) (ls : List Line) (row : FiledRow) → line_into day filer space n filed l ≡ Ok row
      → take_lines day filer space n filed (l ∷ ls) ≡ take_lines day filer space (n + 1) (filed ++ (row ∷ [])) ls
  unfolding take_lines
  takes_more l ls row e = rw e refl

  takes_err : (l : Line) (ls : List Line) (f : FileFault) → line_into day filer space n filed l ≡ Err f
      → take_lines day filer space n filed (l ∷ ls) ≡ Err f
  unfolding take_lines
  takes_err l ls f e = rw e refl

  takes_none : take_lines day filer space n filed [] ≡ Ok filed
  unfolding take_lines
  takes_none = refl

  -- a line with a fault stops the file
  pub takes_stop : (text : List ℕ) (at : ℕ) (f : FileFault) → at < length text → line_into day filer space n filed (line_at text at) ≡ Err f
      → take_lines day filer space n filed (lines_of (drop at text)) ≡ Err f
  takes_stop text at f more e =
      ap (take_lines day filer space n filed) (lines_more text at more)
      ∙ takes_err (line_at text at) (lines_of (drop (place_of 10 text at + 1) text)) f e

  -- where nothing is left, the rows in use are those of all lines
  pub takes_all : (text : List ℕ) (at : ℕ) → length text ≤ at → take_lines day filer space n filed (lines_of (drop at text)) ≡ Ok filed
  takes_all text at h =
      ap (take_lines day filer space n filed) (at_drop_all lines_of text at h ∙ lines_none) ∙ takes_none

-- a line that is taken stands behind the rows in use, and the next line finds it
pub step_taken : (day : FileDay) (filer : List ℕ) (space n : ℕ) (rows after : List FiledRow) (used at : ℕ) (text : List ℕ) (pos : ℕ)
    → used ≤ at → at ≤ length rows → space ≤ length rows → pos < length text
    → ◌≡◌ {A = List FiledRow × Result (Unit {0}) FileFault} (after, Ok tt) (noted rows at (line_into day filer space n (take at rows) (line_at text pos)))
    → (at < length rows) × (length after ≡ length rows) × (take used after ≡ take used rows)
    × (take_lines day filer space n (take at rows) (lines_of (drop pos text))
    ≡ take_lines day filer space (n + 1) (take (at + 1) after) (lines_of (drop (place_of 10 text pos + 1) text)))
step_taken day filer space n rows after used at text pos low high wide more e =
    let got = noted_ok rows after at (line_into day filer space n (take at rows) (line_at text pos)) e in
    let row : FiledRow = got.0 in
    let free = line_room day filer space n (take at rows) (line_at text pos) row got.1.0 in
    let long = length-take-le at rows high in
    let within : at < length rows = omega arith in
    let next = takes_more day filer space n (take at rows) (line_at text pos) (lines_of (drop (place_of 10 text pos + 1) text)) row got.1.0 in
    let grown = take_more_set rows at row within in
    let same = ap (take (at + 1)) got.1.1 in (
      within,
      ap length got.1.1 ∙ simp length-set,
      ap (take used) got.1.1 ∙ take-set-le used rows at row low,
      ap (take_lines day filer space n (take at rows)) (lines_more text pos more) ∙ next
          ∙ ap (λ (fs : List FiledRow). take_lines day filer space (n + 1) fs (lines_of (drop (place_of 10 text pos + 1) text))) (sym (same ∙ grown)),
    )
