-- One line of a file, from the reader to the book.
use Rattle.std.proofs.Common.{◌≡◌, ℕ, ◌<◌, ◌≤◌, ltb, leb, List, length, Ok, Err, Option, Result, refl, ap, ◌∙◌, arith}
use Rattle.std.proofs.lemmas.Bool.{le-ltb, lt-leb, and_left}
use Rattle.book.specs.declared.filed_row.FiledRow.{FiledRow}
use Rattle.nomination.specs.Reading.{line_at, stepped, line_values, said_next}
use Rattle.nomination.specs.Values.{RecordValues}
use Rattle.nomination.specs.declared.fault.TextFault.{TextFault}
use Rattle.intake.specs.Filing.{FileDay, carried, row_said, row_of, row_into}
use Rattle.intake.specs.Noting.{noted, row_from, Followed}
use Rattle.intake.specs.declared.fault.FileFault.{FileFault}
use Rattle.intake.specs.declared.fault.FileFault.TheVariants as file

-- where bytes are left of a text that is not too long, the reader reads the line there
pub said_there : (text : List ℕ) (at n : ℕ) → at < length text → length text ≤ 65536
    → said_next text at n ≡ stepped text at n (line_values n (line_at text at))
said_there text at n more short =
    let long = le-ltb 65536 (length text) short in
    let end = and_left (leb (length text) at) (ltb 1 n) (lt-leb (length text) at more) in
    rw (long, end) refl

module _ (day : FileDay) (filer : List ℕ) (text : List ℕ) (at n : ℕ) where
  stepped_row : (o : Result RecordValues TextFault) → row_from day filer n (stepped text at n o).0 ≡ carried file.Text o (row_said day filer n)
  stepped_row (Ok v) = refl
  stepped_row (Err f) = refl

  -- the row that the reader's answer gives is that of the line at its place
  pub row_there : (x : Result (Option RecordValues) TextFault) (a m : ℕ) → at < length text → length text ≤ 65536
      → ◌≡◌ {A = Result (Option RecordValues) TextFault × ℕ × ℕ} (x, a, m) (said_next text at n)
      → row_from day filer n x ≡ row_of day filer n (line_at text at)
  unfolding row_of
  row_there x a m more short e =
      ap (λ (p : Result (Option RecordValues) TextFault × ℕ × ℕ). row_from day filer n p.0) (e ∙ said_there text at n more short)
      ∙ stepped_row (line_values n (line_at text at))

  -- a line that is taken was read, so the reader stands behind it
  pub followed : (rows after : List FiledRow) (used space : ℕ) (filed : List FiledRow) (o : Result RecordValues TextFault)
      (x : Result (Option RecordValues) TextFault) (a m : ℕ) (r : Result (Unit {0}) FileFault)
      → ◌≡◌ {A = Result (Option RecordValues) TextFault × ℕ × ℕ} (x, a, m) (stepped text at n o)
      → ◌≡◌ {A = List FiledRow × Result (Unit {0}) FileFault} (after, r) (noted rows used (row_into space n filed (row_from day filer n x)))
      → Followed r text at n a m
  followed rows after used space filed o x a m (Err f) e k = tt
  followed rows after used space filed (Ok v) x a m (Ok u) e k =
      (ap (λ (p : Result (Option RecordValues) TextFault × ℕ × ℕ). p.1) e, ap (λ (p : Result (Option RecordValues) TextFault × ℕ × ℕ). p.2) e)
  followed rows after used space filed (Err f) x a m (Ok u) e k =
      let said = ap (λ (p : Result (Option RecordValues) TextFault × ℕ × ℕ). p.0) e in
      let none = ap (λ (y : Result (Option RecordValues) TextFault). (noted rows used (row_into space n filed (row_from day filer n y))).1) said in
      let got = ap (λ (p : List FiledRow × Result (Unit {0}) FileFault). p.1) k in
      absurd (let z : ◌≡◌ {A = ℕ} 0 1 = cc in omega arith)
