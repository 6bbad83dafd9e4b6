-- The loop over the lines of a file: a turn, a fault and the end.
use Rattle.std.proofs.Common.{◌≡◌, ℕ, ◌+◌, ◌-◌, ◌<◌, ◌≤◌, min, List, length, take, drop, Ok, Err, Result, sym, ap, ◌∙◌, arith}
use Rattle.std.proofs.lemmas.List.{length-take-le}
use Rattle.book.specs.declared.filed_row.FiledRow.{FiledRow}
use Rattle.nomination.specs.Lines.{lines_of}
use Rattle.nomination.specs.Marks.{place_of}
use Rattle.nomination.specs.Reading.{line_at}
use Rattle.intake.proofs.Taking.{noted_err, takes_stop, takes_all, step_taken}
use Rattle.intake.specs.Filing.{FileDay, line_into, take_lines}
use Rattle.intake.specs.Intake.{space_of, taken_of, whole}
use Rattle.intake.specs.Noting.{noted}
use Rattle.intake.specs.declared.fault.FileFault.{FileFault}
use Rattle.intake.specs.declared.taken.Taken.{Taken}

-- what a call answers, and the rows in use then
abbrev refused : List FiledRow → FileFault → List FiledRow × Result Taken FileFault
refused rows f = (rows, Err f)

abbrev granted : List FiledRow → ℕ → ℕ → List FiledRow × Result Taken FileFault
granted rows n k = (rows, Ok (taken_of n k))

module _ (day : FileDay) (filer : List ℕ) (rows0 rows : List FiledRow) (used at : ℕ) (text bytes : List ℕ) (pos n : ℕ)
    (goal : Result (List FiledRow) FileFault) (low : used ≤ at) (high : at ≤ length rows) (long : length rows ≡ length rows0)
    (kept : take used rows ≡ take used rows0) (same : bytes ≡ text)
    (so_far : take_lines day filer (space_of rows0) n (take at rows) (lines_of (drop pos text)) ≡ goal) where
  -- the line at hand, by the space and the text that the loop began with
  line_same : line_into day filer (space_of rows) n (take at rows) (line_at bytes pos) ≡ line_into day filer (space_of rows0) n (take at rows) (line_at text pos)
  line_same =
      ap (λ (k : ℕ). line_into day filer (min k 4096) n (take at rows) (line_at bytes pos)) long
      ∙ ap (λ (t : List ℕ). line_into day filer (space_of rows0) n (take at rows) (line_at t pos)) same

  pub turn : (after : List FiledRow) (at' pos' n' : ℕ) → pos < length text
      → ◌≡◌ {A = List FiledRow × Result (Unit {0}) FileFault} (after, Ok tt) (noted rows at (line_into day filer (space_of rows) n (take at rows) (line_at bytes pos)))
      → at' ≡ at + 1 → pos' ≡ place_of 10 bytes pos + 1 → n' ≡ n + 1
      → (used ≤ at') × (length after ≡ length rows0) × (take used after ≡ take used rows0)
      × (take_lines day filer (space_of rows0) n' (take at' after) (lines_of (drop pos' text)) ≡ goal)
  turn after at' pos' n' more e one p q =
      let s = step_taken day filer (space_of rows0) n rows after used at text pos low high (omega arith) more (e ∙ ap (noted rows at) line_same) in
      let there = p ∙ ap (λ (t : List ℕ). place_of 10 t pos + 1) same in (
        omega arith,
        omega arith,
        s.2 ∙ kept,
        ap (λ (k : ℕ). take_lines day filer (space_of rows0) n' (take k after) (lines_of (drop pos' text))) one
            ∙ ap (λ (m : ℕ). take_lines day filer (space_of rows0) m (take (at + 1) after) (lines_of (drop pos' text))) q
            ∙ ap (λ (m : ℕ). take_lines day filer (space_of rows0) (n + 1) (take (at + 1) after) (lines_of (drop m text))) there
            ∙ sym s.3 ∙ so_far,
      )

  pub stop : (after : List FiledRow) (f : FileFault) → pos < length text
      → ◌≡◌ {A = List FiledRow × Result (Unit {0}) FileFault} (after, Err f) (noted rows at (line_into day filer (space_of rows) n (take at rows) (line_at bytes pos)))
      → ◌≡◌ {A = List FiledRow × Result Taken FileFault} (take used after, Err f) (whole (take used rows0) goal)
  stop after f more e =
      let o = noted_err rows after at (line_into day filer (space_of rows) n (take at rows) (line_at bytes pos)) f e in
      let fault = takes_stop day filer (space_of rows0) n (take at rows) text pos f more (sym line_same ∙ o.0) in
      let is = sym so_far ∙ fault in
      let left = ap (take used) o.1 ∙ kept in
      rw is (ap (λ (r : List FiledRow). refused r f) left)

  pub done : length text ≤ pos
      → ◌≡◌ {A = List FiledRow × Result Taken FileFault} (take at rows, Ok (taken_of at (at - used))) (whole (take used rows0) goal)
  done end =
      let is = sym so_far ∙ takes_all day filer (space_of rows0) n (take at rows) text pos end in
      let many = length-take-le at rows high in
      let few = length-take-le used rows0 (omega arith) in
      rw is (ap (λ (k : ℕ). granted (take at rows) k (k - used)) (sym many) ∙ ap (λ (k : ℕ). granted (take at rows) (length (take at rows)) (length (take at rows) - k)) (sym few))
