-- The first line of a file, and the file as a whole.
use Rattle.std.proofs.Common.{◌≡◌, ℕ, ◌+◌, min, Bool, true, false, cond, ltb, leb, List, [], ◌∷◌, length, take, drop, Ok, Err, Option, Result, sym, refl, ap, ◌∙◌, ⊎_elim, arith}
use Rattle.std.proofs.lemmas.Bool.{and_right, ltb-false, cases_lt}
use Rattle.std.proofs.lemmas.List.{take_all}
use Rattle.book.specs.declared.filed_row.FiledRow.{FiledRow}
use Rattle.energy.specs.declared.party_code.PartyCode.{PartyCode}
use Rattle.nomination.proofs.Lining.{lines_none, lines_more}
use Rattle.nomination.specs.Lines.{Line, lines_of}
use Rattle.nomination.specs.Marks.{place_of}
use Rattle.nomination.specs.Reading.{line_at, stepped, line_values, said_next}
use Rattle.nomination.specs.Values.{RecordValues, onward}
use Rattle.nomination.specs.declared.fault.TextFault.{TextFault}
use Rattle.nomination.specs.declared.fault.TextFault.TheVariants as text
use Rattle.intake.specs.Filers.{code_said}
use Rattle.intake.specs.Filing.{FileDay, carried, filer_said, filer_of, first_of, take_lines, take_all_lines}
use Rattle.intake.specs.Intake.{space_of, whole, handed_in, used_after}
use Rattle.intake.specs.Noting.{filer_from, head_of, Followed, ShortEnough}
use Rattle.intake.specs.declared.fault.FileFault.{FileFault}
use Rattle.intake.specs.declared.fault.FileFault.TheVariants as file
use Rattle.intake.specs.declared.taken.Taken.{Taken}

-- the first line is the one at the text's start, and the others follow it
first_is : (bytes : List ℕ) → first_of (lines_of bytes) ≡ line_at bytes 0
first_is [] = ap first_of lines_none
first_is (b ∷ bs) = ap first_of (lines_more (b ∷ bs) 0 (omega arith))

rest_is : (bytes : List ℕ) → drop 1 (lines_of bytes) ≡ lines_of (drop (place_of 10 bytes 0 + 1) bytes)
rest_is [] = ap (drop 1) lines_none ∙ sym lines_none
rest_is (b ∷ bs) = ap (drop 1) (lines_more (b ∷ bs) 0 (omega arith))

-- at line 1 the reader reads the first line, or finds the text too long
said_first : (bytes : List ℕ) → said_next bytes 0 1 ≡ cond (ltb 65536 (length bytes)) (Err text.TooLong, 0, 1) (stepped bytes 0 1 (line_values 1 (line_at bytes 0)))
said_first bytes = rw (and_right (leb (length bytes) 0) (ltb 1 1) refl) refl

module _ (day : FileDay) (bytes : List ℕ) where
  stepped_filer : (o : Result RecordValues TextFault) → filer_from day (stepped bytes 0 1 o).0 ≡ carried file.Text o (filer_said day)
  stepped_filer (Ok v) = refl
  stepped_filer (Err f) = refl

  long_filer : (b : Bool) → filer_from day (cond {A = Result (Option RecordValues) TextFault × ℕ × ℕ} b (Err text.TooLong, 0, 1) (stepped bytes 0 1 (line_values 1 (line_at bytes 0)))).0
      ≡ cond b (Err (file.Text text.TooLong)) (filer_of day (line_at bytes 0))
  long_filer true = refl
  long_filer false = stepped_filer (line_values 1 (line_at bytes 0))

  -- the filer that the reader's answer gives is that of the text's first line
  pub filer_there : (x : Result (Option RecordValues) TextFault) (a m : ℕ)
      → ◌≡◌ {A = Result (Option RecordValues) TextFault × ℕ × ℕ} (x, a, m) (said_next bytes 0 1) → filer_from day x ≡ head_of day bytes
  filer_there x a m e =
      ap (λ (p : Result (Option RecordValues) TextFault × ℕ × ℕ). filer_from day p.0) (e ∙ said_first bytes)
      ∙ long_filer (ltb 65536 (length bytes))

  -- a header that is granted was read, so the reader stands behind it, and the text is not too long
  behind : (r : Result PartyCode FileFault) (b : Bool) (o : Result RecordValues TextFault) (a m : ℕ) (x : Result (Option RecordValues) TextFault)
      → ◌≡◌ {A = Result (Option RecordValues) TextFault × ℕ × ℕ} (x, a, m) (cond b (Err text.TooLong, 0, 1) (stepped bytes 0 1 o))
      → code_said r ≡ filer_from day x → Followed r bytes 0 1 a m × ((c : PartyCode) → r ≡ Ok c → b ≡ false)
  behind (Err f) b o a m x e k = (tt, λ c z. absurd (let y : ◌≡◌ {A = ℕ} 0 1 = cc in omega arith))
  behind (Ok c) true o a m x e k =
      let said = ap (λ (p : Result (Option RecordValues) TextFault × ℕ × ℕ). filer_from day p.0) e in
      absurd (let y : ◌≡◌ {A = ℕ} 0 1 = cc in omega arith)
  behind (Ok c) false (Err f) a m x e k =
      let said = ap (λ (p : Result (Option RecordValues) TextFault × ℕ × ℕ). filer_from day p.0) e in
      absurd (let y : ◌≡◌ {A = ℕ} 0 1 = cc in omega arith)
  behind (Ok c) false (Ok v) a m x e k =
      ((ap (λ (p : Result (Option RecordValues) TextFault × ℕ × ℕ). p.1) e, ap (λ (p : Result (Option RecordValues) TextFault × ℕ × ℕ). p.2) e), λ d z. refl)

  short_enough : (r : Result PartyCode FileFault) → ((c : PartyCode) → r ≡ Ok c → ltb 65536 (length bytes) ≡ false) → ShortEnough r bytes
  short_enough (Ok c) h = ltb-false 65536 (length bytes) (h c refl)
  short_enough (Err f) h = tt

  pub header_behind : (r : Result PartyCode FileFault) (a m : ℕ) (x : Result (Option RecordValues) TextFault)
      → ◌≡◌ {A = Result (Option RecordValues) TextFault × ℕ × ℕ} (x, a, m) (said_next bytes 0 1) → code_said r ≡ filer_from day x
      → Followed r bytes 0 1 a m × ShortEnough r bytes
  header_behind r a m x e k =
      let both = behind r (ltb 65536 (length bytes)) (line_values 1 (line_at bytes 0)) a m x (e ∙ said_first bytes) k in
      (both.0, short_enough r both.1)

  -- the rows after a file, by its header's answer
  by_header : (space : ℕ) (filed : List FiledRow) (b : Bool) (o : Result (List ℕ) FileFault)
      → cond b (Err (file.Text text.TooLong)) (onward o (λ filer. take_lines day filer space 2 filed (drop 1 (lines_of bytes))))
      ≡ onward (cond b (Err (file.Text text.TooLong)) o) (λ filer. take_lines day filer space 2 filed (drop 1 (lines_of bytes)))
  by_header space filed true o = refl
  by_header space filed false o = refl

  pub all_is : (space : ℕ) (filed : List FiledRow)
      → take_all_lines day space filed bytes ≡ onward (head_of day bytes) (λ filer. take_lines day filer space 2 filed (lines_of (drop (place_of 10 bytes 0 + 1) bytes)))
  all_is space filed =
      by_header space filed (ltb 65536 (length bytes)) (filer_of day (first_of (lines_of bytes)))
      ∙ ap (λ (l : Line). onward (cond (ltb 65536 (length bytes)) (Err (file.Text text.TooLong)) (filer_of day l)) (λ filer. take_lines day filer space 2 filed (drop 1 (lines_of bytes)))) (first_is bytes)
      ∙ ap (λ (ls : List Line). onward (head_of day bytes) (λ filer. take_lines day filer space 2 filed ls)) (rest_is bytes)

  -- a header that is refused refuses the file, and leaves the rows in use
  pub file_refused : (space : ℕ) (filed : List FiledRow) (f : FileFault) → Err f ≡ head_of day bytes
      → ◌≡◌ {A = List FiledRow × Result Taken FileFault} (filed, Err f) (handed_in day space filed bytes)
  file_refused space filed f e =
      ap (λ (o : Result (List ℕ) FileFault). whole filed (onward o (λ filer. take_lines day filer space 2 filed (lines_of (drop (place_of 10 bytes 0 + 1) bytes))))) e
      ∙ ap (whole filed) (sym (all_is space filed))

  -- a header that is granted leaves the file to its lines
  pub file_granted : (space : ℕ) (filed : List FiledRow) (filer : List ℕ) → Ok filer ≡ head_of day bytes
      → whole filed (take_lines day filer space 2 filed (lines_of (drop (place_of 10 bytes 0 + 1) bytes))) ≡ handed_in day space filed bytes
  file_granted space filed filer e =
      ap (λ (o : Result (List ℕ) FileFault). whole filed (onward o (λ c. take_lines day c space 2 filed (lines_of (drop (place_of 10 bytes 0 + 1) bytes))))) e
      ∙ ap (whole filed) (sym (all_is space filed))

-- no more rows are in use than there are
pub used_most : (rows : List FiledRow) (used : ℕ) → take (min used (length rows)) rows ≡ take used rows
used_most rows used =
    ⊎_elim (λ h. let m : min used (length rows) ≡ used = omega arith in ap (λ (k : ℕ). take k rows) m)
    (λ h. let m : min used (length rows) ≡ length rows = omega arith in ap (λ (k : ℕ). take k rows) m ∙ take_all (length rows) rows (omega arith) ∙ sym (take_all used rows h))
    (cases_lt used (length rows))

abbrev answered : List FiledRow → Result Taken FileFault → List FiledRow × Result Taken FileFault
answered rows r = (rows, r)

-- the lines behind the header, taken into the book over the rows
pub file_done : (day : FileDay) (filer : List ℕ) (rows begun after : List FiledRow) (used u n at : ℕ) (text bytes : List ℕ) (r : Result Taken FileFault)
    → ◌≡◌ {A = List FiledRow × Result Taken FileFault} (take (used_after u r) after, r)
    (whole (take u begun) (take_lines day filer (space_of begun) n (take u begun) (lines_of (drop at text))))
    → begun ≡ rows → u ≡ min used (length rows) → n ≡ 2 → at ≡ place_of 10 bytes 0 + 1 → text ≡ bytes → Ok filer ≡ head_of day bytes
    → ◌≡◌ {A = List FiledRow × Result Taken FileFault} (take (used_after (min used (length rows)) r) after, r) (handed_in day (space_of rows) (take used rows) bytes)
file_done day filer rows begun after used u n at text bytes r e over most two there same head =
    let few = ap (λ (k : ℕ). take k rows) most ∙ used_most rows used in
    let all = file_granted day bytes (space_of rows) (take used rows) filer head in
    ap (λ (k : ℕ). answered (take (used_after k r) after) r) (sym most) ∙ e
    ∙ ap (λ (held : List FiledRow). whole (take u held) (take_lines day filer (space_of held) n (take u held) (lines_of (drop at text)))) over
    ∙ ap (λ (fs : List FiledRow). whole fs (take_lines day filer (space_of rows) n fs (lines_of (drop at text)))) few
    ∙ ap (λ (m : ℕ). whole (take used rows) (take_lines day filer (space_of rows) m (take used rows) (lines_of (drop at text)))) two
    ∙ ap (λ (k : ℕ). whole (take used rows) (take_lines day filer (space_of rows) 2 (take used rows) (lines_of (drop k text)))) there
    ∙ ap (λ (t : List ℕ). whole (take used rows) (take_lines day filer (space_of rows) 2 (take used rows) (lines_of (drop (place_of 10 bytes 0 + 1) t)))) same
    ∙ all
