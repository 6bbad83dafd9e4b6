-- A written line is read as a record that says the same.
use Rattle.std.proofs.Common.{◌≡◌, ℕ, ◌+◌, ◌-◌, ◌<◌, ◌≤◌, Bool, true, false, cond, not, eqb, leb, List, [], ◌∷◌, ◌++◌, length, drop, is_some, Some, None, Ok, codes, Option, Result, sym, refl, ap, ◌∙◌, subst, append_assoc, arith, length-append}
use lib.Seq.{take-append_seam}
use Rattle.std.proofs.lemmas.Bool.{and_parts, and_from, eq-eqb, ne_eqb, lt-ltb, le-ltb, lt-leb, leb-true}
use Rattle.std.proofs.lemmas.Bool.Decides.{nat_tests}
use Rattle.nomination.specs.declared.fault.TextFault.{TextFault}
use Rattle.std.specs.List.{prefix_len}
use Rattle.nomination.specs.Lines.{Line, lines_of}
use Rattle.nomination.specs.Marks.{place_of}
use Rattle.nomination.specs.Reading.{line_at, record_of, stepped, line_values}
use Rattle.nomination.specs.Records.{RecordText, header, trade, matched, header_text, detail_text, record_in}
use Rattle.nomination.specs.Parts.{part_of}
use Rattle.nomination.specs.Texts.{plain_text, three_text, amount_text, date_text, flag_text, record_fields, header_fields, detail_fields, parted, line_text}
use Rattle.nomination.specs.Values.{RecordValues, onward, record_read}
use Rattle.nomination.specs.ValuesHeld.{Values, header_said, detail_said, values_said}
use Rattle.nomination.specs.WayBack.{OnLine, ReadsBack}
use Rattle.nomination.specs.Writing.{over, placed}
use Rattle.nomination.specs.declared.detail.Detail.{Detail}
use Rattle.nomination.specs.declared.record.RecordOf.TheVariants.{Heading, Trading, Matching}
use Rattle.energy.specs.PartyCodes.{code_text}
use Rattle.nomination.proofs.Backing.{free, all_free, not_true, fields_back, parted_free, leading_free}
use Rattle.nomination.proofs.Overlaying.{length_over, drop_over}
use Rattle.nomination.proofs.Returning.{three_free, plain_free, amount_free, date_free, code_free, flag_free, period_back, version_back, date_back, amount_back, flag_back, code_back}

-- both are free of a byte, so the list of them is
both : (sep : ℕ) (f : List ℕ) (fs : List (List ℕ)) → free sep f ≡ true → all_free sep fs ≡ true → all_free sep (f ∷ fs) ≡ true
both sep f fs a b = and_from (free sep f) (all_free sep fs) a b

module _ (sep : ℕ) (low : sep < 46) where
  detail_free : (d : Detail) (rest : List (List ℕ)) → all_free sep rest ≡ true → all_free sep (detail_fields (detail_said d) rest) ≡ true
  detail_free d rest e =
      let four : List (List ℕ) = amount_text d.sn ∷ rest in
      let three : List (List ℕ) = amount_text d.ns ∷ four in
      let two : List (List ℕ) = code_text d.south ∷ three in
      let one : List (List ℕ) = code_text d.north ∷ two in
      both sep (plain_text d.period) one (plain_free sep low d.period)
      (both sep (code_text d.north) two (code_free sep low d.north.chars d.north.sound)
      (both sep (code_text d.south) three (code_free sep low d.south.chars d.south.sound)
      (both sep (amount_text d.ns) four (amount_free sep low d.ns)
      (both sep (amount_text d.sn) rest (amount_free sep low d.sn) e))))

  kind_free : (k : ℕ) → 46 ≤ k → free sep (68 ∷ k ∷ []) ≡ true
  kind_free k h = grind (arith, nat_tests)

  type_free : all_free sep (codes "H" ∷ codes "IANS" ∷ []) ≡ true
  type_free = grind (arith, nat_tests)

  pub record_free : (v : Values) → all_free sep (record_fields (values_said v)) ≡ true
  record_free (Heading h) =
      let three : List (List ℕ) = date_text h.date ∷ [] in
      let two : List (List ℕ) = code_text h.filer ∷ three in
      let one : List (List ℕ) = three_text h.version ∷ two in
      let kinds = and_parts (free sep (codes "H")) (all_free sep (codes "IANS" ∷ [])) type_free in
      both sep (codes "H") (codes "IANS" ∷ one) kinds.0
      (both sep (codes "IANS") one (and_parts (free sep (codes "IANS")) true kinds.1).0
      (both sep (three_text h.version) two (three_free sep low h.version)
      (both sep (code_text h.filer) three (code_free sep low h.filer.chars h.filer.sound)
      (both sep (date_text h.date) [] (date_free sep low h.date) refl))))
  record_free (Trading d flag) =
      let last : List (List ℕ) = flag_text flag ∷ [] in
      both sep (codes "D1") (detail_fields (detail_said d) last) (kind_free 49 (omega arith))
      (detail_free d last (both sep (flag_text flag) [] (flag_free sep low flag) refl))
  record_free (Matching d) =
      both sep (codes "D2") (detail_fields (detail_said d) []) (kind_free 50 (omega arith)) (detail_free d [] refl)

-- the line of a record, without byte 10
abbrev body : Values → List ℕ
body v = parted (record_fields (values_said v))

abbrev line : Values → Line
line v = record { ended = true; bytes = body v }

Read : Values → ℕ → ℕ → Type 0
Read v n base = (r : RecordText) × ((record_in n base (line v) ≡ Ok r) × (record_read n r ≡ Ok (values_said v)))

record_back : (v : Values) (n base : ℕ) → OnLine n (values_said v) → Read v n base
unfolding Read
record_back (Heading h) n base e =
    let fs : List (List ℕ) = header_fields (header_said h) in
    let fields = fields_back (codes "H") (drop 1 fs) (record_free 44 (omega arith) (Heading h)) in
    let first = eq-eqb n 1 e in
    (header (header_text base fs), (rw (fields, first) refl, rw (version_back h.version h.first h.last, code_back h.filer.chars h.filer.sound, date_back h.date h.digits) refl))
record_back (Trading d flag) n base e =
    let fs : List (List ℕ) = record_fields (values_said (Trading d flag)) in
    let fields = fields_back (codes "D1") (drop 1 fs) (record_free 44 (omega arith) (Trading d flag)) in
    let later = ne_eqb n 1 (λ z. omega arith) in (
      trade (detail_text base fs) (part_of base fs 6),
      (
        rw (fields, later) refl,
        rw (period_back d.period d.first d.last, code_back d.north.chars d.north.sound, code_back d.south.chars d.south.sound, amount_back d.ns d.ns_small, amount_back d.sn d.sn_small, flag_back flag) refl,
      ),
    )
record_back (Matching d) n base e =
    let fs : List (List ℕ) = record_fields (values_said (Matching d)) in
    let fields = fields_back (codes "D2") (drop 1 fs) (record_free 44 (omega arith) (Matching d)) in
    let later = ne_eqb n 1 (λ z. omega arith) in (
      matched (detail_text base fs),
      (
        rw (fields, later) refl,
        rw (period_back d.period d.first d.last, code_back d.north.chars d.north.sound, code_back d.south.chars d.south.sound, amount_back d.ns d.ns_small, amount_back d.sn d.sn_small) refl,
      ),
    )

-- a line without byte 10 in it, written with byte 10 behind it, is the line at its place
module _ (d : List ℕ) (at : ℕ) (b : List ℕ) (clean : free 10 b ≡ true) (fits : at + length (b ++ (10 ∷ [])) ≤ length d) where
  abbrev text : List ℕ
  text = over d at (b ++ (10 ∷ []))

  here : drop at text ≡ b ++ (10 ∷ drop (at + length (b ++ (10 ∷ []))) d)
  here = drop_over d at (b ++ (10 ∷ [])) (omega arith) ∙ append_assoc b (10 ∷ []) (drop (at + length (b ++ (10 ∷ []))) d)

  end_there : place_of 10 text at ≡ at + length b
  end_there =
      ap (λ (xs : List ℕ). at + prefix_len (λ b. not (eqb b 10)) xs) here
      ∙ ap (λ (n : ℕ). at + n) (leading_free 10 b (drop (at + length (b ++ (10 ∷ []))) d) clean)

  line_there : line_at text at ≡ record { ended = true; bytes = b }
  line_there =
      let long = length_over d at (b ++ (10 ∷ [])) fits in
      let sum = length-append b (10 ∷ []) in
      let end = end_there in
      let ended = lt-ltb (place_of 10 text at) (length text) (omega arith) in
      let width : place_of 10 text at - at ≡ length b = omega arith in
      let seam = take-append_seam b (10 ∷ drop (at + length (b ++ (10 ∷ []))) d) in
      let start = here in
      cc

-- a record, and where the reader stands then
abbrev stood : RecordText → ℕ → ℕ → Result (Option RecordText) TextFault × ℕ × ℕ
stood r m n = (Ok (Some r), m, n)

pub line_back : (v : Values) (d : List ℕ) (at n : ℕ) → at + length (line_text (values_said v)) ≤ length d → length d ≤ 65536
    → OnLine n (values_said v) → ReadsBack (over d at (line_text (values_said v))) at n (values_said v)
unfolding Read
line_back v d at n fits short on =
    let b : List ℕ = body v in
    let clean = parted_free (record_fields (values_said v)) (record_free 10 (omega arith) v) in
    let line-is = line_there d at b clean fits in
    let end = end_there d at b clean fits in
    let long = length_over d at (line_text (values_said v)) fits in
    let sum = length-append b (10 ∷ []) in
    let back = record_back v n at on in
    let not-long = le-ltb 65536 (length (over d at (line_text (values_said v)))) (omega arith) in
    let not_end = lt-leb (length (over d at (line_text (values_said v)))) at (omega arith) in
    let r : RecordText = back.0 in
    let read : record_of n at (line v) ≡ Ok r =
    ap (λ (x : Result RecordText TextFault). onward x (λ q. onward (record_read n q) (λ _. Ok q))) back.1.0
    ∙ ap (λ (x : Result RecordValues TextFault). onward {Y = RecordText} x (λ _. Ok r)) back.1.1 in
    let next : place_of 10 (over d at (line_text (values_said v))) at + 1 ≡ at + length (line_text (values_said v)) = omega arith in (
      r,
      (
        rw (not-long, not_end)
            (ap (stepped (over d at (line_text (values_said v))) at n) (ap (record_of n at) line-is ∙ read)
            ∙ ap (λ (m : ℕ). stood r m (n + 1)) next),
        back.1.1,
      ),
    )

-- what was placed stands there
placed_there : (s d after : List ℕ) (at : ℕ) (r : Option ℕ) (b : Bool) → b ≡ leb (at + length s) (length d)
    → ◌≡◌ {A = List ℕ × Option ℕ} (after, r) (cond b (over d at s, Some (length s)) (d, None)) → is_some r ≡ true → (at + length s ≤ length d) × (after ≡ over d at s)
placed_there s d after at r true t e some = (leb-true (at + length s) (length d) (sym t), ap (λ (p : List ℕ × Option ℕ). p.0) e)
placed_there s d after at r false t e some =
    absurd (let none = ap (λ (p : List ℕ × Option ℕ). is_some p.1) e in let z : ◌≡◌ {A = ℕ} 0 1 = cc in omega arith)

pub written_back : (v : Values) (d after : List ℕ) (at n : ℕ) (r : Option ℕ) → (after, r) ≡ placed (line_text (values_said v)) d at
    → is_some r ≡ true → length after ≤ 65536 → OnLine n (values_said v) → ReadsBack after at n (values_said v)
written_back v d after at n r e some short on =
    let s : List ℕ = line_text (values_said v) in
    let there = placed_there s d after at r (leb (at + length s) (length d)) refl e some in
    let long = ap length there.1 in
    let same = length_over d at s there.0 in
    subst (λ (t : List ℕ). ReadsBack t at n (values_said v)) (sym there.1) (line_back v d at n there.0 (omega arith) on)

-- a written line says the values that it was written for
pub values_back : (v : Values) (n : ℕ) → OnLine n (values_said v)
    → line_values n (record { ended = true; bytes = parted (record_fields (values_said v)) }) ≡ Ok (values_said v)
unfolding Read
values_back v n on =
    let back = record_back v n 0 on in
    ap (λ (x : Result RecordText TextFault). onward x (record_read n)) back.1.0 ∙ back.1.1

line_before : (b rest : List ℕ) → free 10 b ≡ true → lines_of (b ++ (10 ∷ rest)) ≡ record { ended = true; bytes = b } ∷ lines_of rest
unfolding lines_of
line_before [] rest e = refl
line_before (x ∷ xs) rest e =
    let p = and_parts (not (eqb x 10)) (free 10 xs) e in
    let no = not_true (eqb x 10) p.0 in
    let ih = line_before xs rest p.1 in
    rw (no, ih) refl

-- and stands before the lines that follow it
pub line_first : (v : Values) (rest : List ℕ)
    → lines_of (line_text (values_said v) ++ rest) ≡ record { ended = true; bytes = parted (record_fields (values_said v)) } ∷ lines_of rest
line_first v rest =
    let b : List ℕ = parted (record_fields (values_said v)) in
    ap lines_of (append_assoc b (10 ∷ []) rest) ∙ line_before b rest (parted_free (record_fields (values_said v)) (record_free 10 (omega arith) v))
