-- Where the fields of a line start.
use Rattle.std.proofs.Common.{◌≡◌, ℕ, zero, suc, ◌+◌, ◌≤◌, ◌==◌, List, [], ◌∷◌, length, get_or, take, drop, Some, None, Option, unwrap_or, refl, sym, ap, ◌∙◌, inl, inr, arith, length-take}
use Rattle.std.proofs.Math.Seq.{take-nil}
use Rattle.std.proofs.lemmas.Bool.{cases_Bool}
use Rattle.std.proofs.lemmas.List.Sums.{sum_by-cons, sum_by-take-drop, fails_before_first, count_by-le-length}
use Rattle.std.proofs.lemmas.List.Splits.{slice_split_first, slice_split_none, length-slice_split}
use Rattle.std.proofs.lemmas.Bool.Decides.{nat_tests}
use Rattle.std.specs.Option.{option_map}
use Rattle.std.specs.List.{sum_by, onto_first, position, position_or_len}
use Rattle.nomination.proofs.Marking.{some_below, none_below}
use Rattle.nomination.specs.Lines.{fields_of}
use Rattle.nomination.specs.Parts.{TextPart, part_seen, part_of, parts_from, start_of}
use Rattle.nomination.specs.Records.{detail_parts}
use Rattle.nomination.specs.declared.part.Part.{Part}

-- how long a field is with a comma behind it
abbrev pub with_comma : List ℕ → ℕ
with_comma f = length f + 1

byte_more : (b n : ℕ) (fs : List (List ℕ)) → sum_by with_comma fs ≡ n + 1 → sum_by with_comma (onto_first b fs) ≡ suc n + 1
byte_more b n [] e = absurd (omega arith)
byte_more b n (f ∷ fs) e = omega (arith, sum_by-cons with_comma f fs, sum_by-cons with_comma (b ∷ f) fs)

-- the fields with a comma behind each are one byte longer than their line
pub fields_whole : (bytes : List ℕ) → sum_by with_comma (fields_of bytes) ≡ length bytes + 1
unfolding fields_of
fields_whole [] = refl
fields_whole (b ∷ bytes) =
    let ih = fields_whole bytes in
    elim (cases_Bool (b == 44)) [
      | inl e ↦ rw e (omega (arith, sum_by-cons with_comma [] (fields_of bytes)))
      | inr e ↦ rw e (byte_more b (length bytes) (fields_of bytes) ih)
    ]

-- no field starts further than one place behind the line
pub start_within : (bytes : List ℕ) (k : ℕ) → start_of (fields_of bytes) k ≤ length bytes + 1
start_within bytes k = omega (arith, sum_by-take-drop with_comma (fields_of bytes) k, fields_whole bytes)

-- each field of a line as a part, and behind the last nothing
pub parts_at : (base : ℕ) (fs : List (List ℕ)) (k : ℕ) (none : TextPart) → none ≡ record { bytes = []; at = base + sum_by with_comma fs }
    → get_or (parts_from base fs) k none ≡ part_of base fs k
parts_at base [] k none e = rw (take-nil {A = List ℕ} k) e
parts_at base (f ∷ fs) zero none e = grind arith
parts_at base (f ∷ fs) (suc k) none e =
    let whole = sum_by-cons with_comma f fs in
    let start = sum_by-cons with_comma f (take k fs) in
    let ih = parts_at (base + length f + 1) fs k none (grind arith) in
    grind arith

-- there are as many parts as fields
pub parts_count : (base : ℕ) (fs : List (List ℕ)) → length (parts_from base fs) ≡ length fs
parts_count base [] = refl
parts_count base (f ∷ fs) = ap suc (parts_count (base + length f + 1) fs)

-- a part, or what stands for none
pub seen_or : (r : Option Part) (d : Part) (o : Option TextPart) → option_map part_seen r ≡ o → part_seen (unwrap_or r d) ≡ unwrap_or o (part_seen d)
seen_or None d o e = rw (← e) refl
seen_or (Some p) d o e = rw (← e) refl

-- the first field goes up to the first comma, and the others follow it
pub fields_first : (bytes : List ℕ) (k : ℕ) → Some k ≡ position (λ b. b == 44) bytes
    → fields_of bytes ≡ take k bytes ∷ fields_of (drop (k + 1) bytes)
unfolding fields_of
fields_first bytes k e =
    let found = some_below (position_or_len (λ b. b == 44) bytes) (length bytes) k e in
    rw found.0 (slice_split_first (λ b. b == 44) bytes 0 found.1)

pub parts_first : (base : ℕ) (bytes : List ℕ) (k : ℕ) → Some k ≡ position (λ b. b == 44) bytes
    → parts_from base (fields_of bytes) ≡ record { bytes = take k bytes; at = base } ∷ parts_from (base + k + 1) (fields_of (drop (k + 1) bytes))
parts_first base bytes k e =
    let found = some_below (position_or_len (λ b. b == 44) bytes) (length bytes) k e in
    let long : length (take k bytes) ≡ k = simp length-take (omega arith) in
    ap (parts_from base) (fields_first bytes k e)
    ∙ ap (λ n. record { bytes = take k bytes; at = base } ∷ parts_from (base + n + 1) (fields_of (drop (k + 1) bytes))) long

-- a line without a comma is one field
pub fields_one : (bytes : List ℕ) → None ≡ position (λ b. b == 44) bytes → fields_of bytes ≡ bytes ∷ []
unfolding fields_of
fields_one bytes e =
    let none = none_below (position_or_len (λ b. b == 44) bytes) (length bytes) e in
    slice_split_none (λ b. b == 44) bytes (λ k d l. fails_before_first (λ b. b == 44) bytes k d (omega arith))

-- a line has at most one field more than bytes
pub fields_few : (bytes : List ℕ) → length (fields_of bytes) ≤ length bytes + 1
unfolding fields_of
fields_few bytes = omega (arith, length-slice_split (λ b. b == 44) bytes, count_by-le-length (λ b. b == 44) bytes)

-- the fields that a trade and a match share, read one after the other
module _ (base : ℕ) (fs : List (List ℕ)) where
  pub parts_six : (kind period north south ns sn : TextPart) (rest : List TextPart) → parts_from base fs ≡ kind ∷ period ∷ north ∷ south ∷ ns ∷ sn ∷ rest
      → Some record { period = period; north = north; south = south; ns = ns; sn = sn } ≡ detail_parts base fs
  parts_six kind period north south ns sn rest e =
      let none : TextPart = record { bytes = []; at = base + sum_by with_comma fs } in
      let many = ap length e in
      let count = parts_count base fs in
      let p1 = sym (parts_at base fs 1 none refl) ∙ ap (λ ps. get_or ps 1 none) e in
      let p2 = sym (parts_at base fs 2 none refl) ∙ ap (λ ps. get_or ps 2 none) e in
      let p3 = sym (parts_at base fs 3 none refl) ∙ ap (λ ps. get_or ps 3 none) e in
      let p4 = sym (parts_at base fs 4 none refl) ∙ ap (λ ps. get_or ps 4 none) e in
      let p5 = sym (parts_at base fs 5 none refl) ∙ ap (λ ps. get_or ps 5 none) e in
      rw (p1, p2, p3, p4, p5) (grind (arith, nat_tests))
