-- The records of a nomination file, as parts of its text.
use Rattle.std.specs.Prelude.{ℕ, Bool, cond, ◌&&◌, List, [], length, Some, None, Ok, Err, Option, Result, ◌==◌, nat_lt, slice_index, slice_index_or}
use Rattle.nomination.specs.Lines.{Line, fields_of}
use Rattle.nomination.specs.Parts.{TextPart, part_of}
use Rattle.nomination.specs.declared.fault.TextFault.{TextFault}
use Rattle.nomination.specs.declared.fault.TextFault.TheVariants.{BadLine}

-- A header's fields after the first: file type, version, filer and date.
pub record HeaderText : Type 0 where
  pub file_type : TextPart
  pub version : TextPart
  pub filer : TextPart
  pub date : TextPart

-- The fields that a trade and a match share: period, northern code, southern code, NS amount and SN amount.
pub record DetailText : Type 0 where
  pub period : TextPart
  pub north : TextPart
  pub south : TextPart
  pub ns : TextPart
  pub sn : TextPart

-- A record is a header, a trade with its flag, or a match.
pub data RecordText : Type 0 where
  header : HeaderText → RecordText
  trade : DetailText → TextPart → RecordText
  matched : DetailText → RecordText

-- The first field names the kind: H a header, D1 a trade, D2 a match.
abbrev pub is_header : List ℕ → Bool
is_header bytes = length bytes == 1 && slice_index bytes 0 == 72

abbrev pub is_detail : ℕ → List ℕ → Bool
is_detail digit bytes = length bytes == 2 && (slice_index bytes 0 == 68 && slice_index bytes 1 == digit)

abbrev pub header_text : ℕ → List (List ℕ) → HeaderText
header_text base fs =
    record { file_type = part_of base fs 1; version = part_of base fs 2; filer = part_of base fs 3; date = part_of base fs 4 }

abbrev pub detail_text : ℕ → List (List ℕ) → DetailText
detail_text base fs =
    record { period = part_of base fs 1; north = part_of base fs 2; south = part_of base fs 3; ns = part_of base fs 4; sn = part_of base fs 5 }

-- The fields that a trade and a match share, where there are so many.
abbrev pub detail_parts : ℕ → List (List ℕ) → Option DetailText
detail_parts base fs = cond (nat_lt 5 (length fs)) (Some (detail_text base fs)) None

-- The header with these fields: H and four more.
abbrev pub header_in : ℕ → List (List ℕ) → Option RecordText
header_in base fs = cond (is_header (slice_index_or fs 0 []) && length fs == 5) (Some (header (header_text base fs))) None

-- The trade or match with these fields: D1 and six more, or D2 and five more.
abbrev pub detail_in : ℕ → List (List ℕ) → Option RecordText
detail_in base fs =
    cond (is_detail 49 (slice_index_or fs 0 []) && length fs == 7) (Some (trade (detail_text base fs) (part_of base fs 6)))
    (cond (is_detail 50 (slice_index_or fs 0 []) && length fs == 6) (Some (matched (detail_text base fs))) None)

-- A line without a record is bad.
abbrev pub or_bad_line : {X : Type 0} → ℕ → Option X → Result X TextFault
or_bad_line n (Some x) = Ok x
or_bad_line n None = Err (BadLine n)

-- The record of line n, which starts at a place: the line must be ended, line 1 a header and every other a trade or a match.
abbrev pub record_in : ℕ → ℕ → Line → Result RecordText TextFault
record_in n base l =
    cond l.ended (or_bad_line n (cond (n == 1) (header_in base (fields_of l.bytes)) (detail_in base (fields_of l.bytes)))) (Err (BadLine n))
