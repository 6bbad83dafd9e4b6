-- What the records of a nomination file say.
use Rattle.std.specs.Prelude.{ℕ, Bool, cond, ◌&&◌, List, length, Some, None, Ok, Err, Option, Result, ◌==◌, nat_le, slice_index}
use Rattle.energy.specs.Codes.{code_read}
use Rattle.book.specs.declared.filed_row.Flag.{Flag}
use Rattle.energy.specs.declared.unit.Kwh.{Kwh}
use Rattle.nomination.specs.Fields.{version_of, date_of, period_of, amount_of, flag_of}
use Rattle.nomination.specs.Records.{HeaderText, DetailText, RecordText, header, trade, matched}
use Rattle.nomination.specs.declared.fault.TextFault.{TextFault}
use Rattle.nomination.specs.declared.fault.TextFault.TheVariants.{BadField}

-- A header says a version, a filer and a date.
pub record HeaderValues : Type 0 where
  pub version : ℕ
  pub filer : List ℕ
  pub date : ℕ

-- A trade and a match say a period, two parties and two energies.
pub record DetailValues : Type 0 where
  pub period : ℕ
  pub north : List ℕ
  pub south : List ℕ
  pub ns : Kwh
  pub sn : Kwh

-- A record says what a header, a trade with its flag or a match says.
pub data RecordValues : Type 0 where
  heading : HeaderValues → RecordValues
  trading : DetailValues → Flag → RecordValues
  matching : DetailValues → RecordValues

-- The header of the first version of a file has a date of eight digits.
abbrev pub first_header : List ℕ → ℕ → Option HeaderValues
first_header code day = cond (nat_le day 99999999) (Some (record { version = 1; filer = code; date = day })) None

-- A file can write a period from 1 to 99, and at most 9,999,999 kWh in each direction.
abbrev pub is_writable : ℕ → Kwh → Kwh → Bool
is_writable p x y = (nat_le 1 p && nat_le p 99) && (nat_le x.0 9999999 && nat_le y.0 9999999)

-- What a trade or match can say.
abbrev pub writable : ℕ → List ℕ → List ℕ → Kwh → Kwh → Option DetailValues
writable p a b x y = cond (is_writable p x y) (Some (record { period = p; north = a; south = b; ns = x; sn = y })) None

-- A field is read, or it is the first bad one of its line.
abbrev pub field : {X Y : Type 0} → ℕ → ℕ → Option X → (X → Result Y TextFault) → Result Y TextFault
field n k (Some x) next = next x
field n k None next = Err (BadField n k)

-- The file type is IANS.
abbrev pub is_type : List ℕ → Bool
is_type bytes =
    (length bytes == 4)
    && ((slice_index bytes 0 == 73 && slice_index bytes 1 == 65) && (slice_index bytes 2 == 78 && slice_index bytes 3 == 83))

abbrev pub type_of : List ℕ → Option (Unit {0})
type_of bytes = cond (is_type bytes) (Some tt) None

-- A header is read field by field: file type, version, filer, date.
abbrev pub header_read : ℕ → HeaderText → Result HeaderValues TextFault
header_read n h =
    field n 2 (type_of h.file_type.bytes) (λ _.
    field n 3 (version_of h.version.bytes) (λ v.
    field n 4 (code_read h.filer.bytes) (λ c.
    field n 5 (date_of h.date.bytes) (λ d. Ok (record { version = v; filer = c; date = d })))))

-- A trade or match is read field by field: period, northern code, southern code, NS amount, SN amount.
abbrev pub detail_read : ℕ → DetailText → Result DetailValues TextFault
detail_read n d =
    field n 2 (period_of d.period.bytes) (λ p.
    field n 3 (code_read d.north.bytes) (λ a.
    field n 4 (code_read d.south.bytes) (λ b.
    field n 5 (amount_of d.ns.bytes) (λ x.
    field n 6 (amount_of d.sn.bytes) (λ y. Ok (record { period = p; north = a; south = b; ns = x; sn = y }))))))

-- What is read of a line, or its fault, goes on to the next question.
abbrev pub onward : {X Y F : Type 0} → Result X F → (X → Result Y F) → Result Y F
onward (Ok x) next = next x
onward (Err e) next = Err e

-- A record is read as its kind is, a trade's flag last.
abbrev pub record_read : ℕ → RecordText → Result RecordValues TextFault
record_read n (header h) = onward (header_read n h) (λ v. Ok (heading v))
record_read n (trade d flag) = onward (detail_read n d) (λ v. field n 7 (flag_of flag.bytes) (λ f. Ok (trading v f)))
record_read n (matched d) = onward (detail_read n d) (λ v. Ok (matching v))
