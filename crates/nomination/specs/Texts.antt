-- How a line of a nomination file is written.
use Rattle.std.specs.Prelude.{ℕ, ◌+◌, ◌/◌, ◌%◌, cond, List, [], ◌∷◌, ◌++◌, codes, nat_lt}
use Rattle.book.specs.declared.filed_row.Flag.{Flag}
use Rattle.book.specs.declared.filed_row.Flag.TheVariants.{Brown, Chp, Renewable}
use Rattle.energy.specs.declared.unit.Kwh.{Kwh}
use Rattle.nomination.specs.Values.{HeaderValues, DetailValues, RecordValues, heading, trading, matching}

-- The last digit of a number.
abbrev pub digit : ℕ → ℕ
digit n = 48 + n % 10

-- Three digits, and four.
abbrev pub three_text : ℕ → List ℕ
three_text n = digit (n / 100) ∷ digit (n / 10) ∷ digit n ∷ []

abbrev pub four_text : ℕ → List ℕ
four_text n = digit (n / 1000) ∷ three_text n

-- One to four digits with no needless leading zero.
abbrev pub plain_text : ℕ → List ℕ
plain_text n =
    cond (nat_lt n 10) (digit n ∷ [])
    (cond (nat_lt n 100) (digit (n / 10) ∷ digit n ∷ []) (cond (nat_lt n 1000) (three_text n) (four_text n)))

-- An energy in MWh: the whole number, a point and three digits.
abbrev pub amount_text : Kwh → List ℕ
amount_text energy = plain_text (energy.0 / 1000) ++ (46 ∷ three_text (energy.0 % 1000))

-- The eight digits of a date.
abbrev pub date_text : ℕ → List ℕ
date_text n = four_text (n / 10000) ++ four_text (n % 10000)

abbrev pub flag_text : Flag → List ℕ
flag_text Brown = []
flag_text Chp = codes "C"
flag_text Renewable = codes "G"

-- The fields of a header, and those that a trade and a match share behind the first.
abbrev pub header_fields : HeaderValues → List (List ℕ)
header_fields h = codes "H" ∷ codes "IANS" ∷ three_text h.version ∷ h.filer ∷ date_text h.date ∷ []

abbrev pub detail_fields : DetailValues → List (List ℕ) → List (List ℕ)
detail_fields d rest = plain_text d.period ∷ d.north ∷ d.south ∷ amount_text d.ns ∷ amount_text d.sn ∷ rest

-- The fields of a record: a trade has its flag last.
abbrev pub record_fields : RecordValues → List (List ℕ)
record_fields (heading h) = header_fields h
record_fields (trading d flag) = codes "D1" ∷ detail_fields d (flag_text flag ∷ [])
record_fields (matching d) = codes "D2" ∷ detail_fields d []

-- Fields with a comma between each two.
abbrev pub parted : List (List ℕ) → List ℕ
parted [] = []
parted (f ∷ []) = f
parted (f ∷ g ∷ fs) = f ++ (44 ∷ parted (g ∷ fs))

-- A record's line: its fields, and byte 10.
abbrev pub line_text : RecordValues → List ℕ
line_text v = parted (record_fields v) ++ (10 ∷ [])
