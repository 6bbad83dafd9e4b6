-- A text, read line by line.
use Rattle.std.specs.Prelude.{ℕ, ◌+◌, ◌-◌, cond, ◌&&◌, List, length, take, drop, Some, None, Ok, Err, Option, Result, nat_le, nat_lt}
use Rattle.nomination.specs.Lines.{Line}
use Rattle.nomination.specs.Marks.{place_of}
use Rattle.nomination.specs.Records.{RecordText, record_in}
use Rattle.nomination.specs.Values.{RecordValues, onward, record_read}
use Rattle.nomination.specs.declared.fault.TextFault.{TextFault}
use Rattle.nomination.specs.declared.fault.TextFault.TheVariants.{TooLong}

-- The line that starts at a place goes up to the next byte 10, or to the text's end and is then not ended.
abbrev pub line_at : List ℕ → ℕ → Line
line_at text at = record { ended = nat_lt (place_of 10 text at) (length text); bytes = take (place_of 10 text at - at) (drop at text) }

-- Line n is a record whose fields are all well formed: first the line is asked, then its fields.
abbrev pub record_of : ℕ → ℕ → Line → Result RecordText TextFault
record_of n base l = onward (record_in n base l) (λ r. onward (record_read n r) (λ _. Ok r))

-- After a good line comes the next; a fault is told again.
abbrev pub stepped : {X : Type 0} → List ℕ → ℕ → ℕ → Result X TextFault → Result (Option X) TextFault × ℕ × ℕ
stepped text at n (Ok r) = (Ok (Some r), place_of 10 text at + 1, n + 1)
stepped text at n (Err f) = (Err f, at, n)

-- What a reader answers at line n, which starts at a place, and where it stands then: a text has at most 65,536 bytes; where a
-- line was ended and nothing follows, the file ends; otherwise the line is read.
abbrev pub next_of : List ℕ → ℕ → ℕ → Result (Option RecordText) TextFault × ℕ × ℕ
next_of text at n =
    cond (nat_lt 65536 (length text)) (Err TooLong, at, n)
    (cond (nat_le (length text) at && nat_lt 1 n) (Ok None, at, n) (stepped text at n (record_of n at (line_at text at))))

-- What line n says: first the line is asked, then its fields.
abbrev pub line_values : ℕ → Line → Result RecordValues TextFault
line_values n l = onward (record_in n 0 l) (record_read n)

-- What a reader's answer at line n says.
abbrev pub answer_read : ℕ → Result (Option RecordText) TextFault → Result (Option RecordValues) TextFault
answer_read n (Ok (Some r)) = onward (record_read n r) (λ v. Ok (Some v))
answer_read n (Ok None) = Ok None
answer_read n (Err f) = Err f

-- The same as a reader answers it, at line n, which starts at a place.
abbrev pub said_next : List ℕ → ℕ → ℕ → Result (Option RecordValues) TextFault × ℕ × ℕ
said_next text at n =
    cond (nat_lt 65536 (length text)) (Err TooLong, at, n)
    (cond (nat_le (length text) at && nat_lt 1 n) (Ok None, at, n) (stepped text at n (line_values n (line_at text at))))
