-- What is written is read again.
use Rattle.std.specs.Prelude.{◌≡◌, ℕ, ◌+◌, ◌<◌, List, length, Some, Ok}
use Rattle.nomination.specs.Reading.{next_of}
use Rattle.nomination.specs.Records.{RecordText}
use Rattle.nomination.specs.Texts.{line_text}
use Rattle.nomination.specs.Values.{RecordValues, heading, trading, matching, record_read}

-- A header stands on line 1, a trade or a match on a later line.
abbrev pub OnLine : ℕ → RecordValues → Type 0
OnLine n (heading h) = n ≡ 1
OnLine n (trading d flag) = 1 < n
OnLine n (matching d) = 1 < n

-- The line reader, where a line stands, answers a record that says these values, and goes on behind the line.
abbrev pub ReadsBack : List ℕ → ℕ → ℕ → RecordValues → Type 0
ReadsBack text at n v =
    (r : RecordText) × ((next_of text at n ≡ (Ok (Some r), at + length (line_text v), n + 1)) × (record_read n r ≡ Ok v))
