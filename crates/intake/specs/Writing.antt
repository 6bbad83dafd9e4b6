-- A party's entries as a nomination file.
use Rattle.std.specs.Prelude.{ℕ, Bool, false, cond, ◌&&◌, List, [], ◌++◌, length, Some, None, Ok, Err, filter, Option, Result, ◌==◌, nat_le}
use Rattle.std.specs.List.{flat_map, slice_get}
use Rattle.book.specs.FiledRows.{filed_fit, same_side}
use Rattle.book.specs.declared.filed_row.FiledKind.{FiledKind}
use Rattle.book.specs.declared.filed_row.FiledKind.TheVariants.{Trade, Match}
use Rattle.book.specs.declared.filed_row.FiledRow.{FiledRow}
use Rattle.book.specs.declared.filed_row.Flag.{Flag}
use Rattle.energy.specs.declared.side.Side.{Side}
use Rattle.energy.specs.declared.side.Side.TheVariants.{Northern, Southern}
use Rattle.nomination.specs.Texts.{line_text}
use Rattle.nomination.specs.Values.{DetailValues, RecordValues, heading, trading, matching, writable}
use Rattle.nomination.specs.Writing.{over}
use Rattle.register.specs.Parties.{Parties, found}
use Rattle.register.specs.declared.registered.Registered.{Registered}
use Rattle.intake.specs.declared.refusal.WriteRefusal.{WriteRefusal}
use Rattle.intake.specs.declared.refusal.WriteRefusal.TheVariants.{NoRoom}

-- The party that files an entry stands on its filer's side.
abbrev pub number_on : Side → FiledRow → ℕ
number_on Northern row = row.north
number_on Southern row = row.south

-- An entry is a party's own where the party filed it; rows that are no entries are nobody's.
abbrev pub is_own : Option Registered → FiledRow → Bool
is_own None row = false
is_own (Some who) row = filed_fit row && (same_side row.filer who.side && number_on who.side row == who.number)

-- A trade says its flag, and a match none.
abbrev pub kind_said : FiledKind → Flag → DetailValues → RecordValues
kind_said Trade flag d = trading d flag
kind_said Match flag d = matching d

-- What is there goes on, and otherwise there is nothing.
abbrev pub and_then : {X Y : Type 0} → Option X → (X → Option Y) → Option Y
and_then None next = None
and_then (Some x) next = next x

-- What an entry says in a file, by its parties' codes, where both are registered and a file can write it.
abbrev pub entry_said : Parties → FiledRow → Option RecordValues
entry_said ps row =
    and_then (slice_get ps.northern row.north) (λ a.
    and_then (slice_get ps.southern row.south) (λ b.
    and_then (writable row.period a.code b.code row.ns row.sn) (λ d. Some (kind_said row.kind row.flag d))))

abbrev pub said_text : Option RecordValues → List ℕ
said_text None = []
said_text (Some v) = line_text v

-- An entry's line.
unfoldable pub entry_text : Parties → FiledRow → List ℕ
entry_text ps row = said_text (entry_said ps row)

-- The lines of a party's own entries, in the order of the book.
unfoldable pub entries_text : Parties → Option Registered → List FiledRow → List ℕ
entries_text ps who rows = flat_map (entry_text ps) (filter (is_own who) rows)

-- The header of a party's file, as its first version.
abbrev pub head_text : List ℕ → ℕ → List ℕ
head_text text day = line_text (heading (record { version = 1; filer = text; date = day }))

-- A party's file: the header, and the lines of its own entries.
abbrev pub file_text : Parties → List ℕ → ℕ → List FiledRow → List ℕ
file_text ps text day rows = head_text text day ++ entries_text ps (found text ps) rows

-- A text of at most 65,536 bytes is written at the start of a buffer that it fits into, and its length answered; otherwise nothing is.
abbrev pub written_file : List ℕ → List ℕ → List ℕ × Result ℕ WriteRefusal
written_file text buffer =
    cond (nat_le (length text) 65536 && nat_le (length text) (length buffer)) (over buffer 0 text, Ok (length text)) (buffer, Err NoRoom)
