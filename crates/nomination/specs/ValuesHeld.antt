-- What the values of the program stand for.
use Rattle.std.specs.Result.{result_map_both}
use Rattle.std.specs.Prelude.{Result}
use Rattle.energy.specs.PartyCodes.{code_text}
use Rattle.nomination.specs.Values.{HeaderValues, DetailValues, RecordValues, heading, trading, matching}
use Rattle.nomination.specs.declared.detail.Detail.{Detail}
use Rattle.nomination.specs.declared.fault.TextFault.{TextFault}
use Rattle.nomination.specs.declared.header.Header.{Header}
use Rattle.book.specs.declared.filed_row.Flag.{Flag}
use Rattle.nomination.specs.declared.record.RecordOf.{RecordOf}
use Rattle.nomination.specs.declared.record.RecordOf.TheVariants.{Heading, Trading, Matching}

-- The values of a record.
abbrev pub Values : Type 0
Values = RecordOf Header Detail Flag

abbrev pub header_said : Header → HeaderValues
header_said h = record { version = h.version; filer = code_text h.filer; date = h.date }

abbrev pub detail_said : Detail → DetailValues
detail_said d = record { period = d.period; north = code_text d.north; south = code_text d.south; ns = d.ns; sn = d.sn }

abbrev pub values_said : Values → RecordValues
values_said (Heading h) = heading (header_said h)
values_said (Trading d flag) = trading (detail_said d) flag
values_said (Matching d) = matching (detail_said d)

-- A value or a fault, as the value says it.
abbrev pub said : {X Y : Type 0} → (X → Y) → Result X TextFault → Result Y TextFault
said f r = result_map_both f (λ e. e) r
