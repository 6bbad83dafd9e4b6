-- What a record of the program shows.
use Rattle.std.specs.Option.{option_map as mapped_some}
use Rattle.std.specs.Result.{result_map_both}
use Rattle.std.specs.Prelude.{Option, Result}
use Rattle.nomination.specs.Parts.{part_seen}
use Rattle.nomination.specs.Records.{HeaderText, DetailText, RecordText, header, trade, matched}
use Rattle.nomination.specs.declared.fault.TextFault.{TextFault}
use Rattle.nomination.specs.declared.record.DetailParts.{DetailParts}
use Rattle.nomination.specs.declared.record.HeaderParts.{HeaderParts}
use Rattle.nomination.specs.declared.part.Part.{Part}
use Rattle.nomination.specs.declared.record.RecordOf.{RecordOf}
use Rattle.nomination.specs.declared.record.RecordOf.TheVariants.{Heading, Trading, Matching}

-- A record as parts of the text.
abbrev pub Record : Type 0
Record = RecordOf HeaderParts DetailParts Part

abbrev pub header_seen : HeaderParts → HeaderText
header_seen h =
    record { file_type = part_seen h.file_type; version = part_seen h.version; filer = part_seen h.filer; date = part_seen h.date }

abbrev pub detail_seen : DetailParts → DetailText
detail_seen d =
    record { period = part_seen d.period; north = part_seen d.north; south = part_seen d.south; ns = part_seen d.ns; sn = part_seen d.sn }

abbrev pub record_seen : Record → RecordText
record_seen (Heading h) = header (header_seen h)
record_seen (Trading d flag) = trade (detail_seen d) (part_seen flag)
record_seen (Matching d) = matched (detail_seen d)

-- A record or a fault, as the record shows it.
abbrev pub line_seen : Result Record TextFault → Result RecordText TextFault
line_seen r = result_map_both record_seen (λ e. e) r

abbrev pub answer_seen : Result (Option Record) TextFault → Result (Option RecordText) TextFault
answer_seen r = result_map_both (mapped_some record_seen) (λ e. e) r
