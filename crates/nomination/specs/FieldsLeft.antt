-- The fields that are left to give.
use Rattle.std.specs.Prelude.{List, []}
use Rattle.std.specs.Option.{option_map_or}
use Rattle.nomination.specs.Lines.{fields_of}
use Rattle.nomination.specs.Parts.{TextPart, parts_from}
use Rattle.nomination.specs.declared.line.fields.Fields.{Fields}

-- Those of what is left of the line, and none once the last was given.
abbrev pub fields_left : Fields → List TextPart
fields_left s = option_map_or (λ rest. parts_from rest.at (fields_of rest.bytes.now)) s.rest []
