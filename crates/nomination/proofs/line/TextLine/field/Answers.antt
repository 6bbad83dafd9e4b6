use Rattle.std.proofs.Common.{◌+◌, length, [], ap, ◌∙◌, arith}
use Rattle.std.proofs.lemmas.Option.{unwrap_or-slice_get}
use Rattle.std.proofs.lemmas.Iterator.Consumers.{YieldsList-from_first, nth_from_yields_List}
use Rattle.nomination.proofs.Fielding.{fields_whole, parts_at, seen_or}
use Rattle.nomination.specs.FieldsLeft.{fields_left}
use Rattle.nomination.specs.Lines.{fields_of}
use Rattle.nomination.specs.Parts.{TextPart, part_seen, parts_from}
use Rattle.nomination.proofs.line.TextLine.field.Goals as goal

pub returns : goal.returns
returns c =
    let base = c.args.self.now.at in
    let bytes = c.args.self.now.bytes.now in
    let fields = fields_of bytes in
    let none : TextPart = record { bytes = []; at = base + length bytes + 1 } in
    let nth = nth_from_yields_List c.nth.result _ c.args.index c.nth.ensures.ran (YieldsList-from_first part_seen fields_left (parts_from base fields) c.fields.ensures) in
    let whole = fields_whole bytes in
    ap part_seen c.unwrap_or.ensures ∙ seen_or c.nth.result _ _ nth ∙ unwrap_or-slice_get (parts_from base fields) c.args.index none ∙ parts_at base fields c.args.index none (grind arith)
