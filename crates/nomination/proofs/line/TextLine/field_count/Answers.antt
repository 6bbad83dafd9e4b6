use Rattle.std.proofs.Common.{length, ap, inl, ◌∙◌, arith}
use Rattle.std.proofs.lemmas.Iterator.Consumers.{YieldsList-from_first, count_from_yields_List}
use Rattle.nomination.proofs.Fielding.{fields_few, parts_count}
use Rattle.nomination.specs.FieldsLeft.{fields_left}
use Rattle.nomination.specs.Lines.{fields_of}
use Rattle.nomination.specs.Parts.{part_seen, parts_from}
use Rattle.nomination.proofs.line.TextLine.field_count.Goals as goal

pub count-requires-clause-fits : goal.count-requires-clause-fits
count-requires-clause-fits c =
    let bytes = c.args.self.now.bytes.now in
    inl (omega (arith, fields_few bytes, parts_count c.args.self.now.at (fields_of bytes), ap length c.fields.ensures))

pub returns : goal.returns
returns c =
    let base = c.args.self.now.at in
    let fields = fields_of c.args.self.now.bytes.now in
    count_from_yields_List c.fields.result c.count.result c.count.ensures.ran (YieldsList-from_first part_seen fields_left (parts_from base fields) c.fields.ensures) ∙ parts_count base fields
