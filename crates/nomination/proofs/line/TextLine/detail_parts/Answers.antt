use Rattle.std.proofs.Common.{◌∷◌, sym, ap, ◌∙◌}
use Rattle.nomination.specs.FieldsLeft.{fields_left}
use Rattle.nomination.specs.Lines.{fields_of}
use Rattle.nomination.specs.Parts.{part_seen}
use Rattle.nomination.proofs.Fielding.{parts_six}
use Rattle.nomination.proofs.line.TextLine.detail_parts.Goals as goal

pub returns : goal.returns
returns c =
    let base = c.args.self.now.at in
    let fs = fields_of c.args.self.now.bytes.now in
    let kind = part_seen c.in_ok-_kind._kind in
    let period = part_seen c.in_ok-period.period in
    let north = part_seen c.in_ok-north.north in
    let south = part_seen c.in_ok-south.south in
    let ns = part_seen c.in_ok-ns.ns in
    let sn = part_seen c.in_ok-sn.sn in
    let first = c.in_ok-_kind.ensures.steps ∙ ap (λ r. kind ∷ r) c.in_ok-period.ensures.steps ∙ ap (λ r. kind ∷ period ∷ r) c.in_ok-north.ensures.steps in
    let last = c.in_ok-south.ensures.steps ∙ ap (λ r. south ∷ r) c.in_ok-ns.ensures.steps ∙ ap (λ r. south ∷ ns ∷ r) c.in_ok-sn.ensures.steps in
    parts_six base fs kind period north south ns sn (fields_left c.next-6.new.self) (sym c.fields-fields.ensures ∙ first ∙ ap (λ r. kind ∷ period ∷ north ∷ r) last)
