use Rattle.std.proofs.Common.{sym, ◌∙◌}
use Rattle.nomination.proofs.Bounding.{version_bounds, date_bound}
use Rattle.nomination.proofs.header.Header.read.Goals as goal

pub invariant_of-result : goal.invariant_of-result
invariant_of-result c =
    let version = version_bounds c.args.parts.version.bytes.now c.in_ok-ok_or.field-0
    (sym c.read_version.ensures ∙ c.in_ok-ok_or.ensures.ok_part) in
    let date = date_bound c.args.parts.date.bytes.now c.in_ok-ok_or-3.field-0
    (sym c.read_date.ensures ∙ c.in_ok-ok_or-3.ensures.ok_part) in
    record { first = version.0; last = version.1; digits = date }
