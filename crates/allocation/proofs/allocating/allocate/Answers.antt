use Rattle.energy.specs.declared.direction.Direction.TheVariants.{NorthSouth, SouthNorth}
use Rattle.allocation.specs.Filings.{period_in}
use Rattle.allocation.proofs.Flow.{lawful}
use Rattle.allocation.proofs.Tabulating.{way_is, sound_with, exchanged, shown_is, matches_fit, sn_nil, match_nil, each_way}
use Rattle.allocation.proofs.allocating.allocate.Goals as goal

pub north_south-ns-requires : goal.north_south-ns-requires
north_south-ns-requires g c =
    let f = c.figures_of-figures.ensures in
    sound_with c.args.terms.now c.args.rows.now c.args.period NorthSouth _ _ _ f.ns f.sn f.matches

pub south_north-sn-requires : goal.south_north-sn-requires
south_north-sn-requires g c =
    let t = c.args.terms.now in
    let rows = c.args.rows.now in
    let p = c.args.period in
    let f = c.figures_of-figures.ensures in
    record { trades = sn_nil rows p _ f.sn; matches = match_nil t rows p _ f.matches; sound = sound_with t rows p SouthNorth _ _ _ f.ns f.sn f.matches }

pub allocate_way-requires : goal.allocate_way-requires
allocate_way-requires g c =
    let t = c.args.terms.now in
    let rows = c.args.rows.now in
    let p = c.args.period in
    let f = c.figures_of-figures.ensures in
    exchanged t rows p NorthSouth _ _ (way_is t rows p NorthSouth _ _ _ _ c.north_south-ns.ensures f.ns f.sn f.matches) (way_is t rows p SouthNorth _ _ _ _ c.south_north-sn.ensures f.ns f.sn f.matches)

pub allocate_way-requires-2 : goal.allocate_way-requires-2
allocate_way-requires-2 g c =
    let t = c.args.terms.now in
    let rows = c.args.rows.now in
    let p = c.args.period in
    let f = c.figures_of-figures.ensures in
    exchanged t rows p SouthNorth _ _ (way_is t rows p SouthNorth _ _ _ _ c.south_north-sn.ensures f.ns f.sn f.matches) (way_is t rows p NorthSouth _ _ _ _ c.north_south-ns.ensures f.ns f.sn f.matches)

pub returns : goal.returns
returns g c =
    let rule = g.R.RationingRule.awards c.args.rule.now in
    let t = c.args.terms.now in
    let rows = c.args.rows.now in
    let p = c.args.period in
    let f = c.figures_of-figures.ensures in
    let ns = way_is t rows p NorthSouth _ _ _ _ c.north_south-ns.ensures f.ns f.sn f.matches in
    let sn = way_is t rows p SouthNorth _ _ _ _ c.south_north-sn.ensures f.ns f.sn f.matches in
    record {
      shown = each_way _
          (shown_is rule t rows p NorthSouth _ _ c.allocate_way.result ns sn c.allocate_way.ensures)
          (shown_is rule t rows p SouthNorth _ _ c.allocate_way-2.result sn ns c.allocate_way-2.ensures);
      law = lawful rule (g.met.R.RationingRule.quota c.args.rule.now) (period_in t rows p) (matches_fit t rows p);
    }
