use Rattle.allocation.proofs.Sharing.{answered}
use Rattle.allocation.proofs.share.share.Goals as goal

pub returns : goal.returns
returns g c =
    answered (g.R.RationingRule.awards c.args.rule.now) c.args.amount c.args.claims.now c.ration.new.out c.requires.few c.requires.small c.ration.ensures.written
