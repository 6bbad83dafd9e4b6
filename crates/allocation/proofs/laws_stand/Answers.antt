use Rattle.allocation.proofs.Flow.{lawful, flows_meet}
use Rattle.allocation.proofs.laws_stand.Goals as goal

pub returns : goal.returns
returns c = record { flow = lawful; meet = flows_meet }
