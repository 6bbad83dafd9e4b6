use Rattle.nomination.proofs.LineBack.{written_back}
use Rattle.nomination.proofs.write.write_line.Goals as goal

pub returns-clause-back : goal.returns-clause-back
returns-clause-back c n = written_back c.args.values c.args.out.now c.write.new.out c.args.at n c.write.result (rw (← c.of.ensures) c.write.ensures)
