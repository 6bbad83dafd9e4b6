use Rattle.std.proofs.Common.{arith}
use Rattle.std.proofs.lemmas.Grind.{common_steps}
use Rattle.nomination.proofs.Lining.{line_reaches}
use Rattle.nomination.proofs.reader.LineReader.next.Goals as goal

pub returns-clause-answer : goal.returns-clause-answer
returns-clause-answer c =
    let self = c.args.self.now in
    let long = line_reaches self.text.now self.at (omega arith) in
    grind (arith, common_steps)
