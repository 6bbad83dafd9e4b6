use Rattle.std.proofs.Common.{ap, ◌∙◌}
use Rattle.nomination.proofs.Saying.{said_from, said_next_lem}
use Rattle.nomination.proofs.reader.LineReader.next_values.Goals as goal

pub returns-clause-answer : goal.returns-clause-answer
returns-clause-answer c =
    let self = c.args.self.now in
    let read = c.read_next.ensures in
    let said = ap (said_from self.line) c.next.ensures.answer ∙ said_next_lem self.text.now self.at self.line in
    cc
