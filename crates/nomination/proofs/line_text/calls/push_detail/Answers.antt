use Rattle.std.proofs.Common.{append_assoc, arith}
use Rattle.nomination.proofs.line_text.calls.push_detail.Goals as goal

pub returns : goal.returns
returns c =
    rw (c.push_amount-2.ensures, c.push_amount.ensures, c.push_code-2.ensures, c.push_code.ensures, c.push_plain.ensures, c.from.ensures, c.push.ensures.ascii (omega arith))
    (simp append_assoc)
