use Rattle.std.proofs.Common.{ap, ◌∙◌, ◌++◌, append_assoc, arith}
use Rattle.nomination.specs.LastDigits.{last_digits}
use Rattle.nomination.proofs.FieldTexting.{three_digits, date_digits}
use Rattle.nomination.proofs.line_text.calls.push_fields.Goals as goal

pub returns-in-Heading : goal.returns-in-Heading
returns-in-Heading c =
    let version = three_digits c.in-Heading.header.version in
    let date = date_digits c.in-Heading.header.date in
    let first = c.push_digits.ensures ∙ ap (λ n. c.push_str.new.self.bytes ++ last_digits 3 n) c.from.ensures ∙ ap (λ t. c.push_str.new.self.bytes ++ t) version in
    let last = c.push_digits-in-Heading.ensures ∙ ap (λ n. c.push.new.self.bytes ++ last_digits 8 n) c.from-in-Heading.ensures ∙ ap (λ t. c.push.new.self.bytes ++ t) date in
    rw (c.in-Heading.is, last, c.push.ensures.ascii (omega arith), c.push_code.ensures, first, c.push_str.ensures.bytes)
    (simp append_assoc)

pub returns-in-Trading : goal.returns-in-Trading
returns-in-Trading c =
    rw (c.in-Trading.is, c.push_flag.ensures, c.push_detail.ensures, c.push_str-in-Trading.ensures.bytes)
    (simp append_assoc)
