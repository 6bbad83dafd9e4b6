use Rattle.std.proofs.Common.{rules, ℕ, ◌+◌, List, ap, ◌∙◌}
use Rattle.std.proofs.lemmas.Result.{err_from_is_err_and}
use Rattle.energy.specs.PartyCodes.{code_text}
use Rattle.nomination.specs.Marks.{place_of}
use Rattle.intake.specs.Intake.{day_of, space_of}
use Rattle.intake.specs.Noting.{head_of}
use Rattle.intake.proofs.Heading.{file_refused, file_done, used_most}
use Rattle.intake.proofs.file.take_file.Goals as goal

pub returns-in_err-filer : goal.returns-in_err-filer
returns-in_err-filer c =
    let rows = c.args.rows.now in
    let day = day_of c.args.register.now c.args.terms in
    let bytes = c.args.text.now in
    let p = err_from_is_err_and c.from_residual.result c.from_residual.ensures.1 in
    let most = used_most rows c.args.used in
    let head = c.in_err-filer.ensures.filer ∙ ap (head_of day) c.over-reader.ensures.text in
    rw (p.1, p.2, most) (file_refused day bytes (space_of rows) _ c.in_err-filer.field-0.0 head)

pub returns : goal.returns
returns c =
    let rows = c.args.rows.now in
    let day = day_of c.args.register.now c.args.terms in
    let bytes = c.args.text.now in
    let begun = c.over-reader.ensures.text in
    let took = c.in_ok-filer.ensures in
    let last = c.take_header.new.reader in
    let done = file_done day (code_text c.in_ok-filer.filer) rows c.over.result.rows.now c.take_lines.new.filed.rows.now c.args.used c.over.result.used last.line last.at last.text.now bytes
    c.take_lines.result c.take_lines.ensures.answer c.over.ensures.rows c.over.ensures.used took.place.1 (took.place.0 ∙ ap (λ (t : List ℕ). place_of 10 t 0 + 1) begun)
    (took.text ∙ begun) (took.filer ∙ ap (head_of day) begun) in
    search rules
