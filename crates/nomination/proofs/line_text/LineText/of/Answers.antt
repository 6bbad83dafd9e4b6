use Rattle.std.proofs.Common.{◌≡◌, ◌≤◌, [], ◌∷◌, ◌++◌, ◌∙◌, ap, refl, arith, length, length-append}
use Rattle.std.specs.Prelude.{encode_utf8}
use Rattle.nomination.specs.Texts.{parted, record_fields}
use Rattle.nomination.specs.ValuesHeld.{values_said}
use Rattle.nomination.proofs.FieldTexting.{line_short}
use Rattle.nomination.proofs.line_text.LineText.of.Goals as goal

pub push-requires : goal.push-requires
unfolding lib.Utf8.encode
push-requires c =
    let fields = parted (record_fields (values_said c.args.values)) in
    let short : length (fields ++ (10 ∷ [])) ≤ 36 = line_short c.args.values in
    let whole = length-append fields (10 ∷ []) in
    let same = ap length (c.push_fields.ensures ∙ ap (λ t. t ++ fields) c.new-text.ensures) in
    let one : length (encode_utf8 10) ≡ 1 = refl in
    (omega arith, omega arith)
