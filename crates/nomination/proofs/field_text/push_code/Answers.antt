use Rattle.std.proofs.Common.{◌≡◌, ◌<◌, [], ◌∷◌, ◌++◌, ◌∙◌, sym, ap, append_assoc, arith, slice_index_or, take}
use Rattle.std.proofs.lemmas.List.{take_more}
use Rattle.nomination.proofs.FieldTexting.{code_small}
use Rattle.nomination.proofs.field_text.push_code.Goals as goal

pub loop-byte-preserved : goal.loop-byte-preserved
loop-byte-preserved c =
    let items = c.bytes-byte-items.result in
    let byte = slice_index_or items c.loop-byte.byte-index 0 in
    let more = take_more items c.loop-byte.byte-index 0 (omega arith) in
    let small : byte < 128 = code_small c.args.code items c.loop-byte.byte-index (omega arith) c.bytes-byte-items.ensures c.loop-byte-test.true in
    let same : c.from.result ≡ byte = omega arith in
    c.push-in-loop-byte.ensures.ascii (omega arith) ∙ ap (λ b. c.loop-byte.text.bytes ++ b ∷ []) same
    ∙ ap (λ t. t ++ byte ∷ []) c.loop-byte.invariant ∙ append_assoc c.push.new.self.bytes (take c.loop-byte.byte-index items) (byte ∷ []) ∙ ap (λ t. c.push.new.self.bytes ++ t) (sym more)
