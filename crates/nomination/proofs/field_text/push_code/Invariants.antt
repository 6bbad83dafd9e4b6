use Rattle.std.proofs.Common.{◌≡◌, ◌++◌, take}
use Rattle.nomination.proofs.field_text.push_code.Given as goal

abbrev pub invariant-loop-byte : goal.invariant-loop-byte
invariant-loop-byte l = l.text.bytes ≡ l.initial.text.bytes ++ take l.byte-index l.byte-items
