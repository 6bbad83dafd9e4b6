-- The refusal of a writer.
use Rattle.std.specs.Prelude.{ℕ}
use Rattle.intake.specs.declared.refusal.WriteRefusal.{WriteRefusal}
use Rattle.intake.specs.declared.refusal.WriteRefusal.TheVariants.{NoRoom}

-- A text that passes 65,536 bytes or the buffer is 21.
abbrev pub write_number : WriteRefusal → ℕ
write_number NoRoom = 21
