use Rattle.std.proofs.Common.{◌≡◌, ◌-◌, ◌≤◌, length, take, drop}
use Rattle.energy.specs.PartyCodes.{code_text}
use Rattle.nomination.specs.Lines.{lines_of}
use Rattle.intake.specs.Filing.{take_lines}
use Rattle.intake.specs.Intake.{day_of, space_of}
use Rattle.intake.proofs.filing.Filing.take_lines.Given as goal

abbrev pub invariant-loop-reader : goal.invariant-loop-reader
invariant-loop-reader l =
    (l.initial.filed.used ≤ l.filed.used) × (length l.filed.rows.now ≡ length l.initial.filed.rows.now)
    × (take l.initial.filed.used l.filed.rows.now ≡ take l.initial.filed.used l.initial.filed.rows.now)
    × (l.reader.text.now ≡ l.from.text.now)
    × (length l.from.text.now ≤ 65536)
    × (l.filed.rows.ghost_name ≡ l.initial.filed.rows.ghost_name)
    × (take_lines (day_of l.self.day.register.now l.self.day.terms) (code_text l.self.filer) (space_of l.initial.filed.rows.now) l.reader.line (take l.filed.used l.filed.rows.now)
    (lines_of (drop l.reader.at l.from.text.now))
    ≡ take_lines (day_of l.self.day.register.now l.self.day.terms) (code_text l.self.filer) (space_of l.initial.filed.rows.now) l.from.line (take l.initial.filed.used l.initial.filed.rows.now)
    (lines_of (drop l.from.at l.from.text.now)))

abbrev pub decreases-loop-reader : goal.decreases-loop-reader
decreases-loop-reader l = length l.from.text.now - l.reader.at
