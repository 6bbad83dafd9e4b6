-- What a file's day and filer in the program stand for.
use Rattle.std.specs.Prelude.{ℕ, List}
use Rattle.energy.specs.PartyCodes.{code_text}
use Rattle.intake.specs.Filing.{FileDay}
use Rattle.intake.specs.Intake.{day_of}
use Rattle.intake.specs.declared.asked_day.AskedDay.{AskedDay}
use Rattle.intake.specs.declared.filing.Filing.{Filing}

-- A day is what its register and terms stand for.
abbrev pub day_asked : AskedDay → FileDay
day_asked d = day_of d.register.now d.terms

-- The party that files is its code.
abbrev pub filer_asked : Filing → List ℕ
filer_asked f = code_text f.filer
