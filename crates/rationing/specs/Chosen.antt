-- A rule that is chosen at run time.
use Rattle.std.specs.Prelude.{List}
use Rattle.energy.specs.declared.unit.Kwh.{Kwh}
use Rattle.rationing.specs.declared.chosen_rule.ChosenRule.{ChosenRule}
use Rattle.rationing.specs.declared.chosen_rule.ChosenRule.TheVariants.{Register, Running}
use Rattle.rationing.specs.Register.{register}
use Rattle.rationing.specs.Running.{running}

-- A chosen rule means what the rule means that was chosen.
abbrev pub chosen : ChosenRule → Kwh → List Kwh → List Kwh
chosen (Register rule) = register
chosen (Running rule) = running
