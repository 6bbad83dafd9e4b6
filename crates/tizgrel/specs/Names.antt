-- The rules that a user can choose by name.
use Rattle.rationing.specs.declared.chosen_rule.ChosenRule.{ChosenRule}
use Rattle.rationing.specs.declared.chosen_rule.ChosenRule.TheVariants.{Register, Running}

-- The register rule, under the word register.
abbrev pub register_chosen : ChosenRule
register_chosen = Register record {}

-- The running rule, under the word running.
abbrev pub running_chosen : ChosenRule
running_chosen = Running record {}
