-- The numbers under which members know the refusals.
use Rattle.std.specs.Prelude.{ℕ}
use Rattle.register.specs.declared.refusal.AssignmentRefusal.{AssignmentRefusal}
use Rattle.register.specs.declared.refusal.AssignmentRefusal.TheVariants as assignment
use Rattle.register.specs.declared.refusal.OverLimit.{OverLimit}
use Rattle.register.specs.declared.refusal.RegistrationRefusal.{RegistrationRefusal}
use Rattle.register.specs.declared.refusal.RegistrationRefusal.TheVariants.{MalformedCode, CodeTaken, SideFull}

-- The refusal of a figure above its limit.
abbrev pub over_limit : OverLimit
over_limit = record {}

-- A figure above its limit is refused with 10.
abbrev pub over_limit_number : OverLimit → ℕ
over_limit_number x = 10

-- A malformed code is refused with 4, a code that a party has already with 5, and a party for a full side with 6.
abbrev pub registration_number : RegistrationRefusal → ℕ
registration_number MalformedCode = 4
registration_number CodeTaken = 5
registration_number SideFull = 6

-- An entitlement for a party that is not registered is refused with 7, and one above the limit as any such figure.
abbrev pub assignment_number : AssignmentRefusal → ℕ
assignment_number assignment.NotRegistered = 7
assignment_number assignment.OverLimit = over_limit_number over_limit
