-- Registering parties and assigning entitlements.
use Rattle.std.specs.Prelude.{ℕ, cond, List, length, is_some, Some, None, Ok, Err, Option, Result}
use Rattle.energy.specs.Codes.{code_read}
use Rattle.energy.specs.declared.side.Side.{Side}
use Rattle.energy.specs.declared.unit.Mw.{Mw}
use Rattle.register.specs.Limits.{mw_within}
use Rattle.register.specs.Parties.{Parties, on, changed, found, has_room, joined_by, entitled_at}
use Rattle.register.specs.declared.refusal.AssignmentRefusal.{AssignmentRefusal}
use Rattle.register.specs.declared.refusal.AssignmentRefusal.TheVariants.{NotRegistered, OverLimit}
use Rattle.register.specs.declared.refusal.RegistrationRefusal.{RegistrationRefusal}
use Rattle.register.specs.declared.refusal.RegistrationRefusal.TheVariants.{MalformedCode, CodeTaken, SideFull}

-- What is there goes on to the next question, and what is not there is refused.
abbrev pub given : {X Y : Type 0} → Option X → Y → (X → Y) → Y
given None refused next = refused
given (Some x) refused next = next x

-- A party is registered under a well-formed code that no party of either side has yet, where its side has room, asked in
-- this order; it is then the last of its side, and its number is how many there were before.
abbrev pub registration : Side → List ℕ → Parties → Parties × Result ℕ RegistrationRefusal
registration s text ps =
    given (code_read text) (ps, Err MalformedCode) (λ c.
    cond (is_some (found c ps)) (ps, Err CodeTaken) (
    cond (has_room (on s ps)) (changed s (joined_by c) ps, Ok (length (on s ps))) (ps, Err SideFull)))

-- The registered party with a code is given an entitlement within the limit, and the last one given stands.
abbrev pub assignment : List ℕ → Mw → Parties → Parties × Result (Unit {0}) AssignmentRefusal
assignment text m ps =
    given (found text ps) (ps, Err NotRegistered) (λ place.
    cond (mw_within m) (changed place.side (entitled_at place.number m) ps, Ok tt) (ps, Err OverLimit))
