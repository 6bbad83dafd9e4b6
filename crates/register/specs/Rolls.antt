-- What the parties that the program holds stand for.
use Rattle.std.specs.Prelude.{ℕ, Bool, List, map}
use Rattle.arrayvec.specs.ArrayVec.{ArrayVec}
use Rattle.energy.specs.Codes.{same_code}
use Rattle.energy.specs.PartyCodes.{code_text}
use Rattle.register.specs.Parties.{PartyView, Parties}
use Rattle.register.specs.declared.party.Party.{Party}

-- A party is its code and its entitlement.
abbrev pub party_view : Party → PartyView
party_view p = record { code = code_text p.code; entitlement = p.entitlement }

-- A party is looked for by its code.
abbrev pub has_code : List ℕ → Party → Bool
has_code text p = same_code (code_text p.code) text

-- Parties are seen in their order.
abbrev pub views_of : List Party → List PartyView
views_of parties = map party_view parties

-- The parties of a side are those that its list holds.
abbrev pub roll_of : ArrayVec Party → List PartyView
roll_of x = views_of x.items

-- The parties of both sides.
abbrev pub parties_in : ArrayVec Party → ArrayVec Party → Parties
parties_in n s = record { northern = roll_of n; southern = roll_of s }
