-- The parties of both sides, in the order in which they were registered.
use Rattle.std.specs.Prelude.{ℕ, ◌+◌, Bool, true, cond, not, ◌&&◌, List, [], ◌∷◌, ◌++◌, map, length, Some, None, Option, nat_le, nat_lt, slice_index_or, slice_set}
use Rattle.std.specs.Option.{option_map, option_or}
use Rattle.std.specs.List.{list_all}
use Rattle.energy.specs.Codes.{same_code}
use Rattle.energy.specs.Units.{mw}
use Rattle.energy.specs.declared.side.Side.{Side}
use Rattle.energy.specs.declared.side.Side.TheVariants.{Northern, Southern}
use Rattle.energy.specs.declared.unit.Mw.{Mw}
use Rattle.register.specs.Limits.{most_parties, mw_within}
use Rattle.register.specs.declared.registered.Registered.{Registered}

-- A party has a code of four characters and an entitlement for the day.
pub record PartyView : Type 0 where
  pub code : List ℕ
  pub entitlement : Mw

-- A side's parties are numbered from 0 in the order in which they were registered.
pub record Parties : Type 0 where
  pub northern : List PartyView
  pub southern : List PartyView

-- At first nobody is registered.
abbrev pub no_parties : Parties
no_parties = record { northern = []; southern = [] }

-- A new party has no entitlement.
abbrev pub new_party : List ℕ → PartyView
new_party text = record { code = text; entitlement = mw 0 }

-- The parties of a side.
abbrev pub on : Side → Parties → List PartyView
on Northern ps = ps.northern
on Southern ps = ps.southern

-- Another list takes the place of a side's parties, and the other side stays.
abbrev pub changed : Side → (List PartyView → List PartyView) → Parties → Parties
changed Northern f ps = record { northern = f ps.northern; southern = ps.southern }
changed Southern f ps = record { northern = ps.northern; southern = f ps.southern }

-- The codes of a list of parties.
abbrev pub codes_of : List PartyView → List (List ℕ)
codes_of ps = map (λ p. p.code) ps

-- The place of the first code that is the same as a code, counted from n.
abbrev pub place_from : ℕ → List ℕ → List (List ℕ) → Option ℕ
place_from n text [] = None
place_from n text (c ∷ cs) = cond (same_code c text) (Some n) (place_from (n + 1) text cs)

-- The number of the party with a code among the parties of a side.
abbrev pub number_in : List ℕ → List PartyView → Option ℕ
number_in text ps = place_from 0 text (codes_of ps)

-- A party's place is its side and its number there.
abbrev pub placed : Side → ℕ → Registered
placed s n = record { side = s; number = n }

-- The party with a code is looked for on the Northern side, and then on the Southern side.
abbrev pub found : List ℕ → Parties → Option Registered
found text ps = option_or (option_map (placed Northern) (number_in text ps.northern)) (option_map (placed Southern) (number_in text ps.southern))

-- A side takes one more party while it has fewer than 16.
abbrev pub has_room : List PartyView → Bool
has_room ps = nat_lt (length ps) most_parties

-- A new party stands behind the others of its side.
abbrev pub joined_by : List ℕ → List PartyView → List PartyView
joined_by text ps = ps ++ (new_party text ∷ [])

-- The party with a number is given an entitlement, in the place of any that it had.
abbrev pub entitled_at : ℕ → Mw → List PartyView → List PartyView
entitled_at k m ps = slice_set ps k (record { code = (slice_index_or ps k (new_party [])).code; entitlement = m })

-- A side has at most 16 parties.
abbrev pub sides_few : Parties → Bool
sides_few ps = nat_le (length ps.northern) most_parties && nat_le (length ps.southern) most_parties

-- No two members of a list are the same by a test.
abbrev pub is_distinct : {X : Type 0} → (X → X → Bool) → List X → Bool
is_distinct same [] = true
is_distinct same (x ∷ xs) = list_all (λ y. not (same x y)) xs && is_distinct same xs

-- No code stands twice on both sides together.
abbrev pub codes_apart : Parties → Bool
codes_apart ps = is_distinct same_code (codes_of ps.northern ++ codes_of ps.southern)

-- No entitlement is above its limit.
abbrev pub entitlements_within : Parties → Bool
entitlements_within ps = list_all (λ p. mw_within p.entitlement) (ps.northern ++ ps.southern)
