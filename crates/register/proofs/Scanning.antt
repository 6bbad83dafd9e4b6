-- The first party with a code, as a scan of the parties finds it.
use Rattle.std.proofs.Common.{◌≡◌, ℕ, ◌+◌, cond, List, [], ◌∷◌, Some, refl, ap, ◌∙◌}
use Rattle.std.proofs.lemmas.Iterator.Adapters.{position_from-zero}
use Rattle.std.specs.List.{position, position_from}
use Rattle.register.specs.Parties.{codes_of, place_from, number_in}
use Rattle.register.specs.Rolls.{views_of, has_code}
use Rattle.register.specs.declared.party.Party.{Party}

scan : (n : ℕ) (text : List ℕ) (ps : List Party) → position_from (has_code text) n ps ≡ place_from n text (codes_of (views_of ps))
scan n text [] = refl
scan n text (p ∷ ps) = ap (cond (has_code text p) (Some n)) (scan (n + 1) text ps)

pub scanned : (text : List ℕ) (ps : List Party) → position (has_code text) ps ≡ number_in text (views_of ps)
scanned text ps = position_from-zero (has_code text) ps ∙ scan 0 text ps
