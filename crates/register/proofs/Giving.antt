-- What a list of parties is seen as, once an entitlement is given.
use Rattle.std.proofs.Common.{◌≡◌, ℕ, zero, suc, ◌<◌, List, [], ◌∷◌, length, get_or, set, ap, arith}
use Rattle.energy.specs.PartyCodes.{code_text}
use Rattle.energy.specs.declared.unit.Mw.{Mw}
use Rattle.register.specs.Parties.{PartyView, entitled_at}
use Rattle.register.specs.Rolls.{party_view, views_of}
use Rattle.register.specs.declared.party.Party.{Party}

pub given_at : (ps : List Party) (k : ℕ) (p : Party) (m : Mw) → k < length ps → p ≡ get_or ps k p → views_of (set ps k (record { code = p.code; entitlement = m })) ≡ entitled_at k m (views_of ps)
given_at [] k p m h e = absurd (omega arith)
given_at (q ∷ ps) zero p m h e = ap (λ (x : Party). let v : PartyView = record { code = code_text x.code; entitlement = m } in v ∷ views_of ps) e
given_at (q ∷ ps) (suc k) p m h e = ap (λ (vs : List PartyView). party_view q ∷ vs) (given_at ps k p m (omega arith) e)
