-- What is registered and assigned keeps the rules of a register.
use Rattle.std.proofs.Common.{◌≡◌, ℕ, zero, suc, ◌≤◌, Bool, true, false, not, List, [], ◌∷◌, ◌++◌, length, get_or, set, is_some, Some, None, Option, sym, refl, ap, subst, arith}
use Rattle.std.proofs.lemmas.List.{append_assoc, append-nil, map_push, length-set, length_push}
use Rattle.std.proofs.lemmas.Bool.Decides.{nat_tests}
use Rattle.std.proofs.lemmas.List.Folds.{list_all-append}
use Rattle.std.proofs.lemmas.Bool.{and_parts, and_from, ltb-true}
use Rattle.std.specs.Option.{option_map, option_or}
use Rattle.std.specs.List.{list_all}
use Rattle.energy.specs.Codes.{same_code}
use Rattle.energy.specs.declared.side.Side.{Side}
use Rattle.energy.specs.declared.side.Side.TheVariants.{Northern, Southern}
use Rattle.energy.specs.declared.unit.Mw.{Mw}
use Rattle.register.proofs.Finding.{New, new_from_none, same_flip}
use Rattle.register.proofs.Passing.{pass_change, pass_append, pass_parts}
use Rattle.register.specs.Limits.{mw_within}
use Rattle.register.specs.Parties.{is_distinct, PartyView, Parties, new_party, on, changed, codes_of, number_in, placed, found, has_room, joined_by, entitled_at, sides_few, codes_apart, entitlements_within}
use Rattle.register.specs.Registers.{parties_of}
use Rattle.register.specs.declared.register.Register.{Register}

-- a new code can stand anywhere among codes that are apart
apart_insert : (bs cs : List (List ℕ)) (text : List ℕ) → is_distinct same_code (cs ++ bs) ≡ true → New text (cs ++ bs) → is_distinct same_code (cs ++ (text ∷ bs)) ≡ true
apart_insert bs [] text e new = and_from (list_all (λ c. not (same_code text c)) bs) (is_distinct same_code bs) new e
apart_insert bs (a ∷ cs) text e new =
    let old = and_parts (list_all (λ c. not (same_code a c)) (cs ++ bs)) (is_distinct same_code (cs ++ bs)) e in
    let fresh = and_parts (not (same_code text a)) (list_all (λ c. not (same_code text c)) (cs ++ bs)) new in
    let parts = pass_parts (λ c. not (same_code a c)) cs bs old.0 in
    let flip = same_flip a text in
    let rest = apart_insert bs cs text old.1 fresh.1 in
    let all = list_all-append (λ c. not (same_code a c)) cs (text ∷ bs) in
    grind (arith, nat_tests)

neither : (o p : Option ℕ) → is_some (option_or (option_map (placed Northern) o) (option_map (placed Southern) p)) ≡ false → (o ≡ None) × (p ≡ None)
neither (Some n) p e = grind arith
neither None (Some n) e = grind arith
neither None None e = (refl, refl)

-- a code that nobody has is new among the codes of both sides
new_on_both : (text : List ℕ) (ps : Parties) → is_some (found text ps) ≡ false → New text (codes_of ps.northern ++ codes_of ps.southern)
new_on_both text ps e =
    let none = neither (number_in text ps.northern) (number_in text ps.southern) e in
    pass_append (λ c. not (same_code text c)) (codes_of ps.northern) (codes_of ps.southern)
    (new_from_none 0 text (codes_of ps.northern) none.0) (new_from_none 0 text (codes_of ps.southern) none.1)

codes_push : (qs : List PartyView) (text : List ℕ) → codes_of (joined_by text qs) ≡ codes_of qs ++ (text ∷ [])
codes_push qs text = map_push (λ (p : PartyView). p.code) qs (new_party text)

-- an entitlement changes no code
codes_entitled : (qs : List PartyView) (k : ℕ) (m : Mw) → codes_of (entitled_at k m qs) ≡ codes_of qs
codes_entitled [] k m = refl
codes_entitled (q ∷ qs) zero m = refl
codes_entitled (q ∷ qs) (suc k) m = ap (λ (cs : List (List ℕ)). q.code ∷ cs) (codes_entitled qs k m)

-- the rules that every register keeps
pub record Kept (ps : Parties) : Type 0 where
  pub few : sides_few ps ≡ true
  pub apart : codes_apart ps ≡ true
  pub within : entitlements_within ps ≡ true

pub keeps : (r : Register) → Kept (parties_of r)
keeps r = record { few = r.few; apart = r.apart; within = r.within }

abbrev pub entitled : PartyView → Bool
entitled p = mw_within p.entitlement

module _ (ps : Parties) (kept : Kept ps) where
  -- what the rules say of one side
  pub few_on : (s : Side) → length (on s ps) ≤ 16
  few_on Northern = let few = kept.few in grind (arith, nat_tests)
  few_on Southern = let few = kept.few in grind (arith, nat_tests)

  few_changed : (s : Side) (qs : List PartyView) → length qs ≤ 16 → sides_few (changed s (λ _. qs) ps) ≡ true
  few_changed Northern qs h = let few = few_on Southern in grind (arith, nat_tests)
  few_changed Southern qs h = let few = few_on Northern in grind (arith, nat_tests)

  pub within_on : (s : Side) → list_all entitled (on s ps) ≡ true
  within_on Northern = (pass_parts entitled ps.northern ps.southern kept.within).0
  within_on Southern = (pass_parts entitled ps.northern ps.southern kept.within).1

  within_changed : (s : Side) (qs : List PartyView) → list_all entitled qs ≡ true → entitlements_within (changed s (λ _. qs) ps) ≡ true
  within_changed Northern qs h = pass_append entitled qs ps.southern h (within_on Southern)
  within_changed Southern qs h = pass_append entitled ps.northern qs (within_on Northern) h

  apart_added : (s : Side) (text : List ℕ) → is_some (found text ps) ≡ false → codes_apart (changed s (λ _. joined_by text (on s ps)) ps) ≡ true
  apart_added Northern text e =
      let ns = codes_of ps.northern in
      let ss = codes_of ps.southern in
      rw (codes_push ps.northern text, append_assoc ns (text ∷ []) ss) (apart_insert ss ns text kept.apart (new_on_both text ps e))
  apart_added Southern text e =
      let ns = codes_of ps.northern in
      let ss = codes_of ps.southern in
      let whole = append-nil (ns ++ ss) in
      rw (codes_push ps.southern text, ← append_assoc ns ss (text ∷ [])) (apart_insert [] (ns ++ ss) text (rw whole kept.apart) (rw whole (new_on_both text ps e)))

  -- a new party on a side with room
  pub added_keeps : (s : Side) (text : List ℕ) (qs : List PartyView) → qs ≡ joined_by text (on s ps) → is_some (found text ps) ≡ false → has_room (on s ps) ≡ true → Kept (changed s (λ _. qs) ps)
  added_keeps s text qs same new room =
      let few = ltb-true (length (on s ps)) 16 room in
      subst (λ (xs : List PartyView). Kept (changed s (λ _. xs) ps)) (sym same) (record {
        few = few_changed s (joined_by text (on s ps)) (omega (arith, length_push (on s ps) (new_party text)));
        apart = apart_added s text new;
        within = within_changed s (joined_by text (on s ps)) (pass_append entitled (on s ps) (new_party text ∷ []) (within_on s) refl);
      })

  apart_entitled : (s : Side) (k : ℕ) (m : Mw) → codes_apart (changed s (λ _. entitled_at k m (on s ps)) ps) ≡ true
  apart_entitled Northern k m = rw (codes_entitled ps.northern k m) kept.apart
  apart_entitled Southern k m = rw (codes_entitled ps.southern k m) kept.apart

  -- an entitlement within the limit
  pub entitled_keeps : (s : Side) (k : ℕ) (m : Mw) (qs : List PartyView) → qs ≡ entitled_at k m (on s ps) → mw_within m ≡ true → Kept (changed s (λ _. qs) ps)
  entitled_keeps s k m qs same h =
      let p : PartyView = record { code = (get_or (on s ps) k (new_party [])).code; entitlement = m } in
      subst (λ (xs : List PartyView). Kept (changed s (λ _. xs) ps)) (sym same) (record {
        few = few_changed s (set (on s ps) k p) (omega (arith, length-set (on s ps) k p, few_on s));
        apart = apart_entitled s k m;
        within = within_changed s (set (on s ps) k p) (pass_change entitled (λ _. p) (λ _ _. h) (on s ps) k (new_party []) p refl (within_on s));
      })
