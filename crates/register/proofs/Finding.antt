-- A party is found again by its code, where no code stands twice.
use Rattle.std.proofs.Common.{◌≡◌, ℕ, zero, suc, ◌+◌, ◌<◌, true, not, List, [], ◌∷◌, ◌++◌, length, get_or, Some, None, refl, arith}
use Rattle.std.proofs.lemmas.List.{get_or-map, length-map}
use Rattle.std.proofs.lemmas.List.Sums.{AllPass-from_list_all}
use Rattle.std.proofs.lemmas.Option.{slice_get_within, get_or_from_slice_get}
use Rattle.std.proofs.lemmas.Bool.{and_parts}
use Rattle.std.proofs.lemmas.Bool.Decides.{nat_tests}
use Rattle.std.specs.List.{list_all, slice_get}
use Rattle.energy.specs.Codes.{same_code}
use Rattle.energy.specs.declared.side.Side.{Side}
use Rattle.energy.specs.declared.side.Side.TheVariants.{Northern, Southern}
use Rattle.register.proofs.Passing.{pass_parts}
use Rattle.register.specs.Parties.{is_distinct, PartyView, Parties, new_party, on, codes_of, place_from, number_in, placed, found, codes_apart}

pub same_self : (c : List ℕ) → same_code c c ≡ true
same_self c = grind (arith, nat_tests)

pub same_flip : (a b : List ℕ) → same_code a b ≡ same_code b a
same_flip a b = grind (arith, nat_tests)

-- a code differs from each of a list
abbrev pub New : List ℕ → List (List ℕ) → Type 0
New text cs = list_all (λ c. not (same_code text c)) cs ≡ true

pub new_from_none : (n : ℕ) (text : List ℕ) (cs : List (List ℕ)) → place_from n text cs ≡ None → New text cs
new_from_none n text [] e = refl
new_from_none n text (c ∷ cs) e = let rest = new_from_none (n + 1) text cs in let flip = same_flip text c in grind (arith, nat_tests)

pub none_from_new : (n : ℕ) (text : List ℕ) (cs : List (List ℕ)) → New text cs → place_from n text cs ≡ None
none_from_new n text [] e = refl
none_from_new n text (c ∷ cs) e = let rest = none_from_new (n + 1) text cs in let flip = same_flip text c in grind (arith, nat_tests)

module _ (bs : List (List ℕ)) where
  -- no code of the second list stands in the first
  pub new_across : (cs : List (List ℕ)) (k : ℕ) → is_distinct same_code (cs ++ bs) ≡ true → k < length bs → New (get_or bs k []) cs
  new_across [] k e h = refl
  new_across (a ∷ cs) k e h =
      let both = and_parts (list_all (λ c. not (same_code a c)) (cs ++ bs)) (is_distinct same_code (cs ++ bs)) e in
      let apart = AllPass-from_list_all (λ c. not (same_code a c)) bs (pass_parts (λ c. not (same_code a c)) cs bs both.0).1 k [] h in
      let rest = new_across cs k both.1 h in
      let flip = same_flip (get_or bs k []) a in
      grind (arith, nat_tests)

  pub apart_parts : (cs : List (List ℕ)) → is_distinct same_code (cs ++ bs) ≡ true → (is_distinct same_code cs ≡ true) × (is_distinct same_code bs ≡ true)
  apart_parts [] e = (refl, e)
  apart_parts (a ∷ cs) e =
      let both = and_parts (list_all (λ c. not (same_code a c)) (cs ++ bs)) (is_distinct same_code (cs ++ bs)) e in
      let rest = apart_parts cs both.1 in
      let own = pass_parts (λ c. not (same_code a c)) cs bs both.0 in
      grind (arith, nat_tests)

pub place_found : (n k : ℕ) (cs : List (List ℕ)) → is_distinct same_code cs ≡ true → k < length cs → place_from n (get_or cs k []) cs ≡ Some (n + k)
place_found n k [] e h = absurd (omega arith)
place_found n zero (c ∷ cs) e h = let same = same_self c in grind (arith, nat_tests)
place_found n (suc k) (c ∷ cs) e h =
    let both = and_parts (list_all (λ d. not (same_code c d)) cs) (is_distinct same_code cs) e in
    let within : k < length cs = omega arith in
    let apart = AllPass-from_list_all (λ d. not (same_code c d)) cs both.0 k [] within in
    let rest = place_found (n + 1) k cs both.1 within in
    grind (arith, nat_tests)

-- the code of a party stands at its number in the list of codes
pub code_at : (qs : List PartyView) (k : ℕ) → k < length qs → get_or (codes_of qs) k [] ≡ (get_or qs k (new_party [])).code
code_at qs k h = get_or-map (λ (p : PartyView). p.code) qs k (new_party []) [] h

pub codes_length : (qs : List PartyView) → length (codes_of qs) ≡ length qs
codes_length qs = length-map qs (λ (p : PartyView). p.code)

module _ (ps : Parties) (e : codes_apart ps ≡ true) where
  apart : (s : Side) → is_distinct same_code (codes_of (on s ps)) ≡ true
  apart Northern = (apart_parts (codes_of ps.southern) (codes_of ps.northern) e).0
  apart Southern = (apart_parts (codes_of ps.southern) (codes_of ps.northern) e).1

  -- a party is found on its own side
  pub found_on : (s : Side) (k : ℕ) → k < length (on s ps) → number_in (get_or (on s ps) k (new_party [])).code (on s ps) ≡ Some k
  found_on s k h =
      let within : k < length (codes_of (on s ps)) = omega (arith, codes_length (on s ps)) in
      let place = place_found 0 k (codes_of (on s ps)) (apart s) within in
      let code = code_at (on s ps) k h in
      grind arith

  -- and among all parties
  pub found_again : (s : Side) (k : ℕ) → k < length (on s ps) → found (get_or (on s ps) k (new_party [])).code ps ≡ Some (placed s k)
  found_again Northern k h = let here = found_on Northern k h in grind arith
  found_again Southern k h =
      let here = found_on Southern k h in
      let within : k < length (codes_of ps.southern) = omega (arith, codes_length ps.southern) in
      let new = none_from_new 0 (get_or (codes_of ps.southern) k []) (codes_of ps.northern) (new_across (codes_of ps.southern) (codes_of ps.northern) k e within) in
      let code = code_at ps.southern k h in
      grind arith

  -- so the party that stands at a place is found there
  pub found_nth : (s : Side) (k : ℕ) (p : PartyView) → slice_get (on s ps) k ≡ Some p → (found p.code ps ≡ Some (placed s k)) × (number_in p.code (on s ps) ≡ Some k)
  found_nth s k p stands =
      let within = slice_get_within (on s ps) k p stands in
      let read = get_or_from_slice_get (on s ps) k p (new_party []) stands in
      let there = found_again s k within in
      let here = found_on s k within in
      grind arith
