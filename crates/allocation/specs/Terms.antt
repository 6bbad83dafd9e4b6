-- The terms of a period.
use Rattle.std.specs.Prelude.{ℕ, Bool, cond, ◌&&◌, List, Some, None, Option, nat_le}
use Rattle.std.specs.List.{list_all}
use Rattle.energy.specs.declared.unit.Mw.{Mw}
use Rattle.allocation.specs.declared.terms.PeriodTerms.{PeriodTerms}

-- How many parties each side has, their entitlements, the net transfer capacities and service.
pub record Terms : Type 0 where
  pub north_count : ℕ
  pub south_count : ℕ
  pub northern_mw : List Mw
  pub southern_mw : List Mw
  pub ns_capacity : Mw
  pub sn_capacity : Mw
  pub in_service : Bool

abbrev pub terms_with : ℕ → ℕ → List Mw → List Mw → Mw → Mw → Bool → Terms
terms_with n s a b c d on = record { north_count = n; south_count = s; northern_mw = a; southern_mw = b; ns_capacity = c; sn_capacity = d; in_service = on }

-- What the terms of the code say.
abbrev pub terms_in : PeriodTerms → Terms
terms_in t = terms_with t.north t.south t.northern t.southern t.ns_ntc t.sn_ntc t.service

-- Each entitlement is at most 159,984 MW.
abbrev pub all_within : List Mw → Bool
all_within = list_all (λ m. nat_le m.0 159984)

-- Terms stand where a side has at most 16 parties, a net transfer capacity is at most 9,999 MW and each entitlement is
-- within its limit.
abbrev pub sound : Terms → Option Terms
sound t =
    cond ((nat_le t.north_count 16 && (nat_le t.south_count 16 && (nat_le t.ns_capacity.0 9999 && nat_le t.sn_capacity.0 9999)))
    && (all_within t.northern_mw && all_within t.southern_mw)) (Some t) None
