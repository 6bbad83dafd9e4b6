use Rattle.std.proofs.Common.{◌≡◌, ℕ, Bool, true, false, cond, sym, refl, ◌∙◌, arith}
use Rattle.std.proofs.lemmas.Bool.{cond-false}
use Rattle.energy.proofs.Grids.{sum_to_le}
use Rattle.allocation.specs.Allocation.{traded, matched}
use Rattle.allocation.specs.Tables.{way_of}
use Rattle.allocation.specs.declared.allocating.Treatment.TheVariants.{Nil, Cut, Whole}
use Rattle.allocation.proofs.Bounds.{sound_table, volume_small}
use Rattle.allocation.proofs.Filling.{nil_square}
use Rattle.allocation.proofs.allocating.allocate_way.Goals as goal

-- only out of service is a direction nil
off : (on cut : Bool) → Nil ≡ cond on (cond cut Cut Whole) Nil → on ≡ false
off false cut e = refl
off true true e = let z : ◌≡◌ {A = ℕ} 0 1 = cc in absurd (omega arith)
off true false e = let z : ◌≡◌ {A = ℕ} 0 1 = cc in absurd (omega arith)

pub returns-in-Nil : goal.returns-in-Nil
returns-in-Nil g c i j hi hj = nil_square i j ∙ sym (cond-false c.args.service _ 0 (off c.args.service _ c.in-Nil.ensures))

-- matches count alike on both sides, so that those of the senders stay within the trade against them
pub invariant_of-allocations : goal.invariant_of-allocations
invariant_of-allocations g c =
    let t = c.args.facing.now in
    let v = way_of t in
    record {
      covered = omega (arith, c.requires, c.volume-against.ensures, sum_to_le v.senders (matched v) (traded v) (λ i _. t.fits i));
      small = omega (arith, c.volume-against.ensures, volume_small v (sound_table t));
    }
