use Rattle.std.proofs.Common.{sym, ap, subst}
use Rattle.energy.specs.declared.unit.Kwh.{Kwh}
use Rattle.allocation.specs.Tables.{Sound}
use Rattle.allocation.proofs.Tabulating.{same_way}
use Rattle.allocation.proofs.table.Table.south_north.Goals as goal

pub invariant_of-result : goal.invariant_of-result
invariant_of-result c =
    let sound = subst Sound (sym (same_way _ _ _ _ _ _ _ _ _ _ c.transposed.ensures c.transposed-2.ensures c.half_hours.ensures (ap (λ (x : Kwh). x.0) c.half_hour.ensures))) c.requires.sound in
    record { sending = sound.sending; receiving = sound.receiving; smalltrades = sound.trades; smallmatches = sound.matches; entitled = sound.entitled; capacity = sound.capacity; fits = sound.fits }

pub returns : goal.returns
returns c = cc
