use Rattle.energy.specs.declared.side.Side.TheVariants.{Northern, Southern}
use Rattle.register.proofs.Keeping.{keeps, entitled_keeps}
use Rattle.register.specs.Registers.{parties_of}
use Rattle.register.proofs.register.Register.entitle.Goals as goal

pub invariant_of-self : goal.invariant_of-self
invariant_of-self c =
    let self = c.args.self.now in
    let kept = entitled_keeps (parties_of self) (keeps self) Northern c.args.place.number c.args.mw _ c.give.ensures c.requires.within in
    record { few = kept.few; apart = kept.apart; within = kept.within }

pub invariant_of-self-in-Southern : goal.invariant_of-self-in-Southern
invariant_of-self-in-Southern c =
    let self = c.args.self.now in
    let kept = entitled_keeps (parties_of self) (keeps self) Southern c.args.place.number c.args.mw _ c.give-in-Southern.ensures c.requires.within in
    record { few = kept.few; apart = kept.apart; within = kept.within }
