use Rattle.std.proofs.Common.{◌≡◌, true, rules}
use Rattle.std.proofs.lemmas.List.{map_push}
use Rattle.energy.specs.PartyCodes.{code_text}
use Rattle.energy.specs.declared.side.Side.TheVariants.{Northern, Southern}
use Rattle.register.proofs.Keeping.{keeps, added_keeps}
use Rattle.register.specs.Parties.{has_room, joined_by}
use Rattle.register.specs.Registers.{parties_of}
use Rattle.register.specs.Rolls.{party_view, roll_of}
use Rattle.register.proofs.register.Register.seat.Goals as goal

pub invariant_of-self : goal.invariant_of-self
invariant_of-self c =
    let self = c.args.self.now in
    let text = code_text c.args.code in
    let seen = map_push party_view self.northern.items c.new.result in
    let same : roll_of c.push.new.self ≡ joined_by text (roll_of self.northern) = search rules in
    let room : has_room (roll_of self.northern) ≡ true = search rules in
    let kept = added_keeps (parties_of self) (keeps self) Northern text _ same c.requires.new room in
    record { few = kept.few; apart = kept.apart; within = kept.within }

pub invariant_of-self-in-Southern : goal.invariant_of-self-in-Southern
invariant_of-self-in-Southern c =
    let self = c.args.self.now in
    let text = code_text c.args.code in
    let seen = map_push party_view self.southern.items c.new-in-Southern.result in
    let same : roll_of c.push-in-Southern.new.self ≡ joined_by text (roll_of self.southern) = search rules in
    let room : has_room (roll_of self.southern) ≡ true = search rules in
    let kept = added_keeps (parties_of self) (keeps self) Southern text _ same c.requires.new room in
    record { few = kept.few; apart = kept.apart; within = kept.within }
