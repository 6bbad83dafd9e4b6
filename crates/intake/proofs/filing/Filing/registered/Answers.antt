use Rattle.std.proofs.Common.{◌≤◌, sym, ap, ◌∙◌, arith, rules}
use Rattle.energy.specs.PartyCodes.{code_text}
use Rattle.energy.specs.declared.side.Side.TheVariants.{Northern, Southern}
use Rattle.energy.specs.declared.unit.Kwh.{Kwh}
use Rattle.register.specs.Registers.{parties_of}
use Rattle.intake.specs.Intake.{day_of}
use Rattle.nomination.specs.ValuesHeld.{detail_said}
use Rattle.intake.proofs.Fitting.{number_few, late, stands}
use Rattle.intake.proofs.filing.Filing.registered.Goals as goal

-- a line that passes the register's questions stands for an entry
pub unwrap-requires : goal.unwrap-requires
unwrap-requires c =
    let register = c.args.self.now.day.register.now in
    let ps = parties_of register in
    let north = number_few ps register.few Northern (code_text c.north.result) c.in_ok-north.north
    (sym c.find_on.ensures ∙ c.in_ok-north.ensures.ok_part) in
    let south = number_few ps register.few Southern (code_text c.south.result) c.in_ok-south.south
    (sym c.find_on-2.ensures ∙ c.in_ok-south.ensures.ok_part) in
    let ns = ap (λ (e : Kwh). e.0) c.ns.ensures in
    let sn = ap (λ (e : Kwh). e.0) c.sn.ensures in
    let most_ns : c.ns.result.0 ≤ 9999999 = omega arith in
    let most_sn : c.sn.result.0 ≤ 9999999 = omega arith in
    stands _ c.entry.result _ c.entry.ensures north south most_ns most_sn

pub returns-then-period-periods : goal.returns-then-period-periods
returns-then-period-periods c =
    let filing = c.args.self.now in
    let side = sym c.filing_side.ensures ∙ c.in_ok-filer.ensures.ok_part in
    late (day_of filing.day.register.now filing.day.terms) (code_text filing.filer) c.args.line c.args.kind c.args.flag (detail_said c.args.detail)
    {a = c.in_ok-north.north} {b = c.in_ok-south.south} (search rules) (search rules) side (omega arith)
