use Rattle.std.proofs.Common.{ap, sym, ◌∙◌}
use Rattle.sdh_circuits.specs.declared.Slot.{Slot}
use Rattle.sdh_sncp.specs.Slots.{use_of}
use Rattle.sdh_sncp.proofs.Using.{use_here, use_later}
use Rattle.sdh_sncp.proofs.slots.use_of.Goals as goal

pub returns-then-slot : goal.returns-then-slot
unfolding use_of
returns-then-slot c =
    c.use_by.ensures
    ∙ sym (c.loop-i.invariant
    ∙ use_here c.args.at.0 c.args.slot c.loop-i.i c.args.circuits.now.circuits c.get-circuit.result.now c.get-circuit.ensures
    (ap (λ (s : Slot). s.0) (sym c.slot.ensures) ∙ c.if-slot.true))

pub loop-i-preserved : goal.loop-i-preserved
loop-i-preserved c =
    c.loop-i.invariant
    ∙ use_later c.args.at.0 c.args.slot c.loop-i.i c.args.circuits.now.circuits c.get-circuit.result.now c.get-circuit.ensures
    (λ e. c.if-slot.false (ap (λ (s : Slot). s.0) c.slot.ensures ∙ e))
