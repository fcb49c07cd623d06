use Rattle.std.proofs.Common.{length, ap, sym, ◌∙◌}
use Rattle.sdh_basics.proofs.CellsLaws.{length-cells}
use Rattle.sdh_ringmap.specs.Rates.{n_of}
use Rattle.sdh_terminal.specs.Receiving.{Inlet, Intake}
use Rattle.sdh_sncp.specs.Slots.{uses_at}
use Rattle.sdh_sncp.proofs.cross.PathCross.try_new.Goals as goal

pub invariant_of-result : goal.invariant_of-result
unfolding uses_at
invariant_of-result c =
    let west = ap (λ (i : Inlet). i.section.rate) c.in_ok-west_side.ensures.inlet in
    record {
      rates = ap (λ (i : Inlet). i.section.rate) c.in_ok-east_side.ensures.inlet ∙ sym west;
      west_rate = ap (λ (i : Intake). i.frame.rate) c.in_ok-west_side.ensures.intake ∙ sym west;
      east_rate = ap (λ (i : Intake). i.frame.rate) c.in_ok-east_side.ensures.intake ∙ sym west;
      uses = ap length c.in_ok-uses.ensures ∙ length-cells _ c.n.result ∙ c.n.ensures ∙ ap n_of (sym west);
    }
