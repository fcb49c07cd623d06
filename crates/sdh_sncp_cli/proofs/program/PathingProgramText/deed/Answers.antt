use Rattle.std.proofs.Common.{◌≡◌, List, None, ap, sym, ◌∙◌}
use Rattle.sdh_plan.specs.declared.step.Step.{Step}
use Rattle.sdh_sncp_cli.specs.Steps.{first_strange}
use Rattle.sdh_sncp_cli.proofs.Deeds.{run_only, strange_only, share_only, slot_error}
use Rattle.sdh_sncp_cli.proofs.program.PathingProgramText.deed.Goals as goal

pub returns-in-Some-clause-deed : goal.returns-in-Some-clause-deed
returns-in-Some-clause-deed g c =
    let steps = ap (λ (l : List Step). first_strange l) (sym c.steps.ensures.steps) in
    (strange_only c.args.plan c.in-Some.step (steps ∙ sym c.first_strange.ensures ∙ c.in-Some.is), tt)

pub returns-in-Ok-clause-deed : goal.returns-in-Ok-clause-deed
returns-in-Ok-clause-deed g c =
    let known : first_strange c.args.plan.steps ≡ None =
    ap (λ (l : List Step). first_strange l) (sym c.steps.ensures.steps) ∙ sym c.first_strange.ensures ∙ c.in_default.is in
    let new = c.in-Ok.ensures in
    (run_only c.args.plan known new.alone, (new.is_of, known, new.alone), new.ready)

pub returns-in-Err-SameSlot-clause-deed : goal.returns-in-Err-SameSlot-clause-deed
returns-in-Err-SameSlot-clause-deed g c =
    let known : first_strange c.args.plan.steps ≡ None =
    ap (λ (l : List Step). first_strange l) (sym c.steps.ensures.steps) ∙ sym c.first_strange.ensures ∙ c.in_default.is in
    let slot = c.in-Err-SameSlot in (
      share_only c.args.plan slot.first slot.second known
          (slot.ensures.same_slot slot.first slot.second (slot_error slot.field-0 slot.first slot.second slot.field-0-is)),
      tt,
    )
