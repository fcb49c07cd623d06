use Rattle.std.proofs.Common.{length, sym, subst, ◌∙◌}
use Rattle.std.proofs.lemmas.Result.{IfOk-weaker}
use Rattle.sdh_aps_cli.specs.Plans.{IsPlaced}
use Rattle.sdh_aps_cli.proofs.run.new_run.Goals as goal

pub frames_run-requires : goal.frames_run-requires
frames_run-requires c = record { at = subst (IsPlaced (length c.args.plan.nodes)) c.in-Frames.is c.requires.placed }

pub returns-in-Lines-clause-listing : goal.returns-in-Lines-clause-listing
returns-in-Lines-clause-listing c = IfOk-weaker c.lines_run.result _ _ (λ new is. is ∙ sym c.in-Lines.is) c.lines_run.ensures.listing

pub returns-in-Frames-clause-listing : goal.returns-in-Frames-clause-listing
returns-in-Frames-clause-listing c = IfOk-weaker c.frames_run.result _ _ (λ new is. is ∙ sym c.in-Frames.is) c.frames_run.ensures.listing
