use Rattle.std.proofs.Common.{◌∙◌, ap}
use Rattle.sdh_outside.proofs.Pieces.{as_text}
use Rattle.sdh_whatif_cli.specs.Outcome.{refusal}
use Rattle.sdh_whatif_cli.proofs.top.refuse_own.Goals as goal

pub returns-clause-told : goal.returns-clause-told
returns-clause-told g c = (
  c.in-Unknown.place,
  c.in-Unknown.is,
  c.refuse.ensures.status ∙ c.unknown.ensures,
  as_text _ _ _ _ _ _ _ _ (ap refusal c.unknown.ensures) c.refuse.ensures.wrote,
)
