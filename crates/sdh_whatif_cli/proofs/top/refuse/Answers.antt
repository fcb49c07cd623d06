use Rattle.std.proofs.Common.{◌∙◌}
use Rattle.sdh_outside.proofs.Pieces.{as_text}
use Rattle.sdh_whatif_cli.proofs.top.refuse.Goals as goal

pub returns-clause-wrote : goal.returns-clause-wrote
returns-clause-wrote g c = as_text _ _ _ _ _ _ _ _ (c.bytes.ensures ∙ c.refusal.ensures) c.put-wrote.ensures.wrote
