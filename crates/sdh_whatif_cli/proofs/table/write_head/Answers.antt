use Rattle.std.proofs.Common.{◌∙◌}
use Rattle.sdh_outside.proofs.Pieces.{as_text}
use Rattle.sdh_whatif_cli.proofs.table.write_head.Goals as goal

pub returns : goal.returns
returns g c = as_text _ _ _ _ _ _ _ _ (c.bytes.ensures ∙ c.put_head.ensures) c.put.ensures.wrote
