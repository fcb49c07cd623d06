use Rattle.sdh_outside.proofs.Pieces.{of_text}
use Rattle.sdh_outside.proofs.output.AnyOutput.put.Goals as goal

pub returns-clause-wrote : goal.returns-clause-wrote
returns-clause-wrote g c = let e = c.write_text.ensures in of_text _ _ _ _ _ _ _ e.ok e.fault e.front e.later e.counted
