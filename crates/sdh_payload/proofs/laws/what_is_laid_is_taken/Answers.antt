use Rattle.sdh_payload.proofs.Chunks.{what_is_laid_is_taken}
use Rattle.sdh_payload.proofs.laws.what_is_laid_is_taken.Goals as goal

pub returns : goal.returns
returns c = what_is_laid_is_taken
