use Rattle.sdh_frame.proofs.PlaceProofs.{pointer_places, pointer_indexes}
use Rattle.sdh_frame.proofs.laws.pointer_places_have_one_index.Goals as goal

pub returns-clause-places : goal.returns-clause-places
returns-clause-places c = pointer_places

pub returns-clause-indexes : goal.returns-clause-indexes
returns-clause-indexes c = pointer_indexes
