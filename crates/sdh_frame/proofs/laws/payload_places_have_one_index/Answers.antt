use Rattle.sdh_frame.proofs.PlaceProofs.{payload_places, payload_indexes}
use Rattle.sdh_frame.proofs.laws.payload_places_have_one_index.Goals as goal

pub returns-clause-places : goal.returns-clause-places
returns-clause-places c = payload_places

pub returns-clause-indexes : goal.returns-clause-indexes
returns-clause-indexes c = payload_indexes
