use Rattle.sdh_owed.proofs.Counting as proved
use Rattle.sdh_owed.proofs.courses_count_frames.Goals as goal

pub returns : goal.returns
returns c = proved.courses_count_frames
