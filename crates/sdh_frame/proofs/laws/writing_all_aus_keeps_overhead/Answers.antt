use Rattle.sdh_frame.proofs.AllAus.{writing_all_keeps, writing_all_covers}
use Rattle.sdh_frame.proofs.laws.writing_all_aus_keeps_overhead.Goals as goal

pub returns-clause-keeps : goal.returns-clause-keeps
returns-clause-keeps c = writing_all_keeps

pub returns-clause-covers : goal.returns-clause-covers
returns-clause-covers c = writing_all_covers
