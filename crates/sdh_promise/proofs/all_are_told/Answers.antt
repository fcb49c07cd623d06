use Rattle.sdh_promise.proofs.Told.{sides_are_told, ports_are_told, owed_by_the_other}
use Rattle.sdh_promise.proofs.all_are_told.Goals as goal

pub returns : goal.returns
returns c = record { sides = sides_are_told; ports = ports_are_told; other = owed_by_the_other }
