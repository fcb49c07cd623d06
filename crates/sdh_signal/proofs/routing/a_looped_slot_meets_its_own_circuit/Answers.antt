use Rattle.sdh_signal.proofs.Views.{on-ring}
use Rattle.sdh_signal.proofs.Inhabited.{below-some}
use Rattle.sdh_signal.proofs.Meets.{meets-own}
use Rattle.sdh_signal.proofs.routing.a_looped_slot_meets_its_own_circuit.Goals as goal

pub returns : goal.returns
returns c = λ n slots cs form d q m f inside f_inside t.
    meets-own n cs (on-ring n slots cs form) (below-some n q inside) d q m f inside f_inside t
