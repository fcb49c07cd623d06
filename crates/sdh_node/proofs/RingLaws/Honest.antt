-- Honest fibres, and prepared ones, over changes.
use Rattle.sdh_plant.proofs.Calling as plant
use Rattle.sdh_restoration.specs.Changes.{Fibre, Order, Hold, Slip, Now}
use Rattle.sdh_node.specs.Rings.Changes.{changed}
use Rattle.sdh_node.specs.Rings.Laws.{ChangesKeepHonest, ChangesKeepPrepared}

pub changes_keep_honest : ChangesKeepHonest
unfolding changed
changes_keep_honest w (Fibre p d c) is = record { honest = is.honest; tells_none = is.tells_none }
changes_keep_honest w (Order p d c) is = is
changes_keep_honest w (Hold p turns) is = is
changes_keep_honest w (Slip port turn count) is = is
changes_keep_honest w (Now t) is = is

pub changes_keep_prepared : ChangesKeepPrepared
unfolding changed
changes_keep_prepared n w (Fibre p d c) at is = plant.stay_prepared.apply w.ring.settings.rate n w.fibres p d c at is
changes_keep_prepared n w (Order p d c) at is = is
changes_keep_prepared n w (Hold p turns) at is = is
changes_keep_prepared n w (Slip port turn count) at is = is
changes_keep_prepared n w (Now t) at is = is
