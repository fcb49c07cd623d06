-- Honest fibres over rounds.
use Rattle.std.proofs.Common.{◌≡◌, ℕ, List, length, drop, None, ap}
use Rattle.std.specs.Prelude.{option_map, slice_index_or}
use Rattle.std.specs.Option.{option_map_or}
use Rattle.sdh_ringmap.specs.declared.Side.{Side}
use Rattle.sdh_plant.specs.Fibres.{Arrival, Fibres, IsHonest}
use Rattle.sdh_ringmap.specs.Fibres.{fibre}
use Rattle.sdh_plant.specs.Arrivals.{honest_arrival}
use Rattle.sdh_rounds.specs.Stations.{Station}
use Rattle.sdh_rounds.specs.Held.{World}
use Rattle.sdh_rounds.specs.Rounds.{arrival_at, after_given, sent_all, round_with}
use Rattle.sdh_rounds.specs.Laws.{HonestRounds}

honest_arrives : (f : Fibres) (p : ℕ) (d : Side) → IsHonest f → arrival_at f p d ≡ honest_arrival f p d
unfolding arrival_at
honest_arrives f p d is = ap (λ told. option_map_or (λ xs. slice_index_or xs (fibre p d) None) told (honest_arrival f p d)) is.tells_none

module _ {N : Type 0} (st : Station N) where
  honest_round : (w : World N) (xs : List Arrival) → IsHonest w.fibres → IsHonest (round_with st xs w).fibres
  unfolding round_with sent_all after_given
  honest_round w xs is = record { honest = is.honest; tells_none = ap (option_map (drop (length xs))) is.tells_none }

  pub honest_rounds : HonestRounds st
  honest_rounds = record { round = honest_round; arrives = honest_arrives }
