-- A round as its calls make it, one after the other.
use Rattle.std.specs.Prelude.{ℕ, ◌≡◌, ◌+◌, ◌*◌, ◌/◌, ◌<◌, List, [], ◌∷◌, ◌++◌, length, map, take, drop}
use Rattle.sdh_ringmap.specs.declared.Side.{Side}
use Rattle.sdh_ringmap.specs.declared.Side.TheVariants.{West, East}
use Rattle.sdh_plant.specs.Fibres.{Arrival, Fibres}
use Rattle.sdh_plant.specs.Arrivals.{Knows, arrival}
use Rattle.sdh_plant.specs.Calls.{after_receive, after_send}
use Rattle.sdh_rounds.specs.Stations.{Station}
use Rattle.sdh_rounds.specs.Rounds.{with_arrivals, all_with_arrivals, arrivals_from, after_given, frames_of, sent_some}

-- ---- receives

-- the node at position p received on side d what came; where arrivals are known, that is what the fibres give
pub record ReceivesOne {N : Type 0} (s : Station N) (f : Fibres) (p : ℕ) (d : Side) (old new : N) : Type 0 where
  pub came : Arrival
  pub known : Knows f → came ≡ arrival f p d
  pub node : new ≡ s.told d came old

-- the node at position p received what came, first on the west and then on the east
pub record ReceivesBoth {N : Type 0} (s : Station N) (f : Fibres) (p : ℕ) (old new : N) : Type 0 where
  pub west : Arrival
  pub east : Arrival
  pub west_known : Knows f → west ≡ arrival f p West
  pub east_known : Knows (after_receive f) → east ≡ arrival (after_receive f) p East
  pub node : new ≡ with_arrivals s west east old

-- the first k nodes received what came, each on both sides
pub record FirstReceive {N : Type 0} (s : Station N) (k : ℕ) (f g : Fibres) (old new : List N) : Type 0 where
  pub arrivals : List Arrival
  pub count : length arrivals ≡ 2 * k
  pub known : Knows f → arrivals ≡ arrivals_from f 0 k
  pub nodes : new ≡ all_with_arrivals s arrivals old
  pub fibres : g ≡ after_given (length arrivals) f

-- The nodes once these arrivals were received, by position, west before east. Only the first nodes received any, and
-- the last of them perhaps on the west alone.
abbrev pub told_some : {N : Type 0} → Station N → List Arrival → List N → List N
told_some s [] ns = ns
told_some s (west ∷ []) [] = []
told_some s (west ∷ []) (n ∷ ns) = s.told West west n ∷ ns
told_some s (west ∷ east ∷ later) [] = []
told_some s (west ∷ east ∷ later) (n ∷ ns) = with_arrivals s west east n ∷ told_some s later ns

-- some of the first k nodes received, but not all on both sides
pub record SomeReceive {N : Type 0} (s : Station N) (k : ℕ) (f g : Fibres) (old new : List N) : Type 0 where
  pub arrivals : List Arrival
  pub not_all : length arrivals < 2 * k
  pub nodes : new ≡ told_some s arrivals old
  pub after_is : g ≡ after_given (length arrivals) f

-- ---- sends

-- the fibres after the node at position p sent on the west
abbrev pub sent_west : {N : Type 0} → Station N → ℕ → ℕ → N → Fibres → Fibres
sent_west s now p n f = after_send f p West (s.sends now West n)

-- the fibres after the node at position p sent on the west, and then on the east
abbrev pub sent_now : {N : Type 0} → Station N → ℕ → ℕ → N → Fibres → Fibres
sent_now s now p n f = after_send (sent_west s now p n f) p East (s.sends now East n)

-- the nodes once the first k of them have run their round
abbrev pub first_after : {N : Type 0} → Station N → ℕ → ℕ → List N → List N
first_after s now k ns = map (s.after now) (take k ns) ++ drop k ns

-- the first `out` of all frames of these nodes were sent, by position, west before east, but not all of them; the node
-- whose send failed had run its round before the send
pub record SendsSome {N : Type 0} (s : Station N) (now : ℕ) (old new : List N) (f g : Fibres) : Type 0 where
  pub out : ℕ
  pub not_all : out < length (frames_of s now old)
  pub after_is : g ≡ sent_some (take out (frames_of s now old)) f
  pub nodes : new ≡ first_after s now (out / 2 + 1) old
