-- What no round changes of the nodes of a ring, and so how many ports deliver at each.
use Rattle.std.proofs.Common.{◌≡◌, ℕ, Bool, List, length, map, ap, sym, ◌∙◌}
use Rattle.std.specs.Prelude.{Result, Ok, Err}
use Rattle.std.proofs.lemmas.Simd.{map-map}
use Rattle.sdh_ringmap.specs.declared.Side.{Side}
use Rattle.sdh_payload.specs.Outlet.{Outlet}
use Rattle.sdh_plant.specs.Fibres.{Arrival}
use Rattle.sdh_rounds.specs.Stations.{Station}
use Rattle.sdh_rounds.specs.Held.{World}
use Rattle.sdh_rounds.specs.Rounds.{nodes_with, round_with}
use Rattle.sdh_rounds.specs.Runs.{IsRound}
use Rattle.sdh_rounds.specs.Calls.{told_some}
use Rattle.sdh_rounds.specs.Faults.{BreaksRound, had_round}
use Rattle.sdh_rounds.specs.Outcome.{IsOneRound}
use Rattle.sdh_rounds.specs.declared.faults.PlantFault.{PlantFault as Fault}
use Rattle.sdh_rounds.proofs.Rings.{heard_keep, some_keep, all_keep, first_keep}

-- what a node keeps through each arrival and each round of its own
module _ {N Y : Type 0} (st : Station N) (f : N → Y)
    (told_keeps : (d : Side) (a : Arrival) (n : N) → f (st.told d a n) ≡ f n)
    (round_keeps : (now : ℕ) (n : N) → f (st.after now n) ≡ f n) where
  abbrev Keeps : World N → World N → Type 0
  Keeps w left = map f left.ring.nodes ≡ map f w.ring.nodes

  pub keeps_with : (arrivals : List Arrival) (w : World N) → Keeps w (round_with st arrivals w)
  unfolding round_with
  keeps_with arrivals w =
      all_keep st f w.ring.moment (round_keeps w.ring.moment) (nodes_with st arrivals w)
      ∙ heard_keep st f told_keeps arrivals w.ring.nodes

  pub keeps_round : (w left : World N) → IsRound st w left → Keeps w left
  keeps_round w left is = ap (λ (x : World N). map f x.ring.nodes) is.after_is ∙ keeps_with is.arrivals w

  pub keeps_broken : (w left : World N) → BreaksRound st w left → Keeps w left
  keeps_broken w left b =
      ap (map f) b.nodes
      ∙ first_keep st f w.ring.moment (round_keeps w.ring.moment) (had_round b.off) (told_some st b.told w.ring.nodes)
      ∙ some_keep st f told_keeps b.told w.ring.nodes

  pub keeps_one : (exact : Bool) (w left : World N) (result : Result (Unit {0}) Fault) (before after : ℕ)
      → IsOneRound st exact w result left before after → Keeps w left
  keeps_one exact w left (Ok u) before after one = keeps_round w left one.ok
  keeps_one exact w left (Err e) before after one = keeps_broken w left one.breaks

-- There is room for what other nodes deliver, or the same nodes later, where what they keep tells how many ports they
-- have.
pub may_take : {N Y : Type 0} (out : N → List Outlet) (f : N → Y) (ports : Y → ℕ) → ((n : N) → length (out n) ≡ ports (f n))
    → (held : List (List Outlet)) (old new : List N) → held ≡ map out old → map f new ≡ map f old
    → map length held ≡ map (λ n. length (out n)) new
may_take out f ports counted held old new are same =
    ap (map length) are ∙ map-map length out old ∙ (λ j. map (λ n. counted n j) old) ∙ sym (map-map ports f old)
    ∙ ap (map ports) (sym same) ∙ map-map ports f new ∙ sym (λ j. map (λ n. counted n j) new)
