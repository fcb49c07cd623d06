-- What is true of a ring, call by call.
use Rattle.std.proofs.Common.{◌≡◌, ℕ, ◌+◌, ◌/◌, ◌<◌, ◌≤◌, Bool, true, false, List, length, map, refl, ap, sym, subst, ◌∙◌, arith}
use Rattle.std.specs.Prelude.{All, ◌^◌, Result, Ok, Err}
use Rattle.std.proofs.lemmas.List.{map-id}
use Rattle.sdh_ringmap.specs.Rates.{n_of}
use Rattle.sdh_ringmap.specs.Ids.{AreIds}
use Rattle.sdh_plant.specs.Fibres.{Fibres}
use Rattle.sdh_circuits.specs.Provisioning.{Provisioning, IsProvisioning}
use Rattle.sdh_circuits.specs.Kept.{KeepsRing}
use Rattle.sdh_request.specs.declared.settings.Settings.{Settings}
use Rattle.sdh_node.specs.Node.{Node}
use Rattle.sdh_node.specs.Stations.{adm, MayRun}
use Rattle.sdh_rounds.specs.Held as held
use Rattle.sdh_rounds.specs.Rounds as any_round
use Rattle.sdh_rounds.specs.Faults.{BreaksRound}
use Rattle.sdh_rounds.specs.Outcome.{IsOneRound}
use Rattle.sdh_rounds.specs.declared.faults.PlantFault.{PlantFault as Fault}
use Rattle.sdh_rounds.proofs.Keeping.{keeps_with, keeps_broken}
use Rattle.sdh_node.specs.Rings.Held.{HeldRing, new_nodes, new_ring}
use Rattle.sdh_node.specs.Rings.Rounds.{World, world, nodes_with, node_after}
use Rattle.sdh_node.specs.Rings.Runs.{IsRound}
use Rattle.sdh_node.specs.Rings.Fixed.{fixed, IsOn, IsRing}
use Rattle.sdh_node.proofs.RingLaws.Keeping.{fixed_with, fixed_next, all_settings, length-fixed, all_on_heard, all_on_next, all_new}

-- ---- a ring and its nodes

pub count_of : (r : HeldRing) → IsRing r → length r.nodes ≡ length r.ids
count_of r h = length-fixed r.settings r.ids r.circuits.circuits (length r.ids) r.nodes h.nodes

pub ring_with : (r : HeldRing) (ns : List Node) (m rounds : ℕ) (broken : Bool) → IsRing r → map fixed ns ≡ map fixed r.nodes
    → m ≤ 1000000000 → (broken ≡ false → All (IsOn rounds m) ns)
    → IsRing (record r { nodes = ns; moment = m; rounds = rounds; broken = broken })
ring_with r ns m rounds broken h same small going = record {
  ids = h.ids;
  circuits = h.circuits;
  slots = h.slots;
  kept = h.kept;
  moment = small;
  nodes = same ∙ h.nodes;
  going = going;
}

-- a place of a ring, which is seen as `now`, is the place of a node
pub place_in : (r now : HeldRing) (i : ℕ) → r ≡ now → IsRing r → i < length now.ids → i < length r.nodes
place_in r now i seen h low =
    let low : i < length r.ids = subst (λ (x : HeldRing). i < length x.ids) (sym seen) low in
    let size = count_of r h in
    omega (arith, low, size)

true_is_not_false : {P : Type 0} → true ≡ false → P
true_is_not_false e = cc

pub may_receive : (r : HeldRing) → IsRing r → All (λ (n : Node). n.settings.rate ≡ r.settings.rate) r.nodes
may_receive r h =
    λ p d lt. ap (λ (x : Settings). x.rate) (all_settings r.settings r.ids r.circuits.circuits (length r.ids) r.nodes h.nodes p d lt)

pub may_send : (r : HeldRing) → IsRing r → r.broken ≡ false → r.rounds < 2 ^ 32 → All (MayRun r.moment) r.nodes
may_send r h whole few = λ p d lt. record {
  early = (h.going whole p d lt).early;
  within = h.moment;
  few = let e = (h.going whole p d lt).rounds_are in omega arith;
}

-- a later moment
pub ring_later : (r : HeldRing) (m : ℕ) → IsRing r → r.moment ≤ m → m ≤ 1000000000 → IsRing (record r { moment = m })
ring_later r m h later within = ring_with r r.nodes m r.rounds r.broken h refl within
    (λ whole p d lt. let on = h.going whole p d lt in record {
      rounds_are = on.rounds_are;
      early = let e = on.early in omega arith;
      clocks = on.clocks;
    })

-- ---- a new ring

-- a new ring is a new ring as `sdh_rounds` defines it for any kind of node
pub fresh_is : (s : Settings) (ids : List ℕ) (circuits : Provisioning) → held.new_ring adm s ids circuits ≡ new_ring s ids circuits
unfolding new_nodes
fresh_is s ids circuits = refl

pub new_is_ring : (s : Settings) (ids : List ℕ) (circuits : Provisioning) → AreIds ids → IsProvisioning circuits
    → circuits.slots ≡ n_of s.rate / 2 → KeepsRing circuits ids → IsRing (new_ring s ids circuits)
new_is_ring s ids circuits are form slots kept = record {
  ids = are;
  circuits = form;
  slots = slots;
  kept = kept;
  moment = omega arith;
  nodes = refl;
  going = λ _. all_new s ids circuits.circuits (length ids);
}

-- ---- a round

ring_ran : (w after : World) → IsRing w.ring → w.ring.broken ≡ false → IsRound w after → IsRing after.ring
unfolding any_round.round_with
ring_ran w after h whole is =
    let r = w.ring in
    let heard = nodes_with is.arrivals w in
    subst (λ (x : World). IsRing x.ring) (sym is.after_is)
    (ring_with r (map (node_after r.moment) heard) r.moment (r.rounds + 1) r.broken h
    (keeps_with adm fixed fixed_with fixed_next is.arrivals w) h.moment
    (λ _. all_on_next r.rounds r.moment heard (all_on_heard is.arrivals r.rounds r.moment r.nodes (h.going whole))))

ring_broke : (w left : World) → IsRing w.ring → BreaksRound adm w left → IsRing left.ring
ring_broke w left h b =
    let r = w.ring in
    subst IsRing (sym b.ring)
    (ring_with r left.ring.nodes r.moment r.rounds true h (keeps_broken adm fixed fixed_with fixed_next w left b) h.moment
    (λ e. true_is_not_false e))

-- a ring stays one over a round, whatever the round answered
pub ring_after : (exact : Bool) (w left : World) (before after : ℕ) (result : Result (Unit {0}) Fault) → IsRing w.ring
    → w.ring.broken ≡ false → IsOneRound adm exact w result left before after → IsRing left.ring
ring_after exact w left before after (Ok u) h whole one = ring_ran w left h whole one.ok
ring_after exact w left before after (Err e) h whole one = ring_broke w left h one.breaks

-- a round leaves the identifiers as they were
pub ids_after : (exact : Bool) (w left : World) (before after : ℕ) (result : Result (Unit {0}) Fault)
    → IsOneRound adm exact w result left before after → left.ring.ids ≡ w.ring.ids
unfolding any_round.round_with
ids_after exact w left before after (Ok u) one = ap (λ (x : World). x.ring.ids) one.ok.after_is
ids_after exact w left before after (Err e) one = ap (λ (r : HeldRing). r.ids) one.breaks.ring

-- A round of a ring that is held as `inside` and seen as `shown`.
module _ (inside shown : HeldRing) (is : inside ≡ shown) (ring : IsRing inside) (whole : shown.broken ≡ false) where
  whole_inside : inside.broken ≡ false
  whole_inside = ap (λ (r : HeldRing). r.broken) is ∙ whole

  pub may_go : shown.rounds < 2 ^ 32 → All (MayRun inside.moment) inside.nodes
  may_go few = may_send inside ring whole_inside (subst (λ (r : HeldRing). r.rounds < 2 ^ 32) (sym is) few)

  module _ (exact : Bool) (fibres fibres_left : Fibres) (left : HeldRing) (before after : ℕ) (result : Result (Unit {0}) Fault)
      (one : IsOneRound adm exact (world inside fibres) result (world left fibres_left) before after) where
    pub still_ring : IsRing left
    still_ring = ring_after exact (world inside fibres) (world left fibres_left) before after result ring whole_inside one

    pub still_room : (capacity : ℕ) → length inside.ids ≤ capacity → length left.ids ≤ capacity
    still_room capacity =
        subst (λ (ids : List ℕ). length ids ≤ capacity)
        (sym (ids_after exact (world inside fibres) (world left fibres_left) before after result one))

    pub seen_round : IsOneRound adm exact (world shown fibres) result (world left fibres_left) before after
    seen_round = subst (λ (r : HeldRing). IsOneRound adm exact (world r fibres) result (world left fibres_left) before after) is one

-- a ring whose nodes take another form and stay the same
pub same_form : (r : HeldRing) → held.with_each (λ (n : Node). n) r ≡ r
same_form r = (λ i. record r { nodes = map-id r.nodes i })

pub other_form : (r new : HeldRing) → new ≡ held.with_each (λ (n : Node). n) r → IsRing r
    → IsRing new × ((capacity : ℕ) → length r.ids ≤ capacity → length new.ids ≤ capacity)
other_form r new form ring =
    let is = form ∙ same_form r in
    (subst IsRing (sym is) ring, λ capacity. subst (λ (x : HeldRing). length x.ids ≤ capacity) (sym is))
