-- A new path ring over prepared fibres, and what happens to whole rings.
use Rattle.std.proofs.Common.{◌≡◌, ℕ, ◌*◌, ◌<◌, List, length, get_or, Option, Some, None, refl, ap, sym, ◌∙◌, subst, arith}
use Rattle.std.specs.Prelude.{All, slice_get}
use Rattle.std.specs.Option.{option_map_or}
use Rattle.std.proofs.lemmas.Option.{get_or_from_slice_get, slice_get_within}
use Rattle.std.proofs.lemmas.List.{length-replicate}
use Rattle.sdh_basics.proofs.CellsLaws.{length-cells, get_or-cells}
use Rattle.sdh_ringmap.specs.declared.Side.{Side}
use Rattle.sdh_ringmap.specs.declared.Side.TheVariants.{West, East}
use Rattle.sdh_ringmap.specs.Ids.{AreIds}
use Rattle.sdh_ringmap.specs.Places.{position_of}
use Rattle.sdh_circuits.specs.declared.PortId.{PortId}
use Rattle.sdh_circuits.specs.Provisioned.{Provisioned, end_of}
use Rattle.sdh_payload.specs.Outlet.{silent}
use Rattle.sdh_circuits.specs.Provisioning.{Provisioning}
use Rattle.sdh_nodestate.specs.Words.{first_word}
use Rattle.sdh_ringmap.specs.Fibres.{fibre}
use Rattle.sdh_plant.proofs.Calling.{stay_prepared, stay_honest, none_at}
use Rattle.sdh_request.specs.declared.settings.Settings.{Settings}
use Rattle.sdh_terminal.specs.Tributaries.{Tributary, tributaries_from, tributaries_at, port_of, outlet_of}
use Rattle.sdh_spans.specs.Sides.{IsInletAt, IsSenderAt}
use Rattle.sdh_sncp.specs.Node.{PathNode, new_path_node, inlet_on, path_sending_on}
use Rattle.sdh_sncp.specs.Ring.{new_nodes, new_ring, nowhere, AtEach, outlet_at}
use Rattle.sdh_sncp.specs.Placed.{HasPlace, IsUnslippedFeed, IsPathBetween, IsPlacedPathRing}
use Rattle.sdh_sncp.specs.Laws.{PathNodesStayPlaced, NewPathRingsAreWhole, NewRingsAreSilent, PathRingsStayWhole}
use Rattle.sdh_terminal.proofs.Found.{found_has, new_ports}
use Rattle.sdh_sncp.proofs.Nodes.{placed_round}
use Rattle.sdh_sncp.proofs.Rounds.{whole_round, whole_run}

-- ---- a new node

module _ (s : Settings) (ids : List ℕ) (circuits : Provisioning) (p : ℕ) where
  abbrev one : PathNode
  one = new_path_node s ids circuits.circuits (position_of p)

  new_place : HasPlace (new_ring s ids circuits) p one
  unfolding new_path_node
  new_place = record { uses = refl; ports = refl; inlets = inlets; senders = senders; words = words }
    where
      inlets : (d : Side) → IsInletAt s.rate (inlet_on d one)
      inlets West = record { rate = refl; readings = length-replicate _ _ }
      inlets East = record { rate = refl; readings = length-replicate _ _ }

      senders : (d : Side) → IsSenderAt s.rate (path_sending_on d one)
      senders West = record { rate = refl; generators = length-replicate _ _; parities = tt }
      senders East = record { rate = refl; generators = length-replicate _ _; parities = tt }

      words : (d : Side) → (path_sending_on d one).word ≡ first_word ids p d
      words West = refl
      words East = refl

  new_between : IsPathBetween 0 one
  unfolding new_path_node tributaries_at
  new_between = record {
    run = record {
      ran = refl;
      clocks = new_ports (λ (t : Tributary). IsUnslippedFeed 0 t.feed)
          (λ i e d m c. record { ups = refl; downs = refl; sent = refl; value = refl }) (position_of p) 0 circuits.circuits;
    };
    fresh = fresh;
  }
    where
      fresh : (d : Side) → (inlet_on d one).arrived ≡ None
      fresh West = refl
      fresh East = refl

pub length-new : (s : Settings) (ids : List ℕ) (cs : List Provisioned) (k : ℕ) → length (new_nodes s ids cs k) ≡ k
unfolding new_nodes
length-new s ids cs k = length-cells _ k

pub new_at : (s : Settings) (ids : List ℕ) (cs : List Provisioned) (n k : ℕ) (d : PathNode) → k < n
    → get_or (new_nodes s ids cs n) k d ≡ new_path_node s ids cs (position_of k)
unfolding new_nodes
new_at s ids cs n k d h = get_or-cells _ n k d h

-- what holds of each new node holds at each position
each_new : (P : ℕ → PathNode → Type 0) (s : Settings) (ids : List ℕ) (cs : List Provisioned)
    → ((p : ℕ) → p < length ids → P p (new_path_node s ids cs (position_of p))) → AtEach P (new_nodes s ids cs (length ids))
each_new P s ids cs each p h =
    let low : p < length ids =
    omega (arith, length-new s ids cs (length ids)) in subst (P p) (sym (new_at s ids cs (length ids) p nowhere low)) (each p low)

pub new_placed : (s : Settings) (ids : List ℕ) (circuits : Provisioning) → AreIds ids → IsPlacedPathRing (new_ring s ids circuits)
new_placed s ids circuits is = record {
  ids = is;
  size = length-new s ids circuits.circuits (length ids);
  places = each_new (HasPlace (new_ring s ids circuits)) s ids circuits.circuits (λ p low. new_place s ids circuits p);
  between = each_new (λ p n. IsPathBetween 0 n) s ids circuits.circuits (λ p low. new_between s ids circuits p);
}

pub new_worlds_are_whole : NewPathRingsAreWhole
new_worlds_are_whole s ids circuits f is honest = record {
  placed = new_placed s ids circuits is;
  paired = record {
    honest = stay_honest.prepared s.rate (length ids) f honest;
    prepared = stay_prepared.prepared s.rate (length ids) f is.enough is.few;
    carried = λ p h. record { dark = λ d e. none_at (2 * length ids) (fibre p d); frames = λ d some. absurd (omega arith) };
  };
}

-- ---- what a new ring delivers

found_silent : (id : PortId) (ts : List Tributary) → All (λ (t : Tributary). t.outlet ≡ silent) ts → outlet_of id ts ≡ silent
found_silent id ts all = by (port_of id ts) refl
  where
    by : (o : Option Tributary) → port_of id ts ≡ o → option_map_or (λ (t : Tributary). t.outlet) o silent ≡ silent
    by None e = refl
    by (Some t) e = (found_has (λ (t : Tributary). t.outlet ≡ silent) id ts t all e).0

node_silent : (s : Settings) (ids : List ℕ) (cs : List Provisioned) (p : ℕ) (id : PortId)
    → outlet_of id (new_path_node s ids cs (position_of p)).ports ≡ silent
unfolding new_path_node tributaries_at
node_silent s ids cs p id =
    found_silent id (tributaries_from (position_of p) 0 cs) (new_ports (λ (t : Tributary). t.outlet ≡ silent) (λ i e d m c. refl)
    (position_of p) 0 cs)

place_silent : (s : Settings) (ids : List ℕ) (cs : List Provisioned) (n p : ℕ) (id : PortId)
    → option_map_or (λ (x : PathNode). outlet_of id x.ports) (slice_get (new_nodes s ids cs n) p) silent ≡ silent
place_silent s ids cs n p id = by (slice_get (new_nodes s ids cs n) p) refl
  where
    by : (o : Option PathNode) → slice_get (new_nodes s ids cs n) p ≡ o
        → option_map_or (λ (x : PathNode). outlet_of id x.ports) o silent ≡ silent
    by None e = refl
    by (Some x) e =
        let low : p < n = omega (arith, slice_get_within (new_nodes s ids cs n) p x e, length-new s ids cs n) in
        ap (λ (y : PathNode). outlet_of id y.ports) (sym (get_or_from_slice_get (new_nodes s ids cs n) p x x e) ∙ new_at s ids cs n p x low)
        ∙ node_silent s ids cs p id

pub new_rings_are_silent : NewRingsAreSilent
unfolding outlet_at
new_rings_are_silent s ids circuits port = by (slice_get circuits.circuits port.circuit)
  where
    by : (o : Option Provisioned) → option_map_or (λ (c : Provisioned). option_map_or (λ (n : PathNode). outlet_of port n.ports)
        (slice_get (new_nodes s ids circuits.circuits (length ids)) (end_of c port.end).0) silent) o silent ≡ silent
    by None = refl
    by (Some c) = place_silent s ids circuits.circuits (length ids) (end_of c port.end).0 port

-- ---- what stays

pub stay_placed : PathNodesStayPlaced
stay_placed = record { new = new_placed; round = λ arrivals w placed. placed_round w arrivals placed }

pub stay_whole : PathRingsStayWhole
stay_whole = record {
  round = whole_round;
  rounds = whole_run;
  apply = λ w p d c may whole. record {
    placed = whole.placed;
    paired = record {
      honest = stay_honest.apply w.fibres p d c whole.paired.honest;
      prepared = stay_prepared.apply w.ring.settings.rate (length w.ring.ids) w.fibres p d c may whole.paired.prepared;
      carried = λ q h. (let is = whole.paired.carried q h in record { dark = is.dark; frames = is.frames });
    };
  };
}
