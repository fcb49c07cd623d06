-- What a calm round leaves, and when a round is calm.
use Rattle.std.proofs.Common.{◌≡◌, ℕ, zero, suc, subst, ◌<◌, ◌≤◌, true, List, [], ◌∷◌, length, get_or, refl, ap, sym, ◌∙◌, arith, inl, inr}
use Rattle.std.specs.Prelude.{◌&&◌, nat_le}
use Rattle.std.proofs.lemmas.Bool.{and_parts, leb-true, le-leb, cases_Bool, both_ways}
use Rattle.std.proofs.lemmas.List.Folds.{list_all_at}
use Rattle.std.proofs.lemmas.List.Sums.{list_all-from_AllPass}
use Rattle.sdh_ringmap.specs.declared.Side.{Side}
use Rattle.sdh_ringmap.specs.declared.Side.TheVariants.{West, East}
use Rattle.sdh_terminal.specs.Same.{same_readings, same_generators}
use Rattle.sdh_terminal.proofs.Marks.{same-readings}
use Rattle.sdh_sncp.specs.Node.{PathNode, inlet_on, path_sending_on, unchanged, path_crossing, after_path_crossing, path_with_calm, path_node_round}
use Rattle.sdh_sncp.specs.Ring.{nowhere, path_node_at, World, path_node_after, round, is_calm}
use Rattle.sdh_sncp.specs.Laws.{IsWholePathRing}
use Rattle.sdh_sncp.proofs.Nodes.{informed, nodes_after, length-after}
use Rattle.sdh_terminal.proofs.Same.{readings_same, generators_same, generators_itself}

-- interpreters and generators of both sides are equal
pub record AreSame (a b : PathNode) : Type 0 where
  pub readings : (d : Side) → (inlet_on d a).readings ≡ (inlet_on d b).readings
  pub generators : (d : Side) → (path_sending_on d a).generators ≡ (path_sending_on d b).generators

unchanged_same : (a b : PathNode) → unchanged a b ≡ true → AreSame a b
unchanged_same a b e =
    let first =
    and_parts (same_readings a.west.readings b.west.readings && same_readings a.east.readings b.east.readings)
    (same_generators a.west_out.generators b.west_out.generators
    && same_generators a.east_out.generators b.east_out.generators) e in
    let reads = and_parts (same_readings a.west.readings b.west.readings) (same_readings a.east.readings b.east.readings) first.0 in
    let sends =
    and_parts (same_generators a.west_out.generators b.west_out.generators)
    (same_generators a.east_out.generators b.east_out.generators) first.1 in
    record { readings = read reads.0 reads.1; generators = send sends.0 sends.1 }
  where
    read : same_readings a.west.readings b.west.readings ≡ true → same_readings a.east.readings b.east.readings ≡ true → (d : Side)
        → (inlet_on d a).readings ≡ (inlet_on d b).readings
    read west east West = readings_same a.west.readings b.west.readings west
    read west east East = readings_same a.east.readings b.east.readings east

    send : same_generators a.west_out.generators b.west_out.generators ≡ true
        → same_generators a.east_out.generators b.east_out.generators ≡ true → (d : Side)
        → (path_sending_on d a).generators ≡ (path_sending_on d b).generators
    send west east West = generators_same a.west_out.generators b.west_out.generators west
    send west east East = generators_same a.east_out.generators b.east_out.generators east

same_unchanged : (a b : PathNode) → AreSame a b → unchanged a b ≡ true
same_unchanged a b is =
    let west : same_readings a.west.readings b.west.readings ≡ true =
    ap (λ xs. same_readings xs b.west.readings) (is.readings West) ∙ same-readings b.west.readings in
    let east : same_readings a.east.readings b.east.readings ≡ true =
    ap (λ xs. same_readings xs b.east.readings) (is.readings East) ∙ same-readings b.east.readings in
    let west_out : same_generators a.west_out.generators b.west_out.generators ≡ true =
    ap (λ xs. same_generators xs b.west_out.generators) (is.generators West) ∙ generators_itself b.west_out.generators in
    let east_out : same_generators a.east_out.generators b.east_out.generators ≡ true =
    ap (λ xs. same_generators xs b.east_out.generators) (is.generators East) ∙ generators_itself b.east_out.generators in
    rw (west, east, west_out, east_out) refl

-- a calm round isn't the node's first one, and changes no interpreter and no generator
calm_leaves : (n : PathNode) → (path_node_after n).calm ≡ true → (1 ≤ n.rounds) × AreSame (path_node_after n) n
unfolding path_node_round path_with_calm
calm_leaves n e =
    let both = and_parts (nat_le 1 n.rounds) (unchanged (after_path_crossing (path_crossing n) n) n) e in
    let is = unchanged_same (after_path_crossing (path_crossing n) n) n both.1 in
    (leb-true 1 n.rounds both.0, record { readings = reads is; generators = sends is })
  where
    reads : AreSame (after_path_crossing (path_crossing n) n) n → (d : Side) → (inlet_on d (path_node_after n)).readings ≡ (inlet_on d n).readings
    reads is West = is.readings West
    reads is East = is.readings East

    sends : AreSame (after_path_crossing (path_crossing n) n) n → (d : Side) → (path_sending_on d (path_node_after n)).generators ≡ (path_sending_on d n).generators
    sends is West = is.generators West
    sends is East = is.generators East

unchanged_is_calm : (n : PathNode) → 1 ≤ n.rounds → AreSame (path_node_after n) n → (path_node_after n).calm ≡ true
unfolding path_node_round path_with_calm
unchanged_is_calm n ran is =
    let some : nat_le 1 n.rounds ≡ true = le-leb 1 n.rounds ran in
    rw some (same_unchanged (after_path_crossing (path_crossing n) n) n (record { readings = reads; generators = sends }))
  where
    reads : (d : Side) → (inlet_on d (after_path_crossing (path_crossing n) n)).readings ≡ (inlet_on d n).readings
    reads West = is.readings West
    reads East = is.readings East

    sends : (d : Side) → (path_sending_on d (after_path_crossing (path_crossing n) n)).generators ≡ (path_sending_on d n).generators
    sends West = is.generators West
    sends East = is.generators East

module _ (w : World) (whole : IsWholePathRing w) where
  at_any : (ns : List PathNode) (p : ℕ) (x : PathNode) → p < length ns → get_or ns p x ≡ path_node_at ns p
  at_any [] p x h = absurd (omega arith)
  at_any (n ∷ ns) zero x h = refl
  at_any (n ∷ ns) (suc p) x h = at_any ns p x (omega arith)

  abbrev after : List PathNode
  after = (round w).ring.nodes

  before_same : (p : ℕ) → AreSame (path_node_after (informed w p)) (informed w p) → AreSame (path_node_after (informed w p)) (path_node_at w.ring.nodes p)
  before_same p is = record { readings = reads; generators = sends }
    where
      reads : (d : Side) → (inlet_on d (path_node_after (informed w p))).readings ≡ (inlet_on d (path_node_at w.ring.nodes p)).readings
      reads West = is.readings West
      reads East = is.readings East

      sends : (d : Side) → (path_sending_on d (path_node_after (informed w p))).generators ≡ (path_sending_on d (path_node_at w.ring.nodes p)).generators
      sends West = is.generators West
      sends East = is.generators East

  told_same : (p : ℕ) → AreSame (path_node_after (informed w p)) (path_node_at w.ring.nodes p) → AreSame (path_node_after (informed w p)) (informed w p)
  told_same p is = record { readings = reads; generators = sends }
    where
      reads : (d : Side) → (inlet_on d (path_node_after (informed w p))).readings ≡ (inlet_on d (informed w p)).readings
      reads West = is.readings West
      reads East = is.readings East

      sends : (d : Side) → (path_sending_on d (path_node_after (informed w p))).generators ≡ (path_sending_on d (informed w p)).generators
      sends West = is.generators West
      sends East = is.generators East

  module _ (calm : is_calm after ≡ true) where
    node_calm : (p : ℕ) → p < length after → (path_node_at after p).calm ≡ true
    node_calm p h = elim (cases_Bool (path_node_at after p).calm) [
      | inl is ↦ is
      | inr other ↦ absurd (both_ways (is_calm after) (list_all_at (λ (n : PathNode). n.calm) after p nowhere h other) calm)
    ]

    leaves : (p : ℕ) → p < length w.ring.nodes → (1 ≤ (informed w p).rounds) × AreSame (path_node_after (informed w p)) (informed w p)
    leaves p h =
        let high : p < length after = omega (arith, length-after w) in
        calm_leaves (informed w p) (ap (λ (n : PathNode). n.calm) (sym (nodes_after w whole.placed p h)) ∙ node_calm p high)

    pub same_there : (p : ℕ) → p < length w.ring.nodes → AreSame (path_node_at after p) (path_node_at w.ring.nodes p)
    same_there p h = subst (λ n. AreSame n (path_node_at w.ring.nodes p)) (sym (nodes_after w whole.placed p h)) (before_same p (leaves p h).1)

  pub calm_where_same : 0 < w.ring.rounds → ((p : ℕ) → p < length w.ring.nodes → AreSame (path_node_at after p) (path_node_at w.ring.nodes p))
      → is_calm after ≡ true
  calm_where_same ran same = list_all-from_AllPass (λ (n : PathNode). n.calm) after (λ p x h.
      (let low : p < length w.ring.nodes = omega (arith, length-after w) in
      let next = nodes_after w whole.placed p low in
      ap (λ (n : PathNode). n.calm) (at_any after p x h ∙ next)
      ∙ unchanged_is_calm (informed w p) (let r = (whole.placed.between p low).run.ran in omega arith)
      (told_same p (subst (λ n. AreSame n (path_node_at w.ring.nodes p)) next (same p low)))))
