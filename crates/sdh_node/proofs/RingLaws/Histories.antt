-- What holds on a side, change by change and round by round.
use Rattle.std.proofs.Common.{◌≡◌, ◌≢◌, ℕ, zero, suc, ◌+◌, ◌*◌, ◌-◌, ◌%◌, ◌<◌, Bool, true, false, List, [], ◌∷◌, length, set, get_or, map}
use Rattle.std.proofs.Common.{refl, ap, sym, ◌∙◌, arith, ◌⊎◌, inl, inr}
use Rattle.std.specs.Prelude.{◌==◌, nat_lt, if◌then◌else◌, slice_index_or}
use Rattle.std.proofs.lemmas.Bool.Decides.{nat_tests}
use Rattle.std.proofs.lemmas.Bool.{cases_eq, cond-true, cond-false}
use Rattle.std.proofs.lemmas.List.{get_or-set_same, get_or-set_other, length-set, get_or-replicate}
use Rattle.std.proofs.Math.Nat.{mod-lt}
use Rattle.sdh_ringmap.specs.declared.Side.{Side}
use Rattle.sdh_ringmap.specs.declared.Side.TheVariants.{West, East}
use Rattle.sdh_ringmap.specs.Places.{opposite, position_of}
use Rattle.sdh_request.specs.declared.Command.{Command}
use Rattle.sdh_request.specs.declared.Command.TheVariants as command
use Rattle.sdh_ringmap.specs.declared.terms.Condition.{Condition}
use Rattle.sdh_ringmap.specs.declared.terms.Condition.TheVariants.{Clear}
use Rattle.sdh_plant.specs.Fibres.{Arrival}
use Rattle.sdh_ringmap.specs.Fibres.{fibre, fibre_to}
use Rattle.sdh_node.specs.Receiving.{after_intake, after_overhead, commanded_by}
use Rattle.sdh_node.specs.Crossing.{after_decision}
use Rattle.sdh_payload.specs.declared.clock.Turn.{Turn}
use Rattle.sdh_circuits.specs.declared.PortId.{PortId}
use Rattle.sdh_node.specs.Node.{Node, new_node, at_receiving, held_for, slips_at, crossing, after_crossing, with_calm, node_round}
use Rattle.sdh_circuits.specs.Provisioned.{Provisioned}
use Rattle.sdh_request.specs.declared.settings.Settings.{Settings}
use Rattle.sdh_node.specs.Rings.Held.{at_place, place_of_port, new_nodes}
use Rattle.sdh_node.specs.Rings.Laws.{NewHolds, HistoriesHold, CallsChange}
use Rattle.sdh_node.proofs.RingLaws.Keeping.{new_at, length-new, all_placed}
use Rattle.sdh_node.specs.Rings.Rounds.{World, with_arrival, with_arrivals, all_with_arrivals, node_after, nodes_with, round_with}
use Rattle.sdh_node.specs.Rings.Rounds.{arrivals_of}
use Rattle.sdh_node.specs.Rings.Runs.{run}
use Rattle.sdh_restoration.specs.Changes.{Change, Fibre, Order, Hold, Slip, Now, Stretch}
use Rattle.sdh_node.specs.Rings.Changes.{changed, all_changed, after_stretch}
use Rattle.sdh_restoration.specs.Sides.{Holding, holding_after, all_holding, holding_in}
use Rattle.sdh_node.specs.Rings.Sides.{command_on, holding_of, world_in, HasPositions}
use Rattle.sdh_rounds.proofs.Runs.{count_round, conditions_round}
use Rattle.sdh_node.specs.Stations.{adm}
use Rattle.sdh_rounds.specs.Rounds as any_round
use Rattle.sdh_rounds.specs.Runs as any_run

-- ---- numbers

same_or_not : (i j : ℕ) → ((i ≡ j) × ((i == j) ≡ true)) ⊎ ((i ≢ j) × ((i == j) ≡ false))
same_or_not i j = elim (cases_eq i j) [
  | inl s ↦ inl (s, grind (arith, nat_tests))
  | inr n ↦ inr (n, grind (arith, nat_tests))
]

-- ---- a node

command_with : (e : Side) (a : Arrival) (d : Side) (n : Node) → command_on d (with_arrival e a n) ≡ command_on d n
command_with West a West n = refl
command_with West a East n = refl
command_with East a West n = refl
command_with East a East n = refl

command_met : (west east : Arrival) (d : Side) (n : Node) → command_on d (with_arrivals west east n) ≡ command_on d n
unfolding any_round.with_arrivals
command_met west east d n = command_with East east d (with_arrival West west n) ∙ command_with West west d n

command_next : (now : ℕ) (d : Side) (n : Node) → command_on d (node_after now n) ≡ command_on d n
unfolding node_round with_calm after_crossing crossing after_decision after_intake after_overhead
command_next now West n = refl
command_next now East n = refl

command_same : (d : Side) (c : Command) (n : Node) → command_on d (at_receiving d (commanded_by c) n) ≡ c
command_same West c n = refl
command_same East c n = refl

command_other : (d : Side) (c : Command) (n : Node) → command_on d (at_receiving (opposite d) (commanded_by c) n) ≡ command_on d n
command_other West c n = refl
command_other East c n = refl

-- ---- all nodes

commands_heard : (xs : List Arrival) (d : Side) (ns : List Node) → map (command_on d) (all_with_arrivals xs ns) ≡ map (command_on d) ns
commands_heard [] d ns = refl
commands_heard (west ∷ []) d ns = refl
commands_heard (west ∷ east ∷ later) d [] = refl
commands_heard (west ∷ east ∷ later) d (n ∷ ns) =
    ap (λ c. c ∷ map (command_on d) (all_with_arrivals later ns)) (command_met west east d n)
    ∙ ap (λ cs. command_on d n ∷ cs) (commands_heard later d ns)

commands_next : (now : ℕ) (d : Side) (ns : List Node) → map (command_on d) (map (node_after now) ns) ≡ map (command_on d) ns
commands_next now d [] = refl
commands_next now d (n ∷ ns) =
    ap (λ c. c ∷ map (command_on d) (map (node_after now) ns)) (command_next now d n)
    ∙ ap (λ cs. command_on d n ∷ cs) (commands_next now d ns)

commands_round : (xs : List Arrival) (d : Side) (w : World)
    → map (command_on d) (round_with xs w).ring.nodes ≡ map (command_on d) w.ring.nodes
unfolding any_round.round_with
commands_round xs d w = commands_next w.ring.moment d (nodes_with xs w) ∙ commands_heard xs d w.ring.nodes

moment_round : (xs : List Arrival) (w : World) → (round_with xs w).ring.moment ≡ w.ring.moment
unfolding any_round.round_with
moment_round xs w = refl

held_alike : (a b : Condition) (c d : Command) (m n : ℕ) → a ≡ b → c ≡ d → m ≡ n
    → ◌≡◌ {A = Holding} (record { condition = a; command = c; moment = m }) (record { condition = b; command = d; moment = n })
held_alike a b c d m n e f g =
    ap (λ x. record { condition = x; command = c; moment = m }) e ∙ ap (λ x. record { condition = b; command = x; moment = m }) f
    ∙ ap (λ x. record { condition = b; command = d; moment = x }) g

-- a round changes nothing that holds
holding_round : (n p : ℕ) (d : Side) (xs : List Arrival) (w : World) → holding_of n p d (round_with xs w) ≡ holding_of n p d w
unfolding holding_of
holding_round n p d xs w =
    held_alike _ _ _ _ _ _ (ap (λ cs. slice_index_or cs (fibre_to n p d) Clear) (conditions_round adm xs w))
    (ap (λ cs. slice_index_or cs p command.Clear) (commands_round xs d w)) (moment_round xs w)

holding_run : (n p : ℕ) (d : Side) (k : ℕ) (w : World) → holding_of n p d (run k w) ≡ holding_of n p d w
unfolding any_run.run any_round.round
holding_run n p d zero w = refl
holding_run n p d (suc k) w = holding_round n p d (arrivals_of (run k w)) (run k w) ∙ holding_run n p d k w

-- ---- changes

ordered_same : (q : ℕ) (d : Side) (c : Command) (ns : List Node) (p : ℕ) → p < length ns → q ≡ p
    → get_or (map (command_on d) (at_place q (at_receiving d (commanded_by c)) ns)) p command.Clear ≡ c
ordered_same q d c [] p low same = absurd (omega arith)
ordered_same zero d c (n ∷ ns) zero low same = command_same d c n
ordered_same zero d c (n ∷ ns) (suc p) low same = absurd (omega arith)
ordered_same (suc q) d c (n ∷ ns) zero low same = absurd (omega arith)
ordered_same (suc q) d c (n ∷ ns) (suc p) low same = ordered_same q d c ns p (omega arith) (omega arith)

ordered_apart : (q : ℕ) (e d : Side) (c : Command) (ns : List Node) (p : ℕ) → q ≢ p
    → get_or (map (command_on d) (at_place q (at_receiving e (commanded_by c)) ns)) p command.Clear
    ≡ get_or (map (command_on d) ns) p command.Clear
ordered_apart q e d c [] p apart = refl
ordered_apart zero e d c (n ∷ ns) zero apart = absurd (apart refl)
ordered_apart zero e d c (n ∷ ns) (suc p) apart = refl
ordered_apart (suc q) e d c (n ∷ ns) zero apart = refl
ordered_apart (suc q) e d c (n ∷ ns) (suc p) apart = ordered_apart q e d c ns p (λ s. apart (ap suc s))

ordered_other : (q : ℕ) (d : Side) (c : Command) (ns : List Node)
    → map (command_on d) (at_place q (at_receiving (opposite d) (commanded_by c)) ns) ≡ map (command_on d) ns
ordered_other q d c [] = refl
ordered_other zero d c (n ∷ ns) = ap (λ x. x ∷ map (command_on d) ns) (command_other d c n)
ordered_other (suc q) d c (n ∷ ns) = ap (λ xs. command_on d n ∷ xs) (ordered_other q d c ns)

fibre_apart : (q p : ℕ) (d : Side) → q ≢ p → fibre q d ≢ fibre p d
fibre_apart q p West h = λ e. h (omega arith)
fibre_apart q p East h = λ e. h (omega arith)

fibre_sides : (q p : ℕ) (d : Side) → fibre q (opposite d) ≢ fibre p d
fibre_sides q p West = λ e. absurd (omega arith)
fibre_sides q p East = λ e. absurd (omega arith)

number : (i j : ℕ) → i ≢ j → (i == j) ≡ false
number i j h = elim (same_or_not i j) [
  | inl s ↦ absurd (h s.0)
  | inr n ↦ n.1
]

number_same : (i j : ℕ) → i ≡ j → (i == j) ≡ true
number_same i j h = elim (same_or_not i j) [
  | inl s ↦ s.1
  | inr n ↦ absurd (n.0 h)
]

ordered_here : (q : ℕ) (d : Side) (c : Command) (ns : List Node) (p : ℕ) → p < length ns
    → get_or (map (command_on d) (at_place q (at_receiving d (commanded_by c)) ns)) p command.Clear
    ≡ (if fibre q d == fibre p d then c else get_or (map (command_on d) ns) p command.Clear)
ordered_here q d c ns p low = elim (same_or_not q p) [
  | inl s ↦ ordered_same q d c ns p low s.0 ∙ sym (cond-true (fibre q d == fibre p d) c (get_or (map (command_on d) ns) p command.Clear)
      (number_same (fibre q d) (fibre p d) (ap (λ k. fibre k d) s.0)))
  | inr n ↦ ordered_apart q d d c ns p n.0 ∙ sym (cond-false (fibre q d == fibre p d) c (get_or (map (command_on d) ns) p command.Clear)
      (number (fibre q d) (fibre p d) (fibre_apart q p d n.0)))
]

ordered_there : (q : ℕ) (d : Side) (c : Command) (ns : List Node) (p : ℕ)
    → get_or (map (command_on d) (at_place q (at_receiving (opposite d) (commanded_by c)) ns)) p command.Clear
    ≡ (if fibre q (opposite d) == fibre p d then c else get_or (map (command_on d) ns) p command.Clear)
ordered_there q d c ns p =
    ap (λ cs. get_or cs p command.Clear) (ordered_other q d c ns)
    ∙ sym (cond-false (fibre q (opposite d) == fibre p d) c (get_or (map (command_on d) ns) p command.Clear)
    (number (fibre q (opposite d)) (fibre p d) (fibre_sides q p d)))

ordered : (q : ℕ) (e d : Side) (c : Command) (ns : List Node) (p : ℕ) → p < length ns
    → get_or (map (command_on d) (at_place q (at_receiving e (commanded_by c)) ns)) p command.Clear
    ≡ (if fibre q e == fibre p d then c else get_or (map (command_on d) ns) p command.Clear)
ordered q West West c ns p low = ordered_here q West c ns p low
ordered q East East c ns p low = ordered_here q East c ns p low
ordered q East West c ns p low = ordered_there q West c ns p
ordered q West East c ns p low = ordered_there q East c ns p

applied : (i j : ℕ) (c : Condition) (cs : List Condition) → j < length cs
    → get_or (set cs i c) j Clear ≡ (if i == j then c else get_or cs j Clear)
applied i j c cs low = elim (same_or_not i j) [
  | inl s ↦ (let e = s.0 in ap (λ k. get_or (set cs i c) k Clear) (sym e) ∙ get_or-set_same cs i c Clear (omega arith)
      ∙ sym (cond-true (i == j) c (get_or cs j Clear) s.1))
  | inr n ↦ get_or-set_other cs i j c Clear (λ s. n.0 (sym s)) ∙ sym (cond-false (i == j) c (get_or cs j Clear) n.1)
]

ends_inside : (n p : ℕ) (d : Side) → 0 < n → fibre_to n p d < 2 * n
ends_inside n p West some = let h : (p + (n - 1)) % n < n = mod-lt (p + (n - 1)) some in omega arith
ends_inside n p East some = let h : (p + 1) % n < n = mod-lt (p + 1) some in omega arith

condition_if : (b : Bool) (c : Condition) (h : Holding) → record h { condition = if b then c else h.condition }
    ≡ (if b then record h { condition = c } else h)
condition_if true c h = refl
condition_if false c h = refl

command_if : (b : Bool) (c : Command) (h : Holding) → record h { command = if b then c else h.command }
    ≡ (if b then record h { command = c } else h)
command_if true c h = refl
command_if false c h = refl

held_command : (d : Side) (turns : ℕ) (n : Node) → command_on d (held_for turns n) ≡ command_on d n
held_command West turns n = refl
held_command East turns n = refl

slipped_command : (d : Side) (id : PortId) (turn : Turn) (count : ℕ) (n : Node) → command_on d (slips_at id turn count n) ≡ command_on d n
slipped_command West id turn count n = refl
slipped_command East id turn count n = refl

holding_changed : (n p : ℕ) (d : Side) (c : Change) (w : World) → HasPositions n w → p < n
    → holding_of n p d (changed c w) ≡ holding_after n p d c (holding_of n p d w)
unfolding holding_of changed
holding_changed n p d (Fibre q e condition) w fits low =
    ap (λ x. record (holding_of n p d w) { condition = x })
    (applied (fibre q e) (fibre_to n p d) condition w.fibres.conditions
    (let s = fits.conditions in let i = ends_inside n p d (omega arith) in omega arith))
    ∙ condition_if (fibre q e == fibre_to n p d) condition (holding_of n p d w)
holding_changed n p d (Order q e c) w fits low =
    ap (λ x. record (holding_of n p d w) { command = x }) (ordered q e d c w.ring.nodes p (let s = fits.nodes in omega arith))
    ∙ command_if (fibre q e == fibre p d) c (holding_of n p d w)
holding_changed n p d (Hold q turns) w fits low =
    ap (λ cs. record (holding_of n p d w) { command = get_or cs p command.Clear })
    (all_placed (command_on d) (held_for turns) (held_command d turns) q w.ring.nodes)
holding_changed n p d (Slip id turn count) w fits low =
    ap (λ cs. record (holding_of n p d w) { command = get_or cs p command.Clear })
    (all_placed (command_on d) (slips_at id turn count) (slipped_command d id turn count) (place_of_port w.ring id) w.ring.nodes)
holding_changed n p d (Now t) w fits low = refl

pub length-placed : (change : Node → Node) (i : ℕ) (ns : List Node) → length (at_place i change ns) ≡ length ns
length-placed change i [] = refl
length-placed change zero (n ∷ ns) = refl
length-placed change (suc i) (n ∷ ns) = ap suc (length-placed change i ns)

fits_changed : (n : ℕ) (c : Change) (w : World) → HasPositions n w → HasPositions n (changed c w)
unfolding changed
fits_changed n (Fibre q e condition) w h = record {
  conditions = length-set w.fibres.conditions (fibre q e) condition
      ∙ h.conditions;
  nodes = h.nodes;
}
fits_changed n (Order q e c) w h = record {
  conditions = h.conditions;
  nodes = length-placed (at_receiving e (commanded_by c)) q w.ring.nodes ∙ h.nodes;
}
fits_changed n (Hold q turns) w h = record { conditions = h.conditions; nodes = length-placed (held_for turns) q w.ring.nodes ∙ h.nodes }
fits_changed n (Slip id turn count) w h = record {
  conditions = h.conditions;
  nodes = length-placed (slips_at id turn count) (place_of_port w.ring id) w.ring.nodes ∙ h.nodes;
}
fits_changed n (Now t) w h = record { conditions = h.conditions; nodes = h.nodes }

fits_all : (n : ℕ) (cs : List Change) (w : World) → HasPositions n w → HasPositions n (all_changed cs w)
fits_all n [] w h = h
fits_all n (c ∷ cs) w h = fits_all n cs (changed c w) (fits_changed n c w h)

fits_run : (n k : ℕ) (w : World) → HasPositions n w → HasPositions n (run k w)
unfolding any_run.run any_round.round
fits_run n zero w h = h
fits_run n (suc k) w h = let was = fits_run n k w h in
    record {
      conditions = ap length (conditions_round adm (arrivals_of (run k w)) (run k w))
          ∙ was.conditions;
      nodes = count_round adm (arrivals_of (run k w)) (run k w) ∙ was.nodes;
    }

holding_all : (n p : ℕ) (d : Side) (cs : List Change) (w : World) → HasPositions n w → p < n
    → holding_of n p d (all_changed cs w) ≡ all_holding n p d cs (holding_of n p d w)
holding_all n p d [] w fits low = refl
holding_all n p d (c ∷ cs) w fits low =
    holding_all n p d cs (changed c w) (fits_changed n c w fits) low ∙ ap (all_holding n p d cs) (holding_changed n p d c w fits low)

-- what holds in round t of the stretches follows from the history
pub holding_is : (n p : ℕ) (d : Side) (ss : List Stretch) (w : World) (t : ℕ) → HasPositions n w → p < n
    → holding_of n p d (world_in ss w t) ≡ holding_in n p d ss (holding_of n p d w) t
holding_is n p d [] w t fits low = refl
holding_is n p d (s ∷ ss) w t fits low =
    go (nat_lt t s.rounds) (holding_is n p d ss (after_stretch s w) (t - s.rounds)
    (fits_run n s.rounds (all_changed s.changes w) (fits_all n s.changes w fits)) low)
  where
    all : holding_of n p d (all_changed s.changes w) ≡ all_holding n p d s.changes (holding_of n p d w)
    all = holding_all n p d s.changes w fits low

    go : (b : Bool) → holding_of n p d (world_in ss (after_stretch s w) (t - s.rounds))
        ≡ holding_in n p d ss (holding_of n p d (after_stretch s w)) (t - s.rounds)
        → holding_of n p d (if b then run t (all_changed s.changes w) else world_in ss (after_stretch s w) (t - s.rounds))
        ≡ (if b then all_holding n p d s.changes (holding_of n p d w)
        else holding_in n p d ss (all_holding n p d s.changes (holding_of n p d w)) (t - s.rounds))
    go true later = holding_run n p d t (all_changed s.changes w) ∙ all
    go false later = later ∙ ap (λ h. holding_in n p d ss h (t - s.rounds)) (holding_run n p d s.rounds (all_changed s.changes w) ∙ all)

-- ---- a new ring over new fibres

new_command : (s : Settings) (ids : List ℕ) (cs : List Provisioned) (d : Side) (p : ℕ)
    → command_on d (new_node s ids cs (position_of p)) ≡ command.Clear
unfolding new_node
new_command s ids cs West p = refl
new_command s ids cs East p = refl

get-map : {X Y : Type 0} (f : X → Y) (xs : List X) (i : ℕ) (d : X) (e : Y) → i < length xs → get_or (map f xs) i e ≡ f (get_or xs i d)
get-map f [] i d e h = absurd (omega arith)
get-map f (x ∷ xs) zero d e h = refl
get-map f (x ∷ xs) (suc i) d e h = get-map f xs i d e (omega arith)

new_commands : (s : Settings) (ids : List ℕ) (cs : List Provisioned) (d : Side) (n p : ℕ) → p < n
    → get_or (map (command_on d) (new_nodes s ids cs n)) p command.Clear ≡ command.Clear
new_commands s ids cs d n p low =
    let one = new_node s ids cs (position_of p) in
    get-map (command_on d) (new_nodes s ids cs n) p one command.Clear (let e = length-new s ids cs n in omega arith)
    ∙ ap (command_on d) (new_at s ids cs n p one low) ∙ new_command s ids cs d p

pub new_holds : NewHolds
unfolding holding_of
new_holds s ids circuits rate f p d low =
    held_alike _ _ _ _ _ _ (get_or-replicate (2 * length ids) (fibre_to (length ids) p d) Clear Clear
    (ends_inside (length ids) p d (omega arith))) (new_commands s ids circuits.circuits d (length ids) p low) refl

pub histories_hold : HistoriesHold
histories_hold n p d ss w t fits low = holding_is n p d ss w t fits low

pub calls_change : CallsChange
unfolding changed
calls_change = record {
  command = λ r f p d c. refl;
  hold = λ r f p turns. refl;
  slip = λ r f port turn count. refl;
  moment = λ r f t. refl;
  apply = λ r f p d c. refl;
}
