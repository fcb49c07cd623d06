-- Room for what the ports of the nodes of a ring deliver, while calls and rounds go on.
use Rattle.std.proofs.Common.{◌≡◌, ℕ, zero, suc, ◌+◌, ◌<◌, ◌≤◌, List, [], ◌∷◌, ◌++◌, length, drop, map, get_or, refl, ap, sym, ◌∙◌, arith}
use Rattle.std.specs.Prelude.{Some, slice_get}
use Rattle.std.specs.List.{range_with_len}
use Rattle.std.proofs.Math.ListN.{drop_of_length-le, length-set, set}
use Rattle.std.proofs.Math.Seq.{map-set_same}
use Rattle.std.proofs.lemmas.List.{length-append, length-map, get_or-map, get_or_default}
use Rattle.std.proofs.lemmas.Option.{get_or_from_slice_get, slice_get_within}
use Rattle.std.proofs.lemmas.Simd.{map-map}
use Rattle.sdh_basics.specs.Cells.{cells}
use Rattle.sdh_basics.proofs.CellsLaws.{get_or-cells}
use Rattle.sdh_ringmap.specs.Places.{position_of}
use Rattle.sdh_circuits.specs.Provisioned.{Provisioned}
use Rattle.sdh_payload.specs.Outlet.{Outlet}
use Rattle.sdh_plan.specs.declared.step.Step.{Step}
use Rattle.sdh_plan.specs.declared.step.Step.TheVariants as step
use Rattle.sdh_terminal.specs.Tributaries.{tributaries_of, tributaries_from, tributaries_at}
use Rattle.sdh_terminal.specs.Fixed.{fixed_port}
use Rattle.sdh_node.specs.Node.{Node, new_node}
use Rattle.sdh_node.specs.Stations.{adm}
use Rattle.sdh_rounds.proofs.Keeping.{keeps_round}
use Rattle.sdh_request.specs.declared.settings.Settings.{Settings}
use Rattle.sdh_node.specs.Rings.Held.{HeldRing, new_nodes, node_at, nowhere}
use Rattle.sdh_node.specs.Rings.Rounds.{World}
use Rattle.sdh_node.specs.Rings.Runs.{IsRound}
use Rattle.sdh_owed.specs.Steps.{world_after_step}
use Rattle.sdh_node.specs.Rings.Changes.{changed}
use Rattle.sdh_node.specs.Rings.Fixed.{Fixed, fixed}
use Rattle.sdh_node.proofs.RingLaws.Keeping.{fixed_with, fixed_next, all_commanded, all_held, all_slipped}
use Rattle.sdh_ring.specs.Observed.{RanOne}
use Rattle.sdh_outage_cli.specs.Ports.{ports_by_node}
use Rattle.sdh_outage_cli.specs.Rooms.{ports_at}
use Rattle.sdh_outage_cli.proofs.Holding.{rest_from}

-- ---- ports are counted

pub ports_none : (at : ℕ) (cs : List Provisioned) → 0 + length (tributaries_from (position_of at) 0 (drop 0 cs)) ≡ ports_at cs at
unfolding tributaries_at
ports_none at cs = let same : length (tributaries_from (position_of at) 0 (drop 0 cs)) ≡ ports_at cs at = refl in omega (arith, same)

pub ports_more : (at i count : ℕ) (cs : List Provisioned) (c : Provisioned) → slice_get cs i ≡ Some c
    → count + length (tributaries_from (position_of at) i (drop i cs)) ≡ ports_at cs at
    → count + length (tributaries_of (position_of at) i c) + length (tributaries_from (position_of at) (i + 1) (drop (i + 1) cs)) ≡ ports_at cs at
ports_more at i count cs c there sum =
    let here = length (tributaries_of (position_of at) i c) in
    let next : suc i ≡ i + 1 = omega arith in
    let split : length (tributaries_from (position_of at) i (drop i cs)) ≡ here + length (tributaries_from (position_of at) (i + 1) (drop (i + 1) cs)) =
    ap (λ l. length (tributaries_from (position_of at) i l)) (rest_from cs i c there)
    ∙ length-append (tributaries_of (position_of at) i c) (tributaries_from (position_of at) (i + 1) (drop (suc i) cs))
    ∙ ap (λ n. here + length (tributaries_from (position_of at) (i + 1) (drop n cs))) next in
    omega (arith, split, sum)

pub ports_all : (at i count : ℕ) (cs : List Provisioned) → length cs ≤ i
    → count + length (tributaries_from (position_of at) i (drop i cs)) ≡ ports_at cs at → count ≡ ports_at cs at
ports_all at i count cs past sum =
    let none : length (tributaries_from (position_of at) i (drop i cs)) ≡ 0 =
    ap (λ l. length (tributaries_from (position_of at) i l)) (drop_of_length-le cs past) in
    omega (arith, none, sum)

-- ---- lists of counts

-- what holds below i and at i holds below i + 1
pub upto : (P : ℕ → Type 0) (i : ℕ) → ((j : ℕ) → j < i → P j) → P i → (j : ℕ) → j < i + 1 → P j
upto P zero before here zero lt = here
upto P zero before here (suc j) lt = absurd (omega arith)
upto P (suc i) before here zero lt = before 0 (omega arith)
upto P (suc i) before here (suc j) lt = upto (λ k. P (suc k)) i (λ k low. before (suc k) (omega arith)) here j (omega arith)

-- a bound of all elements, and of one more
pub push_few : (xs : List ℕ) (x most : ℕ) → x ≤ most → ((j : ℕ) → get_or xs j 0 ≤ most) → (j : ℕ) → get_or (xs ++ x ∷ []) j 0 ≤ most
push_few [] x most low all zero = low
push_few [] x most low all (suc j) = omega arith
push_few (y ∷ xs) x most low all zero = all 0
push_few (y ∷ xs) x most low all (suc j) = push_few xs x most low (λ k. all (suc k)) j

pub map_push : {X Y : Type 0} (f : X → Y) (xs : List X) (x : X) → map f (xs ++ x ∷ []) ≡ map f xs ++ f x ∷ []
map_push f [] x = refl
map_push f (y ∷ xs) x = ap (λ l. f y ∷ l) (map_push f xs x)

-- ---- room for the ports of a node

abbrev ports_of : Node → ℕ
ports_of n = length n.ports

pub room_at : (rooms : List (List Outlet)) (k : ℕ) (d : List Outlet) → map length rooms ≡ cells (λ j. j) (length rooms) → k < length rooms
    → length (get_or rooms k d) ≡ k
room_at rooms k d sized low =
    sym (get_or-map length rooms k d 0 low) ∙ ap (λ l. get_or l k 0) sized ∙ get_or-cells (λ j. j) (length rooms) k 0 low

count_at : (r : HeldRing) (counts : List ℕ) (at : ℕ) (n : Node) → counts ≡ ports_by_node r → slice_get r.nodes at ≡ Some n
    → get_or counts at 0 ≡ length n.ports
count_at r counts at n counted there =
    ap (λ l. get_or l at 0) counted ∙ get_or-map ports_of r.nodes at n 0 (slice_get_within r.nodes at n there)
    ∙ ap ports_of (get_or_from_slice_get r.nodes at n n there)

count_within : (r : HeldRing) (counts : List ℕ) (at : ℕ) (n : Node) → counts ≡ ports_by_node r → slice_get r.nodes at ≡ Some n
    → at < length counts
count_within r counts at n counted there =
    let low = slice_get_within r.nodes at n there in
    let size : length counts ≡ length r.nodes = ap length counted ∙ length-map r.nodes ports_of in
    omega arith

-- k is how many ports the node at this position has, and there is room for them
pub room_for : (r : HeldRing) (counts : List ℕ) (rooms : List (List Outlet)) (at k : ℕ) (n : Node) → counts ≡ ports_by_node r
    → slice_get r.nodes at ≡ Some n → ((i : ℕ) → i < length counts → get_or counts i 0 < length rooms) → k ≡ get_or counts at k
    → (k ≡ length n.ports) × (k < length rooms)
room_for r counts rooms at k n counted there fit is =
    let inside = count_within r counts at n counted there in
    let count : k ≡ get_or counts at 0 = is ∙ get_or_default counts at k 0 inside in
    let low = fit at inside in
    (count ∙ count_at r counts at n counted there, omega (arith, low, count))

-- the rooms after one was given something else of the same length
pub rooms_set : (rooms : List (List Outlet)) (k : ℕ) (new : List Outlet) → map length rooms ≡ cells (λ j. j) (length rooms) → k < length rooms
    → length new ≡ k → map length (set rooms k new) ≡ cells (λ j. j) (length (set rooms k new))
rooms_set rooms k new sized low long =
    map-set_same length rooms k new [] (long ∙ sym (room_at rooms k [] sized low)) ∙ sized
    ∙ ap (cells (λ j. j)) (sym (length-set rooms k new))

pub node_there : (r : HeldRing) (at : ℕ) (n : Node) → slice_get r.nodes at ≡ Some n → node_at r.nodes at ≡ n
node_there r at n there = get_or_from_slice_get r.nodes at n nowhere there

-- ---- the number of ports stays

ports_fixed : (n : Node) → length n.ports ≡ length (fixed n).ports
unfolding fixed
ports_fixed n = sym (length-map n.ports fixed_port)

same_ports : (old new : List Node) → map fixed new ≡ map fixed old → map ports_of new ≡ map ports_of old
same_ports old new same =
    let count : Fixed → ℕ = λ f. length f.ports in
    (λ j. map (λ n. ports_fixed n j) new) ∙ sym (map-map count fixed new) ∙ ap (map count) same ∙ map-map count fixed old
    ∙ sym (λ j. map (λ n. ports_fixed n j) old)

pub ports_round : (w left : World) → IsRound w left → ports_by_node left.ring ≡ ports_by_node w.ring
ports_round w left is = same_ports w.ring.nodes left.ring.nodes (keeps_round adm fixed fixed_with fixed_next w left is)

ports_step : (s : Step) (w : World) → ports_by_node (world_after_step s w).ring ≡ ports_by_node w.ring
unfolding changed
ports_step (step.Fibre e) w = refl
ports_step (step.Order p d command) w = same_ports w.ring.nodes _ (all_commanded p.0 d command w.ring.nodes)
ports_step (step.Moment now) w = refl
ports_step (step.Hold p turns) w = same_ports w.ring.nodes _ (all_held p.0 turns w.ring.nodes)
ports_step (step.Slip port turn count) w = same_ports w.ring.nodes _ (all_slipped _ port turn count w.ring.nodes)
ports_step step.Settle w = refl

pub ports_changed : (s : Step) (w left : World) → left ≡ world_after_step s w → ports_by_node w.ring ≡ ports_by_node left.ring
ports_changed s w left is = sym (ap (λ (v : World). ports_by_node v.ring) is ∙ ports_step s w)

-- after one round more
pub ports_ran : (at : ℕ → World) (k : ℕ) (r : HeldRing) → RanOne at k r → ports_by_node (at k).ring ≡ ports_by_node r
ports_ran at k r ran = sym (ap (λ (v : HeldRing). ports_by_node v) ran.ring_is ∙ ports_round (at k) (at (suc k)) ran.round)

-- ---- a new ring

new_ports : (s : Settings) (ids : List ℕ) (cs : List Provisioned) (p : ℕ) → length (new_node s ids cs (position_of p)).ports ≡ ports_at cs p
unfolding new_node
new_ports s ids cs p = refl

pub ports_new : (s : Settings) (ids : List ℕ) (cs : List Provisioned) (n : ℕ) → map ports_of (new_nodes s ids cs n) ≡ cells (ports_at cs) n
unfolding new_nodes cells
ports_new s ids cs n =
    map-map ports_of (λ p. new_node s ids cs (position_of p)) (range_with_len 0 n) ∙ (λ j. map (λ p. new_ports s ids cs p j) (range_with_len 0 n))
