-- How many turns controllers are to miss is what the script says.
use Rattle.std.proofs.Common.{◌≡◌, ℕ, zero, suc, ◌-◌, ◌<◌, ◌≤◌, Bool, true, false, List, [], ◌∷◌, length, refl, ap, sym, ◌∙◌, arith, inl, inr}
use Rattle.std.specs.Prelude.{◌==◌, nat_lt, if◌then◌else◌}
use Rattle.std.proofs.lemmas.Bool.{cases_lt, cases_eq, eq-eqb, ne_eqb}
use Rattle.std.proofs.lemmas.Bool.Decides.{nat_tests}
use Rattle.sdh_node.specs.Receiving.{commanded_by}
use Rattle.sdh_node.specs.Node.{Node, at_receiving, held_for, slips_at}
use Rattle.sdh_node.proofs.Decided.{turns_left}
use Rattle.sdh_node.specs.Rings.Held.{at_place, place_of_port, node_at}
use Rattle.sdh_node.specs.Rings.Rounds.{World, round}
use Rattle.sdh_node.specs.Rings.Runs.{run}
use Rattle.sdh_node.specs.Rings.Changes.{changed, all_changed, after_stretch}
use Rattle.sdh_node.specs.Rings.Laws.{MayHappen}
use Rattle.sdh_node.specs.Rings.Sides.{world_in}
use Rattle.sdh_restoration.specs.Changes.{Change, Fibre, Order, Hold, Slip, Now, Stretch, rounds_in}
use Rattle.sdh_laws.specs.Hearing.Laws.{IsWhole}
use Rattle.sdh_laws.proofs.hearing.Changes.{whole_all, whole_run}
use Rattle.sdh_laws.proofs.hearing.Nodes.{informed, nodes_after, length-after}
use Rattle.sdh_laws.proofs.hearing.Signalling.{one_run}
use Rattle.sdh_laws.proofs.hearing.Staying.{world_low, world_high}
use Rattle.sdh_aps_cli.proofs.Alike.{no_run}
use Rattle.sdh_aps_cli.specs.ByScript.{turns_after, turns_after_all, turns_in}
use Rattle.sdh_owed.proofs.Counting.{size_all, size_changed}

-- how many turns the controller at a position is to miss
abbrev pub turns_at : World → ℕ → ℕ
turns_at w p = (node_at w.ring.nodes p).held

-- ---- changes

-- a change of one node that leaves its turns
left_placed : (f : Node → Node) → ((n : Node) → (f n).held ≡ n.held) → (q : ℕ) (ns : List Node) (p : ℕ)
    → (node_at (at_place q f ns) p).held ≡ (node_at ns p).held
left_placed f same q [] p = refl
left_placed f same zero (n ∷ ns) zero = same n
left_placed f same zero (n ∷ ns) (suc p) = refl
left_placed f same (suc q) (n ∷ ns) zero = refl
left_placed f same (suc q) (n ∷ ns) (suc p) = left_placed f same q ns p

held_there : (turns q : ℕ) (ns : List Node) (p : ℕ) → p < length ns → q ≡ p → (node_at (at_place q (held_for turns) ns) p).held ≡ turns
held_there turns q [] p low same = absurd (omega arith)
held_there turns zero (n ∷ ns) zero low same = refl
held_there turns zero (n ∷ ns) (suc p) low same = absurd (omega arith)
held_there turns (suc q) (n ∷ ns) zero low same = absurd (omega arith)
held_there turns (suc q) (n ∷ ns) (suc p) low same = held_there turns q ns p (omega arith) (omega arith)

held_apart : (turns q : ℕ) (ns : List Node) (p : ℕ) → (q ≡ p → ⊥)
    → (node_at (at_place q (held_for turns) ns) p).held ≡ (node_at ns p).held
held_apart turns q [] p apart = refl
held_apart turns zero (n ∷ ns) zero apart = absurd (apart refl)
held_apart turns zero (n ∷ ns) (suc p) apart = refl
held_apart turns (suc q) (n ∷ ns) zero apart = refl
held_apart turns (suc q) (n ∷ ns) (suc p) apart = held_apart turns q ns p (λ s. apart (ap suc s))

held_placed : (turns q : ℕ) (ns : List Node) (p : ℕ) → p < length ns
    → (node_at (at_place q (held_for turns) ns) p).held ≡ (if q == p then turns else (node_at ns p).held)
held_placed turns q ns p low =
    let Now = λ (b : Bool). if b then turns else (node_at ns p).held in
    elim (cases_eq q p) [
      | inl same ↦ held_there turns q ns p low same ∙ sym (ap Now (eq-eqb q p same))
      | inr apart ↦ held_apart turns q ns p apart ∙ sym (ap Now (ne_eqb q p apart))
    ]

turns_changed : (c : Change) (w : World) (p : ℕ) → p < length w.ring.nodes → turns_at (changed c w) p ≡ turns_after p c (turns_at w p)
unfolding changed
turns_changed (Fibre q d condition) w p low = refl
turns_changed (Order q d c) w p low = left_placed (at_receiving d (commanded_by c)) (λ n. refl) q w.ring.nodes p
turns_changed (Hold q turns) w p low = held_placed turns q w.ring.nodes p low
turns_changed (Slip port turn count) w p low =
    left_placed (slips_at port turn count) (λ n. refl) (place_of_port w.ring port) w.ring.nodes p
turns_changed (Now t) w p low = refl

turns_all : (cs : List Change) (w : World) (p : ℕ) → p < length w.ring.nodes
    → turns_at (all_changed cs w) p ≡ turns_after_all p cs (turns_at w p)
turns_all [] w p low = refl
turns_all (c ∷ cs) w p low =
    turns_all cs (changed c w) p (omega (arith, size_changed c w)) ∙ ap (turns_after_all p cs) (turns_changed c w p low)

-- ---- rounds

size_run : (k : ℕ) (w : World) → length (run k w).ring.nodes ≡ length w.ring.nodes
size_run zero w = ap (λ (v : World). length v.ring.nodes) (no_run w)
size_run (suc k) w = ap (λ (v : World). length v.ring.nodes) (one_run w k) ∙ length-after (run k w) ∙ size_run k w

-- each round takes one turn away
turns_run : (k : ℕ) (w : World) → IsWhole w → (p : ℕ) → p < length w.ring.nodes → turns_at (run k w) p ≡ turns_at w p - k
turns_run zero w whole p low = ap (λ (v : World). turns_at v p) (no_run w) ∙ (let e : turns_at w p ≡ turns_at w p - zero = omega arith in e)
turns_run (suc k) w whole p low =
    let v = run k w in
    let inside : p < length v.ring.nodes = omega (arith, size_run k w) in
    let one : turns_at (round v) p ≡ turns_at v p - 1 =
    ap (λ (n : Node). n.held) (nodes_after v (whole_run w k whole).placed p inside) ∙ turns_left v.ring.moment (informed v p) in
    let was = turns_run k w whole p low in
    ap (λ (u : World). turns_at u p) (one_run w k) ∙ (let e : turns_at (round v) p ≡ turns_at w p - suc k = omega (arith, one, was) in e)

-- ---- stretches

-- how many turns each is to miss when round t of the stretches begins
pub turns_are : (ss : List Stretch) (w : World) (t p : ℕ) → IsWhole w → MayHappen w ss → p < length w.ring.nodes → t ≤ rounds_in ss
    → turns_at (world_in ss w t) p ≡ turns_in p ss (turns_at w p) t
turns_are [] w t p whole may low h = (let e : turns_at w p ≡ turns_at w p - t = omega arith in e)
turns_are (s ∷ ss) w t p whole may low h =
    let v = all_changed s.changes w in
    let u = after_stretch s w in
    let whole_v = whole_all s.changes w may.0 whole in
    let inside : p < length v.ring.nodes = omega (arith, size_all s.changes w) in
    let begun = turns_all s.changes w p low in
    let now = turns_after_all p s.changes (turns_at w p) in
    let By = λ (b : Bool). if b then now - t else turns_in p ss (now - s.rounds) (t - s.rounds) in
    elim (cases_lt t s.rounds) [
      | inl under ↦ (
          let yes : nat_lt t s.rounds ≡ true = grind (arith, nat_tests) in
          ap (λ (x : World). turns_at x p) (world_low s ss w t under) ∙ turns_run t v whole_v p inside ∙ ap (λ k. k - t) begun
          ∙ sym (ap By yes))
      | inr over ↦ (
          let no : nat_lt t s.rounds ≡ false = grind (arith, nat_tests) in
          ap (λ (x : World). turns_at x p) (world_high s ss w t over)
          ∙ turns_are ss u (t - s.rounds) p (whole_run v s.rounds whole_v) may.1 (omega (arith, size_run s.rounds v, size_all s.changes w))
          (omega arith)
          ∙ ap (λ k. turns_in p ss k (t - s.rounds)) (turns_run s.rounds v whole_v p inside ∙ ap (λ k. k - s.rounds) begun)
          ∙ sym (ap By no))
    ]
