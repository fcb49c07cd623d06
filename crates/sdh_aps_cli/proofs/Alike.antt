-- What changes leave of how a ring signals, and a ring from one round of stretches to the next.
use Rattle.std.proofs.Common.{◌≡◌, ℕ, suc, ◌-◌, ◌<◌, List, [], ◌∷◌, refl, ap, sym, ◌∙◌, arith, inl, inr}
use Rattle.std.specs.Prelude.{nat_le}
use Rattle.std.proofs.lemmas.Bool.{cases_lt}
use Rattle.sdh_ringmap.specs.declared.Side.{Side}
use Rattle.sdh_ringmap.specs.declared.Side.TheVariants.{West, East}
use Rattle.sdh_request.specs.declared.Command.{Command}
use Rattle.sdh_node.specs.Receiving.{commanded_by}
use Rattle.sdh_node.specs.Node.{Node, at_receiving, held_for, slips_at, sent_of, needed}
use Rattle.sdh_node.specs.Rings.Held.{place_of_port}
use Rattle.sdh_node.specs.Rings.Rounds.{World, round}
use Rattle.sdh_node.specs.Rings.Runs.{run}
use Rattle.sdh_node.specs.Rings.Changes.{changed, all_changed, after_stretch}
use Rattle.sdh_node.specs.Rings.Sides.{world_in}
use Rattle.sdh_node.proofs.RingLaws.Keeping.{all_placed}
use Rattle.sdh_restoration.specs.Changes.{Change, Fibre, Order, Hold, Slip, Now, Stretch, rounds_in}
use Rattle.sdh_laws.specs.Hearing.Signalling.{filters_of, signals_of, needs_in}
use Rattle.sdh_laws.proofs.hearing.Changes.{with_node}
use Rattle.sdh_laws.proofs.hearing.Signalling.{one_run}
use Rattle.sdh_laws.proofs.hearing.Staying.{world_low, world_high}
use Rattle.sdh_rounds.specs.Runs as any_run

-- both have equal states, words, filters and needs
pub record Alike (v w : World) : Type 0 where
  pub signals : signals_of v ≡ signals_of w
  pub needs : needs_in v ≡ needs_in w

alike_same : (v w : World) → v ≡ w → Alike v w
alike_same v w e = record { signals = ap signals_of e; needs = ap needs_in e }

alike_then : (u v w : World) → Alike u v → Alike v w → Alike u w
alike_then u v w a b = record { signals = a.signals ∙ b.signals; needs = a.needs ∙ b.needs }

-- ---- changes

-- a change of one node that leaves its state, its words, its filters and its needs
module _ (f : Node → Node) (state : (n : Node) → (f n).state ≡ n.state) (sent : (n : Node) → sent_of (f n) ≡ sent_of n)
    (filters : (n : Node) → filters_of (f n) ≡ filters_of n) (need : (n : Node) → needed (f n) ≡ needed n) where
  alike_node : (p : ℕ) (w : World) → Alike (with_node p f w) w
  unfolding signals_of needs_in
  alike_node p w = record {
    signals = λ i. record {
      ids = w.ring.ids;
      states = all_placed (λ (n : Node). n.state) f state p w.ring.nodes i;
      words = all_placed sent_of f sent p w.ring.nodes i;
      filters = all_placed filters_of f filters p w.ring.nodes i;
      running = nat_le 1 w.ring.rounds;
    };
    needs = all_placed needed f need p w.ring.nodes;
  }

filters_commanded : (d : Side) (c : Command) (n : Node) → filters_of (at_receiving d (commanded_by c) n) ≡ filters_of n
filters_commanded West c n = refl
filters_commanded East c n = refl

needed_commanded : (d : Side) (c : Command) (n : Node) → needed (at_receiving d (commanded_by c) n) ≡ needed n
needed_commanded West c n = refl
needed_commanded East c n = refl

alike_changed : (c : Change) (w : World) → Alike (changed c w) w
unfolding changed signals_of needs_in
alike_changed (Fibre p d condition) w = record { signals = refl; needs = refl }
alike_changed (Order p d c) w =
    alike_node (at_receiving d (commanded_by c)) (λ n. refl) (λ n. refl) (filters_commanded d c) (needed_commanded d c) p w
alike_changed (Hold p turns) w = alike_node (held_for turns) (λ n. refl) (λ n. refl) (λ n. refl) (λ n. refl) p w
alike_changed (Slip port turn count) w =
    alike_node (slips_at port turn count) (λ n. refl) (λ n. refl) (λ n. refl) (λ n. refl) (place_of_port w.ring port) w
alike_changed (Now t) w = record { signals = refl; needs = refl }

alike_all : (cs : List Change) (w : World) → Alike (all_changed cs w) w
alike_all [] w = alike_same w w refl
alike_all (c ∷ cs) w = alike_then (all_changed cs (changed c w)) (changed c w) w (alike_all cs (changed c w)) (alike_changed c w)

-- ---- stretches

pub no_run : (w : World) → run 0 w ≡ w
unfolding any_run.run
no_run w = refl

-- the world in which the first round begins
pub alike_begin : (ss : List Stretch) (w : World) → Alike (world_in ss w 0) w
alike_begin [] w = alike_same w w refl
alike_begin (s ∷ ss) w =
    let v = all_changed s.changes w in
    let u = after_stretch s w in
    elim (cases_lt 0 s.rounds) [
      | inl low ↦ alike_then (world_in (s ∷ ss) w 0) v w
          (alike_same (world_in (s ∷ ss) w 0) v (world_low s ss w 0 low ∙ no_run v)) (alike_all s.changes w)
      | inr high ↦ (
          let none : s.rounds ≡ 0 = omega arith in
          let there : world_in (s ∷ ss) w 0 ≡ world_in ss u 0 =
          world_high s ss w 0 high ∙ ap (world_in ss u) (let e : 0 - s.rounds ≡ 0 = omega arith in e) in
          let back : u ≡ v = ap (λ k. run k v) none ∙ no_run v in
          alike_then (world_in (s ∷ ss) w 0) u w
          (alike_then (world_in (s ∷ ss) w 0) (world_in ss u 0) u (alike_same (world_in (s ∷ ss) w 0) (world_in ss u 0) there) (alike_begin ss u))
          (alike_then u v w (alike_same u v back) (alike_all s.changes w)))
    ]

-- the world in which each later round begins is as the round before left it
pub alike_next : (ss : List Stretch) (w : World) (t : ℕ) → t < rounds_in ss → Alike (world_in ss w (suc t)) (round (world_in ss w t))
alike_next [] w t h = absurd (omega arith)
alike_next (s ∷ ss) w t h =
    let v = all_changed s.changes w in
    let u = after_stretch s w in
    let now = world_in (s ∷ ss) w (suc t) in
    let before = round (world_in (s ∷ ss) w t) in
    elim (cases_lt (suc t) s.rounds) [
      | inl low ↦ alike_same now before (world_low s ss w (suc t) low ∙ one_run v t ∙ ap round (sym (world_low s ss w t (omega arith))))
      | inr high ↦ elim (cases_lt t s.rounds) [
        | inl low ↦ (
            let last : suc t ≡ s.rounds = omega arith in
            let there : now ≡ world_in ss u 0 =
            world_high s ss w (suc t) high ∙ ap (world_in ss u) (let e : suc t - s.rounds ≡ 0 = omega arith in e) in
            let back : u ≡ before = ap (λ k. run k v) (sym last) ∙ one_run v t ∙ ap round (sym (world_low s ss w t low)) in
            alike_then now u before (alike_then now (world_in ss u 0) u (alike_same now (world_in ss u 0) there) (alike_begin ss u))
            (alike_same u before back))
        | inr over ↦ (
            let later = world_in ss u (suc (t - s.rounds)) in
            let earlier = round (world_in ss u (t - s.rounds)) in
            let there : now ≡ later =
            world_high s ss w (suc t) high ∙ ap (world_in ss u) (let e : suc t - s.rounds ≡ suc (t - s.rounds) = omega arith in e) in
            let back : earlier ≡ before = ap round (sym (world_high s ss w t over)) in
            alike_then now later before (alike_same now later there)
            (alike_then later earlier before (alike_next ss u (t - s.rounds) (omega arith)) (alike_same earlier before back)))
      ]
    ]
