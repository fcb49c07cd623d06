-- After a quiet window each switched node has a shield; and no port meets a stranger where no controller of a node that
-- passes traffic through is held.
use Rattle.std.proofs.Common.{◌≡◌, ℕ, zero, suc, ◌+◌, ◌-◌, ◌<◌, ◌≤◌, List, [], ◌∷◌, length, refl, ap, sym, ◌∙◌}
use Rattle.std.proofs.Common.{subst, arith, inl, inr, ◌⊎◌}
use Rattle.std.proofs.lemmas.Bool.{cases_lt}
use Rattle.sdh_ringmap.specs.declared.Side.{Side}
use Rattle.sdh_ringmap.specs.declared.Side.TheVariants.{West, East}
use Rattle.sdh_circuits.specs.declared.PortId.{PortId}
use Rattle.sdh_nodestate.specs.declared.NodeState.{NodeState}
use Rattle.sdh_nodestate.specs.declared.NodeState.TheVariants as state
use Rattle.sdh_signal.specs.Laws.{StillRingsAreSettled}
use Rattle.sdh_payload.specs.Clock.{Clock}
use Rattle.sdh_node.specs.Receiving.{commanded_by}
use Rattle.sdh_node.specs.Node.{Node, new_node, at_receiving, held_for, slips_at, last_word_on}
use Rattle.sdh_node.specs.Rings.Held.{nowhere, node_at, AtEach, at_place, place_of_port}
use Rattle.sdh_node.specs.Rings.Rounds.{World}
use Rattle.sdh_node.specs.Rings.Runs.{run, course}
use Rattle.sdh_node.specs.Rings.Quiet.{EndsWindow}
use Rattle.sdh_node.specs.Rings.Sides.{world_in}
use Rattle.sdh_restoration.specs.Changes.{Change, Stretch, rounds_in}
use Rattle.sdh_restoration.specs.Changes.{Fibre, Order, Hold, Slip, Now}
use Rattle.sdh_node.specs.Rings.Changes.{changed, all_changed, after_stretch}
use Rattle.sdh_node.specs.Rings.Laws.{IsChangeOf, AreChangesOf, MayHappen}
use Rattle.sdh_node.proofs.RingLaws.Histories.{length-placed}
use Rattle.sdh_rounds.specs.Runs as any_run
use Rattle.sdh_laws.proofs.hearing.Staying.{world_low, world_high, world_later}
use Rattle.sdh_laws.proofs.hearing.Changes.{each_at_place, held_leaves, slips_leave, with_node, whole_changed}
use Rattle.sdh_laws.specs.Carrying.Windows.{layout_of, HasCircuits}
use Rattle.sdh_laws.proofs.carrying.Ways.{layout_run}
use Rattle.sdh_laws.proofs.carrying.Settles.{layout_all}
use Rattle.sdh_laws.specs.Strangers.Owners.{AreClocksOf}
use Rattle.sdh_laws.specs.Strangers.Vouched.{IsAside}
use Rattle.sdh_laws.specs.Strangers.Laws.{HoldsAside, EachMay, IsNoPass, HoldsNoPass, HeldBesidePassing}
use Rattle.sdh_laws.proofs.strangers.Lags.{source_in}
use Rattle.sdh_laws.proofs.strangers.Vouched.{Anyhow, each_there, vouches_changed, word_commanded, word_left as word_stays}
use Rattle.sdh_laws.proofs.strangers.Shields.{Shields, AllShielded}
use Rattle.sdh_laws.proofs.strangers.Windows.{window_shields}
use Rattle.sdh_laws.proofs.strangers.Safe.{MayMiss, stands, switched, Misses, IsSafe, safe_after}

-- ---- changes leave shields

-- where no node is one stands aside
pub node_beyond : (xs : List Node) (p : ℕ) → length xs ≤ p → IsAside (node_at xs p).state
unfolding nowhere new_node
node_beyond [] p high = tt
node_beyond (x ∷ xs) zero high = absurd (omega arith)
node_beyond (x ∷ xs) (suc p) high = node_beyond xs p (omega arith)

module _ (clocks : PortId → ℕ → Clock) where
  -- a change of one node that leaves its state and its words
  module _ (f : Node → Node) (state_left : (n : Node) → (f n).state ≡ n.state) (word_left : (d : Side) (n : Node) → last_word_on d (f n) ≡ last_word_on d n)
      (p : ℕ) (w : World) where
    abbrev ns : List Node
    ns = w.ring.nodes

    states_left : (q : ℕ) → q < length (at_place p f ns) → (node_at (at_place p f ns) q).state ≡ (node_at ns q).state
    states_left q h = each_at_place (λ q n. n.state ≡ (node_at ns q).state) f (λ q n h. state_left n ∙ h) p ns (λ q h. refl) q h

    words_left : (d : Side) (q : ℕ) → q < length (at_place p f ns) → last_word_on d (node_at (at_place p f ns) q) ≡ last_word_on d (node_at ns q)
    words_left d q h = each_at_place (λ q n. last_word_on d n ≡ last_word_on d (node_at ns q)) f (λ q n h. word_left d n ∙ h) p ns (λ q h. refl) q h

    shield_node : (a b x : ℕ) (e : Side) → x < length ns → Shields clocks a b w x e → Shields clocks a b (with_node p f w) x e
    shield_node a b x e hx s =
        let size = length-placed f p ns in record {
          says = λ z. ap (source_in w.ring.ids) (words_left e x (omega arith)) ∙ s.says z;
          words =
              λ q g h less from. s.words q g (omega arith) less (ap (source_in w.ring.ids) (sym (words_left e q h)) ∙ from);
          ends = λ q g h less is. s.ends q g (omega arith) less (sym (states_left q h) ∙ is);
          content = λ q m line h less there low high. s.content q m line (omega arith) less there low high;
        }

  shield_changed : (c : Change) (w : World) (a b x : ℕ) (e : Side) → x < length w.ring.nodes → Shields clocks a b w x e
      → Shields clocks a b (changed c w) x e
  unfolding changed
  shield_changed (Fibre p d condition) w a b x e hx s = record { says = s.says; words = s.words; ends = s.ends; content = s.content }
  shield_changed (Order p d c) w a b x e hx s =
      shield_node (at_receiving d (commanded_by c)) (λ n. refl) (λ g n. word_commanded d g c n) p w a b x e hx s
  shield_changed (Hold p turns) w a b x e hx s =
      shield_node (held_for turns) (λ n. refl) (word_stays (held_for turns) (held_leaves turns)) p w a b x e hx s
  shield_changed (Slip id turn many) w a b x e hx s =
      shield_node (slips_at id turn many) (λ n. refl) (word_stays (slips_at id turn many) (slips_leave id turn many)) (place_of_port w.ring id) w
      a b x e hx s
  shield_changed (Now t) w a b x e hx s = record { says = s.says; words = s.words; ends = s.ends; content = s.content }

  record Left (w v : World) : Type 0 where
    pub ids : v.ring.ids ≡ w.ring.ids
    pub size : length v.ring.nodes ≡ length w.ring.nodes
    pub states : (q : ℕ) → q < length w.ring.nodes → (node_at v.ring.nodes q).state ≡ (node_at w.ring.nodes q).state

  left_changed : (c : Change) (w : World) → Left w (changed c w)
  unfolding changed
  left_changed (Fibre p d condition) w = record { ids = refl; size = refl; states = λ q h. refl }
  left_changed (Order p d c) w =
      let f = at_receiving d (commanded_by c) in
      let size = length-placed f p w.ring.nodes in record {
        ids = refl;
        size = size;
        states = λ q h. states_left f (λ n. refl) (λ g n. word_commanded d g c n) p w q (omega arith);
      }
  left_changed (Hold p turns) w =
      let f = held_for turns in
      let size = length-placed f p w.ring.nodes in record {
        ids = refl;
        size = size;
        states = λ q h. states_left f (λ n. refl) (word_stays f (held_leaves turns)) p w q (omega arith);
      }
  left_changed (Slip id turn many) w =
      let f = slips_at id turn many in
      let size = length-placed f (place_of_port w.ring id) w.ring.nodes in record {
        ids = refl;
        size = size;
        states = λ q h. states_left f (λ n. refl) (word_stays f (slips_leave id turn many)) (place_of_port w.ring id) w q (omega arith);
      }
  left_changed (Now t) w = record { ids = refl; size = refl; states = λ q h. refl }

  all_shielded_changed : (c : Change) (w : World) → AllShielded clocks w → AllShielded clocks (changed c w)
  all_shielded_changed c w all x e f h is =
      let left = left_changed c w in
      let size = left.size in
      let low : x < length w.ring.nodes = omega arith in
      subst (λ (ids : List ℕ). Shields clocks (length ids) (length ids) (changed c w) x e) (sym left.ids)
      (shield_changed c w (length w.ring.ids) (length w.ring.ids) x e low (all x e f low (sym (left.states x low) ∙ is)))

  moved : (c : Change) (w : World) (p : ℕ) (x : NodeState) → p < length w.ring.nodes → MayMiss clocks w p x → MayMiss clocks (changed c w) p x
  moved c w p x h (stands a) = stands a
  moved c w p x h (switched e f is s) =
      switched e f is (subst (λ (ids : List ℕ). Shields clocks (length ids) (length ids) (changed c w) p e) (sym (left_changed c w).ids)
      (shield_changed c w (length w.ring.ids) (length w.ring.ids) p e h s))

  moved_node : (c : Change) (w : World) (p : ℕ) (n : Node) → p < length w.ring.nodes → Misses clocks w p n → Misses clocks (changed c w) p n
  moved_node c w p n h (inl none) = inl none
  moved_node c w p n h (inr may) = inr (moved c w p n.state h may)

  -- ---- what may be held

  abbrev HoldsSafely : World → Change → Type 0
  HoldsSafely w (Fibre p d condition) = Unit {0}
  HoldsSafely w (Order p d command) = Unit {0}
  HoldsSafely w (Hold p turns) = (turns ≡ 0) ⊎ MayMiss clocks w p (node_at w.ring.nodes p).state
  HoldsSafely w (Slip port turn many) = Unit {0}
  HoldsSafely w (Now t) = Unit {0}

  held_then : (w : World) (p turns : ℕ) → (turns ≡ 0) ⊎ MayMiss clocks w p (node_at w.ring.nodes p).state
      → (p < length w.ring.nodes) × Misses clocks (changed (Hold p turns) w) p (node_at w.ring.nodes p)
      → (p < length w.ring.nodes) × Misses clocks (changed (Hold p turns) w) p (held_for turns (node_at w.ring.nodes p))
  held_then w p turns (inl none) was = (was.0, inl none)
  held_then w p turns (inr may) was = (was.0, inr (moved (Hold p turns) w p (node_at w.ring.nodes p).state was.0 may))

  misses_changed : (c : Change) (w : World) → HoldsSafely w c → AtEach (Misses clocks w) w.ring.nodes
      → AtEach (Misses clocks (changed c w)) (changed c w).ring.nodes
  unfolding changed
  misses_changed (Fibre p d condition) w may k q h = moved_node (Fibre p d condition) w q (node_at w.ring.nodes q) h (k q h)
  misses_changed (Order p d c) w may k q h =
      each_at_place (Misses clocks (changed (Order p d c) w)) (at_receiving d (commanded_by c)) (λ q n h. h) p w.ring.nodes
      (λ q h. moved_node (Order p d c) w q (node_at w.ring.nodes q) h (k q h)) q h
  misses_changed (Hold p turns) w may k q h =
      (each_there (λ q n. (q < length w.ring.nodes) × Misses clocks (changed (Hold p turns) w) q n) (held_for turns) p w.ring.nodes
      (held_then w p turns may) (λ q h. (h, moved_node (Hold p turns) w q (node_at w.ring.nodes q) h (k q h))) q h).1
  misses_changed (Slip id turn many) w may k q h =
      each_at_place (Misses clocks (changed (Slip id turn many) w)) (slips_at id turn many) (λ q n h. h) (place_of_port w.ring id) w.ring.nodes
      (λ q h. moved_node (Slip id turn many) w q (node_at w.ring.nodes q) h (k q h)) q h
  misses_changed (Now t) w may k q h = moved_node (Now t) w q (node_at w.ring.nodes q) h (k q h)

  safe_changed : (c : Change) (w : World) → IsChangeOf w c → HoldsSafely w c → IsSafe clocks w → IsSafe clocks (changed c w)
  unfolding changed
  safe_changed (Fibre p d condition) w may holds k = record {
    whole = whole_changed (Fibre p d condition) w may k.whole;
    misses = misses_changed (Fibre p d condition) w holds k.misses;
    vouches = vouches_changed (Anyhow clocks w) (Fibre p d condition) w k.vouches;
  }
  safe_changed (Order p d c) w may holds k = record {
    whole = whole_changed (Order p d c) w may k.whole;
    misses = misses_changed (Order p d c) w holds k.misses;
    vouches = vouches_changed (Anyhow clocks w) (Order p d c) w k.vouches;
  }
  safe_changed (Hold p turns) w may holds k = record {
    whole = whole_changed (Hold p turns) w may k.whole;
    misses = misses_changed (Hold p turns) w holds k.misses;
    vouches = vouches_changed (Anyhow clocks w) (Hold p turns) w k.vouches;
  }
  safe_changed (Slip id turn many) w may holds k = record {
    whole = whole_changed (Slip id turn many) w may k.whole;
    misses = misses_changed (Slip id turn many) w holds k.misses;
    vouches = vouches_changed (Anyhow clocks w) (Slip id turn many) w k.vouches;
  }
  safe_changed (Now t) w may holds k = record {
    whole = whole_changed (Now t) w may k.whole;
    misses = misses_changed (Now t) w holds k.misses;
    vouches = vouches_changed (Anyhow clocks w) (Now t) w k.vouches;
  }

  aside_safely : (c : Change) (w : World) → HoldsAside w c → HoldsSafely w c
  aside_safely (Fibre p d condition) w may = tt
  aside_safely (Order p d c) w may = tt
  aside_safely (Hold p turns) w (inl none) = inl none
  aside_safely (Hold p turns) w (inr a) = inr (stands a)
  aside_safely (Slip id turn many) w may = tt
  aside_safely (Now t) w may = tt

  by_shield : (w : World) (p : ℕ) → p < length w.ring.nodes → AllShielded clocks w → (x : NodeState) → (node_at w.ring.nodes p).state ≡ x → IsNoPass x
      → MayMiss clocks w p x
  by_shield w p h all (state.Idle i) is z = stands tt
  by_shield w p h all (state.Isolated i) is z = stands tt
  by_shield w p h all (state.PassThrough i) is z = absurd z
  by_shield w p h all (state.SwitchWest f) is z = switched East f refl (all p East f h is)
  by_shield w p h all (state.SwitchEast f) is z = switched West f refl (all p West f h is)

  no_pass_safely : (c : Change) (w : World) → IsChangeOf w c → AllShielded clocks w → HoldsNoPass w c → HoldsSafely w c
  no_pass_safely (Fibre p d condition) w is all may = tt
  no_pass_safely (Order p d c) w is all may = tt
  no_pass_safely (Hold p turns) w is all (inl none) = inl none
  no_pass_safely (Hold p turns) w is all (inr z) = elim (cases_lt p (length w.ring.nodes)) [
    | inl low ↦ inr (by_shield w p low all (node_at w.ring.nodes p).state refl z)
    | inr high ↦ inr (stands (node_beyond w.ring.nodes p high))
  ]
  no_pass_safely (Slip id turn many) w is all may = tt
  no_pass_safely (Now t) w is all may = tt

  safe_aside : (cs : List Change) (w : World) → AreChangesOf w cs → EachMay HoldsAside w cs → IsSafe clocks w → IsSafe clocks (all_changed cs w)
  safe_aside [] w is may k = k
  safe_aside (c ∷ cs) w is may k = safe_aside cs (changed c w) is.1 may.1 (safe_changed c w is.0 (aside_safely c w may.0) k)

  safe_no_pass : (cs : List Change) (w : World) → AreChangesOf w cs → AllShielded clocks w → EachMay HoldsNoPass w cs → IsSafe clocks w
      → IsSafe clocks (all_changed cs w)
  safe_no_pass [] w is all may k = k
  safe_no_pass (c ∷ cs) w is all may k =
      safe_no_pass cs (changed c w) is.1 (all_shielded_changed c w all) may.1
      (safe_changed c w is.0 (no_pass_safely c w is.0 all may.0) k)

  -- ---- rounds

  pub safe_run : (many : ℕ) (v : World) → HasCircuits (layout_of v) → IsSafe clocks v
      → ((i : ℕ) → i < many → AreClocksOf clocks (run i v).ring) → IsSafe clocks (run many v)
  unfolding any_run.run
  safe_run zero v form k tells = k
  safe_run (suc many) v form k tells =
      safe_after clocks (run many v) (subst HasCircuits (sym (layout_run v many)) form) (safe_run many v form k (λ i h. tells i (omega arith)))
      (tells many (omega arith))

  -- ---- stretches

  pub safe_in : StillRingsAreSettled → (Quiet : Type 0) (rest : List Stretch) (w : World) (t : ℕ) → HasCircuits (layout_of w) → IsSafe clocks w
      → (Quiet → AllShielded clocks w) → MayHappen w rest → HeldBesidePassing Quiet w rest
      → ((i : ℕ) → i < rounds_in rest → AreClocksOf clocks (world_in rest w i).ring) → t ≤ rounds_in rest → IsSafe clocks (world_in rest w t)
  safe_in law Quiet [] w t form k shields may held tells h = k
  safe_in law Quiet (x ∷ rest) w t form k shields may held tells h =
      let v = all_changed x.changes w in
      let safe_v : IsSafe clocks v = elim held.0 [
        | inl aside ↦ safe_aside x.changes w may.0 aside k
        | inr quiet ↦ safe_no_pass x.changes w may.0 (shields quiet.0) quiet.1 k
      ] in
      let form_v : HasCircuits (layout_of v) = subst HasCircuits (sym (layout_all x.changes w)) form in
      let within : (i : ℕ) → i < x.rounds → AreClocksOf clocks (run i v).ring =
      λ i low. subst (λ (u : World). AreClocksOf clocks u.ring) (world_low x rest w i low) (tells i (omega arith)) in
      elim (cases_lt t x.rounds) [
        | inl low ↦ subst (IsSafe clocks) (sym (world_low x rest w t low)) (safe_run t v form_v safe_v (λ i less. within i (omega arith)))
        | inr high ↦ subst (IsSafe clocks) (sym (world_high x rest w t high))
            (safe_in law (EndsWindow (course v) x.rounds) rest (after_stretch x w) (t - x.rounds)
            (subst HasCircuits (sym (layout_run v x.rounds)) form_v) (safe_run x.rounds v form_v safe_v within)
            (λ ends. window_shields clocks law v form_v safe_v.whole x.rounds ends within) may.1 held.1
            (λ i low. subst (λ (u : World). AreClocksOf clocks u.ring) (world_later x rest w i) (tells (x.rounds + i) (omega arith)))
            (omega arith))
      ]
