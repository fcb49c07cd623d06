-- A round of a ring with shields: what lies beyond a switched node stays what it was.
use Rattle.std.proofs.Common.{◌≡◌, ℕ, ◌+◌, ◌<◌, ◌≤◌, Bool, true, false, List, length, Option, Some, None, refl, ap, sym, ◌∙◌, subst}
use Rattle.std.proofs.Common.{arith, inl, inr}
use Rattle.std.specs.Prelude.{◌≢◌, if◌then◌else◌}
use Rattle.std.specs.Option.{option_and_then}
use Rattle.std.proofs.lemmas.Bool.{cases_Bool, cases_eq}
use Rattle.sdh_frame.specs.Aus.{Au}
use Rattle.sdh_kbytes.specs.declared.K.{K}
use Rattle.sdh_ringmap.specs.Places.{opposite, neighbour, found_at, position_of}
use Rattle.sdh_ringmap.specs.declared.Pos.{Pos}
use Rattle.sdh_ringmap.specs.declared.Side.{Side}
use Rattle.sdh_ringmap.proofs.Sides.{opposite_twice}
use Rattle.sdh_circuits.specs.declared.PortId.{PortId}
use Rattle.sdh_circuits.specs.Ends.{port_id}
use Rattle.sdh_squelch.specs.Table.{circuits_at}
use Rattle.sdh_nodestate.specs.declared.NodeState.{NodeState}
use Rattle.sdh_nodestate.specs.declared.NodeState.TheVariants as state
use Rattle.sdh_nodestate.specs.Rules.{Scene, long, word, state_after}
use Rattle.sdh_bridge.specs.declared.Origin.{Origin}
use Rattle.sdh_bridge.specs.declared.Origin.TheVariants.{Protection, Ais}
use Rattle.sdh_payload.specs.Clock.{Clock}
use Rattle.sdh_ringmap.specs.Fibres.{fibre}
use Rattle.sdh_plant.specs.Arrivals.{carried_on}
use Rattle.sdh_terminal.specs.Passing.{Input}
use Rattle.sdh_terminal.specs.Tributaries.{added_by}
use Rattle.sdh_node.specs.Node.{Node, is_held, last_word_on}
use Rattle.sdh_node.proofs.Decided.{scene_in, state_is, word_is}
use Rattle.sdh_node.specs.Rings.Held.{node_at}
use Rattle.sdh_node.specs.Rings.Rounds.{World, round}
use Rattle.sdh_rounds.specs.Rounds as any_round
use Rattle.sdh_rounds.proofs.Terms.{terms}
use Rattle.sdh_signal.specs.Walks.{carries_in, working_in, protection_in}
use Rattle.sdh_signal.proofs.Views.{AreOnRing, Switch, on-ring}
use Rattle.sdh_signal.proofs.Passing.{isolated-leaves, idle-leaves, bridged-leaves, blocked-leaves, away-leaves, passed-leaves}
use Rattle.sdh_signal.proofs.OneNode.{long_from}
use Rattle.sdh_laws.specs.Hearing.Laws.{IsWhole}
use Rattle.sdh_laws.proofs.hearing.Nodes.{informed, informed_out, count, nodes_after, length-after}
use Rattle.sdh_laws.proofs.hearing.Rounds.{neighbour_inside, scene_ids, scene_place, next_node}
use Rattle.sdh_laws.specs.Carrying.Windows.{layout_of, HasCircuits, value_at, sent_at}
use Rattle.sdh_laws.proofs.carrying.Connections.{sends_working, sends_protection, brings_protection}
use Rattle.sdh_laws.specs.Strangers.Owners.{AreClocksOf}
use Rattle.sdh_laws.specs.Strangers.Vouched.{HoldsAtMost, IsAside, au_in}
use Rattle.sdh_laws.proofs.strangers.Arrivals.{heard_came}
use Rattle.sdh_laws.proofs.strangers.Content.{Bears, Fine}
use Rattle.sdh_laws.proofs.strangers.Lags.{steps, steps_few, steps_none, steps_next, exactly, source_in}
use Rattle.sdh_laws.proofs.strangers.Rules.{switched_one, heard_is_long, far_from}
use Rattle.sdh_laws.proofs.strangers.Nodes.{no_far}
use Rattle.sdh_laws.proofs.strangers.Worlds.{received_fine, working_goes, sent_bears}
use Rattle.sdh_laws.proofs.strangers.Vouched.{IsReady, ready_works, state_kept, adds_own, carried_holds, lags_now, lags_more, fine_more}
use Rattle.sdh_laws.proofs.strangers.Saying.{Sourced, here, passed, sourced, switched_source}
use Rattle.sdh_laws.proofs.strangers.Shields.{meets-between, no_both, no_pass, by_state, Shields}

module _ (w : World) (whole : IsWhole w) (q : ℕ) (h : q < length w.ring.nodes) where
  abbrev before : Node
  before = node_at w.ring.nodes q

  abbrev scene_at : Scene
  scene_at = scene_in (next_node w whole q)

  pub state_free : is_held before ≡ false → (node_at (round w).ring.nodes q).state ≡ state_after scene_at
  state_free free =
      ap (λ (y : Node). y.state) (nodes_after w whole.placed q h) ∙ state_is w.ring.moment (informed w q)
      ∙ ap (λ (b : Bool). if b then before.state else state_after scene_at) free

  pub word_free : is_held before ≡ false → (d : Side) → last_word_on d (node_at (round w).ring.nodes q) ≡ word scene_at d
  word_free free d =
      ap (last_word_on d) (nodes_after w whole.placed q h) ∙ word_is w.ring.moment (informed w q) d
      ∙ ap (λ (b : Bool). if b then last_word_on d (informed w q) else word scene_at d) free

  pub word_kept : is_held before ≡ true → (d : Side) → last_word_on d (node_at (round w).ring.nodes q) ≡ last_word_on d before
  word_kept held d =
      ap (last_word_on d) (nodes_after w whole.placed q h) ∙ word_is w.ring.moment (informed w q) d
      ∙ ap (λ (b : Bool). if b then last_word_on d (informed w q) else word scene_at d) held
      ∙ ap (λ x. x.word) (informed_out w q d)

module _ (clocks : PortId → ℕ → Clock) (w : World) where
  open terms w use {n, cs, t, slots}

  abbrev Own : ℕ → Option PortId → Au → Type 0
  Own r = HoldsAtMost cs clocks r

  -- ---- words, and far ends

  module _ (whole : IsWhole w) where
    some : 0 < n
    some = let e = whole.placed.ids.enough in omega arith

    below : (q : ℕ) → q < length w.ring.nodes → q < n
    below q h = omega (arith, count w whole.placed)

    module _ (x : ℕ) (e : Side) (hx : x < length w.ring.nodes) (a b : ℕ) (sh : Shields clocks a b w x e) (f : Option Pos)
        (stays : (node_at (round w).ring.nodes x).state ≡ Switch (opposite e) f)
        (full : (q : ℕ) → q < length w.ring.nodes → is_held (node_at w.ring.nodes q) ≡ true → n ≤ a) where
      abbrev After : ℕ → Node
      After q = node_at (round w).ring.nodes q

      says_after : source_in w.ring.ids (last_word_on e (After x)) ≡ Some (position_of x)
      says_after = elim (cases_Bool (is_held (node_at w.ring.nodes x))) [
        | inl held ↦ (
            let all = full x hx held in
            ap (source_in w.ring.ids) (word_kept w whole x hx held e) ∙ sh.says (omega (arith, some)))
        | inr free ↦ ap (source_in w.ring.ids) (word_free w whole x hx free e)
            ∙ switched_source (scene_in (next_node w whole x)) x w.ring.ids (scene_ids w whole x hx) (scene_place w whole x hx)
            whole.placed.ids (below x hx) e f (sym (state_free w whole x hx free) ∙ stays)
      ]

      -- a word heard from there has its source between
      heard_within : (q : ℕ) (g : Pos) (y : K) → q < length w.ring.nodes → x ≢ q → steps n e x q < a + 1
          → long (scene_in (next_node w whole q)) (opposite e) ≡ Some y → source_in w.ring.ids y ≡ Some g → steps n e x g.0 < steps n e x q
      heard_within q g y h other less heard from =
          let back = neighbour n q (opposite e) in
          let next : steps n e x q ≡ steps n e x back + 1 = steps_next n some e x q (below x hx) (below q h) other in
          let came = heard_came w whole q h (opposite e) y (long_from (scene_in (next_node w whole q)) (opposite e) y heard).heard in
          let is : last_word_on e (node_at w.ring.nodes back) ≡ y =
          ap (λ z. last_word_on z (node_at w.ring.nodes back)) (sym (opposite_twice e)) ∙ came.is in
          let low = sh.words back g (neighbour_inside w whole q (opposite e)) (omega arith) (ap (source_in w.ring.ids) is ∙ from) in
          omega arith

      in_words : (q : ℕ) (g : Pos) (h : q < length w.ring.nodes) → x ≢ q → steps n e x q < a + 1
          → Sourced (scene_in (next_node w whole q)) q w.ring.ids (scene_ids w whole q h) (scene_place w whole q h) whole.placed.ids
          (below q h) e g
          → steps n e x g.0 ≤ steps n e x q
      in_words q g h other less (here at) = (let same = ap (steps n e x) at in omega arith)
      in_words q g h other less (passed y heard from) = (let low = heard_within q g y h other less heard from in omega arith)

      words_after : (q : ℕ) (g : Pos) → q < length w.ring.nodes → steps n e x q < a + 1 → source_in w.ring.ids (last_word_on e (After q)) ≡ Some g
          → steps n e x g.0 ≤ steps n e x q
      words_after q g h less from = elim (cases_eq x q) [
        | inl same ↦ (
            let both : Some g ≡ Some (position_of x) =
            sym from ∙ ap (λ y. source_in w.ring.ids (last_word_on e (After y))) (sym same) ∙ says_after in
            let at : g.0 ≡ x = place both in
            let none : steps n e x g.0 ≡ 0 = ap (steps n e x) at ∙ steps_none n some e x (below x hx) in
            omega arith)
        | inr other ↦ elim (cases_Bool (is_held (node_at w.ring.nodes q))) [
          | inl held ↦ (
              let all = full q h held in
              let few = steps_few n some e x q in
              sh.words q g h (omega arith) (ap (source_in w.ring.ids) (sym (word_kept w whole q h held e)) ∙ from))
          | inr free ↦ in_words q g h other less
              (sourced (scene_in (next_node w whole q)) q w.ring.ids (scene_ids w whole q h) (scene_place w whole q h)
              whole.placed.ids (below q h) e g (ap (source_in w.ring.ids) (sym (word_free w whole q h free e)) ∙ from))
        ]
      ]
        where
          at_or : Option Pos → ℕ
          at_or None = 0
          at_or (Some y) = y.0

          place : Some g ≡ Some (position_of x) → g.0 ≡ x
          place z = ap at_or z

      ends_after : (q : ℕ) (g : Pos) → q < length w.ring.nodes → steps n e x q < a + 1 → (After q).state ≡ Switch e (Some g)
          → (g.0 < n) × (steps n e x g.0 < steps n e x q)
      ends_after q g h less is = elim (cases_eq x q) [
        | inl same ↦ absurd (no_both e f (Some g) (sym stays ∙ ap (λ y. (After y).state) same ∙ is))
        | inr other ↦ elim (cases_Bool (is_held (node_at w.ring.nodes q))) [
          | inl held ↦ (
              let all = full q h held in
              let few = steps_few n some e x q in
              sh.ends q g h (omega arith) (sym (state_kept w whole q h held) ∙ is))
          | inr free ↦ (
              let s = scene_in (next_node w whole q) in
              let end = switched_one s e (Some g) (sym (state_free w whole q h free) ∙ is) in
              let far = far_from s e g (sym end.end) in
              let same = scene_ids w whole q h in
              let from : source_in w.ring.ids far.k ≡ Some g =
              ap (option_and_then (λ (y : K). found_at w.ring.ids y.from)) (heard_is_long s (opposite e) far.k far.heard)
              ∙ ap (λ i. found_at i far.k.from) (sym same) ∙ far.found in (
                subst (λ (i : List ℕ). g.0 < length i) same far.inside,
                heard_within q g far.k h other less far.heard from,
              ))
        ]
      ]

      -- after one round more the shield reaches one step farther
      pub grown : Shields clocks (a + 1) 0 (round w) x e
      unfolding any_round.round any_round.round_with
      grown = record {
        says = λ z. says_after;
        words = λ q g h less from. words_after q g (omega (arith, length-after w)) less from;
        ends = λ q g h less is. ends_after q g (omega (arith, length-after w)) less is;
        content = λ q m line h less there low high. absurd (omega arith);
      }

  -- ---- what goes on protection, the other way

  module _ (form : HasCircuits (layout_of w)) (whole : IsWhole w) (x : ℕ) (e : Side) (hx : x < length w.ring.nodes) (f : Option Pos)
      (stays : (node_at (round w).ring.nodes x).state ≡ Switch (opposite e) f) (q m : ℕ) (h : q < length w.ring.nodes) (low : 1 ≤ m)
      (high : m ≤ slots) where
    abbrev st : NodeState
    st = (node_at (round w).ring.nodes q).state

    abbrev Theirs : Input → Type 0
    Theirs i = Fine (Own (t + 1)) (circuits_at n cs x m (opposite e)) e i

    sends : (y : NodeState) (z : Origin) → st ≡ y → protection_in n cs q y (opposite e) m ≡ z → Theirs (value_at w q m z)
        → Theirs (sent_at w q (opposite e) (slots + m))
    sends y z is leaves fine =
        subst Theirs (sym (sends_protection w whole q m (opposite e) y (below whole q h) low is ∙ ap (value_at w q m) leaves)) fine

    blank : (y : NodeState) → st ≡ y → protection_in n cs q y (opposite e) m ≡ Ais → Theirs (sent_at w q (opposite e) (slots + m))
    blank y is leaves = sends y Ais is leaves (inl refl)

    aside_leaves : (y : NodeState) → IsAside y → protection_in n cs q y (opposite e) m ≡ Ais
    aside_leaves (state.Idle i) z = idle-leaves n cs q (opposite e) m
    aside_leaves (state.Isolated i) z = isolated-leaves n cs q (opposite e) m
    aside_leaves (state.PassThrough i) z = absurd z
    aside_leaves (state.SwitchWest g) z = absurd z
    aside_leaves (state.SwitchEast g) z = absurd z

    -- where the node at q passes on what comes from farther round, or bridges what it sends in the working slot
    module _ (comes : x ≢ q → st ≡ state.PassThrough tt → (line : List ℕ)
        → carried_on w.fibres (fibre (neighbour n q e) (opposite e)) ≡ Some line
        → Bears (Own t) (circuits_at n cs x m (opposite e)) e (au_in w (slots + m) line))
        (works : (g : Pos) → st ≡ Switch e (Some g) → carries_in n cs q e m (Some g) ≡ true
        → Fine (Own (t + 1)) (circuits_at n cs q m e) e (sent_at w q e m))
        (end : (g : Pos) → st ≡ Switch e (Some g) → (g.0 < n) × (steps n e x g.0 < steps n e x q)) where
      passing : st ≡ state.PassThrough tt → Theirs (sent_at w q (opposite e) (slots + m))
      passing is =
          let other : x ≢ q = λ same. no_pass (opposite e) f (sym stays ∙ ap (λ y. (node_at (round w).ring.nodes y).state) same ∙ is) in
          let came : Fine (Own t) (circuits_at n cs x m (opposite e)) e (value_at w q m (Protection e)) =
          subst (Fine (Own t) (circuits_at n cs x m (opposite e)) e) (sym (brings_protection w whole q m e (below whole q h)))
          (received_fine (λ i. Own t) (λ i. Own t) (lags_now clocks w form) w whole q h (exactly 0) (circuits_at n cs x m (opposite e)) e e
          (slots + m) (omega arith) (omega arith) (λ line kept there. comes other is line there)) in
          sends (state.PassThrough tt) (Protection e) is (passed-leaves n cs q e m)
          (fine_more clocks w form (circuits_at n cs x m (opposite e)) e (value_at w q m (Protection e)) came)

      bridging : (g : Option Pos) → st ≡ Switch e g → carries_in n cs q e m g ≡ true → Theirs (sent_at w q (opposite e) (slots + m))
      bridging None is carries = absurd (no (sym (no_far n cs q e m) ∙ carries))
        where
          no : false ≡ true → ⊥
          no z = cc
      bridging (Some g) is carries =
          let other : x ≢ q = λ same. no_both e f (Some g) (sym stays ∙ ap (λ y. (node_at (round w).ring.nodes y).state) same ∙ is) in
          let at = end g is in
          let own : circuits_at n cs x m (opposite e) ≡ circuits_at n cs q m e =
          meets-between n cs (on-ring n slots cs form) (some whole) e q m x g (below whole q h) (below whole x hx) at.0 other at.1
          carries in
          let goes : Fine (Own (t + 1)) (circuits_at n cs q m e) e (value_at w q m (working_in n cs q (Switch e (Some g)) e m)) =
          subst (Fine (Own (t + 1)) (circuits_at n cs q m e) e)
          (sends_working w whole q m e (Switch e (Some g)) (below whole q h) high is) (works g is carries) in
          sends (Switch e (Some g)) (working_in n cs q (Switch e (Some g)) e m) is (bridged-leaves n cs q e m (Some g) carries)
          (subst (λ o. Fine (Own (t + 1)) o e (value_at w q m (working_in n cs q (Switch e (Some g)) e m))) (sym own) goes)

      switched : (g : Option Pos) → st ≡ Switch e g → Theirs (sent_at w q (opposite e) (slots + m))
      switched g is = elim (cases_Bool (carries_in n cs q e m g)) [
        | inl carries ↦ bridging g is carries
        | inr not ↦ blank (Switch e g) is (blocked-leaves n cs q e m g not)
      ]

      -- what q sends on protection on the side opposite to e is of the circuit on the switched span of x
      pub theirs : Theirs (sent_at w q (opposite e) (slots + m))
      theirs =
          by_state e st (Theirs (sent_at w q (opposite e) (slots + m))) (λ z. blank st refl (aside_leaves st z)) passing switched
          (λ g is. blank (Switch (opposite e) g) is (away-leaves n cs q (opposite e) m g))

  -- ---- a round of a ring with shields

  module _ (form : HasCircuits (layout_of w)) (k : IsReady clocks w) (tells : AreClocksOf clocks w.ring) where
    ring_is : AreOnRing n cs
    ring_is = on-ring n slots cs form

    works : (q m : ℕ) (d : Side) → q < length w.ring.nodes → 1 ≤ m → m ≤ slots → Fine (Own (t + 1)) (circuits_at n cs q m d) d (sent_at w q d m)
    works q m d h low high =
        working_goes (λ i. Own t) (λ i. Own (t + 1)) (lags_more clocks w form) w k.whole q h k.vouches m low high ring_is
        (λ i c e get at. subst (λ y. Own (t + 1) (Some (port_id i e)) (added_by (node_at w.ring.nodes y).ports (port_id i e)).au) at
        (adds_own clocks w k.whole form tells i c e get)) (λ held y. ready_works clocks w form k tells q m y h low high held) d

    -- one switched node x, which has a shield
    module _ (x : ℕ) (e : Side) (hx : x < length w.ring.nodes) (a b : ℕ) (sh : Shields clocks a b w x e) (f : Option Pos)
        (stays : (node_at (round w).ring.nodes x).state ≡ Switch (opposite e) f)
        (full : (q : ℕ) → q < length w.ring.nodes → is_held (node_at w.ring.nodes q) ≡ true → n ≤ a) (all : n ≤ a) where
      theirs_after : (q m : ℕ) → q < length w.ring.nodes → 1 ≤ m → m ≤ slots → steps n (opposite e) x q < b + 1
          → Fine (Own (t + 1)) (circuits_at n cs x m (opposite e)) e (sent_at w q (opposite e) (slots + m))
      theirs_after q m h low high less =
          theirs form k.whole x e hx f stays q m h low high
          (λ other is line there. (let next : steps n (opposite e) x q ≡ steps n (opposite e) x (neighbour n q e) + 1 =
          subst (λ z. steps n (opposite e) x q ≡ steps n (opposite e) x (neighbour n q z) + 1) (opposite_twice e)
          (steps_next n (some k.whole) (opposite e) x q (below k.whole x hx) (below k.whole q h) other) in
          sh.content (neighbour n q e) m line (neighbour_inside w k.whole q e) (omega arith) there low high))
          (λ g is carries. works q m e h low high)
          (λ g is. ends_after k.whole x e hx a b sh f stays full q g h (let few = steps_few n (some k.whole) e x q in omega arith)
          is)

      -- after one round more the shield reaches one step farther on protection too
      pub filled : Shields clocks (a + 1) (b + 1) (round w) x e
      unfolding any_round.round any_round.round_with
      filled =
          let grows = grown k.whole x e hx a b sh f stays full in record {
            says = grows.says;
            words = grows.words;
            ends = grows.ends;
            content = λ q m line h less there low high. (let hq : q < length w.ring.nodes = omega (arith, length-after w) in
                sent_bears (Own (t + 1)) (carried_holds cs clocks (t + 1)) w k.whole (circuits_at n cs x m (opposite e)) e q (slots + m)
                (opposite e) line hq (omega arith) (omega arith) there (theirs_after q m hq low high less));
          }

-- a shield for more rounds is a shield for fewer
pub less_shields : (clocks : PortId → ℕ → Clock) (a b a2 b2 : ℕ) (w : World) (x : ℕ) (e : Side) → a2 ≤ a → b2 ≤ b → 1 ≤ a
    → Shields clocks a b w x e → Shields clocks a2 b2 w x e
less_shields clocks a b a2 b2 w x e less_a less_b some s = record {
  says = λ z. s.says some;
  words = λ q g h less from. s.words q g h (omega arith) from;
  ends = λ q g h less is. s.ends q g h (omega arith) is;
  content = λ q m line h less there low high. s.content q m line h (omega arith) there low high;
}
