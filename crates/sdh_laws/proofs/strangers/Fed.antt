-- What a node that isn't held sends holds what it may, where the one AU-4 that feeds it does.
use Rattle.std.proofs.Common.{◌≡◌, ℕ, ◌+◌, ◌<◌, ◌≤◌, false, length, Option, Some, refl, ap, sym, ◌∙◌, subst, arith, inl}
use Rattle.std.specs.Prelude.{slice_get}
use Rattle.sdh_frame.specs.Aus.{Au}
use Rattle.sdh_kbytes.specs.declared.K.{K}
use Rattle.sdh_ringmap.specs.Places.{opposite, neighbour}
use Rattle.sdh_ringmap.specs.declared.Side.{Side}
use Rattle.sdh_ringmap.specs.declared.Side.TheVariants.{West, East}
use Rattle.sdh_ringmap.proofs.Sides.{opposite_twice}
use Rattle.sdh_circuits.specs.Provisioned.{Provisioned}
use Rattle.sdh_circuits.specs.declared.End.{End}
use Rattle.sdh_circuits.specs.declared.PortId.{PortId}
use Rattle.sdh_circuits.specs.Ends.{port_id}
use Rattle.sdh_squelch.specs.Table.{circuits_at, circuit_on}
use Rattle.sdh_nodestate.specs.declared.NodeState.{NodeState}
use Rattle.sdh_nodestate.specs.Rules.{Scene, long, word, state_after}
use Rattle.sdh_bridge.specs.declared.Origin.{Origin}
use Rattle.sdh_bridge.specs.declared.Origin.TheVariants.{Add, Working, Protection, Ais}
use Rattle.sdh_payload.specs.Clock.{Clock}
use Rattle.sdh_terminal.specs.Passing.{Input}
use Rattle.sdh_terminal.specs.Tributaries.{added_by}
use Rattle.sdh_node.specs.Node.{is_held, last_word_on}
use Rattle.sdh_node.proofs.Decided.{scene_in}
use Rattle.sdh_node.specs.Rings.Held.{node_at}
use Rattle.sdh_node.specs.Rings.Rounds.{World, round}
use Rattle.sdh_rounds.specs.Rounds as any_round
use Rattle.sdh_rounds.proofs.Terms.{terms}
use Rattle.sdh_signal.specs.Walks.{port, port_at, working_in, protection_in}
use Rattle.sdh_signal.proofs.Views.{AreOnRing, on-ring}
use Rattle.sdh_signal.proofs.OneNode.{long_from}
use Rattle.sdh_laws.specs.Hearing.Laws.{IsWhole}
use Rattle.sdh_laws.proofs.hearing.Nodes.{count, length-after}
use Rattle.sdh_laws.proofs.hearing.Rounds.{neighbour_inside, scene_ids, scene_place, next_node, whole_round}
use Rattle.sdh_laws.specs.Carrying.Windows.{layout_of, slots_of, HasCircuits, value_at, sent_at}
use Rattle.sdh_laws.proofs.carrying.Connections.{sends_working, sends_protection, brings_protection}
use Rattle.sdh_laws.specs.Strangers.Owners.{AreClocksOf}
use Rattle.sdh_laws.specs.Strangers.Vouched.{spoken_of, HoldsAtMost, au_in}
use Rattle.sdh_laws.proofs.strangers.Arrivals.{span_across, heard_came}
use Rattle.sdh_laws.proofs.strangers.Lags.{exactly}
use Rattle.sdh_laws.proofs.strangers.Content.{Bears, Fine}
use Rattle.sdh_laws.proofs.strangers.Nodes.{working_fine, protection_fine}
use Rattle.sdh_laws.proofs.strangers.Worlds.{received_fine, sourced_words, came, heard, sent_bears}
use Rattle.sdh_laws.proofs.strangers.Vouched.{adds_own, carried_holds, lags_now, lags_more}
use Rattle.sdh_laws.proofs.strangers.Shielded.{state_free, word_free}

-- ---- one origin alone

abbrev on_side : Side → Side → Origin → Origin
on_side West West o = o
on_side East East o = o
on_side West East o = Ais
on_side East West o = Ais

abbrev working_of : Origin → Side → Origin
working_of Ais d = Ais
working_of (Add q) d = Ais
working_of (Protection x) d = Ais
working_of (Working x) d = on_side x d (Working d)

abbrev protection_of : Origin → Side → Origin
protection_of Ais d = Ais
protection_of (Add q) d = Ais
protection_of (Working x) d = Ais
protection_of (Protection x) d = on_side x d (Protection d)

-- origin o, if it is the arrival that is followed; AIS in place of every other arrival
abbrev alone : Origin → Origin → Origin
alone o Ais = Ais
alone o (Add q) = Add q
alone o (Working d) = working_of o d
alone o (Protection d) = protection_of o d

alone_self : (o : Origin) → alone o o ≡ o
alone_self Ais = refl
alone_self (Add q) = refl
alone_self (Working West) = refl
alone_self (Working East) = refl
alone_self (Protection West) = refl
alone_self (Protection East) = refl

module _ (P : Side → Origin → Type 0) (blank : (d : Side) → P d Ais) where
  working_alone : (o : Origin) → ((d : Side) → o ≡ Working d → P d (Working d)) → (d : Side) → P d (working_of o d)
  working_alone Ais is d = blank d
  working_alone (Add q) is d = blank d
  working_alone (Protection x) is d = blank d
  working_alone (Working West) is West = is West refl
  working_alone (Working West) is East = blank East
  working_alone (Working East) is West = blank West
  working_alone (Working East) is East = is East refl

  protection_alone : (o : Origin) → ((d : Side) → o ≡ Protection d → P d (Protection d)) → (d : Side) → P d (protection_of o d)
  protection_alone Ais is d = blank d
  protection_alone (Add q) is d = blank d
  protection_alone (Working x) is d = blank d
  protection_alone (Protection West) is West = is West refl
  protection_alone (Protection West) is East = blank East
  protection_alone (Protection East) is West = blank West
  protection_alone (Protection East) is East = is East refl

module _ (clocks : PortId → ℕ → Clock) (w : World) (form : HasCircuits (layout_of w)) (whole : IsWhole w) where
  open terms w use {ids, n, cs, t, slots}

  abbrev Own : ℕ → Option PortId → Au → Type 0
  Own r = HoldsAtMost cs clocks r

  ring_is : AreOnRing n cs
  ring_is = on-ring n slots cs form

  below : (q : ℕ) → q < length w.ring.nodes → q < n
  below q h = omega (arith, count w whole.placed)

  -- what is sent holds at most the bytes of the circuit on the span, or of the circuit that the word sent beside it
  -- speaks of
  abbrev pub WorkingSent : ℕ → ℕ → Side → Type 0
  WorkingSent p m d = Fine (Own (t + 1)) (circuits_at n cs p m d) d (sent_at w p d m)

  abbrev pub ProtectionSent : ℕ → ℕ → Side → Type 0
  ProtectionSent p m d =
      Fine (Own (t + 1)) (spoken_of ids cs m (opposite d) (last_word_on d (node_at (round w).ring.nodes p))) (opposite d) (sent_at w p d (slots + m))

  -- what comes in holds at most the bytes of the circuit on the span, or of the circuit that the word heard speaks of
  abbrev pub WorkingCame : ℕ → ℕ → Side → Type 0
  WorkingCame p m d = Fine (Own t) (circuits_at n cs p m d) (opposite d) (value_at w p m (Working d))

  abbrev pub ProtectionCame : (p m : ℕ) → p < length w.ring.nodes → Side → Type 0
  ProtectionCame p m h d =
      (k : K) → long (scene_in (next_node w whole p)) d ≡ Some k
      → Fine (Own t) (spoken_of ids cs m d k) d (value_at w p m (Protection d))

  -- ---- a node

  module _ (tells : AreClocksOf clocks w.ring) (p m : ℕ) (h : p < length w.ring.nodes) (low : 1 ≤ m) (high : m ≤ slots)
      (free : is_held (node_at w.ring.nodes p) ≡ false) (o : Origin) (working : (d : Side) → o ≡ Working d → WorkingCame p m d)
      (protection : (d : Side) → o ≡ Protection d → ProtectionCame p m h d) where
    abbrev st : NodeState
    st = (node_at (round w).ring.nodes p).state

    abbrev s : Scene
    s = scene_in (next_node w whole p)

    abbrev fed : Origin → Input
    fed x = value_at w p m (alone o x)

    working_in_fine : (d : Side) → Fine (Own t) (circuits_at n cs p m d) (opposite d) (fed (Working d))
    working_in_fine =
        working_alone (λ d x. Fine (Own t) (circuits_at n cs p m d) (opposite d) (value_at w p m x)) (λ d. inl refl) o working

    protection_in_fine : (d : Side) (k : K) → long s d ≡ Some k → Fine (Own t) (spoken_of ids cs m d k) d (fed (Protection d))
    protection_in_fine =
        protection_alone (λ d x. (k : K) → long s d ≡ Some k → Fine (Own t) (spoken_of ids cs m d k) d (value_at w p m x))
        (λ d k e. inl refl) o protection

    added : (i : ℕ) (c : Provisioned) (e : End) → slice_get cs i ≡ Some c → port_at c e ≡ p
        → Own (t + 1) (Some (port_id i e)) (fed (port i e)).au
    added i c e get at =
        subst (λ q. Own (t + 1) (Some (port_id i e)) (added_by (node_at w.ring.nodes q).ports (port_id i e)).au) at
        (adds_own clocks w whole form tells i c e get)

    from_alone : (P : Input → Type 0) (x : Origin) → x ≡ o → P (fed x) → P (value_at w p m x)
    from_alone P x e z = subst (λ y. P (value_at w p m y)) (ap (alone o) e ∙ alone_self o ∙ sym e) z

    after : st ≡ state_after s
    after = state_free w whole p h free

    pub sends_working_fine : (d : Side) → working_in n cs p st d m ≡ o → WorkingSent p m d
    sends_working_fine d is =
        subst (Fine (Own (t + 1)) (circuits_at n cs p m d) d)
        (sym (sends_working w whole p m d (state_after s) (below p h) high after))
        (from_alone (Fine (Own (t + 1)) (circuits_at n cs p m d) d) (working_in n cs p (state_after s) d m)
        (sym (ap (λ x. working_in n cs p x d m) after) ∙ is)
        (working_fine (λ i. Own t) (λ i. Own (t + 1)) (lags_more clocks w form) ids cs whole.placed.ids ring_is s (scene_ids w whole p h) p
        (scene_place w whole p h) (below p h) m fed
        (came (λ i. Own t) (λ i. Own (t + 1)) (lags_more clocks w form) w whole p h) working_in_fine protection_in_fine
        (sourced_words (λ i. Own t) (λ i. Own (t + 1)) (lags_more clocks w form) w whole p h)
        (heard (λ i. Own t) (λ i. Own (t + 1)) (lags_more clocks w form) w whole p h) refl added d))

    pub sends_protection_fine : (d : Side) → protection_in n cs p st d m ≡ o → ProtectionSent p m d
    sends_protection_fine d is =
        let said = word_free w whole p h free d in
        subst (λ k. Fine (Own (t + 1)) (spoken_of ids cs m (opposite d) k) (opposite d) (sent_at w p d (slots + m))) (sym said)
        (subst (Fine (Own (t + 1)) (spoken_of ids cs m (opposite d) (word s d)) (opposite d))
        (sym (sends_protection w whole p m d (state_after s) (below p h) low after))
        (from_alone (Fine (Own (t + 1)) (spoken_of ids cs m (opposite d) (word s d)) (opposite d)) (protection_in n cs p (state_after s) d m)
        (sym (ap (λ x. protection_in n cs p x d m) after) ∙ is)
        (protection_fine (λ i. Own t) (λ i. Own (t + 1)) (lags_more clocks w form) ids cs whole.placed.ids ring_is s (scene_ids w whole p h) p
        (scene_place w whole p h) (below p h) m fed
        (came (λ i. Own t) (λ i. Own (t + 1)) (lags_more clocks w form) w whole p h) working_in_fine protection_in_fine
        (sourced_words (λ i. Own t) (λ i. Own (t + 1)) (lags_more clocks w form) w whole p h)
        (heard (λ i. Own t) (λ i. Own (t + 1)) (lags_more clocks w form) w whole p h) refl added d)))

-- ---- over a span, from one round to the next

module _ (clocks : PortId → ℕ → Clock) (w : World) (form : HasCircuits (layout_of w)) (whole : IsWhole w) (p m : ℕ)
    (h : p < length w.ring.nodes) (low : 1 ≤ m) (high : m ≤ slots_of (layout_of w)) (d : Side) where
  abbrev q : ℕ
  q = neighbour (length w.ring.ids) p d

  pub there : p < length (round w).ring.nodes
  there = omega (arith, length-after w)

  pub form_after : HasCircuits (layout_of (round w))
  unfolding any_round.round any_round.round_with
  form_after = form

  pub working_over : WorkingSent clocks w form whole q m (opposite d) → WorkingCame clocks (round w) form_after (whole_round w whole) p m d
  unfolding any_round.round any_round.round_with
  working_over sent =
      let r = w.ring.rounds + 1 in
      let Now = HoldsAtMost w.ring.circuits.circuits clocks r in
      received_fine (λ i. Now) (λ i. Now) (lags_now clocks (round w) form_after) (round w) (whole_round w whole) p there (exactly 0)
      (circuits_at (length w.ring.ids) w.ring.circuits.circuits p m d) (opposite d) d m low (omega arith)
      (λ line kept carried. subst (λ o. Bears Now o (opposite d) (au_in w m line))
      (ap (λ z. circuit_on (length w.ring.ids) w.ring.circuits.circuits z m) (span_across (length w.ring.ids) p d
      (omega (arith, count w whole.placed))))
      (sent_bears Now (carried_holds w.ring.circuits.circuits clocks r) w whole
      (circuits_at (length w.ring.ids) w.ring.circuits.circuits q m (opposite d)) (opposite d) q m (opposite d) line
      (neighbour_inside w whole p d) low (omega arith) carried sent))

  pub protection_over : ProtectionSent clocks w form whole q m (opposite d)
      → ProtectionCame clocks (round w) form_after (whole_round w whole) p m there d
  unfolding any_round.round any_round.round_with
  protection_over sent k e =
      let r = w.ring.rounds + 1 in
      let cs = w.ring.circuits.circuits in
      let Now = HoldsAtMost cs clocks r in
      let word = heard_came (round w) (whole_round w whole) p there d k
      (long_from (scene_in (next_node (round w) (whole_round w whole) p)) d k e).heard in
      let said = last_word_on (opposite d) (node_at (round w).ring.nodes q) in
      let slots = slots_of (layout_of w) in
      subst (Fine Now (spoken_of w.ring.ids cs m d k) d)
      (sym (brings_protection (round w) (whole_round w whole) p m d (omega (arith, count w whole.placed))))
      (received_fine (λ i. Now) (λ i. Now) (lags_now clocks (round w) form_after) (round w) (whole_round w whole) p there (exactly 0)
      (spoken_of w.ring.ids cs m d k) d d (slots + m) (omega arith) (omega arith)
      (λ line kept carried. subst (λ j. Bears Now (spoken_of w.ring.ids cs m d j) d (au_in w (slots + m) line)) word.is
      (subst (λ y. Bears Now (spoken_of w.ring.ids cs m y said) y (au_in w (slots + m) line)) (opposite_twice d)
      (sent_bears Now (carried_holds cs clocks r) w whole (spoken_of w.ring.ids cs m (opposite (opposite d)) said) (opposite (opposite d)) q
      (slots + m) (opposite d) line (neighbour_inside w whole p d) (omega arith) (omega arith) carried sent))))
