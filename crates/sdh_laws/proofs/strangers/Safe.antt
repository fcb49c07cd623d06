-- Which controllers may be held: of nodes that stand aside, and of switched nodes with a shield.
use Rattle.std.proofs.Common.{◌≡◌, ℕ, ◌+◌, ◌-◌, ◌<◌, ◌≤◌, true, false, length, Option, Some, refl, ap}
use Rattle.std.proofs.Common.{sym, ◌∙◌, subst, arith, inl, inr, ◌⊎◌}
use Rattle.std.specs.Prelude.{nat_le}
use Rattle.std.proofs.lemmas.Bool.{cases_Bool, cases_lt, le-leb}
use Rattle.sdh_frame.specs.Aus.{Au}
use Rattle.sdh_ringmap.specs.Places.{opposite, neighbour}
use Rattle.sdh_ringmap.specs.declared.Pos.{Pos}
use Rattle.sdh_ringmap.specs.declared.Side.{Side}
use Rattle.sdh_ringmap.proofs.Sides.{opposite_twice}
use Rattle.sdh_circuits.specs.declared.PortId.{PortId}
use Rattle.sdh_circuits.specs.Ends.{port_id}
use Rattle.sdh_squelch.specs.Table.{circuits_at}
use Rattle.sdh_nodestate.specs.declared.NodeState.{NodeState}
use Rattle.sdh_bridge.specs.declared.Origin.TheVariants.{Protection, Ais}
use Rattle.sdh_payload.specs.Clock.{Clock}
use Rattle.sdh_terminal.specs.Passing.{Input}
use Rattle.sdh_terminal.specs.Tributaries.{added_by}
use Rattle.sdh_node.specs.Node.{Node, is_held, last_word_on}
use Rattle.sdh_node.proofs.Decided.{turns_left}
use Rattle.sdh_node.specs.Rings.Held.{node_at, AtEach}
use Rattle.sdh_node.specs.Rings.Rounds.{World, round}
use Rattle.sdh_rounds.specs.Rounds as any_round
use Rattle.sdh_rounds.proofs.Terms.{terms}
use Rattle.sdh_signal.specs.Walks.{carries_in, stands_in, working_in, protection_in}
use Rattle.sdh_signal.proofs.Views.{AreOnRing, Switch, on-ring}
use Rattle.sdh_signal.proofs.Passing.{open-stands, switched-stands, bridged-leaves, blocked-leaves, away-leaves}
use Rattle.sdh_laws.specs.Hearing.Laws.{IsWhole}
use Rattle.sdh_laws.proofs.hearing.Nodes.{informed, count, nodes_after, length-after}
use Rattle.sdh_laws.proofs.hearing.Rounds.{neighbour_inside, whole_round}
use Rattle.sdh_laws.specs.Carrying.Windows.{layout_of, HasCircuits, value_at}
use Rattle.sdh_laws.proofs.carrying.Connections.{brings_protection}
use Rattle.sdh_laws.specs.Strangers.Owners.{AreClocksOf}
use Rattle.sdh_laws.specs.Strangers.Vouched.{circuit_on_side, spoken_of, HoldsAtMost, IsAside, MissesAside, IsVouched}
use Rattle.sdh_laws.proofs.strangers.Content.{Fine}
use Rattle.sdh_laws.proofs.strangers.Lags.{steps, steps_few, exactly}
use Rattle.sdh_laws.proofs.strangers.Worlds.{Vouches, StandsAt, SaysAt, received_fine, working_comes, works_from, aside_delivers, aside_says}
use Rattle.sdh_laws.proofs.strangers.Vouched.{Anyhow, IsReady, state_kept, adds_own, lags_now, lags_more, fine_more, vouches_of}
use Rattle.sdh_laws.proofs.strangers.Vouched.{ready_goes}
use Rattle.sdh_laws.proofs.strangers.Shields.{Shields, by_side, open_on}
use Rattle.sdh_laws.proofs.strangers.Shielded.{filled, less_shields}

module _ (clocks : PortId → ℕ → Clock) where
  -- a node at p in this state may miss its turn: it stands aside, or is switched and has a shield
  pub data MayMiss (w : World) (p : ℕ) (x : NodeState) : Type 0 where
    stands : IsAside x → MayMiss w p x
    switched : (e : Side) (f : Option Pos) → x ≡ Switch (opposite e) f
        → Shields clocks (length w.ring.ids) (length w.ring.ids) w p e → MayMiss w p x

  abbrev pub Misses : World → ℕ → Node → Type 0
  Misses w p n = (n.held ≡ 0) ⊎ MayMiss w p n.state

  -- a whole world whose frames vouch for what they hold, and in which only such nodes miss turns
  pub record IsSafe (w : World) : Type 0 where
    pub whole : IsWhole w
    pub misses : AtEach (Misses w) w.ring.nodes
    pub vouches : Vouches (Anyhow clocks w) w

  -- a ring in which only nodes that stand aside miss turns is safe
  pub safe_of : (w : World) → IsVouched clocks w → IsSafe w
  safe_of w k = record { whole = k.whole; misses = λ p h. aside_misses w p (node_at w.ring.nodes p) (k.aside p h); vouches = vouches_of clocks w k }
    where
      aside_misses : (w : World) (p : ℕ) (n : Node) → MissesAside n → Misses w p n
      aside_misses w p n (inl none) = inl none
      aside_misses w p n (inr a) = inr (stands a)

  pub who_misses : (w : World) (p : ℕ) (n : Node) → Misses w p n → is_held n ≡ true → MayMiss w p n.state
  who_misses w p n (inl none) held = absurd (no (sym (ap (λ x. nat_le 1 x) none) ∙ held))
    where
      no : false ≡ true → ⊥
      no z = cc
  who_misses w p n (inr may) held = may

  -- ---- what such nodes take and send

  module _ (w : World) (form : HasCircuits (layout_of w)) (k : IsSafe w) (tells : AreClocksOf clocks w.ring) where
    open terms w use {n, cs, t, slots}

    abbrev Own : ℕ → Option PortId → Au → Type 0
    Own r = HoldsAtMost cs clocks r

    ring_is : AreOnRing n cs
    ring_is = on-ring n slots cs form

    below : (q : ℕ) → q < length w.ring.nodes → q < n
    below q h = omega (arith, count w k.whole.placed)

    module _ (p m : ℕ) (h : p < length w.ring.nodes) (low : 1 ≤ m) (high : m ≤ slots) where
      module _ (e : Side) (f : Option Pos) (sh : Shields clocks n n w p e) where
        abbrev this : NodeState
        this = Switch (opposite e) f

        abbrev on : Side → Input → Type 0
        on d i = Fine (Own t) (circuits_at n cs p m d) (opposite d) i

        taken : on (opposite e) (value_at w p m (Protection e))
        taken =
            subst (λ y. Fine (Own t) (circuits_at n cs p m (opposite e)) y (value_at w p m (Protection e))) (sym (opposite_twice e))
            (subst (Fine (Own t) (circuits_at n cs p m (opposite e)) e) (sym (brings_protection w k.whole p m e (below p h)))
            (received_fine (λ i. Own t) (λ i. Own t) (lags_now clocks w form) w k.whole p h (exactly 0) (circuits_at n cs p m (opposite e)) e e
            (slots + m) (omega arith) (omega arith)
            (λ line kept there. sh.content (neighbour n p e) m line (neighbour_inside w k.whole p e) (few e) there low high)))
          where
            few : (e : Side) → steps n (opposite e) p (neighbour n p e) < n
            few e = steps_under (opposite e) p (neighbour n p e)
              where
                steps_under : (d : Side) (a b : ℕ) → steps n d a b < n
                steps_under d a b = steps_few n (let g = k.whole.placed.ids.enough in omega arith) d a b

        switched_stands : (d : Side) → (d ≡ e) ⊎ (d ≡ opposite e) → on d (value_at w p m (stands_in n cs p this d m))
        switched_stands d (inl same) =
            subst (λ d. on d (value_at w p m (stands_in n cs p this d m))) (sym same)
            (subst (λ z. on e (value_at w p m z)) (sym (open-stands n cs p this e m (open_on e f)))
            (working_comes (λ i. Own t) (λ i. Own t) (lags_now clocks w form) w k.whole p h k.vouches m low high e))
        switched_stands d (inr same) = subst (λ d. on d (value_at w p m (stands_in n cs p this d m))) (sym same)
            (elim (cases_Bool (carries_in n cs p (opposite e) m f)) [
              | inl carries ↦ subst (λ z. on (opposite e) (value_at w p m z))
                  (sym (switched-stands n cs p (opposite e) m f true carries ∙ ap Protection (opposite_twice e))) taken
              | inr not ↦ subst (λ z. on (opposite e) (value_at w p m z)) (sym (switched-stands n cs p (opposite e) m f false not)) (inl refl)
            ])

        goes_on : (d : Side) → Fine (Own (t + 1)) (circuits_at n cs p m d) (opposite d) (value_at w p m (stands_in n cs p this d m))
        goes_on d =
            fine_more clocks w form (circuits_at n cs p m d) (opposite d) (value_at w p m (stands_in n cs p this d m))
            (switched_stands d (by_side e d))

        bridges : carries_in n cs p (opposite e) m f ≡ true
            → Fine (Own (t + 1)) (circuits_at n cs p m (opposite e)) (opposite e) (value_at w p m (protection_in n cs p this e m))
        bridges carries =
            let leaves : protection_in n cs p this e m ≡ working_in n cs p this (opposite e) m =
            subst (λ z. protection_in n cs p this z m ≡ working_in n cs p this (opposite e) m) (opposite_twice e)
            (bridged-leaves n cs p (opposite e) m f carries) in
            subst (λ z. Fine (Own (t + 1)) (circuits_at n cs p m (opposite e)) (opposite e) (value_at w p m z)) (sym leaves)
            (works_from (λ i. Own t) (λ i. Own (t + 1)) (lags_more clocks w form) w k.whole p h k.vouches m low high ring_is
            (λ i c e get at. subst (λ y. Own (t + 1) (Some (port_id i e)) (added_by (node_at w.ring.nodes y).ports (port_id i e)).au) at
            (adds_own clocks w k.whole form tells i c e get)) this (opposite e) (goes_on (opposite (opposite e))))

        spoken_is : spoken_of w.ring.ids cs m (opposite e) (last_word_on e (node_at w.ring.nodes p)) ≡ circuits_at n cs p m (opposite e)
        spoken_is = ap (circuit_on_side w.ring.ids cs m (opposite e)) (sh.says (let g = k.whole.placed.ids.enough in omega arith))

        abbrev Speaks : Side → NodeState → Type 0
        Speaks d x = SaysAt (λ i. Own (t + 1)) w p m d (last_word_on d (node_at w.ring.nodes p)) x

        switched_says : (d : Side) → (d ≡ e) ⊎ (d ≡ opposite e) → Speaks d this
        switched_says d (inl same) = subst (λ d. Speaks d this) (sym same)
            (subst (λ o. Fine (Own (t + 1)) o (opposite e) (value_at w p m (protection_in n cs p this e m))) (sym spoken_is)
            (elim (cases_Bool (carries_in n cs p (opposite e) m f)) [
              | inl carries ↦ bridges carries
              | inr not ↦ inl (ap (λ z. (value_at w p m z).action)
                  (subst (λ z. protection_in n cs p this z m ≡ Ais) (opposite_twice e) (blocked-leaves n cs p (opposite e) m f not)))
            ]))
        switched_says d (inr same) =
            subst (λ d. Speaks d this) (sym same) (inl (ap (λ z. (value_at w p m z).action) (away-leaves n cs p (opposite e) m f)))

      may_stand : (x : NodeState) → MayMiss w p x → (d : Side) → StandsAt (λ i. Own t) w p m d x
      may_stand x (stands a) d = aside_delivers (λ i. Own t) (λ i. Own t) (lags_now clocks w form) w k.whole p h k.vouches m low high ring_is x a d
      may_stand x (switched e f is sh) d =
          subst (StandsAt (λ i. Own t) w p m d) (sym is) (switched_stands e f sh d (by_side e d))

      may_say : (x : NodeState) → MayMiss w p x → (d : Side)
          → SaysAt (λ i. Own (t + 1)) w p m d (last_word_on d (node_at w.ring.nodes p)) x
      may_say x (stands a) d =
          aside_says (λ i. Own t) (λ i. Own (t + 1)) (lags_more clocks w form) w k.whole p h k.vouches m low high ring_is x a d
          (last_word_on d (node_at w.ring.nodes p))
      may_say x (switched e f is sh) d =
          subst (SaysAt (λ i. Own (t + 1)) w p m d (last_word_on d (node_at w.ring.nodes p))) (sym is) (switched_says e f sh d (by_side e d))

    pub safe_ready : IsReady clocks w
    safe_ready = record {
      whole = k.whole;
      vouches = k.vouches;
      stand = λ p m d h low high held. may_stand p m h low high (node_at w.ring.nodes p).state
          (who_misses w p (node_at w.ring.nodes p) (k.misses p h) held) d;
      say = λ p m d h low high held. may_say p m h low high (node_at w.ring.nodes p).state
          (who_misses w p (node_at w.ring.nodes p) (k.misses p h) held) d;
    }

    -- ---- after the round

    misses_on : (p : ℕ) → p < length w.ring.nodes → is_held (node_at w.ring.nodes p) ≡ true
        → MayMiss w p (node_at w.ring.nodes p).state → MayMiss (round w) p (node_at (round w).ring.nodes p).state
    unfolding any_round.round any_round.round_with
    misses_on p h held (stands a) = stands (subst IsAside (sym (state_kept w k.whole p h held)) a)
    misses_on p h held (switched e f is sh) =
        let kept : (node_at (round w).ring.nodes p).state ≡ Switch (opposite e) f = state_kept w k.whole p h held ∙ is in
        switched e f kept
        (less_shields clocks (n + 1) (n + 1) n n (round w) p e (omega arith) (omega arith) (omega arith)
        (filled clocks w form safe_ready tells p e h n n sh f kept (λ q low turn. omega arith) (omega arith)))

    pub safe_after : IsSafe (round w)
    unfolding any_round.round any_round.round_with
    safe_after =
        let goes = ready_goes clocks w form safe_ready tells in record {
          whole = whole_round w k.whole;
          misses =
              λ p h. (let low : p < length w.ring.nodes = omega (arith, length-after w) in
              let left : (node_at (round w).ring.nodes p).held ≡ (node_at w.ring.nodes p).held - 1 =
              ap (λ (n : Node). n.held) (nodes_after w k.whole.placed p low) ∙ turns_left w.ring.moment (informed w p) in
              elim (cases_lt 0 (node_at w.ring.nodes p).held) [
                | inl some ↦ (
                    let held : is_held (node_at w.ring.nodes p) ≡ true = le-leb 1 (node_at w.ring.nodes p).held (omega arith) in
                    inr (misses_on p low held (who_misses w p (node_at w.ring.nodes p) (k.misses p low) held)))
                | inr none ↦ inl (omega arith)
              ]);
          vouches = record {
            working = λ p h m d line there low high. goes.working p h m d line there low high;
            protection = λ p h m d line there low high. goes.protection p h m d line there low high;
          };
        }
