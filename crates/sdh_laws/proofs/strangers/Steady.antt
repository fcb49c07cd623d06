-- Rounds in which no controller misses its turn and each node stays in its settled state: what is sent is followed back
-- over the spans that it has come over, to a port or to AIS.
use Rattle.std.proofs.Common.{◌≡◌, ℕ, suc, ◌+◌, ◌-◌, ◌*◌, ◌<◌, ◌≤◌, false, List, length, Option, Some, ap, sym, ◌∙◌, subst}
use Rattle.std.proofs.Common.{arith}
use Rattle.sdh_ringmap.specs.Places.{opposite, neighbour}
use Rattle.sdh_ringmap.specs.declared.Pos.{Pos}
use Rattle.sdh_ringmap.specs.declared.Side.{Side}
use Rattle.sdh_ringmap.proofs.Sides.{opposite_twice}
use Rattle.sdh_circuits.specs.Provisioned.{Provisioned}
use Rattle.sdh_circuits.specs.declared.PortId.{PortId}
use Rattle.sdh_squelch.specs.Table.{circuits_at}
use Rattle.sdh_bridge.specs.declared.Origin.{Origin}
use Rattle.sdh_bridge.specs.declared.Origin.TheVariants.{Working, Protection}
use Rattle.sdh_signal.specs.Settled.{settled}
use Rattle.sdh_payload.specs.Clock.{Clock}
use Rattle.sdh_ringmap.specs.Fibres.{fibre}
use Rattle.sdh_plant.specs.Arrivals.{carried_on}
use Rattle.sdh_node.specs.Node.{is_held}
use Rattle.sdh_node.specs.Rings.Held.{AtEach}
use Rattle.sdh_node.specs.Rings.Rounds.{World, round}
use Rattle.sdh_rounds.specs.Rounds as any_round
use Rattle.sdh_rounds.proofs.Terms.{terms}
use Rattle.sdh_signal.specs.Walks.{Stand, stand, IsOver, Leads, back_from, working_in, protection_in}
use Rattle.sdh_signal.specs.Law.{Ends}
use Rattle.sdh_signal.proofs.Views.{AreOnRing, Switch}
use Rattle.sdh_signal.proofs.Passing.{bridged-leaves, passed-leaves}
use Rattle.sdh_signal.proofs.Rest.{resting}
use Rattle.sdh_signal.proofs.Loops.{sending_end, bridging_end}
use Rattle.sdh_laws.specs.Hearing.Laws.{IsWhole}
use Rattle.sdh_laws.proofs.hearing.Nodes.{count, length-after}
use Rattle.sdh_laws.proofs.hearing.Rounds.{neighbour_inside}
use Rattle.sdh_laws.specs.Carrying.Windows.{layout_of, slots_of, HasCircuits, sent_at, AreSettled}
use Rattle.sdh_laws.specs.Strangers.Owners.{AreClocksOf}
use Rattle.sdh_laws.specs.Strangers.Vouched.{HoldsAtMost, au_in}
use Rattle.sdh_laws.proofs.strangers.Content.{Bears, Fine}
use Rattle.sdh_laws.proofs.strangers.Lags.{steps}
use Rattle.sdh_laws.proofs.strangers.Worlds.{sent_bears}
use Rattle.sdh_laws.proofs.strangers.Vouched.{carried_holds}
use Rattle.sdh_laws.proofs.strangers.Shielded.{theirs}
use Rattle.sdh_laws.proofs.strangers.Fed.{WorkingSent, ProtectionSent, WorkingCame, ProtectionCame, sends_working_fine, sends_protection_fine}
use Rattle.sdh_laws.proofs.strangers.Fed.{working_over, protection_over}

-- ---- walks are short

module _ (rs : List ℕ) (some : 0 < length rs) (cs : List Provisioned) where
  sent_walk : AreOnRing (length rs) cs → (p m : ℕ) (d : Side) → p < length rs
      → Ends (length rs) (settled rs) cs m (3 * length rs - 1) (stand p (working_in (length rs) cs p (settled rs p) d m))
  unfolding resting
  sent_walk ring p m d h = sending_end (length rs) (resting rs some) cs ring some d p p m h

  bridged_walk : AreOnRing (length rs) cs → (p m : ℕ) (d : Side) → p < length rs
      → Ends (length rs) (settled rs) cs m (3 * length rs - 1) (stand p (protection_in (length rs) cs p (settled rs p) d m))
  unfolding resting
  bridged_walk ring p m d h =
      subst (λ y. Ends (length rs) (settled rs) cs m (3 * length rs - 1) (stand p (protection_in (length rs) cs p (settled rs p) y m)))
      (opposite_twice d) (bridging_end (length rs) (resting rs some) cs ring some (opposite d) p p m h)

module _ (rs : List ℕ) (n : ℕ) (spans : length rs ≡ n) (some : 0 < n) (cs : List Provisioned) where
  pub working_walk : AreOnRing n cs → (p m : ℕ) (d : Side) → p < n
      → Ends n (settled rs) cs m (3 * n - 1) (stand p (working_in n cs p (settled rs p) d m))
  working_walk =
      subst (λ n. AreOnRing n cs → (p m : ℕ) (d : Side) → p < n
      → Ends n (settled rs) cs m (3 * n - 1) (stand p (working_in n cs p (settled rs p) d m))) spans (sent_walk rs (omega arith) cs)

  pub protection_walk : AreOnRing n cs → (p m : ℕ) (d : Side) → p < n
      → Ends n (settled rs) cs m (3 * n - 1) (stand p (protection_in n cs p (settled rs p) d m))
  protection_walk =
      subst (λ n. AreOnRing n cs → (p m : ℕ) (d : Side) → p < n
      → Ends n (settled rs) cs m (3 * n - 1) (stand p (protection_in n cs p (settled rs p) d m))) spans (bridged_walk rs (omega arith) cs)

-- ---- steady rounds

-- no controller misses its turn in the round that begins with w, and after it each node is in the settled state of
-- these requests
pub record IsSteady (clocks : PortId → ℕ → Clock) (rs : List ℕ) (w : World) : Type 0 where
  pub form : HasCircuits (layout_of w)
  pub whole : IsWhole w
  pub tells : AreClocksOf clocks w.ring
  pub free : AtEach (λ p n. is_held n ≡ false) w.ring.nodes
  pub states : AreSettled (length w.ring.ids) rs (round w)

module _ (clocks : PortId → ℕ → Clock) (rs : List ℕ) where
  -- what comes in in the round that begins with w, and has come over j spans from a port or from AIS, holds what it may
  abbrev pub Came : ℕ → (w : World) → HasCircuits (layout_of w) → IsWhole w → Type 0
  Came j w form whole =
      (p m : ℕ) (h : p < length w.ring.nodes) → 1 ≤ m → m ≤ slots_of (layout_of w) → (o : Origin) (y : Stand)
      → Leads (length w.ring.ids) (settled rs) w.ring.circuits.circuits m j (stand p o) y → IsOver y.origin
      → ((d : Side) → o ≡ Working d → WorkingCame clocks w form whole p m d)
      × ((d : Side) → o ≡ Protection d → ProtectionCame clocks w form whole p m h d)

  pub came_none : (w : World) (form : HasCircuits (layout_of w)) (whole : IsWhole w) → Came 0 w form whole
  came_none w form whole p m h low high o y walk over =
      let here : IsOver o = subst (λ (z : Stand). IsOver z.origin) (sym walk) over in (
        λ d is. absurd (subst IsOver is here),
        λ d is. absurd (subst IsOver is here),
      )

  module _ (w : World) (s : IsSteady clocks rs w) where
    open terms w use {n, cs, t, slots}

    below : (p : ℕ) → p < length w.ring.nodes → p < n
    below p h = omega (arith, count w s.whole.placed)

    module _ (j : ℕ) (came : Came j w s.form s.whole) (p m : ℕ) (d : Side) (y : Stand) (h : p < length w.ring.nodes) (low : 1 ≤ m) (high : m ≤ slots)
        (over : IsOver y.origin) where
      pub working_sent : Leads n (settled rs) cs m j (stand p (working_in n cs p (settled rs p) d m)) y
          → WorkingSent clocks w s.form s.whole p m d
      working_sent walk =
          let o = working_in n cs p (settled rs p) d m in
          let from = came p m h low high o y walk over in
          sends_working_fine clocks w s.form s.whole s.tells p m h low high (s.free p h) o from.0 from.1 d
          (ap (λ x. working_in n cs p x d m) (s.states p (below p h)))

      pub protection_sent : Leads n (settled rs) cs m j (stand p (protection_in n cs p (settled rs p) d m)) y
          → ProtectionSent clocks w s.form s.whole p m d
      protection_sent walk =
          let o = protection_in n cs p (settled rs p) d m in
          let from = came p m h low high o y walk over in
          sends_protection_fine clocks w s.form s.whole s.tells p m h low high (s.free p h) o from.0 from.1 d
          (ap (λ x. protection_in n cs p x d m) (s.states p (below p h)))

    -- in the next round it has come over one span more
    pub came_next : (j : ℕ) → Came j w s.form s.whole → (form : HasCircuits (layout_of (round w))) (whole : IsWhole (round w))
        → Came (suc j) (round w) form whole
    unfolding any_round.round any_round.round_with
    came_next j came form whole p m h low high o y walk over =
        let hp : p < length w.ring.nodes = omega (arith, length-after w) in (
          λ d is. (let q = neighbour n p d in
              let back : Leads n (settled rs) cs m j (back_from n (settled rs) cs m p (Working d)) y =
              subst (λ x. Leads n (settled rs) cs m j (back_from n (settled rs) cs m p x) y) is walk.1 in
              working_over clocks w s.form s.whole p m hp low high d
              (working_sent j came q m (opposite d) y (neighbour_inside w s.whole p d) low high over back)),
          λ d is. (let q = neighbour n p d in
              let back : Leads n (settled rs) cs m j (back_from n (settled rs) cs m p (Protection d)) y =
              subst (λ x. Leads n (settled rs) cs m j (back_from n (settled rs) cs m p x) y) is walk.1 in
              protection_over clocks w s.form s.whole p m hp low high d
              (protection_sent j came q m (opposite d) y (neighbour_inside w s.whole p d) low high over back)),
        )

  -- ---- what goes on protection past a switched node

  module _ (x : ℕ) (e : Side) (f : Option Pos) (stays : settled rs x ≡ Switch (opposite e) f) where
    -- the far ends of the nodes that are switched on side e are nearer to x on that side
    abbrev pub EndsBefore : ℕ → Type 0
    EndsBefore n = (q : ℕ) (g : Pos) → q < n → settled rs q ≡ Switch e (Some g) → (g.0 < n) × (steps n e x g.0 < steps n e x q)

    -- what is sent on protection away from e, and has come over j spans, is of the circuit on the switched span of x
    abbrev pub TheirsSent : ℕ → World → Type 0
    TheirsSent j w =
        (let n = length w.ring.ids in let cs = w.ring.circuits.circuits in
        (q m : ℕ) (y : Stand) → q < length w.ring.nodes → 1 ≤ m → m ≤ slots_of (layout_of w)
        → Leads n (settled rs) cs m j (stand q (protection_in n cs q (settled rs q) (opposite e) m)) y → IsOver y.origin
        → Fine (HoldsAtMost cs clocks (w.ring.rounds + 1)) (circuits_at n cs x m (opposite e)) e
        (sent_at w q (opposite e) (slots_of (layout_of w) + m)))

    -- what has come in on protection over j spans is of the circuit on the switched span of x
    abbrev TheirsCame : ℕ → World → Type 0
    TheirsCame j w =
        (let n = length w.ring.ids in let cs = w.ring.circuits.circuits in
        (q m : ℕ) (y : Stand) → q < length w.ring.nodes → 1 ≤ m → m ≤ slots_of (layout_of w)
        → Leads n (settled rs) cs m j (stand q (Protection e)) y → IsOver y.origin → (line : List ℕ)
        → carried_on w.fibres (fibre (neighbour n q e) (opposite e)) ≡ Some line
        → Bears (HoldsAtMost cs clocks w.ring.rounds) (circuits_at n cs x m (opposite e)) e (au_in w (slots_of (layout_of w) + m) line))

    module _ (w : World) (s : IsSteady clocks rs w) (hx : x < length w.ring.nodes) (end : EndsBefore (length w.ring.ids)) (j : ℕ)
        (came : Came j w s.form s.whole) (comes : TheirsCame j w) where
      theirs_by : TheirsSent j w
      theirs_by q m y h low high walk over =
          let n = length w.ring.ids in
          let cs = w.ring.circuits.circuits in
          let now = s.states q (below w s q h) in
          theirs clocks w s.form s.whole x e hx f (s.states x (below w s x hx) ∙ stays) q m h low high
          (λ other is line there. comes q m y h low high
          (subst (λ o. Leads n (settled rs) cs m j (stand q o) y)
          (ap (λ z. protection_in n cs q z (opposite e) m) (sym now ∙ is) ∙ passed-leaves n cs q e m) walk) over line there)
          (λ g is carries. working_sent w s j came q m e y h low high over
          (subst (λ o. Leads n (settled rs) cs m j (stand q o) y)
          (ap (λ z. protection_in n cs q z (opposite e) m) (sym now ∙ is) ∙ bridged-leaves n cs q e m (Some g) carries
          ∙ ap (λ z. working_in n cs q z e m) (sym (sym now ∙ is))) walk))
          (λ g is. end q g (below w s q h) (sym now ∙ is))

    pub theirs_none : (w : World) (s : IsSteady clocks rs w) → x < length w.ring.nodes → EndsBefore (length w.ring.ids) → TheirsSent 0 w
    theirs_none w s hx end =
        theirs_by w s hx end 0 (came_none w s.form s.whole)
        (λ q m y h low high walk over line there. absurd (subst (λ (z : Stand). IsOver z.origin) (sym walk) over))

    pub theirs_next : (w : World) (s : IsSteady clocks rs w) (next : IsSteady clocks rs (round w)) → x < length w.ring.nodes
        → EndsBefore (length w.ring.ids) → (j : ℕ) → Came (suc j) (round w) next.form next.whole → TheirsSent j w → TheirsSent (suc j) (round w)
    unfolding any_round.round any_round.round_with
    theirs_next w s next hx end j came sent =
        theirs_by (round w) next (omega (arith, length-after w)) end (suc j) came
        (λ q m y h low high walk over line there. (let hq : q < length w.ring.nodes = omega (arith, length-after w) in
        let cs = w.ring.circuits.circuits in
        let r = w.ring.rounds + 1 in
        sent_bears (HoldsAtMost cs clocks r) (carried_holds cs clocks r) w s.whole (circuits_at (length w.ring.ids) cs x m (opposite e)) e
        (neighbour (length w.ring.ids) q e) (slots_of (layout_of w) + m) (opposite e) line (neighbour_inside w s.whole q e) (omega arith)
        (omega arith) there
        (sent (neighbour (length w.ring.ids) q e) m y (neighbour_inside w s.whole q e) low high walk.1 over)))
