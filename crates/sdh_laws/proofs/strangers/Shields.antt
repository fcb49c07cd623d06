-- A switched node lets no word and no protection AU-4 past it. So it is known whose these are beyond it.
use Rattle.std.proofs.Common.{◌≡◌, ℕ, suc, ◌+◌, ◌-◌, ◌<◌, ◌≤◌, true, List, length, Option, Some, refl, ap, sym}
use Rattle.std.proofs.Common.{◌∙◌, arith, inl, inr, ◌⊎◌}
use Rattle.std.specs.Prelude.{◌≢◌}
use Rattle.std.proofs.lemmas.Bool.{cases_lt}
use Rattle.sdh_ringmap.specs.Places.{opposite, span_at, position_of}
use Rattle.sdh_ringmap.specs.Steps.{going}
use Rattle.sdh_ringmap.specs.declared.Pos.{Pos}
use Rattle.sdh_ringmap.specs.declared.Side.{Side}
use Rattle.sdh_ringmap.specs.declared.Side.TheVariants.{West, East}
use Rattle.sdh_ringmap.proofs.Going.{reached, going-none, going-inside, going-add, going-round, way-behind}
use Rattle.sdh_circuits.specs.Provisioned.{Provisioned}
use Rattle.sdh_circuits.specs.declared.PortId.{PortId}
use Rattle.sdh_squelch.specs.Table.{circuits_at, circuit_from}
use Rattle.sdh_nodestate.specs.declared.NodeState.{NodeState}
use Rattle.sdh_nodestate.specs.declared.NodeState.TheVariants as state
use Rattle.sdh_payload.specs.Clock.{Clock}
use Rattle.sdh_ringmap.specs.Fibres.{fibre}
use Rattle.sdh_plant.specs.Arrivals.{carried_on}
use Rattle.sdh_node.specs.Node.{last_word_on}
use Rattle.sdh_node.specs.Rings.Held.{node_at}
use Rattle.sdh_node.specs.Rings.Rounds.{World}
use Rattle.sdh_signal.specs.Walks.{carries_in}
use Rattle.sdh_signal.proofs.Views.{AreOnRing, Switch}
use Rattle.sdh_signal.proofs.OnArcs.{near_at, seen-on}
use Rattle.sdh_signal.proofs.Meets.{meets-farther}
use Rattle.sdh_signal.specs.Law.{is_open}
use Rattle.sdh_laws.specs.Carrying.Windows.{layout_of, slots_of}
use Rattle.sdh_laws.specs.Strangers.Vouched.{streams_to, HoldsAtMost, au_in, IsAside}
use Rattle.sdh_laws.proofs.strangers.Lags.{steps, steps_going, source_in}

-- ---- where positions lie round the ring

module _ (n : ℕ) (some : 0 < n) (e : Side) where
  -- from a position k steps on, what is fewer steps on comes last
  around : (q k l : ℕ) → k < n → l < k → (x f : ℕ) → x ≡ going n e q k → f ≡ going n e q l → steps n e x f ≡ n - k + l
  around q k l few less x f at to =
      (λ i. steps n e (at i) (to i))
      ∙ ap (steps n e (going n e q k)) (sym (going-round n some e q l) ∙ ap (going n e q) {x = l + n} {y = k + (n - k + l)} (omega arith)
      ∙ sym (going-add n some e q k (n - k + l)))
      ∙ steps_going n some e (going n e q k) (n - k + l) (going-inside n some e q k) (omega arith)

  -- where f comes before q from x on, x comes no later than f from q on
  comes_first : (q k l : ℕ) → q < n → 0 < k → k < n → l < n → (x f : ℕ) → x ≡ going n e q k → f ≡ going n e q l
      → steps n e x f < steps n e x q → k ≤ l
  comes_first q k l hq some_k few_k few_l x f at to less = elim (cases_lt l k) [
    | inr high ↦ high
    | inl low ↦ (
        let here : steps n e x q ≡ n - k + 0 = around q k 0 few_k (omega arith) x q at (sym (going-none n some e q hq)) in
        let there : steps n e x f ≡ n - k + l = around q k l few_k low x f at to in
        absurd (omega arith))
  ]

module _ (n : ℕ) (cs : List Provisioned) (ring : AreOnRing n cs) (some : 0 < n) (e : Side) (q m x : ℕ) (f : Pos) (hq : q < n) (hx : x < n)
    (hf : f.0 < n) (other : x ≢ q) (less : steps n e x f.0 < steps n e x q) where
  -- what may be carried between q and f is also on the span behind each position between them outside the chain
  pub meets-between : carries_in n cs q e m (Some f) ≡ true → circuits_at n cs x m (opposite e) ≡ circuits_at n cs q m e
  meets-between t =
      let far = meets-farther n cs ring some e q m f hq hf t in
      let c = far.circuit in
      let b = near_at n c e in
      let seen = seen-on n cs ring far.index c far.is e in
      let short = seen.short in
      let after = far.after in
      let within = far.within in
      let r = reached n some e q x hq hx in
      let k = r.steps in
      let few = r.few in
      let l = far.last - far.step in
      let more : 0 < k = elim (cases_lt 0 k) [
        | inl h ↦ h
        | inr h ↦ absurd (other (sym r.there ∙ ap (going n e q) {x = k} {y = 0} (omega arith) ∙ going-none n some e q hq))
      ] in
      let to : f.0 ≡ going n e q l =
      sym far.there ∙ ap (going n e b) {x = far.last} {y = far.step + l} (omega arith) ∙ sym (going-add n some e b far.step l)
      ∙ ap (λ y. going n e y l) (sym far.here) in
      let first : k ≤ l = comes_first n some e q k l hq more few (omega arith) x f.0 (sym r.there) to less in
      let i = far.step + k - 1 in
      let at : x ≡ going n e b (suc i) =
      sym r.there ∙ ap (λ y. going n e y k) far.here ∙ going-add n some e b far.step k
      ∙ ap (going n e b) {x = far.step + k} {y = suc i} (omega arith) in
      ap (λ y. circuit_from n (span_at n y (opposite e)) m 0 cs) at
      ∙ ap (λ s. circuit_from n s m 0 cs) (way-behind n some e b i)
      ∙ ap (λ z. circuit_from n (span_at n (going n e b i) e) z 0 cs) (sym far.slot)
      ∙ seen.on_arc i (omega arith) ∙ sym far.row

-- ---- sides and states

pub no_both : (e : Side) (f g : Option Pos) → Switch (opposite e) f ≡ Switch e g → ⊥
no_both West f g z = cc
no_both East f g z = cc

pub no_pass : (e : Side) (f : Option Pos) → Switch e f ≡ state.PassThrough tt → ⊥
no_pass West f z = cc
no_pass East f z = cc

pub open_on : (e : Side) (f : Option Pos) → is_open (Switch (opposite e) f) e ≡ true
open_on West f = refl
open_on East f = refl

-- a node's state is one of four: aside, passing through, or switched on one side or the other
pub by_state : (e : Side) (x : NodeState) (A : Type 0) → (IsAside x → A) → (x ≡ state.PassThrough tt → A) → ((f : Option Pos) → x ≡ Switch e f → A)
    → ((f : Option Pos) → x ≡ Switch (opposite e) f → A) → A
by_state e (state.Idle i) A aside pass this other = aside tt
by_state e (state.Isolated i) A aside pass this other = aside tt
by_state e (state.PassThrough i) A aside pass this other = pass refl
by_state West (state.SwitchWest f) A aside pass this other = this f refl
by_state West (state.SwitchEast f) A aside pass this other = other f refl
by_state East (state.SwitchWest f) A aside pass this other = other f refl
by_state East (state.SwitchEast f) A aside pass this other = this f refl

pub by_side : (e d : Side) → (d ≡ e) ⊎ (d ≡ opposite e)
by_side West West = inl refl
by_side West East = inr refl
by_side East West = inr refl
by_side East East = inl refl

-- ---- a shield

-- The shield of a node at x that is switched on the side opposite to e. It reaches a - 1 steps from x on side e: a word
-- that is sent on side e there has its source between x and its sender, and so has the far end of each node that is
-- switched on side e. It reaches b - 1 steps from x on the opposite side: a protection AU-4 that is sent on that side
-- there is of the circuit on the switched span of x.
pub record Shields (clocks : PortId → ℕ → Clock) (a b : ℕ) (w : World) (x : ℕ) (e : Side) : Type 0 where
  pub says : 1 ≤ a → source_in w.ring.ids (last_word_on e (node_at w.ring.nodes x)) ≡ Some (position_of x)
  pub words : (q : ℕ) (g : Pos) → q < length w.ring.nodes → steps (length w.ring.ids) e x q < a
      → source_in w.ring.ids (last_word_on e (node_at w.ring.nodes q)) ≡ Some g
      → steps (length w.ring.ids) e x g.0 ≤ steps (length w.ring.ids) e x q
  pub ends : (q : ℕ) (g : Pos) → q < length w.ring.nodes → steps (length w.ring.ids) e x q < a
      → (node_at w.ring.nodes q).state ≡ Switch e (Some g)
      → (g.0 < length w.ring.ids) × (steps (length w.ring.ids) e x g.0 < steps (length w.ring.ids) e x q)
  pub content : (q m : ℕ) (line : List ℕ) → q < length w.ring.nodes → steps (length w.ring.ids) (opposite e) x q < b
      → carried_on w.fibres (fibre q (opposite e)) ≡ Some line → 1 ≤ m → m ≤ slots_of (layout_of w)
      → HoldsAtMost w.ring.circuits.circuits clocks w.ring.rounds
      (streams_to e (circuits_at (length w.ring.ids) w.ring.circuits.circuits x m (opposite e))) (au_in w (slots_of (layout_of w) + m) line)

-- each switched node has a shield
abbrev pub AllShielded : (PortId → ℕ → Clock) → World → Type 0
AllShielded clocks w =
    (x : ℕ) (e : Side) (f : Option Pos) → x < length w.ring.nodes → (node_at w.ring.nodes x).state ≡ Switch (opposite e) f
    → Shields clocks (length w.ring.ids) (length w.ring.ids) w x e
