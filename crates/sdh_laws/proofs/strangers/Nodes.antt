-- What a node sends and delivers, where what comes in is fine.
use Rattle.std.proofs.Common.{◌≡◌, ℕ, zero, suc, ◌+◌, ◌-◌, ◌<◌, ◌≤◌, Bool, true, false, List, length, Option, Some, None, refl, ap}
use Rattle.std.proofs.Common.{sym, ◌∙◌, subst, arith, inl, inr, ◌⊎◌}
use Rattle.std.specs.Prelude.{◌≢◌, if◌then◌else◌, slice_index, slice_get}
use Rattle.std.specs.Option.{option_and_then}
use Rattle.std.proofs.lemmas.Bool.{cases_Bool, and_parts, eqb-true}
use Rattle.std.specs.Prelude.{◌==◌}
use Rattle.sdh_kbytes.specs.declared.K.{K}
use Rattle.sdh_ringmap.specs.Ids.{AreIds}
use Rattle.sdh_ringmap.specs.Places.{opposite, neighbour, position_of, found_at, span_at}
use Rattle.sdh_ringmap.specs.declared.Pos.{Pos}
use Rattle.sdh_ringmap.specs.declared.Side.{Side}
use Rattle.sdh_ringmap.specs.declared.Side.TheVariants.{West, East}
use Rattle.sdh_ringmap.specs.Steps.{going}
use Rattle.sdh_ringmap.proofs.Sides.{opposite_twice}
use Rattle.sdh_ringmap.proofs.Going.{way-behind, going-none, going-inside, going-next, going-back, going-last, going-add, mirror}
use Rattle.sdh_circuits.specs.Provisioned.{Provisioned}
use Rattle.sdh_circuits.specs.declared.End.{End}
use Rattle.sdh_circuits.specs.declared.End.TheVariants.{A, B}
use Rattle.sdh_circuits.specs.declared.PortId.{PortId}
use Rattle.sdh_squelch.specs.declared.Row.{Row}
use Rattle.sdh_squelch.specs.Table.{OnSpan, circuits_at, circuit_from}
use Rattle.sdh_squelch.proofs.LookUps.{entry}
use Rattle.sdh_nodestate.specs.declared.NodeState.{NodeState}
use Rattle.sdh_nodestate.specs.declared.NodeState.TheVariants as state
use Rattle.sdh_nodestate.specs.Rules.{Scene, own_id, long, relayed, word, state_after}
use Rattle.sdh_nodestate.specs.Words.{IsMember}
use Rattle.sdh_bridge.specs.declared.Origin.{Origin}
use Rattle.sdh_bridge.specs.declared.Origin.TheVariants.{Working, Protection, Ais}
use Rattle.sdh_bridge.specs.Connections.{may_carry}
use Rattle.sdh_frame.specs.Aus.{Au}
use Rattle.sdh_pointer.specs.declared.reading.Action.TheVariants as action
use Rattle.sdh_terminal.specs.Passing.{Input}
use Rattle.sdh_circuits.specs.Ends.{other_end, port_id}
use Rattle.sdh_signal.specs.Walks.{carries_in, stands_in, working_in, protection_in, port, port_at}
use Rattle.sdh_circuits.specs.Ends.{inward}
use Rattle.sdh_signal.proofs.Views.{AreOnRing, arc_length, end_at, holds, Switch}
use Rattle.sdh_signal.proofs.Seen.{Seen}
use Rattle.sdh_signal.proofs.Sights.{found-gives, arc-end}
use Rattle.sdh_signal.proofs.OnArcs.{near_at, near_end, on-arc, seen-on}
use Rattle.sdh_signal.proofs.Meets.{meets-own, meets-farther}
use Rattle.sdh_signal.proofs.Passing.{open-stands, leaves-on, leaves-own_or_none, leaves-unused, isolated-stands, isolated-leaves}
use Rattle.sdh_signal.specs.Law.{is_open}
use Rattle.sdh_signal.proofs.Passing.{idle-leaves, switched-stands, bridged-leaves, blocked-leaves, away-leaves, passed-leaves}
use Rattle.sdh_laws.specs.Strangers.Vouched.{sender, circuit_on_side, spoken_of, IsAside}
use Rattle.sdh_laws.specs.Strangers.Vouched.{streams_to}
use Rattle.sdh_laws.proofs.strangers.Content.{Fine}
use Rattle.sdh_laws.proofs.strangers.Lags.{steps, steps_none, steps_going, steps_next, Lag, exactly, or_round, next_lag, Fits}
use Rattle.sdh_laws.proofs.strangers.Lags.{start_of, place_on, working_lag, by_slot, stand_lag, protection_rounds, source_in, spoken_lag}
use Rattle.sdh_laws.proofs.strangers.Lags.{straight_fits, working_fits, next_fits, lag_behind, lag_ahead, lag_on, AreLags}
use Rattle.sdh_laws.proofs.strangers.Lags as lag
use Rattle.sdh_laws.proofs.strangers.Saying.{Sourced, switched_source}
use Rattle.sdh_laws.proofs.strangers.Saying as saying
use Rattle.sdh_signal.proofs.Ends.{found}
use Rattle.sdh_signal.proofs.OneNode.{relayed_from}
use Rattle.sdh_laws.proofs.strangers.Rules.{switched_one, passes_relays, relays, heard_is_long, far_from}

-- ---- the circuits on the two spans of a node

near_is_sender : (d : Side) → near_end d ≡ sender d
near_is_sender East = refl
near_is_sender West = refl

ends_by : (a b : Bool) (x y p : ℕ) (e : End) → ((a ≡ true) → x ≡ p) → ((b ≡ true) → y ≡ p)
    → (if a then Some A else (if b then Some B else None)) ≡ Some e → (e ≡ A × x ≡ p) ⊎ (e ≡ B × y ≡ p)
ends_by true b x y p e f g h = inl (sym (let z : A ≡ e = cc in z), f refl)
ends_by false true x y p e f g h = inr (sym (let z : B ≡ e = cc in z), g refl)
ends_by false false x y p e f g h = cc

-- a circuit that ends at a position has its port there
ends_there : (c : Provisioned) (p : ℕ) (e : End) → end_at c p ≡ Some e → port_at c e ≡ p
ends_there c p e h = elim (ends_by (c.from.0 == p) (c.to.0 == p) c.from.0 c.to.0 p e (eqb-true c.from.0 p) (eqb-true c.to.0 p) h) [
  | inl a ↦ ap (port_at c) a.0 ∙ a.1
  | inr b ↦ ap (port_at c) b.0 ∙ b.1
]

-- where a circuit is on the span of a side: it ends here, and its port sends there, or it is on the other span too
pub data Meets (n : ℕ) (cs : List Provisioned) (p m : ℕ) (d : Side) : Type 0 where
  nothing : circuits_at n cs p m d ≡ None → Meets n cs p m d
  ends : (i : ℕ) (c : Provisioned) → circuits_at n cs p m d ≡ Some (entry i c) → end_at c p ≡ Some (sender d) → slice_get cs i ≡ Some c
      → port_at c (sender d) ≡ p → Meets n cs p m d
  goes_on : (i : ℕ) (c : Provisioned) → circuits_at n cs p m d ≡ Some (entry i c) → end_at c p ≡ None
      → circuits_at n cs p m (opposite d) ≡ Some (entry i c)
      → place_on n d (Some (entry i c)) p ≡ place_on n d (Some (entry i c)) (neighbour n p (opposite d)) + 1 → Meets n cs p m d

-- where a circuit's stream to a side starts, and where the one to the other side does
starts_near : (n : ℕ) (cs : List Provisioned) (ring : AreOnRing n cs) (i : ℕ) (c : Provisioned) → slice_get cs i ≡ Some c → (d : Side)
    → start_of d (entry i c) ≡ near_at n c d
starts_near n cs ring i c get East = refl
starts_near n cs ring i c get West = arc-end n cs ring i c get

-- where a circuit's stream to a side starts its port is
starts_there : (i : ℕ) (c : Provisioned) (d : Side) → start_of d (entry i c) ≡ port_at c (sender d)
starts_there i c East = refl
starts_there i c West = refl

starts_distant : (i : ℕ) (c : Provisioned) (d : Side) → start_of (opposite d) (entry i c) ≡ port_at c (other_end (near_end d))
starts_distant i c East = refl
starts_distant i c West = refl

near_inside : (n : ℕ) (cs : List Provisioned) (ring : AreOnRing n cs) (i : ℕ) (c : Provisioned) → slice_get cs i ≡ Some c → (d : Side)
    → near_at n c d < n
near_inside n cs ring i c get East = (ring.inside i c get).0
near_inside n cs ring i c get West = (let h = (ring.inside i c get).0 in going-inside n (omega arith) East c.from.0 (arc_length n c))

module _ (n : ℕ) (cs : List Provisioned) (ring : AreOnRing n cs) (p m : ℕ) (inside : p < n) where
  some : 0 < n
  some = omega (arith, inside)

  farther_on : (i : ℕ) (c : Provisioned) → slice_get cs i ≡ Some c → (d : Side) (q j : ℕ) → suc j < n
      → q ≡ going n d (near_at n c d) (suc j)
      → place_on n d (Some (entry i c)) q ≡ place_on n d (Some (entry i c)) (neighbour n q (opposite d)) + 1
  farther_on i c get d q j few at =
      let b = near_at n c d in
      let low = near_inside n cs ring i c get d in
      let start : start_of d (entry i c) ≡ b = starts_near n cs ring i c get d in
      let here : steps n d (start_of d (entry i c)) q ≡ suc j =
      (λ k. steps n d (start k) (at k)) ∙ steps_going n some d b (suc j) low few in
      let before : steps n d (start_of d (entry i c)) (neighbour n q (opposite d)) ≡ j =
      (λ k. steps n d (start k) (neighbour n (at k) (opposite d))) ∙ ap (steps n d b) (going-back n some d b j)
      ∙ steps_going n some d b j low (omega arith) in
      omega arith

  met_by : (d : Side) (o : Option Row) → circuits_at n cs p m d ≡ o → Meets n cs p m d
  met_by d None e = nothing e
  met_by d (Some r) e =
      let f = found-gives n (span_at n p d) m 0 cs r e in
      let c = f.circuit in
      let i = f.place in
      let both = and_parts (c.slot.0 == m) (holds n c (span_at n p d)) f.on in
      let at = on-arc n cs ring some c d p (ring.inside i c f.is).0 inside both.1 in
      let seen = seen-on n cs ring i c f.is d in
      let slot : c.slot.0 ≡ m = eqb-true c.slot.0 m both.0 in
      let row : r ≡ entry i c = f.row ∙ ap (λ k. entry k c) {x = 0 + i} (omega arith) in
      let here : circuits_at n cs p m d ≡ Some (entry i c) = e ∙ ap Some row in
      by_step i c f.is seen slot here at.step at.few at.there
    where
      by_step : (i : ℕ) (c : Provisioned) → slice_get cs i ≡ Some c → Seen n cs i c d (near_at n c d) (near_end d) (other_end (near_end d))
          → c.slot.0 ≡ m → circuits_at n cs p m d ≡ Some (entry i c)
          → (k : ℕ) → k < arc_length n c → p ≡ going n d (near_at n c d) k → Meets n cs p m d
      by_step i c get seen slot here zero few at =
          let e = ap (end_at c) at ∙ seen.starts ∙ ap Some (near_is_sender d) in
          ends i c here e get (ends_there c p (sender d) e)
      by_step i c get seen slot here (suc j) few at =
          goes_on i c here (ap (end_at c) at ∙ seen.passes_by (suc j) (omega arith) few)
          (ap (λ q. circuits_at n cs q m (opposite d)) at
          ∙ ap (λ s. circuit_from n s m 0 cs) (way-behind n some d (near_at n c d) j)
          ∙ ap (λ k. circuit_from n (span_at n (going n d (near_at n c d) j) d) k 0 cs) (sym slot)
          ∙ seen.on_arc j (omega arith))
          (farther_on i c get d p j (let short = seen.short in omega arith) at)

  -- a node with a circuit on the span of a side has at least one span of its arc before it to go, out of n - 1
  pub place_short : 2 ≤ n → (d : Side) (o : Option Row) → circuits_at n cs p m d ≡ o → place_on n d o p + 2 ≤ n
  place_short two d None e = two
  place_short two d (Some r) e =
      let f = found-gives n (span_at n p d) m 0 cs r e in
      let c = f.circuit in
      let i = f.place in
      let both = and_parts (c.slot.0 == m) (holds n c (span_at n p d)) f.on in
      let at = on-arc n cs ring some c d p (ring.inside i c f.is).0 inside both.1 in
      let seen = seen-on n cs ring i c f.is d in
      let short = seen.short in
      let few = at.few in
      let row : r ≡ entry i c = f.row ∙ ap (λ k. entry k c) {x = 0 + i} (omega arith) in
      let start : start_of d r ≡ near_at n c d = ap (start_of d) row ∙ starts_near n cs ring i c f.is d in
      let here : steps n d (start_of d r) p ≡ at.step =
      (λ k. steps n d (start k) (at.there k))
      ∙ steps_going n some d (near_at n c d) at.step (near_inside n cs ring i c f.is d) (omega arith) in
      omega arith

  pub meets : (d : Side) → Meets n cs p m d
  meets d = met_by d (circuits_at n cs p m d) refl

-- ---- a node

-- without a far end nothing may be carried
pub no_far : (n : ℕ) (cs : List Provisioned) (p : ℕ) (d : Side) (m : ℕ) → carries_in n cs p d m None ≡ false
unfolding may_carry
no_far n cs p West m = refl
no_far n cs p East m = refl

module _ (Was Own : Lag → Option PortId → Au → Type 0) (lags : AreLags Was Own) (ids : List ℕ) (cs : List Provisioned) (are : AreIds ids)
    (ring : AreOnRing (length ids) cs)
    (s : Scene) (same : s.ids ≡ ids) (p : ℕ) (at : s.at ≡ p) (inside : p < length ids) (m : ℕ) (value : Origin → Input)
    (came : Side → Option Pos)
    (working_in_fine : (d : Side) → Fine (Was (working_lag (length ids) (opposite d) (circuits_at (length ids) cs p m d) (came d)
    (neighbour (length ids) p d))) (circuits_at (length ids) cs p m d) (opposite d) (value (Working d)))
    (protection_in_fine : (d : Side) (k : K) → long s d ≡ Some k
    → Fine (Was (spoken_lag ids cs m d k (neighbour (length ids) p d))) (spoken_of ids cs m d k) d (value (Protection d)))
    (sourced : (d : Side) (k : K) → long s d ≡ Some k → IsMember ids k.from)
    (heard : (d : Side) (k : K) → long s d ≡ Some k → came d ≡ source_in ids k)
    (silence : (value Ais).action ≡ action.Ais) where
  abbrev n : ℕ
  n = length ids

  abbrev st : NodeState
  st = state_after s

  abbrev on : Side → Option OnSpan
  on d = circuits_at n cs p m d

  peopled : 0 < n
  peopled = omega (arith, inside)

  two : 2 ≤ n
  two = are.enough

  -- what stands for the working arrival from a side lags so, at a node in this state
  abbrev arrival_lag : NodeState → Side → Lag
  arrival_lag x d = stand_lag n d (on d) (came d) (neighbour n p d) x

  by_origin : (i : Lag) (o : Option OnSpan) (d : Side) (x y : Origin) → x ≡ y → Fine (Own i) o d (value y) → Fine (Own i) o d (value x)
  by_origin i o d x y e h = subst (λ z. Fine (Own i) o d (value z)) (sym e) h

  silent_is_fine : (i : Lag) (o : Option OnSpan) (d : Side) → Fine (Own i) o d (value Ais)
  silent_is_fine i o d = inl silence

  later : (i : Lag) (o : Option OnSpan) (d : Side) (x : Input) → Fine (Was i) o d x → Fine (Own (next_lag i)) o d x
  later i o d x (inl z) = inl z
  later i o d x (inr h) = inr (lags.later i (streams_to d o) x.au h)

  fitting : (i j : Lag) → Fits i j → (o : Option OnSpan) (d : Side) (x : Input) → Fine (Own i) o d x → Fine (Own j) o d x
  fitting i j fits o d x (inl z) = inl z
  fitting i j fits o d x (inr h) = inr (lags.fitting i j (streams_to d o) x.au fits h)

  heard_source : (d : Side) (k : K) (f : Pos) → long s d ≡ Some k → found_at s.ids k.from ≡ Some f → source_in ids k ≡ Some f
  heard_source d k f h at =
      ap (option_and_then (λ (k : K). found_at ids k.from)) (heard_is_long s d k h) ∙ ap (λ i. found_at i k.from) (sym same) ∙ at

  -- the circuit that is spoken of by the word heard away from a switched side
  heard_speaks : (d : Side) (k : K) (f : Pos) → long s d ≡ Some k → found_at s.ids k.from ≡ Some f
      → spoken_of ids cs m d k ≡ circuits_at n cs f.0 m d
  heard_speaks d k f h at = ap (circuit_on_side ids cs m d) (heard_source d k f h at)

  -- where the far end of side d is, with which the circuit there may be carried
  pub record IsAhead (d : Side) (f : Pos) : Type 0 where
    -- it is farther along the circuit's arc than p
    pub ahead : place_on n d (on d) p < place_on n d (on d) f.0
    -- what comes from it on protection has gone round the ring past so many spans of the arc
    pub past : ℕ
    pub some : 1 ≤ past
    pub few : past ≤ place_on n (opposite d) (on d) (neighbour n p d) + 1
    pub rounds : protection_rounds n (opposite d) (on d) (Some f) (neighbour n p (opposite d)) + 1
        ≡ (place_on n (opposite d) (on d) (neighbour n p d) + 1 - past) + (n - past)

  is_ahead : (d : Side) (f : Pos) → f.0 < n → carries_in n cs p d m (Some f) ≡ true → IsAhead d f
  is_ahead d f low t =
      let far = meets-farther n cs ring peopled d p m f inside low t in
      let c = far.circuit in
      let b = near_at n c d in
      let l = arc_length n c in
      let seen = seen-on n cs ring far.index c far.is d in
      let short = seen.short in
      let base = near_inside n cs ring far.index c far.is d in
      let begin : start_of d (entry far.index c) ≡ b = starts_near n cs ring far.index c far.is d in
      let start : start_of (opposite d) (entry far.index c) ≡ going n d b l = starts_distant far.index c d ∙ seen.distant_at in
      let after = far.after in
      let within = far.within in
      let k = far.last - far.step in
      let enough = two in
      let place : place_on n d (on d) p ≡ far.step =
      ap (λ o. place_on n d o p) far.row ∙ (λ i. steps n d (begin i) (far.here i)) ∙ steps_going n peopled d b far.step base (omega arith) in
      let beyond : place_on n d (on d) f.0 ≡ far.last =
      ap (λ o. place_on n d o f.0) far.row ∙ (λ i. steps n d (begin i) ((sym far.there) i))
      ∙ steps_going n peopled d b far.last base (omega arith) in
      let there : place_on n (opposite d) (on d) f.0 ≡ l - far.last =
      ap (λ o. place_on n (opposite d) o f.0) far.row
      ∙ (λ k. steps n (opposite d) (start k) ((sym far.there ∙ sym (mirror n peopled d b (l - far.last) far.last l (omega arith))) k))
      ∙ steps_going n peopled (opposite d) (going n d b l) (l - far.last) (going-inside n peopled d b l) (omega arith) in
      let beside : neighbour n p d ≡ going n d b (suc far.step) = ap (λ q. neighbour n q d) far.here ∙ going-next n peopled d b far.step in
      let before : place_on n (opposite d) (on d) (neighbour n p d) ≡ l - suc far.step =
      ap (λ o. place_on n (opposite d) o (neighbour n p d)) far.row
      ∙ (λ k. steps n (opposite d) (start k) ((beside ∙ sym (mirror n peopled d b (l - suc far.step) (suc far.step) l (omega arith))) k))
      ∙ steps_going n peopled (opposite d) (going n d b l) (l - suc far.step) (going-inside n peopled d b l) (omega arith) in
      let to : f.0 ≡ going n d p k =
      sym far.there ∙ ap (going n d b) {x = far.last} {y = far.step + k} (omega arith) ∙ sym (going-add n peopled d b far.step k)
      ∙ ap (λ y. going n d y k) (sym far.here) in
      let round_ring : steps n (opposite (opposite d)) f.0 (neighbour n p (opposite d)) ≡ n - 1 - k =
      ap (λ y. steps n y f.0 (neighbour n p (opposite d))) (opposite_twice d)
      ∙ ap (steps n d f.0) (sym (going-last n peopled d p (n - 1) inside (omega arith))
      ∙ ap (going n d p) {x = n - 1} {y = k + (n - 1 - k)} (omega arith) ∙ sym (going-add n peopled d p k (n - 1 - k))
      ∙ ap (λ y. going n d y (n - 1 - k)) (sym to))
      ∙ steps_going n peopled d f.0 (n - 1 - k) low (omega arith) in
      record { ahead = omega arith; past = k; some = omega arith; few = omega arith; rounds = omega arith }

  gone_round : (spans past i : ℕ) → 1 ≤ past → past ≤ spans → i + 1 ≡ (spans - past) + (n - past) → (o : Option OnSpan) (y : Side)
      (x : Input) → Fine (Was (exactly i)) o y x → Fine (Own (or_round n spans)) o y x
  gone_round spans past i some few is o y x (inl z) = inl z
  gone_round spans past i some few is o y x (inr h) = inr (lags.round n spans past i (streams_to y o) x.au some few is h)

  -- what comes on protection in place of the working arrival from a switched side
  in_place : (d : Side) (f : Option Pos) → state_after s ≡ Switch d f → carries_in n cs p d m f ≡ true
      → Fine (Own (or_round n (place_on n (opposite d) (on d) (neighbour n p d) + 1))) (on d) (opposite d) (value (Protection (opposite d)))
  in_place d None h t = absurd (no (sym (no_far n cs p d m) ∙ t))
    where
      no : false ≡ true → ⊥
      no z = cc
  in_place d (Some f) h t =
      let is = far_from s d f (sym (switched_one s d (Some f) h).end) in
      let low : f.0 < n = subst (λ i. f.0 < length i) same is.inside in
      let e = opposite d in
      let at = is_ahead d f low t in
      let circuit : spoken_of ids cs m e is.k ≡ on d =
      heard_speaks e is.k f is.heard is.found ∙ meets-own n cs ring peopled d p m f inside low t in
      let lag : spoken_lag ids cs m e is.k (neighbour n p e) ≡ exactly (protection_rounds n e (on d) (Some f) (neighbour n p e)) =
      (λ j. exactly (protection_rounds n e (circuit j) (heard_source e is.k f is.heard is.found j) (neighbour n p e))) in
      gone_round (place_on n e (on d) (neighbour n p d) + 1) at.past (protection_rounds n e (on d) (Some f) (neighbour n p e)) at.some at.few
      at.rounds (on d) e (value (Protection e))
      (subst (λ i. Fine (Was i) (on d) e (value (Protection e))) lag
      (subst (λ o. Fine (Was (spoken_lag ids cs m e is.k (neighbour n p e))) o e (value (Protection e))) circuit
      (protection_in_fine e is.k is.heard)))

  -- a node that is switched on a side takes what stands for the arrival from protection
  taken : (d : Side) (f : Option Pos) (i j : Lag) → by_slot (Switch d f) d i j ≡ j
  taken West f i j = refl
  taken East f i j = refl

  -- on the other side it takes it from the working slot
  untaken : (x : NodeState) (d : Side) (i j : Lag) → is_open x d ≡ true → by_slot x d i j ≡ i
  untaken (state.Isolated x) d i j o = refl
  untaken (state.PassThrough x) d i j o = refl
  untaken (state.Idle x) d i j o = refl
  untaken (state.SwitchWest f) West i j o = cc
  untaken (state.SwitchWest f) East i j o = refl
  untaken (state.SwitchEast f) West i j o = refl
  untaken (state.SwitchEast f) East i j o = cc

  -- the lag of what comes in the working slot from a side, after its span, and of what has gone round the ring instead
  abbrev came_lag : Side → Lag
  came_lag d = next_lag (working_lag n (opposite d) (on d) (came d) (neighbour n p d))

  abbrev round_lag : Side → Lag
  round_lag d = or_round n (place_on n (opposite d) (on d) (neighbour n p d) + 1)

  switched_fine : (d : Side) (f : Option Pos) → state_after s ≡ Switch d f
      → Fine (Own (arrival_lag (Switch d f) d)) (on d) (opposite d) (value (stands_in n cs p (Switch d f) d m))
  switched_fine d f h =
      subst (λ j. Fine (Own j) (on d) (opposite d) (value (stands_in n cs p (Switch d f) d m))) (sym (taken d f (came_lag d) (round_lag d)))
      (elim (cases_Bool (carries_in n cs p d m f)) [
        | inl t ↦ by_origin _ (on d) (opposite d) _ (Protection (opposite d)) (switched-stands n cs p d m f true t) (in_place d f h t)
        | inr t ↦ by_origin _ (on d) (opposite d) _ Ais (switched-stands n cs p d m f false t) (silent_is_fine _ (on d) (opposite d))
      ])

  open_fine : (x : NodeState) (d : Side) → is_open x d ≡ true
      → Fine (Own (arrival_lag x d)) (on d) (opposite d) (value (stands_in n cs p x d m))
  open_fine x d o =
      by_origin _ (on d) (opposite d) _ (Working d) (open-stands n cs p x d m o)
      (subst (λ j. Fine (Own j) (on d) (opposite d) (value (Working d))) (sym (untaken x d (came_lag d) (round_lag d) o))
      (later (working_lag n (opposite d) (on d) (came d) (neighbour n p d)) (on d) (opposite d) (value (Working d)) (working_in_fine d)))

  stands_by : (x : NodeState) → state_after s ≡ x → (d : Side)
      → Fine (Own (arrival_lag x d)) (on d) (opposite d) (value (stands_in n cs p x d m))
  stands_by (state.Isolated i) h d =
      by_origin _ (on d) (opposite d) _ Ais (isolated-stands n cs p d m) (silent_is_fine _ (on d) (opposite d))
  stands_by (state.SwitchWest f) h West = switched_fine West f h
  stands_by (state.SwitchWest f) h East = open_fine (state.SwitchWest f) East refl
  stands_by (state.SwitchEast f) h West = open_fine (state.SwitchEast f) West refl
  stands_by (state.SwitchEast f) h East = switched_fine East f h
  stands_by (state.PassThrough i) h d = open_fine (state.PassThrough i) d refl
  stands_by (state.Idle i) h d = open_fine (state.Idle i) d refl

  -- what stands for the working arrival from side d is fine at a node in this state
  abbrev StandsFine : NodeState → Side → Type 0
  StandsFine x d = Fine (Own (arrival_lag x d)) (on d) (opposite d) (value (stands_in n cs p x d m))

  pub aside_stands : (x : NodeState) → IsAside x → (d : Side) → StandsFine x d
  aside_stands (state.Isolated i) a d =
      by_origin _ (on d) (opposite d) _ Ais (isolated-stands n cs p d m) (silent_is_fine _ (on d) (opposite d))
  aside_stands (state.Idle i) a d = open_fine (state.Idle i) d refl
  aside_stands (state.PassThrough i) a d = absurd a
  aside_stands (state.SwitchWest f) a d = absurd a
  aside_stands (state.SwitchEast f) a d = absurd a

  -- what stands for the working arrival from a side
  pub stands_fine : (d : Side) → StandsFine st d
  stands_fine d = stands_by st refl d

  -- a node that stands aside puts nothing on protection
  pub aside_protection : (x : NodeState) → IsAside x → (i : Lag) (o : Option OnSpan) (d : Side)
      → Fine (Own i) o (opposite d) (value (protection_in n cs p x d m))
  aside_protection (state.Isolated i) a j o d = by_origin j o (opposite d) _ Ais (isolated-leaves n cs p d m) (silent_is_fine j o (opposite d))
  aside_protection (state.Idle i) a j o d = by_origin j o (opposite d) _ Ais (idle-leaves n cs p d m) (silent_is_fine j o (opposite d))
  aside_protection (state.PassThrough i) a j o d = absurd a
  aside_protection (state.SwitchWest f) a j o d = absurd a
  aside_protection (state.SwitchEast f) a j o d = absurd a

  -- ---- what is sent

  module _ (added_own : (i : ℕ) (c : Provisioned) (e : End) → slice_get cs i ≡ Some c → port_at c e ≡ p
      → Own (exactly 0) (Some (port_id i e)) (value (port i e)).au) where
    -- the lag of what leaves in the working slot, beside the word that is sent
    abbrev leaving_lag : Side → Lag
    leaving_lag d = working_lag n d (on d) (source_in ids (word s d)) p

    abbrev WorkingFine : Lag → NodeState → Side → Type 0
    WorkingFine j x d = Fine (Own j) (on d) d (value (working_in n cs p x d m))

    -- lag j fits what a port here puts in, and what goes on here where what stands for its arrival has lag i
    record LeavesWith (i j : Lag) (d : Side) : Type 0 where
      begins : place_on n d (on d) p ≡ 0 → Fits (exactly 0) j
      goes : on (opposite d) ≡ on d → place_on n d (on d) p ≡ place_on n d (on d) (neighbour n p (opposite d)) + 1 → Fits i j

    working_by : (x : NodeState) (d : Side) (i j : Lag) → LeavesWith i j d
        → Fine (Own i) (on (opposite d)) (opposite (opposite d)) (value (stands_in n cs p x (opposite d) m)) → Meets n cs p m d
        → WorkingFine j x d
    working_by x d i j leaves stands (nothing e) =
        by_origin j (on d) d _ Ais (leaves-unused n cs p x d m e) (silent_is_fine j (on d) d)
    working_by x d i j leaves stands (ends index c e h get there) = elim (leaves-own_or_none n cs p x index c (sender d) d m e h) [
      | inl none ↦ by_origin j (on d) d _ Ais none (silent_is_fine j (on d) d)
      | inr own ↦ (
          let start : start_of d (entry index c) ≡ p = starts_there index c d ∙ there in
          let none : place_on n d (on d) p ≡ 0 =
          ap (λ o. place_on n d o p) e ∙ ap (λ q. steps n d q p) start ∙ steps_none n peopled d p inside in
          by_origin j (on d) d _ (port index (sender d)) own
          (fitting (exactly 0) j (leaves.begins none) (on d) d (value (port index (sender d)))
          (subst (λ o. Fine (Own (exactly 0)) o d (value (port index (sender d)))) (sym e)
          (inr (added_own index c (sender d) get there)))))
    ]
    working_by x d i j leaves stands (goes_on index c e h other next) =
        let o = stands_in n cs p x (opposite d) m in
        let one : on (opposite d) ≡ on d = other ∙ sym e in
        let farther : place_on n d (on d) p ≡ place_on n d (on d) (neighbour n p (opposite d)) + 1 =
        subst (λ r. place_on n d r p ≡ place_on n d r (neighbour n p (opposite d)) + 1) (sym e) next in
        by_origin j (on d) d _ o (leaves-on n cs p x index c d m e h)
        (fitting i j (leaves.goes one farther) (on d) d (value o)
        (subst (λ y. Fine (Own i) (on d) y (value o)) (opposite_twice d)
        (subst (λ r. Fine (Own i) r (opposite (opposite d)) (value o)) one stands)))

    -- what a node in any state sends in the working slot is fine, where what stands for its arrival is
    working_from : (x : NodeState) (d : Side) (i j : Lag) → LeavesWith i j d
        → Fine (Own i) (on (opposite d)) (opposite (opposite d)) (value (stands_in n cs p x (opposite d) m)) → WorkingFine j x d
    working_from x d i j leaves stands = working_by x d i j leaves stands (meets n cs ring p m inside d)

    -- where it doesn't matter how far AU-4s lag
    pub working_anyhow : (x : NodeState) (d : Side)
        → Fine (Own (exactly 0)) (on (opposite d)) (opposite (opposite d)) (value (stands_in n cs p x (opposite d) m))
        → WorkingFine (exactly 0) x d
    working_anyhow x d stands =
        working_from x d (exactly 0) (exactly 0) (record { begins = λ none. lag.same refl; goes = λ one farther. lag.same refl }) stands

    -- ---- what goes on here

    slot_goes : (x : NodeState) → state_after s ≡ x → (d : Side) (i j k : Lag) → Fits i k
        → ((f : Option Pos) → state_after s ≡ Switch (opposite d) f → Fits j k) → Fits (by_slot x (opposite d) i j) k
    slot_goes (state.Isolated x) h d i j k fits other = fits
    slot_goes (state.PassThrough x) h d i j k fits other = fits
    slot_goes (state.Idle x) h d i j k fits other = fits
    slot_goes (state.SwitchWest f) h West i j k fits other = fits
    slot_goes (state.SwitchWest f) h East i j k fits other = other f h
    slot_goes (state.SwitchEast f) h West i j k fits other = other f h
    slot_goes (state.SwitchEast f) h East i j k fits other = fits

    module _ (d : Side) (one : on (opposite d) ≡ on d) (farther : place_on n d (on d) p ≡ place_on n d (on d) (neighbour n p (opposite d)) + 1) where
      abbrev behind : ℕ
      behind = neighbour n p (opposite d)

      -- the lag of what comes from the neighbour behind
      came_there : came_lag (opposite d) ≡ next_lag (working_lag n d (on d) (came (opposite d)) behind)
      came_there = (λ i. next_lag (working_lag n (opposite_twice d i) (one i) (came (opposite d)) behind))

      round_there : round_lag (opposite d) ≡ or_round n (place_on n d (on d) p)
      round_there = (λ i. or_round n (place_on n (opposite_twice d i) (one i) behind + 1)) ∙ ap (or_round n) (sym farther)

      -- it has gone round once at most
      came_round : Fits (came_lag (opposite d)) (or_round n (place_on n d (on d) p))
      came_round =
          subst (λ i. Fits i (or_round n (place_on n d (on d) p))) (sym came_there)
          (subst (λ spans. Fits (next_lag (working_lag n d (on d) (came (opposite d)) behind)) (or_round n spans)) (sym farther)
          (next_fits (working_lag n d (on d) (came (opposite d)) behind) (or_round n (place_on n d (on d) behind))
          (working_fits n d (on d) (came (opposite d)) behind)))

      -- it has gone round only where the word says so that is sent
      goes_by : (g : Pos) → Sourced s p ids same at are inside d g → Fits (came_lag (opposite d)) (working_lag n d (on d) (Some g) p)
      goes_by g (saying.here is) =
          subst (Fits (came_lag (opposite d)))
          (sym (lag_behind n d (on d) g p (let same_place = ap (place_on n d (on d)) is in omega arith))) came_round
      goes_by g (saying.passed k h from) =
          subst (λ i. Fits i (working_lag n d (on d) (Some g) p))
          (sym (came_there ∙ ap (λ o. next_lag (working_lag n d (on d) o behind)) (heard (opposite d) k h ∙ from)))
          (lag_on n d (on d) g p behind farther)

      goes_with : (o : Option Pos) → source_in ids (word s d) ≡ o → Fits (came_lag (opposite d)) (working_lag n d (on d) o p)
      goes_with None h = came_round
      goes_with (Some g) h = goes_by g (saying.sourced s p ids same at are inside d g h)

      -- a node that is switched on a side says so the other way, with its own word
      goes_switched : (f : Option Pos) → state_after s ≡ Switch (opposite d) f → round_lag (opposite d) ≡ leaving_lag d
      goes_switched f h =
          round_there ∙ sym (ap (λ g. working_lag n d (on d) g p) (switched_source s p ids same at are inside d f h)
          ∙ lag_behind n d (on d) (position_of p) p (omega arith))

      goes_out : (x : NodeState) → state_after s ≡ x → Fits (arrival_lag x (opposite d)) (leaving_lag d)
      goes_out x h =
          slot_goes x h d (came_lag (opposite d)) (round_lag (opposite d)) (leaving_lag d) (goes_with (source_in ids (word s d)) refl)
          (λ f switched. lag.same (goes_switched f switched))

    leaves_with : (d : Side) → LeavesWith (arrival_lag st (opposite d)) (leaving_lag d) d
    leaves_with d = record {
      begins = λ none. subst (λ spans. Fits (exactly spans) (leaving_lag d)) none (straight_fits n d (on d) (source_in ids (word s d)) p);
      goes = λ one farther. goes_out d one farther st refl;
    }

    -- what leaves in the working slot
    pub working_fine : (d : Side) → WorkingFine (leaving_lag d) st d
    working_fine d = working_from st d (arrival_lag st (opposite d)) (leaving_lag d) (leaves_with d) (stands_fine (opposite d))

    -- the lag of what leaves in the protection slot, beside the word that is sent
    abbrev pub beside_lag : Side → Lag
    beside_lag d = spoken_lag ids cs m (opposite d) (word s d) p

    -- the own long word speaks of the circuit on the span of the switched side
    own_source : (e : Side) (f : Option Pos) → state_after s ≡ Switch e f → source_in ids (word s (opposite e)) ≡ Some (position_of p)
    own_source e f h = switched_source s p ids same at are inside (opposite e) f (h ∙ ap (λ d. Switch d f) (sym (opposite_twice e)))

    own_speaks : (e : Side) (f : Option Pos) → state_after s ≡ Switch e f → spoken_of ids cs m e (word s (opposite e)) ≡ on e
    own_speaks e f h = ap (circuit_on_side ids cs m e) (own_source e f h)

    other_open : (e : Side) (f : Option Pos) → is_open (Switch e f) (opposite e) ≡ true
    other_open West f = refl
    other_open East f = refl

    -- what a switched node puts on protection has come straight: its far end is ahead, and that is where the word has its
    -- source that came with what stands for the arrival
    straight_on : (e : Side) (f : Option Pos) → state_after s ≡ Switch e f → carries_in n cs p e m f ≡ true
        → on (opposite e) ≡ on e → place_on n e (on e) p ≡ place_on n e (on e) (neighbour n p (opposite e)) + 1
        → arrival_lag (Switch e f) (opposite e) ≡ exactly (place_on n e (on e) p)
    straight_on e None h t one next = absurd (no (sym (no_far n cs p e m) ∙ t))
      where
        no : false ≡ true → ⊥
        no z = cc
    straight_on e (Some f) h t one next =
        let is = far_from s e f (sym (switched_one s e (Some f) h).end) in
        let low : f.0 < n = subst (λ i. f.0 < length i) same is.inside in
        let q = neighbour n p (opposite e) in
        let ahead = (is_ahead e f low t).ahead in
        untaken (Switch e (Some f)) (opposite e) (came_lag (opposite e)) (round_lag (opposite e)) (other_open e (Some f))
        ∙ came_there e one next
        ∙ ap (λ o. next_lag (working_lag n e (on e) o q))
        (heard (opposite e) is.k is.heard ∙ heard_source (opposite e) is.k f is.heard is.found)
        ∙ ap next_lag (lag_ahead n e (on e) f q (omega arith)) ∙ ap exactly (sym next)

    bridged_with : (e : Side) (f : Option Pos) → state_after s ≡ Switch e f → carries_in n cs p e m f ≡ true
        → LeavesWith (arrival_lag (Switch e f) (opposite e)) (exactly (place_on n e (on e) p)) e
    bridged_with e f h t = record {
      begins = λ none. lag.same (ap exactly (sym none));
      goes = λ one next. lag.same (straight_on e f h t one next);
    }

    bridged_fine : (e : Side) (f : Option Pos) → state_after s ≡ Switch e f
        → Fine (Own (spoken_lag ids cs m e (word s (opposite e)) p)) (spoken_of ids cs m e (word s (opposite e))) e
        (value (protection_in n cs p (Switch e f) (opposite e) m))
    bridged_fine e f h = elim (cases_Bool (carries_in n cs p e m f)) [
      | inl t ↦ (
          let x = working_in n cs p (Switch e f) e m in
          let none : steps n (opposite e) p p ≡ 0 = steps_none n peopled (opposite e) p inside in
          let here : exactly (place_on n e (on e) p) ≡ exactly (protection_rounds n e (on e) (Some (position_of p)) p) =
          ap exactly (omega arith) in
          let lag : exactly (protection_rounds n e (on e) (Some (position_of p)) p) ≡ spoken_lag ids cs m e (word s (opposite e)) p =
          sym (λ k. exactly (protection_rounds n e (own_speaks e f h k) (own_source e f h k) p)) in
          by_origin _ _ e _ x (bridged-leaves n cs p e m f t)
          (subst (λ o. Fine (Own (spoken_lag ids cs m e (word s (opposite e)) p)) o e (value x)) (sym (own_speaks e f h))
          (subst (λ j. Fine (Own j) (on e) e (value x)) (here ∙ lag)
          (working_from (Switch e f) e (arrival_lag (Switch e f) (opposite e)) (exactly (place_on n e (on e) p)) (bridged_with e f h t)
          (stands_by (Switch e f) h (opposite e))))))
      | inr t ↦ by_origin _ _ e _ Ais (blocked-leaves n cs p e m f t) (silent_is_fine _ _ e)
    ]

    -- a relayed word has come a span farther from its source
    relayed_lag : (d : Side) (k : K) → relayed s d ≡ Some k
        → spoken_lag ids cs m (opposite d) k p ≡ next_lag (spoken_lag ids cs m (opposite d) k (neighbour n p (opposite d)))
    relayed_lag d k r =
        let is = relayed_from s d k r in
        let e = opposite d in
        let back : opposite e ≡ d = opposite_twice d in
        let member = sourced e k is.is_long in
        let g = member.0 in
        let from : found_at ids k.from ≡ Some (position_of g) = ap (found_at ids) (sym member.2) ∙ found ids g are member.1 in
        let source : source_in ids k ≡ Some (position_of g) =
        ap (option_and_then (λ (k : K). found_at ids k.from)) (heard_is_long s e k is.is_long) ∙ from in
        let own : own_id s ≡ slice_index ids p = λ i. slice_index (same i) (at i) in
        let other : g ≢ p = λ z. is.foreign (sym member.2 ∙ ap (slice_index ids) z ∙ sym own) in
        let next : steps n (opposite e) g p ≡ steps n (opposite e) g (neighbour n p e) + 1 =
        subst (λ y. steps n y g p ≡ steps n y g (neighbour n p e) + 1) (sym back) (steps_next n peopled d g p member.1 inside other) in
        ap exactly (ap (λ o. protection_rounds n e (spoken_of ids cs m e k) o p) source
        ∙ (let z : protection_rounds n e (spoken_of ids cs m e k) (Some (position_of g)) p
        ≡ protection_rounds n e (spoken_of ids cs m e k) (Some (position_of g)) (neighbour n p e) + 1 = omega arith in z)
        ∙ ap (λ o. protection_rounds n e (spoken_of ids cs m e k) o (neighbour n p e) + 1) (sym source))

    passed_fine : (d : Side) → state_after s ≡ state.PassThrough tt
        → Fine (Own (beside_lag d)) (spoken_of ids cs m (opposite d) (word s d)) (opposite d)
        (value (protection_in n cs p (state.PassThrough tt) d m))
    passed_fine d h =
        let r = relays s d (passes_relays s d h) in
        let e = opposite d in
        let from : protection_in n cs p (state.PassThrough tt) d m ≡ Protection e =
        ap (λ x. protection_in n cs p (state.PassThrough tt) x m) (sym (opposite_twice d)) ∙ passed-leaves n cs p e m in
        by_origin _ _ e _ (Protection e) from
        (subst (λ k. Fine (Own (spoken_lag ids cs m e k p)) (spoken_of ids cs m e k) e (value (Protection e))) (sym r.says)
        (subst (λ i. Fine (Own i) (spoken_of ids cs m e r.k) e (value (Protection e))) (sym (relayed_lag d r.k r.relayed_is))
        (later (spoken_lag ids cs m e r.k (neighbour n p e)) (spoken_of ids cs m e r.k) e (value (Protection e))
        (protection_in_fine e r.k r.heard))))

    protection_by : (x : NodeState) → state_after s ≡ x → (d : Side)
        → Fine (Own (beside_lag d)) (spoken_of ids cs m (opposite d) (word s d)) (opposite d) (value (protection_in n cs p x d m))
    protection_by (state.Isolated i) h d = by_origin _ _ (opposite d) _ Ais (isolated-leaves n cs p d m) (silent_is_fine _ _ (opposite d))
    protection_by (state.Idle i) h d = by_origin _ _ (opposite d) _ Ais (idle-leaves n cs p d m) (silent_is_fine _ _ (opposite d))
    protection_by (state.PassThrough i) h d = passed_fine d h
    protection_by (state.SwitchWest f) h West = by_origin _ _ East _ Ais (away-leaves n cs p West m f) (silent_is_fine _ _ East)
    protection_by (state.SwitchWest f) h East = bridged_fine West f h
    protection_by (state.SwitchEast f) h West = bridged_fine East f h
    protection_by (state.SwitchEast f) h East = by_origin _ _ West _ Ais (away-leaves n cs p East m f) (silent_is_fine _ _ West)

    -- what leaves in the protection slot, beside the word that is sent
    pub protection_fine : (d : Side) → Fine (Own (beside_lag d)) (spoken_of ids cs m (opposite d) (word s d)) (opposite d)
        (value (protection_in n cs p st d m))
    protection_fine d = protection_by st refl d

-- ---- a port

module _ (n : ℕ) (cs : List Provisioned) (ring : AreOnRing n cs) (i : ℕ) (c : Provisioned) (get : slice_get cs i ≡ Some c) where
  plenty : 0 < n
  plenty = let h = (ring.inside i c get).0 in omega arith

  -- a circuit's port is where its stream starts
  pub starts_at : (e : End) → port_at c e ≡ going n (inward e) (near_at n c (inward e)) 0
  starts_at A = sym (going-none n plenty East c.from.0 (ring.inside i c get).0)
  starts_at B =
      arc-end n cs ring i c get ∙ sym (going-none n plenty West (near_at n c West) (going-inside n plenty East c.from.0 (arc_length n c)))

  -- at its port a circuit is on the span of the port's side
  pub at_port : (e : End) → circuits_at n cs (port_at c e) c.slot.0 (inward e) ≡ Some (entry i c)
  at_port e =
      let seen = seen-on n cs ring i c get (inward e) in
      ap (λ q. circuits_at n cs q c.slot.0 (inward e)) (starts_at e) ∙ seen.on_arc 0 seen.long

  far_is : (e : End) → other_end (near_end (opposite (inward e))) ≡ e
  far_is A = refl
  far_is B = refl

  -- what comes to a port has come over all spans of the arc
  pub last_place : (e : End) → place_on n (opposite (inward e)) (Some (entry i c)) (neighbour n (port_at c e) (inward e)) + 1
      ≡ arc_length n c
  last_place e =
      let d = opposite (inward e) in
      let b = near_at n c d in
      let seen = seen-on n cs ring i c get d in
      let long = seen.long in
      let short = seen.short in
      let last : suc (arc_length n c - 1) ≡ arc_length n c = omega arith in
      let there : port_at c e ≡ going n d b (suc (arc_length n c - 1)) =
      ap (port_at c) (sym (far_is e)) ∙ seen.distant_at ∙ ap (going n d b) (sym last) in
      let low = near_inside n cs ring i c get d in
      let before : neighbour n (port_at c e) (inward e) ≡ going n d b (arc_length n c - 1) =
      (λ k. neighbour n (there k) (sym (opposite_twice (inward e)) k)) ∙ going-back n plenty d b (arc_length n c - 1) in
      let place : place_on n d (Some (entry i c)) (neighbour n (port_at c e) (inward e)) ≡ arc_length n c - 1 =
      (λ k. steps n d (starts_near n cs ring i c get d k) (before k)) ∙ steps_going n plenty d b (arc_length n c - 1) low (omega arith) in
      omega arith

-- the stream that comes from there is the other port's
pub sent_to : (e : End) → sender (opposite (inward e)) ≡ other_end e
sent_to A = refl
sent_to B = refl
