-- The parts of a way through the ring, seen from the end to which they lead.
use Rattle.std.proofs.lemmas.Bool.{cases_lt, le-leb, lt-leb, lt-ltb, le-ltb}
use Rattle.std.specs.Prelude.{nat_lt, nat_le}
use Rattle.std.proofs.Common.{inl, inr, ◌≡◌, ℕ, ◌+◌, ◌-◌, ◌<◌, ◌≤◌, suc, zero, true, false, List, ap, sym, ◌∙◌, subst, arith}
use Rattle.sdh_bridge.specs.declared.Origin.TheVariants.{Protection, Working}
use Rattle.sdh_circuits.specs.Provisioned.{Provisioned}
use Rattle.sdh_circuits.specs.declared.End.{End}
use Rattle.sdh_ringmap.specs.Places.{eastwards, neighbour, opposite}
use Rattle.sdh_ringmap.specs.declared.Side.{Side}
use Rattle.sdh_ringmap.specs.declared.Side.TheVariants.{East, West}
use Rattle.sdh_ringmap.proofs.Going.{going-back, going-next, way-behind, way-round}
use Rattle.sdh_ringmap.proofs.Sides.{opposite_twice}
use Rattle.sdh_signal.proofs.Passing.{leaves-on, leaves-own, open-stands, passed-leaves, settled-open}
use Rattle.sdh_signal.specs.Law.{is_open}
use Rattle.sdh_signal.proofs.Seen.{Seen}
use Rattle.sdh_signal.proofs.States.{IsAnyApplied, Resting, on, state-between}
use Rattle.sdh_signal.proofs.Views.{PassThrough, arc_length, is_in_chain, passes}
use Rattle.sdh_ringmap.specs.Steps.{going}
use Rattle.sdh_signal.specs.Walks.{Leads, Stand, back_from, delivery, port, protection_in, stand, stands_in, working_in}
use Rattle.sdh_circuits.specs.Ends.{inward}

lt_next : (a b : ℕ) → nat_lt a (b + 1) ≡ nat_le a b
lt_next a b = elim (cases_lt b a) [
  | inl above ↦ le-ltb _ _ (omega arith) ∙ sym (lt-leb a b above)
  | inr below ↦ lt-ltb _ _ (omega arith) ∙ sym (le-leb a b below)
]

-- the chain of a node that switches d reaches from its far end, on side d, up to the node
pub chain_passes : (n : ℕ) (d : Side) (p f q : ℕ) → is_in_chain n d p f q ≡ passes n d f p q
chain_passes n East p f q = lt_next (eastwards n f q) (eastwards n f p)
chain_passes n West p f q = lt_next (eastwards n p q) (eastwards n p f)

-- the chain of a node that switches the other side: from the node, on side d, up to its far end
pub chain_ahead : (n : ℕ) (d : Side) (p f q : ℕ) → is_in_chain n (opposite d) p f q ≡ passes n d p f q
chain_ahead n East p f q = lt_next (eastwards n p q) (eastwards n p f)
chain_ahead n West p f q = lt_next (eastwards n f q) (eastwards n f p)

module _ (n : ℕ) (r : Resting n) (cs : List Provisioned) where
  pub leads-on : (m j k : ℕ) (x y z : Stand) → Leads n r.state cs m j x y → Leads n r.state cs m k y z → Leads n r.state cs m (j + k) x z
  leads-on m zero k x y z a b =
      subst (λ i. Leads n r.state cs m i x z) {x = k} (omega arith) (subst (λ s. Leads n r.state cs m k s z) (sym a) b)
  leads-on m (suc j) k x y z a b = subst (λ i. Leads n r.state cs m i x z) {x = suc (j + k)} (omega arith) (a.0, leads-on m j k _ y z a.1 b)

  module _ (some : 0 < n) (d : Side) (p : ℕ) where
    -- the span of step i is free
    abbrev pub IsFree : ℕ → Type 0
    IsFree i = on n r some d p i ≡ false

    abbrev pub IsHit : ℕ → Type 0
    IsHit i = on n r some d p i ≡ true

    pub on-round : (i : ℕ) → on n r some d p (i + n) ≡ on n r some d p i
    on-round i = ap r.applied (way-round n some d p i)

    -- a node's protection slot m towards the side behind
    abbrev pub bridge : ℕ → ℕ → Stand
    bridge m q = stand q (protection_in n cs q (r.state q) (opposite d) m)

    -- a node's working slot m towards the side ahead
    abbrev pub sending : ℕ → ℕ → Stand
    sending m q = stand q (working_in n cs q (r.state q) d m)

    -- what the working slot m from behind stands for at a node
    abbrev pub taking : ℕ → ℕ → Stand
    taking m q = stand q (stands_in n cs q (r.state q) (opposite d) m)

    -- the protection slot of a node that passes through comes from the node ahead
    pub passed-on : (m i : ℕ) → r.state (going n d p (suc i)) ≡ PassThrough
        → bridge m (neighbour n (going n d p i) d) ≡ stand (going n d p (suc i)) (Protection d)
    passed-on m i here =
        ap (bridge m) (going-next n some d p i)
        ∙ ap (stand (going n d p (suc i))) (ap (λ st. protection_in n cs (going n d p (suc i)) st (opposite d) m) here
        ∙ passed-leaves n cs (going n d p (suc i)) d m)

    -- a protection slot is followed ahead past nodes that pass through
    pub past : (m k i : ℕ) → ((j : ℕ) → i < j → j ≤ i + k → r.state (going n d p j) ≡ PassThrough)
        → Leads n r.state cs m (suc k) (stand (going n d p i) (Protection d)) (bridge m (going n d p (suc (i + k))))
    past m zero i through = (tt, ap (bridge m) (going-next n some d p i ∙ ap (going n d p) (omega arith)))
    past m (suc k) i through =
        let rest : Leads n r.state cs m (suc k) (stand (going n d p (suc i)) (Protection d)) (bridge m (going n d p (suc (i + suc k)))) =
        subst (λ j. Leads n r.state cs m (suc k) (stand (going n d p (suc i)) (Protection d))
        (bridge m (going n d p (suc j)))) {x = suc i + k} (omega arith)
        (past m k (suc i) (λ j h g. through j (omega arith) (omega arith))) in (
          tt,
          subst (λ s. Leads n r.state cs m (suc k) s (bridge m (going n d p (suc (i + suc k)))))
              (sym (passed-on m i (through (suc i) (omega arith) (omega arith)))) rest,
        )

    -- whether the nodes between free spans pass through
    pub between : (k i : ℕ) → IsAnyApplied n r → ((j : ℕ) → i ≤ j → j ≤ i + k → IsFree j) → (j : ℕ) → i < j → j ≤ i + k
        → r.state (going n d p j) ≡ PassThrough
    between k i any free j h g =
        let before : suc (j - 1) ≡ j = omega arith in
        ap (λ x. r.state (going n d p x)) (sym before)
        ∙ state-between n r some d p (j - 1) any (ap (on n r some d p) before ∙ free j (omega arith) g)
        (free (j - 1) (omega arith) (omega arith))

    -- a protection slot is followed ahead over free spans, where some span of the ring is applied
    pub passing : (m k i : ℕ) → IsAnyApplied n r → ((j : ℕ) → i ≤ j → j ≤ i + k → IsFree j)
        → Leads n r.state cs m (suc k) (stand (going n d p i) (Protection d)) (bridge m (going n d p (suc (i + k))))
    passing m k i any free = past m k i (between k i any free)

    -- over a free span the working slot from behind stands for what arrives
    pub arrives : (m i : ℕ) → IsFree i → taking m (going n d p (suc i)) ≡ stand (going n d p (suc i)) (Working (opposite d))
    arrives m i free =
        let q = going n d p (suc i) in
        ap (stand q) (open-stands n cs q (r.state q) (opposite d) m
        (settled-open n r (opposite d) q (ap r.applied (way-behind n some d p i) ∙ free)))

    -- what arrives there was sent by the node behind
    pub sent-behind : (m i : ℕ) → back_from n r.state cs m (going n d p (suc i)) (Working (opposite d)) ≡ sending m (going n d p i)
    sent-behind m i =
        ap (λ x. stand x (working_in n cs x (r.state x) (opposite (opposite d)) m)) (going-back n some d p i)
        ∙ ap (λ e. stand (going n d p i) (working_in n cs (going n d p i) (r.state (going n d p i)) e m)) (opposite_twice d)

    -- a walk from the working slot behind goes on over a free span
    pub over_free : (m i k : ℕ) (z : Stand) → IsFree i → Leads n r.state cs m k (sending m (going n d p i)) z
        → Leads n r.state cs m (suc k) (taking m (going n d p (suc i))) z
    over_free m i k z free rest =
        subst (λ s. Leads n r.state cs m (suc k) s z) (sym (arrives m i free))
        (tt, subst (λ s. Leads n r.state cs m k s z) (sym (sent-behind m i)) rest)

    module _ (index : ℕ) (c : Provisioned) (near distant : End) (seen : Seen n cs index c d p near distant) where
      -- between its ends a circuit goes through
      pub through : (i : ℕ) → 0 < i → i < (arc_length n c) → sending c.slot.0 (going n d p i) ≡ taking c.slot.0 (going n d p i)
      through i h g =
          ap (stand (going n d p i)) (leaves-on n cs (going n d p i) (r.state (going n d p i)) index c d c.slot.0 (seen.on_arc i g)
          (seen.passes_by i h g))

      abbrev pub own : Stand
      own = stand (going n d p 0) (port index near)

      -- a working slot is followed over k free spans back to the circuit's end
      pub home : (k : ℕ) (y : Side) → k < (arc_length n c) → ((j : ℕ) → j < k → IsFree j) → is_open (r.state (going n d p k)) y ≡ true
          → Leads n r.state cs c.slot.0 k (sending c.slot.0 (going n d p k)) own
      home zero y h free o =
          ap (stand (going n d p 0)) (leaves-own n cs (going n d p 0) (r.state (going n d p 0)) index c near y d c.slot.0
          (seen.on_arc 0 h) o seen.starts)
      home (suc k) y h free o =
          subst (λ s. Leads n r.state cs c.slot.0 (suc k) s own) (sym (through (suc k) (omega arith) h))
          (over_free c.slot.0 k k own (free k (omega arith))
          (home k d (omega arith) (λ j g. free j (omega arith)) (settled-open n r d (going n d p k) (free k (omega arith)))))

      -- over free spans of the arc back to an inner position
      pub along : (k i j : ℕ) (z : Stand) → 0 < i → i + k ≤ (arc_length n c) → ((x : ℕ) → i ≤ x → x < i + k → IsFree x)
          → Leads n r.state cs c.slot.0 j (taking c.slot.0 (going n d p i)) z
          → Leads n r.state cs c.slot.0 (k + j) (taking c.slot.0 (going n d p (i + k))) z
      along zero i j z h g free rest =
          subst (λ x. Leads n r.state cs c.slot.0 x (taking c.slot.0 (going n d p (i + 0))) z) {x = j} (omega arith)
          (subst (λ x. Leads n r.state cs c.slot.0 j (taking c.slot.0 (going n d p x)) z) {x = i} (omega arith) rest)
      along (suc k) i j z h g free rest =
          let inner = along k i j z h (omega arith) (λ x a b. free x a (omega arith)) rest in
          let sent : Leads n r.state cs c.slot.0 (k + j) (sending c.slot.0 (going n d p (i + k))) z =
          subst (λ s. Leads n r.state cs c.slot.0 (k + j) s z) (sym (through (i + k) (omega arith) (omega arith))) inner in
          let all : Leads n r.state cs c.slot.0 (suc (k + j)) (taking c.slot.0 (going n d p (suc (i + k)))) z =
          over_free c.slot.0 (i + k) (k + j) z (free (i + k) (omega arith) (omega arith)) sent in
          subst (λ x. Leads n r.state cs c.slot.0 x (taking c.slot.0 (going n d p (i + suc k))) z) {x = suc (k + j)} (omega arith)
          (subst (λ x. Leads n r.state cs c.slot.0 (suc (k + j)) (taking c.slot.0 (going n d p x)) z) {x = suc (i + k)} (omega arith) all)

      -- what the distant port delivers
      pub delivered : delivery n r.state cs c distant ≡ taking c.slot.0 (going n d p (arc_length n c))
      unfolding delivery
      delivered = ap (λ q. stand q (stands_in n cs q (r.state q) (inward distant) c.slot.0)) seen.distant_at
          ∙ ap (λ s. stand (going n d p (arc_length n c)) (stands_in n cs (going n d p (arc_length n c))
          (r.state (going n d p (arc_length n c))) s c.slot.0)) seen.distant_faces

      -- the arc is free
      pub unswitched : ((j : ℕ) → j < (arc_length n c) → IsFree j)
          → Leads n r.state cs c.slot.0 (arc_length n c) (delivery n r.state cs c distant) own
      unswitched free =
          let last = (arc_length n c) - 1 in
          let long = seen.long in
          let at_last : IsFree last = free last (omega arith) in
          let way_home = home last d (omega arith) (λ j h. free j (omega arith)) (settled-open n r d (going n d p last) at_last) in
          let one : suc last ≡ (arc_length n c) = omega arith in
          subst (λ s. Leads n r.state cs c.slot.0 (arc_length n c) s own) (sym delivered)
          (subst (λ x. Leads n r.state cs c.slot.0 x (taking c.slot.0 (going n d p x)) own) one
          (over_free c.slot.0 last last own at_last way_home))
