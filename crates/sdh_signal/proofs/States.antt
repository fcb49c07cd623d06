-- Nodes at rest: what is used of the settled states of a ring.
use Rattle.std.proofs.Common.{◌≡◌, ℕ, ◌+◌, ◌-◌, ◌<◌, ◌≤◌, ◌⊎◌, suc, Bool, true, false, Option, ap, ◌∙◌, arith, ap₂}
use Rattle.sdh_nodestate.specs.declared.NodeState.{NodeState}
use Rattle.sdh_ringmap.specs.Places.{opposite, span_at}
use Rattle.sdh_ringmap.specs.declared.Pos.{Pos}
use Rattle.sdh_ringmap.specs.declared.Side.{Side}
use Rattle.sdh_ringmap.proofs.Going.{going-add, going-inside, mirror, mirror-way, way-behind, way-inside}
use Rattle.sdh_signal.proofs.Views.{Idle, Isolated, PassThrough, Switch, far_at, side_state}
use Rattle.sdh_signal.specs.Law.{is_pass}
use Rattle.sdh_ringmap.specs.Steps.{going, way}

-- a ring of n whose nodes are at rest
pub record Resting (n : ℕ) : Type 0 where
  -- the applied spans, and the state of each node
  pub applied : ℕ → Bool
  pub state : ℕ → NodeState
  -- the first position, on a side of one, whose next span there is applied
  pub far : Side → ℕ → Option Pos
  pub far_first : (d : Side) (q k : ℕ) → q < n → 0 < k → k < n → ((j : ℕ) → j < k → applied (way n d q j) ≡ false)
      → applied (way n d q k) ≡ true → far d q ≡ far_at (going n d q k)
  -- the state of a node whose spans are both free
  pub rest : ℕ → NodeState
  pub by_sides : (d : Side) (q : ℕ) → state q ≡ side_state d (applied (span_at n q d)) (applied (span_at n q (opposite d))) (far d q)
      (far (opposite d) q) (rest q)
  pub passing : (q s : ℕ) → s < n → applied s ≡ true → rest q ≡ PassThrough
  pub either : (q : ℕ) → (rest q ≡ PassThrough) ⊎ (rest q ≡ Idle)
  -- a span whose two nodes don't pass through
  pub top : ℕ
  pub top_inside : top < n
  pub top_stops : (d : Side) (q : ℕ) → span_at n q d ≡ top → is_pass (state q) ≡ false

-- some span of the ring is applied
pub record IsAnyApplied (n : ℕ) (r : Resting n) : Type 0 where
  pub span : ℕ
  pub inside : span < n
  pub applied : r.applied span ≡ true

module _ (n : ℕ) (r : Resting n) where
  -- the state of q by its spans, where it is known whether they are applied
  pub state-by : (d : Side) (q : ℕ) (a b : Bool) → r.applied (span_at n q d) ≡ a → r.applied (span_at n q (opposite d)) ≡ b
      → r.state q ≡ side_state d a b (r.far d q) (r.far (opposite d) q) (r.rest q)
  state-by d q a b e h = r.by_sides d q ∙ ap₂ (λ a b. side_state d a b (r.far d q) (r.far (opposite d) q) (r.rest q)) e h

  module _ (some : 0 < n) (d : Side) (p : ℕ) where
    -- the span of step i is applied
    abbrev pub on : ℕ → Bool
    on i = r.applied (way n d p i)

    pub any-applied : (i : ℕ) → on i ≡ true → IsAnyApplied n r
    any-applied i e = record { span = way n d p i; inside = way-inside n some d p i; applied = e }

    way_from : (i j : ℕ) → way n d (going n d p i) j ≡ way n d p (i + j)
    way_from i j = ap (λ q. span_at n q d) (going-add n some d p i j)

    -- the first applied span ahead
    pub far-ahead : (k i : ℕ) → 0 < k → k < n → ((j : ℕ) → j < k → on (i + j) ≡ false) → on (i + k) ≡ true
        → r.far d (going n d p i) ≡ far_at (going n d p (i + k))
    far-ahead k i some_way h free hit =
        r.far_first d (going n d p i) k (going-inside n some d p i) some_way h
        (λ j g. ap r.applied (way_from i j) ∙ free j g) (ap r.applied (way_from i k) ∙ hit)
        ∙ ap far_at (going-add n some d p i k)

    -- the first applied span behind
    pub far-behind : (k i : ℕ) → 0 < k → k < n → ((j : ℕ) → i < j → j ≤ i + k → on j ≡ false) → on i ≡ true
        → r.far (opposite d) (going n d p (suc (i + k))) ≡ far_at (going n d p (suc i))
    far-behind k i some_way h free hit =
        r.far_first (opposite d) (going n d p (suc (i + k))) k (going-inside n some d p (suc (i + k))) some_way h
        (λ j g. ap r.applied (mirror-way n some d p j (i + k - j) (suc (i + k)) (omega arith))
        ∙ free (i + k - j) (omega arith) (omega arith))
        (ap r.applied (mirror-way n some d p k i (suc (i + k)) (omega arith)) ∙ hit)
        ∙ ap far_at (mirror n some d p k (suc i) (suc (i + k)) (omega arith))

    -- the state after i + 1 steps, by the spans ahead and behind
    pub state-at : (i : ℕ) (x y : Bool) → on (suc i) ≡ x → on i ≡ y → r.state (going n d p (suc i)) ≡ side_state d x y
        (r.far d (going n d p (suc i))) (r.far (opposite d) (going n d p (suc i))) (r.rest (going n d p (suc i)))
    state-at i x y e h = state-by d (going n d p (suc i)) x y e (ap r.applied (way-behind n some d p i) ∙ h)

    pub state-isolated : (i : ℕ) → on (suc i) ≡ true → on i ≡ true → r.state (going n d p (suc i)) ≡ Isolated
    state-isolated i e h = state-at i true true e h

    -- the span behind is applied, k spans ahead are free, and the next is applied
    pub state-behind : (i k : ℕ) → 0 < k → k < n → on i ≡ true → ((j : ℕ) → j < k → on (suc i + j) ≡ false) → on (suc i + k) ≡ true
        → r.state (going n d p (suc i)) ≡ Switch (opposite d) (far_at (going n d p (suc i + k)))
    state-behind i k hk hn e free hit =
        state-at i false true (ap on (omega arith) ∙ free 0 hk) e ∙ ap (Switch (opposite d)) (far-ahead k (suc i) hk hn free hit)

    -- the span ahead is applied, k spans behind are free, and the one behind these is applied
    pub state-ahead : (i k : ℕ) → 0 < k → k < n → on i ≡ true → ((j : ℕ) → i < j → j ≤ i + k → on j ≡ false) → on (suc (i + k)) ≡ true
        → r.state (going n d p (suc (i + k))) ≡ Switch d (far_at (going n d p (suc i)))
    state-ahead i k hk hn e free hit =
        state-at (i + k) true false hit (free (i + k) (omega arith) (omega arith)) ∙ ap (Switch d) (far-behind k i hk hn free e)

    -- both spans are free and another is applied
    pub state-between : (i : ℕ) → IsAnyApplied n r → on (suc i) ≡ false → on i ≡ false → r.state (going n d p (suc i)) ≡ PassThrough
    state-between i any e h = state-at i false false e h ∙ r.passing (going n d p (suc i)) any.span any.inside any.applied
