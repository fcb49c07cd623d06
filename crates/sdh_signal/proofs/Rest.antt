-- The settled states of a ring are nodes at rest.
use Rattle.std.proofs.Common.{◌≡◌, ◌⊎◌, inl, inr, ℕ, suc, ◌-◌, ◌<◌, List, [], ◌∷◌, length, Bool, true, false, Option, Some, None, refl, ap}
use Rattle.std.proofs.Common.{◌∙◌, arith}
use Rattle.std.specs.Prelude.{◌&&◌, ◌||◌, ◌==◌, nat_le, nat_lt, if◌then◌else◌, option_map, slice_index}
use Rattle.std.specs.List.{find, list_any}
use Rattle.std.proofs.lemmas.Bool.{cases_Bool, or_cases, eq-eqb, le-ltb}
use Rattle.std.proofs.lemmas.List.Folds.{list_any_at}
use Rattle.sdh_ringmap.specs.Places.{opposite, span_at, position_of}
use Rattle.sdh_ringmap.specs.declared.Pos.{Pos}
use Rattle.sdh_ringmap.specs.declared.Side.{Side}
use Rattle.sdh_ringmap.specs.declared.Side.TheVariants.{West, East}
use Rattle.sdh_nodestate.specs.declared.NodeState.{NodeState}
use Rattle.sdh_restoration.specs.Applied.{highest, has_one_leader, applies, is_applied, is_any_applied}
use Rattle.sdh_signal.specs.Settled.{next_positions, far_end, is_outranked, settled_by, settled}
use Rattle.sdh_ringmap.specs.Steps.{going, way}
use Rattle.sdh_signal.proofs.FarEnds.{first_position}
use Rattle.sdh_restoration.proofs.Highest.{IsTop, top_of}
use Rattle.sdh_signal.specs.Law.{is_pass}
use Rattle.sdh_signal.proofs.Views.{PassThrough, Idle, far_at, side_state}
use Rattle.sdh_signal.proofs.States.{Resting}

-- where some span is applied, one with the highest request is
applied_by : (a b c x : Bool) (h r : ℕ) → (if a then b else x && (r == h)) ≡ true → c ≡ a → (if a then c else x && (h == h)) ≡ true
applied_by true b c x h r e g = g
applied_by false b c true h r e g = eq-eqb h h refl
applied_by false b c false h r e g = cc

applies-top : (rs : List ℕ) (r : ℕ) → applies rs r ≡ true → applies rs (highest rs) ≡ true
unfolding applies
applies-top rs r e =
    applied_by (nat_le 11 (highest rs)) (nat_le 11 r) (nat_le 11 (highest rs)) (nat_lt 0 (highest rs) && has_one_leader rs)
    (highest rs) r e refl

any_top : (rs xs : List ℕ) → list_any (applies rs) xs ≡ true → applies rs (highest rs) ≡ true
any_top rs [] e = cc
any_top rs (x ∷ xs) e = elim (or_cases (applies rs x) (list_any
    (applies rs) xs) e) [ inl here ↦ applies-top rs x here | inr there ↦ any_top rs xs there ]

module _ (rs : List ℕ) (some : 0 < length rs) where
  abbrev n : ℕ
  n = length rs

  abbrev applied : ℕ → Bool
  applied s = is_applied rs s

  -- the first position on a side of one whose next span there is applied
  abbrev far : Side → ℕ → Option Pos
  far West q = far_end rs q East
  far East q = far_end rs q West

  searched : (d : Side) (q k : ℕ) → 0 < k → k < n → ((j : ℕ) → j < k → applied (way n d q j) ≡ false) → applied (way n d q k) ≡ true
      → find (λ x. applied (span_at n x d)) (next_positions n d q (n - 1)) ≡ Some (going n d q k)
  searched d q k some_way few free hit =
      let last : suc (k - 1) ≡ k = omega arith in
      first_position n d q (n - 1) (k - 1) (λ x. applied (span_at n x d)) (omega arith) (λ j h. free (suc j) (omega arith))
      (ap (λ x. applied (way n d q x)) last ∙ hit)
      ∙ ap (λ x. Some (going n d q x)) last

  pub far_first : (d : Side) (q k : ℕ) → q < n → 0 < k → k < n → ((j : ℕ) → j < k → applied (way n d q j) ≡ false)
      → applied (way n d q k) ≡ true → far d q ≡ far_at (going n d q k)
  unfolding far_end
  far_first West q k inside some_way few free hit = ap (option_map position_of) (searched West q k some_way few free hit)
  far_first East q k inside some_way few free hit = ap (option_map position_of) (searched East q k some_way few free hit)

  abbrev serves : ℕ → Bool
  serves q = is_any_applied rs || is_outranked rs q

  abbrev rest : ℕ → NodeState
  rest q = settled_by false false (serves q) None None

  east_by : (w e t : Bool) (f g : Option Pos) → settled_by w e t f g ≡ side_state East e w f g (settled_by false false t None None)
  east_by true true t f g = refl
  east_by true false t f g = refl
  east_by false true t f g = refl
  east_by false false true f g = refl
  east_by false false false f g = refl

  west_by : (w e t : Bool) (f g : Option Pos) → settled_by w e t f g ≡ side_state West w e g f (settled_by false false t None None)
  west_by true true t f g = refl
  west_by true false t f g = refl
  west_by false true t f g = refl
  west_by false false true f g = refl
  west_by false false false f g = refl

  pub by_sides : (d : Side) (q : ℕ) → settled rs q ≡ side_state d (applied (span_at n q d)) (applied (span_at n q (opposite d))) (far d q)
      (far (opposite d) q) (rest q)
  unfolding settled
  by_sides East q = east_by (applied (span_at n q West)) (applied (span_at n q East)) (serves q) (far_end rs q West) (far_end rs q East)
  by_sides West q = west_by (applied (span_at n q West)) (applied (span_at n q East)) (serves q) (far_end rs q West) (far_end rs q East)

  pub passing : (q s : ℕ) → s < n → applied s ≡ true → rest q ≡ PassThrough
  passing q s h e = ap (λ b. settled_by false false (b || is_outranked rs q) None None) (list_any_at (applies rs) rs s 0 h e)

  pub either_by : (t : Bool) → (settled_by false false t None None ≡ PassThrough) ⊎ (settled_by false false t None None ≡ Idle)
  either_by true = inl refl
  either_by false = inr refl

  stop_by : (w e t : Bool) (f g : Option Pos) → (w ≡ true) ⊎ ((e ≡ true) ⊎ (t ≡ false)) → is_pass (settled_by w e t f g) ≡ false
  stop_by true true t f g h = refl
  stop_by true false t f g h = refl
  stop_by false true t f g h = refl
  stop_by false false false f g h = refl
  stop_by false false true f g (inl h) = cc
  stop_by false false true f g (inr (inl h)) = cc
  stop_by false false true f g (inr (inr h)) = cc

  pub top : IsTop rs
  top = top_of rs some

  low : (a b x y : Bool) → a ≡ false → (x ≡ false) ⊎ (y ≡ false) → (a || b && (x && y)) ≡ false
  low a true x y e (inl h) = cc
  low a true true y e (inr h) = cc
  low a true false y e (inr h) = cc
  low a false x y e h = cc

  -- a node at a span with the highest request isn't outranked
  is_low : (d : Side) (q : ℕ) → span_at n q d ≡ top.place
      → (nat_lt (slice_index rs (span_at n q West)) (highest rs) ≡ false)
      ⊎ (nat_lt (slice_index rs (span_at n q East)) (highest rs) ≡ false)
  is_low West q e = inl (le-ltb _ _ (let t = ap (slice_index rs) e ∙ top.top in omega arith))
  is_low East q e = inr (le-ltb _ _ (let t = ap (slice_index rs) e ∙ top.top in omega arith))

  not_served : (d : Side) (q : ℕ) → span_at n q d ≡ top.place → is_any_applied rs ≡ false → serves q ≡ false
  not_served d q e none =
      low (is_any_applied rs) (nat_lt 0 (highest rs)) (nat_lt (slice_index rs (span_at n q West)) (highest rs))
      (nat_lt (slice_index rs (span_at n q East)) (highest rs)) none (is_low d q e)

  on_top : (d : Side) (q : ℕ) → span_at n q d ≡ top.place → is_any_applied rs ≡ true → applied (span_at n q d) ≡ true
  on_top d q e any = ap (λ s. applies rs (slice_index rs s)) e ∙ ap (applies rs) top.top ∙ any_top rs rs any

  cause : (d : Side) (q : ℕ) → span_at n q d ≡ top.place → (is_any_applied rs ≡ true) ⊎ (is_any_applied rs ≡ false)
      → (applied (span_at n q West) ≡ true) ⊎ ((applied (span_at n q East) ≡ true) ⊎ (serves q ≡ false))
  cause West q e (inl any) = inl (on_top West q e any)
  cause East q e (inl any) = inr (inl (on_top East q e any))
  cause d q e (inr none) = inr (inr (not_served d q e none))

  pub top_stops : (d : Side) (q : ℕ) → span_at n q d ≡ top.place → is_pass (settled rs q) ≡ false
  unfolding settled
  top_stops d q e =
      stop_by (applied (span_at n q West)) (applied (span_at n q East)) (serves q) (far_end rs q West) (far_end rs q East)
      (cause d q e (cases_Bool (is_any_applied rs)))

  unfoldable pub resting : Resting (length rs)
  resting = record {
    applied = applied;
    state = settled rs;
    far = far;
    far_first = far_first;
    rest = rest;
    by_sides = by_sides;
    passing = passing;
    either = λ q. either_by (serves q);
    top = top.place;
    top_inside = top.inside;
    top_stops = top_stops;
  }
