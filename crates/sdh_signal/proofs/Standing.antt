-- The settled state of a position, case by case, in a ring whose number of spans is named: what the law's end compares
-- with.
use Rattle.std.proofs.Common.{◌≡◌, ℕ, ◌-◌, Bool, true, false, Option, List, length, ap, ◌∙◌, ap₂}
use Rattle.std.specs.Prelude.{◌&&◌, ◌||◌, nat_lt, slice_index, option_map, find}
use Rattle.sdh_ringmap.specs.Places.{opposite, span_at}
use Rattle.sdh_ringmap.specs.declared.Side.{Side}
use Rattle.sdh_ringmap.specs.declared.Side.TheVariants.{West, East}
use Rattle.sdh_ringmap.specs.declared.Pos.{Pos}
use Rattle.sdh_nodestate.specs.declared.NodeState.{NodeState}
use Rattle.sdh_nodestate.specs.declared.NodeState.TheVariants as state
use Rattle.sdh_restoration.specs.Applied.{highest, is_applied, is_any_applied}
use Rattle.sdh_signal.specs.Settled.{far_end, next_positions, settled, settled_by}

-- the settled state where the number of spans is named

abbrev pub far_n : List ℕ → ℕ → ℕ → Side → Option Pos
far_n rs n p d =
    option_map (λ q. record { 0 = q }) (find (λ q. is_applied rs (span_at n q (opposite d))) (next_positions n (opposite d) p (n - 1)))

abbrev pub outranked_n : List ℕ → ℕ → ℕ → Bool
outranked_n rs n p =
    nat_lt 0 (highest rs) && (nat_lt (slice_index rs (span_at n p West)) (highest rs)
    && nat_lt (slice_index rs (span_at n p East)) (highest rs))

abbrev pub settled_n : List ℕ → ℕ → ℕ → NodeState
settled_n rs n p =
    settled_by (is_applied rs (span_at n p West)) (is_applied rs (span_at n p East)) (is_any_applied rs || outranked_n rs n p)
    (far_n rs n p West) (far_n rs n p East)

pub settled_is : (rs : List ℕ) (n p : ℕ) → length rs ≡ n → settled rs p ≡ settled_n rs n p
unfolding settled far_end
settled_is rs n p e = ap (λ m. settled_n rs m p) e

module _ (rs : List ℕ) (n p : ℕ) where
  abbrev a : Side → Bool
  a d = is_applied rs (span_at n p d)

  abbrev t : Bool
  t = is_any_applied rs || outranked_n rs n p

  by_spans : (x y : Bool) → a West ≡ x → a East ≡ y → settled_n rs n p ≡ settled_by x y t (far_n rs n p West) (far_n rs n p East)
  by_spans x y w e = ap₂ (λ x y. settled_by x y t (far_n rs n p West) (far_n rs n p East)) w e

  pub is_isolated : a West ≡ true → a East ≡ true → settled_n rs n p ≡ state.Isolated tt
  is_isolated w e = by_spans true true w e

  pub is_west : (o : Option Pos) → a West ≡ true → a East ≡ false → far_n rs n p West ≡ o → settled_n rs n p ≡ state.SwitchWest o
  is_west o w e f = by_spans true false w e ∙ ap (λ o. state.SwitchWest o) f

  pub is_east : (o : Option Pos) → a West ≡ false → a East ≡ true → far_n rs n p East ≡ o → settled_n rs n p ≡ state.SwitchEast o
  is_east o w e f = by_spans false true w e ∙ ap (λ o. state.SwitchEast o) f

  pub is_pass : a West ≡ false → a East ≡ false → t ≡ true → settled_n rs n p ≡ state.PassThrough tt
  is_pass w e f = by_spans false false w e ∙ ap (λ b. settled_by false false b (far_n rs n p West) (far_n rs n p East)) f

  pub is_idle : a West ≡ false → a East ≡ false → t ≡ false → settled_n rs n p ≡ state.Idle tt
  is_idle w e f = by_spans false false w e ∙ ap (λ b. settled_by false false b (far_n rs n p West) (far_n rs n p East)) f
