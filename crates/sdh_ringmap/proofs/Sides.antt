-- The neighbours and the spans of a position, and the ends of a span.
use Rattle.std.proofs.Common.{◌≡◌, ◌≢◌, ℕ, ◌+◌, ◌-◌, ◌%◌, ◌<◌, ◌≤◌, refl, ap, sym, ◌∙◌, arith}
use Rattle.std.proofs.Math.Nat.{mod-add-mod, add-mod_right, mod-eq_of_lt, mod-lt}
use Rattle.sdh_ringmap.specs.Places.{eastwards, neighbour, opposite, span_at}
use Rattle.sdh_ringmap.specs.declared.Side.{Side}
use Rattle.sdh_ringmap.specs.declared.Side.TheVariants.{West, East}
use Rattle.sdh_ringmap.proofs.Around.{eastwards-place, eastwards_self}

pub opposite_twice : (d : Side) → opposite (opposite d) ≡ d
opposite_twice West = refl
opposite_twice East = refl

pub neighbour_below : (n p : ℕ) (d : Side) → 0 < n → neighbour n p d < n
neighbour_below n p West some = mod-lt (p + (n - 1)) some
neighbour_below n p East some = mod-lt (p + 1) some

-- a whole round leads back
once_round : (n p a : ℕ) → p < n → a ≡ p + n → a % n ≡ p
once_round n p a h e = ap (λ k. k % n) e ∙ add-mod_right p n ∙ mod-eq_of_lt h

-- a step and a step back
pub neighbour_back : (n p : ℕ) (d : Side) → p < n → neighbour n (neighbour n p d) (opposite d) ≡ p
neighbour_back n p West h = mod-add-mod (p + (n - 1)) n 1 ∙ once_round n p (p + (n - 1) + 1) h (omega arith)
neighbour_back n p East h = mod-add-mod (p + 1) n (n - 1) ∙ once_round n p (p + 1 + (n - 1)) h (omega arith)

pub span_below : (n p : ℕ) (d : Side) → p < n → span_at n p d < n
span_below n p West h = neighbour_below n p West (omega arith)
span_below n p East h = h

-- the spans of a position are two
pub sides_apart : (n p : ℕ) (d : Side) → 2 ≤ n → p < n → span_at n p d ≢ span_at n p (opposite d)
sides_apart n p d many h = by_side d
  where
    differ : (p + (n - 1)) % n ≢ p
    differ = λ e. (
        let none : n - 1 ≡ 0 = sym (eastwards-place n p (n - 1) h (omega arith)) ∙ ap (eastwards n p) e ∙ eastwards_self n p h in
        omega arith)

    by_side : (d : Side) → span_at n p d ≢ span_at n p (opposite d)
    by_side West = differ
    by_side East = λ e. differ (sym e)

-- a span joins p and its neighbour
pub across_span : (n p x : ℕ) (d : Side) → p < n → x < n → span_at n x (opposite d) ≡ span_at n p d → x ≡ neighbour n p d
across_span n p x West h g e = e
across_span n p x East h g e = sym (neighbour_back n x West g) ∙ ap (λ i. neighbour n i East) e

pub span_back : (n p : ℕ) (d : Side) → p < n → span_at n (neighbour n p (opposite d)) d ≡ span_at n p (opposite d)
span_back n p West h = neighbour_back n p East h
span_back n p East h = refl

-- the position whose span on side d is s
abbrev pub end_of : ℕ → ℕ → Side → ℕ
end_of n s East = s
end_of n s West = neighbour n s East

pub end_below : (n s : ℕ) (d : Side) → s < n → end_of n s d < n
end_below n s East h = h
end_below n s West h = neighbour_below n s East (omega arith)

pub span_of_end : (n s : ℕ) (d : Side) → s < n → span_at n (end_of n s d) d ≡ s
span_of_end n s East h = refl
span_of_end n s West h = neighbour_back n s East h
