-- Digits read from the left.
use Rattle.std.proofs.Common.{◌≡◌, ℕ, ◌+◌, ◌-◌, ◌*◌, ◌^◌, ◌<◌, ◌≤◌, List, [], ◌∷◌, length, drop, get_or, ap, arith}
use Rattle.std.proofs.lemmas.List.{drop_more}
use Rattle.sdh_plan.specs.Words.{decimal_from}

-- more digits make no smaller number
pub grows : (n : ℕ) (ds : List ℕ) → n ≤ decimal_from n ds
grows n [] = omega arith
grows n (d ∷ ds) = let more : 10 * n + (d - 48) ≤ decimal_from (10 * n + (d - 48)) ds = grows (10 * n + (d - 48)) ds in omega arith

pub next : (n : ℕ) (ds : List ℕ) (i : ℕ) → i < length ds → decimal_from n (drop i ds)
    ≡ decimal_from (10 * n + (get_or ds i 0 - 48)) (drop (i + 1) ds)
next n ds i h = ap (λ l. decimal_from n l) (drop_more ds i 0 h)

pub too_large : (n : ℕ) (ds : List ℕ) (i : ℕ) → 429496729 < n → i < length ds → 2 ^ 32 ≤ decimal_from n (drop i ds)
too_large n ds i large h =
    let more : 10 * n + (get_or ds i 0 - 48) ≤ decimal_from (10 * n + (get_or ds i 0 - 48)) (drop (i + 1) ds) =
    grows (10 * n + (get_or ds i 0 - 48)) (drop (i + 1) ds) in
    let e : decimal_from n (drop i ds) ≡ decimal_from (10 * n + (get_or ds i 0 - 48)) (drop (i + 1) ds) = next n ds i h in
    omega arith
