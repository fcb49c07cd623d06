-- A span for which a side asks as urgently as at a signal failure is applied.
use Rattle.std.proofs.Common.{◌≡◌, ℕ, ◌<◌, ◌≤◌, true, List, [], ◌∷◌, length, get_or, max, zero, suc, refl, sym, subst, arith}
use Rattle.std.specs.Prelude.{slice_index, nat_le}
use Rattle.std.proofs.lemmas.Bool.{le-leb}
use Rattle.sdh_basics.proofs.CellsLaws.{get_or-cells, length-cells}
use Rattle.sdh_ringmap.specs.declared.terms.Code.{Code}
use Rattle.sdh_ringmap.specs.Requests.{code_number}
use Rattle.sdh_ringmap.specs.Places.{neighbour, span_at}
use Rattle.sdh_ringmap.specs.declared.Side.{Side}
use Rattle.sdh_ringmap.specs.declared.Side.TheVariants.{West, East}
use Rattle.sdh_ringmap.proofs.Sides.{neighbour_back, neighbour_below}
use Rattle.sdh_restoration.specs.Applied.{span_requests, highest, applies, is_applied}

pub highest_from : (rs : List ℕ) (s : ℕ) → s < length rs → get_or rs s 0 ≤ highest rs
highest_from [] s h = absurd (omega arith)
highest_from (r ∷ rs) zero h = omega arith
highest_from (r ∷ rs) (suc s) h = let rest = highest_from rs s (omega arith) in omega arith

pub high_applies : (rs : List ℕ) (s : ℕ) → s < length rs → 11 ≤ get_or rs s 0 → is_applied rs s ≡ true
unfolding applies
high_applies rs s h high =
    let top : nat_le 11 (highest rs) ≡ true = le-leb 11 (highest rs) (let m = highest_from rs s h in omega arith) in
    let here : nat_le 11 (slice_index rs s) ≡ true = le-leb 11 (slice_index rs s) high in
    rw (top, here) refl

module _ (n : ℕ) (local : ℕ → Side → Code) where
  pub span_request : (s : ℕ) → s < n → get_or (span_requests n local) s 0
      ≡ max (code_number (local s East)) (code_number (local (neighbour n s East) West))
  unfolding span_requests
  span_request s h = get_or-cells _ n s 0 h

  pub length-requests : length (span_requests n local) ≡ n
  unfolding span_requests
  length-requests = length-cells _ n

  pub asked_is_applied : (p : ℕ) (d : Side) → p < n → 11 ≤ code_number (local p d)
      → is_applied (span_requests n local) (span_at n p d) ≡ true
  asked_is_applied p East h high =
      high_applies (span_requests n local) p (omega (arith, length-requests)) (let r = span_request p h in omega arith)
  asked_is_applied p West h high =
      let s = neighbour n p West in
      let below : s < n = neighbour_below n p West (omega arith) in
      let back : neighbour n s East ≡ p = neighbour_back n p West h in
      let asks : 11 ≤ code_number (local (neighbour n s East) West) = subst (λ q. 11 ≤ code_number (local q West)) (sym back) high in
      high_applies (span_requests n local) s (omega (arith, length-requests)) (let r = span_request s below in omega arith)
