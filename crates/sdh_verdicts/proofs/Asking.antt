-- The requests of all spans, from those of all sides.
use Rattle.std.proofs.Common.{◌≡◌, ℕ, ◌+◌, ◌<◌, ◌≤◌, List, length, map, get_or, set, take, refl, sym, ap, ◌∙◌, arith, inl, inr}
use Rattle.std.specs.Prelude.{slice_index}
use Rattle.std.proofs.lemmas.Bool.{cases_eq}
use Rattle.std.proofs.lemmas.List.{get_or-set_same, get_or-set_other, get_or-take, length-take-le, get_or-map, length-map}
use Rattle.sdh_basics.proofs.CellsLaws.{cells-from, get_or-cells}
use Rattle.sdh_ringmap.specs.Places.{neighbour}
use Rattle.std.specs.Prelude.{max}
use Rattle.sdh_ringmap.specs.declared.terms.Code.{Code}
use Rattle.sdh_ringmap.specs.declared.terms.Code.TheVariants.{Nr}
use Rattle.sdh_ringmap.specs.Requests.{code_number}
use Rattle.sdh_ringmap.specs.declared.Side.{Side}
use Rattle.sdh_ringmap.specs.declared.Side.TheVariants.{West, East}
use Rattle.sdh_restoration.specs.declared.applied.LocalRequests.{LocalRequests}
use Rattle.sdh_restoration.specs.Applied.{span_requests}
use Rattle.sdh_restoration.specs.Locals.{on_side, no_requests, local_of, requests_of}
use Rattle.sdh_verdicts.proofs.Spans.{spans_same}
use Rattle.sdh_plan.specs.Planned.{Planned}
use Rattle.sdh_verdicts.specs.declared.failure.Failure.{Failure}
use Rattle.sdh_verdicts.specs.Verdicts.{asked_at, asks_with, requests_with}

-- one place more of a list that is written in place
pub set_next : {X Y : Type 0} (h : X → Y) (f : ℕ → Y) (xs : List X) (p : ℕ) (x d : X) → p < length xs
    → ((q : ℕ) → q < p → h (get_or xs q d) ≡ f q) → h x ≡ f p
    → (q : ℕ) → q < p + 1 → h (get_or (set xs p x) q d) ≡ f q
set_next h f xs p x d inside before now q low = elim (cases_eq q p) [
  | inl here ↦ ap (λ k. h (get_or (set xs p x) k d)) here ∙ ap h (get_or-set_same xs p x d inside) ∙ now ∙ ap f (sym here)
  | inr other ↦ ap h (get_or-set_other xs p q x d other) ∙ before q (omega arith)
]

on_both : (plan : Planned) (case : List Failure) (p : ℕ) (d : Side) → on_side d (asked_at plan case p) ≡ asks_with plan case p d
on_both plan case p West = refl
on_both plan case p East = refl

pub requests_are : (plan : Planned) (case : List Failure) (n : ℕ) (local : List LocalRequests) → n ≡ length plan.nodes → n ≤ length local
    → ((q : ℕ) → q < n → get_or local q no_requests ≡ asked_at plan case q)
    → requests_of (take n local) ≡ requests_with plan case
requests_are plan case n local same within each =
    let long : length (take n local) ≡ length plan.nodes = length-take-le n local within ∙ same in
    ap (λ m. span_requests m (local_of (take n local))) long
    ∙ spans_same (length plan.nodes) (local_of (take n local)) (asks_with plan case)
    (λ p d low. (let below : p < n = omega arith in ap (on_side d) (get_or-take n local p no_requests below ∙ each p below)
    ∙ on_both plan case p d))

-- the codes of spans that were written in place
pub codes_are : (n : ℕ) (codes : List Code) (local : List LocalRequests) → n ≤ length codes → n ≤ length local
    → ((k : ℕ) → k < n → code_number (get_or codes k Nr) ≡ slice_index (requests_of (take n local)) k)
    → map code_number (take n codes) ≡ requests_of (take n local)
unfolding span_requests
codes_are n codes local inside within each =
    let ls = take n local in
    let m = length ls in
    let size : m ≡ n = length-take-le n local within in
    let f = λ (s : ℕ). max (code_number (local_of ls s East)) (code_number (local_of ls (neighbour m s East) West)) in
    let xs = map code_number (take n codes) in
    let count : length (take n codes) ≡ n = length-take-le n codes inside in
    let long : length xs ≡ m = length-map (take n codes) code_number ∙ count ∙ sym size in
    sym (cells-from f m 0 xs long (λ k low. (
    let below : k < n = omega arith in
    let shown : k < length (take n codes) = omega (arith, count) in
    sym (get_or-cells f m k 0 low) ∙ sym (each k below) ∙ sym (ap code_number (get_or-take n codes k Nr below))
    ∙ sym (get_or-map code_number (take n codes) k Nr 0 shown))))
