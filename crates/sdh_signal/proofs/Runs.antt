-- The vocabulary of the proofs on runs, and the first bound: a side weighs no more than its span's request, since a
-- short word from the neighbour says no more than the neighbour's own local request.
use Rattle.std.proofs.Common.{◌≡◌, ◌≢◌, ℕ, true, ◌<◌, ◌≤◌, max, suc, zero, refl, ap, sym, subst, ◌∙◌, arith, inl, inr, ◌⊎◌}
use Rattle.std.proofs.lemmas.Bool.{cases_lt}
use Rattle.sdh_kbytes.specs.declared.K.{K}
use Rattle.sdh_ringmap.specs.Requests.{code_number}
use Rattle.sdh_ringmap.specs.Places.{neighbour, opposite}
use Rattle.sdh_ringmap.specs.declared.Side.{Side}
use Rattle.sdh_ringmap.specs.declared.Side.TheVariants.{West, East}
use Rattle.sdh_kbytes.specs.declared.Path.TheVariants.{Short}
use Rattle.sdh_ringmap.specs.declared.terms.Code.TheVariants.{Rr}
use Rattle.sdh_nodestate.specs.declared.Needs.{Needs}
use Rattle.sdh_nodestate.specs.Rules.{local, word_on, short, word}
use Rattle.sdh_nodestate.specs.Conditions.{MayNeed}
use Rattle.sdh_signal.specs.Signals.{request_on, fails_on}
use Rattle.sdh_signal.proofs.Terms.{terms}
use Rattle.sdh_signal.specs.Runs.{Run, IsRun}
use Rattle.sdh_ringmap.proofs.Sides.{neighbour_back, neighbour_below, opposite_twice}
use Rattle.sdh_signal.proofs.OneNode.{at_least_five, weight_is, IsShortHeard, short_from, long_from, relayed_from, Kind, a_short, a_long}
use Rattle.sdh_signal.proofs.OneNode.{a_relay, kind}

-- what the needs of a position may be, for either side
pub failing : (need : ℕ → Needs) (p : ℕ) (d : Side) → MayNeed (need p) → fails_on (need p) d ≡ true
    → 11 ≤ code_number (request_on (need p) d)
failing need p West may e = may.west_fails e
failing need p East may e = may.east_fails e

pub not_reverse : (need : ℕ → Needs) (p : ℕ) (d : Side) → MayNeed (need p) → request_on (need p) d ≢ Rr
not_reverse need p West may = may.west
not_reverse need p East may = may.east

module _ (run : Run) (R : IsRun run) where
  open terms run use {n, at, id, next, code, asks, request, weight_at, word_at}

  pub some_nodes : 0 < n
  some_nodes = let e = R.ids_ok.enough in omega arith

  pub next_below : (p : ℕ) (d : Side) → next p d < n
  next_below p d = neighbour_below n p d some_nodes

  pub id_apart : (p q : ℕ) → p < n → q < n → p ≢ q → id p ≢ id q
  id_apart p q h g a = λ e. a (R.ids_ok.distinct p q h g e)

  pub local_is : (t p : ℕ) (d : Side) → local (at t p) d ≡ code p d
  local_is t p West = refl
  local_is t p East = refl

  pub asks_back : (p : ℕ) (d : Side) → p < n → asks (next (next p d) (opposite d)) (opposite (opposite d)) ≡ asks p d
  asks_back p d h = ap (λ q. asks q (opposite (opposite d))) (neighbour_back n p d h) ∙ ap (asks p) (opposite_twice d)

  pub request_back : (p : ℕ) (d : Side) → p < n → request (next p d) (opposite d) ≡ request p d
  request_back p d h = let b = asks_back p d h in omega arith

  weight_local : (t p : ℕ) (d : Side) → weight_at t p d ≡ max (asks p d) (code_number (short (at t p) d))
  weight_local t p d = let w = weight_is (at t p) d in let l = ap code_number (local_is t p d) in omega arith

  short_kind_le : (t q : ℕ) (e : Side) (k : K) → k.path ≡ Short → 5 ≤ code_number k.code → Kind (at t q) e k → code_number k.code ≤ asks q e
  short_kind_le t q e k p s (a_short q1 (inl low)) = absurd (omega arith)
  short_kind_le t q e k p s (a_short q1 (inr same)) = let x = ap code_number (same ∙ local_is t q e) in omega arith
  short_kind_le t q e k p s (a_long q1 c) = cc
  short_kind_le t q e k p s (a_relay c) = let f = long_from (at t q) (opposite e) k (relayed_from (at t q) e k c).is_long in cc (p, f.path)

  short_le_by : (t p : ℕ) (d : Side) → p < n → (code_number (short (at (suc t) p) d) ≡ 0)
      ⊎ ((k : K) × IsShortHeard (word_on (at (suc t) p) d) (short (at (suc t) p) d) k)
      → code_number (short (at (suc t) p) d) ≤ asks (next p d) (opposite d)
  short_le_by t p d h (inl z) = omega arith
  short_le_by t p d h (inr (k, f)) =
      let w = R.past t p d k h f.heard in
      let l =
      short_kind_le t (next p d) (opposite d) k f.path f.strong
      (subst (λ x. Kind (at t (next p d)) (opposite d) x) (sym w) (kind (at t (next p d)) (opposite d))) in
      let c = ap code_number f.code in
      omega arith

  short_le_next : (t p : ℕ) (d : Side) → p < n → code_number (short (at (suc t) p) d) ≤ asks (next p d) (opposite d)
  short_le_next t p d h = short_le_by t p d h (short_from (at (suc t) p) d)

  -- a short word says no more than the neighbour asks for
  pub short_le : (t p : ℕ) (d : Side) → 0 < t → p < n → code_number (short (at t p) d) ≤ asks (next p d) (opposite d)
  short_le zero p d g h = absurd (omega arith)
  short_le (suc t) p d g h = short_le_next t p d h

  -- no side weighs more than its span's request, from the second round on
  pub weight_le : (t p : ℕ) (d : Side) → 0 < t → p < n → weight_at t p d ≤ request p d
  weight_le t p d g h = let w = weight_local t p d in let s = short_le t p d g h in omega arith

  -- a span that has a request at all has at least that of waiting to restore (5), since no local request is a reverse
  -- request
  pub at_least_waiting : (p : ℕ) (d : Side) → p < n → 0 < request p d → 5 ≤ request p d
  at_least_waiting p d h some =
      let q = next p d in
      let a = code p d in
      let b = code q (opposite d) in
      elim (cases_lt (code_number a) (code_number b)) [
        | inl less ↦ (let x = at_least_five b (not_reverse run.need q (opposite d) (R.sound q (next_below p d)))
            (omega arith) in omega arith)
        | inr more ↦ (let x = at_least_five a (not_reverse run.need p d (R.sound p h)) (omega arith) in omega arith)
      ]
