-- Searching the way round: the first position, going from p on side e, whose next span is at the level. Where any span
-- of the ring is at the level there is one, fewer than n steps away.
use Rattle.std.proofs.Common.{◌≡◌, ℕ, ◌<◌, ◌≤◌, suc, zero, sym, subst, arith, inl, inr, ◌⊎◌}
use Rattle.std.proofs.lemmas.Bool.{cases_lt}
use Rattle.sdh_ringmap.specs.declared.Side.{Side}
use Rattle.sdh_ringmap.specs.declared.Side.TheVariants.{West, East}
use Rattle.sdh_signal.proofs.Terms.{terms}
use Rattle.sdh_signal.specs.Runs.{Run, IsRun}
use Rattle.sdh_ringmap.specs.Steps.{going}
use Rattle.sdh_ringmap.proofs.Going.{going-none, reached}
use Rattle.sdh_signal.proofs.Runs.{some_nodes, next_below, request_back}
use Rattle.sdh_signal.proofs.Levels.{IsLevel}
use Rattle.sdh_signal.proofs.Reach.{IsFirst}

module _ (run : Run) (R : IsRun run) (c : ℕ) (level : IsLevel run R c) where
  open terms run use {n, next as nx, request as asked}

  abbrev pub First : ℕ → Side → ℕ → Type 0
  First p e k = IsFirst run R c level p e k

  abbrev Search : ℕ → ℕ → Side → Type 0
  Search m p e = ((j : ℕ) → j < m → asked (going n e p j) e < c) ⊎ ((k : ℕ) × (k < m) × First p e k)

  search_more : (m p : ℕ) (e : Side) → Search m p e → Search (suc m) p e
  search_more m p e (inr (k, less, first)) = inr (k, omega arith, first)
  search_more m p e (inl none) = elim (cases_lt (asked (going n e p m) e) c) [
    | inl less ↦ inl (λ j h. elim (cases_lt j m) [
      | inl below ↦ none j below
      | inr above ↦ (let same : m ≡ j = omega arith in subst (λ i. asked (going n e p i) e < c) same less)
    ])
    | inr found ↦ inr (m, omega arith, record { near = none; there = found })
  ]

  searched : (m p : ℕ) (e : Side) → Search m p e
  searched zero p e = inl (λ j h. absurd (omega arith))
  searched (suc m) p e = search_more m p e (searched m p e)

  abbrev pub HasFirst : ℕ → ℕ → Side → Type 0
  HasFirst m p e = (k : ℕ) × (suc k ≤ m) × First p e (suc k)

  first_is : (k m p : ℕ) (e : Side) → p < n → asked p e < c → k ≤ m → First p e k → HasFirst m p e
  first_is zero m p e h l few first = let t =
      subst (λ i. c ≤ asked i e) (going-none n (some_nodes run R) e p h) first.there in absurd (omega arith)
  first_is (suc k) m p e h l few first = (k, few, first)

  first_by : (m p : ℕ) (e : Side) → p < n → asked p e < c → c ≤ asked (going n e p m) e → Search (suc m) p e → HasFirst m p e
  first_by m p e h l there (inl none) = let less = none m (omega arith) in absurd (omega arith)
  first_by m p e h l there (inr (k, less, first)) = first_is k m p e h l (omega arith) first

  -- where m steps lead to a position whose next span is at the level, the first such position is no further
  pub first_within : (m p : ℕ) (e : Side) → p < n → asked p e < c → c ≤ asked (going n e p m) e → HasFirst m p e
  first_within m p e h l there = first_by m p e h l there (searched (suc m) p e)

  abbrev pub HasFirstNear : ℕ → Side → Type 0
  HasFirstNear p e = (k : ℕ) × (suc k < n) × First p e (suc k)

  first_at : (p : ℕ) (e : Side) (z : ℕ) → p < n → z < n → asked p e < c → c ≤ asked z e → HasFirstNear p e
  first_at p e z h g l there =
      let walk = reached n (some_nodes run R) e p z h g in
      let few = walk.few in
      let f = first_within walk.steps p e h l (subst (λ i. c ≤ asked i e) (sym walk.there) there) in
      (f.0, let x = f.1 in omega arith, f.2)

  -- where any span is at the level, there is a first one
  pub first_any : (p : ℕ) (e : Side) (z : ℕ) (d : Side) → p < n → z < n → asked p e < c → c ≤ asked z d → HasFirstNear p e
  first_any p West z West h g l f = first_at p West z h g l f
  first_any p East z East h g l f = first_at p East z h g l f
  first_any p West z East h g l f =
      first_at p West (nx z East) h (next_below run R z East) l (let b = request_back run R z East g in omega arith)
  first_any p East z West h g l f =
      first_at p East (nx z West) h (next_below run R z West) l (let b = request_back run R z West g in omega arith)
