-- A settle step, round by round, with an observer that looks at the ring after each of them. The steps are those of
-- `Settling`.
use Rattle.std.proofs.Common.{◌≡◌, ℕ, suc, ◌+◌, ◌*◌, ◌-◌, ◌%◌, ◌<◌, ◌≤◌, length, refl, ap, sym, subst, ◌∙◌, arith}
use Rattle.std.specs.Prelude.{if◌then◌else◌}
use Rattle.sdh_rounds.specs.Stations.{Station}
use Rattle.sdh_rounds.specs.Held.{World}
use Rattle.sdh_rounds.specs.Runs.{IsRound, course_with}
use Rattle.sdh_rounds.specs.Quiet.{is_calm}
use Rattle.sdh_rounds.specs.Observed.{RanOne, Hears, RanSome}
use Rattle.sdh_rounds.proofs.Settling.{Went, GoesOn, goes_none, went_more, along, at_end, settles, goes_on}

module _ {N : Type 0} (st : Station N) where
  -- a step from w is at `now` after k rounds that ended no window, and this is kept of them
  pub record Observes (heard : (ℕ → World N) → ℕ → Type 0) (w now : World N) (k calm : ℕ) : Type 0 where
    pub on : GoesOn st w now k calm
    pub kept : heard (course_with st on.went.rounds w) k

  -- as in `Observes`, but the last of the k rounds may have ended a window
  pub record HasLooked (heard : (ℕ → World N) → ℕ → Type 0) (w now : World N) (k calm : ℕ) : Type 0 where
    pub went : Went st w now k calm
    pub kept : heard (course_with st went.rounds w) k

  -- ---- one round more

  module _ (w now after : World N) (k calm n : ℕ) (on : GoesOn st w now k calm) (is : IsRound st now after)
      (counted : n ≡ (if is_calm st after.ring.nodes then calm + 1 else 0)) where
    abbrev more : Went st w after (k + 1) n
    more = went_more st w now after k calm n on is counted

    abbrev at : ℕ → World N
    at = course_with st more.rounds w

    so_far : (j : ℕ) → j ≤ k → course_with st on.went.rounds w j ≡ at j
    so_far j low = along st w now after k calm n on is counted j low

    -- the round in that course
    at_now : now ≡ at k
    at_now = at_end st w now k calm on.went ∙ so_far k (omega arith)

    at_after : after ≡ at (suc k)
    at_after = at_end st w after (k + 1) n more ∙ ap at (let one : k + 1 ≡ suc k = omega arith in one)

    ran_one : k < 65536 → RanOne st at k after.ring
    ran_one few = record {
      few = few;
      round = subst (λ v. IsRound st v (at (suc k))) at_now (subst (IsRound st now) at_after is);
      ring_is = ap (λ (x : World N). x.ring) at_after;
    }

    fibres_after : after.fibres ≡ (at (suc k)).fibres
    fibres_after = ap (λ (x : World N). x.fibres) at_after

    -- an observer of the ring then keeps what is to be kept
    looked_with : (before later : (ℕ → World N) → ℕ → Type 0) → k < 65536
        → ((at bt : ℕ → World N) → ((j : ℕ) → j ≤ k → at j ≡ bt j) → before at k → before bt k)
        → ((at : ℕ → World N) → RanOne st at k after.ring → after.fibres ≡ (at (suc k)).fibres → before at k → later at (suc k))
        → before (course_with st on.went.rounds w) k
        → HasLooked later w after (k + 1) n
    looked_with before later few same look kept = record {
      went = more;
      kept =
          subst (later at) (let one : suc k ≡ k + 1 = omega arith in one)
          (look at (ran_one few) fibres_after (same (course_with st on.went.rounds w) at so_far kept));
    }

  pub looked_more : (before later : (ℕ → World N) → ℕ → Type 0) (w now after : World N) (k calm n : ℕ) → k < 65536
      → ((at bt : ℕ → World N) → ((j : ℕ) → j ≤ k → at j ≡ bt j) → before at k → before bt k)
      → ((at : ℕ → World N) → RanOne st at k after.ring → after.fibres ≡ (at (suc k)).fibres → before at k → later at (suc k))
      → Observes before w now k calm → IsRound st now after
      → n ≡ (if is_calm st after.ring.nodes then calm + 1 else 0) → HasLooked later w after (k + 1) n
  looked_more before later w now after k calm n few same look x is counted =
      looked_with w now after k calm n x.on is counted before later few same look x.kept

  -- one round more, before the observer looks
  pub one_more : (heard : (ℕ → World N) → ℕ → Type 0) (w now after : World N) (k calm : ℕ) → k < 65536
      → ((at bt : ℕ → World N) → ((j : ℕ) → j ≤ k → at j ≡ bt j) → heard at k → heard bt k)
      → Observes heard w now k calm → IsRound st now after → (at : ℕ → World N) × (j : ℕ) × RanOne st at j after.ring
      × (after.fibres ≡ (at (suc j)).fibres) × heard at j
  one_more heard w now after k calm few same x is =
      let n = if is_calm st after.ring.nodes then calm + 1 else 0 in (
        at w now after k calm n x.on is refl,
        k,
        ran_one w now after k calm n x.on is refl few,
        fibres_after w now after k calm n x.on is refl,
        same (course_with st x.on.went.rounds w) (at w now after k calm n x.on is refl) (so_far w now after k calm n x.on is refl) x.kept,
      )

  -- ---- begin and end

  pub observes_none : (heard : (ℕ → World N) → ℕ → Type 0) (w : World N) → 1 ≤ length w.ring.ids → ((at : ℕ → World N) → at 0 ≡ w → heard at 0)
      → Observes heard w w 0 0
  observes_none heard w some ready = let on = goes_none st w some in record { on = on; kept = ready (course_with st on.went.rounds w) refl }

  -- a step that ended, as its last round ended a window
  pub hears : (heard : (ℕ → World N) → ℕ → Type 0) (w now : World N) (k calm : ℕ) → HasLooked heard w now k calm
      → (limit : ℕ) → k ≤ limit → (3 * length now.ring.ids ≤ calm) × ((now.ring.rounds - 1) % 128 ≡ 0) → Hears st heard w limit now
  unfolding settles
  hears heard w now k calm x limit within test = record {
    settles = settles st w now limit k calm x.went within test;
    kept = subst (heard (course_with st x.went.rounds w)) (sym x.went.count) x.kept;
  }

  -- a step that goes on, as its last round ended no window
  pub observes_on : (heard : (ℕ → World N) → ℕ → Type 0) (w now : World N) (k calm : ℕ) → HasLooked heard w now (k + 1) calm
      → ((3 * length now.ring.ids ≤ calm) × ((now.ring.rounds - 1) % 128 ≡ 0) → ⊥) → Observes heard w now (k + 1) calm
  unfolding goes_on
  observes_on heard w now k calm x fails = record { on = goes_on st w now k calm x.went fails; kept = x.kept }

  -- ---- so far

  -- after rounds that ended no window
  pub ran_some : (heard : (ℕ → World N) → ℕ → Type 0) (w now : World N) (k calm : ℕ) → Observes heard w now k calm → (limit : ℕ) → k ≤ limit
      → RanSome st heard w limit now
  ran_some heard w now k calm x limit low =
      let c = x.on.went.count in
      record {
        rounds = x.on.went.rounds;
        arrive = x.on.went.arrive;
        few = omega (arith, c, low);
        never = λ j under e. x.on.never j (omega (arith, c, under)) e;
        mid_is = x.on.went.now_is;
        kept = subst (heard (course_with st x.on.went.rounds w)) (sym c) x.kept;
      }

  -- after rounds that ended no window, and one more that may have ended one
  pub ran_last : (kept_of : (ℕ → World N) → ℕ → Type 0) (w now : World N) (k calm : ℕ) → HasLooked kept_of w now k calm → (limit : ℕ)
      → k ≤ limit → RanSome st kept_of w limit now
  ran_last kept_of w now k calm x limit low =
      let c = x.went.count in
      record {
        rounds = x.went.rounds;
        arrive = x.went.arrive;
        few = omega (arith, c, low);
        never = λ j under e. x.went.before j (omega (arith, c, under)) e;
        mid_is = x.went.now_is;
        kept = subst (kept_of (course_with st x.went.rounds w)) (sym c) x.kept;
      }
