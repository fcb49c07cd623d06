-- A count of calm rounds against the windows of a course.
use Rattle.std.proofs.Common.{◌≡◌, ℕ, ◌+◌, ◌-◌, ◌*◌, ◌%◌, ◌<◌, ◌≤◌, suc, zero, Bool, true, false, length, refl, ap, sym, ◌∙◌, subst}
use Rattle.std.proofs.Common.{add-one, arith, inl, inr, ◌⊎◌}
use Rattle.std.specs.Prelude.{if◌then◌else◌}
use Rattle.std.proofs.lemmas.Bool.{cases_lt}
use Rattle.sdh_rounds.specs.Stations.{Station}
use Rattle.sdh_rounds.specs.Held.{World}
use Rattle.sdh_rounds.specs.Quiet.{is_calm, IsCalm, EndsWindow, NeverSettles}

true_false : (b : Bool) → b ≡ true → b ≡ false → ⊥
true_false b t f = cc

-- how many calm rounds the k-th round ends, as a loop counts them
unfoldable pub streak : {N : Type 0} → Station N → (ℕ → World N) → ℕ → ℕ
streak s at zero = 0
streak s at (suc k) = if is_calm s (at (suc k)).ring.nodes then streak s at k + 1 else 0

module _ {N : Type 0} (st : Station N) where
  -- either a round is calm and the count grows, or it is not and the count is 0
  streak_cases : (at : ℕ → World N) (k : ℕ) → (IsCalm st at (suc k) × (streak st at (suc k) ≡ streak st at k + 1))
      ⊎ ((is_calm st (at (suc k)).ring.nodes ≡ false) × (streak st at (suc k) ≡ 0))
  unfolding streak
  streak_cases at k = by_test (is_calm st (at (suc k)).ring.nodes) (streak st at k) refl
    where
      by_test : (b : Bool) (n : ℕ) → is_calm st (at (suc k)).ring.nodes ≡ b
          → ((b ≡ true) × ((if b then n + 1 else 0) ≡ n + 1)) ⊎ ((b ≡ false) × ((if b then n + 1 else 0) ≡ 0))
      by_test true n e = inl (refl, refl)
      by_test false n e = inr (refl, refl)

  -- all of the last m rounds are calm
  pub record Calm (at : ℕ → World N) (m k : ℕ) : Type 0 where
    pub within : m ≤ k
    pub each : (j : ℕ) → k < j + m → j ≤ k → IsCalm st at j

  pub streak_sound : (at : ℕ → World N) (k m : ℕ) → m ≤ streak st at k → Calm at m k
  unfolding streak
  streak_sound at zero m h = record { within = h; each = λ j a b. absurd (omega arith) }
  streak_sound at (suc k) m h = elim (streak_cases at k) [
    | inl c ↦ record {
      within = let r = streak_sound at k (m - 1) (omega (arith, c.1)) in omega (arith, r.within);
      each = λ j a b. elim (cases_lt k j) [
        | inr low ↦ (streak_sound at k (m - 1) (omega (arith, c.1))).each j (omega arith) low
        | inl high ↦ (let e : suc k ≡ j = omega arith in subst (λ (x : ℕ). IsCalm st at x) e c.0)
      ];
    }
    | inr c ↦ record { within = omega (arith, c.1); each = λ j a b. absurd (omega (arith, c.1)) }
  ]

  pub streak_complete : (at : ℕ → World N) (k m : ℕ) → Calm at m k → m ≤ streak st at k
  unfolding streak
  streak_complete at zero m c = c.within
  streak_complete at (suc k) m c = elim (streak_cases at k) [
    | inl t ↦ (let ih : m - 1 ≤ streak st at k = streak_complete at k (m - 1)
        (record { within = omega (arith, c.within); each = λ j a b. c.each j (omega arith) (omega arith) }) in omega (arith, t.1))
    | inr f ↦ elim (cases_lt 0 m) [
      | inl some ↦ absurd (true_false (is_calm st (at (suc k)).ring.nodes) (c.each (suc k) (omega arith) (omega arith)) f.0)
      | inr none ↦ omega arith
    ]
  ]

  -- the count of calm rounds and the number of the round show a window
  pub window_if : (at : ℕ → World N) (k : ℕ) → 3 * length (at k).ring.ids ≤ streak st at k → ((at k).ring.rounds - 1) % 128 ≡ 0
      → EndsWindow st at k
  window_if at k long place = let c =
      streak_sound at k (3 * length (at k).ring.ids) long in record { long = c.within; calm = c.each; place = place }

  pub window_only : (at : ℕ → World N) (k : ℕ) → EndsWindow st at k → 3 * length (at k).ring.ids ≤ streak st at k
  window_only at k e = streak_complete at k (3 * length (at k).ring.ids) (record { within = e.long; each = e.calm })

  pub none_more : (at : ℕ → World N) (k : ℕ) → NeverSettles st at k → (EndsWindow st at (k + 1) → ⊥) → NeverSettles st at (k + 1)
  none_more at k before here j h e = elim (cases_lt k j) [
    | inr low ↦ before j low e
    | inl high ↦ (let same : j ≡ k + 1 = omega arith in here (subst (λ (x : ℕ). EndsWindow st at x) same e))
  ]

  pub streak_none : (at : ℕ → World N) → 0 ≡ streak st at 0
  unfolding streak
  streak_none at = refl

  pub streak_more : (at : ℕ → World N) (k : ℕ) → streak st at (k + 1)
      ≡ (if is_calm st (at (k + 1)).ring.nodes then streak st at k + 1 else 0)
  unfolding streak
  streak_more at k =
      ap (λ n. streak st at n) (add-one k) ∙ ap (λ n. if is_calm st (at n).ring.nodes then streak st at k + 1 else 0) (sym (add-one k))

  -- ---- courses that agree up to a round

  pub streak_same : (at bt : ℕ → World N) (k : ℕ) → ((j : ℕ) → j ≤ k → at j ≡ bt j) → streak st at k ≡ streak st bt k
  unfolding streak
  streak_same at bt zero same = refl
  streak_same at bt (suc k) same =
      ap (λ (w : World N). if is_calm st w.ring.nodes then streak st at k + 1 else 0) (same (suc k) (omega arith))
      ∙ ap (λ n. if is_calm st (bt (suc k)).ring.nodes then n + 1 else 0) (streak_same at bt k (λ j h. same j (omega arith)))

  pub window_same : (at bt : ℕ → World N) (k : ℕ) → ((j : ℕ) → j ≤ k → at j ≡ bt j) → EndsWindow st at k → EndsWindow st bt k
  window_same at bt k same e =
      let size : length (at k).ring.ids ≡ length (bt k).ring.ids = ap (λ (w : World N). length w.ring.ids) (same k (omega arith)) in
      record {
        long = let h = e.long in omega (arith, size);
        calm = λ j low high. ap (λ (w : World N). is_calm st w.ring.nodes) (sym (same j high)) ∙ e.calm j (omega (arith, size)) high;
        place = ap (λ (w : World N). (w.ring.rounds - 1) % 128) (sym (same k (omega arith))) ∙ e.place;
      }

  pub never_same : (at bt : ℕ → World N) (k : ℕ) → ((j : ℕ) → j ≤ k → at j ≡ bt j) → NeverSettles st at k → NeverSettles st bt k
  never_same at bt k same never j h e = never j h (window_same bt at j (λ i low. sym (same i (omega arith))) e)
