-- The number of rounds of a step, as the first that ends a window.
use Rattle.std.proofs.Common.{◌≡◌, ℕ, zero, suc, ◌+◌, ◌*◌, ◌-◌, ◌%◌, ◌<◌, ◌≤◌, Bool, true, false, length, Option, Some, None, refl, ap, sym}
use Rattle.std.proofs.Common.{subst, arith, inl, inr}
use Rattle.std.specs.Prelude.{nat_le, ◌==◌, ◌&&◌, cond, find}
use Rattle.std.specs.List.{list_all, range_with_len}
use Rattle.std.proofs.lemmas.Bool.{cases_lt, cases_eq, and_from}
use Rattle.std.proofs.lemmas.Bool.Decides.{nat_tests}
use Rattle.sdh_rounds.specs.Stations.{Station}
use Rattle.sdh_rounds.specs.Held.{World}
use Rattle.sdh_rounds.specs.Runs.{course}
use Rattle.sdh_rounds.specs.Quiet.{is_calm, IsCalm, EndsWindow, SettlesAt, NeverSettles, ends_window, settles_in}

pub left_true : (a b : Bool) → (a && b) ≡ true → a ≡ true
left_true true b e = refl
left_true false b e = e

pub right_true : (a b : Bool) → (a && b) ≡ true → b ≡ true
right_true true b e = e
right_true false b e = absurd (none e)
  where
    none : false ≡ true → ⊥
    none x = cc

-- all of m numbers from a on pass a test
all_pass : (p : ℕ → Bool) (a m : ℕ) → ((i : ℕ) → a ≤ i → i < a + m → p i ≡ true) → list_all p (range_with_len a m) ≡ true
all_pass p a zero h = refl
all_pass p a (suc m) h =
    and_from (p a) (list_all p (range_with_len (a + 1) m)) (h a (omega arith) (omega arith))
    (all_pass p (a + 1) m (λ i low high. h i (omega arith) (omega arith)))

-- what passes at all numbers of a range passes at each
pub one_passes : (p : ℕ → Bool) (a m i : ℕ) → list_all p (range_with_len a m) ≡ true → a ≤ i → i < a + m → p i ≡ true
one_passes p a zero i e low high = absurd (omega arith)
one_passes p a (suc m) i e low high = elim (cases_eq i a) [
  | inl same ↦ subst (λ (x : ℕ). p x ≡ true) (sym same) (left_true (p a) (list_all p (range_with_len (a + 1) m)) e)
  | inr other ↦ one_passes p (a + 1) m i (right_true (p a) (list_all p (range_with_len (a + 1) m)) e) (omega arith) (omega arith)
]

module _ {N : Type 0} (st : Station N) where
  pub window_computed : (at : ℕ → World N) (k : ℕ) → EndsWindow st at k → ends_window st at k ≡ true
  unfolding ends_window
  window_computed at k e =
      let n : ℕ = 3 * length (at k).ring.ids in
      let long = e.long in
      let place = e.place in
      let calm = λ (i : ℕ). is_calm st (at (k - i)).ring.nodes in
      and_from (nat_le n k) (list_all calm (range_with_len 0 n) && (((at k).ring.rounds - 1) % 128 == 0)) (grind (arith, nat_tests))
      (and_from (list_all calm (range_with_len 0 n)) (((at k).ring.rounds - 1) % 128 == 0)
      (all_pass calm 0 n (λ i low high. e.calm (k - i) (omega arith) (omega arith))) (grind (arith, nat_tests)))

  pub window_from_computed : (at : ℕ → World N) (k : ℕ) → ends_window st at k ≡ true → EndsWindow st at k
  unfolding ends_window
  window_from_computed at k e =
      let n : ℕ = 3 * length (at k).ring.ids in
      let calm = λ (i : ℕ). is_calm st (at (k - i)).ring.nodes in
      let a = left_true (nat_le n k) (list_all calm (range_with_len 0 n) && (((at k).ring.rounds - 1) % 128 == 0)) e in
      let rest = right_true (nat_le n k) (list_all calm (range_with_len 0 n) && (((at k).ring.rounds - 1) % 128 == 0)) e in
      let all = left_true (list_all calm (range_with_len 0 n)) (((at k).ring.rounds - 1) % 128 == 0) rest in
      let b = right_true (list_all calm (range_with_len 0 n)) (((at k).ring.rounds - 1) % 128 == 0) rest in
      record {
        long = grind (arith, nat_tests);
        calm = λ j low high.
            let back : k - (k - j) ≡ j = omega arith in
            subst (λ (x : ℕ). IsCalm st at x) back (one_passes calm 0 n (k - j) all (omega arith) (omega arith));
        place = grind (arith, nat_tests);
      }

  no : {P : Type 0} (at : ℕ → World N) (k : ℕ) → ends_window st at k ≡ false → EndsWindow st at k → P
  no at k e w = absurd (clash (ends_window st at k) (window_computed at k w) e)
    where
      clash : (b : Bool) → b ≡ true → b ≡ false → ⊥
      clash b x y = cc

  -- what a search of m numbers from a on says
  abbrev Finds : (ℕ → World N) → ℕ → ℕ → Option ℕ → Type 0
  Finds at a m None = (j : ℕ) → a ≤ j → j < a + m → EndsWindow st at j → ⊥
  Finds at a m (Some k) = (a ≤ k) × ((k < a + m) × (EndsWindow st at k × ((j : ℕ) → a ≤ j → j < k → EndsWindow st at j → ⊥)))

  finds : (at : ℕ → World N) (a m : ℕ) → Finds at a m (find (ends_window st at) (range_with_len a m))
  finds at a zero = λ j low high w. absurd (omega arith)
  finds at a (suc m) = go (ends_window st at a) refl (find (ends_window st at) (range_with_len (a + 1) m)) (finds at (a + 1) m)
    where
      go : (b : Bool) → ends_window st at a ≡ b → (o : Option ℕ) → Finds at (a + 1) m o → Finds at a (suc m) (cond b (Some a) o)
      go true e o h = (omega arith, (omega arith, (window_from_computed at a e, λ j low high w. absurd (omega arith))))
      go false e None h = λ j low high w. elim (cases_eq j a) [
        | inl same ↦ no at a e (subst (λ (x : ℕ). EndsWindow st at x) same w)
        | inr other ↦ h j (omega arith) (omega arith) w
      ]
      go false e (Some k) h = (
        omega (arith, h.0),
        (
          omega (arith, h.1.0),
          (
            h.1.1.0,
            λ j low high w. elim (cases_eq j a) [
              | inl same ↦ no at a e (subst (λ (x : ℕ). EndsWindow st at x) same w)
              | inr other ↦ h.1.1.1 j (omega arith) high w
            ],
          ),
        ),
      )

  -- what a search up to a limit says
  abbrev Says : (ℕ → World N) → ℕ → Option ℕ → Type 0
  Says at limit None = NeverSettles st at limit
  Says at limit (Some k) = SettlesAt st at limit k

  says_by : (at : ℕ → World N) (limit : ℕ) (o : Option ℕ) → Finds at 0 (limit + 1) o → Says at limit o
  says_by at limit None h = λ j low w. h j (omega arith) (omega arith) w
  says_by at limit (Some k) h = record { within = omega (arith, h.1.0); window = h.1.1.0; first = λ j low w. h.1.1.1 j (omega arith) low w }

  pub says : (w : World N) (limit : ℕ) → Says (course st w) limit (settles_in st w limit)
  unfolding settles_in
  says w limit =
      says_by (course st w) limit (find (ends_window st (course st w)) (range_with_len 0 (limit + 1))) (finds (course st w) 0 (limit + 1))

  pub settles_if : (w : World N) (limit k : ℕ) → settles_in st w limit ≡ Some k → SettlesAt st (course st w) limit k
  settles_if w limit k e = subst (λ o. Says (course st w) limit o) e (says w limit)

  pub never_if : (w : World N) (limit : ℕ) → settles_in st w limit ≡ None → NeverSettles st (course st w) limit
  never_if w limit e = subst (λ o. Says (course st w) limit o) e (says w limit)

  only : (at : ℕ → World N) (limit k : ℕ) (o : Option ℕ) → Says at limit o → SettlesAt st at limit k → o ≡ Some k
  only at limit k None h s = absurd (h k s.within s.window)
  only at limit k (Some j) h s = elim (cases_lt j k) [
    | inl before ↦ absurd (s.first j before h.window)
    | inr later ↦ elim (cases_lt k j) [
      | inl after ↦ absurd (h.first k after s.window)
      | inr same ↦ (let e : j ≡ k = omega arith in ap Some e)
    ]
  ]

  pub settles_only : (w : World N) (limit k : ℕ) → SettlesAt st (course st w) limit k → settles_in st w limit ≡ Some k
  settles_only w limit k s = only (course st w) limit k (settles_in st w limit) (says w limit) s

  never : (at : ℕ → World N) (limit : ℕ) (o : Option ℕ) → Says at limit o → NeverSettles st at limit → o ≡ None
  never at limit None h s = refl
  never at limit (Some j) h s = absurd (s j h.within h.window)

  pub never_only : (w : World N) (limit : ℕ) → NeverSettles st (course st w) limit → settles_in st w limit ≡ None
  never_only w limit s = never (course st w) limit (settles_in st w limit) (says w limit) s
