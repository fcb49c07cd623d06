-- Lists: how many elements pass a test, and which. Where exactly one passes it is the only one; where more do there is
-- another.
use Rattle.std.proofs.Common.{◌≡◌, ◌≢◌, ℕ, ◌+◌, ◌<◌, suc, zero, Bool, true, false, List, [], ◌∷◌, length, get_or, refl, ap, ◌∙◌, arith}
use Rattle.std.specs.Prelude.{cond, count_by}
use Rattle.std.proofs.lemmas.List.Sums.{sum_by-cons, get_or-le-sum_by}

-- how many pass a test
module _ {X : Type 0} (p : X → Bool) where
  count-cons : (x : X) (xs : List X) (b : Bool) → p x ≡ b → count_by p (x ∷ xs) ≡ cond b 1 0 + count_by p xs
  count-cons x xs b e = sum_by-cons (λ x. cond (p x) 1 0) x xs ∙ ap (λ t. cond t 1 0 + count_by p xs) e

  count_at : (xs : List X) (i : ℕ) (d : X) → i < length xs → p (get_or xs i d) ≡ true → 0 < count_by p xs
  count_at xs i d h e =
      let x = get_or-le-sum_by (λ x. cond (p x) 1 0) xs i d h in
      let y = ap (λ (t : Bool). cond {A = ℕ} t 1 0) e in
      omega arith

  abbrev Passes : List X → X → Type 0
  Passes xs d = (j : ℕ) × (j < length xs) × (p (get_or xs j d) ≡ true)

  count_some_by : (x : X) (xs : List X) (d : X) (b : Bool) → p x ≡ b → count_by p (x ∷ xs) ≢ 0 → (count_by p xs ≢ 0 → Passes xs d)
      → Passes (x ∷ xs) d
  count_some_by x xs d true e h more = (zero, omega arith, e)
  count_some_by x xs d false e h more =
      let c = count-cons x xs false e in
      let t = more (λ z. h (omega arith)) in
      (suc t.0, let y = t.1 in omega arith, t.2)

  count_some : (xs : List X) (d : X) → count_by p xs ≢ 0 → Passes xs d
  count_some [] d h = absurd (h refl)
  count_some (x ∷ xs) d h = count_some_by x xs d (p x) refl h (λ g. count_some xs d g)

  -- where one element passes, two places of elements that pass are one
  pub count_one : (xs : List X) (i j : ℕ) (d : X) → count_by p xs ≡ 1 → i < length xs → j < length xs → p (get_or xs i d) ≡ true
      → p (get_or xs j d) ≡ true → i ≡ j
  count_one [] i j d c h g e f = absurd (omega arith)
  count_one (x ∷ xs) zero zero d c h g e f = refl
  count_one (x ∷ xs) zero (suc j) d c h g e f = let y = count-cons x xs true e in let z =
      count_at xs j d (omega arith) f in absurd (omega arith)
  count_one (x ∷ xs) (suc i) zero d c h g e f = let y = count-cons x xs true f in let z =
      count_at xs i d (omega arith) e in absurd (omega arith)
  count_one (x ∷ xs) (suc i) (suc j) d c h g e f =
      let y = count-cons x xs (p x) refl in
      let z = count_at xs i d (omega arith) e in
      ap suc (count_one xs i j d (omega arith) (omega arith) (omega arith) e f)

  abbrev pub Another : List X → ℕ → X → Type 0
  Another xs i d = (j : ℕ) × (j < length xs) × (j ≢ i) × (p (get_or xs j d) ≡ true)

  count_more_by : (x : X) (xs : List X) (i : ℕ) (d : X) (b : Bool) → p x ≡ b → count_by p (x ∷ xs) ≢ 1
      → (count_by p xs ≢ 1 → Another xs i d) → Another (x ∷ xs) (suc i) d
  count_more_by x xs i d true e h more = (zero, omega arith, λ z. omega arith, e)
  count_more_by x xs i d false e h more =
      let c = count-cons x xs false e in
      let t = more (λ z. h (omega arith)) in
      (suc t.0, let y = t.1 in omega arith, λ z. t.2 (omega arith), t.3)

  -- where not exactly one passes, beside one that passes there is another
  pub count_more : (xs : List X) (i : ℕ) (d : X) → count_by p xs ≢ 1 → i < length xs → p (get_or xs i d) ≡ true → Another xs i d
  count_more [] i d c h e = absurd (omega arith)
  count_more (x ∷ xs) zero d c h e =
      let y = count-cons x xs true e in
      let t = count_some xs d (λ z. c (omega arith)) in
      (suc t.0, let y = t.1 in omega arith, λ z. omega arith, t.2)
  count_more (x ∷ xs) (suc i) d c h e = count_more_by x xs i d (p x) refl c (λ g. count_more xs i d g (omega arith) e)
