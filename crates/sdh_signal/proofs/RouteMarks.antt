-- The first and the last place at which a test holds.
use Rattle.std.proofs.Common.{◌≡◌, ℕ, ◌+◌, ◌<◌, ◌≤◌, suc, zero, Bool, true, false, refl, ap, sym, subst, ◌∙◌, arith, inl, inr, ◌⊎◌}
use Rattle.std.specs.Prelude.{not, if◌then◌else◌}
use Rattle.std.proofs.lemmas.Bool.{and_cases, both_ways, not-false, cases_eq, true≢false}
use Rattle.sdh_restoration.specs.Routes.{last_place, places_before}
use Rattle.sdh_ringmap.specs.Arcs.{none_of}

-- the first place, of k from a on
pub record IsFirst (p : ℕ → Bool) (a k f : ℕ) : Type 0 where
  pub from : a ≤ f
  pub below : f < a + k
  pub holds : p f ≡ true
  pub before : (j : ℕ) → a ≤ j → j < f → p j ≡ false

first_by : (p : ℕ → Bool) (a k : ℕ) (b : Bool) → p a ≡ b → (b ≡ false → IsFirst p (suc a) k (suc a + places_before p (suc a) k))
    → IsFirst p a (suc k) (a + (if b then 0 else suc (places_before p (suc a) k)))
first_by p a k true e rest = record {
  from = omega arith;
  below = omega arith;
  holds = ap p (omega arith)
      ∙ e;
  before = λ j h g. absurd (omega arith);
}
first_by p a k false e rest =
    let r = rest refl in
    let same : suc a + places_before p (suc a) k ≡ a + suc (places_before p (suc a) k) = omega arith in
    record {
      from = omega arith;
      below = let b = r.below in omega arith;
      holds = ap p (sym same) ∙ r.holds;
      before = λ j h g. elim (cases_eq a j) [ inl here ↦ ap p (sym here) ∙ e | inr there ↦ r.before j (omega arith) (omega arith) ];
    }

pub first-is : (p : ℕ → Bool) (a k : ℕ) → none_of p a k ≡ false → IsFirst p a k (a + places_before p a k)
first-is p a zero e = absurd (true≢false e)
first-is p a (suc k) e =
    first_by p a k (p a) refl (λ none. first-is p (suc a) k (rest (and_cases (not (p a)) (none_of p (suc a) k) e) none)) where
      rest : (not (p a) ≡ false) ⊎ (none_of p (suc a) k ≡ false) → p a ≡ false → none_of p (suc a) k ≡ false
      rest (inl t) none = absurd (both_ways (p a) none (not-false (p a) t))
      rest (inr t) none = t

-- the last place below k
pub record IsLast (p : ℕ → Bool) (f k l : ℕ) : Type 0 where
  pub from : f ≤ l
  pub below : l < k
  pub holds : p l ≡ true
  pub after : (j : ℕ) → l < j → j < k → p j ≡ false

last_by : (p : ℕ → Bool) (f k : ℕ) (b : Bool) → p k ≡ b → f < suc k → p f ≡ true → (f < k → IsLast p f k (last_place p k))
    → IsLast p f (suc k) (if b then k else last_place p k)
last_by p f k true e h hit rest = record { from = omega arith; below = omega arith; holds = e; after = λ j g i. absurd (omega arith) }
last_by p f k false e h hit rest =
    let r = rest (elim (cases_eq f k) [ inl same ↦ absurd (both_ways (p k) e (ap p (sym same) ∙ hit)) | inr other ↦ omega arith ]) in
    record {
      from = r.from;
      below = let b = r.below in omega arith;
      holds = r.holds;
      after = λ j g i. elim (cases_eq j k) [ inl here ↦ ap p here ∙ e | inr there ↦ r.after j g (omega arith) ];
    }

pub last-is : (p : ℕ → Bool) (f k : ℕ) → f < k → p f ≡ true → IsLast p f k (last_place p k)
last-is p f zero h hit = absurd (omega arith)
last-is p f (suc k) h hit = last_by p f k (p k) refl h hit (λ g. last-is p f k g hit)

-- the first and the last marked place below k, where there is one
module _ (p : ℕ → Bool) (k : ℕ) (some : none_of p 0 k ≡ false) where
  pub first-place : IsFirst p 0 k (places_before p 0 k)
  first-place = subst (IsFirst p 0 k) {x = 0 + places_before p 0 k} (omega arith) (first-is p 0 k some)

  pub last-place : IsLast p (places_before p 0 k) k (last_place p k)
  last-place = last-is p (places_before p 0 k) k (let b = first-place.below in omega arith) first-place.holds
