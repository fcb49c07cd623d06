-- The highest of some requests, request by request, and a span that has it.
use Rattle.std.proofs.Common.{◌≡◌, ℕ, ◌+◌, ◌<◌, suc, List, [], ◌∷◌, ◌++◌, length, map, max, take, get_or, slice_index, refl, sym, ap, ◌∙◌}
use Rattle.std.proofs.Common.{arith, inl, inr}
use Rattle.std.proofs.lemmas.Bool.{cases_lt}
use Rattle.std.proofs.lemmas.List.{map-append, take_more}
use Rattle.sdh_restoration.specs.Applied.{highest}

pub highest-push : (rs : List ℕ) (r : ℕ) → highest (rs ++ r ∷ []) ≡ max r (highest rs)
highest-push [] r = refl
highest-push (x ∷ rs) r = let h = highest-push rs r in omega arith

-- the highest number of the items of a list, with one more item
pub highest_more : {X : Type 0} (f : X → ℕ) (xs : List X) (i : ℕ) (d : X) → i < length xs
    → highest (map f (take (i + 1) xs)) ≡ max (f (get_or xs i d)) (highest (map f (take i xs)))
highest_more f xs i d h =
    ap (λ l. highest (map f l)) (take_more xs i d h) ∙ ap highest (map-append f (take i xs) (get_or xs i d ∷ []))
    ∙ highest-push (map f (take i xs)) (f (get_or xs i d))

-- a step of a loop: the item at i has the number y, and m is the highest before it
pub highest_step : {X : Type 0} (f : X → ℕ) (xs : List X) (i : ℕ) (d : X) (y m r : ℕ) → i < length xs → y ≡ f (get_or xs i d)
    → m ≡ highest (map f (take i xs)) → r ≡ max y m
    → r ≡ highest (map f (take (i + 1) xs))
highest_step f xs i d y m r h is before more =
    more ∙ ap (λ k. max k m) is ∙ ap (λ k. max (f (get_or xs i d)) k) before ∙ sym (highest_more f xs i d h)

-- a span with the highest request
pub record IsTop (rs : List ℕ) : Type 0 where
  pub place : ℕ
  pub inside : place < length rs
  pub top : slice_index rs place ≡ highest rs

pub top_of : (rs : List ℕ) → 0 < length rs → IsTop rs
top_of [] h = absurd (omega arith)
top_of (r ∷ []) h = record { place = 0; inside = omega arith; top = omega arith }
top_of (r ∷ s ∷ rs) h = elim (cases_lt r (highest (s ∷ rs))) [
  | inl less ↦ (let t = top_of (s ∷ rs) (omega arith) in record {
    place = suc t.place;
    inside = (let b = t.inside in omega arith);
    top = t.top ∙ omega arith;
  })
  | inr more ↦ record { place = 0; inside = omega arith; top = omega arith }
]
