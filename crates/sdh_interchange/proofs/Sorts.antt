-- Choices that need no payload, or no frame.
use Rattle.std.proofs.Common.{◌≡◌, ℕ, ◌%◌, ◌<◌, Bool, true, false, List, length, get_or, inl, inr, sym, ◌∙◌}
use Rattle.std.specs.List.{list_any}
use Rattle.std.proofs.lemmas.Bool.{cases_Bool}
use Rattle.std.proofs.lemmas.List.Folds.{list_any_at}
use Rattle.sdh_interchange.specs.declared.choose.Source.{Source}
use Rattle.sdh_interchange.specs.declared.choose.Source.TheVariants.{First, Second, Own, Ones}
use Rattle.sdh_interchange.specs.Choosing.{is_passed, is_own, picked, picked_at}
use Rattle.sdh_interchange.specs.Lanes.{IsPlain, IsExtra}

-- an element of a list in which none passes a test does not pass it
pub none_at : (p : Source → Bool) (sources : List Source) (j : ℕ) → list_any p sources ≡ false → j < length sources
    → p (get_or sources j Ones) ≡ false
none_at p sources j none h =
    elim (cases_Bool (p (get_or sources j Ones))) [
      | inl t ↦ absurd (let e : true ≡ false = sym (list_any_at p sources j Ones h t) ∙ none in cc)
      | inr f ↦ f
    ]

plain_lane : (n : ℕ) (s : Source) (own : List (List ℕ)) (i : ℕ) → is_own s ≡ false → IsPlain n s own i
plain_lane n (First au) own i h = tt
plain_lane n (Second au) own i h = tt
plain_lane n (Own k) own i h = absurd (cc)
plain_lane n Ones own i h = tt

pub plain_without : (n : ℕ) (sources : List Source) (own : List (List ℕ)) (i : ℕ) → list_any is_own sources ≡ false → i % n < length sources
    → IsPlain n (get_or sources (i % n) Ones) own i
plain_without n sources own i none h = plain_lane n (get_or sources (i % n) Ones) own i (none_at is_own sources (i % n) none h)

extra_lane : (n : ℕ) (s : Source) (first second : List ℕ) (own : List (List ℕ)) (i x : ℕ) → is_passed s ≡ false → IsExtra n s own i x
    → x ≡ picked n s first second own i
extra_lane n (First au) first second own i x h is = absurd (cc)
extra_lane n (Second au) first second own i x h is = absurd (cc)
extra_lane n (Own k) first second own i x h is = is
extra_lane n Ones first second own i x h is = is

pub extra_without : (n : ℕ) (sources : List Source) (first second : List ℕ) (own : List (List ℕ)) (i x : ℕ)
    → list_any is_passed sources ≡ false → i % n < length sources → IsExtra n (get_or sources (i % n) Ones) own i x
    → x ≡ picked_at n sources first second own i
extra_without n sources first second own i x none h is =
    extra_lane n (get_or sources (i % n) Ones) first second own i x (none_at is_passed sources (i % n) none h) is
