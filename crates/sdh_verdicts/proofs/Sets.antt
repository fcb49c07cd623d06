-- Sets of spans, by marks.
use Rattle.std.proofs.Common.{◌≡◌, ℕ, zero, suc, ◌+◌, ◌%◌, ◌<◌, ◌≤◌, Bool, true, false, List, [], ◌∷◌, ◌++◌, length, get_or, take, refl, ap, ◌∙◌}
use Rattle.std.proofs.Common.{arith, subst, sym, map, Some, inl, inr, length-append}
use Rattle.std.specs.Prelude.{if◌then◌else◌, slice_get}
use Rattle.std.proofs.Math.Nat.{mod-lt}
use Rattle.std.proofs.Math.Seq.{get_or-append_seam}
use Rattle.std.proofs.lemmas.Bool.{cases_lt}
use Rattle.std.proofs.lemmas.List.{append-nil, get_or-take, get_or_append_left, length-take-le}
use Rattle.std.proofs.lemmas.Option.{same_Some}
use Rattle.sdh_ringmap.specs.declared.terms.Code.{Code}
use Rattle.sdh_ringmap.specs.Requests.{code_number}
use Rattle.sdh_circuits.specs.Provisioned.{Provisioned}
use Rattle.sdh_circuits.specs.Provisioning.{Provisioning}
use Rattle.sdh_verdicts.specs.declared.judging.SpanSet.{SpanSet}
use Rattle.sdh_verdicts.specs.Verdicts.{AreSpans, places_below}
use Rattle.sdh_verdicts.proofs.Counts.{counted_same}

places_same : (p q : ℕ → Bool) (k : ℕ) → ((s : ℕ) → s < k → p s ≡ q s) → places_below p k ≡ places_below q k
places_same p q zero same = refl
places_same p q (suc k) same =
    let here : p k ≡ q k = same k (omega arith) in
    ap (λ l. l ++ (if p k then k ∷ [] else [])) (places_same p q k (λ s low. same s (omega (arith, low))))
    ∙ ap (λ b. places_below q k ++ (if b then k ∷ [] else [])) here

-- spans for which one test holds are those for which another does
module _ (n : ℕ) (p q : ℕ → Bool) (a : SpanSet) (enough : 1 ≤ n) (same : (s : ℕ) → s < n → p s ≡ q s) where
  spans_turned : AreSpans n p a → AreSpans n q a
  spans_turned are = record {
    before = λ i low. are.before i low ∙ counted_same (λ j. p (j % n)) (λ j. q (j % n)) i (λ j. same (j % n) (mod-lt j enough));
    among = λ s low. are.among s low ∙ same s low;
    listed = are.listed ∙ places_same p q n same;
    fit = are.fit;
    some = are.some;
    few = are.few;
  }

pub of_marks : (n : ℕ) (q : ℕ → Bool) (marks : List Bool) (a : SpanSet) → 1 ≤ n → n ≤ length marks
    → ((s : ℕ) → s < n → get_or marks s false ≡ q s)
    → AreSpans (length (take n marks)) (λ s. get_or (take n marks) s false) a → AreSpans n q a
of_marks n q marks a enough within same are =
    let p : ℕ → Bool = λ s. get_or (take n marks) s false in
    let here : AreSpans n p a = subst (λ m. AreSpans m p a) (length-take-le n marks within) are in
    spans_turned n p q a enough (λ s low. get_or-take n marks s false low ∙ same s low) here

-- the same set under the requests of a plan's spans, where the list that was read has room for more
pub spans_of_requests : (test : List ℕ → ℕ → Bool) (n m : ℕ) (codes : List Code) (rs : List ℕ) (a : SpanSet) → n ≡ m → n ≤ length codes
    → map code_number (take m codes) ≡ rs → AreSpans (length (take n codes)) (test (map code_number (take n codes))) a
    → AreSpans m (test rs) a
spans_of_requests test n m codes rs a same few told are =
    subst (λ l. AreSpans m (test l) a) (ap (λ k. map code_number (take k codes)) same ∙ told)
    (subst (λ k. AreSpans k (test (map code_number (take n codes))) a) (length-take-le n codes few ∙ same) are)

-- what was told of a circuit of a plan's ring is told of this one: both are read at one place
pub told_by : {A : Type 0} (under : ℕ → (ℕ → Bool) → Provisioned → A) (p : ℕ → Bool) (a : SpanSet) (ring nodes : List ℕ)
    (v w : Provisioning) (i : ℕ) (c d : Provisioned) (x : A) → ring ≡ nodes → v ≡ w → slice_get v.circuits i ≡ Some c
    → slice_get w.circuits i ≡ Some d → AreSpans (length nodes) p a
    → ((q : ℕ → Bool) → AreSpans (length ring) q a → x ≡ under (length ring) q c) → x ≡ under (length nodes) p d
told_by under p a ring nodes v w i c d x same read got is are told =
    let one : c ≡ d = same_Some c d (sym (ap (λ (u : Provisioning). slice_get u.circuits i) (sym read) ∙ got) ∙ is) in
    told p (subst (λ l. AreSpans (length l) p a) (sym same) are) ∙ ap (λ l. under (length l) p c) same
    ∙ ap (under (length nodes) p) one

-- ---- one span more

-- ---- which they are

-- each is one of the places
pub places_low : (p : ℕ → Bool) (k i : ℕ) → i < length (places_below p k) → get_or (places_below p k) i 0 < k
places_low p zero i low = absurd (omega (arith, low))
places_low p (suc k) i low = by (p k) low (λ inside. places_low p k i inside)
  where
    by : (b : Bool) → i < length (places_below p k ++ (if b then k ∷ [] else []))
        → (i < length (places_below p k) → get_or (places_below p k) i 0 < k)
        → get_or (places_below p k ++ (if b then k ∷ [] else [])) i 0 < suc k
    by true h low = elim (cases_lt i (length (places_below p k))) [
      | inl inside ↦ (let here : get_or (places_below p k ++ k ∷ []) i 0 ≡ get_or (places_below p k) i 0 =
          get_or_append_left (places_below p k) (k ∷ []) 0 i inside in omega (arith, here, low inside))
      | inr past ↦ (let size : length (places_below p k ++ k ∷ []) ≡ length (places_below p k) + 1 = length-append (places_below p k) (k ∷ []) in
          let at : i ≡ length (places_below p k) = omega (arith, h, size, past) in
          let here : get_or (places_below p k ++ k ∷ []) i 0 ≡ k =
          ap (λ j. get_or (places_below p k ++ k ∷ []) j 0) at ∙ get_or-append_seam (places_below p k) k [] 0 in omega (arith, here))
    ]
    by false h low =
        let same : places_below p k ++ [] ≡ places_below p k = append-nil (places_below p k) in
        let inside : i < length (places_below p k) = subst (λ (l : List ℕ). i < length l) same h in
        let here : get_or (places_below p k ++ []) i 0 ≡ get_or (places_below p k) i 0 = ap (λ (l : List ℕ). get_or l i 0) same in
        omega (arith, here, low inside)
