-- The first circuits that share a slot.
use Rattle.std.proofs.Common.{◌≡◌, ℕ, zero, suc, ◌+◌, ◌<◌, ◌≤◌, Bool, true, false, cond, List, [], ◌∷◌, length, Option, Some, None, inl}
use Rattle.std.proofs.Common.{inr, refl, ap, sym, arith, eqb-true, eq-eqb, ◌∙◌}
use Rattle.std.specs.Prelude.{find, slice_get}
use Rattle.std.specs.List.{range_with_len}
use Rattle.std.specs.Option.{is_some, option_map_or}
use Rattle.std.proofs.lemmas.Bool.{cases_lt}
use Rattle.sdh_circuits.specs.Provisioned.{Provisioned}
use Rattle.std.proofs.lemmas.Option.{slice_get_within}
use Rattle.sdh_sncp.specs.Fixed.{AreAlone}
use Rattle.sdh_sncp.specs.Sharing.{Share, AreFirstToShare, slot_at, share, first_before, has_before, first_second}

-- ---- the first number that is marked

pub record IsFirst (p : ℕ → Bool) (a n i : ℕ) : Type 0 where
  pub from : a ≤ i
  pub below : i < a + n
  pub marked : p i ≡ true
  pub least : (k : ℕ) → a ≤ k → k < i → p k ≡ false

first_step : (p : ℕ → Bool) (a n i : ℕ) (b : Bool) → p a ≡ b → (rest : Option ℕ) → (rest ≡ Some i → IsFirst p (a + 1) n i)
    → cond b (Some a) rest ≡ Some i → IsFirst p a (suc n) i
first_step p a n i true e rest later is = let same : a ≡ i =
    cc in record { from = omega arith; below = omega arith; marked = ap p (sym same) ∙ e; least = λ k low high. absurd (omega arith) }
first_step p a n i false e rest later is =
    let l = later is in
    record {
      from = let f = l.from in omega arith;
      below = let f = l.below in omega arith;
      marked = l.marked;
      least = λ k low high. elim (cases_lt a k) [
        | inl more ↦ l.least k (omega arith) high
        | inr here ↦ ap p (let z : k ≡ a = omega arith in z) ∙ e
      ];
    }

pub first_marked : (p : ℕ → Bool) (a n i : ℕ) → find p (range_with_len a n) ≡ Some i → IsFirst p a n i
first_marked p a zero i e = absurd (cc)
first_marked p a (suc n) i e = first_step p a n i (p a) refl (find p (range_with_len (a + 1) n)) (first_marked p (a + 1) n i) e

none_step : (p : ℕ → Bool) (a n k : ℕ) (b : Bool) → p a ≡ b → (rest : Option ℕ) → (rest ≡ None → a + 1 ≤ k → k < a + 1 + n → p k ≡ false)
    → cond b (Some a) rest ≡ None → a ≤ k → k < a + suc n → p k ≡ false
none_step p a n k true e rest later is low high = absurd (cc)
none_step p a n k false e rest later is low high = elim (cases_lt a k) [
  | inl more ↦ later is (omega arith) (omega arith)
  | inr here ↦ ap p (let z : k ≡ a = omega arith in z) ∙ e
]

pub none_marked : (p : ℕ → Bool) (a n k : ℕ) → find p (range_with_len a n) ≡ None → a ≤ k → k < a + n → p k ≡ false
none_marked p a zero k e low high = absurd (omega arith)
none_marked p a (suc n) k e low high =
    none_step p a n k (p a) refl (find p (range_with_len (a + 1) n)) (λ rest more less. none_marked p (a + 1) n k rest more less) e low high

-- ---- circuits

slot_is : (cs : List Provisioned) (i : ℕ) (c : Provisioned) → slice_get cs i ≡ Some c → slot_at cs i ≡ c.slot.0
unfolding slot_at
slot_is cs i c get = ap (λ o. option_map_or (λ (c : Provisioned). c.slot.0) o 0) get

share_if : (cs : List Provisioned) (i j : ℕ) → Share cs i j → share cs j i ≡ true
unfolding share
share_if cs i j s =
    eq-eqb (slot_at cs i) (slot_at cs j) (slot_is cs i s.first s.first_is ∙ s.slot ∙ sym (slot_is cs j s.second s.second_is))

shares : (cs : List Provisioned) (i j : ℕ) (c d : Provisioned) → slice_get cs i ≡ Some c → slice_get cs j ≡ Some d → share cs j i ≡ true
    → Share cs i j
unfolding share
shares cs i j c d ic jd e = record {
  first = c;
  second = d;
  first_is = ic;
  second_is = jd;
  slot = sym (slot_is cs i c ic)
      ∙ eqb-true (slot_at cs i) (slot_at cs j) e ∙ slot_is cs j d jd;
}

-- none before number j shares its slot
none_before : (cs : List Provisioned) (j : ℕ) → has_before cs j ≡ false → first_before cs j ≡ None
unfolding has_before
none_before cs j e = by (first_before cs j) e
  where
    by : (o : Option ℕ) → is_some o ≡ false → o ≡ None
    by None e = refl
    by (Some i) e = absurd (cc)

none_shares : (cs : List Provisioned) (j : ℕ) → has_before cs j ≡ false → (k : ℕ) → k < j → Share cs k j → ⊥
unfolding first_before
none_shares cs j e k less s =
    let no : share cs j k ≡ false = none_marked (share cs j) 0 j k (none_before cs j e) (omega arith) (omega arith) in
    let yes = share_if cs k j s in
    cc

pub are_first : (cs : List Provisioned) (i j : ℕ) (c d : Provisioned) → find (has_before cs) (range_with_len 0 (length cs)) ≡ Some j
    → first_before cs j ≡ Some i → slice_get cs i ≡ Some c → slice_get cs j ≡ Some d → AreFirstToShare cs i j
unfolding first_before
are_first cs i j c d second first ic jd =
    let s = first_marked (has_before cs) 0 (length cs) j second in
    let f = first_marked (share cs j) 0 j i first in
    record {
      share = shares cs i j c d ic jd f.marked;
      order = let b = f.below in omega arith;
      least_second = λ k l kl lj same. none_shares cs l (s.least l (omega arith) lj) k kl same;
      least_first = λ k ki same. (
          let no : share cs j k ≡ false = f.least k (omega arith) ki in
          let yes = share_if cs k j same in
          cc);
    }

pub are_alone : (cs : List Provisioned) → find (has_before cs) (range_with_len 0 (length cs)) ≡ None → AreAlone cs
are_alone cs none i j c d ic jd same = elim (cases_lt i j) [
  | inl less ↦ absurd (none_shares cs j (none_marked (has_before cs) 0 (length cs) j none (omega arith)
      (let h = slice_get_within cs j d jd in omega arith)) i less
      (record { first = c; second = d; first_is = ic; second_is = jd; slot = same }))
  | inr most ↦ elim (cases_lt j i) [
    | inl less ↦ absurd (none_shares cs i (none_marked (has_before cs) 0 (length cs) i none (omega arith)
        (let h = slice_get_within cs i c ic in omega arith)) j less
        (record { first = d; second = c; first_is = jd; second_is = ic; slot = sym same }))
    | inr least ↦ omega arith
  ]
]

-- ---- the same, by what the searches give

there : (cs : List Provisioned) (i : ℕ) → i < length cs → (c : Provisioned) × (slice_get cs i ≡ Some c)
there [] i lt = absurd (omega arith)
there (c ∷ cs) zero lt = (c, refl)
there (c ∷ cs) (suc i) lt = there cs i (omega arith)

pub alone_if : (cs : List Provisioned) → first_second cs ≡ None → AreAlone cs
unfolding first_second
alone_if cs none = are_alone cs none

pub first_if : (cs : List Provisioned) (i j : ℕ) → first_second cs ≡ Some j → first_before cs j ≡ Some i → AreFirstToShare cs i j
unfolding first_second first_before
first_if cs i j second first =
    let s = first_marked (has_before cs) 0 (length cs) j second in
    let f = first_marked (share cs j) 0 j i first in
    let y = there cs j (let b = s.below in omega arith) in
    let x = there cs i (let a = f.below in let b = s.below in omega arith) in
    are_first cs i j x.0 y.0 second first x.1 y.1

pub some_before : (cs : List Provisioned) (j : ℕ) → first_second cs ≡ Some j → first_before cs j ≡ None → ⊥
unfolding first_second has_before
some_before cs j second none =
    let s = (first_marked (has_before cs) 0 (length cs) j second).marked in
    let no : is_some (first_before cs j) ≡ false = ap is_some none in
    cc
