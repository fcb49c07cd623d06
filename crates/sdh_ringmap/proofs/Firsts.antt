-- Lists of numbers that pass both searches are identifiers.
use Rattle.std.proofs.Common.{◌≡◌, ◌≢◌, ℕ, zero, suc, ◌+◌, ◌<◌, ◌≤◌, List, length, map, take, get_or, Bool, true, false, not, cond, nat_lt}
use Rattle.std.proofs.Common.{Option, None, Some, refl, sym, ap, ◌∙◌, arith, ltb-false}
use Rattle.std.specs.Prelude.{ℤ, pos, negsuc, slice_index}
use Rattle.std.proofs.Math.Bool.{not-not}
use Rattle.std.specs.Ordering.{int_eq}
use Rattle.std.specs.List.{find, range_with_len, position_or_len}
use Rattle.std.proofs.lemmas.List.Folds.{list_any_at}
use Rattle.std.proofs.lemmas.List.Sums.{prefix_len_passes}
use Rattle.std.proofs.lemmas.List.{get_or-map, get_or-take, get_or_default, ext_get_or, length-map, length-take-le}
use Rattle.std.proofs.lemmas.Bool.Decides.{Decides-int_eq}
use Rattle.sdh_ringmap.specs.Ids.{AreIds}
use Rattle.sdh_ringmap.specs.Numbering.{is_id, magnitude, first_unfit, first_repeat, stood_before}

-- where a search finds nothing, the first number is not marked
unmarked_first : (b : Bool) (x : ℕ) (o : Option ℕ) → cond b (Some x) o ≡ None → (b ≡ false)
unmarked_first true x o e = cc
unmarked_first false x o e = refl

unmarked_rest : (b : Bool) (x : ℕ) (o : Option ℕ) → cond b (Some x) o ≡ None → o ≡ None
unmarked_rest true x o e = cc
unmarked_rest false x o e = e

-- no number is marked where none is found
pub unmarked : (p : ℕ → Bool) (a n k : ℕ) → find p (range_with_len a n) ≡ None → k < n → p (a + k) ≡ false
unmarked p a zero k e h = absurd (omega arith)
unmarked p a (suc n) zero e h = ap p (omega arith) ∙ unmarked_first (p a) a (find p (range_with_len (a + 1) n)) e
unmarked p a (suc n) (suc k) e h =
    ap p (omega arith) ∙ unmarked p (a + 1) n k (unmarked_rest (p a) a (find p (range_with_len (a + 1) n)) e) (omega arith)

-- each number is an identifier where no other is found
pub fit : (ids : List ℤ) (k : ℕ) (d : ℤ) → first_unfit ids ≡ None → k < length ids → is_id (get_or ids k d) ≡ true
fit ids k d e h =
    let l = position_or_len (λ z. not (is_id z)) ids in
    let none : nat_lt l (length ids) ≡ false = unmarked_first (nat_lt l (length ids)) l None e in
    let past : length ids ≤ l = ltb-false l (length ids) none in
    sym (not-not (is_id (get_or ids k d))) ∙ prefix_len_passes (λ z. not (not (is_id z))) ids k d (omega arith)

small_of : (z : ℤ) → is_id z ≡ true → magnitude z < 16
small_of (pos n) h = grind arith
small_of (negsuc n) h = cc

-- identifiers of one magnitude are one number
pub same_of : (y z : ℤ) → is_id y ≡ true → is_id z ≡ true → magnitude y ≡ magnitude z → y ≡ z
same_of (pos m) (pos n) hy hz e = ap pos e
same_of (pos m) (negsuc n) hy hz e = cc
same_of (negsuc m) z hy hz e = cc

-- no earlier number is equal to a later one
pub apart : (ids : List ℤ) (i j : ℕ) (d : ℤ) → first_repeat ids ≡ None → i < j → j < length ids → get_or ids i d ≢ get_or ids j d
apart ids i j d e lt h same =
    let none : stood_before ids j ≡ false = ap (stood_before ids) (omega arith) ∙ unmarked (stood_before ids) 0 (length ids) j e h in
    let here : int_eq (get_or (take j ids) i d) (get_or ids j (pos 0)) ≡ true =
    (Decides-int_eq (get_or (take j ids) i d) (get_or ids j (pos 0))).1
    (get_or-take j ids i d lt ∙ same ∙ get_or_default ids j d (pos 0) h) in
    let found : stood_before ids j ≡ true =
    list_any_at (λ y. int_eq y (get_or ids j (pos 0))) (take j ids) i d (omega (arith, length-take-le j ids)) here in
    let no : false ≡ true = sym none ∙ found in
    cc

-- of two places with one number neither is the earlier
one_place : (ids : List ℤ) (i j : ℕ) → first_repeat ids ≡ None → i < length ids → j < length ids
    → get_or ids i (pos 0) ≡ get_or ids j (pos 0) → i ≡ j
one_place ids i j e hi hj same =
    let up : i < j → ⊥ = λ lt. apart ids i j (pos 0) e lt hj same in
    let down : j < i → ⊥ = λ lt. apart ids j i (pos 0) e lt hi (sym same) in
    omega (arith, up, down)

pub are_ids : (ids : List ℤ) → 2 ≤ length ids → length ids ≤ 16 → first_unfit ids ≡ None → first_repeat ids ≡ None
    → AreIds (map magnitude ids)
are_ids ids two many unfit repeats =
    let len : length (map magnitude ids) ≡ length ids = simp length-map in
    let at : (i : ℕ) → i < length (map magnitude ids) → slice_index (map magnitude ids) i ≡ magnitude (get_or ids i (pos 0)) =
    λ i h. get_or-map magnitude ids i (pos 0) 0 (omega arith) in
    let fits : (i : ℕ) → i < length (map magnitude ids) → is_id (get_or ids i (pos 0)) ≡ true =
    λ i h. fit ids i (pos 0) unfit (omega arith) in
    record {
      few = omega arith;
      enough = omega arith;
      small = λ i h. omega (arith, at i h, small_of (get_or ids i (pos 0)) (fits i h));
      distinct = λ i j hi hj e. one_place ids i j repeats (omega arith) (omega arith)
          (same_of (get_or ids i (pos 0)) (get_or ids j (pos 0)) (fits i hi) (fits j hj) (sym (at i hi) ∙ e ∙ at j hj));
    }

kept : (z : ℤ) → is_id z ≡ true → pos (magnitude z) ≡ z
kept (pos n) h = refl
kept (negsuc n) h = cc

-- identifiers are their magnitudes
pub same_numbers : (ids : List ℤ) → first_unfit ids ≡ None → map pos (map magnitude ids) ≡ ids
same_numbers ids unfit =
    let len : length (map magnitude ids) ≡ length ids = simp length-map in
    let all : length (map pos (map magnitude ids)) ≡ length ids = simp length-map in
    ext_get_or (pos 0) (map pos (map magnitude ids)) ids all
    (λ i h. get_or-map pos (map magnitude ids) i 0 (pos 0) (omega arith)
    ∙ ap pos (get_or-map magnitude ids i (pos 0) 0 (omega arith))
    ∙ kept (get_or ids i (pos 0)) (fit ids i (pos 0) unfit (omega arith)))
