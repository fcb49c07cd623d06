-- Whether an arc is clear of applied spans, by counts of them.
use Rattle.std.proofs.Common.{◌≡◌, ℕ, zero, suc, ◌+◌, ◌-◌, ◌*◌, ◌%◌, ◌<◌, ◌≤◌, Bool, true, false, nat_eq, refl, sym, ap, ◌∙◌, subst, arith}
use Rattle.std.proofs.Common.{eq-eqb}
use Rattle.std.specs.Prelude.{if◌then◌else◌, not, ◌&&◌, ◌||◌}
use Rattle.std.proofs.Math.Nat.{add-mod_left}
use Rattle.std.proofs.lemmas.Bool.{eqb-true, false_from_ne_true}
use Rattle.std.proofs.Common.{List, length, get_or, set, inl, inr}
use Rattle.std.proofs.lemmas.Bool.{cases_eq}
use Rattle.std.proofs.lemmas.List.{get_or-set_same, get_or-set_other}
use mir.Val.{bool_byte}
use Rattle.sdh_circuits.specs.Provisioned.{Provisioned, arc_of}
use Rattle.sdh_ringmap.specs.Arcs.{Arc, opposite_arc, none_of, is_clear, is_joined}
use Rattle.sdh_ringmap.proofs.Clear.{is_clear-opposite}
use Rattle.sdh_verdicts.specs.declared.judging.Verdict.{Verdict}
use Rattle.sdh_verdicts.specs.declared.judging.Verdict.TheVariants.{Kept, Over, Lost}
use Rattle.sdh_verdicts.specs.Verdicts.{count_below, verdict_under}
use Rattle.sdh_restoration.specs.Routes.{applied_at_place}

abbrev one : Bool → ℕ
one b = if b then 1 else 0

-- counted from place a on
pub counted_on : (p : ℕ → Bool) (a k : ℕ) → count_below p (a + k) ≡ count_below p a + count_below (λ i. p (a + i)) k
counted_on p a zero =
    let place : a + zero ≡ a = omega arith in
    let sum : count_below p a ≡ count_below p a + 0 = omega arith in
    ap (count_below p) place ∙ sum
counted_on p a (suc k) =
    let place : a + suc k ≡ suc (a + k) = omega arith in
    let rest = counted_on p a k in
    let sum : count_below p (a + k) + one (p (a + k)) ≡ count_below p a + (count_below (λ i. p (a + i)) k + one (p (a + k))) = omega (arith, rest) in
    ap (count_below p) place ∙ sum

pub counted_same : (p q : ℕ → Bool) (k : ℕ) → ((i : ℕ) → p i ≡ q i) → count_below p k ≡ count_below q k
counted_same p q zero same = refl
counted_same p q (suc k) same = ap (λ x. x + one (p k)) (counted_same p q k same) ∙ ap (λ b. count_below q k + one b) (same k)

pub grows : (p : ℕ → Bool) (i k : ℕ) → count_below p i ≤ count_below p (i + k)
grows p i k = omega (arith, counted_on p i k)

first_is : (p : ℕ → Bool) (i : ℕ) (b : Bool) → p i ≡ b → count_below p (suc i) ≡ count_below p i + one b
first_is p i b e = ap (λ c. count_below p i + one c) e

pub not_equal : (a b : ℕ) → (a ≡ b → ⊥) → nat_eq a b ≡ false
not_equal a b h = false_from_ne_true (nat_eq a b) (λ e. h (eqb-true a b e))

-- a test holds at none of the k places from i on exactly where the two counts are equal
pub none_by : (p : ℕ → Bool) (i k : ℕ) → none_of p i k ≡ nat_eq (count_below p (i + k)) (count_below p i)
none_by p i zero = let place : i + 0 ≡ i = omega arith in sym (eq-eqb (count_below p (i + 0)) (count_below p i) (ap (count_below p) place))
none_by p i (suc k) = by (p i) refl (none_by p (suc i) k)
  where
    place : suc i + k ≡ i + suc k
    place = omega arith

    by : (b : Bool) → p i ≡ b → none_of p (suc i) k ≡ nat_eq (count_below p (suc i + k)) (count_below p (suc i))
        → none_of p i (suc k) ≡ nat_eq (count_below p (i + suc k)) (count_below p i)
    by true e next =
        let more : count_below p (suc i) ≤ count_below p (i + suc k) = subst (λ x. count_below p (suc i) ≤ count_below p x) place (grows p (suc i) k) in
        let here : count_below p (suc i) ≡ count_below p i + 1 = first_is p i true e in
        let apart : nat_eq (count_below p (i + suc k)) (count_below p i) ≡ false =
        not_equal (count_below p (i + suc k)) (count_below p i) (λ same. omega (arith, more, here, same)) in
        ap (λ c. not c && none_of p (suc i) k) e ∙ sym apart
    by false e next =
        let sum : count_below p i + 0 ≡ count_below p i = omega arith in
        let here : count_below p (suc i) ≡ count_below p i = first_is p i false e ∙ sum in
        ap (λ c. not c && none_of p (suc i) k) e ∙ next ∙ ap (λ x. nat_eq (count_below p x) (count_below p (suc i))) place
        ∙ ap (nat_eq (count_below p (i + suc k))) here

module _ (n : ℕ) (applied : ℕ → Bool) (arc : Arc) where
  abbrev round_it : ℕ → Bool
  round_it j = applied (j % n)

  abbrev along : ℕ → Bool
  along = applied_at_place n applied arc

  inside_is : count_below along arc.spans ≡ count_below round_it (arc.start + arc.spans) - count_below round_it arc.start
  inside_is = omega (arith, counted_on round_it arc.start arc.spans)

  all_is : count_below along n ≡ count_below round_it n
  all_is =
      let here = counted_on round_it arc.start n in
      let there = counted_on round_it n arc.start in
      let same = counted_same (λ i. round_it (n + i)) round_it arc.start (λ i. ap applied (add-mod_left n i)) in
      let turned : arc.start + n ≡ n + arc.start = omega arith in
      let swap : count_below round_it (arc.start + n) ≡ count_below round_it (n + arc.start) = ap (count_below round_it) turned in
      omega (arith, here, there, same, swap)

  pub clear_by : is_clear n applied arc ≡ nat_eq (count_below round_it (arc.start + arc.spans) - count_below round_it arc.start) 0
  unfolding is_clear
  clear_by = let place : 0 + arc.spans ≡ arc.spans =
      omega arith in none_by along 0 arc.spans ∙ ap (λ x. nat_eq (count_below along x) 0) place ∙ ap (λ x. nat_eq x 0) inside_is

  pub opposite_by : arc.spans ≤ n → is_clear n applied (opposite_arc n arc)
      ≡ nat_eq (count_below round_it n) (count_below round_it (arc.start + arc.spans) - count_below round_it arc.start)
  opposite_by within =
      let place : arc.spans + (n - arc.spans) ≡ n = omega arith in
      is_clear-opposite n applied arc ∙ none_by along arc.spans (n - arc.spans)
      ∙ ap (λ x. nat_eq (count_below along x) (count_below along arc.spans)) place
      ∙ ap (λ x. nat_eq x (count_below along arc.spans)) all_is ∙ ap (nat_eq (count_below round_it n)) inside_is

-- no more are counted than there are places
pub counted_low : (p : ℕ → Bool) (k : ℕ) → count_below p k ≤ k
counted_low p zero = omega arith
counted_low p (suc k) = let h = counted_low p k in let o = small (p k) in omega arith
  where
    small : (b : Bool) → one b ≤ 1
    small true = omega arith
    small false = omega arith

byte_is : (b : Bool) → bool_byte b ≡ one b
byte_is true = refl
byte_is false = refl

byte_low : (b : Bool) → bool_byte b ≤ 1
byte_low true = omega arith
byte_low false = omega arith

-- the next count, kept in a list
pub count_fits : (p : ℕ → Bool) (before : List ℕ) (i byte : ℕ) (b : Bool) → ((j : ℕ) → j ≤ i → get_or before j 0 ≡ count_below p j) → i < 32
    → byte ≡ bool_byte b → get_or before i 0 + byte < 256
count_fits p before i byte b are low is = omega (arith, are i (omega arith), counted_low p i, is, byte_low b, low)

pub count_next : (p : ℕ → Bool) (before : List ℕ) (i byte : ℕ) (b : Bool) → ((j : ℕ) → j ≤ i → get_or before j 0 ≡ count_below p j)
    → i + 1 < length before → byte ≡ bool_byte b → b ≡ p i
    → (j : ℕ) → j ≤ i + 1 → get_or (set before (i + 1) (get_or before i 0 + byte)) j 0 ≡ count_below p j
count_next p before i byte b are inside is holds j low = elim (cases_eq j (i + 1)) [
  | inl here ↦ (let next : suc i ≡ i + 1 = omega arith in
      ap (λ x. get_or (set before (i + 1) (get_or before i 0 + byte)) x 0) here
      ∙ get_or-set_same before (i + 1) (get_or before i 0 + byte) 0 inside
      ∙ ap (λ x. x + byte) (are i (omega arith)) ∙ ap (λ x. count_below p i + x) (is ∙ byte_is b ∙ ap one holds) ∙ ap (count_below p) next
      ∙ ap (count_below p) (sym here))
  | inr other ↦ get_or-set_other before (i + 1) j (get_or before i 0 + byte) 0 other ∙ are j (omega arith)
]

-- a list that has the counts, and the places where an arc starts and ends
module _ (n : ℕ) (p : ℕ → Bool) (c : Provisioned) (before : List ℕ)
    (counts : (i : ℕ) → i ≤ 2 * n → get_or before i 0 ≡ count_below (λ j. p (j % n)) i)
    (first spans : ℕ) (first_at : first ≡ (arc_of n c).start) (spans_at : spans ≡ (arc_of n c).spans) (from : first < n)
    (within : spans < n) where
  abbrev inside : ℕ
  inside = get_or before (first + spans) 0 - get_or before first 0

  abbrev round_p : ℕ → Bool
  round_p j = p (j % n)

  pub never_less : get_or before first 0 ≤ get_or before (first + spans) 0
  never_less = omega (arith, counts first (omega arith), counts (first + spans) (omega arith), grows round_p first spans)

  inside_at : count_below round_p ((arc_of n c).start + (arc_of n c).spans) - count_below round_p (arc_of n c).start ≡ inside
  inside_at =
      let high : count_below round_p ((arc_of n c).start + (arc_of n c).spans) ≡ get_or before (first + spans) 0 =
      ap (λ x. count_below round_p (x + (arc_of n c).spans)) (sym first_at) ∙ ap (λ x. count_below round_p (first + x)) (sym spans_at)
      ∙ sym (counts (first + spans) (omega arith)) in
      let low : count_below round_p (arc_of n c).start ≡ get_or before first 0 =
      ap (count_below round_p) (sym first_at) ∙ sym (counts first (omega arith)) in
      ap (λ x. x - count_below round_p (arc_of n c).start) high ∙ ap (λ x. get_or before (first + spans) 0 - x) low

  clear_is : is_clear n p (arc_of n c) ≡ nat_eq inside 0
  clear_is = clear_by n p (arc_of n c) ∙ ap (λ x. nat_eq x 0) inside_at

  opposite_is : is_clear n p (opposite_arc n (arc_of n c)) ≡ nat_eq (get_or before n 0) inside
  opposite_is =
      opposite_by n p (arc_of n c) (omega (arith, spans_at)) ∙ ap (nat_eq (count_below round_p n)) inside_at
      ∙ ap (λ x. nat_eq x inside) (sym (counts n (omega arith)))

  abbrev by_tests : Bool → Bool → Verdict
  by_tests own other = if own then Kept else if own || other then Over else Lost

  verdict_is : verdict_under n p c ≡ by_tests (nat_eq inside 0) (nat_eq (get_or before n 0) inside)
  unfolding is_joined
  verdict_is = ap (λ b. by_tests b (is_clear n p (opposite_arc n (arc_of n c)))) clear_is ∙ ap (by_tests (nat_eq inside 0)) opposite_is

  pub kept_is : inside ≡ 0 → Kept ≡ verdict_under n p c
  kept_is e = sym (verdict_is ∙ ap (λ b. by_tests b (nat_eq (get_or before n 0) inside)) (eq-eqb inside 0 e))

  pub over_is : (inside ≡ 0 → ⊥) → inside ≡ get_or before n 0 → Over ≡ verdict_under n p c
  over_is some e =
      sym (verdict_is ∙ ap (λ b. by_tests b (nat_eq (get_or before n 0) inside)) (not_equal inside 0 some)
      ∙ ap (by_tests false) (eq-eqb (get_or before n 0) inside (sym e)))

  pub lost_is : (inside ≡ 0 → ⊥) → (inside ≡ get_or before n 0 → ⊥) → Lost ≡ verdict_under n p c
  lost_is some less =
      sym (verdict_is ∙ ap (λ b. by_tests b (nat_eq (get_or before n 0) inside)) (not_equal inside 0 some)
      ∙ ap (by_tests false) (not_equal (get_or before n 0) inside (λ e. less (sym e))))

  -- the arc has any of them where the two counts differ
  pub meets_is : not (nat_eq (get_or before (first + spans) 0) (get_or before first 0)) ≡ not (is_clear n p (arc_of n c))
  meets_is =
      ap not (sym (clear_is ∙ apart (get_or before (first + spans) 0) (get_or before first 0) never_less))
    where
      apart : (a b : ℕ) → b ≤ a → nat_eq (a - b) 0 ≡ nat_eq a b
      apart a b low = elim (cases_eq a b) [
        | inl same ↦ (let none : a - b ≡ 0 = omega (arith, same) in eq-eqb (a - b) 0 none ∙ sym (eq-eqb a b same))
        | inr other ↦ not_equal (a - b) 0 (λ e. omega (arith, other, e, low)) ∙ sym (not_equal a b other)
      ]
