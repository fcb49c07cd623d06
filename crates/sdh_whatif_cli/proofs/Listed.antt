-- Each case has exactly one line.
use Rattle.std.proofs.Common.{◌≡◌, ◌⊎◌, inl, inr, ℕ, ◌+◌, ◌*◌, ◌/◌, ◌%◌, ◌<◌, ◌≤◌, Bool, true, false, ◌||◌, List, [], ◌∷◌, ◌++◌, map, length, refl, sym, ap, ap₂}
use Rattle.std.proofs.Common.{◌∙◌, subst, append-nil, arith, eq-eqb, ne_eqb, eqb-true, ltb-true, lt-ltb, mod-eq_of_lt, le_refl, mul_assoc}
use Rattle.std.specs.Prelude.{◌==◌, nat_lt, if◌then◌else◌, codes}
use Rattle.std.specs.List.{flat_map}
use Rattle.std.proofs.lemmas.Bool.{and_from, and_parts, or_cases, cases_lt}
use Rattle.std.proofs.lemmas.Grind.{flat_map-append}
use Rattle.std.proofs.lemmas.Nat.{mul-le, div-mul-add, mod-mul-add, mul-add-lt, div_below, mod_below}
use Rattle.std.proofs.lemmas.List.Elements.{All-nil, All-cons, All-head, All-tail}
use native.Mathlib.Nat.{div-add-mod'}
use Rattle.sdh_plan.specs.Planned.{Planned}
use Rattle.sdh_verdicts.specs.declared.failure.Failure.{Failure}
use Rattle.sdh_whatif_cli.specs.declared.ask.Ask.{Ask}
use Rattle.sdh_whatif_cli.specs.declared.ask.Depth.{Depth}
use Rattle.sdh_whatif_cli.specs.declared.ask.Depth.TheVariants.{Single, Double, Triple}
use Rattle.sdh_whatif_cli.specs.declared.forms.Digits.{Digits}
use Rattle.sdh_whatif_cli.specs.Cases.{base_of, case_numbers, digits_of, digits_at, failures_at, failures_of, worst_last, goes_before, is_taken, are_told, is_told}
use Rattle.sdh_whatif_cli.specs.Lines.{either, joined, name_text, digits_in}
use Rattle.sdh_whatif_cli.specs.Listed.{most_failures, IsTakenFailure, IsCase, failures_in, numbers_at, StandsFor, HasOneLine, CasesHaveOneLine}

-- ---- three digits, and the failures among them

abbrev three : ℕ → ℕ → ℕ → Digits
three a b c = record { first = a; second = b; third = c }

abbrev one_of : ℕ → List ℕ
one_of d = if d == 0 then [] else d ∷ []

one_none : (d : ℕ) → d ≡ 0 → one_of d ≡ []
one_none d e = ap (λ t. if t then [] else d ∷ []) (eq-eqb d 0 e)

one_some : (d : ℕ) → 1 ≤ d → one_of d ≡ d ∷ []
one_some d h = ap (λ t. if t then [] else d ∷ []) (ne_eqb d 0 (λ e. omega arith))

all_of_them : (a b c : ℕ) (xs ys zs : List ℕ) → one_of a ≡ xs → one_of b ≡ ys → one_of c ≡ zs → failures_in (three a b c) ≡ xs ++ (ys ++ zs)
all_of_them a b c xs ys zs p q r = ap₂ (λ s t. s ++ t) p (ap₂ (λ s t. s ++ t) q (append-nil (one_of c) ∙ r))

-- digits that may follow one another: those that are nothing come first, and the others ascend
data Shape (a b c : ℕ) : Type 0 where
  none : a ≡ 0 → b ≡ 0 → c ≡ 0 → Shape a b c
  alone : a ≡ 0 → b ≡ 0 → 1 ≤ c → Shape a b c
  pair : a ≡ 0 → 1 ≤ b → b < c → Shape a b c
  triple : 1 ≤ a → a < b → b < c → Shape a b c

goes : (d e : ℕ) → goes_before d e ≡ true → (d ≡ 0) ⊎ (d < e)
goes d e h = elim (or_cases (d == 0) (nat_lt d e) h) [ inl z ↦ inl (eqb-true d 0 z) | inr l ↦ inr (ltb-true d e l) ]

nothing_or : (d : ℕ) → (d ≡ 0) ⊎ (1 ≤ d)
nothing_or d = elim (cases_lt d 1) [ inl z ↦ inl (omega arith) | inr s ↦ inr s ]

shape_last : (a b c : ℕ) → a ≡ 0 → (b ≡ 0) ⊎ (b < c) → (b ≡ 0) ⊎ (1 ≤ b) → (c ≡ 0) ⊎ (1 ≤ c) → Shape a b c
shape_last a b c z (inl e) s (inl n) = none z e n
shape_last a b c z (inl e) s (inr n) = alone z e n
shape_last a b c z (inr l) (inl e) n = alone z e (omega arith)
shape_last a b c z (inr l) (inr s) n = pair z s l

shape_more : (a b c : ℕ) → 1 ≤ a → a < b → (b ≡ 0) ⊎ (b < c) → Shape a b c
shape_more a b c s l (inl e) = absurd (omega arith)
shape_more a b c s l (inr m) = triple s l m

shape_by : (a b c : ℕ) → (a ≡ 0) ⊎ (a < b) → (a ≡ 0) ⊎ (1 ≤ a) → (b ≡ 0) ⊎ (b < c) → Shape a b c
shape_by a b c (inl z) s m = shape_last a b c z m (nothing_or b) (nothing_or c)
shape_by a b c (inr l) (inl z) m = shape_last a b c z m (nothing_or b) (nothing_or c)
shape_by a b c (inr l) (inr s) m = shape_more a b c s l m

shape : (a b c : ℕ) → goes_before a b ≡ true → goes_before b c ≡ true → Shape a b c
shape a b c g h = shape_by a b c (goes a b g) (nothing_or a) (goes b c h)

-- the failures of a shape
is_in : (a b c : ℕ) → Shape a b c → (failures_in (three a b c) ≡ []) ⊎ (failures_in (three a b c) ≡ c ∷ []) ⊎ (failures_in (three a b c) ≡ b ∷ c ∷ [])
    ⊎ (failures_in (three a b c) ≡ a ∷ b ∷ c ∷ [])
is_in a b c (none x y z) = inl (all_of_them a b c [] [] [] (one_none a x) (one_none b y) (one_none c z))
is_in a b c (alone x y z) = inr (inl (all_of_them a b c [] [] (c ∷ []) (one_none a x) (one_none b y) (one_some c z)))
is_in a b c (pair x y z) =
    inr (inr (inl (all_of_them a b c [] (b ∷ []) (c ∷ []) (one_none a x) (one_some b y) (one_some c (omega arith)))))
is_in a b c (triple x y z) =
    inr (inr (inr (all_of_them a b c (a ∷ []) (b ∷ []) (c ∷ []) (one_some a x) (one_some b (omega arith)) (one_some c (omega arith)))))

-- ---- numbers and digits

abbrev value : ℕ → Digits → ℕ
value b ds = (ds.first * b + ds.second) * b + ds.third

-- the digits of a list of failures
abbrev pack : List ℕ → Digits
pack [] = three 0 0 0
pack (c ∷ []) = three 0 0 c
pack (b ∷ c ∷ []) = three 0 b c
pack (a ∷ b ∷ c ∷ more) = three a b c

digits_back : (b x y z : ℕ) → x < b → y < b → z < b → digits_of b (value b (three x y z)) ≡ three x y z
digits_back b x y z p q r =
    let tail : value b (three x y z) / b ≡ x * b + y = div-mul-add (x * b + y) b z r in
    let first : value b (three x y z) / b / b % b ≡ x = ap (λ n. n / b % b) tail ∙ ap (λ n. n % b) (div-mul-add x b y q) ∙ mod-eq_of_lt p in
    let second : value b (three x y z) / b % b ≡ y = ap (λ n. n % b) tail ∙ mod-mul-add x b y q in
    let third : value b (three x y z) % b ≡ z = mod-mul-add (x * b + y) b z r in
    ap (λ f. three f (value b (three x y z) / b % b) (value b (three x y z) % b)) first
    ∙ ap₂ (λ s t. three x s t) second third

value_back : (b c : ℕ) → 0 < b → c < b * b * b → value b (digits_of b c) ≡ c
value_back b c p h =
    let low : c / b / b < b = div_below (c / b) b b p (div_below c b (b * b) p h) in
    ap (λ f. (f * b + c / b % b) * b + c % b) (mod-eq_of_lt low) ∙ ap (λ n. n * b + c % b) (div-add-mod' (c / b) b) ∙ div-add-mod' c b

pack_in : (a b c : ℕ) → Shape a b c → pack (failures_in (three a b c)) ≡ three a b c
pack_in a b c (none x y z) =
    ap pack (all_of_them a b c [] [] [] (one_none a x) (one_none b y) (one_none c z))
    ∙ sym (ap (λ d. three d b c) x ∙ ap (λ d. three 0 d c) y ∙ ap (λ d. three 0 0 d) z)
pack_in a b c (alone x y z) =
    ap pack (all_of_them a b c [] [] (c ∷ []) (one_none a x) (one_none b y) (one_some c z))
    ∙ sym (ap (λ d. three d b c) x ∙ ap (λ d. three 0 d c) y)
pack_in a b c (pair x y z) =
    ap pack (all_of_them a b c [] (b ∷ []) (c ∷ []) (one_none a x) (one_some b y) (one_some c (omega arith))) ∙ sym (ap (λ d. three d b c) x)
pack_in a b c (triple x y z) =
    ap pack (all_of_them a b c (a ∷ []) (b ∷ []) (c ∷ []) (one_some a x) (one_some b (omega arith)) (one_some c (omega arith)))

-- ---- names and steps

names_next : {A : Type 0} (g : ℕ → A) (d : ℕ) (ds : List ℕ) (e : Bool) → flat_map (λ d. if d == 0 then [] else g d ∷ []) ds ≡ map g (flat_map one_of ds)
    → (if e then [] else g d ∷ []) ++ flat_map (λ d. if d == 0 then [] else g d ∷ []) ds ≡ map g ((if e then [] else d ∷ []) ++ flat_map one_of ds)
names_next g d ds true more = more
names_next g d ds false more = ap (λ l. g d ∷ l) more

names_are : {A : Type 0} (g : ℕ → A) (ds : List ℕ) → flat_map (λ d. if d == 0 then [] else g d ∷ []) ds ≡ map g (flat_map one_of ds)
names_are g [] = refl
names_are g (d ∷ ds) = names_next g d ds (d == 0) (names_are g ds)

module _ (n : ℕ) (own : List (List Failure)) where
  abbrev of : ℕ → List Failure
  of d = failures_at n own d

  one_gives : (d : ℕ) → flat_map of (one_of d) ≡ of d
  one_gives d = by (d == 0) refl
    where
      by : (t : Bool) → (d == 0) ≡ t → flat_map of (if t then [] else d ∷ []) ≡ of d
      by true e = sym (ap of (eqb-true d 0 e))
      by false e = append-nil (of d)

  steps_are : (ds : Digits) → failures_of n own ds ≡ worst_last (flat_map of (failures_in ds))
  steps_are ds =
      ap worst_last (sym (flat_map-append of (one_of ds.first) (one_of ds.second ++ (one_of ds.third ++ []))
      ∙ ap₂ (λ s t. s ++ t) (one_gives ds.first) (flat_map-append of (one_of ds.second) (one_of ds.third ++ [])
      ∙ ap₂ (λ s t. s ++ t) (one_gives ds.second) (ap (flat_map of) (append-nil (one_of ds.third)) ∙ one_gives ds.third))))

-- ---- cases

module _ (plan : Planned) (own : List (List Failure)) (ask : Ask) where
  abbrev b : ℕ
  b = base_of plan own

  some : 0 < b
  some = omega arith

  abbrev Taken : ℕ → Type 0
  Taken = IsTakenFailure plan own ask

  -- what three digits must be for their number to have a line
  record AreTold (x y z : ℕ) : Type 0 where
    pub goes_first : goes_before x y ≡ true
    pub goes_second : goes_before y z ≡ true
    pub first : is_taken plan ask x ≡ true
    pub second : is_taken plan ask y ≡ true
    pub third : is_taken plan ask z ≡ true

  told_parts : (x y z : ℕ) → are_told plan ask (three x y z) ≡ true → AreTold x y z
  told_parts x y z h =
      let p = and_parts _ _ h in
      let q = and_parts _ _ p.1 in
      let r = and_parts _ _ q.1 in
      let s = and_parts _ _ r.1 in
      record { goes_first = p.0; goes_second = q.0; first = r.0; second = s.0; third = s.1 }

  told_from : (x y z : ℕ) → AreTold x y z → are_told plan ask (three x y z) ≡ true
  told_from x y z t = and_from _ _ t.goes_first (and_from _ _ t.goes_second (and_from _ _ t.first (and_from _ _ t.second t.third)))

  -- a number that has a line

  square : b ≤ b * b
  square = omega (arith, mul-le b 1 b b (le_refl b) some)

  cube : b * b ≤ b * b * b
  cube = omega (arith, mul-le (b * b) 1 (b * b) b (le_refl (b * b)) some)

  below_cube : (c : ℕ) (depth : Depth) → c < case_numbers b depth → c < b * b * b
  below_cube c Single h = omega (arith, square, cube)
  below_cube c Double h = omega (arith, cube)
  below_cube c Triple h = h

  digit_below : (ds : ℕ) → ds % b < b
  digit_below d = mod_below d b some

  taken_from : (d : ℕ) → 1 ≤ d → d < b → is_taken plan ask d ≡ true → Taken d
  taken_from d s l t = record { from_1 = s; within = l; taken = t }

  nothing_left : (d : ℕ) → d < 1 → d % b ≡ 0
  nothing_left d h = let e : d ≡ 0 = omega arith in mod-eq_of_lt (omega (arith, some)) ∙ e

  -- so many digits of a number may be something, by the depth
  front_none : (c : ℕ) (depth : Depth) → c < case_numbers b depth → (most_failures depth ≤ 2 → c / b / b % b ≡ 0) × (most_failures depth ≤ 1 → c / b % b ≡ 0)
  front_none c Single h =
      let tail : c / b < 1 = div_below c b 1 some (omega arith) in
      let front : c / b / b < 1 = div_below (c / b) b 1 some (omega (arith, some)) in (
        λ few. nothing_left (c / b / b) front,
        λ few. nothing_left (c / b) tail,
      )
  front_none c Double h =
      let tail : c / b < b = div_below c b b some h in
      let front : c / b / b < 1 = div_below (c / b) b 1 some (omega arith) in (
        λ few. nothing_left (c / b / b) front,
        λ few. absurd (omega arith),
      )
  front_none c Triple h = (λ few. absurd (omega arith), λ few. absurd (omega arith))

  one_may : (depth : Depth) → 1 ≤ most_failures depth
  one_may Single = omega arith
  one_may Double = omega arith
  one_may Triple = omega arith

  at_least : (most few d : ℕ) → 1 ≤ d → (most ≤ few → d ≡ 0) → few < most
  at_least most few d s h = elim (cases_lt few most) [ inl more ↦ more | inr less ↦ absurd (let z = h less in omega arith) ]

  case_by : (x y z : ℕ) → x < b → y < b → z < b → AreTold x y z → (most_failures ask.depth ≤ 2 → x ≡ 0) → (most_failures ask.depth ≤ 1 → y ≡ 0)
      → Shape x y z → IsCase plan own ask (failures_in (three x y z))
  case_by x y z p q r t one two (none i j k) = subst (IsCase plan own ask) (sym (all_of_them x y z [] [] [] (one_none x i) (one_none y j) (one_none z k)))
      (record { few = omega arith; ascends = tt; taken = All-nil Taken })
  case_by x y z p q r t one two (alone i j k) = subst (IsCase plan own ask) (sym (all_of_them x y z [] [] (z ∷ []) (one_none x i) (one_none y j) (one_some z k)))
      (record { few = one_may ask.depth; ascends = tt; taken = All-cons Taken z [] (taken_from z k r t.third) (All-nil Taken) })
  case_by x y z p q r t one two (pair i j k) =
      subst (IsCase plan own ask) (sym (all_of_them x y z [] (y ∷ []) (z ∷ []) (one_none x i) (one_some y j) (one_some z (omega arith))))
      (record {
        few = at_least (most_failures ask.depth) 1 y j two;
        ascends = (k, tt);
        taken = All-cons Taken y (z ∷ []) (taken_from y j q t.second) (All-cons Taken z [] (taken_from z (omega arith) r t.third) (All-nil Taken));
      })
  case_by x y z p q r t one two (triple i j k) =
      subst (IsCase plan own ask) (sym (all_of_them x y z (x ∷ []) (y ∷ []) (z ∷ []) (one_some x i) (one_some y (omega arith)) (one_some z (omega arith))))
      (record {
        few = at_least (most_failures ask.depth) 2 x i one;
        ascends = (j, (k, tt));
        taken = All-cons Taken x (y ∷ z ∷ []) (taken_from x i p t.first) (All-cons Taken y (z ∷ []) (taken_from y (omega arith) q t.second)
            (All-cons Taken z [] (taken_from z (omega arith) r t.third) (All-nil Taken)));
      })

  is_case : (c : ℕ) → c < case_numbers b ask.depth → is_told plan own ask c ≡ true → IsCase plan own ask (numbers_at plan own c)
  is_case c h told =
      let t = told_parts (c / b / b % b) (c / b % b) (c % b) told in
      let front = front_none c ask.depth h in
      case_by (c / b / b % b) (c / b % b) (c % b) (digit_below (c / b / b)) (digit_below (c / b)) (digit_below c) t front.0 front.1
      (shape (c / b / b % b) (c / b % b) (c % b) t.goes_first t.goes_second)

  stands_for : (c : ℕ) → c < case_numbers b ask.depth → is_told plan own ask c ≡ true → StandsFor plan own ask c (numbers_at plan own c)
  stands_for c h told = record {
    is_case = is_case c h told;
    names = λ f. ap (joined (either f (codes ",") (codes " + "))) (names_are (name_text f plan.nodes) (digits_in (digits_at plan own c)));
    steps = steps_are (length plan.nodes) own (digits_at plan own c);
  }

  -- the number of a case

  flat_value : (z : ℕ) → (0 * b + 0) * b + z ≡ z
  flat_value z = omega arith

  left_out : (y : ℕ) → 0 * b + y ≡ y
  left_out y = omega arith

  or_true : (t : Bool) → (t || true) ≡ true
  or_true true = refl
  or_true false = refl

  record IsPacked (failures : List ℕ) : Type 0 where
    pub first : (pack failures).first < b
    pub second : (pack failures).second < b
    pub third : (pack failures).third < b
    pub told : AreTold (pack failures).first (pack failures).second (pack failures).third
    pub within : value b (pack failures) < case_numbers b ask.depth
    pub back : failures_in (pack failures) ≡ failures

  value_below : (x y z : ℕ) (depth : Depth) → x < b → y < b → z < b → (most_failures depth ≤ 2 → x ≡ 0) → (most_failures depth ≤ 1 → y ≡ 0)
      → value b (three x y z) < case_numbers b depth
  value_below x y z Single p q r one two =
      let e : value b (three x y z) ≡ (0 * b + 0) * b + z = ap₂ (λ s t. (s * b + t) * b + z) (one (omega arith)) (two (omega arith)) in
      subst (λ v. v < b) (sym (e ∙ flat_value z)) r
  value_below x y z Double p q r one two =
      let e : value b (three x y z) ≡ (0 * b + y) * b + z = ap (λ s. (s * b + y) * b + z) (one (omega arith)) in
      subst (λ v. v < b * b) (sym (e ∙ ap (λ s. s * b + z) (left_out y))) (mul-add-lt y b z b q r)
  value_below x y z Triple p q r one two =
      subst (λ v. value b (three x y z) < v) (sym (mul_assoc b b b)) (mul-add-lt (x * b + y) b z (b * b) (mul-add-lt x b y b p q) r)

  in_order : (d e : ℕ) → d < e → goes_before d e ≡ true
  in_order d e h = ap (λ t. (d == 0) || t) (lt-ltb d e h) ∙ or_true (d == 0)

  many : (failures : List ℕ) (depth : Depth) → length failures ≤ most_failures depth → length failures ≤ 3
  many failures Single h = omega arith
  many failures Double h = omega arith
  many failures Triple h = h

  packed : (failures : List ℕ) → IsCase plan own ask failures → IsPacked failures
  packed [] k = record {
    first = some;
    second = some;
    third = some;
    told = record { goes_first = refl; goes_second = refl; first = refl; second = refl; third = refl };
    within = value_below 0 0 0 ask.depth some some some (λ few. refl) (λ few. refl);
    back = refl;
  }
  packed (z ∷ []) k =
      let t = All-head Taken z [] k.taken in
      record {
        first = some;
        second = some;
        third = t.within;
        told = record { goes_first = refl; goes_second = refl; first = refl; second = refl; third = t.taken };
        within = value_below 0 0 z ask.depth some some t.within (λ few. refl) (λ few. refl);
        back = all_of_them 0 0 z [] [] (z ∷ []) refl refl (one_some z t.from_1);
      }
  packed (y ∷ z ∷ []) k =
      let s = All-head Taken y (z ∷ []) k.taken in
      let t = All-head Taken z [] (All-tail Taken y (z ∷ []) k.taken) in
      record {
        first = some;
        second = s.within;
        third = t.within;
        told = record { goes_first = refl; goes_second = in_order y z k.ascends.0; first = refl; second = s.taken; third = t.taken };
        within = value_below 0 y z ask.depth some s.within t.within (λ few. refl) (λ few. absurd (let l = k.few in omega arith));
        back = all_of_them 0 y z [] (y ∷ []) (z ∷ []) refl (one_some y s.from_1) (one_some z t.from_1);
      }
  packed (x ∷ y ∷ z ∷ []) k =
      let r = All-head Taken x (y ∷ z ∷ []) k.taken in
      let rest = All-tail Taken x (y ∷ z ∷ []) k.taken in
      let s = All-head Taken y (z ∷ []) rest in
      let t = All-head Taken z [] (All-tail Taken y (z ∷ []) rest) in
      record {
        first = r.within;
        second = s.within;
        third = t.within;
        told = record {
          goes_first = in_order x y k.ascends.0;
          goes_second = in_order y z k.ascends.1.0;
          first = r.taken;
          second = s.taken;
          third = t.taken;
        };
        within = value_below x y z ask.depth r.within s.within t.within (λ few. absurd (let l = k.few in omega arith))
            (λ few. absurd (let l = k.few in omega arith));
        back = all_of_them x y z (x ∷ []) (y ∷ []) (z ∷ []) (one_some x r.from_1) (one_some y s.from_1) (one_some z t.from_1);
      }
  packed (w ∷ x ∷ y ∷ z ∷ more) k = let l = many (w ∷ x ∷ y ∷ z ∷ more) ask.depth k.few in absurd (omega arith)

  one_line : (failures : List ℕ) → IsCase plan own ask failures → HasOneLine plan own ask failures
  one_line failures k =
      let p = packed failures k in
      let digits : digits_of b (value b (pack failures)) ≡ pack failures =
      digits_back b (pack failures).first (pack failures).second (pack failures).third p.first p.second p.third in
      let t = p.told in
      record {
        number = value b (pack failures);
        within = p.within;
        told = ap (are_told plan ask) digits ∙ told_from _ _ _ p.told;
        stands_for = ap failures_in digits ∙ p.back;
        only = λ c h told same. (
            let u = told_parts (c / b / b % b) (c / b % b) (c % b) told in
            let s = shape (c / b / b % b) (c / b % b) (c % b) u.goes_first u.goes_second in
            let is : digits_of b c ≡ pack failures = sym (pack_in (c / b / b % b) (c / b % b) (c % b) s) ∙ ap pack same in
            sym (value_back b c some (below_cube c ask.depth h)) ∙ ap (value b) is);
      }

pub cases_have_one_line : CasesHaveOneLine
cases_have_one_line plan own ask = (stands_for plan own ask, one_line plan own ask)
