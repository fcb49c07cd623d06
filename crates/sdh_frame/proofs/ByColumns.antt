-- Columns of a frame that are written one after the other.
use Rattle.std.proofs.Common.{◌≡◌, ◌≢◌, ℕ, ◌+◌, ◌*◌, ◌-◌, ◌/◌, ◌%◌, ◌<◌, ◌≤◌, ◌⊎◌, inl, inr, Bool, true, false, eqb, leb, ltb, List, length}
use Rattle.std.proofs.Common.{get_or, set, refl, ap, sym, subst, ◌∙◌, arith}
use Rattle.std.specs.Prelude.{if◌then◌else◌, ◌&&◌}
use Rattle.std.proofs.lemmas.Bool.{cases_lt, cases_eq, eq-eqb, ne_eqb, le-leb, lt-leb, lt-ltb, le-ltb}
use Rattle.std.proofs.lemmas.List.{get_or-set_same, get_or-set_other}
use Rattle.sdh_frame.specs.Aus.{is_payload, is_pointer}
use Rattle.sdh_frame.specs.Columns.{HasWritten}

-- what holds at both rates
pub by_rate : (P : ℕ → Type 0) (n : ℕ) → (n ≡ 4) ⊎ (n ≡ 16) → P 4 → P 16 → P n
by_rate P n (inl e) four sixteen = subst P (sym e) four
by_rate P n (inr e) four sixteen = subst P (sym e) sixteen

-- ---- places

-- byte w, which is that of an AU-4 in column q
record IsIn (n q au w : ℕ) : Type 0 where
  column : w / n ≡ q
  number : w % n + 1 ≡ au
  only : (i : ℕ) → i / n ≡ q → i % n + 1 ≡ au → i ≡ w

is_in : (n q au w : ℕ) → (n ≡ 4) ⊎ (n ≡ 16) → 1 ≤ au → au ≤ n → w + 1 ≡ n * q + au → IsIn n q au w
is_in n q au w rate low =
    by_rate (λ m. au ≤ m → w + 1 ≡ m * q + au → IsIn m q au w) n rate
    (λ high e. record { column = omega arith; number = omega arith; only = λ i c k. omega arith })
    (λ high e. record { column = omega arith; number = omega arith; only = λ i c k. omega arith })

pub column_of : (n q au w : ℕ) → (n ≡ 4) ⊎ (n ≡ 16) → 1 ≤ au → au ≤ n → w + 1 ≡ n * q + au → w / n ≡ q
column_of n q au w rate low high e = (is_in n q au w rate low high e).column

and_true : (b c : Bool) → c ≡ true → (b && c) ≡ b
and_true true c e = e
and_true false c e = refl

and_false : (b c : Bool) → c ≡ false → (b && c) ≡ false
and_false true c e = e
and_false false c e = refl

-- the first nine columns of a row hold no payload, and every other column holds a payload byte of each AU-4
pub head_is_none : (n au r i : ℕ) → (n ≡ 4) ⊎ (n ≡ 16) → 270 * r ≤ i / n → i / n < 270 * r + 9 → is_payload n au i ≡ false
head_is_none n au r i rate low high =
    let head : i % (270 * n) < 9 * n =
    by_rate (λ m. 270 * r ≤ i / m → i / m < 270 * r + 9 → i % (270 * m) < 9 * m) n rate (λ a b. omega arith)
    (λ a b. omega arith) low high in
    and_false (eqb (i % n + 1) au) (leb (9 * n) (i % (270 * n))) (lt-leb _ _ head)

pub body_is : (n au r q i : ℕ) → (n ≡ 4) ⊎ (n ≡ 16) → 270 * r + 9 ≤ q → q < 270 * r + 270 → i / n ≡ q
    → is_payload n au i ≡ eqb (i % n + 1) au
body_is n au r q i rate low high e =
    let body : 9 * n ≤ i % (270 * n) = by_rate (λ m. i / m ≡ q → 9 * m ≤ i % (270 * m)) n rate (λ c. omega arith) (λ c. omega arith) e in
    and_true (eqb (i % n + 1) au) (leb (9 * n) (i % (270 * n))) (le-leb _ _ body)

-- pointers stand in the first nine columns of row 3
pub front_is_none : (n au i : ℕ) → (n ≡ 4) ⊎ (n ≡ 16) → (i / n < 810) ⊎ (819 ≤ i / n) → is_pointer n au i ≡ false
front_is_none n au i rate away =
    elim (cases_eq (i / (270 * n)) 3) [
      | inl row ↦ (
          let behind : 9 * n ≤ i % (270 * n) =
          by_rate (λ m. i / (270 * m) ≡ 3 → (i / m < 810) ⊎ (819 ≤ i / m) → 9 * m ≤ i % (270 * m)) n rate
          (λ a b. elim b [ inl h ↦ omega arith | inr h ↦ omega arith ])
          (λ a b. elim b [ inl h ↦ omega arith | inr h ↦ omega arith ]) row away in
          and_false ((eqb (i % n + 1) au) && eqb (i / (270 * n)) 3) (ltb (i % (270 * n)) (9 * n)) (le-ltb _ _ behind))
      | inr other ↦ (
          let none : ((eqb (i % n + 1) au) && eqb (i / (270 * n)) 3) ≡ false =
          and_false (eqb (i % n + 1) au) (eqb (i / (270 * n)) 3) (ne_eqb _ _ other) in
          rw none refl)
    ]

pub pointer_is : (n au p i : ℕ) → (n ≡ 4) ⊎ (n ≡ 16) → p < 9 → i / n ≡ 810 + p
    → (is_pointer n au i ≡ eqb (i % n + 1) au) × (i % (270 * n) / n ≡ p)
pointer_is n au p i rate small e =
    let row : i / (270 * n) ≡ 3 = by_rate (λ m. i / m ≡ 810 + p → i / (270 * m) ≡ 3) n rate (λ c. omega arith) (λ c. omega arith) e in
    let front : i % (270 * n) < 9 * n =
    by_rate (λ m. i / m ≡ 810 + p → i % (270 * m) < 9 * m) n rate (λ c. omega arith) (λ c. omega arith) e in
    let turn : i % (270 * n) / n ≡ p =
    by_rate (λ m. i / m ≡ 810 + p → i % (270 * m) / m ≡ p) n rate (λ c. omega arith) (λ c. omega arith) e in (
      and_true ((eqb (i % n + 1) au) && eqb (i / (270 * n)) 3) (ltb (i % (270 * n)) (9 * n)) (lt-ltb _ _ front)
          ∙ and_true (eqb (i % n + 1) au) (eqb (i / (270 * n)) 3) (eq-eqb _ _ row),
      turn,
    )

pub column_small : (n i : ℕ) → (n ≡ 4) ⊎ (n ≡ 16) → i < 2430 * n → i / n < 2430
column_small n i rate = by_rate (λ m. i < 2430 * m → i / m < 2430) n rate (λ h. omega arith) (λ h. omega arith)

-- ---- what was written

module _ (n : ℕ) (is_meant : ℕ → Bool) (value : ℕ → ℕ) where
  pub none_written : (from to : ℕ) (old : List ℕ) → ((i : ℕ) → from ≤ i / n → i / n < to → is_meant i ≡ false)
      → HasWritten n from to is_meant value old old
  none_written from to old none = record {
    inside = λ i low high. (let f = none i low high in rw f refl);
    before = λ i h. refl;
    behind = λ i h. refl;
  }

  pub further_written : (a b e to : ℕ) (old mid new : List ℕ) → a ≤ b → b ≤ e → e ≡ to → HasWritten n a b is_meant value old mid
      → HasWritten n b e is_meant value mid new → HasWritten n a to is_meant value old new
  further_written a b e to old mid new front back is first further = record {
    inside = λ i low high. elim (cases_lt (i / n) b) [
      | inl h ↦ further.before i h ∙ first.inside i low h
      | inr h ↦ further.inside i h (omega arith) ∙ ap (λ (x : ℕ). if is_meant i then value i else x) (first.behind i h)
    ];
    before = λ i h. further.before i (omega arith) ∙ first.before i h;
    behind = λ i h. further.behind i (omega arith) ∙ first.behind i (omega arith);
  }

  -- the byte of an AU-4 in one column
  pub one_written : (q au w v : ℕ) (old : List ℕ) → (n ≡ 4) ⊎ (n ≡ 16) → 1 ≤ au → au ≤ n
      → ((i : ℕ) → i / n ≡ q → is_meant i ≡ eqb (i % n + 1) au) → w + 1 ≡ n * q + au → w < length old → v ≡ value w
      → HasWritten n q (q + 1) is_meant value old (set old w v)
  one_written q au w v old rate low high meant place inside_old is =
      let there = is_in n q au w rate low high place in record {
        inside = λ i from to. (
            let here : i / n ≡ q = omega arith in
            elim (cases_eq (i % n + 1) au) [
              | inl own ↦ (
                  let e : i ≡ w = there.only i here own in
                  let t : is_meant i ≡ true = meant i here ∙ eq-eqb _ _ own in
                  rw t (ap (λ k. get_or (set old w v) k 0) e ∙ get_or-set_same old w v 0 inside_old ∙ is ∙ ap value (sym e)))
              | inr other ↦ (
                  let f : is_meant i ≡ false = meant i here ∙ ne_eqb _ _ other in
                  let away : i ≢ w = λ e. other (ap (λ k. k % n + 1) e ∙ there.number) in
                  rw f (get_or-set_other old w i v 0 away))
            ]);
        before =
            λ i h. (let away : i ≢ w = λ e. (let at : i / n ≡ q = ap (λ k. k / n) e
            ∙ there.column in omega arith) in get_or-set_other old w i v 0 away);
        behind =
            λ i h. (let away : i ≢ w = λ e. (let at : i / n ≡ q = ap (λ k. k / n) e
            ∙ there.column in omega arith) in get_or-set_other old w i v 0 away);
      }
