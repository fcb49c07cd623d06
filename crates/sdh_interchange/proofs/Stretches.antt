-- Stretches of a frame that a pass has gone over, one after the other.
use Rattle.std.proofs.Common.{◌≡◌, ◌≢◌, ℕ, ◌+◌, ◌*◌, ◌-◌, ◌/◌, ◌%◌, ◌<◌, ◌≤◌, ◌⊎◌, inl, inr, true, false, eqb, leb, List, get_or, refl, ap}
use Rattle.std.proofs.Common.{sym, ◌∙◌, subst, arith}
use Rattle.std.specs.Prelude.{if◌then◌else◌}
use Rattle.std.proofs.lemmas.Bool.{cases_lt, eq-eqb, ne_eqb, le-leb, lt-leb}
use Rattle.std.proofs.lemmas.Nat.{mul-le}
use Rattle.std.proofs.Math.Nat.{mul-mod_right}
use Rattle.sdh_interchange.specs.declared.pass.Pass.{Pass}
use Rattle.sdh_interchange.specs.Choosing.{is_au_byte, picked_at}
use Rattle.sdh_interchange.specs.Passes.{byte_by_source, HasPassed, AreColumns}
use Rattle.sdh_interchange.specs.Tables.{cell, IsLaneTable}
use Rattle.sdh_interchange.proofs.ByBytes.{own_byte-at}
use Rattle.sdh_frame.proofs.ByColumns.{by_rate}

-- ---- places

-- where the bytes of row r, from 0, stand
record IsInRow (n r i : ℕ) : Type 0 where
  head : i % (270 * n) < 9 * n → i < n * (270 * r + 9)
  body : 9 * n ≤ i % (270 * n) → n * (270 * r + 9) ≤ i
  within : i < n * (270 * r + 270)

in_row : (n r i : ℕ) → (n ≡ 4) ⊎ (n ≡ 16) → i / (270 * n) ≡ r → IsInRow n r i
in_row n r i rate =
    by_rate (λ m. i / (270 * m) ≡ r → IsInRow m r i) n rate
    (λ e. record { head = λ h. omega arith; body = λ h. omega arith; within = omega arith })
    (λ e. record { head = λ h. omega arith; body = λ h. omega arith; within = omega arith })

out_of_row : (n r i : ℕ) → (n ≡ 4) ⊎ (n ≡ 16) → i / (270 * n) ≢ r → (i < n * (270 * r + 9)) ⊎ (n * (270 * r + 270) ≤ i)
out_of_row n r i rate =
    by_rate (λ m. i / (270 * m) ≢ r → (i < m * (270 * r + 9)) ⊎ (m * (270 * r + 270) ≤ i)) n rate
    (λ d. elim (cases_lt i (4 * (270 * r + 9))) [ inl h ↦ inl h | inr h ↦ inr (omega arith) ])
    (λ d. elim (cases_lt i (16 * (270 * r + 9))) [ inl h ↦ inl h | inr h ↦ inr (omega arith) ])

-- where the pointers stand
record IsByPointers (n i : ℕ) : Type 0 where
  low : i % (270 * n) < 9 * n → n * 810 ≤ i
  high : i % (270 * n) < 9 * n → i < n * 819
  behind : 9 * n ≤ i % (270 * n) → n * 819 ≤ i

by_pointers : (n i : ℕ) → (n ≡ 4) ⊎ (n ≡ 16) → i / (270 * n) ≡ 3 → IsByPointers n i
by_pointers n i rate =
    by_rate (λ m. i / (270 * m) ≡ 3 → IsByPointers m i) n rate
    (λ e. record { low = λ h. omega arith; high = λ h. omega arith; behind = λ h. omega arith })
    (λ e. record { low = λ h. omega arith; high = λ h. omega arith; behind = λ h. omega arith })

no_pointers : (n i : ℕ) → (n ≡ 4) ⊎ (n ≡ 16) → i / (270 * n) ≢ 3 → (i < n * 810) ⊎ (n * 819 ≤ i)
no_pointers n i rate =
    by_rate (λ m. i / (270 * m) ≢ 3 → (i < m * 810) ⊎ (m * 819 ≤ i)) n rate
    (λ d. elim (cases_lt i 3240) [ inl h ↦ inl h | inr h ↦ inr (omega arith) ])
    (λ d. elim (cases_lt i 12960) [ inl h ↦ inl h | inr h ↦ inr (omega arith) ])

scaled : (n a b : ℕ) → a ≤ b → n * a ≤ n * b
scaled n a b h = mul-le n a n b (omega arith) h

-- the place a multiple of 16 bytes after the start of a column is the start of a column, and so is the place 16 bytes
-- before
pub whole_on : (n at k : ℕ) → (n ≡ 4) ⊎ (n ≡ 16) → at % n ≡ 0 → (at + 16 * k) % n ≡ 0
whole_on n at k rate = by_rate (λ m. at % m ≡ 0 → (at + 16 * k) % m ≡ 0) n rate (λ h. omega arith) (λ h. omega arith)

pub whole_back : (n at : ℕ) → (n ≡ 4) ⊎ (n ≡ 16) → 16 ≤ at → at % n ≡ 0 → (at - 16) % n ≡ 0
whole_back n at rate some = by_rate (λ m. at % m ≡ 0 → (at - 16) % m ≡ 0) n rate (λ h. omega arith) (λ h. omega arith)

-- sixteen columns
sixteen_columns : (n q : ℕ) → (n ≡ 4) ⊎ (n ≡ 16) → n * q + 16 * n ≡ n * (q + 16)
sixteen_columns n q rate = by_rate (λ m. m * q + 16 * m ≡ m * (q + 16)) n rate (omega arith) (omega arith)

pub columns_fit : (n q at : ℕ) → (n ≡ 4) ⊎ (n ≡ 16) → at ≡ n * q → q + 16 ≤ 2430 → at + 16 * n ≤ 2430 * n
columns_fit n q at rate =
    by_rate (λ m. at ≡ m * q → q + 16 ≤ 2430 → at + 16 * m ≤ 2430 * m) n rate (λ e h. omega arith) (λ e h. omega arith)

-- a whole column
pub whole_at : (n q at : ℕ) → at ≡ n * q → at % n ≡ 0
whole_at n q at e = ap (λ m. m % n) e ∙ mul-mod_right n q

-- columns that are at least four apart
pub some_between : (n q to from end : ℕ) → (n ≡ 4) ⊎ (n ≡ 16) → from ≡ n * q → end ≡ n * to → q + 4 ≤ to → from + 16 ≤ end
some_between n q to from end rate =
    by_rate (λ m. from ≡ m * q → end ≡ m * to → q + 4 ≤ to → from + 16 ≤ end) n rate (λ a b h. omega arith) (λ a b h. omega arith)

pub within_frame : (n q at : ℕ) → (n ≡ 4) ⊎ (n ≡ 16) → at ≡ n * q → q ≤ 2430 → at ≤ 2430 * n
within_frame n q at rate = by_rate (λ m. at ≡ m * q → q ≤ 2430 → at ≤ 2430 * m) n rate (λ e h. omega arith) (λ e h. omega arith)

-- ---- what was written

module _ (n : ℕ) (pass : Pass n) where
  pub none_passed : (from to : ℕ) (old : List ℕ) → from ≡ to → HasPassed n pass from to old old
  none_passed from to old e = record { before = λ i h. refl; inside = λ i low high. absurd (omega arith); behind = λ i h. refl }

  -- from a to m, and then from b to e
  pub then_passed : (a b m e to : ℕ) (old mid new : List ℕ) → a ≤ b → b ≤ m → m ≤ e → e ≡ to → HasPassed n pass a m old mid
      → HasPassed n pass b e mid new → HasPassed n pass a to old new
  then_passed a b m e to old mid new front meet back is first second = record {
    before = λ i h. second.before i (omega arith) ∙ first.before i h;
    inside = λ i low high. elim (cases_lt i b) [
      | inl h ↦ second.before i h ∙ first.inside i low (omega arith)
      | inr h ↦ second.inside i h (omega arith)
    ];
    behind = λ i h. second.behind i (omega arith) ∙ first.behind i (omega arith);
  }

  pub columns_then : (a b m e to : ℕ) (old mid new : List ℕ) → a ≤ b → b ≤ m → m ≤ e → e ≡ to → HasPassed n pass (n * a) (n * m) old mid
      → HasPassed n pass (n * b) (n * e) mid new → HasPassed n pass (n * a) (n * to) old new
  columns_then a b m e to old mid new front meet back is =
      then_passed (n * a) (n * b) (n * m) (n * e) (n * to) old mid new (scaled n a b front) (scaled n b m meet) (scaled n m e back)
      (ap (λ q. n * q) is)

  -- a vector
  pub vector_passed : (at : ℕ) (old new all : List ℕ) → ((i : ℕ) → i < at → get_or new i 0 ≡ get_or old i 0)
      → ((k : ℕ) → k < 16 → get_or new (at + k) 0 ≡ get_or all k 0) → ((i : ℕ) → at + 16 ≤ i → get_or new i 0 ≡ get_or old i 0)
      → ((j : ℕ) → j < 16 → get_or all j 0 ≡ byte_by_source n pass (at + j)) → HasPassed n pass at (at + 16) old new
  vector_passed at old new all front put back each = record {
    before = front;
    inside = λ i low high. (
        let k : ℕ = i - at in
        let e : at + k ≡ i = omega arith in
        let h : k < 16 = omega arith in
        ap (λ m. get_or new m 0) (sym e) ∙ put k h ∙ each k h ∙ ap (byte_by_source n pass) e);
    behind = back;
  }

  pub block_passed : (q at to : ℕ) (old new : List ℕ) → (n ≡ 4) ⊎ (n ≡ 16) → at ≡ n * q → q + 16 ≡ to
      → HasPassed n pass at (at + 16 * n) old new → HasPassed n pass (n * q) (n * to) old new
  block_passed q at to old new rate here back done =
      let end : at + 16 * n ≡ n * to = ap (λ m. m + 16 * n) here ∙ sixteen_columns n q rate ∙ ap (λ m. n * m) back in
      subst (λ m. HasPassed n pass m (n * to) old new) here (subst (λ m. HasPassed n pass at m old new) end done)

  -- ---- a row, and the pointers

  module _ (r : ℕ) (old mid : List ℕ) (rate : (n ≡ 4) ⊎ (n ≡ 16))
      (done : HasPassed n pass (n * (270 * r + 9)) (n * (270 * r + 270)) old mid) where
    pub row-here : r ≢ 3 → (i : ℕ) → i / (270 * n) ≡ r
        → get_or mid i 0 ≡ (if is_au_byte n i then byte_by_source n pass i else get_or old i 0)
    row-here plain i at =
        let is = in_row n r i rate at in
        elim (cases_lt (i % (270 * n)) (9 * n)) [
          | inl before ↦ (
              let a : leb (9 * n) (i % (270 * n)) ≡ false = lt-leb _ _ before in
              let b : eqb (i / (270 * n)) 3 ≡ false = ne_eqb _ _ (λ e. plain (sym at ∙ e)) in
              rw (a, b) (done.before i (is.head before)))
          | inr behind ↦ (let a : leb (9 * n) (i % (270 * n)) ≡ true = le-leb _ _ behind in rw a (done.inside i (is.body behind) is.within))
        ]

    pub row-others : (i : ℕ) → i / (270 * n) ≢ r → get_or mid i 0 ≡ get_or old i 0
    row-others i away = elim (out_of_row n r i rate away) [ inl h ↦ done.before i h | inr h ↦ done.behind i h ]

    module _ (new : List ℕ) (three : r ≡ 3) (pointers : HasPassed n pass (n * 810) (n * 819) mid new) where
      pub pointers-here : (i : ℕ) → i / (270 * n) ≡ r
          → get_or new i 0 ≡ (if is_au_byte n i then byte_by_source n pass i else get_or old i 0)
      pointers-here i at =
          let is = in_row n r i rate at in
          let places = by_pointers n i rate (at ∙ three) in
          elim (cases_lt (i % (270 * n)) (9 * n)) [
            | inl before ↦ (
                let a : leb (9 * n) (i % (270 * n)) ≡ false = lt-leb _ _ before in
                let b : eqb (i / (270 * n)) 3 ≡ true = eq-eqb _ _ (at ∙ three) in
                rw (a, b) (pointers.inside i (places.low before) (places.high before)))
            | inr behind ↦ (let a : leb (9 * n) (i % (270 * n))
                ≡ true = le-leb _ _ behind in rw a (pointers.behind i (places.behind behind) ∙ done.inside i (is.body behind) is.within))
          ]

      pub pointers-others : (i : ℕ) → i / (270 * n) ≢ r → get_or new i 0 ≡ get_or old i 0
      pointers-others i away =
          elim (no_pointers n i rate (λ e. away (e ∙ sym three))) [
            | inl h ↦ pointers.before i h
                ∙ row-others i away
            | inr h ↦ pointers.behind i h ∙ row-others i away
          ]

-- ---- vectors of sixteen columns of row r, from payload column q on

module _ (own columns : List (List ℕ)) (r q upto : ℕ) (row : r < 9) (few : q ≤ 245) where
  pub columns-four : IsLaneTable 4 columns → ((k j : ℕ) → k < 4 → j < 16 → j % 4 < upto
      → cell columns k j ≡ cell own (j % 4) (261 * r + q + (4 * k + j / 4)))
      → AreColumns 4 upto own (4 * (270 * r + (9 + q))) columns
  columns-four table each = record {
    rows = table.rows;
    lanes = table.lanes;
    each = λ k j small h low. (
        let i : ℕ = 4 * (270 * r + (9 + q)) + 16 * k + j in
        let lane : i % 4 ≡ j % 4 = omega arith in
        let behind : 36 ≤ i % 1080 = omega arith in
        let column : 261 * (i / 1080) + (i % 1080 - 36) / 4 ≡ 261 * r + q + (4 * k + j / 4) = omega arith in
        each k j small h low ∙ sym (own_byte-at 4 own i (j % 4) (261 * r + q + (4 * k + j / 4)) behind lane column));
  }

  pub columns-sixteen : IsLaneTable 16 columns → ((k a : ℕ) → k < 16 → a < upto → cell columns k a ≡ cell own a (261 * r + q + k))
      → AreColumns 16 upto own (16 * (270 * r + (9 + q))) columns
  columns-sixteen table each = record {
    rows = table.rows;
    lanes = table.lanes;
    each = λ k j small h low. (
        let i : ℕ = 16 * (270 * r + (9 + q)) + 16 * k + j in
        let lane : i % 16 ≡ j = omega arith in
        let behind : 144 ≤ i % 4320 = omega arith in
        let column : 261 * (i / 4320) + (i % 4320 - 144) / 16 ≡ 261 * r + q + k = omega arith in
        let below : j < upto = omega arith in
        each k j small below ∙ sym (own_byte-at 16 own i j (261 * r + q + k) behind lane column));
  }

-- a pass over equal own payloads
pub same-passed : (n : ℕ) (p q : Pass n) (from to : ℕ) (old new : List ℕ) → p.sources.now ≡ q.sources.now
    → p.inputs.now.first.now ≡ q.inputs.now.first.now → p.inputs.now.second.now ≡ q.inputs.now.second.now
    → p.inputs.now.own.now ≡ q.inputs.now.own.now → HasPassed n p from to old new → HasPassed n q from to old new
same-passed n p q from to old new a b c d so = record {
  before = so.before;
  inside = λ i low high. so.inside i low high ∙ (λ t. picked_at n (a t) (b t) (c t) (d t) i);
  behind = so.behind;
}
