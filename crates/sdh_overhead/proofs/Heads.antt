-- The overhead of a frame row by row.
use Rattle.std.proofs.Common.{◌≡◌, ◌≢◌, ℕ, ◌+◌, ◌*◌, ◌-◌, ◌/◌, ◌%◌, ◌<◌, ◌≤◌, true, false, eqb, leb, ltb, List, get_or, refl, ap, sym, ◌∙◌}
use Rattle.std.proofs.Common.{arith, inl, inr}
use Rattle.std.proofs.lemmas.Bool.{cases_lt, cases_eq, ne_eqb, eq-eqb, le-leb, lt-leb, le-ltb}
use Rattle.std.proofs.lemmas.Nat.{div-mul-add, mod-mul-add}
use Rattle.sdh_frame.specs.declared.Field as field
use Rattle.sdh_frame.specs.declared.Field.TheVariants.{A1, A2, J0, Fixed, B1, B2, K1, K2, Unused, Pointer}
use Rattle.sdh_frame.specs.Fields.{field_at}
use Rattle.sdh_frame.proofs.PlaceProofs.{field-payload, field-pointer}
use Rattle.sdh_overhead.specs.Overhead.{Added, written, byte_at}

-- ---- the fields of the first 9 N columns, c counted from 0

module _ (n c : ℕ) (h : c < 9 * n) where
  pub field-a1 : c < 3 * n → field_at n 1 (c + 1) ≡ A1
  unfolding field_at
  field-a1 lt = let e : ltb (9 * n) (c + 1) ≡ false = le-ltb _ _ (omega arith) in let f : leb (c + 1) (3 * n) ≡ true =
      le-leb _ _ (omega arith) in rw (e, f) refl

  pub field-a2 : 3 * n ≤ c → c < 6 * n → field_at n 1 (c + 1) ≡ A2
  unfolding field_at
  field-a2 ge lt =
      let e : ltb (9 * n) (c + 1) ≡ false = le-ltb _ _ (omega arith) in
      let f : leb (c + 1) (3 * n) ≡ false = lt-leb _ _ (omega arith) in
      let g : leb (c + 1) (6 * n) ≡ true = le-leb _ _ (omega arith) in rw (e, f, g) refl

  pub field-j0 : c ≡ 6 * n → 1 ≤ n → field_at n 1 (c + 1) ≡ J0
  unfolding field_at
  field-j0 at some =
      let e : ltb (9 * n) (c + 1) ≡ false = le-ltb _ _ (omega arith) in
      let f : leb (c + 1) (3 * n) ≡ false = lt-leb _ _ (omega arith) in
      let g : leb (c + 1) (6 * n) ≡ false = lt-leb _ _ (omega arith) in
      let i : eqb (c + 1) (6 * n + 1) ≡ true = eq-eqb _ _ (omega arith) in rw (e, f, g, i) refl

  pub field-fixed : 6 * n < c → field_at n 1 (c + 1) ≡ Fixed
  unfolding field_at
  field-fixed gt =
      let e : ltb (9 * n) (c + 1) ≡ false = le-ltb _ _ (omega arith) in
      let f : leb (c + 1) (3 * n) ≡ false = lt-leb _ _ (omega arith) in
      let g : leb (c + 1) (6 * n) ≡ false = lt-leb _ _ (omega arith) in
      let i : eqb (c + 1) (6 * n + 1) ≡ false = ne_eqb _ _ (λ (q : c + 1 ≡ 6 * n + 1). omega arith) in rw (e, f, g, i) refl

  pub field-b1 : c ≡ 0 → field_at n 2 (c + 1) ≡ B1
  unfolding field_at
  field-b1 at =
      let e : ltb (9 * n) (c + 1) ≡ false = le-ltb _ _ (omega arith) in
      let i : eqb (c + 1) 1 ≡ true = eq-eqb _ _ (omega arith) in rw (e, i) refl

  pub field-second : 0 < c → field_at n 2 (c + 1) ≡ Unused
  unfolding field_at
  field-second gt =
      let e : ltb (9 * n) (c + 1) ≡ false = le-ltb _ _ (omega arith) in
      let i : eqb (c + 1) 1 ≡ false = ne_eqb _ _ (λ (q : c + 1 ≡ 1). omega arith) in rw (e, i) refl

  pub field-b2 : c < 3 * n → field_at n 5 (c + 1) ≡ B2 (c + 1 - 1)
  unfolding field_at
  field-b2 lt = let e : ltb (9 * n) (c + 1) ≡ false = le-ltb _ _ (omega arith) in let f : leb (c + 1) (3 * n) ≡ true =
      le-leb _ _ (omega arith) in rw (e, f) refl

  pub field-k1 : c ≡ 3 * n → field_at n 5 (c + 1) ≡ K1
  unfolding field_at
  field-k1 at =
      let e : ltb (9 * n) (c + 1) ≡ false = le-ltb _ _ (omega arith) in
      let f : leb (c + 1) (3 * n) ≡ false = lt-leb _ _ (omega arith) in
      let i : eqb (c + 1) (3 * n + 1) ≡ true = eq-eqb _ _ (omega arith) in rw (e, f, i) refl

  pub field-k2 : c ≡ 6 * n → 1 ≤ n → field_at n 5 (c + 1) ≡ K2
  unfolding field_at
  field-k2 at some =
      let e : ltb (9 * n) (c + 1) ≡ false = le-ltb _ _ (omega arith) in
      let f : leb (c + 1) (3 * n) ≡ false = lt-leb _ _ (omega arith) in
      let i : eqb (c + 1) (3 * n + 1) ≡ false = ne_eqb _ _ (λ (q : c + 1 ≡ 3 * n + 1). omega arith) in
      let k : eqb (c + 1) (6 * n + 1) ≡ true = eq-eqb _ _ (omega arith) in rw (e, f, i, k) refl

  pub field-fifth : 3 * n < c → c ≢ 6 * n → field_at n 5 (c + 1) ≡ Unused
  unfolding field_at
  field-fifth gt other =
      let e : ltb (9 * n) (c + 1) ≡ false = le-ltb _ _ (omega arith) in
      let f : leb (c + 1) (3 * n) ≡ false = lt-leb _ _ (omega arith) in
      let i : eqb (c + 1) (3 * n + 1) ≡ false = ne_eqb _ _ (λ (q : c + 1 ≡ 3 * n + 1). omega arith) in
      let k : eqb (c + 1) (6 * n + 1) ≡ false = ne_eqb _ _ (λ (q : c + 1 ≡ 6 * n + 1). other (omega arith)) in rw (e, f, i, k) refl

  pub field-unused : (row : ℕ) → row ≢ 1 → row ≢ 2 → row ≢ 4 → row ≢ 5 → field_at n row (c + 1) ≡ Unused
  unfolding field_at
  field-unused row r1 r2 r4 r5 =
      let e : ltb (9 * n) (c + 1) ≡ false = le-ltb _ _ (omega arith) in
      let e1 : eqb row 1 ≡ false = ne_eqb _ _ r1 in
      let e2 : eqb row 2 ≡ false = ne_eqb _ _ r2 in
      let e4 : eqb row 4 ≡ false = ne_eqb _ _ r4 in
      let e5 : eqb row 5 ≡ false = ne_eqb _ _ r5 in rw (e, e4, e1, e2, e5) refl

-- ---- rows

module _ (a : Added) (n : ℕ) (some : 1 ≤ n) (old new : List ℕ) where
  -- a byte of this field
  is : (row c : ℕ) (f : field.Field) (x : ℕ) → field_at n row (c + 1) ≡ f → get_or new c 0 ≡ written a f x
      → get_or new c 0 ≡ written a (field_at n row (c + 1)) x
  is row c f x e there = there ∙ sym (ap (λ (g : field.Field). written a g x) e)

  pub row-first : ((c : ℕ) → c < 3 * n → get_or new c 0 ≡ 0xF6) → ((c : ℕ) → 3 * n ≤ c → c < 6 * n → get_or new c 0 ≡ 0x28)
      → get_or new (6 * n) 0 ≡ 1 → ((c : ℕ) → 6 * n < c → c < 9 * n → get_or new c 0 ≡ 0xAA)
      → (c : ℕ) → c < 9 * n → get_or new c 0 ≡ written a (field_at n 1 (c + 1)) (get_or old c 0)
  row-first a1 a2 j0 fixed c h =
      elim (cases_lt c (3 * n)) [
        | inl lt ↦ is 1 c A1 _ (field-a1 n c h lt) (a1 c lt)
        | inr ge ↦ elim (cases_lt c (6 * n)) [
          | inl lt ↦ is 1 c A2 _ (field-a2 n c h ge lt) (a2 c ge lt)
          | inr ge6 ↦ elim (cases_eq c (6 * n)) [
            | inl at ↦ is 1 c J0 _ (field-j0 n c h at some) (ap (λ i. get_or new i 0) at ∙ j0)
            | inr other ↦ is 1 c Fixed _ (field-fixed n c h (omega arith)) (fixed c (omega arith) h)
          ]
        ]
      ]

  pub row-second : get_or new 0 0 ≡ a.b1 → ((c : ℕ) → 0 < c → c < 9 * n → get_or new c 0 ≡ 0) → (c : ℕ) → c < 9 * n
      → get_or new c 0 ≡ written a (field_at n 2 (c + 1)) (get_or old c 0)
  row-second b1 zeros c h =
      elim (cases_eq c 0) [
        | inl at ↦ is 2 c B1 _ (field-b1 n c h at) (ap (λ i. get_or new i 0) at ∙ b1)
        | inr other ↦ is 2 c Unused _ (field-second n c h (omega arith)) (zeros c (omega arith) h)
      ]

  pub row-fifth : ((c : ℕ) → c < 3 * n → get_or new c 0 ≡ get_or a.b2 c 0) → get_or new (3 * n) 0 ≡ a.k1 → get_or new (6 * n) 0 ≡ a.k2
      → ((c : ℕ) → 3 * n < c → c < 6 * n → get_or new c 0 ≡ 0) → ((c : ℕ) → 6 * n < c → c < 9 * n → get_or new c 0 ≡ 0)
      → (c : ℕ) → c < 9 * n → get_or new c 0 ≡ written a (field_at n 5 (c + 1)) (get_or old c 0)
  row-fifth b2 k1 k2 low high c h =
      elim (cases_lt c (3 * n)) [
        | inl lt ↦ is 5 c (B2 (c + 1 - 1)) _ (field-b2 n c h lt) (b2 c lt ∙ ap (λ i. get_or a.b2 i 0) (same c))
        | inr ge ↦ elim (cases_eq c (3 * n)) [
          | inl at ↦ is 5 c K1 _ (field-k1 n c h at) (ap (λ i. get_or new i 0) at ∙ k1)
          | inr other ↦ elim (cases_eq c (6 * n)) [
            | inl at ↦ is 5 c K2 _ (field-k2 n c h at some) (ap (λ i. get_or new i 0) at ∙ k2)
            | inr another ↦ is 5 c Unused _ (field-fifth n c h (omega arith) another) (elim (cases_lt c (6 * n)) [
              | inl lt ↦ low c (omega arith) lt
              | inr ge6 ↦ high c (omega arith) h
            ])
          ]
        ]
      ]
    where
      same : (c : ℕ) → c ≡ c + 1 - 1
      same c = omega arith

  pub row-pointers : ((c : ℕ) → c < 9 * n → get_or new c 0 ≡ get_or old c 0) → (c : ℕ) → c < 9 * n
      → get_or new c 0 ≡ written a (field_at n 4 (c + 1)) (get_or old c 0)
  row-pointers kept c h = is 4 c (Pointer ((c + 1 - 1) % n + 1) ((c + 1 - 1) / n)) _ (field-pointer n (c + 1) (omega arith)) (kept c h)

  pub row-other : (row : ℕ) → row ≢ 1 → row ≢ 2 → row ≢ 4 → row ≢ 5 → ((c : ℕ) → c < 9 * n → get_or new c 0 ≡ 0) → (c : ℕ) → c < 9 * n
      → get_or new c 0 ≡ written a (field_at n row (c + 1)) (get_or old c 0)
  row-other row r1 r2 r4 r5 zeros c h = is row c Unused _ (field-unused n c h row r1 r2 r4 r5) (zeros c h)

-- ---- the whole frame

pub byte_at-payload : (n : ℕ) (a : Added) (i x : ℕ) → 9 * n ≤ i % (270 * n) → byte_at n a i x ≡ x
byte_at-payload n a i x h = ap (λ (f : field.Field). written a f x) (field-payload n (i / (270 * n) + 1) (i % (270 * n) + 1) (omega arith))

pub byte_at-pointer : (n : ℕ) (a : Added) (i x : ℕ) → i / (270 * n) ≡ 3 → i % (270 * n) < 9 * n → byte_at n a i x ≡ x
byte_at-pointer n a i x row h =
    ap (λ q. written a (field_at n (q + 1) (i % (270 * n) + 1)) x) row
    ∙ ap (λ (f : field.Field). written a f x) (field-pointer n (i % (270 * n) + 1) (omega arith))

-- byte c of row r, counted from 0
pub byte_at-row : (n : ℕ) (a : Added) (r c i x : ℕ) → c < 270 * n → r * (270 * n) + c ≡ i
    → byte_at n a i x ≡ written a (field_at n (r + 1) (c + 1)) x
byte_at-row n a r c i x h e =
    let row : i / (270 * n) ≡ r = ap (λ k. k / (270 * n)) (sym e) ∙ div-mul-add r (270 * n) c h in
    let column : i % (270 * n) ≡ c = ap (λ k. k % (270 * n)) (sym e) ∙ mod-mul-add r (270 * n) c h in
    ap (λ q. written a (field_at n (q + 1) (i % (270 * n) + 1)) x) row ∙ ap (λ m. written a (field_at n (r + 1) (m + 1)) x) column
