-- The places of the fields that a receiving section looks at.
use Rattle.std.proofs.Common.{◌≡◌, ℕ, ◌+◌, ◌*◌, ◌-◌, ◌<◌, ◌≤◌, true, false, Bool, eqb, leb, ltb, List, length, get_or, take, drop, refl, ap}
use Rattle.std.proofs.Common.{sym, ◌∙◌, arith, inl, inr}
use Rattle.std.specs.Prelude.{◌==◌, ◌&&◌, slice_range}
use Rattle.std.specs.List.{list_all}
use Rattle.std.proofs.lemmas.Bool.{and_parts, and_from, and_cases, both_ways, cases_Bool, cond_both, eqb-true, leb-true, leb-false}
use Rattle.std.proofs.lemmas.List.{get_or-take, get_or-drop, length-take-le}
use Rattle.std.proofs.lemmas.List.Folds.{list_all_at}
use Rattle.sdh_basics.proofs.Parts.{length-range}
use Rattle.sdh_ringmap.specs.declared.terms.Rate.{Rate}
use Rattle.sdh_ringmap.specs.declared.terms.Rate.TheVariants.{Four, Sixteen}
use Rattle.sdh_frame.specs.declared.Field as field
use Rattle.sdh_frame.specs.declared.Field.TheVariants.{A1, A2, J0, Fixed, B1, B2, K1, K2, Unused, Pointer, Payload}
use Rattle.sdh_frame.specs.declared.Place.{Place}
use Rattle.sdh_frame.specs.Sizes.{size_of}
use Rattle.sdh_ringmap.specs.Rates.{n_of}
use Rattle.sdh_frame.specs.Fields.{index_of, field_at}
use Rattle.sdh_frame.specs.PlaceLaws.{IsInFrame, field_of}
use Rattle.sdh_overhead.specs.Sections.{is_framed, byte_in, b2_in}
use Rattle.sdh_overhead.specs.Laws.{byte_of, HasFraming, LooksAtFields, FieldsAreFound}
use Rattle.sdh_overhead.proofs.Heads.{field-a1, field-a2}
use Rattle.sdh_overhead.proofs.Trips.{all-from}

-- ---- the rows and columns of a field

other_column : (row c m : ℕ) → (eqb row 1 && leb c m) ≡ false → row ≡ 1 → m < c
other_column row c m e is = elim (and_cases (eqb row 1) (leb c m) e) [
  | inl other ↦ absurd (both_ways (eqb row 1) other (ap (λ r. eqb r 1) is))
  | inr past ↦ leb-false c m past
]

row_and : (row r : ℕ) (t : Bool) → (eqb row r && t) ≡ true → (row ≡ r) × (t ≡ true)
row_and row r t e = let is = and_parts (eqb row r) t e in (eqb-true row r is.0, is.1)

-- what holds of each field at its own rows and columns holds of the field at any place
by_field : (P : field.Field → Type 0) (n row column : ℕ) → ((au : ℕ) → P (Payload au)) → ((au p : ℕ) → P (Pointer au p))
    → (row ≡ 1 → column ≤ 3 * n → P A1) → (row ≡ 1 → 3 * n < column → column ≤ 6 * n → P A2) → P J0 → P Fixed
    → (row ≡ 2 → column ≡ 1 → P B1)
    → (row ≡ 5 → column ≤ 3 * n → P (B2 (column - 1))) → (row ≡ 5 → column ≡ 3 * n + 1 → P K1) → (row ≡ 5 → column ≡ 6 * n + 1 → P K2)
    → P Unused → P (field_at n row column)
unfolding field_at
by_field P n row column payload pointer a1 a2 j0 fixed b1 b2 k1 k2 unused =
    cond_both (ltb (9 * n) column) _ _ P (λ _. payload _) (λ _.
    cond_both (eqb row 4) _ _ P (λ _. pointer _ _) (λ _.
    cond_both (eqb row 1 && leb column (3 * n)) _ _ P (λ t. let is = row_and row 1 _ t in a1 is.0 (leb-true _ _ is.1)) (λ past.
    cond_both (eqb row 1 && leb column (6 * n)) _ _ P (λ t. let is = row_and row 1 _ t in a2 is.0
    (other_column row column (3 * n) past is.0) (leb-true _ _ is.1)) (λ _.
    cond_both (eqb row 1 && eqb column (6 * n + 1)) _ _ P (λ _. j0) (λ _.
    cond_both (eqb row 1) _ _ P (λ _. fixed) (λ _.
    cond_both (eqb row 2 && eqb column 1) _ _ P (λ t. let is = row_and row 2 _ t in b1 is.0 (eqb-true _ _ is.1)) (λ _.
    cond_both (eqb row 5 && leb column (3 * n)) _ _ P (λ t. let is = row_and row 5 _ t in b2 is.0 (leb-true _ _ is.1)) (λ _.
    cond_both (eqb row 5 && eqb column (3 * n + 1)) _ _ P (λ t. let is = row_and row 5 _ t in k1 is.0 (eqb-true _ _ is.1)) (λ _.
    cond_both (eqb row 5 && eqb column (6 * n + 1)) _ _ P (λ t. let is = row_and row 5 _ t in k2 is.0 (eqb-true _ _ is.1))
    (λ _. unused))))))))))

a1_place : (n row column : ℕ) → field_at n row column ≡ A1 → (row ≡ 1) × (column ≤ 3 * n)
a1_place n row column =
    by_field (λ (f : field.Field). f ≡ A1 → (row ≡ 1) × (column ≤ 3 * n)) n row column (λ _ e. cc) (λ _ _ e. cc) (λ r c _. (r, c))
    (λ _ _ _ e. cc) (λ e. cc) (λ e. cc) (λ _ _ e. cc) (λ _ _ e. cc)
    (λ _ _ e. cc) (λ _ _ e. cc) (λ e. cc)

a2_place : (n row column : ℕ) → field_at n row column ≡ A2 → (row ≡ 1) × (3 * n < column) × (column ≤ 6 * n)
a2_place n row column =
    by_field (λ (f : field.Field). f ≡ A2 → (row ≡ 1) × (3 * n < column) × (column ≤ 6 * n)) n row column (λ _ e. cc) (λ _ _ e. cc)
    (λ _ _ e. cc) (λ r c d _. (r, c, d)) (λ e. cc) (λ e. cc) (λ _ _ e. cc) (λ _ _ e. cc)
    (λ _ _ e. cc) (λ _ _ e. cc) (λ e. cc)

b1_place : (n row column : ℕ) → field_at n row column ≡ B1 → (row ≡ 2) × (column ≡ 1)
b1_place n row column =
    by_field (λ (f : field.Field). f ≡ B1 → (row ≡ 2) × (column ≡ 1)) n row column (λ _ e. cc) (λ _ _ e. cc) (λ _ _ e. cc) (λ _ _ _ e. cc)
    (λ e. cc) (λ e. cc) (λ r c _. (r, c)) (λ _ _ e. cc)
    (λ _ _ e. cc) (λ _ _ e. cc) (λ e. cc)

same_number : (i j : ℕ) → B2 i ≡ B2 j → i ≡ j
same_number i j e = cc

b2_place : (n row column i : ℕ) → field_at n row column ≡ B2 i → (row ≡ 5) × (column ≤ 3 * n) × (column - 1 ≡ i)
b2_place n row column i =
    by_field (λ (f : field.Field). f ≡ B2 i → (row ≡ 5) × (column ≤ 3 * n) × (column - 1 ≡ i)) n row column (λ _ e. cc) (λ _ _ e. cc)
    (λ _ _ e. cc) (λ _ _ _ e. cc) (λ e. cc) (λ e. cc) (λ _ _ e. cc)
    (λ r c e. (r, c, same_number (column - 1) i e)) (λ _ _ e. cc) (λ _ _ e. cc) (λ e. cc)

k1_place : (n row column : ℕ) → field_at n row column ≡ K1 → (row ≡ 5) × (column ≡ 3 * n + 1)
k1_place n row column =
    by_field (λ (f : field.Field). f ≡ K1 → (row ≡ 5) × (column ≡ 3 * n + 1)) n row column (λ _ e. cc) (λ _ _ e. cc) (λ _ _ e. cc)
    (λ _ _ _ e. cc) (λ e. cc) (λ e. cc) (λ _ _ e. cc) (λ _ _ e. cc)
    (λ r c _. (r, c)) (λ _ _ e. cc) (λ e. cc)

k2_place : (n row column : ℕ) → field_at n row column ≡ K2 → (row ≡ 5) × (column ≡ 6 * n + 1)
k2_place n row column =
    by_field (λ (f : field.Field). f ≡ K2 → (row ≡ 5) × (column ≡ 6 * n + 1)) n row column (λ _ e. cc) (λ _ _ e. cc) (λ _ _ e. cc)
    (λ _ _ _ e. cc) (λ e. cc) (λ e. cc) (λ _ _ e. cc) (λ _ _ e. cc)
    (λ _ _ e. cc) (λ r c _. (r, c)) (λ e. cc)

-- ---- bytes by places

all-at : (v : ℕ) (xs : List ℕ) (k : ℕ) → list_all (λ x. x == v) xs ≡ true → k < length xs → get_or xs k 0 ≡ v
all-at v xs k all h = elim (cases_Bool (get_or xs k 0 == v)) [
  | inl is ↦ eqb-true _ _ is
  | inr other ↦ absurd (both_ways (list_all (λ x. x == v) xs) (list_all_at (λ x. x == v) xs k 0 h other) all)
]

read_at : (xs : List ℕ) (i j : ℕ) → i ≡ j → get_or xs i 0 ≡ get_or xs j 0
read_at xs i j e = ap (λ k. get_or xs k 0) e

index_at : (n r c : ℕ) (place : Place) → place.row ≡ r + 1 → place.column ≡ c + 1 → index_of n place ≡ r * (270 * n) + c
index_at n r c place e f =
    let row : place.row - 1 ≡ r = omega arith in
    let column : place.column - 1 ≡ c = omega arith in
    ap (λ k. k * (270 * n) + (place.column - 1)) row ∙ ap (λ k. r * (270 * n) + k) column

in_first_row : (rate : Rate) (c : ℕ) → c < 9 * n_of rate → IsInFrame rate (record { row = 1; column = c + 1 })
in_first_row Four c h = record { row = omega arith; rows = omega arith; column = omega arith; columns = omega arith }
in_first_row Sixteen c h = record { row = omega arith; rows = omega arith; column = omega arith; columns = omega arith }

module _ (rate : Rate) (bytes : List ℕ) (whole : length bytes ≡ size_of rate) where
  abbrev n : ℕ
  n = n_of rate

  first_length : length (take (3 * n) bytes) ≡ 3 * n
  first_length = length-take-le (3 * n) bytes (omega arith)

  second_length : length (slice_range bytes (3 * n) (6 * n)) ≡ 3 * n
  second_length = length-range (3 * n) (6 * n) (3 * n) bytes (omega arith) (omega arith)

  get_or-second : (k : ℕ) → k < 3 * n → get_or (slice_range bytes (3 * n) (6 * n)) k 0 ≡ get_or bytes (3 * n + k) 0
  get_or-second k h = get_or-take (6 * n - 3 * n) (drop (3 * n) bytes) k 0 (omega arith) ∙ get_or-drop (3 * n) bytes k 0

  framing-found : is_framed n bytes ≡ true → HasFraming rate bytes
  unfolding is_framed
  framing-found e =
      let both =
      and_parts (list_all (λ x. x == 0xF6) (take (3 * n) bytes)) (list_all (λ x. x == 0x28) (slice_range bytes (3 * n) (6 * n))) e in
      record {
        a1 = λ place is f. (let at = a1_place n place.row place.column f in
            let c : ℕ = place.column - 1 in
            let low = is.column in
            let h : c < 3 * n = omega (arith, at.1) in
            read_at bytes _ c (index_at n 0 c place at.0 (omega arith) ∙ omega arith) ∙ sym (get_or-take (3 * n) bytes c 0 h)
            ∙ all-at 0xF6 (take (3 * n) bytes) c both.0 (omega (arith, first_length)));
        a2 = λ place is f. (let at = a2_place n place.row place.column f in
            let c : ℕ = place.column - 1 - 3 * n in
            let low = is.column in
            let past = at.1 in
            let h : c < 3 * n = omega (arith, at.2) in
            read_at bytes _ (3 * n + c) (index_at n 0 (3 * n + c) place at.0 (omega arith) ∙ omega arith) ∙ sym (get_or-second c h)
            ∙ all-at 0x28 (slice_range bytes (3 * n) (6 * n)) c both.1 (omega (arith, second_length)));
      }

  framing-told : HasFraming rate bytes → is_framed n bytes ≡ true
  unfolding is_framed
  framing-told has = and_from _ _
      (all-from 0xF6 (take (3 * n) bytes) (λ k lt. (let h : k < 3 * n = omega (arith, first_length) in
      let place : Place = record { row = 1; column = k + 1 } in
      get_or-take (3 * n) bytes k 0 h ∙ read_at bytes k (index_of n place) (sym (index_at n 0 k place refl refl ∙ omega arith))
      ∙ has.a1 place (in_first_row rate k (omega arith)) (field-a1 n k (omega arith) h))))
      (all-from 0x28 (slice_range bytes (3 * n) (6 * n)) (λ k lt. (let h : k < 3 * n = omega (arith, second_length) in
      let c : ℕ = 3 * n + k in
      let place : Place = record { row = 1; column = c + 1 } in
      get_or-second k h ∙ read_at bytes c (index_of n place) (sym (index_at n 0 c place refl refl ∙ omega arith))
      ∙ has.a2 place (in_first_row rate c (omega arith)) (field-a2 n c (omega arith) (omega arith) (omega arith)))))

  byte-there : (place : Place) (r c : ℕ) → place.row ≡ r → place.column ≡ c → byte_of rate bytes place ≡ byte_in n bytes r c
  byte-there place r c e f =
      ap (λ k. get_or bytes ((k - 1) * (270 * n) + (place.column - 1)) 0) e ∙ ap (λ k. get_or bytes ((r - 1) * (270 * n) + (k - 1)) 0) f

  b2-there : (place : Place) (i : ℕ) → IsInFrame rate place → field_of rate place ≡ B2 i
      → byte_of rate bytes place ≡ get_or (b2_in n bytes) i 0
  b2-there place i is f =
      let at = b2_place n place.row place.column i f in
      let low = is.column in
      let column : place.column ≡ i + 1 = omega (arith, at.2) in
      let h : i < 3 * n = omega (arith, at.1) in
      read_at bytes _ (1080 * n + i) (index_at n 4 i place at.0 column ∙ omega arith)
      ∙ sym (get_or-take (1083 * n - 1080 * n) (drop (1080 * n) bytes) i 0 (omega arith) ∙ get_or-drop (1080 * n) bytes i 0)

  looks_at_fields : LooksAtFields rate bytes
  looks_at_fields = record {
    framing = (framing-found, framing-told);
    b1 = λ place _ f. (let at = b1_place n place.row place.column f in byte-there place 2 1 at.0 at.1);
    b2 = b2-there;
    k1 = λ place _ f. (let at = k1_place n place.row place.column f in byte-there place 5 (3 * n + 1) at.0 at.1);
    k2 = λ place _ f. (let at = k2_place n place.row place.column f in byte-there place 5 (6 * n + 1) at.0 at.1);
  }

pub fields_are_found : FieldsAreFound
fields_are_found rate bytes whole = looks_at_fields rate bytes whole
