-- Places and indexes of the bytes of an AU-4.
use Rattle.std.proofs.Common.{◌≡◌, ℕ, ◌+◌, ◌*◌, ◌-◌, ◌/◌, ◌%◌, ◌<◌, ◌≤◌, true, false, eqb, leb, ltb, refl, ap, ◌∙◌, arith, inl, inr}
use Rattle.std.specs.Prelude.{◌&&◌}
use Rattle.std.proofs.lemmas.Bool.{cases_lt, eqb-true, lt-ltb, le-ltb, ltb-true, cond_both}
use Rattle.sdh_ringmap.specs.declared.terms.Rate.{Rate}
use Rattle.sdh_ringmap.specs.declared.terms.Rate.TheVariants.{Four, Sixteen}
use Rattle.sdh_frame.specs.declared.Field as field
use Rattle.sdh_frame.specs.declared.Field.TheVariants.{A1, A2, J0, Fixed, B1, B2, K1, K2, Unused, Pointer, Payload}
use Rattle.sdh_frame.specs.declared.Place.{Place}
use Rattle.sdh_ringmap.specs.Rates.{n_of}
use Rattle.sdh_frame.specs.Fields.{index_of, field_at, payload_place, place_of_pointer}
use Rattle.sdh_frame.specs.PlaceLaws.{IsInFrame, PayloadPlaces, HasPayloadIndex, PayloadIndexes, PointerPlaces, HasPointerIndex}
use Rattle.sdh_frame.specs.PlaceLaws.{PointerIndexes}

same_place : (p q : Place) → p.row ≡ q.row → p.column ≡ q.column → p ≡ q
same_place p q r c = λ i. record { row = r i; column = c i }

-- ---- fields

pub field-payload : (n row column : ℕ) → 9 * n < column → field_at n row column ≡ Payload ((column - 9 * n - 1) % n + 1)
unfolding field_at
field-payload n row column h = let e : ltb (9 * n) column ≡ true = lt-ltb _ _ h in rw e refl

pub field-pointer : (n column : ℕ) → column ≤ 9 * n → field_at n 4 column ≡ Pointer ((column - 1) % n + 1) ((column - 1) / n)
unfolding field_at
field-pointer n column h = let e : ltb (9 * n) column ≡ false = le-ltb _ _ h in rw e refl

-- what is true of each overhead field is true of the fields in the first 9 N columns of every row but row 4
pub field-overhead : (P : field.Field → Type 0) (n row column : ℕ) → column ≤ 9 * n
    → (row ≡ 4 → P (Pointer ((column - 1) % n + 1) ((column - 1) / n)))
    → P A1 → P A2 → P J0 → P Fixed → P B1 → P (B2 (column - 1)) → P K1 → P K2 → P Unused → P (field_at n row column)
unfolding field_at
field-overhead P n row column h four a1 a2 j0 fixed b1 b2 k1 k2 unused =
    cond_both (ltb (9 * n) column) _ _ P (λ t. absurd (omega (arith, ltb-true _ _ t))) (λ _.
    cond_both (eqb row 4) _ _ P (λ t. four (eqb-true _ _ t)) (λ _.
    cond_both (eqb row 1 && leb column (3 * n)) _ _ P (λ _. a1) (λ _.
    cond_both (eqb row 1 && leb column (6 * n)) _ _ P (λ _. a2) (λ _.
    cond_both (eqb row 1 && eqb column (6 * n + 1)) _ _ P (λ _. j0) (λ _.
    cond_both (eqb row 1) _ _ P (λ _. fixed) (λ _.
    cond_both (eqb row 2 && eqb column 1) _ _ P (λ _. b1) (λ _.
    cond_both (eqb row 5 && leb column (3 * n)) _ _ P (λ _. b2) (λ _.
    cond_both (eqb row 5 && eqb column (3 * n + 1)) _ _ P (λ _. k1) (λ _.
    cond_both (eqb row 5 && eqb column (6 * n + 1)) _ _ P (λ _. k2) (λ _. unused))))))))))

-- ---- indexes

-- byte i of the frame is in row q, counted from 0, and in column c of the payload of an AU-4
pub record IsIn (n i q c au : ℕ) : Type 0 where
  pub row : i / (270 * n) ≡ q
  pub column : i % (270 * n) + 1 ≡ 9 * n + (c * n + au)
  pub behind : 9 * n ≤ i % (270 * n)
  pub number : i % n + 1 ≡ au
  pub within : i < 2430 * n
  pub back : (i % (270 * n) - 9 * n) / n ≡ c

pub payload_in : (rate : Rate) (au j : ℕ) → 1 ≤ au → au ≤ n_of rate → j < 2349
    → IsIn (n_of rate) (index_of (n_of rate) (payload_place (n_of rate) au j)) (j / 261) (j % 261) au
payload_in Four au j low high lt = record {
  row = omega arith;
  column = omega arith;
  behind = omega arith;
  number = omega arith;
  within = omega arith;
  back = omega arith;
}
payload_in Sixteen au j low high lt = record {
  row = omega arith;
  column = omega arith;
  behind = omega arith;
  number = omega arith;
  within = omega arith;
  back = omega arith;
}

-- byte i of the frame is byte p of the pointer of an AU-4
pub record IsPointerByte (n i p au : ℕ) : Type 0 where
  pub row : i / (270 * n) ≡ 3
  pub before : i % (270 * n) < 9 * n
  pub number : i % n + 1 ≡ au
  pub within : i < 2430 * n
  pub back : i % (270 * n) / n ≡ p

pub pointer_in : (rate : Rate) (au p : ℕ) → 1 ≤ au → au ≤ n_of rate → p < 9
    → IsPointerByte (n_of rate) (index_of (n_of rate) (place_of_pointer (n_of rate) au p)) p au
pointer_in Four au p low high lt = record {
  row = omega arith;
  before = omega arith;
  number = omega arith;
  within = omega arith;
  back = omega arith;
}
pointer_in Sixteen au p low high lt = record {
  row = omega arith;
  before = omega arith;
  number = omega arith;
  within = omega arith;
  back = omega arith;
}

-- row and column of the byte at a place
pub record IsAt (n i : ℕ) (place : Place) : Type 0 where
  pub row : i / (270 * n) + 1 ≡ place.row
  pub column : i % (270 * n) + 1 ≡ place.column
  pub within : i < 2430 * n

pub place_in : (rate : Rate) (place : Place) → IsInFrame rate place → IsAt (n_of rate) (index_of (n_of rate) place) place
place_in Four place is = record { row = omega arith; column = omega arith; within = omega arith }
place_in Sixteen place is = record { row = omega arith; column = omega arith; within = omega arith }

-- ---- payload

pub payload_within : (rate : Rate) (au j : ℕ) → 1 ≤ au → au ≤ n_of rate → j < 2349 → IsInFrame rate (payload_place (n_of rate) au j)
payload_within Four au j low high lt = record { row = omega arith; rows = omega arith; column = omega arith; columns = omega arith }
payload_within Sixteen au j low high lt = record { row = omega arith; rows = omega arith; column = omega arith; columns = omega arith }

-- the AU-4 of a payload column, found again
au_found : (rate : Rate) (au c : ℕ) → 1 ≤ au → au ≤ n_of rate
    → (9 * n_of rate + (c * n_of rate + au) - 9 * n_of rate - 1) % n_of rate + 1 ≡ au
au_found Four au c low high = omega arith
au_found Sixteen au c low high = omega arith

pub payload_places : PayloadPlaces
payload_places rate au j low high lt = record {
  within = payload_within rate au j low high lt;
  there =
      field-payload (n_of rate) (j / 261 + 1) (9 * n_of rate + (j % 261 * n_of rate + au)) (omega arith)
      ∙ ap Payload (au_found rate au (j % 261) low high);
}

no_payload : (n row column au : ℕ) → column ≤ 9 * n → field_at n row column ≡ Payload au → ⊥
no_payload n row column au h =
    field-overhead (λ (f : field.Field). f ≡ Payload au → ⊥) n row column h (λ _ e. (cc)) (λ e. (cc)) (λ e. (cc)) (λ e. (cc)) (λ e. (cc))
    (λ e. (cc)) (λ e. (cc)) (λ e. (cc)) (λ e. (cc)) (λ e. (cc))

payload_au : (a b : ℕ) → Payload a ≡ Payload b → a ≡ b
payload_au a b e = cc

payload_index_at : (rate : Rate) (place : Place) (au : ℕ) → IsInFrame rate place → 9 * n_of rate < place.column
    → (place.column - 9 * n_of rate - 1) % n_of rate + 1 ≡ au → HasPayloadIndex rate place au
payload_index_at Four place au is h e = record {
  au_low = omega arith;
  au_high = omega arith;
  j = 261 * (place.row - 1) + (place.column - 37) / 4;
  small = omega arith;
  there = same_place _ place (omega arith) (omega arith);
  only =
      λ k lt same. (let r : k / 261 + 1 ≡ place.row = ap (λ (p : Place). p.row) same in let c : 36 + (k % 261 * 4 + au)
      ≡ place.column = ap (λ (p : Place). p.column) same in omega arith);
}
payload_index_at Sixteen place au is h e = record {
  au_low = omega arith;
  au_high = omega arith;
  j = 261 * (place.row - 1) + (place.column - 145) / 16;
  small = omega arith;
  there = same_place _ place (omega arith) (omega arith);
  only =
      λ k lt same. (let r : k / 261 + 1 ≡ place.row = ap (λ (p : Place). p.row) same in let c : 144 + (k % 261 * 16 + au)
      ≡ place.column = ap (λ (p : Place). p.column) same in omega arith);
}

pub payload_indexes : PayloadIndexes
payload_indexes rate place au is e =
    elim (cases_lt (9 * n_of rate) place.column) [
      | inl h ↦ payload_index_at rate place au is h (payload_au _ _ (sym_of (field-payload (n_of rate) place.row place.column h) e))
      | inr h ↦ absurd (no_payload (n_of rate) place.row place.column au h e)
    ]
  where
    sym_of : {x y z : field.Field} → x ≡ y → x ≡ z → y ≡ z
    sym_of p q = cc

-- ---- pointers

pub pointer_within : (rate : Rate) (au p : ℕ) → 1 ≤ au → au ≤ n_of rate → p < 9 → IsInFrame rate (place_of_pointer (n_of rate) au p)
pointer_within Four au p low high lt = record { row = omega arith; rows = omega arith; column = omega arith; columns = omega arith }
pointer_within Sixteen au p low high lt = record { row = omega arith; rows = omega arith; column = omega arith; columns = omega arith }

pointer_found : (rate : Rate) (au p : ℕ) → 1 ≤ au → au ≤ n_of rate → p < 9
    → (p * n_of rate + au ≤ 9 * n_of rate) × ((p * n_of rate + au - 1) % n_of rate + 1 ≡ au) × ((p * n_of rate + au - 1) / n_of rate ≡ p)
pointer_found Four au p low high lt = (omega arith, omega arith, omega arith)
pointer_found Sixteen au p low high lt = (omega arith, omega arith, omega arith)

pub pointer_places : PointerPlaces
pointer_places rate au p low high lt =
    let at = pointer_found rate au p low high lt in
    record {
      within = pointer_within rate au p low high lt;
      there =
          field-pointer (n_of rate) (p * n_of rate + au) at.0 ∙ ap (λ k. Pointer k ((p * n_of rate + au - 1) / n_of rate)) at.1
          ∙ ap (Pointer au) at.2;
    }

record IsPointerField (n row column au p : ℕ) : Type 0 where
  four : row ≡ 4
  au_is : (column - 1) % n + 1 ≡ au
  p_is : (column - 1) / n ≡ p

pointer_field : (n row column au p : ℕ) → column ≤ 9 * n → field_at n row column ≡ Pointer au p → IsPointerField n row column au p
pointer_field n row column au p h =
    field-overhead (λ (f : field.Field). f ≡ Pointer au p → IsPointerField n row column au p) n row column h
    (λ r e. record { four = r; au_is = first _ _ _ _ e; p_is = second _ _ _ _ e })
    (λ e. absurd (cc)) (λ e. absurd (cc)) (λ e. absurd (cc)) (λ e. absurd (cc)) (λ e. absurd (cc)) (λ e. absurd (cc)) (λ e. absurd (cc))
    (λ e. absurd (cc)) (λ e. absurd (cc))
  where
    first : (a b x y : ℕ) → Pointer a b ≡ Pointer x y → a ≡ x
    first a b x y e = cc

    second : (a b x y : ℕ) → Pointer a b ≡ Pointer x y → b ≡ y
    second a b x y e = cc

pointer_index_at : (rate : Rate) (place : Place) (au p : ℕ) → IsInFrame rate place → place.column ≤ 9 * n_of rate
    → IsPointerField (n_of rate) place.row place.column au p → HasPointerIndex rate place au p
pointer_index_at Four place au p is h f = record {
  au_low = omega arith;
  au_high = omega arith;
  small = omega arith;
  there = same_place _ place (omega arith) (omega arith);
  only = λ q lt same. (let c : q * 4 + au ≡ place.column = ap (λ (p : Place). p.column) same in omega arith);
}
pointer_index_at Sixteen place au p is h f = record {
  au_low = omega arith;
  au_high = omega arith;
  small = omega arith;
  there = same_place _ place (omega arith) (omega arith);
  only = λ q lt same. (let c : q * 16 + au ≡ place.column = ap (λ (p : Place). p.column) same in omega arith);
}

pub pointer_indexes : PointerIndexes
pointer_indexes rate place au p is e =
    elim (cases_lt (9 * n_of rate) place.column) [
      | inl h ↦ absurd (clash (field_at (n_of rate) place.row place.column) _ (field-payload (n_of rate) place.row place.column h) e)
      | inr h ↦ pointer_index_at rate place au p is h (pointer_field (n_of rate) place.row place.column au p h e)
    ]
  where
    clash : (x : field.Field) (a : ℕ) → x ≡ Payload a → x ≡ Pointer au p → ⊥
    clash x a is_payload is_pointer = cc
