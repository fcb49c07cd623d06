-- One byte of an AU-4, read and written.
use Rattle.std.proofs.Common.{◌≡◌, ◌≢◌, ℕ, ◌+◌, ◌*◌, ◌-◌, ◌/◌, ◌%◌, ◌<◌, ◌≤◌, Bool, true, false, eqb, leb, ltb, List, length, get_or, set}
use Rattle.std.proofs.Common.{refl, ap, sym, ◌∙◌, arith, inl, inr}
use Rattle.std.specs.Prelude.{◌&&◌}
use Rattle.std.proofs.lemmas.Bool.{cases_Bool, cases_eq, and_parts, eqb-true, leb-true, ltb-true, eq-eqb, le-leb, lt-ltb}
use Rattle.std.proofs.lemmas.List.{length-set, get_or-set_same, get_or-set_other}
use Rattle.sdh_basics.proofs.CellsLaws.{get_or-cells, length-cells}
use Rattle.sdh_ringmap.specs.declared.terms.Rate.{Rate}
use Rattle.sdh_ringmap.specs.declared.terms.Rate.TheVariants.{Four, Sixteen}
use Rattle.sdh_frame.specs.Sizes.{size_of}
use Rattle.sdh_ringmap.specs.Rates.{n_of}
use Rattle.sdh_frame.specs.Fields.{index_of, payload_place, place_of_pointer}
use Rattle.sdh_frame.specs.Aus.{payload_of, pointers_of, with_payload, with_pointers, is_payload, is_pointer}
use Rattle.sdh_frame.proofs.PlaceProofs.{payload_in, pointer_in}
use Rattle.sdh_frame.specs.Aus.{with_au}
use Rattle.sdh_frame.specs.AuLaws.{WritingOneList}
use Rattle.sdh_frame.proofs.AuProofs.{length-with_payload, pointers-with_payload}
use Rattle.sdh_frame.proofs.Moves.{source, stored, pointed}

pub read_payload : (n au j : ℕ) (s : List ℕ) → j < 2349 → get_or s (index_of n (payload_place n au j)) 0 ≡ get_or (payload_of n au s) j 0
unfolding payload_of
read_payload n au j s h = sym (get_or-cells _ 2349 j 0 h)

pub read_pointer : (n au j : ℕ) (s : List ℕ) → j < 9 → get_or s (index_of n (place_of_pointer n au j)) 0 ≡ get_or (pointers_of n au s) j 0
unfolding pointers_of
read_pointer n au j s h = sym (get_or-cells _ 9 j 0 h)

long_payload : (n au : ℕ) (s : List ℕ) → length (payload_of n au s) ≡ 2349
unfolding payload_of
long_payload n au s = length-cells _ 2349

long_pointers : (n au : ℕ) (s : List ℕ) → length (pointers_of n au s) ≡ 9
unfolding pointers_of
long_pointers n au s = length-cells _ 9

both : (a b : Bool) → a ≡ true → b ≡ true → (a && b) ≡ true
both true true p q = refl
both true false p q = q
both false b p q = p

-- where a byte of a pointer stands
pointer_source : (rate : Rate) (au i : ℕ) → 1 ≤ au → i < size_of rate → i % n_of rate + 1 ≡ au → i / (270 * n_of rate) ≡ 3
    → i % (270 * n_of rate) < 9 * n_of rate
    → (index_of (n_of rate) (place_of_pointer (n_of rate) au (i % (270 * n_of rate) / n_of rate)) ≡ i)
    × (i % (270 * n_of rate) / n_of rate < 9)
pointer_source Four au i low h lane row col = (omega arith, omega arith)
pointer_source Sixteen au i low h lane row col = (omega arith, omega arith)

back : (rate : Rate) (au i : ℕ) → au ≤ n_of rate → 9 * n_of rate ≤ i % (270 * n_of rate) → i - au + au ≡ i
back Four au i high col = omega arith
back Sixteen au i high col = omega arith

module _ (rate : Rate) (au j v : ℕ) (s : List ℕ) (whole : length s ≡ size_of rate) (low : 1 ≤ au) (high : au ≤ n_of rate) where
  pub set_payload : j < 2349 → set s (index_of (n_of rate) (payload_place (n_of rate) au j)) v
      ≡ with_payload (n_of rate) au (set (payload_of (n_of rate) au s) j v) s
  set_payload few =
      let n = n_of rate in
      let at = index_of n (payload_place n au j) in
      let p = payload_of n au s in
      let there = payload_in rate au j low high few in
      stored rate au s (set s at v) high whole (length-set s at v) (set p j v) (λ i lt.
      (elim (cases_Bool (is_payload n au i)) [
        | inl t ↦ (
            let parts = and_parts (eqb (i % n + 1) au) (leb (9 * n) (i % (270 * n))) t in
            let col = leb-true _ _ parts.1 in
            let from = source rate au au i low lt (eqb-true _ _ parts.0) col in
            let q : ℕ = 261 * (i / (270 * n)) + (i % (270 * n) - 9 * n) / n in
            let is : index_of n (payload_place n au q) ≡ i = from.0 ∙ back rate au i high col in
            elim (cases_eq q j) [
              | inl same ↦ (
                  let here : at ≡ i = ap (λ k. index_of n (payload_place n au k)) (sym same) ∙ is in
                  rw t (ap (λ k. get_or (set s at v) k 0) (sym here) ∙ get_or-set_same s at v 0 (omega (arith, there.within, whole))
                  ∙ sym (ap (λ k. get_or (set p j v) k 0) same ∙ get_or-set_same p j v 0 (omega (arith, long_payload n au s)))))
              | inr other ↦ (
                  let away : i ≢ at =
                  λ e. other (ap (λ k. 261 * (k / (270 * n)) + (k % (270 * n) - 9 * n) / n) e ∙ index_back there.row there.back) in
                  rw t (get_or-set_other s at i v 0 away ∙ ap (λ k. get_or s k 0) (sym is) ∙ read_payload n au q s from.1
                  ∙ sym (get_or-set_other p j q v 0 other)))
            ])
        | inr f ↦ (
            let away : i ≢ at =
            λ e. absurd (let yes : true ≡ false = sym (both _ _ (eq-eqb _ _ there.number) (le-leb _ _ there.behind))
            ∙ ap (is_payload n au) (sym e) ∙ f in cc) in
            rw f (get_or-set_other s at i v 0 away))
      ]))
    where
      index_back : {x y : ℕ} → x ≡ j / 261 → y ≡ j % 261 → 261 * x + y ≡ j
      index_back e f = omega arith

  pub set_pointer : j < 9 → set s (index_of (n_of rate) (place_of_pointer (n_of rate) au j)) v
      ≡ with_pointers (n_of rate) au (set (pointers_of (n_of rate) au s) j v) s
  set_pointer few =
      let n = n_of rate in
      let at = index_of n (place_of_pointer n au j) in
      let p = pointers_of n au s in
      let there = pointer_in rate au j low high few in
      pointed rate au s (set s at v) high whole (length-set s at v) (set p j v) (λ i lt.
      (elim (cases_Bool (is_pointer n au i)) [
        | inl t ↦ (
            let parts = and_parts (eqb (i % n + 1) au && eqb (i / (270 * n)) 3) (ltb (i % (270 * n)) (9 * n)) t in
            let more = and_parts (eqb (i % n + 1) au) (eqb (i / (270 * n)) 3) parts.0 in
            let q : ℕ = i % (270 * n) / n in
            let from = pointer_source rate au i low lt (eqb-true _ _ more.0) (eqb-true _ _ more.1) (ltb-true _ _ parts.1) in
            elim (cases_eq q j) [
              | inl same ↦ (
                  let here : at ≡ i = ap (λ k. index_of n (place_of_pointer n au k)) (sym same) ∙ from.0 in
                  rw t (ap (λ k. get_or (set s at v) k 0) (sym here) ∙ get_or-set_same s at v 0 (omega (arith, there.within, whole))
                  ∙ sym (ap (λ k. get_or (set p j v) k 0) same ∙ get_or-set_same p j v 0 (omega (arith, long_pointers n au s)))))
              | inr other ↦ (
                  let away : i ≢ at = λ e. other (ap (λ k. k % (270 * n) / n) e ∙ there.back) in
                  rw t (get_or-set_other s at i v 0 away ∙ ap (λ k. get_or s k 0) (sym from.0) ∙ read_pointer n au q s from.1
                  ∙ sym (get_or-set_other p j q v 0 other)))
            ])
        | inr f ↦ (
            let away : i ≢ at =
            λ e. absurd (let yes : true ≡ false = sym (both _ _ (both _ _ (eq-eqb _ _ there.number) (eq-eqb _ _ there.row))
            (lt-ltb _ _ there.before)) ∙ ap (is_pointer n au) (sym e) ∙ f in cc) in
            rw f (get_or-set_other s at i v 0 away))
      ]))

  -- a list of an AU-4 that is written where it stands
  pub payload_again : with_payload (n_of rate) au (payload_of (n_of rate) au s) s ≡ s
  payload_again =
      let n = n_of rate in
      sym (stored rate au s s high whole refl (payload_of n au s) (λ i lt.
      (elim (cases_Bool (is_payload n au i)) [
        | inl t ↦ (
            let parts = and_parts (eqb (i % n + 1) au) (leb (9 * n) (i % (270 * n))) t in
            let col = leb-true _ _ parts.1 in
            let from = source rate au au i low lt (eqb-true _ _ parts.0) col in
            let q : ℕ = 261 * (i / (270 * n)) + (i % (270 * n) - 9 * n) / n in
            let is : index_of n (payload_place n au q) ≡ i = from.0 ∙ back rate au i high col in
            rw t (ap (λ k. get_or s k 0) (sym is) ∙ read_payload n au q s from.1))
        | inr f ↦ rw f refl
      ])))

  pointers_again : with_pointers (n_of rate) au (pointers_of (n_of rate) au s) s ≡ s
  pointers_again =
      let n = n_of rate in
      sym (pointed rate au s s high whole refl (pointers_of n au s) (λ i lt.
      (elim (cases_Bool (is_pointer n au i)) [
        | inl t ↦ (
            let parts = and_parts (eqb (i % n + 1) au && eqb (i / (270 * n)) 3) (ltb (i % (270 * n)) (9 * n)) t in
            let more = and_parts (eqb (i % n + 1) au) (eqb (i / (270 * n)) 3) parts.0 in
            let from = pointer_source rate au i low lt (eqb-true _ _ more.0) (eqb-true _ _ more.1) (ltb-true _ _ parts.1) in
            rw t (ap (λ k. get_or s k 0) (sym from.0) ∙ read_pointer n au (i % (270 * n) / n) s from.1))
        | inr f ↦ rw f refl
      ])))

-- the other list is written where it stands
pub one_list : WritingOneList
unfolding with_au
one_list = record {
  payload = λ rate au p bytes whole low high.
      sym (ap (λ ps. with_pointers (n_of rate) au ps (with_payload (n_of rate) au p bytes))
      (sym (pointers-with_payload rate bytes whole au au p low high))
      ∙ pointers_again rate au 0 0 (with_payload (n_of rate) au p bytes) (length-with_payload rate bytes whole au p) low high);
  pointers = λ rate au ps bytes whole low high. sym (ap (with_pointers (n_of rate) au ps) (payload_again rate au 0 0 bytes whole low high));
}
