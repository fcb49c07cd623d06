-- An AU-4 that was written into a frame, and what stays.
use Rattle.std.proofs.Common.{◌≡◌, ◌≢◌, ℕ, ◌+◌, ◌*◌, ◌-◌, ◌/◌, ◌%◌, ◌<◌, ◌≤◌, true, false, eqb, leb, ltb, List, length, get_or, refl, ap}
use Rattle.std.proofs.Common.{sym, ◌∙◌, arith, inl, inr}
use Rattle.std.specs.Prelude.{◌&&◌}
use Rattle.std.proofs.lemmas.Bool.{ne_eqb, eq-eqb, le-leb, lt-leb, lt-ltb, le-ltb, cases_Bool, cases_lt, cases_eq}
use Rattle.sdh_basics.proofs.CellsLaws.{cells-from, cells-same, length-map_from, get_or-placed}
use Rattle.sdh_ringmap.specs.declared.terms.Rate.{Rate}
use Rattle.sdh_ringmap.specs.declared.terms.Rate.TheVariants.{Four, Sixteen}
use Rattle.sdh_frame.specs.declared.Field.TheVariants.{Pointer, Payload}
use Rattle.sdh_frame.specs.declared.Place.{Place}
use Rattle.sdh_frame.specs.Sizes.{size_of}
use Rattle.sdh_ringmap.specs.Rates.{n_of}
use Rattle.sdh_frame.specs.Fields.{index_of, field_at}
use Rattle.sdh_frame.specs.Aus.{payload_of, pointers_of, payload_byte, pointer_byte, with_payload, with_pointers, Au, au_of, with_au}
use Rattle.sdh_frame.specs.PlaceLaws.{IsInFrame, field_of}
use Rattle.sdh_frame.specs.AuLaws.{IsAu, WritingKeeps}
use Rattle.sdh_frame.proofs.PlaceProofs.{IsIn, payload_in, IsPointerByte, pointer_in, IsAt, place_in, field-payload, field-pointer}

-- ---- bytes

pub payload_byte-here : (n au q c : ℕ) (p : List ℕ) (i x : ℕ) → IsIn n i q c au → payload_byte n au p i x ≡ get_or p (261 * q + c) 0
unfolding payload_byte
payload_byte-here n au q c p i x h =
    let number : eqb (i % n + 1) au ≡ true = eq-eqb _ _ h.number in
    let in_payload : leb (9 * n) (i % (270 * n)) ≡ true = le-leb _ _ h.behind in
    let back = h.back in let row = h.row in
    rw (number, in_payload, back, row) refl

pub payload_byte-other : (n au : ℕ) (p : List ℕ) (i x : ℕ) → i % n + 1 ≢ au → payload_byte n au p i x ≡ x
unfolding payload_byte
payload_byte-other n au p i x h = let number : eqb (i % n + 1) au ≡ false = ne_eqb _ _ h in rw number refl

pub payload_byte-before : (n au : ℕ) (p : List ℕ) (i x : ℕ) → i % (270 * n) < 9 * n → payload_byte n au p i x ≡ x
unfolding payload_byte
payload_byte-before n au p i x h =
    let before : leb (9 * n) (i % (270 * n)) ≡ false = lt-leb _ _ h in
    elim (cases_Bool (eqb (i % n + 1) au)) [ inl t ↦ rw (t, before) refl | inr f ↦ rw f refl ]

pub pointer_byte-here : (n au p : ℕ) (ps : List ℕ) (i x : ℕ) → IsPointerByte n i p au → pointer_byte n au ps i x ≡ get_or ps p 0
unfolding pointer_byte
pointer_byte-here n au p ps i x h =
    let a : eqb (i % n + 1) au ≡ true = eq-eqb _ _ h.number in
    let r : eqb (i / (270 * n)) 3 ≡ true = eq-eqb _ _ h.row in
    let c : ltb (i % (270 * n)) (9 * n) ≡ true = lt-ltb _ _ h.before in
    let back = h.back in
    rw (a, r, c, back) refl

pub pointer_byte-other : (n au : ℕ) (ps : List ℕ) (i x : ℕ) → i % n + 1 ≢ au → pointer_byte n au ps i x ≡ x
unfolding pointer_byte
pointer_byte-other n au ps i x h = let number : eqb (i % n + 1) au ≡ false = ne_eqb _ _ h in rw number refl

pub pointer_byte-payload : (n au : ℕ) (ps : List ℕ) (i x : ℕ) → 9 * n ≤ i % (270 * n) → pointer_byte n au ps i x ≡ x
unfolding pointer_byte
pointer_byte-payload n au ps i x h =
    let behind : ltb (i % (270 * n)) (9 * n) ≡ false = le-ltb _ _ h in
    elim (cases_Bool (eqb (i % n + 1) au && eqb (i / (270 * n)) 3)) [ inl t ↦ rw (t, behind) refl | inr f ↦ rw f refl ]

pub pointer_byte-row : (n au : ℕ) (ps : List ℕ) (i x : ℕ) → i / (270 * n) ≢ 3 → pointer_byte n au ps i x ≡ x
unfolding pointer_byte
pointer_byte-row n au ps i x h =
    let row : eqb (i / (270 * n)) 3 ≡ false = ne_eqb _ _ h in
    elim (cases_Bool (eqb (i % n + 1) au)) [ inl t ↦ rw (t, row) refl | inr f ↦ rw f refl ]

-- ---- one list of an AU-4 is written

module _ (rate : Rate) (bytes : List ℕ) (whole : length bytes ≡ size_of rate) where
  pub length-with_payload : (au : ℕ) (p : List ℕ) → length (with_payload (n_of rate) au p bytes) ≡ size_of rate
  unfolding with_payload
  length-with_payload au p = length-map_from (payload_byte (n_of rate) au p) 0 bytes ∙ whole

  pub length-with_pointers : (au : ℕ) (p : List ℕ) → length (with_pointers (n_of rate) au p bytes) ≡ size_of rate
  unfolding with_pointers
  length-with_pointers au p = length-map_from (pointer_byte (n_of rate) au p) 0 bytes ∙ whole

  pub at_payload : (au : ℕ) (p : List ℕ) (i : ℕ) → i < 2430 * n_of rate
      → get_or (with_payload (n_of rate) au p bytes) i 0 ≡ payload_byte (n_of rate) au p i (get_or bytes i 0)
  unfolding with_payload
  at_payload au p i h = get_or-placed (payload_byte (n_of rate) au p) bytes i 0 0 (omega arith)

  pub at_pointer : (au : ℕ) (p : List ℕ) (i : ℕ) → i < 2430 * n_of rate
      → get_or (with_pointers (n_of rate) au p bytes) i 0 ≡ pointer_byte (n_of rate) au p i (get_or bytes i 0)
  unfolding with_pointers
  at_pointer au p i h = get_or-placed (pointer_byte (n_of rate) au p) bytes i 0 0 (omega arith)

  pub payload-with_payload : (au : ℕ) (p : List ℕ) → 1 ≤ au → au ≤ n_of rate → length p ≡ 2349
      → payload_of (n_of rate) au (with_payload (n_of rate) au p bytes) ≡ p
  unfolding payload_of
  payload-with_payload au p low high len =
      cells-from _ 2349 0 p len (λ j lt.
      (let at = payload_in rate au j low high lt in
      let j_is : 261 * (j / 261) + j % 261 ≡ j = omega arith in
      at_payload au p _ at.within ∙ payload_byte-here (n_of rate) au (j / 261) (j % 261) p _ _ at ∙ ap (λ z. get_or p z 0) j_is))

  pub payload-with_payload_other : (au other : ℕ) (p : List ℕ) → 1 ≤ other → other ≤ n_of rate → other ≢ au
      → payload_of (n_of rate) other (with_payload (n_of rate) au p bytes) ≡ payload_of (n_of rate) other bytes
  unfolding payload_of
  payload-with_payload_other au other p low high differs =
      cells-same _ _ 2349 0 (λ j lt.
      (let at = payload_in rate other j low high lt in
      at_payload au p _ at.within ∙ payload_byte-other (n_of rate) au p _ _ (λ e. differs (sym at.number ∙ e))))

  pub pointers-with_payload : (au other : ℕ) (p : List ℕ) → 1 ≤ other → other ≤ n_of rate
      → pointers_of (n_of rate) other (with_payload (n_of rate) au p bytes) ≡ pointers_of (n_of rate) other bytes
  unfolding pointers_of
  pointers-with_payload au other p low high =
      cells-same _ _ 9 0 (λ j lt.
      (let at = pointer_in rate other j low high lt in
      at_payload au p _ at.within ∙ payload_byte-before (n_of rate) au p _ _ at.before))

  pub pointers-with_pointers : (au : ℕ) (p : List ℕ) → 1 ≤ au → au ≤ n_of rate → length p ≡ 9
      → pointers_of (n_of rate) au (with_pointers (n_of rate) au p bytes) ≡ p
  unfolding pointers_of
  pointers-with_pointers au p low high len =
      cells-from _ 9 0 p len (λ j lt.
      (let at = pointer_in rate au j low high lt in
      at_pointer au p _ at.within ∙ pointer_byte-here (n_of rate) au j p _ _ at))

  pub pointers-with_pointers_other : (au other : ℕ) (p : List ℕ) → 1 ≤ other → other ≤ n_of rate → other ≢ au
      → pointers_of (n_of rate) other (with_pointers (n_of rate) au p bytes) ≡ pointers_of (n_of rate) other bytes
  unfolding pointers_of
  pointers-with_pointers_other au other p low high differs =
      cells-same _ _ 9 0 (λ j lt.
      (let at = pointer_in rate other j low high lt in
      at_pointer au p _ at.within ∙ pointer_byte-other (n_of rate) au p _ _ (λ e. differs (sym at.number ∙ e))))

  pub payload-with_pointers : (au other : ℕ) (p : List ℕ) → 1 ≤ other → other ≤ n_of rate
      → payload_of (n_of rate) other (with_pointers (n_of rate) au p bytes) ≡ payload_of (n_of rate) other bytes
  unfolding payload_of
  payload-with_pointers au other p low high =
      cells-same _ _ 2349 0 (λ j lt.
      (let at = payload_in rate other j low high lt in
      at_pointer au p _ at.within ∙ pointer_byte-payload (n_of rate) au p _ _ at.behind))

-- ---- a whole AU-4 is written

unfoldable pub au_byte : ℕ → ℕ → Au → ℕ → ℕ → ℕ
au_byte n au is i x = pointer_byte n au is.pointers i (payload_byte n au is.payload i x)

pub length-with_au : (rate : Rate) (au : ℕ) (is : Au) (bytes : List ℕ) → length bytes ≡ size_of rate
    → length (with_au (n_of rate) au is bytes) ≡ size_of rate
unfolding with_au
length-with_au rate au is bytes whole =
    length-with_pointers rate (with_payload (n_of rate) au is.payload bytes)
    (length-with_payload rate bytes whole au is.payload) au is.pointers

pub at_au : (rate : Rate) (au : ℕ) (is : Au) (bytes : List ℕ) (i : ℕ) → length bytes ≡ size_of rate → i < size_of rate
    → get_or (with_au (n_of rate) au is bytes) i 0 ≡ au_byte (n_of rate) au is i (get_or bytes i 0)
unfolding with_au au_byte
at_au rate au is bytes i whole h =
    at_pointer rate (with_payload (n_of rate) au is.payload bytes) (length-with_payload rate bytes whole au is.payload) au is.pointers i h
    ∙ ap (pointer_byte (n_of rate) au is.pointers i) (at_payload rate bytes whole au is.payload i h)

same_au : (a b : Au) → a.pointers ≡ b.pointers → a.payload ≡ b.payload → a ≡ b
same_au a b p q = λ i. record { pointers = p i; payload = q i }

pub au-with_au : (rate : Rate) (au : ℕ) (is : Au) (bytes : List ℕ) → length bytes ≡ size_of rate → 1 ≤ au → au ≤ n_of rate → IsAu is
    → au_of (n_of rate) au (with_au (n_of rate) au is bytes) ≡ is
unfolding with_au
au-with_au rate au is bytes whole low high has =
    let mid = with_payload (n_of rate) au is.payload bytes in
    let len = length-with_payload rate bytes whole au is.payload in
    same_au _ is (pointers-with_pointers rate mid len au is.pointers low high has.pointers)
    (payload-with_pointers rate mid len au au is.pointers low high
    ∙ payload-with_payload rate bytes whole au is.payload low high has.payload)

pub au-with_au_other : (rate : Rate) (au other : ℕ) (is : Au) (bytes : List ℕ) → length bytes ≡ size_of rate → 1 ≤ other → other ≤ n_of rate
    → other ≢ au → au_of (n_of rate) other (with_au (n_of rate) au is bytes) ≡ au_of (n_of rate) other bytes
unfolding with_au
au-with_au_other rate au other is bytes whole low high differs =
    let mid = with_payload (n_of rate) au is.payload bytes in
    let len = length-with_payload rate bytes whole au is.payload in
    same_au _ _ (pointers-with_pointers_other rate mid len au other is.pointers low high differs
    ∙ pointers-with_payload rate bytes whole au other is.payload low high)
    (payload-with_pointers rate mid len au other is.pointers low high
    ∙ payload-with_payload_other rate bytes whole au other is.payload low high differs)

-- ---- bytes of other fields

number_at : (rate : Rate) (place : Place) (i : ℕ) → 9 * n_of rate < place.column → IsAt (n_of rate) i place
    → (place.column - 9 * n_of rate - 1) % n_of rate ≡ i % n_of rate
number_at Four place i h at = omega arith
number_at Sixteen place i h at = omega arith

pointer_number_at : (rate : Rate) (place : Place) (i : ℕ) → 1 ≤ place.column → IsAt (n_of rate) i place
    → (place.column - 1) % n_of rate ≡ i % n_of rate
pointer_number_at Four place i h at = omega arith
pointer_number_at Sixteen place i h at = omega arith

module _ (rate : Rate) (au : ℕ) (is : Au) (place : Place) (within : IsInFrame rate place) (no_payload : field_of rate place ≢ Payload au)
    (no_pointer : (p : ℕ) → field_of rate place ≢ Pointer au p) where
  pub au_byte-kept : (x : ℕ) → au_byte (n_of rate) au is (index_of (n_of rate) place) x ≡ x
  unfolding au_byte
  au_byte-kept x =
      let n = n_of rate in
      let i = index_of n place in
      let at = place_in rate place within in
      elim (cases_lt (9 * n) place.column) [
        | inl behind ↦ (
            let other : i % n + 1 ≢ au =
            λ e. no_payload (field-payload n place.row place.column behind
            ∙ ap Payload (ap (λ z. z + 1) (number_at rate place i behind at) ∙ e)) in
            pointer_byte-other n au is.pointers i _ other ∙ payload_byte-other n au is.payload i x other)
        | inr before ↦ (
            let low : i % (270 * n) < 9 * n = omega (arith, at.column) in
            let stays = payload_byte-before n au is.payload i x low in
            elim (cases_eq place.row 4) [
              | inl four ↦ (
                  let there : field_of rate place ≡ Pointer ((place.column - 1) % n + 1) ((place.column - 1) / n) =
                  ap (λ r. field_at n r place.column) four ∙ field-pointer n place.column before in
                  let other : i % n + 1 ≢ au =
                  λ e. no_pointer ((place.column - 1) / n)
                  (there ∙ ap (λ z. Pointer z ((place.column - 1) / n))
                  (ap (λ z. z + 1) (pointer_number_at rate place i within.column at) ∙ e)) in
                  pointer_byte-other n au is.pointers i _ other ∙ stays)
              | inr not_four ↦ pointer_byte-row n au is.pointers i _ (λ e. not_four (sym at.row ∙ ap (λ z. z + 1) e)) ∙ stays
            ])
      ]

pub writing_keeps : WritingKeeps
writing_keeps rate au is bytes whole low high has = record {
  size = length-with_au rate au is bytes whole;
  found = au-with_au rate au is bytes whole low high has;
  others = λ other olow ohigh differs. au-with_au_other rate au other is bytes whole olow ohigh differs;
  kept =
      λ place within no_payload no_pointer. at_au rate au is bytes (index_of (n_of rate) place) whole (place_in rate place within).within
      ∙ au_byte-kept rate au is place within no_payload no_pointer _;
}
