-- Pointer bytes that are written into a row of AU-4s that were chosen.
use Rattle.std.proofs.Common.{◌≡◌, ◌≢◌, ℕ, ◌+◌, ◌%◌, ◌<◌, ◌≤◌, inl, inr, true, false, ltb, List, [], length, get_or, map, refl, ap, sym}
use Rattle.std.proofs.Common.{◌∙◌, arith}
use Rattle.std.specs.Prelude.{if◌then◌else◌}
use Rattle.std.proofs.lemmas.Bool.{cases_Bool, cases_eq, cases_lt, lt-ltb, le-ltb}
use Rattle.std.proofs.lemmas.List.{get_or-map, length-map}
use Rattle.sdh_basics.proofs.CellsLaws.{length-map_from, get_or-placed}
use Rattle.sdh_ringmap.specs.declared.terms.Rate.{Rate}
use Rattle.sdh_frame.specs.Sizes.{size_of}
use Rattle.sdh_ringmap.specs.Rates.{n_of}
use Rattle.sdh_frame.specs.Aus.{payload_byte, pointer_byte, is_pointer, with_pointers, Au, with_aus, ones}
use Rattle.sdh_frame.proofs.AuProofs.{au_byte, at_pointer, pointer_byte-other}
use Rattle.sdh_frame.proofs.AllAus.{at_aus, in_rate}
use Rattle.sdh_interchange.specs.declared.choose.Source.{Source}
use Rattle.sdh_interchange.specs.declared.choose.Source.TheVariants.{First, Second, Own, Ones}
use Rattle.sdh_interchange.specs.Choosing.{au_from, assembled_frame}
use Rattle.sdh_interchange.specs.Assembled.{payload_from, assembled}
use Rattle.sdh_interchange.proofs.ByBytes.{aus_byte-at}

-- ---- one AU-4 after the other

-- byte i, which was x, once the first k AU-4s have their pointer bytes
abbrev pub pointed : ℕ → List (List ℕ) → ℕ → ℕ → ℕ → ℕ
pointed n ps k i x = if ltb (i % n) k then pointer_byte n (i % n + 1) (get_or ps (i % n) []) i x else x

pub pointed-none : (n : ℕ) (ps : List (List ℕ)) (i x : ℕ) → x ≡ pointed n ps 0 i x
pointed-none n ps i x = let f : ltb (i % n) 0 ≡ false = le-ltb _ _ (omega arith) in rw f refl

pub pointed-all : (rate : Rate) (ps : List (List ℕ)) (k i x : ℕ) → n_of rate ≤ k
    → pointed (n_of rate) ps k i x ≡ pointer_byte (n_of rate) (i % n_of rate + 1) (get_or ps (i % n_of rate) []) i x
pointed-all rate ps k i x h = let t : ltb (i % n_of rate) k ≡ true = lt-ltb _ _ (omega (arith, in_rate rate i)) in rw t refl

pub pointed-more : (rate : Rate) (ps : List (List ℕ)) (k : ℕ) (bytes : List ℕ) (i x : ℕ) → length bytes ≡ size_of rate → i < size_of rate
    → get_or bytes i 0 ≡ pointed (n_of rate) ps k i x
    → get_or (with_pointers (n_of rate) (k + 1) (get_or ps k []) bytes) i 0 ≡ pointed (n_of rate) ps (k + 1) i x
pointed-more rate ps k bytes i x long inside is =
    let n = n_of rate in
    at_pointer rate bytes long (k + 1) (get_or ps k []) i inside ∙ elim (cases_eq (i % n) k) [
      | inl here ↦ (
          let f : ltb (i % n) k ≡ false = le-ltb _ _ (omega arith) in
          let t : ltb (i % n) (k + 1) ≡ true = lt-ltb _ _ (omega arith) in
          let same : get_or bytes i 0 ≡ x = is ∙ rw f refl in
          ap (pointer_byte n (k + 1) (get_or ps k []) i) same ∙ ap (λ m. pointer_byte n (m + 1) (get_or ps m []) i x) (sym here)
          ∙ (rw t refl))
      | inr other ↦ (
          let away : i % n + 1 ≢ k + 1 = λ e. other (omega arith) in
          pointer_byte-other n (k + 1) (get_or ps k []) i (get_or bytes i 0) away ∙ is ∙ elim (cases_lt (i % n) k) [
            | inl below ↦ (
                let s : ltb (i % n) k ≡ true = lt-ltb _ _ below in
                let t : ltb (i % n) (k + 1) ≡ true = lt-ltb _ _ (omega arith) in
                rw (s, t) refl)
            | inr above ↦ (
                let s : ltb (i % n) k ≡ false = le-ltb _ _ above in
                let t : ltb (i % n) (k + 1) ≡ false = le-ltb _ _ (omega arith) in
                rw (s, t) refl)
          ])
    ]

-- ---- pointer bytes and AU-4s that were chosen

same_payload : (n : ℕ) (first second : List ℕ) (own : List (List ℕ)) (s : Source)
    → (au_from n first second own s).payload ≡ payload_from n first second own s
same_payload n first second own (First au) = refl
same_payload n first second own (Second au) = refl
same_payload n first second own (Own k) = refl
same_payload n first second own Ones = refl

twice : (n k : ℕ) (ps qs : List ℕ) (i y : ℕ) → pointer_byte n k ps i (pointer_byte n k qs i y) ≡ pointer_byte n k ps i y
unfolding pointer_byte
twice n k ps qs i y = elim (cases_Bool (is_pointer n k i)) [ inl t ↦ rw t refl | inr f ↦ rw f refl ]

au_pointed : (n k : ℕ) (ps : List ℕ) (au : Au) (i x : ℕ) → au_byte n k (record { pointers = ps; payload = au.payload }) i x
    ≡ pointer_byte n k ps i (au_byte n k au i x)
unfolding au_byte
au_pointed n k ps au i x = sym (twice n k ps au.pointers i (payload_byte n k au.payload i x))

-- what is put together is what was chosen, with these pointer bytes
pub assembled-byte : (rate : Rate) (sources : List Source) (first second : List ℕ) (own : List (List ℕ)) (ps : List (List ℕ)) (old : List ℕ)
    (i : ℕ) → length old ≡ size_of rate → i < size_of rate → length sources ≡ n_of rate
    → get_or (with_aus (n_of rate) 1 (assembled (n_of rate) first second own sources ps) old) i 0
    ≡ pointer_byte (n_of rate) (i % n_of rate + 1) (get_or ps (i % n_of rate) []) i
    (get_or (assembled_frame (n_of rate) sources first second own old) i 0)
unfolding assembled assembled_frame
assembled-byte rate sources first second own ps old i whole inside many =
    let n = n_of rate in
    let j : ℕ = i % n in
    let f = au_from n first second own in
    let g : ℕ → Source → Au = λ k s. record { pointers = get_or ps k []; payload = payload_from n first second own s } in
    let x = get_or old i 0 in
    let few : j < length sources = omega (arith, in_rate rate i, many) in
    let turn : j + 1 ≡ 1 + j = omega arith in
    let left : get_or (with_aus n 1 (assembled n first second own sources ps) old) i 0 ≡ au_byte n (1 + j) (g j (get_or sources j Ones)) i x
    =
    at_aus rate 1 (assembled n first second own sources ps) old i whole inside
    ∙ aus_byte-at n 1 j (assembled n first second own sources ps) ones i x turn (omega (arith, length-map_from g 0 sources, few))
    ∙ ap (λ a. au_byte n (1 + j) a i x) (get_or-placed g sources j Ones ones few) in
    let right : get_or (assembled_frame n sources first second own old) i 0 ≡ au_byte n (1 + j) (f (get_or sources j Ones)) i x
    =
    at_aus rate 1 (map f sources) old i whole inside ∙ aus_byte-at n 1 j (map f sources) ones i x turn
    (omega (arith, length-map sources f, few)) ∙ ap (λ a. au_byte n (1 + j) a i x) (get_or-map f sources j Ones ones few) in
    left ∙ ap (λ p. au_byte n (1 + j) (record { pointers = get_or ps j []; payload = p }) i x)
    (sym (same_payload n first second own (get_or sources j Ones)))
    ∙ au_pointed n (1 + j) (get_or ps j []) (f (get_or sources j Ones)) i x ∙ ap (pointer_byte n (1 + j) (get_or ps j []) i) (sym right)
    ∙ ap (λ m. pointer_byte n m (get_or ps j []) i (get_or (assembled_frame n sources first second own old) i 0)) (sym turn)
