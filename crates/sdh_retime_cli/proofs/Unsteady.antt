-- A drift comes only where four chunks in a row aren't steady.
use Rattle.std.proofs.Common.{◌≡◌, ℕ, zero, suc, ◌+◌, ◌<◌, ◌≤◌, ◌⊎◌, inl, inr, Bool, true, false, List, [], ◌∷◌, length, refl, ap, sym, ◌∙◌}
use Rattle.std.proofs.Common.{arith}
use Rattle.std.specs.Prelude.{◌&&◌, ◌%◌}
use Rattle.std.specs.List.{All}
use Rattle.std.proofs.lemmas.Bool.{cases_Bool, cases_lt, le-leb}
use Rattle.sdh_basics.proofs.Parts.{length-part}
use Rattle.sdh_elastic.specs.Turns.{IsChunk}
use Rattle.sdh_elastic.specs.Lengths.{are_four, is_steady, is_last_steady}
use Rattle.sdh_elastic.specs.History.{lengths}
use Rattle.sdh_elastic.proofs.Runs.{steady_runs_last}
use Rattle.sdh_retime_cli.specs.Digits.{IsDigits, size_at, offset_at, chunk_at, chunks}
use Rattle.sdh_retime_cli.specs.Outcome.{IsDrift, UnsteadyBy}
use Rattle.sdh_retime_cli.proofs.Cut.{next_offset}

-- the lengths of the first k chunks, the last one first
sizes : List ℕ → ℕ → List ℕ
sizes digits zero = []
sizes digits (suc k) = size_at digits k ∷ sizes digits k

-- a digit gives the length of a chunk
pub size_is_chunk : (digits : List ℕ) (k : ℕ) → IsDigits digits → IsChunk (size_at digits k)
size_is_chunk digits k d =
    let less : k % length digits < length digits = omega (arith, d.some) in
    let digit = d.each (k % length digits) 48 less in
    (omega arith, omega (arith, digit.0, digit.1))

length-chunk : (digits bytes : List ℕ) (k : ℕ) → offset_at digits (suc k) ≤ length bytes
    → length (chunk_at digits bytes k) ≡ size_at digits k
length-chunk digits bytes k h = length-part (offset_at digits k) (size_at digits k) bytes (omega (arith, next_offset digits k))

before : (digits bytes : List ℕ) (k : ℕ) → offset_at digits (suc k) ≤ length bytes → offset_at digits k ≤ length bytes
before digits bytes k h = omega (arith, next_offset digits k)

lengths-chunks : (digits bytes : List ℕ) (k : ℕ) → offset_at digits k ≤ length bytes → lengths (chunks digits bytes k) ≡ sizes digits k
unfolding chunks sizes
lengths-chunks digits bytes zero h = refl
lengths-chunks digits bytes (suc k) h =
    ap (λ (n : ℕ). n ∷ lengths (chunks digits bytes k)) (length-chunk digits bytes k h)
    ∙ ap (λ (l : List ℕ). size_at digits k ∷ l) (lengths-chunks digits bytes k (before digits bytes k h))

all_cons : (chunk : List ℕ) (past : List (List ℕ)) → IsChunk (length chunk) → All (λ (c : List ℕ). IsChunk (length c)) past
    → All (λ (c : List ℕ). IsChunk (length c)) (chunk ∷ past)
all_cons chunk past here rest zero d less = here
all_cons chunk past here rest (suc j) d less = rest j d (omega arith)

all_chunks : (digits bytes : List ℕ) (k : ℕ) → IsDigits digits → offset_at digits k ≤ length bytes
    → All (λ (chunk : List ℕ). IsChunk (length chunk)) (chunks digits bytes k)
unfolding chunks
all_chunks digits bytes zero d h = λ j x less. absurd (omega arith)
all_chunks digits bytes (suc k) d h =
    all_cons (chunk_at digits bytes k) (chunks digits bytes k) (rw (length-chunk digits bytes k h) (size_is_chunk digits k d))
    (all_chunks digits bytes k d (before digits bytes k h))

both_true : {x y : Bool} → x ≡ true → y ≡ true → (x && y) ≡ true
both_true p q = rw (p, q) refl

out_of_four : (a b c d : ℕ) → are_four a b c d ≡ false → (a + b + c + d < 9393) ⊎ (9399 < a + b + c + d)
out_of_four a b c d h =
    elim (cases_lt (a + b + c + d) 9393) [
      | inl less ↦ inl less
      | inr some ↦ elim (cases_lt 9399 (a + b + c + d)) [
        | inl more ↦ inr more
        | inr few ↦ let four : are_four a b c d ≡ true =
            both_true (le-leb 9393 (a + b + c + d) some) (le-leb (a + b + c + d) 9399 few) in absurd (cc)
      ]
    ]

in_order : (s : ℕ → ℕ) (j : ℕ) → s (suc (suc (suc j))) + s (suc (suc j)) + s (suc j) + s j ≡ s j + s (j + 1) + s (j + 2) + s (j + 3)
in_order s j =
    let one : s (j + 1) ≡ s (suc j) = ap s (omega arith) in
    let two : s (j + 2) ≡ s (suc (suc j)) = ap s (omega arith) in
    let three : s (j + 3) ≡ s (suc (suc (suc j))) = ap s (omega arith) in
    omega (arith, one, two, three)

-- the last four aren't steady
last_unsteady : (digits : List ℕ) (k : ℕ) → is_last_steady (size_at digits k ∷ sizes digits k) ≡ false → UnsteadyBy digits (suc k)
unfolding sizes
last_unsteady digits zero h = absurd (cc)
last_unsteady digits (suc zero) h = absurd (cc)
last_unsteady digits (suc (suc zero)) h = absurd (cc)
last_unsteady digits (suc (suc (suc j))) h =
    let s : ℕ → ℕ = size_at digits in
    record {
      first = j;
      within = omega arith;
      sum = s (suc (suc (suc j))) + s (suc (suc j)) + s (suc j) + s j;
      is = in_order s j;
      far = out_of_four (s (suc (suc (suc j)))) (s (suc (suc j))) (s (suc j)) (s j) h;
    }

steady_but : (x y : Bool) → x ≡ true → (x && y) ≡ false → y ≡ false
steady_but true y p h = h
steady_but false y p h = absurd (cc)

-- some four in a row that aren't steady
find_unsteady : (digits : List ℕ) (turn : ℕ) → is_steady (sizes digits turn) ≡ false → UnsteadyBy digits turn
unfolding sizes
find_unsteady digits zero h = absurd (cc)
find_unsteady digits (suc k) h =
    elim (cases_Bool (is_steady (sizes digits k))) [
      | inl steady ↦ last_unsteady digits k (steady_but (is_steady (sizes digits k))
          (is_last_steady (size_at digits k ∷ sizes digits k)) steady h)
      | inr not_steady ↦
          let found = find_unsteady digits k not_steady in
          record { first = found.first; within = omega (arith, found.within); sum = found.sum; is = found.is; far = found.far }
    ]

differ : (b : Bool) → b ≡ true → b ≡ false → ⊥
differ b p q = cc

pub drifts_are_unsteady : (digits bytes : List ℕ) (k turn : ℕ) (text : List ℕ) → IsDigits digits → IsDrift digits bytes k turn text
    → UnsteadyBy digits turn
drifts_are_unsteady digits bytes k turn text d drift =
    let all = all_chunks digits bytes (suc k) d drift.there in
    let same = lengths-chunks digits bytes (suc k) drift.there in
    let unsteady : is_steady (sizes digits (suc k)) ≡ false =
    elim (cases_Bool (is_steady (lengths (chunks digits bytes (suc k))))) [
      | inl steady ↦ absurd (differ _ (steady_runs_last (chunks digits bytes (suc k)) all steady) drift.drifts)
      | inr unsteady ↦ ap is_steady (sym same) ∙ unsteady
    ] in
    rw drift.number (find_unsteady digits (suc k) unsteady)
