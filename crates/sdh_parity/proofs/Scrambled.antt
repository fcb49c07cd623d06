-- A scrambled frame, byte by byte.
use Rattle.std.proofs.Common.{◌≡◌, ℕ, zero, suc, ◌+◌, ◌-◌, ◌<◌, ◌≤◌, true, false, ltb, List, [], ◌∷◌, length, get_or, take, drop, refl, ap}
use Rattle.std.proofs.Common.{sym, ◌∙◌, arith, inl, inr, bit_xor}
use Rattle.std.specs.Int.Bits.{xor_assoc, xor_self, xor_zero_r}
use Rattle.std.proofs.lemmas.Bool.{cases_lt, lt-ltb, le-ltb}
use Rattle.std.proofs.lemmas.List.{ext_get_or}
use Rattle.std.proofs.lemmas.Grind.{common_steps}
use borrow.Rule.Slice.PartMut.{put_mid}
use Rattle.sdh_basics.specs.Indexed.{map_from}
use Rattle.sdh_basics.proofs.CellsLaws.{length-map_from, get_or-placed}
use Rattle.sdh_parity.specs.Scrambling.{scrambling_byte, scrambled_byte, scrambled}
use Rattle.sdh_parity.specs.Laws.{ScramblingIsUndone, ScramblingLeavesClear}
use Rattle.sdh_basics.proofs.Parts.{get_or-part, put_below, put_in}

pub length-scrambled : (clear : ℕ) (bytes : List ℕ) → length (scrambled clear bytes) ≡ length bytes
unfolding scrambled
length-scrambled clear bytes = length-map_from (scrambled_byte clear) 0 bytes

pub get_or-scrambled : (clear : ℕ) (bytes : List ℕ) (i : ℕ) → i < length bytes
    → get_or (scrambled clear bytes) i 0 ≡ scrambled_byte clear i (get_or bytes i 0)
unfolding scrambled
get_or-scrambled clear bytes i h = get_or-placed (scrambled_byte clear) bytes i 0 0 h

pub byte-clear : (clear i x : ℕ) → i < clear → scrambled_byte clear i x ≡ x
unfolding scrambled_byte
byte-clear clear i x h = let e : ltb i clear ≡ true = lt-ltb _ _ h in rw e refl

pub byte-added : (clear i x : ℕ) → clear ≤ i → scrambled_byte clear i x ≡ bit_xor x (scrambling_byte (i - clear))
unfolding scrambled_byte
byte-added clear i x h = let e : ltb i clear ≡ false = le-ltb _ _ h in rw e refl

xor-twice : (x k : ℕ) → bit_xor (bit_xor x k) k ≡ x
xor-twice x k = xor_assoc x k k ∙ ap (bit_xor x) (xor_self k) ∙ xor_zero_r x

byte-twice : (clear i x : ℕ) → scrambled_byte clear i (scrambled_byte clear i x) ≡ x
byte-twice clear i x =
    elim (cases_lt i clear) [
      | inl h ↦ byte-clear clear i _ h ∙ byte-clear clear i x h
      | inr h ↦ byte-added clear i _ h ∙ ap (λ y. bit_xor y (scrambling_byte (i - clear))) (byte-added clear i x h)
          ∙ xor-twice x (scrambling_byte (i - clear))
    ]

pub scrambled-twice : ScramblingIsUndone
scrambled-twice clear bytes =
    ext_get_or 0 (scrambled clear (scrambled clear bytes)) bytes
    (length-scrambled clear (scrambled clear bytes) ∙ length-scrambled clear bytes) (λ i lt.
    (let h : i < length (scrambled clear bytes) = omega (arith, length-scrambled clear (scrambled clear bytes)) in
    let g : i < length bytes = omega (arith, length-scrambled clear bytes) in
    get_or-scrambled clear (scrambled clear bytes) i h ∙ ap (scrambled_byte clear i) (get_or-scrambled clear bytes i g)
    ∙ byte-twice clear i (get_or bytes i 0)))

take-kept : (f : ℕ → ℕ → ℕ) (n i : ℕ) (xs : List ℕ) → ((k x : ℕ) → k < i + n → f k x ≡ x) → take n (map_from f i xs) ≡ take n xs
take-kept f zero i xs same = refl
take-kept f (suc n) i [] same = refl
take-kept f (suc n) i (x ∷ xs) same =
    ap (λ y. y ∷ take n (map_from f (i + 1) xs)) (same i x (omega arith))
    ∙ ap (λ ys. x ∷ ys) (take-kept f n (i + 1) xs (λ k y h. same k y (omega arith)))

pub take-scrambled : ScramblingLeavesClear
unfolding scrambled
take-scrambled clear bytes = take-kept (scrambled_byte clear) clear 0 bytes (λ k x h. byte-clear clear k x (omega arith))

-- the sequence was added to all but the first bytes
pub whole : (clear : ℕ) (old part : List ℕ) → clear ≤ length old → length part ≡ length (take (length old - clear) (drop clear old))
    → ((k : ℕ) → k < length (take (length old - clear) (drop clear old))
    → get_or part k 0 ≡ bit_xor (get_or (take (length old - clear) (drop clear old)) k 0) (scrambling_byte k))
    → put_mid clear (length old - clear) old part ≡ scrambled clear old
whole clear old part room len each =
    let n : ℕ = length old - clear in
    let size : length (take n (drop clear old)) ≡ n = grind (arith, common_steps) in
    let all : length (put_mid clear n old part) ≡ length old = put_length clear n old part room (omega arith) (len ∙ size) in
    ext_get_or 0 (put_mid clear n old part) (scrambled clear old) (all ∙ sym (length-scrambled clear old)) (λ i lt.
    (let h : i < length old = omega arith in
    elim (cases_lt i clear) [
      | inl below ↦ put_below clear n old part i below room ∙ sym (get_or-scrambled clear old i h ∙ byte-clear clear i _ below)
      | inr above ↦
          let j : ℕ = i - clear in
          let e : clear + j ≡ i = omega arith in
          let jp : j < length part = omega arith in
          let jm : j < length (take n (drop clear old)) = omega arith in
          let jn : j < n = omega arith in
          ap (λ k. get_or (put_mid clear n old part) k 0) (sym e) ∙ put_in clear n old part j jp room ∙ each j jm
          ∙ ap (λ x. bit_xor x (scrambling_byte j)) (get_or-part clear n old j jn ∙ ap (λ k. get_or old k 0) e)
          ∙ sym (get_or-scrambled clear old i h ∙ byte-added clear i _ above)
    ]))
  where
    put_length : (a n : ℕ) (s part : List ℕ) → a ≤ length s → a + n ≡ length s → length part ≡ n → length (put_mid a n s part) ≡ length s
    put_length a n s part h e l = grind (arith, common_steps)
