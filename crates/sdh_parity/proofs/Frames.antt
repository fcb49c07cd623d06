-- The parities of a whole frame, by the sums of all its bytes after the first 9N and of the heads of rows 2 and 3.
use Rattle.std.proofs.Common.{◌≡◌, ℕ, ◌+◌, ◌-◌, ◌*◌, ◌%◌, ◌^◌, ◌<◌, ◌≤◌, List, [], ◌++◌, length, take, drop, get_or, ap, sym, subst}
use Rattle.std.proofs.Common.{◌∙◌, arith, bit_xor, append_assoc, replicate}
use Rattle.std.specs.Prelude.{slice_range}
use Rattle.std.specs.Int.Bits.{xor_assoc, xor_comm, xor_self, xor_zero_l}
use Rattle.std.proofs.Math.Nat.{mod-eq_of_lt, mul-add-mod_self_right}
use Rattle.std.proofs.lemmas.List.{length-append, drop-drop, take-append-drop}
use Rattle.sdh_basics.specs.Parity.{bip8}
use Rattle.sdh_basics.proofs.ParityLaws.{bip8-append}
use Rattle.sdh_basics.proofs.Parts.{length-part}
use Rattle.sdh_parity.specs.Parity.{lane, every, bip_lanes, section_bytes, section_parity}
use Rattle.sdh_parity.specs.Scrambling.{scrambling_byte, scrambled}
use Rattle.sdh_parity.specs.Pieces.{scrambled_from, HasLanes}
use Rattle.sdh_parity.proofs.Cutting.{in-pieces, clear-piece, passed-piece}
use Rattle.sdh_parity.proofs.Lanes.{lane-append}
use Rattle.sdh_parity.proofs.Running.{whole-rows, lanes-are, no-lanes}

-- ---- what is added twice doesn't count

pull : (x y z : ℕ) → bit_xor x (bit_xor y z) ≡ bit_xor y (bit_xor x z)
pull x y z = sym (xor_assoc x y z) ∙ ap (λ w. bit_xor w z) (xor_comm x y) ∙ xor_assoc y x z

twice : (x z : ℕ) → bit_xor x (bit_xor x z) ≡ z
twice x z = sym (xor_assoc x x z) ∙ ap (λ w. bit_xor w z) (xor_self x) ∙ xor_zero_l z

gone : (h k a b c : ℕ) → bit_xor (bit_xor h k) (bit_xor a (bit_xor h (bit_xor b (bit_xor k c)))) ≡ bit_xor a (bit_xor b c)
gone h k a b c =
    xor_assoc h k (bit_xor a (bit_xor h (bit_xor b (bit_xor k c))))
    ∙ ap (bit_xor h) (pull k a (bit_xor h (bit_xor b (bit_xor k c)))
    ∙ ap (bit_xor a) (pull k h (bit_xor b (bit_xor k c)) ∙ ap (bit_xor h) (pull k b (bit_xor k c) ∙ ap (bit_xor b) (twice k c))))
    ∙ pull h a (bit_xor h (bit_xor b c)) ∙ ap (bit_xor a) (twice h (bit_xor b c))

-- two parts h and k, which stand between other parts and whose parity is added a second time
module _ (m p q r : ℕ) (x h y k z sums : List ℕ) (lx : length x ≡ p * m) (lh : length h ≡ r * m) (ly : length y ≡ q * m)
    (lk : length k ≡ r * m) where
  sum : ℕ → List ℕ → ℕ
  sum j l = bip8 (lane m j l)

  split : (j c : ℕ) (xs ys : List ℕ) → length xs ≡ c * m → bip8 (lane m j (xs ++ ys)) ≡ bit_xor (bip8 (lane m j xs)) (bip8 (lane m j ys))
  split j c xs ys e = ap bip8 (lane-append m j c xs ys e) ∙ bip8-append (lane m j xs) (lane m j ys)

  pub without : HasLanes m ((h ++ k) ++ (x ++ (h ++ (y ++ (k ++ z))))) sums → HasLanes m (x ++ (y ++ z)) sums
  without has j lt =
      let l : List ℕ → ℕ = λ xs. bip8 (lane m j xs) in
      let heads : l (h ++ k) ≡ bit_xor (l h) (l k) = split j r h k lh in
      let all : l (x ++ (h ++ (y ++ (k ++ z)))) ≡ bit_xor (l x) (bit_xor (l h) (bit_xor (l y) (bit_xor (l k) (l z)))) =
      split j p x (h ++ (y ++ (k ++ z))) lx ∙ ap (bit_xor (l x)) (split j r h (y ++ (k ++ z)) lh
      ∙ ap (bit_xor (l h)) (split j q y (k ++ z) ly ∙ ap (bit_xor (l y)) (split j r k z lk))) in
      let long : length (h ++ k) ≡ (r + r) * m = length-append h k ∙ (λ i. lh i + lk i) ∙ two r m in
      has j lt ∙ split j (r + r) (h ++ k) (x ++ (h ++ (y ++ (k ++ z)))) long
      ∙ (λ i. bit_xor (heads i) (all i)) ∙ gone (l h) (l k) (l x) (l y) (l z)
      ∙ sym (split j p x (y ++ z) lx ∙ ap (bit_xor (l x)) (split j q y z ly))
    where
      two : (r m : ℕ) → r * m + r * m ≡ (r + r) * m
      two r m = omega arith

-- ---- the pieces of a frame

peel : (a b : ℕ) (xs : List ℕ) → a ≤ b → drop a xs ≡ slice_range xs a b ++ drop b xs
peel a b xs h =
    sym (take-append-drop (b - a) (drop a xs)) ∙ ap (λ l. slice_range xs a b ++ l) (drop-drop (b - a) a xs ∙ ap (λ k. drop k xs) (omega arith))

-- the heads, and all bytes after the first 9N
abbrev pub heads : ℕ → List ℕ → List ℕ
heads n bytes = slice_range bytes (270 * n) (279 * n) ++ slice_range bytes (540 * n) (549 * n)

rows-end : (c m : ℕ) → 0 < m → 0 ≡ c * m % m
rows-end c m some =
    let e : c * m + 0 ≡ c * m = omega arith in
    sym (ap (λ k. k % m) (sym e) ∙ mul-add-mod_self_right c m 0 ∙ mod-eq_of_lt some)

pub heads-are : (n : ℕ) (bytes none one two : List ℕ) → length bytes ≡ 2430 * n → 0 < 3 * n → 3 * n ≤ 48 → none ≡ replicate 48 0
    → ((j : ℕ) → j < 3 * n → get_or one j 0 ≡ bit_xor (get_or none j 0) (bip8 (every j (3 * n) 3 (slice_range bytes (270 * n) (279 * n)))))
    → ((j : ℕ) → j < 3 * n → get_or two j 0 ≡ bit_xor (get_or one j 0) (bip8 (every j (3 * n) 3 (slice_range bytes (540 * n) (549 * n)))))
    → HasLanes (3 * n) (heads n bytes) two
heads-are n bytes none one two long some few fresh first second =
    let m : ℕ = 3 * n in
    let h : List ℕ = slice_range bytes (270 * n) (279 * n) in
    let k : List ℕ = slice_range bytes (540 * n) (549 * n) in
    let lh : length h ≡ m * 3 = length-part (270 * n) (279 * n - 270 * n) bytes (omega arith) ∙ omega arith in
    let lk : length k ≡ m * 3 = length-part (540 * n) (549 * n - 540 * n) bytes (omega arith) ∙ omega arith in
    let start : HasLanes m [] none = subst (λ l. HasLanes m [] l) (sym fresh) (no-lanes m few) in
    let zero_is : 0 ≡ 0 % m = sym (mod-eq_of_lt some) in
    let end : 0 ≡ length h % m = rows-end 3 m some ∙ ap (λ i. i % m) (sym (lh ∙ omega arith)) in
    whole-rows m 3 h k one two end lk (whole-rows m 3 [] h none one zero_is lh start first) second

-- the bytes that B2 covers
pub covered : (n : ℕ) (bytes sums : List ℕ) → length bytes ≡ 2430 * n → 3 * n ≤ length sums
    → HasLanes (3 * n) (heads n bytes ++ drop (9 * n) bytes) sums → take (3 * n) sums ≡ section_parity n bytes
unfolding section_parity section_bytes
covered n bytes sums long room has =
    let m : ℕ = 3 * n in
    let a : List ℕ = slice_range bytes (9 * n) (270 * n) in
    let h : List ℕ = slice_range bytes (270 * n) (279 * n) in
    let b : List ℕ = slice_range bytes (279 * n) (540 * n) in
    let k : List ℕ = slice_range bytes (540 * n) (549 * n) in
    let c : List ℕ = slice_range bytes (549 * n) (810 * n) in
    let d : List ℕ = drop (810 * n) bytes in
    let z : List ℕ = drop (549 * n) bytes in
    let all : drop (9 * n) bytes ≡ a ++ (h ++ (b ++ (k ++ z))) =
    peel (9 * n) (270 * n) bytes (omega arith) ∙ ap (λ l. a ++ l) (peel (270 * n) (279 * n) bytes (omega arith)
    ∙ ap (λ l. h ++ l) (peel (279 * n) (540 * n) bytes (omega arith) ∙ ap (λ l. b ++ l) (peel (540 * n) (549 * n) bytes (omega arith)))) in
    let la : length a ≡ 87 * m = length-part (9 * n) (270 * n - 9 * n) bytes (omega arith) ∙ omega arith in
    let lh : length h ≡ 3 * m = length-part (270 * n) (279 * n - 270 * n) bytes (omega arith) ∙ omega arith in
    let lb : length b ≡ 87 * m = length-part (279 * n) (540 * n - 279 * n) bytes (omega arith) ∙ omega arith in
    let lk : length k ≡ 3 * m = length-part (540 * n) (549 * n - 540 * n) bytes (omega arith) ∙ omega arith in
    let joined : a ++ (b ++ z) ≡ ((a ++ b) ++ c) ++ d =
    ap (λ l. a ++ (b ++ l)) (peel (549 * n) (810 * n) bytes (omega arith)) ∙ sym (append_assoc a b (c ++ d))
    ∙ sym (append_assoc (a ++ b) c d) in
    let only : HasLanes m (a ++ (b ++ z)) sums =
    without m 87 87 3 a h b k z sums la lh lb lk (subst (λ l. HasLanes m ((h ++ k) ++ l) sums) all has) in
    lanes-are m sums (a ++ (b ++ z)) room only ∙ ap (bip_lanes m) joined

-- the parity of a frame, from the parity of the heads with the BIP of 48 bytes of all bytes after the first 9N added to
-- it
pub covered-by : (n : ℕ) (bytes back lanes old new : List ℕ) → length bytes ≡ 2430 * n → 0 < 3 * n → 3 * n ≤ length new
    → back ≡ drop (9 * n) bytes → ((i : ℕ) → get_or back i 0 < 2 ^ 8) → HasLanes (3 * n) (heads n bytes) old → HasLanes 48 back lanes
    → ((before more : List ℕ) → 0 ≡ length before % (3 * n) → HasLanes (3 * n) before old → HasLanes 48 more lanes
    → ((i : ℕ) → get_or more i 0 < 2 ^ 8) → HasLanes (3 * n) (before ++ more) new)
    → take (3 * n) new ≡ section_parity n bytes
covered-by n bytes back lanes old new long some room is small first has adds =
    let h : List ℕ = slice_range bytes (270 * n) (279 * n) in
    let k : List ℕ = slice_range bytes (540 * n) (549 * n) in
    let lh : length h ≡ 9 * n = length-part (270 * n) (279 * n - 270 * n) bytes (omega arith) ∙ omega arith in
    let lk : length k ≡ 9 * n = length-part (540 * n) (549 * n - 540 * n) bytes (omega arith) ∙ omega arith in
    let both : 6 * (3 * n) ≡ length (heads n bytes) = omega (arith, length-append h k) in
    covered n bytes new long room (subst (λ l. HasLanes (3 * n) (heads n bytes ++ l) new) is
    (adds (heads n bytes) back (rows-end 6 (3 * n) some ∙ ap (λ i. i % (3 * n)) both) first has small))

-- a frame whose first 9N bytes stay
pub scrambled-behind : (n : ℕ) (old head rest back : List ℕ) → old ≡ head ++ back → length head ≡ 9 * n → length rest ≡ length back
    → ((i : ℕ) → i < length back → get_or rest i 0 ≡ bit_xor (get_or back i 0) (scrambling_byte (0 + i)))
    → head ++ rest ≡ scrambled (9 * n) old
scrambled-behind n old head rest back cut lh lr each =
    let at : 0 + length head ≡ 9 * n = omega (arith, lh) in
    let later : rest ≡ scrambled_from (9 * n) (0 + length head) back =
    passed-piece (9 * n) (0 + length head) back rest (omega arith) lr
    (λ i h. each i h ∙ ap (λ k. bit_xor (get_or back i 0) (scrambling_byte k)) (omega (arith, at))) in
    (λ i. clear-piece (9 * n) 0 head (omega arith) i ++ later i) ∙ sym (in-pieces.cut (9 * n) 0 head back)
    ∙ ap (scrambled_from (9 * n) 0) (sym cut) ∙ in-pieces.whole (9 * n) old
