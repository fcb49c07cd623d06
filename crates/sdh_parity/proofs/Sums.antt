-- Parities of bytes that were added, and of the sequence.
use Rattle.std.proofs.Common.{◌≡◌, ℕ, zero, suc, ◌+◌, ◌*◌, ◌/◌, ◌%◌, ◌^◌, ◌<◌, ◌≤◌, Bool, true, false, List, [], ◌∷◌, length, get_or, take}
use Rattle.std.proofs.Common.{refl, ap, sym, ◌∙◌, arith, bit_xor}
use Rattle.std.specs.Prelude.{if◌then◌else◌}
use Rattle.std.specs.Int.Bits.{xor_assoc, xor_self, xor_zero_l, xor_zero_r}
use Rattle.std.proofs.lemmas.Nat.{xor_comm}
use Rattle.std.proofs.lemmas.List.{get_or-take}
use Rattle.sdh_basics.specs.Cells.{cells}
use Rattle.sdh_basics.specs.Parity.{bip8}
use Rattle.sdh_basics.proofs.ParityLaws.{bip8-nil, bip8-push, bip8-append}
use Rattle.sdh_basics.proofs.CellsLaws.{cells-zero, cells-more, cells-append, cells-same, cells-from}
use Rattle.sdh_parity.specs.Scrambling.{scrambling_byte}
use Rattle.sdh_parity.specs.Pieces.{HasLanes}
use Rattle.sdh_parity.specs.declared.scrambler.TheConstants.{SEQUENCE, PARITIES}
use Rattle.sdh_parity.proofs.Table.{byte-repeats, table_at, table_long}
use Rattle.sdh_parity.proofs.Mixing.{byte-lt}
use Rattle.sdh_parity.proofs.Folding.{one-more, sum-of-lanes}

-- ---- added bytes

crosswise : (a b x y : ℕ) → bit_xor (bit_xor a b) (bit_xor x y) ≡ bit_xor (bit_xor a x) (bit_xor b y)
crosswise a b x y =
    xor_assoc a b (bit_xor x y)
    ∙ ap (bit_xor a) (sym (xor_assoc b x y) ∙ ap (λ z. bit_xor z y) (xor_comm b x) ∙ xor_assoc x b y)
    ∙ sym (xor_assoc a x (bit_xor b y))

-- the parity of bytes that are sums of two is the sum of the two parities
pub parity-of-sums : (f g h : ℕ → ℕ) (n : ℕ) → ((i : ℕ) → i < n → f i ≡ bit_xor (g i) (h i)) → ((i : ℕ) → f i < 2 ^ 8)
    → ((i : ℕ) → g i < 2 ^ 8) → ((i : ℕ) → h i < 2 ^ 8)
    → bip8 (cells f n) ≡ bit_xor (bip8 (cells g n)) (bip8 (cells h n))
parity-of-sums f g h zero each sf sg sh =
    ap bip8 (cells-zero f) ∙ bip8-nil ∙ sym (ap (λ z. bit_xor z (bip8 (cells h zero))) (ap bip8 (cells-zero g) ∙ bip8-nil)
    ∙ xor_zero_l (bip8 (cells h zero)) ∙ ap bip8 (cells-zero h) ∙ bip8-nil)
parity-of-sums f g h (suc n) each sf sg sh =
    one-more f n (sf n) ∙ ap (λ z. bit_xor z (f n)) (parity-of-sums f g h n (λ i lt. each i (omega arith)) sf sg sh)
    ∙ ap (bit_xor (bit_xor (bip8 (cells g n)) (bip8 (cells h n)))) (each n (omega arith))
    ∙ crosswise (bip8 (cells g n)) (bip8 (cells h n)) (g n) (h n)
    ∙ sym (ap (λ z. bit_xor z (bip8 (cells h (suc n)))) (one-more g n (sg n))
    ∙ ap (bit_xor (bit_xor (bip8 (cells g n)) (g n))) (one-more h n (sh n)))

as-cells : (xs : List ℕ) → cells (λ i. get_or xs i 0) (length xs) ≡ xs
as-cells xs = cells-from (λ i. get_or xs i 0) (length xs) 0 xs refl (λ k h. refl)

-- the parity of two lists that differ by the sequence
pub parity-of-added : (old new : List ℕ) (at : ℕ) → length new ≡ length old
    → ((i : ℕ) → i < length old → get_or new i 0 ≡ bit_xor (get_or old i 0) (scrambling_byte (at + i)))
    → ((i : ℕ) → get_or old i 0 < 2 ^ 8) → ((i : ℕ) → get_or new i 0 < 2 ^ 8)
    → bip8 new ≡ bit_xor (bip8 old) (bip8 (cells (λ k. scrambling_byte (at + k)) (length old)))
parity-of-added old new at long each small_old small_new =
    ap bip8 (sym (as-cells new) ∙ ap (cells (λ i. get_or new i 0)) long)
    ∙ parity-of-sums (λ i. get_or new i 0) (λ i. get_or old i 0) (λ k. scrambling_byte (at + k)) (length old) each small_new small_old
    (λ k. byte-lt (at + k))
    ∙ ap (λ l. bit_xor (bip8 l) (bip8 (cells (λ k. scrambling_byte (at + k)) (length old)))) (as-cells old)

-- the parity on the line, from that of the clear bytes of a piece: those after the sequence was added where `after`
-- holds, and those before it otherwise
pub parity-of-line : (after : Bool) (old new lanes : List ℕ) (at sum key : ℕ) → length new ≡ length old
    → ((i : ℕ) → i < length old → get_or new i 0 ≡ bit_xor (get_or old i 0) (scrambling_byte (at + i)))
    → ((i : ℕ) → get_or old i 0 < 2 ^ 8) → ((i : ℕ) → get_or new i 0 < 2 ^ 8) → length lanes ≡ 48
    → HasLanes 48 (if after then new else old) lanes
    → sum ≡ bip8 lanes → key ≡ bip8 (cells (λ k. scrambling_byte (at + k)) (length old))
    → bit_xor sum key ≡ bip8 (if after then old else new)
parity-of-line true old new lanes at sum key long each small_old small_new wide has sum_is key_is =
    let clear : sum ≡ bit_xor (bip8 old) key =
    sum_is ∙ sum-of-lanes new lanes small_new wide has ∙ parity-of-added old new at long each small_old small_new
    ∙ ap (bit_xor (bip8 old)) (sym key_is) in
    ap (λ z. bit_xor z key) clear ∙ xor_assoc (bip8 old) key key ∙ ap (bit_xor (bip8 old)) (xor_self key) ∙ xor_zero_r (bip8 old)
parity-of-line false old new lanes at sum key long each small_old small_new wide has sum_is key_is =
    ap (λ z. bit_xor z key) (sum_is ∙ sum-of-lanes old lanes small_old wide has) ∙ ap (bit_xor (bip8 old)) key_is
    ∙ sym (parity-of-added old new at long each small_old small_new)

-- ---- the sequence

-- the parity of its first n bytes
abbrev pub first : ℕ → ℕ
first n = bip8 (cells scrambling_byte n)

first-more : (n : ℕ) → first (n + 1) ≡ bit_xor (first n) (scrambling_byte n)
first-more n = ap bip8 (cells-more scrambling_byte n) ∙ bip8-push (cells scrambling_byte n) (scrambling_byte n) (byte-lt n)

-- the BIP-8 of the first i bytes of a list, for i from 0 on, each with p added
abbrev sums_from : ℕ → List ℕ → List ℕ
sums_from p [] = p ∷ []
sums_from p (x ∷ xs) = p ∷ sums_from (bit_xor p x) xs

table : PARITIES ≡ take 1016 (sums_from 0 SEQUENCE)
table = refl

block : get_or (sums_from 0 SEQUENCE) 1016 0 ≡ 0
block = refl

sums_at : (xs : List ℕ) (n k : ℕ) → k ≤ length xs → ((i : ℕ) → i < length xs → get_or xs i 0 ≡ scrambling_byte (n + i))
    → get_or (sums_from (first n) xs) k 0 ≡ first (n + k)
sums_at [] n zero h each = ap first (omega arith)
sums_at [] n (suc k) h each = absurd (omega arith)
sums_at (x ∷ xs) n zero h each = ap first (omega arith)
sums_at (x ∷ xs) n (suc k) h each =
    let here : n + 0 ≡ n = omega arith in
    let step : bit_xor (first n) x ≡ first (n + 1) =
    ap (bit_xor (first n)) (each 0 (omega arith) ∙ ap scrambling_byte here) ∙ sym (first-more n) in
    let more : (i : ℕ) → i < length xs → get_or xs i 0 ≡ scrambling_byte (n + 1 + i) =
    λ i lt. each (suc i) (omega arith) ∙ ap scrambling_byte (omega arith) in
    ap (λ p. get_or (sums_from p xs) k 0) step ∙ sums_at xs (n + 1) k (omega arith) more ∙ ap first (omega arith)

first-none : first 0 ≡ 0
first-none = ap bip8 (cells-zero scrambling_byte) ∙ bip8-nil

firsts : (k : ℕ) → k ≤ 1160 → get_or (sums_from 0 SEQUENCE) k 0 ≡ first k
firsts k h =
    ap (λ p. get_or (sums_from p SEQUENCE) k 0) (sym first-none)
    ∙ sums_at SEQUENCE 0 k (omega (arith, table_long)) (λ i lt. table_at i (omega (arith, table_long))
    ∙ ap scrambling_byte (omega arith)) ∙ ap first (omega arith)

pub parities_at : (k : ℕ) → k < 1016 → get_or PARITIES k 0 ≡ first k
parities_at k h = ap (λ l. get_or l k 0) table ∙ get_or-take 1016 (sums_from 0 SEQUENCE) k 0 h ∙ firsts k (omega arith)

-- the parity of a whole block is 0, so those of the first bytes repeat
first-block : first 1016 ≡ 0
first-block = sym (firsts 1016 (omega arith)) ∙ block

first-append : (n m : ℕ) → first (n + m) ≡ bit_xor (first n) (bip8 (cells (λ k. scrambling_byte (n + k)) m))
first-append n m =
    ap bip8 (cells-append scrambling_byte n m) ∙ bip8-append (cells scrambling_byte n) (cells (λ k. scrambling_byte (n + k)) m)

first-repeats : (b k : ℕ) → first (b * 1016 + k) ≡ first k
first-repeats zero k = ap first (omega arith)
first-repeats (suc b) k =
    let e : suc b * 1016 + k ≡ 1016 + (b * 1016 + k) = omega arith in
    ap first e ∙ first-append 1016 (b * 1016 + k) ∙ ap (λ z. bit_xor z
    (bip8 (cells (λ i. scrambling_byte (1016 + i)) (b * 1016 + k)))) first-block ∙ xor_zero_l _
    ∙ ap bip8 (cells-same (λ i. scrambling_byte (1016 + i)) scrambling_byte (b * 1016 + k) 0 (λ i lt. byte-repeats 1 i)) ∙ first-repeats b k

first-modulo : (n : ℕ) → first (n % 1016) ≡ first n
first-modulo n = let e : n / 1016 * 1016 + n % 1016 ≡ n = omega arith in sym (first-repeats (n / 1016) (n % 1016)) ∙ ap first e

-- the parity of m bytes of the sequence: the XOR of the parity of the bytes before them and that of the bytes up to
-- their end
pub parity-between : (at m x y : ℕ) → x ≡ first (at % 1016) → y ≡ first ((at + m) % 1016)
    → bit_xor x y ≡ bip8 (cells (λ k. scrambling_byte (at + k)) m)
parity-between at m x y before after =
    let part : ℕ = bip8 (cells (λ k. scrambling_byte (at + k)) m) in
    ap (λ z. bit_xor z y) (before ∙ first-modulo at) ∙ ap (bit_xor (first at)) (after ∙ first-modulo (at + m) ∙ first-append at m)
    ∙ sym (xor_assoc (first at) (first at) part) ∙ ap (λ z. bit_xor z part) (xor_self (first at)) ∙ xor_zero_l part
