-- The parity, byte by byte and of two lists.
use Rattle.std.proofs.Common.{◌≡◌, ℕ, zero, suc, ◌+◌, ◌*◌, ◌/◌, ◌%◌, ◌^◌, ◌<◌, List, [], ◌∷◌, ◌++◌, refl, sym, ap, ◌∙◌, arith, bit_xor}
use Rattle.std.specs.Int.{bit_at}
use Rattle.std.proofs.lemmas.Nat.{xor_lt}
use Rattle.std.proofs.lemmas.Nat.Bits.{bit_at_xor, same_from_bits_below, bit_at-suc, bit_at_lowest}
use Rattle.std.proofs.lemmas.List.Sums.{sum_by_push, sum_by-append}
use Rattle.sdh_basics.specs.Parity.{ones_at, from_bits, bip8}

low : (b m : ℕ) → b < 2 → (b + 2 * m) % 2 ≡ b
low b m h = omega arith

high : (b m : ℕ) → b < 2 → (b + 2 * m) / 2 ≡ m
high b m h = omega arith

-- bit j of the number is b j
pub bit_at-from_bits : (b : ℕ → ℕ) (n j : ℕ) → ((k : ℕ) → b k < 2) → j < n → bit_at (from_bits b n) j ≡ b j
unfolding from_bits
bit_at-from_bits b zero j small h = absurd (omega arith)
bit_at-from_bits b (suc n) zero small h = bit_at_lowest (b 0 + 2 * from_bits (λ k. b (suc k)) n) ∙ low _ _ (small 0)
bit_at-from_bits b (suc n) (suc j) small h =
    bit_at-suc (b 0 + 2 * from_bits (λ k. b (suc k)) n) j ∙ ap (λ m. bit_at m j) (high _ _ (small 0))
    ∙ bit_at-from_bits (λ k. b (suc k)) n j (λ k. small (suc k)) (omega arith)

pub from_bits-lt : (b : ℕ → ℕ) (n : ℕ) → ((k : ℕ) → b k < 2) → from_bits b n < 2 ^ n
unfolding from_bits
from_bits-lt b zero small = omega arith
from_bits-lt b (suc n) small = let h = from_bits-lt (λ k. b (suc k)) n (λ k. small (suc k)) in let s = small 0 in omega arith

pub bip8-lt : (bytes : List ℕ) → bip8 bytes < 2 ^ 8
unfolding bip8
bip8-lt bytes = from_bits-lt (λ j. ones_at j bytes % 2) 8 (λ k. omega arith)

pub bit_at-bip8 : (bytes : List ℕ) (j : ℕ) → j < 8 → bit_at (bip8 bytes) j ≡ ones_at j bytes % 2
unfolding bip8
bit_at-bip8 bytes j h = bit_at-from_bits (λ k. ones_at k bytes % 2) 8 j (λ k. omega arith) h

mod_sum : (a b : ℕ) → (a % 2 + b) % 2 ≡ (a + b) % 2
mod_sum a b = omega arith

pub bip8-nil : bip8 [] ≡ 0
unfolding bip8 from_bits
bip8-nil = refl

-- BIP-8 of bytes with one more byte
pub bip8-push : (bytes : List ℕ) (x : ℕ) → x < 2 ^ 8 → bip8 (bytes ++ x ∷ []) ≡ bit_xor (bip8 bytes) x
bip8-push bytes x h =
    same_from_bits_below 8 _ _ (bip8-lt _) (xor_lt 8 _ _ (bip8-lt bytes) h)
    (λ j lt. bit_at-bip8 (bytes ++ x ∷ []) j lt ∙ ap (λ n. n % 2) (sum_by_push (λ y. bit_at y j) bytes x)
    ∙ sym (mod_sum (ones_at j bytes) (bit_at x j))
    ∙ ap (λ n. (n + bit_at x j) % 2) (sym (bit_at-bip8 bytes j lt)) ∙ sym (bit_at_xor (bip8 bytes) x j))

mod_sums : (a b : ℕ) → (a + b) % 2 ≡ (a % 2 + b % 2) % 2
mod_sums a b = omega arith

-- BIP-8 of two lists, one after the other
pub bip8-append : (xs ys : List ℕ) → bip8 (xs ++ ys) ≡ bit_xor (bip8 xs) (bip8 ys)
bip8-append xs ys =
    same_from_bits_below 8 _ _ (bip8-lt _) (xor_lt 8 _ _ (bip8-lt xs) (bip8-lt ys))
    (λ j lt. bit_at-bip8 (xs ++ ys) j lt ∙ ap (λ n. n % 2) (sum_by-append (λ y. bit_at y j) xs ys) ∙ mod_sums (ones_at j xs) (ones_at j ys)
    ∙ ap (λ n. (n + ones_at j ys % 2) % 2) (sym (bit_at-bip8 xs j lt)) ∙ ap (λ n. (bit_at (bip8 xs) j + n) % 2) (sym (bit_at-bip8 ys j lt))
    ∙ sym (bit_at_xor (bip8 xs) (bip8 ys) j))
