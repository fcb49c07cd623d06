-- The sequence by a register of seven bits.
use Rattle.std.proofs.Common.{◌≡◌, ℕ, zero, suc, ◌+◌, ◌*◌, ◌/◌, ◌%◌, ◌<◌, refl, ap, sym, ◌∙◌, arith, add-one}
use Rattle.sdh_basics.specs.Parity.{from_bits}
use Rattle.sdh_parity.specs.Scrambling.{scrambling_bit, scrambling_byte}

-- the register one bit on: the oldest bit, which is the highest, goes, and the next one comes
abbrev pub next : ℕ → ℕ
next s = s * 2 % 128 + (s / 64 + s / 32) % 2

-- bits i to i + 6
unfoldable pub register : ℕ → ℕ
register zero = 127
register (suc i) = next (register i)

pub bit-lt : (i : ℕ) → scrambling_bit i < 2
unfolding scrambling_bit
bit-lt zero = omega arith
bit-lt (suc zero) = omega arith
bit-lt (suc (suc zero)) = omega arith
bit-lt (suc (suc (suc zero))) = omega arith
bit-lt (suc (suc (suc (suc zero)))) = omega arith
bit-lt (suc (suc (suc (suc (suc zero))))) = omega arith
bit-lt (suc (suc (suc (suc (suc (suc zero)))))) = omega arith
bit-lt (suc (suc (suc (suc (suc (suc (suc i))))))) = omega arith

bit-more : (i : ℕ) → scrambling_bit (suc (suc (suc (suc (suc (suc (suc i))))))) ≡ (scrambling_bit (suc i) + scrambling_bit i) % 2
unfolding scrambling_bit
bit-more i = refl

-- the sequence's rule
pub bit-rule : (i : ℕ) → scrambling_bit (i + 7) ≡ (scrambling_bit (i + 1) + scrambling_bit i) % 2
bit-rule i = ap scrambling_bit (omega arith) ∙ bit-more i ∙ ap (λ j. (scrambling_bit j + scrambling_bit i) % 2) (sym (add-one i))

-- seven bits as a number
number : ℕ → ℕ → ℕ → ℕ → ℕ → ℕ → ℕ → ℕ
number b0 b1 b2 b3 b4 b5 b6 = 64 * b0 + (32 * b1 + (16 * b2 + (8 * b3 + (4 * b4 + (2 * b5 + b6)))))

next-number : (b0 b1 b2 b3 b4 b5 b6 b7 : ℕ) → b0 < 2 → b1 < 2 → b2 < 2 → b3 < 2 → b4 < 2 → b5 < 2 → b6 < 2 → b7 ≡ (b1 + b0) % 2
    → next (number b0 b1 b2 b3 b4 b5 b6) ≡ number b1 b2 b3 b4 b5 b6 b7
unfolding number
next-number b0 b1 b2 b3 b4 b5 b6 b7 h0 h1 h2 h3 h4 h5 h6 e =
    let top : number b0 b1 b2 b3 b4 b5 b6 / 64 ≡ b0 = omega arith in
    let two : number b0 b1 b2 b3 b4 b5 b6 / 32 ≡ 2 * b0 + b1 = omega arith in
    let rest : number b0 b1 b2 b3 b4 b5 b6 * 2 % 128 ≡ 2 * (32 * b1 + (16 * b2 + (8 * b3 + (4 * b4 + (2 * b5 + b6))))) = omega arith in
    let sum : (number b0 b1 b2 b3 b4 b5 b6 / 64 + number b0 b1 b2 b3 b4 b5 b6 / 32) % 2 ≡ (b1 + b0) % 2 = omega arith in
    omega arith

bits_from : ℕ → ℕ
bits_from i =
    number (scrambling_bit i) (scrambling_bit (i + 1)) (scrambling_bit (i + 2)) (scrambling_bit (i + 3)) (scrambling_bit (i + 4))
    (scrambling_bit (i + 5)) (scrambling_bit (i + 6))

bits_from-more : (i : ℕ) → next (bits_from i) ≡ bits_from (suc i)
unfolding bits_from
bits_from-more i =
    next-number _ _ _ _ _ _ _ (scrambling_bit (i + 7)) (bit-lt i) (bit-lt (i + 1)) (bit-lt (i + 2)) (bit-lt (i + 3)) (bit-lt (i + 4))
    (bit-lt (i + 5)) (bit-lt (i + 6)) (bit-rule i)
    ∙ moved _ _ _ _ _ _ _ _ _ _ _ _ _ _ (at (i + 1) (suc i) (omega arith)) (at (i + 2) (suc i + 1) (omega arith))
    (at (i + 3) (suc i + 2) (omega arith)) (at (i + 4) (suc i + 3) (omega arith)) (at (i + 5) (suc i + 4) (omega arith))
    (at (i + 6) (suc i + 5) (omega arith)) (at (i + 7) (suc i + 6) (omega arith))
  where
    at : (j k : ℕ) → j ≡ k → scrambling_bit j ≡ scrambling_bit k
    at j k e = ap scrambling_bit e

    moved : (a0 a1 a2 a3 a4 a5 a6 b0 b1 b2 b3 b4 b5 b6 : ℕ) → a0 ≡ b0 → a1 ≡ b1 → a2 ≡ b2 → a3 ≡ b3 → a4 ≡ b4 → a5 ≡ b5 → a6 ≡ b6
        → number a0 a1 a2 a3 a4 a5 a6 ≡ number b0 b1 b2 b3 b4 b5 b6
    moved a0 a1 a2 a3 a4 a5 a6 b0 b1 b2 b3 b4 b5 b6 e0 e1 e2 e3 e4 e5 e6 = cc

register-bits : (i : ℕ) → register i ≡ bits_from i
unfolding register bits_from number scrambling_bit
register-bits zero = refl
register-bits (suc i) = ap next (register-bits i) ∙ bits_from-more i

abbrev number_at : ℕ → ℕ
number_at i =
    64 * scrambling_bit i + (32 * scrambling_bit (i + 1) + (16 * scrambling_bit (i + 2) +
    (8 * scrambling_bit (i + 3) + (4 * scrambling_bit (i + 4) + (2 * scrambling_bit (i + 5) + scrambling_bit (i + 6))))))

register-number : (i : ℕ) → register i ≡ number_at i
unfolding bits_from number
register-number i = register-bits i

-- eight bits from two registers
pub byte-register : (k : ℕ) → scrambling_byte k ≡ register (8 * k) * 2 + register (8 * k + 1) % 2
unfolding scrambling_byte from_bits
byte-register k =
    let r0 : register (8 * k) ≡ number_at (8 * k) = register-number (8 * k) in
    let r1 : register (8 * k + 1) ≡ number_at (8 * k + 1) = register-number (8 * k + 1) in
    let e0 : scrambling_bit (8 * k + 0) ≡ scrambling_bit (8 * k) = ap scrambling_bit (omega arith) in
    let e7 : scrambling_bit (8 * k + 1 + 6) ≡ scrambling_bit (8 * k + 7) = ap scrambling_bit (omega arith) in
    let h7 = bit-lt (8 * k + 7) in
    omega arith
