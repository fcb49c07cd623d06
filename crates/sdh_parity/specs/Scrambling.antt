-- The frame-synchronous scrambler (ITU-T G.707 clause 6.5).
use Rattle.std.specs.Prelude.{ℕ, zero, suc, ◌+◌, ◌*◌, ◌-◌, ◌%◌, List, bit_xor, nat_lt, if◌then◌else◌}
use Rattle.sdh_basics.specs.Indexed.{map_from}
use Rattle.sdh_basics.specs.Parity.{from_bits}

-- Bit i of the scrambling sequence. The first seven bits are ones. Each later bit is the sum modulo 2 of the bits six
-- and seven places before it.
unfoldable pub scrambling_bit : ℕ → ℕ
scrambling_bit zero = 1
scrambling_bit (suc zero) = 1
scrambling_bit (suc (suc zero)) = 1
scrambling_bit (suc (suc (suc zero))) = 1
scrambling_bit (suc (suc (suc (suc zero)))) = 1
scrambling_bit (suc (suc (suc (suc (suc zero))))) = 1
scrambling_bit (suc (suc (suc (suc (suc (suc zero)))))) = 1
scrambling_bit (suc (suc (suc (suc (suc (suc (suc i))))))) = (scrambling_bit (suc i) + scrambling_bit i) % 2

-- byte k of the sequence: eight of its bits, the first as the most significant
unfoldable pub scrambling_byte : ℕ → ℕ
scrambling_byte k = from_bits (λ j. scrambling_bit (8 * k + (7 - j))) 8

-- the scrambled form of byte i of a frame, which is x before: the first `clear` bytes are not scrambled
unfoldable pub scrambled_byte : ℕ → ℕ → ℕ → ℕ
scrambled_byte clear i x = if nat_lt i clear then x else bit_xor x (scrambling_byte (i - clear))

-- the scrambled form of a frame: the sequence is added to all but its first `clear` bytes
unfoldable pub scrambled : ℕ → List ℕ → List ℕ
scrambled clear bytes = map_from (scrambled_byte clear) 0 bytes
