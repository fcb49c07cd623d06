-- A walk along a customer's VC-4s, with counters.
use Rattle.std.specs.Prelude.{◌≡◌, ℕ, ◌+◌, ◌-◌, ◌*◌, ◌/◌, ◌%◌, ◌<◌, ◌≤◌, List, length, take, slice_index}
use Rattle.sdh_basics.specs.Parity.{bip8}
use Rattle.sdh_basics.specs.Cells.{cells}
use Rattle.sdh_payload.specs.Customer.{Customer}
use Rattle.sdh_payload.specs.Stream.{vc4_front, b3_of, container_byte}

-- a place in the VC-4s of a port: the port, and the number of bytes before the place
pub record Walked : Type 0 where
  pub port : Customer
  pub at : ℕ

-- the number of text bytes before byte i of VC-4 number v: 2340 a VC-4 and 260 a row, and none in the first column
abbrev pub text_before : ℕ → ℕ → ℕ
text_before v i = 2340 * v + 260 * (i / 261) + (i % 261 - 1)

-- the counters are those of byte `index` of VC-4 number `number`: its B3, the parity of its bytes so far, and the place
-- in the text of the next text byte
pub record IsAt (port : Customer) (number index b3 parity place : ℕ) : Type 0 where
  pub some : 0 < length port.text
  pub index_within : index < 2349
  pub b3_is : b3 ≡ b3_of port number
  pub parity_is : parity ≡ bip8 (vc4_front port b3 number index)
  pub place_is : place ≡ text_before number index % length port.text

-- n bytes of the VC-4s from byte q on
unfoldable pub containers_from : Customer → ℕ → ℕ → List ℕ
containers_from port q n = cells (λ k. container_byte port (q + k)) n

-- n bytes from a place on of a text that is repeated without end
unfoldable pub repeated_from : List ℕ → ℕ → ℕ → List ℕ
repeated_from text place n = cells (λ k. slice_index text ((place + k) % length text)) n

-- the 324 bytes are the first `len` of them over and over: enough for a row of 260 from any place in the longest text
pub record Repeats (len : ℕ) (bytes : List ℕ) : Type 0 where
  pub some : 0 < len
  pub few : len ≤ 64
  pub enough : length bytes ≡ 324
  pub same : (k : ℕ) → k < 324 → slice_index bytes k ≡ slice_index bytes (k % len)

-- the BIP-8 of the first bytes of a list: of none, of one and so on, up to all
pub record AreFrontParities (bytes parities : List ℕ) : Type 0 where
  pub long : length parities ≡ length bytes + 1
  pub each : (k : ℕ) → k ≤ length bytes → slice_index parities k ≡ bip8 (take k bytes)
