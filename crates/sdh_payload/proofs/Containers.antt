-- VC-4s by rows and columns, and a walk along them.
use Rattle.std.proofs.Common.{◌≡◌, ℕ, ◌+◌, ◌-◌, ◌*◌, ◌/◌, ◌%◌, ◌^◌, ◌<◌, ◌≤◌, List, [], ◌∷◌, ◌++◌, length, get_or, replicate, refl, sym, ap}
use Rattle.std.proofs.Common.{◌∙◌, arith, add-one, bit_xor}
use Rattle.std.proofs.Math.Nat.{mod-add-mod}
use Rattle.std.proofs.lemmas.List.{get_or_append_left, get_or-append_right, get_or-replicate}
use Rattle.sdh_basics.specs.Parity.{bip8}
use Rattle.sdh_basics.specs.Cells.{cells}
use Rattle.sdh_basics.proofs.CellsLaws.{cells-zero, cells-more, cells-append, cells-same, length-cells}
use Rattle.sdh_basics.proofs.ParityLaws.{bip8-push, bip8-append}
use Rattle.sdh_payload.specs.Customer.{Customer}
use Rattle.sdh_payload.specs.Stream.{padded, path_overhead, text_place, vc4_byte_at, vc4_byte, vc4_front, b3_of, container_byte, start_of}
use Rattle.sdh_payload.specs.Stream.{stream_byte, stream_from}
use Rattle.sdh_payload.specs.Walk.{text_before, containers_from, repeated_from}

pub padded_inside : (trace : List ℕ) (i : ℕ) → i < length trace → get_or trace i 0 ≡ get_or (padded trace) i 0
unfolding padded
padded_inside trace i h = sym (get_or_append_left trace (replicate (64 - length trace) 0x20) 0 i h)

pub padded_behind : (trace : List ℕ) (i : ℕ) → length trace ≤ i → i < 64 → 0x20 ≡ get_or (padded trace) i 0
unfolding padded
padded_behind trace i h within =
    sym (get_or-append_right trace (replicate (64 - length trace) 0x20) (length trace) i 0 refl h
    ∙ get_or-replicate (64 - length trace) (i - length trace) 0x20 0 (omega arith))

-- a byte of the first column
pub vc4_byte-overhead : (port : Customer) (b3 v i : ℕ) → i % 261 ≡ 0
    → vc4_byte port b3 v i ≡ get_or (path_overhead port.trace b3 v) (i / 261) 0
unfolding vc4_byte
vc4_byte-overhead port b3 v i h = ap (vc4_byte_at port b3 v (i / 261)) h

text_at : (port : Customer) (b3 v row column : ℕ) → 0 < column
    → vc4_byte_at port b3 v row column ≡ get_or port.text (text_place v row column % length port.text) 0
text_at port b3 v row column h = grind arith

-- a byte of another column
pub vc4_byte-text : (port : Customer) (b3 v row column : ℕ) → 0 < column → column < 261
    → vc4_byte port b3 v (261 * row + column) ≡ get_or port.text (text_place v row column % length port.text) 0
unfolding vc4_byte
vc4_byte-text port b3 v row column some below =
    let r : (261 * row + column) / 261 ≡ row = omega arith in
    let c : (261 * row + column) % 261 ≡ column = omega arith in
    ap (λ i. vc4_byte_at port b3 v i ((261 * row + column) % 261)) r ∙ ap (vc4_byte_at port b3 v row) c ∙ text_at port b3 v row column some

-- the text bytes of a row, from a column on
pub text_run : (port : Customer) (b3 v i n : ℕ) → 0 < i % 261 → i % 261 + n ≤ 261
    → cells (λ k. vc4_byte port b3 v (i + k)) n ≡ repeated_from port.text (text_before v i % length port.text) n
unfolding repeated_from
text_run port b3 v i n some fits =
    cells-same (λ k. vc4_byte port b3 v (i + k)) (λ k. get_or port.text ((text_before v i % length port.text + k) % length port.text) 0) n 0
    (λ k h.
    ap (vc4_byte port b3 v) (omega arith) ∙ vc4_byte-text port b3 v (i / 261) (i % 261 + k) (omega arith) (omega arith)
    ∙ ap (λ t. get_or port.text t 0) (ap (λ t. t % length port.text) (omega arith)
    ∙ sym (mod-add-mod (text_before v i) (length port.text) k)))

-- a text byte of VC-4 number 0
pub vc4_byte-first : (port : Customer) (text : List ℕ) (i : ℕ) → text ≡ port.text → 0 < i % 261
    → get_or text ((260 * (i / 261) + i % 261 - 1) % length text) 0 ≡ vc4_byte port 0 0 i
vc4_byte-first port text i same some =
    ap (λ t. get_or t ((260 * (i / 261) + i % 261 - 1) % length t) 0) same
    ∙ ap (λ t. get_or port.text (t % length port.text) 0) (omega arith)
    ∙ sym (vc4_byte-text port 0 0 (i / 261) (i % 261) some (omega arith)) ∙ ap (vc4_byte port 0 0) (omega arith)

pub b3_of-more : (port : Customer) (v : ℕ) → b3_of port (v + 1) ≡ bip8 (vc4_front port (b3_of port v) v 2349)
unfolding b3_of
b3_of-more port v = rw add-one refl

pub container_byte-at : (port : Customer) (v i : ℕ) → i < 2349 → container_byte port (2349 * v + i) ≡ vc4_byte port (b3_of port v) v i
unfolding container_byte
container_byte-at port v i h =
    let q : (2349 * v + i) / 2349 ≡ v = omega arith in
    let r : (2349 * v + i) % 2349 ≡ i = omega arith in
    ap (λ w. vc4_byte port (b3_of port w) w ((2349 * v + i) % 2349)) q ∙ ap (vc4_byte port (b3_of port v) v) r

-- some bytes of one VC-4
pub containers_inside : (port : Customer) (v i n : ℕ) → i + n ≤ 2349
    → containers_from port (2349 * v + i) n ≡ cells (λ k. vc4_byte port (b3_of port v) v (i + k)) n
unfolding containers_from
containers_inside port v i n fits =
    cells-same (λ k. container_byte port (2349 * v + i + k)) (λ k. vc4_byte port (b3_of port v) v (i + k)) n 0
    (λ k h. ap (container_byte port) (omega arith) ∙ container_byte-at port v (i + k) (omega arith))

pub containers_from-zero : (port : Customer) (q : ℕ) → containers_from port q 0 ≡ []
unfolding containers_from
containers_from-zero port q = cells-zero _

pub length-containers_from : (port : Customer) (q n : ℕ) → length (containers_from port q n) ≡ n
unfolding containers_from
length-containers_from port q n = length-cells _ n

pub containers_from-append : (port : Customer) (q n m : ℕ) → containers_from port q (n + m)
    ≡ containers_from port q n ++ containers_from port (q + n) m
unfolding containers_from
containers_from-append port q n m =
    cells-append (λ k. container_byte port (q + k)) n m
    ∙ ap (λ l. cells (λ k. container_byte port (q + k)) n ++ l)
    (cells-same (λ k. container_byte port (q + (n + k))) (λ k. container_byte port (q + n + k)) m 0
    (λ k h. ap (container_byte port) (omega arith)))

-- the parity of the bytes so far, with some more
pub parity_more : (port : Customer) (b3 v i n parity : ℕ) → parity ≡ bip8 (vc4_front port b3 v i)
    → bit_xor parity (bip8 (cells (λ k. vc4_byte port b3 v (i + k)) n)) ≡ bip8 (vc4_front port b3 v (i + n))
parity_more port b3 v i n parity was =
    ap (λ p. bit_xor p (bip8 (cells (λ k. vc4_byte port b3 v (i + k)) n))) was
    ∙ sym (bip8-append (vc4_front port b3 v i) (cells (λ k. vc4_byte port b3 v (i + k)) n))
    ∙ ap bip8 (sym (cells-append (vc4_byte port b3 v) i n))

-- the parity of the bytes so far, with one more
pub parity_push : (f : ℕ → ℕ) (i parity byte : ℕ) → parity ≡ bip8 (cells f i) → byte ≡ f i → byte < 2 ^ 8
    → bit_xor parity byte ≡ bip8 (cells f (i + 1))
parity_push f i parity byte was is small =
    ap (λ p. bit_xor p byte) was ∙ sym (bip8-push (cells f i) byte small) ∙ ap (λ b. bip8 (cells f i ++ b ∷ [])) is
    ∙ ap bip8 (sym (cells-more f i))

-- what a walk gives is the stream
pub stream_from-containers : (port : Customer) (p at n : ℕ) → at ≡ p + start_of port.offset
    → containers_from port at n ≡ stream_from port p n
unfolding containers_from stream_from stream_byte
stream_from-containers port p at n h =
    cells-same (λ k. container_byte port (at + k)) (λ k. stream_byte port (p + k)) n 0
    (λ k lt. let e : at + k ≡ p + k + start_of port.offset = omega (arith, h) in ap (container_byte port) e)
