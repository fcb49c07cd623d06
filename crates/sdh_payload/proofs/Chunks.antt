-- What a port sends as parts of its stream.
use Rattle.std.proofs.Common.{◌≡◌, ℕ, zero, suc, ◌+◌, ◌-◌, ◌*◌, ◌%◌, ◌<◌, ◌≤◌, ◌==◌, if◌then◌else◌, List, [], ◌∷◌, ◌++◌, length, take, drop}
use Rattle.std.proofs.Common.{get_or, refl, sym, ap, ◌∙◌, arith, append_assoc, take-append-drop, length-take-le}
use Rattle.std.proofs.Math.Seq.{take-append_seam, drop-append_seam}
use Rattle.std.proofs.lemmas.List.{drop-drop, length-append, length-drop}
use Rattle.sdh_basics.specs.Cells.{cells}
use Rattle.sdh_basics.proofs.CellsLaws.{cells-zero, cells-append, cells-same, length-cells, get_or-cells}
use Rattle.sdh_payload.specs.declared.chunk.ChunkForm.{ChunkForm}
use Rattle.sdh_payload.specs.declared.chunk.ChunkForm.TheVariants.{Plain, Short, Long}
use Rattle.sdh_payload.specs.Chunk.{taken_len, laid_payload, around}
use Rattle.sdh_payload.specs.Customer.{Customer}
use Rattle.sdh_payload.specs.Clock.{Clock, waiting, next_form, after_form, ticked, ticks}
use Rattle.sdh_payload.specs.Stream.{padded, phase_of, b3_of, container_byte, stream_byte, stream_from}
use Rattle.sdh_payload.specs.Laws.{sent_in_rounds, begun_in, ChunksAreTheStream, WhatIsLaidIsTaken, BeginsAtTheOffset}
use Rattle.sdh_payload.proofs.Containers.{container_byte-at, vc4_byte-overhead}

pub length-stream_from : (port : Customer) (p n : ℕ) → length (stream_from port p n) ≡ n
unfolding stream_from
length-stream_from port p n = length-cells (λ k. stream_byte port (p + k)) n

pub get_or-stream_from : (port : Customer) (p n k d : ℕ) → k < n → get_or (stream_from port p n) k d ≡ stream_byte port (p + k)
unfolding stream_from
get_or-stream_from port p n k d h = get_or-cells (λ i. stream_byte port (p + i)) n k d h

pub stream_from-zero : (port : Customer) (p : ℕ) → stream_from port p 0 ≡ []
unfolding stream_from
stream_from-zero port p = cells-zero _

pub stream_from-append : (port : Customer) (p n m : ℕ) → stream_from port p (n + m) ≡ stream_from port p n ++ stream_from port (p + n) m
unfolding stream_from
stream_from-append port p n m =
    cells-append (λ k. stream_byte port (p + k)) n m
    ∙ ap (λ l. cells (λ k. stream_byte port (p + k)) n ++ l)
    (cells-same (λ k. stream_byte port (p + (n + k))) (λ k. stream_byte port (p + n + k)) m 0 (λ k h. ap (stream_byte port) (omega arith)))

-- ---- rounds one after the other

-- a round moves a clock on by the number of bytes of its chunk
pub sent_grows : (f : ChunkForm) (c : Clock) → (after_form f c).sent ≡ c.sent + taken_len f
sent_grows Plain c = refl
sent_grows Short c = refl
sent_grows Long c = refl

pub ticked_sent : (c : Clock) → (ticked c).sent ≡ c.sent + taken_len (next_form c)
unfolding ticked
ticked_sent c = sent_grows (next_form c) c

-- the number of bytes that n rounds send
sent_all : (port : Customer) (c : Clock) (n : ℕ) → (ticks n c).sent ≡ c.sent + length (sent_in_rounds port c n)
unfolding ticks sent_in_rounds
sent_all port c zero = omega arith
sent_all port c (suc n) =
    let now = ticks n c in
    let all : length (sent_in_rounds port c n ++ stream_from port now.sent (taken_len (next_form now)))
    ≡ length (sent_in_rounds port c n) + taken_len (next_form now) =
    length-append (sent_in_rounds port c n) _ ∙ ap (λ k. length (sent_in_rounds port c n) + k)
    (length-stream_from port now.sent (taken_len (next_form now))) in
    omega (arith, ticked_sent now, sent_all port c n, all)

pub chunks_are_the_stream : ChunksAreTheStream
unfolding sent_in_rounds
chunks_are_the_stream port c zero = sym (stream_from-zero port c.sent)
chunks_are_the_stream port c (suc n) =
    let now = ticks n c in
    let before = sent_in_rounds port c n in
    let len : length (before ++ stream_from port now.sent (taken_len (next_form now))) ≡ length before + taken_len (next_form now) =
    length-append before _ ∙ ap (λ k. length before + k) (length-stream_from port now.sent (taken_len (next_form now))) in
    ap (λ l. l ++ stream_from port now.sent (taken_len (next_form now))) (chunks_are_the_stream port c n)
    ∙ ap (λ p. stream_from port c.sent (length before) ++ stream_from port p (taken_len (next_form now))) (sent_all port c n)
    ∙ sym (stream_from-append port c.sent (length before) (taken_len (next_form now))) ∙ ap (stream_from port c.sent) (sym len)

-- ---- what is laid out in an AU-4

-- the front of a list, and what is after it
parted : (front behind : List ℕ) (n : ℕ) → length front ≡ n → (take n (front ++ behind) ≡ front) × (drop n (front ++ behind) ≡ behind)
parted front behind n len = (
  ap (λ k. take k (front ++ behind)) (sym len) ∙ take-append_seam front behind,
  ap (λ k. drop k (front ++ behind)) (sym len)
      ∙ drop-append_seam front behind,
)

short_again : (front more back : ℕ) (zeros bytes : List ℕ) → front ≤ length bytes → length zeros ≡ more → back ≡ front + more
    → take front (take front bytes ++ (zeros ++ drop front bytes)) ++ drop back (take front bytes ++ (zeros ++ drop front bytes)) ≡ bytes
short_again front more back zeros bytes fits len e =
    let a = take front bytes in
    let all = a ++ (zeros ++ drop front bytes) in
    let parts = parted a (zeros ++ drop front bytes) front (length-take-le front bytes fits) in
    let behind : drop back all ≡ drop front bytes =
    ap (λ k. drop k all) e ∙ sym (drop-drop more front all) ∙ ap (drop more) parts.1 ∙ (parted zeros (drop front bytes) more len).1 in
    ap (λ l. l ++ drop back all) parts.0 ∙ ap (λ l. a ++ l) behind ∙ take-append-drop front bytes

long_again : (front more back : ℕ) (bytes : List ℕ) → front ≤ length bytes → back ≡ front + more
    → take front (take front bytes ++ drop back bytes) ++ (take more (drop front bytes) ++ drop front (take front bytes ++ drop back bytes))
    ≡ bytes
long_again front more back bytes fits e =
    let a = take front bytes in
    let b = drop front bytes in
    let parts = parted a (drop back bytes) front (length-take-le front bytes fits) in
    let rest : drop back bytes ≡ drop more b = ap (λ k. drop k bytes) e ∙ sym (drop-drop more front bytes) in
    ap (λ l. l ++ (take more b ++ drop front (a ++ drop back bytes))) parts.0 ∙ ap (λ l. a ++ (take more b ++ l)) (parts.1 ∙ rest)
    ∙ ap (λ l. a ++ l) (take-append-drop more b)
    ∙ take-append-drop front bytes

around-right : (front : ℕ) (middle : List ℕ) (back : ℕ) (xs : List ℕ)
    → around front middle back xs ≡ take front xs ++ (middle ++ drop back xs)
unfolding around
around-right front middle back xs = append_assoc (take front xs) middle (drop back xs)

pub what_is_laid_is_taken : WhatIsLaidIsTaken
what_is_laid_is_taken Plain bytes len = refl
what_is_laid_is_taken Short bytes len =
    around-right 783 [] 786 (around 783 (0 ∷ 0 ∷ 0 ∷ []) 783 bytes)
    ∙ ap (λ p. take 783 p ++ drop 786 p) (around-right 783 (0 ∷ 0 ∷ 0 ∷ []) 783 bytes)
    ∙ short_again 783 3 786 (0 ∷ 0 ∷ 0 ∷ []) bytes (omega (arith, len)) refl refl
what_is_laid_is_taken Long bytes len =
    around-right 783 (take 3 (drop 783 bytes)) 783 (around 783 [] 786 bytes)
    ∙ ap (λ p. take 783 p ++ (take 3 (drop 783 bytes) ++ drop 783 p)) (around-right 783 [] 786 bytes)
    ∙ long_again 783 3 786 bytes (omega (arith, len)) refl

length-around : (front : ℕ) (middle : List ℕ) (back : ℕ) (xs : List ℕ) → front ≤ length xs
    → length (around front middle back xs) ≡ front + (length middle + (length xs - back))
length-around front middle back xs fits =
    ap length (around-right front middle back xs) ∙ length-append (take front xs) (middle ++ drop back xs)
    ∙ ap (λ k. k + length (middle ++ drop back xs)) (length-take-le front xs fits)
    ∙ ap (λ k. front + k) (length-append middle (drop back xs) ∙ ap (λ k. length middle + k) (length-drop back xs))

-- a chunk that is laid out fills a payload
pub length-laid_payload : (form : ChunkForm) (bytes : List ℕ) → length bytes ≡ taken_len form → length (laid_payload form bytes) ≡ 2349
length-laid_payload Plain bytes len = len
length-laid_payload Short bytes len = length-around 783 (0 ∷ 0 ∷ 0 ∷ []) 783 bytes (omega (arith, len)) ∙ omega (arith, len)
length-laid_payload Long bytes len = length-around 783 [] 786 bytes (omega (arith, len)) ∙ omega (arith, len)

-- the first byte of a VC-4 is J1
begins : (port : Customer) (v : ℕ) → container_byte port (2349 * v) ≡ get_or (padded port.trace) (v % 64) 0
begins port v =
    ap (container_byte port) (omega arith) ∙ container_byte-at port v 0 (omega arith) ∙ vc4_byte-overhead port (b3_of port v) v 0 refl

begun_then : (f j : ℕ) → 0 < f → (if f == 0 then j else j + 1) ≡ j + 1
begun_then f j h = grind arith

-- the byte with phase f in chunk j comes a whole number of VC-4s after the start of VC-4 number 0
whole : (f j : ℕ) → f < 2349 → 2349 * j + f + (2349 - f) % 2349 ≡ 2349 * (if f == 0 then j else j + 1)
whole zero j h = omega arith
whole (suc f) j h = let rest : 2349 * j + suc f + (2349 - suc f) % 2349 ≡ 2349 * (j + 1) =
    omega arith in rest ∙ ap (λ v. 2349 * v) (sym (begun_then (suc f) j (omega arith)))

pub begins_at_the_offset : BeginsAtTheOffset
unfolding stream_byte
begins_at_the_offset port j =
    get_or-stream_from port (2349 * j) 2349 (phase_of port.offset) 0 (omega arith)
    ∙ ap (container_byte port) (whole (phase_of port.offset) j (omega arith)) ∙ begins port (begun_in port j)

-- a round in which no slip waits sends a plain chunk
pub plain_len : (c : Clock) → waiting c ≡ 0 → taken_len (next_form c) ≡ 2349
plain_len c still = grind (arith, still)
