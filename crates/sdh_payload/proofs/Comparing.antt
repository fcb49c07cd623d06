-- Bytes beside those of the VC-4s, piece by piece.
use Rattle.std.proofs.Common.{◌≡◌, ◌≢◌, ℕ, ◌+◌, ◌-◌, ◌≤◌, Bool, false, List, ◌++◌, length, take, drop, bytes_eq, sym, ap, ◌∙◌, subst, arith}
use Rattle.std.proofs.Math.Seq.{drop-append_seam, take-append_seam, take-add}
use Rattle.std.proofs.lemmas.List.{take_rest, length-drop}
use Rattle.std.proofs.lemmas.Bool.{false_from_ne_true, true≢false}
use Rattle.std.proofs.lemmas.Slice.Eq.{bytes_eq-Decides}
use Rattle.sdh_payload.specs.Customer.{Customer}
use Rattle.sdh_payload.specs.Stream.{stream_from}
use Rattle.sdh_payload.specs.Walk.{containers_from}
use Rattle.sdh_payload.proofs.Containers.{containers_from-append, length-containers_from}
use Rattle.sdh_payload.proofs.Chunks.{length-stream_from}

-- the piece of the VC-4s after d bytes
piece_is : (port : Customer) (q d n m : ℕ) → take n (drop d (containers_from port q (d + (n + m)))) ≡ containers_from port (q + d) n
piece_is port q d n m =
    let front : List ℕ = containers_from port q d in
    let piece : List ℕ = containers_from port (q + d) n in
    let rest : List ℕ = containers_from port (q + d + n) m in
    let whole : containers_from port q (d + (n + m)) ≡ front ++ (piece ++ rest) =
    containers_from-append port q d (n + m) ∙ ap (λ l. front ++ l) (containers_from-append port (q + d) n m) in
    ap (λ l. take n (drop d l)) whole
    ∙ ap (λ k. take n (drop k (front ++ (piece ++ rest)))) (sym (length-containers_from port q d))
    ∙ ap (take n) (drop-append_seam front (piece ++ rest))
    ∙ ap (λ k. take k (piece ++ rest)) (sym (length-containers_from port (q + d) n))
    ∙ take-append_seam piece rest

-- where all bytes are those of the VC-4s, each piece of them is
pub piece_of : (port : Customer) (q d n : ℕ) (bytes : List ℕ) → d + n ≤ length bytes → bytes ≡ containers_from port q (length bytes)
    → take n (drop d bytes) ≡ containers_from port (q + d) n
piece_of port q d n bytes fits same =
    let m : ℕ = length bytes - d - n in
    let len : length bytes ≡ d + (n + m) = omega (arith, fits) in
    ap (λ l. take n (drop d l)) (same ∙ ap (containers_from port q) len) ∙ piece_is port q d n m

-- a piece more that is the same
pub piece_more : (port : Customer) (q d n : ℕ) (bytes : List ℕ) → take d bytes ≡ containers_from port q d
    → take n (drop d bytes) ≡ containers_from port (q + d) n → take (d + n) bytes ≡ containers_from port q (d + n)
piece_more port q d n bytes before piece =
    take-add d n bytes ∙ ap (λ l. l ++ take n (drop d bytes)) before ∙ ap (λ l. containers_from port q d ++ l) piece
    ∙ sym (containers_from-append port q d n)

-- a piece that differs
pub differs : (port : Customer) (q d n : ℕ) (bytes : List ℕ) → d + n ≤ length bytes
    → bytes_eq (take n (drop d bytes)) (containers_from port (q + d) n) ≡ false
    → false ≡ bytes_eq bytes (containers_from port q (length bytes))
differs port q d n bytes fits other =
    sym (false_from_ne_true _ (λ same.
    let piece = piece_of port q d n bytes fits ((bytes_eq-Decides bytes (containers_from port q (length bytes))).0 same) in
    true≢false (sym ((bytes_eq-Decides (take n (drop d bytes)) (containers_from port (q + d) n)).1 piece) ∙ other)))

-- what fits into the rest of some bytes
pub within_rest : (d n : ℕ) (bytes : List ℕ) → n ≤ length (take (length bytes - d) (drop d bytes)) → n ≤ length bytes - d
within_rest d n bytes fits = subst (λ k. n ≤ k) (ap length (take_rest bytes d) ∙ length-drop d bytes) fits

-- what came of comparing a piece, after d bytes
pub compared : (one port : Customer) (at q d n : ℕ) (bytes : List ℕ) (same : Bool) → one ≡ port → at ≡ q + d
    → same ≡ bytes_eq (take n (take (length bytes - d) (drop d bytes))) (containers_from one at n)
    → same ≡ bytes_eq (take n (drop d bytes)) (containers_from port (q + d) n)
compared one port at q d n bytes same whose there is =
    is ∙ ap (λ l. bytes_eq (take n l) (containers_from one at n)) (take_rest bytes d)
    ∙ ap (λ p. bytes_eq (take n (drop d bytes)) (containers_from p at n)) whose
    ∙ ap (λ k. bytes_eq (take n (drop d bytes)) (containers_from port k n)) there

-- bytes that are not as many as a chunk has
pub others_differ : (port : Customer) (p : ℕ) (bytes : List ℕ) → length bytes ≢ 2349 → false ≡ bytes_eq bytes (stream_from port p 2349)
others_differ port p bytes other =
    sym (false_from_ne_true _ (λ same.
    other (ap length ((bytes_eq-Decides bytes (stream_from port p 2349)).0 same) ∙ length-stream_from port p 2349)))
