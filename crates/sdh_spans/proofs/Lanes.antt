-- The section parity's lanes, over the parts of a frame.
use Rattle.std.proofs.Common.{◌≡◌, ℕ, ◌+◌, ◌*◌, ◌-◌, ◌<◌, ◌≤◌, List, ◌++◌, length, drop, get_or, ap, sym, ◌∙◌, arith, bit_xor}
use Rattle.std.specs.Prelude.{slice_range}
use Rattle.std.proofs.lemmas.Nat.{mul-add-lt}
use Rattle.std.proofs.lemmas.List.{length-append, length-take, length-drop, take_rest, take_all, get_or-take, get_or-drop}
use Rattle.sdh_basics.specs.Parity.{bip8}
use Rattle.sdh_basics.proofs.ParityLaws.{bip8-append}
use Rattle.sdh_basics.proofs.Parts.{length-range}
use Rattle.sdh_basics.proofs.CellsLaws.{cells-same}
use Rattle.sdh_parity.specs.Parity.{lane, section_bytes, every}
use Rattle.sdh_parity.proofs.Lanes.{lane-append, lane-rows}

lane-part : (m i c a b : ℕ) (bytes : List ℕ) → i < m → b ≡ a + c * m → b ≤ length bytes
    → lane m i (slice_range bytes a b) ≡ every (a + i) m c bytes
lane-part m i c a b bytes h e room =
    let part : List ℕ = slice_range bytes a b in
    let size : length part ≡ c * m = omega (arith, length-take (b - a) (drop a bytes), length-drop a bytes) in
    ap (lane m i) (sym (take_all (c * m) part (omega arith))) ∙ lane-rows m i part c h (omega arith)
    ∙ cells-same _ _ c 0 (λ r lt.
    (let below : i + r * m < b - a = omega (arith, mul-add-lt r m i c lt h) in
    get_or-take (b - a) (drop a bytes) (i + r * m) 0 below ∙ get_or-drop a bytes (i + r * m) 0 ∙ ap (λ k. get_or bytes k 0) (omega arith)))

lane-rest : (m i c a : ℕ) (bytes : List ℕ) → i < m → length bytes ≡ a + c * m → lane m i (drop a bytes) ≡ every (a + i) m c bytes
lane-rest m i c a bytes h e = ap (lane m i) (sym (take_rest bytes a)) ∙ lane-part m i c a (length bytes) bytes h e (omega arith)

-- BIP-8 of a lane of four parts; the first three are whole rows
lane-four : (m i c : ℕ) (p q r s : List ℕ) → length p ≡ c * m → length q ≡ c * m → length r ≡ c * m
    → bip8 (lane m i (p ++ q ++ r ++ s)) ≡ bit_xor (bit_xor (bit_xor (bip8 (lane m i p)) (bip8 (lane m i q))) (bip8 (lane m i r)))
    (bip8 (lane m i s))
lane-four m i c p q r s lp lq lr =
    let two : length (p ++ q) ≡ (c + c) * m = omega (arith, length-append p q) in
    let three : length (p ++ q ++ r) ≡ (c + c + c) * m = omega (arith, length-append (p ++ q) r, length-append p q) in
    ap bip8 (lane-append m i (c + c + c) (p ++ q ++ r) s three) ∙ bip8-append (lane m i (p ++ q ++ r)) (lane m i s)
    ∙ ap (λ z. bit_xor z (bip8 (lane m i s)))
    (ap bip8 (lane-append m i (c + c) (p ++ q) r two) ∙ bip8-append (lane m i (p ++ q)) (lane m i r)
    ∙ ap (λ z. bit_xor z (bip8 (lane m i r))) (ap bip8 (lane-append m i c p q lp) ∙ bip8-append (lane m i p) (lane m i q)))

pub section-lane : (n j : ℕ) (bytes : List ℕ) → length bytes ≡ 2430 * n → j < 3 * n
    → bip8 (lane (3 * n) j (section_bytes n bytes))
    ≡ bit_xor (bit_xor (bit_xor (bip8 (every (9 * n + j) (3 * n) 87 bytes)) (bip8 (every (279 * n + j) (3 * n) 87 bytes)))
    (bip8 (every (549 * n + j) (3 * n) 87 bytes))) (bip8 (every (810 * n + j) (3 * n) 540 bytes))
unfolding section_bytes
section-lane n j bytes len h =
    let m : ℕ = 3 * n in
    lane-four m j 87 (slice_range bytes (9 * n) (270 * n)) (slice_range bytes (279 * n) (540 * n)) (slice_range bytes (549 * n) (810 * n))
    (drop (810 * n) bytes)
    (length-range (9 * n) (270 * n) (87 * m) bytes (omega arith) (omega arith))
    (length-range (279 * n) (540 * n) (87 * m) bytes (omega arith) (omega arith))
    (length-range (549 * n) (810 * n) (87 * m) bytes (omega arith) (omega arith))
    ∙ ap (λ z. bit_xor (bit_xor (bit_xor (bip8 z) (bip8 (lane m j (slice_range bytes (279 * n) (540 * n)))))
    (bip8 (lane m j (slice_range bytes (549 * n) (810 * n))))) (bip8 (lane m j (drop (810 * n) bytes))))
    (lane-part m j 87 (9 * n) (270 * n) bytes h (omega arith) (omega arith))
    ∙ ap (λ z. bit_xor (bit_xor (bit_xor (bip8 (every (9 * n + j) m 87 bytes)) (bip8 z))
    (bip8 (lane m j (slice_range bytes (549 * n) (810 * n))))) (bip8 (lane m j (drop (810 * n) bytes))))
    (lane-part m j 87 (279 * n) (540 * n) bytes h (omega arith) (omega arith))
    ∙ ap (λ z. bit_xor (bit_xor (bit_xor (bip8 (every (9 * n + j) m 87 bytes)) (bip8 (every (279 * n + j) m 87 bytes))) (bip8 z))
    (bip8 (lane m j (drop (810 * n) bytes))))
    (lane-part m j 87 (549 * n) (810 * n) bytes h (omega arith) (omega arith))
    ∙ ap (λ z. bit_xor (bit_xor (bit_xor (bip8 (every (9 * n + j) m 87 bytes)) (bip8 (every (279 * n + j) m 87 bytes)))
    (bip8 (every (549 * n + j) m 87 bytes))) (bip8 z))
    (lane-rest m j 540 (810 * n) bytes h (omega arith))
