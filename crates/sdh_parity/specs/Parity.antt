-- Bit interleaved parities (ITU-T G.707 clause 9.2).
use Rattle.std.specs.Prelude.{ℕ, ◌+◌, ◌*◌, ◌%◌, ◌==◌, List, [], ◌∷◌, ◌++◌, drop, slice_range, slice_index, if◌then◌else◌}
use Rattle.sdh_basics.specs.Cells.{cells}
use Rattle.sdh_basics.specs.Parity.{bip8}

-- the bytes whose index, counted from k, is i modulo m
abbrev pub lane_from : ℕ → ℕ → ℕ → List ℕ → List ℕ
lane_from m i k [] = []
lane_from m i k (x ∷ xs) = if (k % m) == i then x ∷ lane_from m i (k + 1) xs else lane_from m i (k + 1) xs

-- the bytes whose index is i modulo m
abbrev pub lane : ℕ → ℕ → List ℕ → List ℕ
lane m i bytes = lane_from m i 0 bytes

-- BIP of m bytes: byte i is the BIP-8 of the bytes whose index is i modulo m
unfoldable pub bip_lanes : ℕ → List ℕ → List ℕ
bip_lanes m bytes = cells (λ i. bip8 (lane m i bytes)) m

-- the bytes of a frame over which BIP-24N is taken, row by row: all but columns 1 to 9N of rows 1 to 3
unfoldable pub section_bytes : ℕ → List ℕ → List ℕ
section_bytes n bytes =
    slice_range bytes (9 * n) (270 * n) ++ slice_range bytes (279 * n) (540 * n) ++ slice_range bytes (549 * n) (810 * n)
    ++ drop (810 * n) bytes

-- the BIP-24N of a frame, 3N bytes: BIP of the bytes of `section_bytes`
unfoldable pub section_parity : ℕ → List ℕ → List ℕ
section_parity n bytes = bip_lanes (3 * n) (section_bytes n bytes)

-- the `count` bytes at the places `at`, `at` + `stride`, `at` + 2 `stride` and so on
abbrev pub every : ℕ → ℕ → ℕ → List ℕ → List ℕ
every at stride count bytes = cells (λ r. slice_index bytes (at + r * stride)) count
