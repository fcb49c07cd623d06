-- Parts that are put to their places in a buffer.
use Rattle.std.proofs.Common.{◌≡◌, ℕ, ◌+◌, ◌*◌, ◌-◌, ◌≤◌, List, ◌++◌, length, take, drop, refl, ap, sym, ◌∙◌, arith}
use Rattle.std.specs.List.{between}
use Rattle.std.proofs.lemmas.Slice.{between_is, take-put_mid_below, drop-put_mid, between-put_mid, between_to_end}
use Rattle.std.proofs.lemmas.Simd.{chunk-drop}
use Rattle.sdh_ringmap.specs.Places.{opposite}
use Rattle.sdh_ringmap.specs.declared.Side.{Side}
use Rattle.sdh_ringmap.specs.declared.Side.TheVariants.{West, East}
use Rattle.sdh_ringmap.specs.declared.terms.Rate.{Rate}
use Rattle.sdh_frame.specs.Sizes.{Frame, size_of}
use Rattle.sdh_node_cli.specs.Pairs.{FramePair, frame_on, both_in}

-- the bytes of a buffer, with this part at a place instead of as many bytes
abbrev pub placed : ℕ → List ℕ → List ℕ → List ℕ
placed at part bytes = take at bytes ++ (part ++ drop (length part) (drop at bytes))

-- where the frame of a side begins, if both begin at `at`
abbrev pub start_on : Side → Rate → ℕ → ℕ
start_on West rate at = at
start_on East rate at = at + size_of rate

pub start_is : (side : Side) (rate : Rate) (at start : ℕ) → (side ≡ West → start ≡ at) → (side ≡ East → start ≡ at + size_of rate)
    → start ≡ start_on side rate at
start_is West rate at start west east = west refl
start_is East rate at start west east = east refl

-- a buffer in which the lines begin at `from`, and the frames at `at`
abbrev pub pair_in : Rate → ℕ → ℕ → List ℕ → FramePair
pair_in rate from at bytes = record {
  rate = rate;
  lines = between from at bytes;
  west = between at (at + size_of rate) bytes;
  east = between (at + size_of rate) (at + size_of rate + size_of rate) bytes;
}

-- the frames are all that begins at `at`
pub both_is : (rate : Rate) (from at : ℕ) (bytes : List ℕ) → length bytes ≡ at + 2 * size_of rate
    → drop at bytes ≡ both_in (pair_in rate from at bytes)
both_is rate from at bytes room =
    let size = size_of rate in
    let west : take size (drop at bytes) ≡ take (at + size - at) (drop at bytes) = ap (λ n. take n (drop at bytes)) (omega arith) in
    let east : drop (at + size) bytes ≡ between (at + size) (at + size + size) bytes =
    sym (between_to_end bytes (at + size) (at + size + size) (omega (arith, room))) in
    chunk-drop at size bytes ∙ (λ i. west i ++ east i)

-- what ends before the part, and what begins behind it, stays
before : (from to at : ℕ) (part bytes : List ℕ) → to ≤ at → at ≤ length bytes → between from to (placed at part bytes) ≡ between from to bytes
before from to at part bytes low within =
    between_is (placed at part bytes) from to ∙ ap (drop from) (take-put_mid_below at (length part) bytes part to low within)
    ∙ sym (between_is bytes from to)

behind : (from to at : ℕ) (part bytes : List ℕ) → at + length part ≤ from → at ≤ length bytes → between from to (placed at part bytes) ≡ between from to bytes
behind from to at part bytes high within = ap (take (to - from)) (drop-put_mid at (length part) bytes part from high within (λ i. length part))

-- what stands before the frames stays where the bytes before them do
pub lines_stay : (from at : ℕ) (bytes now : List ℕ) → take at now ≡ take at bytes → between from at now ≡ between from at bytes
lines_stay from at bytes now same = between_is now from at ∙ ap (drop from) same ∙ sym (between_is bytes from at)

-- where a frame is put to its place, the other one stays
pub other_stays : (side : Side) (rate : Rate) (from at : ℕ) (line bytes : List ℕ) → length line ≡ size_of rate
    → length bytes ≡ at + 2 * size_of rate
    → frame_on (opposite side) (pair_in rate from at (placed (start_on side rate at) line bytes))
    ≡ frame_on (opposite side) (pair_in rate from at bytes)
other_stays West rate from at line bytes size room =
    ap (λ (b : List ℕ). let f : Frame = record { rate = rate; bytes = b } in f)
    (behind (at + size_of rate) (at + size_of rate + size_of rate) at line bytes (omega (arith, size)) (omega (arith, room)))
other_stays East rate from at line bytes size room =
    ap (λ (b : List ℕ). let f : Frame = record { rate = rate; bytes = b } in f)
    (before at (at + size_of rate) (at + size_of rate) line bytes (omega arith) (omega (arith, room)))

-- lines that are put right before the frames
pub lines_placed : (rate : Rate) (from at : ℕ) (lines bytes : List ℕ) → length lines ≤ at → length bytes ≡ at + 2 * size_of rate
    → pair_in rate (at - length lines) at (placed (at - length lines) lines bytes) ≡ record (pair_in rate from at bytes) { lines = lines }
lines_placed rate from at lines bytes fits room =
    let start : ℕ = at - length lines in
    let within : start ≤ length bytes = omega (arith, room) in
    let first : between start at (placed start lines bytes) ≡ lines =
    between-put_mid start (length lines) bytes lines at within (omega (arith, fits)) in
    let west = behind at (at + size_of rate) start lines bytes (omega (arith, fits)) within in
    let east = behind (at + size_of rate) (at + size_of rate + size_of rate) start lines bytes (omega (arith, fits)) within in
    (λ i. record { rate = rate; lines = first i; west = west i; east = east i })
