-- A frame whose AU-4s come from two other frames or from payloads of a node's own ports, or are ones.
use Rattle.std.specs.Prelude.{true, false, ℕ, ◌≡◌, ◌+◌, ◌*◌, ◌-◌, ◌/◌, ◌%◌, ◌==◌, ◌||◌, ◌<◌, ◌≤◌, Bool, nat_le, if◌then◌else◌, List, []}
use Rattle.std.specs.Prelude.{map, length, slice_index, slice_index_or, replicate}
use Rattle.sdh_interchange.specs.declared.choose.Source.{Source}
use Rattle.sdh_interchange.specs.declared.choose.Source.TheVariants.{First, Second, Own, Ones}
use Rattle.sdh_frame.specs.Aus.{Au, au_of, with_aus, ones}

-- the own payload for AU-4 number k
abbrev pub payload_in : ℕ → List (List ℕ) → List ℕ
payload_in k own = slice_index_or own (k - 1) []

-- the AU-4 that a source stands for: one of the first frame, one of the second, a payload with pointer bytes of zeros,
-- or ones
abbrev pub au_from : ℕ → List ℕ → List ℕ → List (List ℕ) → Source → Au
au_from n first second own (First au) = au_of n au first
au_from n first second own (Second au) = au_of n au second
au_from n first second own (Own k) = record { pointers = replicate 9 0; payload = payload_in k own }
au_from n first second own Ones = ones

-- the frame whose AU-4s, from number 1 on, come from these sources
unfoldable pub assembled_frame : ℕ → List Source → List ℕ → List ℕ → List (List ℕ) → List ℕ → List ℕ
assembled_frame n sources first second own bytes = with_aus n 1 (map (au_from n first second own) sources) bytes

-- a source of AU-4 number `to` of N: an AU-4 of either frame, the own payload for it, or ones
abbrev pub IsSource : ℕ → ℕ → Source → Type 0
IsSource n to (First au) = (1 ≤ au) × (au ≤ n)
IsSource n to (Second au) = (1 ≤ au) × (au ≤ n)
IsSource n to (Own k) = k ≡ to
IsSource n to Ones = Unit {0}

-- a source for each AU-4
pub record AreSources (n : ℕ) (sources : List Source) : Type 0 where
  pub many : length sources ≡ n
  pub each : (j : ℕ) → j < n → IsSource n (j + 1) (slice_index_or sources j Ones)

-- ---- byte by byte

-- byte i of a frame whose payloads are these and whose pointer bytes are zeros
unfoldable pub own_byte : ℕ → List (List ℕ) → ℕ → ℕ
own_byte n own i =
    if nat_le (9 * n) (i % (270 * n)) then slice_index (slice_index_or own (i % n) []) (261 * (i / (270 * n)) + (i % (270 * n) - 9 * n) / n)
    else 0

-- byte i of a frame, where it belongs to an AU-4 from this source
abbrev pub picked : ℕ → Source → List ℕ → List ℕ → List (List ℕ) → ℕ → ℕ
picked n (First au) first second own i = slice_index first (i - i % n + (au - 1))
picked n (Second au) first second own i = slice_index second (i - i % n + (au - 1))
picked n (Own k) first second own i = own_byte n own (i - i % n + (k - 1))
picked n Ones first second own i = 0xFF

-- byte i of a frame, where it belongs to an AU-4, by the sources of all AU-4s
abbrev pub picked_at : ℕ → List Source → List ℕ → List ℕ → List (List ℕ) → ℕ → ℕ
picked_at n sources first second own i = picked n (slice_index_or sources (i % n) Ones) first second own i

-- whether byte i of a frame belongs to an AU-4
abbrev pub is_au_byte : ℕ → ℕ → Bool
is_au_byte n i = nat_le (9 * n) (i % (270 * n)) || (i / (270 * n) == 3)

-- ---- which inputs a choice reads

-- the source is an AU-4 of one of the two frames
abbrev pub is_passed : Source → Bool
is_passed (First au) = true
is_passed (Second au) = true
is_passed (Own k) = false
is_passed Ones = false

-- the source is an own payload
abbrev pub is_own : Source → Bool
is_own (First au) = false
is_own (Second au) = false
is_own (Own k) = true
is_own Ones = false
