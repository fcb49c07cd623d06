-- A part of a list: its length and its elements, and the list after another part was written in its place.
use Rattle.std.proofs.Common.{rules, ◌≡◌, ℕ, ◌+◌, ◌-◌, ◌<◌, ◌≤◌, List, length, get_or, take, drop, arith}
use Rattle.std.specs.Prelude.{slice_range}
use Rattle.std.proofs.lemmas.List.{places, length-take, length-drop}
use Rattle.std.proofs.lemmas.Grind.{common_steps, elements}
use borrow.Rule.Slice.PartMut.{put_mid}

-- the n places from a on
pub length-part : (a n : ℕ) (s : List ℕ) → a + n ≤ length s → length (take n (drop a s)) ≡ n
length-part a n s h = grind (arith, common_steps)

pub get_or-part : (a n : ℕ) (s : List ℕ) (k : ℕ) → k < n → get_or (take n (drop a s)) k 0 ≡ get_or s (a + k) 0
get_or-part a n s k h = grind (arith, elements)

-- the n places from a up to b
pub length-range : (a b n : ℕ) (s : List ℕ) → b ≡ a + n → b ≤ length s → length (slice_range s a b) ≡ n
length-range a b n s e h = omega (arith, length-take (b - a) (drop a s), length-drop a s)

-- before, in and after a part that was written from place a on
pub put_below : (a n : ℕ) (s part : List ℕ) (k : ℕ) → k < a → a ≤ length s → get_or (put_mid a n s part) k 0 ≡ get_or s k 0
put_below a n s part k h r = search (rules, places)

pub put_in : (a n : ℕ) (s part : List ℕ) (k : ℕ) → k < length part → a ≤ length s → get_or (put_mid a n s part) (a + k) 0 ≡ get_or part k 0
put_in a n s part k h r = search (rules, places)

pub put_above : (a n : ℕ) (s part : List ℕ) (k : ℕ) → a + n ≤ k → length part ≡ n → a ≤ length s
    → get_or (put_mid a n s part) k 0 ≡ get_or s k 0
put_above a n s part k h e r = search (rules, places)
