-- The bytes that are near, round after round.
use Rattle.std.proofs.Common.{◌≡◌, ℕ, ◌+◌, ◌-◌, ◌*◌, ◌<◌, ◌≤◌, true, false, List, [], ◌++◌, length, take, drop, refl, sym, ap, ap₂, subst, ◌∙◌, arith}
use Rattle.std.specs.Prelude.{Result, Ok, is_ok, if◌then◌else◌}
use Rattle.std.proofs.Math.Seq.{take-append_seam, drop-append_seam}
use Rattle.sdh_payload.specs.declared.delivered.Delivered.{Delivered}
use Rattle.sdh_payload.specs.declared.delivered.Delivered.TheVariants.{Ais, Chunk}
use Rattle.sdh_payload.specs.Customer.{Customer}
use Rattle.sdh_payload.specs.Clock.{waiting}
use Rattle.sdh_payload.specs.Feed.{Fed, new_feed, next_feed}
use Rattle.sdh_payload.specs.Stream.{stream_from, chunk_of}
use Rattle.sdh_payload.proofs.Chunks.{length-stream_from, stream_from-append, stream_from-zero}
use Rattle.sdh_payload.proofs.Clocking.{plain_tick, rounds_more}
use Rattle.sdh_outage.specs.Near.{near, near_from, is_part}
use Rattle.sdh_outage.specs.Kinds.{jumps}
use Rattle.sdh_outage.specs.Kept.{IsReach, Stands}
use Rattle.sdh_outage.proofs.Standing.{occurs_whole, follows, stands_around}

-- ---- parts of a stream

-- without its first bytes
pub drop-stream : (port : Customer) (p k n : ℕ) → drop k (stream_from port p (k + n)) ≡ stream_from port (p + k) n
drop-stream port p k n =
    let front = stream_from port p k in
    ap (drop k) (stream_from-append port p k n) ∙ ap (λ i. drop i (front ++ stream_from port (p + k) n)) (sym (length-stream_from port p k))
    ∙ drop-append_seam front (stream_from port (p + k) n)

pub length-near : (port : Customer) (round : ℕ) → length (near port round) ≡ 2349 * 78
unfolding near
length-near port round = length-stream_from port (near_from round) (2349 * 78)

-- ---- chunks that are kept

-- no chunk
no_chunk : (port : Customer) (p m : ℕ) → stream_from port p (2349 * (m - m)) ≡ []
no_chunk port p m = (let none : 2349 * (m - m) ≡ 0 = omega arith in ap (stream_from port p) none) ∙ stream_from-zero port p

pub reach_none : (port : Customer) (feed : Fed) → feed ≡ new_feed port → IsReach feed 0 0 []
reach_none port feed n = record {
  still = ap (λ (f : Fed). waiting f.clock) n;
  rounds_are = ap (λ (f : Fed). f.clock.rounds) n;
  sent_is = ap (λ (f : Fed). f.clock.sent) n;
  order = omega arith;
  bytes_are = sym (no_chunk feed.port (2349 * 0) 0);
}

-- all chunks are dropped
pub reach_cleared : (feed : Fed) (first made : ℕ) (bytes : List ℕ) → IsReach feed first made bytes → IsReach feed made made []
reach_cleared feed first made bytes r = record {
  still = r.still;
  rounds_are = r.rounds_are;
  sent_is = r.sent_is;
  order = omega arith;
  bytes_are = sym (no_chunk feed.port (2349 * made) made);
}

-- the first chunks are dropped
pub reach_dropped : (feed : Fed) (first from made : ℕ) (bytes : List ℕ) → first ≤ from → from ≤ made → IsReach feed first made bytes
    → IsReach feed from made (drop (2349 * (from - first)) bytes)
reach_dropped feed first from made bytes after before r =
    let k = 2349 * (from - first) in
    let n = 2349 * (made - from) in
    let count : 2349 * (made - first) ≡ k + n = omega arith in
    let begins : 2349 * first + k ≡ 2349 * from = omega arith in
    record {
      still = r.still;
      rounds_are = r.rounds_are;
      sent_is = r.sent_is;
      order = before;
      bytes_are =
          ap (drop k) (r.bytes_are ∙ ap (stream_from feed.port (2349 * first)) count) ∙ drop-stream feed.port (2349 * first) k n
          ∙ ap (λ p. stream_from feed.port p n) begins;
    }

-- what the feed is after a chunk more
pub feed_next : (feed next : Fed) (made : ℕ) → next ≡ next_feed feed → waiting feed.clock ≡ 0 → feed.clock.rounds ≡ made
    → feed.clock.sent ≡ 2349 * made
    → (waiting next.clock ≡ 0) × (next.clock.rounds ≡ made + 1) × (next.clock.sent ≡ 2349 * (made + 1)) × (next.port ≡ feed.port)
feed_next feed next made n still rounds sent =
    let tick = plain_tick feed.clock still in (
      ap (λ (f : Fed). waiting f.clock) n ∙ tick.0,
      omega (arith, ap (λ (f : Fed). f.clock.rounds) n, rounds_more feed.clock, rounds),
      omega (arith, ap (λ (f : Fed). f.clock.sent) n, tick.2, sent),
      ap (λ (f : Fed). f.port) n,
    )

-- one chunk more, which isn't kept where no chunks are
pub reach_passed : (feed next : Fed) (made : ℕ) (bytes : List ℕ) → next ≡ next_feed feed → IsReach feed made made bytes
    → IsReach next (made + 1) (made + 1) bytes
reach_passed feed next made bytes n r =
    let f = feed_next feed next made n r.still r.rounds_are r.sent_is in
    record {
      still = f.0;
      rounds_are = f.1;
      sent_is = f.2;
      order = omega arith;
      bytes_are = r.bytes_are ∙ no_chunk feed.port (2349 * made) made ∙ sym (no_chunk next.port (2349 * (made + 1)) (made + 1));
    }

-- one chunk more, which is kept
pub reach_pushed : (feed next : Fed) (first made : ℕ) (bytes chunk : List ℕ) → next ≡ next_feed feed
    → chunk ≡ stream_from feed.port feed.clock.sent 2349 → IsReach feed first made bytes → IsReach next first (made + 1) (bytes ++ chunk)
reach_pushed feed next first made bytes chunk n e r =
    let f = feed_next feed next made n r.still r.rounds_are r.sent_is in
    let k = 2349 * (made - first) in
    let begins : feed.clock.sent ≡ 2349 * first + k = omega (arith, r.sent_is, r.order) in
    let count : k + 2349 ≡ 2349 * (made + 1 - first) = omega (arith, r.order) in
    record {
      still = f.0;
      rounds_are = f.1;
      sent_is = f.2;
      order = omega (arith, r.order);
      bytes_are =
          ap₂ (λ a b. a ++ b) r.bytes_are (e ∙ ap (λ p. stream_from feed.port p 2349) begins)
          ∙ sym (stream_from-append feed.port (2349 * first) k 2349)
          ∙ ap (stream_from feed.port (2349 * first)) count ∙ ap (λ c. stream_from c (2349 * first) (2349 * (made + 1 - first))) (sym f.3);
    }

-- ---- chunks among those that are near

-- the near bytes are 78 chunks from the first on
pub near_is : (port : Customer) (round first : ℕ) (bytes : List ℕ) → first ≡ round - 71 → bytes ≡ stream_from port (2349 * first) (2349 * 78)
    → bytes ≡ near port round
unfolding near
near_is port round first bytes begins e = e ∙ ap (λ n. stream_from port (2349 * n) (2349 * 78)) begins

-- a chunk that stands in some of the chunks follows the last one
pub follows_near : (port : Customer) (round first made : ℕ) (last : Delivered) (chunk : List ℕ) → round - 71 ≤ first → first ≤ made
    → made ≤ round - 71 + 78 → Stands last chunk (stream_from port (2349 * first) (2349 * (made - first)))
    → (is_part chunk (near port round) ≡ true) × (jumps (near port round) last chunk ≡ false)
unfolding near
follows_near port round first made last chunk after order before stands =
    let s = 2349 * (round - 71) in
    let a = 2349 * (first - (round - 71)) in
    let m = 2349 * (made - first) in
    let b = 2349 * 78 - (a + m) in
    let whole : 2349 * 78 ≡ a + (m + b) = omega arith in
    let begins : s + a ≡ 2349 * first = omega arith in
    let front = stream_from port s a in
    let some = stream_from port (2349 * first) m in
    let behind = stream_from port (2349 * first + m) b in
    let all : stream_from port s (2349 * 78) ≡ front ++ (some ++ behind) =
    ap (stream_from port s) whole ∙ stream_from-append port s a (m + b)
    ∙ ap (λ l. front ++ l) (ap (λ p. stream_from port p (m + b)) begins ∙ stream_from-append port (2349 * first) m b) in
    follows last chunk (stream_from port s (2349 * 78))
    (subst (Stands last chunk) (sym all) (stands_around last chunk front some behind stands))

-- a chunk of the stream follows the one before it
pub next_follows : (port : Customer) (round number : ℕ) (chunk : List ℕ) → round - 71 ≤ number → number + 2 ≤ round - 71 + 78
    → chunk ≡ chunk_of port (number + 1)
    → (is_part chunk (near port round) ≡ true) × (jumps (near port round) (Chunk (chunk_of port number)) chunk ≡ false)
next_follows port round number chunk after before e =
    let last = chunk_of port number in
    let others = stream_from port (2349 * number) (2349 * (number + 2 - number)) in
    let next : 2349 * (number + 1) ≡ 2349 * number + 2349 = omega arith in
    let count : 2349 + 2349 ≡ 2349 * (number + 2 - number) = omega arith in
    let both : last ++ chunk ≡ others =
    ap (λ l. last ++ l) (e ∙ ap (λ p. stream_from port p 2349) next) ∙ sym (stream_from-append port (2349 * number) 2349 2349)
    ∙ ap (stream_from port (2349 * number)) count in
    follows_near port round number (number + 2) (Chunk last) chunk after (omega arith) before (0, occurs_whole (last ++ chunk) others both)

-- a chunk of the stream after AIS
pub later_follows : (port : Customer) (round number : ℕ) (chunk : List ℕ) → round - 71 ≤ number → number + 1 ≤ round - 71 + 78
    → chunk ≡ chunk_of port number
    → (is_part chunk (near port round) ≡ true) × (jumps (near port round) Ais chunk ≡ false)
later_follows port round number chunk after before e =
    let others = stream_from port (2349 * number) (2349 * (number + 1 - number)) in
    let count : 2349 ≡ 2349 * (number + 1 - number) = omega arith in
    follows_near port round number (number + 1) Ais chunk after (omega arith) before
    (0, occurs_whole chunk others (e ∙ ap (stream_from port (2349 * number)) count))

-- the bytes that are near are chunks of the stream
pub near_stream : (port : Customer) (round first : ℕ) → first ≡ round - 71 → near port round ≡ stream_from port (2349 * first) (2349 * 78)
near_stream port round first begins = sym (near_is port round first (stream_from port (2349 * first) (2349 * 78)) begins refl)

-- a chunk among the near bytes
pub part_of : (port : Customer) (first number : ℕ) → first ≤ number → number - first < 78
    → take 2349 (drop (2349 * (number - first)) (stream_from port (2349 * first) (2349 * 78))) ≡ chunk_of port number
part_of port first number after before =
    let s = 2349 * first in
    let a = 2349 * (number - first) in
    let b = 2349 * 78 - (a + 2349) in
    let whole : 2349 * 78 ≡ a + (2349 + b) = omega arith in
    let begins : s + a ≡ 2349 * number = omega arith in
    let mine = stream_from port (s + a) 2349 in
    let rest = stream_from port (s + a + 2349) b in
    ap (λ n. take 2349 (drop a (stream_from port s n))) whole ∙ ap (take 2349) (drop-stream port s a (2349 + b) ∙ stream_from-append port (s + a) 2349 b)
    ∙ ap (λ n. take n (mine ++ rest)) (sym (length-stream_from port (s + a) 2349)) ∙ take-append_seam mine rest
    ∙ ap (λ p. stream_from port p 2349) begins

-- what holds where a call that can fail didn't
pub when_ok : {T E X : Type 0} (r : Result T E) (u : T) (a b : X) → r ≡ Ok u → (if is_ok r then a else b) ≡ a
when_ok {T} {E} r u a b e = ap (λ (x : Result T E). if is_ok x then a else b) e
