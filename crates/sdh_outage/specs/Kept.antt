-- What a listener holds.
use Rattle.std.specs.Prelude.{◌≡◌, ℕ, ◌+◌, ◌-◌, ◌*◌, ◌≤◌, Bool, if◌then◌else◌, List, ◌++◌, length}
use Rattle.memchr.specs.Find.{OccursAt}
use Rattle.sdh_payload.specs.declared.delivered.Delivered.{Delivered}
use Rattle.sdh_payload.specs.declared.delivered.Delivered.TheVariants.{Ais, Chunk}
use Rattle.sdh_payload.specs.Customer.{Customer}
use Rattle.sdh_payload.specs.Clock.{waiting}
use Rattle.sdh_payload.specs.Feed.{Fed}
use Rattle.sdh_payload.specs.Stream.{stream_from}
use Rattle.sdh_outage.specs.declared.outage.Outage.{Outage}
use Rattle.sdh_outage.specs.declared.outage.Runs.{Runs}
use Rattle.sdh_outage.specs.declared.summary.Summary.{Summary}
use Rattle.sdh_outage.specs.Kinds.{Whose, last_heard, kinds_of}
use Rattle.sdh_outage.specs.Outages.{outage_of}
use Rattle.sdh_outage.specs.Changes.{Traced, traced}

-- ---- the bytes that are near

-- the port whose bytes they are, and the round
pub record Nearby : Type 0 where
  pub port : Customer
  pub round : ℕ

-- ---- chunks of a stream, one after the other

-- the port, the first chunk that is kept, the chunk after the last that was made, and for how many there is room
pub record Reached : Type 0 where
  pub port : Customer
  pub first : ℕ
  pub made : ℕ
  pub most : ℕ

-- what is true of such chunks: the feed stands at the chunk after the last one
pub record IsReach (feed : Fed) (first made : ℕ) (bytes : List ℕ) : Type 0 where
  pub still : waiting feed.clock ≡ 0
  pub rounds_are : feed.clock.rounds ≡ made
  pub sent_is : feed.clock.sent ≡ 2349 * made
  pub order : first ≤ made
  pub bytes_are : bytes ≡ stream_from feed.port (2349 * first) (2349 * (made - first))

-- ---- what was delivered last

-- a chunk of these bytes, or AIS
abbrev pub delivered : Bool → List ℕ → Delivered
delivered is_chunk bytes = if is_chunk then Chunk bytes else Ais

-- a chunk stands in these bytes of a stream, after the last one where that was a chunk
abbrev pub Stands : Delivered → List ℕ → List ℕ → Type 0
Stands Ais chunk others = (k : ℕ) × OccursAt others chunk k
Stands (Chunk last) chunk others = (k : ℕ) × OccursAt others (last ++ chunk) k

-- ---- a listener

pub record Heard : Type 0 where
  -- how many rounds went by, which is the number of the next one
  pub round : ℕ
  -- what was delivered in the last of them
  pub last : Delivered
  -- what was counted since the settle step began
  pub outage : Outage
  -- the changes since the settle step began
  pub trace : Traced

-- what a listener holds, by the far customer, whose other bytes came, the number of the settle step's first round, what
-- came before that round, and what came in the step's rounds, the latest first
abbrev pub heard : Customer → Whose → ℕ → Delivered → List Delivered → Heard
heard port whose first before past = record {
  round = first + length past;
  last = last_heard before past;
  outage = outage_of first (kinds_of port whose first before past);
  trace = traced first (kinds_of port whose first before past);
}

-- the number of all rounds that are counted
abbrev pub are_few : Outage → ℕ
are_few o = o.ais + o.ones + o.jump + o.torn + o.strange + o.foreign

-- runs have no more rounds than there were
pub record AreRunsFew (r : Runs) (rounds : ℕ) : Type 0 where
  pub count : r.count ≤ rounds
  pub longest : r.longest ≤ rounds
  pub going : r.going ≤ rounds

-- an outage has no more than one count a round
abbrev pub AreFew : Outage → ℕ → Type 0
AreFew o rounds = (are_few o ≤ rounds) × AreRunsFew o.runs rounds

-- ---- a summary

-- how often a port was counted
abbrev pub ports_in : Summary → ℕ
ports_in s = s.over + s.none + s.still + s.foreign
