-- The stream that a port sends round by round, as contracts see it.
use Rattle.std.specs.Prelude.{◌≡◌, ℕ, ◌+◌}
use Rattle.sdh_payload.specs.Stream.{start_of}
use Rattle.sdh_payload.specs.Customer.{Customer}
use Rattle.sdh_payload.specs.Clock.{Clock, new_clock, ticked}

-- the port whose stream it is, and the clock by which the stream is sent
pub record Fed : Type 0 where
  pub port : Customer
  pub clock : Clock

-- a port's feed before round 0
abbrev pub new_feed : Customer → Fed
new_feed port = record { port = port; clock = new_clock port.offset }

-- a feed after the next round
abbrev pub next_feed : Fed → Fed
next_feed feed = record feed { clock = ticked feed.clock }

-- what is true of every feed whose walk along the VC-4s stands at byte `at`
pub record IsFeed (feed : Fed) (at : ℕ) : Type 0 where
  pub at_is : at ≡ feed.clock.sent + start_of feed.port.offset
