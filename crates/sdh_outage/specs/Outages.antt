-- The outage of a port in the rounds of a settle step, counted, and what is said of all ports.
use Rattle.std.specs.Prelude.{ℕ, ◌+◌, max, Bool, true, false, not, ◌&&◌, ◌==◌, nat_le, if◌then◌else◌, List, [], ◌∷◌, length, fold}
use Rattle.std.specs.Prelude.{Option, Some, None}
use Rattle.sdh_circuits.specs.declared.PortId.{PortId}
use Rattle.sdh_outage.specs.declared.kind.Kind.{Kind}
use Rattle.sdh_outage.specs.declared.kind.Kind.TheVariants as kind
use Rattle.sdh_outage.specs.declared.outage.Outage.{Outage}
use Rattle.sdh_outage.specs.declared.outage.Runs.{Runs}
use Rattle.sdh_outage.specs.declared.outage.Stretch.{Stretch}
use Rattle.sdh_outage.specs.declared.summary.Summary.{Summary}

-- ---- runs of rounds

-- a round of this kind brought none of the far customer's bytes
abbrev pub is_out : Kind → Bool
is_out kind.Ais = true
is_out kind.Ones = true
is_out kind.InOrder = false
is_out kind.Jump = false
is_out kind.Torn = false
is_out (kind.Foreign port) = true
is_out kind.Strange = true

-- runs before any round
abbrev pub no_runs : Runs
no_runs = record { count = 0; longest = 0; going = 0 }

-- runs after a round more: a round that is out goes on with the run that the round before ended with, or begins one;
-- any other round ends the run
abbrev pub with_run : Bool → Runs → Runs
with_run false r = record r { going = 0 }
with_run true r = record {
  count = r.count + (if r.going == 0 then 1 else 0);
  longest = max r.longest (r.going + 1);
  going = r.going + 1;
}

-- ---- rounds, counted

-- the outage before any round
abbrev pub no_outage : Outage
no_outage = record {
  ais = 0;
  ones = 0;
  jump = 0;
  torn = 0;
  strange = 0;
  foreign = 0;
  whose = None;
  runs = no_runs;
  stretch = None;
}

-- a stretch from the first round that wasn't in order to the last one, where this round is the last
abbrev pub up_to : ℕ → Option Stretch → Option Stretch
up_to round None = Some (record { from = round; to = round })
up_to round (Some s) = Some (record s { to = round })

-- the first port whose bytes came, once bytes of this port came too
abbrev pub first_port : Option PortId → PortId → Option PortId
first_port None port = Some port
first_port (Some first) port = Some first

-- an outage with a round more of this kind counted, whatever its number
abbrev pub with_kind : Kind → Outage → Outage
with_kind kind.InOrder o = o
with_kind kind.Ais o = record o { ais = o.ais + 1 }
with_kind kind.Ones o = record o { ones = o.ones + 1 }
with_kind kind.Jump o = record o { jump = o.jump + 1 }
with_kind kind.Torn o = record o { torn = o.torn + 1 }
with_kind (kind.Foreign port) o = record o { foreign = o.foreign + 1; whose = first_port o.whose port }
with_kind kind.Strange o = record o { strange = o.strange + 1 }

-- a stretch after a round of this number and kind; a round in order leaves it as it was
abbrev pub stretch_with : ℕ → Kind → Option Stretch → Option Stretch
stretch_with round kind.InOrder s = s
stretch_with round kind.Ais s = up_to round s
stretch_with round kind.Ones s = up_to round s
stretch_with round kind.Jump s = up_to round s
stretch_with round kind.Torn s = up_to round s
stretch_with round (kind.Foreign port) s = up_to round s
stretch_with round kind.Strange s = up_to round s

-- an outage after a round more, of this number and kind
abbrev pub with_round : ℕ → Kind → Outage → Outage
with_round round kind o =
    record (with_kind kind o) { runs = with_run (is_out kind) o.runs; stretch = stretch_with round kind o.stretch }

-- the outage of the rounds of these kinds from round `first` on, the latest first; runs are counted within these rounds
-- alone, whatever came before them and comes after them
abbrev pub outage_of : ℕ → List Kind → Outage
outage_of first [] = no_outage
outage_of first (kind ∷ earlier) = with_round (first + length earlier) kind (outage_of first earlier)

-- the number of rounds that brought none of the port's own customer's bytes
abbrev pub out : Outage → ℕ
out o = o.ais + o.ones + o.strange + o.foreign

-- ---- all ports

-- a summary that counts no port
abbrev pub no_ports : Summary
no_ports = record { longest = 0; over = 0; none = 0; still = 0; foreign = 0 }

-- the port had its own customer's bytes in the last round, or there was no round
abbrev pub is_back : Outage → Bool
is_back o = o.runs.going == 0

-- the port's longest run has more than 400 rounds, 50 ms (ITU-T G.841 allows as long for a switch)
abbrev pub is_over : Outage → Bool
is_over o = nat_le 401 o.runs.longest

-- The summary with one more port, which had this outage. Of the ports that came back it has the longest run, and how
-- many had one of more than 400 rounds; of all ports, how many were never out, are still out, and got bytes of another
-- circuit.
abbrev pub with_outage : Summary → Outage → Summary
with_outage s o = record {
  longest = if is_back o then max s.longest o.runs.longest else s.longest;
  over = s.over + (if is_back o && is_over o then 1 else 0);
  none = s.none + (if out o == 0 then 1 else 0);
  still = s.still + (if not (is_back o) then 1 else 0);
  foreign = s.foreign + (if not (o.foreign == 0) then 1 else 0);
}

-- the summary of ports that had these outages
abbrev pub summary_of : List Outage → Summary
summary_of outages = fold with_outage no_ports outages
