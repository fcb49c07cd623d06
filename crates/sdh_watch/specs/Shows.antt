-- What is reported of the watches on a ring's ports.
use Rattle.std.specs.Prelude.{ℕ, Option, Some, None, List}
use Rattle.sdh_circuits.specs.declared.End.{End}
use Rattle.sdh_payload.specs.declared.delivered.Delivered.{Delivered}
use Rattle.sdh_payload.specs.declared.delivered.Delivered.TheVariants.{Ais, Chunk}
use Rattle.sdh_path.specs.declared.watch.PathReport.{PathReport}

-- what a watch with this report shows, by what its port delivered last: nothing where that is AIS
abbrev pub shown : Delivered → PathReport → Option PathReport
shown Ais r = None
shown (Chunk bytes) r = Some r

-- the watch on the port at an end of the circuit of this name
pub record WatchLine : Type 0 where
  pub name : List ℕ
  pub end : End
  pub shows : Option PathReport

-- the settle step, counted from 1; its last round; and each watch, in the order of the circuits, a before b
pub record Watched : Type 0 where
  pub number : ℕ
  pub round : ℕ
  pub watches : List WatchLine
