-- Where the payload of a sent AU-4 comes from.
use Rattle.std.specs.Prelude.{ℕ, List}
use Rattle.sdh_ringmap.specs.Rates.{n_of}
use Rattle.sdh_interchange.specs.declared.choose.Source.{Source}
use Rattle.sdh_frame.specs.Aus.{with_aus}
use Rattle.sdh_interchange.specs.Assembled.{payload_from, assembled}
use Rattle.sdh_ringmap.specs.declared.Side.{Side}
use Rattle.sdh_ringmap.specs.declared.Side.TheVariants.{West, East}
use Rattle.sdh_terminal.specs.Lines.{Lines}

-- The payload that a source stands for. The first frame is the one from the west, the second the one from the east, and
-- the own payloads are those of ports.
abbrev pub payload_by : Lines → List (List ℕ) → Source → List ℕ
payload_by l own source = payload_from (n_of l.rate) l.west.intake.frame.bytes l.east.intake.frame.bytes own source

-- the bytes from the west or those from the east, by the side
abbrev pub bytes_on : Side → List ℕ → List ℕ → List ℕ
bytes_on West west east = west
bytes_on East west east = east

-- a frame's bytes with all AU-4s from these sources, with these pointer bytes
abbrev pub put_together : ℕ → List ℕ → List ℕ → List (List ℕ) → List Source → List (List ℕ) → List ℕ → List ℕ
put_together n first second own sources pointers bytes = with_aus n 1 (assembled n first second own sources pointers) bytes
