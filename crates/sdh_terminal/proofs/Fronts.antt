-- The front of what a port delivers.
use Rattle.std.proofs.Common.{◌≡◌, ℕ, ◌≤◌, List, length, take, ap, arith}
use Rattle.sdh_basics.proofs.CellsLaws.{length-cells}
use Rattle.sdh_ringmap.specs.Rates.{n_of}
use Rattle.sdh_ringmap.specs.declared.Side.{Side}
use Rattle.sdh_frame.specs.Aus.{payload_of}
use Rattle.sdh_payload.specs.declared.delivered.Front.TheVariants as front
use Rattle.sdh_payload.specs.Outlet.{front_of}
use Rattle.sdh_payload.proofs.Splicing.{front_taken}
use Rattle.sdh_terminal.specs.Passing.{h3_of}
use Rattle.sdh_terminal.specs.Lines.{Lines, line_on, received}
use Rattle.sdh_terminal.specs.Outlets.{chunk_form, chunk_from}

long_enough : (n au : ℕ) (bytes : List ℕ) → 783 ≤ length (payload_of n au bytes)
unfolding payload_of
long_enough n au bytes = let long : length (payload_of n au bytes) ≡ 2349 = length-cells _ 2349 in omega (arith, long)

-- the front of an AU-4 that a side received, and that isn't AIS
pub front_received : (l : Lines) (side : Side) (au : ℕ) → front_of (chunk_from (received l side au))
    ≡ front.Bytes (take 16 (payload_of (n_of (line_on l side).intake.frame.rate) au (line_on l side).intake.frame.bytes))
    (received l side au).value
front_received l side au =
    let i = received l side au in
    let frame = (line_on l side).intake.frame in
    ap (λ bytes. front.Bytes bytes i.value)
    (front_taken (chunk_form i.action) i.au.payload (h3_of i.au.pointers) (long_enough (n_of frame.rate) au frame.bytes))
