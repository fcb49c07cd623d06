-- The list of the spans' requests, read by the sides of positions: it is written by spans, and the proofs go by sides.
use Rattle.std.proofs.Common.{◌≡◌, ℕ, ◌<◌, max, length, ap, arith}
use Rattle.std.specs.Prelude.{slice_index}
use Rattle.sdh_basics.proofs.CellsLaws.{length-cells, get_or-cells}
use Rattle.sdh_ringmap.specs.Requests.{code_number}
use Rattle.sdh_ringmap.specs.Places.{neighbour, span_at}
use Rattle.sdh_ringmap.specs.declared.Side.{Side}
use Rattle.sdh_ringmap.specs.declared.Side.TheVariants.{West, East}
use Rattle.sdh_restoration.specs.Applied.{span_requests}
use Rattle.sdh_signal.specs.Signals.{request_on}
use Rattle.sdh_signal.proofs.Terms.{terms}
use Rattle.sdh_signal.specs.Runs.{Run, IsRun, run_requests}
use Rattle.sdh_ringmap.proofs.Sides.{neighbour_back, neighbour_below}

module _ (run : Run) (R : IsRun run) where
  open terms run use {n, request}

  pub size : length (run_requests run) ≡ length run.ids
  unfolding span_requests
  size =
      length-cells (λ s. max (code_number (request_on (run.need s) East))
      (code_number (request_on (run.need (neighbour n s East)) West))) n

  -- the span on side d of p has the larger of the requests of its two ends
  pub spans : (p : ℕ) (d : Side) → p < length run.ids → slice_index (run_requests run) (span_at (length run.ids) p d) ≡ request p d
  unfolding span_requests
  spans p East h =
      get_or-cells (λ s. max (code_number (request_on (run.need s) East))
      (code_number (request_on (run.need (neighbour n s East)) West))) n p 0 h
  spans p West h =
      let q = neighbour n p West in
      let e = ap (λ i. code_number (request_on (run.need i) West)) (neighbour_back n p West h) in
      let is =
      get_or-cells (λ s. max (code_number (request_on (run.need s) East))
      (code_number (request_on (run.need (neighbour n s East)) West))) n q 0
      (neighbour_below n p West (omega arith)) in
      omega arith
