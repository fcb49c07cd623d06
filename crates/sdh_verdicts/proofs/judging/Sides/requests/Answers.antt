use Rattle.std.proofs.Common.{◌≡◌, ◌≤◌, ◌∙◌, ℕ, List, ap, sym, length, map, take, arith}
use Rattle.std.specs.Prelude.{slice_index}
use Rattle.std.proofs.lemmas.List.{length-set}
use Rattle.sdh_ringmap.specs.declared.terms.Code.{Code}
use Rattle.sdh_ringmap.specs.declared.terms.Code.TheVariants.{Nr}
use Rattle.sdh_ringmap.specs.Requests.{code_number}
use Rattle.sdh_ringmap.specs.declared.Side.TheVariants.{West}
use Rattle.sdh_restoration.specs.declared.applied.LocalRequests.{LocalRequests}
use Rattle.sdh_restoration.specs.Locals.{no_requests, requests_of}
use Rattle.sdh_verdicts.specs.Verdicts.{asked_at, asks_with}
use Rattle.sdh_verdicts.proofs.Asking.{set_next, requests_are, codes_are}
use Rattle.sdh_verdicts.proofs.judging.Sides.requests.Goals as goal

pub loop-p-preserved : goal.loop-p-preserved
loop-p-preserved c =
    let p = c.loop-p.p in
    let west = c.request.result in
    let east = c.request-in-loop-p.result in
    let both : Code → Code → LocalRequests = λ w e. record { west = w; east = e } in
    let case = c.args.case.now in
    record {
      long = length-set c.loop-p.local p (both west east) ∙ c.loop-p.invariant.long;
      each = λ plan are. set_next (λ (x : LocalRequests). x) (asked_at plan case) c.loop-p.local p (both west east) no_requests
          (omega (arith, c.loop-p-test.true, c.len-n.ensures.len, c.len-n.ensures.few, c.loop-p.invariant.long))
          (c.loop-p.invariant.each plan are)
          (ap (λ w. both w east) (c.request.ensures plan are)
          ∙ ap (both (asks_with plan case p West)) (c.request-in-loop-p.ensures plan are));
    }

pub loop-s-preserved : goal.loop-s-preserved
loop-s-preserved c = record {
  long = length-set c.loop-s.requests c.loop-s.s c.span_request.result ∙ c.loop-s.invariant.long;
  each =
      set_next code_number
      (slice_index (requests_of (take c.len-n.result c.loop-p.local))) c.loop-s.requests c.loop-s.s c.span_request.result Nr
      (omega (
        arith,
        c.loop-s-test.true,
        c.len-n.ensures.len,
        c.len-n.ensures.few,
        c.loop-s.invariant.long,
      )) c.loop-s.invariant.each c.span_request.ensures;
}

pub returns-clause-are : goal.returns-clause-are
returns-clause-are c = λ plan are. (
    let n = c.len-n.result in
    let case = c.args.case.now in
    let codes = c.loop-s.requests in
    let local = c.loop-p.local in
    let same : n ≡ length plan.nodes = c.len-n.ensures.len ∙ ap (λ (l : List ℕ). length l) are.nodes in
    let few : n ≤ length codes = omega (arith, c.len-n.ensures.len, c.len-n.ensures.few, c.loop-s.invariant.long) in
    let within : n ≤ length local = omega (arith, c.len-n.ensures.len, c.len-n.ensures.few, c.loop-p.invariant.long) in
    let codes_told = codes_are n codes local few within (λ k low. c.loop-s.invariant.each k (omega (arith, low, c.loop-s-test.false))) in
    let told =
    requests_are plan case n local same within (λ q low. c.loop-p.invariant.each plan are q
    (omega (arith, low, c.loop-p-test.false))) in
    ap (λ m. map code_number (take m codes)) (sym same) ∙ codes_told ∙ told)
