-- A side that fails asks for a switch, so its span is applied.
use Rattle.std.proofs.Common.{◌≡◌, ℕ, ◌<◌, ◌≤◌, Bool, true, length, map, get_or, sym, ◌∙◌, subst, arith}
use Rattle.std.proofs.lemmas.List.{length-map}
use Rattle.sdh_ringmap.specs.declared.terms.Code.{Code}
use Rattle.sdh_ringmap.specs.Requests.{code_number}
use Rattle.sdh_ringmap.specs.Places.{span_at}
use Rattle.sdh_ringmap.specs.declared.Side.{Side}
use Rattle.sdh_request.specs.declared.Defect.{Defect}
use Rattle.sdh_request.specs.declared.Defect.TheVariants as defect
use Rattle.sdh_request.specs.declared.Command.{Command}
use Rattle.sdh_request.specs.declared.Command.TheVariants as command
use Rattle.sdh_request.specs.Requests.{waits}
use Rattle.sdh_request.specs.Requests.{highest_code}
use Rattle.sdh_restoration.specs.Applied.{is_applied}
use Rattle.sdh_restoration.proofs.Asked.{length-requests, asked_is_applied}
use Rattle.sdh_request.specs.Kept as local
use Rattle.sdh_request.specs.Kept.{kept_request}
use Rattle.sdh_signal.specs.Signals.{request_on, no_needs}
use Rattle.sdh_node.specs.Crossing.{is_failed}
use Rattle.sdh_node.specs.Node.{receiving_on, needed}
use Rattle.sdh_node.specs.Rings.Rounds.{World, round}
use Rattle.sdh_laws.specs.Hearing.Signalling.{needs_in}
use Rattle.sdh_laws.specs.Hearing.Laws.{IsWhole}
use Rattle.sdh_laws.proofs.hearing.Nodes.{count, length-after}
use Rattle.sdh_laws.proofs.hearing.Signalling.{needs_at, request_is}
use Rattle.sdh_laws.specs.Carrying.Windows.{span_requests_of}
use Rattle.sdh_laws.specs.Carrying.Laws.{FailuresAreApplied}
use Rattle.sdh_node.specs.Rings.Held.{node_at}

-- ---- the request of a side that fails

failed_asks : (c : Command) (d : Defect) (w : Bool) → is_failed d ≡ true → 11 ≤ code_number (highest_code c d w)
failed_asks c defect.None w e = absurd (cc)
failed_asks c defect.Sd w e = absurd (cc)
failed_asks command.Forced defect.Sf w e = omega arith
failed_asks command.Clear defect.Sf w e = omega arith
failed_asks command.Manual defect.Sf w e = omega arith

side_asks : (k : local.LocalKept) → is_failed k.defect ≡ true → 11 ≤ code_number (kept_request k)
side_asks k e = failed_asks k.command k.defect (waits k.wait k.defect k.moment k.ended) e

pub node_asks : (w : World) (whole : IsWhole w) (p : ℕ) (d : Side) → p < length w.ring.nodes
    → is_failed (receiving_on d (node_at (round w).ring.nodes p)).local.defect ≡ true
    → 11 ≤ code_number (receiving_on d (node_at (round w).ring.nodes p)).request
node_asks w whole p d lt e =
    let r = receiving_on d (node_at (round w).ring.nodes p) in
    subst (λ c. 11 ≤ code_number c) (sym (request_is w whole p d (omega (arith, length-after w)))) (side_asks r.local e)

-- ---- its span

-- the request of a node's side, among those of needs
asked_here : (v : World) (n p : ℕ) (d : Side) → length v.ring.nodes ≡ n → p < n
    → 11 ≤ code_number (receiving_on d (node_at v.ring.nodes p)).request → is_applied (span_requests_of v) (span_at n p d) ≡ true
unfolding needs_in
asked_here v n p d size lt asks =
    let many : length (map needed v.ring.nodes) ≡ n = length-map v.ring.nodes needed ∙ size in
    let low : p < length v.ring.nodes = omega arith in
    let local : ℕ → Side → Code = λ p d. request_on (get_or (map needed v.ring.nodes) p no_needs) d in
    subst (λ m. is_applied (span_requests_of v) (span_at m p d) ≡ true) many
    (asked_is_applied (length (map needed v.ring.nodes)) local p d (omega arith)
    (subst (λ c. 11 ≤ code_number c) (sym (needs_at v.ring.nodes p d low)) asks))

pub length-requests_of : (v : World) (n : ℕ) → length v.ring.nodes ≡ n → length (span_requests_of v) ≡ n
unfolding needs_in
length-requests_of v n size = length-requests (length (map needed v.ring.nodes)) _ ∙ length-map v.ring.nodes needed ∙ size

pub failures_applied : FailuresAreApplied
failures_applied w whole p d lt e =
    let inside : p < length w.ring.nodes = omega (arith, count w whole.placed) in
    asked_here (round w) (length w.ring.ids) p d (length-after w ∙ count w whole.placed) lt (node_asks w whole p d inside e)
