use Rattle.std.proofs.Common.{◌≡◌, ◌-◌, ◌*◌, drop, length, sym, ap, ◌∙◌, arith}
use Rattle.std.proofs.lemmas.Bool.Decides.{Decides-eqb}
use Rattle.std.proofs.lemmas.Slice.{between_to_end}
use Rattle.std.proofs.lemmas.Slice.Eq.{slice_eq-Decides}
use Rattle.sdh_payload.specs.Stream.{stream_from, chunk_of}
use Rattle.sdh_outage.specs.Kept.{Reached}
use Rattle.sdh_outage.proofs.Windows.{reach_dropped}
use Rattle.sdh_outage.proofs.reach.Reach.ends_with.Goals as goal

pub returns : goal.returns
returns c = λ found.
    let inside = c.self.inside in
    let port = inside.feed.port in
    let first = inside.first in
    let made = inside.made in
    let bytes = inside.bytes.items in
    let all = c.deref.result.now in
    let is_first : first ≡ c.args.self.now.first = ap (λ (r : Reached). r.first) c.self.view_is in
    let is_made : made ≡ c.args.self.now.made = ap (λ (r : Reached). r.made) c.self.view_is in
    let at : c.len.result - 2349 ≡ 2349 * (made - 1 - first) =
    omega (arith, c.len.ensures, c.self.invariant.1, c.requires, is_first, is_made) in
    let count : 2349 * (made - (made - 1)) ≡ 2349 = omega (arith, c.requires, is_first, is_made) in
    let rest = reach_dropped inside.feed first (made - 1) made bytes (omega (arith, c.requires, is_first, is_made)) (omega arith) c.self.invariant.0 in
    sym ((slice_eq-Decides Decides-eqb _ c.args.chunk.now c.eq.result c.eq.ensures).0 found)
    ∙ between_to_end all (c.len.result - 2349) (length all) (omega arith)
    ∙ (λ i. drop (at i) (c.deref.ensures.value i)) ∙ rest.bytes_are ∙ ap (stream_from port (2349 * (made - 1))) count
    ∙ ap (λ (r : Reached). chunk_of r.port (r.made - 1)) c.self.view_is
