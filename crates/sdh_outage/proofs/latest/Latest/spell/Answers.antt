use Rattle.std.proofs.Common.{◌≡◌, ◌-◌, ◌*◌, length, take, drop, sym, ap, ◌∙◌, arith}
use Rattle.sdh_payload.specs.declared.delivered.Delivered.TheVariants.{Chunk}
use Rattle.sdh_payload.specs.Stream.{chunk_of}
use Rattle.sdh_payload.proofs.Chunks.{length-stream_from}
use Rattle.sdh_outage.specs.Latest.{latest_of, came}
use Rattle.sdh_outage.proofs.Windows.{part_of}
use Rattle.sdh_outage.proofs.latest.Latest.spell.Goals as goal

pub part-requires : goal.part-requires
part-requires c =
    omega (arith, ap length c.requires, length-stream_from c.args.port.now (2349 * c.args.first) (2349 * 78), c.if-number-first-lt-CHUNKS.true)

pub returns-then-are_same-clause-plain : goal.returns-then-are_same-clause-plain
returns-then-are_same-clause-plain c =
    let last = c.args.self.now in
    let port = c.args.port.now in
    let at = 2349 * (last.number - c.args.first) in
    let known : came last ≡ Chunk (chunk_of c.in-Some.own last.number) = ap (λ p. latest_of p last.number last.plain) c.in-Some.is in
    let same = c.are_same.ensures c.if-are_same.true in
    let bytes = c.part.ensures.bytes ∙ ap (λ l. take 2349 (drop at l)) c.requires
    ∙ part_of port c.args.first last.number c.if-first-number.true c.if-number-first-lt-CHUNKS.true in
    c.put_chunk.ensures ∙ ap Chunk bytes ∙ ap (λ p. Chunk (chunk_of p last.number)) (sym same) ∙ sym known
