use Rattle.std.proofs.Common.{◌≡◌, ◌==◌, Bool, true, ◌∷◌, length, ap, ap₂, sym, subst, ◌∙◌, arith}
use Rattle.std.specs.Prelude.{if◌then◌else◌}
use Rattle.std.proofs.lemmas.Bool.{eq-eqb}
use Rattle.sdh_payload.specs.declared.delivered.Delivered.TheVariants as delivered
use Rattle.sdh_path.specs.History.{Chunk, Ais}
use Rattle.sdh_path.specs.Kept.{CameBy}
use Rattle.sdh_watch.specs.Watching.{given_as, given_of}
use Rattle.sdh_watch.proofs.ports.look.Goals as goal

pub returns-then-bytes-eq2349-clause-history : goal.returns-then-bytes-eq2349-clause-history
returns-then-bytes-eq2349-clause-history c = λ trace past came. (
    let bytes = c.as_slice-bytes.result.now in
    let value = c.value.result in
    let long : (length bytes == 2349) ≡ true = eq-eqb (length bytes) 2349 (omega (arith, c.if-bytes-eq2349.true)) in
    let same : given_of c.args.ring.now c.args.port ≡ Chunk bytes value =
    ap₂ given_as (sym c.value.ensures.value) (sym c.port.ensures ∙ c.in-Chunk.is ∙ ap delivered.Chunk (sym c.as_slice-bytes.ensures.bytes))
    ∙ ap (λ (b : Bool). if b then Chunk bytes value else Ais) long in
    subst (λ g. CameBy trace (g ∷ past) c.chunk.new.self) (sym same) (c.chunk.ensures.history trace past came))
