use Rattle.std.proofs.Common.{◌≡◌, ◌+◌, length, take, refl, sym, ap, ◌∙◌, subst, arith, rules}
use Rattle.std.proofs.Math.Seq.{take-length}
use Rattle.std.proofs.lemmas.Slice.Eq.{bytes_eq-Decides}
use Rattle.sdh_payload.specs.Walk.{Walked, containers_from}
use Rattle.sdh_payload.proofs.Containers.{containers_from-zero}
use Rattle.sdh_payload.proofs.Comparing.{compared, within_rest, piece_more, differs}
use Rattle.sdh_payload.proofs.walk.Walk.is_next.Goals as goal

pub loop-done-init : goal.loop-done-init
loop-done-init c = record { within = search rules; port = refl; at = search rules; same = sym (containers_from-zero _ _) }

pub pass-requires-clause-few : goal.pass-requires-clause-few
pass-requires-clause-few c =
    let at : c.compare_some-count.new.self.at ≡ c.loop-done.self.at + c.compare_some-count.result.0 =
    ap (λ (w : Walked). w.at) c.compare_some-count.ensures.next in
    let within = within_rest c.loop-done.done _ c.args.bytes.now c.compare_some-count.ensures.within in
    omega (arith, at, within, c.loop-done.invariant.at, c.requires.few, c.requires.room)

pub returns-then-not-same-clause-answer : goal.returns-then-not-same-clause-answer
returns-then-not-same-clause-answer c =
    let within = within_rest c.loop-done.done _ c.args.bytes.now c.compare_some-count.ensures.within in
    let piece = compared _ _ _ _ _ _ c.args.bytes.now _ c.loop-done.invariant.port c.loop-done.invariant.at c.compare_some-count.ensures.same in
    differs c.args.self.now.port c.args.self.now.at c.loop-done.done c.compare_some-count.result.0 c.args.bytes.now
    (omega (arith, within, c.loop-done.invariant.within)) (sym piece ∙ c.if-not-same.true)

pub loop-done-preserved : goal.loop-done-preserved
loop-done-preserved c =
    let at : c.compare_some-count.new.self.at ≡ c.loop-done.self.at + c.compare_some-count.result.0 =
    ap (λ (w : Walked). w.at) c.compare_some-count.ensures.next in
    let within = within_rest c.loop-done.done _ c.args.bytes.now c.compare_some-count.ensures.within in
    let piece = compared _ _ _ _ _ _ c.args.bytes.now _ c.loop-done.invariant.port c.loop-done.invariant.at c.compare_some-count.ensures.same in
    record {
      within = omega (arith, within, c.loop-done.invariant.within);
      port = ap (λ (w : Walked). w.port) c.compare_some-count.ensures.next ∙ c.loop-done.invariant.port;
      at = omega (arith, at, c.loop-done.invariant.at);
      same =
          piece_more c.args.self.now.port c.args.self.now.at c.loop-done.done c.compare_some-count.result.0 c.args.bytes.now
          c.loop-done.invariant.same ((bytes_eq-Decides _ _).0 (sym piece ∙ c.if-not-same.false));
    }

pub returns-clause-answer : goal.returns-clause-answer
returns-clause-answer c =
    let all : c.loop-done.done ≡ length c.args.bytes.now = omega (arith, c.loop-done-test.false, c.loop-done.invariant.within) in
    sym ((bytes_eq-Decides c.args.bytes.now (containers_from c.args.self.now.port c.args.self.now.at (length c.args.bytes.now))).1
    (sym (take-length c.args.bytes.now)
    ∙ subst (λ d. take d c.args.bytes.now ≡ containers_from c.args.self.now.port c.args.self.now.at d) all c.loop-done.invariant.same))
