use Rattle.std.proofs.Common.{◌≡◌, [], ◌∷◌, ◌++◌, length, ap, sym, subst, refl, ◌∙◌, arith}
use native.Mathlib.Nat.{le_refl}
use Rattle.std.specs.Io.KnownBytes.{Consumes}
use Rattle.std.proofs.KnownBytes.{Consumes-nil, Consumes-trans}
use Rattle.std.proofs.lemmas.List.{length-append}
use Rattle.sdh_outside.specs.Reading.{TakesNext}
use Rattle.sdh_report.specs.Written.{Written}
use Rattle.sdh_node_cli.specs.Streams.{EndsPlan, HasNoEnd}
use Rattle.sdh_node_cli.proofs.EndLine.{none_yet, none_more, clash, ended_by}
use Rattle.sdh_node_cli.proofs.head.read_head.Goals as goal

pub loop-source-init : goal.loop-source-init
loop-source-init g c =
    let none = sym c.requires in
    record {
      kept = omega (arith, ap length c.requires);
      none = subst HasNoEnd none none_yet;
      took = subst (Consumes (g.R.Source.left c.args.source.now) (g.R.Source.left c.args.source.now)) none (Consumes-nil _);
      stays = λ e. refl;
      later = le_refl _;
    }

pub loop-source-preserved : goal.loop-source-preserved
loop-source-preserved g c =
    let inv = c.loop-source.invariant in
    let before = c.loop-source.text.bytes in
    let byte = c.in-Some.byte in
    let left = g.R.Source.left in
    let put : c.put.new.self.bytes ≡ before ++ byte ∷ [] = ap (λ (w : Written). w.bytes) c.put.ensures in
    let next : Consumes (left c.loop-source.source) (left c.next_byte.new.source) (byte ∷ []) =
    subst (TakesNext (left c.loop-source.source) (left c.next_byte.new.source)) c.in-Some.is c.in_ok-byte.ensures.next in
    record {
      kept =
          omega (
            arith,
            inv.kept,
            c.room.ensures,
            c.loop-source-test.true,
            ap (λ (w : Written). w.room) c.put.ensures,
            ap length put,
            length-append before (byte ∷ []),
          );
      none =
          subst HasNoEnd (sym put) (none_more before byte inv.none (λ ends. clash c.ends_plan.result
          (c.ends_plan.ensures.1 (subst EndsPlan (sym put ∙ sym c.bytes.ensures) ends)) c.if-ends_plan.false));
      took = subst (Consumes (left c.args.source.now) (left c.next_byte.new.source)) (sym put) (Consumes-trans _ _ _ _ _ inv.took next);
      stays = λ e. c.in_ok-byte.ensures.cause.counted.none e (λ f. cc) ∙ inv.stays e;
      later = omega (arith, c.in_ok-byte.ensures.cause.later, inv.later);
    }

pub returns-then-ends_plan-clause-head : goal.returns-then-ends_plan-clause-head
returns-then-ends_plan-clause-head g c =
    let inv = c.loop-source.invariant in
    let before = c.loop-source.text.bytes in
    let byte = c.in-Some.byte in
    let left = g.R.Source.left in
    let put : c.put.new.self.bytes ≡ before ++ byte ∷ [] = ap (λ (w : Written). w.bytes) c.put.ensures in
    let next : Consumes (left c.loop-source.source) (left c.next_byte.new.source) (byte ∷ []) =
    subst (TakesNext (left c.loop-source.source) (left c.next_byte.new.source)) c.in-Some.is c.in_ok-byte.ensures.next in
    let ends : EndsPlan c.put.new.self.bytes = subst EndsPlan c.bytes.ensures (c.ends_plan.ensures.0 c.if-ends_plan.true) in
    let whole = ended_by before c.put.new.self.bytes byte put inv.none ends in (
      whole.0,
      whole.1,
      whole.2,
      subst (Consumes (left c.args.source.now) (left c.next_byte.new.source)) (sym put) (Consumes-trans _ _ _ _ _ inv.took next),
    )
