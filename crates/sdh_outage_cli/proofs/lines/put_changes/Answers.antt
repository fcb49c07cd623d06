use Rattle.std.proofs.Common.{◌≤◌, ◌++◌, ◌∷◌, [], take, get_or, length, ap, sym, ◌∙◌, arith, append_assoc, append-nil}
use Rattle.std.specs.List.{flat_map}
use Rattle.std.proofs.lemmas.Grind.{flat_map-append}
use Rattle.std.proofs.lemmas.List.{take_all, take_more}
use Rattle.sdh_outage.specs.declared.change.Change.{Change}
use Rattle.sdh_outage.specs.declared.kind.Kind.TheVariants as kind
use Rattle.sdh_outage.specs.Lines.{change_line}
use Rattle.sdh_outage_cli.proofs.lines.put_changes.Goals as goal

pub loop-change-preserved : goal.loop-change-preserved
loop-change-preserved c =
    let xs = c.args.changes.now in
    let i = c.loop-change.change-index in
    let start = c.args.text.now.bytes in
    let none : Change = record { round = 0; kind = kind.Ais } in
    let one = get_or xs i none in
    let before = flat_map change_line (take i xs) in
    let next =
    ap (flat_map change_line) (take_more xs i none c.loop-change-test.true) ∙ flat_map-append change_line (take i xs) (one ∷ [])
    ∙ ap (λ l. before ++ l) (append-nil (change_line one)) in
    record {
      bytes =
          c.put_change.ensures.bytes ∙ ap (λ l. l ++ change_line one) c.loop-change.invariant.bytes
          ∙ append_assoc start before (change_line one) ∙ ap (λ l. start ++ l) (sym next);
      room = omega (arith, c.put_change.ensures.room, c.loop-change.invariant.room);
    }

pub returns-clause-bytes : goal.returns-clause-bytes
returns-clause-bytes c =
    let xs = c.args.changes.now in
    let end : length xs ≤ c.loop-change.change-index = omega (arith, c.loop-change-test.false) in
    c.loop-change.invariant.bytes ∙ ap (λ l. c.args.text.now.bytes ++ flat_map change_line l) (take_all c.loop-change.change-index xs end)
