use Rattle.std.proofs.Common.{◌∙◌, [], List, Vec, sym, ap, arith, length}
use Rattle.std.specs.Prelude.{slice_index_or}
use Rattle.std.specs.declared.alloc.Global.{Global}
use Rattle.std.proofs.lemmas.List.{get_or-map, get_or_past, length-map}
use Rattle.sdh_verdicts.specs.declared.failure.Failure.{Failure}
use Rattle.sdh_whatif_cli.proofs.own.OwnFailures.list.Goals as goal

pub returns-then-number-len : goal.returns-then-number-len
returns-then-number-len c =
    let items = λ (list : Vec Failure Global). list.items in
    let lists = c.self.inside.lists in
    c.deref.ensures.value ∙ ap items c.index.ensures
    ∙ sym (get_or-map items lists.items c.args.number c.index.result.now []
    (omega (arith, lists.ok.0, c.len.ensures, c.if-number-len.true)))
    ∙ ap (λ (ls : List (List Failure)). slice_index_or ls c.args.number []) c.self.view_is

pub returns-else-number-len : goal.returns-else-number-len
returns-else-number-len c =
    let items = λ (list : Vec Failure Global). list.items in
    let lists = c.self.inside.lists in
    sym (get_or_past c.args.self.now c.args.number [] (omega (
      arith,
      lists.ok.0,
      length-map lists.items items,
      ap (λ (ls : List (List Failure)). length ls) c.self.view_is,
      c.len.ensures,
      c.if-number-len.false,
    )))
