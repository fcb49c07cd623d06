use Rattle.std.proofs.Common.{◌≤◌, All, length, map, drop}
use Rattle.sdh_shell.specs.Calls.{words_of}
use Rattle.sdh_verdicts.specs.Failures.{IsFailureIn}
use Rattle.sdh_whatif_cli.specs.Words.{texts_behind, own_texts}
use Rattle.sdh_whatif_cli.proofs.Naming.{OwnSoFar}
use Rattle.sdh_whatif_cli.proofs.own.own_failures.Given as goal

abbrev pub invariant-loop-word : goal.invariant-loop-word
invariant-loop-word l = record {
  made : OwnSoFar l.map (own_texts (words_of l.fn.words)) (texts_behind l.behind (words_of (drop l.word-index l.fn.words)))
      (map (λ list. list.items) l.lists.items);
  few : length l.lists.items ≤ 16;
  short : All (λ list. length list.items ≤ 16) l.lists.items;
  within : All (λ list. All (IsFailureIn (length l.map)) list.items) l.lists.items;
}
