use Rattle.std.proofs.Common.{◌≡◌, drop}
use Rattle.sdh_shell.specs.Calls.{words_of}
use Rattle.sdh_whatif_cli.specs.Words.{read_words, IsPart}
use Rattle.sdh_whatif_cli.proofs.ask.read_words.Given as goal

abbrev pub invariant-loop-word : goal.invariant-loop-word
invariant-loop-word l = record {
  rest : read_words l.so_far (words_of (drop l.word-index l.fn.words)) ≡ read_words l.fn.start (words_of l.fn.words);
  part : IsPart l.so_far.ask;
}
