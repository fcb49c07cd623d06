use Rattle.std.proofs.Common.{◌+◌, ◌∙◌, drop, sym, ap, arith}
use Rattle.std.specs.Prelude.{String, string_bytes}
use Rattle.std.specs.Option.{option_and_then}
use Rattle.std.specs.declared.alloc.Global.{Global}
use Rattle.std.proofs.lemmas.List.{at_drop_more, at_drop_all}
use Rattle.sdh_shell.specs.Calls.{words_of}
use Rattle.sdh_whatif_cli.specs.Words.{read_word, read_words}
use Rattle.sdh_whatif_cli.proofs.ask.read_words.Goals as goal

pub returns-in-None-clause-is : goal.returns-in-None-clause-is
returns-in-None-clause-is c =
    let words = c.args.words.now in
    let i = c.loop-word.word-index in
    let so_far = c.loop-word.so_far in
    let rest = words_of (drop (i + 1) words) in
    ap (option_and_then (λ next. read_words next rest)) (c.in-None.ensures.is ∙ ap (read_word so_far) c.deref.ensures
    ∙ ap (λ (w : String Global). read_word so_far (string_bytes w)) c.word-item.is)
    ∙ sym (at_drop_more (λ l. read_words so_far (words_of l)) words i _ c.loop-word-test.true) ∙ c.loop-word.invariant.rest

pub loop-word-preserved : goal.loop-word-preserved
loop-word-preserved c =
    let words = c.args.words.now in
    let i = c.loop-word.word-index in
    let so_far = c.loop-word.so_far in
    let rest = words_of (drop (i + 1) words) in
    record {
      rest = ap (option_and_then (λ next. read_words next rest)) (c.in-Some.ensures.is ∙ ap (read_word so_far) c.deref.ensures
          ∙ ap (λ (w : String Global). read_word so_far (string_bytes w)) c.word-item.is)
          ∙ sym (at_drop_more (λ l. read_words so_far (words_of l)) words i _ c.loop-word-test.true) ∙ c.loop-word.invariant.rest;
      part = c.in-Some.ensures.part;
    }

pub returns-clause-is : goal.returns-clause-is
returns-clause-is c =
    let words = c.args.words.now in
    let so_far = c.loop-word.so_far in
    sym (at_drop_all (λ l. read_words so_far (words_of l)) words c.loop-word.word-index (omega (arith, c.loop-word-test.false)))
    ∙ c.loop-word.invariant.rest
