use Rattle.std.proofs.Common.{ap, sym, ◌∙◌}
use Rattle.std.specs.Prelude.{[], ◌∷◌, ◌++◌}
use Rattle.sdh_basics.proofs.CellsLaws.{cells-zero, cells-more}
use Rattle.sdh_nodestate.specs.Words.{first_word, first_words}
use Rattle.sdh_ringmap.specs.declared.Side.TheVariants.{West}
use Rattle.sdh_signal.proofs.first_words.Goals as goal

pub loop-i-init : goal.loop-i-init
loop-i-init c = c.in_ok-words.ensures.items ∙ sym (cells-zero (first_words c.args.map.now))

pub loop-i-preserved : goal.loop-i-preserved
loop-i-preserved c =
    let map = c.args.map.now in
    let i = c.loop-i.i in
    let done = c.loop-i.words.items in
    c.in_ok-push.ensures.items
    ∙ ap (λ w. done ++ record { west = w; east = c.first_word-in-loop-i.result } ∷ []) c.first_word.ensures.word
    ∙ ap (λ e. done ++ record { west = first_word map i West; east = e } ∷ []) c.first_word-in-loop-i.ensures.word
    ∙ ap (λ ws. ws ++ first_words map i ∷ []) c.loop-i.invariant
    ∙ sym (cells-more (first_words map) i)
