use Rattle.std.proofs.Common.{length, ap, sym, ◌∙◌}
use Rattle.std.proofs.lemmas.List.{length-map}
use Rattle.example_words.proofs.laid.Goals as goal

pub returns-clause-nodes : goal.returns-clause-nodes
returns-clause-nodes g c =
    (λ j. length (c.in_ok-try_new.ensures.ring j).ids) ∙ sym (length-map c.in_ok-map.map _) ∙ ap length c.in_ok-map.ensures.ids
