use Rattle.std.proofs.Common.{map, ap, ◌∙◌}
use Rattle.std.proofs.lemmas.List.{take_all}
use Rattle.toml.specs.View.{view}
use Rattle.sdh_plan.specs.Document.{integer_of}
use Rattle.sdh_plan.proofs.Elements.{integers_view}
use Rattle.sdh_plan.proofs.ring.integers_of.Goals as goal

pub returns : goal.returns
returns c =
    c.loop-value.invariant.made ∙ ap (map (λ v. integer_of (view v)))
    (take_all c.loop-value.value-index c.args.values.now c.loop-value-test.false) ∙ integers_view c.args.values.now
