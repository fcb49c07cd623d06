use Rattle.std.proofs.Common.{List, ℕ, length, ap, ◌∙◌}
use Rattle.sdh_request.specs.declared.settings.Settings.{Settings}
use Rattle.sdh_node.specs.Rings.Held.{new_ring}
use Rattle.sdh_aps_cli.proofs.parts.parts_of.Goals as goal

pub returns-clause-form : goal.returns-clause-form
returns-clause-form c = c.into_parts-map.ensures.form

pub returns-clause-ring : goal.returns-clause-ring
returns-clause-ring c =
    c.in_ok-ring.ensures.ring ∙ (λ i. new_ring (c.settings-settings.ensures.settings i) (c.into_parts-map.ensures.ring i)
    (c.into_parts-map.ensures.circuits i))

pub returns-clause-script : goal.returns-clause-script
returns-clause-script c = record {
  rate = ap (λ (s : Settings). s.rate) c.settings-settings.ensures.settings;
  nodes = c.len-nodes.ensures.len ∙ ap (λ (l : List ℕ). length l) c.map.ensures;
  steps = c.into_parts-map.ensures.steps;
  limit = c.limit-limit.ensures.limit;
}
