use Rattle.std.proofs.Common.{◌≡◌, ◌*◌, ap, ◌∙◌, subst}
use Rattle.sdh_ringmap.specs.Rates.{n_of}
use Rattle.sdh_interchange.specs.Assembled.{Origins}
use Rattle.sdh_interchange.specs.Choosing.{AreSources}
use Rattle.sdh_interchange.specs.Lanes.{AreLanes}
use Rattle.sdh_interchange.proofs.ByBytes.{either}
use Rattle.sdh_interchange.proofs.choice.Choice.pass.Goals as goal

pub returns-clause-pass : goal.returns-clause-pass
returns-clause-pass g c =
    let inside = c.self.inside in
    let is : n_of inside.rate ≡ g.row.N = ap (λ (o : Origins). n_of o.rate) c.self.view_is ∙ c.requires.rate in
    record {
      rate = either g.row.N inside.rate is;
      first = c.requires.first ∙ ap (λ m. 2430 * m) c.requires.rate;
      second = c.requires.second ∙ ap (λ m. 2430 * m) c.requires.rate;
      sources = subst (λ m. AreSources m inside.sources.now) is c.self.invariant.sources;
      lanes = subst (λ m. AreLanes m inside.sources.now inside.lanes) is c.self.invariant.lanes;
      passed = c.self.invariant.passed;
      owned = c.self.invariant.owned;
    }

pub returns-clause-sources : goal.returns-clause-sources
returns-clause-sources g c = ap (λ (o : Origins). o.sources) c.self.view_is
