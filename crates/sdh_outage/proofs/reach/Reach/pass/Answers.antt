use Rattle.std.proofs.Common.{◌≡◌, sym, ap, subst, ◌∙◌, arith}
use Rattle.sdh_outage.specs.Kept.{Reached, IsReach}
use Rattle.sdh_outage.proofs.Windows.{reach_passed}
use Rattle.sdh_outage.proofs.reach.Reach.pass.Goals as goal

pub invariant_of-self : goal.invariant_of-self
invariant_of-self c =
    let feed = c.self.inside.feed in
    let made = c.self.inside.made in
    let bytes = c.self.inside.bytes.items in
    let none : c.self.inside.first ≡ made =
    ap (λ (r : Reached). r.first) c.self.view_is ∙ c.requires.none ∙ sym (ap (λ (r : Reached). r.made) c.self.view_is) in
    let r = subst (λ n. IsReach feed n made bytes) none c.self.invariant.0 in (
      reach_passed feed c.pass.new.self made bytes c.pass.ensures r,
      omega (arith, none, c.self.invariant.1),
      omega arith,
      c.self.invariant.3,
      c.self.invariant.4,
    )
