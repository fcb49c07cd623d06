use Rattle.std.proofs.Common.{◌≡◌, length, ap, sym, subst, ◌∙◌}
use Rattle.std.specs.Prelude.{IfOk}
use Rattle.sdh_node.specs.Node.{Node}
use Rattle.sdh_node.proofs.Later.{count_waits}
use Rattle.sdh_node.proofs.adm.Adm.outlets.Goals as goal

pub returns : goal.returns
returns g c =
    let i = c.self.inside in
    subst (λ k. IfOk c.outlets.result (λ outlets. length outlets ≡ k))
    (sym (count_waits i.cross i.ports) ∙ ap (λ (n : Node). length n.ports) c.self.view_is) c.outlets.ensures
