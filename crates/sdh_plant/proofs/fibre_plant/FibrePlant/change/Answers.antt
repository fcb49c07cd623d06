use Rattle.std.proofs.Common.{◌≡◌, ◌*◌, length, rules}
use Rattle.std.specs.Prelude.{All}
use Rattle.std.proofs.lemmas.List.{take_at}
use Rattle.sdh_ringmap.specs.Fibres.{IsConditionAt}
use Rattle.sdh_plant.specs.Kept.{IsFibre}
use Rattle.sdh_plant.proofs.fibre_plant.FibrePlant.change.Goals as goal

pub invariant_of-self-2 : goal.invariant_of-self-2
invariant_of-self-2 c =
    let condition : IsConditionAt c.self.inside.rate c.args.event.condition = search rules in
    let old : All (IsFibre c.self.inside.rate) c.deref_mut.result.now = search rules in
    let fit : All (IsFibre c.self.inside.rate) c.set_condition.new.fibres = c.set_condition.ensures.fit c.self.inside.rate condition old in
    let len : length c.set_condition.new.fibres ≡ c.in-Some.fibres.len = search rules in
    let count : length c.set_condition.new.fibres ≡ 2 * c.self.inside.nodes = search rules in
    rw (take_at c.set_condition.new.fibres _ c.in-Some.fibres.len len) (record { count = count; few = c.self.invariant.few; each = fit })
