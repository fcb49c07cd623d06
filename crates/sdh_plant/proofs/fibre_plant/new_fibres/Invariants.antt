use Rattle.std.proofs.Common.{◌≡◌, ◌-◌, ◌≤◌, length, replicate, None}
use Rattle.std.specs.Prelude.{All}
use Rattle.sdh_ringmap.specs.declared.terms.Condition.TheVariants.{Clear}
use Rattle.sdh_plant.specs.Kept.{conditions, carried, IsFibre}
use Rattle.sdh_plant.proofs.fibre_plant.new_fibres.Given as goal

abbrev pub invariant-fibres : goal.invariant-fibres
invariant-fibres l = record {
  conditions : conditions l.fibres.items ≡ replicate (length l.fibres.items) Clear;
  carried : carried l.fibres.items ≡ replicate (length l.fibres.items) None;
  fit : All (IsFibre l.rate) l.fibres.items;
  within : length l.fibres.items ≤ l.count;
}

abbrev pub decreases-fibres : goal.decreases-fibres
decreases-fibres l = l.count - length l.fibres.items
