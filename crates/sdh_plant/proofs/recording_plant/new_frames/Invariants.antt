use Rattle.std.proofs.Common.{◌≡◌, ◌-◌, ◌≤◌, length}
use Rattle.std.specs.Prelude.{All}
use Rattle.sdh_plant.proofs.recording_plant.new_frames.Given as goal

abbrev pub invariant-frames : goal.invariant-frames
invariant-frames l = record {
  rates : All (λ f. f.rate ≡ l.rate) l.frames.items;
  within : length l.frames.items ≤ l.count;
}

abbrev pub decreases-frames : goal.decreases-frames
decreases-frames l = l.count - length l.frames.items
