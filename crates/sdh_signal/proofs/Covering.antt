-- Going round the ring meets each span, and so a node that doesn't pass through.
use Rattle.std.proofs.Common.{◌≡◌, ℕ, ◌<◌, suc, false, ◌∙◌}
use Rattle.sdh_ringmap.specs.Places.{opposite}
use Rattle.sdh_ringmap.specs.declared.Side.{Side}
use Rattle.sdh_ringmap.proofs.Going.{met, way-behind}
use Rattle.sdh_signal.proofs.States.{Resting}
use Rattle.sdh_signal.specs.Law.{is_pass}
use Rattle.sdh_ringmap.specs.Steps.{going}

module _ (n : ℕ) (r : Resting n) where
  -- going round the ring leads to a node that doesn't pass through
  pub record Stops (d : Side) (p : ℕ) : Type 0 where
    pub steps : ℕ
    pub few : steps < n
    pub there : is_pass (r.state (going n d p (suc steps))) ≡ false

  pub stops : (some : 0 < n) (d : Side) (p : ℕ) → p < n → Stops d p
  stops some d p h =
      let m = met n some d p r.top h r.top_inside in
      record {
        steps = m.steps;
        few = m.few;
        there = r.top_stops (opposite d) (going n d p (suc m.steps)) (way-behind n some d p m.steps ∙ m.there);
      }
