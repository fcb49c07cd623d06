-- How the program keeps what a table is made from.
use Rattle.std.specs.Prelude.{length}
use Rattle.sdh_verdicts.specs.Verdicts.{AreSidesOf}
use Rattle.sdh_whatif_cli.specs.declared.scene.Scene.{Scene}
use Rattle.sdh_whatif_cli.specs.Cases.{AreOwn}

-- the sides are those of the plan's ring, and the user's own failures are failures of it
pub record IsScene (scene : Scene) : Type 0 where
  pub sides : AreSidesOf scene.plan.now scene.sides.now
  pub own : AreOwn (length scene.plan.now.nodes) scene.own.now
