use Rattle.std.proofs.Common.{refl, arith}
use Rattle.sdh_scripts.proofs.Plans.{done_of}
use Rattle.sdh_programs.proofs.Deeds.{script_faults, script_done}
use Rattle.sdh_sncp_cli.specs.Plans.{path_account}
use Rattle.sdh_sncp_cli.specs.Outcome.{pathing}
use Rattle.sdh_sncp_cli.proofs.Deeds.{reported}
use Rattle.sdh_sncp_cli.proofs.program.PathingProgramText.laws.Goals as goal

pub returns-clause-steps : goal.returns-clause-steps
returns-clause-steps g c = reported c.reports_are_due.ensures c.path_scripts_settle.ensures

-- no write to memory fails
pub returns-clause-cuts : goal.returns-clause-cuts
returns-clause-cuts g c listing plan run f before after left begins fresh rose x = absurd (omega (arith, rose))

pub returns-clause-done : goal.returns-clause-done
returns-clause-done g c =
    script_done pathing refl (λ listing plan f told end left came may fine. done_of path_account plan f left end told came may fine)

pub returns-clause-faults : goal.returns-clause-faults
returns-clause-faults g c = script_faults pathing refl
