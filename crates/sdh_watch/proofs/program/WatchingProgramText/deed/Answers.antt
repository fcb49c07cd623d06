use Rattle.sdh_watch.proofs.Deeds.{run_only}
use Rattle.sdh_watch.proofs.program.WatchingProgramText.deed.Goals as goal

pub returns-clause-deed : goal.returns-clause-deed
returns-clause-deed g c = (run_only c.args.plan, c.in_ok-run.ensures.is_of, c.in_ok-run.ensures.ready)
