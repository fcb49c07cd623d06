use Rattle.sdh_ring.proofs.ring.Ring.settle.Goals as goal

pub returns-in-Err-clause-step : goal.returns-in-Err-clause-step
returns-in-Err-clause-step g c = absurd c.in-Err.ensures.stopped.ran.kept

pub returns-in-Err-clause-laws : goal.returns-in-Err-clause-laws
returns-in-Err-clause-laws g c = absurd c.in-Err.ensures.stopped.ran.kept
