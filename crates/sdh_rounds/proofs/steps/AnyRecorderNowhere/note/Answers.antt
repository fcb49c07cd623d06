use Rattle.sdh_rounds.proofs.steps.AnyRecorderNowhere.note.Goals as goal

-- an observer is shown no plant
pub look-requires : goal.look-requires
look-requires g c = let r = c.requires in (r.2, r.3, r.4, r.6)

pub returns-clause-goes : goal.returns-clause-goes
returns-clause-goes g c first begun at k ran same heard = c.look.ensures at k ran heard
