use Rattle.sdh_plant.proofs.laws.an_honest_plant_tells_none.Goals as goal

pub returns : goal.returns
returns g c = λ honest. record { honest = honest; tells_none = g.met.P.Plant.honest_tells_none _ honest }
