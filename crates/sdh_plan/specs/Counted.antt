-- What a script has led to, as it is counted.
use Rattle.std.specs.Prelude.{ℕ, List, get_or}
use Rattle.sdh_circuits.specs.declared.PortId.{PortId}
use Rattle.sdh_circuits.specs.declared.End.{End}
use Rattle.sdh_circuits.specs.declared.End.TheVariants.{A, B}
use Rattle.sdh_plan.specs.declared.slips.Slips.{Slips}
use Rattle.sdh_plan.specs.declared.past.Past as counted
use Rattle.sdh_plan.specs.Steps.{Past}

-- the counts of the ports at an end, by circuit
abbrev pub counts_at : Slips → End → List ℕ
counts_at s A = s.at_a
counts_at s B = s.at_b

-- how many slips each port was given
unfoldable pub slips_in : Slips → PortId → ℕ
slips_in s port = get_or (counts_at s port.end) port.circuit 0

-- what a script has led to
abbrev pub past_in : counted.Past → Past
past_in p = record { moment = p.moment; settles = p.settles; slips = slips_in p.slips }
