use Rattle.sdh_whatif_cli.proofs.Naming.{Others}
use Rattle.sdh_whatif_cli.proofs.own.failure_named.Given as goal

abbrev pub invariant-loop-number : goal.invariant-loop-number
invariant-loop-number l = record { others : Others l.map l.name l.number }
