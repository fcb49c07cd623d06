-- The terms in which proofs on rings speak of them.
use Rattle.std.proofs.Common.{ℕ, List, length, ◌/◌}
use Rattle.sdh_ringmap.specs.declared.terms.Rate.{Rate}
use Rattle.sdh_ringmap.specs.Rates.{n_of}
use Rattle.sdh_circuits.specs.Provisioned.{Provisioned}
use Rattle.sdh_rounds.specs.Held.{World}

pub record Terms : Type 0 where
  pub ids : List ℕ
  -- the number of nodes
  pub n : ℕ
  pub cs : List Provisioned
  -- the number of rounds that have run
  pub t : ℕ
  pub rate : Rate
  -- the number of working slots
  pub slots : ℕ

abbrev pub terms : {N : Type 0} → World N → Terms
terms w = record {
  ids = w.ring.ids;
  n = length w.ring.ids;
  cs = w.ring.circuits.circuits;
  t = w.ring.rounds;
  rate = w.ring.settings.rate;
  slots = n_of w.ring.settings.rate / 2;
}
