-- The part of a node that a ring's calls never change, and what is true of every ring.
use Rattle.std.specs.Prelude.{ℕ, ◌≡◌, ◌≤◌, ◌/◌, false, List, length, map, All}
use Rattle.sdh_ringmap.specs.Rates.{n_of}
use Rattle.sdh_ringmap.specs.Ids.{AreIds}
use Rattle.sdh_ringmap.specs.declared.Pos.{Pos}
use Rattle.sdh_circuits.specs.Provisioned.{Provisioned}
use Rattle.sdh_circuits.specs.Provisioning.{IsProvisioning}
use Rattle.sdh_payload.specs.Clock.{Clock, waiting}
use Rattle.sdh_circuits.specs.Kept.{KeepsRing}
use Rattle.sdh_request.specs.declared.settings.Settings.{Settings}
use Rattle.sdh_terminal.specs.Tributaries.{Tributary}
use Rattle.sdh_node.specs.Node.{Node, moment_of}
use Rattle.sdh_node.specs.Rings.Held.{HeldRing, new_nodes}
use Rattle.sdh_terminal.specs.Fixed.{FixedPort, fixed_port}

pub record Fixed : Type 0 where
  pub settings : Settings
  -- the waiting times of both sides
  pub west_wait : ℕ
  pub east_wait : ℕ
  pub ids : List ℕ
  pub at : Pos
  -- the circuits of the ring
  pub circuits : List Provisioned
  pub ports : List FixedPort

-- the part of a node that stays, whatever it receives, sends and is ordered
unfoldable pub fixed : Node → Fixed
fixed n = record {
  settings = n.settings;
  west_wait = n.west.local.wait;
  east_wait = n.east.local.wait;
  ids = n.ids;
  at = n.at;
  circuits = n.circuits;
  ports = map fixed_port n.ports;
}

-- a clock at which at most 16 slips wait, and at most four rounds come before one that may justify
pub record IsRested (c : Clock) : Type 0 where
  pub few : waiting c ≤ 16
  pub rest_few : c.rest ≤ 4

-- a node that has run `rounds` rounds, the last of them at `moment` or before, and whose ports' clocks are rested
pub record IsOn (rounds moment : ℕ) (n : Node) : Type 0 where
  pub rounds_are : n.rounds ≡ rounds
  pub early : moment_of n ≤ moment
  pub clocks : All (λ (t : Tributary). IsRested t.feed.clock) n.ports

-- What is true of every ring. Each node is that of a new ring, except for what calls change. Unless a round was broken
-- off, all nodes have run the ring's rounds.
pub record IsRing (r : HeldRing) : Type 0 where
  pub ids : AreIds r.ids
  pub circuits : IsProvisioning r.circuits
  -- half of the rate's N
  pub slots : r.circuits.slots ≡ n_of r.settings.rate / 2
  pub kept : KeepsRing r.circuits r.ids
  pub moment : r.moment ≤ 1000000000
  pub nodes : map fixed r.nodes ≡ map fixed (new_nodes r.settings r.ids r.circuits.circuits (length r.ids))
  pub going : r.broken ≡ false → All (IsOn r.rounds r.moment) r.nodes
