-- What each report of a script owes, in customers' bytes, by the plan and the rounds of the reports.
use Rattle.std.specs.Prelude.{ℕ, ◌≡◌, ◌⊎◌, ◌+◌, ◌-◌, ◌*◌, ◌%◌, ◌≤◌, Bool, List, [], ◌∷◌, ◌++◌}
use Rattle.sdh_circuits.specs.declared.End.{End}
use Rattle.sdh_circuits.specs.declared.End.TheVariants.{A, B}
use Rattle.sdh_circuits.specs.declared.PortId.{PortId}
use Rattle.sdh_circuits.specs.Provisioned.{Provisioned, customer_at}
use Rattle.sdh_payload.specs.History.{Happening}
use Rattle.sdh_restoration.specs.Applied.{span_requests, is_applied}
use Rattle.sdh_restoration.specs.Due.{due, sends_by}
use Rattle.sdh_circuits.specs.Ends.{other_end}
use Rattle.sdh_status.specs.declared.Status.{Status}
use Rattle.sdh_status.specs.declared.Status.TheVariants as status
use Rattle.sdh_status.specs.PortLine.{PortLine}
use Rattle.sdh_restoration.specs.Changes.{Change, Stretch, rounds_in}
use Rattle.sdh_restoration.specs.Sides.{asked_in}
use Rattle.sdh_restoration.specs.Happened.{happened}

-- the part of a report that is compared with what is owed: its settle step, counted from 1; the last round of that
-- step; and the line of each port in the order of the circuits, a before b
pub record PortReport : Type 0 where
  pub number : ℕ
  pub round : ℕ
  pub ports : List PortLine

-- The parts of a ring that decide what its reports owe: the number of nodes, the least number of violations that
-- degrades a side, the number of moments that a side waits to restore, and the circuits in their order.
pub record Ring : Type 0 where
  pub nodes : ℕ
  pub threshold : ℕ
  pub wait : ℕ
  pub circuits : List Provisioned

-- the requests of all spans in round t of the stretches
abbrev pub requests_by : Ring → List Stretch → ℕ → List ℕ
requests_by r stretches t = span_requests r.nodes (asked_in r.threshold r.wait r.nodes stretches t)

-- What the port at an end of circuit number `index` is owed in round t, in a ring of n in which these spans are
-- applied. `before` gives what had happened at each port before each round. The customer at the other end sends by what
-- had happened at its own port.
abbrev pub owed_port : ℕ → (ℕ → Bool) → (PortId → ℕ → List Happening) → ℕ → ℕ → Provisioned → End → PortLine
owed_port n applied before t index c e =
    record {
      name = c.name;
      end = e;
      outlet = due n applied c
          (λ k. sends_by (customer_at c (other_end e)) (before (record { circuit = index; end = other_end e }) k)) t;
    }

-- what all ports of these circuits are owed, in the order of the circuits, a before b; the circuits are numbered from
-- `index` on
abbrev pub owed_ports : ℕ → (ℕ → Bool) → (PortId → ℕ → List Happening) → ℕ → ℕ → List Provisioned → List PortLine
owed_ports n applied before t index [] = []
owed_ports n applied before t index (c ∷ cs) =
    owed_port n applied before t index c A ∷ owed_port n applied before t index c B ∷ owed_ports n applied before t (index + 1) cs

-- the report shows for each port of these circuits what it is owed, in a ring of n under these requests of spans, by
-- what had happened at the ports
abbrev pub IsOwed : ℕ → List ℕ → (PortId → ℕ → List Happening) → List Provisioned → PortReport → Type 0
IsOwed n requests before circuits r = r.ports ≡ owed_ports n (is_applied requests) before r.round 0 circuits

-- Round t may be the last one of a settle step that ended, in a ring of n, where `ran` rounds had run before the step.
-- The step has room for a quiet window, which is 3 n rounds, and has at most `limit` rounds. The number t is a multiple
-- of 128.
pub record IsLast (n limit ran t : ℕ) : Type 0 where
  pub window : ran + 3 * n ≤ t + 1
  pub within : t + 1 ≤ ran + limit
  pub multiple : t % 128 ≡ 0

-- Each report shows what is owed in its round. The requests and the ports' histories up to that round decide what that
-- is. The stretches `earlier` had run before these reports, and `before` counts the settle steps that had ended by
-- then. The list of lists has the changes before each settle step to come. The number of a report is one more than
-- that of the report before it, and its round shows how many rounds its step ran. At the first settle step without a
-- report the script ended, unsettled or by a fault.
abbrev pub AreOwed : Ring → ℕ → List Stretch → ℕ → List (List Change) → List PortReport → Status → Type 0
AreOwed ring limit earlier before [] reports end = (reports ≡ []) × ((end ≡ status.Ok) ⊎ (end ≡ status.PlantFault))
AreOwed ring limit earlier before (changes ∷ later) [] end = (end ≡ status.Unsettled (before + 1)) ⊎ (end ≡ status.PlantFault)
AreOwed ring limit earlier before (changes ∷ later) (r ∷ reports) end =
    (let now = earlier ++ record { changes = changes; rounds = r.round + 1 - rounds_in earlier } ∷ [] in
    (r.number ≡ before + 1) × IsLast ring.nodes limit (rounds_in earlier) r.round
    × IsOwed ring.nodes (requests_by ring now r.round) (happened now) ring.circuits r
    × AreOwed ring limit now (before + 1) later reports end)
