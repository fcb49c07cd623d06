-- What follows from the definitions of this crate: they say at least this.
use Rattle.std.specs.Prelude.{ℕ, ◌≡◌, ◌≤◌, ◌+◌, ◌%◌, false, List, [], ◌∷◌}
use Rattle.sdh_ringmap.specs.declared.Side.{Side}
use Rattle.sdh_ringmap.specs.declared.terms.Condition.{Condition}
use Rattle.sdh_ringmap.specs.Fibres.{fibre, fibre_to}
use Rattle.sdh_payload.specs.declared.clock.Turn.{Turn}
use Rattle.sdh_payload.specs.History.{Happening}
use Rattle.sdh_circuits.specs.declared.End.{End}
use Rattle.sdh_circuits.specs.declared.PortId.{PortId}
use Rattle.sdh_circuits.specs.Provisioned.{Provisioned, customer_at, same_port}
use Rattle.sdh_restoration.specs.Due.{due, sends_by}
use Rattle.sdh_circuits.specs.Ends.{other_end}
use Rattle.sdh_status.specs.declared.Status.{Status}
use Rattle.sdh_restoration.specs.Changes.{Change, Fibre, Slip, Stretch, rounds_in}
use Rattle.sdh_restoration.specs.Sides.{Holding, holding_after}
use Rattle.sdh_restoration.specs.Happened.{told_by, happened}
use Rattle.sdh_promise.specs.Owed.{Ring, PortReport, requests_by, owed_port, IsOwed, AreOwed}

-- the rounds of these reports go on after `ran` rounds: each lies after the round of the report before it, within the
-- limit, at a multiple of 128 and not in round 0
abbrev pub GoOn : ℕ → ℕ → List PortReport → Type 0
GoOn limit ran [] = Unit {0}
GoOn limit ran (r ∷ reports) =
    (ran ≤ r.round) × (1 ≤ r.round) × (r.round + 1 ≤ ran + limit) × (r.round % 128 ≡ 0) × GoOn limit (r.round + 1) reports

-- in a ring of two nodes or more, where reports show what they owe after these earlier stretches, their rounds come
-- after the rounds of those stretches, as `GoOn` says
abbrev pub ReportsGoOn : Type 0
ReportsGoOn =
    (ring : Ring) (limit : ℕ) (earlier : List Stretch) (before : ℕ) (later : List (List Change)) (reports : List PortReport) (end : Status)
    → 2 ≤ ring.nodes → AreOwed ring limit earlier before later reports end → GoOn limit (rounds_in earlier) reports

-- The first two reports of a script show what is owed. What the first one owes follows from the changes `one` and the k
-- rounds after them. What the second one owes follows from these together with the changes `two` and m more rounds.
abbrev pub ReportsRemember : Type 0
ReportsRemember =
    (ring : Ring) (limit : ℕ) (one two : List Change) (later : List (List Change)) (r s : PortReport) (reports : List PortReport) (end : Status)
    (k m : ℕ)
    → r.round + 1 ≡ k → s.round + 1 ≡ k + m → 2 ≤ ring.nodes → AreOwed ring limit [] 0 (one ∷ two ∷ later) (r ∷ s ∷ reports) end
    → (let first : Stretch = record { changes = one; rounds = k } in let second : Stretch = record { changes = two; rounds = m } in
    IsOwed ring.nodes (requests_by ring (first ∷ []) r.round) (happened (first ∷ [])) ring.circuits r
    × IsOwed ring.nodes (requests_by ring (first ∷ second ∷ []) s.round) (happened (first ∷ second ∷ [])) ring.circuits s)

-- a side sees the condition of the fibre that ends at it
abbrev pub SidesAreTold : Type 0
SidesAreTold =
    (n p q : ℕ) (d e : Side) (c : Condition) (h : Holding) → fibre q e ≡ fibre_to n p d
    → (holding_after n p d (Fibre q e c) h).condition ≡ c

-- a port gets its own slips alone
abbrev pub PortsAreTold : Type 0
PortsAreTold =
    (port other : PortId) (turn : Turn) (count : ℕ) (history : List Happening) → same_port port other ≡ false
    → told_by port (Slip other turn count) history ≡ history

-- where no span is applied, what a port is owed follows, by `due`, from what the customer at its circuit's other end
-- sends, and so from what happened there
abbrev pub OwedByTheOther : Type 0
OwedByTheOther = (n t index : ℕ) (before : PortId → ℕ → List Happening) (c : Provisioned) (e : End)
    → (owed_port n (λ s. false) before t index c e).outlet ≡ due n (λ s. false) c
    (λ k. sends_by (customer_at c (other_end e)) (before (record { circuit = index; end = other_end e }) k)) t
