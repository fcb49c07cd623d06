-- What each report of a script over a path ring owes, in customers' bytes and by the conditions that the script gives
-- the fibres.
use Rattle.std.specs.Prelude.{ℕ, ◌≡◌, ◌⊎◌, ◌+◌, Bool, List, [], ◌∷◌, ◌++◌, length}
use Rattle.sdh_ringmap.specs.declared.Side.{Side}
use Rattle.sdh_ringmap.specs.Fibres.{is_cut}
use Rattle.sdh_circuits.specs.Provisioned.{Provisioned}
use Rattle.sdh_plan.specs.Planned.{Planned}
use Rattle.sdh_status.specs.PortLine.{PortLine}
use Rattle.sdh_report.specs.Reports.{Report}
use Rattle.sdh_status.specs.declared.Status.{Status}
use Rattle.sdh_status.specs.declared.Status.TheVariants as status
use Rattle.sdh_restoration.specs.Changes.{Change}
use Rattle.sdh_promise.specs.Scenes.{scenes}
use Rattle.sdh_restoration.specs.Sides.{new_holding, all_holding}
use Rattle.sdh_promise.specs.Owed.{IsLast}
use Rattle.sdh_scripts.specs.Ports.{lines_from}
use Rattle.sdh_sncp.specs.Due.{due_path}

-- whether the fibre is cut that ends at position p on a side of a ring of n, after these changes of new fibres
abbrev pub cut_after : ℕ → List Change → ℕ → Side → Bool
cut_after n changes p d = is_cut (all_holding n p d changes new_holding).condition

-- what all ports of these circuits are owed in round t, where `cut` says which fibres are cut
abbrev pub due_ports : ℕ → (ℕ → Side → Bool) → ℕ → List Provisioned → List PortLine
due_ports n cut t circuits = lines_from (λ index c e. due_path n cut c e t) 0 circuits

-- Each report shows every port of a ring of n with what it is owed after all changes before the report. So far `before`
-- settle steps have ended, after `ran` rounds in all, and `earlier` are the changes before them. The list of lists has
-- the changes before each settle step to come. Report by report the number grows by 1, and the round shows how many
-- rounds the step ran. A settle step without a report is where the script ended, unsettled or by a fault. Where each
-- has one, the script is done, or ended by a fault.
abbrev pub AreDue : ℕ → List Provisioned → ℕ → List Change → ℕ → ℕ → List (List Change) → List Report → Status → Type 0
AreDue n circuits limit earlier ran before [] reports end = (reports ≡ []) × ((end ≡ status.Ok) ⊎ (end ≡ status.PlantFault))
AreDue n circuits limit earlier ran before (changes ∷ later) [] end = (end ≡ status.Unsettled (before + 1)) ⊎ (end ≡ status.PlantFault)
AreDue n circuits limit earlier ran before (changes ∷ later) (r ∷ reports) end =
    (r.number ≡ before + 1) × (r.nodes ≡ []) × IsLast n limit ran r.round
    × (r.ports ≡ due_ports n (cut_after n (earlier ++ changes)) r.round circuits)
    × AreDue n circuits limit (earlier ++ changes) (r.round + 1) (before + 1) later reports end

-- each report of a plan shows for every port what it is owed
abbrev pub PathOwesAll : Planned → List Report → Status → Type 0
PathOwesAll plan reports end = AreDue (length plan.nodes) plan.circuits plan.limit [] 0 0 (scenes [] plan.steps) reports end
