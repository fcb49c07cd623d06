-- What the watches of a script should show, in customers' bytes and by the script alone. No frame occurs in these
-- definitions.
use Rattle.std.specs.Prelude.{ℕ, ◌≡◌, ◌⊎◌, ◌+◌, ◌-◌, List, [], ◌∷◌, ◌++◌, map}
use Rattle.sdh_circuits.specs.declared.End.{End}
use Rattle.sdh_payload.specs.Outlet.{Outlet}
use Rattle.sdh_restoration.specs.Applied.{is_applied}
use Rattle.sdh_status.specs.declared.Status.{Status}
use Rattle.sdh_status.specs.declared.Status.TheVariants as status
use Rattle.sdh_status.specs.PortLine.{PortLine}
use Rattle.sdh_restoration.specs.Changes.{Change, Stretch, rounds_in}
use Rattle.sdh_restoration.specs.Happened.{happened}
use Rattle.sdh_promise.specs.Owed.{Ring, requests_by, owed_ports, IsLast}
use Rattle.sdh_path.specs.Laws.{clean_report}
use Rattle.sdh_watch.specs.Shows.{shown, WatchLine, Watched}

-- the watch on a port that is owed this in the last of 128 rounds: AIS, or no fault in all VC-4s of 128 chunks
abbrev pub clean_watch : List ℕ → End → Outlet → WatchLine
clean_watch name end o = record { name = name; end = end; shows = shown o.delivered (clean_report 128 o.value) }

abbrev pub owed_watch : PortLine → WatchLine
owed_watch p = clean_watch p.name p.end p.outlet

-- What is reported of each settle step is what is owed in the last of the 128 rounds after it, under the requests of
-- the history and by what happened at the ports. `earlier` had happened before, `before` settle steps had ended, and
-- these are the changes before each step to come. The settle step itself ends as one without watches does. A settle
-- step without a report is where the script ended, unsettled or by a fault.
abbrev pub AreClean : Ring → ℕ → List Stretch → ℕ → List (List Change) → List Watched → Status → Type 0
AreClean ring limit earlier before [] reports end = (reports ≡ []) × ((end ≡ status.Ok) ⊎ (end ≡ status.PlantFault))
AreClean ring limit earlier before (changes ∷ later) [] end = (end ≡ status.Unsettled (before + 1)) ⊎ (end ≡ status.PlantFault)
AreClean ring limit earlier before (changes ∷ later) (r ∷ reports) end =
    (let t = r.round + 128 in let now = earlier ++ record { changes = changes; rounds = t + 1 - rounds_in earlier } ∷ [] in
    (r.number ≡ before + 1) × IsLast ring.nodes limit (rounds_in earlier) r.round
    × (r.watches ≡ map owed_watch (owed_ports ring.nodes (is_applied (requests_by ring now t)) (happened now) t 0 ring.circuits))
    × AreClean ring limit now (before + 1) later reports end)
