-- The verdicts in a case, and the last report of the longer script.
use Rattle.std.proofs.Common.{◌≡◌, ℕ, ◌+◌, ◌-◌, ◌≤◌, Bool, true, false, List, [], ◌∷◌, ◌++◌, length, refl, sym, ap, ◌∙◌, arith}
use Rattle.std.proofs.Common.{append_assoc}
use Rattle.std.specs.Prelude.{◌||◌, if◌then◌else◌}
use Rattle.sdh_ringmap.specs.Arcs.{is_clear, is_joined, opposite_arc}
use Rattle.sdh_circuits.specs.declared.End.{End}
use Rattle.sdh_circuits.specs.declared.End.TheVariants.{A, B}
use Rattle.sdh_circuits.specs.declared.PortId.{PortId}
use Rattle.sdh_circuits.specs.Provisioned.{Provisioned, arc_of, customer_at}
use Rattle.sdh_circuits.specs.Ends.{other_end}
use Rattle.sdh_payload.specs.History.{Happening}
use Rattle.sdh_payload.specs.Outlet.{Outlet, silent}
use Rattle.sdh_restoration.specs.Applied.{is_applied}
use Rattle.sdh_restoration.specs.Due.{due, sends_by}
use Rattle.sdh_restoration.specs.Routes.{hops}
use Rattle.sdh_plan.specs.Planned.{Planned}
use Rattle.sdh_plan.specs.declared.step.Step.TheVariants as step
use Rattle.sdh_status.specs.PortLine.{PortLine}
use Rattle.sdh_promise.specs.Scenes.{scenes}
use Rattle.sdh_restoration.specs.Happened.{happened}
use Rattle.sdh_promise.specs.Owed.{owed_port, owed_ports}
use Rattle.sdh_promise.specs.Plans.{ring_of}
use Rattle.sdh_verdicts.specs.Resting.{requests_after}
use Rattle.sdh_verdicts.specs.Foretold.{changes_in, stretches_by, IsLastForetold, LastReportsAreForetold}
use Rattle.sdh_verdicts.specs.declared.failure.Failure.{Failure}
use Rattle.sdh_verdicts.specs.declared.judging.Verdict.{Verdict}
use Rattle.sdh_verdicts.specs.declared.judging.Verdict.TheVariants.{Kept, Over, Lost}
use Rattle.sdh_verdicts.specs.Failures.{case_steps}
use Rattle.sdh_verdicts.specs.Verdicts.{longer_steps, scenes_with, requests_with, verdict_under, hops_where, hops_under}
use Rattle.sdh_verdicts.specs.Laws.{outlet_told, port_told, ports_told, CasesAreShown}
use Rattle.sdh_verdicts.proofs.Rests.{some_scene}

-- ---- what a port is owed

module _ (n : ℕ) (applied : ℕ → Bool) (c : Provisioned) (sent : ℕ → Outlet) (t : ℕ) where
  abbrev verdict_by : Bool → Bool → Verdict
  verdict_by own joined = if own then Kept else if joined then Over else Lost

  abbrev told_by : Verdict → Outlet
  told_by v = outlet_told v (hops_where v n applied c) sent t

  by_arcs : (own other : Bool) → (if own || other then sent (t - hops n applied (arc_of n c)) else silent)
      ≡ told_by (verdict_by own (own || other))
  by_arcs true other = refl
  by_arcs false true = refl
  by_arcs false false = refl

  -- what a port is owed is what its circuit's verdict says
  due_is : due n applied c sent t ≡ outlet_told (verdict_under n applied c) (hops_under n applied c) sent t
  unfolding is_joined due
  due_is = by_arcs (is_clear n applied (arc_of n c)) (is_clear n applied (opposite_arc n (arc_of n c)))

module _ (plan : Planned) (case : List Failure) (before : PortId → ℕ → List Happening) (t : ℕ) where
  abbrev applied : ℕ → Bool
  applied = is_applied (requests_with plan case)

  port_is : (index : ℕ) (c : Provisioned) (e : End) → owed_port (length plan.nodes) applied before t index c e
      ≡ port_told plan case before t index c e
  port_is index c e =
      let line : Outlet → PortLine = λ o. record { name = c.name; end = e; outlet = o } in
      ap line (due_is (length plan.nodes) applied c
      (λ k. sends_by (customer_at c (other_end e)) (before (record { circuit = index; end = other_end e }) k)) t)

  ports_are : (index : ℕ) (cs : List Provisioned) → owed_ports (length plan.nodes) applied before t index cs
      ≡ ports_told plan case before t index cs
  ports_are index [] = refl
  ports_are index (c ∷ cs) =
      let more = owed_ports (length plan.nodes) applied before t (index + 1) cs in
      ap (λ (p : PortLine). p ∷ owed_port (length plan.nodes) applied before t index c B ∷ more) (port_is index c A)
      ∙ ap (λ (p : PortLine). port_told plan case before t index c A ∷ p ∷ more) (port_is index c B)
      ∙ ap (λ (l : List PortLine). port_told plan case before t index c A ∷ port_told plan case before t index c B ∷ l)
      (ports_are (index + 1) cs)

-- ---- what the last report shows

pub cases_are_shown : LastReportsAreForetold → CasesAreShown
cases_are_shown law plan case fits limit reports owed =
    let steps = case_steps (length plan.nodes) plan.settings.threshold case in
    let parts : longer_steps plan case ≡ (plan.steps ++ steps) ++ step.Settle ∷ [] =
    sym (append_assoc plan.steps steps (step.Settle ∷ [])) in
    let enough : 1 ≤ length plan.nodes = omega (arith, fits.nodes_fit.enough) in
    let foretold : IsLastForetold (ring_of plan) (scenes_with plan case) reports =
    law (ring_of plan) limit (scenes_with plan case) reports fits.threshold_from_1 enough
    (λ none. some_scene [] (plan.steps ++ steps) (ap (scenes []) (sym parts) ∙ none)) owed in
    let ss = stretches_by [] (scenes_with plan case) reports in
    let same : requests_after (ring_of plan) (changes_in ss) ≡ requests_with plan case =
    ap (requests_after (ring_of plan)) foretold.changes in
    record {
      foretold = foretold;
      ports = foretold.shows.shows
          ∙ ap (λ (rs : List ℕ). owed_ports (length plan.nodes) (is_applied rs) (happened ss) foretold.last.round 0 plan.circuits) same
          ∙ ports_are plan case (happened ss) foretold.last.round 0 plan.circuits;
      requests = foretold.shows.requests ∙ same;
      verdicts = λ c. ap (λ (rs : List ℕ). verdict_under (length plan.nodes) (is_applied rs) c) (sym (foretold.shows.requests ∙ same));
    }
