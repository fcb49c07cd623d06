-- A script of settle steps alone shows a healthy ring.
use Rattle.std.proofs.Common.{◌≡◌, ◌⊎◌, ℕ, suc, ◌+◌, ◌*◌, ◌≤◌, None, Some, List, [], ◌∷◌, length, refl, ap, sym, ◌∙◌, subst, arith, inl}
use Rattle.std.proofs.Common.{inr}
use Rattle.std.specs.Prelude.{Option}
use Rattle.std.proofs.lemmas.Bool.{cases_lt}
use Rattle.sdh_circuits.specs.Provisioning.{Provisioning}
use Rattle.sdh_restoration.specs.Due.{nothing_applied, due, sends_by}
use Rattle.sdh_circuits.specs.Ends.{other_end}
use Rattle.sdh_plant.specs.Fibres.{Fibres}
use Rattle.sdh_plant.specs.Arrivals.{Knows}
use Rattle.sdh_plant.proofs.Calling.{stay_honest}
use Rattle.sdh_request.specs.declared.settings.Settings.{Settings}
use Rattle.sdh_node.specs.Rings.Held.{outlet_at}
use Rattle.sdh_restoration.specs.Happened.{happened}
use Rattle.sdh_node.specs.Rings.Rounds.{World}
use Rattle.sdh_node.specs.Rings.Runs.{run}
use Rattle.sdh_node.specs.Rings.Quiet.{settles_in}
use Rattle.sdh_node.specs.Rings.Changes.{after_stretches, new_world}
use Rattle.sdh_rounds.proofs.Runs.{known_settles, known_unsettles}
use Rattle.sdh_rounds.proofs.Laws.{steps_are_computed}
use Rattle.sdh_laws.specs.Hearing.Laws.{MayStart}
use Rattle.sdh_laws.specs.Carrying.Windows.{Layout, layout_of, HasCircuits}
use Rattle.sdh_laws.proofs.carrying.Settles.{layout_stretches}
use Rattle.sdh_laws.specs.Converging.Healthy.{healthy_steps, HealthySteps, HealthyStepsSettle, HealthyStepsDeliver}
use Rattle.sdh_laws.proofs.converging.Runs.{run_more}
use Rattle.sdh_plan.specs.declared.step.Step.{Step}
use Rattle.sdh_plan.specs.declared.step.Step.TheVariants as step
use Rattle.sdh_status.specs.declared.Status.{Status}
use Rattle.sdh_status.specs.declared.Status.TheVariants as status
use Rattle.sdh_report.specs.Reports.{Report}
use Rattle.sdh_scripts.specs.Ports.{port_lines}
use Rattle.sdh_owed.specs.Reports.{report_of}
use Rattle.sdh_owed.specs.Scripts.{Runs}
use Rattle.sdh_promise.specs.Owed.{owed_ports}
use Rattle.sdh_owed.specs.Healthy.{AllSettle, AreHealthy}
use Rattle.sdh_owed.specs.Laws.{HealthyScripts}
use Rattle.sdh_owed.specs.Steps.{world_after_step}
use Rattle.sdh_scripts.proofs.Frames.{knows_after}
use Rattle.sdh_scripts.proofs.Reporting.{settles_by, reports_by}
use Rattle.sdh_owed.proofs.Ports.{due_told, ports_are}
use Rattle.sdh_laws.proofs.carrying.Owed.{offset_small}
use Rattle.sdh_circuits.specs.Provisioned.{customer_at}
use Rattle.sdh_node.specs.Stations.{adm}
use Rattle.sdh_rounds.specs.Runs as any_run

-- a step settles in one number of rounds
same_rounds : (o : Option ℕ) (k m : ℕ) → o ≡ Some k → o ≡ Some m → k ≡ m
same_rounds (Some n) k m a b = grind arith
same_rounds None k m a b = grind arith

module _ (settle : HealthyStepsSettle) (deliver : HealthyStepsDeliver) (s : Settings) (ids : List ℕ) (circuits : Provisioning) (f : Fibres)
    (may : MayStart s ids f)
    (form : HasCircuits (layout_of (new_world s ids circuits f))) (limit : ℕ) where
  abbrev from : World
  from = new_world s ids circuits f

  steps_are : HealthySteps from
  steps_are = settle s ids circuits f may form

  knows : (m : ℕ) → Knows (run m from).fibres
  knows m = knows_after adm m from (inl (stay_honest.prepared s.rate (length ids) f may.honest).honest)

  -- `before` settle steps have ended after m rounds
  abbrev Reached : ℕ → ℕ → Type 0
  Reached before m = ((before ≡ 0) × (m ≡ 0)) ⊎ ((1 ≤ before) × (m ≡ 128 * before + 1) × (129 ≤ limit))

  ends_first : (k : ℕ) → settles_in from limit ≡ Some k → (k ≡ 129) × (129 ≤ limit)
  ends_first k e = elim (cases_lt limit 129) [
    | inl low ↦ let none : settles_in from limit ≡ None = steps_are.short limit (omega arith) in absurd (grind arith)
    | inr high ↦ (same_rounds (settles_in from limit) k 129 e (steps_are.first limit high), high)
  ]

  ends_later : (before k : ℕ) → 1 ≤ before → 129 ≤ limit → settles_in (run (128 * before + 1) from) limit ≡ Some k → k ≡ 128
  ends_later before k some high e =
      same_rounds (settles_in (run (128 * before + 1) from) limit) k 128 e
      (ap (λ w. settles_in w limit) (sym (steps_are.left before some)) ∙ steps_are.later limit before (omega arith) some)

  -- the next step ends with round 128 (before + 1)
  next : (before m k : ℕ) → Reached before m → settles_in (run m from) limit ≡ Some k → (k + m ≡ 128 * (before + 1) + 1) × (129 ≤ limit)
  unfolding any_run.run
  next before m k (inl h) e = let there : settles_in from limit ≡ Some k = ap (λ j. settles_in (run j from) limit) (sym h.1) ∙ e in let r =
      ends_first k there in (omega (arith, h.0, h.1, r.0), r.1)
  next before m k (inr h) e = let there : settles_in (run (128 * before + 1) from) limit ≡ Some k =
      ap (λ j. settles_in (run j from) limit) (sym h.1) ∙ e in (omega (arith, h.1, ends_later before k h.0 h.2 there), h.2)

  -- no step after the first, and none with a limit of 129, is unsettled
  never_none : (before m : ℕ) → Reached before m → settles_in (run m from) limit ≡ None → (before ≡ 0) × (limit ≤ 128)
  unfolding any_run.run
  never_none before m (inl h) e = elim (cases_lt limit 129) [
    | inl low ↦ (h.0, omega arith)
    | inr high ↦ let there : settles_in from limit ≡ None = ap (λ j. settles_in (run j from) limit) (sym h.1) ∙ e in let some =
        steps_are.first limit high in absurd (grind arith)
  ]
  never_none before m (inr h) e =
      let there : settles_in (run (128 * before + 1) from) limit ≡ None = ap (λ j. settles_in (run j from) limit) (sym h.1) ∙ e in
      let some : settles_in (run (128 * before + 1) from) limit ≡ Some 128 =
      ap (λ w. settles_in w limit) (sym (steps_are.left before h.0)) ∙ steps_are.later limit before (omega (arith, h.2)) h.0 in
      absurd (grind arith)

  -- the report of the settle step after the first `before`
  shows : (before : ℕ) (rest : List Report) (w : World) → w ≡ run (128 * (before + 1) + 1) from
      → AreHealthy (length ids) circuits.circuits (before + 1) rest
      → AreHealthy (length ids) circuits.circuits before (report_of (before + 1) w.ring ∷ rest)
  unfolding report_of
  shows before rest w is more =
      let steps = before + 1 in
      let after = after_stretches (healthy_steps steps) from in
      let there : w ≡ after = is ∙ sym (steps_are.left steps (omega arith)) in
      let number : w.ring.rounds ≡ 128 * steps + 1 = ap (λ (v : World). v.ring.rounds) there ∙ steps_are.number steps (omega arith) in
      let ports =
      subst (λ (v : World). port_lines (outlet_at v.ring) circuits.circuits
      ≡ owed_ports (length ids) nothing_applied (happened []) (128 * steps) 0 circuits.circuits) (sym there)
      (ports_are after.ring (length ids) nothing_applied (happened []) (128 * steps) 0 circuits.circuits (λ k c get e. (
      let one : k ≡ 0 + k = omega arith in
      subst (λ i. outlet_at after.ring (record { circuit = i; end = e })
      ≡ due (length ids) nothing_applied c (λ j. sends_by (customer_at c (other_end e))
      (happened [] (record { circuit = i; end = other_end e }) j)) (128 * steps)) one
      (deliver s ids circuits f may form steps k c (omega arith) get e
      ∙ due_told (length ids) nothing_applied circuits.circuits [] k c e (128 * steps) get
      (offset_small circuits.circuits form.offsets k c get (other_end e)))))) in
      let same : w.ring.circuits.circuits ≡ circuits.circuits =
      ap (λ (v : World). v.ring.circuits.circuits) there
      ∙ ap (λ (l : Layout). l.circuits) (layout_stretches (healthy_steps steps) from) in
      (refl, omega (arith, number), ap (port_lines (outlet_at w.ring)) same ∙ ports, more)

  walk : (before m : ℕ) (steps : List Step) (w : World) (reports : List Report) (end : Status) (left : World) → AllSettle steps
      → w ≡ run m from → Reached before m → (before ≡ 0 → 1 ≤ length steps) → Runs limit before steps w reports end left
      → AreHealthy (length ids) circuits.circuits before reports
      × (129 ≤ limit → ((end ≡ status.Ok) × (length reports ≡ length steps)) ⊎ (end ≡ status.PlantFault))
      × (limit ≤ 128 → (reports ≡ []) × ((end ≡ status.Unsettled 1) ⊎ (end ≡ status.PlantFault)))
  walk before m [] w reports end left all is reached some x = (
    subst (AreHealthy (length ids) circuits.circuits before) (sym x.1.0) tt,
    λ high. inl (x.1.1, ap (λ (l : List Report). length l) x.1.0),
    λ low. elim reached [ inl h ↦ let one = some h.0 in absurd (omega (arith, one)) | inr h ↦ absurd (omega (arith, h.2, low)) ],
  )
  walk before m (step.Settle ∷ later) w reports end left all is reached some (inl (told, mid, rest, ended, shown, x)) =
      let known =
      known_settles adm w limit mid (subst (λ (v : World). Knows v.fibres) (sym is) (knows m))
      (settles_by adm world_after_step report_of w limit (before + 1) told mid ended) in
      let all_are : reports ≡ report_of (before + 1) mid.ring ∷ rest =
      reports_by adm world_after_step report_of w limit (before + 1) told mid reports rest ended shown in
      let k = known.0 in
      let e : settles_in (run m from) limit ≡ Some k =
      ap (λ v. settles_in v limit) (sym is) ∙ ((steps_are_computed adm).settled w limit k).1 known.1 in
      let n = next before m k reached e in
      let there : mid ≡ run (128 * (before + 1) + 1) from = known.2 ∙ ap (run k) is ∙ run_more from m k ∙ ap (λ j. run j from) n.0 in
      let r =
      walk (before + 1) (128 * (before + 1) + 1) later mid rest end left all there (inr (omega arith, refl, n.1))
      (λ z. absurd (omega (arith, z))) x in (
        subst (AreHealthy (length ids) circuits.circuits before) (sym all_are) (shows before rest mid there r.0),
        λ high. elim (r.1 high) [
          | inl done ↦ inl (
            done.0,
            ap (λ (l : List Report). length l) all_are
                ∙ ap suc done.1,
          )
          | inr fault ↦ inr fault
        ],
        λ low. absurd (omega (arith, n.1, low)),
      )
  walk before m (step.Settle ∷ later) w reports end left all is reached some (inr (inl x)) =
      let known = known_unsettles adm w limit left (subst (λ (v : World). Knows v.fibres) (sym is) (knows m)) x.0 in
      let e : settles_in (run m from) limit ≡ None =
      ap (λ v. settles_in v limit) (sym is) ∙ ((steps_are_computed adm).unsettled w limit).1 known.0 in
      let none = never_none before m reached e in (
        subst (AreHealthy (length ids) circuits.circuits before) (sym x.1.0) tt,
        λ high. absurd (omega (arith, high, none.1)),
        λ low. (x.1.0, inl (x.1.1 ∙ ap (λ b. status.Unsettled (b + 1)) none.0)),
      )
  walk before m (step.Settle ∷ later) w reports end left all is reached some (inr (inr x)) =
      (subst (AreHealthy (length ids) circuits.circuits before) (sym x.1.0) tt, λ high. inr x.1.1, λ low. (x.1.0, inr x.1.1))
  walk before m (this ∷ later) w reports end left all is reached some x = absurd all

pub healthy_scripts : HealthyStepsSettle → HealthyStepsDeliver → HealthyScripts
unfolding any_run.run
healthy_scripts settle deliver s ids circuits f may form limit steps all some reports end left x =
    let r =
    walk settle deliver s ids circuits f may form limit 0 0 steps (new_world s ids circuits f) reports end left all refl
    (inl (refl, refl)) (λ z. some) x in
    record { show = r.0; enough = r.1; short = r.2 }
