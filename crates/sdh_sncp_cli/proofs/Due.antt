-- The laws of scripts over path rings: what their reports owe, and that they settle.
use Rattle.std.proofs.Common.{◌≡◌, ℕ, ◌+◌, ◌-◌, ◌≤◌, List, [], ◌∷◌, ◌++◌, length, refl, ap, sym, ◌∙◌, subst, arith, inl, inr, append-nil}
use Rattle.std.proofs.Common.{append_assoc}
use Rattle.sdh_ringmap.specs.declared.terms.Rate.{Rate}
use Rattle.sdh_ringmap.specs.Fibres.{fibre_to, is_cut}
use Rattle.sdh_plant.specs.Arrivals.{condition_of}
use Rattle.sdh_circuits.specs.Provisioned.{Provisioned}
use Rattle.sdh_circuits.specs.Provisioning.{Provisioning}
use Rattle.sdh_plan.specs.declared.step.Step.{Step}
use Rattle.sdh_plan.specs.declared.step.Step.TheVariants as step
use Rattle.sdh_status.specs.declared.Status.{Status}
use Rattle.sdh_status.specs.declared.Status.TheVariants as status
use Rattle.sdh_report.specs.Reports.{Report}
use Rattle.sdh_rounds.specs.Quiet.{enough_for}
use Rattle.sdh_restoration.specs.Changes.{Change, Fibre}
use Rattle.sdh_promise.specs.Scenes.{scenes}
use Rattle.sdh_scripts.specs.Scripts.{Runs}
use Rattle.sdh_scripts.specs.Ports.{end_outlet}
use Rattle.sdh_scripts.proofs.Ports.{lines_same}
use Rattle.sdh_scripts.specs.Outcomes.{AllSettled}
use Rattle.sdh_scripts.proofs.Outcomes.{refused_ends, settled_by, ok_settles, fault_settles}
use Rattle.sdh_scripts.proofs.Reporting.{settles_by, reports_by}
use Rattle.sdh_sncp.specs.Stations.{path_node}
use Rattle.sdh_sncp.specs.Ring.{World, outlet_at}
use Rattle.sdh_sncp.specs.Due.{due_path}
use Rattle.sdh_sncp.specs.Laws.{PathDeliversWhatIsDue, cut_in}
use Rattle.sdh_sncp.proofs.Converging.{steps_answer, steps_deliver}
use Rattle.sdh_sncp_cli.specs.Reports.{ports_told, path_ring_report}
use Rattle.sdh_sncp_cli.specs.Walking.{does, path_walk}
use Rattle.sdh_sncp_cli.specs.Steps.{MayDo}
use Rattle.sdh_sncp_cli.specs.Promise.{cut_after, due_ports, AreDue}
use Rattle.sdh_sncp_cli.specs.Laws.{ReportsAreDue, PathScriptsSettle}
use Rattle.sdh_sncp_cli.proofs.Standing.{Stands, stands_new, fibre_then, settled_then}

-- after a fault no more reports are owed
pub due_none : (n : ℕ) (circuits : List Provisioned) (limit : ℕ) (earlier : List Change) (ran before : ℕ) (later : List (List Change))
    (end : Status) → end ≡ status.PlantFault → AreDue n circuits limit earlier ran before later [] end
due_none n circuits limit earlier ran before [] end h = (refl, inr h)
due_none n circuits limit earlier ran before (changes ∷ later) end h = inr h

module _ (rate : Rate) (ids : List ℕ) (circuits : Provisioning) where
  abbrev n : ℕ
  n = length ids

  abbrev Now : List Change → ℕ → World → Type 0
  Now changes ran w = Stands rate ids circuits changes ran w

  -- which fibres are cut is what the script says
  cuts_told : (changes : List Change) (ran : ℕ) (w : World) → Now changes ran w → cut_in w ≡ cut_after n changes
  cuts_told changes ran w h =
      λ i p d. (ap (λ (l : List ℕ). is_cut (condition_of w.fibres (fibre_to (length l) p d))) h.ids ∙ ap is_cut (h.told.each p d)) i

  -- the report of a settle step that ended shows what is owed
  due_then : (changes : List Change) (ran : ℕ) (mid : World) → Now changes ran mid → PathDeliversWhatIsDue mid
      → ports_told mid.ring ≡ due_ports n (cut_after n changes) (mid.ring.rounds - 1) circuits.circuits
  due_then changes ran mid h delivers =
      let t = mid.ring.rounds - 1 in
      let cut = cut_after n changes in
      let size : length mid.ring.ids ≡ n = ap (λ (l : List ℕ). length l) h.ids in
      let gives = end_outlet (outlet_at mid.ring) in
      lines_same gives (λ index c e. due_path n cut c e t) 0 mid.ring.circuits.circuits
      (λ k c get e. (let same : 0 + k ≡ k = omega arith in
      ap (λ i. gives i c e) same ∙ delivers k c get e ∙ (λ i. due_path (size i) (cuts_told changes ran mid h i) c e t)))
      ∙ ap (λ (p : Provisioning). due_ports n cut t p.circuits) h.circuits

  owed : (limit before : ℕ) (earlier changes : List Change) (steps : List Step) (ran : ℕ) (w : World) (reports : List Report) (end : Status)
      (left : World)
      → Now (earlier ++ changes) ran w → MayDo rate n before steps → Runs path_walk limit before steps w reports end left
      → AreDue n circuits.circuits limit earlier ran before (scenes changes steps) reports end
  unfolding path_ring_report
  owed limit before earlier changes [] ran w reports end left h may x = (x.1.0, inl x.1.1)
  owed limit before earlier changes (step.Settle ∷ later) ran w reports end left h may (inl (told, mid, rest, ended, is, x)) =
      let settles = settles_by path_node does path_ring_report w limit (before + 1) told mid ended in
      let there = settled_then rate ids circuits (earlier ++ changes) ran w h mid limit settles in
      let delivers : PathDeliversWhatIsDue mid = steps_deliver w mid limit h.form settles h.whole in
      let all : reports ≡ path_ring_report (before + 1) mid.ring ∷ rest =
      reports_by path_node does path_ring_report w limit (before + 1) told mid reports rest ended is in
      subst (λ rs. AreDue n circuits.circuits limit earlier ran before (scenes changes (step.Settle ∷ later)) rs end) (sym all) (
        refl,
        refl,
        there.last,
        due_then (earlier ++ changes) _ mid there.stands delivers,
        owed limit (before + 1) (earlier ++ changes) [] later _ mid rest end left
            (subst (λ cs. Now cs (mid.ring.rounds - 1 + 1) mid) (sym (append-nil (earlier ++ changes))) there.stands) may.1 x,
      )
  owed limit before earlier changes (step.Settle ∷ later) ran w reports end left h may (inr (inl x)) =
      subst (λ rs. AreDue n circuits.circuits limit earlier ran before (scenes changes (step.Settle ∷ later)) rs end) (sym x.1.0)
      (inl x.1.1)
  owed limit before earlier changes (step.Settle ∷ later) ran w reports end left h may (inr (inr x)) =
      subst (λ rs. AreDue n circuits.circuits limit earlier ran before (scenes changes (step.Settle ∷ later)) rs end) (sym x.1.0)
      (inr x.1.1)
  owed limit before earlier changes (step.Fibre e ∷ later) ran w reports end left h may (inl goes) =
      let one = Fibre e.at.0 e.side e.condition ∷ [] in
      let v = does (step.Fibre e) w in
      owed limit before earlier (changes ++ one) later ran v reports end left
      (subst (λ cs. Now cs ran v) (append_assoc earlier changes one)
      (fibre_then rate ids circuits (earlier ++ changes) ran w h e may.1)) may.2 goes
  owed limit before earlier changes (step.Fibre e ∷ later) ran w reports end left h may (inr refused) =
      let stops = refused_ends (step.Fibre e) w reports end left refused in
      subst (λ rs. AreDue n circuits.circuits limit earlier ran before (scenes changes (step.Fibre e ∷ later)) rs end) (sym stops.0)
      (due_none n circuits.circuits limit earlier ran before (scenes changes (step.Fibre e ∷ later)) end stops.1)
  owed limit before earlier changes (step.Order p d c ∷ later) ran w reports end left h may x = absurd may
  owed limit before earlier changes (step.Moment m ∷ later) ran w reports end left h may x = absurd may
  owed limit before earlier changes (step.Hold p turns ∷ later) ran w reports end left h may x = absurd may
  owed limit before earlier changes (step.Slip port turn count ∷ later) ran w reports end left h may x = absurd may

  settles : (limit before : ℕ) (changes : List Change) (steps : List Step) (ran : ℕ) (w : World) (reports : List Report) (end : Status)
      (left : World)
      → Now changes ran w → MayDo rate n before steps → enough_for n ≤ limit → Runs path_walk limit before steps w reports end left
      → AllSettled end
  settles limit before changes [] ran w reports end left h may large x = settled_by end status.Ok x.1.1 ok_settles
  settles limit before changes (step.Settle ∷ later) ran w reports end left h may large (inl (told, mid, rest, ended, is, x)) =
      settles limit (before + 1) changes later _ mid rest end left
      (settled_then rate ids circuits changes ran w h mid limit
      (settles_by path_node does path_ring_report w limit (before + 1) told mid ended)).stands may.1 large x
  settles limit before changes (step.Settle ∷ later) ran w reports end left h may large (inr (inl x)) =
      absurd (steps_answer w left limit h.form h.whole (omega (arith, large, ap (λ (l : List ℕ). length l) h.ids)) x.0)
  settles limit before changes (step.Settle ∷ later) ran w reports end left h may large (inr (inr x)) =
      settled_by end status.PlantFault x.1.1 fault_settles
  settles limit before changes (step.Fibre e ∷ later) ran w reports end left h may large (inl goes) =
      settles limit before (changes ++ Fibre e.at.0 e.side e.condition ∷ []) later ran (does (step.Fibre e) w) reports end left
      (fibre_then rate ids circuits changes ran w h e may.1) may.2 large goes
  settles limit before changes (step.Fibre e ∷ later) ran w reports end left h may large (inr refused) =
      settled_by end status.PlantFault (refused_ends (step.Fibre e) w reports end left refused).1 fault_settles
  settles limit before changes (step.Order p d c ∷ later) ran w reports end left h may large x = absurd may
  settles limit before changes (step.Moment m ∷ later) ran w reports end left h may large x = absurd may
  settles limit before changes (step.Hold p turns ∷ later) ran w reports end left h may large x = absurd may
  settles limit before changes (step.Slip port turn count ∷ later) ran w reports end left h may large x = absurd may

pub reports_due : ReportsAreDue
reports_due s ids circuits f limit steps reports end left are honest form may x =
    owed s.rate ids circuits limit 0 [] [] steps 0 _ reports end left (stands_new s ids circuits f are honest form) may x

pub scripts_settle : PathScriptsSettle
scripts_settle s ids circuits f limit steps reports end left are honest form may large x =
    settles s.rate ids circuits limit 0 [] steps 0 _ reports end left (stands_new s ids circuits f are honest form) may large x
