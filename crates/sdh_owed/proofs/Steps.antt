-- A script, step by step.
use Rattle.std.proofs.Common.{◌≡◌, ◌≤◌, ℕ, ◌+◌, ◌*◌, Bool, true, false, List, [], ◌∷◌, length, refl, ap, sym, ◌∙◌, subst, arith, inl}
use Rattle.std.proofs.Common.{zero-le, le_refl}
use Rattle.std.specs.Prelude.{if◌then◌else◌}
use Rattle.sdh_plant.specs.Fibres.{Fibres, IsPrepared}
use Rattle.sdh_plant.specs.Calls.{prepared}
use Rattle.sdh_plant.proofs.Calling.{stay_prepared}
use Rattle.sdh_circuits.specs.declared.PortId.{PortId}
use Rattle.sdh_circuits.specs.Provisioned.{same_port}
use Rattle.sdh_ringmap.specs.declared.terms.Rate.{Rate}
use Rattle.sdh_node.specs.Rings.Clocks.{waiting_at}
use Rattle.sdh_node.specs.Node.{Node}
use Rattle.sdh_circuits.specs.Provisioning.{Provisioning}
use Rattle.sdh_request.specs.declared.settings.Settings.{Settings}
use Rattle.sdh_node.specs.Rings.Held.{HeldRing, new_ring}
use Rattle.sdh_node.proofs.RingLaws.Waiting.{waits_new}
use Rattle.sdh_node.specs.Rings.Rounds.{World}
use Rattle.sdh_node.specs.Rings.Changes.{changed, adm_changes}
use Rattle.sdh_node.specs.Rings.Quiet.{Settles}
use Rattle.sdh_rounds.proofs.Runs.{held_run}
use Rattle.sdh_plan.specs.declared.step.Step.{Step}
use Rattle.sdh_plan.specs.declared.step.Step.TheVariants as step
use Rattle.sdh_plan.specs.Planned.{Planned, IsPlanned, provisioning_of}
use Rattle.sdh_plan.specs.Steps.{Past, new_past, after, is_settle}
use Rattle.sdh_plan.specs.Scripts.{HasRoom, AreSteps}
use Rattle.sdh_scripts.specs.Steps.{stepped}
use Rattle.sdh_scripts.proofs.Plans.{as_planned}
use Rattle.sdh_owed.specs.Steps.{world_after_step, past_of}
use Rattle.sdh_owed.proofs.Standing.{WaitAtMost, few_after}
use Rattle.sdh_owed.proofs.Known.{no_round}
use Rattle.sdh_owed.specs.Running.{BeginsAtAMultiple, MayRun}
use Rattle.sdh_owed.specs.Plans.{new_ring_of}
use Rattle.sdh_node.specs.Stations.{adm}

-- ---- fewer slips

-- past a has the moment of past b, and no more settle steps and slips
pub record IsLess (a b : Past) : Type 0 where
  pub moment : a.moment ≡ b.moment
  pub settles : a.settles ≤ b.settles
  pub slips : (port : PortId) → a.slips port ≤ b.slips port

less_after : (s : Step) (a b : Past) → IsLess a b → IsLess (after a s) (after b s)
less_after (step.Fibre e) a b less = less
less_after (step.Order p d c) a b less = less
less_after (step.Hold p turns) a b less = less
less_after (step.Slip port turn count) a b less = record {
  moment = less.moment;
  settles = less.settles;
  slips = λ q. by (same_port q port) q (less.slips q);
}
  where
    by : (same : Bool) (q : PortId) → a.slips q ≤ b.slips q
        → (if same then a.slips q + count else a.slips q) ≤ (if same then b.slips q + count else b.slips q)
    by true q few = omega (arith, few)
    by false q few = few
less_after (step.Moment m) a b less = record { moment = refl; settles = less.settles; slips = less.slips }
less_after step.Settle a b less = record { moment = less.moment; settles = omega (arith, less.settles); slips = λ port. omega arith }

less_room : (s : Step) (a b : Past) → IsLess a b → HasRoom b.slips s → HasRoom a.slips s
less_room (step.Fibre e) a b less h = h
less_room (step.Order p d c) a b less h = h
less_room (step.Hold p turns) a b less h = h
less_room (step.Slip port turn count) a b less h = omega (arith, less.slips port, h)
less_room (step.Moment m) a b less h = h
less_room step.Settle a b less h = h

-- steps that may be done after a past may be done after one that is less
steps_less : (rate : Rate) (n circuits : ℕ) (steps : List Step) (a b : Past) → IsLess a b → AreSteps rate n circuits b steps
    → AreSteps rate n circuits a steps
steps_less rate n circuits [] a b less each = tt
steps_less rate n circuits (s ∷ later) a b less each =
    let behind = less_after s a b less in (
      record {
        in_ring = each.0.in_ring;
        forward = omega (arith, less.moment, behind.moment, each.0.forward);
        few_settles = omega (arith, behind.settles, each.0.few_settles);
        few_slips = less_room s a b less each.0.few_slips;
      },
      steps_less rate n circuits later (after a s) (after b s) behind each.1,
    )

-- the steps of a plan can be done in a new ring
fits_new : (s : Settings) (ids : List ℕ) (circuits : Provisioning) (rate : Rate) (n k : ℕ) (steps : List Step)
    → AreSteps rate n k new_past steps → AreSteps rate n k (past_of 0 (new_ring s ids circuits)) steps
fits_new s ids circuits rate n k steps fit =
    steps_less rate n k steps (past_of 0 (new_ring s ids circuits)) new_past
    (record { moment = refl; settles = le_refl 0; slips = λ port. omega (arith, waits_new s ids circuits port) }) fit

-- the steps of a plan may be run over the ring that is made of it, and fibres that were just prepared for it
pub may_new : (each : ℕ) (plan : Planned) (r : HeldRing) (rate : Rate) (n : ℕ) (steps : List Step) (f : Fibres) → IsPlanned plan
    → r ≡ new_ring_of plan → rate ≡ plan.settings.rate → n ≡ length plan.nodes → steps ≡ plan.steps
    → MayRun each 0 steps r (prepared rate n f)
may_new each plan r rate n steps f form ring rates size same =
    as_planned (MayRun each 0) plan (new_ring_of plan) r rate n steps f ring rates size same (record {
      whole = refl;
      prepared = stay_prepared.prepared plan.settings.rate (length plan.nodes) f form.nodes_fit.enough form.nodes_fit.few;
      steps_fit =
          fits_new plan.settings plan.nodes (provisioning_of plan) plan.settings.rate (length plan.nodes)
          (length plan.circuits) plan.steps form.steps_fit;
      few = omega arith;
      begins = inl refl;
      rounds = omega arith;
    })

-- ---- a settle step

-- what a step that ended keeps of the ring
pub settled_held : (w left : World) (limit : ℕ) → (s : Settles w limit left)
    → left.ring ≡ record w.ring { nodes = left.ring.nodes; rounds = w.ring.rounds + length s.rounds }
settled_held w left limit s =
    subst (λ (v : World). v.ring ≡ record w.ring { nodes = v.ring.nodes; rounds = w.ring.rounds + length s.rounds }) (sym s.left_is)
    (held_run adm s.rounds w)

pub settled_whole : (w left : World) (limit : ℕ) → Settles w limit left → w.ring.broken ≡ false → left.ring.broken ≡ false
settled_whole w left limit s whole = ap (λ (r : HeldRing). r.broken) (settled_held w left limit s) ∙ whole

-- a ring that a settle step and the rounds after it left, k rounds together, over fibres that are prepared for it
pub next_by : (each before k : ℕ) (w left : World) → left.ring ≡ record w.ring { nodes = left.ring.nodes; rounds = w.ring.rounds + k }
    → k ≤ each → BeginsAtAMultiple left.ring → ((port : PortId) → waiting_at left.ring port ≡ 0)
    → IsPrepared w.ring.settings.rate (length w.ring.ids) left.fibres → (later : List Step)
    → MayRun each before (step.Settle ∷ later) w.ring w.fibres → MayRun each (before + 1) later left.ring left.fibres
next_by each before k w left held most begins none prepared later h =
    let grown : left.ring.rounds ≡ w.ring.rounds + k = ap (λ (r : HeldRing). r.rounds) held in
    let past = past_of (before + 1) left.ring in
    let less : IsLess past (after (past_of before w.ring) step.Settle) = record {
      moment = ap (λ (r : HeldRing). r.moment) held;
      settles = le_refl (before + 1);
      slips = λ port. omega (arith, none port);
    } in
    let fit =
    steps_less w.ring.settings.rate (length w.ring.ids) (length w.ring.circuits.circuits) later past
    (after (past_of before w.ring) step.Settle) less h.steps_fit.1 in
    let Shape =
    λ (r : HeldRing). (r.broken ≡ false) × IsPrepared r.settings.rate (length r.ids) left.fibres
    × AreSteps r.settings.rate (length r.ids) (length r.circuits.circuits) past later in
    let old : Shape (record w.ring { nodes = left.ring.nodes; rounds = w.ring.rounds + k }) = (h.whole, prepared, fit) in
    let new : Shape left.ring = subst Shape (sym held) old in
    let one : each * (before + 1) ≡ each * before + each = omega arith in
    record {
      whole = new.0;
      prepared = new.1;
      steps_fit = new.2;
      few = h.steps_fit.0.few_settles;
      begins = begins;
      rounds = omega (arith, h.rounds, grown, most, one);
    }

-- ---- any other step

-- the next step of a script may also be done alone, as if no settle step had ended before
pub alone : (each before : ℕ) (s : Step) (later : List Step) (r : HeldRing) (f : Fibres) → MayRun each before (s ∷ later) r f
    → AreSteps r.settings.rate (length r.ids) (length r.circuits.circuits) (past_of 0 r) (s ∷ [])
alone each before s later r f may =
    let less : IsLess (past_of 0 r) (past_of before r) = record {
      moment = refl;
      settles = zero-le;
      slips = λ port. le_refl (waiting_at r port);
    } in
    steps_less r.settings.rate (length r.ids) (length r.circuits.circuits) (s ∷ []) (past_of 0 r) (past_of before r) less
    (may.steps_fit.0, tt)

-- the past after a step bounds the slips that wait then
few_now : (before : ℕ) (s : Step) (w : World) → is_settle s ≡ false → WaitAtMost (world_after_step s w) (after (past_of before w.ring) s).slips
few_now before s w other = few_after s (past_of before w.ring) w other (λ port. omega arith)

less_changed : (before : ℕ) (s : Step) (w : World) → (s ≡ step.Settle → ⊥)
    → IsLess (past_of before (world_after_step s w).ring) (after (past_of before w.ring) s)
unfolding changed
less_changed before (step.Fibre e) w other = record {
  moment = refl;
  settles = le_refl before;
  slips = few_now before (step.Fibre e) w refl;
}
less_changed before (step.Order p d c) w other = record {
  moment = refl;
  settles = le_refl before;
  slips = few_now before (step.Order p d c) w refl;
}
less_changed before (step.Hold p turns) w other = record {
  moment = refl;
  settles = le_refl before;
  slips = few_now before (step.Hold p turns) w refl;
}
less_changed before (step.Slip port turn count) w other = record {
  moment = refl;
  settles = le_refl before;
  slips = few_now before (step.Slip port turn count) w refl;
}
less_changed before (step.Moment m) w other = record {
  moment = refl;
  settles = le_refl before;
  slips = few_now before (step.Moment m) w refl;
}
less_changed before step.Settle w other = absurd (other refl)

fit_changed : (each before : ℕ) (s : Step) (later : List Step) (w : World) → (s ≡ step.Settle → ⊥)
    → MayRun each before (s ∷ later) w.ring w.fibres
    → AreSteps w.ring.settings.rate (length w.ring.ids) (length w.ring.circuits.circuits) (past_of before (world_after_step s w).ring) later
fit_changed each before s later w other h =
    steps_less w.ring.settings.rate (length w.ring.ids) (length w.ring.circuits.circuits) later (past_of before (world_after_step s w).ring)
    (after (past_of before w.ring) s) (less_changed before s w other) h.steps_fit.1

-- a ring with other nodes at another moment, over fibres that are prepared for it, and steps that fit it
may_on : (each before : ℕ) (steps later : List Step) (r : HeldRing) (nodes : List Node) (moment : ℕ) (f g : Fibres)
    → MayRun each before steps r f → IsPrepared r.settings.rate (length r.ids) g
    → AreSteps r.settings.rate (length r.ids) (length r.circuits.circuits)
    (past_of before (record r { nodes = nodes; moment = moment })) later
    → MayRun each before later (record r { nodes = nodes; moment = moment }) g
may_on each before steps later r nodes moment f g h laid fit = record {
  whole = h.whole;
  prepared = laid;
  steps_fit = fit;
  few = h.few;
  begins = h.begins;
  rounds = h.rounds;
}

changed_may : (each before : ℕ) (s : Step) (later : List Step) (w : World) → (s ≡ step.Settle → ⊥)
    → MayRun each before (s ∷ later) w.ring w.fibres
    → MayRun each before later (world_after_step s w).ring (world_after_step s w).fibres
unfolding changed
changed_may each before (step.Fibre e) later w other h =
    may_on each before (step.Fibre e ∷ later) later w.ring _ _ w.fibres _ h
    (stay_prepared.apply w.ring.settings.rate (length w.ring.ids) w.fibres e.at.0 e.side e.condition h.steps_fit.0.in_ring.1 h.prepared)
    (fit_changed each before (step.Fibre e) later w other h)
changed_may each before (step.Order p d c) later w other h =
    may_on each before (step.Order p d c ∷ later) later w.ring _ _ w.fibres _ h h.prepared
    (fit_changed each before (step.Order p d c) later w other h)
changed_may each before (step.Hold p turns) later w other h =
    may_on each before (step.Hold p turns ∷ later) later w.ring _ _ w.fibres _ h h.prepared
    (fit_changed each before (step.Hold p turns) later w other h)
changed_may each before (step.Slip port turn count) later w other h =
    may_on each before (step.Slip port turn count ∷ later) later w.ring _ _ w.fibres _ h h.prepared
    (fit_changed each before (step.Slip port turn count) later w other h)
changed_may each before (step.Moment m) later w other h =
    may_on each before (step.Moment m ∷ later) later w.ring _ _ w.fibres _ h h.prepared
    (fit_changed each before (step.Moment m) later w other h)
changed_may each before step.Settle later w other h = absurd (other refl)

pub changed_next : (each before : ℕ) (s : Step) (w left : World) → (s ≡ step.Settle → ⊥) → left ≡ world_after_step s w
    → (later : List Step) → MayRun each before (s ∷ later) w.ring w.fibres → MayRun each before later left.ring left.fibres
changed_next each before s w left other is later h =
    subst (λ (v : World). MayRun each before later v.ring v.fibres) (sym is) (changed_may each before s later w other h)

-- a step leaves the nodes' identifiers and the circuits as they were
circuits_step : (s : Step) (w : World) → (world_after_step s w).ring.circuits ≡ w.ring.circuits
unfolding changed
circuits_step (step.Fibre e) w = refl
circuits_step s w = refl

pub changed_circuits : (s : Step) (w left : World) → left ≡ world_after_step s w → left.ring.circuits ≡ w.ring.circuits
changed_circuits s w left is = ap (λ (v : World). v.ring.circuits) is ∙ circuits_step s w

pub changed_ids : (s : Step) (w left : World) → left ≡ world_after_step s w → left.ring.ids ≡ w.ring.ids
changed_ids s w left is = ap (λ (v : World). v.ring.ids) is ∙ no_round.ids s w

-- a step of a script over a ring of add-drop multiplexers makes the changes that it says
pub stepped_is : (s : Step) (w : World) → stepped adm_changes s w ≡ world_after_step s w
unfolding changed
stepped_is (step.Fibre e) w = refl
stepped_is (step.Order at side command) w = refl
stepped_is (step.Moment now) w = refl
stepped_is (step.Hold at turns) w = refl
stepped_is (step.Slip port turn count) w = refl
stepped_is step.Settle w = refl
