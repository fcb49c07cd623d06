-- A script's history over honest fibres: of each settle step that ended the watches show what is owed.
use Rattle.std.proofs.Common.{◌≡◌, ℕ, zero, suc, ◌+◌, ◌-◌, ◌*◌, ◌<◌, ◌≤◌, Bool, List, [], ◌∷◌, ◌++◌, length, Some, refl, ap, sym, ◌∙◌}
use Rattle.std.proofs.Common.{subst, arith, inl, inr}
use Rattle.std.specs.Prelude.{◌%◌, slice_get, map}
use Rattle.std.specs.Option.{option_map_or}
use Rattle.sdh_circuits.specs.declared.End.{End}
use Rattle.sdh_circuits.specs.declared.End.TheVariants.{A, B}
use Rattle.sdh_circuits.specs.declared.PortId.{PortId}
use Rattle.sdh_circuits.specs.Ends.{other_end}
use Rattle.sdh_circuits.specs.Provisioned.{Provisioned, customer_at}
use Rattle.sdh_circuits.specs.Provisioning.{Provisioning}
use Rattle.sdh_payload.specs.Clock.{Clock, new_clock, waiting, ticks}
use Rattle.sdh_payload.specs.History.{Happening}
use Rattle.sdh_restoration.specs.Applied.{is_applied}
use Rattle.sdh_plant.specs.Fibres.{Fibres}
use Rattle.sdh_request.specs.declared.settings.Settings.{Settings}
use Rattle.sdh_node.specs.Stations.{adm}
use Rattle.sdh_rounds.specs.Runs as any_run
use Rattle.sdh_rounds.proofs.Laws.{settled_numbers}
use Rattle.sdh_rounds.proofs.Runs.{known_settles}
use Rattle.sdh_node.specs.Rings.Held.{HeldRing, new_ring}
use Rattle.sdh_node.specs.Rings.Rounds.{World, round}
use Rattle.sdh_node.specs.Rings.Runs.{run, course}
use Rattle.sdh_node.specs.Rings.Quiet.{is_calm, IsCalm, EndsWindow, Settles}
use Rattle.sdh_restoration.specs.Changes.{Change, Stretch, rounds_in}
use Rattle.sdh_promise.specs.Scenes.{changes_of, scenes}
use Rattle.sdh_restoration.specs.Happened.{happened}
use Rattle.sdh_promise.specs.Owed.{Ring, requests_by, owed_port, owed_ports, IsLast}
use Rattle.sdh_promise.proofs.Rounds.{rounds_last}
use Rattle.sdh_node.specs.Rings.Changes.{all_changed, after_stretches, new_world}
use Rattle.sdh_node.specs.Rings.Clocks.{HasPortIn, clock_at, waiting_at, clock_in, first_clock, clocks_from, clocks_by}
use Rattle.sdh_node.specs.Rings.Laws.{MayHappen}
use Rattle.sdh_node.proofs.RingLaws.Clocks.{clocks_go_on, goes_run}
use Rattle.sdh_laws.specs.Hearing.Laws.{IsWhole, MayStart}
use Rattle.sdh_laws.proofs.hearing.Changes.{new_worlds_are_whole}
use Rattle.sdh_laws.proofs.hearing.Requests.{after_last}
use Rattle.sdh_laws.proofs.hearing.Staying.{left_run}
use Rattle.sdh_laws.proofs.hearing.Steady.{none_wait}
use Rattle.sdh_laws.specs.Carrying.Windows.{Layout, layout_in, layout_of, positions_of, HasCircuits, span_requests_of}
use Rattle.sdh_laws.specs.Carrying.Laws.{due_by_clocks, IsRestored, SettledRingsRestore}
use Rattle.sdh_laws.proofs.carrying.Owed.{port_is_there, offset_small}
use Rattle.sdh_laws.proofs.carrying.Ways.{layout_run}
use Rattle.sdh_laws.proofs.converging.Runs.{run_more}
use Rattle.sdh_signal.specs.Walks.{port_at}
use Rattle.sdh_signal.proofs.Ways.{end_inside}
use Rattle.sdh_laws.specs.Resting.Rest.{IsAtRest}
use Rattle.sdh_laws.specs.Resting.Laws.{StepsLeaveAtRest}
use Rattle.sdh_laws.proofs.resting.Resting.{known_round, rest_goes_on}
use Rattle.sdh_plan.specs.declared.step.Step.{Step}
use Rattle.sdh_plan.specs.declared.step.Step.TheVariants as step
use Rattle.sdh_plan.specs.Steps.{Past, after}
use Rattle.sdh_plan.specs.Scripts.{AreSteps}
use Rattle.sdh_status.specs.declared.Status.{Status}
use Rattle.sdh_status.specs.declared.Status.TheVariants as status
use Rattle.sdh_owed.specs.Laws.{ring_by}
use Rattle.sdh_scripts.proofs.Outcomes.{refused_ends}
use Rattle.sdh_owed.proofs.Ports.{due_told}
use Rattle.sdh_owed.proofs.Standing.{Stands, layout_is, whole, changed_then, stretch_to, Ended, settled_then, stands_new, none_at, happens_last}
use Rattle.sdh_owed.proofs.Standing.{long_step}
use Rattle.sdh_path.specs.History.{Given}
use Rattle.sdh_watch.specs.Shows.{Watched}
use Rattle.sdh_watch.specs.Watching.{Lead, port_watched, ports_watched, watched}
use Rattle.sdh_watch.specs.Scripts.{Watches}
use Rattle.sdh_watch.specs.Owed.{clean_watch, owed_watch, AreClean}
use Rattle.sdh_watch.specs.Laws.{WatchesAreClean}
use Rattle.sdh_watch.proofs.Rounds.{watched_by}
use Rattle.sdh_watch.proofs.Clean.{rest_shows, last_due}
use Rattle.sdh_watch.proofs.Plainly.{GoesPlainly, IsInStep, step_first, plainly}

-- after a fault no more reports are owed
pub clean_none : (ring : Ring) (limit : ℕ) (earlier : List Stretch) (before : ℕ) (later : List (List Change)) (end : Status)
    → end ≡ status.PlantFault → AreClean ring limit earlier before later [] end
clean_none ring limit earlier before [] end h = (refl, inr h)
clean_none ring limit earlier before (changes ∷ later) end h = inr h

-- the watches on the ports of the circuits from a place on
watches_are : (r : HeldRing) (heard : PortId → List Given) (n : ℕ) (applied : ℕ → Bool) (before : PortId → ℕ → List Happening) (t index : ℕ)
    (cs : List Provisioned)
    → ((k : ℕ) (c : Provisioned) → slice_get cs k ≡ Some c → (e : End)
    → port_watched r heard (index + k) c e ≡ owed_watch (owed_port n applied before t (index + k) c e))
    → ports_watched r heard index cs ≡ map owed_watch (owed_ports n applied before t index cs)
watches_are r heard n applied before t index [] h = refl
watches_are r heard n applied before t index (c ∷ cs) h =
    let Shows = λ (d : Provisioned) (e : End) (i : ℕ). port_watched r heard i d e ≡ owed_watch (owed_port n applied before t i d e) in
    let here : index + 0 ≡ index = omega arith in
    let one = λ (e : End). subst (Shows c e) here (h 0 c refl e) in
    ap (λ x. x ∷ port_watched r heard index c B ∷ ports_watched r heard (index + 1) cs) (one A)
    ∙ ap (λ x. owed_watch (owed_port n applied before t index c A) ∷ x ∷ ports_watched r heard (index + 1) cs) (one B)
    ∙ ap (λ l. owed_watch (owed_port n applied before t index c A) ∷ owed_watch (owed_port n applied before t index c B) ∷ l)
    (watches_are r heard n applied before t (index + 1) cs (λ k d get e. (
    let next : index + suc k ≡ index + 1 + k = omega arith in
    subst (Shows d e) next (h (suc k) d get e))))

-- rounds of a ring at rest are those of a run
lead_run : (clocks : PortId → ℕ → Clock) (k : ℕ) (w left : World) (heard : PortId → List Given) → IsAtRest clocks w → Lead k w left heard
    → (left ≡ run k w) × IsAtRest clocks left
unfolding any_run.run
lead_run clocks zero w left heard rests lead = (lead.0, subst (IsAtRest clocks) (sym lead.0) rests)
lead_run clocks (suc k) w left heard rests (mid, before, lead, is, more) =
    let so = lead_run clocks k w mid before rests lead in
    (known_round mid left so.1.whole is ∙ ap round so.0, (rest_goes_on mid left is clocks so.1).rests)

-- ---- a script, step by step

module _ (law : SettledRingsRestore) (rest : StepsLeaveAtRest) (s : Settings) (ids : List ℕ) (circuits : Provisioning) (f : Fibres)
    (may : MayStart s ids f) (form : HasCircuits (layout_in (new_ring s ids circuits))) where
  abbrev pub l : Layout
  l = layout_in (new_ring s ids circuits)

  abbrev ring : Ring
  ring = ring_by s (length ids) circuits.circuits

  abbrev pub from : World
  from = new_world s ids circuits f

  abbrev pub Now : Past → List Stretch → List Change → World → Type 0
  Now past earlier changes w = Stands s ids circuits f may past earlier changes w

  module _ (past : Past) (earlier : List Stretch) (changes : List Change) (w : World) (h : Now past earlier changes w) (limit : ℕ)
      (mid left : World) (heard : PortId → List Given) (settles : Settles w limit mid) (lead : Lead 128 mid left heard) where
    abbrev v : World
    v = all_changed changes (after_stretches earlier from)

    whole_w : IsWhole w
    whole_w = whole s ids circuits f may past earlier changes w h

    layout_w : layout_of w ≡ l
    layout_w = layout_is s ids circuits f may past earlier changes w h

    ended : Ended s ids circuits f may past earlier changes w h limit mid
    ended = settled_then s ids circuits f may past earlier changes w h mid limit settles

    abbrev last : Stretch
    last = stretch_to s ids circuits f may past earlier changes w h mid

    rests : IsAtRest (clocks_from w) mid
    rests = rest w mid limit (subst HasCircuits (sym layout_w) form) settles whole_w

    ran : (left ≡ run 128 mid) × IsAtRest (clocks_from w) left
    ran = lead_run (clocks_from w) 128 mid left heard rests lead

    -- how many rounds the step had
    long : w.ring.rounds + 128 ≤ mid.ring.rounds
    long =
        (long_step w.ring mid.ring limit h.begins (settled_numbers adm w mid limit
        (omega (arith, ap positions_of layout_w, may.ids_ok.enough)) settles)).1

    known : (k : ℕ) × (mid ≡ run k w) × (mid.ring.rounds ≡ w.ring.rounds + k)
    known =
        let is = known_settles adm w limit mid (inl whole_w.paired.honest.honest) settles in
        (is.0, is.2, ap (λ (x : World). x.ring.rounds) is.2 ∙ (left_run is.0 w).rounds)

    grown : left.ring.rounds ≡ mid.ring.rounds + 128
    grown = ap (λ (x : World). x.ring.rounds) ran.0 ∙ (left_run 128 mid).rounds

    -- ---- the history goes on

    abbrev pub stretch : Stretch
    stretch = stretch_to s ids circuits f may past earlier changes w h left

    abbrev pub now : List Stretch
    now = earlier ++ stretch ∷ []

    abbrev pub t : ℕ
    t = left.ring.rounds - 1

    few : rounds_in earlier ≤ mid.ring.rounds
    few = omega (arith, ended.many, rounds_last earlier last, long)

    mid_is : mid ≡ run last.rounds v
    mid_is = ended.stands.is ∙ after_last earlier last from

    left_is : left ≡ run stretch.rounds v
    left_is =
        ran.0 ∙ ap (run 128) mid_is ∙ run_more v last.rounds 128
        ∙ ap (λ k. run k v) (let e : 128 + last.rounds ≡ stretch.rounds = omega (arith, few, grown, long) in e)

    left_after : left ≡ after_stretches now from
    left_after = left_is ∙ sym (after_last earlier stretch from)

    layout_mid : layout_of mid ≡ l
    layout_mid = layout_is s ids circuits f may (after past step.Settle) (earlier ++ last ∷ []) [] mid ended.stands

    layout_left : layout_of left ≡ l
    layout_left = ap layout_of ran.0 ∙ layout_run mid 128 ∙ layout_mid

    happens : MayHappen from now
    happens = happens_last earlier stretch from h.happened h.since

    many : rounds_in now ≡ t + 1
    many = omega (arith, rounds_last earlier stretch, few, grown, long)

    place : (left.ring.rounds - 1) % 128 ≡ 0
    place = (let before = ended.last.multiple in omega (arith, before, grown, long))

    window : EndsWindow (course v) stretch.rounds
    window = record {
      long = omega (arith, ids_few, few, grown, long);
      calm = λ j low high. calm_at j (omega (arith, low, ids_few, few, grown, long)) high;
      place = subst (λ (x : World). (x.ring.rounds - 1) % 128 ≡ 0) left_is place;
    }
      where
        ids_few : length (run stretch.rounds v).ring.ids ≤ 16
        ids_few = omega (arith, may.ids_ok.few, ap (λ (x : World). length x.ring.ids) (sym left_is) ∙ ap positions_of layout_left)

        calm_at : (j : ℕ) → last.rounds < j → j ≤ stretch.rounds → IsCalm (course v) j
        calm_at j low high =
            let same : run (j - last.rounds) mid ≡ run j v =
            ap (run (j - last.rounds)) mid_is ∙ run_more v last.rounds (j - last.rounds)
            ∙ ap (λ i. run i v) (let e : j - last.rounds + last.rounds ≡ j = omega arith in e) in
            ap (λ (x : World). is_calm x.ring.nodes) (sym same) ∙ rests.calm (j - last.rounds) (omega arith)

    abbrev requests : List ℕ
    requests = requests_by ring now t

    restored : IsRestored (clocks_by circuits.circuits now) left requests
    restored =
        subst (λ x. IsRestored (clocks_by circuits.circuits now) x requests) (sym left_after)
        (law s ids circuits f earlier stretch t may happens form window many)

    none_left : (port : PortId) → waiting_at left.ring port ≡ 0
    none_left port =
        ap (λ (x : World). waiting_at x.ring port) ran.0 ∙ none_at (run 128 mid).ring (none_wait mid rests.whole 128 (omega arith)) port

    pub stands : Now (after past step.Settle) now [] left
    stands = record {
      is = left_after;
      happened = happens;
      since = tt;
      begins = inr place;
      few = λ port. omega (arith, none_left port);
    }

    -- ---- a port

    module _ (index : ℕ) (c : Provisioned) (get : slice_get circuits.circuits index ≡ Some c) (e : End) where
      abbrev far : PortId
      far = record { circuit = index; end = e }

      at_layout : (x : World) → layout_of x ≡ l → slice_get x.ring.circuits.circuits index ≡ Some c
      at_layout x same = ap (λ (y : Layout). slice_get y.circuits index) same ∙ get

      there_from : HasPortIn from.ring far
      there_from =
          port_is_there from (new_worlds_are_whole s ids circuits f may.ids_ok may.honest) index c e get
          (end_inside (length ids) _ circuits.circuits form index c get e)

      there_w : HasPortIn w.ring far
      there_w =
          port_is_there w whole_w index c e (at_layout w layout_w)
          (subst (λ (y : Layout). port_at c e < positions_of y) (sym layout_w)
          (end_inside (length ids) _ circuits.circuits form index c get e))

      small : (customer_at c e).offset ≤ 782
      small = offset_small circuits.circuits form.offsets index c get e

      clock_first : clock_at from.ring far ≡ new_clock (customer_at c e).offset
      unfolding first_clock
      clock_first =
          clocks_go_on.new s ids circuits far there_from ∙ ap
          (λ o. new_clock (option_map_or (λ (x : Provisioned). (customer_at x e).offset) o 0)) get

      in_step : IsInStep (customer_at c e).offset (clock_at w.ring far)
      unfolding any_run.run
      in_step =
          let none : Stretch = record { changes = changes; rounds = 0 } in
          let ss = earlier ++ none ∷ [] in
          let is : w ≡ after_stretches ss from = h.is ∙ sym (after_last earlier none from) in
          let told : clock_at w.ring far ≡ clock_in far ss (new_clock (customer_at c e).offset) (rounds_in ss) =
          ap (λ (x : World). clock_at x.ring far) is ∙ clocks_go_on.behind ss from far there_from
          ∙ ap (λ k. clock_in far ss k (rounds_in ss)) clock_first in
          subst (IsInStep (customer_at c e).offset) (sym told) (step_first (customer_at c e).offset far ss (rounds_in ss) small)

      n_few : length mid.ring.ids ≤ 16
      n_few = omega (arith, may.ids_ok.few, ap positions_of layout_mid)

      goes_plainly : GoesPlainly (clocks_from w far) (customer_at c e).offset (mid.ring.rounds - 2 * length mid.ring.ids)
      goes_plainly =
          let j = known.0 - 2 * length mid.ring.ids in
          let late : 68 ≤ j = omega (arith, known.2, long, n_few) in
          let none : waiting (ticks j (clock_at w.ring far)) ≡ 0 =
          ap (λ (k : Clock). waiting k) (sym (goes_run far j w there_w).1) ∙ none_at (run j w).ring (none_wait w whole_w j late) far in
          subst (GoesPlainly (clocks_from w far) (customer_at c e).offset)
          (let same : w.ring.rounds + j ≡ mid.ring.rounds - 2 * length mid.ring.ids = omega (arith, known.2, long, n_few) in same)
          (plainly w far (customer_at c e).offset j in_step none)

    watch_is : (index : ℕ) (c : Provisioned) → slice_get left.ring.circuits.circuits index ≡ Some c → (e : End)
        → port_watched left.ring heard index c e ≡ owed_watch
        (owed_port (length left.ring.ids) (is_applied requests) (happened now) t index c e)
    watch_is index c get e =
        let first : slice_get circuits.circuits index ≡ Some c = ap (λ (y : Layout). slice_get y.circuits index) (sym layout_left) ∙ get in
        let here : slice_get mid.ring.circuits.circuits index ≡ Some c =
        ap (λ (y : Layout). slice_get y.circuits index) (layout_mid ∙ sym layout_left) ∙ get in
        let clocks = clocks_from w (record { circuit = index; end = other_end e }) in
        let n = length left.ring.ids in
        let late : 2 * length mid.ring.ids ≤ mid.ring.rounds = omega (arith, long, n_few index c first e) in
        rest_shows (clocks_from w) mid left heard (subst HasCircuits (sym layout_mid) form) rests lead index c here e late
        (goes_plainly index c first (other_end e))
        ∙ ap (clean_watch c.name e) (
        ap (λ m. due_by_clocks m (is_applied (span_requests_of left)) c e clocks t) (ap positions_of (layout_mid ∙ sym layout_left))
        ∙ sym (last_due (clocks_from w) mid left heard 127 rests lead index c get e)
        ∙ restored.ports index c get e
        ∙ due_told n (is_applied requests) circuits.circuits now index c e t first (small index c first (other_end e))
        )

    watches : ports_watched left.ring heard 0 left.ring.circuits.circuits
        ≡ map owed_watch (owed_ports (length ids) (is_applied requests) (happened now) t 0 circuits.circuits)
    watches =
        watches_are left.ring heard (length left.ring.ids) (is_applied requests) (happened now) t 0 left.ring.circuits.circuits
        (λ k c get e. (
        let same : k ≡ 0 + k = omega arith in
        subst (λ i. port_watched left.ring heard i c e ≡ owed_watch
        (owed_port (length left.ring.ids) (is_applied requests) (happened now) t i c e)) same (watch_is k c get e)))
        ∙ ap (λ (y : Layout). map owed_watch (owed_ports (positions_of y) (is_applied requests) (happened now) t 0 y.circuits)) layout_left

  walk : (limit before : ℕ) (past : Past) (earlier : List Stretch) (changes : List Change) (steps : List Step) (w : World)
      (reports : List Watched) (end : Status) (left : World)
      → Now past earlier changes w → AreSteps s.rate (length ids) (length circuits.circuits) past steps
      → Watches limit before steps w reports end left → AreClean ring limit earlier before (scenes changes steps) reports end
  walk limit before past earlier changes [] w reports end left h each x = (x.1.0, inl x.1.1)
  walk limit before past earlier changes (step.Settle ∷ later) w reports end left h each (inl (told, next, others, ended_is, told_is, x)) =
      let is = watched_by limit (before + 1) w told next ended_is in
      let mid = is.mid in
      let heard = is.heard in
      let same : reports ≡ watched (before + 1) mid.ring next.ring heard ∷ others = told_is ∙ ap (λ r. r ∷ others) is.told_is in
      let Shows = λ (u : ℕ). (let now = earlier ++ record { changes = changes; rounds = u + 1 - rounds_in earlier } ∷ [] in
      (before + 1 ≡ before + 1) × IsLast (length ids) limit (rounds_in earlier) (mid.ring.rounds - 1)
      × (ports_watched next.ring heard 0 next.ring.circuits.circuits
      ≡ map owed_watch (owed_ports (length ids) (is_applied (requests_by ring now u)) (happened now) u 0 circuits.circuits))
      × AreClean ring limit now (before + 1) (scenes [] later) others end) in
      let there = stands past earlier changes w h limit mid next heard is.settles is.rounds in
      let shown : Shows (next.ring.rounds - 1) = (
        refl,
        (ended past earlier changes w h limit mid next heard is.settles is.rounds).last,
        watches past earlier changes w h limit mid next heard is.settles is.rounds,
        walk limit (before + 1) (after past step.Settle) _ [] later next others end left there each.1 x,
      ) in
      let long = long past earlier changes w h limit mid next heard is.settles is.rounds in
      let grown = grown past earlier changes w h limit mid next heard is.settles is.rounds in
      let round : next.ring.rounds - 1 ≡ mid.ring.rounds - 1 + 128 = omega (arith, long, grown) in
      subst (λ rs. AreClean ring limit earlier before (scenes changes (step.Settle ∷ later)) rs end) (sym same) (subst Shows round shown)
  walk limit before past earlier changes (step.Settle ∷ later) w reports end left h each (inr (inl x)) =
      subst (λ rs. AreClean ring limit earlier before (scenes changes (step.Settle ∷ later)) rs end) (sym x.1.0) (inl x.1.1)
  walk limit before past earlier changes (step.Settle ∷ later) w reports end left h each (inr (inr x)) =
      subst (λ rs. AreClean ring limit earlier before (scenes changes (step.Settle ∷ later)) rs end) (sym x.1.0) (inr x.1.1)
  walk limit before past earlier changes (this ∷ later) w reports end left h each x =
      elim x [
        | inl goes ↦ walk limit before (after past this) earlier (changes ++ changes_of this) later _ reports end left
            (changed_then s ids circuits f may past earlier changes w h this refl each.0) each.1 goes
        | inr refused ↦
            let stops = refused_ends this w reports end left refused in
            subst (λ rs. AreClean ring limit earlier before (scenes changes (this ∷ later)) rs end) (sym stops.0)
            (clean_none ring limit earlier before (scenes changes (this ∷ later)) end stops.1)
      ]

pub watches_clean : SettledRingsRestore → StepsLeaveAtRest → WatchesAreClean
watches_clean law rest s ids circuits f may form limit past steps each reports end left x =
    walk law rest s ids circuits f may form limit 0 past [] [] steps (new_world s ids circuits f) reports end left
    (stands_new s ids circuits f may past) each x
