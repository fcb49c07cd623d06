-- Over honest fibres each settle step of a script shows what the ring of signals does.
use Rattle.std.proofs.Common.{◌≡◌, ℕ, ◌+◌, ◌-◌, ◌≤◌, List, [], ◌∷◌, ◌++◌, length, refl, ap, sym, subst, ◌∙◌, arith, inl, inr}
use Rattle.std.proofs.Common.{append-nil}
use Rattle.std.proofs.lemmas.Bool.{cases_lt}
use Rattle.sdh_circuits.specs.Provisioning.{Provisioning}
use Rattle.sdh_plant.specs.Fibres.{Arrival, Fibres}
use Rattle.sdh_plant.specs.Arrivals.{Knows}
use Rattle.sdh_request.specs.declared.settings.Settings.{Settings}
use Rattle.sdh_signal.specs.Signals.{Signals}
use Rattle.sdh_signal.specs.Settled.{settled_states}
use Rattle.sdh_node.specs.Stations.{adm}
use Rattle.sdh_rounds.proofs.Runs.{course_whole, known_course, held_run}
use Rattle.sdh_node.specs.Rings.Held.{HeldRing}
use Rattle.sdh_node.specs.Rings.Rounds.{World}
use Rattle.sdh_node.specs.Rings.Runs.{run, run_with, ArriveIn, course_with}
use Rattle.sdh_node.specs.Rings.Quiet.{Settles}
use Rattle.sdh_node.specs.Rings.Changes.{all_changed, after_stretches, new_world}
use Rattle.sdh_node.specs.Rings.Laws.{MayHappen}
use Rattle.sdh_node.specs.Rings.Sides.{world_in}
use Rattle.sdh_plan.specs.declared.step.Step.{Step}
use Rattle.sdh_plan.specs.declared.step.Step.TheVariants as step
use Rattle.sdh_plan.specs.Steps.{Past, after}
use Rattle.sdh_plan.specs.Scripts.{AreSteps}
use Rattle.sdh_status.specs.declared.Status.{Status}
use Rattle.sdh_status.specs.declared.Status.TheVariants as status
use Rattle.sdh_restoration.specs.Changes.{Change, Stretch, rounds_in}
use Rattle.sdh_promise.specs.Scenes.{changes_of, scenes}
use Rattle.sdh_promise.specs.Owed.{Ring, requests_by, IsLast}
use Rattle.sdh_laws.specs.Hearing.Signalling.{signals_of}
use Rattle.sdh_laws.specs.Hearing.Laws.{MayStart, StretchesSettle}
use Rattle.sdh_laws.proofs.hearing.Requests.{after_last}
use Rattle.sdh_laws.proofs.hearing.Staying.{left_all, left_stretches, world_low, world_high, world_after}
use Rattle.sdh_laws.proofs.strangers.Keeping.{rounds_together, world_behind}
use Rattle.sdh_scripts.specs.Scripts as scripts
use Rattle.sdh_scripts.specs.Tellers.{SoFar}
use Rattle.sdh_scripts.proofs.Outcomes.{refused_ends}
use Rattle.sdh_owed.specs.Laws.{ring_by}
use Rattle.sdh_owed.proofs.Standing.{Stands, whole, changed_then, Ended, settled_then, stands_new, happens_last}
use Rattle.sdh_owed.proofs.Steps.{settled_held}
use Rattle.sdh_aps_cli.specs.Signalled as signalled
use Rattle.sdh_aps_cli.specs.Signalled.{Signalled, signalled_in, changes_shown_in}
use Rattle.sdh_aps_cli.specs.Scripts.{signalling_walk}
use Rattle.sdh_aps_cli.specs.ByScript.{signals_by}
use Rattle.sdh_aps_cli.specs.Owed.{all_changes_by, ShowsSignals, AreSignalled, AreOfTheNext}
use Rattle.sdh_aps_cli.specs.Laws.{Runs, ScriptsGoAsSignals, FirstRounds, StepsGoAsSignals}
use Rattle.sdh_aps_cli.proofs.Signals.{Laws, goes, rounds_show}

-- after a fault no more settle steps have to be shown
pub none_shown : (ring : Ring) (ids : List ℕ) (limit : ℕ) (earlier : List Stretch) (before : ℕ) (later : List (List Change)) (end : Status)
    → end ≡ status.PlantFault → AreSignalled ring ids limit earlier before later [] end
none_shown ring ids limit earlier before [] end h = (refl, inr h)
none_shown ring ids limit earlier before (changes ∷ later) end h = inr h

no_rounds : (xs : List (List Arrival)) → length xs ≤ 0 → xs ≡ []
no_rounds [] h = refl
no_rounds (x ∷ xs) h = absurd (omega arith)

-- what a settle step that ended shows is that of its rounds
shown_by_rounds : (limit number : ℕ) (w : World) (one : Signalled) (left : World) → scripts.Ended signalling_walk limit number w one left
    → (x : Settles w limit left) × (one ≡ signalled_in number (course_with x.rounds w) (length x.rounds))
shown_by_rounds limit number w one left e =
    let none : e.behind ≡ [] = no_rounds e.behind (let c = e.count in omega arith) in
    let k = length e.settles.rounds in
    subst (λ (v : World). (x : Settles w limit v) × (one ≡ signalled_in number (course_with x.rounds w) (length x.rounds)))
    (sym (e.left_is ∙ ap (λ rs. run_with rs e.mid) none)) (
      e.settles,
      e.told_is ∙ ap (λ rs. signalled_in number (course_with (e.settles.rounds ++ rs) w) k) none
          ∙ ap (λ rs. signalled_in number (course_with rs w) k) (append-nil e.settles.rounds),
    )

no_fault : status.Ok ≡ status.PlantFault → ⊥
no_fault e = cc

-- ---- a script, step by step

module _ (laws : Laws) (s : Settings) (ids : List ℕ) (circuits : Provisioning) (f : Fibres) (may : MayStart s ids f) where
  abbrev n : ℕ
  n = length ids

  abbrev from : World
  from = new_world s ids circuits f

  abbrev ring : Ring
  ring = ring_by s n circuits.circuits

  abbrev Now : Past → List Stretch → List Change → World → Type 0
  Now past earlier changes w = Stands s ids circuits f may past earlier changes w

  module _ (past : Past) (earlier : List Stretch) (changes : List Change) (w : World) (h : Now past earlier changes w) where
    abbrev ran : ℕ
    ran = rounds_in earlier

    abbrev begun : World
    begun = all_changed changes (after_stretches earlier from)

    abbrev last : ℕ → Stretch
    last k = record { changes = changes; rounds = k }

    -- the stretches so far, and one with k rounds of the settle step
    abbrev with_rounds : ℕ → List Stretch
    with_rounds k = earlier ++ last k ∷ []

    ran_is : w.ring.rounds ≡ ran
    ran_is =
        let before = (left_all changes (after_stretches earlier from)).rounds in
        let behind = (left_stretches earlier from).rounds in
        omega (arith, ap (λ (x : World). x.ring.rounds) h.is, before, behind)

    happens : (k : ℕ) → MayHappen from (with_rounds k)
    happens k = happens_last earlier (last k) from h.happened h.since

    in_last : (k j : ℕ) → j ≤ k → run j begun ≡ world_in (last k ∷ []) (after_stretches earlier from) j
    in_last k j few =
        let u = after_stretches earlier from in
        elim (cases_lt j k) [
          | inl low ↦ sym (world_low (last k) [] u j low)
          | inr high ↦ (let same : j ≡ k = omega arith in ap (λ i. run i begun) same ∙ sym (world_high (last k) [] u j high))
        ]

    -- the world after j rounds is one of the stretches with k
    there : (k j : ℕ) → j ≤ k → run j w ≡ world_in (with_rounds k) from (ran + j)
    there k j few = ap (run j) h.is ∙ in_last k j few ∙ sym (world_behind earlier (last k ∷ []) from j)

    knows : Knows w.fibres
    knows = inl (whole s ids circuits f may past earlier changes w h).paired.honest.honest

    -- these rounds show what the ring of signals does
    shows : (rounds : List (List Arrival)) → ArriveIn rounds w
        → changes_shown_in (length rounds) (course_with rounds w) ≡ all_changes_by ring ids (with_rounds (length rounds)) ran (length rounds)
    shows rounds arrive =
        let k = length rounds in
        let all = rounds_together earlier (last k ∷ []) in
        rounds_show laws s ids circuits f may (with_rounds k) (happens k) (course_with rounds w) ran k
        (λ j few. known_course adm rounds w j knows arrive few ∙ there k j few) (omega (arith, all))

    -- ---- a settle step that ended

    module _ (limit : ℕ) (mid : World) (x : Settles w limit mid) where
      abbrev t : ℕ
      t = mid.ring.rounds - 1

      -- how many rounds it had
      abbrev many : ℕ
      many = t + 1 - ran

      ended : Ended s ids circuits f may past earlier changes w h limit mid
      ended = settled_then s ids circuits f may past earlier changes w h mid limit x

      count : length x.rounds ≡ many
      count =
          let grown = ap (λ (r : HeldRing). r.rounds) (settled_held w mid limit x) in
          let long = ended.last.window in
          omega (arith, grown, ran_is, long, may.ids_ok.enough)

      changes_are : changes_shown_in (length x.rounds) (course_with x.rounds w) ≡ all_changes_by ring ids (with_rounds many) ran many
      changes_are = shows x.rounds x.arrive ∙ ap (λ k. all_changes_by ring ids (with_rounds k) ran k) count

      all_rounds : rounds_in (with_rounds many) ≡ t + 1
      all_rounds = ended.many

      left_is : world_in (with_rounds many) from (t + 1) ≡ run many begun
      left_is =
          ap (world_in (with_rounds many) from) (sym all_rounds) ∙ world_after (with_rounds many) from ∙ after_last earlier (last many) from

      states_are : StretchesSettle
          → (signals_by ring ids (with_rounds many) (t + 1)).states ≡ settled_states (requests_by ring (with_rounds many) t)
      states_are settle =
          ap (λ (y : Signals). y.states)
          (sym (goes laws s ids circuits f may (with_rounds many) (happens many) (t + 1) (omega (arith, all_rounds))))
          ∙ ap (λ (v : World). (signals_of v).states) left_is
          ∙ settle s ids circuits f earlier (last many) many t may (happens many) ended.window (omega (arith, may.ids_ok.enough)) (omega arith)
          all_rounds

      all_before : t + 1 ≡ mid.ring.rounds
      all_before = let long = ended.last.window in omega (arith, long, may.ids_ok.enough)

      last_round : (number : ℕ) (one : Signalled) → one ≡ signalled_in number (course_with x.rounds w) (length x.rounds)
          → one.rounds ≡ mid.ring.rounds
      last_round number one is =
          ap (λ (y : Signalled). y.rounds) is ∙ ap (λ (v : World). v.ring.rounds) (sym (x.left_is ∙ course_whole adm x.rounds w))

      -- it shows what it owes, and so do the later ones
      shown_then : StretchesSettle → (before : ℕ) (one : Signalled)
          → one ≡ signalled_in (before + 1) (course_with x.rounds w) (length x.rounds) → (later : List (List Change)) (rest : List Signalled)
          (end : Status) → AreSignalled ring ids limit (with_rounds many) (before + 1) later rest end
          → AreSignalled ring ids limit earlier before (changes ∷ later) (one ∷ rest) end
      shown_then settle before one is later rest end more =
          let Then = λ (all round : ℕ). (one.number ≡ before + 1) × IsLast n limit ran round
          × ShowsSignals ring ids (with_rounds (all - ran)) ran round one.changes
          × AreSignalled ring ids limit (with_rounds (all - ran)) (before + 1) later rest end in
          let now : Then (t + 1) t = (
            ap (λ (y : Signalled). y.number) is,
            ended.last,
            record { changes = ap (λ (y : Signalled). y.changes) is ∙ changes_are; settled = states_are settle },
            more,
          ) in
          let here : Then mid.ring.rounds (mid.ring.rounds - 1) = subst (λ (all : ℕ). Then all t) all_before now in
          subst (λ (all : ℕ). Then all (all - 1)) (sym (last_round (before + 1) one is)) here

      next_then : (number : ℕ) (one : Signalled) → one ≡ signalled_in number (course_with x.rounds w) (length x.rounds)
          → (later : List (List Change)) (rest : List Signalled) (k : ℕ) (shown : List signalled.ShownChange)
          → AreOfTheNext ring ids (with_rounds many) later rest k shown
          → AreOfTheNext ring ids earlier (changes ∷ later) (one ∷ rest) k shown
      next_then number one is later rest k shown more =
          subst (λ (all : ℕ). AreOfTheNext ring ids (with_rounds (all - ran)) later rest k shown)
          (all_before ∙ sym (last_round number one is)) more

    -- ---- a settle step so far

    -- all of its rounds were in the step
    first_in : (limit number : ℕ) (one : Signalled) (mid : World) (later : List (List Change)) (rounds : List (List Arrival))
        → ArriveIn rounds w → length rounds ≤ limit → mid ≡ run_with rounds w
        → one ≡ signalled_in number (course_with rounds w) (length rounds)
        → FirstRounds ring ids limit earlier (changes ∷ later) [] w one mid
    first_in limit number one mid later rounds arrive few mid_is is = record {
      count = length rounds;
      few = few;
      ran =
          ap (λ (v : World). v.ring.rounds) mid_is ∙ ap (λ (r : HeldRing). r.rounds) (held_run adm rounds w);
      shown = ap (λ (y : Signalled). y.changes) is ∙ shows rounds arrive;
    }

    first_here : (limit number : ℕ) (one : Signalled) (mid : World) (later : List (List Change)) → SoFar signalling_walk limit number w one mid
        → FirstRounds ring ids limit earlier (changes ∷ later) [] w one mid
    first_here limit number one mid later (inl x) = first_in limit number one mid later x.rounds x.arrive x.few x.mid_is x.told_is
    first_here limit number one mid later (inr x) =
        let none : x.rounds ≡ [] = no_rounds x.rounds x.few in
        let k = length x.settles.rounds in
        first_in limit number one mid later x.settles.rounds x.settles.arrive x.settles.settles.within
        (x.mid_is ∙ ap (λ rs. run_with rs x.settled) none ∙ x.settles.left_is)
        (x.told_is ∙ ap (λ rs. signalled_in number (course_with (x.settles.rounds ++ rs) w) k) none
        ∙ ap (λ rs. signalled_in number (course_with rs w) k) (append-nil x.settles.rounds))

  -- ---- all steps

  walk : StretchesSettle → (limit before : ℕ) (past : Past) (earlier : List Stretch) (changes : List Change) (steps : List Step) (w : World)
      (told : List Signalled) (end : Status) (left : World)
      → Now past earlier changes w → AreSteps s.rate (length ids) (length circuits.circuits) past steps
      → Runs limit before steps w told end left → AreSignalled ring ids limit earlier before (scenes changes steps) told end
  walk settle limit before past earlier changes [] w told end left h each x = (x.1.0, inl x.1.1)
  walk settle limit before past earlier changes (step.Settle ∷ later) w told end left h each (inl (one, mid, rest, done, is, x)) =
      let e = shown_by_rounds limit (before + 1) w one mid done in
      let there = settled_then s ids circuits f may past earlier changes w h mid limit e.0 in
      subst (λ rs. AreSignalled ring ids limit earlier before (scenes changes (step.Settle ∷ later)) rs end) (sym is)
      (shown_then past earlier changes w h limit mid e.0 settle before one e.1 (scenes [] later) rest end
      (walk settle limit (before + 1) (after past step.Settle) _ [] later mid rest end left there.stands each.1 x))
  walk settle limit before past earlier changes (step.Settle ∷ later) w told end left h each (inr (inl x)) =
      subst (λ rs. AreSignalled ring ids limit earlier before (scenes changes (step.Settle ∷ later)) rs end) (sym x.1.0) (inl x.1.1)
  walk settle limit before past earlier changes (step.Settle ∷ later) w told end left h each (inr (inr x)) =
      subst (λ rs. AreSignalled ring ids limit earlier before (scenes changes (step.Settle ∷ later)) rs end) (sym x.1.0) (inr x.1.1)
  walk settle limit before past earlier changes (this ∷ later) w told end left h each x =
      elim x [
        | inl goes_on ↦ walk settle limit before (after past this) earlier (changes ++ changes_of this) later _ told end left
            (changed_then s ids circuits f may past earlier changes w h this refl each.0) each.1 goes_on
        | inr refused ↦
            let stops = refused_ends this w told end left refused in
            subst (λ rs. AreSignalled ring ids limit earlier before (scenes changes (this ∷ later)) rs end) (sym stops.0)
            (none_shown ring ids limit earlier before (scenes changes (this ∷ later)) end stops.1)
      ]

  walk_next : (limit before : ℕ) (past : Past) (earlier : List Stretch) (changes : List Change) (gone later : List Step) (w : World)
      (told : List Signalled) (left : World) (number : ℕ) (one : Signalled) (mid : World)
      → Now past earlier changes w → AreSteps s.rate (length ids) (length circuits.circuits) past (gone ++ step.Settle ∷ later)
      → Runs limit before gone w told status.Ok left → SoFar signalling_walk limit number left one mid
      → FirstRounds ring ids limit earlier (scenes changes (gone ++ step.Settle ∷ later)) told left one mid
  walk_next limit before past earlier changes [] later w told left number one mid h each x so_far =
      let here =
      first_here past earlier changes w h limit number one mid (scenes [] later)
      (subst (λ (v : World). SoFar signalling_walk limit number v one mid) x.0 so_far) in
      subst (λ (v : World). FirstRounds ring ids limit earlier (changes ∷ scenes [] later) told v one mid) (sym x.0)
      (subst (λ rs. FirstRounds ring ids limit earlier (changes ∷ scenes [] later) rs w one mid) (sym x.1.0) here)
  walk_next limit before past earlier changes (step.Settle ∷ gone) later w told left number one mid h each
      (inl (was, next, rest, done, is, x)) so_far =
      let e = shown_by_rounds limit (before + 1) w was next done in
      let there = settled_then s ids circuits f may past earlier changes w h next limit e.0 in
      let more =
      walk_next limit (before + 1) (after past step.Settle) _ [] gone later next rest left number one mid there.stands each.1 x so_far in
      subst (λ rs. FirstRounds ring ids limit earlier (scenes changes (step.Settle ∷ gone ++ step.Settle ∷ later)) rs left one mid) (sym is)
      (record {
        count = more.count;
        few = more.few;
        ran = more.ran;
        shown =
            next_then past earlier changes w h limit next e.0 (before + 1) was e.1 (scenes [] (gone ++ step.Settle ∷ later)) rest
            more.count one.changes more.shown;
      })
  walk_next limit before past earlier changes (step.Settle ∷ gone) later w told left number one mid h each (inr (inl x)) so_far =
      absurd (grind (arith, x.1.1))
  walk_next limit before past earlier changes (step.Settle ∷ gone) later w told left number one mid h each (inr (inr x)) so_far =
      absurd (no_fault x.1.1)
  walk_next limit before past earlier changes (this ∷ gone) later w told left number one mid h each x so_far =
      elim x [
        | inl goes_on ↦ walk_next limit before (after past this) earlier (changes ++ changes_of this) gone later _ told left number one mid
            (changed_then s ids circuits f may past earlier changes w h this refl each.0) each.1 goes_on so_far
        | inr refused ↦ absurd (no_fault (refused_ends this w told status.Ok left refused).1)
      ]

-- ---- the laws

pub scripts_go_as_signals : Laws → StretchesSettle → ScriptsGoAsSignals
scripts_go_as_signals laws settle s ids circuits f may limit past steps each told end left x =
    walk laws s ids circuits f may settle limit 0 past [] [] steps (new_world s ids circuits f) told end left
    (stands_new s ids circuits f may past) each x

pub steps_go_as_signals : Laws → StepsGoAsSignals
steps_go_as_signals laws s ids circuits f may limit past gone later each told w x number one mid so_far =
    walk_next laws s ids circuits f may limit 0 past [] [] gone later (new_world s ids circuits f) told w number one mid
    (stands_new s ids circuits f may past) each x so_far
