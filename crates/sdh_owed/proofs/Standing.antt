-- What has happened in a script so far, and what is true of the world then.
use Rattle.std.proofs.Common.{◌≡◌, ◌⊎◌, ℕ, ◌+◌, ◌-◌, ◌<◌, ◌≤◌, Bool, true, false, List, [], ◌∷◌, ◌++◌, length, Option, Some, None, refl, ap}
use Rattle.std.proofs.Common.{sym, ◌∙◌, subst, arith, inl, inr}
use Rattle.std.specs.Prelude.{◌%◌, if◌then◌else◌, option_and_then}
use Rattle.std.specs.Option.{option_map_or}
use Rattle.std.proofs.lemmas.Bool.{cases_lt}
use Rattle.std.proofs.lemmas.Option.{slice_get_past, slice_get-get_or}
use Rattle.sdh_circuits.specs.declared.PortId.{PortId}
use Rattle.sdh_circuits.specs.Provisioned.{same_port}
use Rattle.sdh_circuits.specs.Provisioning.{Provisioning}
use Rattle.sdh_payload.specs.declared.clock.Turn.{Turn}
use Rattle.sdh_payload.specs.Clock.{Clock, new_clock, waiting, with_waiting}
use Rattle.sdh_plant.specs.Fibres.{Fibres}
use Rattle.sdh_ringmap.specs.Fibres.{IsConditionAt}
use Rattle.sdh_request.specs.declared.settings.Settings.{Settings}
use Rattle.sdh_terminal.specs.Tributaries.{Tributary, port_of}
use Rattle.sdh_node.specs.Node.{Node}
use Rattle.sdh_node.specs.Rings.Held.{HeldRing, new_ring, place_of_port, nowhere, node_at, AtEach}
use Rattle.sdh_node.specs.Rings.Rounds.{World}
use Rattle.sdh_node.specs.Rings.Runs.{run, course}
use Rattle.sdh_node.specs.Rings.Quiet.{EndsWindow, Settles}
use Rattle.sdh_restoration.specs.Changes as change
use Rattle.sdh_restoration.specs.Changes.{Change, Stretch, rounds_in}
use Rattle.sdh_promise.specs.Scenes.{changes_of}
use Rattle.sdh_node.specs.Rings.Changes.{changed, all_changed, after_stretch, after_stretches, new_world}
use Rattle.sdh_node.specs.Rings.Clocks.{clock_after, clock_at, waiting_at}
use Rattle.sdh_node.specs.Rings.Laws.{AreChangesOf, MayHappen}
use Rattle.sdh_rounds.specs.Laws.{EndsAtAMultiple}
use Rattle.sdh_terminal.proofs.Found.{found_has}
use Rattle.sdh_terminal.proofs.Slips.{waiting_more}
use Rattle.sdh_node.proofs.RingLaws.Waiting.{waits_changed, waits_new}
use Rattle.sdh_rounds.proofs.Laws.{settled_numbers}
use Rattle.sdh_rounds.proofs.Runs.{known_settles}
use Rattle.sdh_laws.specs.Hearing.Laws.{IsWhole, MayStart, NoneWait}
use Rattle.sdh_laws.proofs.hearing.Changes.{new_worlds_are_whole, whole_all}
use Rattle.sdh_laws.proofs.hearing.Requests.{whole_stretches, after_last}
use Rattle.sdh_laws.proofs.hearing.Staying.{left_all, left_run, left_stretches}
use Rattle.sdh_laws.proofs.hearing.Steady.{none_wait}
use Rattle.sdh_laws.specs.Carrying.Windows.{Layout, layout_in, layout_of, positions_of}
use Rattle.sdh_laws.proofs.carrying.Settles.{layout_all, layout_stretches}
use Rattle.sdh_plan.specs.declared.step.Step.{Step}
use Rattle.sdh_plan.specs.declared.step.Step.TheVariants as step
use Rattle.sdh_plan.specs.Steps.{Past, after, more_slips, is_settle}
use Rattle.sdh_plan.specs.Scripts as plan
use Rattle.sdh_promise.specs.Owed.{IsLast}
use Rattle.sdh_owed.specs.Steps.{world_after_step}
use Rattle.sdh_node.specs.Stations.{adm}
use Rattle.sdh_promise.proofs.Rounds.{rounds_last}
use Rattle.sdh_owed.specs.Running.{BeginsAtAMultiple}

-- ---- lists of changes and of stretches

changed_more : (cs ds : List Change) (w : World) → all_changed (cs ++ ds) w ≡ all_changed ds (all_changed cs w)
changed_more [] ds w = refl
changed_more (c ∷ cs) ds w = changed_more cs ds (changed c w)

changes_more : (cs ds : List Change) (w : World) → AreChangesOf w cs → AreChangesOf (all_changed cs w) ds → AreChangesOf w (cs ++ ds)
changes_more [] ds w may more = more
changes_more (c ∷ cs) ds w may more = (may.0, changes_more cs ds (changed c w) may.1 more)

pub happens_last : (ss : List Stretch) (s : Stretch) (w : World) → MayHappen w ss → AreChangesOf (after_stretches ss w) s.changes
    → MayHappen w (ss ++ s ∷ [])
happens_last [] s w may last = (last, tt)
happens_last (r ∷ ss) s w may last = (may.0, happens_last ss s (after_stretch r w) may.1 last)

-- ---- slips that wait

-- where none wait at any node, none do at any port
pub none_at : (r : HeldRing) → AtEach (λ p n. NoneWait n.ports) r.nodes → (port : PortId) → waiting_at r port ≡ 0
unfolding clock_at
none_at r none port =
    let p = place_of_port r port in
    elim (cases_lt p (length r.nodes)) [
      | inl low ↦ ap (λ o. waiting_by o) (slice_get-get_or r.nodes p nowhere low)
          ∙ by_port (node_at r.nodes p).ports (none p low) (port_of port (node_at r.nodes p).ports) refl
      | inr past ↦ ap (λ o. waiting_by o) (slice_get_past r.nodes p (omega arith))
    ]
  where
    waiting_by : Option Node → ℕ
    waiting_by o =
        waiting (option_map_or (λ (t : Tributary). t.feed.clock) (option_and_then (λ (n : Node). port_of port n.ports) o) (new_clock 0))

    by_port : (ts : List Tributary) → NoneWait ts → (o : Option Tributary) → port_of port ts ≡ o
        → waiting (option_map_or (λ (t : Tributary). t.feed.clock) o (new_clock 0)) ≡ 0
    by_port ts all None is = refl
    by_port ts all (Some t) is = (found_has (λ (u : Tributary). waiting u.feed.clock ≡ 0) port ts t all is).0

true_false : true ≡ false → ⊥
true_false e = cc

-- at each port at most as many slips wait as `slips` gives
abbrev pub WaitAtMost : World → (PortId → ℕ) → Type 0
WaitAtMost w slips = (port : PortId) → waiting_at w.ring port ≤ slips port

-- `slips` still bounds the slips that wait at a port's clock, once `count` more were added at some port
slips_grow : (port other : PortId) (turn : Turn) (count : ℕ) (slips : PortId → ℕ) (c : Clock) → waiting c ≤ slips port
    → waiting (if same_port port other then with_waiting turn count c else c) ≤ more_slips other count slips port
slips_grow port other turn count slips c few = by (same_port port other)
  where
    by : (b : Bool) → waiting (if b then with_waiting turn count c else c) ≤ (if b then slips port + count else slips port)
    by true = omega (arith, waiting_more turn count c, few)
    by false = few

-- the bounds stay the same over a change that adds no slips
few_same : (c : Change) (w : World) (slips : PortId → ℕ) → ((port : PortId)
    → clock_after port c (clock_at w.ring port) ≡ clock_at w.ring port) → WaitAtMost w slips → WaitAtMost (changed c w) slips
few_same c w slips same few port = omega (arith, waits_changed c w port, ap (λ (x : Clock). waiting x) (same port), few port)

-- no more slips wait than `slips` gives after any step but a settle step either
pub few_after : (this : Step) (past : Past) (w : World) → is_settle this ≡ false → WaitAtMost w past.slips
    → WaitAtMost (world_after_step this w) (after past this).slips
few_after (step.Fibre e) past w other few = few_same (change.Fibre e.at.0 e.side e.condition) w past.slips (λ port. refl) few
few_after (step.Order p d c) past w other few = few_same (change.Order p.0 d c) w past.slips (λ port. refl) few
few_after (step.Hold p turns) past w other few = few_same (change.Hold p.0 turns) w past.slips (λ port. refl) few
few_after (step.Slip port turn count) past w other few =
    λ q. omega (arith, waits_changed (change.Slip port turn count) w q, slips_grow q port turn count past.slips (clock_at w.ring q) (few q))
few_after (step.Moment m) past w other few = few_same (change.Now m.0) w past.slips (λ port. refl) few
few_after step.Settle past w other few = absurd (true_false other)

-- ---- settle steps

-- from there a step that ends has at least 128 rounds
pub long_step : (r left : HeldRing) (limit : ℕ) → BeginsAtAMultiple r → EndsAtAMultiple r left limit → BeginsAtAMultiple left × (r.rounds + 128 ≤ left.rounds)
long_step r left limit (inl none) ends = (inr ends.multiple, omega (arith, none, ends.later))
long_step r left limit (inr before) ends = (inr ends.multiple, long ends.ran ends.multiple)
  where
    long : r.rounds < left.rounds → (left.rounds - 1) % 128 ≡ 0 → r.rounds + 128 ≤ left.rounds
    long ran multiple = omega arith

-- ---- a script, step by step

module _ (s : Settings) (ids : List ℕ) (circuits : Provisioning) (f : Fibres) (may : MayStart s ids f) where
  abbrev pub l : Layout
  l = layout_in (new_ring s ids circuits)

  abbrev pub from : World
  from = new_world s ids circuits f

  -- a world in which these stretches have happened, and these changes since, which are those of a script's past
  pub record Stands (past : Past) (earlier : List Stretch) (changes : List Change) (w : World) : Type 0 where
    pub is : w ≡ all_changed changes (after_stretches earlier from)
    pub happened : MayHappen from earlier
    pub since : AreChangesOf (after_stretches earlier from) changes
    pub begins : BeginsAtAMultiple w.ring
    -- at each port at most as many slips wait as it was given since the last settle step
    pub few : WaitAtMost w past.slips

  module _ (past : Past) (earlier : List Stretch) (changes : List Change) (w : World) (h : Stands past earlier changes w) where
    pub whole : IsWhole w
    whole =
        subst IsWhole (sym h.is) (whole_all changes (after_stretches earlier from) h.since
        (whole_stretches earlier from h.happened (new_worlds_are_whole s ids circuits f may.ids_ok may.honest)))

    pub layout_is : layout_of w ≡ l
    layout_is = ap layout_of h.is ∙ layout_all changes (after_stretches earlier from) ∙ layout_stretches earlier from

    size : length w.ring.ids ≡ length ids
    size = ap positions_of layout_is

    ran : w.ring.rounds ≡ rounds_in earlier
    ran =
        let before = (left_all changes (after_stretches earlier from)).rounds in
        let behind = (left_stretches earlier from).rounds in
        omega (arith, ap (λ (x : World). x.ring.rounds) h.is, before, behind)

    -- the change that a step makes may happen
    fits : (this : Step) → plan.Fits s.rate (length ids) (length circuits.circuits) past this → AreChangesOf w (changes_of this)
    fits (step.Fibre e) fit = (subst (λ (x : Layout). IsConditionAt x.settings.rate e.condition) (sym layout_is) fit.in_ring.1, tt)
    fits (step.Order p d c) fit = (tt, tt)
    fits (step.Hold p turns) fit = (fit.in_ring.2, tt)
    fits (step.Slip port turn count) fit = (omega (arith, h.few port, fit.few_slips), tt)
    fits (step.Moment m) fit = (tt, tt)
    fits step.Settle fit = tt

    -- after any step but a settle step
    pub changed_then : (this : Step) → is_settle this ≡ false → plan.Fits s.rate (length ids) (length circuits.circuits) past this
        → Stands (after past this) earlier (changes ++ changes_of this) (world_after_step this w)
    changed_then this other fit = record {
      is = ap (world_after_step this) h.is ∙ sym (changed_more changes (changes_of this) (after_stretches earlier from));
      happened = h.happened;
      since =
          changes_more changes (changes_of this) (after_stretches earlier from) h.since
          (subst (λ v. AreChangesOf v (changes_of this)) h.is (fits this fit));
      begins = subst (λ n. (n ≡ 0) ⊎ ((n - 1) % 128 ≡ 0)) (let e = (left_all (changes_of this) w).rounds in omega arith) h.begins;
      few = few_after this past w other h.few;
    }

    -- ---- a settle step

    -- the stretch of the settle step that left this world
    abbrev pub stretch_to : World → Stretch
    stretch_to mid = record { changes = changes; rounds = mid.ring.rounds - 1 + 1 - rounds_in earlier }

    -- the settle step ended, and the script's history went on
    pub record Ended (limit : ℕ) (mid : World) : Type 0 where
      pub last : IsLast (length ids) limit (rounds_in earlier) (mid.ring.rounds - 1)
      pub happens : MayHappen from (earlier ++ stretch_to mid ∷ [])
      pub window : EndsWindow (course (all_changed changes (after_stretches earlier from))) (stretch_to mid).rounds
      pub many : rounds_in (earlier ++ stretch_to mid ∷ []) ≡ mid.ring.rounds - 1 + 1
      pub stands : Stands (after past step.Settle) (earlier ++ stretch_to mid ∷ []) [] mid

    pub settled_then : (mid : World) (limit : ℕ) → Settles w limit mid → Ended limit mid
    settled_then mid limit settles =
        let v = after_stretches earlier from in
        let known = known_settles adm w limit mid (inl whole.paired.honest.honest) settles in
        let k = known.0 in
        let ends : EndsWindow (course w) k = known.1.window in
        let numbers = settled_numbers adm w mid limit (omega (arith, size, may.ids_ok.enough)) settles in
        let long = long_step w.ring mid.ring limit h.begins numbers in
        let grown : mid.ring.rounds ≡ w.ring.rounds + k = ap (λ (x : World). x.ring.rounds) known.2 ∙ (left_run k w).rounds in
        let last = stretch_to mid in
        let count : k ≡ last.rounds = omega (arith, grown, long.1, ran) in
        let now = earlier ++ last ∷ [] in
        let happens : MayHappen from now = happens_last earlier last from h.happened h.since in
        let there : mid ≡ after_stretches now from =
        known.2 ∙ ap (λ j. run j w) count ∙ ap (run last.rounds) h.is ∙ sym (after_last earlier last from) in
        let held : length (run k w).ring.ids ≡ length ids = ap (λ (x : List ℕ). length x) (left_run k w).ids ∙ size in
        record {
          last = record {
            window = omega (arith, ends.long, held, grown, long.1, ran);
            within = omega (arith, known.1.within, grown, long.1, ran);
            multiple = numbers.multiple;
          };
          happens = happens;
          window = subst (λ j. EndsWindow (course (all_changed changes v)) j) count (subst (λ x. EndsWindow (course x) k) h.is ends);
          many = omega (arith, rounds_last earlier last, count, grown, long.1, ran);
          stands = record {
            is = there;
            happened = happens;
            since = tt;
            begins = long.0;
            few =
                λ port. (let none : waiting_at mid.ring port ≡ 0 = ap (λ (x : World). waiting_at x.ring port) known.2
                ∙ none_at (run k w).ring (none_wait w whole k (omega (arith, grown, long.1))) port in omega arith);
          };
        }

    -- the history of a settle step that has not ended
    pub may_go : MayHappen from (earlier ++ record { changes = changes; rounds = 0 } ∷ [])
    may_go = happens_last earlier (record { changes = changes; rounds = 0 }) from h.happened h.since

  -- before anything has happened
  pub stands_new : (past : Past) → Stands past [] [] from
  stands_new past = record {
    is = refl;
    happened = tt;
    since = tt;
    begins = inl refl;
    few = λ port. omega (arith, waits_new s ids circuits port);
  }
