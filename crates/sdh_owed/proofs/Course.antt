-- Every script over honest fibres has a course.
use Rattle.std.proofs.Common.{◌≡◌, ◌⊎◌, ℕ, ◌+◌, ◌-◌, List, [], ◌∷◌, ◌++◌, length, refl, ap, sym, ◌∙◌, subst, arith, inl, inr, append_assoc}
use Rattle.std.proofs.Common.{append-nil}
use Rattle.sdh_circuits.specs.Provisioning.{Provisioning}
use Rattle.sdh_plant.specs.Fibres.{Fibres, HasNoFibres}
use Rattle.sdh_plant.specs.Arrivals.{Knows}
use Rattle.sdh_request.specs.declared.settings.Settings.{Settings}
use Rattle.sdh_signal.specs.Laws.{StillRingsAreSettled}
use Rattle.sdh_ringmap.specs.declared.Side.{Side}
use Rattle.sdh_ringmap.specs.declared.terms.Condition.{Condition}
use Rattle.sdh_rounds.proofs.Runs.{course_whole, known_course, known_unsettles}
use Rattle.sdh_node.specs.Stations.{adm}
use Rattle.sdh_node.specs.Rings.Held.{new_ring}
use Rattle.sdh_node.specs.Rings.Rounds.{World}
use Rattle.sdh_node.specs.Rings.Runs.{run, run_with, course, IsBrokenOff}
use Rattle.sdh_node.specs.Rings.Quiet.{EndsWindow, Unsettles, BreaksOff}
use Rattle.sdh_node.specs.Rings.Changes.{changed, all_changed, after_stretch, after_stretches, new_world}
use Rattle.sdh_node.specs.Rings.Laws.{MayHappen}
use Rattle.sdh_laws.specs.Hearing.Laws.{MayStart}
use Rattle.sdh_laws.proofs.hearing.Requests.{after_last}
use Rattle.sdh_laws.specs.Carrying.Windows.{layout_in, HasCircuits}
use Rattle.sdh_laws.specs.Strangers.Laws.{EndQuietly, AHoldSpoilsItsOwnStepAlone}
use Rattle.sdh_plan.specs.declared.step.Step.{Step}
use Rattle.sdh_plan.specs.declared.step.Step.TheVariants as step
use Rattle.sdh_plan.specs.Steps.{Past, after}
use Rattle.sdh_plan.specs.Scripts.{AreSteps}
use Rattle.sdh_status.specs.declared.Status.{Status}
use Rattle.sdh_status.specs.declared.Status.TheVariants as status
use Rattle.sdh_report.specs.Reports.{Report}
use Rattle.sdh_restoration.specs.Changes.{Change, Stretch, rounds_in}
use Rattle.sdh_promise.specs.Scenes.{changes_of, scenes}
use Rattle.sdh_restoration.specs.Changes as change
use Rattle.sdh_promise.specs.Owed.{Ring, IsLast}
use Rattle.sdh_owed.specs.Reports.{report_of}
use Rattle.sdh_scripts.specs.Scripts.{Refuses}
use Rattle.sdh_scripts.proofs.Outcomes.{refused_ends}
use Rattle.sdh_scripts.proofs.Reporting.{settles_by, reports_by, breaks_by}
use Rattle.sdh_owed.specs.Steps.{world_after_step}
use Rattle.sdh_owed.specs.Scripts.{Runs}
use Rattle.sdh_owed.specs.Laws.{ring_by}
use Rattle.sdh_owed.proofs.Strangers.{come_after_transit, none_old_unheld, none_old}
use Rattle.sdh_owed.specs.Strangers.{AllEverComeAfterTransit, NoneEverMeetsOldBytes}
use Rattle.sdh_owed.proofs.Soon.{IsReady, RestoredSoon, happens_front, ready_then, followed_then, owed_soon, joined_soon}
use Rattle.sdh_owed.proofs.Standing.{Stands, whole, stretch_to, changed_then, settled_then, stands_new}
use Rattle.sdh_owed.specs.Course.{stretch, HaveCondition, IsLeftOff, WentThrough, AreSentAlike, StretchesHaveSent, NoneEverMeetsAStranger}
use Rattle.sdh_owed.specs.Course.{AllIsOwedSoon, TrafficIsOwedSoon, HasCourse, CoursesAreTold}

-- ---- stretches one after the other

happens_then : (ss later : List Stretch) (w : World) → MayHappen w ss → MayHappen (after_stretches ss w) later → MayHappen w (ss ++ later)
happens_then [] later w may then = then
happens_then (s ∷ ss) later w may then = (may.0, happens_then ss later (after_stretch s w) may.1 then)

-- where stretches may happen, they may also happen up to one of them with any number of rounds
happens_cut : (ss : List Stretch) (last : Stretch) (later : List Stretch) (k : ℕ) (w : World) → MayHappen w (ss ++ last ∷ later)
    → MayHappen w (ss ++ stretch last.changes k ∷ [])
happens_cut [] last later k w may = (may.0, tt)
happens_cut (s ∷ ss) last later k w may = (may.0, happens_cut ss last later k (after_stretch s w) may.1)

-- stretches end quietly if the first of them ends with a window and those after it end quietly
ends_quietly : (s : Stretch) (w : World) (ss : List Stretch) → EndsWindow (course (all_changed s.changes w)) s.rounds
    → EndQuietly (after_stretch s w) ss → EndQuietly w (s ∷ ss)
ends_quietly s w [] window behind = tt
ends_quietly s w (r ∷ ss) window behind = (window, behind)

quiet_front : (ss later : List Stretch) (w : World) → EndQuietly w (ss ++ later) → EndQuietly w ss
quiet_front [] later w quiet = tt
quiet_front (s ∷ []) later w quiet = tt
quiet_front (s ∷ r ∷ ss) later w quiet = (quiet.0, quiet_front (r ∷ ss) later (after_stretch s w) quiet.1)

-- ---- what was sent

-- changes send nothing
alike_changed : (c : Change) (w : World) → AreSentAlike (changed c w).fibres w.fibres
unfolding changed
alike_changed (change.Fibre p d condition) w = record { carried = refl; sent = refl }
alike_changed (change.Order p d command) w = record { carried = refl; sent = refl }
alike_changed (change.Hold p turns) w = record { carried = refl; sent = refl }
alike_changed (change.Slip port turn count) w = record { carried = refl; sent = refl }
alike_changed (change.Now t) w = record { carried = refl; sent = refl }

alike_then : (f g h : Fibres) → AreSentAlike f g → AreSentAlike g h → AreSentAlike f h
alike_then f g h a b = record { carried = a.carried ∙ b.carried; sent = a.sent ∙ b.sent }

pub alike_all : (cs : List Change) (w : World) → AreSentAlike (all_changed cs w).fibres w.fibres
alike_all [] w = record { carried = refl; sent = refl }
alike_all (c ∷ cs) w =
    alike_then (all_changed cs (changed c w)).fibres (changed c w).fibres w.fibres (alike_all cs (changed c w)) (alike_changed c w)

alike_same : (f g : Fibres) → f ≡ g → AreSentAlike f g
alike_same f g e = record { carried = ap (λ (x : Fibres). x.carried) e; sent = ap (λ (x : Fibres). x.sent) e }

-- a step that was refused leaves the fibres as they were
refused_leaves : (s : Step) (w : World) (reports : List Report) (end : Status) (left : World) → Refuses s w reports end left
    → left.fibres ≡ w.fibres
refused_leaves (step.Fibre e) w reports end left x = x.0
refused_leaves s w reports end left x = absurd x

-- changes that hold a condition still hold it with more changes after them
condition_more : (cs ds : List Change) → HaveCondition cs → HaveCondition (cs ++ ds)
condition_more [] ds h = absurd h
condition_more (change.Fibre p d condition ∷ cs) ds h = tt
condition_more (change.Order p d command ∷ cs) ds h = condition_more cs ds h
condition_more (change.Hold p turns ∷ cs) ds h = condition_more cs ds h
condition_more (change.Slip port turn count ∷ cs) ds h = condition_more cs ds h
condition_more (change.Now t ∷ cs) ds h = condition_more cs ds h

condition_last : (cs : List Change) (p : ℕ) (d : Side) (condition : Condition) → HaveCondition (cs ++ change.Fibre p d condition ∷ [])
condition_last [] p d condition = tt
condition_last (change.Fibre q e other ∷ cs) p d condition = tt
condition_last (change.Order q e command ∷ cs) p d condition = condition_last cs p d condition
condition_last (change.Hold q turns ∷ cs) p d condition = condition_last cs p d condition
condition_last (change.Slip port turn count ∷ cs) p d condition = condition_last cs p d condition
condition_last (change.Now t ∷ cs) p d condition = condition_last cs p d condition

more_so : (cs ds : List Change) (ran : ℕ) → (ran ≡ 0) ⊎ HaveCondition cs → (ran ≡ 0) ⊎ HaveCondition (cs ++ ds)
more_so cs ds ran (inl none) = inl none
more_so cs ds ran (inr h) = inr (condition_more cs ds h)

-- a fault may end the script without any stretch, if no round had run or the plant may have refused a condition
none_through : (n limit ran : ℕ) (changes : List Change) (steps : List Step) (end : Status) → end ≡ status.PlantFault
    → (ran ≡ 0) ⊎ HaveCondition changes → WentThrough n limit ran (scenes changes steps) [] end []
none_through n limit ran changes [] end is h = (refl, refl)
none_through n limit ran changes (step.Settle ∷ later) end is h =
    subst (λ e. IsLeftOff limit ran changes e []) (sym is) (inl (refl, h))
none_through n limit ran changes (step.Fibre e ∷ later) end is h =
    none_through n limit ran (changes ++ changes_of (step.Fibre e)) later end is (more_so changes (changes_of (step.Fibre e)) ran h)
none_through n limit ran changes (step.Order p d c ∷ later) end is h =
    none_through n limit ran (changes ++ changes_of (step.Order p d c)) later end is (more_so changes (changes_of (step.Order p d c)) ran h)
none_through n limit ran changes (step.Hold p turns ∷ later) end is h =
    none_through n limit ran (changes ++ changes_of (step.Hold p turns)) later end is (more_so changes (changes_of (step.Hold p turns)) ran h)
none_through n limit ran changes (step.Slip port turn count ∷ later) end is h =
    none_through n limit ran (changes ++ changes_of (step.Slip port turn count)) later end is
    (more_so changes (changes_of (step.Slip port turn count)) ran h)
none_through n limit ran changes (step.Moment m ∷ later) end is h =
    none_through n limit ran (changes ++ changes_of (step.Moment m)) later end is (more_so changes (changes_of (step.Moment m)) ran h)

-- nothing ran of a settle step for which the plant refused a condition
refused_through : (n limit ran : ℕ) (changes : List Change) (s : Step) (later : List Step) (w : World) (reports : List Report)
    (end : Status) (left : World) → Refuses s w reports end left → end ≡ status.PlantFault
    → WentThrough n limit ran (scenes changes (s ∷ later)) [] end []
refused_through n limit ran changes (step.Fibre e) later w reports end left x is =
    none_through n limit ran (changes ++ changes_of (step.Fibre e)) later end is
    (inr (condition_last changes e.at.0 e.side e.condition))
refused_through n limit ran changes s later w reports end left x is = absurd x

-- ---- a script, step by step

module _ (s : Settings) (ids : List ℕ) (circuits : Provisioning) (f : Fibres) (may : MayStart s ids f) where
  abbrev from : World
  from = new_world s ids circuits f

  abbrev Now : Past → List Stretch → List Change → World → Type 0
  Now past earlier changes w = Stands s ids circuits f may past earlier changes w

  -- what happened after some stretches
  record GoesOn (limit : ℕ) (earlier : List Stretch) (later : List (List Change)) (reports : List Report) (end : Status)
      (left : Fibres) : Type 0 where
    pub stretches : List Stretch
    pub through : WentThrough (length ids) limit (rounds_in earlier) later reports end stretches
    pub happens : MayHappen from (earlier ++ stretches)
    pub quiet : EndQuietly (after_stretches earlier from) stretches
    pub sent : StretchesHaveSent from (earlier ++ stretches) end left

  -- nothing more ran
  ends_here : (limit : ℕ) (past : Past) (earlier : List Stretch) (changes : List Change) (later : List (List Change)) (w : World)
      (reports : List Report) (end : Status) (left : Fibres)
      → Now past earlier changes w → AreSentAlike left w.fibres → WentThrough (length ids) limit (rounds_in earlier) later reports end []
      → GoesOn limit earlier later reports end left
  ends_here limit past earlier changes later w reports end left h sent through =
      let behind = after_stretches earlier from in
      let since : AreSentAlike w.fibres behind.fibres =
      subst (λ (v : World). AreSentAlike v.fibres behind.fibres) (sym h.is) (alike_all changes behind) in
      record {
        stretches = [];
        through = through;
        happens = subst (MayHappen from) (sym (append-nil earlier)) h.happened;
        quiet = tt;
        sent =
            inl (subst (λ ss. AreSentAlike left (after_stretches ss from).fibres) (sym (append-nil earlier))
            (alike_then left w.fibres behind.fibres sent since));
      }

  module _ (limit : ℕ) (past : Past) (earlier : List Stretch) (changes : List Change) (w : World) (h : Now past earlier changes w) where
    knows : Knows w.fibres
    knows = inl (whole s ids circuits f may past earlier changes w h).paired.honest.honest

    -- `k` rounds after the changes are the stretch of these changes with `k` rounds
    after_rounds : (k : ℕ) → run k w ≡ after_stretches (earlier ++ stretch changes k ∷ []) from
    after_rounds k = ap (run k) h.is ∙ sym (after_last earlier (stretch changes k) from)

    happens_now : (k : ℕ) → MayHappen from (earlier ++ stretch changes k ∷ [])
    happens_now k = happens_then earlier (stretch changes k ∷ []) from h.happened (h.since, tt)

    -- a settle step that was unsettled
    unsettled : (later : List (List Change)) (end : Status) (left : World) (number : ℕ) → end ≡ status.Unsettled number
        → Unsettles w limit left → GoesOn limit earlier (changes ∷ later) [] end left.fibres
    unsettled later end left number is x = record {
      stretches = stretch changes limit ∷ [];
      through = subst (λ e. IsLeftOff limit (rounds_in earlier) changes e (stretch changes limit ∷ [])) (sym is) refl;
      happens = happens_now limit;
      quiet = tt;
      sent =
          inl (alike_same left.fibres (after_stretches (earlier ++ stretch changes limit ∷ []) from).fibres
          (ap (λ (v : World). v.fibres) ((known_unsettles adm w limit left knows x).1 ∙ after_rounds limit)));
    }

    -- what happened in a settle step that a fault broke off
    broken_off : (later : List (List Change)) (end : Status) (left : Fibres) → end ≡ status.PlantFault → BreaksOff w limit left
        → GoesOn limit earlier (changes ∷ later) [] end left
    broken_off later end left is b =
        let k = length b.rounds in
        let same : run_with b.rounds w ≡ after_stretches (earlier ++ stretch changes k ∷ []) from =
        course_whole adm b.rounds w ∙ known_course adm b.rounds w k knows b.arrive (omega arith) ∙ after_rounds k in
        record {
          stretches = stretch changes k ∷ [];
          through = subst (λ e. IsLeftOff limit (rounds_in earlier) changes e (stretch changes k ∷ [])) (sym is) (inr (k, b.within, refl));
          happens = happens_now k;
          quiet = tt;
          sent = inr (is, inl (subst (λ v. IsBrokenOff v left) same b.off));
        }

    -- what happened in a settle step that ended, and after it
    settled : (later : List (List Change)) (mid : World) (number : ℕ) (reports : List Report) (end : Status) (left : Fibres)
        → (let last = stretch_to s ids circuits f may past earlier changes w h mid in
        IsLast (length ids) limit (rounds_in earlier) (mid.ring.rounds - 1)
        → EndsWindow (course (all_changed changes (after_stretches earlier from))) last.rounds
        → rounds_in (earlier ++ last ∷ []) ≡ mid.ring.rounds - 1 + 1 → GoesOn limit (earlier ++ last ∷ []) later reports end left
        → GoesOn limit earlier (changes ∷ later) (report_of number mid.ring ∷ reports) end left)
    unfolding report_of
    settled later mid number reports end left is window many goes =
        let last = stretch_to s ids circuits f may past earlier changes w h mid in
        let behind = append_assoc earlier (last ∷ []) goes.stretches in
        record {
          stretches = last ∷ goes.stretches;
          through =
              (goes.stretches, is, refl, subst (λ n. WentThrough (length ids) limit n later reports end goes.stretches) many goes.through);
          happens = subst (MayHappen from) behind goes.happens;
          quiet =
              ends_quietly last (after_stretches earlier from) goes.stretches window
              (subst (λ (x : World). EndQuietly x goes.stretches) (after_last earlier last from) goes.quiet);
          sent = subst (λ ss. StretchesHaveSent from ss end left) behind goes.sent;
        }

  walk : (limit before : ℕ) (past : Past) (earlier : List Stretch) (changes : List Change) (steps : List Step) (w : World)
      (reports : List Report) (end : Status) (left : World)
      → Now past earlier changes w → AreSteps s.rate (length ids) (length circuits.circuits) past steps
      → Runs limit before steps w reports end left → GoesOn limit earlier (scenes changes steps) reports end left.fibres
  walk limit before past earlier changes [] w reports end left h each x =
      ends_here limit past earlier changes [] w reports end left.fibres h
      (alike_same left.fibres w.fibres (ap (λ (v : World). v.fibres) x.0)) (x.1.0, refl)
  walk limit before past earlier changes (step.Settle ∷ later) w reports end left h each (inl (told, mid, rest, ended, is, x)) =
      let there =
      settled_then s ids circuits f may past earlier changes w h mid limit
      (settles_by adm world_after_step report_of w limit (before + 1) told mid ended) in
      subst (λ rs. GoesOn limit earlier (scenes changes (step.Settle ∷ later)) rs end left.fibres)
      (sym (reports_by adm world_after_step report_of w limit (before + 1) told mid reports rest ended is))
      (settled limit past earlier changes w h (scenes [] later) mid (before + 1) rest end left.fibres there.last there.window there.many
      (walk limit (before + 1) (after past step.Settle) _ [] later mid rest end left there.stands each.1 x))
  walk limit before past earlier changes (step.Settle ∷ later) w reports end left h each (inr (inl x)) =
      subst (λ rs. GoesOn limit earlier (scenes changes (step.Settle ∷ later)) rs end left.fibres) (sym x.1.0)
      (unsettled limit past earlier changes w h (scenes [] later) end left (before + 1) x.1.1 x.0)
  walk limit before past earlier changes (step.Settle ∷ later) w reports end left h each (inr (inr x)) =
      subst (λ rs. GoesOn limit earlier (scenes changes (step.Settle ∷ later)) rs end left.fibres) (sym x.1.0)
      (broken_off limit past earlier changes w h (scenes [] later) end left.fibres x.1.1
      (breaks_by adm world_after_step report_of w limit left.fibres x.0))
  walk limit before past earlier changes (this ∷ later) w reports end left h each x =
      elim x [
        | inl goes ↦ walk limit before (after past this) earlier (changes ++ changes_of this) later _ reports end left
            (changed_then s ids circuits f may past earlier changes w h this refl each.0) each.1 goes
        | inr refused ↦
            let stops = refused_ends this w reports end left refused in
            ends_here limit past earlier changes (scenes changes (this ∷ later)) w reports end left.fibres h
            (alike_same left.fibres w.fibres (refused_leaves this w reports end left refused))
            (subst (λ rs. WentThrough (length ids) limit (rounds_in earlier) (scenes changes (this ∷ later)) rs end []) (sym stops.0)
            (refused_through (length ids) limit (rounds_in earlier) changes this later w reports end left refused stops.1))
      ]

  -- ---- what holds in the rounds

  module _ (form : HasCircuits (layout_in (new_ring s ids circuits))) (ss : List Stretch) (happens : MayHappen from ss)
      (quiet : EndQuietly from ss) where
    abbrev ring : Ring
    ring = ring_by s (length ids) circuits.circuits

    -- a step among them, with what leads to it
    abbrev until : List Stretch → Stretch → List Stretch
    until earlier last = earlier ++ last ∷ []

    happens_until : (earlier later : List Stretch) (last : Stretch) → ss ≡ earlier ++ last ∷ later → MayHappen from (until earlier last)
    happens_until earlier later last is =
        happens_front (until earlier last) later from
        (subst (MayHappen from) (is ∙ sym (append_assoc earlier (last ∷ []) later)) happens)

    quiet_until : (earlier later : List Stretch) (last : Stretch) → ss ≡ earlier ++ last ∷ later → EndQuietly from (until earlier last)
    quiet_until earlier later last is =
        quiet_front (until earlier last) later from (subst (EndQuietly from) (is ∙ sym (append_assoc earlier (last ∷ []) later)) quiet)

    ready_until : (earlier later : List Stretch) (last : Stretch) → ss ≡ earlier ++ last ∷ later → IsReady (after_stretches earlier from)
    ready_until earlier later last is =
        ready_then s ids circuits f may earlier last later (subst (MayHappen from) is happens) (subst (EndQuietly from) is quiet)

    pub strangers : AHoldSpoilsItsOwnStepAlone → NoneEverMeetsAStranger from ring ss
    strangers law earlier later last is none t low =
        law s ids circuits f earlier last may (happens_until earlier later last is) (quiet_until earlier later last is) none form t low

    pub transit : StillRingsAreSettled → AHoldSpoilsItsOwnStepAlone → AllEverComeAfterTransit from ring ss
    transit still law earlier later last is t low unheld =
        come_after_transit s ids circuits f may form still law earlier last (happens_until earlier later last is)
        (quiet_until earlier later last is) (ready_until earlier later last is) t low unheld

    pub recent : StillRingsAreSettled → AHoldSpoilsItsOwnStepAlone → NoneEverMeetsOldBytes from ring ss
    recent still law earlier later last is t age low old =
        let happened = happens_until earlier later last is in
        let ended = quiet_until earlier later last is in
        let ready = ready_until earlier later last is in
        elim old [
          | inl soon ↦ none_old_unheld s ids circuits f may form still law earlier last happened ended ready t low age soon.0 soon.1
          | inr any ↦ none_old s ids circuits f may form still law earlier last happened ended ready t low age any.0 any.1
        ]

    soon : RestoredSoon → AllIsOwedSoon from ring ss
    soon laws earlier same later last is still k late few =
        let front : ss ≡ earlier ++ last ∷ (same ++ later) = is in
        owed_soon s ids circuits f may form earlier last k
        (happens_cut earlier last (same ++ later) k from (subst (MayHappen from) front happens))
        (ready_then s ids circuits f may earlier last (same ++ later) (subst (MayHappen from) front happens)
        (subst (EndQuietly from) front quiet))
        (followed_then s ids circuits f may laws form earlier last (same ++ later) (subst (MayHappen from) front happens)
        (subst (EndQuietly from) front quiet)) laws late

    traffic : RestoredSoon → TrafficIsOwedSoon from ring ss
    traffic laws earlier same later last is still none k few index c get e joined enough =
        let front : ss ≡ earlier ++ last ∷ (same ++ later) = is in
        joined_soon s ids circuits f may form earlier last k
        (happens_cut earlier last (same ++ later) k from (subst (MayHappen from) front happens))
        (ready_then s ids circuits f may earlier last (same ++ later) (subst (MayHappen from) front happens)
        (subst (EndQuietly from) front quiet))
        (followed_then s ids circuits f may laws form earlier last (same ++ later) (subst (MayHappen from) front happens)
        (subst (EndQuietly from) front quiet)) laws none index c get e joined enough

pub courses_are_told : StillRingsAreSettled → AHoldSpoilsItsOwnStepAlone → RestoredSoon → CoursesAreTold
courses_are_told still_law strangers_law soon_laws s ids circuits f may form limit past steps each reports end left x =
    let goes =
    walk s ids circuits f may limit 0 past [] [] steps (new_world s ids circuits f) reports end left
    (stands_new s ids circuits f may past) each x in
    record {
      stretches = goes.stretches;
      through = goes.through;
      sent = goes.sent;
      strangers = strangers s ids circuits f may form goes.stretches goes.happens goes.quiet strangers_law;
      transit = transit s ids circuits f may form goes.stretches goes.happens goes.quiet still_law strangers_law;
      recent = recent s ids circuits f may form goes.stretches goes.happens goes.quiet still_law strangers_law;
      soon = soon s ids circuits f may form goes.stretches goes.happens goes.quiet soon_laws;
      traffic = traffic s ids circuits f may form goes.stretches goes.happens goes.quiet soon_laws;
    }

-- ---- without fibres

none_last : (earlier : List Stretch) (last : Stretch) (later : List Stretch) (A : Type 0) → [] ≡ earlier ++ last ∷ later → A
none_last [] last later A is = absurd (grind arith)
none_last (s ∷ earlier) last later A is = absurd (grind arith)

-- where a fault ended the script and no fibres had been made the course has no round
pub none_ran : (w : World) (ring : Ring) (limit : ℕ) (steps : List Step) (reports : List Report) (end : Status) (left : Fibres)
    → reports ≡ [] → end ≡ status.PlantFault → HasNoFibres left → left.sent ≡ w.fibres.sent
    → HasCourse w ring limit steps reports end left
none_ran w ring limit steps reports end left none is unmade sent = record {
  stretches = [];
  through = subst (λ rs. WentThrough ring.nodes limit 0 (scenes [] steps) rs end []) (sym none)
      (none_through ring.nodes limit 0 [] steps end is (inl refl));
  sent = inr (is, inr (refl, unmade, sent));
  strangers = λ earlier later last front holds t low. none_last earlier last later _ front;
  transit = λ earlier later last front t low unheld. none_last earlier last later _ front;
  recent = λ earlier later last front t age low old. none_last earlier last later _ front;
  soon = λ earlier same later last front still k late few. none_last earlier last (same ++ later) _ front;
  traffic = λ earlier same later last front still none k few index c get e joined enough. none_last earlier last (same ++ later) _ front;
}
