-- The course of a script over honest fibres: what happened in it, stretch by stretch, and what holds in its rounds,
-- settled or not.
use Rattle.std.specs.Prelude.{ℕ, ◌≡◌, ◌⊎◌, ◌+◌, ◌-◌, ◌*◌, ◌<◌, ◌≤◌, true, Some, List, [], ◌∷◌, ◌++◌, length, slice_get}
use Rattle.sdh_circuits.specs.Provisioning.{Provisioning}
use Rattle.sdh_plant.specs.Fibres.{Fibres, HasNoFibres}
use Rattle.sdh_request.specs.declared.settings.Settings.{Settings}
use Rattle.sdh_node.specs.Rings.Held.{new_ring, outlet_at}
use Rattle.sdh_node.specs.Rings.Rounds.{World, round}
use Rattle.sdh_node.specs.Rings.Runs.{IsBrokenOff}
use Rattle.sdh_node.specs.Rings.Sides.{world_in}
use Rattle.sdh_node.specs.Rings.Changes.{after_stretches, new_world}
use Rattle.sdh_node.specs.Rings.Clocks.{clocks_by}
use Rattle.sdh_laws.specs.Hearing.Laws.{MayStart}
use Rattle.sdh_laws.specs.Carrying.Windows.{layout_in, HasCircuits}
use Rattle.sdh_laws.specs.Strangers.Owners.{NoneMeetsAStranger}
use Rattle.sdh_laws.specs.Strangers.Laws.{HoldNone, HoldNonePassing}
use Rattle.sdh_plan.specs.declared.step.Step.{Step}
use Rattle.sdh_plan.specs.Steps.{Past}
use Rattle.sdh_plan.specs.Scripts.{AreSteps}
use Rattle.sdh_status.specs.declared.Status.{Status}
use Rattle.sdh_status.specs.declared.Status.TheVariants as status
use Rattle.sdh_report.specs.Reports.{Report}
use Rattle.sdh_restoration.specs.Changes.{Change, Fibre, Order, Hold, Slip, Now, Stretch, rounds_in}
use Rattle.sdh_promise.specs.Scenes.{scenes}
use Rattle.sdh_restoration.specs.Happened.{happened}
use Rattle.sdh_promise.specs.Owed.{Ring, requests_by, owed_port, IsOwed, IsLast}
use Rattle.sdh_restoration.specs.Applied.{is_applied}
use Rattle.sdh_restoration.specs.Routes.{hops}
use Rattle.sdh_ringmap.specs.Arcs.{is_joined}
use Rattle.sdh_circuits.specs.Ends.{port_id}
use Rattle.sdh_circuits.specs.Provisioned.{Provisioned, arc_of}
use Rattle.sdh_circuits.specs.declared.End.{End}
use Rattle.sdh_owed.specs.Reports.{ports_of, report_of}
use Rattle.sdh_owed.specs.Scripts.{Runs}
use Rattle.sdh_owed.specs.Laws.{ring_by}
use Rattle.sdh_owed.specs.Strangers.{AllEverComeAfterTransit, NoneEverMeetsOldBytes, longest_hold}

-- ---- what happened

-- a stretch with these changes and `rounds` rounds
abbrev pub stretch : List Change → ℕ → Stretch
stretch changes rounds = record { changes = changes; rounds = rounds }

-- one of these changes is a condition of a fibre, which a plant may refuse
abbrev pub HaveCondition : List Change → Type 0
HaveCondition [] = ⊥
HaveCondition (Fibre p d condition ∷ later) = Unit {0}
HaveCondition (c ∷ later) = HaveCondition later

-- What ran of a settle step that has no report, after these changes, where `ran` rounds had run before. An unsettled
-- step ran all the rounds of the limit. A step in which a fault ended the script ran fewer. It may lack a stretch where
-- the plant may have made no fibres, since no round had run, or may have refused a condition.
abbrev pub IsLeftOff : ℕ → ℕ → List Change → Status → List Stretch → Type 0
IsLeftOff limit ran changes (status.Unsettled k) ss = ss ≡ stretch changes limit ∷ []
IsLeftOff limit ran changes status.PlantFault ss =
    ((ss ≡ []) × ((ran ≡ 0) ⊎ HaveCondition changes)) ⊎ ((rounds : ℕ) × (rounds < limit) × (ss ≡ stretch changes rounds ∷ []))
IsLeftOff limit ran changes end ss = ⊥

-- What happened in a script over a ring of n that gave these reports and ended so, as stretches. `ran` rounds had run
-- before, and these are the changes before each settle step. The stretch of a report has the changes of its step, and
-- the rounds up to the report's own, in which a step can end (`IsLast`). After these stretches comes what ran of the
-- step that has no report. There are no other reports.
abbrev pub WentThrough : ℕ → ℕ → ℕ → List (List Change) → List Report → Status → List Stretch → Type 0
WentThrough n limit ran [] reports end ss = (reports ≡ []) × (ss ≡ [])
WentThrough n limit ran (changes ∷ later) [] end ss = IsLeftOff limit ran changes end ss
WentThrough n limit ran (changes ∷ later) (r ∷ reports) end ss =
    (rest : List Stretch) × IsLast n limit ran r.round × (ss ≡ stretch changes (r.round + 1 - ran) ∷ rest)
    × WentThrough n limit (r.round + 1) later reports end rest

-- two sets of fibres carry equal frames, and equal frames were sent on them in all
pub record AreSentAlike (f g : Fibres) : Type 0 where
  pub carried : f.carried ≡ g.carried
  pub sent : f.sent ≡ g.sent

-- All frames that were sent, and all that are under way, are those that the rounds of these stretches sent. After a
-- plant fault two more cases may be: the round after the stretches was broken off, or the plant made no fibres, so that
-- no round ran.
abbrev pub StretchesHaveSent : World → List Stretch → Status → Fibres → Type 0
StretchesHaveSent w ss end left =
    AreSentAlike left (after_stretches ss w).fibres ⊎ ((end ≡ status.PlantFault)
    × (IsBrokenOff (after_stretches ss w) left ⊎ ((ss ≡ []) × HasNoFibres left × (left.sent ≡ w.fibres.sent))))

-- ---- whose bytes come

-- In no round of a settle step does a port meet a stranger, unless the changes of that very step hold a controller of a
-- node that passes traffic through. The port delivers AIS, ones, or what its circuit's other port put into its AU-4 in
-- some earlier round. What was held before earlier steps doesn't count. Which nodes pass traffic through follows from
-- the requests of the round before; in a new ring none does.
abbrev pub NoneEverMeetsAStranger : World → Ring → List Stretch → Type 0
NoneEverMeetsAStranger w ring ss =
    (earlier later : List Stretch) (last : Stretch) → ss ≡ earlier ++ last ∷ later
    → HoldNonePassing ring.threshold ring.wait ring.nodes earlier last.changes → (t : ℕ) → t < last.rounds
    → (let now = earlier ++ last ∷ [] in NoneMeetsAStranger (clocks_by ring.circuits now)
    (round (world_in now w (rounds_in earlier + t))).ring)

-- ---- how soon each port has what it is owed

-- the ring after these stretches shows every port with what it is owed, as a report would
abbrev pub ShowsWhatIsOwed : World → Ring → List Stretch → Type 0
ShowsWhatIsOwed w ring ss =
    (let r = report_of 0 (after_stretches ss w).ring in IsOwed ring.nodes (requests_by ring ss r.round) (happened ss) ring.circuits (ports_of r))

-- a change adds no slips at any port
abbrev pub SlipsNone : Change → Type 0
SlipsNone (Fibre p d condition) = Unit {0}
SlipsNone (Order p d command) = Unit {0}
SlipsNone (Hold p turns) = Unit {0}
SlipsNone (Slip port turn count) = count ≡ 0
SlipsNone (Now t) = Unit {0}

-- none of these changes adds slips at a port
abbrev pub SlipNone : List Change → Type 0
SlipNone [] = Unit {0}
SlipNone (c ∷ cs) = SlipsNone c × SlipNone cs

-- `k` rounds after these changes are enough in a ring of n. Where they add no slips the bound is 6n + 8 and the rounds
-- of their longest hold. It is the larger of 12n + 2 and 8n + 61 where they add slips and hold no controller. A bound of
-- 12n + 102 holds whatever they are.
abbrev pub IsLate : ℕ → List Change → ℕ → Type 0
IsLate n changes k =
    (SlipNone changes × (6 * n + 8 + longest_hold changes ≤ k))
    ⊎ ((HoldNone changes × (12 * n + 2 ≤ k) × (8 * n + 61 ≤ k)) ⊎ (12 * n + 102 ≤ k))

-- none of these stretches has a change
abbrev pub ChangeNothing : List Stretch → Type 0
ChangeNothing [] = Unit {0}
ChangeNothing (s ∷ ss) = (s.changes ≡ []) × ChangeNothing ss

-- Each port has what it is owed after k rounds from the last changes, for each k that is enough (`IsLate`). These
-- rounds are those of the changes' settle step, and of later steps without changes, whether they are settled or not.
abbrev pub AllIsOwedSoon : World → Ring → List Stretch → Type 0
AllIsOwedSoon w ring ss =
    (earlier same later : List Stretch) (last : Stretch) → ss ≡ earlier ++ last ∷ (same ++ later) → ChangeNothing same → (k : ℕ)
    → IsLate ring.nodes last.changes k → k ≤ rounds_in (last ∷ same)
    → ShowsWhatIsOwed w ring (earlier ++ stretch last.changes k ∷ [])

-- A port of a circuit whose ends are joined over h hops has what it is owed sooner. It does so 4n + 11 + h rounds after
-- changes that add no slips, and the rounds of their longest hold later where they hold a controller.
abbrev pub TrafficIsOwedSoon : World → Ring → List Stretch → Type 0
TrafficIsOwedSoon w ring ss =
    (earlier same later : List Stretch) (last : Stretch) → ss ≡ earlier ++ last ∷ (same ++ later) → ChangeNothing same
    → SlipNone last.changes → (k : ℕ) → k ≤ rounds_in (last ∷ same)
    → (index : ℕ) (c : Provisioned) → slice_get ring.circuits index ≡ Some c → (e : End)
    → (let now = earlier ++ stretch last.changes k ∷ [] in let t = rounds_in now - 1 in
    let applied = is_applied (requests_by ring now t) in
    is_joined ring.nodes applied (arc_of ring.nodes c) ≡ true
    → 4 * ring.nodes + 11 + hops ring.nodes applied (arc_of ring.nodes c) + longest_hold last.changes ≤ k
    → outlet_at (after_stretches now w).ring (port_id index e) ≡ (owed_port ring.nodes applied (happened now) t index c e).outlet)

-- ---- the course

-- What holds in each round of a script from a new ring over new honest fibres, which gave these reports, ended so, and
-- left these fibres.
pub record HasCourse (w : World) (ring : Ring) (limit : ℕ) (steps : List Step) (reports : List Report) (end : Status)
    (left : Fibres) : Type 0 where
  pub stretches : List Stretch
  pub through : WentThrough ring.nodes limit 0 (scenes [] steps) reports end stretches
  pub sent : StretchesHaveSent w stretches end left
  pub strangers : NoneEverMeetsAStranger w ring stretches
  pub transit : AllEverComeAfterTransit w ring stretches
  pub recent : NoneEverMeetsOldBytes w ring stretches
  pub soon : AllIsOwedSoon w ring stretches
  pub traffic : TrafficIsOwedSoon w ring stretches

-- every script that may be run from a new ring over new honest fibres has a course
abbrev pub CoursesAreTold : Type 0
CoursesAreTold =
    (s : Settings) (ids : List ℕ) (circuits : Provisioning) (f : Fibres) → MayStart s ids f
    → HasCircuits (layout_in (new_ring s ids circuits))
    → (limit : ℕ) (past : Past) (steps : List Step) → AreSteps s.rate (length ids) (length circuits.circuits) past steps
    → (reports : List Report) (end : Status) (left : World) → Runs limit 0 steps (new_world s ids circuits f) reports end left
    → HasCourse (new_world s ids circuits f) (ring_by s (length ids) circuits.circuits) limit steps reports end left.fibres
