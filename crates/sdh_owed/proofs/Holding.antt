-- Controllers that are held: for how many turns, and at which nodes.
use Rattle.std.proofs.Common.{◌≡◌, ℕ, ◌+◌, ◌-◌, ◌≤◌, List, [], ◌∷◌, ◌++◌, length, ap, sym, ◌∙◌, subst, arith, inl, inr}
use Rattle.std.proofs.Math.Nat.{le-max_left, le-max_right}
use Rattle.std.proofs.lemmas.Bool.{cases_lt}
use Rattle.sdh_circuits.specs.Provisioning.{Provisioning}
use Rattle.sdh_plant.specs.Fibres.{Fibres}
use Rattle.sdh_request.specs.declared.settings.Settings.{Settings}
use Rattle.sdh_restoration.proofs.Asked.{length-requests}
use Rattle.sdh_signal.specs.Laws.{StillRingsAreSettled}
use Rattle.sdh_signal.specs.Settled.{settled}
use Rattle.sdh_node.specs.Receiving.{commanded_by}
use Rattle.sdh_node.specs.Node.{at_receiving, held_for, slips_at}
use Rattle.sdh_node.specs.Rings.Held.{node_at, AtEach, place_of_port}
use Rattle.sdh_node.specs.Rings.Rounds.{World}
use Rattle.sdh_node.specs.Rings.Runs.{run, course}
use Rattle.sdh_node.specs.Rings.Quiet.{EndsWindow}
use Rattle.sdh_node.specs.Rings.Changes.{changed, all_changed, after_stretches, new_world}
use Rattle.sdh_node.specs.Rings.Laws.{MayHappen}
use Rattle.sdh_restoration.specs.Changes.{Change, Stretch, rounds_in}
use Rattle.sdh_restoration.specs.Changes as change
use Rattle.sdh_restoration.specs.Sides.{asked_in}
use Rattle.sdh_laws.specs.Hearing.Laws.{MayStart}
use Rattle.sdh_laws.specs.Strangers.Laws.{EachMay, IsNoPass, HoldsNoPass, last_requests, HoldsNonePassing, HoldNonePassing}
use Rattle.sdh_laws.proofs.hearing.Changes.{each_at_place, whole_run}
use Rattle.sdh_laws.proofs.hearing.Nodes.{count}
use Rattle.sdh_laws.proofs.hearing.Requests.{whole_last, stretches_settle}
use Rattle.sdh_laws.proofs.hearing.Staying.{left_all, left_run, left_stretches}
use Rattle.sdh_laws.proofs.hearing.Steady.{AllHeldFor}
use Rattle.sdh_laws.proofs.carrying.Settles.{each_settled}
use Rattle.sdh_laws.proofs.strangers.Keeping.{rounds_together}
use Rattle.sdh_laws.proofs.strangers.Quiet.{node_beyond}
use Rattle.sdh_owed.specs.Strangers.{longest_hold}
use Rattle.sdh_laws.proofs.strangers.Scripts.{no_pass_aside, not_none}

-- ---- for how many turns

held_by_one : (most : ℕ) (c : Change) (later : List Change) (w : World) → longest_hold (c ∷ later) ≤ most → AllHeldFor most w
    → AllHeldFor most (changed c w)
unfolding changed
held_by_one most (change.Fibre p d condition) later w long few = few
held_by_one most (change.Order p d command) later w long few =
    each_at_place (λ q n. n.held ≤ most) (at_receiving d (commanded_by command)) (λ q n h. h) p w.ring.nodes few
held_by_one most (change.Hold p turns) later w long few =
    let less = le-max_left turns (longest_hold later) in
    each_at_place (λ q n. n.held ≤ most) (held_for turns) (λ q n h. omega (arith, less, long)) p w.ring.nodes few
held_by_one most (change.Slip port turn count) later w long few =
    each_at_place (λ q n. n.held ≤ most) (slips_at port turn count) (λ q n h. h) (place_of_port w.ring port) w.ring.nodes few
held_by_one most (change.Now t) later w long few = few

longest_later : (most : ℕ) (c : Change) (later : List Change) → longest_hold (c ∷ later) ≤ most → longest_hold later ≤ most
longest_later most (change.Fibre p d condition) later long = long
longest_later most (change.Order p d command) later long = long
longest_later most (change.Hold p turns) later long = (let less = le-max_right turns (longest_hold later) in omega (arith, less, long))
longest_later most (change.Slip port turn count) later long = long
longest_later most (change.Now t) later long = long

-- changes hold no controller for longer than the longest hold among them
pub held_by_all : (most : ℕ) (cs : List Change) (w : World) → longest_hold cs ≤ most → AllHeldFor most w → AllHeldFor most (all_changed cs w)
held_by_all most [] w long few = few
held_by_all most (c ∷ cs) w long few =
    held_by_all most cs (changed c w) (longest_later most c cs long) (held_by_one most c cs w long few)

-- ---- at which nodes

-- each node is in the settled state of these requests
abbrev Follow : List ℕ → World → Type 0
Follow rs w = AtEach (λ p n. n.state ≡ settled rs p) w.ring.nodes

-- the nodes stay in the states of these requests over a change
follow_on : (rs : List ℕ) (c : Change) (w : World) → Follow rs w → Follow rs (changed c w)
unfolding changed
follow_on rs (change.Fibre p d condition) w all = all
follow_on rs (change.Order p d command) w all =
    each_at_place (λ q n. n.state ≡ settled rs q) (at_receiving d (commanded_by command)) (λ q n h. h) p w.ring.nodes all
follow_on rs (change.Hold p turns) w all =
    each_at_place (λ q n. n.state ≡ settled rs q) (held_for turns) (λ q n h. h) p w.ring.nodes all
follow_on rs (change.Slip port turn count) w all =
    each_at_place (λ q n. n.state ≡ settled rs q) (slips_at port turn count) (λ q n h. h) (place_of_port w.ring port) w.ring.nodes all
follow_on rs (change.Now t) w all = all

no_pass_at : (rs : List ℕ) (w : World) (p : ℕ) → Follow rs w → IsNoPass (settled rs p) → IsNoPass (node_at w.ring.nodes p).state
no_pass_at rs w p all z = elim (cases_lt p (length w.ring.nodes)) [
  | inl low ↦ subst IsNoPass (sym (all p low)) z
  | inr high ↦ no_pass_aside (node_at w.ring.nodes p).state (node_beyond w.ring.nodes p high)
]

module _ (threshold wait n : ℕ) (earlier : List Stretch) (ran : earlier ≡ [] → ⊥) where
  abbrev rs : List ℕ
  rs = last_requests threshold wait n earlier

  one_no_pass : (c : Change) (w : World) → Follow rs w → HoldsNonePassing threshold wait n earlier c → HoldsNoPass w c
  one_no_pass (change.Fibre p d condition) w all may = tt
  one_no_pass (change.Order p d command) w all may = tt
  one_no_pass (change.Hold p turns) w all (inl none) = inl none
  one_no_pass (change.Hold p turns) w all (inr (inl new)) = absurd (ran new)
  one_no_pass (change.Hold p turns) w all (inr (inr z)) = inr (no_pass_at rs w p all z)
  one_no_pass (change.Slip port turn count) w all may = tt
  one_no_pass (change.Now t) w all may = tt

  each_no_pass : (cs : List Change) (w : World) → Follow rs w → HoldNonePassing threshold wait n earlier cs → EachMay HoldsNoPass w cs
  each_no_pass [] w all may = tt
  each_no_pass (c ∷ cs) w all may = (one_no_pass c w all may.0, each_no_pass cs (changed c w) (follow_on rs c w all) may.1)

-- after a stretch that ended with a quiet window
module _ (law : StillRingsAreSettled) (s : Settings) (ids : List ℕ) (circuits : Provisioning) (f : Fibres) (may : MayStart s ids f)
    (before : List Stretch) (prev : Stretch) (happens : MayHappen (new_world s ids circuits f) (before ++ prev ∷ []))
    (ends : EndsWindow (course (all_changed prev.changes (after_stretches before (new_world s ids circuits f)))) prev.rounds) where
  abbrev n : ℕ
  n = length ids

  abbrev begun : World
  begun = all_changed prev.changes (after_stretches before (new_world s ids circuits f))

  abbrev closed : World
  closed = run prev.rounds begun

  size_is : length closed.ring.ids ≡ n
  size_is =
      ap length (left_run prev.rounds begun).ids ∙ ap length (left_all prev.changes (after_stretches before (new_world s ids circuits f))).ids
      ∙ ap length (left_stretches before (new_world s ids circuits f)).ids

  follow : Follow (last_requests s.threshold s.wait n (before ++ prev ∷ [])) closed
  follow p h =
      let ss = before ++ prev ∷ [] in
      let t = rounds_in ss - 1 in
      let long = ends.long in
      let enough = may.ids_ok.enough in
      let many : rounds_in ss ≡ t + 1 = (let r = rounds_together before (prev ∷ []) in omega (arith, size_is)) in
      let whole = whole_run begun prev.rounds (whole_last s ids circuits f before prev may happens) in
      let size : length closed.ring.nodes ≡ n = count closed whole.placed ∙ size_is in
      each_settled closed n (last_requests s.threshold s.wait n ss) size (length-requests n (asked_in s.threshold s.wait n ss t))
      (stretches_settle law s ids circuits f before prev prev.rounds t may happens ends (omega arith) (omega arith) many) p (omega (arith, size))

  -- changes that by the requests hold no node that passes traffic through hold none
  pub held_beside_passing : (cs : List Change) → HoldNonePassing s.threshold s.wait n (before ++ prev ∷ []) cs → EachMay HoldsNoPass closed cs
  held_beside_passing cs may_hold =
      each_no_pass s.threshold s.wait n (before ++ prev ∷ []) (not_none before prev) cs closed follow may_hold
