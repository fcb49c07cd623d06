-- Which controllers a script may hold, by what happened in it: a hold spoils its own step alone.
use Rattle.std.proofs.Common.{◌≡◌, ℕ, zero, suc, ◌+◌, ◌-◌, ◌<◌, ◌≤◌, List, [], ◌∷◌, ◌++◌, length, refl, ap, sym, ◌∙◌, subst, arith, inl, inr}
use Rattle.std.proofs.Common.{append_assoc}
use Rattle.std.specs.Prelude.{◌/◌}
use Rattle.std.proofs.lemmas.Bool.{cases_lt}
use Rattle.sdh_ringmap.specs.Rates.{n_of}
use Rattle.sdh_ringmap.specs.Places.{position_of}
use Rattle.sdh_circuits.specs.declared.PortId.{PortId}
use Rattle.sdh_circuits.specs.Provisioning.{Provisioning, AreCircuits}
use Rattle.sdh_nodestate.specs.declared.NodeState.{NodeState}
use Rattle.sdh_nodestate.specs.declared.NodeState.TheVariants as state
use Rattle.sdh_plant.specs.Fibres.{Fibres}
use Rattle.sdh_request.specs.declared.settings.Settings.{Settings}
use Rattle.sdh_restoration.proofs.Asked.{length-requests}
use Rattle.sdh_signal.specs.Laws.{StillRingsAreSettled}
use Rattle.sdh_signal.specs.Settled.{settled}
use Rattle.sdh_node.specs.Node.{Node, new_node, at_receiving, held_for, slips_at}
use Rattle.sdh_node.specs.Receiving.{commanded_by}
use Rattle.sdh_node.specs.Rings.Held.{node_at, at_place, place_of_port}
use Rattle.sdh_payload.specs.Clock.{Clock}
use Rattle.sdh_node.specs.Rings.Rounds.{World, round}
use Rattle.sdh_node.specs.Rings.Runs.{run, course}
use Rattle.sdh_node.specs.Rings.Quiet.{EndsWindow}
use Rattle.sdh_restoration.specs.Changes.{Change, Stretch, rounds_in}
use Rattle.sdh_restoration.specs.Changes.{Fibre, Order, Hold, Slip, Now}
use Rattle.sdh_restoration.specs.Sides.{asked_in}
use Rattle.sdh_node.specs.Rings.Changes.{changed, all_changed, after_stretch, after_stretches, new_world}
use Rattle.sdh_node.specs.Rings.Laws.{MayHappen}
use Rattle.sdh_node.specs.Rings.Clocks.{clocks_by}
use Rattle.sdh_node.specs.Rings.Sides.{world_in}
use Rattle.sdh_laws.specs.Hearing.Laws.{IsWhole, MayStart}
use Rattle.sdh_laws.proofs.hearing.Nodes.{count}
use Rattle.sdh_laws.proofs.hearing.Staying.{left_all, left_run, left_stretches, world_low, world_later}
use Rattle.sdh_laws.specs.Carrying.Windows.{layout_of, HasCircuits}
use Rattle.sdh_laws.proofs.carrying.Ways.{layout_run}
use Rattle.sdh_laws.specs.Strangers.Owners.{NoneMeetsAStranger, AreClocksOf}
use Rattle.sdh_laws.proofs.hearing.Changes.{each_new, whole_run}
use Rattle.sdh_laws.proofs.hearing.Requests.{whole_last, stretches_settle}
use Rattle.sdh_laws.proofs.carrying.Settles.{each_settled, layout_all, layout_stretches}
use Rattle.sdh_laws.specs.Strangers.Vouched.{IsAside}
use Rattle.sdh_laws.specs.Strangers.Laws.{HoldsAside, EachMay, IsNoPass, HoldsNoPass, last_requests, HoldsNonePassing, HoldNonePassing}
use Rattle.sdh_laws.specs.Strangers.Laws.{EndQuietly, AHoldSpoilsItsOwnStepAlone}
use Rattle.sdh_laws.proofs.strangers.Keeping.{layout_in, rounds_together, happens_in_parts, world_behind}
use Rattle.sdh_laws.proofs.strangers.Vouched.{none_meets}
use Rattle.sdh_laws.proofs.strangers.Windows.{window_vouched, window_shields}
use Rattle.sdh_laws.proofs.strangers.Safe.{IsSafe, safe_of, safe_ready}
use Rattle.sdh_laws.proofs.strangers.Quiet.{node_beyond, safe_in}
use Rattle.sdh_laws.proofs.strangers.Runs.{tells, nodes_that_do_not_pass_may_be_held}

-- ---- changes leave all states

state_at : (f : Node → Node) → ((n : Node) → (f n).state ≡ n.state) → (p : ℕ) (ns : List Node) (q : ℕ)
    → (node_at (at_place p f ns) q).state ≡ (node_at ns q).state
state_at f left p [] q = refl
state_at f left zero (n ∷ ns) zero = left n
state_at f left zero (n ∷ ns) (suc q) = refl
state_at f left (suc p) (n ∷ ns) zero = refl
state_at f left (suc p) (n ∷ ns) (suc q) = state_at f left p ns q

state_stays : (c : Change) (w : World) (q : ℕ) → (node_at (changed c w).ring.nodes q).state ≡ (node_at w.ring.nodes q).state
unfolding changed
state_stays (Fibre p d condition) w q = refl
state_stays (Order p d c) w q = state_at (at_receiving d (commanded_by c)) (λ n. refl) p w.ring.nodes q
state_stays (Hold p turns) w q = state_at (held_for turns) (λ n. refl) p w.ring.nodes q
state_stays (Slip id turn many) w q = state_at (slips_at id turn many) (λ n. refl) (place_of_port w.ring id) w.ring.nodes q
state_stays (Now t) w q = refl

pub no_pass_aside : (x : NodeState) → IsAside x → IsNoPass x
no_pass_aside (state.Idle i) a = tt
no_pass_aside (state.Isolated i) a = tt
no_pass_aside (state.PassThrough i) a = absurd a
no_pass_aside (state.SwitchWest f) a = tt
no_pass_aside (state.SwitchEast f) a = tt

-- ---- in a new ring

abbrev AllAside : World → Type 0
AllAside w = (p : ℕ) → IsAside (node_at w.ring.nodes p).state

one_aside : (c : Change) (w : World) → AllAside w → HoldsAside w c
one_aside (Fibre p d condition) w all = tt
one_aside (Order p d c) w all = tt
one_aside (Hold p turns) w all = inr (all p)
one_aside (Slip id turn many) w all = tt
one_aside (Now t) w all = tt

each_aside : (cs : List Change) (w : World) → AllAside w → EachMay HoldsAside w cs
each_aside [] w all = tt
each_aside (c ∷ cs) w all =
    (one_aside c w all, each_aside cs (changed c w) (λ p. subst IsAside (sym (state_stays c w p)) (all p)))

new_state : (s : Settings) (ids : List ℕ) (circuits : Provisioning) (p : ℕ) → IsAside (new_node s ids circuits.circuits (position_of p)).state
unfolding new_node
new_state s ids circuits p = tt

new_aside : (s : Settings) (ids : List ℕ) (circuits : Provisioning) (f : Fibres) → AllAside (new_world s ids circuits f)
new_aside s ids circuits f p = elim (cases_lt p (length (new_world s ids circuits f).ring.nodes)) [
  | inl low ↦ each_new (λ p n. IsAside n.state) s ids circuits.circuits (λ q h. new_state s ids circuits q) p low
  | inr high ↦ node_beyond (new_world s ids circuits f).ring.nodes p high
]

-- ---- in a quiet ring

module _ (rs : List ℕ) (n : ℕ) where
  abbrev Follows : World → Type 0
  Follows w = (p : ℕ) → (p < n → (node_at w.ring.nodes p).state ≡ settled rs p) × (n ≤ p → IsAside (node_at w.ring.nodes p).state)

  follows_on : (c : Change) (w : World) → Follows w → Follows (changed c w)
  follows_on c w all p = (λ low. state_stays c w p ∙ (all p).0 low, λ high. subst IsAside (sym (state_stays c w p)) ((all p).1 high))

  no_pass_at : (w : World) → Follows w → (p : ℕ) → IsNoPass (settled rs p) → IsNoPass (node_at w.ring.nodes p).state
  no_pass_at w all p z = elim (cases_lt p n) [
    | inl low ↦ subst IsNoPass (sym ((all p).0 low)) z
    | inr high ↦ no_pass_aside (node_at w.ring.nodes p).state ((all p).1 high)
  ]

module _ (threshold wait n : ℕ) (earlier : List Stretch) (ran : earlier ≡ [] → ⊥) where
  abbrev rs : List ℕ
  rs = last_requests threshold wait n earlier

  one_no_pass : (c : Change) (w : World) → Follows rs n w → HoldsNonePassing threshold wait n earlier c → HoldsNoPass w c
  one_no_pass (Fibre p d condition) w all may = tt
  one_no_pass (Order p d c) w all may = tt
  one_no_pass (Hold p turns) w all (inl none) = inl none
  one_no_pass (Hold p turns) w all (inr (inl new)) = absurd (ran new)
  one_no_pass (Hold p turns) w all (inr (inr z)) = inr (no_pass_at rs n w all p z)
  one_no_pass (Slip id turn many) w all may = tt
  one_no_pass (Now t) w all may = tt

  each_no_pass : (cs : List Change) (w : World) → Follows rs n w → HoldNonePassing threshold wait n earlier cs → EachMay HoldsNoPass w cs
  each_no_pass [] w all may = tt
  each_no_pass (c ∷ cs) w all may =
      (one_no_pass c w all may.0, each_no_pass cs (changed c w) (follows_on rs n c w all) may.1)

-- the last of some stretches
pub snoc : (x : Stretch) (xs : List Stretch) → (before : List Stretch) × (last : Stretch) × (x ∷ xs ≡ before ++ last ∷ [])
snoc x [] = ([], x, refl)
snoc x (y ∷ xs) = (let parted = snoc y xs in (x ∷ parted.0, parted.1, ap (λ ss. x ∷ ss) parted.2))

pub not_none : (earlier : List Stretch) (last : Stretch) → earlier ++ last ∷ [] ≡ [] → ⊥
not_none [] last z = cc
not_none (s ∷ earlier) last z = cc

-- the last stretch but one ended with a window
pub ends_behind : (before : List Stretch) (last next : Stretch) (w : World) → EndQuietly w (before ++ last ∷ next ∷ [])
    → EndsWindow (course (all_changed last.changes (after_stretches before w))) last.rounds
ends_behind [] last next w ended = ended.0
ends_behind (x ∷ []) last next w ended = ended.1.0
ends_behind (x ∷ y ∷ before) last next w ended = ends_behind (y ∷ before) last next (after_stretch x w) ended.1

module _ (law : StillRingsAreSettled) (s : Settings) (ids : List ℕ) (circuits : Provisioning) (f : Fibres) (may : MayStart s ids f) where
  abbrev from : World
  from = new_world s ids circuits f

  abbrev n : ℕ
  n = length ids

  module _ (earlier : List Stretch) (last : Stretch) (happen : MayHappen from (earlier ++ last ∷ []))
      (ends : EndsWindow (course (all_changed last.changes (after_stretches earlier from))) last.rounds) where
    abbrev v : World
    v = all_changed last.changes (after_stretches earlier from)

    whole_v : IsWhole v
    whole_v = whole_last s ids circuits f earlier last may happen

    ids_v : length (run last.rounds v).ring.ids ≡ n
    ids_v =
        ap length (left_run last.rounds v).ids ∙ ap length (left_all last.changes (after_stretches earlier from)).ids
        ∙ ap length (left_stretches earlier from).ids

    follows : Follows (last_requests s.threshold s.wait n (earlier ++ last ∷ [])) n (run last.rounds v)
    follows p =
        let ss = earlier ++ last ∷ [] in
        let t = rounds_in ss - 1 in
        let long = ends.long in
        let enough = may.ids_ok.enough in
        let many : rounds_in ss ≡ t + 1 = (let r = rounds_together earlier (last ∷ []) in omega (arith, ids_v)) in
        let size : length (run last.rounds v).ring.nodes ≡ n = count (run last.rounds v) (whole_run v last.rounds whole_v).placed ∙ ids_v in (
          λ low. each_settled (run last.rounds v) n (last_requests s.threshold s.wait n ss) size
              (length-requests n (asked_in s.threshold s.wait n ss t))
              (stretches_settle law s ids circuits f earlier last last.rounds t may happen ends (omega arith) (omega arith) many) p low,
          λ high. node_beyond (run last.rounds v).ring.nodes p (omega arith),
        )

  -- ---- a step after a quiet window

  module _ (ring : AreCircuits n (n_of s.rate / 2) circuits.circuits) (before : List Stretch) (last next : Stretch) (ss : List Stretch)
      (is : ss ≡ before ++ last ∷ next ∷ []) (happen : MayHappen from ss) (ended : EndQuietly from ss)
      (held : HoldNonePassing s.threshold s.wait n (before ++ last ∷ []) next.changes) where
    abbrev clocks : PortId → ℕ → Clock
    clocks = clocks_by circuits.circuits ss

    abbrev begun : World
    begun = all_changed last.changes (after_stretches before from)

    abbrev u : World
    u = after_stretch last (after_stretches before from)

    parts : MayHappen from before × MayHappen (after_stretches before from) (last ∷ next ∷ [])
    parts = happens_in_parts before (last ∷ next ∷ []) from (subst (MayHappen from) is happen)

    until : MayHappen from (before ++ last ∷ [])
    until =
        (happens_in_parts (before ++ last ∷ []) (next ∷ []) from
        (subst (MayHappen from) (is ∙ sym (append_assoc before (last ∷ []) (next ∷ []))) happen)).0

    window : EndsWindow (course begun) last.rounds
    window = ends_behind before last next from (subst (EndQuietly from) is ended)

    many : rounds_in ss ≡ rounds_in before + rounds_in (last ∷ next ∷ [])
    many = ap rounds_in is ∙ rounds_together before (last ∷ next ∷ [])

    there : (t : ℕ) → world_in ss from (rounds_in before + t) ≡ world_in (last ∷ next ∷ []) (after_stretches before from) t
    there t = ap (λ xs. world_in xs from (rounds_in before + t)) is ∙ world_behind before (last ∷ next ∷ []) from t

    told : (t : ℕ) → t < rounds_in (last ∷ next ∷ []) → AreClocksOf clocks (world_in (last ∷ next ∷ []) (after_stretches before from) t).ring
    told t h =
        subst (λ (x : World). AreClocksOf clocks x.ring) (there t)
        (tells s ids circuits f ss may.ids_ok may.honest ring (rounds_in before + t) (omega (arith, many)))

    told_last : (i : ℕ) → i < last.rounds → AreClocksOf clocks (run i begun).ring
    told_last i h =
        subst (λ (x : World). AreClocksOf clocks x.ring) (world_low last (next ∷ []) (after_stretches before from) i h) (told i (omega arith))

    told_next : (i : ℕ) → i < rounds_in (next ∷ []) → AreClocksOf clocks (world_in (next ∷ []) u i).ring
    told_next i h =
        subst (λ (x : World). AreClocksOf clocks x.ring) (world_later last (next ∷ []) (after_stretches before from) i)
        (told (last.rounds + i) (omega arith))

    form_begun : HasCircuits (layout_of begun)
    form_begun = subst HasCircuits (sym (layout_all last.changes (after_stretches before from) ∙ layout_stretches before from)) ring

    whole_begun : IsWhole begun
    whole_begun = whole_v before last until window

    form_u : HasCircuits (layout_of u)
    form_u = subst HasCircuits (sym (layout_run begun last.rounds)) form_begun

    safe_then : (t : ℕ) → t ≤ rounds_in (next ∷ []) → IsSafe clocks (world_in (next ∷ []) u t)
    safe_then t h =
        safe_in clocks law (Unit {0}) (next ∷ []) u t form_u
        (safe_of clocks u (window_vouched clocks law begun form_begun whole_begun last.rounds window told_last))
        (λ z. window_shields clocks law begun form_begun whole_begun last.rounds window told_last) parts.1.1 (
          inr (
            tt,
            each_no_pass s.threshold s.wait n (before ++ last ∷ []) (not_none before last) next.changes u
                (follows before last until window) held,
          ),
          tt,
        ) told_next h

    none_behind : (t : ℕ) → t < next.rounds
        → NoneMeetsAStranger clocks (round (world_in ss from (rounds_in (before ++ last ∷ []) + t))).ring
    none_behind t h =
        let now = world_in (next ∷ []) u t in
        let form_now : HasCircuits (layout_of now) = subst HasCircuits (sym (layout_in (next ∷ []) u t)) form_u in
        let place : rounds_in (before ++ last ∷ []) + t ≡ rounds_in before + (last.rounds + t) =
        (let r = rounds_together before (last ∷ []) in omega arith) in
        let same : world_in ss from (rounds_in (before ++ last ∷ []) + t) ≡ now =
        ap (world_in ss from) place ∙ there (last.rounds + t) ∙ world_later last (next ∷ []) (after_stretches before from) t in
        subst (λ (x : World). NoneMeetsAStranger clocks (round x).ring) (sym same)
        (none_meets clocks now form_now (safe_ready clocks now form_now (safe_then t (omega arith)) (told_next t (omega arith))))

  -- ---- any step

  -- in each round of the last of some stretches
  abbrev Spoils : List Stretch → Stretch → Type 0
  Spoils earlier last =
      MayHappen from (earlier ++ last ∷ []) → EndQuietly from (earlier ++ last ∷ [])
      → HoldNonePassing s.threshold s.wait n earlier last.changes → AreCircuits n (n_of s.rate / 2) circuits.circuits
      → (t : ℕ) → t < last.rounds → NoneMeetsAStranger (clocks_by circuits.circuits (earlier ++ last ∷ []))
      (round (world_in (earlier ++ last ∷ []) from (rounds_in earlier + t))).ring

  first : (last : Stretch) → Spoils [] last
  first last happen ended held ring t h =
      nodes_that_do_not_pass_may_be_held law s ids circuits f (last ∷ []) may.ids_ok may.honest happen
      (inl (each_aside last.changes from (new_aside s ids circuits f)), tt) ring (0 + t) (omega arith)

  behind : (before : List Stretch) (last next : Stretch) → Spoils (before ++ last ∷ []) next
  behind before last next happen ended held ring t h =
      none_behind ring before last next ((before ++ last ∷ []) ++ next ∷ []) (append_assoc before (last ∷ []) (next ∷ [])) happen ended held t h

  spoils : (earlier : List Stretch) (last : Stretch) → Spoils earlier last
  spoils [] last = first last
  spoils (x ∷ earlier) last =
      let parted = snoc x earlier in
      subst (λ (ss : List Stretch). Spoils ss last) (sym parted.2) (behind parted.0 parted.1 last)

pub a_hold_spoils_its_own_step_alone : StillRingsAreSettled → AHoldSpoilsItsOwnStepAlone
a_hold_spoils_its_own_step_alone law s ids circuits f earlier last may = spoils law s ids circuits f may earlier last
