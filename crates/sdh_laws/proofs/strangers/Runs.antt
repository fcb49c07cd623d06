-- The laws over rounds that any plant ran, over settle steps, and over stretches from a new ring on.
use Rattle.std.proofs.Common.{◌≡◌, ℕ, zero, suc, ◌+◌, ◌-◌, ◌*◌, ◌<◌, ◌≤◌, List, [], ◌∷◌, length, Some, refl, ap, sym, ◌∙◌, subst}
use Rattle.std.proofs.Common.{arith, inl, inr}
use Rattle.std.specs.Prelude.{◌/◌, slice_get}
use Rattle.std.proofs.lemmas.Bool.{cases_Bool}
use Rattle.sdh_frame.specs.Aus.{Au}
use Rattle.sdh_ringmap.specs.Rates.{n_of}
use Rattle.sdh_ringmap.specs.Ids.{AreIds}
use Rattle.sdh_circuits.specs.Provisioned.{Provisioned}
use Rattle.sdh_circuits.specs.Provisioning.{Provisioning, AreCircuits}
use Rattle.sdh_circuits.specs.declared.PortId.{PortId}
use Rattle.sdh_circuits.specs.Ends.{port_id}
use Rattle.sdh_signal.specs.Laws.{StillRingsAreSettled}
use Rattle.sdh_payload.specs.Clock.{Clock, ticks}
use Rattle.sdh_payload.specs.Outlet.{Outlet}
use Rattle.sdh_plant.specs.Fibres.{Fibres, IsHonest}
use Rattle.sdh_request.specs.declared.settings.Settings.{Settings}
use Rattle.sdh_node.specs.Stations.{adm}
use Rattle.sdh_node.specs.Rings.Held.{outlet_at}
use Rattle.sdh_node.specs.Rings.Rounds.{World, round}
use Rattle.sdh_node.specs.Rings.Runs.{run}
use Rattle.sdh_restoration.specs.Changes.{Stretch, rounds_in}
use Rattle.sdh_node.specs.Rings.Changes.{new_world}
use Rattle.sdh_node.specs.Rings.Clocks.{clocks_by, clock_in}
use Rattle.sdh_node.specs.Rings.Clocks.{HasPortIn, clock_at}
use Rattle.sdh_node.specs.Rings.Laws.{MayHappen}
use Rattle.sdh_node.specs.Rings.Sides.{world_in}
use Rattle.sdh_node.proofs.RingLaws.Clocks.{clocks_go_on, goes_run}
use Rattle.sdh_rounds.specs.Runs as any_run
use Rattle.sdh_rounds.specs.Rounds as any_round
use Rattle.sdh_rounds.proofs.Laws.{known_rounds_are, known_steps}
use Rattle.sdh_laws.proofs.hearing.Staying.{left_run, left_in, world_low}
use Rattle.sdh_laws.specs.Hearing.Laws.{IsWhole}
use Rattle.sdh_laws.specs.Carrying.Windows.{Layout, layout_of, slots_of, HasCircuits}
use Rattle.sdh_laws.proofs.carrying.Ways.{layout_run}
use Rattle.sdh_laws.proofs.carrying.Owed.{port_is_there}
use Rattle.sdh_signal.proofs.Ways.{end_inside}
use Rattle.sdh_laws.specs.Strangers.Owners.{other_port, NoneMeetsAStranger, AreClocksOf, AreClocksBetween}
use Rattle.sdh_laws.specs.Strangers.Ages.{HoldsSince, MeetsNoStrangerSince, NoneMeetsAStrangerSince}
use Rattle.sdh_laws.specs.Strangers.Ages as since
use Rattle.sdh_laws.specs.Strangers.Transit.{IsTransit, HoldsAfterTransit, ComesAfterTransit, AllComeAfterTransit}
use Rattle.sdh_laws.specs.Strangers.Transit as transit_of
use Rattle.sdh_laws.specs.Strangers.Vouched.{IsVouched}
use Rattle.sdh_laws.specs.Strangers.Laws.{NoneHolds, HoldsAside, HeldAside, KeepsStrangersOutInAll, VouchedRingsStay}
use Rattle.sdh_laws.specs.Strangers.Laws.{RoundsKeepStrangersOut, NodesAsideMayBeHeld, HeldBesidePassing, NodesThatDoNotPassMayBeHeld}
use Rattle.sdh_laws.specs.Strangers.Laws.{StepsKeepStrangersOut, NoPortEverMeetsAStranger, RingsComeToBeVouchedFor}
use Rattle.sdh_laws.specs.Strangers.Laws.{SettledRingsAreVouchedFor, BytesComeAfterTransit, RoutesAreTransits, TransitsAreShort, StrangersAreGoneSoon}
use Rattle.sdh_laws.specs.Strangers.Laws.{DeliversAfterTransit, StepsDeliverAfterTransit, DeliversRecentBytes, StepsDeliverRecentBytes}
use Rattle.sdh_laws.specs.Strangers.Laws.{BytesAlwaysComeAfterTransit, NothingComesLate}
use Rattle.sdh_laws.proofs.strangers.Vouched.{vouched_changed, new_free, nothing_sent, vouched_new, vouched_after, ready_aside, none_meets}
use Rattle.sdh_laws.proofs.strangers.Safe.{IsSafe, safe_of, safe_ready}
use Rattle.sdh_laws.proofs.strangers.Windows.{window_vouched}
use Rattle.sdh_laws.proofs.strangers.Quiet.{safe_in}
use Rattle.sdh_laws.proofs.strangers.Keeping.{none_aside, layout_in, kept_run, kept_in}
use Rattle.sdh_laws.proofs.strangers.Clearing.{arc_is, transit_few, transit_some, Clears, clears_none, clearing_in, cleared, all_come}
use Rattle.sdh_laws.proofs.hearing.Nodes.{one_more}
use Rattle.sdh_signal.proofs.Views.{AreOnRing, on-ring, arc_length}
use Rattle.sdh_signal.proofs.OnArcs.{seen-on}
use Rattle.sdh_signal.proofs.Lengths.{clear-is, straight-hops, around-hops}
use Rattle.sdh_signal.proofs.RouteMarks.{last-place}
use Rattle.sdh_circuits.specs.Provisioned.{arc_of}
use Rattle.sdh_restoration.specs.Routes.{applied_at_place, hops, last_place, places_before}
use Rattle.sdh_ringmap.specs.Arcs.{is_clear}
use Rattle.sdh_ringmap.specs.declared.Side.TheVariants.{East}
use Rattle.sdh_laws.proofs.hearing.Stretches.{ran_at}
use Rattle.sdh_laws.proofs.hearing.Changes.{each_new}

pub vouched_rings_stay : VouchedRingsStay
vouched_rings_stay = record {
  new = λ s ids circuits f clocks are honest. vouched_new clocks s ids circuits f are honest;
  change = λ c w clocks may aside k. vouched_changed clocks c w may aside k;
}

pub rounds_keep_strangers_out : RoundsKeepStrangersOut
rounds_keep_strangers_out w after form r clocks k tells =
    let is : after ≡ round w = (known_rounds_are adm w after (inl k.whole.paired.honest.honest) r).0 in
    subst (λ (v : World). IsVouched clocks v × NoneMeetsAStranger clocks v.ring) (sym is)
    (vouched_after clocks w form k tells, none_meets clocks w form (ready_aside clocks w form k))

-- ---- stretches

module _ (clocks : PortId → ℕ → Clock) where
  runs_vouched : (j : ℕ) (w : World) → HasCircuits (layout_of w) → IsVouched clocks w
      → ((i : ℕ) → i < j → AreClocksOf clocks (run i w).ring) → IsVouched clocks (run j w)
  runs_vouched j w form k tells =
      kept_run (λ v. AreClocksOf clocks v.ring) HoldsAside (λ i v. IsVouched clocks v) (λ i c v may aside x. vouched_changed clocks c v may aside x)
      (λ i v f x told. vouched_after clocks v f x told) j 0 w form k tells

  vouched_in : (rest : List Stretch) (w : World) (t : ℕ) → HasCircuits (layout_of w) → IsVouched clocks w → MayHappen w rest
      → HeldAside w rest → ((j : ℕ) → j < rounds_in rest → AreClocksOf clocks (world_in rest w j).ring) → t ≤ rounds_in rest
      → IsVouched clocks (world_in rest w t)
  vouched_in rest w t form k may aside tells h =
      kept_in (λ v. AreClocksOf clocks v.ring) HoldsAside (λ i v. IsVouched clocks v) (λ i c v may aside x. vouched_changed clocks c v may aside x)
      (λ i v f x told. vouched_after clocks v f x told) rest 0 w t form k may aside tells h

-- ---- rounds alone

module _ (w : World) (form : HasCircuits (layout_of w)) (many : ℕ) (clocks : PortId → ℕ → Clock) (whole : IsWhole w)
    (told : AreClocksBetween clocks w (run many w)) where
  tells_run : (j : ℕ) → j < many → AreClocksOf clocks (run j w).ring
  tells_run j few i c there e =
      let q = port_id i e in
      let get : slice_get w.ring.circuits.circuits i ≡ Some c =
      ap (λ (l : Layout). slice_get l.circuits i) (sym (layout_run w j)) ∙ there in
      let has : HasPortIn w.ring q =
      port_is_there w whole i c e get (end_inside (length w.ring.ids)
      (slots_of (layout_of w)) w.ring.circuits.circuits form i c get e) in
      let number : j ≡ w.ring.rounds + j - w.ring.rounds = omega arith in
      let before : w.ring.rounds + j < (run many w).ring.rounds = omega (arith, (left_run many w).rounds) in
      (goes_run q j w has).1 ∙ ap (λ t. ticks t (clock_at w.ring q)) number ∙ told i c get e (w.ring.rounds + j) (omega arith) before
      ∙ ap (clocks q) (sym (left_run j w).rounds)

module _ (w : World) (form : HasCircuits (layout_of w)) (many : ℕ) (clocks : PortId → ℕ → Clock) (k : IsVouched clocks w)
    (told : AreClocksBetween clocks w (run many w)) where
  form_run : (j : ℕ) → HasCircuits (layout_of (run j w))
  form_run j = subst HasCircuits (sym (layout_run w j)) form

  vouched_run : (j : ℕ) → j ≤ many → IsVouched clocks (run j w)
  vouched_run j few = runs_vouched clocks j w form k (λ i h. tells_run w form many clocks k.whole told i (omega arith))

  none_in : (j : ℕ) → j < many → NoneMeetsAStranger clocks (run (suc j) w).ring
  unfolding any_run.run
  none_in j few = none_meets clocks (run j w) (form_run j) (ready_aside clocks (run j w) (form_run j) (vouched_run j (omega arith)))

  none_within : (j : ℕ) → 1 ≤ j → w.ring.rounds + j ≤ (run many w).ring.rounds → NoneMeetsAStranger clocks (run j w).ring
  none_within j some low =
      let one : suc (j - 1) ≡ j = omega arith in
      subst (λ i. NoneMeetsAStranger clocks (run i w).ring) one (none_in (j - 1) (omega (arith, (left_run many w).rounds)))

run_keeps : (w : World) → HasCircuits (layout_of w) → (many : ℕ) → KeepsStrangersOutInAll w (run many w)
run_keeps w form many clocks k told = (vouched_run w form many clocks k told many (omega arith), none_within w form many clocks k told)

pub steps_keep_strangers_out : StepsKeepStrangersOut
steps_keep_strangers_out = record {
  settled =
      λ w left limit form settles clocks k. (let n = (known_steps adm).settled w left limit (inl k.whole.paired.honest.honest) settles in
      subst (λ (v : World). AreClocksBetween clocks w v → IsVouched clocks v
      × ((j : ℕ) → 1 ≤ j → w.ring.rounds + j ≤ v.ring.rounds → NoneMeetsAStranger clocks (run j w).ring)) (sym n.2)
      (run_keeps w form n.0 clocks k));
  unsettled =
      λ w left limit form never clocks k. (let n = (known_steps adm).unsettled w left limit (inl k.whole.paired.honest.honest) never in
      subst (λ (v : World). AreClocksBetween clocks w v → IsVouched clocks v
      × ((j : ℕ) → 1 ≤ j → w.ring.rounds + j ≤ v.ring.rounds → NoneMeetsAStranger clocks (run j w).ring)) (sym n.1)
      (run_keeps w form limit clocks k));
}

-- what a settle step leaves, whatever the ring carried
pub settled_rings_are_vouched_for : StillRingsAreSettled → SettledRingsAreVouchedFor
settled_rings_are_vouched_for law w left limit clocks whole form settles =
    let n = (known_steps adm).settled w left limit (inl whole.paired.honest.honest) settles in
    subst (λ (v : World). AreClocksBetween clocks w v → IsVouched clocks v) (sym n.2)
    (λ told. window_vouched clocks law w form whole n.0 n.1.window (λ j few. tells_run w form n.0 clocks whole told j few))

-- ---- from every whole ring on

-- from any ring in its place, whatever it carried, once no controller was held for long enough
pub rings_come_to_be_vouched_for : RingsComeToBeVouchedFor
rings_come_to_be_vouched_for most w ss clocks whole form held may none tells t long few =
    cleared clocks most 0 (inr refl) (world_in ss w t) (0 + t) (subst HasCircuits (sym (layout_in ss w t)) form)
    (clearing_in clocks most 0 (inr refl) ss w t whole form (clears_none clocks w) held may none tells few)
    (subst (λ (n : ℕ). most + 2 * n ≤ 0 + t + 2) (ap (λ ids. length ids) (sym (left_in ss w t few).ids)) (omega arith))

-- So each AU-4 holds what was put in as many rounds ago as it lags, as soon as these are over.
pub bytes_come_after_transit : BytesComeAfterTransit
bytes_come_after_transit most w ss clocks whole form held may none tells t long few =
    let two = whole.placed.ids.enough in
    let soon : t ≤ rounds_in ss = omega arith in
    let size : length w.ring.ids ≡ length (world_in ss w t).ring.ids = ap (λ ids. length ids) (sym (left_in ss w t soon).ids) in
    all_come clocks most 0 (inr refl) (world_in ss w t) (0 + t) (subst HasCircuits (sym (layout_in ss w t)) form)
    (clearing_in clocks most 0 (inr refl) ss w t whole form (clears_none clocks w) held may none tells soon) (omega arith)
    (omega arith)

-- ---- transits are short

module _ (clocks : PortId → ℕ → Clock) (n : ℕ) (cs : List Provisioned) (ring : AreOnRing n cs) (t : ℕ) where
  holds_recent : (port : PortId) (a : Au) → HoldsAfterTransit n cs clocks t port a → HoldsSince cs clocks (t + 3 - 2 * n) t port a
  holds_recent port a (transit_of.nobodys h) = since.nobodys h
  holds_recent port a (transit_of.customers c r rounds get transit then h) =
      let seen = seen-on n cs ring port.circuit c get East in
      let long = seen.long in
      let short = seen.short in
      let few = transit_few n (arc_length n c) rounds (omega arith) short (subst (λ spans. IsTransit n spans rounds) (sym (arc_is n c)) transit) in
      let some = transit_some n (arc_length n c) rounds long short (subst (λ spans. IsTransit n spans rounds) (sym (arc_is n c)) transit) in
      since.customers c r get (omega arith) (omega arith) h

  meets_recent : (port : PortId) (o : Outlet) → ComesAfterTransit n cs clocks t port o
      → MeetsNoStrangerSince cs clocks (t + 3 - 2 * n) t port o
  meets_recent port o (transit_of.ais_comes is) = since.ais_comes is
  meets_recent port o (transit_of.bytes_come value form a is own) =
      since.bytes_come value form a is (holds_recent (other_port port) a own)

pub routes_are_transits : RoutesAreTransits
routes_are_transits n slots cs form applied i c get =
    let seen = seen-on n cs (on-ring n slots cs form) i c get East in
    let long = seen.long in
    let short = seen.short in
    subst (λ spans. IsTransit n spans (hops n applied (arc_of n c))) (arc_is n c) (elim (cases_Bool (is_clear n applied (arc_of n c))) [
      | inl clear ↦ transit_of.straight (straight-hops n applied c clear)
      | inr other ↦ (
          let some = sym (clear-is n applied c) ∙ other in
          let on = applied_at_place n applied (arc_of n c) in
          let last = last-place on (arc_length n c) some in
          let from = last.from in
          let below = last.below in
          let is = around-hops n applied c other in
          transit_of.once_round (last_place on (arc_length n c) + 1 - places_before on 0 (arc_length n c)) (omega arith) (omega arith) (omega arith))
    ])

pub transits_are_short : TransitsAreShort
transits_are_short w clocks form come i c get e =
    let n = length w.ring.ids in
    let cs = w.ring.circuits.circuits in
    let ring = on-ring n (slots_of (layout_of w)) cs form in
    let short = (seen-on n cs ring i c get East).short in
    let long = (seen-on n cs ring i c get East).long in
    let first : w.ring.rounds - 1 + 3 - 2 * n ≡ w.ring.rounds + 2 - 2 * n = omega arith in
    subst (λ r. MeetsNoStrangerSince cs clocks r (w.ring.rounds - 1) (port_id i e) (outlet_at w.ring (port_id i e))) first
    (meets_recent clocks n cs ring (w.ring.rounds - 1) (port_id i e) (outlet_at w.ring (port_id i e)) (come i c get e))

pub strangers_are_gone_soon : StrangersAreGoneSoon
unfolding any_round.round any_round.round_with
strangers_are_gone_soon most w ss clocks whole form held may none tells t long few =
    let v = round (world_in ss w t) in
    let soon : t ≤ rounds_in ss = omega arith in
    let size : length v.ring.ids ≡ length w.ring.ids = ap (λ ids. length ids) (left_in ss w t soon).ids in
    let first : v.ring.rounds + 2 - 2 * length v.ring.ids ≡ w.ring.rounds + t + 3 - 2 * length w.ring.ids =
    omega (arith, size, one_more (world_in ss w t), (left_in ss w t soon).rounds) in
    subst (λ i. NoneMeetsAStrangerSince i clocks v.ring) first
    (transits_are_short v clocks (subst HasCircuits (sym (layout_in ss w t)) form)
    (bytes_come_after_transit most w ss clocks whole form held may none tells t long few))

-- ---- over rounds alone

run_after_transit : (w : World) → HasCircuits (layout_of w) → (many : ℕ) → DeliversAfterTransit w (run many w)
unfolding any_run.run
run_after_transit w form many most clocks whole held told zero long low =
    (let two = whole.placed.ids.enough in absurd (omega arith))
run_after_transit w form many most clocks whole held told (suc t) long low =
    let few : t < many = omega (arith, (left_run many w).rounds) in
    let alone : List Stretch = record { changes = []; rounds = many } ∷ [] in
    let on : (j : ℕ) → j < many → world_in alone w j ≡ run j w = λ j h. world_low (record { changes = []; rounds = many }) [] w j h in
    subst (λ (v : World). AllComeAfterTransit clocks (round v).ring) (on t few)
    (bytes_come_after_transit most w alone clocks whole form held (tt, tt) (tt, tt)
    (λ j h. (let h_many : j < many = omega arith in
    subst (λ (v : World). AreClocksOf clocks v.ring) (sym (on j h_many)) (tells_run w form many clocks whole told j h_many)))
    t (omega arith) (omega arith))

recent_by : (w left : World) → HasCircuits (layout_of w) → DeliversAfterTransit w left → DeliversRecentBytes w left
recent_by w left form come most clocks whole held told j long low =
    let first : (run j w).ring.rounds + 2 - 2 * length (run j w).ring.ids ≡ w.ring.rounds + j + 2 - 2 * length w.ring.ids =
    omega (arith, (left_run j w).rounds, ap (λ (ids : List ℕ). length ids) (left_run j w).ids) in
    subst (λ i. NoneMeetsAStrangerSince i clocks (run j w).ring) first
    (transits_are_short (run j w) clocks (subst HasCircuits (sym (layout_run w j)) form) (come most clocks whole held told j long low))

pub steps_deliver_after_transit : StepsDeliverAfterTransit
steps_deliver_after_transit = record {
  settled =
      λ w left limit form settles most clocks whole. (let n = (known_steps adm).settled w left limit (inl whole.paired.honest.honest) settles in
      subst (DeliversAfterTransit w) (sym n.2) (run_after_transit w form n.0) most clocks whole);
  unsettled =
      λ w left limit form never most clocks whole. (let n = (known_steps adm).unsettled w left limit (inl whole.paired.honest.honest) never in
      subst (DeliversAfterTransit w) (sym n.1) (run_after_transit w form limit) most clocks whole);
}

pub steps_deliver_recent_bytes : StepsDeliverRecentBytes
steps_deliver_recent_bytes = record {
  settled = λ w left limit form settles. recent_by w left form (steps_deliver_after_transit.settled w left limit form settles);
  unsettled = λ w left limit form never. recent_by w left form (steps_deliver_after_transit.unsettled w left limit form never);
}

-- ---- from a new ring on

module _ (s : Settings) (ids : List ℕ) (circuits : Provisioning) (f : Fibres) (ss : List Stretch) (are : AreIds ids) (honest : IsHonest f)
    (ring : AreCircuits (length ids) (n_of s.rate / 2) circuits.circuits) where
  abbrev w : World
  w = new_world s ids circuits f

  abbrev cs : List Provisioned
  cs = circuits.circuits

  abbrev clocks : PortId → ℕ → Clock
  clocks = clocks_by cs ss

  begins : IsVouched clocks w
  begins = vouched_new clocks s ids circuits f are honest

  pub tells : (t : ℕ) → t < rounds_in ss → AreClocksOf clocks (world_in ss w t).ring
  tells t h i c there e =
      let q = port_id i e in
      let get : slice_get cs i ≡ Some c = ap (λ (l : Layout). slice_get l.circuits i) (sym (layout_in ss w t)) ∙ there in
      let has : HasPortIn w.ring q = port_is_there w begins.whole i c e get (end_inside (length ids) (n_of s.rate / 2) cs ring i c get e) in
      clocks_go_on.history ss w q t has h
      ∙ ap (λ k. clock_in q ss k t) (clocks_go_on.new s ids circuits q has)
      ∙ ap (clocks q) (sym (ran_at s ids circuits f ss t (omega arith)))

  none_met : (t : ℕ) → t < rounds_in ss → IsVouched clocks (world_in ss w t) → NoneMeetsAStranger clocks (round (world_in ss w t)).ring
  none_met t h k =
      let form = subst HasCircuits (sym (layout_in ss w t)) ring in
      none_meets clocks (world_in ss w t) form (ready_aside clocks (world_in ss w t) form k)

  pub no_stranger : MayHappen w ss → HeldAside w ss → (t : ℕ) → t < rounds_in ss → NoneMeetsAStranger clocks (round (world_in ss w t)).ring
  no_stranger happen aside t h = none_met t h (vouched_in clocks ss w t ring begins happen aside tells (omega arith))

  -- as nothing is under way in a new ring
  clears_new : (ahead : ℕ) → Clears clocks w ahead
  clears_new ahead = record {
    working = λ p h m d line there low high. absurd (nothing_sent clocks s ids circuits f are honest line p d h there);
    protection = λ p h m d line there low high. absurd (nothing_sent clocks s ids circuits f are honest line p d h there);
  }

  -- and no controller is held
  pub new_come : MayHappen w ss → NoneHolds ss → (t : ℕ) → t < rounds_in ss → AllComeAfterTransit clocks (round (world_in ss w t)).ring
  new_come happen none t h =
      let size : length w.ring.ids ≡ length (world_in ss w t).ring.ids = ap (λ ids. length ids) (sym (left_in ss w t (omega arith)).ids) in
      let ahead = 2 * length ids in
      all_come clocks 0 ahead (inl refl) (world_in ss w t) (0 + t) (subst HasCircuits (sym (layout_in ss w t)) ring)
      (clearing_in clocks 0 ahead (inl refl) ss w t begins.whole ring (clears_new ahead)
      (each_new (λ p n. n.held ≤ 0) s ids cs (λ p low. (let free = new_free clocks s ids circuits f are honest p in omega arith))) happen none tells
      (omega arith)) (omega arith) (omega (arith, size))

  -- where controllers are held of nodes that don't pass traffic through
  pub no_stranger_beside : StillRingsAreSettled → MayHappen w ss → HeldBesidePassing ⊥ w ss → (t : ℕ) → t < rounds_in ss
      → NoneMeetsAStranger clocks (round (world_in ss w t)).ring
  no_stranger_beside law happen held t h =
      let form = subst HasCircuits (sym (layout_in ss w t)) ring in
      let safe : IsSafe clocks (world_in ss w t) =
      safe_in clocks law ⊥ ss w t ring (safe_of clocks w begins) (λ z. absurd z) happen held tells (omega arith) in
      none_meets clocks (world_in ss w t) form (safe_ready clocks (world_in ss w t) form safe (tells t h))

pub no_port_ever_meets_a_stranger : NoPortEverMeetsAStranger
no_port_ever_meets_a_stranger s ids circuits f ss are honest happen none ring t h =
    no_stranger s ids circuits f ss are honest ring happen (none_aside (new_world s ids circuits f) ss none) t h

pub bytes_always_come_after_transit : BytesAlwaysComeAfterTransit
bytes_always_come_after_transit s ids circuits f ss are honest happen none ring t h =
    new_come s ids circuits f ss are honest ring happen none t h

pub nothing_comes_late : NothingComesLate
unfolding any_round.round any_round.round_with
nothing_comes_late s ids circuits f ss are honest happen none ring t h =
    let w = new_world s ids circuits f in
    let v = round (world_in ss w t) in
    let soon : t ≤ rounds_in ss = omega arith in
    let size : length v.ring.ids ≡ length ids = ap (λ ids. length ids) (left_in ss w t soon).ids in
    let first : v.ring.rounds + 2 - 2 * length v.ring.ids ≡ t + 3 - 2 * length ids =
    omega (arith, size, one_more (world_in ss w t), ran_at s ids circuits f ss t soon) in
    subst (λ i. NoneMeetsAStrangerSince i (clocks_by circuits.circuits ss) v.ring) first
    (transits_are_short v (clocks_by circuits.circuits ss) (subst HasCircuits (sym (layout_in ss w t)) ring)
    (bytes_always_come_after_transit s ids circuits f ss are honest happen none ring t h))

pub nodes_aside_may_be_held : NodesAsideMayBeHeld
nodes_aside_may_be_held s ids circuits f ss are honest happen aside ring t h =
    no_stranger s ids circuits f ss are honest ring happen aside t h

pub nodes_that_do_not_pass_may_be_held : StillRingsAreSettled → NodesThatDoNotPassMayBeHeld
nodes_that_do_not_pass_may_be_held law s ids circuits f ss are honest happen held ring t h =
    no_stranger_beside s ids circuits f ss are honest ring law happen held t h
