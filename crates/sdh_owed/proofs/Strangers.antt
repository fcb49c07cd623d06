-- What a port delivers in a round of a settle step was put in not long ago.
use Rattle.std.proofs.Common.{◌≡◌, ◌⊎◌, ℕ, ◌+◌, ◌-◌, ◌*◌, ◌<◌, ◌≤◌, Bool, true, false, Some, List, [], ◌∷◌, ◌++◌, length, refl, ap}
use Rattle.std.proofs.Common.{sym, ◌∙◌, subst, arith, inl, inr, append_assoc, le_refl}
use Rattle.std.specs.Prelude.{nat_lt, if◌then◌else◌, slice_get, ◌%◌}
use Rattle.std.proofs.lemmas.Bool.{cases_lt}
use Rattle.std.proofs.lemmas.Bool.Decides.{nat_tests}
use Rattle.sdh_frame.specs.Aus.{Au}
use Rattle.sdh_circuits.specs.Provisioned.{Provisioned, customer_at}
use Rattle.sdh_circuits.specs.Provisioning.{Provisioning}
use Rattle.sdh_circuits.specs.declared.PortId.{PortId}
use Rattle.sdh_circuits.specs.Ends.{port_id}
use Rattle.sdh_payload.specs.Clock.{Clock}
use Rattle.sdh_payload.specs.Outlet.{Outlet}
use Rattle.sdh_plant.specs.Fibres.{Fibres}
use Rattle.sdh_request.specs.declared.settings.Settings.{Settings}
use Rattle.sdh_signal.specs.Laws.{StillRingsAreSettled}
use Rattle.sdh_node.specs.Rings.Held.{HeldRing, new_ring, outlet_at}
use Rattle.sdh_node.specs.Rings.Rounds.{World, round}
use Rattle.sdh_node.specs.Rings.Runs.{run, course}
use Rattle.sdh_node.specs.Rings.Quiet.{is_calm, EndsWindow}
use Rattle.sdh_node.specs.Rings.Changes.{all_changed, after_stretches, new_world}
use Rattle.sdh_node.specs.Rings.Clocks.{clocks_by}
use Rattle.sdh_node.specs.Rings.Laws.{MayHappen}
use Rattle.sdh_node.specs.Rings.Sides.{world_in}
use Rattle.sdh_restoration.specs.Changes.{Change, Stretch, rounds_in}
use Rattle.sdh_restoration.specs.Changes.{Fibre, Order, Hold, Slip, Now}
use Rattle.sdh_laws.specs.Hearing.Laws.{IsWhole, MayStart}
use Rattle.sdh_laws.specs.Carrying.Windows.{layout_in, layout_of, HasCircuits}
use Rattle.sdh_laws.specs.Strangers.Owners.{other_port, put_by, HasBytesOf, Holds, MeetsNoStranger, NoneMeetsAStranger, AreClocksOf}
use Rattle.sdh_laws.specs.Strangers.Owners as owner
use Rattle.sdh_laws.specs.Strangers.Vouched.{IsVouched}
use Rattle.sdh_laws.specs.Strangers.Laws.{HoldsNone, HoldNone, HoldsNonePassing, HoldNonePassing, EndQuietly, AHoldSpoilsItsOwnStepAlone}
use Rattle.sdh_laws.proofs.hearing.Changes.{whole_run}
use Rattle.sdh_laws.proofs.hearing.Requests.{whole_last, after_last}
use Rattle.sdh_laws.proofs.hearing.Staying.{left_all, left_run, left_stretches, world_low, world_later}
use Rattle.sdh_laws.proofs.carrying.Settles.{layout_all, layout_stretches}
use Rattle.sdh_laws.proofs.carrying.Ways.{layout_run}
use Rattle.sdh_laws.proofs.converging.Runs.{run_more}
use Rattle.sdh_laws.proofs.strangers.Keeping.{rounds_together, happens_in_parts, world_behind}
use Rattle.sdh_laws.proofs.strangers.Quiet.{safe_in}
use Rattle.sdh_laws.proofs.strangers.Runs.{tells, bytes_come_after_transit, transits_are_short, bytes_always_come_after_transit}
use Rattle.sdh_laws.proofs.strangers.Safe.{IsSafe, safe_of, safe_ready}
use Rattle.sdh_laws.proofs.strangers.Vouched.{none_meets}
use Rattle.sdh_laws.proofs.strangers.Shields.{AllShielded}
use Rattle.sdh_laws.proofs.strangers.Windows.{window_vouched, window_shields}
use Rattle.sdh_laws.specs.Strangers.Ages.{HoldsSince, MeetsNoStrangerSince, NoneMeetsAStrangerSince}
use Rattle.sdh_laws.specs.Strangers.Ages as since
use Rattle.sdh_laws.specs.Strangers.Transit.{AllComeAfterTransit}
use Rattle.sdh_owed.specs.Laws.{ring_by}
use Rattle.sdh_owed.specs.Strangers.{longest_hold, IsUnheld}
use Rattle.sdh_owed.proofs.Soon.{IsReady}
use Rattle.sdh_owed.proofs.Holding.{held_by_all, held_beside_passing}
use Rattle.sdh_laws.proofs.strangers.Scripts.{snoc, ends_behind}
use Rattle.sdh_laws.proofs.hearing.Nodes.{one_more}
use Rattle.sdh_laws.proofs.hearing.Signalling.{calm_rounds_are_still}
use Rattle.sdh_rounds.specs.Rounds as any_round
use Rattle.sdh_rounds.specs.Runs as any_run
use Rattle.sdh_laws.proofs.hearing.Steady.{AllHeldFor, held_for_none}

-- ---- clocks that aren't known before a round

-- the clocks from this round on, and before it the clock with which it begins
clocks_since : ℕ → (PortId → ℕ → Clock) → PortId → ℕ → Clock
clocks_since first clocks port r = if nat_lt r first then clocks port first else clocks port r

clock_before : (first : ℕ) (clocks : PortId → ℕ → Clock) (port : PortId) (r : ℕ) → r < first
    → clocks_since first clocks port r ≡ clocks port first
unfolding clocks_since
clock_before first clocks port r low =
    let b : nat_lt r first ≡ true = grind (arith, nat_tests) in
    ap (λ (x : Bool). if x then clocks port first else clocks port r) b

clock_from : (first : ℕ) (clocks : PortId → ℕ → Clock) (port : PortId) (r : ℕ) → first ≤ r
    → clocks_since first clocks port r ≡ clocks port r
unfolding clocks_since
clock_from first clocks port r high =
    let b : nat_lt r first ≡ false = grind (arith, nat_tests) in
    ap (λ (x : Bool). if x then clocks port first else clocks port r) b

-- from round `first` on these clocks are those of the ring
tells_since : (first : ℕ) (clocks : PortId → ℕ → Clock) (r : HeldRing) → first ≤ r.rounds → AreClocksOf clocks r
    → AreClocksOf (clocks_since first clocks) r
tells_since first clocks r late told i c get e =
    told i c get e ∙ sym (clock_from first clocks (port_id i e) r.rounds late)

-- what was put in under one of these clocks was put in from round `first` on
module _ (circuits : List Provisioned) (clocks : PortId → ℕ → Clock) (first t : ℕ) (late : (first ≡ 0) ⊎ (first < t)) where
  put_at : (port : PortId) (a : Au) (c : Provisioned) (r : ℕ) → slice_get circuits port.circuit ≡ Some c → r < t → (first ≡ 0) ⊎ (first < t)
      → HasBytesOf (put_by (customer_at c port.end) (clocks_since first clocks port r)) a → HoldsSince circuits clocks first t port a
  put_at port a c r get low (inl none) h =
      since.customers c r get (omega (arith, none)) low
      (subst (λ (k : Clock). HasBytesOf (put_by (customer_at c port.end) k) a) (clock_from first clocks port r (omega (arith, none))) h)
  put_at port a c r get low (inr some) h = elim (cases_lt r first) [
    | inl before ↦ since.customers c first get (le_refl first) some
        (subst (λ (k : Clock). HasBytesOf (put_by (customer_at c port.end) k) a) (clock_before first clocks port r before) h)
    | inr behind ↦ since.customers c r get behind low
        (subst (λ (k : Clock). HasBytesOf (put_by (customer_at c port.end) k) a) (clock_from first clocks port r behind) h)
  ]

  holds_since : (port : PortId) (a : Au) → Holds circuits (clocks_since first clocks) t port a → HoldsSince circuits clocks first t port a
  holds_since port a (owner.nobodys h) = since.nobodys h
  holds_since port a (owner.customers c r get low h) = put_at port a c r get low late h

  meets_since : (port : PortId) (o : Outlet) → MeetsNoStranger circuits (clocks_since first clocks) t port o
      → MeetsNoStrangerSince circuits clocks first t port o
  meets_since port o (owner.ais_comes is) = since.ais_comes is
  meets_since port o (owner.bytes_come value form a is own) = since.bytes_come value form a is (holds_since (other_port port) a own)

-- no port met a stranger in the ring's last round, nor bytes from before round `first`
none_since : (first : ℕ) (clocks : PortId → ℕ → Clock) (r : HeldRing) → (first ≡ 0) ⊎ (first < r.rounds - 1)
    → NoneMeetsAStranger (clocks_since first clocks) r → NoneMeetsAStrangerSince first clocks r
none_since first clocks r late none i c get e =
    meets_since r.circuits.circuits clocks first (r.rounds - 1) late (port_id i e) (outlet_at r (port_id i e)) (none i c get e)

-- ---- since a round before it

holds_longer : (circuits : List Provisioned) (clocks : PortId → ℕ → Clock) (a b t : ℕ) (port : PortId) (x : Au) → a ≤ b
    → HoldsSince circuits clocks b t port x → HoldsSince circuits clocks a t port x
holds_longer circuits clocks a b t port x less (since.nobodys h) = since.nobodys h
holds_longer circuits clocks a b t port x less (since.customers c r get from low h) = since.customers c r get (omega (arith, less, from)) low h

meets_longer : (circuits : List Provisioned) (clocks : PortId → ℕ → Clock) (a b t : ℕ) (port : PortId) (o : Outlet) → a ≤ b
    → MeetsNoStrangerSince circuits clocks b t port o → MeetsNoStrangerSince circuits clocks a t port o
meets_longer circuits clocks a b t port o less (since.ais_comes is) = since.ais_comes is
meets_longer circuits clocks a b t port o less (since.bytes_come value form x is own) =
    since.bytes_come value form x is (holds_longer circuits clocks a b t (other_port port) x less own)

none_longer : (a b : ℕ) (clocks : PortId → ℕ → Clock) (r : HeldRing) → a ≤ b → NoneMeetsAStrangerSince b clocks r
    → NoneMeetsAStrangerSince a clocks r
none_longer a b clocks r less none i c get e =
    meets_longer r.circuits.circuits clocks a b (r.rounds - 1) (port_id i e) (outlet_at r (port_id i e)) less (none i c get e)

-- bytes from any earlier round are bytes from round 0 on
from_first : (clocks : PortId → ℕ → Clock) (r : HeldRing) → NoneMeetsAStranger clocks r → NoneMeetsAStrangerSince 0 clocks r
from_first clocks r none i c get e = meets (port_id i e) (outlet_at r (port_id i e)) (none i c get e)
  where
    holds : (port : PortId) (a : Au) → Holds r.circuits.circuits clocks (r.rounds - 1) port a
        → HoldsSince r.circuits.circuits clocks 0 (r.rounds - 1) port a
    holds port a (owner.nobodys h) = since.nobodys h
    holds port a (owner.customers c r get low h) = since.customers c r get (omega arith) low h

    meets : (port : PortId) (o : Outlet) → MeetsNoStranger r.circuits.circuits clocks (r.rounds - 1) port o
        → MeetsNoStrangerSince r.circuits.circuits clocks 0 (r.rounds - 1) port o
    meets port o (owner.ais_comes is) = since.ais_comes is
    meets port o (owner.bytes_come value form a is own) = since.bytes_come value form a is (holds (other_port port) a own)

-- ---- stretches

-- ---- a round

module _ (s : Settings) (ids : List ℕ) (circuits : Provisioning) (f : Fibres) (may : MayStart s ids f)
    (form : HasCircuits (layout_in (new_ring s ids circuits))) where
  abbrev from : World
  from = new_world s ids circuits f

  abbrev n : ℕ
  n = length ids

  -- ---- in a stretch, by the clocks of all

  module _ (earlier : List Stretch) (last : Stretch) (later : List Stretch) (ss : List Stretch) (is : ss ≡ earlier ++ last ∷ later)
      (happens : MayHappen from (earlier ++ last ∷ [])) where
    abbrev clocks : PortId → ℕ → Clock
    clocks = clocks_by circuits.circuits ss

    abbrev begun : World
    begun = all_changed last.changes (after_stretches earlier from)

    whole_begun : IsWhole begun
    whole_begun = whole_last s ids circuits f earlier last may happens

    form_begun : HasCircuits (layout_of begun)
    form_begun = subst HasCircuits (sym (layout_all last.changes (after_stretches earlier from) ∙ layout_stretches earlier from)) form

    form_at : (t : ℕ) → HasCircuits (layout_of (run t begun))
    form_at t = subst HasCircuits (sym (layout_run begun t)) form_begun

    rounds_at : (t : ℕ) → (run t begun).ring.rounds ≡ rounds_in earlier + t
    rounds_at t =
        omega (
          arith,
          (left_run t begun).rounds,
          (left_all last.changes (after_stretches earlier from)).rounds,
          (left_stretches earlier from).rounds,
        )

    size_at : (t : ℕ) → length (run t begun).ring.ids ≡ n
    size_at t =
        ap (λ (l : List ℕ). length l) ((left_run t begun).ids ∙ (left_all last.changes (after_stretches earlier from)).ids
        ∙ (left_stretches earlier from).ids)

    world_at : (t : ℕ) → t < last.rounds → world_in ss from (rounds_in earlier + t) ≡ run t begun
    world_at t low =
        ap (λ xs. world_in xs from (rounds_in earlier + t)) is ∙ world_behind earlier (last ∷ later) from t
        ∙ world_low last later (after_stretches earlier from) t low

    told_at : (t : ℕ) → t < last.rounds → AreClocksOf clocks (run t begun).ring
    told_at t low =
        subst (λ (v : World). AreClocksOf clocks v.ring) (world_at t low)
        (tells s ids circuits f ss may.ids_ok may.honest form (rounds_in earlier + t)
        (omega (arith, ap rounds_in is, rounds_together earlier (last ∷ later), low)))

  -- ---- a stretch once no controller is held any more

  module _ (earlier : List Stretch) (last : Stretch) (happens : MayHappen from (earlier ++ last ∷ []))
      (ready : IsReady (after_stretches earlier from)) (t : ℕ) (low : t < last.rounds)
      (long : longest_hold last.changes + 2 * n ≤ t + 3) where
    abbrev all_now : List Stretch
    all_now = earlier ++ last ∷ []

    abbrev begun_now : World
    begun_now = all_changed last.changes (after_stretches earlier from)

    abbrev longest : ℕ
    longest = longest_hold last.changes

    held_now : AllHeldFor longest begun_now
    held_now =
        held_by_all longest last.changes (after_stretches earlier from) (le_refl longest)
        (held_for_none longest (after_stretches earlier from) ready.free)

    abbrev alone : List Stretch
    alone = record { changes = []; rounds = last.rounds } ∷ []

    world_on : (j : ℕ) → j < last.rounds → world_in alone begun_now j ≡ run j begun_now
    world_on j few = world_low (record { changes = []; rounds = last.rounds }) [] begun_now j few

    told_now : (j : ℕ) → j < rounds_in alone → AreClocksOf (clocks_by circuits.circuits all_now) (world_in alone begun_now j).ring
    told_now j few =
        subst (λ (v : World). AreClocksOf (clocks_by circuits.circuits all_now) v.ring) (sym (world_on j (omega arith)))
        (told_at earlier last [] all_now refl happens j (omega arith))

    size_now : length begun_now.ring.ids ≡ n
    size_now = ap (λ (l : List ℕ). length l) (sym (left_run 0 begun_now).ids) ∙ size_at earlier last [] all_now refl happens 0

    pub come_long : AllComeAfterTransit (clocks_by circuits.circuits all_now) (round (world_in all_now from (rounds_in earlier + t))).ring
    come_long =
        subst (λ (v : World). AllComeAfterTransit (clocks_by circuits.circuits all_now) (round v).ring)
        (world_on t low ∙ sym (world_at earlier last [] all_now refl happens t low))
        (bytes_come_after_transit longest begun_now alone (clocks_by circuits.circuits all_now) (whole_begun earlier last [] all_now refl happens)
        (form_begun earlier last [] all_now refl happens) held_now (tt, tt) (tt, tt) told_now t (omega (arith, long, size_now))
        (omega (arith, low)))

  -- ---- a stretch after a quiet window

  module _ (law : StillRingsAreSettled) (before : List Stretch) (prev next : Stretch)
      (happens : MayHappen from ((before ++ prev ∷ []) ++ next ∷ [])) (quiet : EndQuietly from ((before ++ prev ∷ []) ++ next ∷ []))
      (none : HoldNonePassing s.threshold s.wait n (before ++ prev ∷ []) next.changes) where
    abbrev all_next : List Stretch
    all_next = (before ++ prev ∷ []) ++ next ∷ []

    parted_so : all_next ≡ before ++ prev ∷ next ∷ []
    parted_so = append_assoc before (prev ∷ []) (next ∷ [])

    happens_prev : MayHappen from (before ++ prev ∷ [])
    happens_prev = (happens_in_parts (before ++ prev ∷ []) (next ∷ []) from happens).0

    parts_next : MayHappen from before × MayHappen (after_stretches before from) (prev ∷ next ∷ [])
    parts_next = happens_in_parts before (prev ∷ next ∷ []) from (subst (MayHappen from) parted_so happens)

    abbrev begun_prev : World
    begun_prev = all_changed prev.changes (after_stretches before from)

    abbrev closed : World
    closed = run prev.rounds begun_prev

    whole_prev : IsWhole begun_prev
    whole_prev = whole_begun before prev (next ∷ []) all_next parted_so happens_prev

    size_prev : (t : ℕ) → length (run t begun_prev).ring.ids ≡ n
    size_prev t = size_at before prev (next ∷ []) all_next parted_so happens_prev t

    window_prev : EndsWindow (course begun_prev) prev.rounds
    window_prev = ends_behind before prev next from (subst (EndQuietly from) parted_so quiet)

    long_prev : 3 * n ≤ prev.rounds
    long_prev = omega (arith, window_prev.long, size_prev prev.rounds)

    -- the round with which the quiet window of the stretch before begins
    abbrev lead : ℕ
    lead = prev.rounds - 3 * n

    abbrev opened : World
    opened = run lead begun_prev

    abbrev opening : ℕ
    opening = rounds_in before + lead

    abbrev known_next : PortId → ℕ → Clock
    known_next = clocks_since opening (clocks_by circuits.circuits all_next)

    until_now : run (3 * n) opened ≡ closed
    until_now = run_more begun_prev lead (3 * n) ∙ ap (λ i. run i begun_prev) (let e : 3 * n + lead ≡ prev.rounds = omega (arith, long_prev) in e)

    whole_then : IsWhole opened
    whole_then = whole_run begun_prev lead whole_prev

    form_then : HasCircuits (layout_of opened)
    form_then = form_at before prev (next ∷ []) all_next parted_so happens_prev lead

    window_then : EndsWindow (course opened) (3 * n)
    window_then = record {
      long = (let z = ap (λ (v : World). length v.ring.ids) until_now ∙ size_prev prev.rounds in omega (arith, z));
      calm = λ j low high. subst (λ (v : World). is_calm v.ring.nodes ≡ true) (sym (run_more begun_prev lead j))
          (let z = ap (λ (v : World). length v.ring.ids) until_now ∙ size_prev prev.rounds in
          window_prev.calm (j + lead) (omega (arith, low, z, size_prev prev.rounds, long_prev)) (omega (arith, high, long_prev)));
      place = subst (λ (v : World). (v.ring.rounds - 1) % 128 ≡ 0) (sym until_now) window_prev.place;
    }

    told_then : (i : ℕ) → i < 3 * n → AreClocksOf known_next (run i opened).ring
    told_then i few =
        subst (λ (v : World). AreClocksOf known_next v.ring) (sym (run_more begun_prev lead i))
        (tells_since opening (clocks_by circuits.circuits all_next) (run (i + lead) begun_prev).ring
        (omega (arith, rounds_at before prev (next ∷ []) all_next parted_so happens_prev (i + lead)))
        (told_at before prev (next ∷ []) all_next parted_so happens_prev (i + lead) (omega (arith, few, long_prev))))

    vouched_next : IsVouched known_next closed
    vouched_next = subst (IsVouched known_next) until_now (window_vouched known_next law opened form_then whole_then (3 * n) window_then told_then)

    shields_next : AllShielded known_next closed
    shields_next =
        subst (AllShielded known_next) until_now (window_shields known_next law opened form_then whole_then (3 * n) window_then told_then)

    -- the world in which the rounds after the changes of the next stretch begin
    abbrev start : World
    start = all_changed next.changes closed

    same_start : all_changed next.changes (after_stretches (before ++ prev ∷ []) from) ≡ start
    same_start = ap (all_changed next.changes) (after_last before prev from)

    told_next : (i : ℕ) → i < next.rounds → AreClocksOf known_next (run i start).ring
    told_next i few =
        let later = before ++ prev ∷ [] in
        let begin = all_changed next.changes (after_stretches later from) in
        subst (λ (v : World). AreClocksOf known_next (run i v).ring) same_start
        (tells_since opening (clocks_by circuits.circuits all_next) (run i begin).ring
        (omega (arith, rounds_at later next [] all_next refl happens i, rounds_together before (prev ∷ []), long_prev))
        (told_at later next [] all_next refl happens i few))

    told_in : (i : ℕ) → i < rounds_in (next ∷ []) → AreClocksOf known_next (world_in (next ∷ []) closed i).ring
    told_in i few =
        subst (λ (v : World). AreClocksOf known_next v.ring) (sym (world_low next [] closed i (omega (arith, few)))) (told_next i (omega (arith, few)))

    safe_at : (t : ℕ) → t < next.rounds → IsSafe known_next (world_in (next ∷ []) closed t)
    safe_at t low =
        safe_in known_next law (Unit {0}) (next ∷ []) closed t (form_at before prev (next ∷ []) all_next parted_so happens_prev prev.rounds)
        (safe_of known_next closed vouched_next) (λ z. shields_next) parts_next.1.1
        (inr (tt, held_beside_passing law s ids circuits f may before prev happens_prev window_prev next.changes none), tt) told_in
        (omega (arith, low))

    pub behind_window : (t : ℕ) → t < next.rounds
        → NoneMeetsAStrangerSince (rounds_in (before ++ prev ∷ []) - 3 * n) (clocks_by circuits.circuits all_next)
        (round (world_in all_next from (rounds_in (before ++ prev ∷ []) + t))).ring
    behind_window t low =
        let later = before ++ prev ∷ [] in
        let now = world_in (next ∷ []) closed t in
        let there : world_in all_next from (rounds_in later + t) ≡ now =
        world_at later next [] all_next refl happens t low ∙ ap (run t) same_start ∙ sym (world_low next [] closed t low) in
        let number : now.ring.rounds ≡ rounds_in later + t =
        ap (λ (v : World). v.ring.rounds) (sym there ∙ world_at later next [] all_next refl happens t low)
        ∙ rounds_at later next [] all_next refl happens t in
        let form_now : HasCircuits (layout_of now) =
        subst (λ (v : World). HasCircuits (layout_of v)) (sym (world_at later next [] all_next refl happens t low) ∙ there)
        (form_at later next [] all_next refl happens t) in
        let two = may.ids_ok.enough in
        let begins : opening ≡ rounds_in later - 3 * n = omega (arith, rounds_together before (prev ∷ []), long_prev) in
        let after : (opening ≡ 0) ⊎ (opening < (round now).ring.rounds - 1) =
        inr (omega (arith, one_more now, number, rounds_together before (prev ∷ []), long_prev, two)) in
        subst (λ (v : World). NoneMeetsAStrangerSince (rounds_in later - 3 * n) (clocks_by circuits.circuits all_next) (round v).ring) (sym there)
        (subst (λ i. NoneMeetsAStrangerSince i (clocks_by circuits.circuits all_next) (round now).ring) begins
        (none_since opening (clocks_by circuits.circuits all_next) (round now).ring after
        (none_meets known_next now form_now (safe_ready known_next now form_now (safe_at t low) (told_in t (omega (arith, low)))))))

    -- ---- where its changes hold no controller

    module _ (unheld : HoldNone next.changes) where
      -- no controller missed a turn in the window
      free_then : AllHeldFor 0 opened
      unfolding any_run.run
      free_then =
          held_for_none 0 opened (calm_rounds_are_still opened whole_then
          (window_then.calm 1 (let z = ap (λ (v : World). length v.ring.ids) until_now ∙ size_prev prev.rounds in omega (arith, z))
          (omega (arith, may.ids_ok.enough)))).free

      abbrev waiting : Stretch
      waiting = record { changes = []; rounds = 3 * n }

      abbrev since_opened : List Stretch
      since_opened = waiting ∷ next ∷ []

      later_now : (j : ℕ) → world_in since_opened opened (3 * n + j) ≡ world_in (next ∷ []) closed j
      later_now j = world_later waiting (next ∷ []) opened j ∙ ap (λ (v : World). world_in (next ∷ []) v j) until_now

      told_within : (j : ℕ) → j < 3 * n → AreClocksOf (clocks_by circuits.circuits all_next) (world_in since_opened opened j).ring
      told_within j few =
          subst (λ (v : World). AreClocksOf (clocks_by circuits.circuits all_next) v.ring)
          (sym (world_low waiting (next ∷ []) opened j few ∙ run_more begun_prev lead j))
          (told_at before prev (next ∷ []) all_next parted_so happens_prev (j + lead) (omega (arith, few, long_prev)))

      told_behind : (j : ℕ) → j < next.rounds → AreClocksOf (clocks_by circuits.circuits all_next) (world_in since_opened opened (3 * n + j)).ring
      told_behind j few =
          let later = before ++ prev ∷ [] in
          subst (λ (v : World). AreClocksOf (clocks_by circuits.circuits all_next) v.ring)
          (ap (run j) same_start ∙ sym (later_now j ∙ world_low next [] closed j few))
          (told_at later next [] all_next refl happens j few)

      told_all : (j : ℕ) → j < rounds_in since_opened → AreClocksOf (clocks_by circuits.circuits all_next) (world_in since_opened opened j).ring
      told_all j few = elim (cases_lt j (3 * n)) [
        | inl low ↦ told_within j low
        | inr high ↦ subst (λ i. AreClocksOf (clocks_by circuits.circuits all_next) (world_in since_opened opened i).ring)
            (let e : 3 * n + (j - 3 * n) ≡ j = omega (arith, high) in e) (told_behind (j - 3 * n) (omega (arith, few, high)))
      ]

      pub come_unheld : (t : ℕ) → t < next.rounds
          → AllComeAfterTransit (clocks_by circuits.circuits all_next) (round (world_in all_next from (rounds_in (before ++ prev ∷ []) + t))).ring
      come_unheld t low =
          let later = before ++ prev ∷ [] in
          let there : world_in since_opened opened (3 * n + t) ≡ world_in all_next from (rounds_in later + t) =
          later_now t ∙ world_low next [] closed t low ∙ ap (run t) (sym same_start) ∙ sym (world_at later next [] all_next refl happens t low) in
          let size : length opened.ring.ids ≡ n = size_prev lead in
          subst (λ (v : World). AllComeAfterTransit (clocks_by circuits.circuits all_next) (round v).ring) there
          (bytes_come_after_transit 0 opened since_opened (clocks_by circuits.circuits all_next) whole_then form_then free_then
          (tt, subst (λ (v : World). MayHappen v (next ∷ [])) (sym until_now) parts_next.1.1) (tt, (unheld, tt)) told_all (3 * n + t)
          (omega (arith, size)) (omega (arith, low)))

  -- ---- any stretch

  -- changes that hold no controller hold none of a node that passes traffic through
  passes_one : (earlier : List Stretch) (c : Change) → HoldsNone c → HoldsNonePassing s.threshold s.wait n earlier c
  passes_one earlier (Fibre p d condition) h = tt
  passes_one earlier (Order p d command) h = tt
  passes_one earlier (Hold p turns) h = inl h
  passes_one earlier (Slip port turn count) h = tt
  passes_one earlier (Now t) h = tt

  passes_each : (earlier : List Stretch) (cs : List Change) → HoldNone cs → HoldNonePassing s.threshold s.wait n earlier cs
  passes_each earlier [] h = tt
  passes_each earlier (c ∷ cs) h = (passes_one earlier c h.0, passes_each earlier cs h.1)

  module _ (law : StillRingsAreSettled) (spoils : AHoldSpoilsItsOwnStepAlone) where
    abbrev Behind : List Stretch → Stretch → Type 0
    Behind earlier last =
        MayHappen from (earlier ++ last ∷ []) → EndQuietly from (earlier ++ last ∷ [])
        → HoldNonePassing s.threshold s.wait n earlier last.changes → (t : ℕ) → t < last.rounds
        → NoneMeetsAStrangerSince (rounds_in earlier - 3 * n) (clocks_by circuits.circuits (earlier ++ last ∷ []))
        (round (world_in (earlier ++ last ∷ []) from (rounds_in earlier + t))).ring

    in_first : (last : Stretch) → Behind [] last
    in_first last happens quiet none t low =
        subst (λ i. NoneMeetsAStrangerSince i (clocks_by circuits.circuits (last ∷ [])) (round (world_in (last ∷ []) from (0 + t))).ring)
        (let z : 0 ≡ 0 - 3 * n = omega arith in z)
        (from_first (clocks_by circuits.circuits (last ∷ [])) (round (world_in (last ∷ []) from (0 + t))).ring
        (spoils s ids circuits f [] last may happens quiet none form t low))

    in_any : (earlier : List Stretch) (last : Stretch) → Behind earlier last
    in_any [] last = in_first last
    in_any (x ∷ earlier) last =
        let parted = snoc x earlier in
        subst (λ (ss : List Stretch). Behind ss last) (sym parted.2)
        (λ happens quiet none t low. behind_window law parted.0 parted.1 last happens quiet none t low)

    -- where no controller is held
    abbrev Unheld : List Stretch → Stretch → Type 0
    Unheld earlier last =
        MayHappen from (earlier ++ last ∷ []) → EndQuietly from (earlier ++ last ∷ []) → HoldNone last.changes → (t : ℕ) → t < last.rounds
        → AllComeAfterTransit (clocks_by circuits.circuits (earlier ++ last ∷ []))
        (round (world_in (earlier ++ last ∷ []) from (rounds_in earlier + t))).ring

    unheld_first : (last : Stretch) → Unheld [] last
    unheld_first last happens quiet unheld t low =
        subst (λ i. AllComeAfterTransit (clocks_by circuits.circuits (last ∷ [])) (round (world_in (last ∷ []) from i)).ring)
        (let z : t ≡ 0 + t = omega arith in z)
        (bytes_always_come_after_transit s ids circuits f (last ∷ []) may.ids_ok may.honest happens (unheld, tt) form t (omega (arith, low)))

    unheld_any : (earlier : List Stretch) (last : Stretch) → Unheld earlier last
    unheld_any [] last = unheld_first last
    unheld_any (x ∷ earlier) last =
        let parted = snoc x earlier in
        subst (λ (ss : List Stretch). Unheld ss last) (sym parted.2)
        (λ happens quiet unheld t low.
        come_unheld law parted.0 parted.1 last happens quiet (passes_each (parted.0 ++ parted.1 ∷ []) last.changes unheld) unheld t low)

    module _ (earlier : List Stretch) (last : Stretch) (happens : MayHappen from (earlier ++ last ∷ []))
        (quiet : EndQuietly from (earlier ++ last ∷ [])) (ready : IsReady (after_stretches earlier from)) (t : ℕ) (low : t < last.rounds) where
      abbrev seen : PortId → ℕ → Clock
      seen = clocks_by circuits.circuits (earlier ++ last ∷ [])

      abbrev left : World
      left = round (world_in (earlier ++ last ∷ []) from (rounds_in earlier + t))

      -- where no controller is held, and once none is held any more
      pub come_after_transit : IsUnheld (ring_by s n circuits.circuits) last.changes t → AllComeAfterTransit seen left.ring
      come_after_transit (inl unheld) = unheld_any earlier last happens quiet unheld t low
      come_after_transit (inr long) = come_long earlier last happens ready t low long

      come_recent : AllComeAfterTransit seen left.ring → NoneMeetsAStrangerSince (rounds_in earlier + t + 3 - 2 * n) seen left.ring
      unfolding any_round.round any_round.round_with
      come_recent come =
          let all = earlier ++ last ∷ [] in
          let there : world_in all from (rounds_in earlier + t) ≡ run t (begun earlier last [] all refl happens) =
          world_at earlier last [] all refl happens t low in
          let number : (world_in all from (rounds_in earlier + t)).ring.rounds ≡ rounds_in earlier + t =
          ap (λ (v : World). v.ring.rounds) there ∙ rounds_at earlier last [] all refl happens t in
          let size : length left.ring.ids ≡ n =
          ap (λ (v : World). length v.ring.ids) there ∙ size_at earlier last [] all refl happens t in
          let first : left.ring.rounds + 2 - 2 * length left.ring.ids ≡ rounds_in earlier + t + 3 - 2 * n =
          omega (arith, size, number, one_more (world_in all from (rounds_in earlier + t))) in
          subst (λ i. NoneMeetsAStrangerSince i seen left.ring) first
          (transits_are_short left seen
          (subst (λ (v : World). HasCircuits (layout_of v)) (sym there) (form_at earlier last [] all refl happens t)) come)

      -- once no held controller counts
      pub none_old_unheld : (age : ℕ) → age ≡ 2 * n - 3 → IsUnheld (ring_by s n circuits.circuits) last.changes t
          → NoneMeetsAStrangerSince (rounds_in earlier + t - age) seen left.ring
      none_old_unheld age is unheld =
          none_longer (rounds_in earlier + t - age) (rounds_in earlier + t + 3 - 2 * n) seen left.ring (omega (arith, is, may.ids_ok.enough))
          (come_recent (come_after_transit unheld))

      -- in every round
      pub none_old : (age : ℕ) → age ≡ 5 * n - 3 + longest_hold last.changes → HoldNonePassing s.threshold s.wait n earlier last.changes
          → NoneMeetsAStrangerSince (rounds_in earlier + t - age) seen left.ring
      none_old age is none = elim (cases_lt (t + 3) (longest_hold last.changes + 2 * n)) [
        | inl early ↦ none_longer (rounds_in earlier + t - age) (rounds_in earlier - 3 * n) seen left.ring
            (omega (arith, is, early, may.ids_ok.enough)) (in_any earlier last happens quiet none t low)
        | inr late ↦ none_longer (rounds_in earlier + t - age) (rounds_in earlier + t + 3 - 2 * n) seen left.ring
            (omega (arith, is, late, may.ids_ok.enough)) (come_recent (come_long earlier last happens ready t low late))
      ]
