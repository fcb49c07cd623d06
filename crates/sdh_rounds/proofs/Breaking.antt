-- What a round leaves of a ring, whole or broken off.
use Rattle.std.proofs.Common.{◌≡◌, ℕ, ◌+◌, ◌-◌, ◌*◌, ◌/◌, ◌<◌, ◌≤◌, Bool, true, false, List, [], ◌∷◌, length, map, refl, ap, sym, subst}
use Rattle.std.proofs.Common.{◌∙◌, arith}
use Rattle.std.specs.Prelude.{Result, Ok, Err, nat_lt, if◌then◌else◌}
use Rattle.std.specs.Result.{IsErrAnd}
use Rattle.std.proofs.lemmas.Bool.Decides.{nat_tests}
use Rattle.std.proofs.lemmas.List.{length-map}
use Rattle.std.proofs.lemmas.Result.{err_from_is_err_and}
use Rattle.sdh_basics.specs.Causes.{one_more, HasCause}
use Rattle.sdh_plant.specs.Fibres.{Arrival, Fibres, IsPrepared}
use Rattle.sdh_rounds.specs.Stations.{Station}
use Rattle.sdh_rounds.specs.Held.{HeldRing, World, world, HasItsNodes}
use Rattle.sdh_rounds.specs.Rounds.{receivers_in, arrivals_of, with_arrivals, all_with_arrivals}
use Rattle.sdh_rounds.specs.Runs.{IsRound}
use Rattle.sdh_rounds.specs.Calls.{FirstReceive, SomeReceive, SendsSome, told_some, first_after}
use Rattle.sdh_rounds.specs.Faults.{BreaksRound}
use Rattle.sdh_rounds.specs.Outcome.{IsOneRound}
use Rattle.sdh_rounds.specs.declared.faults.PlantFault.{PlantFault}
use Rattle.sdh_rounds.proofs.Runs.{known_arrive}
use Rattle.sdh_rounds.proofs.Rings as rings
use Rattle.sdh_rounds.proofs.Rings.{heard_keep, some_keep, first_keep, off_hearing, off_sending}

-- a ring that changed in all but its size
pub fits_with : {N : Type 0} (r : HeldRing N) (ns : List N) (m rounds : ℕ) (broken : Bool) → HasItsNodes r → length ns ≡ length r.nodes
    → HasItsNodes (record r { nodes = ns; moment = m; rounds = rounds; broken = broken })
fits_with r ns m rounds broken h same = record {
  ids = h.ids;
  circuits = h.circuits;
  slots = h.slots;
  kept = h.kept;
  size = same ∙ h.size;
}

-- a call that failed after one that didn't
pub both_causes : (exact : Bool) (before between after : ℕ) (e : PlantFault)
    → HasCause {T = Unit {0}} {E = PlantFault} exact before between (Ok tt)
    → HasCause {T = Unit {0}} {E = PlantFault} exact between after (Err e)
    → HasCause {T = Unit {0}} {E = PlantFault} exact before after (Err e)
both_causes exact before between after e first second =
    let a = first.later in
    let b = second.later in
    let r = second.failed in
    record {
      later = omega arith;
      failed = omega arith;
      counted = record {
        one = λ x is. second.counted.one x refl ∙ ap one_more (first.counted.none x (λ no. cc));
        none = λ x no. absurd (no refl);
      };
    }

-- ---- as many nodes

same_count : {N Y : Type 0} (f : N → Y) (old new : List N) → map f new ≡ map f old → length new ≡ length old
same_count f old new all = sym (length-map new f) ∙ ap length all ∙ length-map old f

module _ {N : Type 0} (st : Station N) where
  pub count_heard : (k : ℕ) (f g : Fibres) (old new : List N) → FirstReceive st k f g old new → length new ≡ length old
  count_heard k f g old new h =
      same_count (λ n. tt {0}) old new (ap (map (λ n. tt {0})) h.nodes ∙ heard_keep st (λ n. tt {0}) (λ d a n. refl) h.arrivals old)

  pub count_some : (k : ℕ) (f g : Fibres) (old new : List N) → SomeReceive st k f g old new → length new ≡ length old
  count_some k f g old new h =
      same_count (λ n. tt {0}) old new (ap (map (λ n. tt {0})) h.nodes ∙ some_keep st (λ n. tt {0}) (λ d a n. refl) h.arrivals old)

  pub count_sent : (now : ℕ) (old new : List N) → new ≡ map (st.after now) old → length new ≡ length old
  count_sent now old new is = ap length is ∙ length-map old (st.after now)

  pub count_off : (now : ℕ) (old new : List N) (f g : Fibres) → SendsSome st now old new f g → length new ≡ length old
  count_off now old new f g h =
      same_count (λ n. tt {0}) old new (ap (map (λ n. tt {0})) h.nodes ∙ first_keep st (λ n. tt {0}) now (λ n. refl) (h.out / 2 + 1) old)

  -- ---- broken off

  told_all : (k : ℕ) (xs : List Arrival) (ns : List N) → length xs ≡ 2 * k → told_some st xs ns ≡ all_with_arrivals st xs ns
  told_all k [] ns e = refl
  told_all k (west ∷ []) ns e = absurd (omega arith)
  told_all k (west ∷ east ∷ later) [] e = refl
  told_all k (west ∷ east ∷ later) (n ∷ ns) e =
      ap (λ l. with_arrivals st west east n ∷ l) (told_all (k - 1) later ns (omega arith))

  first_none : (now : ℕ) (ns : List N) → ns ≡ first_after st now 0 ns
  first_none now [] = refl
  first_none now (n ∷ ns) = refl

  -- what a fault leaves that came while the nodes received
  pub breaks_hearing : (r : HeldRing N) (f h : Fibres) (ns : List N) → length r.nodes ≡ length r.ids → 2 ≤ length r.ids
      → SomeReceive st (receivers_in r.rounds (length r.nodes)) f h r.nodes ns
      → BreaksRound st (world r f) (world (record r { nodes = ns; broken = true }) h)
  unfolding rings.off_hearing
  breaks_hearing r f h ns size enough some =
      let count = (known_arrive (world r f)).count in
      let n : receivers_in r.rounds (length r.nodes) ≡ receivers_in r.rounds (length r.ids) = ap (receivers_in r.rounds) size in
      let low : length some.arrivals < length (arrivals_of (world r f)) = (let m = some.not_all in omega arith) in
      let e : nat_lt (length some.arrivals) (length (arrivals_of (world r f))) ≡ true = grind (arith, nat_tests) in
      record {
        off = off_hearing st r f h ns size enough some;
        ring = refl;
        told = some.arrivals;
        nodes = subst (λ b. ns ≡ first_after st r.moment (if b then 0 else 0 / 2 + 1) (told_some st some.arrivals r.nodes)) (sym e)
            (some.nodes ∙ first_none r.moment (told_some st some.arrivals r.nodes));
      }

  -- what a fault leaves that came while the nodes sent
  pub breaks_sending : (r : HeldRing N) (f g h : Fibres) (ns new : List N) → length r.nodes ≡ length r.ids
      → FirstReceive st (receivers_in r.rounds (length r.nodes)) f g r.nodes ns → SendsSome st r.moment ns new g h
      → BreaksRound st (world r f) (world (record r { nodes = new; broken = true }) h)
  unfolding rings.off_sending
  breaks_sending r f g h ns new size hears some =
      let k = some.out / 2 + 1 in
      let e : nat_lt (length hears.arrivals) (length hears.arrivals) ≡ false = grind (arith, nat_tests) in
      record {
        off = off_sending st r f g h ns new size hears some;
        ring = refl;
        told = hears.arrivals;
        nodes = subst (λ b. new ≡ first_after st r.moment (if b then 0 else k) (told_some st hears.arrivals r.nodes)) (sym e)
            (some.nodes ∙ ap (first_after st r.moment k)
            (hears.nodes ∙ sym (told_all (receivers_in r.rounds (length r.nodes)) hears.arrivals r.nodes hears.count)));
      }

  -- ---- what a round answers

  pub fails_round : (Q : PlantFault → Type 0) (exact : Bool) (w left : World N) (before after : ℕ) (e : PlantFault)
      (result : Result (Unit {0}) PlantFault) → IsErrAnd result Q → BreaksRound st w left
      → HasCause {T = Unit {0}} {E = PlantFault} exact before after (Err e) → IsOneRound st exact w result left before after
  fails_round Q exact w left before after e result is breaks cause =
      let p = err_from_is_err_and result is in
      subst (λ r. IsOneRound st exact w r left before after) (sym p.1) (record {
        ok = tt;
        prepared = tt;
        err = breaks.off;
        broken = ap (λ (r : HeldRing N). r.broken) breaks.ring;
        breaks = breaks;
        later = cause.later;
        failed = cause.failed;
        counted = record { one = cause.counted.one; none = cause.counted.none };
      })

  pub runs_round : (exact : Bool) (w left : World N) (before between after : ℕ) → IsRound st w left
      → IsPrepared w.ring.settings.rate (length w.ring.ids) left.fibres
      → HasCause {T = Unit {0}} {E = PlantFault} exact before between (Ok tt)
      → HasCause {T = Unit {0}} {E = PlantFault} exact between after (Ok tt)
      → IsOneRound st exact w (Ok tt) left before after
  runs_round exact w left before between after is prepared first second = record {
    ok = is;
    prepared = prepared;
    err = tt;
    broken = tt;
    breaks = tt;
    later = let a = first.later in let b = second.later in omega arith;
    failed = tt;
    counted = record {
      one = λ x e. absurd (cc);
      none = λ x no. second.counted.none x (λ e. cc) ∙ first.counted.none x (λ e. cc);
    };
  }
