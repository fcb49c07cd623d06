-- What the calls of a round leave of a ring and its fibres.
use Rattle.std.proofs.Common.{◌≡◌, ℕ, zero, suc, ◌+◌, ◌*◌, ◌≤◌, false, List, [], ◌∷◌, ◌++◌, length, map, take, drop, refl, ap, sym, subst}
use Rattle.std.proofs.Common.{◌∙◌, arith}
use Rattle.std.specs.Prelude.{All}
use Rattle.std.proofs.lemmas.List.{map-append, take-append-drop}
use Rattle.sdh_ringmap.specs.declared.terms.Rate.{Rate}
use Rattle.sdh_ringmap.specs.declared.Side.{Side}
use Rattle.sdh_ringmap.specs.declared.Side.TheVariants.{West, East}
use Rattle.sdh_plant.specs.Fibres.{Arrival, Fibres, IsPrepared}
use Rattle.sdh_rounds.specs.Stations.{Station}
use Rattle.sdh_rounds.specs.Held.{HeldRing, World, world}
use Rattle.sdh_rounds.specs.Rounds.{receivers_in, arrivals_of, arrivals_from, with_arrivals, all_with_arrivals, frames_of, sent_all}
use Rattle.sdh_rounds.specs.Rounds.{sent_some, after_given, round_with}
use Rattle.sdh_rounds.specs.Runs.{Arrive, IsRound, IsBrokenOff}
use Rattle.sdh_rounds.specs.Calls.{FirstReceive, told_some, SomeReceive, first_after, SendsSome}
use Rattle.sdh_rounds.proofs.Runs.{known_arrive, length-frames, length-heard, prepared_round}
use Rattle.sdh_rounds.proofs.Receives.{prepared_taken}
use Rattle.sdh_rounds.proofs.Sends.{some_none}

module _ {N : Type 0} (st : Station N) where
  pub arrive_of : (r : HeldRing N) (f g : Fibres) (ns : List N) → length r.nodes ≡ length r.ids
      → (h : FirstReceive st (receivers_in r.rounds (length r.nodes)) f g r.nodes ns) → Arrive (world r f) h.arrivals
  unfolding arrivals_of
  arrive_of r f g ns size h = record {
    count = h.count ∙ ap (λ n. 2 * receivers_in r.rounds n) size;
    known = λ k. h.known k ∙ ap (λ n. arrivals_from f 0 (receivers_in r.rounds n)) size;
  }

  pub ran : (r : HeldRing N) (f g h : Fibres) (ns new : List N) → r.broken ≡ false → length r.nodes ≡ length r.ids
      → FirstReceive st (receivers_in r.rounds (length r.nodes)) f g r.nodes ns
      → h ≡ sent_all (frames_of st r.moment ns) g → new ≡ map (st.after r.moment) ns
      → IsRound st (world r f) (world (record r { nodes = new; rounds = r.rounds + 1; broken = false }) h)
  unfolding round_with
  ran r f g h ns new whole size hears sent is = record {
    arrivals = hears.arrivals;
    arrive = arrive_of r f g ns size hears;
    after_is =
        ap (λ xs. world (record r { nodes = xs; rounds = r.rounds + 1; broken = false }) h) (is ∙ ap (map (st.after r.moment)) hears.nodes)
        ∙ ap (λ b. world (record r {
          nodes = map (st.after r.moment) (all_with_arrivals st hears.arrivals r.nodes);
          rounds = r.rounds + 1;
          broken = b;
        }) h) (sym whole)
        ∙ ap (λ x. world (record r {
          nodes = map (st.after r.moment) (all_with_arrivals st hears.arrivals r.nodes);
          rounds = r.rounds + 1;
        }) x)
        (sent ∙ ap (λ xs. sent_all (frames_of st r.moment xs) g) hears.nodes
        ∙ ap (sent_all (frames_of st r.moment (all_with_arrivals st hears.arrivals r.nodes))) hears.fibres);
  }

  -- a fault while nodes received
  unfoldable pub off_hearing : (r : HeldRing N) (f h : Fibres) (ns : List N) → length r.nodes ≡ length r.ids → 2 ≤ length r.ids
      → SomeReceive st (receivers_in r.rounds (length r.nodes)) f h r.nodes ns → IsBrokenOff st (world r f) h
  off_hearing r f h ns size enough some = record {
    arrivals = arrivals_of (world r f);
    arrive = known_arrive (world r f);
    given = length some.arrivals;
    most = let m = some.not_all in let c =
        (known_arrive (world r f)).count in let e : receivers_in r.rounds (length r.nodes) ≡ receivers_in r.rounds (length r.ids) =
        ap (receivers_in r.rounds) size in omega arith;
    out = 0;
    not_all = omega arith;
    order = λ e. absurd (omega arith);
    after_is = some.after_is ∙ some_none (after_given (length some.arrivals) f);
  }

  -- a fault while they sent
  unfoldable pub off_sending : (r : HeldRing N) (f g h : Fibres) (ns new : List N) → length r.nodes ≡ length r.ids
      → FirstReceive st (receivers_in r.rounds (length r.nodes)) f g r.nodes ns → SendsSome st r.moment ns new g h
      → IsBrokenOff st (world r f) h
  off_sending r f g h ns new size hears some = record {
    arrivals = hears.arrivals;
    arrive = arrive_of r f g ns size hears;
    given = length hears.arrivals;
    most = omega arith;
    out = some.out;
    not_all = let a = some.not_all in let b = length-frames st r.moment ns in let c : length ns ≡ length r.nodes =
        ap length hears.nodes ∙ length-heard st hears.arrivals r.nodes in omega arith;
    order = λ e. refl;
    after_is =
        some.after_is ∙ ap (λ xs. sent_some (take some.out (frames_of st r.moment xs)) g) hears.nodes
        ∙ ap (sent_some (take some.out (frames_of st r.moment (all_with_arrivals st hears.arrivals r.nodes)))) hears.fibres;
  }

  pub prepared_after : (r : HeldRing N) (f : Fibres) (after : World N) → length r.nodes ≡ length r.ids
      → IsPrepared r.settings.rate (length r.ids) f → IsRound st (world r f) after → IsPrepared r.settings.rate (length r.ids) after.fibres
  prepared_after r f after size h is =
      subst (λ w. IsPrepared r.settings.rate (length r.ids) w.fibres) (sym is.after_is)
      (subst (λ n. IsPrepared r.settings.rate n (round_with st is.arrivals (world r f)).fibres) size
      (prepared_round st r.settings.rate is.arrivals (world r f) (subst (λ n. IsPrepared r.settings.rate n f) (sym size) h)))

  pub prepared_hears : (rate : Rate) (n k : ℕ) (f g : Fibres) (old new : List N) → FirstReceive st k f g old new → IsPrepared rate n f
      → IsPrepared rate n g
  prepared_hears rate n k f g old new hears p =
      subst (IsPrepared rate n) (sym hears.fibres) (prepared_taken rate n (length hears.arrivals) f p)

  -- ---- what no call of a round changes of a node

  module _ {Y : Type 0} (f : N → Y) (told_keeps : (d : Side) (a : Arrival) (n : N) → f (st.told d a n) ≡ f n) where
    pub both_keep : (west east : Arrival) (n : N) → f (with_arrivals st west east n) ≡ f n
    unfolding with_arrivals
    both_keep west east n = told_keeps East east (st.told West west n) ∙ told_keeps West west n

    pub heard_keep : (xs : List Arrival) (ns : List N) → map f (all_with_arrivals st xs ns) ≡ map f ns
    heard_keep [] ns = refl
    heard_keep (west ∷ []) ns = refl
    heard_keep (west ∷ east ∷ later) [] = refl
    heard_keep (west ∷ east ∷ later) (n ∷ ns) =
        ap (λ y. y ∷ map f (all_with_arrivals st later ns)) (both_keep west east n) ∙ ap (λ ys. f n ∷ ys) (heard_keep later ns)

    pub some_keep : (xs : List Arrival) (ns : List N) → map f (told_some st xs ns) ≡ map f ns
    some_keep [] ns = refl
    some_keep (west ∷ []) [] = refl
    some_keep (west ∷ []) (n ∷ ns) = ap (λ y. y ∷ map f ns) (told_keeps West west n)
    some_keep (west ∷ east ∷ later) [] = refl
    some_keep (west ∷ east ∷ later) (n ∷ ns) =
        ap (λ y. y ∷ map f (told_some st later ns)) (both_keep west east n) ∙ ap (λ ys. f n ∷ ys) (some_keep later ns)

  module _ {Y : Type 0} (f : N → Y) (now : ℕ) (round_keeps : (n : N) → f (st.after now n) ≡ f n) where
    pub all_keep : (ns : List N) → map f (map (st.after now) ns) ≡ map f ns
    all_keep [] = refl
    all_keep (n ∷ ns) = ap (λ y. y ∷ map f (map (st.after now) ns)) (round_keeps n) ∙ ap (λ ys. f n ∷ ys) (all_keep ns)

    pub first_keep : (k : ℕ) (ns : List N) → map f (first_after st now k ns) ≡ map f ns
    first_keep k ns =
        map-append f (map (st.after now) (take k ns)) (drop k ns)
        ∙ ap (λ ys. ys ++ map f (drop k ns)) (all_keep (take k ns))
        ∙ sym (map-append f (take k ns) (drop k ns))
        ∙ ap (map f) (take-append-drop k ns)

  -- what stays true of a node through each arrival stays true of all nodes when they receive
  module _ (P : N → Type 0) (told_stays : (d : Side) (a : Arrival) (n : N) → P n → P (st.told d a n)) where
    pub all_heard : (xs : List Arrival) (ns : List N) → All P ns → All P (all_with_arrivals st xs ns)
    unfolding with_arrivals
    all_heard [] ns all i d lt = all i d lt
    all_heard (west ∷ []) ns all i d lt = all i d lt
    all_heard (west ∷ east ∷ later) [] all i d lt = all i d lt
    all_heard (west ∷ east ∷ later) (n ∷ ns) all zero d lt =
        told_stays East east (st.told West west n) (told_stays West west n (all 0 d (omega arith)))
    all_heard (west ∷ east ∷ later) (n ∷ ns) all (suc i) d lt =
        all_heard later ns (λ j e low. all (suc j) e (omega arith)) i d (omega arith)
