-- What arrives, one call after the other.
use Rattle.std.proofs.Common.{◌≡◌, ℕ, ◌+◌, ◌*◌, ◌<◌, ◌≤◌, suc, zero, List, [], ◌∷◌, ◌++◌, length, take, drop, set, get_or, append_assoc}
use Rattle.std.proofs.Common.{Option, Some, None, refl, ap, sym, subst, ◌∙◌, arith, ◌⊎◌, inl, inr}
use Rattle.std.proofs.lemmas.List.{drop-drop, drop_more, take_more, take_more_set, take_all, take-append-drop, length-append}
use Rattle.std.proofs.lemmas.List.{length-take-le}
use Rattle.std.specs.Prelude.{Result, Ok, Err, OnErr, option_map, slice_index_or, ◌==◌, if◌then◌else◌}
use Rattle.std.specs.Option.{option_map_or}
use Rattle.sdh_basics.proofs.Indexing.{rest_more, read_here}
use Rattle.sdh_ringmap.specs.declared.terms.Rate.{Rate}
use Rattle.sdh_ringmap.specs.declared.Side.TheVariants.{West, East}
use Rattle.sdh_plant.specs.Fibres.{Arrival, Fibres, IsPrepared}
use Rattle.sdh_plant.specs.Arrivals.{Knows, arrival, honest_arrival, next_told}
use Rattle.sdh_plant.specs.Calls.{after_receive}
use Rattle.sdh_rounds.specs.Stations.{Station}
use Rattle.sdh_rounds.specs.Rounds.{receivers_in, with_arrivals, all_with_arrivals, after_given, arrival_at, arrivals_from}
use Rattle.sdh_rounds.specs.Calls.{ReceivesOne, ReceivesBoth, FirstReceive, told_some, SomeReceive}
use Rattle.sdh_rounds.proofs.Arrived.{knows_taken, arrivals_more, heard_more}

-- ---- told arrivals

-- the first to come is the one at k
first_at : (told : List Arrival) (k : ℕ) → next_told (drop k told) ≡ slice_index_or told k None
first_at [] zero = refl
first_at [] (suc k) = refl
first_at (a ∷ later) zero = refl
first_at (a ∷ later) (suc k) = first_at later k

told_one : (o : Option (List Arrival)) (k : ℕ) → option_map (drop 1) (option_map (drop k) o) ≡ option_map (drop (k + 1)) o
told_one None k = refl
told_one (Some told) k = ap Some (drop-drop 1 k told)

-- one arrival more was given
pub taken_one : (f : Fibres) (k : ℕ) → after_receive (after_given k f) ≡ after_given (k + 1) f
unfolding after_given
taken_one f k = ap (λ told. record f { told = told }) (told_one f.told k)

-- one node more has received
taken_more : (f : Fibres) (k : ℕ) → after_receive (after_receive (after_given k f)) ≡ after_given (k + 2) f
taken_more f k = ap after_receive (taken_one f k) ∙ taken_one f (k + 1) ∙ ap (λ n. after_given n f) (omega arith)

told_at : (o : Option (List Arrival)) (h : Arrival) (k : ℕ)
    → option_map_or next_told (option_map (drop k) o) h ≡ option_map_or (λ told. slice_index_or told k None) o h
told_at None h k = refl
told_at (Some told) h k = first_at told k

-- what comes next after the nodes before it have taken their arrivals
west_at : (f : Fibres) (p : ℕ) → arrival (after_given (2 * p) f) p West ≡ arrival_at f p West
unfolding after_given arrival_at
west_at f p = told_at f.told (honest_arrival f p West) (2 * p)

east_at : (f : Fibres) (p : ℕ) → arrival (after_given (2 * p + 1) f) p East ≡ arrival_at f p East
unfolding after_given arrival_at
east_at f p = told_at f.told (honest_arrival f p East) (2 * p + 1)

told_none : (o : Option (List Arrival)) → o ≡ option_map (drop 0) o
told_none None = refl
told_none (Some told) = refl

pub taken_none : (f : Fibres) → f ≡ after_given 0 f
unfolding after_given
taken_none f = ap (λ told. record f { told = told }) (told_none f.told)

pub none_hears : (t n : ℕ) → t ≡ 0 → receivers_in t n ≡ 0
unfolding receivers_in
none_hears t n e = ap (λ k. if k == 0 then 0 else n) e

pub nodes_taken : (k : ℕ) (f : Fibres) → (after_given k f).nodes ≡ f.nodes
unfolding after_given
nodes_taken k f = refl

pub rate_taken : (k : ℕ) (f : Fibres) → (after_given k f).rate ≡ f.rate
unfolding after_given
rate_taken k f = refl

pub prepared_taken : (rate : Rate) (n k : ℕ) (f : Fibres) → IsPrepared rate n f → IsPrepared rate n (after_given k f)
unfolding after_given
prepared_taken rate n k f h = record {
  nodes = h.nodes;
  rate = h.rate;
  conditions = h.conditions;
  each = h.each;
  carried = h.carried;
  enough = h.enough;
  few = h.few;
}

module _ {N : Type 0} (st : Station N) where
  -- ---- one node

  pub receives_both : (f g : Fibres) (p : ℕ) (old mid new : N) → g ≡ after_receive f → ReceivesOne st f p West old mid
      → ReceivesOne st g p East mid new → ReceivesBoth st f p old new
  unfolding with_arrivals
  receives_both f g p old mid new is west east = record {
    west = west.came;
    east = east.came;
    west_known = west.known;
    east_known = λ h. east.known (subst Knows (sym is) h) ∙ ap (λ x. arrival x p East) is;
    node = east.node ∙ ap (st.told East east.came) west.node;
  }

  -- the receive on the east failed, after that on the west
  pub second_fails : {T E : Type 0} (r : Result T E) (f g h : Fibres) (p : ℕ) (old mid new : N) → g ≡ after_receive f
      → ReceivesOne st f p West old mid → OnErr r (h ≡ g) → OnErr r (new ≡ mid)
      → OnErr r (((h ≡ f) × (new ≡ old)) ⊎ ((h ≡ after_receive f) × ReceivesOne st f p West old new))
  second_fails (Ok x) f g h p old mid new is west fibres node = tt
  second_fails (Err e) f g h p old mid new is west fibres node = inr (fibres ∙ is, subst (ReceivesOne st f p West old) (sym node) west)

  -- ---- node after node

  -- before the first node has received
  pub hears_none : (f : Fibres) (ns : List N) → FirstReceive st 0 f f ns ns
  hears_none f ns = record { arrivals = []; count = refl; known = λ h. refl; nodes = refl; fibres = taken_none f }

  pub hears_more : (i : ℕ) (f g h : Fibres) (old now : List N) (x y : N) → i < length old → i < length now → drop i now ≡ drop i old
      → x ≡ get_or now i x → FirstReceive st i f g (take i old) (take i now)
      → ReceivesBoth st g i x y → h ≡ after_receive (after_receive g)
      → FirstReceive st (i + 1) f h (take (i + 1) old) (take (i + 1) (set now i y))
  hears_more i f g h old now x y ho hn rest read done both after =
      let xs = done.arrivals in
      let two = both.west ∷ both.east ∷ [] in
      let size : length (xs ++ two) ≡ length xs + 2 = length-append xs two in
      let here : x ≡ get_or old i x = read_here now old i x rest read in
      let split : take (i + 1) old ≡ take i old ++ x ∷ [] = take_more old i x ho ∙ ap (λ z. take i old ++ z ∷ []) (sym here) in
      let was : g ≡ after_given (2 * i) f = done.fibres ∙ ap (λ k. after_given k f) done.count in
      let mid : after_receive g ≡ after_given (2 * i + 1) f = ap after_receive was ∙ taken_one f (2 * i) in
      record {
        arrivals = xs ++ two;
        count = let c = done.count in omega (arith, size);
        known = λ k.
            let west : both.west ≡ arrival_at f i West =
            both.west_known (subst Knows (sym was) (knows_taken f (2 * i) k)) ∙ ap (λ z. arrival z i West) was ∙ west_at f i in
            let east : both.east ≡ arrival_at f i East =
            both.east_known (subst Knows (sym mid) (knows_taken f (2 * i + 1) k)) ∙ ap (λ z. arrival z i East) mid ∙ east_at f i in
            ap (λ zs. zs ++ two) (done.known k) ∙ ap (λ z. arrivals_from f 0 i ++ z ∷ both.east ∷ []) west
            ∙ ap (λ z. arrivals_from f 0 i ++ arrival_at f i West ∷ z ∷ []) east ∙ sym (arrivals_more f i);
        nodes =
            take_more_set now i y hn ∙ ap (λ z. take i now ++ z ∷ []) both.node
            ∙ ap (λ zs. zs ++ with_arrivals st both.west both.east x ∷ []) done.nodes
            ∙ sym (heard_more st xs (take i old) both.west both.east x
            (let c = done.count in let l = length-take-le i old (omega arith) in omega arith))
            ∙ ap (all_with_arrivals st (xs ++ two)) (sym split);
        fibres =
            after ∙ ap (λ z. after_receive (after_receive z)) done.fibres ∙ taken_more f (length xs) ∙ ap (λ k. after_given k f) (sym size);
      }

  -- the nodes after those that received both, and one that received on the west alone
  none_more : (xs : List Arrival) (ns ms : List N) → length xs ≡ 2 * length ns
      → told_some st xs (ns ++ ms) ≡ all_with_arrivals st xs ns ++ ms
  none_more [] [] ms h = refl
  none_more [] (n ∷ ns) ms h = absurd (omega arith)
  none_more (a ∷ []) [] ms h = absurd (omega arith)
  none_more (a ∷ []) (n ∷ ns) ms h = absurd (omega arith)
  none_more (a ∷ b ∷ xs) [] ms h = absurd (omega arith)
  none_more (a ∷ b ∷ xs) (n ∷ ns) ms h = ap (λ zs. with_arrivals st a b n ∷ zs) (none_more xs ns ms (omega arith))

  west_more : (xs : List Arrival) (ns ms : List N) (west : Arrival) (n : N) → length xs ≡ 2 * length ns
      → told_some st (xs ++ west ∷ []) (ns ++ n ∷ ms) ≡ all_with_arrivals st xs ns ++ st.told West west n ∷ ms
  west_more [] [] ms west n h = refl
  west_more [] (m ∷ ns) ms west n h = absurd (omega arith)
  west_more (a ∷ []) [] ms west n h = absurd (omega arith)
  west_more (a ∷ []) (m ∷ ns) ms west n h = absurd (omega arith)
  west_more (a ∷ b ∷ xs) [] ms west n h = absurd (omega arith)
  west_more (a ∷ b ∷ xs) (m ∷ ns) ms west n h = ap (λ zs. with_arrivals st a b m ∷ zs) (west_more xs ns ms west n (omega arith))

  -- the list with y at i, after whose first places nothing changed
  split_at : (i : ℕ) (old now : List N) (x y : N) → i < length now → drop i now ≡ drop i old
      → set now i y ≡ take i now ++ y ∷ drop (i + 1) old
  split_at i old now x y hn rest =
      sym (take-append-drop (i + 1) (set now i y))
      ∙ ap (λ zs. zs ++ drop (i + 1) (set now i y)) (take_more_set now i y hn)
      ∙ ap (λ zs. (take i now ++ y ∷ []) ++ zs) (rest_more now old i y rest)
      ∙ append_assoc (take i now) (y ∷ []) (drop (i + 1) old)

  whole_at : (i : ℕ) (old : List N) (x : N) → i < length old → x ≡ get_or old i x → old ≡ take i old ++ x ∷ drop (i + 1) old
  whole_at i old x ho here =
      sym (take-append-drop i old) ∙ ap (λ zs. take i old ++ zs) (drop_more old i x ho ∙ ap (λ z. z ∷ drop (i + 1) old) (sym here))

  -- a receive of the node at i failed: on the west, or on the east after that on the west
  pub hears_some : (i n : ℕ) (f g h : Fibres) (old now : List N) (x y : N) → i < n → i < length old → i < length now
      → drop i now ≡ drop i old → x ≡ get_or now i x → FirstReceive st i f g (take i old) (take i now)
      → ((h ≡ g) × (y ≡ x)) ⊎ ((h ≡ after_receive g) × ReceivesOne st g i West x y) → SomeReceive st n f h old (set now i y)
  hears_some i n f g h old now x y low ho hn rest read done (inl same) =
      let here : x ≡ get_or old i x = read_here now old i x rest read in
      let count : length done.arrivals ≡ 2 * length (take i old) =
      (let c = done.count in let l = length-take-le i old (omega arith) in omega arith) in
      record {
        arrivals = done.arrivals;
        not_all = let c = done.count in omega arith;
        nodes =
            split_at i old now x y hn rest ∙ ap (λ zs. zs ++ y ∷ drop (i + 1) old) done.nodes
            ∙ ap (λ z. all_with_arrivals st done.arrivals (take i old) ++ z ∷ drop (i + 1) old) same.1
            ∙ sym (ap (told_some st done.arrivals) (whole_at i old x ho here)
            ∙ none_more done.arrivals (take i old) (x ∷ drop (i + 1) old) count);
        after_is = same.0 ∙ done.fibres;
      }
  hears_some i n f g h old now x y low ho hn rest read done (inr one) =
      let here : x ≡ get_or old i x = read_here now old i x rest read in
      let came = one.1.came in
      let count : length done.arrivals ≡ 2 * length (take i old) =
      (let c = done.count in let l = length-take-le i old (omega arith) in omega arith) in
      let size : length (done.arrivals ++ came ∷ []) ≡ length done.arrivals + 1 = length-append done.arrivals (came ∷ []) in
      record {
        arrivals = done.arrivals ++ came ∷ [];
        not_all = let c = done.count in omega (arith, size);
        nodes =
            split_at i old now x y hn rest ∙ ap (λ zs. zs ++ y ∷ drop (i + 1) old) done.nodes
            ∙ ap (λ z. all_with_arrivals st done.arrivals (take i old) ++ z ∷ drop (i + 1) old) one.1.node
            ∙ sym (ap (told_some st (done.arrivals ++ came ∷ [])) (whole_at i old x ho here)
            ∙ west_more done.arrivals (take i old) (drop (i + 1) old) came x count);
        after_is = one.0 ∙ ap after_receive done.fibres ∙ taken_one f (length done.arrivals) ∙ ap (λ k. after_given k f) (sym size);
      }

  pub hears_all : (i : ℕ) (f g : Fibres) (old now : List N) → i ≡ length old → length now ≡ length old
      → FirstReceive st i f g (take i old) (take i now) → FirstReceive st (length old) f g old now
  hears_all i f g old now all size done =
      let first = λ (xs : List N) (h : length xs ≡ length old). take_all i xs (let e : length xs ≤ i = omega arith in e) in
      record {
        arrivals = done.arrivals;
        count = done.count ∙ ap (λ n. 2 * n) all;
        known = λ k. done.known k ∙ ap (arrivals_from f 0) all;
        nodes = sym (first now size) ∙ done.nodes ∙ ap (all_with_arrivals st done.arrivals) (first old refl);
        fibres = done.fibres;
      }
