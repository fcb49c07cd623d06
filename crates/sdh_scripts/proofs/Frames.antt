-- Frames of rounds, one after the other, where arrivals are known.
use Rattle.std.proofs.Common.{◌≡◌, ℕ, zero, suc, ◌+◌, ◌-◌, ◌*◌, ◌<◌, ◌≤◌, List, [], ◌∷◌, ◌++◌, length, take, refl, ap, sym, ◌∙◌}
use Rattle.std.proofs.Common.{subst, arith, append_assoc}
use Rattle.std.specs.Prelude.{option_map}
use Rattle.std.proofs.lemmas.List.{take-append-le, length-append}
use Rattle.sdh_plant.specs.Fibres.{Arrival, Fibres}
use Rattle.sdh_plant.specs.Arrivals.{Knows}
use Rattle.sdh_rounds.specs.Stations.{Station}
use Rattle.sdh_rounds.specs.Held.{HeldRing, World}
use Rattle.sdh_rounds.specs.Rounds.{arrivals_of, frames_with, nodes_with, round_with, round}
use Rattle.sdh_rounds.specs.Runs.{run, arrivals_in, run_with, ArriveIn, IsBrokenOff}
use Rattle.sdh_rounds.specs.Laws.{frames_in, Appends}
use Rattle.sdh_rounds.proofs.Runs.{run_first, held_round, knows_run, length-heard, length-frames, count_round}
use Rattle.sdh_rounds.proofs.Laws.{runs_keep, faults_keep, appended_twice}

-- ---- products

pub more_of : (c a b : ℕ) → c * (a + b) ≡ c * a + c * b
more_of c a b = omega arith

pub grows : (c a b : ℕ) → a ≤ b → c * a ≤ c * b
grows c a b h = let e : c * (a + (b - a)) ≡ c * b = ap (λ k. c * k) (omega arith) in omega (arith, e, more_of c a (b - a))

-- ---- frames

pub take_past : {A : Type 0} (xs ys : List A) (k : ℕ) → take (length xs + k) (xs ++ ys) ≡ xs ++ take k ys
take_past [] ys k = let e : 0 + k ≡ k = omega arith in ap (λ j. take j ys) e
take_past (x ∷ xs) ys k =
    let e : length (x ∷ xs) + k ≡ suc (length xs + k) = omega arith in
    ap (λ j. take j (x ∷ (xs ++ ys))) e ∙ ap (λ l. x ∷ l) (take_past xs ys k)

-- ---- runs

module _ {N : Type 0} (st : Station N) where
  -- what a run leaves
  pub record IsLeft (w v : World N) (k : ℕ) : Type 0 where
    pub ids : v.ring.ids ≡ w.ring.ids
    pub rounds : v.ring.rounds ≡ w.ring.rounds + k
    pub nodes : length v.ring.nodes ≡ length w.ring.nodes

  left_round : (w v : World N) (k : ℕ) → IsLeft w v k → IsLeft w (round st v) (suc k)
  unfolding round
  left_round w v k is =
      let held = held_round st (arrivals_of v) v in
      record {
        ids = ap (λ (r : HeldRing N). r.ids) held ∙ is.ids;
        rounds = let e = is.rounds in let f : (round st v).ring.rounds ≡ v.ring.rounds + 1 =
            ap (λ (r : HeldRing N). r.rounds) held in omega arith;
        nodes = count_round st (arrivals_of v) v ∙ is.nodes;
      }

  pub left_run : (k : ℕ) (w : World N) → IsLeft w (run st k w) k
  unfolding run
  left_run zero w = record { ids = refl; rounds = omega arith; nodes = refl }
  left_run (suc k) w = left_round w (run st k w) k (left_run k w)

  run_is : (k : ℕ) (w : World N) → run_with st (arrivals_in st k w) w ≡ run st k w
  unfolding arrivals_in run round
  run_is zero w = refl
  run_is (suc k) w = run_is k (round_with st (arrivals_of w) w) ∙ sym (run_first st k w)

  pub frames_sent : (k : ℕ) (w : World N) → Appends w.fibres (frames_in st (arrivals_in st k w) w) (run st k w).fibres
  frames_sent k w =
      subst (λ (v : World N). Appends w.fibres (frames_in st (arrivals_in st k w) w) v.fibres) (run_is k w)
      (runs_keep st (arrivals_in st k w) w).1

  pub knows_after : (k : ℕ) (w : World N) → Knows w.fibres → Knows (run st k w).fibres
  knows_after k w h = subst (λ (v : World N). Knows v.fibres) (run_is k w) (knows_run st (arrivals_in st k w) w h)

  pub length-one : (xs : List Arrival) (w : World N) → length (frames_with st xs w) ≡ 2 * length w.ring.nodes
  length-one xs w = omega (arith, length-frames st w.ring.moment (nodes_with st xs w), length-heard st xs w.ring.nodes)

  pub length-all : (k : ℕ) (w : World N) → length (frames_in st (arrivals_in st k w) w) ≡ 2 * length w.ring.nodes * k
  unfolding arrivals_in round
  length-all zero w = omega arith
  length-all (suc k) w =
      let xs = arrivals_of w in
      let v = round_with st xs w in
      let n = length w.ring.nodes in
      let rest : length (frames_in st (arrivals_in st k v) v) ≡ 2 * n * k = length-all k v ∙ ap (λ j. 2 * j * k) (count_round st xs w) in
      let one : 2 * n * suc k ≡ 2 * n + 2 * n * k = omega arith in
      omega (arith, length-append (frames_with st xs w) (frames_in st (arrivals_in st k v) v), length-one xs w, rest, one)

  -- the frames of the first j rounds, of the next one, and of the others
  frames_parted : (j m : ℕ) (w : World N) → (rest : List (List ℕ))
      × (frames_in st (arrivals_in st (j + suc m) w) w ≡ frames_in st (arrivals_in st j w) w
      ++ (frames_with st (arrivals_of (run st j w)) (run st j w) ++ rest))
  unfolding arrivals_in run round
  frames_parted zero m w =
      let e : 0 + suc m ≡ suc m = omega arith in (
        frames_in st (arrivals_in st m (round_with st (arrivals_of w) w)) (round_with st (arrivals_of w) w),
        ap (λ k. frames_in st (arrivals_in st k w) w) e,
      )
  frames_parted (suc j) m w =
      let v = round_with st (arrivals_of w) w in
      let h = frames_parted j m v in
      let e : suc j + suc m ≡ suc (j + suc m) = omega arith in
      let one = frames_with st (arrivals_of w) w in
      let same : run st j v ≡ run st (suc j) w = sym (run_first st j w) in (
        h.0,
        ap (λ k. frames_in st (arrivals_in st k w) w) e ∙ ap (λ l. one ++ l) h.1
            ∙ sym (append_assoc one (frames_in st (arrivals_in st j v) v) (frames_with st (arrivals_of (run st j v)) (run st j v) ++ h.0))
            ∙ ap (λ (u : World N). (one ++ frames_in st (arrivals_in st j v) v) ++ (frames_with st (arrivals_of u) u ++ h.0)) same,
      )

  -- the first frames of a run, up to some of the round after the first j
  pub front : (j k out : ℕ) (w : World N) (more : List (List ℕ)) → j < k
      → out ≤ length (frames_with st (arrivals_of (run st j w)) (run st j w))
      → take (length (frames_in st (arrivals_in st j w) w) + out) (frames_in st (arrivals_in st k w) w ++ more)
      ≡ frames_in st (arrivals_in st j w) w ++ take out (frames_with st (arrivals_of (run st j w)) (run st j w))
  front j k out w more low small =
      let first = frames_in st (arrivals_in st j w) w in
      let next = frames_with st (arrivals_of (run st j w)) (run st j w) in
      let count : k ≡ j + suc (k - j - 1) = omega arith in
      let parted = frames_parted j (k - j - 1) w in
      let all : frames_in st (arrivals_in st k w) w ++ more ≡ first ++ (next ++ (parted.0 ++ more)) =
      ap (λ i. frames_in st (arrivals_in st i w) w ++ more) count ∙ ap (λ l. l ++ more) parted.1
      ∙ append_assoc first (next ++ parted.0) more ∙ ap (λ l. first ++ l) (append_assoc next parted.0 more) in
      ap (λ l. take (length first + out) l) all ∙ take_past first (next ++ (parted.0 ++ more)) out
      ∙ ap (λ l. first ++ l) (take-append-le out next (parted.0 ++ more) small)

  -- ---- rounds after others

  pub run_on : (xs ys : List (List Arrival)) (w : World N) → run_with st (xs ++ ys) w ≡ run_with st ys (run_with st xs w)
  run_on [] ys w = refl
  run_on (x ∷ xs) ys w = run_on xs ys (round_with st x w)

  pub arrive_on : (xs ys : List (List Arrival)) (w : World N) → ArriveIn st xs w → ArriveIn st ys (run_with st xs w)
      → ArriveIn st (xs ++ ys) w
  arrive_on [] ys w first more = more
  arrive_on (x ∷ xs) ys w first more = (first.0, arrive_on xs ys (round_with st x w) first.1 more)

  -- ---- a round that is broken off after others

  -- the frames of the first j rounds were sent, and some of the next one but not all
  pub record IsSentTo (w : World N) (left : Fibres) (j out : ℕ) : Type 0 where
    pub sends : Appends w.fibres (frames_in st (arrivals_in st j w) w
        ++ take out (frames_with st (arrivals_of (run st j w)) (run st j w))) left
    pub few : out < 2 * length w.ring.ids

  -- a round has at least as many frames as were sent of it
  pub small_of : (w : World N) (j out : ℕ) → length w.ring.nodes ≡ length w.ring.ids → out < 2 * length w.ring.ids
      → out ≤ length (frames_with st (arrivals_of (run st j w)) (run st j w))
  small_of w j out size few = omega (arith, few, length-one (arrivals_of (run st j w)) (run st j w), (left_run j w).nodes, size)

  pub sent_to : (j : ℕ) (w : World N) (left : Fibres) → Knows w.fibres → (off : IsBrokenOff st (run st j w) left)
      → IsSentTo w left j off.out
  sent_to j w left knows off =
      let come : off.arrivals ≡ arrivals_of (run st j w) = off.arrive.known (knows_after j w knows) in
      let sent = (faults_keep st).sent (run st j w) left off in
      record {
        sends = sent ∙ ap (λ xs. option_map (λ sent. sent ++ take off.out (frames_with st xs (run st j w))) (run st j w).fibres.sent) come
            ∙ ap (option_map (λ sent. sent ++ take off.out (frames_with st (arrivals_of (run st j w)) (run st j w)))) (frames_sent j w)
            ∙ appended_twice w.fibres.sent (frames_in st (arrivals_in st j w) w)
            (take off.out (frames_with st (arrivals_of (run st j w)) (run st j w)));
        few = omega (arith, off.not_all, ap (λ (l : List ℕ). length l) (left_run j w).ids);
      }
