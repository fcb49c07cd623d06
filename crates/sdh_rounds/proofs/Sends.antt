-- What is sent, one call after the other.
use Rattle.std.proofs.Common.{◌≡◌, ℕ, zero, suc, ◌+◌, ◌*◌, ◌/◌, ◌<◌, ◌≤◌, List, [], ◌∷◌, ◌++◌, length, take, drop, set, get_or, map, Option}
use Rattle.std.proofs.Common.{Some, None, refl, ap, sym, ◌∙◌, arith, append_assoc, ◌⊎◌, inl, inr}
use Rattle.std.proofs.lemmas.List.{take_more, take_more_set, drop_more, map-append, append-nil, set_at, length_push, length-map}
use Rattle.std.proofs.lemmas.List.{take-append-drop, drop_all, flat_map_more, length-take-le}
use Rattle.std.specs.Prelude.{option_map}
use Rattle.sdh_basics.proofs.Indexing.{rest_more, read_here}
use Rattle.sdh_ringmap.specs.declared.Side.TheVariants.{West, East}
use Rattle.sdh_plant.specs.Fibres.{Arrival, Fibres}
use Rattle.sdh_plant.specs.Calls.{after_send}
use Rattle.sdh_rounds.specs.Stations.{Station}
use Rattle.sdh_rounds.specs.Rounds.{both_frames, frames_of, sent_all, sent_some}
use Rattle.sdh_rounds.specs.Calls.{sent_west, sent_now, first_after, SendsSome}
use Rattle.sdh_rounds.proofs.Runs.{length-frames}
use Rattle.sdh_rounds.proofs.Laws.{appended_none}

pub step_map : {N : Type 0} (f : N → N) (xs ns : List N) (i : ℕ) (x y : N) → i < length xs → i < length ns → drop i xs ≡ drop i ns
    → x ≡ get_or xs i x → y ≡ f x → take i xs ≡ map f (take i ns) → take (i + 1) (set xs i y) ≡ map f (take (i + 1) ns)
step_map f xs ns i x y hx hn rest read is done =
    let split : take (i + 1) ns ≡ take i ns ++ x ∷ [] =
    take_more ns i x hn ∙ ap (λ z. take i ns ++ z ∷ []) (sym (read_here xs ns i x rest read)) in
    take_more_set xs i y hx ∙ ap (λ z. take i xs ++ z ∷ []) is ∙ ap (λ zs. zs ++ f x ∷ []) done
    ∙ sym (ap (map f) split ∙ map-append f (take i ns) (x ∷ []))

pub some_none : (f : Fibres) → f ≡ sent_some [] f
unfolding sent_some
some_none f = ap (λ sent. record f { sent = sent }) (appended_none f.sent)

sent_one : (o : Option (List (List ℕ))) (frames : List (List ℕ)) (w : List ℕ)
    → option_map (λ fs. fs ++ w ∷ []) (option_map (λ fs. fs ++ frames) o) ≡ option_map (λ fs. fs ++ (frames ++ w ∷ [])) o
sent_one None frames w = refl
sent_one (Some fs) frames w = ap Some (append_assoc fs frames (w ∷ []))

-- one write at place k of the list
carried_one : (done old : List Arrival) (k : ℕ) (w : Arrival) → length done ≡ k → k < length old
    → set (done ++ drop k old) k w ≡ (done ++ w ∷ []) ++ drop (k + 1) old
carried_one done old k w len h =
    ap (λ zs. set (done ++ zs) k w) (drop_more old k None h)
    ∙ set_at done (get_or old k None) (drop (k + 1) old) w k len
    ∙ sym (append_assoc done (w ∷ []) (drop (k + 1) old))

pair_is : {A B : Type 0} {a b : A} {c d : B} → a ≡ b → c ≡ d → ◌≡◌ {A = A × B} (a, c) (b, d)
pair_is p q = cc

set_same : (xs : List Arrival) (i j : ℕ) (w : Arrival) → i ≡ j → set xs i w ≡ set xs j w
set_same xs i j w e = ap (λ k. set xs k w) e

-- one more of the frames was sent, on the fibre k
some_one : (f : Fibres) (frames : List (List ℕ)) (w : List ℕ) (k : ℕ) → k ≡ length frames → length frames < length f.carried →
    record (sent_some frames f) {
      carried = set (sent_some frames f).carried k (Some w);
      sent = option_map (λ sent. sent ++ w ∷ []) (sent_some frames f).sent;
    } ≡ sent_some (frames ++ w ∷ []) f
unfolding sent_some
some_one f frames w k is h =
    let size : length frames + 1 ≡ length (frames ++ w ∷ []) = sym (length_push frames w) in
    ap (λ p. record f { carried = p.0; sent = p.1 })
    (pair_is (set_same (map Some frames ++ drop (length frames) f.carried) k (length frames) (Some w) is
    ∙ carried_one (map Some frames) f.carried (length frames) (Some w) (length-map frames Some) h
    ∙ ap (λ zs. zs ++ drop (length frames + 1) f.carried) (sym (map-append Some frames (w ∷ [])))
    ∙ ap (λ n. map Some (frames ++ w ∷ []) ++ drop n f.carried) size)
    (sent_one f.sent frames w))

pub some_all : (f : Fibres) (frames : List (List ℕ)) → length f.carried ≤ length frames → sent_some frames f ≡ sent_all frames f
unfolding sent_some sent_all
some_all f frames h =
    ap (λ zs. record f { carried = zs; sent = option_map (λ fs. fs ++ frames) f.sent })
    (ap (λ zs. map Some frames ++ zs) (drop_all (length frames) f.carried h) ∙ append-nil (map Some frames))

take_two : (w e : List ℕ) (fs : List (List ℕ)) (k : ℕ) → take (2 * suc k) (w ∷ e ∷ fs) ≡ w ∷ e ∷ take (2 * k) fs
take_two w e fs k = ap (λ n. take n (w ∷ e ∷ fs)) (let same : 2 * suc k ≡ suc (suc (2 * k)) = omega arith in same)

take_two_one : (w e : List ℕ) (fs : List (List ℕ)) (k : ℕ) → take (2 * suc k + 1) (w ∷ e ∷ fs) ≡ w ∷ e ∷ take (2 * k + 1) fs
take_two_one w e fs k = ap (λ n. take n (w ∷ e ∷ fs)) (let same : 2 * suc k + 1 ≡ suc (suc (2 * k + 1)) = omega arith in same)

pub nodes_some : (frames : List (List ℕ)) (f : Fibres) → (sent_some frames f).nodes ≡ f.nodes
unfolding sent_some
nodes_some frames f = refl

pub rate_some : (frames : List (List ℕ)) (f : Fibres) → (sent_some frames f).rate ≡ f.rate
unfolding sent_some
rate_some frames f = refl

module _ {N : Type 0} (st : Station N) where
  -- ---- node after node

  frames_size : (now : ℕ) (ns : List N) (i : ℕ) → i ≤ length ns → length (frames_of st now (take i ns)) ≡ 2 * i
  frames_size now ns i h = length-frames st now (take i ns) ∙ ap (λ n. 2 * n) (length-take-le i ns h)

  -- the node at i has sent on the west
  pub west_more : (now : ℕ) (ns : List N) (f : Fibres) (i : ℕ) (x : N) → i < length ns → 2 * i + 1 < length f.carried
      → sent_west st now i x (sent_some (frames_of st now (take i ns)) f)
      ≡ sent_some (frames_of st now (take i ns) ++ st.sends now West x ∷ []) f
  west_more now ns f i x h room =
      let size = frames_size now ns i (omega arith) in
      some_one f (frames_of st now (take i ns)) (st.sends now West x) (2 * i) (sym size) (omega arith)

  frames_more : (now : ℕ) (ns : List N) (i : ℕ) (x : N) → i < length ns → x ≡ get_or ns i x
      → frames_of st now (take (i + 1) ns) ≡ frames_of st now (take i ns) ++ st.sends now West x ∷ st.sends now East x ∷ []
  frames_more now ns i x h read =
      ap (frames_of st now) (take_more ns i x h ∙ ap (λ z. take i ns ++ z ∷ []) (sym read))
      ∙ sym (flat_map_more (both_frames st now) [] (take i ns) x)

  -- one node more has sent on both sides
  pub both_more : (now : ℕ) (ns : List N) (f : Fibres) (i : ℕ) (x : N) → i < length ns → x ≡ get_or ns i x → 2 * i + 1 < length f.carried
      → sent_now st now i x (sent_some (frames_of st now (take i ns)) f) ≡ sent_some (frames_of st now (take (i + 1) ns)) f
  both_more now ns f i x h read room =
      let size = frames_size now ns i (omega arith) in
      let more : length (frames_of st now (take i ns) ++ st.sends now West x ∷ []) ≡ 2 * i + 1 =
      length_push (frames_of st now (take i ns)) (st.sends now West x) ∙ ap (λ n. n + 1) size in
      ap (λ g. after_send g i East (st.sends now East x)) (west_more now ns f i x h room)
      ∙ some_one f (frames_of st now (take i ns) ++ st.sends now West x ∷ []) (st.sends now East x) (2 * i + 1) (sym more) (omega arith)
      ∙ ap (λ fs. sent_some fs f) (append_assoc (frames_of st now (take i ns)) (st.sends now West x ∷ []) (st.sends now East x ∷ [])
      ∙ sym (frames_more now ns i x h read))

  -- ---- the first frames of all

  first_nodes : (now : ℕ) (ns : List N) (i : ℕ) → take (2 * i) (frames_of st now ns) ≡ frames_of st now (take i ns)
  first_nodes now ns zero = refl
  first_nodes now [] (suc i) = ap (λ n. take n []) (let same : 2 * suc i ≡ suc (suc (2 * i)) = omega arith in same)
  first_nodes now (n ∷ ns) (suc i) =
      take_two (st.sends now West n) (st.sends now East n) (frames_of st now ns) i
      ∙ ap (λ fs. st.sends now West n ∷ st.sends now East n ∷ fs) (first_nodes now ns i)

  first_west : (now : ℕ) (ns : List N) (i : ℕ) (x : N) → i < length ns → x ≡ get_or ns i x
      → take (2 * i + 1) (frames_of st now ns) ≡ frames_of st now (take i ns) ++ st.sends now West x ∷ []
  first_west now [] i x h read = absurd (omega arith)
  first_west now (n ∷ ns) zero x h read = ap (λ m. st.sends now West m ∷ []) (sym read)
  first_west now (n ∷ ns) (suc i) x h read =
      take_two_one (st.sends now West n) (st.sends now East n) (frames_of st now ns) i
      ∙ ap (λ fs. st.sends now West n ∷ st.sends now East n ∷ fs) (first_west now ns i x (omega arith) read)

  -- the node at i has had its round too
  pub step_first : (now : ℕ) (xs ns : List N) (i : ℕ) (x y : N) → i < length xs → i < length ns → drop i xs ≡ drop i ns → x ≡ get_or xs i x
      → y ≡ st.after now x → take i xs ≡ map (st.after now) (take i ns)
      → set xs i y ≡ first_after st now (i + 1) ns
  step_first now xs ns i x y hx hn rest read is done =
      sym (take-append-drop (i + 1) (set xs i y))
      ∙ ap (λ zs. zs ++ drop (i + 1) (set xs i y)) (step_map (st.after now) xs ns i x y hx hn rest read is done)
      ∙ ap (λ zs. map (st.after now) (take (i + 1) ns) ++ zs) (rest_more xs ns i y rest)

  -- the node at i has had its round, and a send of it failed
  pub sends_some : (now : ℕ) (ns new : List N) (f g h : Fibres) (i : ℕ) (x : N) → i < length ns → x ≡ get_or ns i x
      → 2 * i + 1 < length f.carried → new ≡ first_after st now (i + 1) ns → g ≡ sent_some (frames_of st now (take i ns)) f
      → (h ≡ g) ⊎ (h ≡ sent_west st now i x g) → SendsSome st now ns new f h
  sends_some now ns new f g h i x low read room had done (inl same) = record {
    out = 2 * i;
    not_all = let all = length-frames st now ns in omega arith;
    after_is = same ∙ done ∙ ap (λ fs. sent_some fs f) (sym (first_nodes now ns i));
    nodes = had ∙ ap (λ k. first_after st now k ns) (let e : i + 1 ≡ 2 * i / 2 + 1 = omega arith in e);
  }
  sends_some now ns new f g h i x low read room had done (inr one) = record {
    out = 2 * i + 1;
    not_all = let all = length-frames st now ns in omega arith;
    after_is =
        one ∙ ap (sent_west st now i x) done ∙ west_more now ns f i x low room
        ∙ ap (λ fs. sent_some fs f) (sym (first_west now ns i x low read));
    nodes = had ∙ ap (λ k. first_after st now k ns) (let e : i + 1 ≡ (2 * i + 1) / 2 + 1 = omega arith in e);
  }
