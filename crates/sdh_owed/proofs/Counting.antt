-- A course counts the frames that were sent.
use Rattle.std.proofs.Common.{◌≡◌, ℕ, zero, suc, ◌+◌, ◌-◌, ◌*◌, Option, Some, List, [], ◌∷◌, ◌++◌, length, refl, ap, sym, ◌∙◌, subst, arith, inl, inr}
use Rattle.std.proofs.Common.{length-append}
use Rattle.std.specs.Prelude.{option_map}
use Rattle.std.specs.Option.{option_map_or}
use Rattle.sdh_plant.specs.Fibres.{Fibres}
use Rattle.sdh_rounds.specs.Rounds as any_round
use Rattle.sdh_rounds.specs.Runs as any_run
use Rattle.sdh_rounds.proofs.Runs.{length-heard, length-frames}
use Rattle.sdh_node.specs.Stations.{adm}
use Rattle.sdh_node.specs.Rings.Held.{place_of_port}
use Rattle.sdh_node.specs.Rings.Rounds.{World, round}
use Rattle.sdh_node.specs.Rings.Runs.{run}
use Rattle.sdh_node.specs.Rings.Changes.{changed, all_changed, after_stretch, after_stretches, new_world}
use Rattle.sdh_node.proofs.RingLaws.Keeping.{length-new}
use Rattle.sdh_node.proofs.RingLaws.Histories.{length-placed}
use Rattle.sdh_laws.proofs.converging.Runs.{length_run}
use Rattle.sdh_restoration.specs.Changes as change
use Rattle.sdh_restoration.specs.Changes.{Change, Stretch, rounds_in}
use Rattle.sdh_status.specs.declared.Status.TheVariants as status
use Rattle.sdh_report.specs.Reports.{Report}
use Rattle.sdh_owed.specs.Course.{WentThrough, StretchesHaveSent}
use Rattle.sdh_owed.specs.Counting.{ran_by, CoursesCountFrames}
use Rattle.sdh_owed.proofs.Course.{alike_all}

-- `k` frames were sent in all, and the plant reports them
Told : ℕ → World → Type 0
Told k w = (frames : List (List ℕ)) × (w.fibres.sent ≡ Some frames) × (length frames ≡ k)

-- ---- rounds

told_round : (m k : ℕ) (w : World) → length w.ring.nodes ≡ m → Told k w → Told (k + 2 * m) (round w)
unfolding any_round.round any_round.round_with any_round.sent_all any_round.after_given Told
told_round m k w size (frames, is, many) =
    let heard = any_round.nodes_with adm (any_round.arrivals_of w) w in
    let new = any_round.frames_with adm (any_round.arrivals_of w) w in (
      frames ++ new,
      ap (option_map (λ (sent : List (List ℕ)). sent ++ new)) is,
      omega (
        arith,
        length-append frames new,
        many,
        length-frames adm w.ring.moment heard,
        length-heard adm (any_round.arrivals_of w) w.ring.nodes,
        size,
      ),
    )

told_run : (j m k : ℕ) (w : World) → length w.ring.nodes ≡ m → Told k w → Told (k + 2 * m * j) (run j w)
unfolding any_run.run
told_run zero m k w size told = subst (λ i. Told i w) (let e : k ≡ k + 2 * m * zero = omega arith in e) told
told_run (suc j) m k w size told =
    subst (λ i. Told i (round (run j w))) (let e : k + 2 * m * j + 2 * m ≡ k + 2 * m * suc j = omega arith in e)
    (told_round m (k + 2 * m * j) (run j w) (length_run w j ∙ size) (told_run j m k w size told))

-- ---- changes

pub size_changed : (c : Change) (w : World) → length (changed c w).ring.nodes ≡ length w.ring.nodes
unfolding changed
size_changed (change.Fibre p d condition) w = refl
size_changed (change.Order p d command) w = length-placed _ p w.ring.nodes
size_changed (change.Hold p turns) w = length-placed _ p w.ring.nodes
size_changed (change.Slip port turn count) w = length-placed _ (place_of_port w.ring port) w.ring.nodes
size_changed (change.Now t) w = refl

pub size_all : (cs : List Change) (w : World) → length (all_changed cs w).ring.nodes ≡ length w.ring.nodes
size_all [] w = refl
size_all (c ∷ cs) w = size_all cs (changed c w) ∙ size_changed c w

told_all : (cs : List Change) (k : ℕ) (w : World) → Told k w → Told k (all_changed cs w)
unfolding Told
told_all cs k w (frames, is, many) = (frames, (alike_all cs w).sent ∙ is, many)

-- ---- stretches

told_stretches : (ss : List Stretch) (m k : ℕ) (w : World) → length w.ring.nodes ≡ m → Told k w
    → Told (k + 2 * m * rounds_in ss) (after_stretches ss w)
told_stretches [] m k w size told = subst (λ i. Told i w) (let e : k ≡ k + 2 * m * 0 = omega arith in e) told
told_stretches (s ∷ ss) m k w size told =
    let v = all_changed s.changes w in
    let begun : length v.ring.nodes ≡ m = size_all s.changes w ∙ size in
    subst (λ i. Told i (after_stretches ss (after_stretch s w)))
    (let e : k + 2 * m * s.rounds + 2 * m * rounds_in ss ≡ k + 2 * m * (s.rounds + rounds_in ss) = omega arith in e)
    (told_stretches ss m (k + 2 * m * s.rounds) (after_stretch s w) (length_run v s.rounds ∙ begun)
    (told_run s.rounds m k v begun (told_all s.changes k w told)))

-- ---- reports

rounds_all : (n limit ran : ℕ) (later : List (List Change)) (reports : List Report) (ss : List Stretch)
    → WentThrough n limit ran later reports status.Ok ss → ran + rounds_in ss ≡ ran_by ran reports
rounds_all n limit ran [] reports ss x =
    let none : rounds_in ss ≡ 0 = ap rounds_in x.1 in
    let all : ran + rounds_in ss ≡ ran = omega (arith, none) in
    all ∙ ap (ran_by ran) (sym x.0)
rounds_all n limit ran (changes ∷ later) [] ss x = absurd x
rounds_all n limit ran (changes ∷ later) (r ∷ reports) ss (rest, is, are, x) =
    let more : r.round + 1 + rounds_in rest ≡ ran_by (r.round + 1) reports = rounds_all n limit (r.round + 1) later reports rest x in
    let parts : rounds_in ss ≡ r.round + 1 - ran + rounds_in rest = ap rounds_in are in
    let all : ran + rounds_in ss ≡ r.round + 1 + rounds_in rest = omega (arith, parts, is.window) in
    all ∙ more

same_count : (a b : List (List ℕ)) (o : Option (List (List ℕ))) → o ≡ Some a → o ≡ Some b → length a ≡ length b
same_count a b o e g = ap (λ (x : Option (List (List ℕ))). option_map_or (λ (l : List (List ℕ)). length l) x 0) (sym e ∙ g)

ended_well : (w : World) (ss : List Stretch) (left : Fibres) → StretchesHaveSent w ss status.Ok left → left.sent ≡ (after_stretches ss w).fibres.sent
ended_well w ss left (inl alike) = alike.sent
ended_well w ss left (inr (is, x)) = absurd (grind (arith, is))

pub courses_count_frames : CoursesCountFrames
unfolding Told
courses_count_frames s ids circuits f ring limit steps reports left frames none tells course =
    let w = new_world s ids circuits f in
    let ss = course.stretches in
    let told : Told (0 + 2 * length ids * rounds_in ss) (after_stretches ss w) =
    told_stretches ss (length ids) 0 w (length-new s ids circuits.circuits (length ids)) ([], none, refl) in
    let same = same_count frames told.0 left.sent tells (ended_well w ss left course.sent ∙ told.1) in
    let ran : 0 + rounds_in ss ≡ ran_by 0 reports = rounds_all ring.nodes limit 0 _ reports ss course.through in
    let plain : 0 + 2 * length ids * rounds_in ss ≡ 2 * length ids * rounds_in ss = omega arith in
    same ∙ told.2 ∙ plain ∙ ap (λ k. 2 * length ids * k) (let e : rounds_in ss ≡ ran_by 0 reports = omega (arith, ran) in e)
