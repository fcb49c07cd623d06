-- Parts of a line that are put one after the other.
use Rattle.std.proofs.Common.{◌≡◌, ℕ, ◌+◌, ◌*◌, ◌<◌, ◌≤◌, Bool, true, false, Some, List, [], ◌∷◌, ◌++◌, length, map, take, get_or, inl, inr, refl, sym, ap}
use Rattle.std.proofs.Common.{◌∙◌, ◌==◌, arith, append_assoc}
use Rattle.std.specs.Prelude.{count_by, slice_get, if◌then◌else◌}
use Rattle.std.specs.List.{flat_map}
use Rattle.std.specs.Option.{option_map_or}
use Rattle.std.proofs.lemmas.Grind.{flat_map-append}
use Rattle.std.proofs.lemmas.Bool.{eqb-true}
use Rattle.std.proofs.lemmas.List.{take_more, append-nil, length-map, length-take-le, map-append}
use Rattle.std.proofs.lemmas.List.Sums.{count_by_more_yes, count_by_more_no}
use Rattle.std.proofs.lemmas.Option.{slice_get_cases, get_or_from_slice_get}
use Rattle.sdh_ringmap.specs.declared.Side.TheVariants.{West}
use Rattle.sdh_verdicts.specs.declared.failure.Failure.{Failure}
use Rattle.sdh_verdicts.specs.declared.failure.Failure.TheVariants as failure
use Rattle.sdh_verdicts.specs.Failures.{steps_of, case_steps}
use Rattle.sdh_verdicts.specs.declared.judging.Sides.{Sides}
use Rattle.sdh_verdicts.specs.Sides.{resting_of}
use Rattle.sdh_verdicts.specs.Verdicts.{AreSidesOf, numbered}
use Rattle.sdh_verdicts.proofs.Rests.{case_more}
use Rattle.sdh_plan.specs.Planned.{Planned}
use Rattle.sdh_verdicts.specs.Resting as model
use Rattle.sdh_basics.proofs.CellsLaws.{length-cells}
use Rattle.sdh_plan.specs.declared.step.Step.{Step}
use Rattle.sdh_whatif_cli.specs.Lines.{joined}

-- ---- one more of a list

-- what is at a place of a list
pub there : {X : Type 0} (xs : List X) (i : ℕ) → i < length xs → (x : X) × (slice_get xs i ≡ Some x)
there xs i low = elim (slice_get_cases xs i).1 [
  | inl here ↦ (here.0, here.2)
  | inr past ↦ absurd (omega (arith, low, past.0))
]

pub flat_next : {X : Type 0} (f : X → List ℕ) (xs : List X) (i : ℕ) (x : X) → i < length xs → slice_get xs i ≡ Some x
    → flat_map f (take (i + 1) xs) ≡ flat_map f (take i xs) ++ f x
flat_next f xs i x low is =
    ap (flat_map f) (take_more xs i x low)
    ∙ flat_map-append f (take i xs) (get_or xs i x ∷ [])
    ∙ ap (λ l. flat_map f (take i xs) ++ l) (append-nil (f (get_or xs i x)) ∙ ap f (get_or_from_slice_get xs i x x is))

pub text_next : {X : Type 0} (f : X → List ℕ) (xs : List X) (i : ℕ) (x : X) (start line next : List ℕ) → i < length xs
    → slice_get xs i ≡ Some x
    → line ≡ start ++ flat_map f (take i xs) → next ≡ line ++ f x → next ≡ start ++ flat_map f (take (i + 1) xs)
text_next f xs i x start line next low is before more =
    more ∙ ap (λ l. l ++ f x) before ∙ append_assoc start (flat_map f (take i xs)) (f x)
    ∙ ap (λ l. start ++ l) (sym (flat_next f xs i x low is))

pub count_next : {X : Type 0} (p : X → Bool) (xs : List X) (i : ℕ) (x : X) (b : Bool) (count next : ℕ) → i < length xs
    → slice_get xs i ≡ Some x → b ≡ p x → count ≡ count_by p (take i xs)
    → next ≡ count + (if b then 1 else 0) → next ≡ count_by p (take (i + 1) xs)
count_next p xs i x true count next low is holds before more =
    let here : p (get_or xs i x) ≡ true = ap p (get_or_from_slice_get xs i x x is) ∙ sym holds in
    more ∙ ap (λ k. k + 1) before ∙ sym (count_by_more_yes p xs i x low here)
count_next p xs i x false count next low is holds before more =
    let here : p (get_or xs i x) ≡ false = ap p (get_or_from_slice_get xs i x x is) ∙ sym holds in
    let same : next ≡ count = omega (arith, more) in
    same ∙ before ∙ sym (count_by_more_no p xs i x low here)

-- the texts of up to four, one after the other
abbrev pub part_at : {X : Type 0} → (X → List ℕ) → List X → ℕ → List ℕ
part_at f xs i = option_map_or f (slice_get xs i) []

four_parts : {X : Type 0} (f : X → List ℕ) (xs : List X) → length xs ≤ 4
    → ((part_at f xs 0 ++ part_at f xs 1) ++ part_at f xs 2) ++ part_at f xs 3 ≡ flat_map f xs
four_parts f [] few = refl
four_parts f (a ∷ []) few = simp append-nil
four_parts f (a ∷ (b ∷ [])) few = simp append-nil
four_parts f (a ∷ (b ∷ (c ∷ []))) few = simp (append-nil, append_assoc)
four_parts f (a ∷ (b ∷ (c ∷ (d ∷ [])))) few = simp (append-nil, append_assoc)
four_parts f (a ∷ (b ∷ (c ∷ (d ∷ (e ∷ more))))) few = absurd (omega arith)

few_steps : (n threshold : ℕ) (x : Failure) → length (steps_of n threshold x) ≤ 4
few_steps n threshold (failure.Degraded at side) = omega arith
few_steps n threshold (failure.Cut at side) = omega arith
few_steps n threshold (failure.Span at) = omega arith
few_steps n threshold (failure.Node at) = omega arith
few_steps n threshold (failure.Manual at side) = omega arith
few_steps n threshold (failure.Forced at side) = omega arith

pub step_parts : (f : Step → List ℕ) (n threshold : ℕ) (x : Failure)
    → ((part_at f (steps_of n threshold x) 0 ++ part_at f (steps_of n threshold x) 1) ++ part_at f (steps_of n threshold x) 2)
    ++ part_at f (steps_of n threshold x) 3 ≡ flat_map f (steps_of n threshold x)
step_parts f n threshold x = four_parts f (steps_of n threshold x) (few_steps n threshold x)

-- ---- texts with something between them

snoc : (b u t : List ℕ) (us : List (List ℕ)) → joined b ((u ∷ us) ++ t ∷ []) ≡ joined b (u ∷ us) ++ (b ++ t)
snoc b u t us =
    let g : List ℕ → List ℕ = λ x. b ++ x in
    ap (λ l. u ++ l) (flat_map-append g us (t ∷ []) ∙ ap (λ l. flat_map g us ++ l) (append-nil (b ++ t)))
    ∙ sym (append_assoc u (flat_map g us) (b ++ t))

abbrev pub gap : Bool → List ℕ → List ℕ
gap first b = if first then [] else b

-- one text more of those that have something between them
pub join_by : (b : List ℕ) (ts : List (List ℕ)) (t start line mid next : List ℕ) (first : Bool) → (length ts == 0) ≡ first
    → line ≡ start ++ joined b ts → mid ≡ line ++ gap first b → next ≡ mid ++ t → next ≡ start ++ joined b (ts ++ t ∷ [])
join_by b [] t start line mid next true is before between more =
    more ∙ ap (λ l. l ++ t) (between ∙ append-nil line ∙ before ∙ append-nil start) ∙ ap (λ l. start ++ l) (sym (append-nil t))
join_by b [] t start line mid next false is before between more = let odd : true ≡ false = is in cc
join_by b (u ∷ us) t start line mid next true is before between more =
    absurd (let none : length (u ∷ us) ≡ 0 = eqb-true (length (u ∷ us)) 0 is in omega (arith, none))
join_by b (u ∷ us) t start line mid next false is before between more =
    more ∙ ap (λ l. l ++ t) (between ∙ ap (λ l. l ++ b) before) ∙ append_assoc (start ++ joined b (u ∷ us)) b t
    ∙ append_assoc start (joined b (u ∷ us)) (b ++ t) ∙ ap (λ l. start ++ l) (sym (snoc b u t us))

-- one text more of a list
pub join_next : {X : Type 0} (b : List ℕ) (f : X → List ℕ) (xs : List X) (i : ℕ) (d : X) (start line mid next : List ℕ) → i < length xs
    → line ≡ start ++ joined b (map f (take i xs)) → mid ≡ line ++ gap (i == 0) b → next ≡ mid ++ f (get_or xs i d)
    → next ≡ start ++ joined b (map f (take (i + 1) xs))
join_next b f xs i d start line mid next low before between more =
    let size : length (map f (take i xs)) ≡ i = length-map (take i xs) f ∙ length-take-le i xs (omega (arith, low)) in
    let grown : map f (take i xs) ++ f (get_or xs i d) ∷ [] ≡ map f (take (i + 1) xs) =
    sym (ap (map f) (take_more xs i d low) ∙ map-append f (take i xs) (get_or xs i d ∷ [])) in
    join_by b (map f (take i xs)) (f (get_or xs i d)) start line mid next (i == 0) (ap (λ n. n == 0) size) before between more
    ∙ ap (λ ts. start ++ joined b ts) grown

-- ---- the steps of a case

pub case_next : (g : Step → List ℕ) (n threshold : ℕ) (case : List Failure) (i : ℕ) (f : Failure) → i < length case
    → flat_map g (case_steps n threshold (take (i + 1) case))
    ≡ flat_map g (case_steps n threshold (take i case)) ++ flat_map g (steps_of n threshold (get_or case i f))
case_next g n threshold case i f low =
    let one = get_or case i f in
    ap (λ l. flat_map g (case_steps n threshold l)) (take_more case i f low)
    ∙ ap (flat_map g) (case_more threshold n 0 West (take i case) (one ∷ []))
    ∙ flat_map-append g (case_steps n threshold (take i case)) (case_steps n threshold (one ∷ []))
    ∙ ap (λ l. flat_map g (case_steps n threshold (take i case)) ++ flat_map g l) (append-nil (steps_of n threshold one))

-- ---- sides

pub sides_long : (plan : Planned) (s : Sides) → AreSidesOf plan s → length s.rests.items ≡ 2 * length s.map.now
sides_long plan s are =
    let long : length s.rests.items ≡ 2 * length plan.nodes =
    sym (length-map s.rests.items resting_of) ∙ ap (λ (l : List model.Resting). length l) are.rests
    ∙ length-cells (numbered plan) (2 * length plan.nodes) in
    long ∙ ap (λ (l : List ℕ). 2 * length l) (sym are.nodes)

-- ---- a line

-- a part after others
pub onto : (start before part line new : List ℕ) → line ≡ start ++ before → new ≡ line ++ part → new ≡ start ++ (before ++ part)
onto start before part line new is more = more ∙ ap (λ l. l ++ part) is ∙ append_assoc start before part
