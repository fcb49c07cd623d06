-- What changes and rounds keep, by how many rounds have run, holds through stretches.
use Rattle.std.proofs.Common.{◌≡◌, ℕ, zero, suc, ◌+◌, ◌-◌, ◌<◌, ◌≤◌, List, [], ◌∷◌, ◌++◌, refl, ap, sym, ◌∙◌, subst, arith, inl, inr}
use Rattle.std.proofs.lemmas.Bool.{cases_lt}
use Rattle.sdh_node.specs.Rings.Rounds.{World, round}
use Rattle.sdh_node.specs.Rings.Runs.{run}
use Rattle.sdh_restoration.specs.Changes.{Change, Stretch, rounds_in}
use Rattle.sdh_restoration.specs.Changes.{Fibre, Order, Hold, Slip, Now}
use Rattle.sdh_node.specs.Rings.Changes.{changed, all_changed, after_stretch, after_stretches}
use Rattle.sdh_node.specs.Rings.Laws.{IsChangeOf, AreChangesOf, MayHappen}
use Rattle.sdh_node.specs.Rings.Sides.{world_in}
use Rattle.sdh_rounds.specs.Runs as any_run
use Rattle.sdh_laws.proofs.hearing.Staying.{world_low, world_high, world_later}
use Rattle.sdh_laws.specs.Carrying.Windows.{layout_of, HasCircuits}
use Rattle.sdh_laws.proofs.carrying.Ways.{layout_run}
use Rattle.sdh_laws.proofs.carrying.Settles.{layout_all}
use Rattle.sdh_laws.specs.Strangers.Laws.{HoldsNone, HoldNone, NoneHolds, HoldsAside, EachMay, AllMay, HeldAside}

pub layout_in : (rest : List Stretch) (w : World) (t : ℕ) → layout_of (world_in rest w t) ≡ layout_of w
layout_in [] w t = refl
layout_in (x ∷ rest) w t = elim (cases_lt t x.rounds) [
  | inl low ↦ ap layout_of (world_low x rest w t low) ∙ layout_run (all_changed x.changes w) t ∙ layout_all x.changes w
  | inr high ↦ ap layout_of (world_high x rest w t high) ∙ layout_in rest (after_stretch x w) (t - x.rounds)
      ∙ layout_run (all_changed x.changes w) x.rounds ∙ layout_all x.changes w
]

-- ---- changes that hold no controller

none_each : (w : World) (xs : List Change) → HoldNone xs → EachMay (λ v c. HoldsNone c) w xs
none_each w [] none = tt
none_each w (c ∷ xs) none = (none.0, none_each (changed c w) xs none.1)

pub none_in : (w : World) (ss : List Stretch) → NoneHolds ss → AllMay (λ v c. HoldsNone c) w ss
none_in w [] none = tt
none_in w (s ∷ ss) none = (none_each w s.changes none.0, none_in (after_stretch s w) ss none.1)

-- a change that holds no controller holds at most those of nodes that stand aside
aside_one : (w : World) (c : Change) → HoldsNone c → HoldsAside w c
aside_one w (Fibre p d condition) none = tt
aside_one w (Order p d command) none = tt
aside_one w (Hold p turns) none = inl none
aside_one w (Slip port turn count) none = tt
aside_one w (Now t) none = tt

pub aside_each : (w : World) (xs : List Change) → HoldNone xs → EachMay HoldsAside w xs
aside_each w [] none = tt
aside_each w (c ∷ xs) none = (aside_one w c none.0, aside_each (changed c w) xs none.1)

pub none_aside : (w : World) (ss : List Stretch) → NoneHolds ss → HeldAside w ss
none_aside w [] none = tt
none_aside w (s ∷ ss) none = (aside_each w s.changes none.0, none_aside (after_stretch s w) ss none.1)

-- ---- what is kept over changes that are allowed, and over rounds of which something is known

module _ (Told : World → Type 0) (May : World → Change → Type 0) (Kept : ℕ → World → Type 0)
    (change : (j : ℕ) (c : Change) (w : World) → IsChangeOf w c → May w c → Kept j w → Kept j (changed c w))
    (next : (j : ℕ) (w : World) → HasCircuits (layout_of w) → Kept j w → Told w → Kept (j + 1) (round w)) where
  kept_all : (xs : List Change) (j : ℕ) (w : World) → AreChangesOf w xs → EachMay May w xs → Kept j w → Kept j (all_changed xs w)
  kept_all [] j w may none k = k
  kept_all (c ∷ xs) j w may none k = kept_all xs j (changed c w) may.1 none.1 (change j c w may.0 none.0 k)

  pub kept_run : (many j : ℕ) (w : World) → HasCircuits (layout_of w) → Kept j w → ((i : ℕ) → i < many → Told (run i w))
      → Kept (j + many) (run many w)
  unfolding any_run.run
  kept_run zero j w form k tells = subst (λ i. Kept i w) (let e : j ≡ j + 0 = omega arith in e) k
  kept_run (suc many) j w form k tells =
      subst (λ i. Kept i (round (run many w))) (let e : j + many + 1 ≡ j + suc many = omega arith in e)
      (next (j + many) (run many w) (subst HasCircuits (sym (layout_run w many)) form)
      (kept_run many j w form k (λ i h. tells i (omega arith))) (tells many (omega arith)))

  pub kept_in : (rest : List Stretch) (j : ℕ) (w : World) (t : ℕ) → HasCircuits (layout_of w) → Kept j w → MayHappen w rest → AllMay May w rest
      → ((i : ℕ) → i < rounds_in rest → Told (world_in rest w i)) → t ≤ rounds_in rest
      → Kept (j + t) (world_in rest w t)
  kept_in [] j w t form k may none tells h = subst (λ i. Kept i w) (let e : j ≡ j + t = omega arith in e) k
  kept_in (x ∷ rest) j w t form k may none tells h =
      let v = all_changed x.changes w in
      let begin : Kept j v = kept_all x.changes j w may.0 none.0 k in
      let form_v : HasCircuits (layout_of v) = subst HasCircuits (sym (layout_all x.changes w)) form in
      let within : (i : ℕ) → i < x.rounds → Told (run i v) =
      λ i low. subst Told (world_low x rest w i low) (tells i (omega arith)) in
      elim (cases_lt t x.rounds) [
        | inl low ↦ subst (Kept (j + t)) (sym (world_low x rest w t low)) (kept_run t j v form_v begin (λ i less. within i (omega arith)))
        | inr high ↦ subst (Kept (j + t)) (sym (world_high x rest w t high))
            (subst (λ i. Kept i (world_in rest (after_stretch x w) (t - x.rounds)))
            (let e : j + x.rounds + (t - x.rounds) ≡ j + t = omega arith in e)
            (kept_in rest (j + x.rounds) (after_stretch x w) (t - x.rounds) (subst HasCircuits (sym (layout_run v x.rounds)) form_v)
            (kept_run x.rounds j v form_v begin within) may.1 none.1
            (λ i low. subst Told (world_later x rest w i) (tells (x.rounds + i) (omega arith)))
            (omega arith)))
      ]

-- ---- stretches one after the other

pub rounds_together : (earlier later : List Stretch) → rounds_in (earlier ++ later) ≡ rounds_in earlier + rounds_in later
rounds_together [] later = omega arith
rounds_together (s ∷ earlier) later = (let more = rounds_together earlier later in omega arith)

pub happens_in_parts : (earlier later : List Stretch) (w : World) → MayHappen w (earlier ++ later)
    → MayHappen w earlier × MayHappen (after_stretches earlier w) later
happens_in_parts [] later w may = (tt, may)
happens_in_parts (s ∷ earlier) later w may =
    (let parts = happens_in_parts earlier later (after_stretch s w) may.1 in ((may.0, parts.0), parts.1))

pub world_behind : (earlier later : List Stretch) (w : World) (t : ℕ)
    → world_in (earlier ++ later) w (rounds_in earlier + t) ≡ world_in later (after_stretches earlier w) t
world_behind [] later w t = ap (world_in later w) (let e : 0 + t ≡ t = omega arith in e)
world_behind (s ∷ earlier) later w t =
    ap (world_in (s ∷ earlier ++ later) w) (let e : s.rounds + rounds_in earlier + t
    ≡ s.rounds + (rounds_in earlier + t) = omega arith in e)
    ∙ world_later s (earlier ++ later) w (rounds_in earlier + t) ∙ world_behind earlier later (after_stretch s w) t
