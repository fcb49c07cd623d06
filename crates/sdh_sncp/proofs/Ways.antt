-- What comes along a way in calm rounds: what the circuit's other port sent, or AIS where a fibre of the way is cut.
use Rattle.std.proofs.Common.{◌≡◌, ◌≢◌, ℕ, zero, suc, ◌+◌, ◌-◌, ◌<◌, ◌≤◌, Bool, true, false, length, get_or, Some, refl, ap, sym, ◌∙◌}
use Rattle.std.proofs.Common.{subst, arith, inl, inr}
use Rattle.std.specs.Prelude.{slice_get, if◌then◌else◌}
use Rattle.std.proofs.lemmas.Bool.{cases_Bool, cases_lt}
use Rattle.sdh_ringmap.specs.Rates.{n_of}
use Rattle.sdh_ringmap.specs.declared.Side.{Side}
use Rattle.sdh_ringmap.specs.declared.Side.TheVariants.{West, East}
use Rattle.sdh_ringmap.specs.Places.{neighbour, opposite, eastwards}
use Rattle.sdh_ringmap.specs.Steps.{going}
use Rattle.sdh_ringmap.proofs.Going.{going-none, going-first, going-to, going-apart, mirror}
use Rattle.sdh_ringmap.proofs.Sides.{neighbour_below}
use Rattle.sdh_ringmap.proofs.Around.{eastwards_on, eastwards_round}
use Rattle.sdh_circuits.specs.declared.End.{End}
use Rattle.sdh_circuits.specs.declared.End.TheVariants.{A, B}
use Rattle.sdh_circuits.specs.Provisioned.{Provisioned, customer_at, end_of}
use Rattle.sdh_payload.specs.Customer.{Customer}
use Rattle.sdh_payload.specs.Outlet.{Outlet, silent}
use Rattle.sdh_ringmap.specs.declared.terms.Condition.TheVariants.{Clear}
use Rattle.sdh_ringmap.specs.Fibres.{fibre_to, is_cut}
use Rattle.sdh_plant.specs.Arrivals.{condition_of}
use Rattle.sdh_circuits.specs.Ends.{other_end, port_id}
use Rattle.sdh_rounds.specs.Runs as any_run
use Rattle.sdh_spans.specs.Brought.{BringsDelivery, HasValue}
use Rattle.sdh_sncp.specs.Due.{way_clear, main_spans, spare_spans, sends_in}
use Rattle.sdh_circuits.specs.Ends.{inward}
use Rattle.sdh_sncp.specs.Fixed.{AreAlone}
use Rattle.sdh_sncp.specs.Ring.{World, run, is_calm}
use Rattle.sdh_sncp.specs.Laws.{IsWholePathRing, cut_in}
use Rattle.sdh_sncp.proofs.Rounds.{whole_run, IsLeft, left_run}
use Rattle.sdh_sncp.proofs.Spans.{sent_at, came_at, span_brings, span_silent}
use Rattle.sdh_sncp.proofs.Uses.{use_is, use_passed, use_ended, sends_passed, sends_ended, port_sends}

-- ---- the two ways of a circuit's port

pub both_arcs : (n from to : ℕ) → from < n → to < n → from ≢ to
    → (eastwards n from to + eastwards n to from ≡ n) × (1 ≤ eastwards n from to) × (1 ≤ eastwards n to from)
both_arcs n from to hf ht apart = elim (cases_lt from to) [
  | inl less ↦ (let a = eastwards_on n from to (omega arith) ht in let b = eastwards_round n to from less ht in
      (omega arith, omega arith, omega arith))
  | inr more ↦ (
      let strict : to < from = by_apart more in
      let a = eastwards_round n from to strict hf in let b =
      eastwards_on n to from (omega arith) hf in (omega arith, omega arith, omega arith))
]
  where
    by_apart : to ≤ from → to < from
    by_apart h = elim (cases_lt to from) [
      | inl less ↦ less
      | inr more ↦ absurd (apart (let e : from ≡ to = omega arith in e))
    ]

westwards : (n : ℕ) → 0 < n → (p q : ℕ) → p < n → q < n → going n West p (eastwards n q p) ≡ q
westwards n some p q hp hq =
    ap (λ b. going n West b (eastwards n q p)) (sym (going-to n some q p hq hp))
    ∙ mirror n some East q (eastwards n q p) 0 (eastwards n q p) (omega arith) ∙ going-none n some East q hq

-- the main way leads to the other end, and so does the spare one
pub main_leads : (n : ℕ) → 0 < n → (c : Provisioned) → c.from.0 < n → c.to.0 < n → (e : End)
    → going n (inward e) ((end_of c e).0) (main_spans n c) ≡ (end_of c (other_end e)).0
main_leads n some c hf ht A = going-to n some c.from.0 c.to.0 hf ht
main_leads n some c hf ht B = westwards n some c.to.0 c.from.0 ht hf

pub spare_leads : (n : ℕ) → 0 < n → (c : Provisioned) → c.from.0 < n → c.to.0 < n → c.from.0 ≢ c.to.0 → (e : End)
    → going n (opposite (inward e)) ((end_of c e).0) (spare_spans n c) ≡ (end_of c (other_end e)).0
spare_leads n some c hf ht apart A =
    let both = both_arcs n c.from.0 c.to.0 hf ht apart in
    let arc = both.0 in
    ap (going n West c.from.0) (let e : n - eastwards n c.from.0 c.to.0 ≡ eastwards n c.to.0 c.from.0 = omega arith in e)
    ∙ westwards n some c.from.0 c.to.0 hf ht
spare_leads n some c hf ht apart B =
    let both = both_arcs n c.from.0 c.to.0 hf ht apart in
    let arc = both.0 in
    ap (going n East c.to.0) (let e : n - eastwards n c.from.0 c.to.0 ≡ eastwards n c.to.0 c.from.0 = omega arith in e)
    ∙ going-to n some c.to.0 c.from.0 ht hf

-- ---- along a way

abbrev pub either : Bool → Outlet → Outlet
either b o = if b then o else silent

abbrev pub IsSmallCustomer : Customer → Type 0
IsSmallCustomer s = s.offset ≤ 782

either_value : (b : Bool) (s : Customer) (t : ℕ) → IsSmallCustomer s → HasValue (either b (sends_in s t))
either_value true s t small = small
either_value false s t small = refl

module _ (w : World) (whole : IsWholePathRing w) (alone : AreAlone w.ring.circuits.circuits) (index : ℕ) (c : Provisioned)
    (get : slice_get w.ring.circuits.circuits index ≡ Some c)
    (low : 1 ≤ c.slot.0) (high : c.slot.0 ≤ n_of w.ring.settings.rate) (apart : c.from.0 ≢ c.to.0)
    (inside : (e : End) → (end_of c e).0 < length w.ring.ids) (e : End) (small : IsSmallCustomer (customer_at c (other_end e)))
    (d : Side) where
  abbrev size : ℕ
  size = length w.ring.ids

  some : 0 < size
  some = let e = whole.placed.ids.enough in omega arith

  abbrev m : ℕ
  m = c.slot.0

  abbrev far : ℕ
  far = (end_of c (other_end e)).0

  abbrev near : ℕ
  near = (end_of c e).0

  abbrev sender : Customer
  sender = customer_at c (other_end e)

  -- what the world after i rounds of the run keeps of the first world
  module _ (i : ℕ) where
    abbrev u : World
    u = run i w

    there : IsWholePathRing u
    there = whole_run w i whole

    left : IsLeft w u i
    left = left_run i w

    same_circuits : slice_get u.ring.circuits.circuits index ≡ Some c
    same_circuits = ap (λ p. slice_get p.circuits index) left.circuits ∙ get

    same_alone : AreAlone u.ring.circuits.circuits
    same_alone = subst (λ p. AreAlone p.circuits) (sym left.circuits) alone

    high_there : m ≤ n_of u.ring.settings.rate
    high_there = subst (λ s. m ≤ n_of s.rate) (sym left.settings) high

    nodes_there : length u.ring.nodes ≡ size
    nodes_there = left.nodes ∙ whole.placed.size

    pub cut_same : (p : ℕ) (d : Side) → cut_in u p d ≡ cut_in w p d
    cut_same p d =
        ap (λ ids. is_cut (condition_of u.fibres (fibre_to (length ids) p d))) left.ids
        ∙ ap (λ cs. is_cut (get_or cs (fibre_to size p d) Clear)) left.conditions

    ends_there : (e : End) → (end_of c e).0 < length u.ring.nodes
    ends_there e = let a = inside e in let b = nodes_there in omega arith

    -- a node between the ends passes on, and the other end's port sends
    passes : (q : ℕ) → q < size → q ≢ c.from.0 → q ≢ c.to.0 → sent_at u q (opposite d) m ≡ came_at u q d m
    passes q h a b =
        sends_passed u there q m (let e = nodes_there in omega arith) low high_there d
        (use_is u.ring.circuits.circuits same_alone q index c same_circuits ∙ use_passed q index c a b)

    far_sends : BringsDelivery (sent_at u far (opposite d) m) (sends_in sender u.ring.rounds)
    far_sends =
        subst (λ x. BringsDelivery x (sends_in sender u.ring.rounds))
        (sym (sends_ended u there far m (ends_there (other_end e)) low high_there (opposite d) (port_id index (other_end e))
        (use_is u.ring.circuits.circuits same_alone far index c same_circuits ∙ use_ended index c (other_end e) apart)))
        (port_sends u there index c (other_end e) same_circuits (ends_there (other_end e)))

  abbrev back : ℕ
  back = m - 1

  at_m : back + 1 ≡ m
  at_m = omega arith

  abbrev cut : ℕ → Side → Bool
  cut = cut_in w

  neither : (q : ℕ) → q ≢ far → q ≢ near → (q ≢ c.from.0) × (q ≢ c.to.0)
  neither q a b = by_end e a b
    where
      by_end : (e : End) → q ≢ (end_of c (other_end e)).0 → q ≢ (end_of c e).0 → (q ≢ c.from.0) × (q ≢ c.to.0)
      by_end A x y = (y, x)
      by_end B x y = (x, y)

  abbrev pub Calm : ℕ → ℕ → Type 0
  Calm s i = (j : ℕ) → suc i ≤ j + s → j ≤ suc i → is_calm (run j w).ring.nodes ≡ true

  -- after a cut fibre AIS comes
  behind_cut : (i p : ℕ) → 0 < i → p < size → is_calm (run (suc i) w).ring.nodes ≡ true → cut p d ≡ true
      → BringsDelivery (came_at (run i w) p d m) silent
  unfolding any_run.run
  behind_cut i p ran h calm is =
      subst (λ a. BringsDelivery (came_at (run i w) p d a) silent) at_m
      (span_silent (run i w) (there i) (let r = (left i).rounds in omega arith) p d (let e = nodes_there i in omega arith) back
      (let h = high_there i in omega arith) calm (cut_same i p d ∙ is))

  -- over any other what the neighbour sent comes
  over_span : (i p : ℕ) (b : Outlet) → p < size → is_calm (run (suc i) w).ring.nodes ≡ true
      → is_calm (run (suc (suc i)) w).ring.nodes ≡ true → cut p d ≡ false → HasValue b
      → BringsDelivery (sent_at (run i w) (neighbour size p d) (opposite d) m) b → BringsDelivery (came_at (run (suc i) w) p d m) b
  unfolding any_run.run
  over_span i p b h calm0 calm1 is value sent =
      let q = neighbour size p d in
      subst (λ a. BringsDelivery (came_at (run (suc i) w) p d a) b) at_m
      (span_brings (run i w) (there i) p d (let e = nodes_there i in omega arith) back (let h = high_there i in omega arith) calm0 calm1
      (cut_same (suc i) p d ∙ is) b value
      (subst (λ ids. BringsDelivery (sent_at (run i w) (neighbour (length ids) p d) (opposite d) (back + 1)) b) (sym (left i).ids)
      (subst (λ a. BringsDelivery (sent_at (run i w) q (opposite d) a) b) (sym at_m) sent)))

  -- what comes after i rounds, s spans from the other end, where the port's own node is x spans ahead
  abbrev Comes : ℕ → Type 0
  Comes i = (s p x : ℕ) → 1 ≤ s → s ≤ i → p < size → going size d p s ≡ far → going size d p x ≡ near → s < x → x ≤ size → Calm s i
      → BringsDelivery (came_at (run i w) p d m) (either (way_clear size cut p d s) (sends_in sender ((run i w).ring.rounds - s)))

  -- what the node s spans from the other end sends on
  module _ (i p x s : ℕ) (earlier : Comes i) (h : p < size) (leads : going size d p (suc s) ≡ far) (ends : going size d p x ≡ near)
      (less : suc s < x) (most : x ≤ size) (few : s ≤ i) (calm : Calm (suc s) (suc i)) where
    abbrev q : ℕ
    q = neighbour size p d

    q_inside : q < size
    q_inside = neighbour_below size p d some

    ends_on : going size d q (x - 1) ≡ near
    ends_on = going-first size some d p (x - 1) ∙ ap (going size d p) (let e : suc (x - 1) ≡ x = omega arith in e) ∙ ends

    last_sends : s ≡ 0 → BringsDelivery (sent_at (run i w) q (opposite d) m)
        (either (way_clear size cut q d s) (sends_in sender ((run i w).ring.rounds - s)))
    last_sends none =
        let here : q ≡ far =
        sym (going-none size some d q q_inside) ∙ going-first size some d p 0 ∙ ap (λ k. going size d p (suc k)) (sym none) ∙ leads in
        subst (λ k. BringsDelivery (sent_at (run i w) q (opposite d) m)
        (either (way_clear size cut q d k) (sends_in sender ((run i w).ring.rounds - k)))) (sym none)
        (subst (λ k. BringsDelivery (sent_at (run i w) q (opposite d) m) (sends_in sender k))
        (let e : (run i w).ring.rounds ≡ (run i w).ring.rounds - 0 = omega arith in e)
        (subst (λ y. BringsDelivery (sent_at (run i w) y (opposite d) m) (sends_in sender ((run i w).ring.rounds))) (sym here) (far_sends i)))

    passed_on : 1 ≤ s → BringsDelivery (sent_at (run i w) q (opposite d) m)
        (either (way_clear size cut q d s) (sends_in sender ((run i w).ring.rounds - s)))
    passed_on more =
        let to : going size d q s ≡ far = going-first size some d p s ∙ leads in
        let not_far : q ≢ far = λ z. going-apart size some d q s q_inside (omega arith) (omega arith) (to ∙ sym z) in
        let not_near : q ≢ near = λ z. going-apart size some d q (x - 1) q_inside (omega arith) (omega arith) (ends_on ∙ sym z) in
        let is = neither q not_far not_near in
        subst (λ y. BringsDelivery y (either (way_clear size cut q d s) (sends_in sender ((run i w).ring.rounds - s))))
        (sym (passes i q q_inside is.0 is.1))
        (earlier s q (x - 1) more few q_inside to ends_on (omega arith) (omega arith) (λ j low late. calm j (omega arith) (omega arith)))

    neighbour_sends : BringsDelivery (sent_at (run i w) q (opposite d) m)
        (either (way_clear size cut q d s) (sends_in sender ((run i w).ring.rounds - s)))
    neighbour_sends = elim (cases_lt 0 s) [ inl more ↦ passed_on more | inr none ↦ last_sends (omega arith) ]

    comes_one : BringsDelivery (came_at (run (suc i) w) p d m) (either (way_clear size cut p d (suc s))
        (sends_in sender ((run (suc i) w).ring.rounds - suc s)))
    comes_one = elim (cases_Bool (cut p d)) [
      | inl is ↦ subst (λ b. BringsDelivery (came_at (run (suc i) w) p d m)
          (either (if b then false else way_clear size cut q d s) (sends_in sender ((run (suc i) w).ring.rounds - suc s)))) (sym is)
          (behind_cut (suc i) p (omega arith) h (calm (suc (suc i)) (omega arith) (omega arith)) is)
      | inr is ↦ subst (λ b. BringsDelivery (came_at (run (suc i) w) p d m)
          (either (if b then false else way_clear size cut q d s) (sends_in sender ((run (suc i) w).ring.rounds - suc s)))) (sym is)
          (subst (λ k. BringsDelivery (came_at (run (suc i) w) p d m) (either (way_clear size cut q d s) (sends_in sender k))) time
          (over_span i p (either (way_clear size cut q d s) (sends_in sender ((run i w).ring.rounds - s))) h
          (calm (suc i) (omega arith) (omega arith)) (calm (suc (suc i)) (omega arith) (omega arith)) is
          (either_value (way_clear size cut q d s) sender ((run i w).ring.rounds - s) small) neighbour_sends))
    ]
      where
        time : (run i w).ring.rounds - s ≡ (run (suc i) w).ring.rounds - suc s
        time = let a = (left i).rounds in let b = (left (suc i)).rounds in omega arith

  pub comes_along : (i : ℕ) → Comes i
  comes_along zero s p x some_spans few h leads ends less most calm = absurd (omega arith)
  comes_along (suc i) zero p x some_spans few h leads ends less most calm = absurd (omega arith)
  comes_along (suc i) (suc s) p x some_spans few h leads ends less most calm =
      comes_one i p x s (comes_along i) h leads ends less most (omega arith) calm
