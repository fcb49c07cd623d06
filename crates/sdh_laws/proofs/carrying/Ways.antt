-- What an origin brings, span after span.
use Rattle.std.proofs.Common.{◌≡◌, ℕ, zero, suc, ◌+◌, ◌-◌, ◌<◌, ◌≤◌, false, List, length, refl, ap, sym, ◌∙◌, subst, arith, inl, inr}
use Rattle.std.specs.Prelude.{true}
use Rattle.std.proofs.lemmas.Bool.{cases_Bool}
use Rattle.sdh_ringmap.specs.Rates.{n_of}
use Rattle.sdh_ringmap.specs.Places.{opposite, neighbour, span_at}
use Rattle.sdh_ringmap.specs.declared.Side.{Side}
use Rattle.sdh_bridge.specs.declared.Origin.{Origin}
use Rattle.sdh_bridge.specs.declared.Origin.TheVariants.{Add, Working, Protection, Ais}
use Rattle.sdh_restoration.specs.Applied.{is_applied}
use Rattle.sdh_signal.specs.Settled.{settled}
use Rattle.sdh_payload.specs.Outlet.{Outlet}
use Rattle.sdh_signal.specs.Walks.{IsArrival, back_from}
use Rattle.sdh_signal.specs.Law.{IsFree}
use Rattle.sdh_terminal.specs.Lines.{received}
use Rattle.sdh_node.specs.Crossing.{is_failed}
use Rattle.sdh_node.specs.Node.{receiving_on}
use Rattle.sdh_node.specs.Rings.Rounds.{World, round}
use Rattle.sdh_node.specs.Rings.Runs.{run}
use Rattle.sdh_node.specs.Rings.Quiet.{is_calm}
use Rattle.sdh_laws.specs.Hearing.Signalling.{lines_at}
use Rattle.sdh_laws.specs.Hearing.Laws.{IsWhole}
use Rattle.sdh_laws.proofs.hearing.Nodes.{count}
use Rattle.sdh_laws.proofs.hearing.Rounds.{neighbour_inside, whole_round}
use Rattle.sdh_laws.proofs.hearing.Changes.{whole_run}
use Rattle.sdh_signal.proofs.Ways.{IsKeptOver}
use Rattle.sdh_spans.specs.Brought.{BringsDelivery, HasValue}
use Rattle.sdh_laws.specs.Carrying.Windows.{Layout, layout_of, positions_of, slots_of, value_at, sent_at, AreSettled, FailOnApplied, IsQuiet}
use Rattle.sdh_laws.proofs.carrying.Connections.{BringsProtection, SendsWorking, SendsProtection, sends_working, sends_protection}
use Rattle.sdh_laws.proofs.carrying.Connections.{brings_protection}
use Rattle.sdh_laws.proofs.carrying.Spans.{span}
use Rattle.sdh_laws.proofs.carrying.Clocks.{form_there, goes_plain}
use Rattle.sdh_circuits.specs.declared.PortId.{PortId}
use Rattle.sdh_payload.specs.declared.chunk.ChunkForm.TheVariants.{Plain}
use Rattle.sdh_node.specs.Rings.Held.{node_at}
use Rattle.sdh_rounds.specs.Rounds as any_round
use Rattle.sdh_rounds.specs.Runs as any_run
use Rattle.sdh_rounds.proofs.Terms.{terms}

-- on a span that isn't applied no side failed
works_on_free : (n : ℕ) (rs : List ℕ) (w : World) → FailOnApplied n rs w → (p : ℕ) (d : Side) → p < n
    → is_applied rs (span_at n p d) ≡ false → is_failed (receiving_on d (node_at w.ring.nodes p)).local.defect ≡ false
works_on_free n rs w failing p d lt free = elim (cases_Bool (is_failed (receiving_on d (node_at w.ring.nodes p)).local.defect)) [
  | inl t ↦ absurd (let e = failing p d lt t in cc)
  | inr f ↦ f
]

pub layout_round : (w : World) → layout_of (round w) ≡ layout_of w
unfolding any_round.round any_round.round_with
layout_round w = refl

pub layout_run : (w : World) (k : ℕ) → layout_of (run k w) ≡ layout_of w
unfolding any_run.run
layout_run w zero = refl
layout_run w (suc k) = layout_round (run k w) ∙ layout_run w k

-- what is kept over one span from the round that begins with v to the next one, in a ring of this layout
abbrev pub Over : Layout → World → List ℕ → ℕ → Outlet → Type 0
Over l v rs m b = AreSettled (positions_of l) rs (round v) → FailOnApplied (positions_of l) rs (round (round v)) → m ≤ slots_of l
    → (p : ℕ) (o : Origin) → p < positions_of l → IsArrival o → IsFree (positions_of l) (is_applied rs) p o
    → (let z = back_from (positions_of l) (settled rs) l.circuits m p o in BringsDelivery (value_at v z.at m z.origin) b
    → BringsDelivery (value_at (round v) p m o) b)

module _ (v : World) (whole : IsWhole v) (calm0 : is_calm (round v).ring.nodes ≡ true) (calm1 : is_calm (round (round v)).ring.nodes ≡ true)
    (rs : List ℕ) (m : ℕ) (low : 1 ≤ m) (b : Outlet) (small : HasValue b) where
  open terms v use {n}

  over : (d : Side) (p au : ℕ) → FailOnApplied n rs (round (round v)) → p < n → 1 ≤ au → au ≤ n_of v.ring.settings.rate
      → is_applied rs (span_at n p d) ≡ false
      → BringsDelivery (sent_at v (neighbour n p d) (opposite d) au) b → BringsDelivery (received (lines_at (round v) p) d au) b
  over d p au failing lt some few free =
      span v whole calm0 calm1 p d au b lt some few small (works_on_free n rs (round (round v)) failing p d lt free)

  pub one_span : Over (layout_of v) v rs m b
  one_span states failing few p Ais lt a f is = absurd a
  one_span states failing few p (Add q) lt a f is = absurd a
  one_span states failing few p (Working d) lt a f is =
      let q = neighbour n p d in
      let below : q < n = omega (arith, count v whole.placed, neighbour_inside v whole p d) in
      over d p m failing lt low (omega arith) f (subst (λ i. BringsDelivery i b)
      (sym (sends_working v whole q m (opposite d) (settled rs q) below few (states q below))) is)
  one_span states failing few p (Protection d) lt a f is =
      let q = neighbour n p d in
      let below : q < n = omega (arith, count v whole.placed, neighbour_inside v whole p d) in
      let comes : value_at (round v) p m (Protection d) ≡ received (lines_at (round v) p) d (slots_of (layout_of v) + m) =
      subst (λ l. BringsProtection l (round v)) (layout_round v) (brings_protection (round v) (whole_round v whole)) p m d lt in
      subst (λ i. BringsDelivery i b) (sym comes)
      (over d p (slots_of (layout_of v) + m) failing lt (omega arith) (omega arith) f
      (subst (λ i. BringsDelivery i b) (sym (sends_protection v whole q m (opposite d) (settled rs q) below low (states q below))) is))

-- a port from which what comes over a span was sent justifies nothing in a round between two in settled states, the
-- second of them calm
abbrev GoesPlain : Layout → World → List ℕ → ℕ → Type 0
GoesPlain l v rs m =
    AreSettled (positions_of l) rs (round v) → AreSettled (positions_of l) rs (round (round v)) → m ≤ slots_of l → (p : ℕ) (o : Origin)
    → p < positions_of l → IsArrival o
    → (let z = back_from (positions_of l) (settled rs) l.circuits m p o in (id : PortId) → z.origin ≡ Add id
    → form_there (round v) z.at id ≡ Plain)

module _ (v : World) (whole : IsWhole v) (calm : is_calm (round (round v)).ring.nodes ≡ true) (rs : List ℕ) (m : ℕ) (low : 1 ≤ m) where
  abbrev l : Layout
  l = layout_of v

  below : (p : ℕ) (d : Side) → neighbour (positions_of l) p d < positions_of l
  below p d = omega (arith, count v whole.placed, neighbour_inside v whole p d)

  one_port : GoesPlain l v rs m
  one_port now next few p Ais lt a id e = absurd a
  one_port now next few p (Add q) lt a id e = absurd a
  one_port now next few p (Working d) lt a id e =
      let q = neighbour (positions_of l) p d in
      let o = opposite d in
      let inside = below p d in
      let later : SendsWorking l (round v) =
      subst (λ x. SendsWorking x (round v)) (layout_round v) (sends_working (round v) (whole_round v whole)) in
      goes_plain v whole q o m m id (omega (arith, count v whole.placed, inside)) low (omega (arith, few))
      (sends_working v whole q m o (settled rs q) inside few (now q inside) ∙ ap (value_at v q m) e)
      (later q m o (settled rs q) inside few (next q inside) ∙ ap (value_at (round v) q m) e) calm
  one_port now next few p (Protection d) lt a id e =
      let q = neighbour (positions_of l) p d in
      let o = opposite d in
      let inside = below p d in
      let later : SendsProtection l (round v) =
      subst (λ x. SendsProtection x (round v)) (layout_round v) (sends_protection (round v) (whole_round v whole)) in
      goes_plain v whole q o (slots_of l + m) m id (omega (arith, count v whole.placed, inside)) (omega (arith, low)) (omega (arith, few))
      (sends_protection v whole q m o (settled rs q) inside low (now q inside) ∙ ap (value_at v q m) e)
      (later q m o (settled rs q) inside low (next q inside) ∙ ap (value_at (round v) q m) e) calm

-- over the spans of a quiet ring; round t begins after t rounds
module _ (w : World) (whole : IsWhole w) (rs : List ℕ) (first last : ℕ) (quiet : IsQuiet (length w.ring.ids) rs w (suc first) (suc last))
    (m : ℕ) (low : 1 ≤ m) (few : m ≤ slots_of (layout_of w)) (b : Outlet) (small : HasValue b) where
  abbrev pub brings_in : ℕ → ℕ → Origin → Type 0
  brings_in t p o = BringsDelivery (value_at (run t w) p m o) b

  over_at : (t : ℕ) → suc first ≤ suc t → suc (suc t) ≤ suc last → Over (layout_of w) (run t w) rs m b
  unfolding any_run.run
  over_at t early late =
      subst (λ (l : Layout). Over l (run t w) rs m b) (layout_run w t)
      (one_span (run t w) (whole_run w t whole) (quiet.calm (suc t) early (omega arith))
      (quiet.calm (suc (suc t)) (omega arith) late) rs m low b small)

  kept_at : (t p : ℕ) (o : Origin) → p < length w.ring.ids → IsArrival o → IsFree (length w.ring.ids) (is_applied rs) p o → first ≤ t
      → t < last
      → (let z = back_from (length w.ring.ids) (settled rs) w.ring.circuits.circuits m p o in brings_in t z.at z.origin
      → brings_in (suc t) p o)
  unfolding any_run.run
  kept_at t p o lt a f early late =
      over_at t (omega arith) (omega arith) (quiet.settled_are (suc t) (omega arith) (omega arith))
      (quiet.failing (suc (suc t)) (omega arith) (omega arith)) few p o lt a f

  pub kept_over : IsKeptOver (length w.ring.ids) (is_applied rs) (settled rs) w.ring.circuits.circuits m brings_in first last
  kept_over t p o lt a f early late is =
      let same : suc t ≡ t + 1 = omega arith in
      subst (λ s. brings_in s p o) same (kept_at t p o lt a f early late is)

  -- ---- the same from a port on, where that is known of it only in rounds in which it sends 2349 bytes

  abbrev pub comes_in : ℕ → ℕ → Origin → Type 0
  comes_in t p (Add id) = form_there (run t w) p id ≡ Plain → brings_in t p (Add id)
  comes_in t p (Working d) = brings_in t p (Working d)
  comes_in t p (Protection d) = brings_in t p (Protection d)
  comes_in t p Ais = brings_in t p Ais

  pub from_comes : (t q : ℕ) (o : Origin) → ((id : PortId) → o ≡ Add id → form_there (run t w) q id ≡ Plain) → comes_in t q o
      → brings_in t q o
  from_comes t q (Add id) plain is = is (plain id refl)
  from_comes t q (Working d) plain is = is
  from_comes t q (Protection d) plain is = is
  from_comes t q Ais plain is = is

  to_comes : (t p : ℕ) (o : Origin) → IsArrival o → brings_in t p o → comes_in t p o
  to_comes t p Ais a is = absurd a
  to_comes t p (Add id) a is = absurd a
  to_comes t p (Working d) a is = is
  to_comes t p (Protection d) a is = is

  -- a port that fills a working or a protection AU-4 in round t + 1, in settled states, does so in the round before
  plain_at : (t : ℕ) → first ≤ t → suc t < last → (p : ℕ) (o : Origin) → p < length w.ring.ids → IsArrival o
      → (let z = back_from (length w.ring.ids) (settled rs) w.ring.circuits.circuits m p o in (id : PortId) → z.origin ≡ Add id
      → form_there (run (suc t) w) z.at id ≡ Plain)
  unfolding any_run.run
  plain_at t early late =
      subst (λ x. GoesPlain x (run t w) rs m) (layout_run w t)
      (one_port (run t w) (whole_run w t whole) (quiet.calm (suc (suc t)) (omega arith) (omega arith)) rs m low)
      (quiet.settled_are (suc t) (omega arith) (omega arith)) (quiet.settled_are (suc (suc t)) (omega arith) (omega arith)) few

  kept_later : (t p : ℕ) (o : Origin) → p < length w.ring.ids → IsArrival o → IsFree (length w.ring.ids) (is_applied rs) p o → first ≤ t
      → suc t < last
      → (let z = back_from (length w.ring.ids) (settled rs) w.ring.circuits.circuits m p o in comes_in (suc t) z.at z.origin
      → comes_in (suc (suc t)) p o)
  kept_later t p o lt a f early late is =
      let z = back_from (length w.ring.ids) (settled rs) w.ring.circuits.circuits m p o in
      to_comes (suc (suc t)) p o a (kept_at (suc t) p o lt a f (omega arith) late
      (from_comes (suc t) z.at z.origin (plain_at t early late p o lt a) is))

  pub comes_over : IsKeptOver (length w.ring.ids) (is_applied rs) (settled rs) w.ring.circuits.circuits m comes_in (suc first) last
  comes_over t p o lt a f early late is =
      let one : suc (t - 1) ≡ t = omega arith in
      let same : suc (suc (t - 1)) ≡ t + 1 = omega arith in
      let z = back_from (length w.ring.ids) (settled rs) w.ring.circuits.circuits m p o in
      subst (λ s. comes_in s p o) same (kept_later (t - 1) p o lt a f (omega arith) (omega arith)
      (subst (λ s. comes_in s z.at z.origin) (sym one) is))
