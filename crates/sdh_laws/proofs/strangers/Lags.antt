-- How many rounds ago an AU-4 was put in: one for each span that it has come over. What goes round the ring does so once,
-- past one span of its arc at least.
use Rattle.std.proofs.Common.{◌≡◌, ℕ, zero, suc, ◌+◌, ◌-◌, ◌<◌, ◌≤◌, Bool, true, false, Option, Some, None, refl, ap, sym, ◌∙◌, subst, arith}
use Rattle.std.proofs.Common.{mod-lt}
use Rattle.std.specs.Prelude.{◌≢◌, List, length, nat_le}
use Rattle.std.specs.Option.{option_and_then}
use Rattle.std.proofs.lemmas.Bool.{le-leb, leb-true}
use Rattle.std.proofs.lemmas.Bool.Decides.{nat_tests}
use Rattle.sdh_frame.specs.Aus.{Au}
use Rattle.sdh_kbytes.specs.declared.K.{K}
use Rattle.sdh_ringmap.specs.Places.{opposite, neighbour, eastwards, found_at}
use Rattle.sdh_ringmap.specs.Steps.{going}
use Rattle.sdh_ringmap.specs.declared.Pos.{Pos}
use Rattle.sdh_ringmap.specs.declared.Side.{Side}
use Rattle.sdh_ringmap.specs.declared.Side.TheVariants.{West, East}
use Rattle.sdh_ringmap.proofs.Going.{reached, going-none, going-back, far_east, far_west}
use Rattle.sdh_circuits.specs.Provisioned.{Provisioned}
use Rattle.sdh_circuits.specs.declared.PortId.{PortId}
use Rattle.sdh_squelch.specs.declared.Row.{Row}
use Rattle.sdh_squelch.specs.Table.{OnSpan}
use Rattle.sdh_nodestate.specs.Rules.{long_word}
use Rattle.sdh_nodestate.specs.declared.NodeState.{NodeState}
use Rattle.sdh_nodestate.specs.declared.NodeState.TheVariants as state
use Rattle.sdh_laws.specs.Strangers.Transit.{IsTransit, straight, once_round}
use Rattle.sdh_laws.specs.Strangers.Vouched.{spoken_of}
use Rattle.sdh_laws.proofs.strangers.Content.{IsCarried}

-- the number of steps from one position to another towards a side, 0 to n - 1
abbrev pub steps : ℕ → Side → ℕ → ℕ → ℕ
steps n East p q = eastwards n p q
steps n West p q = eastwards n q p

module _ (n : ℕ) (some : 0 < n) where
  pub steps_few : (d : Side) (p q : ℕ) → steps n d p q < n
  steps_few East p q = mod-lt (q + (n - p)) some
  steps_few West p q = mod-lt (p + (n - q)) some

  pub steps_going : (d : Side) (p k : ℕ) → p < n → k < n → steps n d p (going n d p k) ≡ k
  steps_going East p k h few =
      let z : 0 + k ≡ k = omega arith in
      ap (λ q. eastwards n q (going n East p k)) (sym (going-none n some East p h))
      ∙ ap (λ j. eastwards n (going n East p 0) (going n East p j)) (sym z) ∙ far_east n some p 0 k few
  steps_going West p k h few =
      let z : 0 + k ≡ k = omega arith in
      ap (λ q. eastwards n (going n West p k) q) (sym (going-none n some West p h))
      ∙ ap (λ j. eastwards n (going n West p j) (going n West p 0)) (sym z) ∙ far_west n some p 0 k few

  pub steps_none : (d : Side) (x : ℕ) → x < n → steps n d x x ≡ 0
  steps_none d x h = ap (steps n d x) (sym (going-none n some d x h)) ∙ steps_going d x 0 h some

  next_by : (d : Side) (p q k : ℕ) → p < n → p ≢ q → going n d p k ≡ q → k < n
      → steps n d p q ≡ steps n d p (neighbour n q (opposite d)) + 1
  next_by d p q zero h other at few = absurd (other (sym (going-none n some d p h) ∙ at))
  next_by d p q (suc j) h other at few =
      let here : steps n d p q ≡ suc j = ap (steps n d p) (sym at) ∙ steps_going d p (suc j) h few in
      let before : steps n d p (neighbour n q (opposite d)) ≡ j =
      ap (λ x. steps n d p (neighbour n x (opposite d))) (sym at) ∙ ap (steps n d p) (going-back n some d p j)
      ∙ steps_going d p j h (omega arith) in
      omega arith

  -- a position is a step farther than the one before it
  pub steps_next : (d : Side) (p q : ℕ) → p < n → q < n → p ≢ q → steps n d p q ≡ steps n d p (neighbour n q (opposite d)) + 1
  steps_next d p q h g other = (let r = reached n some d p q h g in next_by d p q r.steps h other r.there r.few)

-- ---- lags

-- How many rounds ago an AU-4 was put in. It is at a place of its arc, that many spans after its port.
pub data Lag : Type 0 where
  -- it has come straight over so many spans
  exactly : (spans : ℕ) → Lag
  -- it has come straight to this place, or once round a ring of n
  or_round : (n spans : ℕ) → Lag

-- after one span more
abbrev pub next_lag : Lag → Lag
next_lag (exactly spans) = exactly (spans + 1)
next_lag (or_round n spans) = or_round n (spans + 1)

-- an AU-4 with this lag was put in so many rounds ago
abbrev pub IsLag : Lag → ℕ → Type 0
IsLag (exactly spans) rounds = rounds ≡ spans
IsLag (or_round n spans) rounds = IsTransit n spans rounds

-- what has the first lag has the second one
pub data Fits (i j : Lag) : Type 0 where
  same : i ≡ j → Fits i j
  loosely : (n spans : ℕ) → i ≡ exactly spans → j ≡ or_round n spans → Fits i j

-- where the stream comes from that goes to a side along the arc of what is on a span: where its port is
abbrev pub start_of : Side → Row → ℕ
start_of East r = r.from.0
start_of West r = r.to.0

-- the number of spans of the arc between that port and a position
abbrev pub place_on : ℕ → Side → Option OnSpan → ℕ → ℕ
place_on n d None p = 0
place_on n d (Some r) p = steps n d (start_of d r) p

-- at a place, straight or possibly once round
abbrev pub lag_if : ℕ → Bool → ℕ → Lag
lag_if n true spans = or_round n spans
lag_if n false spans = exactly spans

-- The lag of a working AU-4 that the node at p sends on side d, where o is on the span there, and the word beside the
-- AU-4 has its source at g. The AU-4 has come straight where the source is farther along the arc than p. Otherwise it
-- may have gone round the ring once.
abbrev pub working_lag : ℕ → Side → Option OnSpan → Option Pos → ℕ → Lag
working_lag n d o None p = or_round n (place_on n d o p)
working_lag n d o (Some g) p = lag_if n (nat_le (place_on n d o g.0) (place_on n d o p)) (place_on n d o p)

-- i where the node takes what stands for the arrival from a side from the working slot, and j where it takes it from
-- protection
abbrev pub by_slot : NodeState → Side → Lag → Lag → Lag
by_slot (state.Isolated x) d i j = i
by_slot (state.PassThrough x) d i j = i
by_slot (state.Idle x) d i j = i
by_slot (state.SwitchWest f) West i j = j
by_slot (state.SwitchWest f) East i j = i
by_slot (state.SwitchEast f) West i j = i
by_slot (state.SwitchEast f) East i j = j

-- The lag of what stands for the working arrival from side d at a node in this state, where q is the neighbour there, o
-- is on the span between them, and the word that came with the arrival has its source at g. What is taken from
-- protection has gone round the ring.
abbrev pub stand_lag : ℕ → Side → Option OnSpan → Option Pos → ℕ → NodeState → Lag
stand_lag n d o g q x =
    by_slot x d (next_lag (working_lag n (opposite d) o g q)) (or_round n (place_on n (opposite d) o q + 1))

-- How many rounds ago a protection AU-4 was put in that the node at p sends on the side opposite to d. The word beside
-- it has its source at g and speaks of circuit o. The AU-4 has come straight to g, and then as many spans as there are
-- from g to p. It is 0 where the ring has no such source.
abbrev pub protection_rounds : ℕ → Side → Option OnSpan → Option Pos → ℕ → ℕ
protection_rounds n d o None p = 0
protection_rounds n d o (Some g) p = place_on n d o g.0 + steps n (opposite d) g.0 p

-- the source of a long word that asks, where it is in the ring
abbrev pub source_in : List ℕ → K → Option Pos
source_in ids k = option_and_then (λ (k : K). found_at ids k.from) (long_word k)

-- the lag of a protection AU-4 under this word, which says what is in slot m
abbrev pub spoken_lag : List ℕ → List Provisioned → ℕ → Side → K → ℕ → Lag
spoken_lag ids cs m d k p = exactly (protection_rounds (length ids) d (spoken_of ids cs m d k) (source_in ids k) p)

-- ---- which lags fit

if_straight : (n : ℕ) (b : Bool) (spans : ℕ) → Fits (exactly spans) (lag_if n b spans)
if_straight n true spans = loosely n spans refl refl
if_straight n false spans = same refl

if_round : (n : ℕ) (b : Bool) (spans : ℕ) → Fits (lag_if n b spans) (or_round n spans)
if_round n true spans = same refl
if_round n false spans = loosely n spans refl refl

if_next : (n : ℕ) (a b : Bool) (spans : ℕ) → ((a ≡ true) → b ≡ true) → Fits (next_lag (lag_if n a spans)) (lag_if n b (spans + 1))
if_next n true b spans h = same (ap (λ x. lag_if n x (spans + 1)) (sym (h refl)))
if_next n false b spans h = if_straight n b (spans + 1)

-- what has come straight is no exception
pub straight_fits : (n : ℕ) (d : Side) (o : Option OnSpan) (g : Option Pos) (p : ℕ) → Fits (exactly (place_on n d o p)) (working_lag n d o g p)
straight_fits n d o None p = loosely n (place_on n d o p) refl refl
straight_fits n d o (Some g) p = if_straight n (nat_le (place_on n d o g.0) (place_on n d o p)) (place_on n d o p)

-- nothing goes round twice
pub working_fits : (n : ℕ) (d : Side) (o : Option OnSpan) (g : Option Pos) (p : ℕ) → Fits (working_lag n d o g p) (or_round n (place_on n d o p))
working_fits n d o None p = same refl
working_fits n d o (Some g) p = if_round n (nat_le (place_on n d o g.0) (place_on n d o p)) (place_on n d o p)

pub next_fits : (i j : Lag) → Fits i j → Fits (next_lag i) (next_lag j)
next_fits i j (same e) = same (ap next_lag e)
next_fits i j (loosely n spans a b) = loosely n (spans + 1) (ap next_lag a) (ap next_lag b)

-- with a word from behind an AU-4 may have gone round
pub lag_behind : (n : ℕ) (d : Side) (o : Option OnSpan) (g : Pos) (p : ℕ) → place_on n d o g.0 ≤ place_on n d o p
    → working_lag n d o (Some g) p ≡ or_round n (place_on n d o p)
lag_behind n d o g p less =
    ap (λ b. lag_if n b (place_on n d o p)) (le-leb (place_on n d o g.0) (place_on n d o p) less)

-- with a word from ahead it has come straight
pub lag_ahead : (n : ℕ) (d : Side) (o : Option OnSpan) (g : Pos) (p : ℕ) → place_on n d o p < place_on n d o g.0
    → working_lag n d o (Some g) p ≡ exactly (place_on n d o p)
lag_ahead n d o g p less =
    ap (λ b. lag_if n b (place_on n d o p))
    (let b : nat_le (place_on n d o g.0) (place_on n d o p) ≡ false = grind (arith, nat_tests) in b)

-- what passed on with its word, over a span from q to p, may have gone round where it may have before
pub lag_on : (n : ℕ) (d : Side) (o : Option OnSpan) (g : Pos) (p q : ℕ) → place_on n d o p ≡ place_on n d o q + 1
    → Fits (next_lag (working_lag n d o (Some g) q)) (working_lag n d o (Some g) p)
lag_on n d o g p q farther =
    subst (λ i. Fits (next_lag (working_lag n d o (Some g) q)) (lag_if n (nat_le (place_on n d o g.0) i) i)) (sym farther)
    (if_next n (nat_le (place_on n d o g.0) (place_on n d o q)) (nat_le (place_on n d o g.0) (place_on n d o q + 1)) (place_on n d o q)
    (λ h. (let low = leb-true (place_on n d o g.0) (place_on n d o q) h in
    le-leb (place_on n d o g.0) (place_on n d o q + 1) (omega arith))))

pub by_slot_fits : (x : NodeState) (d : Side) (i j k : Lag) → Fits i k → Fits j k → Fits (by_slot x d i j) k
by_slot_fits (state.Isolated x) d i j k a b = a
by_slot_fits (state.PassThrough x) d i j k a b = a
by_slot_fits (state.Idle x) d i j k a b = a
by_slot_fits (state.SwitchWest f) West i j k a b = b
by_slot_fits (state.SwitchWest f) East i j k a b = a
by_slot_fits (state.SwitchEast f) West i j k a b = a
by_slot_fits (state.SwitchEast f) East i j k a b = b

-- whatever stands for an arrival has gone round once at most
pub stand_fits : (n : ℕ) (d : Side) (o : Option OnSpan) (g : Option Pos) (q : ℕ) (x : NodeState)
    → Fits (stand_lag n d o g q x) (or_round n (place_on n (opposite d) o q + 1))
stand_fits n d o g q x =
    by_slot_fits x d (next_lag (working_lag n (opposite d) o g q)) (or_round n (place_on n (opposite d) o q + 1))
    (or_round n (place_on n (opposite d) o q + 1))
    (next_fits (working_lag n (opposite d) o g q) (or_round n (place_on n (opposite d) o q)) (working_fits n (opposite d) o g q)) (same refl)

-- ---- how many rounds a lag is

-- one more after a span
pub next_is : (i : Lag) (rounds : ℕ) → IsLag i rounds → IsLag (next_lag i) (rounds + 1)
next_is (exactly spans) rounds is = omega (arith, is)
next_is (or_round n spans) rounds (straight is) = straight (omega (arith, is))
next_is (or_round n spans) rounds (once_round past some few is) =
    once_round past some (omega (arith, few)) (omega (arith, few, is))

pub fits_is : (i j : Lag) (rounds : ℕ) → Fits i j → IsLag i rounds → IsLag j rounds
fits_is i j rounds (same e) is = subst (λ k. IsLag k rounds) e is
fits_is i j rounds (loosely n spans a b) is =
    let at : rounds ≡ spans = subst (λ k. IsLag k rounds) a is in
    subst (λ k. IsLag k rounds) (sym b) (straight at)

-- every lag is some number of rounds
pub spans_of : Lag → ℕ
spans_of (exactly spans) = spans
spans_of (or_round n spans) = spans

pub is_some : (i : Lag) → IsLag i (spans_of i)
unfolding spans_of
is_some (exactly spans) = refl
is_some (or_round n spans) = straight refl

-- ---- what holds of lagging AU-4s, before a round and after it

pub record AreLags (Was Own : Lag → Option PortId → Au → Type 0) : Type 0 where
  pub was : (i : Lag) → IsCarried (Was i)
  pub own : (i : Lag) → IsCarried (Own i)
  -- what held before the round holds after it of what has come over one span more
  pub later : (i : Lag) (q : Option PortId) (a : Au) → Was i q a → Own (next_lag i) q a
  -- what came straight has gone round a ring of n, past some spans of its arc, to this place
  pub round : (n spans past i : ℕ) (q : Option PortId) (a : Au) → 1 ≤ past → past ≤ spans → i + 1 ≡ (spans - past) + (n - past)
      → Was (exactly i) q a → Own (or_round n spans) q a
  pub fitting : (i j : Lag) (q : Option PortId) (a : Au) → Fits i j → Own i q a → Own j q a
