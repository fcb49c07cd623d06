-- A ring comes to be vouched for, whatever it carried: once no controller misses a turn, each AU-4 holds just what its
-- port put in as many rounds ago as it lags, as soon as these are over. So ports deliver what was sent one transit ago.
use Rattle.std.proofs.Common.{◌≡◌, ℕ, ◌+◌, ◌-◌, ◌*◌, ◌<◌, ◌≤◌, true, false, List, length, Option, Some, None, refl, sym, ◌∙◌, subst, arith}
use Rattle.std.proofs.Common.{inl, inr, ◌⊎◌}
use Rattle.std.specs.Prelude.{slice_get, position, ◌==◌}
use Rattle.std.specs.Option.{option_and_then}
use Rattle.std.proofs.lemmas.Bool.{cases_lt}
use Rattle.sdh_frame.specs.Aus.{Au, ones}
use Rattle.sdh_kbytes.specs.declared.K.{K}
use Rattle.sdh_ringmap.specs.Places.{opposite, neighbour, found_at}
use Rattle.sdh_ringmap.specs.declared.Pos.{Pos}
use Rattle.sdh_ringmap.specs.declared.Side.{Side}
use Rattle.sdh_ringmap.specs.declared.Side.TheVariants.{East}
use Rattle.sdh_circuits.specs.Provisioned.{Provisioned, arc_of, customer_at}
use Rattle.sdh_circuits.specs.declared.End.{End}
use Rattle.sdh_circuits.specs.declared.PortId.{PortId}
use Rattle.sdh_circuits.specs.Ends.{inward, port_id}
use Rattle.sdh_squelch.specs.Table.{circuits_at}
use Rattle.sdh_squelch.proofs.LookUps.{entry}
use Rattle.sdh_nodestate.specs.Rules.{long_word}
use Rattle.sdh_payload.specs.Clock.{Clock}
use Rattle.sdh_payload.specs.Outlet.{Outlet}
use Rattle.sdh_pointer.specs.declared.word.Form.{Form}
use Rattle.sdh_terminal.specs.Passing.{au_with}
use Rattle.sdh_node.specs.Node.{is_held, last_word_on}
use Rattle.sdh_node.specs.Rings.Held.{node_at, AtEach, outlet_at}
use Rattle.sdh_node.specs.Rings.Rounds.{World, round}
use Rattle.sdh_rounds.specs.Rounds as any_round
use Rattle.sdh_rounds.proofs.Terms.{terms}
use Rattle.sdh_node.specs.Rings.Sides.{world_in}
use Rattle.sdh_node.specs.Rings.Laws.{IsChangeOf, MayHappen}
use Rattle.sdh_restoration.specs.Changes.{Change, Stretch, rounds_in}
use Rattle.sdh_restoration.specs.Changes.{Fibre, Order, Hold, Slip, Now}
use Rattle.sdh_node.specs.Rings.Changes.{changed}
use Rattle.sdh_laws.specs.Hearing.Laws.{IsWhole}
use Rattle.sdh_laws.specs.Hearing.Signalling.{word_to}
use Rattle.sdh_laws.proofs.hearing.Nodes.{count}
use Rattle.sdh_laws.proofs.hearing.Rounds.{whole_round}
use Rattle.sdh_laws.proofs.hearing.Changes.{whole_changed}
use Rattle.sdh_laws.specs.Carrying.Windows.{layout_of, slots_of, HasCircuits, value_at}
use Rattle.sdh_signal.specs.Walks.{stands_in, port_at}
use Rattle.sdh_signal.proofs.Views.{AreOnRing, on-ring, arc_length}
use Rattle.sdh_signal.proofs.OnArcs.{seen-on}
use Rattle.sdh_laws.specs.Strangers.Owners.{put_by, HasBytesOf, AreClocksOf}
use Rattle.sdh_laws.specs.Strangers.Owners as owner
use Rattle.sdh_laws.specs.Strangers.Transit.{IsTransit, straight, once_round, HoldsAfterTransit, ComesAfterTransit, AllComeAfterTransit}
use Rattle.sdh_laws.specs.Strangers.Transit as transit_of
use Rattle.sdh_laws.specs.Strangers.Vouched.{streams_to, circuit_on_side, HoldsAtMost, IsVouched}
use Rattle.sdh_laws.specs.Strangers.Laws.{HoldsNone, NoneHolds}
use Rattle.sdh_laws.proofs.strangers.Content.{IsCarried, Fine}
use Rattle.sdh_laws.proofs.strangers.Lags.{steps_few, Lag, or_round, IsLag, place_on, working_lag, stand_lag, protection_rounds, source_in}
use Rattle.sdh_laws.proofs.strangers.Lags.{spoken_lag, working_fits, stand_fits, next_is, fits_is, spans_of, is_some, AreLags}
use Rattle.sdh_laws.proofs.strangers.Rules.{found_inside}
use Rattle.sdh_laws.proofs.strangers.Nodes.{place_short, at_port, last_place}
use Rattle.sdh_laws.proofs.strangers.Worlds.{Vouches, vouched_round, delivers_fine}
use Rattle.sdh_laws.proofs.strangers.Vouched.{own_bytes, bytes_with, vouches_changed, held_changed, vouched_by, none_held, adds_put}
use Rattle.sdh_laws.proofs.strangers.Vouched.{Delivers, silence_comes, chunk_comes, delivers}
use Rattle.sdh_laws.proofs.strangers.Keeping.{kept_in, none_in}
use Rattle.sdh_laws.proofs.hearing.Steady.{one_less}

-- ---- every lag is over after 2n - 2 rounds

-- the source of a word is in the ring
source_inside : (ids : List ℕ) (k : K) (g : Pos) → source_in ids k ≡ Some g → g.0 < length ids
source_inside ids k g h = by (long_word k) h
  where
    by : (o : Option K) → option_and_then (λ (k : K). found_at ids k.from) o ≡ Some g → g.0 < length ids
    by None z = absurd (no z)
      where
        no : None ≡ Some g → ⊥
        no z = cc
    by (Some k) z = found_inside ids k.from g (position (λ x. x == k.from) ids) refl z

-- bytes that are a transit old over a part of an arc, which has n - 1 spans at most, were put in that few rounds ago
pub transit_few : (n spans rounds : ℕ) → 2 ≤ n → spans < n → IsTransit n spans rounds → rounds + 3 ≤ 2 * n
transit_few n spans rounds two short (straight is) = omega arith
transit_few n spans rounds two short (once_round past some few is) = omega arith

-- and one round ago at least
pub transit_some : (n spans rounds : ℕ) → 1 ≤ spans → spans < n → IsTransit n spans rounds → 1 ≤ rounds
transit_some n spans rounds long short (straight is) = omega arith
transit_some n spans rounds long short (once_round past some few is) = omega arith

module _ (n : ℕ) (cs : List Provisioned) (ring : AreOnRing n cs) (two : 2 ≤ n) (m : ℕ) where
  pub working_over : (d : Side) (g : Option Pos) (p rounds : ℕ) → p < n → IsLag (working_lag n d (circuits_at n cs p m d) g p) rounds
      → rounds < 2 * n - 2
  working_over d g p rounds h is =
      let o = circuits_at n cs p m d in
      let place = place_short n cs ring p m h two d o refl in
      let few =
      transit_few n (place_on n d o p) rounds two (omega arith)
      (fits_is (working_lag n d o g p) (or_round n (place_on n d o p)) rounds (working_fits n d o g p) is) in
      omega arith

module _ (ids : List ℕ) (cs : List Provisioned) (ring : AreOnRing (length ids) cs) (two : 2 ≤ length ids) (m : ℕ) where
  pub protection_over : (d : Side) (g : Option Pos) (p : ℕ) → ((f : Pos) → g ≡ Some f → f.0 < length ids)
      → protection_rounds (length ids) d (circuit_on_side ids cs m d g) g p < 2 * length ids - 2
  protection_over d None p low = omega arith
  protection_over d (Some g) p low =
      let h = low g refl in
      let place = place_short (length ids) cs ring g.0 m h two d (circuits_at (length ids) cs g.0 m d) refl in
      let few = steps_few (length ids) (omega arith) (opposite d) g.0 p in
      omega arith

pub arc_is : (n : ℕ) (c : Provisioned) → arc_length n c ≡ (arc_of n c).spans
unfolding arc_length
arc_is n c = refl

-- no turn is missed
turns : (w : World) → AtEach (λ p n. n.held ≤ 0) w.ring.nodes → (p : ℕ) → p < length w.ring.nodes → is_held (node_at w.ring.nodes p) ≡ true
    → ⊥
turns w free p h held = no (sym (none_held w free p h) ∙ held)
  where
    no : false ≡ true → ⊥
    no z = cc

-- ---- what an AU-4 holds that was put in so many rounds ago

module _ (clocks : PortId → ℕ → Clock) (cs : List Provisioned) where
  -- before round t a frame is under way whose AU-4 holds ones, or what this port put into its AU-4 so many rounds before
  -- the frame was sent
  pub data HoldsPut (t rounds : ℕ) (q : PortId) (a : Au) : Type 0 where
    blanks : HasBytesOf ones a → HoldsPut t rounds q a
    put_then : (c : Provisioned) (r : ℕ) → slice_get cs q.circuit ≡ Some c → r + rounds + 1 ≡ t
        → HasBytesOf (put_by (customer_at c q.end) (clocks q r)) a → HoldsPut t rounds q a

  abbrev pub Put : ℕ → ℕ → Option PortId → Au → Type 0
  Put t rounds None a = HasBytesOf ones a
  Put t rounds (Some q) a = HoldsPut t rounds q a

  blank_put : (t rounds : ℕ) (q : Option PortId) → Put t rounds q ones
  blank_put t rounds None = own_bytes ones ones refl
  blank_put t rounds (Some q) = blanks (own_bytes ones ones refl)

  passed_put : (t rounds : ℕ) (q : Option PortId) (f : Form) (w : ℕ) (a : Au) → Put t rounds q a → Put t rounds q (au_with f w a)
  passed_put t rounds None f w a h = bytes_with f w ones a h
  passed_put t rounds (Some q) f w a (blanks h) = blanks (bytes_with f w ones a h)
  passed_put t rounds (Some q) f w a (put_then c r get then h) =
      put_then c r get then (bytes_with f w (put_by (customer_at c q.end) (clocks q r)) a h)

  later_put : (t rounds : ℕ) (q : Option PortId) (a : Au) → Put t rounds q a → Put (t + 1) (rounds + 1) q a
  later_put t rounds None a h = h
  later_put t rounds (Some q) a (blanks h) = blanks h
  later_put t rounds (Some q) a (put_then c r get then h) = put_then c r get (omega (arith, then)) h

  pub put_at_most : (t rounds : ℕ) (q : Option PortId) (a : Au) → Put t rounds q a → HoldsAtMost cs clocks t q a
  put_at_most t rounds None a h = h
  put_at_most t rounds (Some q) a (blanks h) = owner.nobodys h
  put_at_most t rounds (Some q) a (put_then c r get then h) = owner.customers c r get (omega (arith, then)) h

  -- an AU-4 with this lag holds what was put in that many rounds ago, if these are fewer than s
  pub record Cleared (t s : ℕ) (i : Lag) (q : Option PortId) (a : Au) : Type 0 where
    pub rounds : ℕ
    pub lag : IsLag i rounds
    pub put : rounds < s → Put t rounds q a

  cleared_carried : (t s : ℕ) (i : Lag) → IsCarried (Cleared t s i)
  cleared_carried t s i = record {
    blank = λ q. record { rounds = spans_of i; lag = is_some i; put = λ few. blank_put t (spans_of i) q };
    passes = λ q f w a x. record { rounds = x.rounds; lag = x.lag; put = λ few. passed_put t x.rounds q f w a (x.put few) };
  }

  pub cleared_lags : (t s : ℕ) → AreLags (Cleared t s) (Cleared (t + 1) (s + 1))
  cleared_lags t s = record {
    was = cleared_carried t s;
    own = cleared_carried (t + 1) (s + 1);
    later = λ i q a x. record {
      rounds = x.rounds + 1;
      lag = next_is i x.rounds x.lag;
      put = λ few. later_put t x.rounds q a (x.put (omega (arith, few)));
    };
    round = λ n spans past i q a some short is x. record {
      rounds = x.rounds + 1;
      lag = once_round past some short (omega (arith, x.lag, is));
      put = λ few. later_put t x.rounds q a (x.put (omega (arith, few)));
    };
    fitting = λ i j q a fits x. record { rounds = x.rounds; lag = fits_is i j x.rounds fits x.lag; put = x.put };
  }

-- ---- j rounds later

module _ (clocks : PortId → ℕ → Clock) where
  abbrev pub Clears : World → ℕ → Type 0
  Clears w s = Vouches (Cleared clocks w.ring.circuits.circuits w.ring.rounds s) w

  -- whatever it carries
  pub clears_none : (w : World) → Clears w 0
  clears_none w = record {
    working = λ p h m d line there low high.
        (let i = working_lag (length w.ring.ids) d (circuits_at (length w.ring.ids) w.ring.circuits.circuits p m d)
        (source_in w.ring.ids (last_word_on d (node_at w.ring.nodes p))) p in
        record { rounds = spans_of i; lag = is_some i; put = λ few. absurd (omega (arith, few)) });
    protection = λ p h m d line there low high.
        (let i = spoken_lag w.ring.ids w.ring.circuits.circuits m (opposite d) (last_word_on d (node_at w.ring.nodes p)) p in
        record { rounds = spans_of i; lag = is_some i; put = λ few. absurd (omega (arith, few)) });
  }

  -- No controller misses a turn after `most` rounds. Since then, or since `ahead` rounds before, the AU-4s are known.
  module _ (most ahead : ℕ) (fits : (most ≡ 0) ⊎ (ahead ≡ 0)) where
    -- j rounds ago no controller was to miss more than `most` turns
    pub record IsClearing (j : ℕ) (w : World) : Type 0 where
      pub whole : IsWhole w
      pub held : AtEach (λ p n. n.held ≤ most - j) w.ring.nodes
      pub clears : Clears w (ahead + j - most)

    clearing_by : (j : ℕ) (c : Change) (w : World) → IsChangeOf w c → HoldsNone c → IsClearing j w
        → Vouches (Cleared clocks w.ring.circuits.circuits w.ring.rounds (ahead + j - most)) (changed c w)
    clearing_by j c w may none k = vouches_changed (Cleared clocks w.ring.circuits.circuits w.ring.rounds (ahead + j - most)) c w k.clears

    clearing_changed : (j : ℕ) (c : Change) (w : World) → IsChangeOf w c → HoldsNone c → IsClearing j w → IsClearing j (changed c w)
    unfolding changed
    clearing_changed j (Fibre p d condition) w may none k = record {
      whole = whole_changed (Fibre p d condition) w may k.whole;
      held = held_changed (most - j) (Fibre p d condition) w none k.held;
      clears = clearing_by j (Fibre p d condition) w may none k;
    }
    clearing_changed j (Order p d c) w may none k = record {
      whole = whole_changed (Order p d c) w may k.whole;
      held = held_changed (most - j) (Order p d c) w none k.held;
      clears = clearing_by j (Order p d c) w may none k;
    }
    clearing_changed j (Hold p turns) w may none k = record {
      whole = whole_changed (Hold p turns) w may k.whole;
      held = held_changed (most - j) (Hold p turns) w none k.held;
      clears = clearing_by j (Hold p turns) w may none k;
    }
    clearing_changed j (Slip id turn count) w may none k = record {
      whole = whole_changed (Slip id turn count) w may k.whole;
      held = held_changed (most - j) (Slip id turn count) w none k.held;
      clears = clearing_by j (Slip id turn count) w may none k;
    }
    clearing_changed j (Now t) w may none k = record {
      whole = whole_changed (Now t) w may k.whole;
      held = held_changed (most - j) (Now t) w none k.held;
      clears = clearing_by j (Now t) w may none k;
    }

    free_now : (j : ℕ) (w : World) → IsClearing j w → most ≤ j → AtEach (λ p n. n.held ≤ 0) w.ring.nodes
    free_now j w k over p h = (let few = k.held p h in omega arith)

    clears_then : (j : ℕ) (w : World) → HasCircuits (layout_of w) → IsClearing j w → AreClocksOf clocks w.ring
        → Clears (round w) (ahead + (j + 1) - most)
    unfolding any_round.round any_round.round_with
    clears_then j w form k tells = elim (cases_lt j most) [
      | inl early ↦ subst (Clears (round w)) (before fits early) (clears_none (round w))
      | inr over ↦ (
          let cs = w.ring.circuits.circuits in
          let t = w.ring.rounds in
          let s = ahead + j - most in
          let free = free_now j w k over in
          let goes : Vouches (Cleared clocks cs (t + 1) (s + 1)) (round w) =
          vouched_round (Cleared clocks cs t s) (Cleared clocks cs (t + 1) (s + 1)) (cleared_lags clocks cs t s) w k.whole
          (on-ring (length w.ring.ids) (slots_of (layout_of w)) cs form) (λ p m d h low high held. absurd (turns w free p h held))
          (λ p m d h low high held. absurd (turns w free p h held)) k.clears
          (λ i c e get. record {
            rounds = 0;
            lag = refl;
            put = λ few. put_then c t get (omega arith) (adds_put clocks w k.whole form tells i c e get);
          }) in
          subst (λ i. Vouches (Cleared clocks cs (t + 1) i) (round w)) (let e : s + 1 ≡ ahead + (j + 1) - most = omega arith in e) goes)
    ]
      where
        before : (most ≡ 0) ⊎ (ahead ≡ 0) → j < most → 0 ≡ ahead + (j + 1) - most
        before (inl none) early = absurd (omega (arith, none, early))
        before (inr none) early = omega (arith, none, early)

    clearing_then : (j : ℕ) (w : World) → HasCircuits (layout_of w) → IsClearing j w → AreClocksOf clocks w.ring
        → IsClearing (j + 1) (round w)
    clearing_then j w form k tells = record {
      whole = whole_round w k.whole;
      held = λ p h. (let few = one_less w k.whole (most - j) k.held p h in omega arith);
      clears = clears_then j w form k tells;
    }

    pub clearing_in : (ss : List Stretch) (w : World) (t : ℕ) → IsWhole w → HasCircuits (layout_of w) → Clears w ahead
        → AtEach (λ p n. n.held ≤ most) w.ring.nodes → MayHappen w ss → NoneHolds ss
        → ((j : ℕ) → j < rounds_in ss → AreClocksOf clocks (world_in ss w j).ring) → t ≤ rounds_in ss → IsClearing (0 + t) (world_in ss w t)
    clearing_in ss w t whole form clears held may none tells few =
        let begins : IsClearing 0 w = record {
          whole = whole;
          held = λ p h. (let h = held p h in omega arith);
          clears = begun fits;
        } in
        kept_in (λ v. AreClocksOf clocks v.ring) (λ v c. HoldsNone c) IsClearing clearing_changed clearing_then ss 0 w t form begins may (none_in w ss none) tells few
      where
        begun : (most ≡ 0) ⊎ (ahead ≡ 0) → Clears w (ahead + 0 - most)
        begun (inl none) = subst (Clears w) (omega (arith, none)) clears
        begun (inr none) = subst (Clears w) (omega (arith, none)) (clears_none w)

    -- a ring that has cleared for `most` and 2n - 2 rounds is vouched for
    pub cleared : (w : World) (j : ℕ) → HasCircuits (layout_of w) → IsClearing j w → most + 2 * length w.ring.ids ≤ j + 2 → IsVouched clocks w
    cleared w j form k long =
        let n = length w.ring.ids in
        let cs = w.ring.circuits.circuits in
        let t = w.ring.rounds in
        let two = k.whole.placed.ids.enough in
        let size = count w k.whole.placed in
        let ring = on-ring n (slots_of (layout_of w)) cs form in
        vouched_by clocks w k.whole (λ p h. (let few = k.held p h in omega arith)) (record {
          working = λ p h m d line there low high.
              (let x = k.clears.working p h m d line there low high in
              let less = working_over n cs ring two m d (source_in w.ring.ids (last_word_on d (node_at w.ring.nodes p))) p x.rounds (omega arith) x.lag in
              put_at_most clocks cs t x.rounds _ _ (x.put (omega arith)));
          protection = λ p h m d line there low high.
              (let x = k.clears.protection p h m d line there low high in
              let at = x.lag in
              let less = protection_over w.ring.ids cs ring two m (opposite d) (source_in w.ring.ids (last_word_on d (node_at w.ring.nodes p))) p
              (λ f is. source_inside w.ring.ids (last_word_on d (node_at w.ring.nodes p)) f is) in
              put_at_most clocks cs t x.rounds _ _ (x.put (omega arith)));
        })

    -- ---- what is delivered

    module _ (w : World) (j : ℕ) (form : HasCircuits (layout_of w)) (k : IsClearing j w) (over : most ≤ j)
        (long : most + 2 * length w.ring.ids ≤ ahead + j + 3) where
      open terms w use {n, cs, t}

      -- for no port ones
      abbrev After : Option PortId → Au → Type 0
      After None a = HasBytesOf ones a
      After (Some q) a = HoldsAfterTransit n cs clocks t q a

      -- what was put in a transit over its arc ago
      after_put : (i rounds : ℕ) (c : Provisioned) (y : Side) (a : Au) → slice_get cs i ≡ Some c → IsTransit n (arc_of n c).spans rounds
          → Put clocks cs (t + 1) rounds (streams_to y (Some (entry i c))) a → After (streams_to y (Some (entry i c))) a
      after_put i rounds c y a get transit (blanks h) = transit_of.nobodys h
      after_put i rounds c y a get transit (put_then b r there then h) =
          let one : c ≡ b = some_one (sym get ∙ there) in
          transit_of.customers b r rounds there (subst (λ (x : Provisioned). IsTransit n (arc_of n x).spans rounds) one transit)
          (omega (arith, then)) h
        where
          some_one : {x y : Provisioned} → Some x ≡ Some y → x ≡ y
          some_one e = cc

      at_port_after : (i : ℕ) (c : Provisioned) → slice_get cs i ≡ Some c → (e : End) → port_at c e < length w.ring.nodes → 1 ≤ c.slot.0
          → c.slot.0 ≤ slots_of (layout_of w)
          → Fine After (circuits_at n cs (port_at c e) c.slot.0 (inward e)) (opposite (inward e))
          (value_at w (port_at c e) c.slot.0 (stands_in n cs (port_at c e) (node_at (round w).ring.nodes (port_at c e)).state (inward e) c.slot.0))
      at_port_after i c get e h low high =
          let p = port_at c e in
          let d = inward e in
          let s = ahead + j - most in
          let two = k.whole.placed.ids.enough in
          let ring = on-ring n (slots_of (layout_of w)) cs form in
          let here = at_port n cs ring i c get e in
          let x = (node_at (round w).ring.nodes p).state in
          let g = source_in w.ring.ids (word_to w p d) in
          let value = value_at w p c.slot.0 (stands_in n cs p x d c.slot.0) in
          let free = free_now j w k over in
          subst (λ o. Fine After o (opposite d) value) (sym here)
          (by_lag (subst (λ o. Fine (Cleared clocks cs (t + 1) (s + 1) (stand_lag n d o g (neighbour n p d) x)) o (opposite d) value) here
          (delivers_fine (Cleared clocks cs t s) (Cleared clocks cs (t + 1) (s + 1)) (cleared_lags clocks cs t s) w k.whole p h k.clears c.slot.0 low high
          ring (λ held y. absurd (turns w free p h held)) d)))
        where
          by_lag : Fine (Cleared clocks cs (t + 1) (ahead + j - most + 1) (stand_lag n (inward e) (Some (entry i c))
              (source_in w.ring.ids (word_to w (port_at c e) (inward e))) (neighbour n (port_at c e) (inward e))
              (node_at (round w).ring.nodes (port_at c e)).state)) (Some (entry i c)) (opposite (inward e))
              (value_at w (port_at c e) c.slot.0 (stands_in n cs (port_at c e) (node_at (round w).ring.nodes (port_at c e)).state (inward e) c.slot.0))
              → Fine After (Some (entry i c)) (opposite (inward e))
              (value_at w (port_at c e) c.slot.0 (stands_in n cs (port_at c e) (node_at (round w).ring.nodes (port_at c e)).state (inward e) c.slot.0))
          by_lag (inl z) = inl z
          by_lag (inr z) = inr (
              let p = port_at c e in
              let d = inward e in
              let x = (node_at (round w).ring.nodes p).state in
              let g = source_in w.ring.ids (word_to w p d) in
              let two = k.whole.placed.ids.enough in
              let ring = on-ring n (slots_of (layout_of w)) cs form in
              let place = place_on n (opposite d) (Some (entry i c)) (neighbour n p d) in
              let transit : IsTransit n (arc_of n c).spans z.rounds =
              subst (λ spans. IsTransit n spans z.rounds) (last_place n cs ring i c get e ∙ arc_is n c)
              (fits_is (stand_lag n d (Some (entry i c)) g (neighbour n p d) x) (or_round n (place + 1)) z.rounds
              (stand_fits n d (Some (entry i c)) g (neighbour n p d) x) z.lag) in
              let short = (seen-on n cs ring i c get East).short in
              let few = transit_few n (arc_of n c).spans z.rounds two (subst (λ spans. spans < n) (arc_is n c) short) transit in
              after_put i z.rounds c (opposite d) _ get transit (z.put (omega arith)))

      meets : (q : PortId) (o : Outlet) → Delivers After q o → ComesAfterTransit n cs clocks t q o
      meets q o (silence_comes is) = transit_of.ais_comes is
      meets q o (chunk_comes value form a is own) = transit_of.bytes_come value form a is own

      -- the ports of one that has cleared for `most` and 2n - 3 rounds deliver only what was put in one transit before
      pub all_come : AllComeAfterTransit clocks (round w).ring
      unfolding any_round.round any_round.round_with
      all_come i c get e =
          let back : t ≡ t + 1 - 1 = omega arith in
          subst (λ r. ComesAfterTransit n cs clocks r (port_id i e) (outlet_at (round w).ring (port_id i e))) back
          (meets (port_id i e) _ (delivers After w form k.whole at_port_after i c get e))
