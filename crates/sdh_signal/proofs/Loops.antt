-- No closed loop: each AU-4 of a settled ring is led back to a port or to AIS.
use Rattle.std.proofs.Common.{◌≡◌, ℕ, ◌+◌, ◌-◌, ◌*◌, ◌<◌, ◌≤◌, suc, Bool, true, false, Option, Some, None, List, refl, ap, sym, ◌∙◌, subst}
use Rattle.std.proofs.Common.{arith, inl, inr, ap₂}
use Rattle.std.specs.Prelude.{◌&&◌, ◌==◌, not}
use Rattle.std.proofs.lemmas.Bool.{cases_lt, cases_eq, cases_Bool, and_parts, and_right, eqb-true, lt-leb, not-false, not-true, both_ways}
use Rattle.std.proofs.lemmas.Bool.{not_from_false}
use Rattle.sdh_bridge.specs.declared.Origin.{Origin}
use Rattle.sdh_bridge.specs.declared.Origin.TheVariants.{Add, Ais, Protection, Working}
use Rattle.sdh_circuits.specs.Provisioned.{Provisioned}
use Rattle.sdh_circuits.specs.declared.End.{End}
use Rattle.sdh_circuits.specs.declared.End.TheVariants.{A, B}
use Rattle.sdh_nodestate.specs.declared.NodeState.{NodeState}
use Rattle.sdh_nodestate.specs.declared.NodeState.TheVariants as state
use Rattle.sdh_circuits.specs.Ends.{other_end}
use Rattle.sdh_restoration.specs.Routes.{last_place, places_before}
use Rattle.sdh_ringmap.specs.Arcs.{none_of}
use Rattle.sdh_ringmap.specs.Places.{neighbour, opposite, span_at}
use Rattle.sdh_ringmap.specs.declared.Pos.{Pos}
use Rattle.sdh_ringmap.specs.declared.Side.{Side}
use Rattle.sdh_signal.proofs.Covering.{stops}
use Rattle.sdh_ringmap.proofs.Going.{going-inside, going-none, going-round, way-behind}
use Rattle.sdh_ringmap.proofs.Sides.{neighbour_below, opposite_twice}
use Rattle.sdh_signal.proofs.Between.{passes-at}
use Rattle.sdh_signal.proofs.RouteMarks.{IsFirst, IsLast, first-is, last-is, last-place}
use Rattle.sdh_ringmap.proofs.Clear.{none_of-at, none_of-met}
use Rattle.sdh_signal.proofs.OnArcs.{near_at, near_end, on-arc, seen-on}
use Rattle.sdh_signal.proofs.Passing.{away-leaves, blocked-leaves, bridged-leaves, carries-by, idle-leaves, isolated-leaves}
use Rattle.sdh_signal.proofs.Passing.{isolated-stands, leaves-own_or_none, leaves-unused, passed-leaves, settled-open, switched-stands, unused-carries}
use Rattle.sdh_signal.proofs.Seen.{Seen}
use Rattle.sdh_signal.proofs.Segments.{along, bridge, chain_passes, home, leads-on, over_free, own, past, sending, taking, through}
use Rattle.sdh_signal.proofs.Sights.{found-gives}
use Rattle.sdh_signal.proofs.States.{Resting, on, state-ahead, state-at, state-by}
use Rattle.sdh_signal.proofs.Switched.{isnt_side}
use Rattle.sdh_signal.proofs.Views.{AreOnRing, Idle, Isolated, PassThrough, Switch, arc_length, carried, far_at, holds, passes}
use Rattle.sdh_signal.specs.Law.{Ends, is_open, is_pass}
use Rattle.sdh_ringmap.specs.Steps.{going}
use Rattle.sdh_signal.specs.Walks.{IsOver, Leads, Stand, carries_in, port, port_at, protection_in, stand, stands_in, working_in}
use Rattle.sdh_squelch.specs.Table.{circuit_from}
use Rattle.sdh_squelch.specs.declared.Row.{Row}

pass_is : (st : NodeState) → is_pass st ≡ true → st ≡ PassThrough
pass_is (state.PassThrough i) e = refl
pass_is (state.Isolated i) e = cc
pass_is (state.Idle i) e = cc
pass_is (state.SwitchWest f) e = cc
pass_is (state.SwitchEast f) e = cc

module _ (n : ℕ) (r : Resting n) (cs : List Provisioned) (ring : AreOnRing n cs) where
  module _ (some : 0 < n) where
    ends_at : (m : ℕ) → (b : ℕ) (x y : Stand) → x ≡ y → IsOver y.origin → Ends n r.state cs m b x
    ends_at m b x y e o = record {
      spans = 0;
      last = x;
      within = omega arith;
      over = subst (λ (s : Stand). IsOver s.origin) (sym e) o;
      leads = refl;
    }

    ends_from : (m : ℕ) → (b j : ℕ) (x y : Stand) → Leads n r.state cs m j x y → Ends n r.state cs m b y → Ends n r.state cs m (j + b) x
    ends_from m b j x y w e = record {
      spans = j + e.spans;
      last = e.last;
      within = let a = e.within in omega arith;
      over = e.over;
      leads = leads-on n r cs m j e.spans x y e.last w e.leads;
    }

    wider : (m : ℕ) → (a b : ℕ) (x : Stand) → a ≤ b → Ends n r.state cs m a x → Ends n r.state cs m b x
    wider m a b x h e = record { spans = e.spans; last = e.last; within = let w = e.within in omega arith; over = e.over; leads = e.leads }

    moved : (m : ℕ) → (b : ℕ) (x y : Stand) → x ≡ y → Ends n r.state cs m b y → Ends n r.state cs m b x
    moved m b x y e t = subst (λ s. Ends n r.state cs m b s) (sym e) t

    module _ (d : Side) (p : ℕ) (index : ℕ) (c : Provisioned) (near distant : End) (seen : Seen n cs index c d p near distant) where
      abbrev hit : ℕ → Bool
      hit i = on n r some d p i

      home_end : (x : ℕ) (y : Side) → x < (arc_length n c) → ((j : ℕ) → j < x → hit j ≡ false) → is_open (r.state (going n d p x)) y ≡ true
          → Ends n r.state cs c.slot.0 n (sending n r cs some d p c.slot.0 (going n d p x))
      home_end x y h free o = record {
        spans = x;
        last = own n r cs some d p index c near distant seen;
        within = let s = seen.short in omega arith;
        over = tt;
        leads = home n r cs some d p index c near distant seen x y h free o;
      }

      -- the circuit's far end is beyond the chain
      beyond : (l k x : ℕ) → (arc_length n c) ≤ l → k < n → x < (arc_length n c) → suc l + k ≡ x + n
          → carries_in n cs (going n d p x) d c.slot.0 (far_at (going n d p (suc l))) ≡ false
      beyond l k x hl hk hx e =
          let q = going n d p x in let f = going n d p (suc l) in
          let test : ℕ → Bool = λ y. passes n d f q y in
          let here : q ≡ going n d p (suc l + k) = sym (going-round n some d p x) ∙ ap (going n d p) (sym e) in
          let out : going n d p (arc_length n c) ≡ going n d p (suc l + ((arc_length n c) + n - suc l)) =
          sym (going-round n some d p (arc_length n c)) ∙ ap (going n d p) (omega arith) in
          let missed : test (going n d p (arc_length n c)) ≡ false =
          ap test out ∙ ap (λ y. passes n d f y (going n d p (suc l + ((arc_length n c) + n - suc l)))) here
          ∙ passes-at n some d p (suc l) k ((arc_length n c) + n - suc l) hk (omega arith)
          ∙ lt-leb ((arc_length n c) + n - suc l) k (omega arith) in
          carries-by n cs q d c.slot.0 f ∙ ap (λ o. carried n q o d f) (seen.on_arc x hx)
          ∙ ap₂ ◌&&◌ (chain_passes n d q f (port_at c A)) (chain_passes n d q f (port_at c B))
          ∙ seen.both test ∙ and_right (test (going n d p 0)) (test (going n d p (arc_length n c))) missed

      -- a node on the arc, whose span ahead is applied and whose span behind is free, bridges the circuit back to its
      -- own port, or bridges nothing
      module _ (x : ℕ) (inside : x < (arc_length n c)) (ahead : hit x ≡ true) (behind : hit (x + (n - 1)) ≡ false) where
        abbrev l : ℕ
        l = last_place hit (x + n)

        last : IsLast hit x (x + n) l
        last = last-is hit x (x + n) (omega arith) ahead

        abbrev k : ℕ
        k = x + n - suc l

        not_next : l ≡ x + (n - 1) → ⊥
        not_next e = both_ways (hit l) (ap hit e ∙ behind) last.holds

        whole : suc (l + k) ≡ x + n
        whole = let b = last.below in omega arith

        round : suc l + k ≡ x + n
        round = let b = last.below in omega arith

        k_few : k < n
        k_few = let a = last.from in omega arith

        k_some : 0 < k
        k_some = let b = last.below in let z = not_next in omega arith

        bridging : r.state (going n d p x) ≡ Switch d (far_at (going n d p (suc l)))
        bridging =
            ap r.state (sym (going-round n some d p x) ∙ ap (going n d p) (sym whole))
            ∙ state-ahead n r some d p l k k_some k_few last.holds (λ j a b. last.after j a (let w = whole in omega arith))
            (ap hit whole ∙ ap r.applied (ap (λ q. span_at n q d) (going-round n some d p x)) ∙ ahead)

        silent_bridge : carries_in n cs (going n d p x) d c.slot.0 (far_at (going n d p (suc l))) ≡ false
            → Ends n r.state cs c.slot.0 n (bridge n r cs some d p c.slot.0 (going n d p x))
        silent_bridge e =
            let q = going n d p x in
            ends_at c.slot.0 n (bridge n r cs some d p c.slot.0 q) (stand q Ais)
            (ap (stand q) (ap (λ st. protection_in n cs q st (opposite d) c.slot.0) bridging
            ∙ blocked-leaves n cs q d c.slot.0 (far_at (going n d p (suc l))) e)) tt

        carried_bridge : l < (arc_length n c) → carries_in n cs (going n d p x) d c.slot.0 (far_at (going n d p (suc l))) ≡ true
            → Ends n r.state cs c.slot.0 n (bridge n r cs some d p c.slot.0 (going n d p x))
        carried_bridge low e =
            let q = going n d p x in let s = seen.short in
            moved c.slot.0 n (bridge n r cs some d p c.slot.0 q) (sending n r cs some d p c.slot.0 q)
            (ap (stand q) (ap (λ st. protection_in n cs q st (opposite d) c.slot.0) bridging
            ∙ bridged-leaves n cs q d c.slot.0 (far_at (going n d p (suc l))) e
            ∙ ap (λ st. working_in n cs q st d c.slot.0) (sym bridging)))
            (home_end x (opposite d) inside
            (λ j h. sym (ap r.applied (ap (λ z. span_at n z d) (going-round n some d p j)))
            ∙ last.after (j + n) (omega arith) (omega arith))
            (ap (λ st. is_open st (opposite d)) bridging ∙ isnt_side d (far_at (going n d p (suc l)))))

        pub bridge_end : Ends n r.state cs c.slot.0 n (bridge n r cs some d p c.slot.0 (going n d p x))
        bridge_end = elim (cases_lt l (arc_length n c)) [
          | inl low ↦ elim (cases_Bool (carries_in n cs (going n d p x) d c.slot.0
              (far_at (going n d p (suc l))))) [ inl t ↦ carried_bridge low t | inr t ↦ silent_bridge t ]
          | inr high ↦ silent_bridge (beyond l k x high k_few inside round)
        ]

    -- the same for any node whose span on d is applied, and whose other is free
    module _ (d : Side) (p q m : ℕ) (inside : q < n) (ahead : r.applied (span_at n q d) ≡ true)
        (behind : r.applied (span_at n q (opposite d)) ≡ false) where
      switching : r.state q ≡ Switch d (r.far (opposite d) q)
      switching = state-by n r d q true false ahead behind

      by_circuit : (o : Option Row) → circuit_from n (span_at n q d) m 0 cs ≡ o → Ends n r.state cs m n (bridge n r cs some d p m q)
      by_circuit None e =
          ends_at m n (bridge n r cs some d p m q) (stand q Ais)
          (ap (stand q) (ap (λ st. protection_in n cs q st (opposite d) m) switching
          ∙ blocked-leaves n cs q d m (r.far (opposite d) q) (unused-carries n cs q d m (r.far (opposite d) q) e))) tt
      by_circuit (Some e) h =
          let found = found-gives n (span_at n q d) m 0 cs e h in
          let both = and_parts (found.circuit.slot.0 == m) (holds n found.circuit (span_at n q d)) found.on in
          let c = found.circuit in
          let at = on-arc n cs ring some c d q (ring.inside found.place c found.is).0 inside both.1 in
          let b = near_at n c d in
          let seen = seen-on n cs ring found.place c found.is d in
          let slot : m ≡ c.slot.0 = sym (eqb-true c.slot.0 m both.0) in
          let before : going n d b (suc (at.step + (n - 1))) ≡ q =
          ap (going n d b) (omega arith) ∙ going-round n some d b at.step ∙ sym at.there in
          subst (λ k. Ends n r.state cs k n (bridge n r cs some d p m q)) (sym slot)
          (moved c.slot.0 n (bridge n r cs some d p m q) (bridge n r cs some d b c.slot.0 (going n d b at.step))
          (ap (λ k. bridge n r cs some d p k q) slot ∙ ap (bridge n r cs some d p c.slot.0) at.there)
          (bridge_end d b found.place c (near_end d) (other_end (near_end d)) seen at.step at.few
          (ap (λ z. r.applied (span_at n z d)) (sym at.there) ∙ ahead)
          (ap r.applied (sym (way-behind n some d b (at.step + (n - 1))) ∙ ap (λ z. span_at n z (opposite d)) before) ∙ behind)))

      pub switch_end : Ends n r.state cs m n (bridge n r cs some d p m q)
      switch_end = by_circuit (circuit_from n (span_at n q d) m 0 cs) refl

    -- a node that doesn't pass through ends the protection ring
    module _ (d : Side) (p q m : ℕ) (inside : q < n) (stopped : is_pass (r.state q) ≡ false) where
      at_state : (st : NodeState) → r.state q ≡ st → protection_in n cs q st (opposite d) m ≡ Ais
          → Ends n r.state cs m n (bridge n r cs some d p m q)
      at_state st e h =
          ends_at m n (bridge n r cs some d p m q) (stand q Ais) (ap (stand q) (ap (λ s. protection_in n cs q s (opposite d) m) e ∙ h)) tt

      isnt_pass : r.state q ≡ PassThrough → ⊥
      isnt_pass e = let t = ap is_pass e in cc

      by_tests : (a b : Bool) → r.applied (span_at n q d) ≡ a → r.applied (span_at n q (opposite d)) ≡ b
          → Ends n r.state cs m n (bridge n r cs some d p m q)
      by_tests true true e h = at_state Isolated (state-by n r d q true true e h) (isolated-leaves n cs q (opposite d) m)
      by_tests true false e h = switch_end d p q m inside e h
      by_tests false true e h = let f =
          (r.far d q) in at_state (Switch (opposite d) f) (state-by n r d q false true e h) (away-leaves n cs q (opposite d) m f)
      by_tests false false e h = elim (r.either q) [
        | inl passes ↦ absurd (isnt_pass (state-by n r d q false false e h ∙ passes))
        | inr idle ↦ at_state Idle (state-by n r d q false false e h ∙ idle) (idle-leaves n cs q (opposite d) m)
      ]

      pub stop_end : Ends n r.state cs m n (bridge n r cs some d p m q)
      stop_end = by_tests (r.applied (span_at n q d)) (r.applied (span_at n q (opposite d))) refl refl

    -- a protection slot
    module _ (d : Side) (p m : ℕ) (inside : p < n) where
      abbrev stop : ℕ → Bool
      stop j = not (is_pass (r.state (going n d p (suc j))))

      some_stop : none_of stop 0 n ≡ false
      some_stop = let s =
          stops n r some d p inside in none_of-met stop 0 n s.steps (omega arith) (let f = s.few in omega arith)
          (not_from_false (is_pass (r.state (going n d p (suc s.steps)))) s.there)

      abbrev far : ℕ
      far = places_before stop 0 n

      first : IsFirst stop 0 n (0 + far)
      first = first-is stop 0 n some_stop

      pub protection_end : Ends n r.state cs m (2 * n) (stand p (Protection d))
      protection_end =
          let few : suc far ≤ n = let b = first.below in omega arith in
          let here : stand p (Protection d) ≡ stand (going n d p 0) (Protection d) =
          ap (λ q. stand q (Protection d)) (sym (going-none n some d p inside)) in
          let way_there = past n r cs some d p m far 0 (λ j h g.
          let back : suc (j - 1) ≡ j = omega arith in
          ap (λ x. r.state (going n d p x)) (sym back) ∙ pass_is (r.state (going n d p (suc (j - 1))))
          (not-false (is_pass (r.state (going n d p (suc (j - 1))))) (first.before (j - 1) (omega arith) (omega arith)))) in
          let stopped : is_pass (r.state (going n d p (suc (0 + far)))) ≡ false =
          not-true (is_pass (r.state (going n d p (suc (0 + far))))) first.holds in
          moved m (2 * n) (stand p (Protection d)) (stand (going n d p 0) (Protection d)) here
          (wider m (suc far + n) (2 * n) (stand (going n d p 0) (Protection d)) (omega arith)
          (ends_from m n (suc far) (stand (going n d p 0) (Protection d)) (bridge n r cs some d p m (going n d p (suc (0 + far)))) way_there
          (stop_end d p (going n d p (suc (0 + far))) m (going-inside n some d p (suc (0 + far))) stopped)))

    -- a working slot of a circuit, seen from the end to which it leads
    module _ (d : Side) (p : ℕ) (index : ℕ) (c : Provisioned) (near distant : End) (seen : Seen n cs index c d p near distant) where
      abbrev struck : ℕ → Bool
      struck i = on n r some d p i

      -- the walk from the node right beyond an applied span
      module _ (i : ℕ) (yet : struck i ≡ true) where
        abbrev node : ℕ
        node = going n d p (suc i)

        abbrev taken : Stand
        taken = taking n r cs some d p c.slot.0 node

        by_state : (st : NodeState) → r.state node ≡ st → taken ≡ stand node (stands_in n cs node st (opposite d) c.slot.0)
        by_state st e = ap (λ s. stand node (stands_in n cs node s (opposite d) c.slot.0)) e

        by_carry : (f : Option Pos) (b : Bool) → r.state node ≡ Switch (opposite d) f → carries_in n cs node (opposite d) c.slot.0 f ≡ b
            → Ends n r.state cs c.slot.0 (2 * n) taken
        by_carry f true e h =
            moved c.slot.0 (2 * n) taken (stand node (Protection d))
            (by_state (Switch (opposite d) f) e ∙ ap (stand node)
            (switched-stands n cs node (opposite d) c.slot.0 f true h ∙ ap (λ x. Protection x) (opposite_twice d)))
            (protection_end d node c.slot.0 (going-inside n some d p (suc i)))
        by_carry f false e h =
            ends_at c.slot.0 (2 * n) taken (stand node Ais)
            (by_state (Switch (opposite d) f) e ∙ ap (stand node) (switched-stands n cs node (opposite d) c.slot.0 f false h)) tt

        by_ahead : (b : Bool) → struck (suc i) ≡ b → Ends n r.state cs c.slot.0 (2 * n) taken
        by_ahead true e =
            ends_at c.slot.0 (2 * n) taken (stand node Ais)
            (by_state Isolated (state-at n r some d p i true true e yet)
            ∙ ap (stand node) (isolated-stands n cs node (opposite d) c.slot.0)) tt
        by_ahead false e =
            let f = (r.far d node) in
            by_carry f (carries_in n cs node (opposite d) c.slot.0 f) (state-at n r some d p i false true e yet) refl

        pub after_end : Ends n r.state cs c.slot.0 (2 * n) taken
        after_end = by_ahead (struck (suc i)) refl

      -- the walk from an inner position of the arc
      module _ (x : ℕ) (some_way : 0 < x) (inside : x < (arc_length n c)) where
        abbrev place : Stand
        place = taking n r cs some d p c.slot.0 (going n d p x)

        clear_end : none_of struck 0 x ≡ true → Ends n r.state cs c.slot.0 (3 * n - 1) place
        clear_end t =
            let free : (j : ℕ) → j < x → struck j ≡ false = λ j h. none_of-at struck 0 x t j (omega arith) (omega arith) in
            let before : suc (x - 1) ≡ x = omega arith in
            let over = free (x - 1) (omega arith) in
            let short = seen.short in
            let z = own n r cs some d p index c near distant seen in
            let way_home =
            home n r cs some d p index c near distant seen (x - 1) d (omega arith) (λ j h. free j (omega arith))
            (settled-open n r d (going n d p (x - 1)) over) in
            let all : Leads n r.state cs c.slot.0 x place z =
            subst (λ k. Leads n r.state cs c.slot.0 k (taking n r cs some d p c.slot.0 (going n d p k)) z) before
            (over_free n r cs some d p c.slot.0 (x - 1) (x - 1) z over way_home) in
            record { spans = x; last = z; within = omega arith; over = tt; leads = all }

        struck_end : none_of struck 0 x ≡ false → Ends n r.state cs c.slot.0 (3 * n - 1) place
        struck_end t =
            let l = last-place struck x t in
            let i = last_place struck x in
            let e = after_end i l.holds in
            let short = seen.short in let low = l.below in
            let all =
            along n r cs some d p index c near distant seen (x - suc i) (suc i) e.spans e.last (omega arith) (omega arith)
            (λ j a b. l.after j a (omega arith)) e.leads in
            let here : suc i + (x - suc i) ≡ x = omega arith in
            record {
              spans = (x - suc i) + e.spans;
              last = e.last;
              within = let w = e.within in omega arith;
              over = e.over;
              leads =
                  subst (λ k. Leads n r.state cs c.slot.0 ((x - suc i) + e.spans)
                  (taking n r cs some d p c.slot.0 (going n d p k)) e.last) here all;
            }

        pub inner_end : Ends n r.state cs c.slot.0 (3 * n - 1) place
        inner_end = elim (cases_Bool (none_of struck 0 x)) [ inl t ↦ clear_end t | inr t ↦ struck_end t ]

      first_end : Ends n r.state cs c.slot.0 (3 * n - 1) (sending n r cs some d p c.slot.0 (going n d p 0))
      first_end =
          let q = going n d p 0 in
          elim (leaves-own_or_none n cs q (r.state q) index c near d c.slot.0 (seen.on_arc 0 seen.long) seen.starts) [
            | inl none ↦ ends_at c.slot.0 (3 * n - 1) (sending n r cs some d p c.slot.0 q) (stand q Ais) (ap (stand q) none) tt
            | inr own ↦ ends_at c.slot.0 (3 * n - 1) (sending n r cs some d p c.slot.0 q) (stand q (port index near)) (ap (stand q) own) tt
          ]

      pub sending_at : (x : ℕ) → x < (arc_length n c) → Ends n r.state cs c.slot.0 (3 * n - 1)
          (sending n r cs some d p c.slot.0 (going n d p x))
      sending_at x h = elim (cases_eq 0 x) [
        | inl start ↦ moved c.slot.0 (3 * n - 1) (sending n r cs some d p c.slot.0 (going n d p x))
            (sending n r cs some d p c.slot.0 (going n d p 0))
            (ap (λ i. sending n r cs some d p c.slot.0 (going n d p i)) (sym start)) first_end
        | inr inner ↦ moved c.slot.0 (3 * n - 1) (sending n r cs some d p c.slot.0 (going n d p x))
            (taking n r cs some d p c.slot.0 (going n d p x)) (through n r cs some d p index c near distant seen x (omega arith) h)
            (inner_end x (omega arith) h)
      ]

    module _ (d : Side) (p q m : ℕ) (inside : q < n) where
      sending_by : (o : Option Row) → circuit_from n (span_at n q d) m 0 cs ≡ o → Ends n r.state cs m (3 * n - 1) (sending n r cs some d p m q)
      sending_by None e =
          ends_at m (3 * n - 1) (sending n r cs some d p m q) (stand q Ais) (ap (stand q) (leaves-unused n cs q (r.state q) d m e)) tt
      sending_by (Some e) h =
          let found = found-gives n (span_at n q d) m 0 cs e h in
          let both = and_parts (found.circuit.slot.0 == m) (holds n found.circuit (span_at n q d)) found.on in
          let c = found.circuit in
          let at = on-arc n cs ring some c d q (ring.inside found.place c found.is).0 inside both.1 in
          let b = near_at n c d in
          let slot : m ≡ c.slot.0 = sym (eqb-true c.slot.0 m both.0) in
          subst (λ k. Ends n r.state cs k (3 * n - 1) (sending n r cs some d p m q)) (sym slot)
          (moved c.slot.0 (3 * n - 1) (sending n r cs some d p m q) (sending n r cs some d b c.slot.0 (going n d b at.step))
          (ap (λ k. sending n r cs some d p k q) slot ∙ ap (sending n r cs some d p c.slot.0) at.there)
          (sending_at d b found.place c (near_end d) (other_end (near_end d)) (seen-on n cs ring found.place c found.is d) at.step at.few))

      pub sending_end : Ends n r.state cs m (3 * n - 1) (sending n r cs some d p m q)
      sending_end = sending_by (circuit_from n (span_at n q d) m 0 cs) refl

    -- a working slot
    working_end : (d : Side) (p m : ℕ) → p < n → Ends n r.state cs m (3 * n + 1) (stand p (Working d))
    working_end d p m h =
        let q = neighbour n p d in
        let inside = neighbour_below n p d some in
        let one : Leads n r.state cs m 1 (stand p (Working d)) (sending n r cs some (opposite d) p m q) = (tt, refl) in
        wider m (1 + (3 * n - 1)) (3 * n + 1) (stand p (Working d)) (omega arith)
        (ends_from m (3 * n - 1) 1 (stand p (Working d)) (sending n r cs some (opposite d) p m q) one (sending_end (opposite d) p q m inside))

    -- what a node sends on protection, towards the side behind
    module _ (d : Side) (p q m : ℕ) (inside : q < n) where
      bridge_by : (b : Bool) → is_pass (r.state q) ≡ b → Ends n r.state cs m (3 * n - 1) (bridge n r cs some d p m q)
      bridge_by false e = wider m n (3 * n - 1) (bridge n r cs some d p m q) (omega arith) (stop_end d p q m inside e)
      bridge_by true e =
          moved m (3 * n - 1) (bridge n r cs some d p m q) (stand q (Protection d))
          (ap (stand q) (ap (λ st. protection_in n cs q st (opposite d) m) (pass_is (r.state q) e) ∙ passed-leaves n cs q d m))
          (wider m (2 * n) (3 * n - 1) (stand q (Protection d)) (omega arith) (protection_end d q m inside))

      pub bridging_end : Ends n r.state cs m (3 * n - 1) (bridge n r cs some d p m q)
      bridging_end = bridge_by (is_pass (r.state q)) refl

    -- whatever is followed from a node of the ring, the walk ends
    pub no-loop : (m p : ℕ) (o : Origin) → p < n → Ends n r.state cs m (3 * n + 1) (stand p o)
    no-loop m p Ais h = ends_at m (3 * n + 1) (stand p Ais) (stand p Ais) refl tt
    no-loop m p (Add q) h = ends_at m (3 * n + 1) (stand p (Add q)) (stand p (Add q)) refl tt
    no-loop m p (Working d) h = working_end d p m h
    no-loop m p (Protection d) h = wider m (2 * n) (3 * n + 1) (stand p (Protection d)) (omega arith) (protection_end d p m h)
