-- A quiet window leaves a ring vouched for, whatever it carried before and whoever missed turns: each AU-4 that is
-- under way then has come from its port, or from AIS, within the window. And each switched node has a shield.
use Rattle.std.proofs.Common.{◌≡◌, ℕ, zero, suc, ◌+◌, ◌-◌, ◌*◌, ◌<◌, ◌≤◌, true, false, List, length, Option, Some, ap, sym, ◌∙◌, subst, arith}
use Rattle.std.proofs.Common.{inl, inr}
use Rattle.std.proofs.lemmas.Bool.{cases_lt, le-leb, both_ways}
use Rattle.sdh_ringmap.specs.Places.{opposite}
use Rattle.sdh_ringmap.specs.declared.Pos.{Pos}
use Rattle.sdh_ringmap.specs.declared.Side.{Side}
use Rattle.sdh_circuits.specs.declared.PortId.{PortId}
use Rattle.sdh_squelch.specs.Table.{circuits_at}
use Rattle.sdh_signal.specs.Laws.{StillRingsAreSettled}
use Rattle.sdh_signal.specs.Settled.{settled}
use Rattle.sdh_payload.specs.Clock.{Clock}
use Rattle.sdh_ringmap.specs.Fibres.{fibre}
use Rattle.sdh_plant.specs.Arrivals.{carried_on}
use Rattle.sdh_node.specs.Node.{Node, is_held, last_word_on}
use Rattle.sdh_node.specs.Rings.Held.{node_at, AtEach}
use Rattle.sdh_node.specs.Rings.Rounds.{World, round}
use Rattle.sdh_node.specs.Rings.Runs.{run, course}
use Rattle.sdh_node.specs.Rings.Quiet.{is_calm, EndsWindow}
use Rattle.sdh_rounds.specs.Rounds as any_round
use Rattle.sdh_rounds.specs.Runs as any_run
use Rattle.sdh_rounds.proofs.Terms.{terms}
use Rattle.sdh_signal.proofs.Views.{AreOnRing, Switch, on-ring}
use Rattle.sdh_laws.specs.Hearing.Laws.{IsWhole}
use Rattle.sdh_laws.proofs.hearing.Nodes.{count, length-after}
use Rattle.sdh_laws.proofs.hearing.Rounds.{whole_round}
use Rattle.sdh_laws.proofs.hearing.Staying.{left_run}
use Rattle.sdh_laws.proofs.hearing.Changes.{whole_run}
use Rattle.sdh_laws.proofs.hearing.Signalling.{one_run, calm_rounds_are_still}
use Rattle.sdh_laws.specs.Carrying.Windows.{layout_of, slots_of, HasCircuits, span_requests_of, AreSettled}
use Rattle.sdh_laws.proofs.carrying.Applied.{length-requests_of}
use Rattle.sdh_laws.proofs.carrying.Ways.{layout_run}
use Rattle.sdh_laws.proofs.carrying.Settles.{settled_at}
use Rattle.sdh_laws.specs.Strangers.Owners.{AreClocksOf}
use Rattle.sdh_laws.specs.Strangers.Vouched.{streams_to, spoken_of, HoldsAtMost, au_in, IsVouched}
use Rattle.sdh_laws.proofs.strangers.Lags.{steps, steps_few}
use Rattle.sdh_laws.proofs.strangers.Worlds.{sent_bears}
use Rattle.sdh_laws.proofs.strangers.Vouched.{carried_holds}
use Rattle.sdh_laws.proofs.strangers.Shields.{Shields, AllShielded}
use Rattle.sdh_laws.proofs.strangers.Shielded.{grown}
use Rattle.sdh_laws.proofs.strangers.Steady.{IsSteady, Came, came_none, came_next, working_sent, protection_sent, working_walk, protection_walk}
use Rattle.sdh_laws.proofs.strangers.Steady.{EndsBefore, TheirsSent, theirs_none, theirs_next}
use Rattle.sdh_laws.proofs.converging.Runs.{nodes_run}
use Rattle.sdh_laws.proofs.hearing.Steady.{one_less}

module _ (clocks : PortId → ℕ → Clock) (law : StillRingsAreSettled) (v : World) (form : HasCircuits (layout_of v)) (whole : IsWhole v) (last : ℕ)
    (ends : EndsWindow (course v) last) (tells : (i : ℕ) → i < last → AreClocksOf clocks (run i v).ring) where
  open terms v use {n}

  abbrev rs : List ℕ
  rs = span_requests_of (run last v)

  ids_are : (j : ℕ) → (run j v).ring.ids ≡ v.ring.ids
  ids_are j = (left_run j v).ids

  long : 3 * n ≤ last
  long = let e = ap length (ids_are last) in let l = ends.long in omega arith

  enough : 2 ≤ n
  enough = whole.placed.ids.enough

  -- no node is held in the last 3n rounds
  free_in : (j : ℕ) → last < suc j + 3 * n → j < last → AtEach (λ p n. is_held n ≡ false) (run j v).ring.nodes
  free_in j low high =
      let calm = ends.calm (suc j) (let e = ap length (ids_are last) in omega arith) (omega arith) in
      (calm_rounds_are_still (run j v) (whole_run v j whole)
      (subst (λ (u : World). is_calm u.ring.nodes ≡ true) (one_run v j) calm)).free

  states_in : (j : ℕ) → last < suc j + 3 * n → j < last → AreSettled (length (run j v).ring.ids) rs (round (run j v))
  states_in j low high =
      subst (λ (ids : List ℕ). AreSettled (length ids) rs (round (run j v))) (sym (ids_are j))
      (subst (AreSettled n rs) (one_run v j) (settled_at law v whole last ends (suc j) low (omega arith)))

  steady : (j : ℕ) → last < suc j + 3 * n → j < last → IsSteady clocks rs (run j v)
  steady j low high = record {
    form = subst HasCircuits (sym (layout_run v j)) form;
    whole = whole_run v j whole;
    tells = tells j high;
    free = free_in j low high;
    states = states_in j low high;
  }

  came_in : (k j : ℕ) (low : last < suc j + 3 * n) (high : j < last) → last + k < suc j + 3 * n
      → (let s = steady j low high in Came clocks rs k (run j v) s.form s.whole)
  unfolding any_run.run
  came_in zero j low high few = let s = steady j low high in came_none clocks rs (run j v) s.form s.whole
  came_in (suc k) zero low high few = absurd (omega (arith, long))
  came_in (suc k) (suc j) low high few =
      let was = steady j (omega arith) (omega arith) in
      let s = steady (suc j) low high in
      came_next clocks rs (run j v) was k (came_in k j (omega arith) (omega arith) (omega arith)) s.form s.whole

  -- ---- the last of them

  abbrev j : ℕ
  j = last - 1

  abbrev u : World
  u = run j v

  some : 0 < last
  some = omega (arith, long, enough)

  until : suc j ≡ last
  until = omega (arith, some)

  is_last : round u ≡ run last v
  is_last = sym (one_run v j) ∙ ap (λ i. run i v) until

  s : IsSteady clocks rs u
  s = steady j (omega (arith, enough, some)) (omega (arith, some))

  ring_u : AreOnRing (length u.ring.ids) u.ring.circuits.circuits
  ring_u = on-ring (length u.ring.ids) (slots_of (layout_of u)) u.ring.circuits.circuits s.form

  size_u : length u.ring.ids ≡ n
  size_u = ap length (ids_are j)

  spans : length rs ≡ length u.ring.ids
  spans = length-requests_of (run last v) n (nodes_run v whole last) ∙ sym size_u

  inhabited : 0 < length u.ring.ids
  inhabited = omega (arith, size_u, enough)

  came_last : (k : ℕ) → k ≤ 3 * length u.ring.ids - 1 → Came clocks rs k u s.form s.whole
  came_last k few = came_in k j (omega (arith, enough, some)) (omega (arith, some)) (omega (arith, enough, some, size_u))

  below_u : (p : ℕ) → p < length u.ring.nodes → p < length u.ring.ids
  below_u p h = omega (arith, count u s.whole.placed)

  none_left : (p : ℕ) → p < length (round u).ring.nodes → (node_at (round u).ring.nodes p).held ≡ 0
  none_left p h =
      let left = one_less u s.whole 0 (λ q low. not_held (node_at u.ring.nodes q) (s.free q low)) p h in omega arith
    where
      not_held : (n : Node) → is_held n ≡ false → n.held ≤ 0
      not_held n free = elim (cases_lt 0 n.held) [
        | inl some ↦ absurd (both_ways (is_held n) free (le-leb 1 n.held (omega arith)))
        | inr none ↦ omega arith
      ]

  vouched_round : IsVouched clocks (round u)
  unfolding any_round.round any_round.round_with
  vouched_round =
      let cs = u.ring.circuits.circuits in
      let t = u.ring.rounds + 1 in record {
        whole = whole_round u s.whole;
        aside = λ p h. inl (none_left p h);
        working = λ p m d line h there low high. (let hp : p < length u.ring.nodes = omega (arith, length-after u) in
            let w = working_walk rs (length u.ring.ids) spans inhabited cs ring_u p m d (below_u p hp) in
            sent_bears (HoldsAtMost cs clocks t) (carried_holds cs clocks t) u s.whole (circuits_at (length u.ring.ids) cs p m d) d p m d
            line hp low (omega arith) there
            (working_sent clocks rs u s w.spans (came_last w.spans w.within) p m d w.last hp low high w.over w.leads));
        protection = λ p m d line h there low high. (let hp : p < length u.ring.nodes = omega (arith, length-after u) in
            let w = protection_walk rs (length u.ring.ids) spans inhabited cs ring_u p m d (below_u p hp) in
            sent_bears (HoldsAtMost cs clocks t) (carried_holds cs clocks t) u s.whole
            (spoken_of u.ring.ids cs m (opposite d) (last_word_on d (node_at (round u).ring.nodes p))) (opposite d) p
            (slots_of (layout_of u) + m) d line hp (omega arith) (omega arith) there
            (protection_sent clocks rs u s w.spans (came_last w.spans w.within) p m d w.last hp low high w.over w.leads));
      }

  pub window_vouched : IsVouched clocks (run last v)
  window_vouched = subst (IsVouched clocks) is_last vouched_round

  -- ---- shields

  module _ (x : ℕ) (e : Side) (f : Option Pos) (hx : x < n) (is : (node_at (run last v).ring.nodes x).state ≡ Switch (opposite e) f) where
    stays : settled rs x ≡ Switch (opposite e) f
    stays = sym (settled_at law v whole last ends last (omega (arith, enough)) (omega arith) x hx) ∙ is

    inside : (j : ℕ) → x < length (run j v).ring.nodes
    inside j = omega (arith, nodes_run v whole j)

    switched_in : (j : ℕ) → last < suc j + 3 * n → j < last → (node_at (round (run j v)).ring.nodes x).state ≡ Switch (opposite e) f
    switched_in j low high = states_in j low high x (omega (arith, ap length (ids_are j))) ∙ stays

    begins : Shields clocks 0 0 (run (last - n) v) x e
    begins = record {
      says = λ z. absurd (omega arith);
      words = λ q g h less from. absurd (omega arith);
      ends = λ q g h less z. absurd (omega arith);
      content = λ q m line h less there low high. absurd (omega arith);
    }

    -- after i rounds of the last n, shields reach i steps
    grow : (i : ℕ) → i ≤ n → Shields clocks i 0 (run (i + (last - n)) v) x e
    grow zero few = subst (λ j. Shields clocks 0 0 (run j v) x e) (let z : last - n ≡ 0 + (last - n) = omega arith in z) begins
    grow (suc i) few =
        let j = i + (last - n) in
        let low : last < suc j + 3 * n = omega (arith, long) in
        let high : j < last = omega (arith, long) in
        subst (λ a. Shields clocks (suc i) 0 (run a v) x e) (let z : suc j ≡ suc i + (last - n) = omega arith in z)
        (subst (λ (y : World). Shields clocks (suc i) 0 y x e) (sym (one_run v j))
        (subst (λ a. Shields clocks a 0 (round (run j v)) x e) (let z : i + 1 ≡ suc i = omega arith in z)
        (grown clocks (run j v) (whole_run v j whole) x e (inside j) i 0 (grow i (omega arith)) f (switched_in j low high)
        (λ q h held. absurd (both_ways (is_held (node_at (run j v).ring.nodes q)) (free_in j low high q h) held)))))

    worded : Shields clocks n 0 (run last v) x e
    worded = subst (λ a. Shields clocks n 0 (run a v) x e) (let z : n + (last - n) ≡ last = omega (arith, long) in z) (grow n (omega arith))

    end_at : EndsBefore clocks rs x e f stays n
    end_at q g h z =
        let low : q < length (run last v).ring.nodes = omega (arith, nodes_run v whole last) in
        let same = ap length (ids_are last) in
        let few = steps_few n (omega (arith, enough)) e x q in
        subst (λ a. (g.0 < a) × (steps a e x g.0 < steps a e x q)) same
        (worded.ends q g low (subst (λ a. steps a e x q < n) (sym same) few)
        (settled_at law v whole last ends last (omega (arith, enough)) (omega arith) q h ∙ z))

    end_in : (j : ℕ) → EndsBefore clocks rs x e f stays (length (run j v).ring.ids)
    end_in j = subst (λ (ids : List ℕ). EndsBefore clocks rs x e f stays (length ids)) (sym (ids_are j)) end_at

    theirs_in : (k j : ℕ) → last < suc j + 3 * n → j < last → last + k < suc j + 3 * n → TheirsSent clocks rs x e f stays k (run j v)
    unfolding any_run.run
    theirs_in zero j low high few = theirs_none clocks rs x e f stays (run j v) (steady j low high) (inside j) (end_in j)
    theirs_in (suc k) zero low high few = absurd (omega (arith, long))
    theirs_in (suc k) (suc j) low high few =
        theirs_next clocks rs x e f stays (run j v) (steady j (omega arith) (omega arith)) (steady (suc j) low high) (inside j) (end_in j) k
        (came_in (suc k) (suc j) low high few) (theirs_in k j (omega arith) (omega arith) (omega arith))

    abbrev Theirs : World → Type 0
    Theirs y =
        (q m : ℕ) (line : List ℕ) → q < length y.ring.nodes → carried_on y.fibres (fibre q (opposite e)) ≡ Some line → 1 ≤ m
        → m ≤ slots_of (layout_of y)
        → HoldsAtMost y.ring.circuits.circuits clocks y.ring.rounds
        (streams_to e (circuits_at (length y.ring.ids) y.ring.circuits.circuits x m (opposite e))) (au_in y (slots_of (layout_of y) + m) line)

    theirs_round : Theirs (round u)
    unfolding any_round.round any_round.round_with
    theirs_round q m line h there low high =
        let cs = u.ring.circuits.circuits in
        let t = u.ring.rounds + 1 in
        let hq : q < length u.ring.nodes = omega (arith, length-after u) in
        let w = protection_walk rs (length u.ring.ids) spans inhabited cs ring_u q m (opposite e) (below_u q hq) in
        let within = w.within in
        sent_bears (HoldsAtMost cs clocks t) (carried_holds cs clocks t) u s.whole (circuits_at (length u.ring.ids) cs x m (opposite e)) e q
        (slots_of (layout_of u) + m) (opposite e) line hq (omega arith) (omega arith) there
        (theirs_in w.spans j (omega (arith, enough, some)) (omega (arith, some)) (omega (arith, enough, some, size_u, inhabited)) q m w.last hq low
        high w.leads w.over)

    shield_last : Shields clocks n n (run last v) x e
    shield_last =
        let theirs_last = subst Theirs is_last theirs_round in record {
          says = worded.says;
          words = worded.words;
          ends = worded.ends;
          content = λ q m line h less there low high. theirs_last q m line h there low high;
        }

  pub window_shields : AllShielded clocks (run last v)
  window_shields x e f h is =
      let size = nodes_run v whole last in
      subst (λ (ids : List ℕ). Shields clocks (length ids) (length ids) (run last v) x e) (sym (ids_are last))
      (shield_last x e f (omega arith) is)
