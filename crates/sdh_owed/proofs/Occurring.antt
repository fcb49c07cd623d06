-- A ring of three after slips, a cut span and a held controller.
use Rattle.std.proofs.Common.{◌≡◌, ℕ, ◌+◌, suc, ◌-◌, ◌<◌, ◌≤◌, Bool, true, false, Option, List, [], ◌∷◌, ◌++◌, length, refl, ap, sym, ◌∙◌}
use Rattle.std.proofs.Common.{subst, arith, inl, inr}
use Rattle.std.specs.Prelude.{◌||◌, nat_lt, if◌then◌else◌, option_map}
use Rattle.std.proofs.lemmas.Bool.Decides.{nat_tests}
use Rattle.sdh_ringmap.specs.Requests.{code_number}
use Rattle.sdh_ringmap.specs.Fibres.{is_cut}
use Rattle.sdh_ringmap.specs.Places.{span_at}
use Rattle.sdh_ringmap.specs.declared.Pos.{Pos}
use Rattle.sdh_ringmap.specs.declared.Side.TheVariants.{West, East}
use Rattle.sdh_request.specs.declared.Defect.TheVariants as defect
use Rattle.sdh_request.specs.Requests.{waits, highest_code}
use Rattle.sdh_request.proofs.Highest.{at_least_sf}
use Rattle.sdh_restoration.specs.Applied.{span_requests, applies, is_applied, is_any_applied}
use Rattle.sdh_restoration.specs.Routes.{hops}
use Rattle.sdh_restoration.specs.Due.{due, sends_by}
use Rattle.sdh_restoration.specs.Happened.{happened}
use Rattle.sdh_ringmap.specs.Arcs.{is_clear, is_joined}
use Rattle.sdh_basics.specs.Cells.{cells}
use Rattle.sdh_circuits.specs.Provisioned.{arc_of, customer_at}
use Rattle.sdh_circuits.specs.Ends.{other_end, port_id}
use Rattle.sdh_payload.specs.Outlet.{Outlet, silent}
use Rattle.sdh_laws.specs.Strangers.Transit.{once_round}
use Rattle.sdh_restoration.specs.History.{SideHistory, shows_degraded, defect_at, ends_at, last_end, local_request}
use Rattle.sdh_restoration.proofs.Asked.{length-requests, asked_is_applied}
use Rattle.sdh_signal.specs.Laws.{StillRingsAreSettled}
use Rattle.sdh_signal.specs.Settled.{far_end, is_outranked, settled_by, settled}
use Rattle.sdh_plant.specs.Fibres.{Fibres, IsHonest}
use Rattle.sdh_node.specs.Rings.Rounds.{World}
use Rattle.sdh_node.specs.Rings.Runs.{run, course}
use Rattle.sdh_node.specs.Rings.Quiet.{EndsWindow}
use Rattle.sdh_node.specs.Rings.Changes.{all_changed}
use Rattle.sdh_node.specs.Rings.Laws.{MayHappen}
use Rattle.sdh_restoration.specs.Changes.{Change, Stretch, rounds_in}
use Rattle.sdh_restoration.specs.Sides.{Holding, new_holding, all_holding, side_history}
use Rattle.sdh_restoration.specs.Sides.{asked_in}
use Rattle.sdh_laws.specs.Hearing.Laws.{IsWhole}
use Rattle.sdh_laws.specs.Carrying.Windows.{layout_of, HasCircuits}
use Rattle.sdh_laws.specs.Converging.Laws.{WindowsComeSoon}
use Rattle.sdh_laws.specs.Strangers.Laws.{IsNoPass, last_requests, HoldNonePassing, EndQuietly, AHoldSpoilsItsOwnStepAlone}
use Rattle.sdh_laws.proofs.hearing.Requests.{whole_last}
use Rattle.sdh_laws.proofs.hearing.Staying.{left_all, left_run}
use Rattle.sdh_laws.proofs.carrying.Settles.{layout_all}
use Rattle.sdh_laws.specs.Converging.Rings.{settings, three, c1, one_circuit, ARingOccurs}
use Rattle.sdh_owed.specs.Course.{stretch, IsLate}
use Rattle.sdh_owed.specs.Strangers.{IsOldest, IsUnheld}
use Rattle.sdh_owed.specs.Occurring.{slipping, cutting, seven_held, ring_of_three, three_over, IsOwedBehind, ComesRound, ThreeAreOwedSoon}
use Rattle.sdh_owed.specs.Occurring.{cutting_held, mending, mending_held, GetsItsOwn, GetsItAfterTransit, ThreeGetTheirOwn, ThreeMeetNoStrangers}
use Rattle.sdh_owed.proofs.Soon.{RestoredSoon, ready_new, followed_new, owed_soon, joined_soon}
use Rattle.sdh_owed.proofs.Course.{strangers, transit, recent}

module _ (occurs : ARingOccurs) (laws : RestoredSoon) (f : Fibres) (honest : IsHonest f) where
  owed_behind : (changes : List Change) (k : ℕ) → MayHappen (three_over f) (stretch changes k ∷ []) → IsLate (length three) changes k
      → IsOwedBehind f changes k
  owed_behind changes k happens late = record {
    happens = happens;
    late = late;
    shows = owed_soon settings three one_circuit f (occurs f honest).may (occurs f honest).circuits [] (stretch changes k) k happens
        (ready_new settings three one_circuit f) (followed_new settings three one_circuit f (occurs f honest).may laws) laws late;
  }

-- ---- once round the ring

-- the requests of the spans in the last of 26 rounds after the cut
abbrev cut_requests : List ℕ
cut_requests = span_requests 3 (asked_in 1 5 3 (stretch cutting 26 ∷ []) 25)

goes_round : is_joined 3 (is_applied cut_requests) (arc_of 3 c1) ≡ true
unfolding span_requests cells applies is_clear is_joined local_request defect_at last_end ends_at
goes_round = refl

three_spans : hops 3 (is_applied cut_requests) (arc_of 3 c1) ≡ 3
unfolding span_requests cells applies is_clear is_joined hops local_request defect_at last_end ends_at
three_spans = refl

module _ (occurs : ARingOccurs) (laws : RestoredSoon) (f : Fibres) (honest : IsHonest f) where
  comes_round : ComesRound f
  unfolding due
  comes_round = record {
    transit = once_round 1 (omega arith) (omega arith) refl;
    comes = λ e. (let now = stretch cutting 26 ∷ [] in
        let sends : ℕ → Outlet = λ k. sends_by (customer_at c1 (other_end e)) (happened now (port_id 0 (other_end e)) k) in
        joined_soon settings three one_circuit f (occurs f honest).may (occurs f honest).circuits [] (stretch cutting 26) 26 ((tt, (tt, tt)), tt)
        (ready_new settings three one_circuit f) (followed_new settings three one_circuit f (occurs f honest).may laws) laws (tt, (tt, tt)) 0 c1
        refl e goes_round (omega (arith, three_spans))
        ∙ (λ k. if goes_round k then sends (25 - three_spans k) else silent));
  }

pub three_are_owed_soon : ARingOccurs → RestoredSoon → ThreeAreOwedSoon
three_are_owed_soon occurs laws f honest = record {
  slips = owed_behind occurs laws f honest slipping 85 (((occurs f honest).happen.0.0, tt), tt)
      (inr (inl ((tt, tt), omega arith, omega arith)));
  cut = owed_behind occurs laws f honest cutting 26 ((tt, (tt, tt)), tt) (inl ((tt, (tt, tt)), omega arith));
  hold = owed_behind occurs laws f honest seven_held 33 ((omega arith, tt), tt) (inl ((tt, tt), omega arith));
  round = comes_round occurs laws f honest;
}

-- ---- a node beside a span that is cut is switched

-- a side whose fibre is cut asks for a switch
cut_asks : (threshold wait : ℕ) (h : SideHistory) (t : ℕ) → h.is_cut (suc t) ≡ true → 11 ≤ code_number (local_request threshold wait h (suc t))
unfolding local_request defect_at
cut_asks threshold wait h t cut =
    let fails : defect_at threshold h (suc t) ≡ defect.Sf =
    ap (λ (b : Bool). if b then defect.Sf else if shows_degraded threshold h (suc t) then defect.Sd else defect.None) cut in
    subst (λ d. 11 ≤ code_number (highest_code (h.command (suc t)) d
    (waits wait d (h.moment (suc t)) (option_map h.moment (last_end threshold h (suc t)))))) (sym fails)
    (at_least_sf (h.command (suc t)) (waits wait defect.Sf (h.moment (suc t)) (option_map h.moment (last_end threshold h (suc t)))))

by_east : (a s : Bool) (x y : Option Pos) → IsNoPass (settled_by a true s x y)
by_east true s x y = tt
by_east false s x y = tt

beside_applied : (rs : List ℕ) (p : ℕ) → is_applied rs (span_at (length rs) p East) ≡ true → IsNoPass (settled rs p)
unfolding settled
beside_applied rs p applied =
    subst (λ b. IsNoPass (settled_by (is_applied rs (span_at (length rs) p West)) b (is_any_applied rs || is_outranked rs p) (far_end rs p West)
    (far_end rs p East))) (sym applied)
    (by_east (is_applied rs (span_at (length rs) p West)) (is_any_applied rs || is_outranked rs p) (far_end rs p West) (far_end rs p East))

module _ (k : ℕ) (some : 2 ≤ k) where
  abbrev cut : List Stretch
  cut = stretch cutting k ∷ []

  abbrev holds : Holding
  holds = all_holding 3 0 East cutting new_holding

  cut_then : (t : ℕ) → suc t < k → (side_history 3 0 East cut).is_cut (suc t) ≡ true
  cut_then t low =
      let within : nat_lt (suc t) k ≡ true = grind (arith, nat_tests) in
      ap (λ (b : Bool). is_cut (if b then holds else holds).condition) within

  asks_last : 11 ≤ code_number (asked_in 1 5 3 cut (rounds_in cut - 1) 0 East)
  asks_last =
      let last : suc (k - 2) ≡ rounds_in cut - 1 = omega (arith, some) in
      subst (λ t. 11 ≤ code_number (asked_in 1 5 3 cut t 0 East)) last
      (cut_asks 1 5 (side_history 3 0 East cut) (k - 2) (cut_then (k - 2) (omega (arith, some))))

  switched_then : IsNoPass (settled (last_requests 1 5 3 cut) 0)
  switched_then =
      let asked = asked_in 1 5 3 cut (rounds_in cut - 1) in
      let rs = last_requests 1 5 3 cut in
      beside_applied rs 0 (subst (λ n. is_applied rs (span_at n 0 East) ≡ true) (sym (length-requests 3 asked))
      (asked_is_applied 3 asked 0 East (omega arith) asks_last))

-- ---- whose bytes come

module _ (occurs : ARingOccurs) (still : StillRingsAreSettled) (spoils : AHoldSpoilsItsOwnStepAlone) (soon : WindowsComeSoon) (f : Fibres)
    (honest : IsHonest f) where
  gets : (earlier : List Stretch) (last : Stretch) → MayHappen (three_over f) (earlier ++ last ∷ [])
      → EndQuietly (three_over f) (earlier ++ last ∷ []) → HoldNonePassing 1 5 3 earlier last.changes → (t age : ℕ) → t < last.rounds
      → IsOldest ring_of_three earlier last.changes t age → GetsItsOwn f earlier last t age
  gets earlier last happens quiet held t age low old =
      let may = (occurs f honest).may in
      let form = (occurs f honest).circuits in
      let now = earlier ++ last ∷ [] in record {
        happens = happens;
        quiet = quiet;
        held = held;
        oldest = old;
        none = strangers settings three one_circuit f may form now happens quiet spoils earlier [] last refl held t low;
        recent = recent settings three one_circuit f may form now happens quiet still spoils earlier [] last refl t age low old;
      }

  gets_after_transit : (earlier : List Stretch) (last : Stretch) → MayHappen (three_over f) (earlier ++ last ∷ [])
      → EndQuietly (three_over f) (earlier ++ last ∷ []) → (t : ℕ) → t < last.rounds → IsUnheld ring_of_three last.changes t
      → GetsItAfterTransit f earlier last t
  gets_after_transit earlier last happens quiet t low unheld =
      let may = (occurs f honest).may in
      let form = (occurs f honest).circuits in record {
        happens = happens;
        quiet = quiet;
        unheld = unheld;
        comes = transit settings three one_circuit f may form (earlier ++ last ∷ []) happens quiet still spoils earlier [] last refl t low unheld;
      }

  -- the window that ends the cut
  abbrev begun : World
  begun = all_changed cutting (three_over f)

  whole_begun : IsWhole begun
  whole_begun = whole_last settings three one_circuit f [] (stretch cutting 0) (occurs f honest).may ((tt, (tt, tt)), tt)

  form_begun : HasCircuits (layout_of begun)
  form_begun = subst HasCircuits (sym (layout_all cutting (three_over f))) (occurs f honest).circuits

  ends : ℕ
  ends = (soon begun whole_begun form_begun).ends

  window : EndsWindow (course begun) ends
  unfolding ends
  window = (soon begun whole_begun form_begun).window

  long : 2 ≤ ends
  long =
      let many = window.long in
      let size : length (run ends begun).ring.ids ≡ 3 =
      ap (λ (l : List ℕ). length l) ((left_run ends begun).ids ∙ (left_all cutting (three_over f)).ids) in
      omega (arith, many, size)

  cut_held : HoldNonePassing 1 5 3 [] cutting_held
  cut_held = (tt, (tt, (tt, (inr (inl refl), tt))))

  mended_held : HoldNonePassing 1 5 3 (stretch cutting ends ∷ []) mending_held
  mended_held = (inr (inr (switched_then ends long)), (tt, (tt, tt)))

  happens_cut : MayHappen (three_over f) (stretch cutting_held 64 ∷ [])
  happens_cut = (((occurs f honest).happen.0.0, (tt, (tt, (omega arith, tt)))), tt)

  happens_mended : MayHappen (three_over f) (stretch cutting ends ∷ stretch mending_held 64 ∷ [])
  happens_mended = ((tt, (tt, tt)), ((omega arith, (tt, (tt, tt))), tt))

  pub got : ThreeGetTheirOwn f
  got = record {
    cut = λ t low. gets [] (stretch cutting_held 64) happens_cut tt cut_held t 32 low (inr (refl, cut_held));
    cut_later = λ t late low. gets [] (stretch cutting_held 64) happens_cut tt cut_held t 3 low
        (inl (refl, inr (let z : 26 ≤ t + 3 = omega arith in z)));
    cut_unheld = λ t low. gets [] (stretch cutting 64) ((tt, (tt, tt)), tt) tt (tt, (tt, tt)) t 3 low (inl (refl, inl (tt, (tt, tt))));
    rounds = ends;
    mended = λ t low. gets (stretch cutting ends ∷ []) (stretch mending_held 64) happens_mended (window, tt) mended_held t 32 low
        (inr (refl, mended_held));
    mended_later = λ t late low. gets (stretch cutting ends ∷ []) (stretch mending_held 64) happens_mended (window, tt) mended_held t 3 low
        (inl (refl, inr (let z : 26 ≤ t + 3 = omega arith in z)));
    mended_unheld = λ t low. gets (stretch cutting ends ∷ []) (stretch mending 64) ((tt, (tt, tt)), ((tt, (tt, tt)), tt)) (window, tt)
        (tt, (tt, tt)) t 3 low (inl (refl, inl (tt, (tt, tt))));
    cut_transit = λ t low. gets_after_transit [] (stretch cutting 64) ((tt, (tt, tt)), tt) tt t low (inl (tt, (tt, tt)));
    mended_transit = λ t low. gets_after_transit (stretch cutting ends ∷ []) (stretch mending 64) ((tt, (tt, tt)), ((tt, (tt, tt)), tt))
        (window, tt) t low (inl (tt, (tt, tt)));
    held_transit = λ t late low. gets_after_transit (stretch cutting ends ∷ []) (stretch mending_held 64) happens_mended (window, tt) t low
        (inr (let z : 26 ≤ t + 3 = omega arith in z));
  }

pub three_meet_no_strangers : ARingOccurs → StillRingsAreSettled → AHoldSpoilsItsOwnStepAlone → WindowsComeSoon → ThreeMeetNoStrangers
three_meet_no_strangers occurs still spoils soon f honest = got occurs still spoils soon f honest
