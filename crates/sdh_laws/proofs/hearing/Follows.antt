-- In each round a side keeps its history: what it asks for is what the fibres, the commands and the moments say.
use Rattle.std.proofs.Common.{◌≡◌, ℕ, suc, ◌+◌, ◌-◌, ◌<◌, ◌≤◌, Bool, true, List, length, get_or, ap, sym, subst, ◌∙◌, arith, inl, inr}
use Rattle.std.specs.Prelude.{◌&&◌, not, nat_le, if◌then◌else◌}
use Rattle.std.proofs.lemmas.Bool.{cases_lt, cases_Bool, le-leb}
use Rattle.std.proofs.lemmas.List.{get_or-map}
use Rattle.sdh_ringmap.specs.declared.terms.Rate.{Rate}
use Rattle.sdh_ringmap.specs.declared.Side.{Side}
use Rattle.sdh_ringmap.specs.Places.{neighbour, opposite}
use Rattle.sdh_request.specs.declared.Command.TheVariants as command
use Rattle.sdh_request.specs.declared.Defect.TheVariants as defect
use Rattle.sdh_restoration.specs.History.{SideHistory, defect_at, local_request}
use Rattle.sdh_ringmap.specs.declared.terms.Condition.{Condition}
use Rattle.sdh_ringmap.specs.declared.terms.Condition.TheVariants.{Clear}
use Rattle.sdh_plant.specs.Fibres.{Arrival}
use Rattle.sdh_ringmap.specs.Fibres.{fibre, fibre_to, is_cut, degraded_by}
use Rattle.sdh_plant.specs.Arrivals.{carried_on}
use Rattle.sdh_request.specs.declared.settings.Settings.{Settings}
use Rattle.sdh_terminal.specs.Receiving.{Reception}
use Rattle.sdh_node.specs.Receiving.{Receiving, local_after}
use Rattle.sdh_node.specs.Node.{receiving_on, sending_on}
use Rattle.sdh_node.specs.Rings.Rounds.{World, round, round_with}
use Rattle.sdh_restoration.specs.Sides.{Holding}
use Rattle.sdh_node.specs.Rings.Sides.{command_on, holding_of, condition_to}
use Rattle.sdh_rounds.proofs.Runs.{conditions_round}
use Rattle.sdh_spans.specs.Frames.{violations_shown}
use Rattle.sdh_laws.specs.Hearing.Laws.{IsWhole}
use Rattle.sdh_laws.proofs.hearing.Nodes.{count, length-after}
use Rattle.sdh_laws.proofs.hearing.Rounds.{neighbour_inside, made, nothing_found, defect_cut, took_is, whole_round}
use Rattle.sdh_laws.proofs.hearing.Violations.{KeepsParities, ShowsSo, defect_shown, shows_first, shows_later, keeps_after}
use Rattle.sdh_laws.proofs.hearing.Histories.{KeepsHistory, keeps_more, request_more, shown, shows_defect, cut_defect, first_defect}
use Rattle.sdh_node.specs.Rings.Held.{nowhere, node_at, AtEach}
use Rattle.sdh_node.specs.Stations.{adm}
use Rattle.sdh_rounds.specs.Rounds as any_round
use Rattle.sdh_rounds.proofs.Terms.{terms}

-- ---- what a round leaves of all nodes

-- the sides that send keep the parities of what they sent
abbrev pub Keeps : World → Type 0
Keeps w =
    (d : Side) → AtEach (λ p n. KeepsParities w.ring.settings.rate w.ring.rounds (carried_on w.fibres (fibre p d))
    (sending_on d n).section.last) w.ring.nodes

pub keeps_one : (w : World) → IsWhole w → Keeps (round w)
unfolding any_round.round any_round.round_with
keeps_one w whole d p h = keeps_after w whole p d (let len = length-after w in omega arith)

pub condition_after : (xs : List Arrival) (w : World) (p : ℕ) (d : Side) → condition_to (round_with xs w) p d ≡ condition_to w p d
unfolding any_round.round_with
condition_after xs w p d = ap (λ cs. get_or cs (fibre_to (length w.ring.ids) p d) Clear) (conditions_round adm xs w)

-- ---- histories

-- round t of a history is as this holds
pub record Matches (h : SideHistory) (t : ℕ) (now : Holding) : Type 0 where
  pub cut : h.is_cut t ≡ is_cut now.condition
  pub degraded : h.degraded t ≡ degraded_by now.condition
  pub command : h.command t ≡ now.command
  pub moment : h.moment t ≡ now.moment

-- what holds on each side in the next round is what its history says
abbrev pub Tells : (ℕ → Side → SideHistory) → World → Type 0
Tells hist w = (p : ℕ) (d : Side) → p < length w.ring.ids → Matches (hist p d) w.ring.rounds (holding_of (length w.ring.ids) p d w)

-- what a side that receives keeps after this number of rounds of a history, and what it asked for in the last one
pub record FollowsSide (s : Settings) (h : SideHistory) (rounds : ℕ) (r : Receiving) : Type 0 where
  pub keeps : KeepsHistory s.threshold s.wait h rounds r.local
  pub request : (t : ℕ) → rounds ≡ suc t → r.request ≡ local_request s.threshold s.wait h t

-- a world that came about by these histories
pub record Follows (s : Settings) (ids : List ℕ) (hist : ℕ → Side → SideHistory) (w : World) : Type 0 where
  pub settings_are : w.ring.settings ≡ s
  pub ids_are : w.ring.ids ≡ ids
  pub whole : IsWhole w
  pub keeps : Keeps w
  pub sides : (d : Side) → AtEach (λ p n. FollowsSide w.ring.settings (hist p d) w.ring.rounds (receiving_on d n)) w.ring.nodes
  pub shows : (d : Side) → AtEach (λ p n. ShowsSo w.ring.settings.rate (shown (hist p d) w.ring.rounds) w.ring.rounds
      (carried_on w.fibres (fibre_to (length w.ring.ids) p d)) (receiving_on d n).section.last) w.ring.nodes

-- ---- a round

module _ (given : Settings) (ids : List ℕ) (hist : ℕ → Side → SideHistory) (w : World) (follows : Follows given ids hist w)
    (tells : Tells hist w) where
  abbrev size : ℕ
  size = length w.ring.ids

  abbrev s : Settings
  s = w.ring.settings

  abbrev rate : Rate
  rate = s.rate

  open terms w use {t}

  abbrev whole : IsWhole w
  whole = follows.whole

  module _ (p : ℕ) (d : Side) (h : p < length w.ring.nodes) where
    abbrev hi : SideHistory
    hi = hist p d

    abbrev c : Condition
    c = condition_to w p d

    abbrev r : Receiving
    r = receiving_on d (node_at w.ring.nodes p)

    low : p < size
    low = omega (arith, count w whole.placed)

    cut_now : hi.is_cut t ≡ is_cut c
    unfolding holding_of
    cut_now = (tells p d low).cut

    degraded_now : hi.degraded t ≡ degraded_by c
    unfolding holding_of
    degraded_now = (tells p d low).degraded

    command_now : r.local.command ≡ hi.command t
    unfolding holding_of
    command_now = sym ((tells p d low).command ∙ get_or-map (command_on d) w.ring.nodes p nowhere command.Clear h)

    moment_now : w.ring.moment ≡ hi.moment t
    unfolding holding_of
    moment_now = sym (tells p d low).moment

    abbrev new_defect : Reception
    new_defect = made w whole p d

    defect_now : 1 ≤ s.threshold → new_defect.defect ≡ defect_at s.threshold hi t
    defect_now least = elim (cases_lt 0 t) [
      | inr none ↦ (let z : t ≡ 0 = omega arith in (nothing_found w whole p d z).defect
          ∙ sym (ap (defect_at s.threshold hi) z ∙ first_defect s.threshold hi))
      | inl some ↦ (let e : suc (t - 1) ≡ t = omega arith in elim (cases_Bool (is_cut c)) [
        | inl cut ↦ defect_cut w whole p d some h cut ∙ sym
            (ap (defect_at s.threshold hi) (sym e) ∙ cut_defect s.threshold hi (t - 1) (ap hi.is_cut e ∙ cut_now ∙ cut))
        | inr clear ↦
            defect_shown w whole p d h some clear (shown hi t) (follows.shows d p h)
            ∙ ap (λ b. if nat_le s.threshold b then defect.Sd else defect.None) (ap (shown hi) (sym e))
            ∙ sym (ap (defect_at s.threshold hi) (sym e) ∙ shows_defect s.threshold hi (t - 1) least (ap hi.is_cut e ∙ cut_now ∙ clear))
      ])
    ]

    -- what the side keeps after the round
    abbrev after : Receiving
    after = receiving_on d (node_at (round w).ring.nodes p)

    side_after : 1 ≤ s.threshold → FollowsSide s hi (t + 1) after
    side_after least =
        let took = took_is w whole p d h in
        let def = defect_now least in
        let was = (follows.sides d p h).keeps in
        let k = keeps_more s.threshold s.wait hi t r.local was w.ring.moment new_defect.defect def moment_now command_now in
        let q = request_more s.threshold s.wait hi t r.local was w.ring.moment new_defect.defect def moment_now command_now in
        record {
          keeps =
              subst (KeepsHistory s.threshold s.wait hi (t + 1)) (sym took.local)
              (subst (λ m. KeepsHistory s.threshold s.wait hi m (local_after w.ring.moment new_defect.defect r.local))
              (let e : suc t ≡ t + 1 = omega arith in e) k);
          request = λ u e. (let same : t ≡ u = omega arith in took.request ∙ q ∙ ap (local_request s.threshold s.wait hi) same);
        }

    -- what the next frame shows the side
    two_or_more : 0 < t → nat_le 2 (t + 1) ≡ true
    two_or_more some = le-leb 2 (t + 1) (omega arith)

    back : t + 1 - 1 ≡ t
    back = omega arith

    shown_more : 0 < t → violations_shown c ≡ shown hi (t + 1)
    shown_more some = elim (cases_Bool (is_cut c)) [
      | inl cut ↦ ap (λ (b : Bool). if b then 0 else degraded_by c) cut ∙ sym (
          ap (λ b. if b && not (hi.is_cut (t + 1 - 1)) then hi.degraded (t + 1 - 1) else 0) (two_or_more some)
          ∙ ap (λ (b : Bool). if b then hi.degraded (t + 1 - 1) else 0) (ap not (ap hi.is_cut back ∙ cut_now ∙ cut)))
      | inr clear ↦ ap (λ (b : Bool). if b then 0 else degraded_by c) clear ∙ sym (
          ap (λ b. if b && not (hi.is_cut (t + 1 - 1)) then hi.degraded (t + 1 - 1) else 0) (two_or_more some)
          ∙ ap (λ (b : Bool). if b then hi.degraded (t + 1 - 1) else 0) (ap not (ap hi.is_cut back ∙ cut_now ∙ clear))
          ∙ ap hi.degraded back ∙ degraded_now)
    ]

    shows_after : ShowsSo rate (shown hi (t + 1)) (t + 1) (carried_on (round w).fibres (fibre_to size p d)) after.section.last
    shows_after l more there = elim (cases_lt 0 t) [
      | inr none ↦ (let z : t ≡ 0 = omega arith in shows_first w whole p d h z l more there
          ∙ sym (ap (shown hi) (let one : t + 1 ≡ 1 = omega arith in one)))
      | inl some ↦ shows_later w whole p d h some (follows.keeps (opposite d) (neighbour size p d)
          (neighbour_inside w whole p d)) l more there ∙ shown_more some
    ]

  -- a round more
  pub turned : 1 ≤ s.threshold → Follows given ids hist (round w)
  unfolding any_round.round any_round.round_with
  turned least =
      let len = length-after w in
      record {
        settings_are = follows.settings_are;
        ids_are = follows.ids_are;
        whole = whole_round w whole;
        keeps = keeps_one w whole;
        sides = λ d p h. side_after p d (omega arith) least;
        shows = λ d p h. shows_after p d (omega arith);
      }
