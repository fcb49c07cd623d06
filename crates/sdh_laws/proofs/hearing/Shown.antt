-- What changes leave of the parities that sections keep, and the violations that a side counts.
use Rattle.std.proofs.Common.{◌≡◌, ℕ, ◌*◌, ◌<◌, List, [], ◌∷◌, length, refl, ap, sym, subst, ◌∙◌, inl, inr, arith}
use Rattle.std.proofs.lemmas.Bool.{cases_Bool}
use Rattle.sdh_ringmap.specs.Rates.{n_of}
use Rattle.sdh_ringmap.specs.declared.Side.{Side}
use Rattle.sdh_ringmap.specs.declared.Side.TheVariants.{West, East}
use Rattle.sdh_ringmap.specs.Places.{neighbour, opposite}
use Rattle.sdh_request.specs.declared.Command.{Command}
use Rattle.sdh_parity.specs.Scrambling.{scrambled}
use Rattle.sdh_overhead.specs.Sections.{b2_violations}
use Rattle.sdh_ringmap.specs.Fibres.{fibre, fibre_to, is_cut}
use Rattle.sdh_plant.specs.Arrivals.{carried_on}
use Rattle.sdh_node.specs.Receiving.{Receiving, commanded_by}
use Rattle.sdh_node.specs.Node.{Node, receiving_on, sending_on, at_receiving, held_for, slips_at}
use Rattle.sdh_node.specs.Rings.Held.{node_at, AtEach, place_of_port}
use Rattle.sdh_node.specs.Rings.Rounds.{World, round}
use Rattle.sdh_restoration.specs.Changes.{Change, Fibre, Order, Hold, Slip, Now}
use Rattle.sdh_node.specs.Rings.Changes.{changed, all_changed}
use Rattle.sdh_node.specs.Rings.Sides.{condition_to}
use Rattle.sdh_laws.specs.Hearing.Signalling.{CountsViolations}
use Rattle.sdh_spans.specs.Frames.{violations_shown}
use Rattle.sdh_spans.proofs.Finding.{b2_by}
use Rattle.sdh_spans.proofs.Parities.{b2_through}
use Rattle.sdh_laws.specs.Hearing.Laws.{IsWhole, ViolationsAreOfTheRoundBefore}
use Rattle.sdh_laws.proofs.hearing.Staying.{left_all}
use Rattle.sdh_laws.proofs.hearing.Nodes.{count, length-after}
use Rattle.sdh_laws.proofs.hearing.Rounds.{same_line, neighbour_inside, sent_to, arrival_cut, arrival_word, word_goes, whole_round}
use Rattle.sdh_laws.proofs.hearing.Changes.{each_at_place, sending_commanded, LeavesSides, held_leaves, slips_leave, with_node, whole_all}
use Rattle.sdh_laws.proofs.hearing.Violations.{KeepsParities, ShowsSo, shows_later}
use Rattle.sdh_laws.proofs.hearing.Follows.{Keeps, keeps_one}
use Rattle.sdh_rounds.specs.Rounds as any_round

pub section_commanded : (d e : Side) (c : Command) (n : Node)
    → (receiving_on e (at_receiving d (commanded_by c) n)).section ≡ (receiving_on e n).section
section_commanded West West c n = refl
section_commanded West East c n = refl
section_commanded East West c n = refl
section_commanded East East c n = refl

pub keeps_left : (f : Node → Node) → LeavesSides f → (p : ℕ) (w : World) → Keeps w → Keeps (with_node p f w)
keeps_left f leaves p w k =
    λ e. each_at_place (λ q n. KeepsParities w.ring.settings.rate w.ring.rounds (carried_on w.fibres (fibre q e))
    (sending_on e n).section.last) f
    (λ q n h line some there. ap (λ y. y.section.last) (leaves.sending e n) ∙ h line some there) p w.ring.nodes (k e)

pub keeps_changed : (c : Change) (w : World) → Keeps w → Keeps (changed c w)
unfolding changed
keeps_changed (Fibre p d c) w k = k
keeps_changed (Order p d c) w k =
    λ e. each_at_place (λ q n. KeepsParities w.ring.settings.rate w.ring.rounds (carried_on w.fibres (fibre q e))
    (sending_on e n).section.last) (at_receiving d (commanded_by c))
    (λ q n h line some there. ap (λ y. y.section.last) (sending_commanded d e c n) ∙ h line some there) p w.ring.nodes (k e)
keeps_changed (Hold p turns) w k = keeps_left (held_for turns) (held_leaves turns) p w k
keeps_changed (Slip id turn count) w k = keeps_left (slips_at id turn count) (slips_leave id turn count) (place_of_port w.ring id) w k
keeps_changed (Now t) w k = k

keeps_all : (cs : List Change) (w : World) → Keeps w → Keeps (all_changed cs w)
keeps_all [] w k = k
keeps_all (c ∷ cs) w k = keeps_all cs (changed c w) (keeps_changed c w k)

-- the frame on the fibre to each position shows the number of violations that `shown` gives
abbrev pub AllShow : (ℕ → Side → ℕ) → World → Type 0
AllShow shown w =
    (d : Side) → AtEach (λ p n. ShowsSo w.ring.settings.rate (shown p d) w.ring.rounds
    (carried_on w.fibres (fibre_to (length w.ring.ids) p d)) (receiving_on d n).section.last) w.ring.nodes

pub shows_left : (shown : ℕ → Side → ℕ) (f : Node → Node) → LeavesSides f → (p : ℕ) (w : World) → AllShow shown w
    → AllShow shown (with_node p f w)
shows_left shown f leaves p w k =
    λ e. each_at_place (λ q n. ShowsSo w.ring.settings.rate (shown q e) w.ring.rounds
    (carried_on w.fibres (fibre_to (length w.ring.ids) q e)) (receiving_on e n).section.last) f
    (λ q n h. subst (λ (y : Receiving). ShowsSo w.ring.settings.rate (shown q e) w.ring.rounds
    (carried_on w.fibres (fibre_to (length w.ring.ids) q e)) y.section.last) (sym (leaves.receiving e n)) h) p w.ring.nodes (k e)

pub shows_changed : (shown : ℕ → Side → ℕ) (c : Change) (w : World) → AllShow shown w → AllShow shown (changed c w)
unfolding changed
shows_changed shown (Fibre p d c) w k = k
shows_changed shown (Order p d c) w k =
    λ e. each_at_place (λ q n. ShowsSo w.ring.settings.rate (shown q e) w.ring.rounds
    (carried_on w.fibres (fibre_to (length w.ring.ids) q e)) (receiving_on e n).section.last) (at_receiving d (commanded_by c))
    (λ q n h. subst (λ y. ShowsSo w.ring.settings.rate (shown q e) w.ring.rounds
    (carried_on w.fibres (fibre_to (length w.ring.ids) q e)) y.last) (sym (section_commanded d e c n)) h) p w.ring.nodes (k e)
shows_changed shown (Hold p turns) w k = shows_left shown (held_for turns) (held_leaves turns) p w k
shows_changed shown (Slip id turn count) w k =
    shows_left shown (slips_at id turn count) (slips_leave id turn count) (place_of_port w.ring id) w k
shows_changed shown (Now t) w k = k

shows_all : (shown : ℕ → Side → ℕ) (cs : List Change) (w : World) → AllShow shown w → AllShow shown (all_changed cs w)
shows_all shown [] w k = k
shows_all shown (c ∷ cs) w k = shows_all shown cs (changed c w) (shows_changed shown c w k)

-- what shows on the fibre is counted in what comes over it
counts : (w : World) (whole : IsWhole w) (p : ℕ) (d : Side) (k : ℕ) → 0 < w.ring.rounds
    → ShowsSo w.ring.settings.rate k w.ring.rounds (carried_on w.fibres (fibre_to (length w.ring.ids) p d))
    (receiving_on d (node_at w.ring.nodes p)).section.last
    → CountsViolations w p d k
counts w whole p d k some shows out comes = elim (cases_Bool (is_cut (condition_to w p d))) [
  | inl cut ↦ (let none = sym (arrival_cut w whole p d cut) ∙ comes in absurd (cc))
  | inr clear ↦
      let rate = w.ring.settings.rate in
      let n = n_of rate in
      let last = (receiving_on d (node_at w.ring.nodes p)).section.last in
      let sent = sent_to w whole p d some in
      let came = arrival_word w whole p d some clear in
      let goes = word_goes w whole p d some clear sent.line sent.there in
      ap (λ y. b2_violations n last (scrambled (9 * n) y)) (same_line out came.line _ comes came.there)
      ∙ b2_by n last _ _ (b2_through rate (condition_to w p d) sent.line came.line sent.says.size goes)
      ∙ shows sent.line some sent.there
]

pub violations_are_of_the_round_before : ViolationsAreOfTheRoundBefore
unfolding any_round.round any_round.round_with
violations_are_of_the_round_before w first second p d whole may may_then h =
    let one = round w in
    let whole_one = whole_round w whole in
    let before = all_changed first one in
    let whole_before : IsWhole before = whole_all first one may whole_one in
    let two = round before in
    let whole_two = whole_round before whole_before in
    let now = all_changed second two in
    let whole_now : IsWhole now = whole_all second two may_then whole_two in
    let shown : ℕ → Side → ℕ = λ q e. violations_shown (condition_to before q e) in
    let ran : 0 < before.ring.rounds = (let e = (left_all first one).rounds in omega arith) in
    let shows_two : AllShow shown two = λ e q low.
    (let inside : q < length before.ring.nodes = (let len = length-after before in omega arith) in
    shows_later before whole_before q e inside ran (keeps_all first one (keeps_one w whole) (opposite e)
    (neighbour (length before.ring.ids) q e) (neighbour_inside before whole_before q e))) in
    let shows_now = shows_all shown second two shows_two in
    let ran_now : 0 < now.ring.rounds = (let e = (left_all second two).rounds in omega arith) in
    let inside : p < length now.ring.nodes =
    (let ids_one = ap (λ (ids : List ℕ). length ids) (left_all first one).ids in
    let ids_two = ap (λ (ids : List ℕ). length ids) (left_all second two).ids in
    let a = count w whole.placed in
    let b = count now whole_now.placed in
    omega arith) in
    counts now whole_now p d (shown p d) ran_now (shows_now d p inside)
