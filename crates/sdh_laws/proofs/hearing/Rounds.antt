-- A round of a ring whose nodes are in their places and whose fibres carry what they sent.
use Rattle.sdh_ringmap.specs.declared.terms.Rate.{Rate}
use Rattle.sdh_ringmap.specs.Rates.{n_of}
use Rattle.sdh_frame.specs.Aus.{au_of}
use Rattle.sdh_ringmap.specs.declared.Side.{Side}
use Rattle.sdh_ringmap.specs.declared.Side.TheVariants.{West, East}
use Rattle.sdh_ringmap.specs.Ids.{AreIds}
use Rattle.sdh_ringmap.specs.Places.{neighbour, opposite}
use Rattle.sdh_ringmap.proofs.Sides.{neighbour_below}
use Rattle.sdh_ringmap.specs.declared.terms.Code.{Code}
use Rattle.sdh_kbytes.specs.declared.Path.{Path}
use Rattle.sdh_kbytes.specs.declared.K.{K}
use Rattle.sdh_kbytes.specs.declared.Mark.TheVariants as mark
use Rattle.sdh_request.specs.declared.Defect.TheVariants as defect
use Rattle.sdh_request.specs.Kept as local
use Rattle.sdh_overhead.specs.Sections.{b2_violations}
use Rattle.sdh_parity.specs.Scrambling.{scrambled}
use Rattle.std.proofs.Common.{◌≡◌, ◌≢◌, ℕ, zero, suc, ◌+◌, ◌-◌, ◌*◌, ◌<◌, ◌≤◌, Bool, true, false, List, [], ◌∷◌, length, get_or, map}
use Rattle.std.proofs.Common.{replicate, Some, None, refl, ap, sym, subst, ◌∙◌, arith, inl, inr}
use Rattle.std.proofs.lemmas.List.{get_or_past}
use Rattle.std.specs.Prelude.{nat_le, if◌then◌else◌}
use Rattle.std.proofs.lemmas.Bool.{cases_lt, cases_Bool, cond-true, cond-false}
use Rattle.sdh_nodestate.specs.Rules.{Scene, word_on, word, own_word}
use Rattle.sdh_nodestate.specs.Filtering.{Brought, with_brought, hears}
use Rattle.sdh_nodestate.proofs.Filtering.{heard_last}
use Rattle.sdh_nodestate.specs.Words.{IsMember}
use Rattle.sdh_kbytes.specs.KBytes.{IsSpellable}
use Rattle.sdh_pointer.specs.declared.reading.Action.TheVariants as action
use Rattle.sdh_plant.specs.Fibres.{Arrival, IsPrepared, IsHonest}
use Rattle.sdh_ringmap.specs.Fibres.{IsConditionAt, fibre, fibre_to, is_cut}
use Rattle.sdh_ringmap.specs.declared.terms.Condition.TheVariants.{Clear}
use Rattle.sdh_plant.specs.Arrivals.{through, carried_on, condition_of}
use Rattle.sdh_request.specs.declared.settings.Settings.{Settings}
use Rattle.sdh_node.specs.Receiving as node
use Rattle.sdh_terminal.specs.Receiving.{Inlet, Reception, found, after_taking}
use Rattle.sdh_node.specs.Receiving.{Receiving, inlet_of}
use Rattle.sdh_terminal.specs.Sending.{Sending}
use Rattle.sdh_terminal.specs.Lines.{Line, line_on}
use Rattle.sdh_node.specs.Crossing.{is_failed, lines_of}
use Rattle.sdh_node.specs.Node.{Node, receiving_on, sending_on, is_held, crossing, last_word_on}
use Rattle.sdh_node.specs.Rings.Rounds.{World, round, round_with, arrivals_of, nodes_with, node_after, frames_of}
use Rattle.sdh_rounds.specs.Rounds.{arrival_at, sent_all}
use Rattle.sdh_rounds.proofs.Runs.{length-heard, prepared_round}
use Rattle.sdh_rounds.proofs.Honest.{honest_rounds}
use Rattle.sdh_spans.specs.Frames.{SaysWord, CarriesWord}
use Rattle.sdh_spans.specs.Sides.{IsSenderAt, FindsNothing, IsTold, FindsSo}
use Rattle.sdh_spans.specs.Spans.{line_after}
use Rattle.sdh_spans.proofs.Frames.{cut_is_dark, comes_through}
use Rattle.sdh_spans.proofs.Finding.{untold_sides_find_nothing, sides_find_so}
use Rattle.sdh_laws.specs.Hearing.Paired.{IsSourcedWord, KeepsSourced, FewWait, IsPaired}
use Rattle.sdh_laws.specs.Hearing.Signalling.{word_to, lines_at, Brings, Reads}
use Rattle.sdh_laws.specs.Hearing.Laws.{IsWhole, SidesBring, SidesRead, NoneSaysAis}
use Rattle.sdh_node.proofs.Decided.{scene_in, word_is, turns_left}
use Rattle.sdh_laws.proofs.hearing.OneNode.{told_inlet, Took, side_took, receiving_after, line_taken, word_has, own_no_ais, own_spellable}
use Rattle.sdh_laws.proofs.hearing.OneNode.{own_member, frame_on, frame_says, spelled, node_same}
use Rattle.sdh_node.specs.Rings.Held.{AtEach, node_at}
use Rattle.sdh_laws.proofs.hearing.Clocks.{few_round}
use Rattle.sdh_laws.proofs.hearing.Nodes.{told_to, told_first, told_later, informed, informed_on, informed_out, count, listening_at}
use Rattle.sdh_laws.proofs.hearing.Nodes.{nodes_after, length-after, placed_round, is_at}
use Rattle.sdh_node.specs.Rings.Sides.{condition_to}
use Rattle.sdh_node.specs.Stations.{adm}
use Rattle.sdh_rounds.specs.Rounds as any_round
use Rattle.sdh_rounds.proofs.Terms.{terms}

pub same_line : (a b : List ℕ) (o : Arrival) → o ≡ Some a → o ≡ Some b → a ≡ b
same_line a b o e f = let g : Some a ≡ Some b = sym e ∙ f in cc

pub word_on_is : (n : Node) (d : Side) → word_on (scene_in n) d ≡ hears (receiving_on d n).brought
unfolding scene_in
word_on_is n West = refl
word_on_is n East = refl

module _ (w : World) (whole : IsWhole w) where
  abbrev size : ℕ
  size = length w.ring.ids

  abbrev s : Settings
  s = w.ring.settings

  abbrev rate : Rate
  rate = s.rate

  open terms w use {t}

  abbrev old_on : ℕ → Side → Receiving
  old_on p d = receiving_on d (node_at w.ring.nodes p)

  abbrev new_on : ℕ → Side → Receiving
  new_on p d = receiving_on d (node_at (round w).ring.nodes p)

  pub neighbour_inside : (p : ℕ) (d : Side) → neighbour size p d < length w.ring.nodes
  neighbour_inside p d =
      let below : neighbour size p d < size =
      neighbour_below size p d (let e = whole.placed.ids.enough in omega arith) in omega (arith, count w whole.placed)

  -- ---- what arrives

  pub may_at : (p : ℕ) (d : Side) → IsConditionAt rate (condition_to w p d)
  may_at p d =
      let cs = w.fibres.conditions in
      let i = fibre_to size p d in
      elim (cases_lt i (length cs)) [
        | inl lt ↦ whole.paired.prepared.each i Clear lt
        | inr past ↦ subst (IsConditionAt rate) (sym (get_or_past cs i Clear past)) tt
      ]

  pub arrival_is : (p : ℕ) (d : Side) → arrival_at w.fibres p d
      ≡ through (n_of rate) (condition_to w p d) (carried_on w.fibres (fibre_to size p d))
  arrival_is p d =
      let f = w.fibres in
      (honest_rounds adm).arrives f p d whole.paired.honest
      ∙ ap (λ r. through (n_of r) (condition_of f (fibre_to f.nodes p d)) (carried_on f (fibre_to f.nodes p d))) whole.paired.prepared.rate
      ∙ ap (λ n. through (n_of rate) (condition_of f (fibre_to n p d)) (carried_on f (fibre_to n p d))) whole.paired.prepared.nodes

  -- the frame that was sent to a side
  pub sent_to : (p : ℕ) (d : Side) → 0 < t → CarriesWord rate (word_to w p d) (carried_on w.fibres (fibre_to size p d))
  sent_to p d some = (whole.paired.carried (neighbour size p d) (neighbour_inside p d)).frames (opposite d) some

  pub arrival_cut : (p : ℕ) (d : Side) → is_cut (condition_to w p d) ≡ true → arrival_at w.fibres p d ≡ None
  arrival_cut p d cut = arrival_is p d ∙ cut_is_dark (n_of rate) (condition_to w p d) _ cut

  pub arrival_word : (p : ℕ) (d : Side) → 0 < t → is_cut (condition_to w p d) ≡ false
      → CarriesWord rate (word_to w p d) (arrival_at w.fibres p d)
  arrival_word p d some clear =
      subst (CarriesWord rate (word_to w p d)) (sym (arrival_is p d))
      (comes_through rate (word_to w p d) (condition_to w p d) _ clear (sent_to p d some))

  pub word_goes : (p : ℕ) (d : Side) (some : 0 < t) (clear : is_cut (condition_to w p d) ≡ false) (line : List ℕ)
      → carried_on w.fibres (fibre_to size p d) ≡ Some line
      → through (n_of rate) (condition_to w p d) (Some line) ≡ Some (arrival_word p d some clear).line
  word_goes p d some clear line there =
      sym (ap (through (n_of rate) (condition_to w p d)) there) ∙ sym (arrival_is p d) ∙ (arrival_word p d some clear).there

  word_spells : (p : ℕ) (d : Side) → IsSpellable (word_to w p d)
  word_spells p d = whole.paired.spelled (neighbour size p d) (neighbour_inside p d) (opposite d)

  word_no_ais : (p : ℕ) (d : Side) → (word_to w p d).mark ≢ mark.MsAis
  word_no_ais p d = whole.paired.never_ais (neighbour size p d) (neighbour_inside p d) (opposite d)

  -- ---- what a side finds

  -- the side with what arrives there
  abbrev pub inlet_at : ℕ → Side → Inlet
  inlet_at p d = told_inlet (told_to w p d) (old_on p d)

  abbrev pub made : ℕ → Side → Reception
  made p d = found s.threshold (inlet_at p d)

  -- in round 0 a side finds nothing
  pub nothing_found : (p : ℕ) (d : Side) → t ≡ 0 → FindsNothing s.threshold (inlet_at p d)
  nothing_found p d e = untold_sides_find_nothing s.threshold (inlet_at p d) (told_first w p d e)

  -- in a later round a side received what came through its fibre
  pub told_side : (p : ℕ) (d : Side) (some : 0 < t) → p < length w.ring.nodes
      → IsTold rate (condition_to w p d) (word_to w p d) (sent_to p d some).line (inlet_at p d)
  told_side p d some h =
      let sent = sent_to p d some in
      record {
        may = may_at p d;
        says = sent.says;
        no_ais = word_no_ais p d;
        inlet = (let r = (whole.placed.sides p h).receives d in record { rate = r.rate; readings = r.readings });
        told = told_later w p d some ∙ ap Some (arrival_is p d ∙ ap (through (n_of rate) (condition_to w p d)) sent.there);
      }

  pub side_finds : (p : ℕ) (d : Side) (some : 0 < t) → p < length w.ring.nodes
      → FindsSo rate (condition_to w p d) (word_to w p d) (sent_to p d some).line s.threshold (inlet_at p d)
  side_finds p d some h =
      sides_find_so rate (condition_to w p d) (word_to w p d) (sent_to p d some).line s.threshold (inlet_at p d) (told_side p d some h)

  -- ---- the round of a side

  abbrev pub informed_at : ℕ → Node
  informed_at p = informed w p

  abbrev pub next_node : ℕ → Node
  next_node p = node_after w.ring.moment (informed_at p)

  threshold_at : (p : ℕ) → p < length w.ring.nodes → (informed_at p).settings.threshold ≡ s.threshold
  threshold_at p h = ap (λ (y : Settings). y.threshold) (is_at w whole.placed p h).settings

  side_is : (p : ℕ) (d : Side) → p < length w.ring.nodes → new_on p d
      ≡ node.after_intake s.threshold w.ring.moment (record (old_on p d) { arrived = told_to w p d })
  side_is p d h =
      ap (receiving_on d) (nodes_after w whole.placed p h) ∙ receiving_after w.ring.moment (informed_at p) d
      ∙ ap (λ k. node.after_intake k w.ring.moment (receiving_on d (informed_at p))) (threshold_at p h)
      ∙ ap (node.after_intake s.threshold w.ring.moment) (informed_on w p d)

  pub took_is : (p : ℕ) (d : Side) → p < length w.ring.nodes → Took w.ring.moment s.threshold (inlet_at p d) (old_on p d) (new_on p d)
  took_is p d h =
      subst (Took w.ring.moment s.threshold (inlet_at p d) (old_on p d)) (sym (side_is p d h))
      (side_took w.ring.moment s.threshold (told_to w p d) (old_on p d))

  pub line_is : (p : ℕ) (d : Side) → p < length w.ring.nodes → line_on (lines_at w p) d ≡ line_after s.threshold (inlet_at p d)
  line_is p d h =
      ap (λ n. line_on (lines_of (crossing w.ring.moment n)) d) (listening_at w whole.placed p h)
      ∙ line_taken w.ring.moment (informed_at p) d
      ∙ ap (λ k. line_after k (inlet_of (receiving_on d (informed_at p)))) (threshold_at p h)
      ∙ ap (λ r. line_after s.threshold (inlet_of r)) (informed_on w p d)

  -- ---- what a side brings

  not_sf : (b : Bool) → (if b then defect.Sd else defect.None) ≢ defect.Sf
  not_sf true f = cc
  not_sf false f = cc

  -- the defect, by the fibre's condition
  pub defect_cut : (p : ℕ) (d : Side) (some : 0 < t) → p < length w.ring.nodes → is_cut (condition_to w p d) ≡ true
      → (made p d).defect ≡ defect.Sf
  defect_cut p d some h cut = (side_finds p d some h).defect ∙ cond-true (is_cut (condition_to w p d)) _ _ cut

  pub defect_clear : (p : ℕ) (d : Side) (some : 0 < t) → p < length w.ring.nodes → is_cut (condition_to w p d) ≡ false
      → (made p d).defect ≡ (if nat_le s.threshold (b2_violations (n_of rate) (old_on p d).section.last
      (scrambled (9 * n_of rate) (sent_to p d some).line)) then defect.Sd else defect.None)
  defect_clear p d some h clear = (side_finds p d some h).defect ∙ cond-false (is_cut (condition_to w p d)) _ _ clear

  pub brings : (p : ℕ) (d : Side) → p < length w.ring.nodes → Brings w p d (old_on p d) (new_on p d)
  brings p d h =
      let took = took_is p d h in
      let came : (new_on p d).brought.last ≡ (made p d).word = ap (λ (b : Brought). b.last) took.brought in
      let def : (new_on p d).local.defect ≡ (made p d).defect = ap (λ (l : local.LocalKept). l.defect) took.local in
      record {
        no_defect = λ e. def ∙ (nothing_found p d e).defect;
        nothing = λ e. came ∙ (nothing_found p d e).word;
        fails = λ some cut. def ∙ defect_cut p d some h cut;
        silent = λ some cut. came ∙ (side_finds p d some h).word ∙ cond-true (is_cut (condition_to w p d)) _ _ cut;
        works = λ some clear e. not_sf _ (sym (def ∙ defect_clear p d some h clear) ∙ e);
        comes =
            λ some clear. came ∙ (side_finds p d some h).word ∙ cond-false (is_cut (condition_to w p d)) _ _ clear
            ∙ spelled (word_to w p d) (word_spells p d);
        earlier = took.brought ∙ ap (λ k. with_brought k (old_on p d).brought) (sym came);
      }

  -- a side that works is after a fibre that isn't cut
  pub clear_where_it_works : (p : ℕ) (d : Side) → 0 < t → p < length w.ring.nodes → is_failed (new_on p d).local.defect ≡ false
      → is_cut (condition_to w p d) ≡ false
  clear_where_it_works p d some h works = elim (cases_Bool (is_cut (condition_to w p d))) [
    | inl cut ↦ absurd (let x = ap is_failed ((brings p d h).fails some cut) in cc)
    | inr clear ↦ clear
  ]

  -- ---- what its interpreters read

  pub reads : (p : ℕ) (d : Side) → p < length w.ring.nodes → Reads w p d (old_on p d) (new_on p d) (line_on (lines_at w p) d).intake
  reads p d h =
      let left : (new_on p d).readings ≡ (after_taking s.threshold (inlet_at p d)).readings =
      ap (λ (i : Inlet). i.readings) (took_is p d h).inlet in
      subst (λ (l : Line). Reads w p d (old_on p d) (new_on p d) l.intake) (sym (line_is p d h)) (record {
        idle = λ e. left ∙ (nothing_found p d e).reads;
        none = λ e. (nothing_found p d e).acts ∙ ap (λ r. replicate (n_of r) action.Ais) ((whole.placed.sides p h).receives d).rate;
        reads = λ some. left ∙ (side_finds p d some h).reads;
        acts = λ some. (side_finds p d some h).acts;
        ones = λ some cut. (side_finds p d some h).ones cut;
        aus = λ some clear line there au low high. (let sent = sent_to p d some in
            (side_finds p d some h).aus clear au low high ∙ ap (λ l. au_of (n_of rate) au (scrambled (9 * n_of rate) l))
            (same_line sent.line line _ sent.there there));
      })

  -- ---- the words that are sent

  -- a word that comes was sent to the side
  pub came_is : (p : ℕ) (d : Side) (old r : Receiving) (k : K) → Brings w p d old r → r.brought.last ≡ Some k → word_to w p d ≡ k
  came_is p d old r k b e = elim (cases_lt 0 t) [
    | inr none ↦ absurd (no_word (b.nothing (let z : t ≡ 0 = omega arith in z)))
    | inl some ↦ elim (cases_Bool (is_cut (condition_to w p d))) [
      | inl cut ↦ absurd (no_word (b.silent some cut))
      | inr clear ↦ same (sym (b.comes some clear) ∙ e)
    ]
  ]
    where
      no_word : r.brought.last ≡ None → ⊥
      no_word z = cc

      same : Some (word_to w p d) ≡ Some k → word_to w p d ≡ k
      same z = cc

  pub scene_ids : (p : ℕ) → p < length w.ring.nodes → (scene_in (next_node p)).ids ≡ w.ring.ids
  unfolding scene_in
  scene_ids p h = (node_same w.ring.moment (informed_at p)).ids ∙ (is_at w whole.placed p h).ids_are

  pub scene_place : (p : ℕ) → p < length w.ring.nodes → (scene_in (next_node p)).at ≡ p
  unfolding scene_in
  scene_place p h = ap (λ a. a.0) (node_same w.ring.moment (informed_at p)).at ∙ (is_at w whole.placed p h).at

  -- P holds of the word that a node's rules give, if it holds of each own word and of each word that was sent to it
  by_rules : (P : K → Type 0) (p : ℕ) → p < length w.ring.nodes
      → ((s : Scene) (d to : Side) (code : Code) (path : Path) → s.ids ≡ w.ring.ids → s.at ≡ p → P (own_word s d code to path))
      → ((d : Side) → P (word_to w p d)) → (d : Side) → P (word (scene_in (next_node p)) d)
  by_rules P p h own heard d =
      let s = scene_in (next_node p) in
      word_has P s (λ d to code path. own s d to code path (scene_ids p h) (scene_place p h)) (λ d k e. (
      let b : Brings w p d (old_on p d) (receiving_on d (next_node p)) =
      subst (λ n. Brings w p d (old_on p d) (receiving_on d n)) (nodes_after w whole.placed p h) (brings p d h) in
      let last = heard_last (receiving_on d (next_node p)).brought k (sym (word_on_is (next_node p) d) ∙ e) in
      subst P (came_is p d (old_on p d) (receiving_on d (next_node p)) k b last) (heard d))) d

  -- what holds of each own word, of each word that was sent to the node, and of its own words before, holds of its
  -- words
  pub words_have : (P : K → Type 0) (p : ℕ) → p < length w.ring.nodes
      → ((s : Scene) (d to : Side) (code : Code) (path : Path) → s.ids ≡ w.ring.ids → s.at ≡ p → P (own_word s d code to path))
      → ((d : Side) → P (word_to w p d)) → ((d : Side) → P (last_word_on d (node_at w.ring.nodes p))) → (d : Side) → P (last_word_on d (next_node p))
  words_have P p h own heard old d =
      let is = word_is w.ring.moment (informed_at p) d in
      let before = last_word_on d (informed_at p) in
      let ruled = word (scene_in (next_node p)) d in
      elim (cases_Bool (is_held (node_at w.ring.nodes p))) [
        | inl held ↦ subst P (sym (is ∙ ap (λ (b : Bool). if b then before else ruled) held
            ∙ ap (λ (x : Sending). x.word) (informed_out w p d))) (old d)
        | inr free ↦ subst P (sym (is ∙ ap (λ (b : Bool). if b then before else ruled) free)) (by_rules P p h own heard d)
      ]

  inside_of : (s : Scene) (p : ℕ) → p < length w.ring.nodes → s.ids ≡ w.ring.ids → s.at ≡ p → s.at < length s.ids
  inside_of s p h ids at = let e : length s.ids ≡ length w.ring.ids = ap length ids in omega (arith, count w whole.placed)

  pub spells_after : (p : ℕ) → p < length w.ring.nodes → (d : Side) → IsSpellable (last_word_on d (next_node p))
  spells_after p h =
      words_have IsSpellable p h (λ s d to code path ids at. own_spellable s d to code path (subst AreIds (sym ids) whole.placed.ids)
      (inside_of s p h ids at)) (word_spells p) (whole.paired.spelled p h)

  pub sourced_after : (p : ℕ) → p < length w.ring.nodes → (d : Side) → IsMember w.ring.ids (last_word_on d (next_node p)).from
  sourced_after p h = words_have (λ k. IsMember w.ring.ids k.from) p h
      (λ s d to code path ids at. subst (λ i. IsMember i (own_word s d code to path).from) ids
      (own_member s d to code path (inside_of s p h ids at)))
      (λ d. whole.paired.sourced (neighbour size p d) (neighbour_inside p d) (opposite d))
      (whole.paired.sourced p h)

  never_ais_after : (p : ℕ) → p < length w.ring.nodes → (d : Side) → (last_word_on d (next_node p)).mark ≢ mark.MsAis
  never_ais_after p h =
      words_have (λ k. k.mark ≢ mark.MsAis) p h (λ s d to code path ids at. own_no_ais s d to code path) (word_no_ais p)
      (whole.paired.never_ais p h)

  -- ---- what is kept, and the turns that are left

  sourced_word : (p : ℕ) (d : Side) → p < length w.ring.nodes → IsSourcedWord w.ring.ids (new_on p d).brought.last
  sourced_word p d h =
      let b = brings p d h in
      let Has = IsSourcedWord w.ring.ids in
      elim (cases_lt 0 t) [
        | inr none ↦ subst Has (sym (b.nothing (let z : t ≡ 0 = omega arith in z))) tt
        | inl some ↦ elim (cases_Bool (is_cut (condition_to w p d))) [
          | inl cut ↦ subst Has (sym (b.silent some cut)) tt
          | inr clear ↦ subst Has (sym (b.comes some clear)) (whole.paired.sourced (neighbour size p d) (neighbour_inside p d) (opposite d))
        ]
      ]

  kept_after : (p : ℕ) (d : Side) → p < length w.ring.nodes → KeepsSourced w.ring.ids (new_on p d).brought
  kept_after p d h =
      let was = whole.paired.kept p h d in
      subst (KeepsSourced w.ring.ids) (sym (brings p d h).earlier)
      (record { last = sourced_word p d h; second = was.last; third = was.second })

  held_after : (p : ℕ) → p < length w.ring.nodes → (node_at (round w).ring.nodes p).held ≤ 100
  held_after p h =
      let was = whole.paired.held p h in
      let now : (node_at (round w).ring.nodes p).held ≡ (node_at w.ring.nodes p).held - 1 =
      ap (λ (n : Node). n.held) (nodes_after w whole.placed p h) ∙ turns_left w.ring.moment (informed_at p) in
      omega arith

  -- ---- the world after the round

  frame_there : (ns : List Node) (p : ℕ) (d : Side) → p < length ns
      → get_or (map Some (frames_of w.ring.moment ns)) (fibre p d) None ≡ Some (frame_on d w.ring.moment (node_at ns p))
  frame_there [] p d h = absurd (omega arith)
  frame_there (n ∷ ns) zero West h = refl
  frame_there (n ∷ ns) zero East h = refl
  frame_there (n ∷ ns) (suc p) West h =
      let i : 2 * suc p ≡ suc (suc (2 * p)) = omega arith in
      ap (λ k. get_or (map Some (frames_of w.ring.moment (n ∷ ns))) k None) i ∙ frame_there ns p West (omega arith)
  frame_there (n ∷ ns) (suc p) East h =
      let i : 2 * suc p + 1 ≡ suc (suc (2 * p + 1)) = omega arith in
      ap (λ k. get_or (map Some (frames_of w.ring.moment (n ∷ ns))) k None) i ∙ frame_there ns p East (omega arith)

  pub carried_after : (p : ℕ) (d : Side) → p < length w.ring.nodes
      → carried_on (round w).fibres (fibre p d) ≡ Some (frame_on d w.ring.moment (informed_at p))
  unfolding any_round.round any_round.round_with sent_all
  carried_after p d h =
      frame_there (nodes_with (arrivals_of w) w) p d (let e = length-heard adm (arrivals_of w) w.ring.nodes in omega arith)
      ∙ ap (λ n. Some (frame_on d w.ring.moment n)) (listening_at w whole.placed p h)

  prepared_after : IsPrepared rate size (round w).fibres
  unfolding any_round.round
  prepared_after =
      let c = count w whole.placed in
      subst (λ n. IsPrepared rate n (round_with (arrivals_of w) w).fibres) c
      (prepared_round adm rate (arrivals_of w) w (subst (λ n. IsPrepared rate n w.fibres) (sym c) whole.paired.prepared))

  honest_after : IsHonest (round w).fibres
  unfolding any_round.round
  honest_after = (honest_rounds adm).round w (arrivals_of w) whole.paired.honest

  low_of : (p : ℕ) → p < length (round w).ring.nodes → p < length w.ring.nodes
  low_of p h = omega (arith, length-after w)

  pub sends_at : (p : ℕ) (d : Side) → p < length w.ring.nodes → IsSenderAt rate (sending_on d (informed_at p))
  sends_at p d h = subst (IsSenderAt rate) (sym (informed_out w p d)) ((whole.placed.sides p h).sends d)

  frame_after : (p : ℕ) (d : Side) → p < length w.ring.nodes
      → SaysWord rate (last_word_on d (node_at (round w).ring.nodes p)) (frame_on d w.ring.moment (informed_at p))
  frame_after p d h =
      subst (λ n. SaysWord rate (last_word_on d n) (frame_on d w.ring.moment (informed_at p))) (sym (nodes_after w whole.placed p h))
      (frame_says w.ring.moment (informed_at p) rate d (sends_at p d h))

  slips_after : AtEach (λ p n. FewWait n.ports) (round w).ring.nodes
  slips_after = few_round w whole.placed whole.paired.slips

  pub paired_after : IsPaired (round w)
  unfolding any_round.round any_round.round_with
  paired_after = record {
    honest = honest_after;
    prepared = prepared_after;
    carried = λ p h. (let low = low_of p h in record {
      dark = λ d e. absurd (omega arith);
      frames =
          λ d some. record { line = frame_on d w.ring.moment (informed_at p); there = carried_after p d low; says = frame_after p d low };
    });
    sourced =
        λ p h d. (let low = low_of p h in subst (λ n. IsMember w.ring.ids (last_word_on d n).from) (sym (nodes_after w whole.placed p low))
        (sourced_after p low d));
    spelled =
        λ p h d. (let low = low_of p h in subst (λ n. IsSpellable (last_word_on d n)) (sym (nodes_after w whole.placed p low))
        (spells_after p low d));
    never_ais =
        λ p h d. (let low = low_of p h in subst (λ n. (last_word_on d n).mark ≢ mark.MsAis) (sym (nodes_after w whole.placed p low))
        (never_ais_after p low d));
    kept = λ p h d. kept_after p d (low_of p h);
    held = λ p h. held_after p (low_of p h);
    slips = slips_after;
  }

pub whole_round : (w : World) → IsWhole w → IsWhole (round w)
unfolding any_round.round
whole_round w whole = record { placed = placed_round (arrivals_of w) w whole.placed; paired = paired_after w whole }

pub sides_bring : SidesBring
sides_bring w p d whole h = brings w whole p d h

pub sides_read : SidesRead
sides_read w p d whole h = reads w whole p d h

pub none_says_ais : NoneSaysAis
none_says_ais w p d whole h = (paired_after w whole).never_ais p (omega (arith, length-after w)) d
