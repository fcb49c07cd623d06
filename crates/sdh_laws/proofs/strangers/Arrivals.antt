-- What comes to a node in a round: AIS and ones where nothing comes, and the word of the frame that the AU-4s are in.
use Rattle.std.proofs.Common.{◌≡◌, ℕ, ◌-◌, ◌<◌, ◌≤◌, Bool, true, false, List, length, get_or, replicate, Some, None, refl, ap, sym, ◌∙◌}
use Rattle.std.proofs.Common.{arith, inl, inr}
use Rattle.std.specs.Prelude.{slice_index}
use Rattle.std.proofs.lemmas.Bool.{cases_Bool, cases_lt}
use Rattle.std.proofs.lemmas.List.{get_or-replicate, length-replicate}
use Rattle.sdh_basics.proofs.CellsLaws.{cells-from}
use Rattle.sdh_ringmap.specs.declared.terms.Rate.{Rate}
use Rattle.sdh_ringmap.specs.Rates.{n_of}
use Rattle.sdh_ringmap.specs.Fibres.{is_cut}
use Rattle.sdh_frame.specs.Sizes.{size_of}
use Rattle.sdh_frame.specs.Fields.{index_of, payload_place, place_of_pointer}
use Rattle.sdh_frame.specs.Aus.{au_of, pointers_of, payload_of, ones}
use Rattle.sdh_frame.proofs.PlaceProofs.{payload_in, pointer_in}
use Rattle.sdh_kbytes.specs.declared.K.{K}
use Rattle.sdh_ringmap.specs.Places.{opposite, neighbour, span_at}
use Rattle.sdh_ringmap.specs.declared.Side.{Side}
use Rattle.sdh_ringmap.specs.declared.Side.TheVariants.{West, East}
use Rattle.sdh_ringmap.proofs.Sides.{neighbour_back}
use Rattle.sdh_nodestate.specs.Rules.{word_on}
use Rattle.sdh_nodestate.proofs.Filtering.{heard_last}
use Rattle.sdh_pointer.specs.declared.reading.Action.TheVariants as action
use Rattle.sdh_terminal.specs.Lines.{line_on, received}
use Rattle.sdh_node.specs.Node.{receiving_on}
use Rattle.sdh_node.proofs.Decided.{scene_in}
use Rattle.sdh_node.specs.Rings.Held.{node_at}
use Rattle.sdh_node.specs.Rings.Rounds.{World, round}
use Rattle.sdh_node.specs.Rings.Sides.{condition_to}
use Rattle.sdh_laws.specs.Hearing.Signalling.{word_to, lines_at, Brings}
use Rattle.sdh_laws.specs.Hearing.Laws.{IsWhole}
use Rattle.sdh_laws.proofs.hearing.Nodes.{nodes_after}
use Rattle.sdh_laws.proofs.hearing.Rounds.{brings, reads, came_is, word_on_is, next_node}
use Rattle.sdh_laws.proofs.carrying.Spans.{took_in}

pub span_across : (n p : ℕ) (d : Side) → p < n → span_at n (neighbour n p d) (opposite d) ≡ span_at n p d
span_across n p West h = refl
span_across n p East h = neighbour_back n p East h

-- ---- ones

module _ (rate : Rate) (au : ℕ) (low : 1 ≤ au) (high : au ≤ n_of rate) where
  abbrev bytes : List ℕ
  bytes = replicate (size_of rate) 255

  pointer_ones : (j : ℕ) → j < 9 → slice_index bytes (index_of (n_of rate) (place_of_pointer (n_of rate) au j))
      ≡ get_or (replicate 9 255) j 0
  pointer_ones j h =
      get_or-replicate (size_of rate) (index_of (n_of rate) (place_of_pointer (n_of rate) au j)) 255 0
      (let at = pointer_in rate au j low high h in at.within) ∙ sym (get_or-replicate 9 j 255 0 h)

  payload_ones : (j : ℕ) → j < 2349 → slice_index bytes (index_of (n_of rate) (payload_place (n_of rate) au j))
      ≡ get_or (replicate 2349 255) j 0
  payload_ones j h =
      get_or-replicate (size_of rate) (index_of (n_of rate) (payload_place (n_of rate) au j)) 255 0
      (let at = payload_in rate au j low high h in at.within) ∙ sym (get_or-replicate 2349 j 255 0 h)

  pointers_are : pointers_of (n_of rate) au bytes ≡ replicate 9 255
  unfolding pointers_of
  pointers_are = cells-from _ 9 0 (replicate 9 255) (length-replicate {A = ℕ} 9 255) pointer_ones

  payload_is : payload_of (n_of rate) au bytes ≡ replicate 2349 255
  unfolding payload_of
  payload_is = cells-from _ 2349 0 (replicate 2349 255) (length-replicate {A = ℕ} 2349 255) payload_ones

  -- an AU-4 of a frame of ones
  pub au_of_ones : au_of (n_of rate) au (replicate (size_of rate) 255) ≡ ones
  au_of_ones = λ i. record { pointers = pointers_are i; payload = payload_is i }

-- ---- in a round

module _ (w : World) (whole : IsWhole w) (p : ℕ) (h : p < length w.ring.nodes) where
  -- the fibre that ends here is cut
  abbrev pub lost : Side → Bool
  lost d = is_cut (condition_to w p d)

  pub silent_first : (d : Side) (au : ℕ) → 1 ≤ au → au ≤ n_of w.ring.settings.rate → w.ring.rounds ≡ 0
      → (received (lines_at w p) d au).action ≡ action.Ais
  silent_first d au low high e =
      ap (λ xs. get_or xs (au - 1) action.Ais) ((reads w whole p d h).none e)
      ∙ get_or-replicate (n_of w.ring.settings.rate) (au - 1) action.Ais action.Ais (omega arith)

  pub au_received : (d : Side) (au : ℕ) → 0 < w.ring.rounds
      → (received (lines_at w p) d au).au ≡ au_of (n_of w.ring.settings.rate) au (line_on (lines_at w p) d).intake.frame.bytes
  au_received d au ran = ap (λ r. au_of (n_of r) au (line_on (lines_at w p) d).intake.frame.bytes) (took_in w whole ran p d h).rate_is

  pub ones_received : (d : Side) (au : ℕ) → 1 ≤ au → au ≤ n_of w.ring.settings.rate → 0 < w.ring.rounds → lost d ≡ true
      → (received (lines_at w p) d au).au ≡ ones
  ones_received d au low high ran cut =
      au_received d au ran ∙ ap (au_of (n_of w.ring.settings.rate) au) ((reads w whole p d h).ones ran cut)
      ∙ au_of_ones w.ring.settings.rate au low high

  no_word : (k : K) → None ≡ Some k → ⊥
  no_word k z = cc

  -- a word that is heard came in this very round, in a frame that wasn't lost
  pub record IsWordOf (d : Side) (k : K) : Type 0 where
    pub clear : lost d ≡ false
    pub is : word_to w p d ≡ k

  pub heard_came : (d : Side) (k : K) → word_on (scene_in (next_node w whole p)) d ≡ Some k → IsWordOf d k
  heard_came d k e =
      let next = next_node w whole p in
      let last : (receiving_on d next).brought.last ≡ Some k =
      heard_last (receiving_on d next).brought k (sym (word_on_is next d) ∙ e) in
      let came : (receiving_on d (node_at (round w).ring.nodes p)).brought.last ≡ Some k =
      ap (λ y. (receiving_on d y).brought.last) (nodes_after w whole.placed p h) ∙ last in
      let b = brings w whole p d h in
      record { clear = clear_by b came; is = came_is w whole p d _ _ k b came }
    where
      clear_by : Brings w p d (receiving_on d (node_at w.ring.nodes p)) (receiving_on d (node_at (round w).ring.nodes p))
          → (receiving_on d (node_at (round w).ring.nodes p)).brought.last ≡ Some k → lost d ≡ false
      clear_by b came = elim (cases_lt 0 w.ring.rounds) [
        | inr none ↦ absurd (no_word k (sym (b.nothing (omega arith)) ∙ came))
        | inl ran ↦ elim (cases_Bool (lost d)) [
          | inl cut ↦ absurd (no_word k (sym (b.silent ran cut) ∙ came))
          | inr kept ↦ kept
        ]
      ]
