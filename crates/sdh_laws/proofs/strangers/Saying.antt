-- Whose word a node sends: its own, or a long word that it heard on the other side.
use Rattle.std.proofs.Common.{◌≡◌, ℕ, ◌<◌, Bool, true, false, List, length, Option, Some, None, refl, ap, sym, ◌∙◌, inl, inr, ◌⊎◌}
use Rattle.std.specs.Prelude.{slice_index, if◌then◌else◌}
use Rattle.std.specs.Option.{option_and_then}
use Rattle.sdh_kbytes.specs.declared.K.{K}
use Rattle.sdh_kbytes.specs.declared.Path.TheVariants.{Long}
use Rattle.sdh_ringmap.specs.Ids.{AreIds}
use Rattle.sdh_ringmap.specs.Places.{opposite, found_at, position_of}
use Rattle.sdh_ringmap.specs.declared.Pos.{Pos}
use Rattle.sdh_ringmap.specs.declared.Side.{Side}
use Rattle.sdh_ringmap.proofs.Sides.{opposite_twice}
use Rattle.sdh_nodestate.specs.Rules.{Scene, own_id, stronger, long, long_word, word, own_word, word_by, chosen, Choice, own_short}
use Rattle.sdh_nodestate.specs.Rules.{own_long, relay, rest, state_after}
use Rattle.sdh_signal.proofs.Views.{Switch}
use Rattle.sdh_signal.proofs.Ends.{found}
use Rattle.sdh_signal.proofs.OneNode.{word_long}
use Rattle.sdh_laws.proofs.strangers.Lags.{source_in}
use Rattle.sdh_laws.proofs.strangers.Rules.{switched_one, relays, switched_says_long, long_word_is}

module _ (s : Scene) (p : ℕ) (ids : List ℕ) (same : s.ids ≡ ids) (at : s.at ≡ p) (are : AreIds ids) (inside : p < length ids) (d : Side) where
  own_is : own_id s ≡ slice_index ids p
  own_is i = slice_index (same i) (at i)

  -- the source of a node's own word is the node
  own_by : (k : K) → k.from ≡ own_id s → (o : Option K) → long_word k ≡ o → (o ≡ None) ⊎ (o ≡ Some k) → (g : Pos)
      → source_in ids k ≡ Some g → g.0 ≡ p
  own_by k from o is (inl none) g h = absurd (no (sym (ap (option_and_then (λ (k : K). found_at ids k.from)) (is ∙ none)) ∙ h))
    where
      no : None ≡ Some g → ⊥
      no z = cc
  own_by k from o is (inr some) g h =
      let there : found_at ids k.from ≡ Some (position_of p) = ap (found_at ids) (from ∙ own_is) ∙ found ids p are inside in
      let both : Some g ≡ Some (position_of p) =
      sym h ∙ ap (option_and_then (λ (k : K). found_at ids k.from)) (is ∙ some) ∙ there in
      place both
    where
      place : Some g ≡ Some (position_of p) → g.0 ≡ p
      place z = ap (λ (o : Option Pos). at_or o) z
        where
          at_or : Option Pos → ℕ
          at_or None = 0
          at_or (Some x) = x.0

  either : (k : K) (b : Bool) → ((if b then Some k else None) ≡ None) ⊎ ((if b then Some k else None) ≡ Some k)
  either k true = inr refl
  either k false = inl refl

  own_source : (k : K) → k.from ≡ own_id s → (g : Pos) → source_in ids k ≡ Some g → g.0 ≡ p
  own_source k from g h = own_by k from (long_word k) refl (either k _) g h

  -- the source of the word that it sends is the node, or that of a long word that it heard on the other side
  pub data Sourced (g : Pos) : Type 0 where
    here : g.0 ≡ p → Sourced g
    passed : (k : K) → long s (opposite d) ≡ Some k → source_in ids k ≡ Some g → Sourced g

  by_choice : (c : Choice) → chosen s d ≡ c → (g : Pos) → source_in ids (word s d) ≡ Some g → Sourced g
  unfolding word
  by_choice own_short e g h = here (own_source (word s d) (ap (λ c. (word_by s d c).from) e) g h)
  by_choice own_long e g h = here (own_source (word s d) (ap (λ c. (word_by s d c).from) e) g h)
  by_choice rest e g h = here (own_source (word s d) (ap (λ c. (word_by s d c).from) e) g h)
  by_choice relay e g h = (let r = relays s d e in passed r.k r.heard (ap (source_in ids) (sym r.says) ∙ h))

  pub sourced : (g : Pos) → source_in ids (word s d) ≡ Some g → Sourced g
  sourced g h = by_choice (chosen s d) refl g h

  -- a node that is switched on the other side says its own long word
  pub switched_source : (f : Option Pos) → state_after s ≡ Switch (opposite d) f → source_in ids (word s d) ≡ Some (position_of p)
  switched_source f h =
      let e = opposite d in
      let back : opposite e ≡ d = opposite_twice d in
      let is = switched_one s e f h in
      let says = switched_says_long s e is.this is.other in
      let k = own_word s d (stronger s (opposite d)) (opposite d) Long in
      let chosen_is : chosen s d ≡ own_long = ap (chosen s) (sym back) ∙ says.chosen_is in
      ap (source_in ids) (word_long s d chosen_is)
      ∙ ap (option_and_then (λ (k : K). found_at ids k.from)) (long_word_is k refl says.strong)
      ∙ ap (found_at ids) own_is ∙ found ids p are inside
