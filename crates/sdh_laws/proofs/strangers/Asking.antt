-- A side without requests is never switched, and says nothing that asks.
use Rattle.std.proofs.Common.{◌≡◌, ◌<◌, ◌≤◌, Bool, true, false, Some, refl, ap, sym, ◌∙◌, arith, inl, inr, ◌⊎◌}
use Rattle.sdh_kbytes.specs.declared.K.{K}
use Rattle.sdh_ringmap.specs.declared.terms.Code.{Code}
use Rattle.sdh_ringmap.specs.declared.terms.Code.TheVariants.{Nr}
use Rattle.sdh_kbytes.specs.declared.Path.TheVariants.{Short, Long}
use Rattle.sdh_ringmap.specs.Requests.{code_number}
use Rattle.sdh_ringmap.specs.Places.{opposite}
use Rattle.sdh_ringmap.specs.declared.Side.{Side}
use Rattle.sdh_nodestate.specs.Rules.{Scene, local, word_on, short, word, switches, state_after}
use Rattle.sdh_signal.specs.Law.{is_open}
use Rattle.sdh_signal.proofs.OneNode.{IsShortHeard, Kind, a_short, a_long, a_relay, kind, long_from, relayed_from, short_from, weight_is}
use Rattle.sdh_signal.proofs.OneNode.{switch_none}
use Rattle.sdh_signal.proofs.Ends.{open_by}

-- a word that is no request of a neighbour over the span between
abbrev pub Harmless : K → Type 0
Harmless k = k.path ≡ Short → code_number k.code < 5

apart : Short ≡ Long → ⊥
apart z = cc

-- a side that asks for nothing doesn't fail
pub none_asked : (b : Bool) (code : Code) → code ≡ Nr → (b ≡ true → 11 ≤ code_number code) → b ≡ false
none_asked false code e h = refl
none_asked true code e h = let high = h refl in let low = ap code_number e in absurd (omega arith)

-- ---- a side without a request

-- says no word that asks for a switch
module _ (s : Scene) (e : Side) (none : local s e ≡ Nr) where
  by_kind : (w : K) → Kind s e w → Harmless w
  by_kind w (a_short path (inl low)) p = omega arith
  by_kind w (a_short path (inr own)) p = (let is = ap code_number (own ∙ none) in omega arith)
  by_kind w (a_long path code) p = absurd (apart (sym p ∙ path))
  by_kind w (a_relay is) p = absurd (apart (sym p ∙ (long_from s (opposite e) w (relayed_from s e w is).is_long).path))

  pub word_harmless : Harmless (word s e)
  word_harmless = by_kind (word s e) (kind s e)

-- and isn't switched
module _ (s : Scene) (e : Side) (none : local s e ≡ Nr) (heard : (k : K) → word_on s e ≡ Some k → Harmless k) where
  short_by : (c : Code) → (code_number c ≡ 0) ⊎ ((k : K) × IsShortHeard (word_on s e) c k) → code_number c ≡ 0
  short_by c (inl z) = z
  short_by c (inr h) = (let is = h.1 in let low = heard h.0 is.heard is.path in let high = is.strong in absurd (omega arith))

  pub not_switched : switches s e ≡ false
  not_switched =
      let own = ap code_number none in
      let near = short_by (short s e) (short_from s e) in
      switch_none s e (omega (arith, weight_is s e, own, near))

-- a side without a request isn't switched
pub stays_open : (s : Scene) (e : Side) → local s e ≡ Nr → ((k : K) → word_on s e ≡ Some k → Harmless k) → is_open (state_after s) e ≡ true
stays_open s e none heard = open_by s e (not_switched s e none heard)
