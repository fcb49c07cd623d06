-- Where a word that a node sends comes from: it is the node's own, or it was heard on the other side and is
-- another's.
use Rattle.std.proofs.Common.{◌≡◌, ◌≢◌, Option, Some, None, refl, inl, inr, ◌⊎◌, ap, sym, ◌∙◌}
use Rattle.std.specs.Option.{option_map_or}
use Rattle.sdh_kbytes.specs.declared.K.{K}
use Rattle.sdh_ringmap.specs.Places.{opposite}
use Rattle.sdh_ringmap.specs.declared.Side.{Side}
use Rattle.sdh_nodestate.specs.Rules.{Scene, own_id, word_on, relayed, word, word_by, rest_word, chosen, Choice, own_short, own_long, relay}
use Rattle.sdh_nodestate.specs.Rules.{rest}
use Rattle.sdh_ringmap.proofs.Sides.{opposite_twice}
use Rattle.sdh_signal.proofs.OneNode.{long_from, relayed_from}

-- a relayed word was heard on the other side, and is not this node's own
pub record Relays (s : Scene) (d : Side) (k : K) : Type 0 where
  pub heard : word_on s (opposite d) ≡ Some k
  pub foreign : k.from ≢ own_id s

pub relayed_heard : (s : Scene) (d : Side) (k : K) → relayed s d ≡ Some k → Relays s d k
relayed_heard s d k e =
    let r = relayed_from s d k e in
    let l = long_from s (opposite d) k r.is_long in
    record { heard = l.heard; foreign = r.foreign }

-- what is relayed away from side e was heard on e
pub relayed_across : (s : Scene) (e : Side) (k : K) → relayed s (opposite e) ≡ Some k → (word_on s e ≡ Some k) × (k.from ≢ own_id s)
relayed_across s e k f = let h = relayed_heard s (opposite e) k f in (ap (word_on s) (sym (opposite_twice e)) ∙ h.heard, h.foreign)

-- a word is this node's own, or it is relayed
abbrev pub IsOwnOrRelayed : Scene → Side → K → Type 0
IsOwnOrRelayed s d w = (w.from ≡ own_id s) ⊎ Relays s d w

by_relay : (s : Scene) (d : Side) (o : Option K) → relayed s d ≡ o → IsOwnOrRelayed s d (option_map_or (λ k. k) o (rest_word s d))
by_relay s d None e = inl refl
by_relay s d (Some k) e = inr (relayed_heard s d k e)

by_choice : (s : Scene) (d : Side) (c : Choice) → IsOwnOrRelayed s d (word_by s d c)
by_choice s d own_short = inl refl
by_choice s d own_long = inl refl
by_choice s d relay = by_relay s d (relayed s d) refl
by_choice s d rest = inl refl

pub word_source : (s : Scene) (d : Side) → IsOwnOrRelayed s d (word s d)
unfolding word
word_source s d = by_choice s d (chosen s d)
