-- A node that needs nothing and hears nothing but words that ask for nothing is idle, and asks for nothing.
use Rattle.std.proofs.Common.{◌≡◌, Bool, true, false, Option, Some, None, refl, ap, ap₂, ◌∙◌}
use Rattle.std.specs.Prelude.{◌==◌, ◌||◌, nat_lt, if◌then◌else◌}
use Rattle.std.specs.Option.{option_map_or}
use Rattle.sdh_ringmap.specs.declared.terms.Code.{Code}
use Rattle.sdh_ringmap.specs.declared.terms.Code.TheVariants.{Nr}
use Rattle.sdh_kbytes.specs.declared.K.{K}
use Rattle.sdh_kbytes.specs.declared.Path.TheVariants.{Short}
use Rattle.sdh_kbytes.specs.declared.Mark.TheVariants as mark
use Rattle.sdh_ringmap.specs.Requests.{code_number}
use Rattle.sdh_ringmap.specs.declared.Side.{Side}
use Rattle.sdh_ringmap.specs.declared.Side.TheVariants.{West, East}
use Rattle.sdh_ringmap.specs.Places.{opposite}
use Rattle.sdh_nodestate.specs.declared.Needs.{Needs}
use Rattle.sdh_nodestate.specs.declared.NodeState.TheVariants as state
use Rattle.sdh_nodestate.specs.Rules.{Scene, word_on, local, is_from_neighbour, short, long, long_word, stronger, weight, relayed}
use Rattle.sdh_nodestate.specs.Rules.{weight_of, chosen, choose, rest, switches, switched, mark_on, fails, word, word_by, state_after}
use Rattle.sdh_nodestate.specs.Rules.{own_id, id_on, one_side}
use Rattle.sdh_signal.specs.Signals.{no_needs}

-- a word that asks for nothing, or none
abbrev pub IsQuiet : Option K → Type 0
IsQuiet None = Unit {0}
IsQuiet (Some k) = (k.code ≡ Nr) × (k.path ≡ Short)

if_nothing : (b : Bool) (c : Code) → c ≡ Nr → (if b then c else Nr) ≡ Nr
if_nothing true c e = e
if_nothing false c e = refl

short_by : (s : Scene) (d : Side) (h : Option K) → IsQuiet h → option_map_or (λ k. if is_from_neighbour s d k then k.code else Nr) h Nr ≡ Nr
short_by s d None q = refl
short_by s d (Some k) q = if_nothing (is_from_neighbour s d k) k.code q.0

long_by : (h : Option K) → IsQuiet h → option_map_or long_word h None ≡ None
long_by None q = refl
long_by (Some k) q = rw q.1 refl

module _ (s : Scene) (needs : s.needs ≡ no_needs) (quiet : (d : Side) → IsQuiet (word_on s d)) where
  no_short : (d : Side) → short s d ≡ Nr
  unfolding short
  no_short d = short_by s d (word_on s d) (quiet d)

  no_long : (d : Side) → long s d ≡ None
  unfolding long
  no_long d = long_by (word_on s d) (quiet d)

  no_local : (d : Side) → local s d ≡ Nr
  no_local West = ap (λ (n : Needs). n.west) needs
  no_local East = ap (λ (n : Needs). n.east) needs

  no_fail : (d : Side) → fails s d ≡ false
  no_fail West = ap (λ (n : Needs). n.west_fails) needs
  no_fail East = ap (λ (n : Needs). n.east_fails) needs

  no_weight : (d : Side) → weight s d ≡ 0
  unfolding stronger
  no_weight d = ap₂ (λ a b. code_number (if nat_lt (code_number a) (code_number b) then b else a)) (no_local d) (no_short d)

  no_relay : (d : Side) → relayed s d ≡ None
  unfolding relayed
  no_relay d =
      ap (λ o. option_map_or (λ k. if (k.to == own_id s) || (k.from == own_id s) then None else Some k) o None) (no_long (opposite d))

  rests : (d : Side) → chosen s d ≡ rest
  unfolding chosen
  rests d =
      ap (λ w. choose w (weight s (opposite d)) (weight_of (relayed s d))) (no_weight d)
      ∙ ap₂ (λ l o. choose 0 l (weight_of o)) (no_weight (opposite d)) (no_relay d)

  never_switches : (d : Side) → switches s d ≡ false
  unfolding switches
  never_switches d = rw (no_weight d) refl

  no_switch : switched s ≡ None
  no_switch = ap₂ one_side (never_switches West) (never_switches East)

  marked : (d : Side) → mark_on s d ≡ mark.Idle
  unfolding mark_on
  marked d = rw (no_fail d, no_switch) refl

  -- the node is idle
  pub idle : state_after s ≡ state.Idle tt
  unfolding state_after
  idle = rw (never_switches West, never_switches East, rests West, rests East) refl

  -- the word that the node sends asks for nothing
  pub asks_nothing : (d : Side) → word s d ≡ record { code = Nr; to = id_on s d; from = own_id s; path = Short; mark = mark.Idle }
  unfolding word
  asks_nothing d =
      ap (word_by s d) (rests d) ∙ ap (λ m. record { code = Nr; to = id_on s d; from = own_id s; path = Short; mark = m }) (marked d)
