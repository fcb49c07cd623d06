-- What a node does and sends in one round. The rules are this project's profile of ITU-T G.841 clause 7.2 (MS shared
-- protection rings); they stand here in the order in which they build on each other. d is a side of the node, and its
-- opposite the other side. No state of an earlier round occurs in them.
use Rattle.std.specs.Prelude.{ℕ, Bool, true, false, ◌&&◌, ◌||◌, not, nat_lt, nat_le, ◌==◌, if◌then◌else◌, Option, Some, None, option_map}
use Rattle.std.specs.Prelude.{List, [], ◌∷◌, length, slice_index}
use Rattle.std.specs.List.{list_all}
use Rattle.std.specs.Option.{option_map_or}
use Rattle.sdh_ringmap.specs.Requests.{code_number}
use Rattle.sdh_ringmap.specs.declared.terms.Code.{Code}
use Rattle.sdh_ringmap.specs.declared.terms.Code.TheVariants.{Nr, Rr}
use Rattle.sdh_kbytes.specs.declared.Path.{Path}
use Rattle.sdh_kbytes.specs.declared.Path.TheVariants.{Short, Long}
use Rattle.sdh_kbytes.specs.declared.Mark as m
use Rattle.sdh_kbytes.specs.declared.Mark.TheVariants as mark
use Rattle.sdh_kbytes.specs.declared.K.{K}
use Rattle.sdh_ringmap.specs.Places.{opposite, neighbour, found_at}
use Rattle.sdh_ringmap.specs.declared.Side.{Side}
use Rattle.sdh_ringmap.specs.declared.Side.TheVariants.{West, East}
use Rattle.sdh_ringmap.specs.declared.Pos.{Pos}
use Rattle.sdh_nodestate.specs.declared.Needs.{Needs}
use Rattle.sdh_nodestate.specs.declared.Heard.{Heard}
use Rattle.sdh_nodestate.specs.declared.NodeState.{NodeState}
use Rattle.sdh_nodestate.specs.declared.NodeState.TheVariants as state
use Rattle.sdh_nodestate.specs.declared.Sent.{Sent}

-- a node in one round: the identifiers of its ring by position, its position, its needs and what it hears
pub record Scene : Type 0 where
  pub ids : List ℕ
  pub at : ℕ
  pub needs : Needs
  pub heard : Heard

abbrev pub scene : List ℕ → ℕ → Needs → Heard → Scene
scene ids at needs heard = record { ids = ids; at = at; needs = needs; heard = heard }

-- two sides are the same
abbrev pub is_side : Side → Side → Bool
is_side West West = true
is_side East East = true
is_side West East = false
is_side East West = false

-- the identifier of this node
abbrev pub own_id : Scene → ℕ
own_id s = slice_index s.ids s.at

-- the identifier of the neighbour on d
abbrev pub id_on : Scene → Side → ℕ
id_on s d = slice_index s.ids (neighbour (length s.ids) s.at d)

-- the local request on d
abbrev pub local : Scene → Side → Code
local s West = s.needs.west
local s East = s.needs.east

-- side d fails
abbrev pub fails : Scene → Side → Bool
fails s West = s.needs.west_fails
fails s East = s.needs.east_fails

-- the word heard on d
abbrev pub word_on : Scene → Side → Option K
word_on s West = s.heard.west
word_on s East = s.heard.east

abbrev pub is_short : Path → Bool
is_short Short = true
is_short Long = false

-- the code with the larger number
abbrev pub larger : Code → Code → Code
larger a b = if nat_lt (code_number a) (code_number b) then b else a

-- the word, heard on d, is a request of the neighbour there to this node over the span between them: its path is
-- short, its destination this node, its source the neighbour on d, and its code at least WTR
abbrev pub is_from_neighbour : Scene → Side → K → Bool
is_from_neighbour s d k = is_short k.path && (k.to == own_id s) && (k.from == id_on s d) && nat_le 5 (code_number k.code)

-- the request heard from the neighbour on d; NR where there is none
unfoldable pub short : Scene → Side → Code
short s d = option_map_or (λ k. if is_from_neighbour s d k then k.code else Nr) (word_on s d) Nr

-- the word k, where its path is long and its code at least WTR
abbrev pub long_word : K → Option K
long_word k = if not (is_short k.path) && nat_le 5 (code_number k.code) then Some k else None

-- the long word heard on d, which comes the other way round the ring: its path is long and its code at least WTR
unfoldable pub long : Scene → Side → Option K
long s d = option_map_or long_word (word_on s d) None

-- the long word k, heard on x, is about the span on d: it is heard on the side opposite to d, its destination is this
-- node, and its source is the neighbour on d
unfoldable pub is_about : Scene → Side → Side → K → Bool
is_about s d x k = is_side x (opposite d) && (k.to == own_id s) && (k.from == id_on s d)

-- the request of the span on d, as this node knows it: the larger of its own and of the one heard from the neighbour
unfoldable pub stronger : Scene → Side → Code
stronger s d = larger (local s d) (short s d)

-- how urgent the request of the span on d is: the number of its code, where 0 is no request
abbrev pub weight : Scene → Side → ℕ
weight s d = code_number (stronger s d)

-- the word to be relayed on d: the long word heard on the opposite side, where this node is neither its source nor its
-- destination
unfoldable pub relayed : Scene → Side → Option K
relayed s d = option_map_or (λ k. if (k.to == own_id s) || (k.from == own_id s) then None else Some k) (long s (opposite d)) None

-- the number of a word's code; 0 where there is no word
abbrev pub weight_of : Option K → ℕ
weight_of o = option_map_or (λ k. code_number k.code) o 0

-- what is sent on a side: the node's own short word, which is about the span there; its own long word, which is about
-- the span on the opposite side; a relayed word; or the word that asks for nothing
pub data Choice : Type 0 where
  own_short : Choice
  own_long : Choice
  relay : Choice
  rest : Choice

-- Which word is sent, by the weights of the own short, the own long and the relayed word, where 0 is no word. An own
-- short word of at least SF comes first, then an own long word of at least SF, then the word of greatest weight. Where
-- there is no word at all, it is rest. In a tie an own short word is preferred, then an own long one.
abbrev pub choose : ℕ → ℕ → ℕ → Choice
choose s l r =
    if nat_le 11 s then own_short else
    if nat_le 11 l then own_long else
    if (s == 0) && (l == 0) && (r == 0) then rest else
    if nat_le l s && nat_le r s then own_short else
    if nat_le r l then own_long else relay

-- Which word is sent on d. The own short word is there where the span on d has a request; the own long word where the
-- span on the opposite side has one.
unfoldable pub chosen : Scene → Side → Choice
chosen s d = choose (weight s d) (weight s (opposite d)) (weight_of (relayed s d))

-- no long word heard on x prevents a switch of d: none is heard, or it is about the span on d, or its code is smaller
-- than that span's
abbrev pub is_below : Scene → Side → Side → Bool
is_below s d x = option_map_or (λ k. is_about s d x k || nat_lt (code_number k.code) (weight s d)) (long s x) true

-- The node switches side d: the span on d has a request of at least SF; or one from WTR to SD that is larger than that
-- of the span on the opposite side and than each long word that isn't about the span on d.
unfoldable pub switches : Scene → Side → Bool
switches s d = nat_le 11 (weight s d)
    || (nat_le 5 (weight s d) && nat_le (weight s d) 8 && nat_lt (weight s (opposite d)) (weight s d)
    && list_all (is_below s d) (West ∷ East ∷ []))

-- The far end of a node that switches d: the position of the source of the long word heard on the opposite side, where
-- that identifier is in the ring and isn't this node's.
unfoldable pub far : Scene → Side → Option Pos
far s d = option_map_or (λ k. if k.from == own_id s then None else found_at s.ids k.from) (long s (opposite d)) None

-- the side that is switched, where exactly one is
abbrev pub one_side : Bool → Bool → Option Side
one_side true false = Some West
one_side false true = Some East
one_side true true = None
one_side false false = None

-- the side that the node switches, where it switches exactly one
abbrev pub switched : Scene → Option Side
switched s = one_side (switches s West) (switches s East)

-- the mark by whether the side fails, and, where exactly one side is switched, by that side's far end
abbrev pub mark_by : Bool → Option (Option Pos) → m.Mark
mark_by true o = mark.Rdi
mark_by false None = mark.Idle
mark_by false (Some None) = mark.Bridged
mark_by false (Some (Some p)) = mark.BridgedSwitched

-- The mark of a word of this node's own on d: Rdi where d fails; else BridgedSwitched where exactly one side is
-- switched and there is a far end; Bridged where exactly one is switched; else Idle.
unfoldable pub mark_on : Scene → Side → m.Mark
mark_on s d = mark_by (fails s d) (option_map (far s) (switched s))

-- a word of this node's own that is sent on d, to the neighbour on side `to`
abbrev pub own_word : Scene → Side → Code → Side → Path → K
own_word s d code to path = record { code = code; to = id_on s to; from = own_id s; path = path; mark = mark_on s d }

-- the word to the neighbour on d that asks for nothing
abbrev pub rest_word : Scene → Side → K
rest_word s d = own_word s d Nr d Short

-- The word that is sent on d. The own short word goes to the neighbour on d. It has the local request where that is at
-- least the neighbour's, else RR, a reverse request. The own long word goes the long way to the neighbour on the
-- opposite side, with the request of the span there. A relayed word is unchanged.
abbrev pub word_by : Scene → Side → Choice → K
word_by s d own_short = own_word s d (if nat_le (code_number (short s d)) (code_number (local s d)) then local s d else Rr) d Short
word_by s d own_long = own_word s d (stronger s (opposite d)) (opposite d) Long
word_by s d relay = option_map_or (λ k. k) (relayed s d) (rest_word s d)
word_by s d rest = rest_word s d

-- the word sent on d
unfoldable pub word : Scene → Side → K
word s d = word_by s d (chosen s d)

abbrev pub is_relay : Choice → Bool
is_relay relay = true
is_relay own_short = false
is_relay own_long = false
is_relay rest = false

-- the state by whether west and east are switched, whether the words sent on them are relayed, and the far end of each
-- side
abbrev pub state_by : Bool → Bool → Bool → Bool → Option Pos → Option Pos → NodeState
state_by true true r q w e = state.Isolated tt
state_by true false r q w e = state.SwitchWest w
state_by false true r q w e = state.SwitchEast e
state_by false false true true w e = state.PassThrough tt
state_by false false true false w e = state.Idle tt
state_by false false false true w e = state.Idle tt
state_by false false false false w e = state.Idle tt

-- The state: isolated where both sides are switched; a switch where one is, with its far end; passing through where
-- none is and the words sent on both sides are relayed; else idle.
unfoldable pub state_after : Scene → NodeState
state_after s = state_by (switches s West) (switches s East) (is_relay (chosen s West)) (is_relay (chosen s East)) (far s West) (far s East)

-- the words sent on both sides
abbrev pub sent_after : Scene → Sent
sent_after s = record { west = word s West; east = word s East }
