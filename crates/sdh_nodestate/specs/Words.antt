-- The words of a new node, where words come from, and which words two bytes can carry.
use Rattle.std.specs.Prelude.{ℕ, ◌≡◌, ◌<◌, IfSome, List, length, slice_index}
use Rattle.sdh_ringmap.specs.declared.terms.Code.TheVariants.{Nr}
use Rattle.sdh_kbytes.specs.declared.Path.TheVariants.{Short}
use Rattle.sdh_kbytes.specs.declared.Mark.TheVariants as mark
use Rattle.sdh_kbytes.specs.declared.K.{K}
use Rattle.sdh_kbytes.specs.KBytes.{IsSpellable}
use Rattle.sdh_ringmap.specs.Places.{neighbour}
use Rattle.sdh_ringmap.specs.declared.Side.{Side}
use Rattle.sdh_ringmap.specs.declared.Side.TheVariants.{West, East}
use Rattle.sdh_nodestate.specs.declared.Heard.{Heard}
use Rattle.sdh_nodestate.specs.declared.Sent.{Sent}

-- the word of a new node at that position to its neighbour on a side: it asks for nothing
abbrev pub first_word : List ℕ → ℕ → Side → K
first_word ids p d = record {
  code = Nr;
  to = slice_index ids (neighbour (length ids) p d);
  from = slice_index ids p;
  path = Short;
  mark = mark.Idle;
}

-- both words of a new node
abbrev pub first_words : List ℕ → ℕ → Sent
first_words ids p = record { west = first_word ids p West; east = first_word ids p East }

-- an identifier is in the ring
abbrev pub IsMember : List ℕ → ℕ → Type 0
IsMember ids id = (q : ℕ) × (q < length ids) × (slice_index ids q ≡ id)

-- the words that a node sends have sources in the ring
pub record IsSourced (ids : List ℕ) (s : Sent) : Type 0 where
  pub west : IsMember ids s.west.from
  pub east : IsMember ids s.east.from

-- the words that a node hears have sources in the ring
pub record HearsSourced (ids : List ℕ) (h : Heard) : Type 0 where
  pub west : IfSome h.west (λ k. IsMember ids k.from)
  pub east : IfSome h.east (λ k. IsMember ids k.from)

-- K1 and K2 can carry the words that a node sends
pub record SendsSpellable (s : Sent) : Type 0 where
  pub west : IsSpellable s.west
  pub east : IsSpellable s.east

-- K1 and K2 can carry the words that a node hears
pub record HearsSpellable (h : Heard) : Type 0 where
  pub west : IfSome h.west IsSpellable
  pub east : IfSome h.east IsSpellable
