-- When a word is heard: three rounds in a row have to bring it.
use Rattle.std.specs.Prelude.{◌&&◌, if◌then◌else◌, Option, Some, None}
use Rattle.sdh_kbytes.specs.declared.K.{K}
use Rattle.sdh_kbytes.specs.Same.{agrees}

-- what the last three rounds brought on a side, the last one first: a word, or none
pub record Brought : Type 0 where
  pub last : Option K
  pub second : Option K
  pub third : Option K

-- what was brought before the first round: no word
abbrev pub nothing_brought : Brought
nothing_brought = record { last = None; second = None; third = None }

-- a filter with what one more round brought
abbrev pub with_brought : Option K → Brought → Brought
with_brought word b = record { last = word; second = b.last; third = b.second }

-- the first of three words where they agree in all but their marks; else none
abbrev pub agreed : K → K → K → Option K
agreed a b c = if agrees a b && agrees a c then Some a else None

-- the word heard in a round, by what that round and the two before brought
abbrev pub heard_of : Option K → Option K → Option K → Option K
heard_of (Some a) (Some b) (Some c) = agreed a b c
heard_of (Some a) (Some b) None = None
heard_of (Some a) None c = None
heard_of None b c = None

-- the word that is heard: the last one, where all three rounds brought a word and the three agree; else none
abbrev pub hears : Brought → Option K
hears b = heard_of b.last b.second b.third
