-- What the plants in memory keep, and what it means.
use Rattle.std.specs.Prelude.{ℕ, ◌≡◌, ◌*◌, ◌<◌, ◌≤◌, true, false, Option, Some, None, List, [], All, length, map, drop, replicate}
use Rattle.std.specs.Prelude.{if◌then◌else◌}
use Rattle.std.specs.List.{list_all}
use Rattle.std.specs.Global.{Vec}
use Rattle.sdh_ringmap.specs.declared.terms.Rate.{Rate}
use Rattle.sdh_frame.specs.Sizes.{Frame, size_of}
use Rattle.sdh_ringmap.specs.declared.terms.Condition.{Condition}
use Rattle.sdh_plant.specs.declared.fibre_plant.Fibre.{Fibre}
use Rattle.sdh_plant.specs.declared.told_plant.Told.{Told}
use Rattle.sdh_plant.specs.declared.told_plant.Told.TheVariants as told
use Rattle.sdh_plant.specs.Fibres.{Arrival, Fibres}
use Rattle.sdh_ringmap.specs.Fibres.{IsConditionAt}
use Rattle.sdh_plant.specs.Calls.{is_at}
use Rattle.sdh_plant.specs.InMemory.{HeldFibres}

-- the items of a list, or none where its memory isn't taken yet
abbrev pub items_of : {X : Type 0} → Option (Vec X) → List X
items_of None = []
items_of (Some v) = v.items

-- the frame that a fibre carries, if it carries one
abbrev pub carried_by : Fibre → Arrival
carried_by x = if x.carries then Some x.frame.bytes else None

abbrev pub conditions : List Fibre → List Condition
conditions xs = map (λ x. x.condition) xs

abbrev pub carried : List Fibre → List Arrival
carried xs = map carried_by xs

abbrev pub held : ℕ → Rate → List Fibre → HeldFibres
held n rate xs = record { nodes = n; rate = rate; conditions = conditions xs; carried = carried xs }

-- The fibre's frame has the plant's rate, and is one of zeros where the fibre carries none. Its condition is one that a
-- fibre may have at that rate.
pub record IsFibre (rate : Rate) (x : Fibre) : Type 0 where
  pub frame : x.frame.rate ≡ rate
  pub blank : x.carries ≡ false → x.frame.bytes ≡ replicate (size_of rate) 0
  pub condition : IsConditionAt rate x.condition

-- what is true of the fibres of n spans
pub record AreFibres (n : ℕ) (rate : Rate) (xs : List Fibre) : Type 0 where
  pub count : length xs ≡ 2 * n
  pub few : n ≤ 16
  pub each : All (IsFibre rate) xs

-- The frames of a recording; the first `count` of them were sent. There are none before there are fibres, and then as
-- many as there is room for.
pub record AreFrames (fibres : HeldFibres) (room count : ℕ) (frames : List Frame) : Type 0 where
  pub none : fibres.nodes ≡ 0 → frames ≡ []
  pub all : 0 < fibres.nodes → length frames ≡ room
  pub within : count ≤ length frames
  pub rates : All (λ f. f.rate ≡ fibres.rate) frames

-- an arrival of the list: the bytes of a frame, or nothing
abbrev pub arrival_of : Told → Arrival
arrival_of told.Dark = None
arrival_of (told.Frame frame) = Some frame.bytes

-- the arrival is nothing, or a frame of this rate
abbrev pub IsToldAt : Rate → Told → Type 0
IsToldAt rate told.Dark = Unit {0}
IsToldAt rate (told.Frame frame) = frame.rate ≡ rate

-- The arrivals; the first `next` of them were given, or all were dropped when fibres were made, as one is a frame of
-- another rate. Once there are fibres, each after the first `next` is nothing, or a frame of their rate.
pub record AreTold (fibres : HeldFibres) (next : ℕ) (arrivals : List Told) : Type 0 where
  pub within : next ≤ length arrivals
  pub rates : 0 < fibres.nodes → list_all (is_at fibres.rate) (map arrival_of (drop next arrivals)) ≡ true

-- These are the frames that a plant's fibres carry. Before there are fibres nothing is kept.
pub record AreKept (kept : HeldFibres) (fibres : Fibres) : Type 0 where
  pub nodes : kept.nodes ≡ fibres.nodes
  pub rate : 0 < fibres.nodes → kept.rate ≡ fibres.rate
  pub carried : 0 < fibres.nodes → kept.carried ≡ fibres.carried
