-- What the words of a command line ask for. The words are this project's own.
use Rattle.std.specs.Prelude.{ℕ, Bool, true, is_some, List, [], ◌∷◌, codes, Option, Some, None, option_map, option_and_then}
use Rattle.std.specs.Prelude.{if◌then◌else◌}
use Rattle.std.specs.Str.{bytes_eq}
use Rattle.sdh_plan.specs.Words.{numeral_in}
use Rattle.sdh_plan.specs.Steps.{side_at}
use Rattle.sdh_ringmap.specs.declared.Pos.{Pos}
use Rattle.sdh_ringmap.specs.Places.{found_at}
use Rattle.sdh_aps_cli.specs.declared.listing.SignalListing.{SignalListing}
use Rattle.sdh_aps_cli.specs.declared.listing.SignalListing.TheVariants as lines
use Rattle.sdh_aps_cli.specs.declared.listing.SignalAsk.{SignalAsk}
use Rattle.sdh_aps_cli.specs.declared.listing.SignalAsk.TheVariants as ask
use Rattle.sdh_aps_cli.specs.declared.listing.PlanListing.{PlanListing}
use Rattle.sdh_aps_cli.specs.declared.listing.PlanListing.TheVariants as listing
use Rattle.sdh_aps_cli.specs.declared.window.FrameAsk.{FrameAsk}
use Rattle.sdh_aps_cli.specs.declared.window.FrameWindow.{FrameWindow}

-- ---- words

-- one word: all nodes
abbrev pub asked_alone : List ℕ → Option SignalAsk
asked_alone word = if bytes_eq word (codes "run") then Some (ask.Lines lines.All) else None

-- a word and an identifier: one node
abbrev pub asked_of_node : List ℕ → List ℕ → Option SignalAsk
asked_of_node word id =
    if bytes_eq word (codes "node") then option_map (λ n. ask.Lines (lines.Node n)) (numeral_in 0 15 id) else None

-- an identifier, a side, the first of the rounds, and their number: frames
abbrev pub frames_asked : List ℕ → List ℕ → List ℕ → List ℕ → Option SignalAsk
frames_asked id side first count =
    option_and_then (λ n. option_and_then (λ d. option_and_then (λ k. option_map (λ m. ask.Frames (record {
      id = n;
      side = d;
      first = k;
      count = m;
    })) (numeral_in 1 4294967295 count)) (numeral_in 0 4294967295 first)) (side_at side)) (numeral_in 0 15 id)

abbrev pub asked_of_frames : List ℕ → List ℕ → List ℕ → List ℕ → List ℕ → Option SignalAsk
asked_of_frames word id side first count = if bytes_eq word (codes "frames") then frames_asked id side first count else None

-- what the words ask for, where they have one of the three forms
abbrev pub asked : List (List ℕ) → Option SignalAsk
asked (word ∷ []) = asked_alone word
asked (word ∷ id ∷ []) = asked_of_node word id
asked (word ∷ id ∷ side ∷ first ∷ count ∷ []) = asked_of_frames word id side first count
asked words = None

-- ---- the nodes of a ring

-- a ring of these identifiers has the node whose lines are asked for
abbrev pub has_node : SignalListing → List ℕ → Bool
has_node lines.All ids = true
has_node (lines.Node id) ids = is_some (found_at ids id)

-- the frames that the node at a position sends, as they are asked for
abbrev pub window_at : FrameAsk → Pos → FrameWindow
window_at a p = record { at = p; side = a.side; first = a.first; count = a.count }

-- what is written of a run over a ring of these identifiers, where it has the node that is asked for
abbrev pub listing_of : SignalAsk → List ℕ → Option PlanListing
listing_of (ask.Lines l) ids = if has_node l ids then Some (listing.Lines l) else None
listing_of (ask.Frames a) ids = option_map (λ p. listing.Frames (window_at a p)) (found_at ids a.id)
