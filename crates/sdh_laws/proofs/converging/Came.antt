-- What a side keeps of the words that come to it, from round to round.
use Rattle.std.proofs.Common.{◌≡◌, ℕ, suc, ◌<◌, Bool, length, Option, Some, None, ap, sym, ◌∙◌, inl, inr}
use Rattle.std.specs.Prelude.{if◌then◌else◌}
use Rattle.std.proofs.lemmas.Bool.{cases_Bool}
use Rattle.sdh_ringmap.specs.declared.Side.{Side}
use Rattle.sdh_ringmap.specs.declared.Side.TheVariants.{West, East}
use Rattle.sdh_ringmap.specs.declared.terms.Condition.{Condition}
use Rattle.sdh_ringmap.specs.Places.{neighbour, opposite}
use Rattle.sdh_ringmap.specs.Fibres.{is_cut}
use Rattle.sdh_kbytes.specs.declared.K.{K}
use Rattle.sdh_nodestate.specs.declared.Sent.{Sent}
use Rattle.sdh_nodestate.specs.Filtering.{Brought, with_brought}
use Rattle.sdh_node.specs.Node.{Node, receiving_on, sent_of, last_word_on}
use Rattle.sdh_rounds.specs.Runs as any_run
use Rattle.sdh_node.specs.Rings.Held.{node_at}
use Rattle.sdh_node.specs.Rings.Rounds.{World, round}
use Rattle.sdh_node.specs.Rings.Runs.{run}
use Rattle.sdh_node.specs.Rings.Sides.{condition_to}
use Rattle.sdh_laws.specs.Hearing.Signalling.{word_to}
use Rattle.sdh_laws.specs.Hearing.Laws.{IsWhole}
use Rattle.sdh_laws.proofs.hearing.Changes.{whole_run}
use Rattle.sdh_laws.proofs.hearing.Rounds.{brings}
use Rattle.sdh_laws.proofs.hearing.Staying.{left_run}
use Rattle.sdh_laws.proofs.converging.Runs.{inside_run}

-- the word after a fibre, if it comes
abbrev pub come_behind : Condition → K → Option K
come_behind c k = if is_cut c then None else Some k

pub came_after : (u : World) → IsWhole u → (p : ℕ) (d : Side) → p < length u.ring.nodes → 0 < u.ring.rounds
    → (receiving_on d (node_at (round u).ring.nodes p)).brought.last ≡ come_behind (condition_to u p d) (word_to u p d)
came_after u whole p d inside started =
    let b = brings u whole p d inside in
    elim (cases_Bool (is_cut (condition_to u p d))) [
      | inl cut ↦ b.silent started cut ∙ sym (ap (λ (t : Bool). if t then None else Some (word_to u p d)) cut)
      | inr clear ↦ b.comes started clear ∙ sym (ap (λ (t : Bool). if t then None else Some (word_to u p d)) clear)
    ]

pub word_by : (v : Node) (d : Side) (s : Node) → sent_of v ≡ sent_of s → last_word_on d v ≡ last_word_on d s
word_by v West s e = ap (λ (z : Sent). z.west) e
word_by v East s e = ap (λ (z : Sent). z.east) e

-- ---- in a run

pub word_to_in : (w : World) (k p : ℕ) (d : Side)
    → word_to (run k w) p d ≡ last_word_on (opposite d) (node_at (run k w).ring.nodes (neighbour (length w.ring.ids) p d))
word_to_in w k p d = ap (λ ids. last_word_on (opposite d) (node_at (run k w).ring.nodes (neighbour (length ids) p d))) (left_run k w).ids

-- what a side keeps after k rounds
abbrev pub kept : World → ℕ → ℕ → Side → Brought
kept w k p d = (receiving_on d (node_at (run k w).ring.nodes p)).brought

pub earlier_in : (w : World) → IsWhole w → (k p : ℕ) (d : Side) → p < length w.ring.nodes
    → kept w (suc k) p d ≡ with_brought (kept w (suc k) p d).last (kept w k p d)
unfolding any_run.run
earlier_in w whole k p d h = (brings (run k w) (whole_run w k whole) p d (inside_run w k p h)).earlier
