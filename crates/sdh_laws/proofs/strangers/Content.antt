-- What AU-4s may hold, by a property for each port and for nobody: pointer words, values and generators don't matter to
-- it.
use Rattle.std.proofs.Common.{◌≡◌, ℕ, ◌⊎◌, Option, inl, inr}
use Rattle.sdh_frame.specs.Aus.{Au, ones}
use Rattle.sdh_ringmap.specs.declared.Side.{Side}
use Rattle.sdh_circuits.specs.declared.PortId.{PortId}
use Rattle.sdh_squelch.specs.Table.{OnSpan}
use Rattle.sdh_pointer.specs.declared.reading.Action.{Action}
use Rattle.sdh_pointer.specs.declared.reading.Action.TheVariants as action
use Rattle.sdh_pointer.specs.declared.word.Form.{Form}
use Rattle.sdh_pointer.specs.Sending.{form_sent, word_sent}
use Rattle.sdh_terminal.specs.Passing.{Input, au_with, au_for, au_sent}
use Rattle.sdh_laws.specs.Strangers.Vouched.{streams_to}

-- ones have it, and a generator keeps it which puts its own word in place of the AU-4's
pub record IsCarried (Own : Option PortId → Au → Type 0) : Type 0 where
  pub blank : (q : Option PortId) → Own q ones
  pub passes : (q : Option PortId) (f : Form) (w : ℕ) (a : Au) → Own q a → Own q (au_with f w a)

module _ (Own : Option PortId → Au → Type 0) where
  -- an AU-4 holds at most the stream, to a side, of what is on a span
  abbrev pub Bears : Option OnSpan → Side → Au → Type 0
  Bears o d a = Own (streams_to d o) a

  -- what an AU-4 brings to a node is AIS, or holds at most that stream
  abbrev pub Fine : Option OnSpan → Side → Input → Type 0
  Fine o d i = (i.action ≡ action.Ais) ⊎ Bears o d i.au

  module _ (own : IsCarried Own) where
    kept_for : (q : Option PortId) (x : Action) (f : Form) (w : ℕ) (a : Au) → (x ≡ action.Ais) ⊎ Own q a → Own q (au_for x f w a)
    kept_for q action.Ais f w a h = own.blank q
    kept_for q action.Normal f w a (inl z) = cc
    kept_for q action.Normal f w a (inr h) = own.passes q f w a h
    kept_for q action.New f w a (inl z) = cc
    kept_for q action.New f w a (inr h) = own.passes q f w a h
    kept_for q action.Up f w a (inl z) = cc
    kept_for q action.Up f w a (inr h) = own.passes q f w a h
    kept_for q action.Down f w a (inl z) = cc
    kept_for q action.Down f w a (inr h) = own.passes q f w a h

    -- what a generator in any state sends of it
    pub bears_sent : (o : Option OnSpan) (d : Side) (s : Option ℕ) (i : Input) → Fine o d i → Bears o d (au_sent s i)
    unfolding au_sent
    bears_sent o d s i h = kept_for (streams_to d o) i.action (form_sent s i.action i.value) (word_sent s i.action i.value) i.au h
