-- An interpreter that reads one word again and again, and a generator that is given one input again and again.
use Rattle.std.specs.Prelude.{ℕ, zero, suc}
use Rattle.sdh_pointer.specs.declared.reading.Reading.{Reading}
use Rattle.sdh_pointer.specs.declared.reading.Action.{Action}
use Rattle.sdh_pointer.specs.Reading.{after_word}
use Rattle.sdh_pointer.specs.Sending.{Generator, after_action}

-- what is kept after k rounds with the same word
abbrev pub after_rounds : ℕ → ℕ → Reading → Reading
after_rounds zero w r = r
after_rounds (suc k) w r = after_rounds k w (after_word r w)

-- a generator after k rounds with the same action and value
abbrev pub after_inputs : ℕ → Action → ℕ → Generator → Generator
after_inputs zero a v g = g
after_inputs (suc k) a v g = after_inputs k a v (after_action g a v)
