-- Parts of what a table asks for. Each is there where its needed keys are there and each value has its kind.
use Rattle.std.specs.Prelude.{ℤ, ℕ, List, Option, codes}
use Rattle.std.specs.Option.{option_zip}
use Rattle.toml.specs.Data.{Members}
use Rattle.sdh_plan.specs.Document.{integer_at, text_at}
use Rattle.sdh_plan.specs.Circuits.{text_or, integer_or_0}

-- the ends and the slot
unfoldable pub way_in : Members → Option ((ℤ × ℤ) × ℤ)
way_in ms =
    option_zip (option_zip (integer_at (codes "from") ms) (integer_at (codes "to") ms)) (integer_at (codes "slot") ms)

-- the texts of both ends
unfoldable pub both_texts : Members → Option (List ℕ × List ℕ)
both_texts ms = option_zip (text_at (codes "text_a") ms) (text_at (codes "text_b") ms)

-- the traces of both ends; a missing one is the name
unfoldable pub traces_in : List ℕ → Members → Option (List ℕ × List ℕ)
traces_in name ms = option_zip (text_or name (codes "trace_a") ms) (text_or name (codes "trace_b") ms)

-- the offsets of both ends; a missing one is 0
unfoldable pub offsets_in : Members → Option (ℤ × ℤ)
offsets_in ms = option_zip (integer_or_0 (codes "offset_a") ms) (integer_or_0 (codes "offset_b") ms)
