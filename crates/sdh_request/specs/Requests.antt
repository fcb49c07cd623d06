-- The local request of one side of a node: the highest of the codes that apply there. After ITU-T G.841, in which a
-- request that is more urgent pre-empts the others.
use Rattle.std.specs.Prelude.{ℕ, ◌+◌, Bool, true, false, ◌&&◌, nat_lt, Option, List, [], ◌∷◌, find}
use Rattle.std.specs.Option.{option_map_or}
use Rattle.sdh_ringmap.specs.declared.terms.Code.{Code}
use Rattle.sdh_ringmap.specs.declared.terms.Code.TheVariants.{Nr, Wtr, Ms, Sd, Sf, Fs}
use Rattle.sdh_request.specs.declared.Defect.{Defect}
use Rattle.sdh_request.specs.declared.Defect.TheVariants as defect
use Rattle.sdh_request.specs.declared.Command.{Command}
use Rattle.sdh_request.specs.declared.Command.TheVariants as command

-- the defect is none
abbrev pub is_defect_free : Defect → Bool
is_defect_free defect.None = true
is_defect_free defect.Sd = false
is_defect_free defect.Sf = false

-- the side waits to restore: it has no defect now, one ended before, and fewer than `wait` moments have passed since
-- that end
abbrev pub waits : ℕ → Defect → ℕ → Option ℕ → Bool
waits wait d now ended = is_defect_free d && option_map_or (λ t. nat_lt now (t + wait)) ended false

-- the code applies, by the command, the defect and whether the side waits
abbrev pub code_applies : Command → Defect → Bool → Code → Bool
code_applies command.Forced d w Fs = true
code_applies c defect.Sf w Sf = true
code_applies c defect.Sd w Sd = true
code_applies command.Manual d w Ms = true
code_applies c d w Wtr = w
code_applies c d w Nr = true
code_applies c d w _ = false

-- the codes that may apply, from the highest down
abbrev pub from_the_highest : List Code
from_the_highest = Fs ∷ Sf ∷ Sd ∷ Ms ∷ Wtr ∷ Nr ∷ []

-- the highest code that applies
abbrev pub highest_code : Command → Defect → Bool → Code
highest_code c d w = option_map_or (λ code. code) (find (code_applies c d w) from_the_highest) Nr
