-- The local request as a function of all that happened on a side.
use Rattle.std.specs.Prelude.{ℕ, Bool, ◌&&◌, not, Option, Some, None, List, [], ◌∷◌, if◌then◌else◌}
use Rattle.sdh_ringmap.specs.declared.terms.Code.{Code}
use Rattle.sdh_request.specs.declared.Defect.{Defect}
use Rattle.sdh_request.specs.declared.Defect.TheVariants as defect
use Rattle.sdh_request.specs.declared.Command.{Command}
use Rattle.sdh_request.specs.declared.Command.TheVariants as command
use Rattle.sdh_request.specs.Requests.{is_defect_free, waits, highest_code}

-- what happens on a side: a round finds a defect or none there, a command is given, or the moment is set
pub data LocalHappening : Type 0 where
  seen : Defect → LocalHappening
  commanded : Command → LocalHappening
  reached : ℕ → LocalHappening

-- A history is the list of what happened, the latest first.

-- the defect that the last round found; none before the first round
abbrev pub present_defect : List LocalHappening → Defect
present_defect [] = defect.None
present_defect (seen d ∷ earlier) = d
present_defect (commanded c ∷ earlier) = present_defect earlier
present_defect (reached t ∷ earlier) = present_defect earlier

-- the last command; none before the first
abbrev pub present_command : List LocalHappening → Command
present_command [] = command.Clear
present_command (seen d ∷ earlier) = present_command earlier
present_command (commanded c ∷ earlier) = c
present_command (reached t ∷ earlier) = present_command earlier

-- the last moment that was set; moment 0 before the first
abbrev pub present_moment : List LocalHappening → ℕ
present_moment [] = 0
present_moment (seen d ∷ earlier) = present_moment earlier
present_moment (commanded c ∷ earlier) = present_moment earlier
present_moment (reached t ∷ earlier) = t

-- a defect ends: one round found it, and the next one finds none
abbrev pub ends : Defect → Defect → Bool
ends before d = not (is_defect_free before) && is_defect_free d

-- the moment at which a defect last ended, if one has
abbrev pub last_end_moment : List LocalHappening → Option ℕ
last_end_moment [] = None
last_end_moment (seen d ∷ earlier) = if ends (present_defect earlier) d then Some (present_moment earlier) else last_end_moment earlier
last_end_moment (commanded c ∷ earlier) = last_end_moment earlier
last_end_moment (reached t ∷ earlier) = last_end_moment earlier

-- the local request after a history of a side that waits `wait` moments to restore
abbrev pub request_of : ℕ → List LocalHappening → Code
request_of wait history =
    highest_code (present_command history) (present_defect history)
    (waits wait (present_defect history) (present_moment history) (last_end_moment history))
