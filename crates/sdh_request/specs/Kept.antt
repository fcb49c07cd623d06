-- What a side keeps of its history, which is enough for its request.
use Rattle.std.specs.Prelude.{ℕ, ◌≡◌, Option, Some, List, ◌∷◌, if◌then◌else◌}
use Rattle.sdh_ringmap.specs.declared.terms.Code.{Code}
use Rattle.sdh_request.specs.declared.Defect.{Defect}
use Rattle.sdh_request.specs.declared.Command.{Command}
use Rattle.sdh_request.specs.Requests.{waits, highest_code}
use Rattle.sdh_request.specs.History.{LocalHappening, seen, commanded, reached, present_defect, present_command, present_moment}
use Rattle.sdh_request.specs.History.{last_end_moment, ends}

-- the waiting time, the present command, defect and moment, and the moment at which a defect last ended
pub record LocalKept : Type 0 where
  pub wait : ℕ
  pub command : Command
  pub defect : Defect
  pub moment : ℕ
  pub ended : Option ℕ

-- what a side with a waiting time keeps of its history
abbrev pub kept_of : ℕ → List LocalHappening → LocalKept
kept_of wait history = record {
  wait = wait;
  command = present_command history;
  defect = present_defect history;
  moment = present_moment history;
  ended = last_end_moment history;
}

-- what is kept after one more happening
abbrev pub after_happening : LocalHappening → LocalKept → LocalKept
after_happening (seen d) k = record k { defect = d; ended = if ends k.defect d then Some k.moment else k.ended }
after_happening (commanded c) k = record k { command = c }
after_happening (reached t) k = record k { moment = t }

-- `old` is what is kept of some history, and `new` is what is kept of that history with one more happening
abbrev pub Adds : LocalHappening → LocalKept → LocalKept → Type 0
Adds x old new = (wait : ℕ) (history : List LocalHappening) → old ≡ kept_of wait history → new ≡ kept_of wait (x ∷ history)

-- the local request by what is kept
abbrev pub kept_request : LocalKept → Code
kept_request k = highest_code k.command k.defect (waits k.wait k.defect k.moment k.ended)
