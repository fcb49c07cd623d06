-- The local request of one side of a node, from its whole history: the fibre that comes in there, the commands and the
-- moments. Defects follow from the fibre alone, and no frame occurs. After ITU-T G.841; waiting by moments is this
-- project's own.
use Rattle.std.specs.Prelude.{ℕ, zero, suc, ◌-◌, Bool, false, ◌&&◌, not, nat_le, if◌then◌else◌, Option, Some, None, option_map}
use Rattle.sdh_ringmap.specs.declared.terms.Code.{Code}
use Rattle.sdh_ringmap.specs.declared.Side.{Side}
use Rattle.sdh_request.specs.declared.Defect.{Defect}
use Rattle.sdh_request.specs.declared.Defect.TheVariants as defect
use Rattle.sdh_request.specs.declared.Command.{Command}
use Rattle.sdh_request.specs.Requests.{is_defect_free, waits, highest_code}

-- what happened on one side, by rounds: whether the fibre that comes in is cut, how many bits of a frame its
-- degradation inverts (0 where it isn't degraded), which command holds, and which moment it is
pub record SideHistory : Type 0 where
  pub is_cut : ℕ → Bool
  pub degraded : ℕ → ℕ
  pub command : ℕ → Command
  pub moment : ℕ → ℕ

-- The frame that arrives in round t shows a degradation: the frame of the round before arrived too, and the fibre
-- inverted at least `threshold` bits of it. Round 0 brings no frame, so t is at least 2.
abbrev pub shows_degraded : ℕ → SideHistory → ℕ → Bool
shows_degraded threshold h t = nat_le 2 t && (not (h.is_cut (t - 1)) && nat_le threshold (h.degraded (t - 1)))

-- the defect of the side in round t: a signal failure where the fibre is cut, else a signal degradation where it shows;
-- in round 0 there is none
unfoldable pub defect_at : ℕ → SideHistory → ℕ → Defect
defect_at threshold h zero = defect.None
defect_at threshold h (suc t) =
    if h.is_cut (suc t) then defect.Sf else if shows_degraded threshold h (suc t) then defect.Sd else defect.None

-- a defect ends in round t: the side has one in the round before, and none in round t
unfoldable pub ends_at : ℕ → SideHistory → ℕ → Bool
ends_at threshold h zero = false
ends_at threshold h (suc t) = not (is_defect_free (defect_at threshold h t)) && is_defect_free (defect_at threshold h (suc t))

-- the last round up to t in which a defect ended, if one has
unfoldable pub last_end : ℕ → SideHistory → ℕ → Option ℕ
last_end threshold h zero = None
last_end threshold h (suc t) = if ends_at threshold h (suc t) then Some (suc t) else last_end threshold h t

-- The local request of the side in round t: the highest code that applies. Without a defect a side waits to restore as
-- long as fewer than `wait` moments have passed since the round in which its last defect ended.
unfoldable pub local_request : ℕ → ℕ → SideHistory → ℕ → Code
local_request threshold wait h t =
    highest_code (h.command t) (defect_at threshold h t)
    (waits wait (defect_at threshold h t) (h.moment t) (option_map h.moment (last_end threshold h t)))

-- what each side of each position asks for
abbrev pub Asking : Type 0
Asking = ℕ → Side → Code
