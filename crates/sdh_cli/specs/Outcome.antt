-- What the program does with a plan, and how a call of it ends.
use Rattle.std.specs.Prelude.{◌≡◌, ℕ, List, Option, Some, None}
use Rattle.sdh_plant.specs.Fibres.{Fibres}
use Rattle.sdh_plan.specs.Planned.{Planned}
use Rattle.sdh_report.specs.declared.listing.Listing.{Listing}
use Rattle.sdh_status.specs.declared.Status.{Status}
use Rattle.sdh_report.specs.Reports.{Report, text_of}
use Rattle.sdh_report.specs.Statuses.{usage}
use Rattle.sdh_shell.specs.Endings.{statuses}
use Rattle.sdh_shell.specs.Failing.{Counts}
use Rattle.sdh_programs.specs.Programs.{Deed, Writes, deed_listing, as_script, Program}
use Rattle.sdh_programs.specs.Outcome as outcome
use Rattle.sdh_plan.specs.Big.{big_planned}
use Rattle.sdh_cli.specs.Tables.{tables_of}
use Rattle.sdh_cli.specs.Plans.{IsRunOf, MaySettle}
use Rattle.sdh_cli.specs.Words.{Ask, Check, Big, asked, listing_of}

-- the plan of what is asked where no source is read for it: for `big` the large plan of the number
abbrev pub own_plan : Ask → Option Planned
own_plan (Big number) = Some (big_planned number)
own_plan ask = None

-- what is done with a plan: its tables are written, or it is run, or it is refused where it has no such port
abbrev pub deed_of : Ask → Planned → Deed Listing Status
deed_of Check plan = Writes (tables_of plan)
deed_of ask plan = deed_listing (listing_of ask plan)

abbrev pub Does : Ask → Planned → Deed Listing Status → Type 0
Does ask plan deed = deed ≡ deed_of ask plan

-- the program: it runs a plan over a ring of add-drop multiplexers, and lists the report of each settle step
abbrev pub ringing : Program Ask Listing Report Status
ringing = record {
  usage = usage;
  asked = asked;
  endings = statuses;
  closing = as_script Listing Report statuses;
  own_plan = own_plan;
  Does = Does;
  text_of = text_of;
  IsRunOf = IsRunOf;
  MaySettle = λ listing. MaySettle;
}

-- what must be known of a source: its bytes, or nothing where it isn't read
abbrev pub told : Option Ask → Option (List ℕ) → Option (List ℕ)
told = outcome.known_by own_plan

-- an outcome that, if it is a read fault or a plant fault, has its cause in a call that failed
abbrev pub MayEnd : Option Ask → List ℕ → Fibres → Counts → Counts → Status → List ℕ → Fibres → Type 0
MayEnd = outcome.MayEnd ringing
