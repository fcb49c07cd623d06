-- The program: how it is called, and what it reports of plans.
use Rattle.std.specs.Prelude.{ℕ, ◌≡◌, codes, List, Option, Some, None}
use Rattle.sdh_programs.specs.Programs.{Deed, Refuses, Runs, Program}
use Rattle.sdh_aps_cli.specs.Endings.{signalling_endings}
use Rattle.sdh_aps_cli.specs.Words.{asked, listing_of}
use Rattle.sdh_aps_cli.specs.Plans.{Piece, pieces_text, IsSignalledRun, closing, MaySettle}
use Rattle.sdh_aps_cli.specs.declared.ending.Ending.{Ending}
use Rattle.sdh_aps_cli.specs.declared.ending.Ending.TheVariants as ending
use Rattle.sdh_aps_cli.specs.declared.listing.SignalAsk.{SignalAsk}
use Rattle.sdh_aps_cli.specs.declared.listing.PlanListing.{PlanListing}

-- how the program is called
abbrev pub usage : List ℕ
usage = codes "usage: sdhaps run, node ID, frames ID SIDE FIRST COUNT"

-- a plan is run where it has the node that is asked for
abbrev pub signal_deed_of : Option PlanListing → Deed PlanListing Ending
signal_deed_of (Some listing) = Runs listing
signal_deed_of None = Refuses ending.NoSuchNode

abbrev pub signalling : Program SignalAsk PlanListing Piece Ending
signalling = record {
  usage = usage;
  asked = asked;
  endings = signalling_endings;
  closing = closing;
  own_plan = λ ask. None;
  Does = λ ask plan deed. deed ≡ signal_deed_of (listing_of ask plan.nodes);
  text_of = pieces_text;
  IsRunOf = IsSignalledRun;
  MaySettle = MaySettle;
}
