-- What the program lists of a plan, and how it ends.
use Rattle.std.specs.Prelude.{ℕ, ◌≡◌, List, codes, None}
use Rattle.sdh_plant.specs.Fibres.{Fibres}
use Rattle.sdh_plant.specs.Arrivals.{Knows}
use Rattle.sdh_status.specs.declared.Status.{Status}
use Rattle.sdh_owed.specs.Plans.{world_of}
use Rattle.sdh_shell.specs.Endings.{statuses}
use Rattle.sdh_programs.specs.Programs.{deed_listing, as_script, Program}
use Rattle.sdh_programs.specs.Headline.{EndsAs}
use Rattle.sdh_outage_cli.specs.Outages.{Outaged}
use Rattle.sdh_outage_cli.specs.declared.listing.OutageListing.{OutageListing}
use Rattle.sdh_outage_cli.specs.Lines.{text_of}
use Rattle.sdh_outage_cli.specs.Plans.{IsRunOf, ran_of, MaySettle}
use Rattle.sdh_outage_cli.specs.Words.{OutageAsk, asked, listing_of}

-- the program runs a plan, and lists of each settle step for how many rounds each port was without its own customer's
-- bytes, or from which round on one port got what
abbrev pub listening : Program OutageAsk OutageListing Outaged Status
listening = record {
  usage = codes "usage: sdhoutage run, trace NAME END";
  asked = asked;
  endings = statuses;
  closing = as_script OutageListing Outaged statuses;
  own_plan = λ ask. None;
  Does = λ ask plan deed. deed ≡ deed_listing (listing_of ask plan);
  text_of = text_of;
  IsRunOf = IsRunOf;
  MaySettle = λ listing. MaySettle;
}

-- the program ends as the script does where the arrivals are known: unsettled at exactly the step in which no quiet
-- window comes within the limit; or a plant's call failed
abbrev pub EndsAsItRuns : List ℕ → Fibres → Status → Type 0
EndsAsItRuns bytes f how = EndsAs (λ plan. Knows (world_of plan f).fibres) (λ plan. (ran_of plan f).ending) bytes how
