use Rattle.std.proofs.Common.{◌≡◌, ◌≤◌, Some, None, length, sym, subst, ◌∙◌}
use Rattle.sdh_report.specs.declared.listing.Listing.{Listing}
use Rattle.sdh_scripts.specs.Texts.{room_for}
use Rattle.sdh_programs.specs.Programs.{Writes}
use Rattle.sdh_programs.specs.Deeds.{IsOnly}
use Rattle.sdh_cli.specs.Room.{report_room}
use Rattle.sdh_cli.specs.Words.{ask_of, listing_of}
use Rattle.sdh_cli.specs.Outcome.{ringing}
use Rattle.sdh_cli.specs.declared.words.Command.{Command}
use Rattle.sdh_cli.proofs.Deeds.{tables_only, run_only, none_only}
use Rattle.sdh_cli.proofs.program.CommandProgramText.deed.Goals as goal

pub returns-in-Check-clause-deed : goal.returns-in-Check-clause-deed
returns-in-Check-clause-deed g c =
    let told = c.in_ok-tables.tables.bytes in
    subst (λ (asked : Command). IsOnly ringing (ask_of asked) c.args.plan (Writes told)) (sym c.in-Check.is)
    (tables_only c.args.plan told c.in_ok-tables.ensures.text)

pub returns-in_ok-run-in-Some-clause-deed : goal.returns-in_ok-run-in-Some-clause-deed
returns-in_ok-run-in-Some-clause-deed g c =
    let is : listing_of (ask_of c.args.self) c.args.plan ≡ Some c.in-Some.listing = sym c.listing_of.ensures.listing ∙ c.in-Some.is in
    let new = c.in_ok-run-in-Some.ensures in
    (run_only (ask_of c.args.self) c.args.plan c.in-Some.listing is, (new.is_of, new.listing), new.ready)

pub returns-in_ok-run-in-Some-clause-room : goal.returns-in_ok-run-in-Some-clause-room
returns-in_ok-run-in-Some-clause-room g c =
    let ring = c.in_ok-run-in-Some.run'.runner.ring in
    subst (λ (l : Listing). room_for (report_room l (length ring.ids) (length ring.circuits.circuits)) 0 ≤ c.new_run.new.text.room)
    (sym c.in_ok-run-in-Some.ensures.listing) c.in_ok-run-in-Some.ensures.room

pub returns-in-None-clause-deed : goal.returns-in-None-clause-deed
returns-in-None-clause-deed g c =
    let none : listing_of (ask_of c.args.self) c.args.plan ≡ None = sym c.listing_of.ensures.listing ∙ c.in-None.is in
    (none_only c.args.self c.args.plan c.in_default.not-Check none, tt)
