-- What the parts of an answer come to.
use Rattle.std.proofs.Common.{◌≡◌, ℕ, ◌+◌, Bool, true, List, [], ◌++◌, Option, refl, ap, sym, subst, ◌∙◌}
use Rattle.std.specs.Prelude.{codes}
use Rattle.std.specs.Io.KnownBytes.{Appends}
use Rattle.sdh_outside.specs.Reading.{TakesFewer}
use Rattle.sdh_report.specs.Lines.{own_line}
use Rattle.sdh_shell.specs.Failing.{Counts, HaveFailed}
use Rattle.sdh_shell.proofs.Failing.{came_of_none}
use Rattle.sdh_retime_cli.specs.declared.status.Status.{Status}
use Rattle.sdh_retime_cli.specs.declared.status.Status.TheVariants as status
use Rattle.sdh_retime_cli.specs.Digits.{IsDigits, AreDigits, chunks}
use Rattle.sdh_retime_cli.specs.Lines.{lines_of, drift_line}
use Rattle.sdh_retime_cli.specs.Outcome.{bytes_max, IsRetimed, IsOutcome, HasCause, MayEnd, RetimingWrites, RetimingCameTo, TellsUnsteady}
use Rattle.sdh_retime_cli.proofs.Unsteady.{drifts_are_unsteady}

-- the turn of a run that ended with a drift
pub unsteady_run : (digits bytes : List ℕ) (s : Status) (text : List ℕ) → IsDigits digits → IsRetimed digits bytes s text → (turn : ℕ)
    → s ≡ status.Drift turn → TellsUnsteady digits turn text
unsteady_run digits bytes (status.Drift t) text d run turn is =
    let same : t ≡ turn = cc in
    let lines = lines_of (chunks digits bytes run.0) in
    subst (λ (n : ℕ). TellsUnsteady digits n text) same (record {
      unsteady = drifts_are_unsteady digits bytes run.0 t text d run.1;
      lines = lines;
      text_is = run.1.written ∙ ap (λ (n : ℕ). lines ++ drift_line n) (sym run.1.number);
    })
unsteady_run digits bytes status.Ok text d run turn is = absurd (cc)
unsteady_run digits bytes status.Usage text d run turn is = absurd run
unsteady_run digits bytes status.ReadFault text d run turn is = absurd run
unsteady_run digits bytes status.WriteFault text d run turn is = absurd run
unsteady_run digits bytes status.TooLong text d run turn is = absurd run
unsteady_run digits bytes status.Memory text d run turn is = absurd run

-- a read fault has its cause
pub cause_of : (reads : Counts) (s : Status) → (s ≡ status.ReadFault → HaveFailed reads) → HasCause reads s
cause_of reads status.ReadFault h = h refl
cause_of reads status.Ok h = tt
cause_of reads status.Usage h = tt
cause_of reads status.WriteFault h = tt
cause_of reads status.TooLong h = tt
cause_of reads (status.Drift turn) h = tt
cause_of reads status.Memory h = tt

-- an outcome whose whole text was written
pub whole : (words : List (List ℕ)) (bytes : List ℕ) (reads : Counts) (s : Status) (text : List ℕ) (old new : Option (List ℕ))
    → MayEnd words bytes reads s text → Appends old new text → RetimingWrites words bytes reads s old new
whole words bytes reads status.Ok text old new is written = (text, is, written)
whole words bytes reads status.Usage text old new is written = (text, is, written)
whole words bytes reads status.ReadFault text old new is written = (text, is, written)
whole words bytes reads status.TooLong text old new is written = (text, is, written)
whole words bytes reads (status.Drift t) text old new is written = (text, is, written)
whole words bytes reads status.WriteFault text old new is written = absurd is.0
whole words bytes reads status.Memory text old new is written = absurd is.0

-- with other words nothing is read from the source
pub usage_is : (words : List (List ℕ)) (s : Status) (text : List ℕ) → (¬ AreDigits words) → s ≡ status.Usage
    → text ≡ own_line (codes "usage: sdhretime DIGITS") → IsOutcome words [] s text
usage_is words s text other is line = subst (λ (how : Status). IsOutcome words [] how text) (sym is) (other, line)

-- memory ran out, and no read failed
pub came_without : (exact : Bool) (before after : ℕ) (left now : Option (List ℕ)) → (exact ≡ true → after ≡ before)
    → TakesFewer left now (bytes_max + 1) → RetimingCameTo exact before after left now status.Memory
came_without exact before after left now same few =
    came_of_none bytes_max exact (record { before = before; after = after }) left now same few (λ e. cc) (λ e. cc)
