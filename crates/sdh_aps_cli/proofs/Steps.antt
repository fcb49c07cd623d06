-- A settle step of whose rounds lines are written, and the script that goes on.
use Rattle.std.proofs.Common.{◌≡◌, ℕ, suc, ◌-◌, List, [], ◌∷◌, ◌++◌, length, Option, refl, ap, sym, ◌∙◌, subst, arith, inl, inr}
use Rattle.std.specs.Prelude.{Result, Ok, Err, OnOk, OnErr}
use Rattle.std.specs.Io.KnownBytes.{Appends}
use Rattle.std.proofs.KnownBytes.{Appends-trans}
use Rattle.sdh_outside.specs.Writing.{AppendsFewer}
use Rattle.std.specs.List.{flat_map}
use Rattle.std.proofs.lemmas.Grind.{flat_map-append}
use Rattle.sdh_node.specs.Stations.{adm}
use Rattle.sdh_rounds.proofs.Runs.{course_whole}
use Rattle.sdh_node.specs.Rings.Held.{HeldRing}
use Rattle.sdh_node.specs.Rings.Rounds.{World}
use Rattle.sdh_node.specs.Rings.Runs.{course_with}
use Rattle.sdh_node.specs.Rings.Quiet.{Settles}
use Rattle.sdh_rounds.specs.Observed.{Hears, RanSome, HearsSome}
use Rattle.sdh_report.specs.Lines.{settle_line}
use Rattle.sdh_report.specs.Written.{Written}
use Rattle.sdh_scripts.specs.Runners.{WroteStep}
use Rattle.sdh_rounds.specs.declared.faults.SettleError.{SettleError}
use Rattle.sdh_rounds.specs.declared.faults.SettleError.TheVariants as settling
use Rattle.sdh_scripts.specs.Tellers.{Begun, InStep, WasToWrite, CutIn, WroteBegun, step_error}
use Rattle.sdh_scripts.proofs.Reporting.{ended_with}
use Rattle.sdh_owed.proofs.Steps.{settled_held}
use Rattle.sdh_report.specs.Written.{room_in}
use Rattle.sdh_aps.specs.declared.shown.Shown.{Shown}
use Rattle.sdh_aps_cli.specs.Signalled.{Signalled, signalled_in, shown_changes, changes_shown_in}
use Rattle.sdh_aps_cli.specs.Frames.{sent_last, frames_sent_in, frame_of, frames_of, frames_bytes}
use Rattle.sdh_aps_cli.specs.declared.window.FrameWindow.{FrameWindow}
use Rattle.sdh_aps_cli.specs.Scripts.{signalling_walk}
use Rattle.sdh_aps_cli.specs.Listing.{change_text, changes_text, begun_text, ended_text}
use Rattle.sdh_aps_cli.specs.Recording.{IsReady}
use Rattle.sdh_aps_cli.specs.declared.listing.SignalListing.{SignalListing}

-- ---- answers that are known

pub on_err_is : {A E : Type 0} {P : Type 0} (r : Result A E) (e : E) → r ≡ Err e → OnErr r P → P
on_err_is {P = P} r e is x = subst (λ q. OnErr q P) is x

pub on_ok_is : {A E : Type 0} {P : Type 0} (r : Result A E) (a : A) → r ≡ Ok a → OnOk r P → P
on_ok_is {P = P} r a is x = subst (λ q. OnOk q P) is x

-- ---- a step

-- a settle step leaves the number of nodes
pub ids_at : (w left : World) (limit : ℕ) (s : Settles w limit left)
    → length (course_with s.rounds w (length s.rounds)).ring.ids ≡ length w.ring.ids
ids_at w left limit s =
    let at : left ≡ course_with s.rounds w (length s.rounds) = s.left_is ∙ course_whole adm s.rounds w in
    ap (λ (v : World). length v.ring.ids) (sym at) ∙ ap (λ (r : HeldRing). length r.ids) (settled_held w left limit s)

-- a settle step, whatever is written of its rounds and at its end
module _ (w left : World) (limit number : ℕ) (text_of begun_of : Signalled → List ℕ) (old new : Option (List ℕ))
    (kept_of : (ℕ → World) → ℕ → Type 0) where
  -- whole rounds of a settle step are in the step
  in_step : (mid : World) → (x : RanSome adm kept_of w limit mid)
      → InStep signalling_walk limit number w (signalled_in number (course_with x.rounds w) (length x.rounds)) mid
  in_step mid x = record {
    rounds = x.rounds;
    arrive = x.arrive;
    few = x.few;
    never = x.never;
    mid_is = x.mid_is;
    told_is = refl;
  }

  -- a settle step didn't end, and what is written of its whole rounds was written
  pub begun_some : HearsSome adm kept_of w limit left
      → ((at : ℕ → World) (k : ℕ) → kept_of at k → Appends old new (begun_of (signalled_in number at k)))
      → (text : List ℕ) × Begun signalling_walk limit number begun_of w text left × Appends old new text
  begun_some x wrote =
      let at = course_with x.ran.rounds w in
      let k = length x.ran.rounds in (
        begun_of (signalled_in number at k),
        record {
          mid = x.mid;
          told = signalled_in number at k;
          so_far = inl (in_step x.mid x.ran);
          next = x.next;
          text_is = refl;
        },
        wrote at k x.ran.kept,
      )

  -- an unsettled settle step, where these rounds are all that ran
  pub unsettled_some : RanSome adm kept_of w limit left
      → ((at : ℕ → World) (k : ℕ) → kept_of at k → Appends old new (begun_of (signalled_in number at k)))
      → (text : List ℕ) × (x : Begun signalling_walk limit number begun_of w text left) × (left ≡ x.mid) × Appends old new text
  unsettled_some x wrote =
      let at = course_with x.rounds w in
      let k = length x.rounds in (
        begun_of (signalled_in number at k),
        record {
          mid = left;
          told = signalled_in number at k;
          so_far = inl (in_step left x);
          next = inl refl;
          text_is = refl;
        },
        refl,
        wrote at k x.kept,
      )

  -- a settle step over a ring didn't end, for one of two reasons
  pub not_ended : (why : SettleError) (r : Result (Unit {0}) SettleError) → r ≡ Err why
      → (r ≡ Err settling.Unsettled → RanSome adm kept_of w limit left) → OnErr r (HearsSome adm kept_of w limit left)
      → ((at : ℕ → World) (k : ℕ) → kept_of at k → Appends old new (begun_of (signalled_in number at k)))
      → WroteBegun signalling_walk limit number text_of begun_of w (step_error why) left old new
  not_ended settling.Unsettled r is ran some wrote = unsettled_some (ran is) wrote
  not_ended settling.PlantFault r is ran some wrote = begun_some (on_err_is r settling.PlantFault is some) wrote

  -- A settle step in which a write failed: what is written of the rounds before the last one was written, and of what the
  -- last one adds only the first bytes. `adds at j` is what round j + 1 of a course adds.
  pub cut_some : (adds : (ℕ → World) → ℕ → List ℕ) → RanSome adm kept_of w limit left
      → ((at : ℕ → World) (j : ℕ) → begun_of (signalled_in number at j) ++ adds at j ≡ begun_of (signalled_in number at (suc j)))
      → ((at : ℕ → World) (k : ℕ) → kept_of at k → (j : ℕ) × (k ≡ suc j) × CutIn old new (begun_of (signalled_in number at j)) (adds at j))
      → (first : List ℕ) × (last : List ℕ) × WasToWrite signalling_walk limit number text_of begun_of w first last left
      × CutIn old new first last
  unfolding in_step
  cut_some adds x more front =
      let at = course_with x.rounds w in
      let k = length x.rounds in
      let cut = front at k x.kept in
      let j = cut.0 in (
        begun_of (signalled_in number at j),
        adds at j,
        inl (
          signalled_in number at j,
          signalled_in number at k,
          inl (in_step left x, j, cut.1, refl),
          refl,
          more at j ∙ ap (λ n. begun_of (signalled_in number at n)) (sym cut.1),
        ),
        cut.2,
      )

  -- a settle step that ended, and what is written of it was written
  pub wrote_ended : (x : Hears adm kept_of w limit left)
      → ((at : ℕ → World) (k : ℕ) → kept_of at k → Appends old new (text_of (signalled_in number at k)))
      → WroteStep signalling_walk limit number text_of w left old new
  wrote_ended x wrote =
      let at = course_with x.settles.rounds w in
      let k = length x.settles.rounds in
      record {
        told = signalled_in number at k;
        ended = ended_with signalling_walk refl limit number w left x.settles;
        text = wrote at k x.kept;
      }

-- a settle step whose lines are written, with its own line
module _ (w left : World) (limit number : ℕ) (listing : SignalListing) (old new : Option (List ℕ))
    (kept_of : (ℕ → World) → ℕ → Type 0) (x : Hears adm kept_of w limit left) where
  abbrev at : ℕ → World
  at = course_with x.settles.rounds w

  abbrev ran : ℕ
  ran = length x.settles.rounds

  pub left_at : left ≡ at ran
  left_at = x.settles.left_is ∙ course_whole adm x.settles.rounds w

  line_is : settle_line number (left.ring.rounds - 1) ≡ settle_line number ((at ran).ring.rounds - 1)
  line_is = ap (λ (v : World). settle_line number (v.ring.rounds - 1)) left_at

  -- the lines of its rounds were written, and its own line
  pub wrote_step : (first : SignalListing) → first ≡ listing → (mid : Option (List ℕ)) → Appends old mid (changes_text first (changes_shown_in ran at))
      → Appends mid new (settle_line number (left.ring.rounds - 1))
      → WroteStep signalling_walk limit number (ended_text listing) w left old new
  wrote_step first same mid before line = record {
    told = signalled_in number at ran;
    ended = ended_with signalling_walk refl limit number w left x.settles;
    text =
        Appends-trans old mid new (changes_text listing (changes_shown_in ran at)) (settle_line number ((at ran).ring.rounds - 1))
        (subst (λ l. Appends old mid (changes_text l (changes_shown_in ran at))) same before) (subst (Appends mid new) line_is line);
  }

  -- only the first bytes of these lines were written
  pub cut_line : (first : SignalListing) → first ≡ listing → (mid : Option (List ℕ)) → Appends old mid (changes_text first (changes_shown_in ran at))
      → AppendsFewer mid new (settle_line number (left.ring.rounds - 1))
      → (text : List ℕ) × (last : List ℕ)
      × WasToWrite signalling_walk limit number (ended_text listing) (begun_text listing) w text last left × CutIn old new text last
  cut_line first same mid before line = (
    begun_text listing (signalled_in number at ran),
    settle_line number ((at ran).ring.rounds - 1),
    inr (signalled_in number at ran, ended_with signalling_walk refl limit number w left x.settles, refl, refl),
    (
      mid,
      subst (λ l. Appends old mid (changes_text l (changes_shown_in ran at))) same before,
      subst (AppendsFewer mid new) line_is line,
    ),
  )

-- ---- what one more round adds

-- to the lines of a settle step
pub lines_add : (listing : SignalListing) (number : ℕ) (at : ℕ → World) (j : ℕ)
    → begun_text listing (signalled_in number at j) ++ changes_text listing (shown_changes (at j).ring (at (suc j)).ring)
    ≡ begun_text listing (signalled_in number at (suc j))
lines_add listing number at j =
    sym (flat_map-append (change_text listing) (changes_shown_in j at) (shown_changes (at j).ring (at (suc j)).ring))

-- to the frames of one
pub frames_add : (ask : FrameWindow) (number : ℕ) (at : ℕ → World) (j : ℕ)
    → frames_bytes ask (signalled_in number at j).sent ++ frames_bytes ask (sent_last (at (suc j)) ∷ [])
    ≡ frames_bytes ask (signalled_in number at (suc j)).sent
frames_add ask number at j =
    let bytes = λ (frames : List (List ℕ)). flat_map (λ (frame : List ℕ). frame) frames in
    sym (ap bytes (flat_map-append (frame_of ask) (frames_sent_in j at) (sent_last (at (suc j)) ∷ []))
    ∙ flat_map-append (λ (frame : List ℕ). frame) (frames_of ask (frames_sent_in j at)) (frames_of ask (sent_last (at (suc j)) ∷ [])))

-- ---- room stays

pub ready_as : (r s : HeldRing) (items now : List Shown) (text later : Written) → length s.ids ≡ length r.ids → length now ≡ length items
    → room_in later ≡ room_in text → IsReady r items text → IsReady s now later
ready_as r s items now text later size many room x = record {
  many = omega (arith, many, x.many, size);
  room = omega (arith, room, x.room, size);
}
