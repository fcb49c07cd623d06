-- One round more of a settle step, recorded.
use Rattle.std.proofs.Common.{◌≡◌, ℕ, suc, ◌+◌, ◌≤◌, Bool, true, List, ◌++◌, length, Option, refl, ap, sym, ◌∙◌, subst, arith}
use Rattle.std.specs.Io.KnownBytes.{Appends}
use Rattle.std.proofs.KnownBytes.{Appends-nil, Appends-trans}
use Rattle.std.proofs.lemmas.Grind.{flat_map-append}
use Rattle.sdh_basics.specs.Causes.{Rose, one_more}
use Rattle.sdh_outside.specs.Writing.{AppendsFewer}
use Rattle.sdh_node.specs.Stations.{adm}
use Rattle.sdh_rounds.proofs.Runs.{held_round}
use Rattle.sdh_node.specs.Rings.Held.{HeldRing}
use Rattle.sdh_node.specs.Rings.Rounds.{World}
use Rattle.sdh_ring.specs.Observed.{RanOne}
use Rattle.sdh_report.specs.Written.{Written}
use Rattle.sdh_report.specs.Written.{room_in}
use Rattle.sdh_aps.specs.declared.shown.Shown.{Shown}
use Rattle.sdh_aps_cli.specs.Signalled.{shown_at, changes_to, shown_changes, changes_shown_in}
use Rattle.sdh_aps_cli.specs.Listing.{change_text, changes_text}
use Rattle.sdh_aps_cli.specs.Recording.{AreShown, IsReady, IsRecorded, IsCut, NoneFailed, OneFailed}
use Rattle.sdh_aps_cli.specs.declared.listing.SignalListing.{SignalListing}

module _ (at : ℕ → World) (k : ℕ) (ring : HeldRing) (ran : RanOne at k ring) where
  -- the round left the nodes as many, and ran
  held : ring ≡ record (at k).ring { nodes = ring.nodes; rounds = (at k).ring.rounds + 1 }
  held =
      let is = ran.round.after_is in
      let after = ran.ring_is ∙ ap (λ (v : World). v.ring) is in
      after ∙ held_round adm ran.round.arrivals (at k)
      ∙ ap (λ (r : HeldRing). record (at k).ring { nodes = r.nodes; rounds = (at k).ring.rounds + 1 }) (sym after)

  pub same_size : length ring.ids ≡ length (at k).ring.ids
  same_size = ap (λ (r : HeldRing). length r.ids) held

  pub has_run : 1 ≤ ring.rounds
  has_run = let grown = ap (λ (r : HeldRing). r.rounds) held in omega (arith, grown)

  -- the lines of the round's changes
  module _ (listing : SignalListing) (text : List ℕ) (items : List Shown) (are : AreShown (shown_at (at k).ring) items)
      (made : (was : ℕ → Shown) → AreShown was items → text ≡ changes_text listing (changes_to was ring (length ring.ids))) where
    text_is : text ≡ changes_text listing (shown_changes (at k).ring (at (suc k)).ring)
    text_is =
        made (shown_at (at k).ring) are
        ∙ ap (λ (r : HeldRing). changes_text listing (changes_to (shown_at (at k).ring) r (length r.ids))) ran.ring_is

    all_text : changes_text listing (changes_shown_in k at) ++ text ≡ changes_text listing (changes_shown_in (suc k) at)
    all_text =
        ap (λ l. changes_text listing (changes_shown_in k at) ++ l) text_is
        ∙ sym (flat_map-append (change_text listing) (changes_shown_in k at) (shown_changes (at k).ring (at (suc k)).ring))

    -- what is recorded with one more round, once its lines were written
    pub recorded_more : (now : List Shown) (before after : Written) (old mid new : Option (List ℕ))
        → IsRecorded listing at k items before old mid → length now ≡ length items → AreShown (shown_at ring) now
        → room_in after ≡ room_in before → Appends mid new text → IsRecorded listing at (suc k) now after old new
    recorded_more now before after old mid new x many shown room wrote =
        let size : length (at (suc k)).ring.ids ≡ length (at k).ring.ids =
        ap (λ (r : HeldRing). length r.ids) (sym ran.ring_is) ∙ same_size in
        record {
          ready = record {
            many = omega (arith, many, x.ready.many, size);
            room = omega (arith, room, x.ready.room, size);
          };
          shown = subst (λ (r : HeldRing). AreShown (shown_at r) now) ran.ring_is shown;
          written =
              subst (Appends old new) all_text (Appends-trans old mid new (changes_text listing (changes_shown_in k at)) text x.written wrote);
        }

    -- what is recorded where only the first bytes of the round's lines were written
    pub cut_more : (before : Written) (old mid new : Option (List ℕ)) → IsRecorded listing at k items before old mid
        → AppendsFewer mid new text → IsCut listing at (suc k) old new
    cut_more before old mid new x front = (k, refl, (mid, x.written, subst (AppendsFewer mid new) text_is front))

-- ---- writes

pub none_more : (exact : Bool) (a b c : ℕ) → NoneFailed exact a b → b ≤ c → (exact ≡ true → c ≡ b) → NoneFailed exact a c
none_more exact a b c x later none = record { later = omega (arith, x.later, later); none = λ e. none e ∙ x.none e }

pub one_fails : (exact : Bool) (a b c : ℕ) → NoneFailed exact a b → b ≤ c → Rose b c → (exact ≡ true → c ≡ one_more b)
    → OneFailed exact a c
one_fails exact a b c x later rose one = record {
  later = omega (arith, x.later, later);
  rose = omega (arith, x.later, rose);
  one = λ e. one e ∙ ap one_more (x.none e);
}

-- ---- before the first round

pub recorded_none : (listing : SignalListing) (at : ℕ → World) (r : HeldRing) (items : List Shown) (text : Written) (old : Option (List ℕ))
    → r ≡ (at 0).ring → IsReady r items text → AreShown (shown_at r) items → IsRecorded listing at 0 items text old old
recorded_none listing at r items text old is ready shown = record {
  ready = subst (λ (x : HeldRing). IsReady x items text) is ready;
  shown = subst (λ (x : HeldRing). AreShown (shown_at x) items) is shown;
  written = Appends-nil old;
}
