-- The lines of one node more.
use Rattle.std.proofs.Common.{◌≡◌, ℕ, ◌+◌, Bool, true, false, [], ◌∷◌, ◌++◌, refl, ap, ◌∙◌, append-nil}
use Rattle.std.specs.Prelude.{if◌then◌else◌}
use Rattle.std.specs.List.{flat_map}
use Rattle.std.proofs.lemmas.Grind.{flat_map-append}
use Rattle.sdh_basics.specs.Cells.{cells}
use Rattle.sdh_basics.proofs.CellsLaws.{cells-zero, cells-more}
use Rattle.sdh_node.specs.Rings.Held.{HeldRing}
use Rattle.sdh_aps.specs.declared.shown.Shown.{Shown}
use Rattle.sdh_aps_cli.specs.Signalled.{ShownChange, is_changed, change_of, change_at, changes_to}
use Rattle.sdh_aps_cli.specs.Listing.{change_text, changes_text}
use Rattle.sdh_aps_cli.specs.declared.listing.SignalListing.{SignalListing}

-- the text of a change that is shown, or nothing
one_or_none : (listing : SignalListing) (b : Bool) (c : ShownChange)
    → changes_text listing (if b then c ∷ [] else []) ≡ (if b then change_text listing c else [])
one_or_none listing true c = append-nil (change_text listing c)
one_or_none listing false c = refl

module _ (listing : SignalListing) (was : ℕ → Shown) (r : HeldRing) where
  pub lines_none : changes_text listing (changes_to was r 0) ≡ []
  lines_none = ap (λ ps. changes_text listing (flat_map (change_at was r) ps)) (cells-zero (λ p. p))

  pub lines_more : (i : ℕ) → changes_text listing (changes_to was r (i + 1))
      ≡ changes_text listing (changes_to was r i) ++ (if is_changed (was i) r i then change_text listing (change_of r i) else [])
  lines_more i =
      let ps = cells (λ p. p) i in
      let past = changes_text listing (changes_to was r i) in
      ap (λ qs. changes_text listing (flat_map (change_at was r) qs)) (cells-more (λ p. p) i)
      ∙ ap (changes_text listing) (flat_map-append (change_at was r) ps (i ∷ []))
      ∙ flat_map-append (change_text listing) (changes_to was r i) (flat_map (change_at was r) (i ∷ []))
      ∙ ap (λ cs. past ++ changes_text listing cs) (append-nil (change_at was r i))
      ∙ ap (λ l. past ++ l) (one_or_none listing (is_changed (was i) r i) (change_of r i))
