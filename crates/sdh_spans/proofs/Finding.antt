-- What a side finds in what comes through a fibre.
use Rattle.std.proofs.Common.{◌≡◌, ◌≢◌, ℕ, ◌*◌, Bool, true, false, List, length, Option, Some, None, refl, ap, sym, subst, ◌∙◌, inl, inr}
use Rattle.std.specs.Prelude.{nat_le, if◌then◌else◌, ◌==◌, ◌%◌}
use Rattle.std.specs.Option.{is_some}
use Rattle.std.proofs.lemmas.Bool.{cases_Bool}
use Rattle.sdh_basics.proofs.CellsLaws.{length-map_from}
use Rattle.sdh_ringmap.specs.declared.terms.Rate.{Rate}
use Rattle.sdh_ringmap.specs.Rates.{n_of}
use Rattle.sdh_frame.specs.Aus.{au_of}
use Rattle.sdh_parity.specs.Scrambling.{scrambled}
use Rattle.sdh_parity.specs.Parity.{section_parity}
use Rattle.sdh_parity.specs.Violations.{violations_of}
use Rattle.sdh_overhead.specs.Sections.{Parities, parities_of, kept_after, received_in, b2_in, b2_violations}
use Rattle.sdh_kbytes.specs.declared.K.{K}
use Rattle.sdh_kbytes.specs.declared.Mark.TheVariants as mark
use Rattle.sdh_kbytes.specs.KBytes.{first_byte, second_byte, decoded}
use Rattle.sdh_request.specs.declared.Defect.TheVariants as defect
use Rattle.sdh_pointer.specs.declared.reading.Reading.{Reading}
use Rattle.sdh_ringmap.specs.declared.terms.Condition.{Condition}
use Rattle.sdh_ringmap.specs.Fibres.{is_cut, degraded_by}
use Rattle.sdh_plant.specs.Arrivals.{through}
use Rattle.sdh_terminal.specs.Receiving.{Inlet, Reception, failure, framed_reception, frame_reception, reception_of, after_frame}
use Rattle.sdh_terminal.specs.Receiving.{readings_by, actions_by, found, taken_in, after_taking}
use Rattle.sdh_spans.specs.Frames.{SaysWord, CarriesWord, violations_shown}
use Rattle.sdh_spans.specs.Sides.{IsTold, FindsSo}
use Rattle.sdh_spans.specs.Laws.{InletsStay, UntoldSidesFindNothing, SidesFindSo}
use Rattle.sdh_spans.proofs.Frames.{cut_is_dark, comes_through, says_no_ais, received_says, opened_says, kept_says}
use Rattle.sdh_spans.proofs.Parities.{aus_through, shows_through, b2_through}

-- ---- a frame that arrived

-- what is found in a frame that says this word, with `b2` violations
record FindsWord (clear : List ℕ) (threshold b2 : ℕ) (k : K) (last : Option Parities) (f : Reception) : Type 0 where
  pub bytes_are : f.bytes ≡ clear
  pub defect_is : f.defect ≡ (if nat_le threshold b2 then defect.Sd else defect.None)
  pub word_is : f.word ≡ decoded (first_byte k) (second_byte k)
  pub last_is : f.last ≡ last

found_at : (rate : Rate) (threshold : ℕ) (clear : List ℕ) (last : Option Parities) (k : K) (b2 : ℕ) → k.mark ≢ mark.MsAis
    → FindsWord clear threshold b2 k last (framed_reception rate threshold clear last (first_byte k) (second_byte k) b2)
found_at rate threshold clear last k b2 other =
    let e : (second_byte k % 8 == 7) ≡ false = says_no_ais k other in
    rw e (record { bytes_are = refl; defect_is = refl; word_is = refl; last_is = refl })

found_word : (rate : Rate) (threshold : ℕ) (k : K) (line : List ℕ) (last : Option Parities) → SaysWord rate k line → k.mark ≢ mark.MsAis
    → FindsWord (scrambled (9 * n_of rate) line) threshold (b2_violations (n_of rate) last (scrambled (9 * n_of rate) line)) k
    (Some (parities_of (n_of rate) (scrambled (9 * n_of rate) line) line)) (reception_of (Some (Some line)) rate threshold last)
found_word rate threshold k line last says other =
    let n = n_of rate in
    let clear = scrambled (9 * n) line in
    let kept = Some (parities_of n clear line) in
    let b2 = b2_violations n last clear in
    let is : reception_of (Some (Some line)) rate threshold last
    ≡ framed_reception rate threshold clear kept (first_byte k) (second_byte k) b2 =
    ap (λ c. frame_reception rate threshold c (kept_after n line) (received_in n last line)) (opened_says rate k line says)
    ∙ ap (λ p. frame_reception rate threshold clear p (received_in n last line)) (kept_says rate k line says)
    ∙ ap (frame_reception rate threshold clear kept) (received_says rate k last line says) in
    subst (FindsWord clear threshold b2 k kept) (sym is) (found_at rate threshold clear kept k b2 other)

-- violations against one B2 are equal
pub b2_by : (n : ℕ) (last : Option Parities) (a b : List ℕ) → b2_in n a ≡ b2_in n b → b2_violations n last a ≡ b2_violations n last b
b2_by n None a b e = refl
b2_by n (Some last) a b e = ap (violations_of last.b2) e

-- ---- any side

length-readings : (told : Bool) (n : ℕ) (bytes : List ℕ) (rs : List Reading) → length (readings_by told n bytes rs) ≡ length rs
unfolding after_frame
length-readings true n bytes rs = length-map_from _ 0 rs
length-readings false n bytes rs = refl

pub inlets_stay : InletsStay
unfolding after_taking
inlets_stay at threshold i is = record {
  rate = is.rate;
  readings = length-readings (is_some i.arrived) (n_of i.section.rate)
      (found threshold i).bytes i.readings ∙ is.readings;
}

-- a side that received nothing
pub untold_sides_find_nothing : UntoldSidesFindNothing
unfolding taken_in after_taking
untold_sides_find_nothing threshold i none =
    let is : found threshold i ≡ reception_of None i.section.rate threshold i.section.last =
    ap (λ a. reception_of a i.section.rate threshold i.section.last) none in
    record {
      defect = ap (λ (f : Reception). f.defect) is;
      word = ap (λ (f : Reception). f.word) is;
      acts = ap (λ a. actions_by (is_some a) (n_of i.section.rate) (found threshold i).bytes i.readings) none;
      reads = ap (λ a. readings_by (is_some a) (n_of i.section.rate) (found threshold i).bytes i.readings) none;
      last = ap (λ (f : Reception). f.last) is;
    }

-- ---- a side that received what came

module _ (at : Rate) (c : Condition) (k : K) (line : List ℕ) (threshold : ℕ) (i : Inlet) (is : IsTold at c k line i) where
  abbrev n : ℕ
  n = n_of at

  abbrev last : Option Parities
  last = i.section.last

  told_is : found threshold i ≡ reception_of (Some (through n c (Some line))) at threshold last
  told_is = let a = is.told in let r = is.inlet.rate in λ t. reception_of (a t) (r t) threshold last

  cut_found : is_cut c ≡ true → found threshold i ≡ failure at None
  cut_found cut = told_is ∙ ap (λ a. reception_of (Some a) at threshold last) (cut_is_dark n c (Some line) cut)

  module _ (clear : is_cut c ≡ false) where
    comes : CarriesWord at k (through n c (Some line))
    comes = comes_through at k c (Some line) clear (record { line = line; there = refl; says = is.says })

    abbrev out : List ℕ
    out = comes.line

    clear_found : FindsWord (scrambled (9 * n) out) threshold (b2_violations n last (scrambled (9 * n) out)) k
        (Some (parities_of n (scrambled (9 * n) out) out)) (found threshold i)
    clear_found =
        subst (FindsWord (scrambled (9 * n) out) threshold (b2_violations n last (scrambled (9 * n) out)) k
        (Some (parities_of n (scrambled (9 * n) out) out)))
        (sym (told_is ∙ ap (λ a. reception_of (Some a) at threshold last) comes.there))
        (found_word at threshold k out last comes.says is.no_ais)

    same_b2 : b2_violations n last (scrambled (9 * n) out) ≡ b2_violations n last (scrambled (9 * n) line)
    same_b2 = b2_by n last _ _ (b2_through at c line out is.says.size comes.there)

  -- x is a after a cut fibre, and b after any other
  by_cut : {X : Type 0} (x a b : X) → (is_cut c ≡ true → x ≡ a) → (is_cut c ≡ false → x ≡ b) → x ≡ (if is_cut c then a else b)
  by_cut x a b behind_cut behind_clear = elim (cases_Bool (is_cut c)) [
    | inl cut ↦ behind_cut cut ∙ sym (ap (λ (t : Bool). if t then a else b) cut)
    | inr clear ↦ behind_clear clear ∙ sym (ap (λ (t : Bool). if t then a else b) clear)
  ]

  shows_next : (next : List ℕ) → b2_in n (scrambled (9 * n) next) ≡ section_parity n (scrambled (9 * n) line)
      → b2_violations n (found threshold i).last (scrambled (9 * n) next) ≡ violations_shown c
  unfolding parities_of
  shows_next next same =
      by_cut (b2_violations n (found threshold i).last (scrambled (9 * n) next)) 0 (degraded_by c)
      (λ cut. ap (λ (f : Reception). b2_violations n f.last (scrambled (9 * n) next)) (cut_found cut))
      (λ clear. ap (λ l. b2_violations n l (scrambled (9 * n) next)) (clear_found clear).last_is
      ∙ ap (violations_of (section_parity n (scrambled (9 * n) (out clear)))) same
      ∙ shows_through at c line (out clear) is.says.size is.may (comes clear).there)

  finds_so : FindsSo at c k line threshold i
  unfolding taken_in after_taking
  finds_so = record {
    defect =
        by_cut (found threshold i).defect defect.Sf (if nat_le threshold (b2_violations n last (scrambled (9 * n) line))
        then defect.Sd else defect.None)
        (λ cut. ap (λ (f : Reception). f.defect) (cut_found cut))
        (λ clear. (clear_found clear).defect_is ∙ ap (λ b. if nat_le threshold b then defect.Sd else defect.None) (same_b2 clear));
    word =
        by_cut (found threshold i).word None (decoded (first_byte k) (second_byte k))
        (λ cut. ap (λ (f : Reception). f.word) (cut_found cut)) (λ clear. (clear_found clear).word_is);
    rate = is.inlet.rate;
    ones = λ cut. ap (λ (f : Reception). f.bytes) (cut_found cut);
    aus =
        λ clear au low high. ap (au_of n au) (clear_found clear).bytes_are
        ∙ aus_through at c line (out clear) is.says.size is.may (comes clear).there au low high;
    acts = (let a = is.told in let r = is.inlet.rate in λ t. actions_by (is_some (a t)) (n_of (r t)) (found threshold i).bytes i.readings);
    reads =
        (let a = is.told in let r = is.inlet.rate in λ t. readings_by (is_some (a t)) (n_of (r t)) (found threshold i).bytes i.readings);
    shows = shows_next;
  }

pub sides_find_so : SidesFindSo
sides_find_so at c k line threshold i is = finds_so at c k line threshold i is
