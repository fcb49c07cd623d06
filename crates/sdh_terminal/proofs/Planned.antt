-- AU-4s that were planned, one after the other.
use Rattle.std.proofs.Common.{◌≡◌, ◌≢◌, ℕ, ◌+◌, ◌<◌, ◌≤◌, Option, None, List, [], length, get_or, set, inl, inr, refl, ap, sym, ◌∙◌, subst}
use Rattle.std.proofs.Common.{arith}
use Rattle.std.proofs.lemmas.Bool.{cases_eq}
use Rattle.std.proofs.lemmas.List.{ext_get_or, get_or-set_same, get_or-set_other}
use Rattle.sdh_basics.specs.Indexed.{map_from}
use Rattle.sdh_basics.proofs.CellsLaws.{length-map_from, get_or-placed}
use Rattle.sdh_ringmap.specs.Rates.{n_of}
use Rattle.sdh_frame.specs.Aus.{Au, ones}
use Rattle.sdh_interchange.specs.declared.choose.Source.{Source}
use Rattle.sdh_interchange.specs.declared.choose.Source.TheVariants.{First, Second, Own, Ones}
use Rattle.sdh_interchange.specs.Choosing.{IsSource, AreSources, payload_in}
use Rattle.sdh_interchange.specs.Assembled.{payload_from, assembled}
use Rattle.sdh_ringmap.specs.declared.Side.{Side}
use Rattle.sdh_ringmap.specs.declared.Side.TheVariants.{West, East}
use Rattle.sdh_terminal.specs.Passing.{Input, au_sent, aus_sent}
use Rattle.sdh_terminal.specs.Sources.{payload_by, bytes_on}
use Rattle.sdh_terminal.specs.Lines.{Lines, line_on}

-- what a side received stands on its side
pub bytes_there : (x : Lines) (side : Side) → bytes_on side x.west.intake.frame.bytes x.east.intake.frame.bytes
    ≡ (line_on x side).intake.frame.bytes
bytes_there x West = refl
bytes_there x East = refl

-- AU-4 number `to` is this one, by its source and its pointer bytes
pub record IsPlanned (x : Lines) (own : List (List ℕ)) (to : ℕ) (s : Source) (ps : List ℕ) (au : Au) : Type 0 where
  pub source : IsSource (n_of x.rate) to s
  pub pointers : ps ≡ au.pointers
  pub payload : payload_by x own s ≡ au.payload

-- the first k are those that are sent
abbrev pub ArePlanned : Lines → List (List ℕ) → (ℕ → Input) → List (Option ℕ) → List Source → List (List ℕ) → ℕ → Type 0
ArePlanned x own input states sources pointers k =
    (j : ℕ) → j < k → IsPlanned x own (j + 1) (get_or sources j Ones) (get_or pointers j [])
    (au_sent (get_or states j None) (input (j + 1)))

-- the own payload of an AU-4 is that of its number
payload_kept : (n to : ℕ) (west east : List ℕ) (own later : List (List ℕ)) (s : Source) → IsSource n to s
    → payload_in to later ≡ payload_in to own → payload_from n west east later s ≡ payload_from n west east own s
payload_kept n to west east own later (First au) is h = refl
payload_kept n to west east own later (Second au) is h = refl
payload_kept n to west east own later (Own k) is h = ap (λ m. payload_in m later) is ∙ h ∙ ap (λ m. payload_in m own) (sym is)
payload_kept n to west east own later Ones is h = refl

module _ (x : Lines) (own later : List (List ℕ)) (input : ℕ → Input) (states : List (Option ℕ)) where
  plan_kept : (to : ℕ) (s : Source) (ps : List ℕ) (au : Au) → payload_in to later ≡ payload_in to own → IsPlanned x own to s ps au
      → IsPlanned x later to s ps au
  plan_kept to s ps au h is = record {
    source = is.source;
    pointers = is.pointers;
    payload = payload_kept (n_of x.rate) to x.west.intake.frame.bytes x.east.intake.frame.bytes own later s is.source h ∙ is.payload;
  }

  pub planned_more : (sources : List Source) (pointers : List (List ℕ)) (k : ℕ) (s : Source) (ps : List ℕ) → k < length sources
      → k < length pointers → ((m : ℕ) → 1 ≤ m → m ≢ k + 1 → payload_in m later ≡ payload_in m own)
      → ArePlanned x own input states sources pointers k → IsPlanned x later (k + 1) s ps (au_sent (get_or states k None) (input (k + 1)))
      → ArePlanned x later input states (set sources k s) (set pointers k ps) (k + 1)
  planned_more sources pointers k s ps few room others done new j lt =
      elim (cases_eq j k) [
        | inl e ↦ subst (λ m. IsPlanned x later (m + 1) (get_or (set sources k s) m Ones) (get_or (set pointers k ps) m [])
            (au_sent (get_or states m None) (input (m + 1)))) (sym e)
            (subst (λ y. IsPlanned x later (k + 1) y (get_or (set pointers k ps) k []) (au_sent (get_or states k None) (input (k + 1))))
            (sym (get_or-set_same sources k s Ones few))
            (subst (λ y. IsPlanned x later (k + 1) s y (au_sent (get_or states k None) (input (k + 1))))
            (sym (get_or-set_same pointers k ps [] room)) new))
        | inr d ↦ (
            let before : j < k = omega arith in
            let same = others (j + 1) (omega arith) (λ e. d (omega arith)) in
            subst (λ y. IsPlanned x later (j + 1) y (get_or (set pointers k ps) j []) (au_sent (get_or states j None) (input (j + 1))))
            (sym (get_or-set_other sources k j s Ones d))
            (subst (λ y. IsPlanned x later (j + 1) (get_or sources j Ones) y (au_sent (get_or states j None) (input (j + 1))))
            (sym (get_or-set_other pointers k j ps [] d))
            (plan_kept (j + 1) (get_or sources j Ones) (get_or pointers j []) (au_sent (get_or states j None) (input (j + 1))) same
            (done j before))))
      ]

module _ (x : Lines) (own : List (List ℕ)) (input : ℕ → Input) (states : List (Option ℕ)) (sources : List Source) (pointers : List (List ℕ))
    (n : ℕ) (rate : n_of x.rate ≡ n) (many : length sources ≡ n) (done : ArePlanned x own input states sources pointers n) where
  pub planned_sources : AreSources (n_of x.rate) sources
  planned_sources = record {
    many = many ∙ sym rate;
    each = λ j lt. (done j (omega arith)).source;
  }

  pub planned_all : length states ≡ n → assembled (n_of x.rate) x.west.intake.frame.bytes x.east.intake.frame.bytes own sources pointers
      ≡ aus_sent input states
  unfolding assembled aus_sent
  planned_all len =
      let m = n_of x.rate in
      let f : ℕ → Source → Au =
      λ k s. record {
        pointers = get_or pointers k [];
        payload = payload_from m x.west.intake.frame.bytes x.east.intake.frame.bytes own s;
      } in
      let g : ℕ → Option ℕ → Au = λ k s. au_sent s (input (k + 1)) in
      ext_get_or ones (map_from f 0 sources) (map_from g 0 states)
      (length-map_from f 0 sources ∙ many ∙ sym len ∙ sym (length-map_from g 0 states)) (λ j lt.
      (let few : j < length sources = omega (arith, length-map_from f 0 sources) in
      let is = done j (omega arith) in
      get_or-placed f sources j Ones ones few ∙ (λ i. record { pointers = is.pointers i; payload = is.payload i })
      ∙ sym (get_or-placed g states j None ones (omega arith))))
