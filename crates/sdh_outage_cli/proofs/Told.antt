-- The ports of one circuit more.
use Rattle.std.proofs.Common.{◌≡◌, ℕ, zero, suc, ◌+◌, List, [], ◌∷◌, ◌++◌, take, map, Some, refl, ap, ap₂, sym, ◌∙◌, arith}
use Rattle.std.specs.Prelude.{fold}
use Rattle.std.specs.Prelude.{slice_get}
use Rattle.std.proofs.lemmas.List.{map-append}
use Rattle.std.proofs.lemmas.Option.{same_Some}
use Rattle.sdh_circuits.specs.Provisioned.{Provisioned}
use Rattle.sdh_circuits.specs.declared.End.TheVariants.{A, B}
use Rattle.sdh_outage.specs.declared.outage.Outage.{Outage}
use Rattle.sdh_outage.specs.declared.summary.Summary.{Summary}
use Rattle.sdh_outage.specs.Outages.{no_ports, with_outage, summary_of}
use Rattle.sdh_outage_cli.specs.Outages.{PortOutage}
use Rattle.sdh_outage_cli.specs.Ports.{both_shown, outages_shown}
use Rattle.sdh_outage_cli.specs.declared.ports.ListenerPair.{ListenerPair}

shown_suc : (cs : List Provisioned) (items : List ListenerPair) (i : ℕ) (c : Provisioned) (both : ListenerPair) → slice_get cs i ≡ Some c
    → slice_get items i ≡ Some both → outages_shown (take (suc i) cs) (take (suc i) items) ≡ outages_shown (take i cs) (take i items) ++ both_shown c both
shown_suc [] items i c both there here = absurd (cc)
shown_suc (d ∷ cs) [] i c both there here = absurd (cc)
shown_suc (d ∷ cs) (other ∷ items) zero c both there here = ap₂ both_shown (same_Some d c there) (same_Some other both here)
shown_suc (d ∷ cs) (other ∷ items) (suc i) c both there here =
    ap (λ l. record { name = d.name; end = A; outage = other.a.outage } ∷ record { name = d.name; end = B; outage = other.b.outage } ∷ l)
    (shown_suc cs items i c both there here)

pub shown_more : (cs : List Provisioned) (items : List ListenerPair) (i : ℕ) (c : Provisioned) (both : ListenerPair) → slice_get cs i ≡ Some c
    → slice_get items i ≡ Some both → outages_shown (take (i + 1) cs) (take (i + 1) items) ≡ outages_shown (take i cs) (take i items) ++ both_shown c both
shown_more cs items i c both there here =
    (let next : i + 1 ≡ suc i = omega arith in ap (λ n. outages_shown (take n cs) (take n items)) next) ∙ shown_suc cs items i c both there here

-- the summary of all ports, with the two ports of one circuit more
fold_two : (start : Summary) (outages : List Outage) (a b : Outage)
    → fold with_outage start (outages ++ a ∷ b ∷ []) ≡ with_outage (with_outage (fold with_outage start outages) a) b
fold_two start [] a b = refl
fold_two start (o ∷ outages) a b = fold_two (with_outage start o) outages a b

pub said_more : (ports : List PortOutage) (c : Provisioned) (both : ListenerPair)
    → with_outage (with_outage (summary_of (map (λ (p : PortOutage). p.outage) ports)) both.a.outage) both.b.outage
    ≡ summary_of (map (λ (p : PortOutage). p.outage) (ports ++ both_shown c both))
said_more ports c both =
    sym (fold_two no_ports (map (λ (p : PortOutage). p.outage) ports) both.a.outage both.b.outage)
    ∙ ap summary_of (sym (map-append (λ (p : PortOutage). p.outage) ports (both_shown c both)))
