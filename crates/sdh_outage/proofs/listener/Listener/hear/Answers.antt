use Rattle.std.proofs.Common.{◌≡◌, ◌+◌, refl, ap, ◌∙◌}
use Rattle.sdh_outage.specs.Kinds.{kind_of}
use Rattle.sdh_outage.specs.Kept.{Heard, heard}
use Rattle.sdh_outage.specs.Latest.{came}
use Rattle.sdh_outage.specs.Outages.{with_round}
use Rattle.sdh_outage.proofs.Hearing.{hears, trace_after}
use Rattle.sdh_outage.proofs.listener.Listener.hear.Goals as goal

pub returns-clause-history : goal.returns-clause-history
returns-clause-history c = λ port whose first before past e is.
    let old = c.args.self.now in
    let now = old.last in
    let kind = c.args.kind in
    let inside = c.self.inside in
    let was = c.self.view_is in
    let h = heard port whose first before past in
    let number : inside.round ≡ h.round = ap (λ (x : Heard). x.round) (was ∙ e) in
    let counts : inside.outage ≡ h.outage = ap (λ (x : Heard). x.outage) (was ∙ e) in
    let traces : inside.trace ≡ h.trace = ap (λ (x : Heard). x.trace) (was ∙ e) in
    let latest : came inside.last ≡ now = ap (λ (x : Heard). x.last) was in
    let kind_is : kind ≡ kind_of port whose h.round h.last now =
    is ∙ ap (λ (x : Heard). kind_of port whose x.round h.last now) e in
    let outage_is : c.with_round-self-inside.result ≡ with_round h.round kind h.outage =
    c.with_round-self-inside.ensures.counts ∙ (λ i. with_round (number i) kind (counts i)) in
    let trace_is = trace_after port whose first before past h now kind refl kind_is c.add.new.self
    (λ f kinds at x. c.add.ensures.history f kinds (number ∙ at) (traces ∙ x)) in
    (λ i. record { round = number i + 1; last = latest i; outage = outage_is i; trace = c.add.new.self })
    ∙ hears port whose first before past h now kind refl kind_is c.add.new.self trace_is
