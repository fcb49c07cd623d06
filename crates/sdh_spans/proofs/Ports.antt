-- What a port sends and delivers.
use Rattle.std.proofs.Common.{◌≡◌, ℕ, ◌+◌, ◌-◌, refl, ap, sym, ◌∙◌, arith}
use Rattle.sdh_pointer.specs.declared.reading.Action.TheVariants as action
use Rattle.sdh_payload.specs.Customer.{Customer}
use Rattle.sdh_payload.specs.Clock.{Clock, next_form, after_form, ticked}
use Rattle.sdh_payload.specs.Stream.{stream_from}
use Rattle.sdh_payload.specs.declared.chunk.ChunkForm.{ChunkForm}
use Rattle.sdh_payload.specs.declared.chunk.ChunkForm.TheVariants.{Plain}
use Rattle.sdh_payload.specs.declared.delivered.Delivered.{Delivered}
use Rattle.sdh_payload.specs.declared.delivered.Delivered.TheVariants as delivered
use Rattle.sdh_payload.specs.Outlet.{delivering}
use Rattle.sdh_terminal.specs.Passing.{Input}
use Rattle.sdh_terminal.specs.Outlets.{delivered_by, delivered_from}
use Rattle.sdh_terminal.specs.Tributaries.{sent_by, input_by}
use Rattle.sdh_spans.specs.Brought.{BringsWith, IsValueOf, BringsDelivery, plainly}
use Rattle.sdh_spans.specs.Laws.{PortsDeliver, PortsBring}

outlet_with : (i : Input) (v : ℕ) (b : Delivered) → IsValueOf v b → BringsWith i v b
    → delivered_from i ≡ record { delivered = b; value = v }
unfolding delivered_from
outlet_with i v delivered.Ais has is = ap (λ a. delivered_by a i) is ∙ λ t. record { delivered = delivered.Ais; value = sym has t }
outlet_with i v (delivered.Chunk payload) has is =
    let input : i ≡ record { action = action.Normal; value = v; au = i.au } = λ t. record { action = is.0 t; value = is.1 t; au = i.au } in
    ap (λ (j : Input). delivered_by j.action j) input ∙ ap (delivering v) is.2

pub ports_deliver : PortsDeliver
ports_deliver i b has is = outlet_with i b.value b.delivered has is

brings_plain : (sender : Customer) (c : Clock) (f : ChunkForm) → f ≡ Plain
    → BringsDelivery (input_by (sent_by (record { port = sender; clock = after_form f c }))) (plainly sender c)
unfolding sent_by
brings_plain sender c f is = let back : c.sent + 2349 - 2349 ≡ c.sent =
    omega arith in rw is (refl, refl, ap (λ p. stream_from sender p 2349) back)

pub ports_bring : PortsBring
unfolding ticked
ports_bring feed plain = brings_plain feed.port feed.clock (next_form feed.clock) plain
