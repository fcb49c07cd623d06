use Rattle.std.proofs.Common.{◌≡◌, ◌+◌, ◌++◌, refl, sym, ap, ◌∙◌, arith, rules}
use Rattle.sdh_payload.specs.Customer.{Customer}
use Rattle.sdh_payload.specs.Walk.{Walked, containers_from}
use Rattle.sdh_payload.proofs.Containers.{containers_from-zero, containers_from-append}
use Rattle.sdh_payload.proofs.walk.Walk.fill_all.Goals as goal

pub loop-done-init : goal.loop-done-init
loop-done-init c = record { within = search rules; len = refl; port = refl; at = search rules; put = sym (containers_from-zero _ _) }

pub loop-done-preserved : goal.loop-done-preserved
loop-done-preserved c =
    let at : c.put_some-done.new.self.at ≡ c.loop-done.self.at + c.put_some-done.result =
    ap (λ (w : Walked). w.at) c.put_some-done.ensures.next in
    record {
      within = omega (arith, c.put_some-done.ensures.within, c.put_some-done.ensures.len);
      len = c.put_some-done.ensures.len ∙ c.loop-done.invariant.len;
      port = ap (λ (w : Walked). w.port) c.put_some-done.ensures.next ∙ c.loop-done.invariant.port;
      at = omega (arith, at, c.loop-done.invariant.at);
      put =
          c.put_some-done.ensures.bytes
          ∙ ap (λ l. l ++ containers_from c.loop-done.self.port c.loop-done.self.at c.put_some-done.result) c.loop-done.invariant.put
          ∙ ap (λ (p : Customer). containers_from c.args.self.now.port c.args.self.now.at c.loop-done.done
          ++ containers_from p c.loop-done.self.at c.put_some-done.result) c.loop-done.invariant.port
          ∙ ap (λ q. containers_from c.args.self.now.port c.args.self.now.at c.loop-done.done
          ++ containers_from c.args.self.now.port q c.put_some-done.result) c.loop-done.invariant.at
          ∙ sym (containers_from-append c.args.self.now.port c.args.self.now.at c.loop-done.done c.put_some-done.result);
    }
