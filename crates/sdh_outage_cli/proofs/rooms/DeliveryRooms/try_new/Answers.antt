use Rattle.std.proofs.Common.{◌≡◌, ◌+◌, ◌<◌, ◌≤◌, ℕ, length, get_or, ap, sym, subst, ◌∙◌, arith}
use Rattle.std.proofs.lemmas.List.{length-map}
use Rattle.sdh_basics.specs.Cells.{cells}
use Rattle.sdh_basics.proofs.CellsLaws.{length-cells}
use Rattle.sdh_outage_cli.proofs.rooms.DeliveryRooms.try_new.Goals as goal

pub invariant_of-result : goal.invariant_of-result
invariant_of-result c =
    let rooms = c.in_ok-rooms.rooms.items in
    let end = c.largest-most.result + 1 in
    let size : length rooms ≡ end = sym (length-map rooms length) ∙ ap length c.in_ok-rooms.ensures ∙ length-cells (λ k. k) end in
    let all = subst (λ l. (i : ℕ) → i < length l → get_or l i 0 ≤ c.largest-most.result) c.deref.ensures.value c.largest-most.ensures.all in
    record {
      sized = c.in_ok-rooms.ensures ∙ ap (cells (λ k. k)) (sym size);
      fit = λ i lt. (let h = all i lt in omega (arith, h, size));
      last = omega (arith, size);
    }
