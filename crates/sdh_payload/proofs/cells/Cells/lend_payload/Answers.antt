use Rattle.std.proofs.Common.{◌≡◌, ◌++◌, take, drop, length, ap, sym, ◌∙◌, refl}
use Rattle.sdh_payload.specs.Room.{written}
use Rattle.sdh_payload.proofs.cells.Cells.lend_payload.Goals as goal

pub returns : goal.returns
unfolding written
returns c =
    let items = c.self.inside.bytes.items in
    let same : c.as_mut_slice.result.now ≡ items = c.as_mut_slice.ensures.value in
    let many : c.self.inside.bytes.len ≡ length items = sym c.as_mut_slice.ensures.len ∙ ap length same in (
      (
        refl,
        λ w. ap (λ n. take n (w ++ drop (length w) items)) many
            ∙ ap (λ room. take (length room) (w ++ drop (length w) room)) (sym same),
      ),
      record {
        lends = tt;
        bytes = same ∙ c.self.view_is ∙ c.make_room.ensures.bytes;
        full = ap length same ∙ ap length c.self.view_is
            ∙ c.make_room.ensures.count;
      },
    )
