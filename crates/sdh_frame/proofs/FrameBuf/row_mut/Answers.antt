use Rattle.std.proofs.Common.{ℕ, List, rules, ◌+◌, ◌*◌, ◌-◌, ◌++◌, take, drop, length, ap, ◌∙◌, refl}
use Rattle.std.proofs.lemmas.List.{drop-drop}
use Rattle.sdh_frame.specs.Sizes.{Frame}
use Rattle.sdh_frame.specs.Lending.{with_row}
use Rattle.sdh_frame.proofs.FrameBuf.row_mut.Goals as goal

pub returns : goal.returns
returns c =
    let held = c.self.inside.bytes in
    let items = held.items in
    let before : ℕ → ℕ = λ n. (c.args.row - 1) * (270 * n) in
    let cut : ℕ → ℕ → List ℕ → List ℕ → Frame = λ many start w rest.
    let bytes = take start items ++ (w ++ rest) in
    record { rate = c.self.inside.rate; bytes = take many (bytes ++ drop (length bytes) items) } in
    let start : ℕ = before c.n-width.result in (
      (
        refl,
        λ w.
            ap (λ many. cut many start w (drop (length w) (drop start items))) held.ok.0
            ∙ ap (λ rest. cut (length items) start w rest) (drop-drop (length w) start items)
            ∙ ap (λ n. cut (length items) (before n) w (drop (before n + length w) items)) c.n-width.ensures
            ∙ ap (λ f. with_row f c.args.row w) c.self.view_is,
      ),
      search rules,
    )
