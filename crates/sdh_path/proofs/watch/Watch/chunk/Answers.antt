use Rattle.std.proofs.Common.{◌≡◌, ℕ, ◌+◌, ◌%◌, Bool, get_or, set, drop, refl, sym, ap, ap₂, ◌∙◌, subst}
use Rattle.std.specs.Prelude.{if◌then◌else◌}
use Rattle.sdh_path.specs.contracts.watch.Watch.{the_view}
use Rattle.sdh_path.specs.Kept.{Kept, IsTallyOf}
use Rattle.sdh_path.proofs.Watching.{came_chunk}
use Rattle.sdh_path.proofs.watch.Watch.chunk.Goals as goal
use Rattle.sdh_path.proofs.watch.Watch.chunk.Goals.{then-goes_on, else-goes_on}

pub returns-clause-history : goal.returns-clause-history
returns-clause-history c = λ trace past came.
    let k : Kept = the_view c.self.inside in
    let bytes = c.args.bytes.now in
    let g = c.goes_on-goes_on.result in
    let start = c.first_index-start.ensures.index in
    let before : c.if-goes_on.before ≡ (if g then k.chunks else 0) = elim c.if-goes_on.branch [
      | then-goes_on w ↦ w.before-is ∙ sym (ap (λ (b : Bool). if b then k.chunks else 0) w.if-goes_on.true)
      | else-goes_on w ↦ w.before-is ∙ sym (ap (λ (b : Bool). if b then k.chunks else 0) w.if-goes_on.false)
    ] in
    came_chunk trace past bytes c.args.value k _ (rw (← c.self.view_is) at came) c.requires.bytes c.self.invariant.last_whole g
    (c.goes_on-goes_on.ensures.history trace past came) (record {
      trace = refl;
      value_is = refl;
      chunks = ap (λ n. n + 1) before;
      anew =
          λ e. subst (λ (s : ℕ). IsTallyOf (drop s bytes) c.tally_with-self-inside.result) start (c.tally_with-self-inside.ensures.anew e);
      more = λ e run is. c.tally_with-self-inside.ensures.more e run is;
      last = ap₂ (λ (n s : ℕ). set c.self.inside.last (n % 64) (get_or bytes s 0)) before start;
    })
