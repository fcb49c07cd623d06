use Rattle.std.proofs.Common.{◌≡◌, ◌+◌, ◌<◌, length, refl, ap, sym, ◌∙◌, inl, inr, arith}
use Rattle.std.proofs.lemmas.Bool.{cases_lt, cases_eq}
use Rattle.sdh_interchange.specs.Tables.{cell}
use Rattle.sdh_interchange.proofs.Holding.{keeps_none, keeps_more, cell_kept}
use Rattle.sdh_interchange.proofs.payloads.put_all.Goals as goal

pub loop-a-init : goal.loop-a-init
loop-a-init c = record {
  keeps = keeps_none c.args.base (length c.args.payloads.now) c.args.out.now;
  before = λ a i ha hi. refl;
  inside = λ a k ha hk. absurd (omega arith);
}

pub put_in-requires-clause-room : goal.put_in-requires-clause-room
put_in-requires-clause-room c =
    let small : c.loop-a.a < length c.args.payloads.now = omega arith in
    omega (arith, c.loop-a.invariant.keeps.lengths (c.args.base + c.loop-a.a), c.requires.room.each c.loop-a.a small, c.requires.place)

pub put_in-requires-clause-there : goal.put_in-requires-clause-there
put_in-requires-clause-there c = omega (arith, c.loop-a.invariant.keeps.many, c.requires.room.many)

pub loop-a-preserved : goal.loop-a-preserved
loop-a-preserved c =
    let la = c.loop-a.a in
    let base = c.args.base in
    let payloads = c.args.payloads.now in
    let was = c.loop-a.out in
    let out = c.put_in.new.out in
    let small_a : la < length payloads = omega arith in
    record {
      keeps =
          keeps_more base (length payloads) (base + la) 1 c.args.out.now was out (omega arith)
          (omega arith) c.loop-a.invariant.keeps c.put_in.ensures.keeps;
      before = λ a i ha hi. elim (cases_eq a la) [
        | inl e ↦ (let same : base + a ≡ base + la = omega arith in ap (λ m. cell out m i) same ∙ c.put_in.ensures.before i hi
            ∙ ap (λ m. cell was m i) (sym same) ∙ c.loop-a.invariant.before a i ha hi)
        | inr d ↦ (cell_kept (base + la) 1 was out (base + a) i
            (elim (cases_lt a la) [ inl below ↦ inl (omega arith) | inr above ↦ inr (omega arith) ]) c.put_in.ensures.keeps
            ∙ c.loop-a.invariant.before a i ha hi)
      ];
      inside = λ a k ha small_k. elim (cases_lt a la) [
        | inl below ↦ (cell_kept (base + la) 1 was out (base + a) (c.args.at + k) (inl (omega arith)) c.put_in.ensures.keeps
            ∙ c.loop-a.invariant.inside a k below small_k)
        | inr here ↦ (
            let same : base + a ≡ base + la = omega arith in
            let turn : la ≡ a = omega arith in
            ap (λ m. cell out m (c.args.at + k)) same ∙ c.put_in.ensures.inside k small_k ∙ ap (λ m. cell payloads m k) turn)
      ];
    }
