-- The lines of the first numbers.
use Rattle.std.proofs.Common.{◌≡◌, ℕ, zero, suc, ◌+◌, ◌-◌, ◌≤◌, Bool, true, false, List, [], ◌++◌, refl, sym, ap, ◌∙◌, arith, append_assoc}
use Rattle.std.specs.Prelude.{if◌then◌else◌}
use mir.Val.{bool_byte}
use Rattle.std.proofs.lemmas.List.{append-nil}
use Rattle.sdh_plan.specs.Planned.{Planned}
use Rattle.sdh_verdicts.specs.declared.failure.Failure.{Failure}
use Rattle.sdh_whatif_cli.specs.declared.ask.Ask.{Ask}
use Rattle.sdh_whatif_cli.specs.Cases.{is_told, told_below}
use Rattle.sdh_whatif_cli.specs.Lines.{line_at, lines_below}

module _ (plan : Planned) (own : List (List Failure)) (ask : Ask) where
  pub below_next : (k : ℕ) → lines_below plan own ask k ++ line_at plan own ask k ≡ lines_below plan own ask (k + 1)
  below_next k = let next : suc k ≡ k + 1 = omega arith in ap (lines_below plan own ask) next

  more : (k j : ℕ) → (rest : List ℕ) × (lines_below plan own ask k ++ rest ≡ lines_below plan own ask (k + j))
  more k zero = let same : k ≡ k + zero = omega arith in ([], append-nil (lines_below plan own ask k) ∙ ap (lines_below plan own ask) same)
  more k (suc j) =
      let before = more k j in
      let next : suc (k + j) ≡ k + suc j = omega arith in (
        before.0 ++ line_at plan own ask (k + j),
        sym (append_assoc (lines_below plan own ask k) before.0 (line_at plan own ask (k + j)))
            ∙ ap (λ l. l ++ line_at plan own ask (k + j)) before.1 ∙ ap (lines_below plan own ask) next,
      )

  pub rest_of : (k m : ℕ) → k ≤ m → (rest : List ℕ) × (lines_below plan own ask k ++ rest ≡ lines_below plan own ask m)
  rest_of k m within =
      let whole : k + (m - k) ≡ m = omega (arith, within) in
      let x = more k (m - k) in
      (x.0, x.1 ∙ ap (lines_below plan own ask) whole)

-- ---- numbers of cases

byte_is : (b : Bool) → bool_byte b ≡ (if b then 1 else 0)
byte_is true = refl
byte_is false = refl

pub byte_low : (b : Bool) → bool_byte b ≤ 1
byte_low true = omega arith
byte_low false = omega arith

pub told_next : (plan : Planned) (own : List (List Failure)) (ask : Ask) (k before byte : ℕ) (told : Bool) → before ≡ told_below plan own ask k → byte ≡ bool_byte told
    → told ≡ is_told plan own ask k → before + byte ≡ told_below plan own ask (k + 1)
told_next plan own ask k before byte told is counts holds =
    let next : suc k ≡ k + 1 = omega arith in
    ap (λ x. x + byte) is
    ∙ ap (λ x. told_below plan own ask k + x) (counts ∙ byte_is told ∙ ap (λ b. if b then 1 else 0) holds)
    ∙ ap (told_below plan own ask) next

pub few_next : (k before byte : ℕ) (told : Bool) → before ≤ k → byte ≡ bool_byte told → before + byte ≤ k + 1
few_next k before byte told low is = omega (arith, low, is, byte_low told)
