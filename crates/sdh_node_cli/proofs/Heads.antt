-- The plan of a stream, or why there is none.
use Rattle.std.proofs.Common.{◌≡◌, ℕ, ◌≤◌, List, ◌++◌, length, ap, sym, subst, inr, arith}
use Rattle.std.specs.Prelude.{Option}
use Rattle.std.specs.Io.KnownBytes.{Consumes}
use Rattle.std.proofs.lemmas.List.{length-append}
use Rattle.sdh_plan.specs.Planned.{Planned}
use Rattle.sdh_shell.specs.Reading.{HasPlanLength, TellsPlan}
use Rattle.sdh_status.specs.declared.Status.TheVariants as status
use Rattle.sdh_node_cli.specs.declared.head.NoHead.{NoHead}
use Rattle.sdh_node_cli.specs.declared.head.NoHead.TheVariants as none
use Rattle.sdh_node_cli.specs.declared.head.HeadEnd.{HeadEnd}
use Rattle.sdh_node_cli.specs.declared.head.HeadEnd.TheVariants as end
use Rattle.sdh_node_cli.specs.Streams.{end_of_plan, EndsPlan, IsPlanDocument}
use Rattle.sdh_node_cli.specs.Outcome.{HasHead, TakesHead, IsNoPlan, TellsNone}

pub tells_none : (left now : Option (List ℕ)) (why : NoHead) (document : List ℕ) → IsPlanDocument document → HasPlanLength document
    → Consumes left now (document ++ end_of_plan) → IsNoPlan document why → TellsNone left now why
tells_none left now none.Memory document is short read because =
    inr (record { document = document; first = is; short = short; read = read })
tells_none left now none.Cut document is short read because = absurd because
tells_none left now (none.Refused status.NotToml) document is short read because = record { document = document; first = is; why = because; read = read }
tells_none left now (none.Refused (status.BadPlan n p)) document is short read because =
    record { document = document; first = is; why = because; read = read }
tells_none left now (none.Refused status.Ok) document is short read because = absurd because
tells_none left now (none.Refused status.Usage) document is short read because = absurd because
tells_none left now (none.Refused status.ReadFault) document is short read because = absurd because
tells_none left now (none.Refused status.WriteFault) document is short read because = absurd because
tells_none left now (none.Refused (status.Unsettled k)) document is short read because = absurd because
tells_none left now (none.Refused status.PlantFault) document is short read because = absurd because
tells_none left now (none.Refused status.TooLong) document is short read because = absurd because
tells_none left now (none.Refused status.NoSuchPort) document is short read because = absurd because
tells_none left now (none.Refused status.Memory) document is short read because = absurd because

-- ---- a document that was read

pub took_head : (left now : Option (List ℕ)) (bytes read : List ℕ) (e : HeadEnd) → read ≡ bytes → e ≡ end.Whole → TakesHead left now bytes e
    → TakesHead left now read end.Whole
took_head left now bytes read e same is h =
    subst (λ b. TakesHead left now b end.Whole) (sym same) (subst (λ (x : HeadEnd). TakesHead left now bytes x) is h)

pub head_ends : (left now : Option (List ℕ)) (bytes : List ℕ) → TakesHead left now bytes end.Whole → EndsPlan bytes
head_ends left now bytes (document, is, first, read) = (document, is, first.lines)

pub has_head : (left now : Option (List ℕ)) (bytes cut : List ℕ) (plan : Planned) → TakesHead left now bytes end.Whole
    → ((document : List ℕ) → bytes ≡ document ++ end_of_plan → cut ≡ document) → TellsPlan cut plan → HasHead left now plan
has_head left now bytes cut plan (document, is, first, read) same tells = record {
  document = document;
  first = first;
  plan_is = subst (λ d. TellsPlan d plan) (same document is) tells;
  read = subst (Consumes left now) is read;
}

pub has_none : (left now : Option (List ℕ)) (bytes cut : List ℕ) (why : NoHead) → TakesHead left now bytes end.Whole
    → ((document : List ℕ) → bytes ≡ document ++ end_of_plan → cut ≡ document) → HasPlanLength cut → IsNoPlan cut why → TellsNone left now why
has_none left now bytes cut why (document, is, first, read) same short because =
    tells_none left now why document first (subst HasPlanLength (same document is) short) (subst (Consumes left now) is read)
    (subst (λ d. IsNoPlan d why) (same document is) because)

-- the bytes of a document are no more than a plan may have
pub few_bytes : (bytes cut : List ℕ) → EndsPlan bytes → ((document : List ℕ) → bytes ≡ document ++ end_of_plan → cut ≡ document)
    → length bytes ≤ 1048588 → length cut ≤ 1048576
few_bytes bytes cut (document, is, lines) same few =
    omega (arith, few, ap length (same document is), ap length is, length-append document end_of_plan)
