-- What a listener makes of a round is what the round is.
use Rattle.std.proofs.Common.{◌≡◌, ℕ, suc, ◌+◌, Bool, true, false, List, [], ◌∷◌, length, refl, sym, ap, ap₂, ◌∙◌, arith}
use Rattle.std.specs.Prelude.{if◌then◌else◌, Option, Some}
use Rattle.sdh_payload.specs.declared.delivered.Delivered.{Delivered}
use Rattle.sdh_payload.specs.declared.delivered.Delivered.TheVariants.{Chunk}
use Rattle.sdh_payload.specs.Customer.{Customer}
use Rattle.sdh_outage.specs.declared.kind.Kind.{Kind}
use Rattle.sdh_outage.specs.declared.kind.Kind.TheVariants as kind
use Rattle.sdh_outage.specs.Near.{is_part}
use Rattle.sdh_outage.specs.Kinds.{are_ones, jumps, kind_of_pieces, own_kind, Whose, kind_of, last_heard, kinds_of}
use Rattle.sdh_outage.specs.Outages.{with_round, outage_of}
use Rattle.sdh_outage.specs.Changes.{Traced, traced}
use Rattle.sdh_outage.specs.Kept.{Heard, heard}

-- ---- what a round is by its chunk

chosen : (ones ones' part part' jump jump' : Bool) (rest : Option Kind) → ones ≡ ones' → part ≡ part' → jump ≡ jump' →
    (if ones then Some kind.Ones else if part then (if jump then Some kind.Jump else Some kind.InOrder) else rest)
    ≡ (if ones' then Some kind.Ones else if part' then (if jump' then Some kind.Jump else Some kind.InOrder) else rest)
chosen ones ones' part part' jump jump' rest o p j = cc

module _ (others : List ℕ) (last : Delivered) (chunk : List ℕ) where
  pub not_there : are_ones chunk ≡ false → is_part chunk others ≡ false → kind_of_pieces chunk others ≡ own_kind others last (Chunk chunk)
  not_there some none =
      sym (chosen (are_ones chunk) false (is_part chunk others) false (jumps others last chunk) (jumps others last chunk)
      (kind_of_pieces chunk others) some none refl)

  pub is_there : (jump : Bool) → are_ones chunk ≡ false → is_part chunk others ≡ true → jumps others last chunk ≡ jump
      → (if jump then Some kind.Jump else Some kind.InOrder) ≡ own_kind others last (Chunk chunk)
  is_there jump some part e =
      sym (chosen (are_ones chunk) false (is_part chunk others) true (jumps others last chunk) jump (kind_of_pieces chunk others) some part e)

-- ---- round after round

length-kinds : (port : Customer) (whose : Whose) (first : ℕ) (before : Delivered) (past : List Delivered)
    → length (kinds_of port whose first before past) ≡ length past
length-kinds port whose first before [] = refl
length-kinds port whose first before (now ∷ past) = ap suc (length-kinds port whose first before past)

-- what a round of this kind makes of what was heard before it, where it leaves this trace
abbrev pub after : Heard → Delivered → Kind → Traced → Heard
after h now kind trace = record { round = h.round + 1; last = now; outage = with_round h.round kind h.outage; trace = trace }

module _ (port : Customer) (whose : Whose) (first : ℕ) (before : Delivered) (past : List Delivered) (h : Heard) (now : Delivered) (kind : Kind)
    (e : h ≡ heard port whose first before past) (is : kind ≡ kind_of port whose h.round h.last now) where
  -- its kind by what was heard
  kind_is : kind ≡ kind_of port whose (first + length past) (last_heard before past) now
  kind_is = is ∙ ap (λ (x : Heard). kind_of port whose x.round x.last now) e

  -- the trace that it leaves
  pub trace_after : (trace : Traced)
      → ((f : ℕ) (kinds : List Kind) → h.round ≡ f + length kinds → h.trace ≡ traced f kinds → trace ≡ traced f (kind ∷ kinds))
      → trace ≡ traced first (kinds_of port whose first before (now ∷ past))
  trace_after trace added =
      let kinds = kinds_of port whose first before past in
      let number : h.round ≡ first + length kinds =
      ap (λ (x : Heard). x.round) e ∙ ap (λ n. first + n) (sym (length-kinds port whose first before past)) in
      added first kinds number (ap (λ (x : Heard). x.trace) e) ∙ ap (λ k. traced first (k ∷ kinds)) kind_is

  pub hears : (trace : Traced) → trace ≡ traced first (kinds_of port whose first before (now ∷ past))
      → after h now kind trace ≡ heard port whose first before (now ∷ past)
  hears trace added =
      let more : first + length past + 1 ≡ first + suc (length past) = omega arith in
      let k = kind_of port whose (first + length past) (last_heard before past) now in
      (λ i. after (e i) now (kind_is i) (added i))
      ∙ ap₂ (λ n r. let x : Heard = record {
        round = n;
        last = now;
        outage = with_round (first + r) k (outage_of first (kinds_of port whose first before past));
        trace =
            traced first (kinds_of port whose first before (now ∷ past));
      } in x) more (sym (length-kinds port whose first before past))
