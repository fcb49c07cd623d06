-- What a clock keeps of its history is enough.
use Rattle.std.proofs.Common.{◌≡◌, ℕ, suc, ◌+◌, ◌-◌, ◌*◌, ◌%◌, ◌≤◌, ◌<◌, pos, ◌+ℤ◌, ◌-ℤ◌, Bool, true, false, not, ◌&&◌, cond, nat_le}
use Rattle.std.proofs.Common.{if◌then◌else◌, List, [], ◌∷◌, length, count_by, refl, sym, ap, subst, ◌∙◌, arith}
use Rattle.std.proofs.lemmas.Bool.{le-leb, lt-leb, and_right}
use Rattle.std.proofs.lemmas.Bool.Decides.{nat_tests}
use Rattle.std.proofs.lemmas.Int.{int_rem_euclid_is, ints}
use Rattle.std.proofs.lemmas.List.Sums.{sum_by-cons}
use Rattle.sdh_payload.specs.declared.chunk.ChunkForm.{ChunkForm}
use Rattle.sdh_payload.specs.declared.chunk.ChunkForm.TheVariants.{Plain, Short, Long}
use Rattle.sdh_payload.specs.declared.clock.Turn.TheVariants.{Up, Down}
use Rattle.sdh_payload.specs.Chunk.{taken_len}
use Rattle.sdh_payload.specs.Clock.{Clock, next_form, after_form, ticked}
use Rattle.sdh_payload.specs.History.{Happening, told, went, justifies_up, justifies_down, may_justify, ups_left, downs_left, form_then}
use Rattle.sdh_payload.specs.History.{ups_told, downs_told, forms, last_form, first_byte_now}
use Rattle.sdh_payload.specs.Stream.{stream_from}
use Rattle.sdh_payload.specs.Laws.{clock_by, ClocksGoByHistory, RoundsFollowEachOther}
use Rattle.sdh_payload.proofs.Chunks.{ticked_sent}

-- ---- how long a clock rests

-- how many rounds come before one that may justify, by what was sent, the latest first
abbrev rest_after : List ChunkForm → ℕ
rest_after [] = 4
rest_after (Plain ∷ before) = rest_after before - 1
rest_after (Short ∷ before) = 3
rest_after (Long ∷ before) = 3

rest_few : (before : List ChunkForm) → rest_after before ≤ 4
rest_few [] = omega arith
rest_few (Plain ∷ before) = omega (arith, rest_few before)
rest_few (Short ∷ before) = omega arith
rest_few (Long ∷ before) = omega arith

-- after a round a clock rests for at most three rounds
rest_fewer : (f : ChunkForm) (before : List ChunkForm) → rest_after (f ∷ before) ≤ 3
rest_fewer Plain before = omega (arith, rest_few before)
rest_fewer Short before = omega arith
rest_fewer Long before = omega arith

no_more : (t : Bool) → true ≡ not (t && false)
no_more t = ap not (sym (and_right t false refl))

-- a clock rests in just those rounds that may not justify
rests : (before : List ChunkForm) → nat_le 1 (rest_after before) ≡ not (may_justify before)
rests [] = refl
rests (Short ∷ before) = no_more _
rests (Long ∷ before) = no_more _
rests (Plain ∷ []) = refl
rests (Plain ∷ Short ∷ before) = no_more _
rests (Plain ∷ Long ∷ before) = no_more _
rests (Plain ∷ Plain ∷ []) = refl
rests (Plain ∷ Plain ∷ Short ∷ before) = no_more _
rests (Plain ∷ Plain ∷ Long ∷ before) = no_more _
rests (Plain ∷ Plain ∷ Plain ∷ []) = refl
rests (Plain ∷ Plain ∷ Plain ∷ f ∷ before) =
    let none : rest_after (f ∷ before) - 1 - 1 - 1 < 1 = omega (arith, rest_fewer f before) in
    let some : 4 ≤ suc (suc (suc (suc (length before)))) = omega arith in
    lt-leb 1 (rest_after (f ∷ before) - 1 - 1 - 1) none ∙ sym
    (ap (λ t. not (t && true)) (le-leb 4 (suc (suc (suc (suc (length before))))) some))

-- ---- how often a port justified

count-cons : (p : ChunkForm → Bool) (f : ChunkForm) (before : List ChunkForm) → count_by p (f ∷ before) ≡ cond (p f) 1 0 + count_by p before
count-cons p f before = sum_by-cons (λ g. cond (p g) 1 0) f before

both_once : (f : ChunkForm) → cond (justifies_up f) 1 0 + cond (justifies_down f) 1 0 ≤ 1
both_once Plain = omega arith
both_once Short = omega arith
both_once Long = omega arith

-- a port justifies at most once in each round
counts_few : (before : List ChunkForm) → count_by justifies_up before + count_by justifies_down before ≤ length before
counts_few [] = omega arith
counts_few (f ∷ before) =
    omega (arith, both_once f, counts_few before, count-cons justifies_up f before, count-cons justifies_down f before)

-- ---- what a clock keeps

-- what the clock of a port with this offset keeps, where this number of slips up and down were ordered, after rounds in
-- which this was sent
record Keeps (offset ups downs : ℕ) (before : List ChunkForm) (c : Clock) : Type 0 where
  rounds_are : c.rounds ≡ length before
  ups_left : c.ups + count_by justifies_up before ≡ ups
  downs_left : c.downs + count_by justifies_down before ≡ downs
  rests : c.rest ≡ rest_after before
  sent_is : c.sent + 3 * count_by justifies_up before ≡ 2349 * length before + 3 * count_by justifies_down before
  value_is : offset ≤ 782 → c.value ≡ (offset + count_by justifies_up before + 782 * count_by justifies_down before) % 783
  last : c.form ≡ last_form before

-- a justification uses up a slip that waits
up_waits : (c : Clock) → Short ≡ next_form c → 1 ≤ c.ups
up_waits c e = go (nat_le 1 c.rest) (nat_le 1 c.ups) (nat_le 1 c.downs) refl e
  where
    go : (rest ups downs : Bool) → nat_le 1 c.ups ≡ ups → Short
        ≡ (if rest then Plain else if ups then Short else if downs then Long else Plain) → 1 ≤ c.ups
    go true ups downs u e = absurd (cc)
    go false true downs u e = grind (arith, nat_tests)
    go false false true u e = absurd (cc)
    go false false false u e = absurd (cc)

down_waits : (c : Clock) → Long ≡ next_form c → 1 ≤ c.downs
down_waits c e = go (nat_le 1 c.rest) (nat_le 1 c.ups) (nat_le 1 c.downs) refl e
  where
    go : (rest ups downs : Bool) → nat_le 1 c.downs ≡ downs
        → Long ≡ (if rest then Plain else if ups then Short else if downs then Long else Plain) → 1 ≤ c.downs
    go true ups downs d e = absurd (cc)
    go false true downs d e = absurd (cc)
    go false false true d e = grind (arith, nat_tests)
    go false false false d e = absurd (cc)

keeps_after : (offset ups downs : ℕ) (before : List ChunkForm) (c : Clock) (f : ChunkForm) → f ≡ next_form c
    → Keeps offset ups downs before c → Keeps offset ups downs (f ∷ before) (after_form f c)
keeps_after offset ups downs before c Plain e k =
    let u = count-cons justifies_up Plain before in
    let d = count-cons justifies_down Plain before in
    record {
      rounds_are = omega (arith, k.rounds_are);
      ups_left = omega (arith, u, k.ups_left);
      downs_left = omega (arith, d, k.downs_left);
      rests = ap (λ r. r - 1) k.rests;
      sent_is = omega (arith, u, d, k.sent_is);
      value_is = λ small. omega (arith, u, d, k.value_is small);
      last = refl;
    }
keeps_after offset ups downs before c Short e k =
    let u = count-cons justifies_up Short before in
    let d = count-cons justifies_down Short before in
    record {
      rounds_are = omega (arith, k.rounds_are);
      ups_left = omega (arith, u, k.ups_left, up_waits c e);
      downs_left = omega (arith, d, k.downs_left);
      rests = refl;
      sent_is = omega (arith, u, d, k.sent_is);
      value_is = λ small. omega (arith, u, d, k.value_is small);
      last = refl;
    }
keeps_after offset ups downs before c Long e k =
    let u = count-cons justifies_up Long before in
    let d = count-cons justifies_down Long before in
    record {
      rounds_are = omega (arith, k.rounds_are);
      ups_left = omega (arith, u, k.ups_left);
      downs_left = omega (arith, d, k.downs_left, down_waits c e);
      rests = refl;
      sent_is = omega (arith, u, d, k.sent_is);
      value_is = λ small. omega (arith, u, d, k.value_is small);
      last = refl;
    }

same_form : (rest may : Bool) (ups ups' downs downs' : ℕ) → rest ≡ may → ups ≡ ups' → downs ≡ downs'
    → (if rest then Plain else if nat_le 1 ups then Short else if nat_le 1 downs then Long else Plain)
    ≡ (if may then Plain else if nat_le 1 ups' then Short else if nat_le 1 downs' then Long else Plain)
same_form rest may ups ups' downs downs' r u d = cc

-- a clock sends what the rule says
form_is : (offset ups downs : ℕ) (before : List ChunkForm) (c : Clock) → Keeps offset ups downs before c
    → next_form c ≡ form_then before ups downs
form_is offset ups downs before c k =
    same_form (nat_le 1 c.rest) (not (may_justify before)) c.ups (ups_left ups before) c.downs (downs_left downs before)
    (ap (nat_le 1) k.rests ∙ rests before) (omega (arith, k.ups_left)) (omega (arith, k.downs_left))

-- ---- the laws

kept : (offset : ℕ) (history : List Happening) → Keeps offset (ups_told history) (downs_told history) (forms history)
    (clock_by offset history)
unfolding ticked
kept offset [] = record {
  rounds_are = refl;
  ups_left = refl;
  downs_left = refl;
  rests = refl;
  sent_is = refl;
  value_is = λ small. omega arith;
  last = refl;
}
kept offset (told Up count ∷ history) =
    let k = kept offset history in
    record {
      rounds_are = k.rounds_are;
      ups_left = omega (arith, k.ups_left);
      downs_left = k.downs_left;
      rests = k.rests;
      sent_is = k.sent_is;
      value_is = k.value_is;
      last = k.last;
    }
kept offset (told Down count ∷ history) =
    let k = kept offset history in
    record {
      rounds_are = k.rounds_are;
      ups_left = k.ups_left;
      downs_left = omega (arith, k.downs_left);
      rests = k.rests;
      sent_is = k.sent_is;
      value_is = k.value_is;
      last = k.last;
    }
kept offset (went ∷ history) =
    let c = clock_by offset history in
    let k = kept offset history in
    let next = keeps_after offset (ups_told history) (downs_told history) (forms history) c (next_form c) refl k in
    subst (λ f. Keeps offset (ups_told history) (downs_told history) (f ∷ forms history) (after_form (next_form c) c))
    (form_is offset (ups_told history) (downs_told history) (forms history) c k) next

-- the byte with which the next round begins
begins_at : (sent ups downs rounds : ℕ) → sent + 3 * ups ≡ 2349 * rounds + 3 * downs → ups + downs ≤ rounds
    → sent ≡ 2349 * rounds - 3 * ups + 3 * downs
begins_at sent ups downs rounds e few = omega (arith, e, few)

-- steps down are steps up, modulo 783
steps_up : (offset ups downs : ℕ) → pos offset +ℤ pos ups -ℤ pos downs +ℤ pos (downs * 783) ≡ pos (offset + ups + 782 * downs)
steps_up offset ups downs = omega (arith, ints)

pub clocks_go_by_history : ClocksGoByHistory
clocks_go_by_history offset history small =
    let c = clock_by offset history in
    let k = kept offset history in
    let before = forms history in
    let ups = count_by justifies_up before in
    let downs = count_by justifies_down before in
    record {
      rounds_are = k.rounds_are;
      ups_wait = omega (arith, k.ups_left);
      downs_wait = omega (arith, k.downs_left);
      last = k.last;
      next = form_is offset (ups_told history) (downs_told history) before c k;
      begins = begins_at c.sent ups downs (length before) k.sent_is (counts_few before);
      value_is =
          ap pos (k.value_is small) ∙ sym (int_rem_euclid_is (pos offset +ℤ pos ups -ℤ pos downs) (pos 783) 783 downs
          (offset + ups + 782 * downs) (omega arith) refl (steps_up offset ups downs));
    }

-- where the next round begins, at any offset
next_begins : (offset : ℕ) (history : List Happening) → (clock_by offset history).sent ≡ first_byte_now history
next_begins offset history =
    let before = forms history in
    begins_at (clock_by offset history).sent (count_by justifies_up before) (count_by justifies_down before) (length before)
    (kept offset history).sent_is
    (counts_few before)

pub rounds_follow_each_other : RoundsFollowEachOther
rounds_follow_each_other port history =
    let c = clock_by port.offset history in
    let now = next_begins port.offset history in
    let later = next_begins port.offset (went ∷ history) in
    let bytes : taken_len (next_form c) ≡ first_byte_now (went ∷ history) - first_byte_now history =
    omega (arith, now, later, ticked_sent c) in
    ap (λ p. stream_from port p (taken_len (next_form c))) now ∙ ap (stream_from port (first_byte_now history)) bytes
