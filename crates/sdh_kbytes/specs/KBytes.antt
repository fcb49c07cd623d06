-- The words of the automatic protection switching channel, and their two bytes K1 and K2 (ITU-T G.707 clause 9.2
-- places them in the multiplex section overhead). K1 is a code of four bits and a destination of four bits; K2 is a
-- source of four bits, one bit for the path and three bits for the mark. The tables of codes and marks are this
-- project's own, after ITU-T G.841.
use Rattle.std.specs.Prelude.{ℕ, ◌≡◌, ◌≢◌, ◌+◌, ◌*◌, ◌/◌, ◌%◌, ◌≤◌, ◌⊎◌, Option, Some, option_and_then, List, [], ◌∷◌, find, ◌==◌}
use Rattle.std.specs.Prelude.{if◌then◌else◌}
use Rattle.sdh_ringmap.specs.declared.terms.Code.{Code}
use Rattle.sdh_ringmap.specs.Requests.{code_number}
use Rattle.sdh_ringmap.specs.declared.terms.Code.TheVariants.{Nr, Rr, Wtr, Ms, Sd, Sf, Fs}
use Rattle.sdh_kbytes.specs.declared.Path.{Path}
use Rattle.sdh_kbytes.specs.declared.Path.TheVariants.{Short, Long}
use Rattle.sdh_kbytes.specs.declared.Mark.{Mark}
use Rattle.sdh_kbytes.specs.declared.Mark.TheVariants.{Idle, Bridged, BridgedSwitched, Rdi, MsAis}
use Rattle.sdh_kbytes.specs.declared.K.{K}

-- the bit of a path
abbrev pub path_number : Path → ℕ
path_number Short = 0
path_number Long = 1

-- the table of marks: the three bits of each
abbrev pub mark_number : Mark → ℕ
mark_number Idle = 0
mark_number Bridged = 1
mark_number BridgedSwitched = 2
mark_number Rdi = 6
mark_number MsAis = 7

-- all codes that there are
abbrev pub codes : List Code
codes = Nr ∷ Rr ∷ Wtr ∷ Ms ∷ Sd ∷ Sf ∷ Fs ∷ []

-- all marks that there are
abbrev pub marks : List Mark
marks = Idle ∷ Bridged ∷ BridgedSwitched ∷ Rdi ∷ MsAis ∷ []

-- the byte K1 of a word
abbrev pub first_byte : K → ℕ
first_byte k = 16 * code_number k.code + k.to

-- the byte K2 of a word
abbrev pub second_byte : K → ℕ
second_byte k = 16 * k.from + (8 * path_number k.path + mark_number k.mark)

-- two bytes spell a word, whose identifiers have four bits each
pub record Spells (k : K) (k1 k2 : ℕ) : Type 0 where
  pub first : k1 ≡ first_byte k
  pub second : k2 ≡ second_byte k
  pub to : k.to ≤ 15
  pub from : k.from ≤ 15

-- the code of four bits, if the table has it
abbrev pub code_at : ℕ → Option Code
code_at bits = find (λ c. code_number c == bits) codes

-- the mark of three bits, if the table has it
abbrev pub mark_at : ℕ → Option Mark
mark_at bits = find (λ m. mark_number m == bits) marks

abbrev pub path_at : ℕ → Path
path_at bit = if bit == 0 then Short else Long

-- the word that two bytes spell, by a lookup in each of the two tables
abbrev pub decoded : ℕ → ℕ → Option K
decoded k1 k2 =
    option_and_then (λ c. option_and_then (λ m. Some (record {
      code = c;
      to = k1 % 16;
      from = k2 / 16;
      path = path_at (k2 / 8 % 2);
      mark = m;
    })) (mark_at (k2 % 8))) (code_at (k1 / 16))

-- the tables don't list the code, or they don't list the mark
abbrev pub IsUnlisted : ℕ → ℕ → Type 0
IsUnlisted k1 k2 = ((c : Code) → code_number c ≢ k1 / 16) ⊎ ((m : Mark) → mark_number m ≢ k2 % 8)

-- both identifiers of a word have four bits, so that two bytes can spell it
pub record IsSpellable (k : K) : Type 0 where
  pub to : k.to ≤ 15
  pub from : k.from ≤ 15
