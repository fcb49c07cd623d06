-- What every call of a program keeps, whatever its source, its sink and its plant are.
use Rattle.std.specs.Prelude.{◌≡◌, ◌⊎◌, ◌≤◌, ℕ, Bool, List, Option, Some}
use Rattle.std.specs.Io.KnownBytes.{IsAtEnd}
use Rattle.sdh_basics.specs.Causes.{IsCounted}
use Rattle.sdh_status.specs.declared.Status.TheVariants as status
use Rattle.sdh_shell.specs.Endings.{Endings}
use Rattle.sdh_shell.specs.Failing.{Counts, HaveFailed, CameOfSource, plan_max}

-- what is seen of a source, a sink or a plant in a call
pub record Around (S V : Type 0) : Type 0 where
  -- what it was before the call, and what it is after it
  pub before : S
  pub after : S
  -- the count of its calls that failed
  pub faults : S → ℕ
  -- the count shows every call that failed
  pub exact : Bool
  -- what can be seen of it: the bytes that a source has left, the bytes that a sink holds, the fibres of a plant
  pub shows : S → V

abbrev pub seen_around : {S V : Type 0} → (S → ℕ) → Bool → (S → V) → S → S → Around S V
seen_around faults exact shows before after = record { before = before; after = after; faults = faults; exact = exact; shows = shows }

abbrev pub counts_of : {S V : Type 0} → Around S V → Counts
counts_of x = record { before = x.faults x.before; after = x.faults x.after }

-- the call left it as it was
abbrev pub IsLeft : {S V : Type 0} → Around S V → Type 0
IsLeft x = x.after ≡ x.before

-- one of its calls failed
abbrev pub Failed : {S V : Type 0} → Around S V → Type 0
Failed x = HaveFailed (counts_of x)

-- its count of failed calls has not fallen
abbrev pub IsLater : {S V : Type 0} → Around S V → Type 0
IsLater x = x.faults x.before ≤ x.faults x.after

-- one of its calls failed if it ended with this fault, and none otherwise, where the count shows every failed call
abbrev pub IsCountedBy : {S V : Type 0} → Type 0 → Around S V → Type 0
IsCountedBy Fault x = IsCounted x.exact Fault (x.faults x.before) (x.faults x.after)

-- the endings that every program has, those with which all that was asked for is done, and the most bytes that it
-- accepts from its source, if there is a most
pub record Common (E : Type 0) : Type 1 where
  pub IsDone : E → Type 0
  pub most : Option ℕ
  pub usage : E
  pub read_fault : E
  pub too_long : E
  pub write_fault : E
  pub memory : E

abbrev pub common_of : {E : Type 0} → Endings E → Common E
common_of endings = record {
  IsDone = λ end. end ≡ endings.of status.Ok;
  most = Some plan_max;
  usage = endings.of status.Usage;
  read_fault = endings.of status.ReadFault;
  too_long = endings.of status.TooLong;
  write_fault = endings.of status.WriteFault;
  memory = endings.of status.Memory;
}

-- What a call keeps of its source and its sink when it returns the ending `end`. `Unasked` says that its words have no
-- form that the program knows, `Unread` that the source isn't read for what they ask. `Says` holds of the ending that
-- was to be reported. With all that `Given` says, and no call that fails, everything is done, or memory runs out.
pub record Keeps {E S W : Type 0} (common : Common E) (Unasked Unread Given : Type 0) (Says : E → Type 0)
    (source : Around S (Option (List ℕ))) (sink : Around W (Option (List ℕ))) (end : E) : Type 0 where
  -- the ending that was to be reported; a write fault may stand in its place
  pub how : E
  pub ended : (end ≡ how) ⊎ (end ≡ common.write_fault)
  pub says : Says how
  -- Where the source's count is exact, its calls that failed are reported by a read fault, and none is tried again.
  -- `TooLong` was to be reported exactly where one byte more was taken from the source than the program accepts, and then
  -- nothing was read after it.
  pub came : CameOfSource common.most source.exact (counts_of source) (source.shows source.before) (source.shows source.after)
      (how ≡ common.read_fault) (how ≡ common.too_long)
  pub usage : end ≡ common.usage → Unasked
  pub usage_only : Unasked → (end ≡ common.usage) ⊎ ((end ≡ common.write_fault) ⊎ (end ≡ common.memory))
  pub unread : Unread → IsLeft source
  pub read_fault : end ≡ common.read_fault → Failed source
  pub write_fault : end ≡ common.write_fault → Failed sink
  pub writes : IsCountedBy (end ≡ common.write_fault) sink
  pub memory : end ≡ common.memory → IsLeft sink
  pub read_whole : common.IsDone end → (Unread → ⊥) → IsAtEnd (source.shows source.after)
  pub later : IsLater source × IsLater sink
  pub complete : Given → (Failed source → ⊥) → (Failed sink → ⊥) → common.IsDone end ⊎ (end ≡ common.memory)

-- What a call keeps of its plant. `Leaves` says that what is asked runs no plan.
pub record KeepsPlant {E P F : Type 0} (endings : Endings E) (Leaves : Type 0) (plant : Around P F) (end : E) : Type 0 where
  pub alone : Leaves → IsLeft plant
  pub fault : end ≡ endings.of status.PlantFault → Failed plant
  pub memory : end ≡ endings.of status.Memory → plant.shows plant.after ≡ plant.shows plant.before
  pub later : IsLater plant

-- What a call keeps of its source, its sink and its plant. By the ending that was to be reported, a call of the plant
-- failed if it is a plant fault, and none did otherwise, where the plant's count is exact.
pub record KeepsAll {E S W P F : Type 0} (endings : Endings E) (Unasked Unread Leaves Given : Type 0)
    (Says : E → Type 0) (source : Around S (Option (List ℕ))) (sink : Around W (Option (List ℕ))) (plant : Around P F)
    (end : E) : Type 0 where
  pub outside : Keeps (common_of endings) Unasked Unread (Given × (Failed plant → ⊥))
      (λ how. Says how × IsCountedBy (how ≡ endings.of status.PlantFault) plant) source sink end
  pub kept : KeepsPlant endings Leaves plant end
