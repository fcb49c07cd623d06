-- The bytes that come in an AU-4 from some round on.
use Rattle.std.specs.Prelude.{ℕ, ◌≡◌, ◌+◌, ◌*◌, ◌≤◌, false, List, ◌⊎◌}
use Rattle.sdh_pointer.specs.declared.reading.Action.TheVariants as action
use Rattle.sdh_pointer.specs.Laws.{is_ais_action}
use Rattle.sdh_terminal.specs.Passing.{Input}

-- From round t on an AU-4 brings bytes with one pointer value: in round t with any action but AIS, and from the next
-- round on with Normal.
pub record Flows (f : ℕ → Input) (t v : ℕ) (bytes : ℕ → List ℕ) : Type 0 where
  pub taken : (j : ℕ) → t ≤ j → is_ais_action (f j).action ≡ false
  pub value : (j : ℕ) → t ≤ j → (f j).value ≡ v
  pub plain : (j : ℕ) → t + 1 ≤ j → (f j).action ≡ action.Normal
  pub payload : (j : ℕ) → t + 1 ≤ j → (f j).au.payload ≡ bytes j

-- The bytes flow after some spans: four rounds later for each span, and three rounds more once, where the first action
-- was New.
pub record FlowsBehind (f : ℕ → Input) (spans v : ℕ) (bytes : ℕ → List ℕ) : Type 0 where
  pub first : ℕ
  pub flows : Flows f first v bytes
  pub soon : (first ≤ 4 * spans) ⊎ ((first ≤ 4 * spans + 3) × ((f first).action ≡ action.New))

-- from round t on an AU-4 brings AIS
abbrev pub IsAisFrom : (ℕ → Input) → ℕ → Type 0
IsAisFrom f t = (j : ℕ) → t ≤ j → (f j).action ≡ action.Ais
