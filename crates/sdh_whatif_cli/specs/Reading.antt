-- The steps of a line, as its reader takes them out of their field, and as the reader of plans reads those of a script.
use Rattle.std.specs.Prelude.{ℕ, ◌≡◌, ◌==◌, ◌&&◌, if◌then◌else◌, List, [], ◌∷◌, map, None, All}
use Rattle.std.specs.List.{slice_split}
use Rattle.sdh_ringmap.specs.Rates.{n_of}
use Rattle.sdh_plan.specs.Check.{first_fault}
use Rattle.sdh_plan.specs.Words.{words}
use Rattle.sdh_plan.specs.Steps.{step_of, form_faults}
use Rattle.sdh_plan.specs.Planned.{Planned}
use Rattle.sdh_plan.specs.declared.step.Step.{Step}
use Rattle.sdh_whatif_cli.specs.declared.ask.Form.{Form}
use Rattle.sdh_whatif_cli.specs.Lines.{is_json}

-- the text of a field of the table that stands in quotes, by RFC 4180: two quotes in it stand for one
abbrev pub unquoted : List ℕ → List ℕ
unquoted [] = []
unquoted (a ∷ []) = a ∷ []
unquoted (a ∷ b ∷ more) = if (a == 34) && (b == 34) then a ∷ unquoted more else a ∷ unquoted (b ∷ more)

-- the text of a field: in JSON as it stands, in the table with two quotes read as one
abbrev pub field_read : Form → List ℕ → List ℕ
field_read f text = if is_json f then text else unquoted text

-- every second of some texts
abbrev pub seconds : List (List ℕ) → List (List ℕ)
seconds [] = []
seconds (x ∷ []) = []
seconds (x ∷ y ∷ more) = y ∷ seconds more

-- the texts that stand between quotes
abbrev pub texts_in : List ℕ → List (List ℕ)
texts_in text = seconds (slice_split (λ byte. byte == 34) text)

-- the steps that these texts give in a script of the plan
abbrev pub steps_read : Planned → List (List ℕ) → List Step
steps_read plan texts = map (step_of (n_of plan.settings.rate) plan.nodes plan.circuits) texts

-- no check of a step's words fails at any of them
abbrev pub PassChecks : Planned → List (List ℕ) → Type 0
PassChecks plan texts = All (λ text. first_fault (form_faults (n_of plan.settings.rate) plan.nodes plan.circuits (words text)) ≡ None) texts
