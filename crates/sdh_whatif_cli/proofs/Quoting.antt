-- Texts between quotes are read back.
use Rattle.std.proofs.Common.{◌≡◌, ℕ, true, false, ◌&&◌, ◌==◌, List, [], ◌∷◌, ◌++◌, codes, refl, ap, ◌∙◌}
use Rattle.std.proofs.Common.{append_assoc}
use Rattle.std.specs.Prelude.{not, if◌then◌else◌}
use Rattle.std.proofs.lemmas.Bool.{and_parts}
use Rattle.sdh_whatif_cli.specs.declared.ask.Form.{Form}
use Rattle.sdh_whatif_cli.specs.declared.ask.Form.TheVariants as form
use Rattle.sdh_whatif_cli.specs.Lines.{either, step_quote}
use Rattle.sdh_whatif_cli.specs.Reading.{unquoted, field_read, seconds, texts_in}
use Rattle.sdh_whatif_cli.proofs.Splitting.{lacks, split_at, turned}

abbrev pub settle : List ℕ
settle = codes "settle"

-- texts, each between these quotes and parted from the next, and the settle step's
abbrev pub written : List ℕ → List ℕ → List (List ℕ) → List ℕ
written q between [] = q ++ (settle ++ q)
written q between (text ∷ more) = q ++ (text ++ (q ++ (between ++ written q between more)))

abbrev one : List ℕ
one = 34 ∷ []

abbrev two : List ℕ
two = 34 ∷ 34 ∷ []

-- no quote stands in these
abbrev pub AllLack : List (List ℕ) → Type 0
AllLack [] = Unit {0}
AllLack (text ∷ more) = (lacks 34 text ≡ true) × AllLack more

-- ---- single quotes

parts_from : (between pre : List ℕ) (texts : List (List ℕ)) → lacks 34 between ≡ true → lacks 34 pre ≡ true → AllLack texts
    → texts_in (pre ++ written one between texts) ≡ texts ++ settle ∷ []
parts_from between pre [] free clear all = ap seconds (split_at 34 pre (settle ++ one) clear ∙ ap (λ l. pre ∷ l) (split_at 34 settle [] refl))
parts_from between pre (text ∷ more) free clear all =
    let rest = between ++ written one between more in
    ap seconds (split_at 34 pre (text ++ 34 ∷ rest) clear ∙ ap (λ l. pre ∷ l) (split_at 34 text rest all.0))
    ∙ ap (λ l. text ∷ l) (parts_from between between more free free all.1)

-- ---- doubled quotes

unquoted_one : (a : ℕ) (l : List ℕ) → (a == 34) ≡ false → unquoted (a ∷ l) ≡ a ∷ unquoted l
unquoted_one a [] other = refl
unquoted_one a (b ∷ more) other = ap (λ t. if t && (b == 34) then a ∷ unquoted more else a ∷ unquoted (b ∷ more)) other

unquoted_free : (xs rest : List ℕ) → lacks 34 xs ≡ true → unquoted (xs ++ rest) ≡ xs ++ unquoted rest
unquoted_free [] rest free = refl
unquoted_free (x ∷ xs) rest free =
    let parts = and_parts (not (x == 34)) (lacks 34 xs) free in
    unquoted_one x (xs ++ rest) (turned (x == 34) parts.0) ∙ ap (λ l. x ∷ l) (unquoted_free xs rest parts.1)

undoubled : (between : List ℕ) (texts : List (List ℕ)) → lacks 34 between ≡ true → AllLack texts
    → unquoted (written two between texts) ≡ written one between texts
undoubled between [] free all = ap (λ l. 34 ∷ l) (unquoted_free settle two refl)
undoubled between (text ∷ more) free all =
    let rest = written two between more in
    ap (λ l. 34 ∷ l) (unquoted_free text (two ++ (between ++ rest)) all.0
    ∙ ap (λ l. text ++ 34 ∷ l) (unquoted_free between rest free ∙ ap (λ l. between ++ l) (undoubled between more free all.1)))

in_table : (between : List ℕ) (texts : List (List ℕ)) → lacks 34 between ≡ true → AllLack texts
    → texts_in (unquoted (written two between texts)) ≡ texts ++ settle ∷ []
in_table between texts free all = ap texts_in (undoubled between texts free all) ∙ parts_from between [] texts free refl all

-- ---- forms

abbrev pub between_steps : Form → List ℕ
between_steps f = either f (codes ",") (codes ", ")

pub read_back : (f : Form) (texts : List (List ℕ)) → AllLack texts
    → texts_in (field_read f (written (step_quote f) (between_steps f) texts)) ≡ texts ++ settle ∷ []
read_back form.Json texts all = parts_from (codes ",") [] texts refl refl all
read_back form.Table texts all = in_table (codes ", ") texts refl all
read_back form.Headed texts all = in_table (codes ", ") texts refl all
read_back form.Summary texts all = in_table (codes ", ") texts refl all

-- a part, and those after it
pub part_first : (q text b rest : List ℕ) → q ++ text ++ q ++ b ++ rest ≡ q ++ (text ++ (q ++ (b ++ rest)))
part_first q text b rest =
    append_assoc (q ++ text ++ q) b rest ∙ append_assoc (q ++ text) q (b ++ rest) ∙ append_assoc q text (q ++ (b ++ rest))

pub front_first : (part rest q s : List ℕ) → part ++ rest ++ q ++ s ++ q ≡ part ++ (rest ++ q ++ s ++ q)
front_first part rest q s =
    ap (λ l. l ++ q) (ap (λ l. l ++ s) (append_assoc part rest q) ∙ append_assoc part (rest ++ q) s) ∙ append_assoc part (rest ++ q ++ s) q
