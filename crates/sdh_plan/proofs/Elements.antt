-- The elements of an array, one after the other.
use Rattle.std.proofs.Common.{◌≡◌, ℕ, List, [], ◌∷◌, map, refl, ap, Bool, ◌&&◌}
use Rattle.std.proofs.lemmas.List.Folds.{list_all-map}
use Rattle.std.specs.List.{list_all}
use Rattle.toml.specs.declared.value.Value.{Value}
use Rattle.toml.specs.Data.{Data}
use Rattle.toml.specs.View.{view, items_of, items_view, members_view}
use Rattle.std.specs.Prelude.{String, string_bytes}
use Rattle.std.specs.BTreeMap.{BTreeMap, keys}
use Rattle.std.specs.Map.{keys_of as names_of}
use Rattle.std.specs.declared.alloc.Global.{Global}
use Rattle.toml.proofs.Views.{Entry}
use Rattle.sdh_plan.specs.Document.{elements, keys_of, is_integer, integer_of, is_string, is_table}

pub elements_of-list : (ds : List Data) → elements (items_of ds) ≡ ds
elements_of-list [] = refl
elements_of-list (d ∷ ds) = ap (λ l. d ∷ l) (elements_of-list ds)

pub elements_view : (vs : List Value) → elements (items_view vs) ≡ map view vs
elements_view vs = elements_of-list (map view vs)

pub all_integers_view : (vs : List Value) → list_all is_integer (map view vs) ≡ list_all (λ v. is_integer (view v)) vs
all_integers_view vs = list_all-map is_integer view vs

pub all_texts_view : (vs : List Value) → list_all is_string (map view vs) ≡ list_all (λ v. is_string (view v)) vs
all_texts_view vs = list_all-map is_string view vs

pub all_tables_view : (vs : List Value) → list_all is_table (map view vs) ≡ list_all (λ v. is_table (view v)) vs
all_tables_view vs = list_all-map is_table view vs

keys_view : (p : List ℕ → Bool) (es : List Entry) → list_all p (keys_of (members_view es))
    ≡ list_all (λ k. p (string_bytes k)) (names_of es)
keys_view p [] = refl
keys_view p (e ∷ es) = ap (λ b. p (string_bytes e.0) && b) (keys_view p es)

pub all_keys_view : (p : List ℕ → Bool) (m : BTreeMap (String Global) Value)
    → list_all p (keys_of (members_view m.entries)) ≡ list_all (λ k. p (string_bytes k)) (keys m)
all_keys_view p m = keys_view p m.entries

pub integers_view : (vs : List Value) → map (λ v. integer_of (view v)) vs ≡ map integer_of (map view vs)
integers_view [] = refl
integers_view (v ∷ vs) = ap (λ l. integer_of (view v) ∷ l) (integers_view vs)
