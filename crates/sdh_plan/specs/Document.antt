-- Reading the data of a TOML document.
use Rattle.std.specs.Prelude.{◌≡◌, ℕ, ℤ, pos, negsuc, List, [], ◌∷◌, Bool, false, ◌&&◌, nat_le, if◌then◌else◌, Option, Some, None}
use Rattle.std.specs.Prelude.{option_map, option_and_then, unwrap_or, is_some, IsUtf8}
use Rattle.std.specs.Str.{bytes_eq}
use Rattle.std.specs.Option.{option_map_or}
use Rattle.std.specs.List.{list_all, list_any}
use Rattle.toml.specs.Data.{Data, Items, no_items, item, Members, no_members, member, get_member, as_str, as_integer, as_array, as_table}
use Rattle.toml.specs.Parse.{parse_document}

-- the bytes are UTF-8 and a TOML document, and these are its members
abbrev pub IsDocument : List ℕ → Members → Type 0
IsDocument bytes ms = IsUtf8 bytes × (parse_document bytes ≡ Some ms)

-- the bytes are no document
abbrev pub IsNoDocument : List ℕ → Type 0
IsNoDocument bytes = (ms : Members) → ¬ (IsDocument bytes ms)

infixl 10 ◌>>=◌
abbrev pub ◌>>=◌ : {A B : Type 0} → Option A → (A → Option B) → Option B
o >>= f = option_and_then f o

-- the elements of an array
abbrev pub elements : Items → List Data
elements no_items = []
elements (item d ds) = d ∷ elements ds

-- the keys of a table
abbrev pub keys_of : Members → List (List ℕ)
keys_of no_members = []
keys_of (member k d ms) = k ∷ keys_of ms

-- the key is one of these
unfoldable pub is_one_of_keys : List (List ℕ) → List ℕ → Bool
is_one_of_keys keys key = list_any (λ known. bytes_eq key known) keys

-- the table has no key but these
unfoldable pub has_only : List (List ℕ) → Members → Bool
has_only keys ms = list_all (is_one_of_keys keys) (keys_of ms)

-- the number, where it is from low to high
abbrev pub number_in : ℕ → ℕ → ℤ → Option ℕ
number_in low high (pos n) = if nat_le low n && nat_le n high then Some n else None
number_in low high (negsuc n) = None

-- the integer at a key
abbrev pub integer_at : List ℕ → Members → Option ℤ
integer_at key ms = get_member key ms >>= as_integer

-- the integer at a key, where it is from low to high
abbrev pub number_at : List ℕ → ℕ → ℕ → Members → Option ℕ
number_at key low high ms = integer_at key ms >>= number_in low high

-- the bytes of the text at a key
abbrev pub text_at : List ℕ → Members → Option (List ℕ)
text_at key ms = get_member key ms >>= as_str

-- the elements of the array at a key
abbrev pub elements_at : List ℕ → Members → Option (List Data)
elements_at key ms = option_map elements (get_member key ms >>= as_array)

-- the elements of the array at a key; none where there is no array
abbrev pub elements_in : List ℕ → Members → List Data
elements_in key ms = unwrap_or (elements_at key ms) []

-- there is an array of such elements at the key
abbrev pub is_array_of : (Data → Bool) → List ℕ → Members → Bool
is_array_of test key ms = option_map_or (list_all test) (elements_at key ms) false

-- the value is an integer, a string, a table
abbrev pub is_integer : Data → Bool
is_integer d = is_some (as_integer d)

abbrev pub is_string : Data → Bool
is_string d = is_some (as_str d)

abbrev pub is_table : Data → Bool
is_table d = is_some (as_table d)

-- the integer that it is; 0 where it is none
abbrev pub integer_of : Data → ℤ
integer_of d = unwrap_or (as_integer d) (pos 0)

-- the bytes of a string; no bytes where it is none
abbrev pub string_of : Data → List ℕ
string_of d = unwrap_or (as_str d) []
