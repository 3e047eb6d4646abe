-- What a JSON tree gives where it has the shape of a state, in the order in which it stands there.
use Rattle.std.specs.Prelude.{ℕ, ℤ, pos, List, [], ◌∷◌, codes, Option, Some, None, if◌then◌else◌}
use Rattle.serde_json.specs.Data as json
use Rattle.serde_json.specs.Find.{as_array, as_object, get_member}
use Rattle.basis.specs.Options.{◌>>=◌}
use Rattle.script_tree.specs.Datum.{Datum}
use Rattle.script_tree.specs.Transactions.{Row}
use Rattle.json_texts.specs.Shapes.{Named, array_of, have_names, object_of, pair_of, read_or, whole_number_of}
use Rattle.json_texts.specs.Texts.{text_of}
use Rattle.state_file.specs.Values.{datum_of, values_of}
use Rattle.state_file.specs.declared.given.Given.{Given}

-- a name or a key with its value
abbrev pub Entry : Type 0
Entry = List ℕ × Datum

-- ---- the parts of a state

-- `[text, value]`
abbrev pub entry_of : json.Data → Option Entry
entry_of d = do
  pair ← pair_of d
  name ← text_of pair.0
  value ← datum_of pair.1
  Some (name, value)

-- an array of entries
abbrev pub entries_of : json.Data → Option (List Entry)
entries_of = array_of entry_of

-- an array of values
abbrev pub row_of : json.Data → Option Row
row_of d = as_array d >>= values_of

-- an array of rows
abbrev pub rows_of : json.Data → Option (List Row)
rows_of = array_of row_of

-- an object whose members are stores, each with its entries
abbrev pub stores_of : json.Data → Option (List (Named (List Entry)))
stores_of = object_of entries_of

-- an object whose members are tables, each with its rows
abbrev pub tables_of : json.Data → Option (List (Named (List Row)))
tables_of = object_of rows_of

-- a whole number
abbrev pub clock_of : json.Data → Option ℤ
clock_of = whole_number_of

-- ---- the whole

-- the names that a state's members may have
abbrev pub member_names : List (List ℕ)
member_names = codes "registers" ∷ codes "stores" ∷ codes "tables" ∷ codes "clock" ∷ []

-- what these parts give, where each is there
abbrev pub whole : Option (List Entry) → Option (List (Named (List Entry))) → Option (List (Named (List Row))) → Option ℤ → Option Given
whole registers stores tables clock = do
  rs ← registers
  ss ← stores
  ts ← tables
  last ← clock
  Some (record { registers = rs; stores = ss; tables = ts; clock = last })

-- what an object's members give; nothing where there is another member
abbrev pub given_in : json.Members → Option Given
given_in ms =
    if have_names member_names ms then whole
    (read_or [] entries_of (get_member (codes "registers") ms))
    (read_or [] stores_of (get_member (codes "stores") ms))
    (read_or [] tables_of (get_member (codes "tables") ms))
    (read_or (pos 0) clock_of (get_member (codes "clock") ms))
    else None

-- a state, which is an object
abbrev pub given_of : json.Data → Option Given
given_of d = as_object d >>= given_in
