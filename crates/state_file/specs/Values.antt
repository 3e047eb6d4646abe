-- The value that a JSON tree stands for.
use Rattle.std.specs.Prelude.{List, [], ◌∷◌, Option, Some, option_map}
use Rattle.serde_json.specs.Data as json
use Rattle.serde_json.specs.Find.{as_i64}
use Rattle.basis.specs.Options.{◌>>=◌}
use Rattle.script_tree.specs.Datum.{Datum, null, bool, number, text, list, data_of}
use Rattle.json_texts.specs.Texts.{hex_text}

abbrev mutual
  -- a value, where its numbers are whole ones of 64 bits
  pub datum_of : json.Data → Option Datum
  datum_of json.null = Some null
  datum_of (json.boolean b) = Some (bool b)
  datum_of (json.number n) = option_map number (as_i64 n)
  datum_of (json.string s) = Some (text s)
  datum_of (json.array items) = option_map (λ ds. list (data_of ds)) (values_of items)
  datum_of (json.object ms) = option_map text (hex_text ms)

  -- the values of an array's items, where each stands for one
  pub values_of : json.Items → Option (List Datum)
  values_of json.no_items = Some []
  values_of (json.item d items) = do
    first ← datum_of d
    rest ← values_of items
    Some (first ∷ rest)
