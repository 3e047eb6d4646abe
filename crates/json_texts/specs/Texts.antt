-- The text that a JSON tree stands for.
use Rattle.std.specs.Prelude.{ℕ, ◌+◌, ◌-◌, ◌*◌, ◌&&◌, nat_le, List, [], ◌∷◌, codes, Option, Some, None, if◌then◌else◌}
use Rattle.std.specs.Str.{bytes_eq}
use Rattle.serde_json.specs.Data as json
use Rattle.serde_json.specs.Find.{as_str}
use Rattle.basis.specs.Options.{◌>>=◌}

-- what a lower-case hexadecimal digit stands for: 0 to 9 are the bytes 48 to 57, a to f 97 to 102
abbrev pub hex_digit : ℕ → Option ℕ
hex_digit b =
    if nat_le 48 b && nat_le b 57 then Some (b - 48)
    else (if nat_le 97 b && nat_le b 102 then Some (b - 87) else None)

-- the byte that two digits stand for
abbrev pub hex_byte : ℕ → ℕ → Option ℕ
hex_byte b c = do
  high ← hex_digit b
  low ← hex_digit c
  Some (16 * high + low)

-- the bytes that pairs of digits stand for
abbrev pub hex_bytes : List ℕ → Option (List ℕ)
hex_bytes [] = Some []
hex_bytes (b ∷ []) = None
hex_bytes (b ∷ c ∷ digits) = do
  first ← hex_byte b c
  rest ← hex_bytes digits
  Some (first ∷ rest)

-- what stands under this name, where there is no other member
abbrev pub only_member : List ℕ → json.Members → Option json.Data
only_member name json.no_members = None
only_member name (json.member k d json.no_members) = if bytes_eq name k then Some d else None
only_member name (json.member k d (json.member l e ms)) = None

-- the bytes of the one member `hex`
abbrev pub hex_text : json.Members → Option (List ℕ)
hex_text ms = do
  digits ← only_member (codes "hex") ms
  spelled ← as_str digits
  hex_bytes spelled

-- a string's bytes, or those of the one member `hex`
abbrev pub text_of : json.Data → Option (List ℕ)
text_of json.null = None
text_of (json.boolean b) = None
text_of (json.number n) = None
text_of (json.string s) = Some s
text_of (json.array items) = None
text_of (json.object ms) = hex_text ms
