-- The bodies of members, and how long they are.
use Rattle.std.specs.Prelude.{◌≡◌, ◌≤◌, ◌<◌, ◌+◌, ℕ, List, [], ◌∷◌, ◌++◌, length, get_or, min, Ok}
use Rattle.script_tree.specs.Datum.{Datum, null, bool, number, text, list}
use Rattle.script_tree.specs.declared.limits.TheConstants.{MOST_BODY_BYTES}
use Rattle.script_meaning.specs.Kinds.{text_in}
use Rattle.multivalue.specs.Many.{Many, member_value}

-- the bytes of a text
abbrev pub bytes_of : Datum → List ℕ
bytes_of null = []
bytes_of (bool b) = []
bytes_of (number n) = []
bytes_of (text bytes) = bytes
bytes_of (list ds) = []

-- a member's body, of pieces
abbrev pub body_at : ℕ → List Many → List ℕ
body_at i [] = []
body_at i (m ∷ ms) = bytes_of (member_value m i) ++ body_at i ms

-- Each member's body is as long as what all have in common and what it has beside that, of which this is the most.
pub record HaveLengths (pieces : List Many) (common : ℕ) (own : List ℕ) (most : ℕ) : Type 0 where
  pub lengths : (i : ℕ) → i < length own → length (body_at i pieces) ≡ common + get_or own i 0
  pub at_most : (i : ℕ) → i < length own → get_or own i 0 ≤ most
  pub within : common + most ≤ MOST_BODY_BYTES

-- a text of this length
pub record IsTextOf (len : ℕ) (d : Datum) : Type 0 where
  pub bytes : text_in d ≡ Ok (bytes_of d)
  pub length' : length (bytes_of d) ≡ len

-- Each of n members has a text, and its length with that is this, as far as numbers go.
abbrev pub AreGrown : (n largest : ℕ) → Many → (old new : List ℕ) → Type 0
AreGrown n largest m old new = (length new ≡ n)
    × ((i : ℕ) → i < n → (len : ℕ) × IsTextOf len (member_value m i)
    × (get_or new i 0 ≡ min (get_or old i 0 + len) largest))

-- Each of these numbers is within these bounds.
abbrev pub AreWithin : (least most : ℕ) → List ℕ → Type 0
AreWithin least most ns = (i : ℕ) → i < length ns → (least ≤ get_or ns i 0) × (get_or ns i 0 ≤ most)

-- one of these numbers
abbrev pub IsOneOf : List ℕ → ℕ → Type 0
IsOneOf ns n = (i : ℕ) × (i < length ns) × (get_or ns i 0 ≡ n)

-- These bounds are some of the numbers; the upper one is 0 where there are none.
abbrev pub AreReached : (least most : ℕ) → List ℕ → Type 0
AreReached least most ns = (0 < length ns → IsOneOf ns least) × (0 < most → IsOneOf ns most)
