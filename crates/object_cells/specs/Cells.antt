-- What stands under each key.
use Rattle.std.specs.Prelude.{◌≡◌, ℕ, List, Option, Some}
use Rattle.std.specs.BTreeMap.{is_at}
use Rattle.std.specs.Cmp.Lexicographic.{slice_cmp}
use Rattle.std.specs.Coded.{Coded, coded_list, coded×, coded_ℕ}
use Rattle.std.specs.List.{All}
use Rattle.std.specs.Map.{lookup}
use Rattle.std.specs.Ordering.{nat_cmp}
use Rattle.script_tree.specs.Datum.{Datum}
use Rattle.script_tree.specs.DatumCode.{coded_datum}
use Rattle.script_tree.specs.Fit.{IsEntry}
use Rattle.script_tree.specs.Objects.{with_key}

-- the keys that have a value, with their values, in the order of the keys
abbrev pub Held : Type 0
Held = List (List ℕ × Datum)

-- how a proof stores them
abbrev pub coded_held : Coded Held
coded_held = coded_list (coded× (coded_list coded_ℕ) coded_datum)

-- what stands under a key
abbrev pub held : Held → List ℕ → Option Datum
held cells k = lookup (is_at (slice_cmp nat_cmp k)) cells

-- What stands under any key is an entry: the key isn't too long, and the value within the limits.
abbrev pub HoldsEntries : Held → Type 0
HoldsEntries cells = (k : List ℕ) → IsEntry k (held cells k)

-- the same, of one after the other
abbrev pub AreEntries : Held → Type 0
AreEntries cells = All (λ e. IsEntry e.0 (Some e.1)) cells

-- This key has this now, and every other one what it had.
abbrev pub Changes : List ℕ → Option Datum → Held → Held → Type 0
Changes key d old new = (k : List ℕ) → held new k ≡ with_key key d (held old) k
