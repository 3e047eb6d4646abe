-- The value of a cell: of a list only the members that are left.
use Rattle.std.specs.Prelude.{◌≡◌, ℕ, zero, suc, ◌∷◌, [], List, drop, Ok, Err}
use Rattle.script_tree.specs.Datum as v
use Rattle.script_tree.specs.Datum.{Datum, members, data_of}
use Rattle.script_tree.specs.declared.fault.ScriptFault.TheVariants.{WrongKind}
use Rattle.script_meaning.specs.Kinds.{list_in}
use Rattle.machine.specs.declared.cell.NextMember.{NextMember}
use Rattle.machine.specs.declared.cell.NextMember.TheVariants.{NoList, Over, Member}

-- a list without its first n members; any other value as it is
abbrev pub without : ℕ → Datum → Datum
without n v.null = v.null
without n (v.bool b) = v.bool b
without n (v.number x) = v.number x
without n (v.text bytes) = v.text bytes
without n (v.list ds) = v.list (data_of (drop n (members ds)))

-- what is left of a value, of whose members n are taken
abbrev pub left_of : ℕ → Datum → Datum
left_of zero d = d
left_of (suc n) d = without (suc n) d

-- What is next of a value: nothing where it isn't a list, or the first member of it, and then the others are left.
abbrev pub IsNext : Datum → Datum → NextMember → Type 0
IsNext old new NoList = list_in old ≡ Err WrongKind
IsNext old new Over = list_in old ≡ Ok []
IsNext old new (Member d) = (ds : List Datum) × (list_in old ≡ Ok (d ∷ ds)) × (new ≡ v.list (data_of ds))
