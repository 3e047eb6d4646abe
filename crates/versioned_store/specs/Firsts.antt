-- At which entries acts come first since the tables last changed.
use Rattle.std.specs.Prelude.{ℕ, ◌&&◌, List, Option, Some, unwrap_or, if◌then◌else◌}
use Rattle.std.specs.Map.{lookup}
use Rattle.script_tree.specs.Alike.{same_act}
use Rattle.script_tree.specs.declared.operation.Act.{Act}
use Rattle.versioned_store.specs.Sources.{selects_alone}

-- the entry at which an act comes first, where it has come
abbrev pub Firsts : Type 0
Firsts = Act → Option ℕ

-- what a map tells from keys that have acts
abbrev pub firsts_in : {K : Type 0} → (K → Act) → List (K × ℕ) → Firsts
firsts_in act_of entries act = lookup (λ k. same_act act (act_of k)) entries

-- the source of the entry at a position, by what came before it
abbrev pub source_by : Firsts → Act → ℕ → ℕ
source_by firsts act p = if selects_alone act then unwrap_or (firsts act) p else p

-- with the entry at a position
abbrev pub with_entry : Firsts → Act → ℕ → Firsts
with_entry firsts act p other = if selects_alone act && same_act act other then Some (source_by firsts act p) else firsts other
