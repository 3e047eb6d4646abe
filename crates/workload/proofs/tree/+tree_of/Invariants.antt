use Rattle.std.proofs.Common.{◌≡◌, map, take, drop, Some}
use Rattle.json.specs.Value as borrowed
use Rattle.serde_json.specs.Data.{no_members}
use Rattle.serde_json.specs.Read.{of_json, of_members}
use Rattle.serde_json.specs.View.{view, members_view}
use Rattle.workload.proofs.tree.+tree_of.Given as goal

-- the trees so far are those of the items so far
abbrev pub invariant-items_of-loop-item : goal.invariant-items_of-loop-item
invariant-items_of-loop-item l = map (λ v. of_json (borrowed.value_view v)) (take l.item-index l.item-items) ≡ map (λ t. Some (view t)) l.trees.items

-- all are the members that are left, put in after those so far
abbrev pub invariant-members_of-loop-name : goal.invariant-members_of-loop-name
invariant-members_of-loop-name l = of_members (borrowed.members_view l.name-items) no_members
    ≡ of_members (borrowed.members_view (drop l.name-index l.name-items)) (members_view l.trees.entries)
