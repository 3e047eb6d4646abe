use Rattle.std.proofs.Common.{◌≡◌, ◌∙◌, ◌+◌, ◌∷◌, take, drop, map, string_bytes, sym, ap, rules, arith}
use Rattle.std.proofs.lemmas.Grind.{common_steps}
use Rattle.std.proofs.lemmas.List.{take_all, drop_more}
use Rattle.json.specs.Value as borrowed
use Rattle.serde_json.specs.Data.{put}
use Rattle.serde_json.specs.Read.{of_json, of_members}
use Rattle.serde_json.specs.View.{view, members_view}
use Rattle.serde_json.proofs.Views.{members_view-insert_entry}
use Rattle.workload.proofs.OneByOne.{all_trees, next_member}
use Rattle.workload.proofs.tree.+tree_of.Goals as goal

pub items_of-returns : goal.items_of-returns
items_of-returns t c =
    let vs = c.deref-item-items.result.now in
    let all : take c.loop-item.item-index vs ≡ vs = take_all c.loop-item.item-index vs c.loop-item-test.false in
    all_trees c.args.items.now.items c.loop-item.trees.items
    (ap (map (λ v. of_json (borrowed.value_view v))) (sym c.deref-item-items.ensures.value ∙ sym all)
    ∙ c.loop-item.invariant)

pub members_of-loop-name-preserved : goal.members_of-loop-name-preserved
members_of-loop-name-preserved t c =
    let ms = c.deref-name-items.result.now in
    let i = c.loop-name.name-index in
    let m = c.loop-name-item.result in
    let old = members_view c.loop-name.trees.entries in
    let tree = c.in-Some.tree in
    let left : drop i ms ≡ m ∷ drop (i + 1) ms = drop_more ms i m c.loop-name-test.true ∙ ap (λ n. n ∷ drop (i + 1) ms) (sym c.loop-name-item.is) in
    let named : string_bytes c.in_ok-name.name ≡ m.0.now = search rules in
    let inserted : members_view c.insert.new.self.entries ≡ put m.0.now (view tree) old =
    ap members_view c.in_ok-insert-in-Some.ensures.entries
    ∙ members_view-insert_entry c.loop-name.trees.entries c.in_ok-name.name tree
    ∙ ap (λ k. put k (view tree) old) named in
    let next = next_member m (drop (i + 1) ms) (view tree) old (rw c.in-Some.is at c.in_ok-tree.ensures) in
    c.loop-name.invariant ∙ ap (λ ns. of_members (borrowed.members_view ns) old) left ∙ next
    ∙ ap (of_members (borrowed.members_view (drop (i + 1) ms))) (sym inserted)

pub items_of-loop-item-preserved : goal.items_of-loop-item-preserved
items_of-loop-item-preserved c = grind (arith, common_steps)

pub members_of-returns : goal.members_of-returns
members_of-returns c = grind (arith, common_steps)
