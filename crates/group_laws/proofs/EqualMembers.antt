-- A group whose members have equal requests and equal answers costs one's steps, and one more for each operation of each other.
use Rattle.std.proofs.Common.{◌≡◌, ◌∙◌, ℕ, ◌+◌, ◌*◌, List, [], ◌∷◌, length, map, replicate, Option, Some, None, refl, sym, ap, subst, arith}
use Rattle.std.proofs.Math.Nat.{zero-mul, suc-mul}
use Rattle.std.proofs.lemmas.List.Elements.{All-head, All-tail}
use Rattle.std.specs.Prelude.{All}
use Rattle.script_tree.specs.Objects.{Objects}
use Rattle.script_tree.specs.Programs.{Program}
use Rattle.script_tree.specs.Requests.{Request}
use Rattle.period.specs.Traces.{request_of}
use Rattle.period.specs.declared.trace.TraceEvent.{TraceEvent}
use Rattle.period.specs.declared.report.Report.{Report}
use Rattle.script_meaning.specs.Costs.{costs_of}
use Rattle.script_meaning.specs.GroupCost.{group_cost}
use Rattle.script_meaning.specs.Run.{Cost, taking, taking_request, issuing}
use Rattle.group_laws.specs.Keeping.{KeepingChangesNothing}
use Rattle.group_laws.specs.Sharing.{for_operations, EqualMembersShare}
use Rattle.audit_meaning.specs.Groups.{done_by, costs, costs_by}
use Rattle.audit_meaning.specs.Members.{told}
use Rattle.group_laws.specs.EqualMembers.{AreEqual, EqualMembersCostOne}
use Rattle.group_laws.proofs.Counts.{HasSpent}
use Rattle.group_laws.proofs.Spending.{member_spends}

for_each : (n : ℕ) (cs : List Cost) → for_operations n cs ≡ for_operations 1 cs * n
for_each n [] = sym (zero-mul n)
for_each n (taking ds ∷ cs) = for_each n cs
for_each n (taking_request q ds ∷ cs) = for_each n cs
for_each n (issuing ∷ cs) = omega (arith, suc-mul (for_operations 1 cs) n, for_each n cs)

module _ (P : Program) (O : Objects) (T : List TraceEvent) (R : Report) where
  by_request : (a b : ℕ) (o : Option Request) → told R O a (done_by P O T R a o) ≡ told R O b (done_by P O T R b o)
      → costs_by P O T R a o ≡ costs_by P O T R b o
  by_request a b None h = refl
  by_request a b (Some q) h = ap (costs_of P q) h

  equal_costs : (a b : ℕ) → AreEqual P O T R a b → costs P O T R a ≡ costs P O T R b
  unfolding costs
  equal_costs a b h =
      let told_alike = subst (λ o. told R O a (done_by P O T R a o) ≡ told R O b (done_by P O T R b (request_of T b))) h.0 h.1 in
      ap (costs_by P O T R a) h.0 ∙ by_request a b (request_of T b) told_alike

  all_cost : (r : ℕ) (rs : List ℕ) → All (AreEqual P O T R r) rs → map (costs P O T R) rs ≡ replicate (length rs) (costs P O T R r)
  all_cost r [] h = refl
  all_cost r (x ∷ rs) h =
      let first = equal_costs r x (All-head (AreEqual P O T R r) x rs h) in
      let others = all_cost r rs (All-tail (AreEqual P O T R r) x rs h) in
      λ i. sym first i ∷ others i

pub equal_cost_one : KeepingChangesNothing → EqualMembersShare → EqualMembersCostOne
equal_cost_one keeps share P O T R r rs response path ends equal =
    let spent = subst (HasSpent _ (costs P O T R r)) ends (member_spends keeps P O T R r) in
    ap (λ css. group_cost (costs P O T R r ∷ css)) (all_cost P O T R r rs equal)
    ∙ share.is (length rs) (costs P O T R r)
    ∙ ap (λ n. n + for_operations (length rs) (costs P O T R r)) spent.0
    ∙ ap (λ n. path.steps + n) (for_each (length rs) (costs P O T R r) ∙ ap (λ k. k * length rs) spent.1)
