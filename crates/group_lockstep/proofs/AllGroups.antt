-- The groups of a report, one after another.
use Rattle.std.proofs.Common.{◌≡◌, ◌∙◌, ◌+◌, ◌++◌, ℕ, List, [], ◌∷◌, length, take, flat_map, Option, Some, None, refl, ap, sym, subst, arith}
use Rattle.std.proofs.lemmas.List.{length-take-le}
use Rattle.basis.specs.Lists.{nth}
use Rattle.basis.proofs.Places.{nth_within}
use Rattle.script_tree.specs.Programs.{Program}
use Rattle.object_set.specs.ObjectSets.{objects_of}
use Rattle.audit_meaning.specs.Groups.{cost_of_all, unsound_group}
use Rattle.audit_meaning.specs.Lists.{befores}
use Rattle.audit_meaning.specs.Verdicts.{evaluated_nodes, plain_steps}
use Rattle.audit_meaning.specs.declared.reason.Reason.{Reason}
use Rattle.audit_meaning.proofs.Places.{befores_at}
use Rattle.log_checker.proofs.CountFacts.{befores_count}
use Rattle.log_checker.proofs.EntryFacts.{next_take}
use Rattle.log_checker.proofs.Firsts.{NoneBelow, found, none_more, none_all}
use Rattle.log_checker.proofs.GroupFacts.{members_more, members_all}
use Rattle.log_checker.proofs.Tables.{all_taken}
use Rattle.group_lockstep.specs.Costs.{cost_of, IsSpentBy, IsSpentInAll}
use Rattle.group_runner.specs.Told.{Told, fault_of, steps_of, unsound_in}
use Rattle.group_runner.proofs.Grouped.{steps_both}

module _ (program : Program) (t : Told) where
  abbrev pub groups_told : List (List ℕ)
  groups_told = t.report.groups

  -- what is wrong with a group, by the groups before it
  abbrev pub fault_after : List (List ℕ) × List ℕ → Option Reason
  fault_after b = fault_of program t (length b.0) b.1

  -- the first n are sound
  abbrev pub AreSound : ℕ → Type 0
  AreSound n = NoneBelow fault_after (befores groups_told) n

  abbrev pub members_to : ℕ → List ℕ
  members_to n = flat_map (λ (g : List ℕ). g) (take n groups_told)

  -- what the first n groups cost
  abbrev pub cost_to : ℕ → ℕ
  cost_to n = cost_of_all program (objects_of t.start) t.trace t.report (take n groups_told)

  cost_both : (xs ys : List (List ℕ)) → cost_of_all program (objects_of t.start) t.trace t.report (xs ++ ys)
      ≡ cost_of_all program (objects_of t.start) t.trace t.report xs + cost_of_all program
      (objects_of t.start) t.trace t.report ys
  cost_both [] ys = omega arith
  cost_both (x ∷ xs) ys = let h = cost_both xs ys in omega (arith, h)

  -- what the first n groups spend
  pub record IsSpentTo (n begun count steps : ℕ) : Type 0 where
    pub evaluated : count ≡ begun + cost_to n
    pub plain : steps ≡ steps_of program t (members_to n)

  module _ (i : ℕ) (group rids : List ℕ) (number : ℕ) (at : nth groups_told i ≡ Some group) (numbered : number ≡ i) (same : rids ≡ group) where
    fault_here : fault_after (take i groups_told, group) ≡ fault_of program t number rids
    fault_here =
        ap (λ k. fault_of program t k group) (length-take-le i groups_told (let lt = nth_within groups_told i group at in omega (arith, lt)) ∙ sym numbered)
        ∙ ap (fault_of program t number) (sym same)

    pub unsound_at : (reason : Reason) → AreSound i → fault_of program t number rids ≡ Some reason → unsound_in program t ≡ Some reason
    unfolding unsound_group
    unsound_at reason sound is = found fault_after (befores groups_told) i (take i groups_told, group) reason sound
        (befores_at groups_told i group at) (fault_here ∙ is)

    pub sound_more : AreSound i → fault_of program t number rids ≡ None → AreSound (i + 1)
    sound_more sound is = none_more fault_after (befores groups_told) i (take i groups_told, group) sound (befores_at groups_told i group at) (fault_here ∙ is)

    steps_next : (steps spent sum : ℕ) → steps ≡ steps_of program t (members_to i) → spent ≡ steps_of program t rids
        → sum ≡ steps + spent → sum ≡ steps_of program t (members_to (i + 1))
    steps_next steps spent sum is more total =
        total ∙ ap (λ n. n + spent) is ∙ ap (λ n. steps_of program t (members_to i) + n) (more ∙ ap (steps_of program t) same)
        ∙ sym (steps_both program t (members_to i) group) ∙ ap (steps_of program t) (members_more groups_told i group (members_to i) at refl)

    cost_next : (begun before count : ℕ) → before ≡ begun + cost_to i → count ≡ before + cost_of program t rids → count ≡ begun + cost_to (i + 1)
    cost_next begun before count is more =
        let here = ap (cost_of program t) same in
        let both = cost_both (take i groups_told) (group ∷ []) in
        let next = ap (cost_of_all program (objects_of t.start) t.trace t.report) (next_take groups_told i group at) in
        omega (arith, is, here, more, both, next)

    pub spent_next : (begun before count steps more sum : ℕ) → IsSpentTo i begun before steps → IsSpentBy program t rids before count more
        → sum ≡ steps + more → IsSpentTo (i + 1) begun count sum
    spent_next begun before count steps more sum is here total = record {
      evaluated = cost_next begun before count is.evaluated here.evaluated;
      plain = steps_next steps more sum is.plain here.plain total;
    }

  pub all_sound : (n : ℕ) → n ≡ length groups_told → AreSound n → unsound_in program t ≡ None
  unfolding unsound_group
  all_sound n is sound = none_all fault_after (befores groups_told) (subst AreSound (is ∙ sym (befores_count groups_told)) sound)

  pub spent_all : (n begun count steps : ℕ) → n ≡ length groups_told → IsSpentTo n begun count steps → IsSpentInAll program t begun count steps
  unfolding plain_steps evaluated_nodes
  spent_all n begun count steps is all = record {
    evaluated = all.evaluated ∙ ap (λ gs. begun + cost_of_all program (objects_of t.start) t.trace t.report gs) (all_taken groups_told n is);
    plain = all.plain ∙ ap (steps_of program t) (members_all t.report n (members_to n) is refl);
  }
