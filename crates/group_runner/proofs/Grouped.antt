-- The findings of a group, one member after another.
use Rattle.std.proofs.Common.{◌≡◌, ◌∙◌, ◌≤◌, ◌+◌, ℕ, zero, suc, Bool, true, false, not, ◌&&◌, List, [], ◌∷◌, ◌++◌, length, map, Option, None, option_map, refl, ap, sym, arith}
use Rattle.std.specs.List.{list_all}
use Rattle.std.specs.Option.{option_or}
use Rattle.std.proofs.lemmas.List.Folds.{list_all-append, list_all-map}
use Rattle.basis.specs.Lists.{nth, or_else, first_answer}
use Rattle.script_tree.specs.Programs.{Program}
use Rattle.object_set.specs.ObjectSets.{objects_of}
use Rattle.audit_meaning.specs.Groups.{all_alike, longest, mark_fault, group_fault}
use Rattle.audit_meaning.specs.Lists.{answer_if}
use Rattle.audit_meaning.specs.Members.{MemberMark, same_mark, is_bad}
use Rattle.audit_meaning.specs.declared.reason.Reason.{Reason}
use Rattle.audit_meaning.specs.declared.reason.Reason.TheVariants.{MarksDiffer}
use Rattle.log_checker.proofs.Carried.{later}
use Rattle.log_checker.proofs.Firsts.{silent, first_more, first_one}
use Rattle.group_runner.specs.Findings.{lesser, both, reason_at, reason_of, reason_in, nowhere, marks_told, bad_told, fewer_told, unlike_told, differing_told, FindsAlone, FindsBeside, FindsAll}
use Rattle.group_runner.specs.Told.{Told, fault_of, steps_of, spent_by}
use Rattle.group_runner.specs.declared.findings.Findings.{Findings}
use Rattle.group_runner.proofs.Leasts.{least_same, least_both, least_first, or_is, both_ends, finds_both, finds_same}

-- ---- two tests, one after the other

unless_both : (a b : Bool) (x : Reason) → or_else (answer_if (not a) x) (answer_if (not b) x) ≡ answer_if (not (a && b)) x
unfolding or_else answer_if
unless_both true b x = refl
unless_both false b x = refl

none_there : (ms : List MemberMark) (i : ℕ) → length ms ≤ i → nth ms i ≡ None
none_there [] i le = refl
none_there (m ∷ ms) zero le = absurd (omega (arith, le))
none_there (m ∷ ms) (suc i) le = none_there ms i (omega (arith, le))

module _ (program : Program) (t : Told) where
  abbrev mark_at : ℕ → ℕ → Option MemberMark
  mark_at i r = nth (marks_told program t r) i

  -- ---- beyond the longest

  bad_beyond : (rids : List ℕ) (i : ℕ) → longest (map (marks_told program t) rids) ≤ i → first_answer (λ r. bad_told program t r i) rids ≡ None
  unfolding first_answer
  bad_beyond [] i le = refl
  bad_beyond (r ∷ rs) i le =
      later (bad_told program t r i) (first_answer (λ x. bad_told program t x i) rs) None
      (silent (is_bad (mark_at i r)) _ (ap is_bad (none_there (marks_told program t r) i (omega (arith, le)))))
      (bad_beyond rs i (omega (arith, le)))

  none_alike : (rids : List ℕ) (i : ℕ) → longest (map (marks_told program t) rids) ≤ i → list_all (same_mark None) (map (mark_at i) rids) ≡ true
  none_alike [] i le = refl
  none_alike (r ∷ rs) i le =
      ap (λ m. same_mark None m && list_all (same_mark None) (map (mark_at i) rs)) (none_there (marks_told program t r) i (omega (arith, le)))
      ∙ none_alike rs i (omega (arith, le))

  alike_beyond : (rids : List ℕ) (i : ℕ) → longest (map (marks_told program t) rids) ≤ i → all_alike (map (mark_at i) rids) ≡ true
  alike_beyond [] i le = refl
  alike_beyond (r ∷ rs) i le =
      ap (λ m. list_all (same_mark m) (map (mark_at i) rs)) (none_there (marks_told program t r) i (omega (arith, le)))
      ∙ none_alike rs i (omega (arith, le))

  abbrev fault_at : ℕ → List ℕ → ℕ → Option Reason
  fault_at group rids i = mark_fault program (objects_of t.start) t.trace t.report group rids i

  beyond : (group : ℕ) (rids : List ℕ) (i : ℕ) → longest (map (marks_told program t) rids) ≤ i → fault_at group rids i ≡ None
  beyond group rids i le =
      later (first_answer (λ r. bad_told program t r i) rids)
      (answer_if (not (all_alike (map (mark_at i) rids))) (MarksDiffer group i)) None (bad_beyond rids i le)
      (silent (not (all_alike (map (mark_at i) rids))) (MarksDiffer group i) (ap not (alike_beyond rids i le)))

  -- ---- the group

  faults_told : (group first : ℕ) (rids : List ℕ) (i : ℕ)
      → or_else (first_answer (λ r. bad_told program t r i) (first ∷ rids))
      (differing_told program t group first rids i) ≡ fault_at group (first ∷ rids) i
  faults_told group first rids i =
      ap (λ b. or_else (first_answer (λ r. bad_told program t r i) (first ∷ rids)) (answer_if (not b) (MarksDiffer group i)))
      (sym (list_all-map (same_mark (mark_at i first)) (mark_at i) rids))

  pub group_told : (group first : ℕ) (rids : List ℕ) (found : Findings) → FindsAll program t group first rids found
      → fault_of program t group (first ∷ rids) ≡ reason_in group found
  unfolding group_fault
  group_told group first rids found h =
      let all = first ∷ rids in
      let n = longest (map (marks_told program t) all) in
      let least = lesser found.bad found.differing in
      let marks_say = least_first group (fault_at group all) n least (beyond group all)
      (least_same group (λ i. or_else (first_answer (λ r. bad_told program t r i) all) (differing_told program t group first rids i)) (fault_at group all) least
      (faults_told group first rids) (least_both group _ _ found.bad found.differing h.bad' h.differing')) in
      let ends_say = both_ends group found.fewer found.unlike (first_answer (fewer_told program t) all) (first_answer (unlike_told program t) all) h.fewer' h.unlike' in
      ap (λ o. or_else o (or_else (first_answer (fewer_told program t) all) (first_answer (unlike_told program t) all))) marks_say ∙ ap (or_else (option_map (reason_at group) least)) ends_say
      ∙ or_is (option_map (reason_at group) least) (option_map reason_of (option_or found.fewer found.unlike))

  -- ---- the first member, and one more

  pub first_told : (group first : ℕ) (found : Findings) → FindsAlone program t group first found → FindsAll program t group first [] found
  first_told group first found h =
      finds_same group (bad_told program t first) nowhere
      (λ i. first_answer (λ r. bad_told program t r i) (first ∷ [])) (differing_told program t group first [])
      (fewer_told program t first)
      (unlike_told program t first) (first_answer (fewer_told program t) (first ∷ [])) (first_answer (unlike_told program t) (first ∷ [])) found
      (λ i. sym (first_one (λ r. bad_told program t r i) first)) (λ i. sym (silent false (MarksDiffer group i) refl))
      (sym (first_one (fewer_told program t) first))
      (sym (first_one (unlike_told program t) first)) h

  differs_more : (group first : ℕ) (rids : List ℕ) (r i : ℕ)
      → or_else (differing_told program t group first rids i) (differing_told program t group first (r ∷ []) i)
      ≡ differing_told program t group first (rids ++ r ∷ []) i
  differs_more group first rids r i =
      let p : ℕ → Bool = λ x. same_mark (mark_at i first) (mark_at i x) in
      unless_both (list_all p rids) (list_all p (r ∷ [])) (MarksDiffer group i)
      ∙ ap (λ b. answer_if (not b) (MarksDiffer group i)) (sym (list_all-append p rids (r ∷ [])))

  pub more_told : (group first : ℕ) (rids : List ℕ) (r : ℕ) (x y : Findings) → FindsAll program t group first rids x
      → FindsBeside program t group first r y → FindsAll program t group first (rids ++ r ∷ []) (both x y)
  more_told group first rids r x y h k =
      let all = first ∷ rids in
      finds_same group _ _ _ _ _ _ _ _ (both x y)
      (λ i. sym (first_more (λ s. bad_told program t s i) all r)) (differs_more group first rids r)
      (sym (first_more (fewer_told program t) all r)) (sym (first_more (unlike_told program t) all r))
      (finds_both group (λ i. first_answer (λ s. bad_told program t s i) all)
      (differing_told program t group first rids) (bad_told program t r)
      (differing_told program t group first (r ∷ []))
      (first_answer (fewer_told program t) all) (first_answer (unlike_told program t) all) (fewer_told program t r) (unlike_told program t r) x y h k)

  -- ---- steps

  pub steps_more : (rids : List ℕ) (r : ℕ) → steps_of program t (rids ++ r ∷ []) ≡ steps_of program t rids + spent_by program t r
  steps_more [] r = omega arith
  steps_more (x ∷ rs) r = let h = steps_more rs r in omega (arith, h)

  pub steps_both : (xs ys : List ℕ) → steps_of program t (xs ++ ys) ≡ steps_of program t xs + steps_of program t ys
  steps_both [] ys = omega arith
  steps_both (x ∷ xs) ys = let h = steps_both xs ys in omega (arith, h)
