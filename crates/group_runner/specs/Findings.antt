-- What is found wrong with members of a group.
use Rattle.std.specs.Prelude.{◌≡◌, ℕ, ◌<◌, not, List, [], ◌∷◌, Option, Some, None, option_map, nat_le, if◌then◌else◌}
use Rattle.std.specs.List.{list_all}
use Rattle.std.specs.Option.{option_or}
use Rattle.basis.specs.Lists.{nth, first_answer}
use Rattle.script_tree.specs.Programs.{Program}
use Rattle.object_set.specs.ObjectSets.{objects_of}
use Rattle.audit_meaning.specs.Groups.{marks, if_bad, if_fewer, if_unlike}
use Rattle.audit_meaning.specs.Lists.{answer_if}
use Rattle.audit_meaning.specs.Members.{MemberMark, same_mark}
use Rattle.audit_meaning.specs.declared.reason.Reason.{Reason}
use Rattle.audit_meaning.specs.declared.reason.Reason.TheVariants as reason
use Rattle.group_runner.specs.Told.{Told}
use Rattle.group_runner.specs.declared.findings.EndFault.{EndFault}
use Rattle.group_runner.specs.declared.findings.EndFault.TheVariants.{FewerOperations, OtherResponse}
use Rattle.group_runner.specs.declared.findings.FaultyMark.{FaultyMark}
use Rattle.group_runner.specs.declared.findings.Findings.{Findings}
use Rattle.group_runner.specs.declared.findings.MarkFault.{MarkFault}
use Rattle.group_runner.specs.declared.findings.MarkFault.TheVariants.{OtherOperation, Differs}

-- ---- as reasons, in the group of a number

-- the reason of what is wrong with the group's marks at a place
abbrev pub reason_by : ℕ → ℕ → MarkFault → Reason
reason_by group place (OtherOperation rid operation) = reason.OtherOperation rid operation
reason_by group place Differs = reason.MarksDiffer group place

-- the reason that is told of a mark that is at fault
abbrev pub reason_at : ℕ → FaultyMark → Reason
reason_at group mark = reason_by group mark.place mark.fault

-- the reason that is told of how a member ends
abbrev pub reason_of : EndFault → Reason
reason_of (FewerOperations rid operation) = reason.FewerOperations rid operation
reason_of (OtherResponse rid) = reason.OtherResponse rid

-- ---- several together

-- the one at the lesser place; of two at one place the first
abbrev pub lesser : Option FaultyMark → Option FaultyMark → Option FaultyMark
lesser None right = right
lesser (Some a) None = Some a
lesser (Some a) (Some b) = if nat_le a.place b.place then Some a else Some b

-- what is found wrong with members, where this is found with the first and that with the later ones
abbrev pub both : Findings → Findings → Findings
both first later = record {
  bad = lesser first.bad later.bad;
  differing = lesser first.differing later.differing;
  fewer = option_or first.fewer later.fewer;
  unlike = option_or first.unlike later.unlike;
}

-- the first that is wrong
abbrev pub reason_in : ℕ → Findings → Option Reason
reason_in group found =
    option_or (option_map (reason_at group) (lesser found.bad found.differing)) (option_map reason_of (option_or found.fewer found.unlike))

-- ---- as definitions have them

-- It is the least place with a reason; none where no place has one.
abbrev pub IsLeastFault : ℕ → (ℕ → Option Reason) → Option FaultyMark → Type 0
IsLeastFault group fault None = (i : ℕ) → fault i ≡ None
IsLeastFault group fault (Some mark) = (fault mark.place ≡ Some (reason_at group mark)) × ((i : ℕ) → i < mark.place → fault i ≡ None)

-- What is found in a group is the least of the reasons by place, and these reasons of the ends.
pub record Finds (group : ℕ) (bad differing : ℕ → Option Reason) (fewer unlike : Option Reason) (found : Findings) : Type 0 where
  pub bad' : IsLeastFault group bad found.bad
  pub differing' : IsLeastFault group differing found.differing
  pub fewer' : fewer ≡ option_map reason_of found.fewer
  pub unlike' : unlike ≡ option_map reason_of found.unlike

-- no place has a reason
abbrev pub nowhere : ℕ → Option Reason
nowhere i = None

module _ (program : Program) (told : Told) where
  -- a member's marks
  abbrev pub marks_told : ℕ → List MemberMark
  marks_told r = marks program (objects_of told.start) told.trace told.report r

  -- its mark at a place is bad
  abbrev pub bad_told : ℕ → ℕ → Option Reason
  bad_told r i = if_bad program (objects_of told.start) told.trace told.report i r

  -- it issued fewer operations than are counted
  abbrev pub fewer_told : ℕ → Option Reason
  fewer_told r = if_fewer program (objects_of told.start) told.trace told.report r

  -- its response isn't the trace's
  abbrev pub unlike_told : ℕ → Option Reason
  unlike_told r = if_unlike program (objects_of told.start) told.trace told.report r

  -- the mark of one of these members at a place isn't like the first member's
  abbrev pub differing_told : ℕ → ℕ → List ℕ → ℕ → Option Reason
  differing_told group first rids i = answer_if
      (not (list_all (λ r. same_mark (nth (marks_told first) i) (nth (marks_told r) i)) rids))
      (reason.MarksDiffer group i)

  -- what is found of a member alone
  abbrev pub FindsAlone : ℕ → ℕ → Findings → Type 0
  FindsAlone group r found = Finds group (bad_told r) nowhere (fewer_told r) (unlike_told r) found

  -- what is found of a member beside the first
  abbrev pub FindsBeside : ℕ → ℕ → ℕ → Findings → Type 0
  FindsBeside group first r found = Finds group (bad_told r) (differing_told group first (r ∷ [])) (fewer_told r) (unlike_told r) found

  -- what is found of the first and these
  abbrev pub FindsAll : ℕ → ℕ → List ℕ → Findings → Type 0
  FindsAll group first rids found =
      Finds group (λ i. first_answer (λ r. bad_told r i) (first ∷ rids)) (differing_told group first rids)
      (first_answer fewer_told (first ∷ rids)) (first_answer unlike_told (first ∷ rids)) found
