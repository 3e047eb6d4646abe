-- What the run of a member leaves.
use Rattle.std.proofs.Common.{◌≡◌, ◌∙◌, ℕ, false, List, [], ◌∷◌, ◌++◌, map, Option, Some, None, refl, ap, sym}
use Rattle.script_tree.specs.Datum.{Datum}
use Rattle.script_tree.specs.Programs.{Program}
use Rattle.script_tree.specs.Requests.{Request}
use Rattle.period.specs.Traces.{request_of, response_of}
use Rattle.object_set.specs.ObjectSets.{objects_of}
use Rattle.script_meaning.specs.Conduct.{conduct}
use Rattle.script_meaning.specs.Replay as replay
use Rattle.script_meaning.specs.declared.run.Mark.{Mark}
use Rattle.script_meaning.specs.declared.run.Mark.TheVariants.{Decided, Issued}
use Rattle.machine.specs.Told.{ending_of}
use Rattle.machine.specs.Trail.{bare_trail}
use Rattle.machine.specs.declared.account.BareMark.{BareMark}
use Rattle.audit_meaning.specs.Groups.{marks, marks_by, done_by, end_by, end_of, gives, steps_to}
use Rattle.audit_meaning.specs.Members.{Sign, decision, operation, sign_of, last_sign, page_number, performed, signs, marks_of}
use Rattle.group_runner.specs.Findings.{marks_told}
use Rattle.group_runner.specs.Marks.{sign_in, bare_sign, marks_in, marks_on}
use Rattle.group_runner.specs.MembersTold.{IsRunOf, IsMemberOf}
use Rattle.group_runner.specs.Told.{Told, answers_to}
use Rattle.group_runner.specs.declared.mark.MemberMark.{MemberMark as LeftMark}
use Rattle.group_runner.specs.declared.mark.Sign.{Sign as Left}
use Rattle.group_runner.specs.declared.member.Member.{Member}
use Rattle.group_runner.specs.declared.run.Run.{Run}

signs_bare : (ms : List Mark) → map bare_sign (bare_trail ms) ≡ map sign_of ms
signs_bare [] = refl
signs_bare (Decided b ∷ ms) = ap (λ ss. decision b ∷ ss) (signs_bare ms)
signs_bare (Issued op ∷ ms) = ap (λ ss. operation ∷ ss) (signs_bare ms)

-- one that isn't in the trace leaves nothing
pub absent_is : (program : Program) (t : Told) (r : ℕ) (m : Member) → request_of t.trace r ≡ None → m.marks.items ≡ []
    → m.done ≡ 0 → m.steps ≡ 0 → m.gives ≡ false → IsMemberOf program t r m
unfolding marks
absent_is program t r m none marks' done' steps' gives' = record {
  marks' = ap marks_in marks' ∙ sym (ap (marks_by program (objects_of t.start) t.trace t.report r) none);
  done' = done' ∙ sym (ap (done_by program (objects_of t.start) t.trace t.report r) none);
  steps' = steps' ∙ sym (ap (λ q. steps_to (end_by program (objects_of t.start) t.trace t.report r q)) none);
  gives' = gives' ∙ sym (ap (λ q. gives (end_by program (objects_of t.start) t.trace t.report r q) (response_of t.trace r)) none);
}

module _ (program : Program) (t : Told) (r : ℕ) (request : Request) (run : Run)
    (asked : request_of t.trace r ≡ Some request) (is : IsRunOf program t r request run) where
  answered : answers_to t r run.done ≡ answers_to t r (performed program (objects_of t.start) t.report r request)
  answered = ap (answers_to t r) is.done'

  end_is : ending_of run.step ≡ end_of program (objects_of t.start) t.trace t.report r
  unfolding replay.ending_of
  end_is = is.ending ∙ ap (λ ds. (conduct program request ds).ending) answered ∙ sym (ap (end_by program (objects_of t.start) t.trace t.report r) asked)

  marks_are : (page : Option ℕ) (trail : List BareMark) (last : Left) (ms : List LeftMark)
      → page ≡ page_number program request → trail
      ≡ bare_trail (conduct program request (answers_to t r run.done)).trail
      → sign_in last ≡ last_sign (ending_of run.step)
      → marks_in ms ≡ marks_on page (map bare_sign trail ++ sign_in last ∷ []) → marks_in ms ≡ marks_told program t r
  unfolding marks marks_of signs replay.ending_of
  marks_are page trail last ms page_is trail_is last_is made =
      let left : List Datum → List Sign = λ ds. map sign_of (conduct program request ds).trail ++ last_sign (conduct program request ds).ending ∷ [] in
      made
      ∙ ap (λ p. marks_on p (map bare_sign trail ++ sign_in last ∷ [])) page_is
      ∙ ap (λ ss. marks_on (page_number program request) (ss ++ sign_in last ∷ []))
      (ap (map bare_sign) trail_is ∙ signs_bare (conduct program request (answers_to t r run.done)).trail)
      ∙ ap (λ s. marks_on (page_number program request)
      (map sign_of (conduct program request (answers_to t r run.done)).trail ++ s ∷ []))
      (last_is ∙ ap last_sign is.ending)
      ∙ ap (λ ds. marks_on (page_number program request) (left ds)) answered
      ∙ sym (ap (marks_by program (objects_of t.start) t.trace t.report r) asked)

  pub member_is : (m : Member) (page : Option ℕ) (trail : List BareMark) (last : Left)
      → page ≡ page_number program request → trail
      ≡ bare_trail (conduct program request (answers_to t r run.done)).trail
      → sign_in last ≡ last_sign (ending_of run.step)
      → marks_in m.marks.items ≡ marks_on page (map bare_sign trail ++ sign_in last ∷ []) → m.done ≡ run.done
      → m.steps ≡ steps_to (ending_of run.step) → m.gives ≡ gives (ending_of run.step) (response_of t.trace r)
      → IsMemberOf program t r m
  member_is m page trail last page_is trail_is last_is made done_is steps_are gives_is = record {
    marks' = marks_are page trail last m.marks.items page_is trail_is last_is made;
    done' = done_is ∙ is.done' ∙ sym (ap (done_by program (objects_of t.start) t.trace t.report r) asked);
    steps' = steps_are ∙ ap steps_to end_is;
    gives' = gives_is ∙ ap (λ e. gives e (response_of t.trace r)) end_is;
  }
