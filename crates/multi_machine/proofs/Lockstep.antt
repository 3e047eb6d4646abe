-- A run of all members keeps them in lockstep.
use Rattle.std.proofs.Common.{◌≡◌, ◌<◌, ◌+◌, ℕ, List, [], ◌∷◌, ◌++◌, length, Option, Some, None, refl, sym, ap, subst, ◌∙◌, append-nil, append_assoc, arith}
use Rattle.std.specs.Prelude.{get_or, map}
use Rattle.script_tree.specs.Datum.{Datum}
use Rattle.script_tree.specs.Programs.{Program}
use Rattle.script_tree.specs.Requests.{Request}
use Rattle.script_meaning.specs.Conduct.{conduct, ended}
use Rattle.script_meaning.specs.Costs.{costs_in, costs_of}
use Rattle.script_meaning.specs.GroupCost.{group_cost}
use Rattle.script_meaning.specs.Evaluate.{Flow, on}
use Rattle.script_meaning.specs.Run.{Cost, Progress, Ran, goes, stops, after}
use Rattle.script_meaning.specs.declared.run.Stop.TheVariants.{Wants as wants, Fault as fault, AnswerFault as answer_fault}
use Rattle.script_code.specs.Code.{Entry}
use Rattle.script_code.specs.Means.{code_conduct, code_costs}
use Rattle.script_code.specs.Translated.{IsCodeOf}
use Rattle.script_code.specs.declared.translate.Code.{Code}
use Rattle.multivalue.specs.Many.{member_value}
use Rattle.multi_nodes.specs.Answers.{nothing}
use Rattle.multi_nodes.specs.Members.{members_at, request_at}
use Rattle.multi_state.specs.Progress.{bare, costs_at, total, progress_at}
use Rattle.multi_state.specs.Totals.{costs_of_all}
use Rattle.multi_state.proofs.Marks.{bare_marks}
use Rattle.multi_state.proofs.Totals.{total_is, all_alike}
use Rattle.multi_state.specs.Stacks.{stack_at}
use Rattle.multi_run.specs.Acts.{next_at}
use Rattle.multi_run.specs.Runs.{exec_at, going_at}
use Rattle.multi_run.specs.declared.run.Run as group
use Rattle.multi_machine.specs.Lockstep.{Reaches, begun, unseen, ComesTo, LeavesProgress, HavePage, StaysInLockstep, ComesToTells}

reaches_on : (f g h : ℕ → Ran Flow) → Reaches f g → Reaches g h → Reaches f h
reaches_on f g h r s = (r.0 + s.0, λ k. let e : r.0 + s.0 + k ≡ r.0 + (s.0 + k) = omega arith in ap f e ∙ r.1 (s.0 + k) ∙ s.1 k)

-- with no more answers
no_more : (qs : List Request) (code : Code) (place i : ℕ) (kept : Option (List Cost)) (answers : List Datum)
    (g : ℕ → Ran Flow) → Reaches (begun qs code place i kept (answers ++ [])) g
    → Reaches (begun qs code place i kept answers) g
no_more qs code place i kept answers g r = subst (λ a. Reaches (begun qs code place i kept a) g) (append-nil answers) r

pub stays : StaysInLockstep
stays = record {
  over = λ qs code place answers old new spent before after' l runs.
      let d = runs l.charges in (
        total (length qs) d.0,
        ap (λ x. after' + x) l.costs ∙ d.1,
        record {
          charges = d.0;
          ops = l.ops;
          costs = refl;
          reaches = λ i lt kept.
              let u = unseen kept (l.ops i) [] in
              no_more qs code place i kept (answers i) (λ k. goes (on []) (progress_at new.state.account d.0 i u))
              (reaches_on (begun qs code place i kept (answers i ++ []))
              (λ k. going_at qs code i old k (progress_at old.state.account l.charges i u))
              (λ k. goes (on []) (progress_at new.state.account d.0 i u)) (l.reaches i lt kept []) (d.2 i lt u));
        },
      );
  faults = λ qs code place answers old new spent before after' f l runs.
      let d = runs l.charges in (
        total (length qs) d.0,
        ap (λ x. after' + x) l.costs ∙ d.1,
        record {
          charges = d.0;
          ops = l.ops;
          costs = refl;
          reaches = λ i lt kept.
              let u = unseen kept (l.ops i) [] in
              no_more qs code place i kept (answers i) (λ k. stops (fault f) (progress_at new.state.account d.0 i u))
              (reaches_on (begun qs code place i kept (answers i ++ []))
              (λ k. going_at qs code i old k (progress_at old.state.account l.charges i u))
              (λ k. stops (fault f) (progress_at new.state.account d.0 i u)) (l.reaches i lt kept [])
              (d.2 i lt u));
        },
      );
  wants' = λ qs code place answers old new spent before after' ops l runs.
      let d = runs l.charges in (
        total (length qs) d.0,
        ap (λ x. after' + x) l.costs ∙ d.1,
        record {
          charges = d.0;
          ops = l.ops;
          costs = refl;
          reaches = λ i lt kept.
              let u = unseen kept (l.ops i) [] in
              no_more qs code place i kept (answers i)
              (λ k. stops (wants (get_or ops i nothing)) (progress_at new.state.account d.0 i u))
              (reaches_on (begun qs code place i kept (answers i ++ []))
              (λ k. going_at qs code i old k (progress_at old.state.account l.charges i u))
              (λ k. stops (wants (get_or ops i nothing)) (progress_at new.state.account d.0 i u))
              (l.reaches i lt kept []) (d.2 i lt u));
        },
      );
  answered = λ qs code place answers old mid new spent before after' ops m l runs h.
      let d = runs l.charges in (
        total (length qs) d.0,
        ap (λ x. after' + x) l.costs ∙ d.1,
        record {
          charges = d.0;
          ops = λ i. get_or ops i nothing ∷ l.ops i;
          costs = refl;
          reaches = λ i lt kept more.
              let u = unseen kept (l.ops i) more in
              let w = unseen kept (l.ops i) (member_value m i ∷ more) in
              let r = d.2 i lt w in
              subst (λ a. Reaches (begun qs code place i kept a) (λ k. going_at qs code i new k (progress_at new.state.account d.0 i (unseen kept (get_or ops i nothing ∷ l.ops i) more))))
              (sym (append_assoc (answers i) (member_value m i ∷ []) more))
              (reaches_on (begun qs code place i kept (answers i ++ member_value m i ∷ more)) (λ k. going_at qs code i old k (progress_at old.state.account l.charges i w)) (λ k. going_at qs code i new k (progress_at new.state.account d.0 i (unseen kept (get_or ops i nothing ∷ l.ops i) more))) (l.reaches i lt kept (member_value m i ∷ more)) (r.0, λ k. r.1 k ∙ h d.0 i lt u (get_or ops i nothing) (exec_at qs code i k)));
        },
      );
  refused = λ qs code place answers old mid new spent before after' ops m l runs h.
      let d = runs l.charges in (
        total (length qs) d.0,
        ap (λ x. after' + x) l.costs ∙ d.1,
        record {
          charges = d.0;
          ops = λ i. get_or ops i nothing ∷ l.ops i;
          costs = refl;
          reaches = λ i lt kept.
              let op = get_or ops i nothing in
              let w = unseen kept (l.ops i) (member_value m i ∷ []) in
              let r = d.2 i lt w in
              reaches_on (begun qs code place i kept (answers i ++ member_value m i ∷ []))
              (λ k. going_at qs code i old k (progress_at old.state.account l.charges i w))
              (λ k. stops answer_fault (progress_at new.state.account d.0 i (unseen kept (op ∷ l.ops i) [])))
              (l.reaches i lt kept (member_value m i ∷ [])) (
                r.0,
                λ k. r.1 k ∙ ap (λ o. after o (λ x. next_at (exec_at qs code i k) i mid (x ∷ stack_at i mid.state.stack) (members_at i mid.state.slots.items)))
                    (h d.0 i lt (unseen kept (l.ops i) []) op),
              );
        },
      );
}

module _ (program : Program) (qs : List Request) (code : Code) (entry : Entry) (answers : ℕ → List Datum)
    (ran : ℕ → Progress → Ran Flow) (m : group.Run) (spent : ℕ)
    (means : IsCodeOf program code) (found : HavePage qs code entry) (o : ComesTo qs code entry.place answers ran m spent) where
  conducted : (i : ℕ) → i < length qs → conduct program (request_at qs i) (answers i)
      ≡ ended entry.number (ran i (progress_at m.state.account o.charges i (unseen None (o.ops i) [])))
  conducted i lt =
      let d = means.conducts (request_at qs i) (answers i) in
      let r = o.reaches i lt None in
      let e : d.0 + r.0 ≡ r.0 + d.0 = omega arith in
      sym (d.1 r.0)
      ∙ ap (λ p. code_conduct code.functions.items code.instructions.items p (request_at qs i) (answers i) (d.0 + r.0)) (found i lt)
      ∙ ap (λ k. ended entry.number (begun qs code entry.place i None (answers i) k)) e
      ∙ ap (ended entry.number) (r.1 d.0)

  marked : LeavesProgress ran → (i : ℕ) → i < length qs → map bare (conduct program (request_at qs i) (answers i)).trail ≡ m.state.account.trail.items
  marked leaves i lt =
      ap (λ c. map bare c.trail) (conducted i lt)
      ∙ ap (map bare) (leaves.trail i (progress_at m.state.account o.charges i (unseen None (o.ops i) [])) entry.number)
      ∙ bare_marks m.state.account.trail.items (o.ops i)

  charged : LeavesProgress ran → (i : ℕ) → i < length qs → costs_of program (request_at qs i) (answers i) ≡ costs_at i o.charges
  charged leaves i lt =
      let d = means.charges (request_at qs i) (answers i) in
      let r = o.reaches i lt (Some []) in
      let e : d.0 + r.0 ≡ r.0 + d.0 = omega arith in
      sym (d.1 r.0)
      ∙ ap (λ p. code_costs code.functions.items code.instructions.items p (request_at qs i) (answers i) (d.0 + r.0)) (found i lt)
      ∙ ap (λ k. costs_in (begun qs code entry.place i (Some []) (answers i) k)) e
      ∙ ap costs_in (r.1 d.0)
      ∙ leaves.costs i (progress_at m.state.account o.charges i (unseen (Some []) (o.ops i) []))
      ∙ append-nil (costs_at i o.charges)

  counted : LeavesProgress ran → 0 < length qs → spent ≡ group_cost (costs_of_all 0 (length qs) (λ i. costs_of program (request_at qs i) (answers i)))
  counted leaves some =
      o.costs ∙ total_is.is (length qs) o.charges some
      ∙ ap group_cost (sym (all_alike 0 (length qs) (λ i. costs_of program (request_at qs i) (answers i)) (λ i. costs_at i o.charges) (λ i lt. charged leaves i (omega (arith, lt)))))

pub tells : ComesToTells
tells = record {
  conducts = λ program qs code entry answers ran m spent means found o. conducted program qs code entry answers ran m spent means found o;
  marks = λ program qs code entry answers ran m spent means found leaves o. marked program qs code entry answers ran m spent means found o leaves;
  costs = λ program qs code entry answers ran m spent means found leaves o. counted program qs code entry answers ran m spent means found o leaves;
}
