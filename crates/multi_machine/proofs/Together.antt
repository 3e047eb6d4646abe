-- How the members of a group went on together.
use Rattle.std.proofs.Common.{◌≡◌, ◌<◌, ◌+◌, ℕ, zero, suc, List, [], ◌∷◌, ◌++◌, length, option_map, Some, None, Ok, Err, true, false, refl, sym, ap, subst, ◌∙◌, arith}
use Rattle.std.specs.Prelude.{get_or, map}
use Rattle.script_tree.specs.Datum.{Datum}
use Rattle.script_tree.specs.Programs.{Program}
use Rattle.script_tree.specs.Requests.{Request}
use Rattle.script_tree.specs.declared.fault.ScriptFault.{ScriptFault}
use Rattle.script_tree.specs.declared.fault.ScriptFault.TheVariants.{TooLarge}
use Rattle.script_tree.specs.declared.operation.Op.{Op}
use Rattle.script_tree.specs.declared.path.End.TheVariants as end
use Rattle.script_meaning.specs.Conduct as meant
use Rattle.script_meaning.specs.Conduct.{conduct, ended, no_page, path_of}
use Rattle.script_meaning.specs.Costs.{costs_of}
use Rattle.script_meaning.specs.Evaluate.{Flow, on}
use Rattle.script_meaning.specs.GroupCost.{cost_of, group_cost}
use Rattle.script_meaning.specs.Run.{Cost, Progress, Ran, goes, stops}
use Rattle.script_meaning.specs.declared.run.Stop.TheVariants.{Wants as wants, Fault as fault, AnswerFault as answer_fault}
use Rattle.script_code.specs.Code.{Entry}
use Rattle.script_code.specs.Means.{code_conduct, code_costs}
use Rattle.script_code.specs.Translated.{IsCodeOf, entry_of}
use Rattle.script_code.specs.declared.translate.Code.{Code}
use Rattle.script_code.specs.declared.translate.PageEntry.{PageEntry}
use Rattle.multivalue.specs.Many.{Many, member_value}
use Rattle.multi_nodes.specs.Answers.{nothing}
use Rattle.multi_nodes.specs.Members.{request_at}
use Rattle.multi_state.specs.Progress.{Charges, bare, progress_at}
use Rattle.multi_state.specs.Totals.{costs_of_all}
use Rattle.multi_state.specs.declared.account.Account.{Account}
use Rattle.multivalue.specs.declared.apart.Apart.TheVariants.{Fault}
use Rattle.multi_run.specs.Answering.{AllAnswered}
use Rattle.multi_machine.specs.Lockstep.{Reaches, begun, unseen, InLockstep, ComesTo, Rises, LeavesProgress, HavePage}
use Rattle.multi_machine.specs.Responses.{response_at, normal_end, fault_end, no_page_end}
use Rattle.multi_run.specs.Runs.{Runs, exec_at, going_at}
use Rattle.multi_machine.specs.Together.{page_at, HaveEntry, IsFresh, RoseBy, StandsAfter, AllWant, AllEnd}
use Rattle.multi_machine.specs.declared.ending.Ended.{Ended}
use Rattle.multi_machine.specs.declared.machine.Waiting.{Waiting}
use Rattle.multi_run.specs.declared.run.Run as group
use Rattle.multi_state.specs.declared.went.Went.TheVariants as went
use Rattle.multi_machine.proofs.Lockstep.{stays, tells}

-- ---- where a group begins

-- all have the page of this entry
pub have_page : (qs : List Request) (code : Code) (page : PageEntry) → HaveEntry qs code (Some page) → HavePage qs code (entry_of page)
have_page qs code page have i lt = ap (option_map entry_of) (have i lt)

pub stands_first : (program : Program) (qs : List Request) (code : Code) (entry : Entry) (m : group.Run)
    → IsCodeOf program code → 0 < length qs → HavePage qs code entry → IsFresh entry.place m → StandsAfter program qs code (λ i. []) m 0
stands_first program qs code entry m means some found fresh = record {
  means = means;
  some = some;
  entry = entry;
  page = found;
  lockstep = record {
    charges = [];
    ops = λ i. [];
    costs = refl;
    reaches = λ i lt kept more. (
      0,
      λ k.
          let e : 0 + k ≡ k = omega arith in
          ap (begun qs code entry.place i kept more) e
          ∙ sym (λ z. exec_at qs code i k (fresh.frames i z) (fresh.place' z) (fresh.stack i z) (fresh.slots i z) (fresh.account kept i more z)),
    );
  };
}

-- no member costs anything
no_cost : (n : ℕ) (f : ℕ → List Cost) → ((i : ℕ) → i < n → f i ≡ []) → group_cost (costs_of_all 0 n f) ≡ 0
no_cost zero f none = refl
no_cost (suc n) f none = ap (λ cs. cost_of (length cs) (costs_of_all 0 (suc n) f)) (none 0 (omega arith))

module _ (program : Program) (qs : List Request) (code : Code) (means : IsCodeOf program code) (none : HaveEntry qs code None) where
  nowhere : (i : ℕ) → i < length qs → conduct program (request_at qs i) [] ≡ no_page []
  nowhere i lt =
      let d = means.conducts (request_at qs i) [] in
      sym (d.1 0) ∙ ap (λ p. code_conduct code.functions.items code.instructions.items (option_map entry_of p) (request_at qs i) [] (d.0 + 0)) (none i lt)

  free : (i : ℕ) → i < length qs → costs_of program (request_at qs i) [] ≡ []
  free i lt =
      let d = means.charges (request_at qs i) [] in
      sym (d.1 0) ∙ ap (λ p. code_costs code.functions.items code.instructions.items (option_map entry_of p) (request_at qs i) [] (d.0 + 0)) (none i lt)

  unnumbered : (i : ℕ) → i < length qs → page_at program qs i ≡ None
  unnumbered i lt = sym (means.numbers (request_at qs i).path) ∙ ap (λ p. option_map (λ entry. entry.number) (option_map entry_of p)) (none i lt)

  pub end_without_page : AllEnd program qs (λ i. []) 0 no_page_end
  end_without_page = record {
    ends' = λ i lt. record {
      path = record { page = None; decisions = []; steps = 0; end = end.Normal };
      ending = ap (λ c. c.ending) (nowhere i lt);
      steps = refl;
      end = refl;
    };
    marks = λ i j lt lt'. ap (λ c. map bare c.trail) (nowhere i lt) ∙ sym (ap (λ c. map bare c.trail) (nowhere j lt'));
    pages = λ i j lt lt'. unnumbered i lt ∙ sym (unnumbered j lt');
    costs = sym (no_cost (length qs) (λ i. costs_of program (request_at qs i) []) free);
  }

-- ---- answers that are told alike

told_alike : (qs : List Request) (code : Code) (place : ℕ) (told told' : ℕ → List Datum) (m : group.Run) (spent : ℕ)
    → ((i : ℕ) → i < length qs → told' i ≡ told i) → InLockstep qs code place told m spent → InLockstep qs code place told' m spent
told_alike qs code place told told' m spent same l = record {
  charges = l.charges;
  ops = l.ops;
  costs = l.costs;
  reaches = λ i lt kept more.
      subst (λ a. Reaches (begun qs code place i kept (a ++ more))
      (λ k. going_at qs code i m k (progress_at m.state.account l.charges i (unseen kept (l.ops i) more))))
      (sym (same i lt)) (l.reaches i lt kept more);
}

come_alike : (qs : List Request) (code : Code) (place : ℕ) (told told' : ℕ → List Datum) (ran : ℕ → Progress → Ran Flow) (m : group.Run) (spent : ℕ)
    → ((i : ℕ) → i < length qs → told' i ≡ told i) → ComesTo qs code place told ran m spent
    → ComesTo qs code place told' ran m spent
come_alike qs code place told told' ran m spent same o = record {
  charges = o.charges;
  ops = o.ops;
  costs = o.costs;
  reaches = λ i lt kept.
      subst (λ a. Reaches (begun qs code place i kept a)
      (λ k. ran i (progress_at m.state.account o.charges i (unseen kept (o.ops i) [])))) (sym (same i lt))
      (o.reaches i lt kept);
}

-- ---- where the runs of all are over

-- What each member came to is told by an end.
abbrev IsToldBy : (ran : ℕ → Progress → Ran Flow) → Account → Ended → Type 0
IsToldBy ran a e = (i number : ℕ) (cs : Charges) (ops : List Op)
    → (ended number (ran i (progress_at a cs i (unseen None ops [])))).ending
    ≡ meant.Ends (response_at i e) (path_of number (progress_at a cs i (unseen None ops [])) e.end)

module _ (program : Program) (qs : List Request) (code : Code) (entry : Entry) (told : ℕ → List Datum)
    (means : IsCodeOf program code) (some : 0 < length qs) (found : HavePage qs code entry) where
  numbered : (i : ℕ) → i < length qs → page_at program qs i ≡ Some entry.number
  numbered i lt = sym (means.numbers (request_at qs i).path) ∙ ap (option_map (λ entry. entry.number)) (found i lt)

  all_end : (ran : ℕ → Progress → Ran Flow) (m : group.Run) (spent : ℕ) (e : Ended)
      → LeavesProgress ran → ComesTo qs code entry.place told ran m spent → m.state.account.steps ≡ e.steps
      → IsToldBy ran m.state.account e → AllEnd program qs told spent e
  all_end ran m spent e leaves o steps is = record {
    ends' = λ i lt. record {
      path = path_of entry.number (progress_at m.state.account o.charges i (unseen None (o.ops i) [])) e.end;
      ending =
          ap (λ c. c.ending) (tells.conducts program qs code entry told ran m spent means found o i lt)
          ∙ is i entry.number o.charges (o.ops i);
      steps = steps;
      end = refl;
    };
    marks = λ i j lt lt'. tells.marks program qs code entry told ran m spent means found leaves o i lt
        ∙ sym (tells.marks program qs code entry told ran m spent means found leaves o j lt');
    pages = λ i j lt lt'. numbered i lt ∙ sym (numbered j lt');
    costs = tells.costs program qs code entry told ran m spent means found leaves o some;
  }

leaves_over : LeavesProgress (λ i p. goes (on []) p)
leaves_over = record { costs = λ i p. refl; trail = λ i p number. refl }

leaves_fault : (f : ScriptFault) → LeavesProgress (λ i p. stops (fault f) p)
leaves_fault f = record { costs = λ i p. refl; trail = λ i p number. refl }

leaves_refused : LeavesProgress (λ i p. stops answer_fault p)
leaves_refused = record { costs = λ i p. refl; trail = λ i p number. refl }

-- ---- a group that runs on

-- the count rose by what was spent
risen : (begun spent before after' now : ℕ) → before ≡ begun + spent → Rises before after' spent now → after' ≡ begun + now
risen begun spent before after' now rose rises = omega (arith, rose, rises)

module _ (program : Program) (qs : List Request) (code : Code) (told : ℕ → List Datum) (old new : group.Run)
    (begun before after' : ℕ) (rose : RoseBy begun before (StandsAfter program qs code told old)) where
  abbrev spent : ℕ
  spent = rose.0

  abbrev s : StandsAfter program qs code told old spent
  s = rose.2

  pub over_ends : Runs before after' qs code old (Ok went.Over) new
      → RoseBy begun after' (λ k. AllEnd program qs told k (normal_end new))
  over_ends runs =
      let e = normal_end new in
      let r = stays.over qs code s.entry.place told old new spent before after' s.lockstep runs in (
        r.0,
        risen begun spent before after' r.0 rose.1 r.1,
        all_end program qs code s.entry told s.means s.some s.page (λ i p. goes (on []) p) new r.0 e leaves_over r.2 refl (λ i number cs ops. refl),
      )

  pub fault_ends : (f : ScriptFault) → Runs before after' qs code old (Err (Fault f)) new
      → RoseBy begun after' (λ k. AllEnd program qs told k (fault_end new (end.Fault f) f))
  fault_ends f runs =
      let e = fault_end new (end.Fault f) f in
      let r = stays.faults qs code s.entry.place told old new spent before after' f s.lockstep runs in (
        r.0,
        risen begun spent before after' r.0 rose.1 r.1,
        all_end program qs code s.entry told s.means s.some s.page (λ i p. stops (fault f) p) new r.0 e (leaves_fault f) r.2 refl (λ i number cs ops. refl),
      )

  pub all_want : (w : Waiting) → w.code.now ≡ code → w.group ≡ qs → w.run ≡ new
      → Runs before after' qs code old (Ok (went.Wants w.ops)) new → RoseBy begun after' (λ k. AllWant program qs told k w)
  all_want w is_code is_group is_run runs =
      let r = stays.wants' qs code s.entry.place told old new spent before after' w.ops s.lockstep runs in (
        r.0,
        risen begun spent before after' r.0 rose.1 r.1,
        record {
          requests = is_group;
          wants' = λ i lt. ap (λ c. c.ending) (tells.conducts program qs code s.entry told
              (λ j p. stops (wants (get_or w.ops j nothing)) p) new r.0 s.means s.page r.2 i lt);
          was = old;
          earlier = spent;
          before = before;
          after' = after';
          stood = subst (λ k. StandsAfter program qs k told old spent) (sym is_code) s;
          runs =
              subst (λ k. Runs before after' qs k old (Ok (went.Wants w.ops)) w.run) (sym is_code)
              (subst (λ n. Runs before after' qs code old (Ok (went.Wants w.ops)) n) (sym is_run) runs);
          rises = r.1;
        },
      )

-- ---- a group that gets its answers

-- what the count said is what was spent since
same_rise : (before after' earlier spent now : ℕ) → Rises before after' earlier spent → Rises before after' earlier now → now ≡ spent
same_rise before after' earlier spent now one other = omega (arith, one, other)

module _ (program : Program) (qs : List Request) (told told' : ℕ → List Datum) (spent : ℕ) (w : Waiting) (m : Many)
    (new : group.Run) (a : AllWant program qs told spent w)
    (same : (i : ℕ) → i < length qs → told' i ≡ told i ++ member_value m i ∷ []) where
  pub stands_answered : AllAnswered (length qs) m w.run (Ok true) new → StandsAfter program qs w.code.now told' new spent
  stands_answered h =
      let s = a.stood in
      let r = stays.answered qs w.code.now s.entry.place told a.was w.run new a.earlier a.before a.after' w.ops m s.lockstep a.runs h in
      record {
        means = s.means;
        some = s.some;
        entry = s.entry;
        page = s.page;
        lockstep =
            told_alike qs w.code.now s.entry.place (λ i. told i ++ member_value m i ∷ []) told' new spent same
            (subst (λ k. InLockstep qs w.code.now s.entry.place (λ i. told i ++ member_value m i ∷ []) new k)
            (same_rise a.before a.after' a.earlier spent r.0 a.rises r.1) r.2);
      }

  pub refused_ends : AllAnswered (length qs) m w.run (Ok false) new → AllEnd program qs told' spent (fault_end new end.AnswerFault TooLarge)
  refused_ends h =
      let s = a.stood in
      let e = fault_end new end.AnswerFault TooLarge in
      let r = stays.refused qs w.code.now s.entry.place told a.was w.run new a.earlier a.before a.after' w.ops m s.lockstep a.runs h in
      let o = come_alike qs w.code.now s.entry.place (λ i. told i ++ member_value m i ∷ []) told' (λ i p. stops answer_fault p) new r.0 same r.2 in
      subst (λ k. AllEnd program qs told' k e) (same_rise a.before a.after' a.earlier spent r.0 a.rises r.1)
      (all_end program qs w.code.now s.entry told' s.means s.some s.page
      (λ i p. stops answer_fault p) new r.0 e leaves_refused o refl (λ i number cs ops. refl))
