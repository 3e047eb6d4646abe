-- Members of a group that part.
use Rattle.std.proofs.Common.{◌≡◌, ◌≢◌, ◌∙◌, ◌<◌, ◌≤◌, ◌+◌, inl, inr, ℕ, Bool, true, false, List, [], ◌∷◌, ◌++◌, length, Option, Some, None, option_map, refl, sym, ap, arith, append_assoc}
use Rattle.std.specs.Prelude.{get_or, if◌then◌else◌}
use Rattle.std.proofs.lemmas.Slice.Eq.{bytes_eq-Decides}
use Rattle.basis.proofs.Options.{none_is_not, some_is}
use Rattle.std.specs.Str.{bytes_eq}
use Rattle.script_tree.specs.Datum.{Datum, is_within_limits}
use Rattle.script_tree.specs.Declarations.{NumberedPage, page_from}
use Rattle.script_tree.specs.Programs.{Program}
use Rattle.script_tree.specs.Requests.{Request}
use Rattle.script_tree.specs.declared.fault.ScriptFault.TheVariants.{TooLarge}
use Rattle.script_tree.specs.declared.syntax.declaration.Declaration.{Declaration}
use Rattle.script_tree.specs.declared.syntax.declaration.Declaration.TheVariants.{Store, Table, Function, Page}
use Rattle.script_meaning.proofs.ValueFaults.{not_steps}
use Rattle.script_meaning.specs.Conduct.{conduct, ended}
use Rattle.script_meaning.specs.Evaluate.{Flow}
use Rattle.script_meaning.specs.Run.{Progress, Ran, Run, goes, stops, after}
use Rattle.script_meaning.specs.declared.run.Mark.TheVariants.{Issued as issued}
use Rattle.script_meaning.specs.declared.run.Stop.TheVariants.{AnswerFault as answer_fault}
use Rattle.script_code.specs.Code.{Entry}
use Rattle.script_code.specs.Means.{code_conduct}
use Rattle.script_code.specs.Translated.{IsCodeOf, at_path, entry_of}
use Rattle.script_code.specs.declared.translate.Code.{Code}
use Rattle.script_code.specs.declared.translate.PageEntry.{PageEntry}
use Rattle.group_laws.specs.Steady.{no_fault}
use Rattle.group_laws.proofs.Instructions.{code_is_steady}
use Rattle.group_laws.proofs.Parting.{parting_shows}
use Rattle.multivalue.specs.Many.{Many, member_value}
use Rattle.multi_nodes.specs.Answers.{nothing}
use Rattle.multi_nodes.specs.Members.{members_at, request_at}
use Rattle.multi_state.specs.Progress.{progress_at}
use Rattle.multi_state.specs.Stacks.{stack_at}
use Rattle.multi_run.specs.Acts.{frames_at, next_at}
use Rattle.multi_run.specs.Answering.{AnswersPart}
use Rattle.multi_run.specs.Runs.{RunsPart, exec_at, going_at}
use Rattle.multi_run.specs.declared.run.Run as group
use Rattle.multi_machine.specs.Lockstep.{Reaches, begun, unseen, HavePage}
use Rattle.multi_machine.specs.Together.{AllWant, MembersPart, SomeLackEntry, StandsAfter, page_at}
use Rattle.multi_machine.specs.declared.machine.Waiting.{Waiting}

-- what a member's own run comes to, where it comes to this within some number of instructions
comes_to : (program : Program) (qs : List Request) (code : Code) (entry : Entry) (i : ℕ) (answers : List Datum) (there : ℕ → Ran Flow)
    → IsCodeOf program code → HavePage qs code entry → i < length qs → Reaches (begun qs code entry.place i None answers) there
    → (k : ℕ) × (conduct program (request_at qs i) answers ≡ ended entry.number (there k))
comes_to program qs code entry i answers there means found lt r =
    let d = means.conducts (request_at qs i) answers in
    let e : d.0 + r.0 ≡ r.0 + d.0 = omega arith in (
      d.0,
      sym (d.1 r.0)
          ∙ ap (λ p. code_conduct code.functions.items code.instructions.items p (request_at qs i) answers (d.0 + r.0)) (found i lt)
          ∙ ap (λ k. ended entry.number (begun qs code entry.place i None answers k)) e
          ∙ ap (ended entry.number) (r.1 d.0),
    )

reaches_after : (f g h : ℕ → Ran Flow) (m : ℕ) → Reaches f g → ((k : ℕ) → g (m + k) ≡ h k) → Reaches f h
reaches_after f g h m r more = (r.0 + m, λ k. let e : r.0 + m + k ≡ r.0 + (m + k) = omega arith in ap f e ∙ r.1 (m + k) ∙ more k)

module _ (program : Program) (qs : List Request) (code : Code) (told : ℕ → List Datum) (old : group.Run) (spent : ℕ)
    (s : StandsAfter program qs code told old spent) where
  -- a run in which they part
  pub run_parts : RunsPart qs code old → MembersPart program qs told
  run_parts h = record {
    one = h.one;
    other = h.other;
    one' = h.one';
    other' = h.other';
    stand' = inr (λ more others.
        let l = s.lockstep in
        let u = unseen None (l.ops h.one) more in
        let v = unseen None (l.ops h.other) others in
        let d = h.stand' l.charges u v in
        let here = λ (k : ℕ). going_at qs code h.one old (d.0 + k) (progress_at old.state.account l.charges h.one u) in
        let there = λ (k : ℕ). going_at qs code h.other old (d.1 + k) (progress_at old.state.account l.charges h.other v) in
        let x = comes_to program qs code s.entry h.one (told h.one ++ more) here s.means s.page h.one'
        (reaches_after (begun qs code s.entry.place h.one None (told h.one ++ more)) (λ k. going_at qs code h.one old k (progress_at old.state.account l.charges h.one u)) here d.0 (l.reaches h.one h.one' None more) (λ k. refl)) in
        let y = comes_to program qs code s.entry h.other (told h.other ++ others) there s.means s.page h.other'
        (reaches_after (begun qs code s.entry.place h.other None (told h.other ++ others)) (λ k. going_at qs code h.other old k (progress_at old.state.account l.charges h.other v)) there d.1 (l.reaches h.other h.other' None others) (λ k. refl)) in
        record {
          page = s.entry.number;
          other = s.entry.number;
          ran = here x.0;
          ran' = there y.0;
          one = x.1;
          two = y.1;
          shown' = d.2 x.0 y.0;
        });
  }

-- ---- answers

module _ (program : Program) (qs : List Request) (told told' : ℕ → List Datum) (spent : ℕ) (w : Waiting) (m : Many)
    (a : AllWant program qs told spent w) (same : (i : ℕ) → i < length qs → told' i ≡ told i ++ member_value m i ∷ []) where
  abbrev code : Code
  code = w.code.now

  abbrev at_next : ℕ → ℕ → Datum → Run Flow
  at_next i k d = next_at (exec_at qs code i k) i w.run (d ∷ stack_at i w.run.state.stack) (members_at i w.run.state.slots.items)

  -- where a member waits, with its answer and those to come
  abbrev waits : ℕ → List Datum → Progress
  waits i more = progress_at w.run.state.account (a.runs a.stood.lockstep.charges).0 i (unseen None (a.stood.lockstep.ops i) (member_value m i ∷ more))

  -- with the answer that it took
  abbrev taken : ℕ → List Datum → Progress
  taken i more = record (waits i more) { answers = more; trail = (waits i more).trail ++ issued (get_or w.ops i nothing) ∷ [] }

  abbrev takes : Bool → ℕ → ℕ → List Datum → Ran Flow
  takes b i k more = after (if b then goes (member_value m i) (taken i more) else stops answer_fault (taken i more)) (at_next i k)

  -- what its own run comes to with them
  comes_so : (b : Bool) (i : ℕ) → i < length qs → is_within_limits (member_value m i) ≡ b → (more : List Datum)
      → (k : ℕ) × (conduct program (request_at qs i) (told' i ++ more) ≡ ended a.stood.entry.number (takes b i k more))
  comes_so b i lt is more =
      let s = a.stood in
      let l = s.lockstep in
      let u = unseen None (l.ops i) (member_value m i ∷ more) in
      let d = (a.runs l.charges).2 i lt u in
      let answers : told i ++ member_value m i ∷ more ≡ told' i ++ more =
      sym (ap (λ ds. ds ++ more) (same i lt) ∙ append_assoc (told i) (member_value m i ∷ []) more) in
      let r = comes_to program qs code s.entry i (told i ++ member_value m i ∷ more) (λ k. takes b i k more) s.means s.page lt
      (reaches_after (begun qs code s.entry.place i None (told i ++ member_value m i ∷ more))
      (λ k. going_at qs code i a.was k (progress_at a.was.state.account l.charges i u)) (λ k. takes b i k more) d.0
      (l.reaches i lt None (member_value m i ∷ more)) (λ k. d.1 k ∙ ap (λ x. takes x i k more) is)) in
      (r.0, ap (conduct program (request_at qs i)) (sym answers) ∙ r.1)

  -- some answers are within the limits of a value, and others aren't
  pub answers_part : AnswersPart (length qs) m → MembersPart program qs told'
  answers_part h = record {
    one = h.one;
    other = h.other;
    one' = h.one';
    other' = h.other';
    stand' = inr (λ more others.
        let x = comes_so true h.one h.one' h.stand'.0 more in
        let y = comes_so false h.other h.other' h.stand'.1 others in
        record {
          page = a.stood.entry.number;
          other = a.stood.entry.number;
          ran = takes true h.one x.0 more;
          ran' = takes false h.other y.0 others;
          one = x.1;
          two = y.1;
          shown' = parting_shows.fails_alone no_fault (at_next h.one x.0 (member_value m h.one)) (taken h.one more) (taken h.other others) TooLarge
              (code_is_steady (request_at qs h.one) code.functions.items code.instructions.items x.0 (frames_at h.one w.run.frames.items) w.run.place
              (member_value m h.one ∷ stack_at h.one w.run.state.stack) (members_at h.one w.run.state.slots.items))
              refl (not_steps TooLarge refl) refl;
        });
  }

-- ---- pages

abbrev number_in : Option NumberedPage → Option ℕ
number_in page = option_map (λ p. p.number) page

by_name : (n k : ℕ) (p q name : List ℕ) (one : NumberedPage) (x y : Option NumberedPage) (b c : Bool) → bytes_eq p name ≡ b → bytes_eq q name ≡ c
    → one.number ≡ n → (number_in x ≡ Some k → n < k) → (number_in y ≡ Some k → n < k) → (number_in x ≡ Some k → number_in y ≡ Some k → p ≡ q)
    → number_in (if b then Some one else x) ≡ Some k → number_in (if c then Some one else y) ≡ Some k → p ≡ q
by_name n k p q name one x y true true is too is_n later later' rest h g = (bytes_eq-Decides p name).0 is ∙ sym ((bytes_eq-Decides q name).0 too)
by_name n k p q name one x y true false is too is_n later later' rest h g =
    let e = some_is h in
    let more = later' g in
    absurd (omega (arith, e, more, is_n))
by_name n k p q name one x y false true is too is_n later later' rest h g =
    let e = some_is g in
    let more = later h in
    absurd (omega (arith, e, more, is_n))
by_name n k p q name one x y false false is too is_n later later' rest h g = rest h g

at_least : (n k : ℕ) (p : List ℕ) (ds : List Declaration) → number_in (page_from n p ds) ≡ Some k → n ≤ k
at_least n k p [] h = absurd (none_is_not h)
at_least n k p (Store at name ∷ ds) h = at_least n k p ds h
at_least n k p (Table at name columns ∷ ds) h = at_least n k p ds h
at_least n k p (Function at name parameters body ∷ ds) h = at_least n k p ds h
at_least n k p (Page at name body ∷ ds) h = by (bytes_eq p name.text) (page_from (n + 1) p ds) (record { number = n; body = body }) refl (at_least (n + 1) k p ds) h
  where
    by : (b : Bool) (x : Option NumberedPage) (one : NumberedPage) → one.number ≡ n → (number_in x ≡ Some k → n + 1 ≤ k)
        → number_in (if b then Some one else x) ≡ Some k → n ≤ k
    by true x one is rest g = let e = some_is g in omega (arith, e, is)
    by false x one is rest g = let more = rest g in omega (arith, more)

-- one number is that of one path
one_path : (n k : ℕ) (p q : List ℕ) (ds : List Declaration) → number_in (page_from n p ds) ≡ Some k → number_in (page_from n q ds) ≡ Some k → p ≡ q
one_path n k p q [] h g = absurd (none_is_not h)
one_path n k p q (Store at name ∷ ds) h g = one_path n k p q ds h g
one_path n k p q (Table at name columns ∷ ds) h g = one_path n k p q ds h g
one_path n k p q (Function at name parameters body ∷ ds) h g = one_path n k p q ds h g
one_path n k p q (Page at name body ∷ ds) h g =
    by_name n k p q name.text (record { number = n; body = body }) (page_from (n + 1) p ds) (page_from (n + 1) q ds)
    (bytes_eq p name.text) (bytes_eq q name.text) refl refl refl (λ e. let more = at_least (n + 1) k p ds e in omega (arith, more))
    (λ e. let more = at_least (n + 1) k q ds e in omega (arith, more)) (one_path (n + 1) k p q ds) h g

module _ (program : Program) (qs : List Request) (code : Code) (means : IsCodeOf program code) (i j : ℕ) where
  abbrev path : ℕ → List ℕ
  path n = (request_at qs n).path

  numbered : (n : ℕ) (x : Option PageEntry) → at_path code.pages (path n) ≡ x → page_at program qs n ≡ option_map (λ entry. entry.number) (option_map entry_of x)
  numbered n x is = sym (means.numbers (path n)) ∙ ap (λ p. option_map (λ entry. entry.number) (option_map entry_of p)) is

  pub otherwise : (x y : Option PageEntry) → at_path code.pages (path i) ≡ x → at_path code.pages (path j) ≡ y → x ≢ y → page_at program qs i ≢ page_at program qs j
  otherwise None None is too unlike same = unlike refl
  otherwise None (Some b) is too unlike same = none_is_not (sym (numbered i None is) ∙ same ∙ numbered j (Some b) too)
  otherwise (Some a) None is too unlike same = none_is_not (sym (numbered j None too) ∙ sym same ∙ numbered i (Some a) is)
  otherwise (Some a) (Some b) is too unlike same =
      let equal = one_path 0 b.number (path i) (path j) program.declarations (same ∙ numbered j (Some b) too) (numbered j (Some b) too) in
      unlike (sym is ∙ ap (at_path code.pages) equal ∙ too)

pub pages_part : (program : Program) (qs : List Request) (code : Code) (page : Option PageEntry) → IsCodeOf program code
    → page ≡ at_path code.pages (request_at qs 0).path → SomeLackEntry qs code page → MembersPart program qs (λ i. [])
pages_part program qs code page means first h =
    let i = h.0 in
    record {
      one = i;
      other = 0;
      one' = h.1;
      other' = omega (arith, h.1);
      stand' = inl (otherwise program qs code means i 0 (at_path code.pages (request_at qs i).path) page refl (sym first) h.2);
    }
