-- Of the runs of a sound group's members the same shows.
use Rattle.std.proofs.Common.{◌≡◌, ◌∙◌, ◌≤◌, ◌+◌, ◌++◌, ℕ, zero, suc, Bool, true, false, cond, List, [], ◌∷◌, map, Option, Some, None, refl, sym, ap, subst, arith}
use Rattle.std.proofs.lemmas.Bool.{ltb-false}
use Rattle.basis.specs.Lists.{first_answer, nth}
use Rattle.script_tree.specs.Datum.{Datum}
use Rattle.script_tree.specs.Objects.{Objects}
use Rattle.script_tree.specs.Programs.{Program}
use Rattle.script_tree.specs.Requests.{Request}
use Rattle.script_tree.specs.declared.path.Path.{Path}
use Rattle.script_tree.specs.declared.request.Response.{Response}
use Rattle.period.specs.Traces.{request_of}
use Rattle.period.specs.declared.report.Report.{Report}
use Rattle.period.specs.declared.trace.TraceEvent.{TraceEvent}
use Rattle.script_meaning.specs.Conduct.{Conduct, Ends, conduct, ended as ended_on, unless_left}
use Rattle.script_meaning.specs.Evaluate.{Flow}
use Rattle.script_meaning.specs.Replay.{ending_of}
use Rattle.script_meaning.specs.Run.{Ran, goes, stops}
use Rattle.script_meaning.specs.declared.run.Mark.{Mark}
use Rattle.script_meaning.specs.declared.run.Mark.TheVariants.{Decided as decided, Issued as issued}
use Rattle.script_meaning.specs.declared.run.Stop.TheVariants.{Wants as wants, Fault as fault, AnswerFault as answer_fault}
use Rattle.audit_meaning.specs.Groups.{done_by, group_fault, if_fewer, if_unlike, longest, mark_fault, marks, marks_by}
use Rattle.audit_meaning.specs.Lists.{numbers}
use Rattle.audit_meaning.specs.Members.{MemberMark, Sign, bad, decision, ended, fault_in, good_from, is_good, last_sign, marks_of, operation}
use Rattle.audit_meaning.specs.Members.{page_number, performed, sign_of, signs, told}
use Rattle.audit_meaning.specs.Spots.{count_of}
use Rattle.audit_meaning.proofs.Members.{sound_member}
use Rattle.audit_meaning.proofs.Places.{answer_none, first_none, or_none}
use Rattle.group_laws.specs.Shown.{ShownEnd, over, waits, shown_end, shown_mark, shown_of}
use Rattle.group_laws.specs.Steady.{progress_in}
use Rattle.group_laws.specs.Agree.{AreInGroup, RunsTo, SoundMembersShowAlike}
use Rattle.group_laws.proofs.Agree.{sound_members_agree}

-- ---- signs

-- what shows in a sign
abbrev shown_sign : Sign → Option Bool
shown_sign (decision b) = Some b
shown_sign operation = None
shown_sign bad = None
shown_sign (ended a b) = None

abbrev end_of_sign : Sign → ShownEnd
end_of_sign (decision b) = waits
end_of_sign operation = waits
end_of_sign bad = waits
end_of_sign (ended a b) = over a b

marks_shown : (ms : List Mark) → map shown_sign (map sign_of ms) ≡ map shown_mark ms
marks_shown [] = refl
marks_shown (decided b ∷ ms) = ap (λ rest. Some b ∷ rest) (marks_shown ms)
marks_shown (issued op ∷ ms) = ap (λ rest. None ∷ rest) (marks_shown ms)

not_empty : (ys : List Sign) (l : Sign) → ◌≡◌ {A = List Sign} [] (ys ++ l ∷ []) → ⊥
not_empty [] l h = cc
not_empty (y ∷ ys) l h = cc

-- all but the last, and the last
parted : (xs ys : List Sign) (l m : Sign) → xs ++ l ∷ [] ≡ ys ++ m ∷ [] → (xs ≡ ys) × (l ≡ m)
parted [] [] l m h = (refl, cc)
parted [] (y ∷ ys) l m h = let rest : ◌≡◌ {A = List Sign} [] (ys ++ m ∷ []) = cc in absurd (not_empty ys m rest)
parted (x ∷ xs) [] l m h = let rest : ◌≡◌ {A = List Sign} (xs ++ l ∷ []) [] = cc in absurd (not_empty xs l (sym rest))
parted (x ∷ xs) (y ∷ ys) l m h =
    let first : x ≡ y = cc in
    let rest : xs ++ l ∷ [] ≡ ys ++ m ∷ [] = cc in
    let both = parted xs ys l m rest in
    ((λ z. first z ∷ both.0 z), both.1)

-- ---- how a run ended

same_path : (x y : Response) (p q : Path) → Ends x p ≡ Ends y q → p ≡ q
same_path x y p q h = cc

closes : (answers : List Datum) (x y : Response) (p path : Path) → unless_left answers (Ends x p) ≡ Ends y path → p ≡ path
closes [] x y p path h = same_path x y p path h
closes (d ∷ ds) x y p path h = cc

ends_so : (page : ℕ) (o : Ran Flow) (x : Response) (path : Path) → (ended_on page o).ending ≡ Ends x path
    → shown_end o ≡ over path.steps (fault_in path.end)
ends_so page (goes flow p) x path h = ap (λ (t : Path). over t.steps (fault_in t.end)) (closes p.answers _ x _ path h)
ends_so page (stops (wants op) p) x path h = cc
ends_so page (stops (fault f) p) x path h = ap (λ (t : Path). over t.steps (fault_in t.end)) (closes p.answers _ x _ path h)
ends_so page (stops answer_fault p) x path h = ap (λ (t : Path). over t.steps (fault_in t.end)) (closes p.answers _ x _ path h)

trail_so : (page : ℕ) (o : Ran Flow) → (ended_on page o).trail ≡ (progress_in o).trail
trail_so page (goes flow p) = refl
trail_so page (stops (wants op) p) = refl
trail_so page (stops (fault f) p) = refl
trail_so page (stops answer_fault p) = refl

-- ---- a member

at_most : (good : ℕ → Bool) (k n : ℕ) → good_from good k n ≤ k + n
at_most good k zero = omega arith
at_most good k (suc n) = by (good k) (at_most good (suc k) n)
  where
    by : (b : Bool) → good_from good (suc k) n ≤ suc k + n → cond b (good_from good (suc k) n) k ≤ k + suc n
    by true h = omega (arith, h)
    by false h = omega arith

module _ (P : Program) (O : Objects) (T : List TraceEvent) (R : Report) (n : ℕ) (g : List ℕ) (sound : group_fault P O T R n g ≡ None) where
  all_performed : (r i : ℕ) (q : Request) → nth g i ≡ Some r → request_of T r ≡ Some q → performed P O R r q ≡ count_of R r
  unfolding group_fault
  all_performed r i q at asked =
      let later = or_none (first_answer (mark_fault P O T R n g) (numbers 0 (longest (map (marks P O T R) g)))) _ sound in
      let parts = or_none (first_answer (if_fewer P O T R) g) (first_answer (if_unlike P O T R) g) later.1 in
      let enough : count_of R r ≤ performed P O R r q
      = subst (λ x. count_of R r ≤ done_by P O T R r x) asked (ltb-false _ _ (answer_none _ _ (first_none (if_fewer P O T R) g i r parts.0 at))) in
      let most : performed P O R r q ≤ 0 + count_of R r = at_most (is_good P O R r q) 0 (count_of R r) in
      omega (arith, enough, most)

  -- its signs, by what shows of its run
  signs_are : (r i page : ℕ) (o : Ran Flow) → nth g i ≡ Some r → (runs : RunsTo P O T R r page o)
      → (map (λ (m : MemberMark). m.sign) (marks P O T R r) ≡ map sign_of (progress_in o).trail ++ last_sign (ended_on page o).ending ∷ [])
      × (end_of_sign (last_sign (ended_on page o).ending) ≡ shown_end o)
  unfolding marks marks_of signs ending_of
  signs_are r i page o at runs =
      let q = runs.request in
      let all = all_performed r i q at runs.asked in
      let came : conduct P q (told R O r (performed P O R r q)) ≡ ended_on page o = ap (λ k. conduct P q (told R O r k)) all ∙ runs.ran' in
      let member = sound_member P O T R n g r i q sound at runs.asked in
      let ending : (ended_on page o).ending ≡ Ends member.response member.path = ap (λ (c : Conduct). c.ending) (sym runs.ran') ∙ member.ends in (
        ap (λ x. map (λ (m : MemberMark). m.sign) (marks_by P O T R r x)) runs.asked
            ∙ bare (page_number P q) (map sign_of (conduct P q (told R O r (performed P O R r q))).trail
            ++ last_sign (conduct P q (told R O r (performed P O R r q))).ending ∷ [])
            ∙ ap (λ (c : Conduct). map sign_of c.trail ++ last_sign c.ending ∷ []) came
            ∙ ap (λ t. map sign_of t ++ last_sign (ended_on page o).ending ∷ []) (trail_so page o),
        ap (λ e. end_of_sign (last_sign e)) ending ∙ sym (ends_so page o member.response member.path ending),
      )
    where
      bare : (number : Option ℕ) (ss : List Sign) → map (λ (m : MemberMark). m.sign) (map (λ s. record { page = number; sign = s }) ss) ≡ ss
      bare number [] = refl
      bare number (s ∷ ss) = ap (λ rest. s ∷ rest) (bare number ss)

  show_alike : (a b : ℕ) → AreInGroup g a b → (page other : ℕ) (o o' : Ran Flow) → RunsTo P O T R a page o → RunsTo P O T R b other o'
      → shown_of o ≡ shown_of o'
  show_alike a b both page other o o' mine theirs =
      let one = signs_are a both.first page o both.first' mine in
      let two = signs_are b both.second other o' both.second' theirs in
      let same = sym one.0 ∙ ap (map (λ (m : MemberMark). m.sign)) (sound_members_agree P O T R n g sound a b both) ∙ two.0 in
      let parts = parted (map sign_of (progress_in o).trail) (map sign_of (progress_in o').trail) _ _ same in
      let marks' = sym (marks_shown (progress_in o).trail) ∙ ap (map shown_sign) parts.0 ∙ marks_shown (progress_in o').trail in
      let ends = sym one.1 ∙ ap end_of_sign parts.1 ∙ two.1 in
      λ z. record { marks = marks' z; end' = ends z }

pub sound_members_show_alike : SoundMembersShowAlike
sound_members_show_alike = show_alike
