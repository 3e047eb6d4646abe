-- Runs of several instructions.
use Rattle.std.proofs.Common.{◌≡◌, ◌≤◌, ◌<◌, ◌+◌, ◌-◌, ◌*◌, ℕ, suc, List, length, Some, Result, Ok, Err, refl, sym, ap, subst, ◌∙◌, arith, ⊎_elim, mul-le-mul_right}
use Rattle.std.specs.Prelude.{slice_get}
use Rattle.std.proofs.lemmas.Bool.{cases_lt}
use Rattle.script_tree.specs.Requests.{Request}
use Rattle.script_code.specs.CodeRun.{Next, step}
use Rattle.script_code.specs.declared.instruction.Instruction.{Instruction}
use Rattle.script_code.specs.declared.instruction.Instruction.TheVariants.{Halt}
use Rattle.script_code.specs.declared.translate.Code.{Code}
use Rattle.group_laws.specs.Shown.{shown_of}
use Rattle.group_laws.specs.Steady.{IsSteadyNext}
use Rattle.group_laws.proofs.Instructions.{code_is_steady}
use Rattle.multivalue.specs.declared.apart.Apart.{Apart}
use Rattle.multivalue.specs.declared.apart.Apart.TheVariants.{Memory, Fault, Differ}
use Rattle.multi_nodes.specs.Members.{members_at, request_at}
use Rattle.multi_state.specs.AllDo.{Gives}
use Rattle.multi_state.specs.Progress.{Charges, Unseen, progress_at}
use Rattle.multi_state.proofs.Parting.{parts_so}
use Rattle.multi_state.proofs.Parts.{do_to}
use Rattle.multi_state.specs.Does.{Around, Does, DoingsPart, goes_on, went_at, does_at, onward}
use Rattle.multi_state.specs.Stacks.{stack_at}
use Rattle.multi_state.specs.declared.state.State.{State}
use Rattle.multi_state.specs.declared.went.Went.{Went}
use Rattle.multi_state.specs.declared.went.Went.TheVariants.{On, Over}
use Rattle.multi_run.specs.Acts.{Acts, ActsPart, IsLater, allowance, frames_at, ran_at, acts_at}
use Rattle.multi_run.specs.Runs.{Runs, exec_at, going_at, rank}
use Rattle.multi_run.specs.declared.run.Run as group

-- an instruction after which the next one is done
pub does_acts : (before after' : ℕ) (qs : List Request) (functions : List ℕ) (instruction : Instruction)
    (old mid : group.Run) (s : State) (result : Result Went Apart) → mid.frames ≡ old.frames
    → mid.place ≡ old.place + 1 → mid.state ≡ old.state
    → Does before after' qs instruction mid.state result s → Acts before after' qs functions instruction old result (record mid { state = s })
does_acts before after' qs functions instruction old mid s result frames place state h =
    do_to (length qs) before after' result
    (λ cs ds i u. (a : Around) → Gives (λ w. went_at w (onward a) i s) result (progress_at s.account ds i u)
    (does_at qs instruction a i mid.state (progress_at mid.state.account cs i u)))
    (λ cs ds i u. (next : Next) → Gives (λ w. ran_at w next i (record mid { state = s })) result
    (progress_at s.account ds i u) (acts_at qs functions instruction next i old
    (progress_at old.state.account cs i u)))
    (DoingsPart qs instruction mid.state) (ActsPart qs functions instruction old)
    (λ cs ds i lt u g next.
    let a : Around = record { functions = functions; next = next; frames = frames_at i old.frames.items; place = old.place } in
    subst (λ o. Gives (λ w. ran_at w next i (record mid { state = s })) result (progress_at s.account ds i u) o)
    (λ z. goes_on (step (request_at qs i) functions (Some instruction) next (frames_at i old.frames.items) old.place) i (state z) (progress_at (state z).account cs i u))
    (subst (λ k. Gives (λ w. went_at w k i s) result (progress_at s.account ds i u) (does_at qs instruction a i mid.state (progress_at mid.state.account cs i u)))
    (λ z. next (frames_at i (sym frames z).items) (sym place z)) (g a)))
    (parts_so Around Next (length qs) (λ a i. does_at qs instruction a i mid.state) (λ a i. IsSteadyNext a.next)
    (λ next i. acts_at qs functions instruction next i old) (λ next i. IsSteadyNext next) mid.state.account old.state.account
    (λ next i. record { functions = functions; next = next; frames = frames_at i old.frames.items; place = old.place }) (λ cs. cs)
    (λ next i lt steady. steady)
    (λ next cs i lt u z. goes_on (step (request_at qs i) functions (Some instruction) next (frames_at i old.frames.items) old.place) i (sym state z)
    (progress_at (sym state z).account cs i u)))
    h

-- the end of a page
pub halt_acts : (n : ℕ) (qs : List Request) (functions : List ℕ) (instruction : Instruction) (m : group.Run)
    → instruction ≡ Halt → Acts n n qs functions instruction m (Ok Over) m
halt_acts n qs functions instruction m is = λ cs. (cs, refl, λ i lt u next. ap (λ x. acts_at qs functions x next i m (progress_at m.state.account cs i u)) is)

-- nothing is done so far
pub none_done : (n : ℕ) (qs : List Request) (code : Code) (m : group.Run) → Runs n n qs code m (Ok On) m
none_done n qs code m = λ cs. (cs, refl, λ i lt u. (0, λ k. let e : 0 + k ≡ k = omega arith in ap (λ j. going_at qs code i m j (progress_at m.state.account cs i u)) e))

module _ (before mid' after' : ℕ) (qs : List Request) (code : Code) (old mid new : group.Run) (before_it : Runs before mid' qs code old (Ok On) mid) where
  -- one instruction more
  pub one_done : (instruction : Instruction) (result : Result Went Apart)
      → slice_get code.instructions.items mid.place ≡ Some instruction
      → Acts mid' after' qs code.functions.items instruction mid result new
      → Runs before after' qs code old result new
  one_done instruction (Ok w) at h = λ cs. let r = before_it cs in let t = h r.0 in (
    t.0,
    omega (arith, r.1, t.1),
    λ i lt u.
        let s = r.2 i lt u in (
          s.0 + 1,
          λ k.
              let e : s.0 + 1 + k ≡ s.0 + suc k = omega arith in
              ap (λ j. going_at qs code i old j (progress_at old.state.account cs i u)) e ∙ s.1 (suc k)
              ∙ ap (λ o. step (request_at qs i) code.functions.items o (exec_at qs code i k)
              (frames_at i mid.frames.items) mid.place (stack_at i mid.state.stack)
              (members_at i mid.state.slots.items) (progress_at mid.state.account r.0 i u)) at
              ∙ t.2 i lt u (exec_at qs code i k),
        ),
  )
  one_done instruction (Err Memory) at h = tt
  one_done instruction (Err (Fault f)) at h = λ cs. let r = before_it cs in let t = h r.0 in (
    t.0,
    omega (arith, r.1, t.1),
    λ i lt u.
        let s = r.2 i lt u in (
          s.0 + 1,
          λ k.
              let e : s.0 + 1 + k ≡ s.0 + suc k = omega arith in
              ap (λ j. going_at qs code i old j (progress_at old.state.account cs i u)) e ∙ s.1 (suc k)
              ∙ ap (λ o. step (request_at qs i) code.functions.items o (exec_at qs code i k)
              (frames_at i mid.frames.items) mid.place (stack_at i mid.state.stack)
              (members_at i mid.state.slots.items) (progress_at mid.state.account r.0 i u)) at
              ∙ t.2 i lt u (exec_at qs code i k),
        ),
  )
  one_done instruction (Err Differ) at h = record {
    one = h.one;
    other = h.other;
    one' = h.one';
    other' = h.other';
    stand' = λ cs u v.
        let r = before_it cs in
        let s = r.2 h.one h.one' u in
        let t = r.2 h.other h.other' v in (
          s.0 + 1,
          t.0 + 1,
          λ k l same.
              h.stand' (exec_at qs code h.one k) (exec_at qs code h.other l)
              (code_is_steady (request_at qs h.one) code.functions.items code.instructions.items k)
              (code_is_steady (request_at qs h.other) code.functions.items code.instructions.items l) r.0 u v
              (sym (ap shown_of (goes_so cs h.one h.one' u k)) ∙ same ∙ ap shown_of (goes_so cs h.other h.other' v l)),
        );
  }
    where
      goes_so : (cs : Charges) (i : ℕ) (lt : i < length qs) (u : Unseen) (k : ℕ)
          → going_at qs code i old (((before_it cs).2 i lt u).0 + 1 + k) (progress_at old.state.account cs i u)
          ≡ acts_at qs code.functions.items instruction (exec_at qs code i k) i mid (progress_at mid.state.account (before_it cs).0 i u)
      goes_so cs i lt u k =
          let r = before_it cs in
          let s = r.2 i lt u in
          let e : s.0 + 1 + k ≡ s.0 + suc k = omega arith in
          ap (λ j. going_at qs code i old j (progress_at old.state.account cs i u)) e ∙ s.1 (suc k)
          ∙ ap (λ o. step (request_at qs i) code.functions.items o (exec_at qs code i k)
          (frames_at i mid.frames.items) mid.place (stack_at i mid.state.stack)
          (members_at i mid.state.slots.items) (progress_at mid.state.account r.0 i u)) at

  -- and others
  pub more_done : (result : Result Went Apart) → Runs mid' after' qs code mid result new → Runs before after' qs code old result new
  more_done (Ok w) h = λ cs. let r = before_it cs in let t = h r.0 in (
    t.0,
    omega (arith, r.1, t.1),
    λ i lt u.
        let s = r.2 i lt u in
        let v = t.2 i lt u in (
          s.0 + v.0,
          λ k.
              let e : s.0 + v.0 + k ≡ s.0 + (v.0 + k) = omega arith in
              ap (λ j. going_at qs code i old j (progress_at old.state.account cs i u)) e ∙ s.1 (v.0 + k) ∙ v.1 k,
        ),
  )
  more_done (Err Memory) h = tt
  more_done (Err (Fault f)) h = λ cs. let r = before_it cs in let t = h r.0 in (
    t.0,
    omega (arith, r.1, t.1),
    λ i lt u.
        let s = r.2 i lt u in
        let v = t.2 i lt u in (
          s.0 + v.0,
          λ k.
              let e : s.0 + v.0 + k ≡ s.0 + (v.0 + k) = omega arith in
              ap (λ j. going_at qs code i old j (progress_at old.state.account cs i u)) e ∙ s.1 (v.0 + k) ∙ v.1 k,
        ),
  )
  more_done (Err Differ) h = record {
    one = h.one;
    other = h.other;
    one' = h.one';
    other' = h.other';
    stand' = λ cs u v.
        let r = before_it cs in
        let s = r.2 h.one h.one' u in
        let t = r.2 h.other h.other' v in
        let d = h.stand' r.0 u v in (
          s.0 + d.0,
          t.0 + d.1,
          λ k l same.
              let e : s.0 + d.0 + k ≡ s.0 + (d.0 + k) = omega arith in
              let f : t.0 + d.1 + l ≡ t.0 + (d.1 + l) = omega arith in
              d.2 k l
              (sym (ap shown_of (ap (λ j. going_at qs code h.one old j (progress_at old.state.account cs h.one u)) e ∙ s.1 (d.0 + k))) ∙ same
              ∙ ap shown_of (ap (λ j. going_at qs code h.other old j (progress_at old.state.account cs h.other v)) f ∙ t.1 (d.1 + l))),
        );
  }

-- ---- the end of a run

less : (a b len p q : ℕ) → a < b → a * (len + 1) + (len - p) < b * (len + 1) + (len - q)
less a b len p q lt =
    let one : a + 1 ≤ b = omega (arith, lt) in
    let more : (a + 1) * (len + 1) ≤ b * (len + 1) = mul-le-mul_right (len + 1) one in
    let whole : (a + 1) * (len + 1) ≡ a * (len + 1) + (len + 1) = omega arith in
    omega (arith, more, whole)

pub falls : (len : ℕ) (old new : group.Run) → IsLater old new → old.place < len → rank len new < rank len old
falls len old new later within =
    ⊎_elim
    (λ fewer. less (allowance new) (allowance old) len new.place old.place fewer)
    (λ as_many.
    let same : allowance new ≡ allowance old = omega (arith, as_many, later.0) in
    let further = later.1 same in
    let place : len - new.place < len - old.place = omega (arith, further, within) in
    subst (λ a. a * (len + 1) + (len - new.place) < allowance old * (len + 1) + (len - old.place)) (sym same) (omega (arith, place)))
    (cases_lt (allowance new) (allowance old))
