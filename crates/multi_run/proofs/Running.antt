-- What an instruction is for a member where its group is.
use Rattle.std.proofs.Common.{◌≡◌, ◌<◌, ◌+◌, ◌-◌, ℕ, Bool, false, List, [], ◌∷◌, ◌++◌, length, drop, cond, Some, Result, Ok, Err, refl, sym, ap, ◌∙◌, arith}
use Rattle.std.specs.Prelude.{if◌then◌else◌, ◌==◌, slice_get, reverse, map}
use Rattle.std.proofs.lemmas.List.{reverse-append, length-map, length-reverse}
use Rattle.script_tree.specs.Datum as v
use Rattle.script_tree.specs.Datum.{Datum, Data, none, more, members, data_of}
use Rattle.script_tree.specs.Requests.{Request}
use Rattle.script_tree.specs.declared.fault.ScriptFault.{ScriptFault}
use Rattle.script_tree.specs.declared.fault.ScriptFault.TheVariants.{TooDeep}
use Rattle.script_tree.specs.declared.limits.TheConstants.{MOST_CALL_DEPTH}
use Rattle.script_meaning.specs.Evaluate.{Flow}
use Rattle.script_meaning.specs.Run.{Progress, Run, after, give, fails, taking, ◌>>=◌}
use Rattle.script_code.specs.CodeRun as meant
use Rattle.script_code.specs.CodeRun.{Next, step, topmost, back_to, enter}
use Rattle.script_code.specs.declared.instruction.Instruction.{Instruction}
use Rattle.script_code.specs.declared.instruction.Instruction.TheVariants as code
use Rattle.script_nodes.specs.Evaluated.{evaluated, node_run}
use Rattle.script_nodes.specs.NodeLaws.{noted, without, member_at}
use Rattle.script_nodes.specs.declared.primitive.Primitive.{Primitive}
use Rattle.script_nodes.specs.declared.primitive.Primitive.TheVariants as node
use Rattle.script_nodes.proofs.Nodes.{means_nodes}
use Rattle.group_laws.specs.Nodes.{GivesTruth, GoesOn, LacksFaults}
use Rattle.group_laws.specs.Steady.{IsSteady, IsSteadyNext, no_fault}
use Rattle.group_laws.proofs.Onward.{either}
use Rattle.multivalue.specs.Many.{Many, member_value}
use Rattle.multivalue.specs.declared.apart.Apart.{Apart}
use Rattle.multivalue.specs.declared.apart.Apart.TheVariants.{Memory, Fault, Differ}
use Rattle.multi_nodes.specs.Members.{answer_at, members_at, request_at}
use Rattle.multi_state.specs.AllDo.{AllDecide, AllGo, DecisionsPart, Gives, NodesPart, ValuesDo, node_at}
use Rattle.multi_state.specs.Progress.{progress_at}
use Rattle.multi_state.specs.declared.account.Account.{Account}
use Rattle.multi_state.specs.Does.{goes_on}
use Rattle.multi_state.specs.Stacks.{stack_at}
use Rattle.multi_state.specs.declared.state.State.{State}
use Rattle.multi_state.specs.declared.went.Went.{Went}
use Rattle.multi_state.specs.declared.went.Went.TheVariants.{On}
use Rattle.multi_state.proofs.Following.{then_all, halt_all}
use Rattle.multi_state.proofs.Parting.{nodes_part, parts_so}
use Rattle.multi_state.proofs.Stacks.{one_slot_more}
use Rattle.multi_run.specs.Acts.{frame_at, frames_at, next_at, ran_at, acts_at, entered_at, Acts, ActsPart, Enters}
use Rattle.multi_run.specs.declared.run.Frame.{Frame}
use Rattle.multi_run.specs.declared.run.Run as group

-- ---- calls

pub one_frame_more : (i : ℕ) (fs : List Frame) (f : Frame) → frames_at i (fs ++ f ∷ []) ≡ frame_at i f ∷ frames_at i fs
one_frame_more i fs f = ap (map (frame_at i)) (reverse-append fs (f ∷ []))

-- ---- a decision

module _ (before after' : ℕ) (qs : List Request) (functions : List ℕ) (instruction : Instruction) (p : Primitive)
    (ms : List Many) (old new : group.Run) (rest : Next → ℕ → Bool → Run Flow)
    (is : (next : Next) (i : ℕ) (r : Progress) → acts_at qs functions instruction next i old r ≡ after ((node_at qs p ms i >>= noted) r) (rest next i)) where
  pub decided : (b : Bool) (mid : Account) → new.state.account ≡ mid
      → AllDecide before after' qs p ms old.state.account (Ok b) mid
      → ((next : Next) (i : ℕ) → i < length qs → rest next i b ≡ goes_on (next_at next i new) i new.state)
      → Acts before after' qs functions instruction old (Ok On) new
  decided b mid same h goes' =
      then_all (length qs) before after' (λ i. node_at qs p ms i >>= noted)
      (λ next i. acts_at qs functions instruction next i old) rest is
      (λ i. b) old.state.account mid new.state.account (Ok On) (λ next i w. ran_at w next i new)
      (ActsPart qs functions instruction old) (ActsPart qs functions instruction old) (λ parts. parts) h
      (λ cs i lt u next z. goes' next i lt z (progress_at (sym same z) cs i u))

  pub decide_halts : (e : Apart) → ((i : ℕ) → GivesTruth (answer_at qs p ms i))
      → ((next : Next) → IsSteadyNext next → (i : ℕ) (b : Bool) → IsSteady (rest next i b))
      → AllDecide before after' qs p ms old.state.account (Err e) new.state.account
      → Acts before after' qs functions instruction old (Err e) new
  decide_halts e truths steady h =
      halt_all (length qs) before after' (λ i. node_at qs p ms i >>= noted)
      (λ next i. acts_at qs functions instruction next i old) rest is e old.state.account new.state.account
      (λ i. give) (λ next i w. ran_at w next i new) (DecisionsPart qs p ms old.state.account) (ActsPart qs functions instruction old) all_part h
    where
      all_part : DecisionsPart qs p ms old.state.account → ActsPart qs functions instruction old
      all_part parts =
          parts_so (Bool → Run Flow) Next (length qs) (λ onward i. node_at qs p ms i >>= noted >>= onward)
          (λ onward i. (b : Bool) → IsSteady (onward b)) (λ next i. acts_at qs functions instruction next i old) (λ next i. IsSteadyNext next)
          old.state.account old.state.account rest (λ cs. cs) (λ next i lt fine. steady next fine i)
          (λ next cs i lt u. is next i (progress_at old.state.account cs i u)) (parts (λ i lt. truths i))

-- where it goes on
pub passed : (next : Next) (i : ℕ) (old new : group.Run) (count : ℕ) → new.frames ≡ old.frames → new.state ≡ old.state → new.place ≡ old.place + 1 + count
    → next (frames_at i old.frames.items) (old.place + 1 + count) (stack_at i old.state.stack)
    (members_at i old.state.slots.items) ≡ goes_on (next_at next i new) i new.state
passed next i old new count frames state place =
    λ z. next (frames_at i (sym frames z).items) (sym place z) (stack_at i (sym state z).stack)
    (members_at i (sym state z).slots.items)

pub passed_one : (next : Next) (i : ℕ) (old new : group.Run) → new.frames ≡ old.frames → new.state ≡ old.state → new.place ≡ old.place + 1 + 0
    → next (frames_at i old.frames.items) (old.place + 1) (stack_at i old.state.stack)
    (members_at i old.state.slots.items) ≡ goes_on (next_at next i new) i new.state
passed_one next i old new frames state place =
    let e : old.place + 1 ≡ old.place + 1 + 0 = omega arith in
    (λ z. next (frames_at i old.frames.items) (e z) (stack_at i old.state.stack) (members_at i old.state.slots.items))
    ∙ passed next i old new 0 frames state place

-- ---- instructions

module _ (qs : List Request) (functions : List ℕ) (old : group.Run) (st : State) (slots : old.state.slots ≡ st.slots) where
  -- what is done then, with another stack
  abbrev pub to : Next → ℕ → (place : ℕ) → List Datum → Run Flow
  to next i place ds = next (frames_at i old.frames.items) place ds (members_at i st.slots.items)

  from_stack : (instruction : Instruction) (next : Next) (i : ℕ) (r : Progress) (ds : List Datum) → stack_at i old.state.stack ≡ ds
      → acts_at qs functions instruction next i old r
      ≡ step (request_at qs i) functions (Some instruction) next (frames_at i old.frames.items) old.place ds
      (members_at i st.slots.items) r
  from_stack instruction next i r ds e = λ z. step (request_at qs i) functions (Some instruction) next
      (frames_at i old.frames.items) old.place (e z) (members_at i (slots z).items) r

  module _ (m : Many) (e : (i : ℕ) → stack_at i old.state.stack ≡ member_value m i ∷ stack_at i st.stack) where
    abbrev pub whole : ℕ → List Datum
    whole i = member_value m i ∷ stack_at i st.stack

    abbrev pub and_rest : (n : ℕ) → Next → ℕ → Bool → Run Flow
    and_rest n next i b = if b then to next i (old.place + 1) (stack_at i st.stack) else to next i (old.place + 1 + n) (whole i)

    abbrev pub or_rest : (n : ℕ) → Next → ℕ → Bool → Run Flow
    or_rest n next i b = if b then to next i (old.place + 1 + n) (whole i) else to next i (old.place + 1) (stack_at i st.stack)

    abbrev pub branch_rest : (n : ℕ) → Next → ℕ → Bool → Run Flow
    branch_rest n next i b = if b then to next i (old.place + 1) (stack_at i st.stack) else to next i (old.place + 1 + n) (stack_at i st.stack)

    abbrev pub again_rest : (n : ℕ) → Next → ℕ → Bool → Run Flow
    again_rest n next i b = if b then to next i (old.place - n) (stack_at i st.stack) else to next i (old.place + 1) (stack_at i st.stack)

    module _ (n : ℕ) (next : Next) (steady : IsSteadyNext next) (i : ℕ) (b : Bool) where
      onward : (place : ℕ) (ds : List Datum) → IsSteady (to next i place ds)
      onward place ds = steady (frames_at i old.frames.items) place ds (members_at i st.slots.items)

      pub and_steady : IsSteady (and_rest n next i b)
      and_steady = either no_fault b _ _ (onward (old.place + 1) (stack_at i st.stack)) (onward (old.place + 1 + n) (whole i))

      pub or_steady : IsSteady (or_rest n next i b)
      or_steady = either no_fault b _ _ (onward (old.place + 1 + n) (whole i)) (onward (old.place + 1) (stack_at i st.stack))

      pub branch_steady : IsSteady (branch_rest n next i b)
      branch_steady = either no_fault b _ _ (onward (old.place + 1) (stack_at i st.stack)) (onward (old.place + 1 + n) (stack_at i st.stack))

      pub again_steady : IsSteady (again_rest n next i b)
      again_steady = either no_fault b _ _ (onward (old.place - n) (stack_at i st.stack)) (onward (old.place + 1) (stack_at i st.stack))

    pub and_is : (n : ℕ) (next : Next) (i : ℕ) (r : Progress) → acts_at qs functions (code.And n) next i old r
        ≡ after ((node_at qs node.Decide (m ∷ []) i >>= noted) r) (and_rest n next i)
    and_is n next i r =
        from_stack (code.And n) next i r (whole i) (e i)
        ∙ (λ z. means_nodes.and_ n (request_at qs i) functions next (frames_at i old.frames.items) old.place (whole i) (members_at i st.slots.items) z r)

    pub or_is : (n : ℕ) (next : Next) (i : ℕ) (r : Progress) → acts_at qs functions (code.Or n) next i old r
        ≡ after ((node_at qs node.Decide (m ∷ []) i >>= noted) r) (or_rest n next i)
    or_is n next i r =
        from_stack (code.Or n) next i r (whole i) (e i)
        ∙ (λ z. means_nodes.or_ n (request_at qs i) functions next (frames_at i old.frames.items) old.place (whole i) (members_at i st.slots.items) z r)

    pub branch_is : (n : ℕ) (next : Next) (i : ℕ) (r : Progress) → acts_at qs functions (code.Branch n) next i old r
        ≡ after ((node_at qs node.Decide (m ∷ []) i >>= noted) r) (branch_rest n next i)
    branch_is n next i r =
        from_stack (code.Branch n) next i r (whole i) (e i)
        ∙ (λ z. means_nodes.branch n (request_at qs i) functions next (frames_at i old.frames.items) old.place (whole i) (members_at i st.slots.items) z r)

    pub again_is : (n : ℕ) (next : Next) (i : ℕ) (r : Progress) → acts_at qs functions (code.Again n) next i old r
        ≡ after ((node_at qs node.Decide (m ∷ []) i >>= noted) r) (again_rest n next i)
    again_is n next i r =
        from_stack (code.Again n) next i r (whole i) (e i)
        ∙ (λ z. means_nodes.again n (request_at qs i) functions next (frames_at i old.frames.items) old.place (whole i) (members_at i st.slots.items) z r)

    pub return_is : (next : Next) (i : ℕ) (r : Progress)
        → acts_at qs functions code.Return next i old r
        ≡ after (node_at qs node.Pass (m ∷ []) i r) (back_to next (frames_at i old.frames.items))
    return_is next i r =
        from_stack code.Return next i r (whole i) (e i)
        ∙ (λ z. means_nodes.return (request_at qs i) functions next (frames_at i old.frames.items) old.place (whole i) (members_at i st.slots.items) z r)

    pub each_is : (n : ℕ) (next : Next) (i : ℕ) → acts_at qs functions (code.Each n) next i old ≡ to next i (old.place + 1 + n) (member_value m i ∷ whole i)
    each_is n next i z r = from_stack (code.Each n) next i r (whole i) (e i) z

  abbrev pub turn_rest : (m : Many) (k n : ℕ) → Next → ℕ → Bool → Run Flow
  turn_rest m k n next i b =
      if b then next (frames_at i old.frames.items) (old.place - n)
      (without (k + 1) (member_value m i) ∷ member_value m i ∷ stack_at i st.stack)
      (members_at i st.slots.items ++ member_at k (member_value m i) ∷ [])
      else to next i (old.place + 1) (stack_at i st.stack)

  pub turn_steady : (m : Many) (k n : ℕ) (next : Next) → IsSteadyNext next → (i : ℕ) (b : Bool) → IsSteady (turn_rest m k n next i b)
  turn_steady m k n next steady i b =
      either no_fault b _ _ (steady (frames_at i old.frames.items) (old.place - n)
      (without (k + 1) (member_value m i) ∷ member_value m i ∷ stack_at i st.stack)
      (members_at i st.slots.items ++ member_at k (member_value m i) ∷ []))
      (steady (frames_at i old.frames.items) (old.place + 1) (stack_at i st.stack) (members_at i st.slots.items))

  pub turn_is : (m : Many) (k : ℕ) → ((i : ℕ)
      → stack_at i old.state.stack ≡ without k (member_value m i) ∷ member_value m i ∷ stack_at i st.stack)
      → (n : ℕ) (next : Next) (i : ℕ) (r : Progress)
      → acts_at qs functions (code.Turn n) next i old r
      ≡ after ((node_at qs (node.Member k) (m ∷ []) i >>= noted) r) (turn_rest m k n next i)
  turn_is m k e n next i r =
      from_stack (code.Turn n) next i r (without k (member_value m i) ∷ member_value m i ∷ stack_at i st.stack) (e i)
      ∙ (λ z. means_nodes.turn k (member_value m i) n (request_at qs i) functions next
      (frames_at i old.frames.items) old.place (stack_at i st.stack) (members_at i st.slots.items) z r)

-- ---- members of a list

members_again : (ds : Data) → data_of (members ds) ≡ ds
members_again none = refl
members_again (more d ds) = ap (more d) (members_again ds)

pub without_none : (d : Datum) → without 0 d ≡ d
without_none v.null = refl
without_none (v.bool b) = refl
without_none (v.number n) = refl
without_none (v.text bs) = refl
without_none (v.list ds) = ap v.list (members_again ds)

-- an instruction that no member is charged for
pub freely : (n : ℕ) (qs : List Request) (functions : List ℕ) (instruction : Instruction) (old new : group.Run) → new.state.account ≡ old.state.account
    → ((next : Next) (i : ℕ) → acts_at qs functions instruction next i old ≡ goes_on (next_at next i new) i new.state)
    → Acts n n qs functions instruction old (Ok On) new
freely n qs functions instruction old new same is = λ cs. (cs, refl, λ i lt u next z. is next i z (progress_at (sym same z) cs i u))

-- ---- a function that is entered

pub as_many_frames : (i : ℕ) (fs : List Frame) → length (frames_at i fs) ≡ length fs
as_many_frames i fs = length-map (reverse fs) (frame_at i) ∙ length-reverse fs

pub entered : (functions : List ℕ) (function start : ℕ) (ms : List Many) (old new : group.Run) (f : Frame)
    → slice_get functions function ≡ Some start → (length old.frames.items == MOST_CALL_DEPTH) ≡ false
    → f.place ≡ old.place + 1 → f.stack ≡ old.state.stack → f.slots ≡ old.state.slots → new.frames.items ≡ old.frames.items ++ f ∷ [] → new.place ≡ start
    → ((i : ℕ) → stack_at i new.state.stack ≡ []) → new.state.slots.items ≡ ms → (next : Next) (i : ℕ)
    → entered_at functions function ms next i old ≡ goes_on (next_at next i new) i new.state
entered functions function start ms old new f found free place stack slots pushed begun empty values next i =
    let fs = frames_at i old.frames.items in
    let frame : meant.Frame = record { place = old.place + 1; stack = stack_at i old.state.stack; slots = members_at i old.state.slots.items } in
    let same : frame_at i f ≡ frame = λ z. record { place = place z; stack = stack_at i (stack z); slots = members_at i (slots z).items } in
    let calls : frames_at i new.frames.items ≡ frame ∷ fs = ap (frames_at i) pushed ∙ one_frame_more i old.frames.items f ∙ ap (λ g. g ∷ fs) same in
    ap (λ o. enter next fs o frame (members_at i ms)) found
    ∙ ap (λ b. cond b (fails TooDeep) (next (frame ∷ fs) start [] (members_at i ms)))
    (ap (λ n. n == MOST_CALL_DEPTH) (as_many_frames i old.frames.items) ∙ free)
    ∙ (λ z. next (sym calls z) (sym begun z) (sym (empty i) z) (members_at i (sym values z)))

-- ---- a node, and what is done with its value

module _ (before after' : ℕ) (qs : List Request) (functions : List ℕ) (instruction : Instruction) (p : Primitive)
    (ms : List Many) (old new : group.Run) (rest : Next → ℕ → Datum → Run Flow)
    (is : (next : Next) (i : ℕ) (r : Progress) → acts_at qs functions instruction next i old r ≡ after (node_at qs p ms i r) (rest next i)) where
  pub value_goes : (m : Many) (mid : Account) (w : Went) → new.state.account ≡ mid
      → ((next : Next) (i : ℕ) → rest next i (member_value m i) ≡ ran_at w next i new)
      → ValuesDo before after' qs p ms old.state.account (Ok m) mid
      → Acts before after' qs functions instruction old (Ok w) new
  value_goes m mid w same goes' h =
      then_all (length qs) before after' (node_at qs p ms)
      (λ next i. acts_at qs functions instruction next i old) rest is
      (member_value m) old.state.account mid new.state.account (Ok w) (λ next i w. ran_at w next i new)
      (ActsPart qs functions instruction old) (ActsPart qs functions instruction old) (λ parts. parts) h
      (λ cs i lt u next z. goes' next i z (progress_at (sym same z) cs i u))

  -- all halt, or part, after which each goes on so that it fails at once at some faults alone
  pub value_halts : (e : Apart) (faults : ScriptFault → Bool) → ((i : ℕ) → LacksFaults faults (answer_at qs p ms i))
      → ((next : Next) → IsSteadyNext next → (i : ℕ) → GoesOn faults (answer_at qs p ms i) (rest next i))
      → ValuesDo before after' qs p ms old.state.account (Err e) new.state.account
      → Acts before after' qs functions instruction old (Err e) new
  value_halts e faults lacks steady h =
      halt_all (length qs) before after' (node_at qs p ms)
      (λ next i. acts_at qs functions instruction next i old) rest is e old.state.account new.state.account
      (λ i m. give (member_value m i)) (λ next i w. ran_at w next i new)
      (NodesPart qs p ms old.state.account) (ActsPart qs functions instruction old)
      (nodes_part qs p ms old.state.account Next faults rest (λ next i. acts_at qs functions instruction next i old) (λ next i. IsSteadyNext next)
      (λ i lt. lacks i) (λ next i lt fine. steady next fine i) is) h

-- a call, after its node
pub call_goes : (before after' : ℕ) (qs : List Request) (functions : List ℕ) (function n : ℕ) (ms : List Many)
    (old mid new : group.Run) (m : Many) (result : Result Went Apart)
    → ((next : Next) (i : ℕ) (r : Progress) → acts_at qs functions (code.Call function n) next i old r
    ≡ after (node_at qs node.Call ms i r) (λ _. entered_at functions function ms next i mid))
    → ValuesDo before after' qs node.Call ms old.state.account (Ok m) mid.state.account
    → Enters functions function ms mid result new
    → Acts before after' qs functions (code.Call function n) old result new
call_goes before after' qs functions function n ms old mid new m result is h e =
    then_all (length qs) before after' (node_at qs node.Call ms)
    (λ next i. acts_at qs functions (code.Call function n) next i old)
    (λ next i d. entered_at functions function ms next i mid) is
    (member_value m) old.state.account mid.state.account new.state.account result
    (λ next i w. ran_at w next i new) ⊥ (ActsPart qs functions (code.Call function n) old) (λ no. absurd no) h (by result e)
  where
    by : (result : Result Went Apart) → Enters functions function ms mid result new
        → AllGo (length qs) result (λ cs i u. (next : Next)
        → Gives (λ w. ran_at w next i new) result (progress_at new.state.account cs i u)
        (entered_at functions function ms next i mid (progress_at mid.state.account cs i u))) ⊥
    by (Ok w) e = λ cs i lt u next z. e.0 next i z (progress_at (sym e.1 z) cs i u)
    by (Err Memory) e = tt
    by (Err (Fault f)) e = λ cs i lt u next z. e.0 next i z (progress_at (sym e.1 z) cs i u)
    by (Err Differ) e = e

pub call_is : (qs : List Request) (functions : List ℕ) (function n : ℕ) (ms : List Many) (old mid : group.Run)
    → mid.frames ≡ old.frames → mid.place ≡ old.place → mid.state.slots ≡ old.state.slots
    → ((i : ℕ) → topmost n (stack_at i old.state.stack) [] ≡ members_at i ms) → ((i : ℕ) → drop n (stack_at i old.state.stack) ≡ stack_at i mid.state.stack)
    → (next : Next) (i : ℕ) (r : Progress) → acts_at qs functions (code.Call function n) next i old r
    ≡ after (node_at qs node.Call ms i r) (λ _. entered_at functions function ms next i mid)
call_is qs functions function n ms old mid frames place slots values left next i r =
    let q = request_at qs i in
    (λ z. means_nodes.call function n q functions next (frames_at i old.frames.items) old.place
    (stack_at i old.state.stack) (members_at i old.state.slots.items) z r)
    ∙ (λ z. after (node_run (taking (values i z)) (evaluated q node.Call (values i z)) r)
    (λ _. enter next (frames_at i (sym frames z).items) (slice_get functions function)
    (record { place = sym place z + 1; stack = left i z; slots = members_at i (sym slots z).items }) (values i z)))

-- the next turn, with the member that it has
pub next_turn : (next : Next) (i n k passed' : ℕ) (old : group.Run) (st : State) (new : group.Run) (m x : Many)
    → new.frames ≡ old.frames → new.place ≡ old.place - n → passed' ≡ k + 1
    → ((i : ℕ) → stack_at i new.state.stack ≡ without passed'
    (member_value m i) ∷ member_value m i ∷ stack_at i st.stack) → new.state.slots.items ≡ st.slots.items ++ x ∷ []
    → member_value x i ≡ member_at k (member_value m i)
    → next (frames_at i old.frames.items) (old.place - n)
    (without (k + 1) (member_value m i) ∷ member_value m i ∷ stack_at i st.stack)
    (members_at i st.slots.items ++ member_at k (member_value m i) ∷ [])
    ≡ goes_on (next_at next i new) i new.state
next_turn next i n k passed' old st new m x frames place passing stack slots is =
    let values : members_at i new.state.slots.items ≡ members_at i st.slots.items ++ member_at k (member_value m i) ∷ [] =
    ap (members_at i) slots ∙ one_slot_more i st.slots.items x ∙ ap (λ d. members_at i st.slots.items ++ d ∷ []) is in
    let cells : stack_at i new.state.stack ≡ without (k + 1) (member_value m i) ∷ member_value m i ∷ stack_at i st.stack = stack i ∙ ap (λ j. without j (member_value m i) ∷ member_value m i ∷ stack_at i st.stack) passing in
    λ z. next (frames_at i (sym frames z).items) (sym place z) (sym cells z) (sym values z)
