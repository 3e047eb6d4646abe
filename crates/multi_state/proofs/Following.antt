-- What all members do, by the parts of it.
use Rattle.std.proofs.Common.{◌≡◌, ◌<◌, ◌+◌, ℕ, Bool, List, ◌∷◌, length, Result, Ok, Err, refl, sym, ap, subst, ◌∙◌}
use Rattle.script_tree.specs.Datum.{Datum}
use Rattle.script_tree.specs.Requests.{Request}
use Rattle.script_tree.specs.declared.fault.ScriptFault.{ScriptFault}
use Rattle.script_tree.specs.declared.operation.Op.{Op}
use Rattle.script_meaning.specs.Evaluate.{Flow}
use Rattle.script_meaning.specs.Run.{Progress, Run, give, goes, after, ◌>>◌}
use Rattle.script_code.specs.declared.instruction.Instruction.{Instruction}
use Rattle.script_nodes.specs.declared.primitive.Primitive.{Primitive}
use Rattle.group_laws.specs.Nodes.{GoesOn, LacksFaults}
use Rattle.group_laws.specs.Steady.{IsSteady, IsSteadyNext, no_fault}
use Rattle.group_laws.proofs.NodesGive.{lacks_none}
use Rattle.multivalue.specs.Many.{Many, member_value}
use Rattle.multivalue.specs.declared.apart.Apart.{Apart}
use Rattle.multivalue.specs.declared.apart.Apart.TheVariants.{Memory, Fault, Differ}
use Rattle.multi_nodes.specs.Members.{answer_at, members_at}
use Rattle.multi_state.specs.AllDo.{Gives, Comes, AllDo, AllGo, NodesDo, NodesPart, ValuesDo, node_at, given_at}
use Rattle.multi_state.specs.Parting.{Parts}
use Rattle.multi_state.specs.Progress.{Charges, Unseen, progress_at}
use Rattle.multi_state.specs.declared.account.Account.{Account}
use Rattle.multi_state.specs.declared.given.Given.TheVariants.{Wants as Wanted}
use Rattle.multi_state.proofs.Parting.{nodes_part, parts_so}
use Rattle.multi_state.proofs.Parts.{do_to}
use Rattle.multi_state.specs.Does.{Then, Around, onward, goes_on, went_at, does_at, puts_at, Does, DoingsPart, Puts, PuttingsPart}
use Rattle.multi_state.specs.Stacks.{stack_at}
use Rattle.multi_state.specs.declared.state.State.{State}
use Rattle.multi_state.specs.declared.went.Went.{Went}
use Rattle.multi_state.specs.declared.went.Went.TheVariants.{On, Wants}

-- ---- a part, and what comes of it, whatever is around

module _ {J A : Type 0} (n before after' : ℕ) (part : ℕ → Run A) (whole : J → ℕ → Run Flow)
    (rest : J → ℕ → A → Run Flow) (is : (j : J) (i : ℕ) (r : Progress)
    → whole j i r ≡ after (part i r) (rest j i)) where
  -- the part gives each member its value, and the rest spends nothing
  pub then_all : {X : Type 0} (value : ℕ → A) (old mid new : Account) (result : Result X Apart) (seen : J → ℕ → X → Run Flow) (D E : Type 0) → (D → E)
      → Comes n before after' (λ cs ds i u. part i (progress_at old cs i u) ≡ goes (value i) (progress_at mid ds i u))
      → AllGo n result (λ cs i u. (j : J) → Gives (seen j i) result (progress_at new cs i u) (rest j i (value i) (progress_at mid cs i u))) D
      → AllDo n before after' result (λ cs ds i u. (j : J) → Gives (seen j i) result (progress_at new ds i u) (whole j i (progress_at old cs i u))) E
  then_all value old mid new (Ok x) seen D E parts h g = λ cs. let r = h cs in
      (r.0, r.1, λ i lt u j. is j i (progress_at old cs i u) ∙ ap (λ o. after o (rest j i)) (r.2 i lt u) ∙ g r.0 i lt u j)
  then_all value old mid new (Err Memory) seen D E parts h g = tt
  then_all value old mid new (Err (Fault f)) seen D E parts h g = λ cs. let r = h cs in
      (r.0, r.1, λ i lt u j. is j i (progress_at old cs i u) ∙ ap (λ o. after o (rest j i)) (r.2 i lt u) ∙ g r.0 i lt u j)
  then_all value old mid new (Err Differ) seen D E parts h g = parts g

  -- where all halt in the part
  pub halt_all : {X Y : Type 0} (e : Apart) (old new : Account) (given : ℕ → Y → Run A) (seen : J → ℕ → X → Run Flow) (D E : Type 0) → (D → E)
      → AllDo {X = Y} n before after' (Err e) (λ cs ds i u. Gives (given i) (Err e) (progress_at new ds i u) (part i (progress_at old cs i u))) D
      → AllDo {X = X} n before after' (Err e)
      (λ cs ds i u. (j : J) → Gives (seen j i) (Err e) (progress_at new ds i u) (whole j i (progress_at old cs i u))) E
  halt_all Memory old new given seen D E parts h = tt
  halt_all (Fault f) old new given seen D E parts h = λ cs. let r = h cs in
      (r.0, r.1, λ i lt u j. is j i (progress_at old cs i u) ∙ ap (λ o. after o (rest j i)) (r.2 i lt u))
  halt_all Differ old new given seen D E parts h = parts h

-- ---- a node, with its value on the stack

module _ (before after' : ℕ) (qs : List Request) (p : Primitive) (ms : List Many) (old new : State) where
  abbrev on_stack : Then → ℕ → Datum → Run Flow
  on_stack then' i d = then' (d ∷ stack_at i old.stack) (members_at i old.slots.items)

  pub put_values : (m : Many) → ((i : ℕ) → stack_at i new.stack ≡ member_value m i ∷ stack_at i old.stack) → new.slots ≡ old.slots
      → ValuesDo before after' qs p ms old.account (Ok m) new.account → Puts before after' qs p ms old (Ok On) new
  put_values m stack slots h =
      then_all (length qs) before after' (node_at qs p ms) (λ then' i r. after (node_at qs p ms i r) (on_stack then' i)) on_stack (λ j i r. refl)
      (member_value m) old.account new.account new.account (Ok On) (λ then' i w. went_at w then' i new)
      (PuttingsPart qs p ms old) (PuttingsPart qs p ms old) (λ parts. parts) h
      (λ cs i lt u then' z. then' (sym (stack i) z) (members_at i (sym slots z).items) (progress_at new.account cs i u))

  pub put_wants : (ops : List Op) → new.stack ≡ old.stack → new.slots ≡ old.slots
      → NodesDo before after' qs p ms old.account (Ok (Wanted ops)) new.account
      → Puts before after' qs p ms old (Ok (Wants ops)) new
  put_wants ops stack slots h = λ cs. let r = h cs in (
    r.0,
    r.1,
    λ i lt u then'.
        ap (λ o. after o (on_stack then' i)) (r.2 i lt u)
        ∙ (λ z. after (given_at i (Wanted ops) (progress_at new.account r.0 i u))
        (λ d. then' (d ∷ stack_at i (sym stack z)) (members_at i (sym slots z).items))),
  )

  pub put_halts : (e : Apart) → NodesDo before after' qs p ms old.account (Err e) new.account → Puts before after' qs p ms old (Err e) new
  put_halts e h =
      halt_all (length qs) before after' (node_at qs p ms)
      (λ then' i r. after (node_at qs p ms i r) (on_stack then' i)) on_stack
      (λ j i r. refl) e old.account new.account given_at (λ then' i w. went_at w then' i new) (NodesPart qs p ms old.account) (PuttingsPart qs p ms old)
      (nodes_part qs p ms old.account Then no_fault on_stack (λ then' i. puts_at qs p ms then' i old)
      (λ then' i. (st vs : List Datum) → IsSteady (then' st vs)) (λ i lt. lacks_none (answer_at qs p ms i))
      (λ then' i lt steady d may. steady (d ∷ stack_at i old.stack) (members_at i old.slots.items)) (λ then' i r. refl)) h

-- ---- an instruction

-- one that is a node with its value on the stack
pub puts_does : (before after' : ℕ) (qs : List Request) (instruction : Instruction) (p : Primitive) (ms : List Many)
    (old mid new : State) (result : Result Went Apart) → mid.account ≡ old.account
    → ((a : Around) (i : ℕ) (r : Progress) → does_at qs instruction a i old r
    ≡ after (node_at qs p ms i r) (λ d. onward a (d ∷ stack_at i mid.stack) (members_at i mid.slots.items)))
    → Puts before after' qs p ms mid result new → Does before after' qs instruction old result new
puts_does before after' qs instruction p ms old mid new result same is h =
    do_to (length qs) before after' result
    (λ cs ds i u. (then' : Then) → Gives (λ w. went_at w then' i new) result (progress_at new.account ds i u)
    (puts_at qs p ms then' i mid (progress_at mid.account cs i u)))
    (λ cs ds i u. (a : Around) → Gives (λ w. went_at w (onward a) i new) result (progress_at new.account ds i u)
    (does_at qs instruction a i old (progress_at old.account cs i u)))
    (PuttingsPart qs p ms mid) (DoingsPart qs instruction old)
    (λ cs ds i lt u g a.
    subst (λ o. Gives (λ w. went_at w (onward a) i new) result (progress_at new.account ds i u) o)
    (at_old a cs i u) (g (onward a)))
    (parts_so Then Around (length qs) (λ then' i. puts_at qs p ms then' i mid) (λ then' i. (st vs : List Datum) → IsSteady (then' st vs))
    (λ a i. does_at qs instruction a i old) (λ a i. IsSteadyNext a.next) mid.account old.account (λ a i. onward a) (λ cs. cs)
    (λ a i lt steady st vs. steady a.frames (a.place + 1) st vs) (λ a cs i lt u. sym (at_old a cs i u)))
    h
  where
    at_old : (a : Around) (cs : Charges) (i : ℕ) (u : Unseen)
        → puts_at qs p ms (onward a) i mid (progress_at mid.account cs i u) ≡ does_at qs instruction a i old (progress_at old.account cs i u)
    at_old a cs i u = ap (λ b. puts_at qs p ms (onward a) i mid (progress_at b cs i u)) same ∙ sym (is a i (progress_at old.account cs i u))

-- ---- an instruction that keeps its value elsewhere

module _ (before after' : ℕ) (qs : List Request) (instruction : Instruction) (p : Primitive) (ms : List Many)
    (old new : State) (rest : Around → ℕ → Datum → Run Flow)
    (is : (a : Around) (i : ℕ) (r : Progress) → does_at qs instruction a i old r ≡ after (node_at qs p ms i r) (rest a i)) where
  -- it spends nothing more
  pub value_does : (m : Many) (mid : Account) → new.account ≡ mid
      → ((a : Around) (i : ℕ) → rest a i (member_value m i) ≡ goes_on (onward a) i new)
      → ValuesDo before after' qs p ms old.account (Ok m) mid
      → Does before after' qs instruction old (Ok On) new
  value_does m mid same goes' h =
      then_all (length qs) before after' (node_at qs p ms) (λ a i. does_at qs instruction a i old) rest is
      (member_value m) old.account mid new.account (Ok On) (λ a i w. went_at w (onward a) i new)
      (DoingsPart qs instruction old) (DoingsPart qs instruction old) (λ parts. parts) h
      (λ cs i lt u a z. goes' a i z (progress_at (sym same z) cs i u))

  -- all halt, or part, after which each goes on so that it fails at once at some faults alone
  pub value_halts : (e : Apart) (faults : ScriptFault → Bool) → ((i : ℕ) → i < length qs → LacksFaults faults (answer_at qs p ms i))
      → ((a : Around) → IsSteadyNext a.next → (i : ℕ) → GoesOn faults (answer_at qs p ms i) (rest a i))
      → ValuesDo before after' qs p ms old.account (Err e) new.account → Does before after' qs instruction old (Err e) new
  value_halts e faults lacks steady h =
      halt_all (length qs) before after' (node_at qs p ms)
      (λ a i. does_at qs instruction a i old) rest is e old.account new.account (λ i m. give (member_value m i))
      (λ a i w. went_at w (onward a) i new) (NodesPart qs p ms old.account) (DoingsPart qs instruction old)
      (nodes_part qs p ms old.account Around faults rest (λ a i. does_at qs instruction a i old) (λ a i. IsSteadyNext a.next) lacks
      (λ a i lt next. steady a next i) is) h

  -- the same, where it goes on as it did
  pub value_halts_so : (e : Apart) → ((a : Around) → IsSteadyNext a.next → (i : ℕ) (d : Datum) → IsSteady (rest a i d))
      → ValuesDo before after' qs p ms old.account (Err e) new.account → Does before after' qs instruction old (Err e) new
  value_halts_so e steady h = value_halts e no_fault (λ i lt. lacks_none (answer_at qs p ms i)) (λ a next i d may. steady a next i d) h

  -- it does more with the value, which spends nothing
  pub value_then : (m : Many) (mid : Account) (more : Datum → Run (Unit {0}))
      → ((a : Around) (i : ℕ) → rest a i (member_value m i)
      ≡ (λ r. after (more (member_value m i) r) (λ _. goes_on (onward a) i new)))
      → ValuesDo before after' qs p ms old.account (Ok m) mid
      → ((cs : Charges) (i : ℕ) → i < length qs → (u : Unseen)
      → more (member_value m i) (progress_at mid cs i u) ≡ goes tt (progress_at new.account cs i u))
      → Does before after' qs instruction old (Ok On) new
  value_then m mid more goes' h g =
      then_all (length qs) before after' (node_at qs p ms) (λ a i. does_at qs instruction a i old) rest is
      (member_value m) old.account mid new.account (Ok On) (λ a i w. went_at w (onward a) i new)
      (DoingsPart qs instruction old) (DoingsPart qs instruction old) (λ parts. parts) h
      (λ cs i lt u a. (λ z. goes' a i z (progress_at mid cs i u)) ∙ ap (λ o. after o (λ _. goes_on (onward a) i new)) (g cs i lt u))

  pub value_stops : (m : Many) (mid : Account) (more : Datum → Run (Unit {0})) (e : Apart) (D : Type 0)
      → (D → Parts (Run Flow) (length qs) (λ onward i. more (member_value m i) >> onward) (λ onward i. IsSteady onward) mid)
      → ((a : Around) (i : ℕ) → rest a i (member_value m i)
      ≡ (λ r. after (more (member_value m i) r) (λ _. goes_on (onward a) i new)))
      → ValuesDo before after' qs p ms old.account (Ok m) mid
      → AllGo {X = Unit {0}} (length qs) (Err e)
      (λ cs i u. Gives give (Err e) (progress_at new.account cs i u)
      (more (member_value m i) (progress_at mid cs i u))) D → Does before after' qs instruction old (Err e) new
  value_stops m mid more e D parts goes' h g =
      then_all (length qs) before after' (node_at qs p ms) (λ a i. does_at qs instruction a i old) rest is
      (member_value m) old.account mid new.account (Err e) (λ a i w. went_at w (onward a) i new) D (DoingsPart qs instruction old) all_part h (by e g)
    where
      by : (e : Apart) → AllGo {X = Unit {0}} (length qs) (Err e)
          (λ cs i u. Gives give (Err e) (progress_at new.account cs i u)
          (more (member_value m i) (progress_at mid cs i u))) D
          → AllGo {X = Went} (length qs) (Err e) (λ cs i u. (a : Around)
          → Gives (λ w. went_at w (onward a) i new) (Err e) (progress_at new.account cs i u)
          (rest a i (member_value m i) (progress_at mid cs i u))) D
      by Memory g = tt
      by (Fault f) g = λ cs i lt u a. (λ z. goes' a i z (progress_at mid cs i u)) ∙ ap (λ o. after o (λ _. goes_on (onward a) i new)) (g cs i lt u)
      by Differ g = g

      all_part : D → DoingsPart qs instruction old
      all_part d =
          parts_so (Run Flow) Around (length qs) (λ onward i. more (member_value m i) >> onward) (λ onward i. IsSteady onward)
          (λ a i. does_at qs instruction a i old) (λ a i. IsSteadyNext a.next) mid old.account (λ a i. goes_on (onward a) i new) (λ cs. (h cs).0)
          (λ a i lt steady. steady a.frames (a.place + 1) (stack_at i new.stack) (members_at i new.slots.items))
          (λ a cs i lt u. is a i (progress_at old.account cs i u) ∙ ap (λ o. after o (rest a i)) ((h cs).2 i lt u)
          ∙ (λ z. goes' a i z (progress_at mid (h cs).0 i u))) (parts d)

-- an instruction that no member is charged for
pub freely : (n : ℕ) (qs : List Request) (instruction : Instruction) (old new : State) → new.account ≡ old.account
    → ((a : Around) (i : ℕ) → does_at qs instruction a i old ≡ goes_on (onward a) i new)
    → Does n n qs instruction old (Ok On) new
freely n qs instruction old new same is = λ cs. (cs, refl, λ i lt u a z. is a i z (progress_at (sym same z) cs i u))
