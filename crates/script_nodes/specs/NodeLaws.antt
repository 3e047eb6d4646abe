-- What the code's instructions do is what their nodes do.
use denote.Ref.{Bor}
use Rattle.std.specs.Prelude.{◌≡◌, ℕ, ◌+◌, ◌-◌, Bool, if◌then◌else◌, pos, List, [], ◌∷◌, ◌++◌, drop, get_or, Some, slice_get, slice_set, slice_index_or}
use Rattle.script_tree.specs.Datum.{Datum, null, number, list, members, data_of}
use Rattle.script_tree.specs.Requests.{Request}
use Rattle.script_tree.specs.declared.syntax.builtin.Builtin.{Builtin}
use Rattle.script_tree.specs.declared.syntax.operator.BinaryOperator.{BinaryOperator}
use Rattle.script_tree.specs.declared.syntax.operator.UnaryOperator.{UnaryOperator}
use Rattle.script_meaning.specs.BuiltinCalls.{built_in}
use Rattle.script_meaning.specs.Evaluate.{Flow, on, call_cost, print, set_status}
use Rattle.script_meaning.specs.Kinds.{bool_in, text_in}
use Rattle.script_meaning.specs.Run.{Run, ◌>>=◌, ◌>>◌, taking, give, note, unless_fault}
use Rattle.script_meaning.specs.declared.run.Mark.TheVariants.{Decided as decided}
use Rattle.script_code.specs.CodeRun.{Frame, Next, step, on_one, on_two, topmost, all_taken, back_to, enter}
use Rattle.script_code.specs.declared.instruction.Instruction.{Instruction}
use Rattle.script_code.specs.declared.instruction.Instruction.TheVariants as code
use Rattle.script_code.specs.declared.instruction.Shape.{Shape}
use Rattle.script_nodes.specs.Evaluated.{evaluated, node_run}
use Rattle.script_nodes.specs.declared.primitive.Primitive.{Primitive}
use Rattle.script_nodes.specs.declared.primitive.Primitive.TheVariants as node

-- Anywhere in a run the instruction does this. It is told how to go on: with what is left of the stack, and the value that
-- is put there.
abbrev pub AlwaysDoes : Instruction → ((q : Request) (st vs : List Datum) (onward : List Datum → Datum → Run Flow) → Run Flow) → Type 0
AlwaysDoes i does = (q : Request) (functions : List ℕ) (next : Next) (fs : List Frame) (pc : ℕ) (st vs : List Datum)
    → step q functions (Some i) next fs pc st vs ≡ does q st vs (λ rest d. next fs (pc + 1) (d ∷ rest) vs)

-- Anywhere in a run the instruction does this.
abbrev pub AlwaysIs : Instruction → (Request → List ℕ → Next → Next) → Type 0
AlwaysIs i does = (q : Request) (functions : List ℕ) (next : Next) (fs : List Frame) (pc : ℕ) (st vs : List Datum)
    → step q functions (Some i) next fs pc st vs ≡ does q functions next fs pc st vs

-- a node of one operand
abbrev pub one_node : Request → Primitive → Datum → Run Datum
one_node q p x = node_run (taking (x ∷ [])) (evaluated q p (x ∷ []))

-- a decision's value leaves its mark
abbrev pub noted : Datum → Run Bool
noted d = unless_fault (bool_in d) >>= λ b. note (decided b) >>= λ _. give b

-- a text that a node made is printed, and a number is set as the status
abbrev pub print_text : Datum → Run (Unit {0})
print_text d = unless_fault (text_in d) >>= print

-- a number that a node made is set as the status
abbrev pub set_status_to : Datum → Run (Unit {0})
set_status_to (number (pos n)) = set_status n
set_status_to d = give tt

-- a list without its first n members; any other value as it is
abbrev pub without : ℕ → Datum → Datum
without n (list ds) = list (data_of (drop n (members ds)))
without n d = d

-- the member behind the first n
abbrev pub member_at : ℕ → Datum → Datum
member_at n (list ds) = get_or (members ds) n null
member_at n d = null

-- An instruction does what the node of its operands does, and goes on with the value.
pub record MeansNodes : Type 0 where
  pub push : (value : Bor Datum) → AlwaysDoes (code.Push value.now) (λ q st vs onward.
      node_run (taking []) (evaluated q (node.Literal value) []) >>= onward st)
  pub load : (i : ℕ) → AlwaysDoes (code.Load i) (λ q st vs onward.
      let d = slice_index_or vs i null in
      node_run (taking (d ∷ [])) (evaluated q node.Pass (d ∷ [])) >>= onward st)
  pub unary : (op : UnaryOperator) → AlwaysDoes (code.Unary op) (λ q st vs onward.
      on_one st (λ x rest. node_run (taking (x ∷ [])) (evaluated q (node.Unary op) (x ∷ [])) >>= onward rest))
  pub binary : (op : BinaryOperator) → AlwaysDoes (code.Binary op) (λ q st vs onward.
      on_two st (λ x y rest. node_run (taking (x ∷ y ∷ [])) (evaluated q (node.Binary op) (x ∷ y ∷ [])) >>= onward rest))
  pub index : AlwaysDoes code.Index (λ q st vs onward.
      on_two st (λ x y rest. node_run (taking (x ∷ y ∷ [])) (evaluated q node.Index (x ∷ y ∷ [])) >>= onward rest))
  pub list : (n : ℕ) → AlwaysDoes (code.List n) (λ q st vs onward.
      let ds = topmost n st [] in
      node_run (taking ds) (evaluated q node.List ds) >>= onward (drop n st))
  pub call_builtin : (b : Builtin) (n : ℕ) → AlwaysDoes (code.CallBuiltin b n) (λ q st vs onward.
      let ds = topmost n st [] in
      node_run (call_cost q ds (built_in q [] b ds)) (evaluated q (node.Builtin b) ds) >>= onward (drop n st))
  pub call_store : (b : Builtin) (store : Bor (List ℕ)) (n : ℕ) → AlwaysDoes (code.CallStore b store.now n) (λ q st vs onward.
      let ds = topmost n st [] in
      node_run (call_cost q ds (built_in q store.now b ds)) (evaluated q (node.OnStore b store) ds) >>= onward (drop n st))
  pub transact : (shapes : Bor (List Shape)) → AlwaysDoes (code.Transact shapes.now) (λ q st vs onward.
      let ds = topmost (all_taken shapes.now) st [] in
      node_run (taking ds) (evaluated q (node.Transact shapes) ds) >>= onward (drop (all_taken shapes.now) st))
  pub declare : AlwaysIs code.Declare (λ q functions next fs pc st vs. on_one st
      (λ x rest. one_node q node.Pass x >>= λ d. next fs (pc + 1) rest (vs ++ d ∷ [])))
  pub assign : (i : ℕ) → AlwaysIs (code.Assign i)
      (λ q functions next fs pc st vs. on_one st
      (λ x rest. one_node q node.Pass x >>= λ d. next fs (pc + 1) rest (slice_set vs i d)))
  pub discard : AlwaysIs code.Discard (λ q functions next fs pc st vs. on_one st (λ x rest. one_node q node.Pass x >>= λ d. next fs (pc + 1) rest vs))
  pub return : AlwaysIs code.Return (λ q functions next fs pc st vs. on_one st (λ x rest. one_node q node.Pass x >>= λ d. back_to next fs d))
  pub echo : AlwaysIs code.Echo (λ q functions next fs pc st vs. on_one st (λ x rest. (one_node q node.Echo x >>= print_text) >> next fs (pc + 1) rest vs))
  pub status : AlwaysIs code.Status (λ q functions next fs pc st vs. on_one st
      (λ x rest. (one_node q node.Status x >>= set_status_to) >> next fs (pc + 1) rest vs))
  pub call : (f n : ℕ) → AlwaysIs (code.Call f n) (λ q functions next fs pc st vs.
      let ds = topmost n st [] in
      node_run (taking ds) (evaluated q node.Call ds)
      >>= λ _. enter next fs (slice_get functions f)
      (record { place = pc + 1; stack = drop n st; slots = vs }) ds)
  pub call_unknown : (n : ℕ) → AlwaysIs (code.CallUnknown n) (λ q functions next fs pc st vs.
      let ds = topmost n st [] in
      node_run (taking ds) (evaluated q node.Unknown ds) >>= λ _. give (on []))
  pub and_ : (n : ℕ) → AlwaysIs (code.And n)
      (λ q functions next fs pc st vs. on_one st
      (λ x rest. one_node q node.Decide x >>= noted
      >>= λ b. if b then next fs (pc + 1) rest vs else next fs (pc + 1 + n) st vs))
  pub or_ : (n : ℕ) → AlwaysIs (code.Or n) (λ q functions next fs pc st vs. on_one st
      (λ x rest. one_node q node.Decide x >>= noted
      >>= λ b. if b then next fs (pc + 1 + n) st vs else next fs (pc + 1) rest vs))
  pub branch : (n : ℕ) → AlwaysIs (code.Branch n)
      (λ q functions next fs pc st vs. on_one st
      (λ x rest. one_node q node.Decide x >>= noted
      >>= λ b. if b then next fs (pc + 1) rest vs else next fs (pc + 1 + n) rest vs))
  pub again : (n : ℕ) → AlwaysIs (code.Again n)
      (λ q functions next fs pc st vs. on_one st
      (λ x rest. one_node q node.Decide x >>= noted
      >>= λ b. if b then next fs (pc - n) rest vs else next fs (pc + 1) rest vs))
  -- the next turn of a loop that passed k members
  pub turn : (k : ℕ) (whole : Datum) (n : ℕ) (q : Request) (functions : List ℕ) (next : Next) (fs : List Frame) (pc : ℕ) (st vs : List Datum)
      → step q functions (Some (code.Turn n)) next fs pc (without k whole ∷ whole ∷ st) vs
      ≡ (one_node q (node.Member k) whole >>= noted
      >>= λ b. if b then next fs (pc - n) (without (k + 1) whole ∷ whole ∷ st)
      (vs ++ member_at k whole ∷ []) else next fs (pc + 1) st vs)
