-- What an instruction is for a member, by the node of its operands.
use denote.Ref.{Bor}
use Rattle.std.proofs.Common.{◌≡◌, ℕ, zero, suc, List, [], ◌∷◌, ◌++◌, drop, Some, refl, sym, ap, ◌∙◌}
use Rattle.std.specs.Prelude.{slice_index_or, slice_set}
use Rattle.script_tree.specs.Datum.{Datum, null}
use Rattle.script_tree.specs.Requests.{Request}
use Rattle.script_tree.specs.declared.syntax.builtin.Builtin.{Builtin}
use Rattle.script_tree.specs.declared.syntax.builtin.Builtin.TheVariants.{Len, Str, Escape, Num, Slice, Append, Kind, Param, Method, Path, Body, Read, Write, Get, Put, Remove, Clock, Random}
use Rattle.script_tree.specs.declared.syntax.operator.BinaryOperator.{BinaryOperator}
use Rattle.script_tree.specs.declared.syntax.operator.UnaryOperator.{UnaryOperator}
use Rattle.script_meaning.specs.BuiltinCalls.{built_in}
use Rattle.script_meaning.specs.Evaluate.{Flow, call_cost, on}
use Rattle.script_meaning.specs.Run.{Progress, Ran, Run, after, give, taking}
use Rattle.script_code.specs.CodeRun.{step, topmost, all_taken}
use Rattle.script_code.specs.declared.instruction.Instruction.{Instruction}
use Rattle.script_code.specs.declared.instruction.Instruction.TheVariants as code
use Rattle.script_code.specs.declared.instruction.Shape.{Shape}
use Rattle.script_nodes.specs.Evaluated.{evaluated, node_run}
use Rattle.script_nodes.specs.NodeLaws.{print_text, set_status_to}
use Rattle.script_nodes.specs.declared.primitive.Primitive.{Primitive}
use Rattle.script_nodes.specs.declared.primitive.Primitive.TheVariants as node
use Rattle.script_nodes.proofs.Nodes.{means_nodes}
use Rattle.multivalue.specs.Many.{Many, all, member_value}
use Rattle.multi_nodes.specs.Charges.{asks_request, cost_by}
use Rattle.multi_nodes.specs.Members.{members_at, request_at}
use Rattle.multi_state.specs.AllDo.{node_at}
use Rattle.multi_state.specs.Does.{Around, onward, does_at}
use Rattle.multi_state.specs.Stacks.{stack_at}
use Rattle.multi_state.specs.declared.state.State.{State}

-- the values of a slot
slot_at : (i k : ℕ) (ms : List Many) → slice_index_or (members_at i ms) k null ≡ member_value (slice_index_or ms k (all null)) i
slot_at i k [] = refl
slot_at i zero (m ∷ ms) = refl
slot_at i (suc k) (m ∷ ms) = slot_at i k ms

-- what the step of a call is spent on
call_costs : (q : Request) (store : List ℕ) (b : Builtin) (ds : List Datum) → call_cost q ds (built_in q store b ds) ≡ cost_by (asks_request b) q ds
call_costs q store Len ds = refl
call_costs q store Str ds = refl
call_costs q store Escape ds = refl
call_costs q store Num ds = refl
call_costs q store Slice ds = refl
call_costs q store Append ds = refl
call_costs q store Kind ds = refl
call_costs q store Param ds = refl
call_costs q store Method ds = refl
call_costs q store Path ds = refl
call_costs q store Body ds = refl
call_costs q store Read ds = refl
call_costs q store Write ds = refl
call_costs q store Get ds = refl
call_costs q store Put ds = refl
call_costs q store Remove ds = refl
call_costs q store Clock ds = refl
call_costs q store Random ds = refl

module _ (qs : List Request) (old mid : State) (slots : old.slots ≡ mid.slots) where
  abbrev putting : Primitive → List Many → Around → ℕ → Progress → Ran Flow
  putting p ms a i r = after (node_at qs p ms i r) (λ d. onward a (d ∷ stack_at i mid.stack) (members_at i mid.slots.items))

  -- the instruction, of another stack
  abbrev done : Instruction → Around → ℕ → List Datum → Run Flow
  done instruction a i st = step (request_at qs i) a.functions (Some instruction) a.next a.frames a.place st (members_at i mid.slots.items)

  from_stack : (instruction : Instruction) (a : Around) (i : ℕ) (r : Progress) (st : List Datum)
      → stack_at i old.stack ≡ st → does_at qs instruction a i old r ≡ done instruction a i st r
  from_stack instruction a i r st e = λ z. step (request_at qs i) a.functions (Some instruction) a.next a.frames a.place (e z) (members_at i (slots z).items) r

  pub push_is : (value : Bor Datum) → ((i : ℕ) → stack_at i old.stack ≡ stack_at i mid.stack)
      → (a : Around) (i : ℕ) (r : Progress) → does_at qs (code.Push value.now) a i old r
      ≡ putting (node.Literal value) [] a i r
  push_is value e a i r =
      from_stack (code.Push value.now) a i r (stack_at i mid.stack) (e i)
      ∙ (λ z. means_nodes.push value (request_at qs i) a.functions a.next a.frames a.place (stack_at i mid.stack) (members_at i mid.slots.items) z r)

  pub load_is : (k : ℕ) (m : Many) → m ≡ slice_index_or mid.slots.items k (all null)
      → ((i : ℕ) → stack_at i old.stack ≡ stack_at i mid.stack) → (a : Around) (i : ℕ) (r : Progress)
      → does_at qs (code.Load k) a i old r ≡ putting node.Pass (m ∷ []) a i r
  load_is k m is e a i r =
      from_stack (code.Load k) a i r (stack_at i mid.stack) (e i)
      ∙ (λ z. means_nodes.load k (request_at qs i) a.functions a.next a.frames a.place (stack_at i mid.stack) (members_at i mid.slots.items) z r)
      ∙ ap (λ d. after (node_run (taking (d ∷ [])) (evaluated (request_at qs i) node.Pass (d ∷ [])) r)
      (λ x. onward a (x ∷ stack_at i mid.stack) (members_at i mid.slots.items)))
      (slot_at i k mid.slots.items ∙ ap (λ x. member_value x i) (sym is))

  -- ---- one value off the stack

  module _ (m : Many) (e : (i : ℕ) → stack_at i old.stack ≡ member_value m i ∷ stack_at i mid.stack) (a : Around) (i : ℕ) (r : Progress) where
    pub unary_is : (op : UnaryOperator) → does_at qs (code.Unary op) a i old r ≡ putting (node.Unary op) (m ∷ []) a i r
    unary_is op =
        from_stack (code.Unary op) a i r (member_value m i ∷ stack_at i mid.stack) (e i)
        ∙ (λ z. means_nodes.unary op (request_at qs i) a.functions a.next a.frames a.place
        (member_value m i ∷ stack_at i mid.stack) (members_at i mid.slots.items) z r)

    pub declare_is : does_at qs code.Declare a i old r
        ≡ after (node_at qs node.Pass (m ∷ []) i r)
        (λ d. onward a (stack_at i mid.stack) (members_at i mid.slots.items ++ d ∷ []))
    declare_is =
        from_stack code.Declare a i r (member_value m i ∷ stack_at i mid.stack) (e i)
        ∙ (λ z. means_nodes.declare (request_at qs i) a.functions a.next a.frames a.place
        (member_value m i ∷ stack_at i mid.stack) (members_at i mid.slots.items) z r)

    pub assign_is : (k : ℕ) → does_at qs (code.Assign k) a i old r
        ≡ after (node_at qs node.Pass (m ∷ []) i r)
        (λ d. onward a (stack_at i mid.stack) (slice_set (members_at i mid.slots.items) k d))
    assign_is k =
        from_stack (code.Assign k) a i r (member_value m i ∷ stack_at i mid.stack) (e i)
        ∙ (λ z. means_nodes.assign k (request_at qs i) a.functions a.next a.frames a.place
        (member_value m i ∷ stack_at i mid.stack) (members_at i mid.slots.items) z r)

    pub discard_is : does_at qs code.Discard a i old r
        ≡ after (node_at qs node.Pass (m ∷ []) i r)
        (λ d. onward a (stack_at i mid.stack) (members_at i mid.slots.items))
    discard_is =
        from_stack code.Discard a i r (member_value m i ∷ stack_at i mid.stack) (e i)
        ∙ (λ z. means_nodes.discard (request_at qs i) a.functions a.next a.frames a.place
        (member_value m i ∷ stack_at i mid.stack) (members_at i mid.slots.items) z r)

    pub echo_is : does_at qs code.Echo a i old r
        ≡ after (after (node_at qs node.Echo (m ∷ []) i r) print_text)
        (λ _. onward a (stack_at i mid.stack) (members_at i mid.slots.items))
    echo_is =
        from_stack code.Echo a i r (member_value m i ∷ stack_at i mid.stack) (e i)
        ∙ (λ z. means_nodes.echo (request_at qs i) a.functions a.next a.frames a.place
        (member_value m i ∷ stack_at i mid.stack) (members_at i mid.slots.items) z r)

    pub status_is : does_at qs code.Status a i old r
        ≡ after (after (node_at qs node.Status (m ∷ []) i r) set_status_to)
        (λ _. onward a (stack_at i mid.stack) (members_at i mid.slots.items))
    status_is =
        from_stack code.Status a i r (member_value m i ∷ stack_at i mid.stack) (e i)
        ∙ (λ z. means_nodes.status (request_at qs i) a.functions a.next a.frames a.place
        (member_value m i ∷ stack_at i mid.stack) (members_at i mid.slots.items) z r)

  -- ---- two

  module _ (x y : Many) (e : (i : ℕ) → stack_at i old.stack
      ≡ member_value y i ∷ member_value x i ∷ stack_at i mid.stack) (a : Around) (i : ℕ) (r : Progress) where
    pub binary_is : (op : BinaryOperator) → does_at qs (code.Binary op) a i old r ≡ putting (node.Binary op) (x ∷ y ∷ []) a i r
    binary_is op =
        from_stack (code.Binary op) a i r (member_value y i ∷ member_value x i ∷ stack_at i mid.stack) (e i)
        ∙ (λ z. means_nodes.binary op (request_at qs i) a.functions a.next a.frames a.place
        (member_value y i ∷ member_value x i ∷ stack_at i mid.stack) (members_at i mid.slots.items) z r)

    pub index_is : does_at qs code.Index a i old r ≡ putting node.Index (x ∷ y ∷ []) a i r
    index_is =
        from_stack code.Index a i r (member_value y i ∷ member_value x i ∷ stack_at i mid.stack) (e i)
        ∙ (λ z. means_nodes.index (request_at qs i) a.functions a.next a.frames a.place
        (member_value y i ∷ member_value x i ∷ stack_at i mid.stack) (members_at i mid.slots.items) z r)

  -- ---- so many

  module _ (n : ℕ) (ms : List Many) (values : (i : ℕ) → topmost n (stack_at i old.stack) [] ≡ members_at i ms)
      (left : (i : ℕ) → drop n (stack_at i old.stack) ≡ stack_at i mid.stack) (a : Around) (i : ℕ)
      (r : Progress) where
    abbrev st : List Datum
    st = stack_at i old.stack

    with_values : (run : List Datum → Run Datum)
        → after (run (topmost n st []) r) (λ d. onward a (d ∷ drop n st) (members_at i mid.slots.items))
        ≡ after (run (members_at i ms) r) (λ d. onward a (d ∷ stack_at i mid.stack) (members_at i mid.slots.items))
    with_values run = λ z. after (run (values i z) r) (λ d. onward a (d ∷ left i z) (members_at i mid.slots.items))

    pub list_is : does_at qs (code.List n) a i old r ≡ putting node.List ms a i r
    list_is =
        from_stack (code.List n) a i r st refl
        ∙ (λ z. means_nodes.list n (request_at qs i) a.functions a.next a.frames a.place st (members_at i mid.slots.items) z r)
        ∙ with_values (λ ds. node_run (taking ds) (evaluated (request_at qs i) node.List ds))

    pub call_builtin_is : (b : Builtin) → does_at qs (code.CallBuiltin b n) a i old r ≡ putting (node.Builtin b) ms a i r
    call_builtin_is b =
        let q = request_at qs i in
        from_stack (code.CallBuiltin b n) a i r st refl
        ∙ (λ z. means_nodes.call_builtin b n q a.functions a.next a.frames a.place st (members_at i mid.slots.items) z r)
        ∙ with_values (λ ds. node_run (call_cost q ds (built_in q [] b ds)) (evaluated q (node.Builtin b) ds))
        ∙ ap (λ c. after (node_run c (evaluated q (node.Builtin b) (members_at i ms)) r)
        (λ d. onward a (d ∷ stack_at i mid.stack) (members_at i mid.slots.items)))
        (call_costs q [] b (members_at i ms))

    pub call_store_is : (b : Builtin) (store : Bor (List ℕ)) → does_at qs (code.CallStore b store.now n) a i old r ≡ putting (node.OnStore b store) ms a i r
    call_store_is b store =
        let q = request_at qs i in
        from_stack (code.CallStore b store.now n) a i r st refl
        ∙ (λ z. means_nodes.call_store b store n q a.functions a.next a.frames a.place st (members_at i mid.slots.items) z r)
        ∙ with_values (λ ds. node_run (call_cost q ds (built_in q store.now b ds)) (evaluated q (node.OnStore b store) ds))
        ∙ ap (λ c. after (node_run c (evaluated q (node.OnStore b store) (members_at i ms)) r)
        (λ d. onward a (d ∷ stack_at i mid.stack) (members_at i mid.slots.items)))
        (call_costs q store.now b (members_at i ms))

    pub call_unknown_is : does_at qs (code.CallUnknown n) a i old r ≡ after (node_at qs node.Unknown ms i r) (λ _. give (on []))
    call_unknown_is =
        from_stack (code.CallUnknown n) a i r st refl
        ∙ (λ z. means_nodes.call_unknown n (request_at qs i) a.functions a.next a.frames a.place st (members_at i mid.slots.items) z r)
        ∙ (λ z. after (node_run (taking (values i z)) (evaluated (request_at qs i) node.Unknown (values i z)) r) (λ _. give (on [])))

  pub transact_is : (shapes : Bor (List Shape)) (ms : List Many)
      → ((i : ℕ) → topmost (all_taken shapes.now) (stack_at i old.stack) [] ≡ members_at i ms)
      → ((i : ℕ) → drop (all_taken shapes.now) (stack_at i old.stack) ≡ stack_at i mid.stack)
      → (a : Around) (i : ℕ) (r : Progress) → does_at qs (code.Transact shapes.now) a i old r ≡ putting (node.Transact shapes) ms a i r
  transact_is shapes ms values left a i r =
      from_stack (code.Transact shapes.now) a i r (stack_at i old.stack) refl
      ∙ (λ z. means_nodes.transact shapes (request_at qs i) a.functions a.next a.frames a.place (stack_at i old.stack) (members_at i mid.slots.items) z r)
      ∙ with_values (all_taken shapes.now) ms values left a i r (λ ds. node_run (taking ds) (evaluated (request_at qs i) (node.Transact shapes) ds))
