use Rattle.std.proofs.Common.{◌+◌, Ok, Err, refl, subst}
use Rattle.std.specs.Prelude.{slice_get}
use Rattle.script_tree.specs.declared.fault.ScriptFault.TheVariants.{TooDeep}
use Rattle.script_code.specs.declared.instruction.Instruction.TheVariants as instruction
use Rattle.script_nodes.specs.declared.primitive.Primitive.TheVariants as node
use Rattle.group_laws.specs.Steady.{only}
use Rattle.group_laws.proofs.Onward.{entering}
use Rattle.multi_nodes.specs.Members.{members_at}
use Rattle.multi_state.specs.AllDo.{ValuesDo}
use Rattle.multi_state.specs.Stacks.{stack_at}
use Rattle.multi_run.specs.Acts.{entered_at, frames_at}
use Rattle.multi_run.proofs.Running.{call_goes, call_is, value_halts}
use Rattle.multi_run.proofs.run.Run.call.Goals as goal

pub returns-in-Ok-clause-acts : goal.returns-in-Ok-clause-acts
returns-in-Ok-clause-acts g c =
    let qs = c.args.group.now in
    let old = c.args.self.now in
    let functions = c.args.functions.now in
    let ms = c.in_ok-values.values.items in
    let mid = record old { state = record old.state { stack = c.take.new.self; account = c.value.new.self } } in
    let h = subst (λ xs. ValuesDo c.args.evaluations.now c.value.new.evaluations qs node.Call xs old.state.account (Ok c.in-Ok._values) c.value.new.self) c.as_slice.ensures.value c.in-Ok.ensures.does in
    call_goes c.args.evaluations.now c.value.new.evaluations qs functions c.args.function c.args.count ms old mid c.enter.new.self c.in-Ok._values c.enter.result
    (call_is qs functions c.args.function c.args.count ms old mid refl refl refl c.in_ok-values.ensures.values c.in_ok-values.ensures.left) h c.enter.ensures.enters

pub returns-in-Err-clause-acts : goal.returns-in-Err-clause-acts
returns-in-Err-clause-acts g c =
    let qs = c.args.group.now in
    let old = c.args.self.now in
    let functions = c.args.functions.now in
    let ms = c.in_ok-values.values.items in
    let mid = record old { state = record old.state { stack = c.take.new.self; account = c.value.new.self } } in
    let h = subst (λ xs. ValuesDo c.args.evaluations.now c.value.new.evaluations qs node.Call xs old.state.account (Err c.in-Err.apart) c.value.new.self) c.as_slice.ensures.value c.in-Err.ensures.does in
    value_halts c.args.evaluations.now c.value.new.evaluations qs functions
    (instruction.Call c.args.function c.args.count) node.Call ms old mid
    (λ next i d. entered_at functions c.args.function ms next i mid)
    (call_is qs functions c.args.function c.args.count ms old mid refl refl refl c.in_ok-values.ensures.values c.in_ok-values.ensures.left) c.in-Err.apart
    (only TooDeep) (λ i. tt)
    (λ next steady i d may. entering next steady (frames_at i mid.frames.items) (slice_get functions c.args.function)
    (record { place = mid.place + 1; stack = stack_at i mid.state.stack; slots = members_at i mid.state.slots.items }) (members_at i ms)) h
