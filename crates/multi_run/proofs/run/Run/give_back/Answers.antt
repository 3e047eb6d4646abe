use Rattle.std.proofs.Common.{[], ◌∷◌, refl}
use Rattle.script_code.specs.CodeRun.{back_to}
use Rattle.script_code.specs.declared.instruction.Instruction.TheVariants as instruction
use Rattle.script_nodes.specs.declared.primitive.Primitive.TheVariants as node
use Rattle.group_laws.specs.Steady.{no_fault}
use Rattle.group_laws.proofs.NodesGive.{lacks_none}
use Rattle.group_laws.proofs.Onward.{returning}
use Rattle.multi_nodes.specs.Members.{answer_at}
use Rattle.multi_run.specs.Acts.{frames_at}
use Rattle.multi_run.proofs.Running.{value_goes, value_halts, return_is}
use Rattle.multi_run.proofs.run.Run.give_back.Goals as goal

pub returns-in-Ok-clause-acts : goal.returns-in-Ok-clause-acts
returns-in-Ok-clause-acts g c functions =
    let qs = c.args.group.now in
    let old = c.args.self.now in
    let m = c.in_ok-operand.operand in
    let st = record old.state { stack = c.pop.new.self } in
    let back = c.in_ok-back-in-Ok.ensures.back in
    value_goes c.args.evaluations.now c.value.new.evaluations qs functions instruction.Return node.Pass
    (m ∷ []) old c.back.new.self (λ next i. back_to next (frames_at i old.frames.items))
    (return_is qs functions old st refl m c.in_ok-operand.ensures)
    c.in-Ok.values c.value.new.self c.in_ok-back-in-Ok.field-0 back.account back.goes' c.in-Ok.ensures.does

pub returns-clause-acts : goal.returns-clause-acts
returns-clause-acts g c functions =
    let qs = c.args.group.now in
    let old = c.args.self.now in
    let m = c.in_ok-operand.operand in
    let st = record old.state { stack = c.pop.new.self } in
    let new = record old { state = record st { account = c.value.new.self } } in
    value_halts c.args.evaluations.now c.value.new.evaluations qs functions instruction.Return node.Pass
    (m ∷ []) old new (λ next i. back_to next (frames_at i old.frames.items))
    (return_is qs functions old st refl m c.in_ok-operand.ensures)
    c.in-Err.apart no_fault (λ i. lacks_none (answer_at qs node.Pass (m ∷ []) i))
    (λ next steady i d may. returning next steady (frames_at i old.frames.items) d) c.in-Err.ensures.does
