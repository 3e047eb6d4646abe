use Rattle.std.proofs.Common.{rules, ◌≡◌, [], ◌∷◌, refl}
use Rattle.std.specs.Prelude.{slice_index_or}
use Rattle.script_tree.specs.Datum.{null}
use Rattle.multivalue.specs.Many.{all}
use Rattle.script_code.specs.declared.instruction.Instruction.TheVariants as instruction
use Rattle.script_nodes.specs.declared.primitive.Primitive.TheVariants as node
use Rattle.multi_state.proofs.Following.{puts_does}
use Rattle.multi_state.proofs.Laws.{load_is}
use Rattle.multi_state.proofs.state.State.load.Goals as goal

pub returns-clause-does : goal.returns-clause-does
returns-clause-does g c =
    let qs = c.args.group.now in
    let old = c.args.self.now in
    let mid = old in
    let is : c.in_ok-values.values ≡ slice_index_or mid.slots.items c.args.slot (all null) = search rules in
    puts_does c.args.evaluations.now c.put.new.evaluations qs (instruction.Load c.args.slot) node.Pass
    (c.in_ok-values.values ∷ []) old mid c.put.new.self c.put.result refl
    (load_is qs old mid refl c.args.slot c.in_ok-values.values is (λ i. refl)) c.put.ensures.puts
