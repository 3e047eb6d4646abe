use Rattle.std.proofs.Common.{◌∙◌, ap, sym}
use Rattle.script_tree.specs.ExpressionView.{query_of}
use Rattle.script_code.specs.Code.{shape_of}
use Rattle.script_code.specs.declared.instruction.Shape.TheVariants.{Insert}
use Rattle.script_code.proofs.Emits.{as_many}
use Rattle.script_code.proofs.emitter.Emitter.node_shape.Goals as goal

pub returns-in-Insert : goal.returns-in-Insert
returns-in-Insert c =
    (λ j. Insert (c.table-table.ensures j).number ((c.len.ensures ∙ sym (as_many c.in-Insert.values)) j))
    ∙ ap (λ n. shape_of c.args.self.now (query_of c.args.at n)) (sym c.in-Insert.is)
