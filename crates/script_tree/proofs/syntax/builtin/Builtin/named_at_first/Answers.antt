use Rattle.std.proofs.Common.{refl, sym, ◌∙◌, ◌++◌, ap}
use Rattle.std.specs.Option.{option_or}
use Rattle.script_tree.specs.Builtins.{of_values, of_request, of_objects, named_in}
use Rattle.script_tree.proofs.Builtins.{in_either}
use Rattle.script_tree.proofs.syntax.builtin.Builtin.named_at_first.Goals as goal

pub returns : goal.returns
returns c = rw c.or-2.ensures (rw c.or.ensures (rw c.of_objects.ensures (rw c.of_request.ensures (rw c.of_values.ensures (
    sym (in_either (of_values ++ of_request) of_objects c.args.name.now ∙ ap (λ o. option_or o (named_in of_objects c.args.name.now)) (in_either of_values of_request c.args.name.now)))))))
