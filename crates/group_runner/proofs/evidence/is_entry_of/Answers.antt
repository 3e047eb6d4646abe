use Rattle.std.proofs.Common.{◌∙◌, ◌&&◌, ap, sym}
use Rattle.script_tree.specs.Alike.{same_act}
use Rattle.group_runner.proofs.Entries.{same_objects}
use Rattle.group_runner.proofs.evidence.is_entry_of.Goals as goal

pub returns-then-eq : goal.returns-then-eq
returns-then-eq c =
    c.is_same.ensures.same
    ∙ ap (λ b. b && same_act c.args.entry.now.act c.args.op.now.act) (sym c.if-eq.true ∙ c.eq.ensures ∙ same_objects c.args.log.now.object c.args.op.now.object)

pub returns-else-eq : goal.returns-else-eq
returns-else-eq c =
    c.if-eq.false
    ∙ ap (λ b. b && same_act c.args.entry.now.act c.args.op.now.act)
    (sym c.if-eq.false ∙ c.eq.ensures ∙ same_objects c.args.log.now.object c.args.op.now.object)
