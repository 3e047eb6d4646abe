use Rattle.std.proofs.Common.{◌∙◌, ap, sym}
use Rattle.object_tables.proofs.PutBack.{nothing_replaced}
use Rattle.object_tables.proofs.table.replace_in.Goals as goal

pub returns-in-None-clause-after : goal.returns-in-None-clause-after
returns-in-None-clause-after c = ap (λ m. m.entries) c.get_mut.follows.holds-at-none ∙ sym (nothing_replaced _ _ _ (sym c.in-None.ensures.value))
