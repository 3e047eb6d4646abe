use Rattle.std.proofs.Common.{◌∙◌, arith}
use Rattle.object_tables.proofs.Effects.{one_replaced}
use Rattle.object_tables.proofs.statements.replace_all.Goals as goal

pub loop-key-preserved : goal.loop-key-preserved
loop-key-preserved c = record {
  left = one_replaced c.loop-key.storage.tables.items c.replace.new.storage.tables.items c.args.table c.pop.new.self.items c.loop-key.puts.items c.in-Some.key c.in-Some.slot
      (omega (arith, c.requires.within, c.loop-key.invariant.len)) c.in_ok-replace.ensures.ok c.in-Some.ensures.items ∙ c.loop-key.invariant.left;
  before = c.replace.ensures.before ∙ c.loop-key.invariant.before;
  len = omega (arith, c.replace.ensures.len, c.loop-key.invariant.len);
}
