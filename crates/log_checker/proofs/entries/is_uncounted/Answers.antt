use Rattle.std.proofs.Common.{◌∙◌, eq-eqb}
use Rattle.log_checker.proofs.EntryTests.{uncounted_none, uncounted_is}
use Rattle.log_checker.proofs.entries.is_uncounted.Goals as goal

pub returns-then-entry-eq0 : goal.returns-then-entry-eq0
returns-then-entry-eq0 c = λ report counted. eq-eqb c.args.entry.now.number 0 c.if-entry-eq0.true ∙ uncounted_none report c.args.entry.now c.if-entry-eq0.true

pub returns-else-entry-eq0 : goal.returns-else-entry-eq0
returns-else-entry-eq0 c = λ report counted. uncounted_is report c.args.entry.now c.args.map.now.counts c.count.result c.if-entry-eq0.false counted
    c.count.ensures
