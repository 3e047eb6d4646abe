use Rattle.std.proofs.Common.{[], ◌∙◌, ap, subst, not, is_some}
use Rattle.script_check.specs.Indexes.{Puts, at_text}
use Rattle.script_check.proofs.InTurn.{puts_new, puts_none}
use Rattle.script_check.specs.Least.{lower}
use Rattle.script_check.specs.Validity.{fault_unless, declared_in_turn}
use Rattle.script_check.specs.declared.fault.CheckFaultKind.TheVariants.{DeclaredTwice}
use Rattle.script_check.proofs.Lists.{then_next}
use Rattle.script_check.proofs.declared.declare_table.Goals as goal

pub returns-in_ok-insert-clause-puts : goal.returns-in_ok-insert-clause-puts
returns-in_ok-insert-clause-puts c =
    subst (λ v. Puts c.args.name.now.text v c.args.tables.now c.insert.new.self) (c.in_ok-columns.ensures.columns ∙ c.as_slice.ensures)
    (puts_new c.args.tables.now c.insert.new.self c.as_bytes-text.result c.args.name.now.text c.in_ok-columns.columns c.contains_key-is_new.result c.as_bytes-text.ensures c.contains_key-is_new.ensures c.if-is_new.true c.in_ok-insert.ensures.updates)

pub returns-in_ok-insert-clause-faults : goal.returns-in_ok-insert-clause-faults
returns-in_ok-insert-clause-faults c =
    let name = c.args.name.now in
    let columns = c.args.columns.now in
    let known = c.contains_key-is_new.ensures ∙ ap (λ t. is_some (at_text c.args.tables.now t)) c.as_bytes-text.ensures in
    then_next c.args.found.now.least c.unless.new.self.least c.new.new.found.least
    (fault_unless (not (is_some (at_text c.args.tables.now name.text))) name.at DeclaredTwice)
    (declared_in_turn [] columns)
    (c.unless.ensures ∙ ap (λ b. lower c.args.found.now.least (fault_unless (not b) name.at DeclaredTwice)) known)
    (c.in_ok-columns.ensures.faults ∙ ap (λ names. lower c.unless.new.self.least (declared_in_turn [] names)) c.as_slice.ensures)

pub returns-else-is_new-clause-puts : goal.returns-else-is_new-clause-puts
returns-else-is_new-clause-puts c = puts_none c.args.tables.now c.as_bytes-text.result c.args.name.now.text c.args.columns.now c.contains_key-is_new.result c.as_bytes-text.ensures c.contains_key-is_new.ensures c.if-is_new.false

pub returns-else-is_new-clause-faults : goal.returns-else-is_new-clause-faults
returns-else-is_new-clause-faults c =
    let name = c.args.name.now in
    let columns = c.args.columns.now in
    let known = c.contains_key-is_new.ensures ∙ ap (λ t. is_some (at_text c.args.tables.now t)) c.as_bytes-text.ensures in
    then_next c.args.found.now.least c.unless.new.self.least c.new.new.found.least
    (fault_unless (not (is_some (at_text c.args.tables.now name.text))) name.at DeclaredTwice)
    (declared_in_turn [] columns)
    (c.unless.ensures ∙ ap (λ b. lower c.args.found.now.least (fault_unless (not b) name.at DeclaredTwice)) known)
    (c.in_ok-columns.ensures.faults ∙ ap (λ names. lower c.unless.new.self.least (declared_in_turn [] names)) c.as_slice.ensures)
