use Rattle.std.proofs.Common.{◌≡◌, [], ◌++◌, ◌+◌, take, sym, ap, ◌∙◌, subst, not}
use Rattle.script_check.specs.Least.{lower}
use Rattle.script_check.specs.Indexes.{TellsTables}
use Rattle.script_check.specs.Passes.{table_twice}
use Rattle.script_check.specs.Validity.{fault_unless}
use Rattle.script_check.specs.declared.fault.CheckFaultKind.TheVariants.{DeclaredTwice}
use Rattle.script_check.specs.Validity.{declared_in_turn}
use Rattle.script_check.proofs.InTurn.{table_more, table_same, no_table, has_table}
use Rattle.script_check.proofs.Least.{lower_none}
use Rattle.script_check.proofs.Lists.{taken, one_on, all_on}
use Rattle.script_check.proofs.declared.tables.Goals as goal
use Rattle.script_check.proofs.declared.tables.Goals.{in-Table+in_ok-declare_table, in_default}

pub loop-declaration-preserved : goal.loop-declaration-preserved
loop-declaration-preserved c =
    let ds = c.args.declarations.now in
    let i = c.loop-declaration.declaration-index in
    let d = c.declaration-item.result in
    let earlier = take i ds in
    let next = taken ds i d c.loop-declaration-test.true c.declaration-item.is in
    let l = c.loop-declaration.found.least in
    let m = c.match-declaration.found.least in
    let told = c.loop-declaration.invariant.tables in
    let so_far = c.loop-declaration.invariant.faults in
    elim c.match-declaration.branch [
      | in-Table+in_ok-declare_table w ↦
          let found : m ≡ lower l (table_twice earlier d) =
          ap (λ f. f.least) w.found-is ∙ w.in_ok-declare_table.ensures.faults
          ∙ ap (λ b. lower l (fault_unless (not b) w.in-Table.name.at DeclaredTwice ++ declared_in_turn [] w.in-Table.columns)) (has_table earlier c.loop-declaration.tables w.in-Table.name.text told)
          ∙ ap (λ e. lower l (table_twice earlier e)) (sym w.in-Table.is) in
          record {
            tables = subst (λ s. TellsTables (take (i + 1) ds) s) (sym w.tables-is) (subst (λ t. TellsTables t w.declare_table.new.tables) (sym next)
                (table_more earlier d w.in-Table.at w.in-Table.name w.in-Table.columns c.loop-declaration.tables w.declare_table.new.tables w.in-Table.is told w.in_ok-declare_table.ensures.puts));
            faults = one_on table_twice ds i d l m c.loop-declaration-test.true c.declaration-item.is found ∙ so_far;
          }
      | in_default w ↦
          let found : m ≡ lower l (table_twice earlier d) = ap (λ f. f.least) w.found-is ∙ sym (lower_none l) ∙ ap (lower l) (sym (no_table earlier d w.in_default.not-Table)) in
          record {
            tables = subst (λ s. TellsTables (take (i + 1) ds) s) (sym w.tables-is)
                (subst (λ t. TellsTables t c.loop-declaration.tables) (sym next)
                (table_same earlier d c.loop-declaration.tables w.in_default.not-Table told));
            faults = one_on table_twice ds i d l m c.loop-declaration-test.true c.declaration-item.is found ∙ so_far;
          }
    ]

pub returns-clause-faults : goal.returns-clause-faults
returns-clause-faults c = all_on table_twice c.args.declarations.now c.loop-declaration.declaration-index c.args.found.now.least c.loop-declaration.found.least c.loop-declaration-test.false c.loop-declaration.invariant.faults
