use Rattle.std.proofs.Common.{◌≡◌, ◌+◌, ◌||◌, take, sym, ap, ◌∙◌, subst, not, is_some}
use Rattle.script_check.specs.Least.{lower}
use Rattle.script_check.specs.Indexes.{TellsFunctions}
use Rattle.script_check.specs.Passes.{function_twice}
use Rattle.script_check.specs.Validity.{fault_unless}
use Rattle.script_check.specs.declared.fault.CheckFaultKind.TheVariants.{DeclaredTwice}
use Rattle.script_tree.specs.Builtins.{builtin_of}
use Rattle.script_check.proofs.InTurn.{function_more, function_same, no_function, has_function}
use Rattle.script_check.proofs.Least.{lower_none}
use Rattle.script_check.proofs.Lists.{taken, one_on, all_on}
use Rattle.script_check.proofs.declared.functions.Goals as goal
use Rattle.script_check.proofs.declared.functions.Goals.{in-Function+in_ok-declare_function, in_default}

pub loop-declaration-preserved : goal.loop-declaration-preserved
loop-declaration-preserved c =
    let ds = c.args.declarations.now in
    let version = c.args.version in
    let i = c.loop-declaration.declaration-index in
    let d = c.declaration-item.result in
    let earlier = take i ds in
    let next = taken ds i d c.loop-declaration-test.true c.declaration-item.is in
    let l = c.loop-declaration.found.least in
    let m = c.match-declaration.found.least in
    let told = c.loop-declaration.invariant.functions in
    let so_far = c.loop-declaration.invariant.faults in
    elim c.match-declaration.branch [
      | in-Function+in_ok-declare_function w ↦
          let found : m ≡ lower l (function_twice version earlier d) =
          ap (λ f. f.least) w.found-is ∙ w.in_ok-declare_function.ensures.faults
          ∙ ap (λ b. lower l (fault_unless (not (is_some (builtin_of version w.in-Function.name.text) || b)) w.in-Function.name.at DeclaredTwice)) (has_function earlier c.loop-declaration.functions w.in-Function.name.text told)
          ∙ ap (λ e. lower l (function_twice version earlier e)) (sym w.in-Function.is) in
          record {
            functions = subst (λ s. TellsFunctions (take (i + 1) ds) s) (sym w.functions-is)
                (subst (λ t. TellsFunctions t w.declare_function.new.arities) (sym next)
                (function_more earlier d w.in-Function.at w.in-Function.name w.in-Function.parameters w.in-Function.body w.len.result c.loop-declaration.functions w.declare_function.new.arities w.in-Function.is w.len.ensures told w.in_ok-declare_function.ensures.puts));
            faults = one_on (function_twice version) ds i d l m c.loop-declaration-test.true c.declaration-item.is found ∙ so_far;
          }
      | in_default w ↦
          let found : m ≡ lower l (function_twice version earlier d) = ap (λ f. f.least) w.found-is ∙ sym (lower_none l) ∙ ap (lower l) (sym (no_function version earlier d w.in_default.not-Function)) in
          record {
            functions = subst (λ s. TellsFunctions (take (i + 1) ds) s) (sym w.functions-is)
                (subst (λ t. TellsFunctions t c.loop-declaration.functions) (sym next)
                (function_same earlier d c.loop-declaration.functions w.in_default.not-Function told));
            faults = one_on (function_twice version) ds i d l m c.loop-declaration-test.true c.declaration-item.is found ∙ so_far;
          }
    ]

pub returns-clause-faults : goal.returns-clause-faults
returns-clause-faults c = all_on (function_twice c.args.version) c.args.declarations.now c.loop-declaration.declaration-index c.args.found.now.least c.loop-declaration.found.least c.loop-declaration-test.false c.loop-declaration.invariant.faults
