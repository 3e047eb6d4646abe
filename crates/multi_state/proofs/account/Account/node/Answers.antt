use Rattle.std.proofs.Common.{rules, ◌≡◌, ◌∙◌, ◌∷◌, Ok, refl, length, true, false, subst, arith}
use Rattle.std.specs.Prelude.{◌==◌, nat_lt, get_or}
use Rattle.script_tree.specs.declared.limits.TheConstants.{MOST_OPERATIONS}
use Rattle.script_tree.specs.declared.fault.ScriptFault.TheVariants.{OutOfSteps}
use Rattle.script_meaning.specs.Run.{issuing}
use Rattle.script_meaning.specs.declared.run.Stop.TheVariants.{Fault as fault}
use Rattle.script_values.specs.declared.builtins.Called.TheVariants.{Value, Operation}
use Rattle.multivalue.specs.Many.{member_value}
use Rattle.multi_nodes.specs.Answers.{Have, Counts, Issues, nothing}
use Rattle.multi_nodes.specs.Members.{answer_at}
use Rattle.multi_nodes.specs.Charges.{cost_at, price}
use Rattle.multi_state.specs.Spending.{Spends}
use Rattle.multi_state.specs.Progress.{progress_at}
use Rattle.multi_state.proofs.NodesDo.{on_charged, on_stopped, issues, too_many, price_issuing, below, at_most, node_halts}
use Rattle.multi_state.proofs.account.Account.node.Goals as goal

pub returns-then-not-charge-clause-does : goal.returns-then-not-charge-clause-does
returns-then-not-charge-clause-does g c cs =
    let qs = c.args.group.now in
    let cost = cost_at qs c.args.primitive c.args.operands.now in
    let charged : c.charge.result ≡ false = search rules in
    let spends = subst (λ b. Spends c.args.self.now c.charge.new.self b) charged c.charge.ensures in (
      cs,
      refl,
      λ i lt u. on_stopped (cost i) (answer_at qs c.args.primitive c.args.operands.now i) (fault OutOfSteps)
          (progress_at c.args.self.now cs i u) (progress_at c.charge.new.self cs i u) (spends cost cs i u),
    )

pub returns-in-Ok-Values-clause-does : goal.returns-in-Ok-Values-clause-does
returns-in-Ok-Values-clause-does g c cs =
    let qs = c.args.group.now in
    let cost = cost_at qs c.args.primitive c.args.operands.now in
    let answers = answer_at qs c.args.primitive c.args.operands.now in
    let mid = c.charge.new.self in
    let charged : c.charge.result ≡ true = search rules in
    let spends = subst (λ b. Spends c.args.self.now mid b) charged c.charge.ensures in
    let have = subst (λ t. Have (length qs) answers (Ok t)) c.in-Ok-Values.field-0-is c.in-Ok-Values.ensures.have in
    let counts = subst (λ t. Counts c.args.evaluations.now c.evaluate_members.new.evaluations (price (length qs) cost) (length qs) (Ok t)) c.in-Ok-Values.field-0-is c.in-Ok-Values.ensures.counts in (
      cost ∷ cs,
      omega (arith, counts),
      λ i lt u. on_charged (cost i) (answers i)
          (Ok (Value (member_value c.in-Ok-Values.values i))) (progress_at c.args.self.now cs i u)
          (progress_at mid (cost ∷ cs) i u) (spends.1 cost cs i u) (have i lt),
    )

pub returns-in-Ok-Operations-clause-does : goal.returns-in-Ok-Operations-clause-does
returns-in-Ok-Operations-clause-does g c cs =
    let qs = c.args.group.now in
    let cost = cost_at qs c.args.primitive c.args.operands.now in
    let answers = answer_at qs c.args.primitive c.args.operands.now in
    let mid = c.charge.new.self in
    let charged : c.charge.result ≡ true = search rules in
    let spends = subst (λ b. Spends c.args.self.now mid b) charged c.charge.ensures in
    let have = subst (λ t. Have (length qs) answers (Ok t)) c.in-Ok-Operations.field-0-is c.in-Ok-Operations.ensures.have in
    let counts = subst (λ t. Counts c.args.evaluations.now c.evaluate_members.new.evaluations (price (length qs) cost) (length qs) (Ok t)) c.in-Ok-Operations.field-0-is c.in-Ok-Operations.ensures.counts in
    let may = subst (λ t. Issues (nat_lt mid.operations MOST_OPERATIONS) (Ok t)) c.in-Ok-Operations.field-0-is c.in-Ok-Operations.ensures.issues in
    let free : (mid.operations == MOST_OPERATIONS) ≡ false = below mid.operations MOST_OPERATIONS may in
    let prices = price_issuing (length qs) in (
      (λ _. issuing) ∷ cs,
      omega (arith, counts, prices),
      λ i lt u.
          let op = get_or c.in-Ok-Operations.ops i nothing in
          on_charged (cost i) (answers i) (Ok (Operation op)) (progress_at c.args.self.now cs i u)
          (progress_at mid (cost ∷ cs) i u) (spends.1 cost cs i u) (have.1 i lt)
          ∙ issues mid cost cs i u op free,
    )

pub returns-in-Ok-TooMany-clause-does : goal.returns-in-Ok-TooMany-clause-does
returns-in-Ok-TooMany-clause-does g c cs =
    let qs = c.args.group.now in
    let cost = cost_at qs c.args.primitive c.args.operands.now in
    let answers = answer_at qs c.args.primitive c.args.operands.now in
    let mid = c.charge.new.self in
    let charged : c.charge.result ≡ true = search rules in
    let spends = subst (λ b. Spends c.args.self.now mid b) charged c.charge.ensures in
    let have = subst (λ t. Have (length qs) answers (Ok t)) c.in-Ok-TooMany.field-0-is c.in-Ok-TooMany.ensures.have in
    let counts = subst (λ t. Counts c.args.evaluations.now c.evaluate_members.new.evaluations (price (length qs) cost) (length qs) (Ok t)) c.in-Ok-TooMany.field-0-is c.in-Ok-TooMany.ensures.counts in
    let may = subst (λ t. Issues (nat_lt mid.operations MOST_OPERATIONS) (Ok t)) c.in-Ok-TooMany.field-0-is c.in-Ok-TooMany.ensures.issues in
    let none_left : (mid.operations == MOST_OPERATIONS) ≡ true = at_most mid.operations MOST_OPERATIONS mid.issued may in (
      cost ∷ cs,
      omega (arith, counts),
      λ i lt u.
          let h = have i lt in
          on_charged (cost i) (answers i) (Ok (Operation h.0)) (progress_at c.args.self.now cs i u) (progress_at mid (cost ∷ cs) i u) (spends.1 cost cs i u) h.1
          ∙ too_many mid (cost ∷ cs) i u h.0 none_left,
    )

pub returns-in-Err-clause-does : goal.returns-in-Err-clause-does
returns-in-Err-clause-does g c =
    let mid = c.charge.new.self in
    let charged : c.charge.result ≡ true = search rules in
    node_halts c.args.evaluations.now c.evaluate_members.new.evaluations c.args.group.now c.args.primitive c.args.operands.now c.args.self.now mid c.in-Err.apart (subst (λ b. Spends c.args.self.now mid b) charged c.charge.ensures) c.in-Err.ensures.have c.in-Err.ensures.counts
