-- A node of each member, by what all of them have together.
use Rattle.std.proofs.Common.{◌≡◌, ◌≤◌, ◌+◌, ℕ, nat_lt, zero, suc, true, false, cond, List, ◌∷◌, Option, Some, None, Ok, Err, Result, length, refl, ap, ◌∙◌, arith}
use Rattle.std.proofs.lemmas.Bool.Decides.{nat_tests}
use Rattle.std.specs.Prelude.{◌==◌}
use Rattle.script_tree.specs.declared.fault.ScriptFault.{ScriptFault}
use Rattle.script_tree.specs.declared.fault.ScriptFault.TheVariants.{TooManyOperations}
use Rattle.script_tree.specs.declared.limits.TheConstants.{MOST_OPERATIONS}
use Rattle.script_tree.specs.declared.operation.Op.{Op}
use Rattle.script_values.specs.declared.builtins.Called.{Called}
use Rattle.script_values.specs.declared.builtins.Called.TheVariants.{Operation}
use Rattle.script_meaning.specs.Run.{Cost, issuing, Progress, goes, stops, after, charge, last_issuing, take_answer}
use Rattle.script_meaning.specs.declared.run.Stop.{Stop}
use Rattle.script_meaning.specs.declared.run.Stop.TheVariants.{Fault as fault}
use Rattle.script_nodes.specs.Evaluated.{gone_on, node_run}
use Rattle.script_nodes.specs.declared.primitive.Primitive.{Primitive}
use Rattle.script_tree.specs.Requests.{Request}
use Rattle.multivalue.specs.Many.{Many}
use Rattle.multivalue.specs.declared.apart.Apart.{Apart}
use Rattle.multivalue.specs.declared.apart.Apart.TheVariants.{Memory, Fault, Differ}
use Rattle.multi_nodes.specs.Answers.{Have, Counts}
use Rattle.multi_nodes.specs.Charges.{cost_at, price}
use Rattle.multi_nodes.specs.Members.{answer_at}
use Rattle.multi_nodes.proofs.Prices.{costs_length}
use Rattle.multi_state.specs.AllDo.{NodesDo}
use Rattle.multi_state.specs.Spending.{Spends}
use Rattle.multi_state.specs.Progress.{Charges, costs_at, extended, Unseen, progress_at}
use Rattle.multi_state.specs.declared.account.Account.{Account}
use Rattle.multi_state.proofs.Parting.{node_parts}

pub on_charged : (c : Cost) (answer a : Result Called ScriptFault) (p q : Progress) → charge c p ≡ goes tt q → answer ≡ a → node_run c answer p ≡ gone_on a q
on_charged c answer a p q e h = ap (λ o. after o (λ _. gone_on answer)) e ∙ ap (λ x. gone_on x q) h

pub on_stopped : (c : Cost) (answer : Result Called ScriptFault) (e : Stop) (p q : Progress) → charge c p ≡ stops e q → node_run c answer p ≡ stops e q
on_stopped c answer e p q h = ap (λ o. after o (λ _. gone_on answer)) h

relabelled : (c : Cost) (cs : List Cost) (kept : Option (List Cost)) → last_issuing (extended (c ∷ cs) kept) ≡ extended (issuing ∷ cs) kept
relabelled c cs None = refl
relabelled c cs (Some ds) = refl

abbrev pub one_issued : Progress → Option (List Cost) → Progress
one_issued p costs = record p { operations = p.operations + 1; costs = costs }

pub issues : (a : Account) (c : ℕ → Cost) (cs : Charges) (i : ℕ) (u : Unseen) (op : Op) → (a.operations == MOST_OPERATIONS) ≡ false
    → gone_on (Ok (Operation op)) (progress_at a (c ∷ cs) i u)
    ≡ take_answer op (one_issued (progress_at a (c ∷ cs) i u) (extended (issuing ∷ costs_at i cs) u.kept))
issues a c cs i u op e =
    ap (λ b. after (cond b (stops (fault TooManyOperations) (progress_at a (c ∷ cs) i u)) (goes tt (one_issued (progress_at a (c ∷ cs) i u) (last_issuing (progress_at a (c ∷ cs) i u).costs)))) (λ _. take_answer op)) e
    ∙ ap (λ k. take_answer op (one_issued (progress_at a (c ∷ cs) i u) k)) (relabelled (c i) (costs_at i cs) u.kept)

pub too_many : (a : Account) (cs : Charges) (i : ℕ) (u : Unseen) (op : Op) → (a.operations == MOST_OPERATIONS) ≡ true
    → gone_on (Ok (Operation op)) (progress_at a cs i u) ≡ stops (fault TooManyOperations) (progress_at a cs i u)
too_many a cs i u op e =
    ap (λ b. after (cond b (stops (fault TooManyOperations) (progress_at a cs i u)) (goes tt (one_issued (progress_at a cs i u) (last_issuing (progress_at a cs i u).costs)))) (λ _. take_answer op)) e

pub price_issuing : (n : ℕ) → price n (λ _. issuing) ≡ n
price_issuing zero = refl
price_issuing (suc n) = costs_length 0 (suc n) (λ _. issuing)

pub below : (a b : ℕ) → nat_lt a b ≡ true → (a == b) ≡ false
below a b h = grind (arith, nat_tests, h)

pub at_most : (a b : ℕ) → a ≤ b → nat_lt a b ≡ false → (a == b) ≡ true
at_most a b l h = grind (arith, nat_tests, l, h)

-- where all have the same fault, or nothing together
pub node_halts : (before after' : ℕ) (qs : List Request) (p : Primitive) (ms : List Many) (old new : Account) (e : Apart)
    → Spends old new true → Have (length qs) (answer_at qs p ms) (Err e)
    → Counts before after' (price (length qs) (cost_at qs p ms)) (length qs) (Err e)
    → NodesDo before after' qs p ms old (Err e) new
node_halts before after' qs p ms old new Memory spends have counts = tt
node_halts before after' qs p ms old new (Fault f) spends have counts = λ cs. (
  cost_at qs p ms ∷ cs,
  omega (arith, counts),
  λ i lt u. on_charged (cost_at qs p ms i) (answer_at qs p ms i) (Err f) (progress_at old cs i u)
      (progress_at new (cost_at qs p ms ∷ cs) i u) (spends.1 (cost_at qs p ms) cs i u) (have i lt),
)
node_halts before after' qs p ms old new Differ spends have counts = node_parts qs p ms old new spends have
