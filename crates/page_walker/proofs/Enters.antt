-- A call of a function, in one of the runs that are left.
use Rattle.std.proofs.Common.{◌≡◌, ◌≢◌, ◌+◌, ◌-◌, ◌*◌, ◌<◌, ◌≤◌, ℕ, zero, suc, false, List, refl, arith}
use Rattle.std.specs.Prelude.{◌==◌}
use Rattle.std.proofs.lemmas.Bool.Decides.{nat_tests}
use Rattle.std.proofs.lemmas.Nat.{mul-le}
use Rattle.script_tree.specs.Datum.{Datum}
use Rattle.script_tree.specs.Declarations.{DeclaredFunction}
use Rattle.script_tree.specs.Programs.{Program}
use Rattle.script_tree.specs.SyntaxLists.{statements_of}
use Rattle.script_tree.specs.declared.fault.ScriptFault.TheVariants.{OutOfSteps}
use Rattle.script_tree.specs.declared.limits.TheConstants.{MOST_CALL_DEPTH}
use Rattle.script_meaning.specs.Evaluate.{Setting, Flow, block, entered, value_of}
use Rattle.script_meaning.specs.Run.{Progress, Ran, stops, after, give}
use Rattle.script_meaning.specs.declared.run.Stop.TheVariants.{Fault as fault}
use Rattle.script_meaning.specs.Variables.{Variables, bound}
use Rattle.page_walker.specs.Frames.{later_in, nodes_left}
use Rattle.page_walker.specs.Gives.{Stops}
use Rattle.page_walker.specs.Nodes.{nodes_below}
use Rattle.page_walker.specs.declared.run.Stopped.{Stopped}
use Rattle.page_walker.proofs.Parts.{stops_first}

-- ---- measures

pub fewer : (program : Program) (m n : ℕ) → m ≤ n → nodes_left program m ≤ nodes_left program n
unfolding nodes_left
fewer program m n h = mul-le m (4 * nodes_below program) n (4 * nodes_below program) h (omega arith)

-- a run less leaves room for the nodes of any body
pub one_less : (program : Program) (n k : ℕ) → n ≢ 0 → k < nodes_below program → nodes_left program (n - 1) + 4 * k < nodes_left program n
unfolding nodes_left
one_less program zero k z h = absurd (z refl)
one_less program (suc n) k z h =
    let q : suc n - 1 ≡ n = omega arith in
    rw q (omega (arith, h))

-- ---- calls

other : (depth : ℕ) → depth ≢ MOST_CALL_DEPTH → (depth == MOST_CALL_DEPTH) ≡ false
other depth h = grind (arith, nat_tests)

module _ (w : Setting) (depth : ℕ) (f : DeclaredFunction) (ds : List Datum) (p : Progress) (d : depth ≢ MOST_CALL_DEPTH) where
  -- none is left
  pub none_left : (fuel : ℕ) → fuel ≡ 0 → entered (later_in w fuel) depth f ds p ≡ stops (fault OutOfSteps) p
  unfolding later_in
  none_left fuel z = rw (z, other depth d) refl

  -- the call does what the body does
  pub inside : (fuel : ℕ) (vs : Variables) (o : Ran Flow) → fuel ≢ 0 → vs ≡ bound f.parameters ds
      → block w (later_in w (fuel - 1)) (depth + 1) (statements_of f.body) vs p ≡ o
      → entered (later_in w fuel) depth f ds p ≡ after o (λ flow. give (value_of flow))
  unfolding later_in
  inside zero vs o z b h = absurd (z refl)
  inside (suc n) vs o z b h =
      let q : suc n - 1 ≡ n = omega arith in
      let k = rw (q, b) at h in
      rw (other depth d, k) refl

  pub inside_stops : (fuel : ℕ) (vs : Variables) (e : Stopped) (q : Progress) (o : Ran Flow) → fuel ≢ 0
      → vs ≡ bound f.parameters ds → block w (later_in w (fuel - 1)) (depth + 1) (statements_of f.body) vs p ≡ o
      → Stops e q o → Stops e q (entered (later_in w fuel) depth f ds p)
  inside_stops fuel vs e q o z b h s = rw (inside fuel vs o z b h) (stops_first e q o (λ flow. give (value_of flow)) s)
