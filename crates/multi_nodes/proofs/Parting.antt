-- How a member parts from the first.
use Rattle.std.proofs.Common.{◌≡◌, ◌∙◌, ◌<◌, ℕ, Some, None, Result, Ok, Err, ap, sym}
use Rattle.script_tree.specs.declared.fault.ScriptFault.{ScriptFault}
use Rattle.script_values.specs.declared.builtins.Called.{Called}
use Rattle.group_laws.specs.Nodes.{node_fault}
use Rattle.multi_nodes.specs.Answers.{Part}

some_is_none : {A : Type 0} (a : A) → Some a ≡ None → ⊥
some_is_none a h = cc

both_some : {A : Type 0} (a b : A) → Some a ≡ Some b → a ≡ b
both_some a b h = cc

module _ (n : ℕ) (f : ℕ → Result Called ScriptFault) (i : ℕ) (within : i < n) where
  pub fails_alone : (x : Called) (k : ScriptFault) → f 0 ≡ Ok x → f i ≡ Err k → Part n f
  fails_alone x k first own = (i, within, λ same. some_is_none k (sym (ap node_fault own) ∙ same ∙ ap node_fault first))

  pub goes_alone : (x : Called) (k : ScriptFault) → f 0 ≡ Err k → f i ≡ Ok x → Part n f
  goes_alone x k first own = (i, within, λ same. some_is_none k (sym (ap node_fault first) ∙ sym same ∙ ap node_fault own))

  pub fails_otherwise : (j k : ScriptFault) → f 0 ≡ Err k → f i ≡ Err j → (j ≡ k → ⊥) → Part n f
  fails_otherwise j k first own unlike = (i, within, λ same. unlike (both_some j k (sym (ap node_fault own) ∙ same ∙ ap node_fault first)))
