-- A function of a program is within it.
use Rattle.std.proofs.Common.{◌≡◌, ℕ, suc, ◌≤◌, List, [], ◌∷◌, Bool, true, false, cond, max, Some, subst, arith}
use Rattle.std.proofs.Math.Nat.{le-max_left, le-max_right}
use Rattle.std.specs.Str.{bytes_eq}
use Rattle.basis.proofs.Options.{some_is, none_is_not}
use Rattle.script_tree.specs.Declarations.{DeclaredFunction, function_from}
use Rattle.script_tree.specs.declared.syntax.declaration.Declaration.{Declaration}
use Rattle.script_tree.specs.declared.syntax.declaration.Declaration.TheVariants.{Store, Table, Function, Page}
use Rattle.page_walker.specs.Nodes.{block_nodes, most_nodes}

pub is_within : (ds : List Declaration) (f : List ℕ) (g : DeclaredFunction) → function_from f ds ≡ Some g → suc (block_nodes g.body) ≤ most_nodes ds
is_within [] f g e = absurd (none_is_not e)
is_within (Store at name ∷ ds) f g e = is_within ds f g e
is_within (Table at name columns ∷ ds) f g e = is_within ds f g e
is_within (Page at path body ∷ ds) f g e = is_within ds f g e
is_within (Function at name parameters body ∷ ds) f g e = by (bytes_eq f name.text) e (λ same. is_within ds f g same) where
  by : (b : Bool) → cond b (Some (record { parameters = parameters; body = body })) (function_from f ds) ≡ Some g
      → (function_from f ds ≡ Some g → suc (block_nodes g.body) ≤ most_nodes ds) → suc (block_nodes g.body) ≤ max (suc (block_nodes body)) (most_nodes ds)
  by true same later = subst (λ h. suc (block_nodes h.body) ≤ max (suc (block_nodes body)) (most_nodes ds))
      (some_is same) (le-max_left (suc (block_nodes body)) (most_nodes ds))
  by false same later = omega (arith, later same, le-max_right (suc (block_nodes body)) (most_nodes ds))
