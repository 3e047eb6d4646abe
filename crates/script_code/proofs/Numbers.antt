-- The numbers of functions, and what names call.
use Rattle.std.proofs.Common.{◌≡◌, ◌∙◌, ◌+◌, ℕ, List, [], ◌∷◌, Bool, true, false, if◌then◌else◌, Option, Some, None, option_map, refl, sym, ap}
use Rattle.std.specs.BTreeMap.{BTreeMap}
use Rattle.std.specs.Str.{bytes_eq}
use denote.Ref.{Bor}
use Rattle.basis.proofs.Options.{some_is, none_is_not}
use Rattle.script_check.specs.Indexes.{at_text}
use Rattle.script_tree.specs.Builtins.{builtin_of}
use Rattle.script_tree.specs.Declarations as meant
use Rattle.script_tree.specs.Declarations.{DeclaredFunction}
use Rattle.script_tree.specs.Programs.{Program}
use Rattle.script_tree.specs.declared.syntax.builtin.Builtin as builtin
use Rattle.script_tree.specs.declared.syntax.declaration.Declaration.{Declaration}
use Rattle.script_tree.specs.declared.syntax.declaration.Declaration.TheVariants.{Store, Table, Function, Page}
use Rattle.script_code.specs.Callees.{number_from, numbered, callee_named, TellsNumbers}
use Rattle.script_code.specs.Code.{function_from, function_number}
use Rattle.script_code.specs.declared.callee.Callee.{Callee}
use Rattle.script_code.specs.declared.callee.Callee.TheVariants.{Own, Builtin, Unknown}

pub same_option : {A : Type 0} (o : Option A) → o ≡ option_map (λ a. a) o
same_option (Some a) = refl
same_option None = refl

one : (b : Bool) (g : DeclaredFunction) (n m : ℕ) (o : Option ℕ) (p : Option DeclaredFunction) → o ≡ option_map (λ h. m) p
    → (if b then Some n else o) ≡ option_map (λ h. if b then n else m) (if b then Some g else p)
one true g n m o p e = refl
one false g n m o p e = e

pub number_is : (ds : List Declaration) (n : ℕ) (f : List ℕ) → number_from n f ds ≡ option_map (λ h. function_from n f ds) (meant.function_from f ds)
number_is [] n f = refl
number_is (Store at name ∷ ds) n f = number_is ds n f
number_is (Table at name columns ∷ ds) n f = number_is ds n f
number_is (Function at name parameters body ∷ ds) n f =
    one (bytes_eq f name.text) (record { parameters = parameters; body = body }) n (function_from (n + 1) f ds)
    (number_from (n + 1) f ds) (meant.function_from f ds) (number_is ds (n + 1) f)
number_is (Page at path body ∷ ds) n f = number_is ds n f

-- what a name calls, by the number that was found and the built-in function that has the name
abbrev pub chosen : Option ℕ → Option builtin.Builtin → Callee
chosen (Some n) b = Own n
chosen None (Some b) = Builtin b
chosen None None = Unknown

as_found : (program : Program) (f : List ℕ) (found : Option ℕ) (p : Option DeclaredFunction)
    (b : Option builtin.Builtin) → found ≡ option_map (λ h. function_number program f) p
    → chosen found b ≡ numbered program f (meant.callee p b)
as_found program f (Some n) (Some g) b e = ap Own (some_is e)
as_found program f (Some n) None b e = absurd (none_is_not (sym e))
as_found program f None (Some g) b e = absurd (none_is_not e)
as_found program f None None (Some b) e = refl
as_found program f None None None e = refl

pub found_callee : (program : Program) (f : List ℕ) (found : Option ℕ) → found ≡ number_from 0 f program.declarations
    → chosen found (builtin_of program.version f) ≡ callee_named program f
found_callee program f found e = as_found program f found (meant.function_in program f) (builtin_of program.version f) (e ∙ number_is program.declarations 0 f)

-- the same, where a map tells the numbers
pub told_callee : (numbers : BTreeMap (Bor (List ℕ)) ℕ) (program inner : Program) (x f : List ℕ) (found : Option ℕ)
    → TellsNumbers inner.declarations numbers → inner ≡ program → x ≡ f → found ≡ at_text numbers x
    → chosen found (builtin_of program.version f) ≡ callee_named program f
told_callee numbers program inner x f found told same named e = found_callee program f found (e ∙ told x ∙ (λ j. number_from 0 (named j) (same j).declarations))
