-- What a name calls, as code has it.
use Rattle.std.specs.Prelude.{◌≡◌, ℕ, Bool, false, ◌+◌, if◌then◌else◌, List, [], ◌∷◌, Option, Some, None}
use Rattle.std.specs.BTreeMap.{BTreeMap}
use Rattle.std.specs.Str.{bytes_eq}
use denote.Ref.{Bor}
use Rattle.script_check.specs.Indexes.{at_text}
use Rattle.script_tree.specs.Builtins.{takes_store}
use Rattle.script_tree.specs.Declarations as meant
use Rattle.script_tree.specs.Programs.{Program}
use Rattle.script_tree.specs.declared.syntax.declaration.Declaration.{Declaration}
use Rattle.script_tree.specs.declared.syntax.declaration.Declaration.TheVariants.{Store, Table, Function, Page}
use Rattle.script_code.specs.Code.{function_number, builtin_code}
use Rattle.script_code.specs.declared.instruction.Instruction.{Instruction}
use Rattle.script_code.specs.declared.instruction.Instruction.TheVariants.{Call, CallUnknown}
use Rattle.script_code.specs.declared.callee.Callee.{Callee}
use Rattle.script_code.specs.declared.callee.Callee.TheVariants.{Own, Builtin, Unknown}

-- the number of a function, where there is one; functions are numbered from n
abbrev pub number_from : ℕ → List ℕ → List Declaration → Option ℕ
number_from n f [] = None
number_from n f (Store at name ∷ ds) = number_from n f ds
number_from n f (Table at name columns ∷ ds) = number_from n f ds
number_from n f (Function at name parameters body ∷ ds) = if bytes_eq f name.text then Some n else number_from (n + 1) f ds
number_from n f (Page at path body ∷ ds) = number_from n f ds

-- The map tells the numbers of the functions that these declare.
abbrev pub TellsNumbers : List Declaration → BTreeMap (Bor (List ℕ)) ℕ → Type 0
TellsNumbers ds numbers = (f : List ℕ) → at_text numbers f ≡ number_from 0 f ds

-- what a name calls, with the number of a function for the function
abbrev pub numbered : Program → List ℕ → meant.Callee → Callee
numbered program f (meant.own g) = Own (function_number program f)
numbered program f (meant.built b) = Builtin b
numbered program f meant.unknown = Unknown

-- what a name calls in a program
abbrev pub callee_named : Program → List ℕ → Callee
callee_named program f = numbered program f (meant.callee_in program f)

-- whether the first argument is the bare name of a store
abbrev pub has_store_first : Callee → Bool
has_store_first (Own number) = false
has_store_first (Builtin b) = takes_store b
has_store_first Unknown = false

-- the call, with the name of the store that its arguments begin with, and their number
abbrev pub call_of : Callee → List ℕ → ℕ → Instruction
call_of (Own number) store n = Call number n
call_of (Builtin b) store n = builtin_code (takes_store b) b store n
call_of Unknown store n = CallUnknown n
