use Rattle.std.proofs.Common.{◌≡◌, ℕ, Bool, true, false, ◌&&◌, List, [], ◌∷◌, Option, Some, None, refl, subst}
use Rattle.std.specs.Prelude.{nat_eq}
use Rattle.std.proofs.lemmas.Map.Text.{is_eq-slice_cmp}
use Rattle.std.specs.Bool.{beq}
use Rattle.std.specs.Cmp.{IsEquivalence}
use Rattle.std.specs.Cmp.Lexicographic.{pointwise}
use Rattle.std.specs.Option.{option_eq}
use Rattle.script_tree.specs.Faults.{fault_number}
use Rattle.script_tree.specs.Objects.{is_same}
use Rattle.script_tree.specs.declared.fault.ScriptFault.{ScriptFault}
use Rattle.script_tree.specs.declared.fault.ScriptFault.TheVariants.{WrongKind, Overflow, ZeroDivisor, OutOfRange, TooLarge, OutOfSteps, TooManyOperations, TooDeep, BadBound}
use Rattle.script_tree.specs.declared.operation.Object.{Object}
use Rattle.script_tree.specs.declared.operation.Object.TheVariants.{Register, Store, Tables, Clock, Dice}
use Rattle.script_tree.specs.declared.path.End.{End}
use Rattle.script_tree.specs.declared.path.End.TheVariants.{Normal, Fault, AnswerFault}
use Rattle.script_tree.specs.declared.path.Path.{Path}
use Rattle.script_tree.specs.contracts.operation.ObjectPartialEq.TheImpl as object_eq
use Rattle.script_tree.specs.contracts.operation.ObjectEq.TheImpl.Laws as object_laws
use Rattle.script_tree.specs.contracts.fault.ScriptFaultPartialEq.TheImpl as fault_eq
use Rattle.script_tree.specs.contracts.path.EndPartialEq.TheImpl as end_eq
use Rattle.script_tree.specs.contracts.path.PathPartialEq.TheImpl as path_eq
use Rattle.script_tree.specs.contracts.path.PathEq.TheImpl.Laws as path_laws
use Rattle.trace_and_report.specs.Grouped.{and_member}
use Rattle.basis.specs.Lists.{each}
use Rattle.script_tree.specs.Paths.{same_path, same_end, same_page, same_decision}

pub same_objects : (a b : Object) → (object_eq.ghosts).eq a b ≡ is_same a b
same_objects (Register a) (Register b) = is_eq-slice_cmp a b
same_objects (Store a) (Store b) = is_eq-slice_cmp a b
same_objects Tables Tables = refl
same_objects Clock Clock = refl
same_objects Dice Dice = refl
same_objects a b = refl

same_faults : (a b : ScriptFault) → (fault_eq.ghosts).eq a b ≡ nat_eq (fault_number a) (fault_number b)
same_faults WrongKind WrongKind = refl
same_faults Overflow Overflow = refl
same_faults ZeroDivisor ZeroDivisor = refl
same_faults OutOfRange OutOfRange = refl
same_faults TooLarge TooLarge = refl
same_faults OutOfSteps OutOfSteps = refl
same_faults TooManyOperations TooManyOperations = refl
same_faults TooDeep TooDeep = refl
same_faults BadBound BadBound = refl
same_faults a b = refl

same_ends : (a b : End) → (end_eq.ghosts).eq a b ≡ same_end a b
same_ends Normal Normal = refl
same_ends (Fault a) (Fault b) = same_faults a b
same_ends AnswerFault AnswerFault = refl
same_ends a b = refl

same_pages : (a b : Option ℕ) → option_eq nat_eq a b ≡ same_page a b
same_pages None None = refl
same_pages (Some a) (Some b) = refl
same_pages None (Some b) = refl
same_pages (Some a) None = refl

same_truths : (a b : Bool) → beq a b ≡ same_decision a b
same_truths true true = refl
same_truths true false = refl
same_truths false true = refl
same_truths false false = refl

same_decisions : (xs ys : List Bool) → pointwise beq xs ys ≡ each same_decision xs ys
same_decisions [] [] = refl
same_decisions [] (y ∷ ys) = refl
same_decisions (x ∷ xs) [] = refl
same_decisions (x ∷ xs) (y ∷ ys) = λ i. same_truths x y i && same_decisions xs ys i

pub same_paths : (a b : Path) → (path_eq.ghosts).eq a b ≡ same_path a b
same_paths a b = λ i. same_pages a.page b.page i && (same_decisions a.decisions b.decisions i && (nat_eq a.steps b.steps && same_ends a.end b.end i))

pub objects_laws : IsEquivalence is_same
objects_laws = subst IsEquivalence (λ i a b. same_objects a b i) object_laws.laws-law

pub paths_laws : IsEquivalence same_path
paths_laws = subst IsEquivalence (λ i a b. same_paths a b i) path_laws.laws-law

-- so keys of either sort take a member alike
pub by_object : {V : Type 0} (o : Object) (v : V) (gs : List (Object × List V)) → and_member (object_eq.ghosts).eq o v gs ≡ and_member is_same o v gs
by_object o v gs = λ i. and_member (λ a b. same_objects a b i) o v gs

pub by_path : {V : Type 0} (p : Path) (v : V) (gs : List (Path × List V)) → and_member (path_eq.ghosts).eq p v gs ≡ and_member same_path p v gs
by_path p v gs = λ i. and_member (λ a b. same_paths a b i) p v gs
