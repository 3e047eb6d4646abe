-- The least fault.
use Rattle.std.specs.Prelude.{◌≡◌, ℕ, ◌<◌, ◌≤◌, ◌⊎◌, ◌&&◌, ◌||◌, nat_lt, nat_eq, Bool, if◌then◌else◌, List, [], ◌∷◌, Contains, Option, Some, None, Result}
use Rattle.basis.specs.declared.or_memory.OrMemory.{OrMemory}
use Rattle.basis.specs.UnlessMemory.{UnlessMemory}
use Rattle.script_tree.specs.Programs.{Program}
use Rattle.script_check.specs.Validity.{faults_of, IsValid}
use Rattle.script_check.specs.declared.fault.CheckFault.{CheckFault}
use Rattle.script_check.specs.declared.fault.CheckFaultKind.{CheckFaultKind}
use Rattle.script_check.specs.declared.fault.CheckFaultKind.TheVariants.{Undeclared, DeclaredTwice, WrongCount, Unknown, KeyWritten, PageTwice}

-- the number of a kind in docs/language.md
abbrev pub number_of : CheckFaultKind → ℕ
number_of Undeclared = 1
number_of DeclaredTwice = 2
number_of WrongCount = 3
number_of Unknown = 4
number_of KeyWritten = 5
number_of PageTwice = 6

-- whether the first stands before the other; or at one place, its kind is less
abbrev pub is_below : CheckFault → CheckFault → Bool
is_below a b = nat_lt a.at b.at || (nat_eq a.at b.at && nat_lt (number_of a.kind) (number_of b.kind))

-- the one that is below the other; the first where there is no other
abbrev pub lesser : CheckFault → Option CheckFault → Option CheckFault
lesser a None = Some a
lesser a (Some b) = if is_below a b then Some a else Some b

-- the least of these and of the one before
unfoldable pub lower : Option CheckFault → List CheckFault → Option CheckFault
lower least [] = least
lower least (a ∷ more) = lower (lesser a least) more

-- It stands before the other one; or at one place, its kind is no greater.
abbrev pub IsNotAbove : CheckFault → CheckFault → Type 0
IsNotAbove a b = (a.at < b.at) ⊎ ((a.at ≡ b.at) × (number_of a.kind ≤ number_of b.kind))

-- one of the tree's faults, and none is below it
pub record IsLeastFault (tree : Program) (fault : CheckFault) : Type 0 where
  pub there : Contains (faults_of tree) fault
  pub least : (other : CheckFault) → Contains (faults_of tree) other → IsNotAbove fault other

-- the least fault, and none of a valid tree
abbrev pub IsLeast : Program → Option CheckFault → Type 0
IsLeast tree None = IsValid tree
IsLeast tree (Some fault) = IsLeastFault tree fault

-- The program of a valid tree; the least fault of another.
abbrev pub IsChecked : Program → Result Program (OrMemory CheckFault) → Type 0
IsChecked tree result = UnlessMemory (λ program. (program ≡ tree) × IsValid tree) (IsLeastFault tree) result
