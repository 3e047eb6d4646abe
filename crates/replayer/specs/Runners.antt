-- What a request does next, as a runner gives it.
use Rattle.std.specs.Prelude.{◌≡◌, Option, Some, None}
use Rattle.script_tree.specs.declared.path.Path.{Path}
use Rattle.script_meaning.specs.Conduct.{Ending, Wants, Ends}
use Rattle.replayer.specs.declared.runner.Next.{Next}
use Rattle.replayer.specs.declared.runner.Next.TheVariants as code

-- An ending as it is given.
abbrev pub IsNext : Next → Ending → Type 0
IsNext (code.Wants op) ending = ending ≡ Wants op
IsNext (code.Ends response) ending = (path : Path) × (ending ≡ Ends response path)

-- the same, from the ending to how it is given
abbrev pub IsGivenAs : Ending → Next → Type 0
IsGivenAs ending next = IsNext next ending

-- the same, of a request that may not be open
abbrev pub IsNextIfOpen : Option Next → Option Ending → Type 0
IsNextIfOpen None ending = ending ≡ None
IsNextIfOpen (Some next) ending = (e : Ending) × (ending ≡ Some e) × IsNext next e
