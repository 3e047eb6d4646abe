-- What was printed is read again.
use Rattle.std.specs.Prelude.{◌≡◌, ℕ, List, [], ◌∷◌, length, map, Option, Some, None}
use Rattle.std.specs.List.{All}
use Rattle.script_tokens.specs.Kinds.{Kind}
use Rattle.script_tokens.specs.Scans.{Scan, bracket_of, open_behind, scan_of}
use Rattle.script_tokens.specs.Tokens.{IsSpelled}
use Rattle.script_tokens.specs.declared.fault.End.TheVariants.{File}
use Rattle.script_tree.specs.Programs.{Program}
use Rattle.script_grammar.specs.Files.{Spells}
use Rattle.script_print.specs.Placeless.{placeless}
use Rattle.script_print.specs.Prints.{joined}
use Rattle.script_print.specs.TreePrints.{printed_tree}

-- where so many brackets are open (none: too many), these tokens never open one too many
abbrev pub NestsWithin : Option ℕ → List Kind → Type 0
NestsWithin None ks = ⊥
NestsWithin (Some depth) [] = Unit {0}
NestsWithin (Some depth) (k ∷ ks) = NestsWithin (open_behind (bracket_of k) depth) ks

-- the scan has these tokens, places aside, up to the end of a file of so many bytes
abbrev pub Finds : List Kind → ℕ → Scan → Type 0
Finds ks len s = (map (λ t. t.kind) s.tokens ≡ ks) × (s.end ≡ File len)

-- tokens that some bytes spell, and that never open one bracket too many, are printed as bytes whose scan finds them
abbrev pub ReadsAgain : Type 0
ReadsAgain = (ks : List Kind) → All IsSpelled ks → NestsWithin (Some 0) ks → Finds ks (length (joined ks)) (scan_of (joined ks))

-- The tree that some bytes spell is printed as bytes that spell the same tree but for its places.
abbrev pub PrintsAgain : Type 0
PrintsAgain =
    (bytes : List ℕ) (tree : Program) → Spells bytes tree
    → (again : Program) × Spells (printed_tree tree) again × (placeless again ≡ placeless tree)
