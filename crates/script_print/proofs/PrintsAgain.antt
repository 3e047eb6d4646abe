-- A tree is printed as bytes that spell it but for its places.
use Rattle.std.proofs.Common.{◌≡◌, List, [], ◌∷◌, length, sym, ap, ◌∙◌, subst}
use Rattle.std.proofs.lemmas.List.Elements.{All-map}
use Rattle.script_tree.specs.Programs.{Program}
use Rattle.script_tokens.specs.Kinds.{Kind, Token}
use Rattle.script_tokens.specs.Scans.{scan_of}
use Rattle.script_tokens.specs.Tokens.{IsSpelled}
use Rattle.script_tokens.proofs.Spelled.{each_is_spelled}
use Rattle.script_grammar.specs.Files.{IsWhole, Spells}
use Rattle.script_grammar.specs.Grouping.{AreGroupedDeclarations}
use Rattle.script_grammar.specs.Spelling.{Mark, placed, anywhere, tree_spelling, AreTokens}
use Rattle.script_print.specs.Laws.{Finds, PrintsAgain}
use Rattle.script_print.specs.Placeless.{placeless}
use Rattle.script_print.specs.Prints.{joined}
use Rattle.script_print.specs.TreePrints.{kinds_of}
use Rattle.script_print.proofs.Replaced.{replaced_in}
use Rattle.script_print.proofs.Scanned.{kinds, nests}
use Rattle.script_print.proofs.ScansAgain.{reads_again}

kinds_are : (marks : List Mark) (ts : List Token) → AreTokens marks ts → kinds ts ≡ kinds_of marks
kinds_are [] ts h = ap kinds h
kinds_are (placed at k ∷ marks) ts h = ap kinds h.1 ∙ ap (λ ks. k ∷ ks) (kinds_are marks h.0 h.2)
kinds_are (anywhere k ∷ marks) ts h = ap kinds h.2 ∙ ap (λ ks. k ∷ ks) (kinds_are marks h.1 h.3)

abbrev IsAgain : Program → List Kind → Type 0
IsAgain tree ks = (again : Program) × Spells (joined ks) again × (placeless again ≡ placeless tree)

found_again : (tree : Program) (ks : List Kind) → AreGroupedDeclarations tree.declarations
    → ks ≡ kinds_of (tree_spelling tree) → Finds ks (length (joined ks)) (scan_of (joined ks)) → IsAgain tree ks
found_again tree ks grouped e found =
    let r = replaced_in tree.version tree.declarations (scan_of (joined ks)).tokens grouped (found.0 ∙ e) in (
      record { version = tree.version; declarations = r.tree },
      record { whole = subst IsWhole (sym found.1) tt; tree_is = record { spelled = r.spelled; grouped = r.fit } },
      ap (λ ds. record { version = tree.version; declarations = ds }) r.same,
    )

pub prints_again : PrintsAgain
prints_again bytes tree h =
    let ts = (scan_of bytes).tokens in
    let e = kinds_are (tree_spelling tree) ts h.tree_is.spelled in
    let found = reads_again (kinds ts) (All-map IsSpelled (λ t. t.kind) ts (each_is_spelled bytes)) (nests bytes 0 0 0) in
    subst (IsAgain tree) e (found_again tree (kinds ts) h.tree_is.grouped e found)
