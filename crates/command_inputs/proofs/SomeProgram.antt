-- A text is a program, or has a fault.
use Rattle.std.proofs.Common.{◌≡◌, ◌∙◌, ℕ, List, [], ◌∷◌, Option, Some, None, ◌⊎◌, inl, inr, refl, ap}
use Rattle.script_tree.specs.Programs.{Program, program_of}
use Rattle.script_tree.specs.declared.syntax.declaration.Declaration.{Declaration}
use Rattle.script_tokens.specs.Feed.{fault_of}
use Rattle.script_tokens.specs.Scans.{scan_of}
use Rattle.script_tokens.specs.declared.fault.End.{End}
use Rattle.script_tokens.specs.declared.fault.End.TheVariants.{File, Fault}
use Rattle.script_tokens.specs.declared.fault.SyntaxFault.{SyntaxFault}
use Rattle.script_grammar.specs.Files.{Spells, SpellsNone}
use Rattle.script_grammar.specs.Machine.{Parsing, done, stuck, of_declarations, run_file}
use Rattle.script_grammar.proofs.Exact.{Answers, exact}
use Rattle.script_check.specs.Least.{lower}
use Rattle.script_check.specs.Validity.{faults_of}
use Rattle.script_check.specs.declared.fault.CheckFault.{CheckFault}
use Rattle.script_check.proofs.Least.{lowered_none, lowered_some}
use Rattle.script_syntax.specs.Parses.{stuck_fault}
use Rattle.script_syntax.proofs.Parses.{whole_file, faulty_end, faulty_file}
use Rattle.command_inputs.specs.Program.{SpellsProgram, IsProgramFault}
use Rattle.command_inputs.specs.declared.fault.InputFault.{InputFault}
use Rattle.command_inputs.specs.declared.fault.InputFault.TheVariants.{Syntax, Check}

-- a tree that the bytes spell, or their first fault
abbrev TreeOrFault : List ℕ → Type 0
TreeOrFault bytes = ((tree : Program) × Spells bytes tree) ⊎ ((fault : SyntaxFault) × SpellsNone bytes fault)

tree_or_fault : (bytes : List ℕ) → TreeOrFault bytes
tree_or_fault bytes = by (run_file (scan_of bytes).tokens) refl (exact (scan_of bytes).tokens)
  where
    by_end : (ds : List Declaration) → run_file (scan_of bytes).tokens ≡ done (of_declarations ds ∷ []) → (end : End)
        → (scan_of bytes).end ≡ end → TreeOrFault bytes
    by_end ds whole (File n) is = inl (program_of ds, (whole_file bytes ds n whole is).spells)
    by_end ds whole (Fault f) is = inr (f, faulty_end bytes ds f whole is)

    by : (o : Parsing) → run_file (scan_of bytes).tokens ≡ o → Answers (scan_of bytes).tokens o → TreeOrFault bytes
    by (done out) is answers = by_end answers.0 (is ∙ ap (λ vs. done vs) answers.1) (scan_of bytes).end refl
    by (stuck rest) is answers =
        inr (fault_of rest (scan_of bytes).end, faulty_file bytes _ (ap (λ o. stuck_fault o (scan_of bytes).end) is))

-- a program that the bytes spell, or the fault that is told
pub program_or_not : (bytes : List ℕ) → ((program : Program) × SpellsProgram bytes program) ⊎ ((fault : InputFault) × IsProgramFault bytes fault)
program_or_not bytes = by (tree_or_fault bytes)
  where
    checked : (tree : Program) → Spells bytes tree → (o : Option CheckFault) → lower None (faults_of tree) ≡ o
        → ((program : Program) × SpellsProgram bytes program) ⊎ ((fault : InputFault) × IsProgramFault bytes fault)
    checked tree spells None is = inl (tree, record { tree = spells; valid = lowered_none (faults_of tree) is })
    checked tree spells (Some least) is =
        let found = lowered_some (faults_of tree) least is in
        inr (
          Check least,
          inr (record {
            tree = tree;
            least = least;
            spells = spells;
            is_least = record { there = found.0; least = found.1 };
            fault_is = refl;
          }),
        )

    by : TreeOrFault bytes → ((program : Program) × SpellsProgram bytes program) ⊎ ((fault : InputFault) × IsProgramFault bytes fault)
    by (inl (tree, spells)) = checked tree spells (lower None (faults_of tree)) refl
    by (inr (fault, none)) = inr (Syntax fault, inl (record { first = fault; none = none; fault_is = refl }))
