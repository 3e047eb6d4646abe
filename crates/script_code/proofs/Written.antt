-- What was written of a program so far, and what the declarations that are left make of it.
use Rattle.std.proofs.Common.{◌≡◌, ◌∙◌, ◌+◌, ℕ, List, [], ◌∷◌, ◌++◌, Some, if◌then◌else◌, length, sym, ap, subst₂, append_assoc, length-append}
use Rattle.std.specs.Str.{bytes_eq}
use Rattle.script_tree.specs.Programs.{Program}
use Rattle.script_tree.specs.Syntax.{Statement}
use Rattle.script_tree.specs.declared.syntax.declaration.Declaration.{Declaration}
use Rattle.script_tree.specs.declared.syntax.declaration.Declaration.TheVariants.{Store, Table, Function, Page}
use Rattle.script_tree.specs.declared.syntax.name.Name.{Name}
use Rattle.script_code.specs.Code.{declaration_code, declarations_code, places_from, entry_from}
use Rattle.script_code.specs.Translated.{PutsPage}
use Rattle.script_code.specs.declared.translate.Code.{Code}
use Rattle.script_code.proofs.Entries.{told, one_more}

-- The code, and that of what is left of ds, is the code of ds. The next page has the number n.
pub record IsWritten (program : Program) (ds left : List Declaration) (n : ℕ) (code : Code) : Type 0 where
  pub instructions : code.instructions.items ++ declarations_code program left ≡ declarations_code program ds
  pub functions : code.functions.items ++ places_from program (length code.instructions.items) left ≡ places_from program 0 ds
  pub entries : (path : List ℕ) → told code.pages path (entry_from program n (length code.instructions.items) path left) ≡ entry_from program 0 0 path ds

pub written_store : (program : Program) (ds left : List Declaration) (n : ℕ) (code : Code) (at : ℕ) (name : Name)
    → IsWritten program ds (Store at name ∷ left) n code → IsWritten program ds left n code
written_store program ds left n code at name w = record { instructions = w.instructions; functions = w.functions; entries = w.entries }

pub written_table : (program : Program) (ds left : List Declaration) (n : ℕ) (code : Code) (at : ℕ) (name : Name) (columns : List Name)
    → IsWritten program ds (Table at name columns ∷ left) n code → IsWritten program ds left n code
written_table program ds left n code at name columns w = record { instructions = w.instructions; functions = w.functions; entries = w.entries }

pub written_function : (program : Program) (ds left : List Declaration) (n : ℕ) (old new : Code) (at : ℕ)
    (name : Name) (parameters : List Name) (body : List Statement) (place : ℕ)
    → new.instructions.items ≡ old.instructions.items ++ declaration_code program (Function at name parameters body)
    → new.functions.items ≡ old.functions.items ++ place ∷ [] → place ≡ length old.instructions.items → new.pages ≡ old.pages
    → IsWritten program ds (Function at name parameters body ∷ left) n old → IsWritten program ds left n new
written_function program ds left n old new at name parameters body place wrote noted here same w =
    let code = declaration_code program (Function at name parameters body) in
    let far : length new.instructions.items ≡ length old.instructions.items + length code = ap length wrote ∙ length-append old.instructions.items code in
    record {
      instructions = ap (λ l. l ++ declarations_code program left) wrote
          ∙ append_assoc old.instructions.items code (declarations_code program left) ∙ w.instructions;
      functions =
          (λ j. noted j ++ places_from program (far j) left)
          ∙ append_assoc old.functions.items (place ∷ []) _
          ∙ ap (λ k. old.functions.items ++ k ∷ places_from program (length old.instructions.items + length code) left) here
          ∙ w.functions;
      entries = λ (path : List ℕ). (λ j. told (same j) path (entry_from program n (far j) path left)) ∙ w.entries path;
    }

pub written_page : (program : Program) (ds left : List Declaration) (n : ℕ) (old new : Code) (at : ℕ) (name : Name) (body : List Statement) (place : ℕ)
    → new.instructions.items ≡ old.instructions.items ++ declaration_code program (Page at name body)
    → new.functions.items ≡ old.functions.items → place ≡ length old.instructions.items
    → PutsPage name.text (record { number = n; place = place }) old.pages new.pages
    → IsWritten program ds (Page at name body ∷ left) n old → IsWritten program ds left (n + 1) new
written_page program ds left n old new at name body place wrote same here puts w =
    let code = declaration_code program (Page at name body) in
    let far : length new.instructions.items ≡ length old.instructions.items + length code = ap length wrote ∙ length-append old.instructions.items code in
    record {
      instructions = ap (λ l. l ++ declarations_code program left) wrote
          ∙ append_assoc old.instructions.items code (declarations_code program left) ∙ w.instructions;
      functions = (λ j. same j ++ places_from program (far j) left) ∙ w.functions;
      entries = λ (path : List ℕ).
          (λ j. told new.pages path (entry_from program (n + 1) (far j) path left))
          ∙ sym (one_more old.pages new.pages name.text (record { number = n; place = place }) path
          (entry_from program (n + 1) (length old.instructions.items + length code) path left) puts)
          ∙ ap (λ k. told old.pages path (if bytes_eq path name.text then Some (record { number = n; place = k }) else entry_from program (n + 1) (length old.instructions.items + length code) path left)) here
          ∙ w.entries path;
    }

-- the same of what is equal
pub carried : (program : Program) (ds left : List Declaration) (m n : ℕ) (new code : Code) → m ≡ n → new ≡ code
    → IsWritten program ds left n code → IsWritten program ds left m new
carried program ds left m n new code few same w = subst₂ (λ k c. IsWritten program ds left k c) (sym few) (sym same) w
