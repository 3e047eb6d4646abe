use Rattle.std.proofs.Common.{◌≡◌, ◌∙◌, ◌+◌, ℕ, List, [], ◌∷◌, ◌++◌, drop, length, sym, ap, refl, subst, arith}
use Rattle.std.proofs.lemmas.List.{drop_more, drop_all, append-nil}
use Rattle.script_tree.specs.SyntaxLists.{statements_of}
use Rattle.script_code.specs.Code.{texts, block_code, declarations_code, places_from, entry_from}
use Rattle.script_code.specs.declared.instruction.Instruction.TheVariants.{End, Halt}
use Rattle.script_code.specs.declared.translate.Code.{Code}
use Rattle.script_code.specs.Translated.{IsEmpty}
use Rattle.script_code.proofs.Entries.{none_so_far, none_left}
use Rattle.script_code.proofs.Written.{IsWritten, carried, written_store, written_table, written_function, written_page}
use Rattle.script_code.proofs.translate.write_declarations.Goals as goal
use Rattle.script_code.proofs.translate.write_declarations.Goals.{in-Store, in-Table, in-Function+in_ok-push-in-Function+in_ok-function-in-Function, in-Page+in_ok-add-in-Page+in_ok-page-in-Page}

pub loop-declaration-init : goal.loop-declaration-init
loop-declaration-init c =
    let program = c.args.program.now in
    let ds = c.declarations-declaration-items.result.now in
    record {
      few = omega arith;
      written = λ same empty. record {
        instructions = ap (λ l. l ++ declarations_code program ds) empty.instructions;
        functions = λ j. empty.functions j ++ places_from program (length (empty.instructions j)) ds;
        entries = λ (path : List ℕ). none_so_far c.args.code.now.pages path _ empty.pages
            ∙ ap (λ l. entry_from program 0 (length l) path ds) empty.instructions;
      };
    }

pub loop-declaration-preserved : goal.loop-declaration-preserved
loop-declaration-preserved c =
    let program = c.args.program.now in
    let ds = c.declarations-declaration-items.result.now in
    let i = c.loop-declaration.declaration-index in
    let d = c.declaration-item.result in
    let old = c.loop-declaration.code in
    let n = c.loop-declaration.page_count in
    let so_far = c.loop-declaration.invariant in
    let left = drop (i + 1) ds in
    let place : c.len-place.result ≡ length old.instructions.items = c.len-place.ensures ∙ old.instructions.ok.0 in
    let here : drop i ds ≡ d ∷ left = drop_more ds i d c.loop-declaration-test.true ∙ ap (λ e. e ∷ left) (sym c.declaration-item.is) in
    let written : c.args.emitter.now ≡ program → IsEmpty c.args.code.now → IsWritten program ds (d ∷ left) n old = λ same empty. subst (λ l. IsWritten program ds l n old) here (so_far.written same empty) in
    let to : (m : ℕ) (code : Code) → c.match-declaration.page_count ≡ m → c.match-declaration.code ≡ code → IsWritten program ds left m code → IsWritten program ds left c.match-declaration.page_count c.match-declaration.code =
    λ m code few same w. carried program ds left c.match-declaration.page_count m c.match-declaration.code code few same w in
    elim c.match-declaration.branch [
      | in-Store w ↦ record {
        few = omega (arith, w.page_count-is, so_far.few);
        written = λ same empty. to n old w.page_count-is w.code-is
            (written_store program ds left n old w.in-Store.at w.in-Store.name
            (subst (λ e. IsWritten program ds (e ∷ left) n old) w.in-Store.is (written same empty)));
      }
      | in-Table w ↦ record {
        few = omega (arith, w.page_count-is, so_far.few);
        written = λ same empty. to n old w.page_count-is w.code-is
            (written_table program ds left n old w.in-Table.at w.in-Table.name w.in-Table.columns
            (subst (λ e. IsWritten program ds (e ∷ left) n old) w.in-Table.is (written same empty)));
      }
      | in-Function+in_ok-push-in-Function+in_ok-function-in-Function w ↦
          let new : Code = record { instructions = w.function.new.code; functions = w.push.new.self; pages = old.pages } in
          let wrote = λ (same : c.args.emitter.now ≡ program).
          w.in_ok-function-in-Function.ensures
          ∙ (λ j. old.instructions.items ++ (block_code (same j) (texts (w.as_slice.ensures j)) (statements_of w.in-Function.body) ++ End ∷ [])) in
          record {
            few = omega (arith, w.page_count-is, so_far.few);
            written = λ same empty. to n new w.page_count-is w.code-is
                (written_function program ds left n old new w.in-Function.at w.in-Function.name w.in-Function.parameters w.in-Function.body c.len-place.result (wrote same) w.in_ok-push-in-Function.ensures.items place refl
                (subst (λ e. IsWritten program ds (e ∷ left) n old) w.in-Function.is (written same empty)));
          }
      | in-Page+in_ok-add-in-Page+in_ok-page-in-Page w ↦
          let new : Code = record { instructions = w.page.new.code; functions = old.functions; pages = w.add.new.pages } in
          let wrote = λ (same : c.args.emitter.now ≡ program).
          w.in_ok-page-in-Page.ensures ∙ (λ j. old.instructions.items
          ++ (block_code (same j) [] (statements_of w.in-Page.body) ++ Halt ∷ [])) in
          record {
            few = omega (arith, w.page_count-is, so_far.few);
            written = λ same empty. to (n + 1) new w.page_count-is w.code-is
                (written_page program ds left n old new w.in-Page.at w.in-Page.path w.in-Page.body c.len-place.result (wrote same) refl place w.in_ok-add-in-Page.ensures
                (subst (λ e. IsWritten program ds (e ∷ left) n old) w.in-Page.is (written same empty)));
          }
    ]

pub returns : goal.returns
returns c =
    let program = c.args.program.now in
    let ds = c.declarations-declaration-items.result.now in
    let i = c.loop-declaration.declaration-index in
    let code = c.loop-declaration.code in
    let n = c.loop-declaration.page_count in
    let declared = c.declarations-declaration-items.ensures.declarations in
    λ same empty.
    let w : IsWritten program ds [] n code = subst (λ left. IsWritten program ds left n code) (drop_all i ds c.loop-declaration-test.false) (c.loop-declaration.invariant.written same empty) in
    record {
      instructions = sym (append-nil code.instructions.items) ∙ w.instructions ∙ ap (declarations_code program) declared;
      functions = sym (append-nil code.functions.items) ∙ w.functions ∙ ap (places_from program 0) declared;
      entries = λ (path : List ℕ). none_left code.pages path ∙ w.entries path ∙ ap (entry_from program 0 0 path) declared;
    }
