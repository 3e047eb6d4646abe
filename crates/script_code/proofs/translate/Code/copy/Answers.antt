use Rattle.std.proofs.Common.{rules, ◌≡◌, ◌∙◌, ◌≤◌, ℕ, List, length, sym, subst}
use Rattle.std.specs.BTreeMap.{is_at}
use Rattle.std.specs.Map.{lookup}
use Rattle.std.specs.Cmp.Lexicographic.{slice_cmp}
use Rattle.std.specs.Ordering.{nat_cmp}
use Rattle.std.specs.Prelude.{option_map}
use Rattle.std.proofs.lemmas.List.{take_all}
use Rattle.std.proofs.lemmas.List.Elements.{same_from_all_zip}
use Rattle.script_code.specs.Means.{Means}
use Rattle.script_code.specs.Translated.{entry_of}
use Rattle.script_code.specs.declared.instruction.Instruction.{Instruction}
use Rattle.script_code.specs.declared.translate.PageEntry.{PageEntry}
use Rattle.script_code.proofs.translate.Code.copy.Goals as goal

pub returns : goal.returns
returns c program means =
    let code = c.args.self.now in
    let functions : c.in_ok-to_vec.field-0.items ≡ code.functions.items = search rules in
    let all : length c.deref-instruction-items.result.now ≤ c.loop-instruction.instruction-index = search rules in
    let instructions : c.loop-instruction.instructions.items ≡ code.instructions.items
    = c.loop-instruction.invariant ∙ take_all c.loop-instruction.instruction-index c.deref-instruction-items.result.now all ∙ c.deref-instruction-items.ensures.value in
    let pages : c.in_ok-clone.field-0.entries ≡ code.pages.entries = search (rules, same_from_all_zip) in
    subst (λ (parts : List ℕ × (List Instruction × List (List ℕ × PageEntry))).
    Means program parts.0 parts.1.0
    (λ path. option_map entry_of (lookup (is_at (λ key. slice_cmp nat_cmp path key)) parts.1.1)))
    (λ z. (sym functions z, (sym instructions z, sym pages z))) means
