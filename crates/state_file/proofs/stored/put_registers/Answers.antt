use Rattle.std.proofs.Common.{◌≡◌, ◌∙◌, ℕ, List, [], ◌∷◌, ◌++◌, Some, true, append_assoc, cond, ap, sym, is_some}
use Rattle.std.specs.Map.{keys_of}
use Rattle.std.specs.Prelude.{not}
use Rattle.std.specs.Str.{bytes_eq}
use Rattle.state_file.specs.Faults.{is_entry_within_limits, are_entries_within_limits}
use Rattle.state_file.specs.Givens.{Entry}
use Rattle.json_texts.specs.Shapes.{has_twice}
use Rattle.state_file.specs.Stored.{given_at}
use Rattle.state_file.proofs.Entries.{stands, twice_behind, all_in_front}
use Rattle.state_file.proofs.stored.put_registers.Goals as goal

pub returns-then-branch-clause-done : goal.returns-then-branch-clause-done
returns-then-branch-clause-done c =
    let i = c.loop-name.invariant in
    let last = i.0 in
    let name = c.in-Some.name in
    let value = c.in-Some.value in
    let front = c.pop.new.self.items in
    let all : c.args.registers.items ≡ front ++ (name, value) ∷ last = i.1 ∙ ap (λ (es : List Entry). es ++ last) c.in-Some.ensures.items ∙ append_assoc front ((name, value) ∷ []) last in
    let had : c.in_ok-put_register.field-0 ≡ is_some (given_at last name) = c.in_ok-put_register.ensures.had ∙ ap is_some (i.3.registers name) in
    let twice : has_twice (keys_of ((name, value) ∷ last)) ≡ true = stands name value last c.in_ok-put_register.field-0 had i.2 ∙ c.if-branch.true in
    sym (ap (λ es. not (has_twice (keys_of es))) all ∙ ap not (twice_behind front ((name, value) ∷ last) twice))

pub loop-name-preserved : goal.loop-name-preserved
loop-name-preserved c =
    let i = c.loop-name.invariant in
    let last = i.0 in
    let name = c.in-Some.name in
    let value = c.in-Some.value in
    let front = c.pop.new.self.items in
    let all : c.args.registers.items ≡ front ++ (name, value) ∷ last = i.1 ∙ ap (λ (es : List Entry). es ++ last) c.in-Some.ensures.items ∙ append_assoc front ((name, value) ∷ []) last in
    let had : c.in_ok-put_register.field-0 ≡ is_some (given_at last name) = c.in_ok-put_register.ensures.had ∙ ap is_some (i.3.registers name) in
    let put = c.in_ok-put_register.ensures.put in (
      (name, value) ∷ last,
      all,
      stands name value last c.in_ok-put_register.field-0 had i.2 ∙ c.if-branch.false,
      record {
        registers = λ (x : List ℕ). put.register x ∙ ap (λ r. cond (bytes_eq x name) (Some value) r) (i.3.registers x);
        stores = put.stores ∙ i.3.stores;
        tables = put.tables ∙ i.3.tables;
        clock = put.clock ∙ i.3.clock;
      },
      all_in_front is_entry_within_limits front (name, value) (ap are_entries_within_limits (sym c.in-Some.ensures.items) ∙ i.4),
    )
