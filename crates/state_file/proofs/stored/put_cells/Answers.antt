use Rattle.std.proofs.Common.{◌≡◌, ◌∙◌, List, [], ◌∷◌, ◌++◌, true, append_assoc, ap, refl, sym, is_some, rules}
use Rattle.std.specs.Map.{keys_of}
use Rattle.std.specs.Prelude.{not}
use Rattle.state_file.specs.Faults.{is_entry_within_limits, are_entries_within_limits}
use Rattle.state_file.specs.Givens.{Entry}
use Rattle.json_texts.specs.Shapes.{has_twice}
use Rattle.state_file.specs.Stored.{given_at}
use Rattle.state_file.proofs.Cells.{fills_nothing, fills_more, filled}
use Rattle.state_file.proofs.Entries.{stands, twice_behind, all_in_front}
use Rattle.state_file.proofs.stored.put_cells.Goals as goal

pub loop-key-init : goal.loop-key-init
loop-key-init c = (
  [],
  search rules,
  refl,
  record {
    cells = fills_nothing c.args.store.now c.args.objects.now.stores c.requires.empty;
    others = record { same = λ s. refl; registers = refl; tables = refl; clock = refl };
  },
  c.requires.within,
)

pub returns-then-branch-clause-done : goal.returns-then-branch-clause-done
returns-then-branch-clause-done c =
    let i = c.loop-key.invariant in
    let last = i.0 in
    let key = c.in-Some.key in
    let value = c.in-Some.value in
    let front = c.pop.new.self.items in
    let all : c.args.entries.items ≡ front ++ (key, value) ∷ last = i.1 ∙ ap (λ (es : List Entry). es ++ last) c.in-Some.ensures.items ∙ append_assoc front ((key, value) ∷ []) last in
    let had : c.in_ok-put_cell.field-0 ≡ is_some (given_at last key) = c.in_ok-put_cell.ensures.had ∙ ap is_some (filled c.args.store.now last c.args.objects.now.stores c.loop-key.objects.stores i.3.cells key) in
    let twice : has_twice (keys_of ((key, value) ∷ last)) ≡ true = stands key value last c.in_ok-put_cell.field-0 had i.2 ∙ c.if-branch.true in
    sym (ap (λ es. not (has_twice (keys_of es))) all ∙ ap not (twice_behind front ((key, value) ∷ last) twice))

pub loop-key-preserved : goal.loop-key-preserved
loop-key-preserved c =
    let i = c.loop-key.invariant in
    let last = i.0 in
    let key = c.in-Some.key in
    let value = c.in-Some.value in
    let front = c.pop.new.self.items in
    let all : c.args.entries.items ≡ front ++ (key, value) ∷ last = i.1 ∙ ap (λ (es : List Entry). es ++ last) c.in-Some.ensures.items ∙ append_assoc front ((key, value) ∷ []) last in
    let had : c.in_ok-put_cell.field-0 ≡ is_some (given_at last key) = c.in_ok-put_cell.ensures.had ∙ ap is_some (filled c.args.store.now last c.args.objects.now.stores c.loop-key.objects.stores i.3.cells key) in
    let put = c.in_ok-put_cell.ensures.put in (
      (key, value) ∷ last,
      all,
      stands key value last c.in_ok-put_cell.field-0 had i.2 ∙ c.if-branch.false,
      record {
        cells = fills_more c.args.store.now key value last c.args.objects.now.stores c.loop-key.objects.stores c.put_cell.new.self.stores i.3.cells put.cell;
        others = record {
          same = λ s. put.cell.same s ∙ i.3.others.same s;
          registers = put.registers ∙ i.3.others.registers;
          tables = put.tables ∙ i.3.others.tables;
          clock = put.clock ∙ i.3.others.clock;
        };
      },
      all_in_front is_entry_within_limits front (key, value) (ap are_entries_within_limits (sym c.in-Some.ensures.items) ∙ i.4),
    )
