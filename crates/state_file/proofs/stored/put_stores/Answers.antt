use Rattle.std.proofs.Common.{◌≡◌, ◌∙◌, ℕ, List, [], ◌∷◌, ◌++◌, false, append_assoc, ap, refl, sym, subst, unwrap_or, rules}
use Rattle.std.specs.Bool.{OnTrue}
use Rattle.std.specs.List.{list_all}
use Rattle.std.specs.Map.{keys_of}
use Rattle.std.specs.Prelude.{not}
use Rattle.object_cells.specs.Stores.{has_store}
use Rattle.state_file.specs.Faults.{are_entries_within_limits, some_key_is_twice}
use Rattle.json_texts.specs.Shapes.{Named, has_twice}
use Rattle.state_file.specs.Givens.{Entry}
use Rattle.state_file.specs.Puts.{PutsCells}
use Rattle.state_file.specs.Stored.{given_at}
use Rattle.state_file.proofs.Cells.{one_more}
use Rattle.state_file.proofs.Entries.{once_behind, not_behind, all_in_front, twice_key, no_twice_key}
use Rattle.state_file.proofs.stored.put_stores.Goals as goal

pub loop-name-init : goal.loop-name-init
loop-name-init c = (
  [],
  search rules,
  refl,
  record {
    cells = c.requires.empty;
    others = record { same = λ s. refl; registers = refl; tables = refl; clock = refl };
  },
  c.requires.within,
  c.requires.there,
)

pub put_store-requires-clause-empty : goal.put_store-requires-clause-empty
put_store-requires-clause-empty c =
    let i = c.loop-name.invariant in
    let last = i.0 in
    let name = c.in-Some.name in
    let entries = c.in-Some.entries in
    let front = c.pop.new.self.items in
    let all : c.args.stores.items ≡ front ++ (name, entries) ∷ last = i.1 ∙ ap (λ (ss : List (Named (List Entry))). ss ++ last) c.in-Some.ensures.items ∙ append_assoc front ((name, entries) ∷ []) last in
    let once : has_twice (keys_of ((name, entries) ∷ last)) ≡ false = once_behind front ((name, entries) ∷ last) (ap (λ ss. has_twice (keys_of ss)) (sym all) ∙ c.requires.once) in
    λ (k : List ℕ). i.3.cells name k ∙ ap (λ o. given_at (unwrap_or o []) k) (not_behind name entries last once)

pub returns-then-not-branch-clause-done : goal.returns-then-not-branch-clause-done
returns-then-not-branch-clause-done c =
    let i = c.loop-name.invariant in
    let last = i.0 in
    let name = c.in-Some.name in
    let entries = c.in-Some.entries in
    let front = c.pop.new.self.items in
    let all : c.args.stores.items ≡ front ++ (name, entries) ∷ last = i.1 ∙ ap (λ (ss : List (Named (List Entry))). ss ++ last) c.in-Some.ensures.items ∙ append_assoc front ((name, entries) ∷ []) last in
    let twice = c.in_ok-put_store.ensures.done ∙ ap (λ es. not (has_twice (keys_of es))) c.into_vec.ensures in
    sym (ap (λ ss. not (some_key_is_twice ss)) all ∙ ap not (twice_key front name entries last c.in_ok-put_store.field-0 twice c.if-not-branch.true))

pub loop-name-preserved : goal.loop-name-preserved
loop-name-preserved c =
    let i = c.loop-name.invariant in
    let last = i.0 in
    let name = c.in-Some.name in
    let entries = c.in-Some.entries in
    let front = c.pop.new.self.items in
    let old = c.loop-name.objects in
    let new = c.put_store.new.objects in
    let all : c.args.stores.items ≡ front ++ (name, entries) ∷ last = i.1 ∙ ap (λ (ss : List (Named (List Entry))). ss ++ last) c.in-Some.ensures.items ∙ append_assoc front ((name, entries) ∷ []) last in
    let twice = c.in_ok-put_store.ensures.done ∙ ap (λ es. not (has_twice (keys_of es))) c.into_vec.ensures in
    let put : PutsCells name entries old new = subst (λ es. PutsCells name es old new) c.into_vec.ensures (subst (λ done. OnTrue done (PutsCells name c.into_vec.result.items old new)) c.if-not-branch.false c.in_ok-put_store.ensures.put) in (
      (name, entries) ∷ last,
      all,
      no_twice_key name entries last c.in_ok-put_store.field-0 twice c.if-not-branch.false i.2,
      record {
        cells = one_more name entries last old.stores new.stores i.3.cells put.cells;
        others = record {
          same = λ s. put.others.same s ∙ i.3.others.same s;
          registers = put.others.registers ∙ i.3.others.registers;
          tables = put.others.tables ∙ i.3.others.tables;
          clock = put.others.clock ∙ i.3.others.clock;
        };
      },
      all_in_front (λ s. are_entries_within_limits s.1) front (name, entries)
          (ap (λ ss. list_all (λ s. are_entries_within_limits s.1) ss) (sym c.in-Some.ensures.items) ∙ i.4),
      all_in_front (λ s. has_store c.args.objects.now.stores s.0) front (name, entries)
          (ap (λ ss. list_all (λ s. has_store c.args.objects.now.stores s.0) ss) (sym c.in-Some.ensures.items) ∙ i.5),
    )
