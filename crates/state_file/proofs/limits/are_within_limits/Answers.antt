use Rattle.std.proofs.Common.{◌≡◌, ◌∙◌, List, Bool, true, false, ◌&&◌, sym, ap, pos, rules, to_z, of_z, w64}
use Rattle.std.specs.Prelude.{int_le}
use Rattle.std.specs.List.{list_all}
use Rattle.script_tree.specs.Transactions.{Row}
use Rattle.state_file.specs.Faults.{are_entries_within_limits, are_rows_within_limits}
use Rattle.json_texts.specs.Shapes.{Named}
use Rattle.state_file.specs.Givens.{Entry}
use Rattle.state_file.proofs.limits.are_within_limits.Goals.{then-are_entries_within_limits, else-are_entries_within_limits, then-are_stores_within_limits, else-are_stores_within_limits}
use Rattle.state_file.proofs.limits.are_within_limits.Goals as goal

abbrev stores_within : Named (List Entry) → Bool
stores_within s = are_entries_within_limits s.1

abbrev tables_within : Named (List Row) → Bool
tables_within t = are_rows_within_limits t.1

pub returns-then-are_tables_within_limits : goal.returns-then-are_tables_within_limits
returns-then-are_tables_within_limits c =
    let given = c.args.given.now in
    let clock : to_z w64 (of_z w64 given.clock) ≡ given.clock = search rules in
    let entries : are_entries_within_limits given.registers ≡ c.are_entries_within_limits.result = sym (c.are_entries_within_limits.ensures ∙ ap are_entries_within_limits c.as_slice.ensures) in
    elim c.if-are_stores_within_limits.branch [
      | then-are_stores_within_limits w ↦ elim c.if-are_entries_within_limits.branch [
        | then-are_entries_within_limits v ↦
            let stores : list_all stores_within given.stores ≡ true = sym (v.are_stores_within_limits.ensures ∙ ap (list_all stores_within) v.as_slice-then-are_entries_within_limits.ensures) ∙ sym v.value-is ∙ w.if-are_stores_within_limits.true in
            let tables : list_all tables_within given.tables ≡ true = sym (w.are_tables_within_limits.ensures ∙ ap (list_all tables_within) w.as_slice-then-are_stores_within_limits.ensures) ∙ sym w.value-is ∙ c.if-are_tables_within_limits.true in
            let registers = entries ∙ v.if-are_entries_within_limits.true in
            c.is_reading.ensures ∙ ap (int_le (pos 0)) clock ∙ (λ i. sym registers i && sym stores i && sym tables i && int_le (pos 0) given.clock)
        | else-are_entries_within_limits v ↦ absurd (let no = sym v.value-is ∙ w.if-are_stores_within_limits.true in let e = v.if-are_entries_within_limits.false in cc)
      ]
      | else-are_stores_within_limits w ↦ absurd (let no = sym w.value-is ∙ c.if-are_tables_within_limits.true in let e = w.if-are_stores_within_limits.false in cc)
    ]

pub returns-else-are_tables_within_limits : goal.returns-else-are_tables_within_limits
returns-else-are_tables_within_limits c =
    let given = c.args.given.now in
    let entries : are_entries_within_limits given.registers ≡ c.are_entries_within_limits.result = sym (c.are_entries_within_limits.ensures ∙ ap are_entries_within_limits c.as_slice.ensures) in
    elim c.if-are_stores_within_limits.branch [
      | then-are_stores_within_limits w ↦ elim c.if-are_entries_within_limits.branch [
        | then-are_entries_within_limits v ↦
            let stores : list_all stores_within given.stores ≡ true = sym (v.are_stores_within_limits.ensures ∙ ap (list_all stores_within) v.as_slice-then-are_entries_within_limits.ensures) ∙ sym v.value-is ∙ w.if-are_stores_within_limits.true in
            let tables : list_all tables_within given.tables ≡ false = sym (w.are_tables_within_limits.ensures ∙ ap (list_all tables_within) w.as_slice-then-are_stores_within_limits.ensures) ∙ sym w.value-is ∙ c.if-are_tables_within_limits.false in
            let registers = entries ∙ v.if-are_entries_within_limits.true in
            c.if-are_tables_within_limits.false ∙ (λ i. sym registers i && sym stores i && sym tables i && int_le (pos 0) given.clock)
        | else-are_entries_within_limits v ↦ absurd (let no = sym v.value-is ∙ w.if-are_stores_within_limits.true in let e = v.if-are_entries_within_limits.false in cc)
      ]
      | else-are_stores_within_limits w ↦ elim c.if-are_entries_within_limits.branch [
        | then-are_entries_within_limits v ↦
            let stores : list_all stores_within given.stores ≡ false = sym (v.are_stores_within_limits.ensures ∙ ap (list_all stores_within) v.as_slice-then-are_entries_within_limits.ensures) ∙ sym v.value-is ∙ w.if-are_stores_within_limits.false in
            let registers = entries ∙ v.if-are_entries_within_limits.true in
            c.if-are_tables_within_limits.false ∙ (λ i. sym registers i && sym stores i && list_all tables_within given.tables && int_le (pos 0) given.clock)
        | else-are_entries_within_limits v ↦
            let registers = entries ∙ v.if-are_entries_within_limits.false in
            c.if-are_tables_within_limits.false ∙ (λ i. sym registers i && list_all stores_within given.stores
            && list_all tables_within given.tables && int_le (pos 0) given.clock)
      ]
    ]
