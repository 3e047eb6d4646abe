use Rattle.std.proofs.Common.{◌≡◌, ◌∙◌, ◌+◌, ℕ, List, ◌∷◌, if◌then◌else◌, Some, drop, sym, ap, subst, arith}
use Rattle.std.proofs.lemmas.List.{drop_more, at_drop_all}
use Rattle.std.specs.Str.{bytes_eq}
use Rattle.script_check.specs.Indexes.{Puts}
use Rattle.script_tree.specs.Declarations.{page_from, function_from, table_from}
use Rattle.script_check.specs.FoundByName.{page_of, function_of, table_of}
use Rattle.script_check.specs.declared.lookup.FoundTable.{FoundTable}
use Rattle.script_check.proofs.Told.{told, none_so_far, one_more, none_left}
use Rattle.script_check.proofs.lookup.found_in.Goals as goal
use Rattle.script_check.proofs.lookup.found_in.Goals.{in-Store, in-Table+in_ok-add-in-Table, in-Function+in_ok-add-in-Function, in-Page+in_ok-add-in-Page}

pub loop-declaration-init : goal.loop-declaration-init
loop-declaration-init c =
    let ds = c.declarations-declaration-items.result.now in
    record {
      pages = λ (x : List ℕ). none_so_far page_of c.new.result x (page_from 0 x ds) c.new.ensures.empty;
      functions = λ (x : List ℕ). none_so_far function_of c.new-2.result x (function_from x ds) c.new-2.ensures.empty;
      tables = λ (x : List ℕ). none_so_far table_of c.new-3.result x (table_from 0 x ds) c.new-3.ensures.empty;
      few_pages = omega arith;
      few_tables = omega arith;
    }

pub loop-declaration-preserved : goal.loop-declaration-preserved
loop-declaration-preserved c =
    let ds = c.declarations-declaration-items.result.now in
    let i = c.loop-declaration.declaration-index in
    let d = c.declaration-item.result in
    let old = c.loop-declaration.found in
    let n = c.loop-declaration.page_count in
    let m = c.loop-declaration.table_count in
    let so_far = c.loop-declaration.invariant in
    let left = drop (i + 1) ds in
    let here : drop i ds ≡ d ∷ left = drop_more ds i d c.loop-declaration-test.true ∙ ap (λ e. e ∷ left) (sym c.declaration-item.is) in
    let pages : (x : List ℕ) → told page_of old.pages x (page_from n x (d ∷ left)) ≡ page_from 0 x ds = λ x. ap (λ l. told page_of old.pages x (page_from n x l)) (sym here) ∙ so_far.pages x in
    let functions : (x : List ℕ) → told function_of old.functions x (function_from x (d ∷ left)) ≡ function_from x ds = λ x. ap (λ l. told function_of old.functions x (function_from x l)) (sym here) ∙ so_far.functions x in
    let tables : (x : List ℕ) → told table_of old.tables x (table_from m x (d ∷ left)) ≡ table_from 0 x ds = λ x. ap (λ l. told table_of old.tables x (table_from m x l)) (sym here) ∙ so_far.tables x in
    elim c.match-declaration.branch [
      | in-Store w ↦ record {
        pages = λ (x : List ℕ). (λ j. told page_of (w.found-is j).pages x (page_from (w.page_count-is j) x left))
            ∙ ap (λ e. told page_of old.pages x (page_from n x (e ∷ left))) (sym w.in-Store.is) ∙ pages x;
        functions = λ (x : List ℕ). (λ j. told function_of (w.found-is j).functions x (function_from x left))
            ∙ ap (λ e. told function_of old.functions x (function_from x (e ∷ left))) (sym w.in-Store.is)
            ∙ functions x;
        tables = λ (x : List ℕ). (λ j. told table_of (w.found-is j).tables x (table_from (w.table_count-is j) x left))
            ∙ ap (λ e. told table_of old.tables x (table_from m x (e ∷ left))) (sym w.in-Store.is) ∙ tables x;
        few_pages = omega (arith, w.page_count-is, so_far.few_pages);
        few_tables = omega (arith, w.table_count-is, so_far.few_tables);
      }
      | in-Table+in_ok-add-in-Table w ↦
          let name = w.in-Table.name.text in
          let table : FoundTable = record { number = m; columns = w.as_slice.result } in
          let puts : Puts name table old.tables w.add.new.map = subst (λ t. Puts t table old.tables w.add.new.map) w.as_bytes.ensures w.in_ok-add-in-Table.ensures in
          let meant : table_of table ≡ record { number = m; columns = w.in-Table.columns } = λ j. record { number = m; columns = w.as_slice.ensures j } in
          record {
            pages = λ (x : List ℕ). (λ j. told page_of (w.found-is j).pages x (page_from (w.page_count-is j) x left))
                ∙ ap (λ e. told page_of old.pages x (page_from n x (e ∷ left))) (sym w.in-Table.is) ∙ pages x;
            functions = λ (x : List ℕ). (λ j. told function_of (w.found-is j).functions x (function_from x left))
                ∙ ap (λ e. told function_of old.functions x (function_from x (e ∷ left))) (sym w.in-Table.is)
                ∙ functions x;
            tables = λ (x : List ℕ).
                (λ j. told table_of (w.found-is j).tables x (table_from (w.table_count-is j) x left))
                ∙ sym (one_more table_of old.tables w.add.new.map name table x (table_from (m + 1) x left) puts)
                ∙ ap (λ t. told table_of old.tables x (if bytes_eq x name then Some t else table_from (m + 1) x left)) meant
                ∙ ap (λ e. told table_of old.tables x (table_from m x (e ∷ left))) (sym w.in-Table.is) ∙ tables x;
            few_pages = omega (arith, w.page_count-is, so_far.few_pages);
            few_tables = omega (arith, w.table_count-is, so_far.few_tables);
          }
      | in-Function+in_ok-add-in-Function w ↦
          let name = w.in-Function.name.text in
          record {
            pages = λ (x : List ℕ). (λ j. told page_of (w.found-is j).pages x (page_from (w.page_count-is j) x left))
                ∙ ap (λ e. told page_of old.pages x (page_from n x (e ∷ left))) (sym w.in-Function.is) ∙ pages x;
            functions = λ (x : List ℕ).
                (λ j. told function_of (w.found-is j).functions x (function_from x left))
                ∙ sym (one_more function_of old.functions w.add-in-Function.new.map w.as_bytes-in-Function.result.now _ x (function_from x left) w.in_ok-add-in-Function.ensures)
                ∙ ap (λ t. told function_of old.functions x (if bytes_eq x t then Some (record { parameters = w.as_slice-in-Function.result.now; body = w.in-Function.body }) else function_from x left)) w.as_bytes-in-Function.ensures
                ∙ ap (λ ps. told function_of old.functions x (if bytes_eq x name then Some (record { parameters = ps; body = w.in-Function.body }) else function_from x left)) w.as_slice-in-Function.ensures
                ∙ ap (λ e. told function_of old.functions x (function_from x (e ∷ left))) (sym w.in-Function.is) ∙ functions x;
            tables = λ (x : List ℕ). (λ j. told table_of (w.found-is j).tables x
                (table_from (w.table_count-is j) x left))
                ∙ ap (λ e. told table_of old.tables x (table_from m x (e ∷ left))) (sym w.in-Function.is) ∙ tables x;
            few_pages = omega (arith, w.page_count-is, so_far.few_pages);
            few_tables = omega (arith, w.table_count-is, so_far.few_tables);
          }
      | in-Page+in_ok-add-in-Page w ↦ record {
        pages = λ (x : List ℕ).
            (λ j. told page_of (w.found-is j).pages x (page_from (w.page_count-is j) x left))
            ∙ sym (one_more page_of old.pages w.add-in-Page.new.map w.as_bytes-in-Page.result.now _ x (page_from (n + 1) x left) w.in_ok-add-in-Page.ensures)
            ∙ ap (λ t. told page_of old.pages x (if bytes_eq x t then Some (record { number = n; body = w.in-Page.body }) else page_from (n + 1) x left)) w.as_bytes-in-Page.ensures
            ∙ ap (λ e. told page_of old.pages x (page_from n x (e ∷ left))) (sym w.in-Page.is) ∙ pages x;
        functions = λ (x : List ℕ). (λ j. told function_of (w.found-is j).functions x (function_from x left))
            ∙ ap (λ e. told function_of old.functions x (function_from x (e ∷ left))) (sym w.in-Page.is)
            ∙ functions x;
        tables = λ (x : List ℕ). (λ j. told table_of (w.found-is j).tables x (table_from (w.table_count-is j) x left))
            ∙ ap (λ e. told table_of old.tables x (table_from m x (e ∷ left))) (sym w.in-Page.is) ∙ tables x;
        few_pages = omega (arith, w.page_count-is, so_far.few_pages);
        few_tables = omega (arith, w.table_count-is, so_far.few_tables);
      }
    ]

pub returns : goal.returns
returns c =
    let ds = c.declarations-declaration-items.result.now in
    let i = c.loop-declaration.declaration-index in
    let found = c.loop-declaration.found in
    let n = c.loop-declaration.page_count in
    let m = c.loop-declaration.table_count in
    let so_far = c.loop-declaration.invariant in
    let same = c.declarations-declaration-items.ensures.declarations in
    record {
      pages = λ (x : List ℕ). none_left page_of found.pages x ∙ sym (at_drop_all (λ left. told page_of found.pages x (page_from n x left)) ds i c.loop-declaration-test.false) ∙ so_far.pages x ∙ ap (page_from 0 x) same;
      functions = λ (x : List ℕ). none_left function_of found.functions x ∙ sym (at_drop_all (λ left. told function_of found.functions x (function_from x left)) ds i c.loop-declaration-test.false) ∙ so_far.functions x ∙ ap (function_from x) same;
      tables = λ (x : List ℕ). none_left table_of found.tables x ∙ sym (at_drop_all (λ left. told table_of found.tables x (table_from m x left)) ds i c.loop-declaration-test.false) ∙ so_far.tables x ∙ ap (table_from 0 x) same;
    }
