use Rattle.std.proofs.lemmas.Grind.{common_steps}
use Rattle.std.proofs.Common.{◌∙◌, ◌+◌, ◌∷◌, [], refl, sym, subst, ap, arith, length, length-append, List, Option, ℕ}
use Rattle.script_tree.specs.Transactions.{Row}
use Rattle.versioned_tables.specs.Standing.{Stands, AreFrom}
use Rattle.versioned_tables.specs.OverTime.{FitEntries, AdvancesBy}
use Rattle.versioned_tables.proofs.Building.{tells_none, tells_more, from_more, changes_more, count_more, entry_fits, stands_at}
use Rattle.versioned_tables.proofs.Finding.{found_none, found_more}
use Rattle.versioned_tables.proofs.tables.tables_over.Goals as goal

pub loop-entry-init : goal.loop-entry-init
loop-entry-init c =
    let b = c.in_ok-tables.ensures in
    record {
      count_is = refl;
      tells = tells_none c.args.widths.now c.args.start.now c.in_ok-tables.tables.items c.requires.same b;
      from = b.until;
      changes = b.changes;
      found = found_none c.in_ok-tables.tables.items c.in_ok-found.found.items c.in_ok-found.ensures.items;
      many = ap (λ (fs : List (Option (ℕ × Row))). length fs) c.in_ok-found.ensures.items;
      count = b.count ∙ ap (λ (ws : List ℕ). length ws) (sym c.requires.same);
    }

pub note_act-requires-clause-fits : goal.note_act-requires-clause-fits
note_act-requires-clause-fits c =
    entry_fits c.args.widths.now c.args.entries.now c.loop-entry.entry-index c.entry-item.result
    (subst (λ ws. FitEntries ws c.args.entries.now)
    (sym c.requires.same) c.requires.fits) c.loop-entry-test.true c.entry-item.is

pub note_act-requires-clause-stands : goal.note_act-requires-clause-stands
note_act-requires-clause-stands c =
    subst (λ n. Stands c.args.widths.now n c.loop-entry.tables.items) (sym c.loop-entry.invariant.count_is)
    (stands_at c.args.widths.now c.args.start.now _ c.loop-entry.entry-index c.loop-entry.tables.items c.loop-entry.invariant.tells)

pub loop-entry-preserved : goal.loop-entry-preserved
loop-entry-preserved c =
    let widths = c.args.widths.now in
    let e = c.entry-item.result in
    let fits = entry_fits widths c.args.entries.now c.loop-entry.entry-index e (subst (λ ws. FitEntries ws c.args.entries.now) (sym c.requires.same) c.requires.fits) c.loop-entry-test.true c.entry-item.is in
    let done = subst (λ n. AdvancesBy widths n e.act c.loop-entry.tables.items c.note_act.new.tables.items) c.loop-entry.invariant.count_is c.in_ok-note_act.ensures.advances in
    record {
      count_is = c.in_ok-position.ensures ∙ ap (λ n. n + 1) c.loop-entry.invariant.count_is;
      tells = tells_more widths c.args.start.now c.args.entries.now c.loop-entry.entry-index e c.loop-entry.tables.items c.note_act.new.tables.items c.loop-entry-test.true c.entry-item.is fits c.loop-entry.invariant.tells done;
      changes = changes_more widths c.loop-entry.entry-index e.act c.loop-entry.tables.items c.note_act.new.tables.items fits done c.loop-entry.invariant.changes;
      from = from_more widths c.loop-entry.entry-index e.act c.loop-entry.tables.items c.note_act.new.tables.items fits done;
      found = found_more widths c.loop-entry.entry-index e.act c.loop-entry.tables.items c.note_act.new.tables.items
          c.loop-entry.found.items c.push.new.self.items c.in_ok-note_act.field-0 fits done c.loop-entry.invariant.many c.in_ok-push.ensures.items (rw (sym c.loop-entry.invariant.count_is) c.in_ok-note_act.ensures.found) c.loop-entry.invariant.found;
      many = ap (λ (fs : List (Option (ℕ × Row))). length fs) c.in_ok-push.ensures.items
          ∙ omega (arith, length-append c.loop-entry.found.items (c.in_ok-note_act.field-0 ∷ []), c.loop-entry.invariant.many);
      count = count_more widths c.loop-entry.entry-index e.act c.loop-entry.tables.items c.note_act.new.tables.items fits done ∙ c.loop-entry.invariant.count;
    }

pub returns-clause-tells : goal.returns-clause-tells
returns-clause-tells c = grind (arith, common_steps)

pub note_act-requires-clause-from : goal.note_act-requires-clause-from
note_act-requires-clause-from c = subst (λ n. AreFrom n c.loop-entry.tables.items) (sym c.loop-entry.invariant.count_is) c.loop-entry.invariant.from
