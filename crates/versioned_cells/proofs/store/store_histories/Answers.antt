use Rattle.std.proofs.Common.{◌≡◌, ◌∙◌, ◌+◌, ap, subst}
use Rattle.object_cells.specs.Cells.{held}
use Rattle.versioned_cells.specs.Logs.{Stores}
use Rattle.versioned_cells.proofs.LogFacts.{store_more}
use Rattle.versioned_cells.proofs.store.store_histories.Goals as goal

pub loop-entry-preserved : goal.loop-entry-preserved
loop-entry-preserved c =
    let i = c.loop-entry.entry-index in
    let next : c.in_ok-since.since ≡ i + 1 = c.in_ok-since.ensures ∙ ap (λ n. n + 1) c.loop-entry.invariant.count in
    let done = subst (λ n. Stores n c.entry-item.result.act c.loop-entry.histories c.note_act.new.histories) next c.in_ok-note_act.ensures in
    record {
      count = next;
      tells = store_more c.args.entries.now i c.entry-item.result (held c.args.store.now) c.loop-entry.histories c.note_act.new.histories
          c.loop-entry-test.true c.entry-item.is c.loop-entry.invariant.tells done;
      until = done.until;
    }
