use Rattle.std.proofs.Common.{◌≡◌, ◌∙◌, ◌+◌, ap, subst}
use Rattle.object_cells.specs.Cells.{held}
use Rattle.versioned_cells.specs.Logs.{Writes}
use Rattle.versioned_cells.proofs.LogFacts.{register_more}
use Rattle.versioned_cells.proofs.register.register_history.Goals as goal

pub loop-entry-preserved : goal.loop-entry-preserved
loop-entry-preserved c =
    let i = c.loop-entry.entry-index in
    let next : c.in_ok-since.since ≡ i + 1 = c.in_ok-since.ensures ∙ ap (λ n. n + 1) c.loop-entry.invariant.count in
    let done = subst (λ n. Writes n c.entry-item.result.act c.loop-entry.history c.note_act.new.history) next c.in_ok-note_act.ensures in
    record {
      count = next;
      tells = register_more c.args.entries.now i c.entry-item.result (held c.args.registers.now c.args.name.now) c.loop-entry.history c.note_act.new.history
          c.loop-entry-test.true c.entry-item.is c.loop-entry.invariant.tells done;
      until = done.until;
    }
