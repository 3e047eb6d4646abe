use Rattle.std.proofs.Common.{refl}
use Rattle.trace_and_report.specs.Draft.{at_object}
use Rattle.trace_and_report.proofs.Drafts.{acts, entry_allowed, on_ok, on_ok_all}
use Rattle.trace_and_report.proofs.draft.Draft.add.Goals as goal

pub add_entry-requires : goal.add_entry-requires
add_entry-requires c =
    entry_allowed c.requires.0 (at_object c.args.object c.args.entry.now.act) c.args.entry.now c.requires.1 refl c.in_ok-keep_widths.ensures

pub returns : goal.returns
returns c = λ names of.
    let op = at_object c.args.object c.args.entry.now.act in
    on_ok c.add_entry.result
    (λ added. acts names c.args.self.now _ c.args.entry.now.rid c.args.entry.now.number op c.args.entry.now.choice of refl refl c.in_ok-count.ensures added refl
    (entry_allowed c.requires.0 op c.args.entry.now c.requires.1 refl c.in_ok-keep_widths.ensures))
    (on_ok_all _ _ c.add_entry.result c.add_entry.ensures)
