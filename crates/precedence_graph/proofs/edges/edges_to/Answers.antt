use Rattle.std.proofs.Common.{◌+◌, arith}
use Rattle.precedence_graph.proofs.Sources.{edges_between, start_at, starts_rise}
use Rattle.precedence_graph.proofs.edges.edges_to.Goals as goal

pub slice_bounds-result-count : goal.slice_bounds-result-count
slice_bounds-result-count c =
    starts_rise c.args.edges.now c.args.place _ _ (start_at c.args.edges.now c.args.starts.now c.args.place c.requires.starts (omega arith))
    (start_at c.args.edges.now c.args.starts.now (c.args.place + 1) c.requires.starts c.requires.within)

pub slice_bounds-result-start : goal.slice_bounds-result-start
slice_bounds-result-start c =
    starts_rise c.args.edges.now c.args.place _ _ (start_at c.args.edges.now c.args.starts.now c.args.place c.requires.starts (omega arith))
    (start_at c.args.edges.now c.args.starts.now (c.args.place + 1) c.requires.starts c.requires.within)

pub slice_bounds-result-end : goal.slice_bounds-result-end
slice_bounds-result-end c = (start_at c.args.edges.now c.args.starts.now (c.args.place + 1) c.requires.starts c.requires.within).within

pub returns : goal.returns
returns c =
    edges_between c.args.edges.now c.args.place _ _ (start_at c.args.edges.now c.args.starts.now c.args.place c.requires.starts (omega arith))
    (start_at c.args.edges.now c.args.starts.now (c.args.place + 1) c.requires.starts c.requires.within)
