use Rattle.std.proofs.Common.{Some, None}
use Rattle.object_set.specs.ObjectSets.{objects_of}
use Rattle.log_checker.proofs.Carried.{carried, here, later, in_order}
use Rattle.log_checker.proofs.EntryFacts.{map_of}
use Rattle.log_checker.proofs.checking.check_logs.Goals as goal

pub returns-in_err-check_objects : goal.returns-in_err-check_objects
returns-in_err-check_objects c = λ program of.
    let report = c.args.report.now in
    carried _ _ _ c.in_err-check_objects.field-0.0 c.from_residual.result c.from_residual.ensures.1 c.in_err-check_objects.ensures
    (λ r is. in_order program (objects_of c.args.start.now) c.args.trace.now report (Some r) (here _ _ r is))

pub returns-in_err-counts : goal.returns-in_err-counts
returns-in_err-counts c = λ program of.
    let report = c.args.report.now in
    let objects = c.in_ok-check_objects.ensures in
    carried _ _ _ c.in_err-counts.field-0.0 c.from_residual-in_err-counts.result c.from_residual-in_err-counts.ensures.1 c.in_err-counts.ensures
    (λ r is. in_order program (objects_of c.args.start.now) c.args.trace.now report (Some r) (later _ _ _ objects (here _ _ r is)))

pub returns-in_err-check_counted : goal.returns-in_err-check_counted
returns-in_err-check_counted c = λ program of.
    let report = c.args.report.now in
    let objects = c.in_ok-check_objects.ensures in
    let counts = c.in_ok-counts.ensures in
    carried _ _ _ c.in_err-check_counted.field-0.0 c.from_residual-in_err-check_counted.result c.from_residual-in_err-check_counted.ensures.1
    c.in_err-check_counted.ensures
    (λ r is. in_order program (objects_of c.args.start.now) c.args.trace.now report (Some r) (later _ _ _ objects (later _ _ _ counts.0 (here _ _ r is))))

pub returns-in_err-check_requests : goal.returns-in_err-check_requests
returns-in_err-check_requests c = λ program of.
    let report = c.args.report.now in
    let objects = c.in_ok-check_objects.ensures in
    let counts = c.in_ok-counts.ensures in
    let counted = c.in_ok-check_counted.ensures in
    carried _ _ _ c.in_err-check_requests.field-0.0 c.from_residual-in_err-check_requests.result c.from_residual-in_err-check_requests.ensures.1
    (c.in_err-check_requests.ensures report counts.1)
    (λ r is. in_order program (objects_of c.args.start.now) c.args.trace.now report (Some r)
    (later _ _ _ objects (later _ _ _ counts.0 (later _ _ _ counted (here _ _ r is)))))

pub returns-in_err-map : goal.returns-in_err-map
returns-in_err-map c = λ program of.
    let report = c.args.report.now in
    let objects = c.in_ok-check_objects.ensures in
    let counts = c.in_ok-counts.ensures in
    let counted = c.in_ok-check_counted.ensures in
    let requests = c.in_ok-check_requests.ensures report counts.1 in
    carried _ _ _ c.in_err-map.field-0.0 c.from_residual-in_err-map.result c.from_residual-in_err-map.ensures.1 (c.in_err-map.ensures program of)
    (λ r is. in_order program (objects_of c.args.start.now) c.args.trace.now report (Some r)
    (later _ _ _ objects (later _ _ _ counts.0 (later _ _ _ counted (later _ _ _ requests (here _ _ r is))))))

pub returns-in_err-check_operations : goal.returns-in_err-check_operations
returns-in_err-check_operations c = λ program of.
    let report = c.args.report.now in
    let objects = c.in_ok-check_objects.ensures in
    let counts = c.in_ok-counts.ensures in
    let counted = c.in_ok-check_counted.ensures in
    let requests = c.in_ok-check_requests.ensures report counts.1 in
    let entries = c.in_ok-map.ensures program of in
    let is_map = map_of report c.in_ok-map.map entries.1 in
    carried _ _ _ c.in_err-check_operations.field-0.0 c.from_residual-in_err-check_operations.result c.from_residual-in_err-check_operations.ensures.1
    (c.in_err-check_operations.ensures report is_map)
    (λ r is. in_order program (objects_of c.args.start.now) c.args.trace.now report (Some r)
    (later _ _ _ objects (later _ _ _ counts.0 (later _ _ _ counted (later _ _ _ requests (later _ _ _ entries.0 is))))))

pub returns : goal.returns
returns c = λ program of.
    let report = c.args.report.now in
    let objects = c.in_ok-check_objects.ensures in
    let counts = c.in_ok-counts.ensures in
    let counted = c.in_ok-check_counted.ensures in
    let requests = c.in_ok-check_requests.ensures report counts.1 in
    let entries = c.in_ok-map.ensures program of in
    let is_map = map_of report c.in_ok-map.map entries.1 in (
      in_order program (objects_of c.args.start.now) c.args.trace.now report None
          (later _ _ _ objects (later _ _ _ counts.0
          (later _ _ _ counted (later _ _ _ requests (later _ _ _ entries.0 (c.in_ok-check_operations.ensures report is_map)))))),
      is_map,
    )
