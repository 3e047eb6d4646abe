use Rattle.wire.specs.Spellings.{bytes_field}
use Rattle.wire.proofs.Faults.{part_missed, part_not_taken}
use Rattle.trace_format.specs.Events.{parameters_field, request_field}
use Rattle.trace_format.proofs.RequestFields.{begun, begun_whole, no_method, no_path, no_count, too_many, no_parameters, no_body, request_there, not_limited}
use Rattle.trace_format.proofs.request.read_request.Goals as goal

pub returns-in_err-method : goal.returns-in_err-method
returns-in_err-method c =
    part_not_taken bytes_field request_field (λ x. x) (λ x. x) c.args.bytes.now c.args.at c.args.at c.in_err-method.field-0.0 c.from_residual.result c.in_err-method.ensures c.from_residual.ensures.1 (no_method c.args.bytes.now c.args.at)

pub returns-in_err-path : goal.returns-in_err-path
returns-in_err-path c =
    part_not_taken bytes_field request_field (λ x. x) (λ x. x) c.args.bytes.now c.in_ok-method.next c.args.at c.in_err-path.field-0.0 c.from_residual-in_err-path.result c.in_err-path.ensures c.from_residual-in_err-path.ensures.1 (no_path c.args.bytes.now c.args.at c.in_ok-method.method c.in_ok-method.next c.in_ok-method.ensures)

pub returns-in_err-count : goal.returns-in_err-count
returns-in_err-count c =
    part_missed request_field (λ x. x) c.args.bytes.now c.args.at c.in_err-count.field-0.0 c.from_residual-in_err-count.result c.from_residual-in_err-count.ensures.1 (no_count c.args.bytes.now c.args.at c.in_ok-method.method c.in_ok-method.next c.in_ok-path.path c.in_ok-path.next c.in_ok-method.ensures c.in_ok-path.ensures c.in_err-count.ensures.field.1)

pub returns-then-count-gt-MOST_PARAMETERS : goal.returns-then-count-gt-MOST_PARAMETERS
returns-then-count-gt-MOST_PARAMETERS c =
    too_many c.args.bytes.now c.args.at c.in_ok-method.method c.in_ok-method.next c.in_ok-path.path c.in_ok-path.next c.in_ok-count.count c.in_ok-count.next c.in_ok-method.ensures c.in_ok-path.ensures c.in_ok-count.ensures.field c.if-count-gt-MOST_PARAMETERS.true

pub returns-in_err-parameters : goal.returns-in_err-parameters
returns-in_err-parameters c =
    let begun = begun c.in_ok-method.ensures c.in_ok-path.ensures c.in_ok-count.ensures.field c.if-count-gt-MOST_PARAMETERS.false in
    part_not_taken (parameters_field begun.count) request_field (λ x. x) (λ x. x) c.args.bytes.now begun.next c.args.at c.in_err-parameters.field-0.0 c.from_residual-in_err-parameters.result c.in_err-parameters.ensures
    c.from_residual-in_err-parameters.ensures.1 (no_parameters c.args.bytes.now c.args.at begun)

pub returns-in_err-body : goal.returns-in_err-body
returns-in_err-body c =
    let begun = begun c.in_ok-method.ensures c.in_ok-path.ensures c.in_ok-count.ensures.field c.if-count-gt-MOST_PARAMETERS.false in
    let read = begun_whole begun c.in_ok-parameters.parameters c.in_ok-parameters.next c.in_ok-parameters.ensures in
    part_not_taken bytes_field request_field (λ x. x) (λ x. x) c.args.bytes.now read.next c.args.at c.in_err-body.field-0.0 c.from_residual-in_err-body.result c.in_err-body.ensures
    c.from_residual-in_err-body.ensures.1 (no_body c.args.bytes.now c.args.at read)

pub returns-in-Some : goal.returns-in-Some
returns-in-Some c =
    let begun = begun c.in_ok-method.ensures c.in_ok-path.ensures c.in_ok-count.ensures.field c.if-count-gt-MOST_PARAMETERS.false in
    let read = begun_whole begun c.in_ok-parameters.parameters c.in_ok-parameters.next c.in_ok-parameters.ensures in
    request_there c.args.bytes.now c.args.at read c.in_ok-body.body c.in_ok-body.next c.in-Some.request c.in_ok-body.ensures c.in-Some.ensures.1 c.in-Some.ensures.0

pub returns-in-None : goal.returns-in-None
returns-in-None c =
    let begun = begun c.in_ok-method.ensures c.in_ok-path.ensures c.in_ok-count.ensures.field c.if-count-gt-MOST_PARAMETERS.false in
    let read = begun_whole begun c.in_ok-parameters.parameters c.in_ok-parameters.next c.in_ok-parameters.ensures in
    not_limited c.args.bytes.now c.args.at read c.in_ok-body.body c.in_ok-body.next c.in_ok-body.ensures c.in-None.ensures
