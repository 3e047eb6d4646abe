use Rattle.std.proofs.Common.{arith}
use Rattle.commands.specs.Seen.{shelf_seen}
use Rattle.commands.proofs.Runs.{accepted, agrees, answered, differs, recorded, rejected, valid}
use Rattle.commands.proofs.run.run.Goals as goal

pub returns-in-Ok-clause-valid : goal.returns-in-Ok-clause-valid
returns-in-Ok-clause-valid g c = λ zero.
    valid (answered (shelf_seen (g.F.Shelf.told c.args.shelf.now) (g.F.Shelf.calls c.args.shelf.now)) c.in-Ok.ensures.outcome c.in-Ok.ensures.answer c.in-Ok.ensures.files c.in-Ok.ensures.reads
    c.in-Ok.ensures.used c.carry_out-status.ensures.done (omega (arith, zero))) zero

pub returns-in-Ok-clause-agrees : goal.returns-in-Ok-clause-agrees
returns-in-Ok-clause-agrees g c = λ zero.
    agrees (answered (shelf_seen (g.F.Shelf.told c.args.shelf.now) (g.F.Shelf.calls c.args.shelf.now)) c.in-Ok.ensures.outcome c.in-Ok.ensures.answer c.in-Ok.ensures.files c.in-Ok.ensures.reads
    c.in-Ok.ensures.used c.carry_out-status.ensures.done (omega (arith, zero))) c.agreement.ensures zero

pub returns-in-Ok-clause-differs : goal.returns-in-Ok-clause-differs
returns-in-Ok-clause-differs g c = λ one.
    differs (answered (shelf_seen (g.F.Shelf.told c.args.shelf.now) (g.F.Shelf.calls c.args.shelf.now)) c.in-Ok.ensures.outcome c.in-Ok.ensures.answer c.in-Ok.ensures.files c.in-Ok.ensures.reads
    c.in-Ok.ensures.used c.carry_out-status.ensures.done (omega (arith, one))) c.agreement.ensures one

pub returns-in-Ok-clause-accepted : goal.returns-in-Ok-clause-accepted
returns-in-Ok-clause-accepted g c = λ zero.
    accepted (answered (shelf_seen (g.F.Shelf.told c.args.shelf.now) (g.F.Shelf.calls c.args.shelf.now)) c.in-Ok.ensures.outcome c.in-Ok.ensures.answer c.in-Ok.ensures.files c.in-Ok.ensures.reads
    c.in-Ok.ensures.used c.carry_out-status.ensures.done (omega (arith, zero)))
    c.accepted_explains.ensures c.schedule_fits.ensures zero

pub returns-in-Ok-clause-rejected : goal.returns-in-Ok-clause-rejected
returns-in-Ok-clause-rejected g c = λ one.
    rejected (answered (shelf_seen (g.F.Shelf.told c.args.shelf.now) (g.F.Shelf.calls c.args.shelf.now)) c.in-Ok.ensures.outcome c.in-Ok.ensures.answer c.in-Ok.ensures.files c.in-Ok.ensures.reads
    c.in-Ok.ensures.used c.carry_out-status.ensures.done (omega (arith, one))) one

pub returns-in-Ok-clause-recorded : goal.returns-in-Ok-clause-recorded
returns-in-Ok-clause-recorded g c = λ zero.
    recorded (answered (shelf_seen (g.F.Shelf.told c.args.shelf.now) (g.F.Shelf.calls c.args.shelf.now)) c.in-Ok.ensures.outcome c.in-Ok.ensures.answer c.in-Ok.ensures.files c.in-Ok.ensures.reads
    c.in-Ok.ensures.used c.carry_out-status.ensures.done (omega (arith, zero)))
    c.recorded_is_accepted.ensures c.traces_are_balanced.ensures c.one_way.ensures zero
