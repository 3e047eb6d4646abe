use Rattle.std.proofs.Common.{◌≡◌, ◌+◌, length, refl, ap, sym, subst, ◌∙◌, arith}
use Rattle.std.specs.Prelude.{OnOk}
use Rattle.machine.specs.Does.{EndsAt}
use Rattle.machine.proofs.Falls.{falls_on, falls_charged, falls_back, on_rising, on_charged}
use Rattle.machine.proofs.run.Run.act.Goals as goal

pub returns-in-Push-clause-acts : goal.returns-in-Push-clause-acts
returns-in-Push-clause-acts c next ops more ends =
    rw c.in-Push.is (c.push.ensures.does c.args.request.now c.args.code.now.functions.items next c.args.self.now.frames c.args.place ops more)

pub returns-in-Load-clause-acts : goal.returns-in-Load-clause-acts
returns-in-Load-clause-acts c next ops more ends =
    rw c.in-Load.is (c.load.ensures.does c.args.request.now c.args.code.now.functions.items next c.args.self.now.frames c.args.place ops more)

pub returns-in-Unary-clause-acts : goal.returns-in-Unary-clause-acts
returns-in-Unary-clause-acts c next ops more ends =
    rw c.in-Unary.is (c.unary.ensures.does c.args.request.now c.args.code.now.functions.items next c.args.self.now.frames c.args.place ops more)

pub returns-in-Binary-clause-acts : goal.returns-in-Binary-clause-acts
returns-in-Binary-clause-acts c next ops more ends =
    rw c.in-Binary.is (c.binary.ensures.does c.args.request.now c.args.code.now.functions.items next c.args.self.now.frames c.args.place ops more)

pub returns-in-Index-clause-acts : goal.returns-in-Index-clause-acts
returns-in-Index-clause-acts c next ops more ends =
    rw c.in-Index.is (c.index.ensures.does c.args.request.now c.args.code.now.functions.items next c.args.self.now.frames c.args.place ops more)

pub returns-in-List-clause-acts : goal.returns-in-List-clause-acts
returns-in-List-clause-acts c next ops more ends =
    rw c.in-List.is (c.list.ensures.does c.args.request.now c.args.code.now.functions.items next c.args.self.now.frames c.args.place ops more)

pub returns-in-CallUnknown-clause-acts : goal.returns-in-CallUnknown-clause-acts
returns-in-CallUnknown-clause-acts c next ops more ends =
    rw c.in-CallUnknown.is (c.call_unknown.ensures.does c.args.request.now c.args.code.now.functions.items next c.args.self.now.frames c.args.place ops more)

pub returns-in-Transact-clause-acts : goal.returns-in-Transact-clause-acts
returns-in-Transact-clause-acts c next ops more ends =
    rw (c.in-Transact.is, ← c.as_slice.ensures) (c.transact.ensures.does c.args.request.now c.args.code.now.functions.items next c.args.self.now.frames c.args.place ops more)

pub returns-in-Leave-clause-acts : goal.returns-in-Leave-clause-acts
returns-in-Leave-clause-acts c next ops more ends =
    rw c.in-Leave.is (c.leave.ensures.does c.args.request.now c.args.code.now.functions.items next c.args.self.now.frames c.args.place ops more)

pub returns-in-Declare-clause-acts : goal.returns-in-Declare-clause-acts
returns-in-Declare-clause-acts c next ops more ends =
    rw c.in-Declare.is (c.declare.ensures.does c.args.request.now c.args.code.now.functions.items next c.args.self.now.frames c.args.place ops more)

pub returns-in-Assign-clause-acts : goal.returns-in-Assign-clause-acts
returns-in-Assign-clause-acts c next ops more ends =
    rw c.in-Assign.is (c.assign.ensures.does c.args.request.now c.args.code.now.functions.items next c.args.self.now.frames c.args.place ops more)

pub returns-in-Echo-clause-acts : goal.returns-in-Echo-clause-acts
returns-in-Echo-clause-acts c next ops more ends =
    rw c.in-Echo.is (c.echo.ensures.does c.args.request.now c.args.code.now.functions.items next c.args.self.now.frames c.args.place ops more)

pub returns-in-Status-clause-acts : goal.returns-in-Status-clause-acts
returns-in-Status-clause-acts c next ops more ends =
    rw c.in-Status.is (c.status.ensures.does c.args.request.now c.args.code.now.functions.items next c.args.self.now.frames c.args.place ops more)

pub returns-in-Discard-clause-acts : goal.returns-in-Discard-clause-acts
returns-in-Discard-clause-acts c next ops more ends =
    rw c.in-Discard.is (c.discard.ensures.does c.args.request.now c.args.code.now.functions.items next c.args.self.now.frames c.args.place ops more)

pub returns-in-CallBuiltin-clause-acts : goal.returns-in-CallBuiltin-clause-acts
returns-in-CallBuiltin-clause-acts c next ops more ends =
    rw c.in-CallBuiltin.is (c.call_builtin.ensures.does c.args.code.now.functions.items next c.args.self.now.frames c.args.place ops more)

pub returns-in-CallStore-clause-acts : goal.returns-in-CallStore-clause-acts
returns-in-CallStore-clause-acts c next ops more ends =
    rw (c.in-CallStore.is, ← c.as_bytes-store.ensures) (c.call_builtin-in-CallStore.ensures.does c.args.code.now.functions.items next c.args.self.now.frames c.args.place ops more)

pub returns-in-And-clause-acts : goal.returns-in-And-clause-acts
returns-in-And-clause-acts c next ops more ends =
    let code = c.args.code.now in
    let len : length code.instructions.items ≡ c.len-len.result = sym (c.len-len.ensures ∙ code.instructions.ok.0) in
    rw c.in-And.is (c.and.ensures.acts c.args.request.now code.functions.items next ops more (subst (λ n. EndsAt n next) len ends))

pub returns-in-Or-clause-acts : goal.returns-in-Or-clause-acts
returns-in-Or-clause-acts c next ops more ends =
    let code = c.args.code.now in
    let len : length code.instructions.items ≡ c.len-len.result = sym (c.len-len.ensures ∙ code.instructions.ok.0) in
    rw c.in-Or.is (c.or.ensures.acts c.args.request.now code.functions.items next ops more (subst (λ n. EndsAt n next) len ends))

pub returns-in-Branch-clause-acts : goal.returns-in-Branch-clause-acts
returns-in-Branch-clause-acts c next ops more ends =
    let code = c.args.code.now in
    let len : length code.instructions.items ≡ c.len-len.result = sym (c.len-len.ensures ∙ code.instructions.ok.0) in
    rw c.in-Branch.is (c.branch-self.ensures.acts c.args.request.now code.functions.items next ops more (subst (λ n. EndsAt n next) len ends))

pub returns-in-Again-clause-acts : goal.returns-in-Again-clause-acts
returns-in-Again-clause-acts c next ops more ends =
    let code = c.args.code.now in
    let len : length code.instructions.items ≡ c.len-len.result = sym (c.len-len.ensures ∙ code.instructions.ok.0) in
    rw c.in-Again.is (c.again.ensures.acts c.args.request.now code.functions.items next ops more (subst (λ n. EndsAt n next) len ends))

pub returns-in-Jump-clause-acts : goal.returns-in-Jump-clause-acts
returns-in-Jump-clause-acts c next ops more ends =
    let code = c.args.code.now in
    let len : length code.instructions.items ≡ c.len-len.result = sym (c.len-len.ensures ∙ code.instructions.ok.0) in
    rw c.in-Jump.is (c.jump.ensures.acts c.args.request.now code.functions.items next ops more (subst (λ n. EndsAt n next) len ends))

pub returns-in-Each-clause-acts : goal.returns-in-Each-clause-acts
returns-in-Each-clause-acts c next ops more ends =
    let code = c.args.code.now in
    let len : length code.instructions.items ≡ c.len-len.result = sym (c.len-len.ensures ∙ code.instructions.ok.0) in
    rw c.in-Each.is (c.each.ensures.acts c.args.request.now code.functions.items next ops more (subst (λ n. EndsAt n next) len ends))

pub returns-in-Turn-clause-acts : goal.returns-in-Turn-clause-acts
returns-in-Turn-clause-acts c next ops more ends =
    let code = c.args.code.now in
    let len : length code.instructions.items ≡ c.len-len.result = sym (c.len-len.ensures ∙ code.instructions.ok.0) in
    rw c.in-Turn.is (c.turn.ensures.acts c.args.request.now code.functions.items next ops more (subst (λ n. EndsAt n next) len ends))

pub returns-in-Call-clause-acts : goal.returns-in-Call-clause-acts
returns-in-Call-clause-acts c next ops more ends =
    let code = c.args.code.now in
    let len : length code.instructions.items ≡ c.len-len.result = sym (c.len-len.ensures ∙ code.instructions.ok.0) in
    rw (c.in-Call.is, ← c.as_slice-in-Call.ensures.value) (c.call.ensures.acts c.args.request.now next ops more (subst (λ n. EndsAt n next) len ends))

pub returns-in-Return-clause-acts : goal.returns-in-Return-clause-acts
returns-in-Return-clause-acts c next ops more ends =
    rw c.in-Return.is (c.give_back.ensures.acts (length c.args.code.now.instructions.items) c.args.place c.args.request.now c.args.code.now.functions.items next ops more ends)

pub returns-in-Push-clause-falls : goal.returns-in-Push-clause-falls
returns-in-Push-clause-falls c =
    on_rising (length c.args.code.now.instructions.items) c.args.place c.args.self.now
    (record c.args.self.now { place = c.args.place + 1; state = c.push.new.self }) c.push.result c.requires (omega arith) refl c.push.ensures.rises

pub returns-in-Load-clause-falls : goal.returns-in-Load-clause-falls
returns-in-Load-clause-falls c =
    on_rising (length c.args.code.now.instructions.items) c.args.place c.args.self.now
    (record c.args.self.now { place = c.args.place + 1; state = c.load.new.self }) c.load.result c.requires (omega arith) refl c.load.ensures.rises

pub returns-in-Unary-clause-falls : goal.returns-in-Unary-clause-falls
returns-in-Unary-clause-falls c =
    on_rising (length c.args.code.now.instructions.items) c.args.place c.args.self.now
    (record c.args.self.now { place = c.args.place + 1; state = c.unary.new.self }) c.unary.result c.requires (omega arith) refl c.unary.ensures.rises

pub returns-in-Binary-clause-falls : goal.returns-in-Binary-clause-falls
returns-in-Binary-clause-falls c =
    on_rising (length c.args.code.now.instructions.items) c.args.place c.args.self.now
    (record c.args.self.now { place = c.args.place + 1; state = c.binary.new.self }) c.binary.result c.requires (omega arith) refl c.binary.ensures.rises

pub returns-in-Index-clause-falls : goal.returns-in-Index-clause-falls
returns-in-Index-clause-falls c =
    on_rising (length c.args.code.now.instructions.items) c.args.place c.args.self.now
    (record c.args.self.now { place = c.args.place + 1; state = c.index.new.self }) c.index.result c.requires (omega arith) refl c.index.ensures.rises

pub returns-in-List-clause-falls : goal.returns-in-List-clause-falls
returns-in-List-clause-falls c =
    on_rising (length c.args.code.now.instructions.items) c.args.place c.args.self.now
    (record c.args.self.now { place = c.args.place + 1; state = c.list.new.self }) c.list.result c.requires (omega arith) refl c.list.ensures.rises

pub returns-in-CallBuiltin-clause-falls : goal.returns-in-CallBuiltin-clause-falls
returns-in-CallBuiltin-clause-falls c =
    on_rising (length c.args.code.now.instructions.items) c.args.place c.args.self.now
    (record c.args.self.now { place = c.args.place + 1; state = c.call_builtin.new.self })
    c.call_builtin.result c.requires (omega arith) refl c.call_builtin.ensures.rises

pub returns-in-CallStore-clause-falls : goal.returns-in-CallStore-clause-falls
returns-in-CallStore-clause-falls c =
    on_rising (length c.args.code.now.instructions.items) c.args.place c.args.self.now
    (record c.args.self.now { place = c.args.place + 1; state = c.call_builtin-in-CallStore.new.self })
    c.call_builtin-in-CallStore.result c.requires (omega arith) refl c.call_builtin-in-CallStore.ensures.rises

pub returns-in-CallUnknown-clause-falls : goal.returns-in-CallUnknown-clause-falls
returns-in-CallUnknown-clause-falls c =
    on_rising (length c.args.code.now.instructions.items) c.args.place c.args.self.now
    (record c.args.self.now { place = c.args.place + 1; state = c.call_unknown.new.self })
    c.call_unknown.result c.requires (omega arith) refl c.call_unknown.ensures.rises

pub returns-in-Transact-clause-falls : goal.returns-in-Transact-clause-falls
returns-in-Transact-clause-falls c =
    on_rising (length c.args.code.now.instructions.items) c.args.place c.args.self.now
    (record c.args.self.now { place = c.args.place + 1; state = c.transact.new.self }) c.transact.result c.requires (omega arith) refl c.transact.ensures.rises

pub returns-in-Leave-clause-falls : goal.returns-in-Leave-clause-falls
returns-in-Leave-clause-falls c =
    on_rising (length c.args.code.now.instructions.items) c.args.place c.args.self.now
    (record c.args.self.now { place = c.args.place + 1; state = c.leave.new.self }) c.leave.result c.requires (omega arith) refl c.leave.ensures.rises

pub returns-in-Declare-clause-falls : goal.returns-in-Declare-clause-falls
returns-in-Declare-clause-falls c =
    on_rising (length c.args.code.now.instructions.items) c.args.place c.args.self.now
    (record c.args.self.now { place = c.args.place + 1; state = c.declare.new.self }) c.declare.result c.requires (omega arith) refl c.declare.ensures.rises

pub returns-in-Assign-clause-falls : goal.returns-in-Assign-clause-falls
returns-in-Assign-clause-falls c =
    on_rising (length c.args.code.now.instructions.items) c.args.place c.args.self.now
    (record c.args.self.now { place = c.args.place + 1; state = c.assign.new.self }) c.assign.result c.requires (omega arith) refl c.assign.ensures.rises

pub returns-in-Echo-clause-falls : goal.returns-in-Echo-clause-falls
returns-in-Echo-clause-falls c =
    on_rising (length c.args.code.now.instructions.items) c.args.place c.args.self.now
    (record c.args.self.now { place = c.args.place + 1; state = c.echo.new.self }) c.echo.result c.requires (omega arith) refl c.echo.ensures.rises

pub returns-in-Status-clause-falls : goal.returns-in-Status-clause-falls
returns-in-Status-clause-falls c =
    on_rising (length c.args.code.now.instructions.items) c.args.place c.args.self.now
    (record c.args.self.now { place = c.args.place + 1; state = c.status.new.self }) c.status.result c.requires (omega arith) refl c.status.ensures.rises

pub returns-in-Discard-clause-falls : goal.returns-in-Discard-clause-falls
returns-in-Discard-clause-falls c =
    on_rising (length c.args.code.now.instructions.items) c.args.place c.args.self.now
    (record c.args.self.now { place = c.args.place + 1; state = c.discard.new.self }) c.discard.result c.requires (omega arith) refl c.discard.ensures.rises

pub returns-in-And-clause-falls : goal.returns-in-And-clause-falls
returns-in-And-clause-falls c =
    on_charged (length c.args.code.now.instructions.items) c.args.place c.args.self.now
    (record c.args.self.now { place = c.args.place + 1 }) c.and.new.self c.and.result refl refl c.and.ensures.charges

pub returns-in-Or-clause-falls : goal.returns-in-Or-clause-falls
returns-in-Or-clause-falls c =
    on_charged (length c.args.code.now.instructions.items) c.args.place c.args.self.now
    (record c.args.self.now { place = c.args.place + 1 }) c.or.new.self c.or.result refl refl c.or.ensures.charges

pub returns-in-Branch-clause-falls : goal.returns-in-Branch-clause-falls
returns-in-Branch-clause-falls c =
    on_charged (length c.args.code.now.instructions.items) c.args.place c.args.self.now
    (record c.args.self.now { place = c.args.place + 1 }) c.branch-self.new.self c.branch-self.result refl refl c.branch-self.ensures.charges

pub returns-in-Again-clause-falls : goal.returns-in-Again-clause-falls
returns-in-Again-clause-falls c =
    on_charged (length c.args.code.now.instructions.items) c.args.place c.args.self.now
    (record c.args.self.now { place = c.args.place + 1 }) c.again.new.self c.again.result refl refl c.again.ensures.charges

pub returns-in-Turn-clause-falls : goal.returns-in-Turn-clause-falls
returns-in-Turn-clause-falls c =
    on_charged (length c.args.code.now.instructions.items) c.args.place c.args.self.now
    (record c.args.self.now { place = c.args.place + 1 }) c.turn.new.self c.turn.result refl refl c.turn.ensures.charges

pub returns-in-Jump-clause-falls : goal.returns-in-Jump-clause-falls
returns-in-Jump-clause-falls c = λ came.
    falls_on (length c.args.code.now.instructions.items) c.args.place c.args.self.now c.jump.new.self
    c.requires (c.jump.ensures.forward came) c.jump.ensures.frames (omega (arith, ap (λ s. s.account.steps) c.jump.ensures.state))

pub returns-in-Each-clause-falls : goal.returns-in-Each-clause-falls
returns-in-Each-clause-falls c = λ came.
    falls_on (length c.args.code.now.instructions.items) c.args.place c.args.self.now c.each.new.self
    c.requires (c.each.ensures.forward came) c.each.ensures.frames (omega (arith, c.each.ensures.steps))

pub returns-in-Call-clause-falls : goal.returns-in-Call-clause-falls
returns-in-Call-clause-falls c = λ came.
    let old = c.args.self.now in
    let new = c.call.new.self in
    let calls = subst (λ r. OnOk r (length new.frames ≡ length old.frames + 1)) came c.call.ensures.frames in
    falls_charged (length c.args.code.now.instructions.items) c.args.place c.args.self.now new
    (subst (λ r. OnOk r (new.state.account.steps ≡ old.state.account.steps + 1)) came c.call.ensures.steps) (omega (arith, calls))

pub returns-in-Return-clause-falls : goal.returns-in-Return-clause-falls
returns-in-Return-clause-falls c = λ came.
    falls_charged (length c.args.code.now.instructions.items) c.args.place c.args.self.now c.give_back.new.self
    (c.give_back.ensures.steps came) (omega (arith, c.give_back.ensures.frames came))

pub returns-in-End-clause-falls : goal.returns-in-End-clause-falls
returns-in-End-clause-falls c = λ came.
    falls_back (length c.args.code.now.instructions.items) c.args.place c.args.self.now c.back.new.self
    c.back.ensures.steps (c.back.ensures.frames came)
