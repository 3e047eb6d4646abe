use Rattle.std.proofs.Common.{true, false, length, Ok, Err, IfOk, sym, ap, subst, ◌∙◌}
use Rattle.multi_run.specs.Answering.{AllAnswered, AnswersPart}
use Rattle.multi_machine.specs.Together.{StandsAfter, AllEnd, IsStep}
use Rattle.multi_machine.proofs.Apart.{answers_part}
use Rattle.multi_machine.proofs.Together.{stands_answered, refused_ends}
use Rattle.multi_machine.proofs.machine.Waiting.answer.Goals as goal

pub returns-in-Ok-true : goal.returns-in-Ok-true
returns-in-Ok-true g c program qs told told' begun rose same =
    let w = c.args.self in
    let m = c.args.answers in
    let new = c.answer.new.self in
    let spent = rose.0 in
    let a = rose.2 in
    let members = ap length (c.requests.ensures.requests ∙ a.requests) in
    let answered = subst (λ n. AllAnswered n m w.run (Ok true) new) members (subst (λ b. AllAnswered (length c.requests.result.now) m w.run (Ok b) new) c.in-Ok-true.field-0-test c.in-Ok-true.ensures.answered) in
    let stands = subst (λ q. StandsAfter program q w.code.now told' new spent) (sym a.requests) (stands_answered program qs told told' spent w m new a same answered) in
    subst (λ q. IfOk c.go_on.result (IsStep program q told' begun c.go_on.new.evaluations)) a.requests
    (c.go_on.ensures program told' begun (spent, rose.1, stands))

pub returns-in-Ok-false : goal.returns-in-Ok-false
returns-in-Ok-false g c program qs told told' begun rose same =
    let w = c.args.self in
    let m = c.args.answers in
    let new = c.answer.new.self in
    let spent = rose.0 in
    let a = rose.2 in
    let members = ap length (c.requests.ensures.requests ∙ a.requests) in
    let answered = subst (λ n. AllAnswered n m w.run (Ok false) new) members (subst (λ b. AllAnswered (length c.requests.result.now) m w.run (Ok b) new) c.in-Ok-false.field-0-test c.in-Ok-false.ensures.answered) in
    (spent, rose.1, subst (AllEnd program qs told' spent) (sym c.at_fault-ended.ensures) (refused_ends program qs told told' spent w m new a same answered))

pub returns-in-Err-Differ : goal.returns-in-Err-Differ
returns-in-Err-Differ g c program qs told told' begun rose same =
    let w = c.args.self in
    let a = rose.2 in
    let m = c.args.answers in
    let members = ap length (c.requests.ensures.requests ∙ a.requests) in
    let parts = subst (λ e. AllAnswered (length c.requests.result.now) m w.run (Err e) c.answer.new.self) c.in-Err-Differ.field-0-is c.in-Err-Differ.ensures.answered in
    answers_part program qs told told' rose.0 w m a same (subst (λ n. AnswersPart n m) members parts)
