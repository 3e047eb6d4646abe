use Rattle.std.proofs.Common.{◌≡◌, ◌≢◌, ◌∙◌, ℕ, length, Some, true, false, ap, sym, subst, arith}
use Rattle.std.proofs.lemmas.Bool.Decides.{nat_tests}
use Rattle.std.specs.Ordering.{nat_cmp}
use Rattle.std.specs.BTreeMap.{is_at}
use Rattle.trace_format.specs.Heads.{head_of}
use Rattle.trace_format.specs.Stages.{stage_of, fits, id_of, head_id, head_fits, IsNoted}
use Rattle.trace_format.specs.Balance.{IsFirstFault}
use Rattle.trace_format.proofs.Heads.{some_at}
use Rattle.trace_format.proofs.StageSteps.{Known, known-more, known-misfit}
use Rattle.trace_format.proofs.Verdicts.{misfit_is_fault, first_open_is_fault}
use Rattle.trace_format.proofs.balance.first_unbalanced.Goals as goal

other_key : (a b : ℕ) → b ≢ a → is_at (nat_cmp a) b ≡ false
other_key a b apart = grind (arith, nat_tests)

pub returns-then-not-branch : goal.returns-then-not-branch
returns-then-not-branch c =
    let events = c.args.trace.now in
    let i = c.loop-place.place in
    let e = some_at events i (omega arith) in
    let head : c.head-head.result ≡ head_of e.0 = c.head-head.ensures e.0 e.1 in
    let unfit : fits e.0 (stage_of c.loop-place.stages (id_of e.0)) ≡ false = ap (λ h. head_fits h (stage_of c.loop-place.stages (head_id h))) (sym head) ∙ sym c.in_ok-note.ensures.fits ∙ c.if-not-branch.true in
    subst (λ r. IsFirstFault events (Some r)) (ap head_id (sym head) ∙ sym c.id_of.ensures)
    (misfit_is_fault events i (id_of e.0) c.loop-place.invariant.fitting
    (known-misfit _ events i e.0 e.1 c.loop-place.invariant unfit))

pub loop-place-preserved : goal.loop-place-preserved
loop-place-preserved c =
    let events = c.args.trace.now in
    let i = c.loop-place.place in
    let e = some_at events i (omega arith) in
    let head : c.head-head.result ≡ head_of e.0 = c.head-head.ensures e.0 e.1 in
    let fit : fits e.0 (stage_of c.loop-place.stages (id_of e.0)) ≡ true = ap (λ h. head_fits h (stage_of c.loop-place.stages (head_id h))) (sym head) ∙ sym c.in_ok-note.ensures.fits ∙ c.if-not-branch.false in
    let noted : IsNoted (head_of e.0) c.loop-place.stages c.note.new.stages = subst (λ h. IsNoted h c.loop-place.stages c.note.new.stages) head c.in_ok-note.ensures.noted in
    known-more _ _ events i e.0 e.1 c.loop-place.invariant fit noted.1 (λ r apart. noted.2 r (other_key (id_of e.0) r apart))

pub returns : goal.returns
returns c =
    let events = c.args.trace.now in
    let stage = stage_of c.loop-place.stages in
    let all : c.loop-place.place ≡ length events = omega arith in
    first_open_is_fault stage events c.first_open.result (subst (λ n. Known stage events n) all c.loop-place.invariant) c.first_open.ensures
