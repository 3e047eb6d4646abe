use Rattle.std.proofs.Common.{◌≡◌, ◌∙◌, ◌-◌, ◌<◌, [], ◌∷◌, ◌++◌, ap, length, None, arith}
use Rattle.std.proofs.lemmas.Grind.{common_steps}
use Rattle.json.specs.Json.{after_end_array}
use Rattle.workload.specs.OneByOne.{BeginWithJob}
use Rattle.workload.proofs.OneByOne.{next_turn, last_turn}
use Rattle.workload.proofs.one_by_one.jobs_left.Goals as goal

pub jobs-preserved : goal.jobs-preserved
jobs-preserved c =
    let l = c.jobs in
    let us = c.next_job.new.reader in
    let q = c.in-Some.request in
    let going : (after_end_array l.reader ≡ None) × (c.take_end_array.new.self ≡ l.reader) = grind arith in
    let shorter : length us < length l.reader = rw (← going.1) (rw c.in-Some.is at c.in_ok-request.ensures.shorter) in
    let pushed = c.in_ok-push-in-Some.ensures.items ∙ ap (λ packed. l.requests.items ++ packed ∷ []) c.in_ok-packed-in-Some.ensures in
    let first : BeginWithJob l.reader q us = rw (← going.1) (rw c.in-Some.is at c.in_ok-request.ensures.read) in record {
      turns = l.invariant.turns - 1;
      enough = omega (arith, l.invariant.enough);
      all = next_turn c.args.reader.now l.reader us l.invariant.turns l.requests.items c.push.new.self.items q
          (omega (arith, l.invariant.enough)) going.0 first pushed l.invariant.all;
      few = grind (arith, common_steps);
      within = grind (arith, common_steps);
    }

pub returns-clause-read : goal.returns-clause-read
returns-clause-read c =
    let l = c.jobs in
    last_turn c.args.reader.now l.reader c.take_end_array.new.self l.invariant.turns l.requests.items c.from_vec.result l.invariant.enough (grind arith) c.from_vec.ensures l.invariant.all
