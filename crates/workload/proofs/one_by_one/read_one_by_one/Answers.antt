use Rattle.std.proofs.Common.{◌≡◌, ◌∙◌, [], ◌∷◌, sym, ap, arith}
use Rattle.json.specs.Lex.{tokens}
use Rattle.json.specs.Token.{Token}
use Rattle.workload.specs.OneByOne.{BeginWithJobs}
use Rattle.workload.proofs.OneByOne.{whole_text}
use Rattle.workload.proofs.one_by_one.read_one_by_one.Goals as goal

pub returns : goal.returns
returns c =
    let bytes = c.args.bytes.now in
    let ts = c.next.new.self in
    let requests = c.in-Some.requests in
    let text : c.in-Ok.text.now ≡ bytes = c.in-Ok.ensures.cases.0 in
    let opens : tokens bytes ≡ Token.begin_array ∷ ts = ap tokens (sym text) ∙ grind arith in
    let closed : c.jobs_left.new.reader ≡ [] = grind arith in
    let jobs : BeginWithJobs ts requests [] = rw (← closed) (rw c.in-Some.is at c.in_ok-requests.ensures.read) in
    let whole = whole_text bytes ts requests opens jobs in
    ((whole.0, (c.in-Ok.ensures.cases.1, whole.1), whole.2), rw c.in-Some.is at c.in_ok-requests.ensures.within)
