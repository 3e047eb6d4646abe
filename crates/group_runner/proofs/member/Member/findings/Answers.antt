use Rattle.std.proofs.Common.{refl}
use Rattle.group_runner.proofs.member.Member.findings.Goals as goal

pub returns : goal.returns
returns c = λ program told group is counted. record {
  bad' = c.in_ok-bad.ensures program told group is;
  differing' = λ i. refl;
  fewer' = c.fewer.ensures program told is counted;
  unlike' = c.unlike.ensures program told is;
}
