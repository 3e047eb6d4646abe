use Rattle.group_runner.proofs.member.Member.findings_beside.Goals as goal

pub returns : goal.returns
returns c = λ program told group first h is counted.
    let alone = c.in_ok-findings.ensures program told group is counted in
    record {
      bad' = alone.bad';
      differing' = c.difference.ensures program told group first c.args.rid h is;
      fewer' = alone.fewer';
      unlike' = alone.unlike';
    }
