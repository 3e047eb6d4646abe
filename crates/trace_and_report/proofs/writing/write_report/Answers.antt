use Rattle.trace_and_report.proofs.writing.write_report.Goals as goal

pub returns : goal.returns
returns c = λ gs is spelled. record {
  first = c.in_ok-report.report.items;
  counted = c.in_ok-report.ensures;
  rest = c.in_ok-write_rest.ensures gs is spelled;
}
