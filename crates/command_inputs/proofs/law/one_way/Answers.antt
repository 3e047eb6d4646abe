use Rattle.command_inputs.proofs.OneWay.{programs, states, requests, turns, traces, reports, schedules}
use Rattle.command_inputs.proofs.law.one_way.Goals as goal

pub returns : goal.returns
returns c = record {
  programs = programs;
  states = states c.one_way.ensures;
  requests = requests c.one_way-2.ensures.requests;
  turns = turns c.one_way-2.ensures.turns;
  traces = traces c.reading_is_exact.ensures c.fault_is_one.ensures;
  reports = reports c.reading_is_exact-2.ensures;
  schedules = schedules c.reading_is_exact-3.ensures;
}
