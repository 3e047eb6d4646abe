use Rattle.command_inputs.proofs.SomeWay.{programs, states, requests, turns, traces, reports, schedules}
use Rattle.command_inputs.proofs.law.some_way.Goals as goal

pub returns : goal.returns
returns c = record {
  programs = programs;
  states = states;
  requests = requests;
  turns = turns;
  traces = traces;
  reports = reports;
  schedules = schedules;
}
