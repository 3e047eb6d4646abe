use Rattle.script_asks.proofs.RunsFurther.{defined_first, defined_next, trail_extends}
use Rattle.script_asks.proofs.law.answers_are_taken_in_turn.Goals as goal

pub returns : goal.returns
returns c = record {
  first = λ program request. defined_first program request;
  next = λ program request answers d op e. defined_next program request answers d op e;
  extends = λ program request answers d op e. trail_extends program request answers d op e;
}
