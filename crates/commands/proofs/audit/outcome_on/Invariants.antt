use Rattle.commands.proofs.audit.outcome_on.Given as goal

abbrev pub ghosts-verdict_on : goal.ghosts-verdict_on
ghosts-verdict_on a given = record { name = given.blank.name; parts = given.blank.parts }
