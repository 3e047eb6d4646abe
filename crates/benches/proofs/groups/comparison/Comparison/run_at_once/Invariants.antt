use Rattle.benches.proofs.groups.comparison.Comparison.run_at_once.Given as goal

abbrev pub ghosts-run_together : goal.ghosts-run_together
ghosts-run_together a = record { name = a.blank.name; parts = a.blank.parts }
