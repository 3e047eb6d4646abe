use Rattle.benches.proofs.groups.comparison.Comparison.run_both.Given as goal

abbrev pub ghosts-run_plain : goal.ghosts-run_plain
ghosts-run_plain a = record { name = a.blank.name; parts = a.blank.parts }
