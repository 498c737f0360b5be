use Rattle.sv_check.proofs.sound.dots.+climb.Given as goal

abbrev pub decreases-climb : goal.decreases-climb
decreases-climb l = l.steps
