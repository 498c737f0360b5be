use Rattle.sv_files.proofs.begin.+hand_out.Given as goal

abbrev pub decreases-hand_out : goal.decreases-hand_out
decreases-hand_out g l = l.left
