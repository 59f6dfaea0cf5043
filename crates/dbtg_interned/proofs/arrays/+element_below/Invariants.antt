use Rattle.dbtg_interned.proofs.arrays.+element_below.Given as goal

abbrev pub decreases-element_below : goal.decreases-element_below
decreases-element_below l = l.place
