use Rattle.dbtg_interned.proofs.arrays.+with_changed_below.Given as goal

abbrev pub decreases-with_changed_below : goal.decreases-with_changed_below
decreases-with_changed_below l = l.place
