-- What uses a try, and when none is left.
use Rattle.std.specs.Prelude.{◌≡◌, ◌+◌, ◌≤◌, []}
use Rattle.dbtg_unit.specs.declared.held.Need.{Need}
use Rattle.dbtg_unit.specs.declared.held.Need.TheVariants.{Ready, Area, Take, Stale}
use Rattle.dbtg_unit.specs.Hands.Hands.{Hands}
use Rattle.dbtg_run.specs.declared.tries.Tries.{Tries}

-- WHAT USES A TRY: a look in vain at what the statement needs next. If another unit has the area or the cell, or changed the area's
-- word meanwhile, what is held stays. If guesses were wrong, the statement turns back: its cells go home, and the true owners are
-- noted, even if no try is left
abbrev pub IsVain : Need → Hands → Hands → Type 0
IsVain Ready old new = ⊥
IsVain (Area a) old new = new ≡ old
IsVain (Take c) old new = new ≡ old
IsVain Stale old new = new ≡ record old { cells = []; guesses = new.guesses }

-- there was a try for each look in vain
abbrev pub Suffice : Tries → Type 0
Suffice tries = tries.vain ≤ tries.given

-- this was the first look in vain without a try for it
abbrev pub AreUsedUp : Tries → Type 0
AreUsedUp tries = tries.vain ≡ tries.given + 1
