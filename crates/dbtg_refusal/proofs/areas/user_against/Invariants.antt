use Rattle.std.proofs.Common.{◌≡◌, drop}
use Rattle.std.specs.List.{find}
use Rattle.dbtg_cells.specs.Modes.{conflict}
use Rattle.dbtg_refusal.specs.Inside.Imaged.{users_in}
use Rattle.dbtg_refusal.proofs.areas.user_against.Given as goal

abbrev pub invariant-loop-user : goal.invariant-loop-user
invariant-loop-user l = find (λ e. conflict e.1 l.mode) (drop l.user-index l.user-items) ≡ find (λ e. conflict e.1 l.mode) (users_in l.image l.fn.area)
