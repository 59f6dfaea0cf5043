use Rattle.std.proofs.Common.{◌≡◌, drop}
use Rattle.std.specs.List.{find}
use Rattle.dbtg_cells.specs.Keys.{owner_eq}
use Rattle.dbtg_session.proofs.words.list_among.Given as goal

-- the owner is not among those seen
abbrev pub invariant-loop-list : goal.invariant-loop-list
invariant-loop-list l = find (λ e. owner_eq l.owner e.0) (drop l.list-index l.lists) ≡ find (λ e. owner_eq l.owner e.0) l.lists
