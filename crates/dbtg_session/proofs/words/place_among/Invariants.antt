use Rattle.std.proofs.Common.{◌≡◌, ◌+◌, drop}
use Rattle.std.specs.List.{position_from}
use Rattle.dbtg_cells.specs.Keys.{key_eq}
use Rattle.dbtg_session.proofs.words.place_among.Given as goal

-- the key is not among those seen
abbrev pub invariant-loop-i : goal.invariant-loop-i
invariant-loop-i l = position_from (key_eq l.key) (l.i + 1) (drop l.i l.list) ≡ position_from (key_eq l.key) 1 l.list
