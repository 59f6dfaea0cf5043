-- The entries of a unit, one after another.
use Rattle.std.proofs.Common.{◌≡◌, ℕ, List, ◌∷◌, ap}
use Rattle.std.specs.Prelude.{cond}
use Rattle.std.proofs.lemmas.Bool.{eq-eqb}
use Rattle.dbtg_unit.specs.Database.Laws.Replay.{entries_of}
use Rattle.dbtg_unit.specs.declared.unit.Entry.{Entry}

-- an entry of the unit is the first of its entries
pub mine_first : (u : ℕ) (e : Entry) (es : List Entry) → e.unit ≡ u → entries_of u (e ∷ es) ≡ e ∷ entries_of u es
mine_first u e es q = ap (λ b. cond b (e ∷ entries_of u es) (entries_of u es)) (eq-eqb e.unit u q)
