-- Turns of a first program, then of others, then of a last one.
use Rattle.std.specs.Prelude.{ℕ, ◌≡◌, ◌≢◌, ◌≤◌, ◌⊎◌, ◌+◌, true, false, List, ◌++◌, replicate}
use Rattle.std.specs.List.{list_all}
use Rattle.dbtg_unit.specs.declared.limits.TheConstants.{MOST_STATEMENTS}
use Rattle.dbtg_going.specs.declared.around.Around.{Around}
use Rattle.dbtg_going.specs.Turns.{others}
use Rattle.dbtg_threading.specs.Threading.{is_between}

-- turns of the first unit, then these, then turns of the last unit
pub record AreBetween (around : Around) (units : ℕ) (turns between : List ℕ) : Type 0 where
  pub front : ℕ
  pub back : ℕ
  pub turns_are : turns ≡ replicate front (others around units + 1) ++ (between ++ replicate back units)
  pub others_only : list_all (is_between around units) between ≡ true
  pub front_few : front ≤ MOST_STATEMENTS
  pub back_few : back ≤ MOST_STATEMENTS
  pub front_none : around.first ≡ false → front ≡ 0
  pub back_none : around.last ≡ false → back ≡ 0
  pub apart : around.first ≡ true → (back ≡ 0) ⊎ (others around units + 1 ≢ units)
