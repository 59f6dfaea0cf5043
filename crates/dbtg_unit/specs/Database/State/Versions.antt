-- A bound on versions.
use Rattle.std.specs.Prelude.{ℕ, ◌≤◌}
use Rattle.dbtg_cells.specs.declared.key.DbKey.{DbKey}
use Rattle.dbtg_unit.specs.Database.State.Base.{Database}
use Rattle.dbtg_unit.specs.Database.Statements.Effect.{version_of}

-- no record has a version above the bound
abbrev pub VersionsUpTo : ℕ → Database → Type 0
VersionsUpTo bound db = (k : DbKey) → version_of db k ≤ bound
