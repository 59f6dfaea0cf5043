-- The image of a database: its contents as lists.
use Rattle.std.specs.Prelude.{ℕ, List, map, length, unwrap_or}
use Rattle.std.specs.List.{range_with_len}
use Rattle.dbtg_schema.specs.Lists.{Lists}
use Rattle.dbtg_schema.specs.Structure.{set_numbers}
use Rattle.dbtg_cells.specs.declared.key.DbKey.{DbKey}
use Rattle.dbtg_cells.specs.declared.key.Owner.{Owner}
use Rattle.dbtg_cells.specs.declared.key.Value.{Value}
use Rattle.dbtg_cells.specs.declared.usage.Mode.{Mode}
use Rattle.dbtg_unit.specs.Database.State.Base.{Database, items_of, members_of, owners}
use Rattle.dbtg_unit.specs.Database.Statements.Doomed.{all_keys}
use Rattle.dbtg_unit.specs.Database.Statements.Effect.{free_number, version_of}

-- records and versions by key; lists by set, then owner; the least free number of each record type (0: none) and the
-- last generation of each of its numbers; who has each area open, in the order of opening
pub record Image : Type 0 where
  pub records : List (DbKey × List Value)
  pub versions : List (DbKey × ℕ)
  pub lists : List (List (Owner × List DbKey))
  pub next : List ℕ
  pub last : List (List ℕ)
  pub usage : List (List (ℕ × Mode))

-- the image of a database
unfoldable pub image_of : Lists → ℕ → Database → Image
image_of schema capacity db =
    let keys = all_keys schema capacity db in
    let types = range_with_len 0 (length schema.types) in
    record {
      records = map (λ k. (k, items_of db k)) keys;
      versions = map (λ k. (k, version_of db k)) keys;
      lists = map (λ s. map (λ o. (o, members_of db s o)) (owners schema capacity db s)) (set_numbers schema);
      next = map (λ t. unwrap_or (free_number capacity db t) 0) types;
      last = map (λ t. map (db.last t) (range_with_len 1 capacity)) types;
      usage = map db.usage (range_with_len 0 (length schema.areas));
    }
