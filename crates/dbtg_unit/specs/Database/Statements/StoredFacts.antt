-- What the checks of a statement ask of what is stored. A whole database answers, and so do the held cells (`InHand`).
-- k and x are keys, s a set, o an owner, v a sort key, t a record type, a an area, db a database.
use Rattle.std.specs.Prelude.{ℕ, Bool, not, ◌&&◌, List, Option, is_none, unwrap_or}
use Rattle.std.specs.List.{list_any}
use Rattle.dbtg_schema.specs.Lists.{Lists}
use Rattle.dbtg_cells.specs.declared.key.DbKey.{DbKey}
use Rattle.dbtg_cells.specs.declared.key.Owner.{Owner}
use Rattle.dbtg_cells.specs.declared.key.Value.{Value}
use Rattle.dbtg_cells.specs.declared.usage.Mode.{Mode}
use Rattle.dbtg_cells.specs.Keys.{option_value_eq}
use Rattle.dbtg_cells.specs.Members.{is_left_out}
use Rattle.dbtg_unit.specs.Database.State.Base.{Database, free_number, new_key, is_live, items_of, members_of, owner_of, sort_key, version_of}
use Rattle.dbtg_unit.specs.Database.Statements.Found.{with_calc}

-- about a record: is it live, its items, its version, its owner in a set; about an occurrence: is there none, its members, does one of
-- them have this sort key, other than the one that is left out; about a record type: does it have no free number, the key of a new record
-- if it has one, does a live record of it have these CALC items, other than the one left out; about an area: who has it open, and how
pub record StoredFacts : Type 0 where
  pub is_live : DbKey → Bool
  pub items : DbKey → List Value
  pub version : DbKey → ℕ
  pub owner : ℕ → DbKey → Option Owner
  pub is_absent : ℕ → Owner → Bool
  pub members : ℕ → Owner → List DbKey
  pub has_sort_key : ℕ → Owner → Option DbKey → Option Value → Bool
  pub is_full : ℕ → Bool
  pub fresh : ℕ → DbKey
  pub has_calc : ℕ → List Value → Option DbKey → Bool
  pub users : ℕ → List (ℕ × Mode)

-- what a whole database answers
abbrev pub whole : Lists → ℕ → Database → StoredFacts
whole schema capacity db =
    record {
      is_live = is_live db;
      items = items_of db;
      version = version_of db;
      owner = owner_of schema capacity db;
      is_absent = λ s o. is_none (db.lists s o);
      members = members_of db;
      has_sort_key = λ s o left v. list_any (λ x. not (is_left_out left x) && option_value_eq (sort_key schema db s x) v) (members_of db s o);
      is_full = λ t. is_none (free_number capacity db t);
      fresh = λ t. new_key db t (unwrap_or (free_number capacity db t) 0);
      has_calc = λ t values left. list_any (λ x. not (is_left_out left x)) (with_calc schema capacity db t values);
      users = db.usage;
    }
