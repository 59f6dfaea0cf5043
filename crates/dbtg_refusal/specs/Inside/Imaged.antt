-- What an image answers to the questions that the checks ask a view.
-- k is a key, s a set, o an owner, t a record type, a an area.
use Rattle.std.specs.Prelude.{ℕ, Bool, false, not, ◌&&◌, ◌==◌, List, [], Option, is_none, is_some, option_map, slice_get, unwrap_or}
use Rattle.std.specs.List.{find, list_any}
use Rattle.dbtg_schema.specs.Lists.{Lists}
use Rattle.dbtg_cells.specs.declared.key.DbKey.{DbKey}
use Rattle.dbtg_cells.specs.declared.key.Owner.{Owner}
use Rattle.dbtg_cells.specs.declared.key.Value.{Value}
use Rattle.dbtg_cells.specs.declared.usage.Mode.{Mode}
use Rattle.dbtg_cells.specs.Keys.{is_member, key_eq, option_value_eq, owner_eq, values_eq}
use Rattle.dbtg_cells.specs.Members.{is_left_out}
use Rattle.dbtg_unit.specs.Database.State.Base.{calc_items, key_item}
use Rattle.dbtg_unit.specs.Database.State.Image.{Image}
use Rattle.dbtg_unit.specs.Database.Statements.StoredFacts.{StoredFacts}
use Rattle.dbtg_refusal.specs.Obstacles.{Holder, obstacle_by}
use Rattle.dbtg_unit.specs.declared.statement.Statement.{Statement}
use Rattle.dbtg_unit.specs.declared.unit.Cause.{Cause}
use Rattle.dbtg_unit.specs.declared.unit.Unit.{Unit}
use Rattle.dbtg_refusal.specs.declared.obstacle.Obstacle.{Obstacle}

-- an image has the record
abbrev pub live_in : Image → DbKey → Bool
live_in image k = list_any (λ e. key_eq k e.0) image.records

-- its items
abbrev pub items_in : Image → DbKey → List Value
items_in image k = unwrap_or (option_map (λ e. e.1) (find (λ e. key_eq k e.0) image.records)) []

-- its version
abbrev pub version_in : Image → DbKey → ℕ
version_in image k = unwrap_or (option_map (λ e. e.1) (find (λ e. key_eq k e.0) image.versions)) 0

-- the lists of set s, by owner
abbrev pub lists_in : Image → ℕ → List (Owner × List DbKey)
lists_in image s = unwrap_or (slice_get image.lists s) []

-- whose list of set s has k
abbrev pub owner_in : Image → ℕ → DbKey → Option Owner
owner_in image s k = option_map (λ e. e.0) (find (λ e. is_member k e.1) (lists_in image s))

-- o's list of set s, if there is one
abbrev pub list_in : Image → ℕ → Owner → Option (List DbKey)
list_in image s o = option_map (λ e. e.1) (find (λ e. owner_eq e.0 o) (lists_in image s))

-- its members
abbrev pub members_in : Image → ℕ → Owner → List DbKey
members_in image s o = unwrap_or (list_in image s o) []

-- a member with this sort key, other than the one that is left out
abbrev pub sort_key_in : Lists → Image → ℕ → Owner → Option DbKey → Option Value → Bool
sort_key_in schema image s o left v = is_some (find (λ x. not (is_left_out left x) && option_value_eq (key_item schema s x.rtype (items_in image x)) v) (members_in image s o))

-- the entry is of another record of type t with these CALC items
abbrev pub holds : Lists → ℕ → List Value → Option DbKey → DbKey × List Value → Bool
holds schema t values left e = (e.0.rtype == t) && (values_eq (calc_items schema t e.1) values && not (is_left_out left e.0))

-- the first of them
abbrev pub holder_in_image : Lists → Image → Holder
holder_in_image schema image t values left = option_map (λ e. e.0) (find (holds schema t values left) image.records)

-- who has area a open
abbrev pub users_in : Image → ℕ → List (ℕ × Mode)
users_in image a = unwrap_or (slice_get image.usage a) []

-- the view of an image; no obstacle asks about free numbers
abbrev pub imaged : Lists → Image → StoredFacts
imaged schema image =
    record {
      is_live = live_in image;
      items = items_in image;
      version = version_in image;
      owner = owner_in image;
      is_absent = λ s o. is_none (list_in image s o);
      members = members_in image;
      has_sort_key = sort_key_in schema image;
      is_full = λ t. false;
      fresh = λ t. record { rtype = t; number = 0; generation = 0 };
      has_calc = λ t values left. is_some (holder_in_image schema image t values left);
      users = users_in image;
    }

-- what is in the way, by what an image answers
abbrev pub obstacle_in : Lists → Image → Unit → Statement → Cause → Option Obstacle
obstacle_in schema image = obstacle_by schema (imaged schema image) (holder_in_image schema image)
