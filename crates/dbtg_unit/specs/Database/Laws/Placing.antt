-- What happens to a list in which a new member is placed.
use Rattle.std.specs.Prelude.{◌≡◌, suc, Bool, true, false, ◌&&◌, ◌||◌, List, [], ◌∷◌, ◌++◌, Option, Some, None, length}
use Rattle.std.specs.List.{list_any, list_all}
use Rattle.dbtg_schema.specs.declared.shape.Order.{Order}
use Rattle.dbtg_schema.specs.declared.shape.Order.TheVariants.{First, Last, Next, Prior, Sorted}
use Rattle.dbtg_schema.specs.declared.shape.Duplicates.TheVariants.{NotAllowed, First as FirstAmongEqual, Last as LastAmongEqual}
use Rattle.dbtg_schema.specs.Lookups.{behind, in_front}
use Rattle.dbtg_cells.specs.declared.key.DbKey.{DbKey}
use Rattle.dbtg_cells.specs.declared.key.Value.{Value}
use Rattle.dbtg_cells.specs.declared.key.Value.TheVariants.{Num, Text}
use Rattle.dbtg_cells.specs.Keys.{key_eq}
use Rattle.dbtg_cells.specs.Placed.{placed}
use Rattle.dbtg_unit.specs.Database.State.Base.{is_member}
use Rattle.dbtg_unit.specs.Database.Statements.Effect.{spot, without, refuses_equal, option_value_eq}
use Rattle.dbtg_unit.specs.Database.State.Legal.{pairwise, keys_in_order}

-- two sort keys of one kind
abbrev pub comparable : Option Value → Option Value → Bool
comparable (Some (Num a)) (Some (Num b)) = true
comparable (Some (Text a)) (Some (Text b)) = true
comparable _ _ = false

-- two members may be in a list of this order: if it is sorted, their keys are of one kind
abbrev pub compares : Order → Option Value → Option Value → Bool
compares (Sorted ascending duplicates) a b = comparable a b
compares _ a b = true

-- some member has the same sort key
abbrev pub has_equal : (DbKey → Option Value) → DbKey → List DbKey → Bool
has_equal key m = list_any (λ x. option_value_eq (key x) (key m))

-- the members are in the order of their keys
abbrev pub stand_in_order : Order → (DbKey → Option Value) → List DbKey → Bool
stand_in_order order key = pairwise (λ x y. keys_in_order order (key x) (key y))

-- m is where its order says: at an end, beside the position, before its equals or after them
abbrev pub StandsRight : Order → Option DbKey → (DbKey → Option Value) → DbKey → List DbKey → List DbKey → Type 0
StandsRight First position key m list new = new ≡ m ∷ list
StandsRight Last position key m list new = new ≡ list ++ m ∷ []
StandsRight Next None key m list new = new ≡ m ∷ list
StandsRight Next (Some p) key m list new = (xs ys : List DbKey) → list ≡ xs ++ p ∷ ys → is_member p xs ≡ false → new ≡ xs ++ p ∷ (m ∷ ys)
StandsRight Prior None key m list new = new ≡ list ++ m ∷ []
StandsRight Prior (Some p) key m list new = (xs ys : List DbKey) → list ≡ xs ++ p ∷ ys → is_member p xs ≡ false → new ≡ xs ++ m ∷ (p ∷ ys)
StandsRight (Sorted ascending FirstAmongEqual) position key m list new = has_equal key m (in_front (key_eq m) new) ≡ false
StandsRight (Sorted ascending LastAmongEqual) position key m list new = has_equal key m (behind (key_eq m) new) ≡ false
StandsRight (Sorted ascending NotAllowed) position key m list new = has_equal key m list ≡ false

-- the new list has the old members and m, in order, m in its right place; without m it is the old list
pub record IsPlaced (order : Order) (position : Option DbKey) (key : DbKey → Option Value) (m : DbKey) (list new : List DbKey) : Type 0 where
  pub members : (x : DbKey) → is_member x new ≡ (key_eq x m || is_member x list)
  pub longer : length new ≡ suc (length list)
  pub less : without m new ≡ list
  pub in_order : stand_in_order order key new ≡ true
  pub right : StandsRight order position key m list new

-- placing a member that is not yet in the list, and whose key is not there if equal keys are refused
abbrev pub PlacingKeepsOrder : Type 0
PlacingKeepsOrder =
    (order : Order) (position : Option DbKey) (key : DbKey → Option Value) (m : DbKey) (list : List DbKey)
    → is_member m list ≡ false → list_all (λ x. compares order (key x) (key m)) list ≡ true → (refuses_equal order && has_equal key m list) ≡ false
    → stand_in_order order key list ≡ true → IsPlaced order position key m list (placed (spot order position key m) m list)
