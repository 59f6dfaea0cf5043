-- What it means that an order is filled.
use Rattle.std.specs.Prelude.{ℕ, ◌≡◌, ◌+◌, List, [], ◌∷◌, ◌++◌, false, Option, Some, None, map, slice_get}
use Rattle.dbtg_cells.specs.declared.key.Value.{Value}
use Rattle.dbtg_cells.specs.declared.key.Value.TheVariants.{Num, Text}
use Rattle.dbtg_schema.specs.Lists.{Lists}
use Rattle.dbtg_unit.specs.declared.statement.Statement.{Statement}
use Rattle.dbtg_unit.specs.declared.statement.Statement.TheVariants.{Find, Get, Keep, Modify}
use Rattle.dbtg_unit.specs.declared.statement.Form.TheVariants.{Calc}
use Rattle.dbtg_unit.specs.declared.unit.Answer.{Answer}
use Rattle.dbtg_unit.specs.declared.unit.Entry.{Entry}
use Rattle.dbtg_unit.specs.declared.unit.Status.TheVariants.{Done}
use Rattle.dbtg_script.specs.Statements.{script}
use Rattle.inventory_clerks.specs.declared.order.Order.{Order}

-- FIND CALC WARE RECORD USING CODE = code: WARE is record type 0
abbrev pub find_of : ℕ → Statement
find_of code = Find (record { types = false; areas = false; sets = 0 }) (Calc 0 (Num code ∷ []))

-- MODIFY WARE STOCK = stock: STOCK is item 1
abbrev pub change_of : ℕ → Statement
change_of stock = Modify 0 (record { item = 1; value = Num stock } ∷ [])

-- a value that is a number
abbrev pub number_in : Option Value → Option ℕ
number_in (Some (Num n)) = Some n
number_in (Some (Text bytes)) = None
number_in None = None

-- the stock among items
abbrev pub stock_in : Option (List Value) → Option ℕ
stock_in (Some items) = number_in (slice_get items 1)
stock_in None = None

-- the stock that an answer shows
abbrev pub stock_shown : Answer → Option ℕ
stock_shown answer = stock_in answer.items

-- the stock after an order: the stock before, with what is brought and without what is taken
abbrev pub is_after : Order → ℕ → ℕ → Type 0
is_after order before after = after + order.taken ≡ before + order.brought

-- two statements of the unit, one directly after the other: a record is found and kept
pub record HasKept (finding : Statement) (old new : List Entry) : Type 0 where
  pub found : Entry
  pub kept : Entry
  pub journal : new ≡ old ++ found ∷ kept ∷ []
  pub found_is : found.statement ≡ finding
  pub kept_is : kept.statement ≡ Keep
  pub found_done : found.answer.status ≡ Done
  pub kept_done : kept.answer.status ≡ Done

-- a statement: the ware is read, and this is its stock
pub record HasRead (stock : ℕ) (old new : List Entry) : Type 0 where
  pub got : Entry
  pub journal : new ≡ old ++ got ∷ []
  pub got_is : got.statement ≡ Get None
  pub shown : stock_shown got.answer ≡ Some stock

-- a statement: this change, and it is done
pub record HasChanged (changing : Statement) (old new : List Entry) : Type 0 where
  pub changed : Entry
  pub journal : new ≡ old ++ changed ∷ []
  pub changed_is : changed.statement ≡ changing
  pub is_done : changed.answer.status ≡ Done

-- a statement: the stock is changed to what the order leaves of it
pub record HasWritten (order : Order) (stock : ℕ) (old new : List Entry) : Type 0 where
  pub left : ℕ
  pub left_is : is_after order stock left
  pub changed : HasChanged (change_of left) old new

-- the new list begins with the old one
pub record Begins (old new : List Entry) : Type 0 where
  pub more : List Entry
  pub is : new ≡ old ++ more

-- after the old list the ware is found, kept, read and then changed, one directly after another, and the new list ends there: the
-- change is done, and what it makes of the stock is what the order says of what was read
pub record IsFilled (old new : List Entry) (order : Order) : Type 0 where
  pub before : List Entry
  pub kept : List Entry
  pub read : List Entry
  pub stock : ℕ
  pub behind : Begins old before
  pub has_kept : HasKept (find_of order.code) before kept
  pub has_read : HasRead stock kept read
  pub has_written : HasWritten order stock read new

-- after the old list all orders are filled, in their order: the entries that fill one follow those that fill the one before it
unfoldable pub AreFilled : List Entry → List Entry → List Order → Type 0
AreFilled old new [] = Begins old new
AreFilled old new (order ∷ orders) = (filled : List Entry) × IsFilled old filled order × AreFilled filled new orders

-- the statements are made, one after another, and nothing else
pub record HasMade (script : List Statement) (old new : List Entry) : Type 0 where
  pub made : List Entry
  pub journal : new ≡ old ++ made
  pub statements : map (λ (e : Entry). e.statement) made ≡ script

-- the statements of the text are made, one after another, and nothing else
pub record HasOpened (schema : Lists) (text : List ℕ) (old new : List Entry) : Type 0 where
  pub made : HasMade (script schema text) old new
