-- Hands that show the same are as good as one another: they agree with the same databases, need the same, and read alike.
-- c is the name of a cell, k a key, s a set, o an owner, t a record type, a an area, db a database.
use Rattle.std.proofs.Common.{◌≡◌, refl, sym, ◌∙◌, ap, subst, ℕ, Bool, true, false, cond, not, ◌||◌, List, [], ◌∷◌, Option, Some, None, eqb}
use Rattle.std.specs.Prelude.{⊤, is_some, option_map}
use Rattle.std.specs.List.{find, list_any}
use Rattle.dbtg_schema.specs.Lists.{Lists}
use Rattle.dbtg_cells.specs.declared.cell.Cell.{Cell}
use Rattle.dbtg_cells.specs.declared.cell.Cell.TheVariants.{Usage as UsageCell, Extent as ExtentCell, Ring as RingCell, Slot as SlotCell}
use Rattle.dbtg_cells.specs.declared.key.Owner.{Owner}
use Rattle.dbtg_cells.specs.declared.name.CellName.{CellName}
use Rattle.dbtg_cells.specs.declared.name.CellName.TheVariants.{Usage, Ring}
use Rattle.dbtg_cells.specs.declared.slot.Stored.{Stored}
use Rattle.dbtg_cells.specs.Cells.{shown}
use Rattle.dbtg_cells.specs.Names.{name_eq}
use Rattle.dbtg_cells.specs.Shown.{CellValue, SlotValue}
use Rattle.dbtg_unit.specs.declared.held.Need.{Need}
use Rattle.dbtg_unit.specs.declared.held.Need.TheVariants.{Ready}
use Rattle.dbtg_unit.specs.declared.statement.Statement.{Statement}
use Rattle.dbtg_unit.specs.declared.unit.Unit.{Unit}
use Rattle.dbtg_unit.specs.Database.State.Base.{Database}
use Rattle.dbtg_unit.specs.Database.State.CellNames.{place_of}
use Rattle.dbtg_unit.specs.Database.Statements.Checks.{refused_at_once}
use Rattle.dbtg_unit.specs.Database.State.Cells.{cell}
use Rattle.dbtg_unit.specs.Hands.Hands.{Hands, cell_of}
use Rattle.dbtg_unit.specs.Hands.InHand.{of_owner, occurrence_in, occurrence_of, users_in, users_of}
use Rattle.dbtg_unit.specs.Hands.Local.{Agrees, AllAgree, holds}
use Rattle.dbtg_unit.specs.Hands.Making.{HaveNextVersions, IsReady, MayPrepare, ShowsTheSame}
use Rattle.dbtg_unit.specs.Hands.Needs.{areas_in_order, cells_of, is_stale, need, next_of}
use Rattle.dbtg_unit.specs.Hands.Prepared.{values_of}
use Rattle.dbtg_unit.proofs.Hands.Reading.AsTheDatabase.{occurrence_shows, users_show}
use Rattle.dbtg_unit.proofs.Database.Records.Determined.{ring_in, usage_in}
use Rattle.dbtg_unit.proofs.Hands.Holding.WhileEditing.{Held}

abbrev pub Values : Type 0
Values = List (CellName × CellValue)

pub same_sym : {old new : Hands} → ShowsTheSame old new → ShowsTheSame new old
same_sym same = record { areas = sym same.areas; cells = sym same.cells; guesses = sym same.guesses }

-- WHAT IS READ BY NAME

-- the value under a name
abbrev value_at : CellName → Values → Option CellValue
value_at c [] = None
value_at c (v ∷ vs) = cond (name_eq c v.0) (Some v.1) (value_at c vs)

-- a value under this name
abbrev is_there : CellName → Values → Bool
is_there c [] = false
is_there c (v ∷ vs) = cond (name_eq c v.0) true (is_there c vs)

shown_at : (c : CellName) (cells : Held) → option_map shown (cell_of c cells) ≡ value_at c (values_of cells)
shown_at c [] = refl
shown_at c (e ∷ es) =
    elim (name_eq c e.0) as (λ b. option_map shown (cond b (Some e.1) (cell_of c es)) ≡ cond b (Some (shown e.1)) (value_at c (values_of es))) [
      | true ↦ refl
      | false ↦ shown_at c es
    ]

holds_there : (c : CellName) (cells : Held) → holds cells c ≡ is_there c (values_of cells)
holds_there c [] = refl
holds_there c (e ∷ es) = ap (cond (name_eq c e.0) true) (holds_there c es)

any_there : (c : CellName) (cells : Held) → list_any (λ e. name_eq c e.0) cells ≡ list_any (λ v. name_eq c v.0) (values_of cells)
any_there c [] = refl
any_there c (e ∷ es) = ap (λ b. name_eq c e.0 || b) (any_there c es)

module _ (old new : Hands) (same : ShowsTheSame old new) where
  -- the cell of a name shows the same
  pub cell_of_same : (c : CellName) → option_map shown (cell_of c new.cells) ≡ option_map shown (cell_of c old.cells)
  cell_of_same c = shown_at c new.cells ∙ ap (value_at c) same.cells ∙ sym (shown_at c old.cells)

  -- the same cells are held
  pub holds_same : (c : CellName) → holds new.cells c ≡ holds old.cells c
  holds_same c = holds_there c new.cells ∙ ap (is_there c) same.cells ∙ sym (holds_there c old.cells)

  pub is_held_same : (c : CellName) → list_any (λ e. name_eq c e.0) new.cells ≡ list_any (λ e. name_eq c e.0) old.cells
  is_held_same c = any_there c new.cells ∙ ap (list_any (λ v. name_eq c v.0)) same.cells ∙ sym (any_there c old.cells)

-- what is needed, by the areas, the names that are held and the guesses
abbrev need_by : Lists → ℕ → Database → Unit → Statement → List ℕ → (CellName → Bool) → List (Option Owner) → Need
need_by schema capacity db unit statement areas is_held guesses =
    cond (is_some (refused_at_once schema capacity unit statement)) Ready
    (next_of
    (find (λ a. not (list_any (λ b. eqb b a) areas)) (areas_in_order schema unit statement))
    (find (λ c. not (is_held c)) (cells_of schema capacity db unit guesses statement))
    (is_stale schema capacity db unit guesses statement))

need_is : (schema : Lists) (capacity : ℕ) (db : Database) (unit : Unit) (hands : Hands) (statement : Statement)
    → need schema capacity db unit hands statement ≡ need_by schema capacity db unit statement hands.areas (λ c. list_any (λ e. name_eq c e.0) hands.cells) hands.guesses
unfolding need
need_is schema capacity db unit hands statement = refl

-- the same is needed
pub need_same : (old new : Hands) → ShowsTheSame old new → (schema : Lists) (capacity : ℕ) (db : Database) (unit : Unit) (statement : Statement)
    → need schema capacity db unit new statement ≡ need schema capacity db unit old statement
need_same old new same schema capacity db unit statement =
    need_is schema capacity db unit new statement
    ∙ (λ i. need_by schema capacity db unit statement (same.areas i) (λ c. is_held_same old new same c i) (same.guesses i))
    ∙ sym (need_is schema capacity db unit old statement)

-- READERS

-- what is read from a cell by what it shows
read_same : {X : Type 0} (read : Option Cell → X) (by_value : CellValue → X) → ((x : Cell) → read (Some x) ≡ by_value (shown x)) → (x y : Option Cell) → option_map shown x ≡ option_map shown y → read x ≡ read y
read_same read by_value shows None None e = refl
read_same read by_value shows None (Some y) e = absurd (cc)
read_same read by_value shows (Some x) None e = absurd (cc)
read_same read by_value shows (Some x) (Some y) e = let alike : shown x ≡ shown y = cc in shows x ∙ ap by_value alike ∙ sym (shows y)

module _ (old new : Hands) (same : ShowsTheSame old new) where
  pub occurrence_in_same : (s : ℕ) (o : Owner) → occurrence_in new s o ≡ occurrence_in old s o
  occurrence_in_same s o = read_same (occurrence_of o) (λ v. of_owner o (ring_in v)) (occurrence_shows o) _ _ (cell_of_same old new same (Ring s (place_of o)))

  pub users_in_same : (a : ℕ) → users_in new a ≡ users_in old a
  users_in_same a = read_same users_of usage_in users_show _ _ (cell_of_same old new same (Usage a))

-- WHAT STAYS SO

-- each value is as the database has it
abbrev pub EachAgrees : Lists → ℕ → Database → Values → Type 0
EachAgrees schema capacity db [] = ⊤
EachAgrees schema capacity db (v ∷ vs) = (v.1 ≡ cell schema capacity db v.0) × EachAgrees schema capacity db vs

module _ (schema : Lists) (capacity : ℕ) (db : Database) where
  pub values_agree : (cells : Held) → AllAgree schema capacity db cells → EachAgrees schema capacity db (values_of cells)
  values_agree [] h = tt
  values_agree (e ∷ es) h = (h.0, values_agree es h.1)

  pub cells_agree : (cells : Held) → EachAgrees schema capacity db (values_of cells) → AllAgree schema capacity db cells
  cells_agree [] h = tt
  cells_agree (e ∷ es) h = (h.0, cells_agree es h.1)

  pub all_agree_same : (old new : Held) → values_of new ≡ values_of old → AllAgree schema capacity db old → AllAgree schema capacity db new
  all_agree_same old new same h = cells_agree new (subst (EachAgrees schema capacity db) (sym same) (values_agree old h))

-- they agree with the same databases
pub agrees_same : (schema : Lists) (capacity : ℕ) (db : Database) (unit : Unit) (old new : Hands) → ShowsTheSame old new → Agrees schema capacity db old unit → Agrees schema capacity db new unit
agrees_same schema capacity db unit old new same agrees =
    record { legal = agrees.legal; cells = all_agree_same schema capacity db old.cells new.cells same.cells agrees.cells; usage = agrees.usage }

pub ready_same : (schema : Lists) (capacity : ℕ) (unit : Unit) (old new : Hands) (statement : Statement) → ShowsTheSame old new → IsReady schema capacity unit old statement → IsReady schema capacity unit new statement
ready_same schema capacity unit old new statement same ready =
    λ db agrees. need_same old new same schema capacity db unit statement ∙ ready db (agrees_same schema capacity db unit new old (same_sym same) agrees)

-- the cell that is shown as a record
pub slot_shown : (x : Cell) (r : Option Stored) → shown x ≡ SlotValue r → x ≡ SlotCell r
slot_shown (UsageCell v) r h = absurd (cc)
slot_shown (ExtentCell v) r h = absurd (cc)
slot_shown (RingCell v) r h = absurd (cc)
slot_shown (SlotCell v) r h = let e : v ≡ r = cc in ap SlotCell e

slot_there : (o : Option Cell) (r : Option Stored) → option_map shown o ≡ Some (SlotValue r) → o ≡ Some (SlotCell r)
slot_there None r h = absurd (cc)
slot_there (Some x) r h = let e : shown x ≡ SlotValue r = cc in ap Some (slot_shown x r e)

pub versions_same : (old new : Hands) → ShowsTheSame old new → HaveNextVersions old.cells → HaveNextVersions new.cells
versions_same old new same next =
    λ c stored there. next c stored (slot_there (cell_of c old.cells) (Some stored) (sym (cell_of_same old new same c) ∙ ap (option_map shown) there))

pub may_prepare_same : (schema : Lists) (capacity : ℕ) (unit : Unit) (old new : Hands) (statement : Statement) → ShowsTheSame old new → MayPrepare schema capacity unit old statement → MayPrepare schema capacity unit new statement
may_prepare_same schema capacity unit old new statement same may =
    record { sound = may.sound; fits = may.fits; of_schema = may.of_schema; within = may.within; ready = ready_same schema capacity unit old new statement same may.ready; versions = versions_same old new same may.versions }
