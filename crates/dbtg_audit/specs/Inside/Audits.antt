-- How an audit goes: one statement after another.
use Rattle.std.specs.Prelude.{ℕ, ◌≡◌, ◌++◌, Bool, true, false, List, [], ◌∷◌, Option, Some, None}
use Rattle.dbtg_schema.specs.Lists.{Lists}
use Rattle.dbtg_unit.specs.declared.statement.Statement.{Statement}
use Rattle.dbtg_unit.specs.declared.unit.Entry.{Entry}
use Rattle.dbtg_unit.specs.Database.Laws.Replaying.{statements_of}
use Rattle.dbtg_step.specs.Core.Whole.{Making}
use Rattle.dbtg_trace.specs.declared.traced.Said.{Said}
use Rattle.dbtg_trace.specs.declared.traced.Traced.{Traced}
use Rattle.dbtg_audit.specs.Auditing.{all_so, asked, differences_text, is_so, loads, units_with}

-- exactly the script that is made first is made, by the unit after those of the trace
pub record IsLoaded (schema : Lists) (capacity units : ℕ) (load : Option (List Statement)) (m : Making) : Type 0 where
  pub same : m ≡ record { schema = schema; capacity = capacity; units = units_with units load; history = m.history }
  pub statements : statements_of m.history ≡ loads units load

-- exactly these statements are made, after the earlier ones, in these entries
pub record HasMadeThese (old : Making) (traced : List Traced) (new : Making) : Type 0 where
  pub made : List Entry
  pub same : new ≡ record old { history = old.history ++ made }
  pub statements : statements_of made ≡ asked traced

-- exactly these statements are made, and all that is said holds of their entries
pub record HasMadeSo (statuses : Bool) (old : Making) (traced : List Traced) (new : Making) : Type 0 where
  pub these : HasMadeThese old traced new
  pub so : all_so statuses traced these.made ≡ true

-- the same for the statements before one; that one is made too, and what is said of it does not hold for its entry
pub record HasMadeOther (statuses : Bool) (old : Making) (traced : List Traced) (line : ℕ) (said : Said) (new : Making) : Type 0 where
  pub before : List Traced
  pub here : Traced
  pub behind : List Traced
  pub traced_is : traced ≡ before ++ here ∷ behind
  pub line_is : line ≡ here.line
  pub said_is : said ≡ here.said
  pub past : List Entry
  pub entry : Entry
  pub same : new ≡ record old { history = old.history ++ (past ++ entry ∷ []) }
  pub statements : statements_of (past ++ entry ∷ []) ≡ asked (before ++ here ∷ [])
  pub so_before : all_so statuses before past ≡ true
  pub differs : is_so statuses here.said entry ≡ false

-- all statements are made, or those up to the first whose answer differs, with its line and what the line says
abbrev pub HasMadeUpTo : Bool → Making → List Traced → Option (ℕ × Said) → Making → Type 0
HasMadeUpTo statuses old traced None new = HasMadeSo statuses old traced new
HasMadeUpTo statuses old traced (Some found) new = HasMadeOther statuses old traced found.0 found.1 new

-- all statements are made, what differs is appended to a text, and it is known whether everything holds
pub record HasToldAll (statuses : Bool) (schema : Lists) (old : Making) (traced : List Traced) (new : Making) (before told : List ℕ) (so : Bool) : Type 0 where
  pub these : HasMadeThese old traced new
  pub told_is : told ≡ before ++ differences_text statuses schema traced these.made
  pub so_is : so ≡ all_so statuses traced these.made
