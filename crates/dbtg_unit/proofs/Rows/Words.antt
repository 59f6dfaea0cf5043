-- The words in which the worked rows are written.
use Prim.Native.String.{String}
use Rattle.std.specs.Prelude.{ℕ, List, [], ◌∷◌, Option, Some, None, map, codes, false}
use Rattle.dbtg_schema.specs.Lists.{Lists}
use Rattle.dbtg_cells.specs.declared.key.DbKey.{DbKey}
use Rattle.dbtg_cells.specs.declared.key.Owner.{Owner}
use Rattle.dbtg_cells.specs.declared.key.Owner.TheVariants.{System, Rec}
use Rattle.dbtg_cells.specs.declared.key.Value.{Value}
use Rattle.dbtg_cells.specs.declared.key.Value.TheVariants.{Text}
use Rattle.dbtg_cells.specs.declared.usage.Mode.{Mode}
use Rattle.dbtg_unit.specs.declared.statement.Form.{Form}
use Rattle.dbtg_unit.specs.declared.statement.Form.TheVariants.{InSet, InArea}
use Rattle.dbtg_unit.specs.declared.statement.Which.{Which}
use Rattle.dbtg_unit.specs.declared.statement.Statement.{Statement}
use Rattle.dbtg_unit.specs.declared.statement.Statement.TheVariants.{Find, Store, Modify}
use Rattle.dbtg_unit.specs.declared.statement.Suppress.{Suppress}
use Rattle.dbtg_unit.specs.declared.unit.Answer.{Answer}
use Rattle.dbtg_unit.specs.declared.unit.Cause.{Cause}
use Rattle.dbtg_unit.specs.declared.unit.Place.{Place}
use Rattle.dbtg_unit.specs.declared.unit.Status.TheVariants.{Done, Refused}
use Rattle.dbtg_unit.specs.declared.unit.Unit.{Unit}
use Rattle.dbtg_unit.specs.Database.State.Image.{image_of}
use Rattle.dbtg_unit.specs.Database.Laws.Replay.{State, opening_state, answers, state_after}

-- STATEMENTS

abbrev pub nothing : Suppress
nothing = record { types = false; areas = false; sets = 0 }

abbrev pub find : Form → Statement
find form = Find nothing form

abbrev pub find_in_set : Which → ℕ → Statement
find_in_set which s = find (InSet which None s)

abbrev pub find_in_area : Which → ℕ → Statement
find_in_area which a = find (InArea which None a)

abbrev pub store : ℕ → List Value → Statement
store t items = Store t items nothing

abbrev pub modify : ℕ → ℕ → Value → Statement
modify t item value = Modify t (record { item = item; value = value } ∷ [])

-- one unit's statements
abbrev pub by : ℕ → List Statement → List (ℕ × Statement)
by unit = map (λ statement. (unit, statement))

-- VALUES, KEYS AND PLACES

abbrev pub text : String → Value
text letters = Text (codes letters)

-- a record's first key, and its key in a later generation
abbrev pub key : ℕ → ℕ → DbKey
key t n = record { rtype = t; number = n; generation = 1 }

abbrev pub again : DbKey → ℕ → DbKey
again k g = record k { generation = g }

abbrev pub customer_key : ℕ → DbKey
customer_key n = record { rtype = 0; number = n; generation = 1 }

abbrev pub ordr_key : ℕ → DbKey
ordr_key n = record { rtype = 1; number = n; generation = 1 }

abbrev pub item_key : ℕ → DbKey
item_key n = record { rtype = 2; number = n; generation = 1 }

abbrev pub owner_itself : DbKey → Option Place
owner_itself o = Some (record { owner = Rec o; at = None })

abbrev pub member : DbKey → DbKey → Option Place
member o m = Some (record { owner = Rec o; at = Some m })

abbrev pub member_of_system : DbKey → Option Place
member_of_system m = Some (record { owner = System; at = Some m })

-- ANSWERS

abbrev pub done : Option Answer
done = Some (record { status = Done; key = None; items = None })

abbrev pub found : DbKey → Option Answer
found k = Some (record { status = Done; key = Some k; items = None })

abbrev pub got : DbKey → List Value → Option Answer
got k items = Some (record { status = Done; key = Some k; items = Some items })

abbrev pub no : Cause → Option Answer
no cause = Some (record { status = Refused cause; key = None; items = None })

-- A RUN

-- what statements answer, and what is there after them
pub record Run : Type 0 where
  pub answers : List (Option Answer)
  pub records : List (DbKey × List Value)
  pub lists : List (List (Owner × List DbKey))
  pub next : List ℕ
  pub usage : List (List (ℕ × Mode))
  pub units : List Unit

abbrev pub run_from : Lists → ℕ → State → List (ℕ × Statement) → Run
run_from schema capacity state statements =
    let end = state_after schema capacity state statements in
    let image = image_of schema capacity end.database in
    record { answers = answers schema capacity state statements; records = image.records; lists = image.lists; next = image.next; usage = image.usage; units = end.units }

-- statements of these units from the beginning
abbrev pub run : Lists → ℕ → ℕ → List (ℕ × Statement) → Run
run schema capacity units = run_from schema capacity (opening_state schema units)

-- a unit: its number, its current of run-unit, those of the record types, sets and areas, the modes of its areas, what it keeps
abbrev pub unit : ℕ → Option DbKey → List (Option DbKey) → List (Option Place) → List (Option DbKey) → List (Option Mode) → List (DbKey × ℕ) → Unit
unit number run_unit types sets areas modes kept =
    record { number = number; currency = record { run_unit = run_unit; types = types; areas = areas; sets = sets }; modes = modes; kept = kept }
