-- The texts that a source gives a command, and which fault it reports: the first, in the order in which they are read and judged:
-- number of scripts, schema, scripts from 1 on, moves or turns. `holds` says that the source gives a text in a place, `fails` that it
-- cannot, and reports a fault.
use Rattle.std.specs.Prelude.{ℕ, ◌≡◌, ◌+◌, ◌≤◌, ◌<◌, true, false, List, [], ◌∷◌, None, ◌⊎◌, length}
use Rattle.dbtg_schema.specs.Lists.{Lists}
use Rattle.dbtg_schema.specs.Texts.SchemaFaults.{refusal as schema_refusal}
use Rattle.dbtg_script.specs.Moves.{refusal as moves_refusal}
use Rattle.dbtg_script.specs.Turns.{turns_refusal}
use Rattle.dbtg_unit.specs.declared.moves.Move.{Move}
use Rattle.dbtg_trace.specs.Faults.{refusal as trace_refusal}
use Rattle.dbtg_trace.specs.Traces.{trace}
use Rattle.dbtg_trace.specs.declared.traced.Traced.{Traced}
use Rattle.dbtg_command.specs.declared.fault.Fault.{Fault}
use Rattle.dbtg_command.specs.declared.fault.Fault.TheVariants.{ScriptCount, Memory}
use Rattle.dbtg_command.specs.declared.order.Order.{Order}
use Rattle.dbtg_command.specs.declared.order.Order.TheVariants as by
use Rattle.dbtg_command.specs.declared.order.OrderKind.{OrderKind}
use Rattle.dbtg_command.specs.declared.order.OrderKind.TheVariants as kind
use Rattle.dbtg_command.specs.declared.place.TextPlace.{TextPlace}
use Rattle.dbtg_command.specs.declared.place.TextPlace.TheVariants.{Schema, Script, Moves, Turns, Trace}
use Rattle.dbtg_command.specs.Refusals.{schema_in, moves_in, turns_in, is_count, AllAccepted, RefusesMovesText, RefusesSchemaText, RefusesScriptText, RefusesTraceText, RefusesTurnsText}

-- what gives the order, by its kind
abbrev pub kind_of : {A : Type 0} → Order A → OrderKind
kind_of by.Serial = kind.Serial
kind_of (by.Moves it) = kind.Moves
kind_of (by.Turns it) = kind.Turns

-- the same order, given by something else
abbrev pub order_map : {A B : Type 0} → (A → B) → Order A → Order B
order_map f by.Serial = by.Serial
order_map f (by.Moves it) = by.Moves (f it)
order_map f (by.Turns it) = by.Turns (f it)

-- there is such a place, for this many scripts and moves, turns or neither
abbrev pub HasPlace : ℕ → OrderKind → TextPlace → Type 0
HasPlace count which Schema = Unit {0}
HasPlace count which (Script n) = (1 ≤ n) × (n ≤ count)
HasPlace count which Moves = which ≡ kind.Moves
HasPlace count which Turns = which ≡ kind.Turns
HasPlace count which Trace = Unit {0}

-- each text is held in the place of its script, from number n on
abbrev pub HoldsScripts : (TextPlace → List ℕ → Type 0) → ℕ → List (List ℕ) → Type 0
HoldsScripts holds n [] = Unit {0}
HoldsScripts holds n (text ∷ texts) = holds (Script n) text × HoldsScripts holds (n + 1) texts

-- the moves or turns, if there are any, are held in their place
abbrev pub HoldsOrder : (TextPlace → List ℕ → Type 0) → Order (List ℕ) → Type 0
HoldsOrder holds by.Serial = Unit {0}
HoldsOrder holds (by.Moves text) = holds Moves text
HoldsOrder holds (by.Turns text) = holds Turns text

-- the texts of a schema, of this many scripts, and of moves or turns if there are any, each held in its place
pub record Texts (holds : TextPlace → List ℕ → Type 0) (count : ℕ) (which : OrderKind) : Type 0 where
  pub schema : List ℕ
  pub scripts : List (List ℕ)
  pub order : Order (List ℕ)
  pub many : length scripts ≡ count
  pub is_kind : kind_of order ≡ which
  pub holds_schema : holds Schema schema
  pub holds_scripts : HoldsScripts holds 1 scripts
  pub holds_order : HoldsOrder holds order

-- a text of a schema that is held and accepted, and says this schema
pub record ReadSchema (holds : TextPlace → List ℕ → Type 0) (lists : Lists) : Type 0 where
  pub text : List ℕ
  pub held : holds Schema text
  pub accepted : schema_refusal text ≡ None
  pub says : lists ≡ schema_in text

-- the texts of the first scripts, this many, that are held and accepted
pub record ReadScripts (holds : TextPlace → List ℕ → Type 0) (lists : Lists) (count : ℕ) : Type 0 where
  pub texts : List (List ℕ)
  pub many : length texts ≡ count
  pub held : HoldsScripts holds 1 texts
  pub accepted : AllAccepted lists texts

-- a text of moves that is held and accepted, and says these moves
pub record ReadMoves (holds : TextPlace → List ℕ → Type 0) (moves : List Move) : Type 0 where
  pub text : List ℕ
  pub held : holds Moves text
  pub accepted : moves_refusal text ≡ None
  pub says : moves ≡ moves_in text

-- a text of turns that is held and accepted, and says these turns
pub record ReadTurns (holds : TextPlace → List ℕ → Type 0) (turns : List ℕ) : Type 0 where
  pub text : List ℕ
  pub held : holds Turns text
  pub accepted : turns_refusal text ≡ None
  pub says : turns ≡ turns_in text

-- a text of a trace that is held and accepted for this many units of a schema, and says this
pub record ReadTrace (holds : TextPlace → List ℕ → Type 0) (lists : Lists) (units : ℕ) (traced : List Traced) : Type 0 where
  pub text : List ℕ
  pub held : holds Trace text
  pub accepted : trace_refusal lists units text ≡ None
  pub says : traced ≡ trace lists units text

-- the fault is reported for this place: the text cannot be given, or it is held and refused
abbrev pub ToldIn : (TextPlace → List ℕ → Type 0) → (TextPlace → Fault → Type 0) → Fault → TextPlace → (List ℕ → Type 0) → Type 0
ToldIn holds fails fault place Refuses = fails place fault ⊎ ((text : List ℕ) × holds place text × Refuses text)

-- the fault is reported for the trace
abbrev pub ToldOfTrace : (TextPlace → List ℕ → Type 0) → (TextPlace → Fault → Type 0) → Fault → Lists → ℕ → Type 0
ToldOfTrace holds fails fault lists units = ToldIn holds fails fault Trace (RefusesTraceText fault lists units)

-- the fault is reported for the schema
abbrev pub ToldOfSchema : (TextPlace → List ℕ → Type 0) → (TextPlace → Fault → Type 0) → Fault → Type 0
ToldOfSchema holds fails fault = ToldIn holds fails fault Schema (RefusesSchemaText fault)

-- the fault is reported for one of this many scripts, and all before it are held and accepted
pub record ToldOfScripts (holds : TextPlace → List ℕ → Type 0) (fails : TextPlace → Fault → Type 0) (fault : Fault) (lists : Lists) (count : ℕ) : Type 0 where
  pub before : ℕ
  pub read : ReadScripts holds lists before
  pub within : before < count
  pub told : ToldIn holds fails fault (Script (before + 1)) (RefusesScriptText fault (before + 1) lists)

-- the fault is reported for the moves or turns; if there are neither, memory was refused
abbrev pub ToldOfOrder : (TextPlace → List ℕ → Type 0) → (TextPlace → Fault → Type 0) → Fault → OrderKind → Type 0
ToldOfOrder holds fails fault kind.Serial = fault ≡ Memory
ToldOfOrder holds fails fault kind.Moves = ToldIn holds fails fault Moves (RefusesMovesText fault)
ToldOfOrder holds fails fault kind.Turns = ToldIn holds fails fault Turns (RefusesTurnsText fault)

-- the fault is reported for the schema, or the schema is held and accepted and it is reported for a script
abbrev pub ToldOfTexts : (TextPlace → List ℕ → Type 0) → (TextPlace → Fault → Type 0) → Fault → ℕ → Type 0
ToldOfTexts holds fails fault count = ToldOfSchema holds fails fault ⊎ ((lists : Lists) × ReadSchema holds lists × ToldOfScripts holds fails fault lists count)

-- a wrong number of scripts, or else a fault that is reported for schema and scripts, or for the moves or turns if these are held and
-- accepted
abbrev pub ToldOfRun : (TextPlace → List ℕ → Type 0) → (TextPlace → Fault → Type 0) → Fault → ℕ → OrderKind → Type 0
ToldOfRun holds fails fault count which =
    ((is_count count ≡ false) × (fault ≡ ScriptCount))
    ⊎ ((is_count count ≡ true) × (ToldOfTexts holds fails fault count ⊎ ((lists : Lists) × ReadSchema holds lists × ReadScripts holds lists count × ToldOfOrder holds fails fault which)))
