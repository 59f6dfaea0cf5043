-- Wishes: of which statement, and which status and which order breaks them.
-- What is expected was worked out by hand, from the rule that stands above each.
use Rattle.std.specs.Prelude.{◌≡◌, refl, [], ◌∷◌, None, true, false}
use Rattle.std.specs.Fmt.{digits}
use Rattle.dbtg_unit.specs.declared.statement.Statement.TheVariants.{Get}
use Rattle.dbtg_unit.specs.declared.unit.Cause.TheVariants.{NoCurrentOfRunUnit}
use Rattle.dbtg_unit.specs.declared.unit.Entry.{Entry}
use Rattle.dbtg_unit.specs.Database.Laws.Replay.{replay}
use Rattle.dbtg_unit.specs.Database.Statements.Effect.{effect}
use Rattle.dbtg_unit.proofs.Rows.Defined.Schemas.{card}
use Rattle.dbtg_script.specs.Tokens.{into, onto}
use Rattle.dbtg_script.specs.Reading.{verdict}
use Rattle.dbtg_program.specs.declared.program.Program.{Program}
use Rattle.dbtg_program.specs.Going.{within}
use Rattle.dbtg_program.proofs.Rows.Words.{no, of_lines}
use Rattle.dbtg_step.specs.Machine.SequentialDatabase.{unit_at}
use Rattle.dbtg_going.specs.Turns.{after_turns}
use Rattle.dbtg_explore.specs.declared.wishes.Wish.{Wish}
use Rattle.dbtg_explore.specs.Orders.{CanFollow, Meeting, after_order}
use Rattle.dbtg_explore.specs.Replies.{Comes, MakesLast, line_due}
use Rattle.dbtg_explore.specs.Wishes.{BreaksBy, breaks, is_there}

-- WHICH STATEMENT

-- a counter is named in line 1; GET stands in line 2, and a statement with a field in line 4
abbrev pub asker : Program
asker = of_lines card ("01 SEEN PIC 9." ∷ "GET" ∷ "MOVE 1 TO SEEN" ∷ "FIND CALC CUSTOMER RECORD USING CNO = CUSTOMER.CNO" ∷ [])

abbrev pub meeting : Meeting
meeting = record { schema = card; capacity = 5; programs = asker ∷ asker ∷ []; begun = []; last_waits = false }

abbrev pub never : Wish
never = record { unit = 2; line = 2; status = 413; never = true }

statement : is_there meeting never ≡ true
unfolding unit_at onto into
statement = refl

with_a_field : is_there meeting (record never { line = 4 }) ≡ true
unfolding unit_at onto into
with_a_field = refl

only_named : is_there meeting (record never { line = 1 }) ≡ false
unfolding unit_at onto into
only_named = refl

no_line : is_there meeting (record never { line = 5 }) ≡ false
unfolding unit_at onto into
no_line = refl

no_unit : is_there meeting (record never { unit = 3 }) ≡ false
unfolding unit_at onto into
no_unit = refl

-- GET is due in both programs when they meet
due_at_once : line_due meeting [] 2 ≡ 2
unfolding unit_at within verdict onto into digits
due_at_once = refl

-- WHICH STATUS

broken : breaks never 413 ≡ true
broken = refl

held : breaks never 0 ≡ false
held = refl

as_always : breaks (record never { never = false }) 413 ≡ false
as_always = refl

not_always : breaks (record never { never = false }) 0 ≡ true
not_always = refl

-- WHICH ORDER

-- nothing is current, so GET is refused, also where unit 1 was first
abbrev pub refused : Entry
refused = record { ticket = 0; unit = 2; statement = Get None; answer = no NoCurrentOfRunUnit }

-- GET is the statement in line 2 of both
alone : MakesLast meeting 2 2 (2 ∷ [])
unfolding unit_at replay within verdict onto into digits effect after_turns after_order CanFollow
alone = record { before = []; order_is = refl; is_order = (refl, tt); line_is = refl; entry = refused; history_is = refl }

at_once : BreaksBy meeting never (2 ∷ [])
unfolding alone
at_once = record { made = alone; breaks_is = refl }

comes_at_once : Comes meeting (record { unit = 2; line = 2; status = 413 })
unfolding alone
comes_at_once = record { order = 2 ∷ []; made = alone; status_is = refl }

unit_1_first : BreaksBy meeting never (1 ∷ 2 ∷ [])
unfolding unit_at replay within verdict onto into digits effect after_turns after_order CanFollow
unit_1_first = record {
  made = record {
    before = 1 ∷ [];
    order_is = refl;
    is_order = (refl, (refl, tt));
    line_is = refl;
    entry = record refused { ticket = 1 };
    history_is = refl;
  };
  breaks_is = refl;
}
