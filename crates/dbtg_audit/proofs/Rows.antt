-- Worked rows: what is said of answers; a trace with its first difference. The expected values were worked out by hand from the pages.
use Rattle.std.proofs.Common.{◌≡◌, ℕ, true, false, List, [], ◌∷◌, ◌++◌, Some, None, refl}
use Rattle.dbtg_cells.specs.declared.key.DbKey.{DbKey}
use Rattle.dbtg_cells.specs.declared.key.Value.{Value}
use Rattle.dbtg_cells.specs.declared.key.Value.TheVariants.{Num}
use Rattle.dbtg_cells.specs.declared.usage.Mode.TheVariants.{Update}
use Rattle.dbtg_unit.specs.declared.statement.Statement.{Statement}
use Rattle.dbtg_unit.specs.declared.statement.Statement.TheVariants.{OpenArea, Get}
use Rattle.dbtg_unit.specs.declared.unit.Answer.{Answer}
use Rattle.dbtg_unit.specs.declared.unit.Cause.TheVariants.{DuplicatesNotAllowed}
use Rattle.dbtg_unit.specs.declared.unit.Entry.{Entry}
use Rattle.dbtg_unit.specs.declared.unit.Status.TheVariants.{Done, Refused}
use Rattle.dbtg_unit.specs.Database.Statements.Effect.{effect}
use Rattle.dbtg_unit.specs.Database.Laws.Replay.{AnswersHold}
use Rattle.dbtg_unit.proofs.Rows.Defined.Histories.{opened, stored}
use Rattle.dbtg_unit.proofs.Rows.Defined.Schemas.{card, main, customers}
use Rattle.dbtg_unit.proofs.Rows.Words.{customer_key, store, text}
use Rattle.dbtg_trace.specs.declared.traced.Said.{Said}
use Rattle.dbtg_trace.specs.declared.traced.Traced.{Traced}
use Rattle.dbtg_audit.specs.declared.auditing.Recorded.{Recorded}
use Rattle.dbtg_audit.specs.Telling.{difference_text}
use Rattle.dbtg_audit.specs.Auditing.{IsFirstDifference, all_units, behind_load, differences_text, is_so, loads}

-- WHAT IS SAID OF AN ANSWER

abbrev status : ℕ → Said
status n = record { status = n; key = None; items = None }

abbrev with_key : ℕ → DbKey → Said
with_key n k = record { status = n; key = Some k; items = None }

abbrev with_items : ℕ → DbKey → List Value → Said
with_items n k items = record { status = n; key = Some k; items = Some items }

-- duplicates not allowed
abbrev no_duplicate : Answer
no_duplicate = record { status = Refused DuplicatesNotAllowed; key = None; items = None }

abbrev entry : ℕ → ℕ → Statement → Answer → Entry
entry ticket unit statement answer = record { ticket = ticket; unit = unit; statement = statement; answer = answer }

-- a GET that is answered 0000 CUSTOMER:1 CNO=7 CNAME="ADA     "
abbrev got : Entry
got = entry 3 1 (Get None) (record { status = Done; key = Some (customer_key 1); items = Some (Num 7 ∷ text "ADA     " ∷ []) })

-- a STORE that is answered 0505
abbrev refused : Entry
refused = entry 2 2 (store customers (Num 7 ∷ text "ADA     " ∷ [])) no_duplicate

its_status : is_so false (status 0) got ≡ true
its_status = refl

another_status : is_so false (status 413) got ≡ false
another_status = refl

-- the first two digits are those of the statement
its_cause_of_another_statement : is_so false (status 605) refused ≡ false
its_cause_of_another_statement = refl

its_refusal : is_so false (status 505) refused ≡ true
its_refusal = refl

its_key : is_so false (with_key 0 (customer_key 1)) got ≡ true
its_key = refl

another_key : is_so false (with_key 0 (customer_key 2)) got ≡ false
another_key = refl

-- a refusal has no key, so a key that is said does not hold
key_of_a_refusal : is_so false (with_key 505 (customer_key 1)) refused ≡ false
key_of_a_refusal = refl

its_items : is_so false (with_items 0 (customer_key 1) (Num 7 ∷ text "ADA     " ∷ [])) got ≡ true
its_items = refl

other_items : is_so false (with_items 0 (customer_key 1) (Num 8 ∷ text "ADA     " ∷ [])) got ≡ false
other_items = refl

-- with statuses only, key and items do not count
other_items_by_status : is_so true (with_items 0 (customer_key 2) (Num 8 ∷ [])) got ≡ true
other_items_by_status = refl

another_status_by_status : is_so true (with_items 413 (customer_key 1) (Num 7 ∷ text "ADA     " ∷ [])) got ≡ false
another_status_by_status = refl

-- A TRACE

-- CNO = 7 CNAME = "ADA"
abbrev store_ada : Statement
store_ada = store customers (Num 7 ∷ text "ADA     " ∷ [])

abbrev line : ℕ → ℕ → Statement → Said → Traced
line number unit statement said = record { line = number; unit = unit; statement = statement; said = said }

-- unit 2 stores again what unit 1 has stored; the trace says that this is done, and that a GET after it is
abbrev before : List Traced
before = line 1 1 (OpenArea main Update) (status 0) ∷ line 2 1 store_ada (with_key 0 (customer_key 1)) ∷ line 4 2 (OpenArea main Update) (status 0) ∷ []

abbrev here : Traced
here = line 5 2 store_ada (status 0)

abbrev behind : List Traced
behind = line 6 2 (Get None) (status 0) ∷ []

-- up to the STORE that is refused
abbrev history : List Entry
history = opened 0 1 ∷ stored ∷ opened 2 2 ∷ entry 3 2 store_ada no_duplicate ∷ []

abbrev recorded : Recorded
recorded = record { units = 2; load = None; traced = before ++ here ∷ behind }

line_5_is_told : IsFirstDifference false card 100 recorded (record { line = 5; said = status 0; history = history })
unfolding effect AnswersHold
line_5_is_told = record {
  before = before;
  here = here;
  behind = behind;
  traced_is = refl;
  line_is = refl;
  said_is = refl;
  past = opened 0 1 ∷ stored ∷ opened 2 2 ∷ [];
  entry = entry 3 2 store_ada no_duplicate;
  history_is = refl;
  answers = record { statements_are = refl; history_of = record { tickets = refl; fitting = refl; answers_hold = (refl, (refl, (refl, (refl, tt)))) } };
  so_before = refl;
  differs = refl;
}

-- THE SCRIPT THAT IS MADE FIRST

-- the beginning of the trace, as a script that unit 3 makes first; unit 2 then stores again
abbrev loaded : Recorded
loaded = record { units = 2; load = Some (OpenArea main Update ∷ store_ada ∷ []); traced = line 1 2 (OpenArea main Update) (status 0) ∷ line 2 2 store_ada (status 505) ∷ [] }

three_units : all_units loaded ≡ 3
three_units = refl

unit_3_loads : loads loaded.units loaded.load ≡ (3, OpenArea main Update) ∷ (3, store_ada) ∷ []
unit_3_loads = refl

nothing_is_said_of_the_load : behind_load loaded (opened 0 3 ∷ stored ∷ opened 2 2 ∷ entry 3 2 store_ada no_duplicate ∷ []) ≡ opened 2 2 ∷ entry 3 2 store_ada no_duplicate ∷ []
nothing_is_said_of_the_load = refl

-- EVERY LINE

-- of two lines, the one that differs is reported
the_second_is_told : differences_text false card (line 4 1 (Get None) (with_key 0 (customer_key 1)) ∷ line 7 1 (Get None) (status 413) ∷ []) (got ∷ got ∷ []) ≡ difference_text card 7 (status 413) got ++ []
the_second_is_told = refl

both_are_told : differences_text true card (line 1 2 store_ada (status 0) ∷ line 2 2 store_ada (status 511) ∷ []) (refused ∷ refused ∷ []) ≡ difference_text card 1 (status 0) refused ++ (difference_text card 2 (status 511) refused ++ [])
both_are_told = refl

-- with statuses only, a different key is not reported
nothing_is_told : differences_text true card (line 4 1 (Get None) (with_key 0 (customer_key 2)) ∷ []) (got ∷ []) ≡ []
nothing_is_told = refl
