-- The words in which the worked rows are written.
use Prim.Native.String.{String}
use Rattle.std.proofs.Common.{◌≡◌, refl, ap}
use Rattle.std.specs.Prelude.{ℕ, ◌+◌, true, false, ◌==◌, List, [], ◌∷◌, ◌++◌, Option, Some, None, map, codes, if◌then◌else◌}
use Rattle.dbtg_script.specs.Tokens.{Token, equals, into, literal, onto, tokens}
use Rattle.dbtg_script.specs.Lines.{is_statement, trimmed}
use Rattle.dbtg_schema.specs.Lists.{Lists}
use Rattle.dbtg_cells.specs.declared.key.DbKey.{DbKey}
use Rattle.dbtg_cells.specs.declared.key.Value.{Value}
use Rattle.dbtg_unit.specs.declared.statement.Statement.{Statement}
use Rattle.dbtg_unit.specs.declared.unit.Answer.{Answer}
use Rattle.dbtg_unit.specs.declared.unit.Cause.{Cause}
use Rattle.dbtg_unit.specs.declared.unit.Status.TheVariants.{Done, Refused}
use Rattle.dbtg_program.specs.declared.program.End.{End}
use Rattle.dbtg_program.specs.declared.program.Program.{Program}
use Rattle.dbtg_program.specs.States.{ProgramState, beginning}
use Rattle.dbtg_program.specs.Going.{Due, due, ended, next, told}
use Rattle.dbtg_program.specs.Sentences.{Holding, cut, cut_lines, holding}
use Rattle.dbtg_program.specs.Reading.{program_of}

-- WORDS, CUT AT ONCE

-- the words outside a text and inside one: the definition computes each of them again at each byte
abbrev pub both_with : ℕ → List ℕ → List Token × List Token → List Token × List Token
both_with b bs p = (
  (if b == 32 then p.0 else (if b == 61 then equals ∷ p.0 else (if b == 34 then p.1 else onto b bs p.0))),
  (if b == 34 then literal [] ∷ p.0 else into b p.1),
)

abbrev pub both : List ℕ → List Token × List Token
both [] = ([], literal [] ∷ [])
both (b ∷ bs) = both_with b bs (both bs)

both_is : (bs : List ℕ) → both bs ≡ (tokens false bs, tokens true bs)
unfolding tokens
both_is [] = refl
both_is (b ∷ bs) = ap (λ (p : List Token × List Token). both_with b bs p) (both_is bs)

-- a line, cut into words
abbrev pub cut_at_once : ℕ → List ℕ → Holding
cut_at_once number line = holding number line (both (trimmed line)).0

cut_is : (number : ℕ) (line : List ℕ) → cut_at_once number line ≡ cut number line
cut_is number line = ap (λ (p : List Token × List Token). holding number line p.0) (both_is (trimmed line))

abbrev pub lines_at_once : ℕ → List (List ℕ) → List Holding
lines_at_once number [] = []
lines_at_once number (l ∷ ls) = (if is_statement (trimmed l) then cut_at_once number l ∷ [] else []) ++ lines_at_once (number + 1) ls

-- they are the lines of the definition
pub lines_are : (number : ℕ) (ls : List (List ℕ)) → lines_at_once number ls ≡ cut_lines number ls
lines_are number [] = refl
lines_are number (l ∷ ls) = rw (cut_is number l, lines_are (number + 1) ls) refl

-- the program of these lines
abbrev pub of_lines : Lists → List String → Program
of_lines schema ls = program_of (record { schema = schema; sentences = lines_at_once 1 (map (λ l. codes l) ls) })

-- ANSWERS

abbrev pub done : Answer
done = record { status = Done; key = None; items = None }

abbrev pub found : DbKey → Answer
found k = record { status = Done; key = Some k; items = None }

abbrev pub got : DbKey → List Value → Answer
got k items = record { status = Done; key = Some k; items = Some items }

abbrev pub no : Cause → Answer
no cause = record { status = Refused cause; key = None; items = None }

-- WHAT A PROGRAM DOES

-- the statements that are made where these are the answers, and how it ends after them
pub record Played : Type 0 where
  pub statements : List Statement
  pub values : List Value
  pub end : Option End

abbrev pub before : Statement → Played → Played
before s p = record p { statements = s ∷ p.statements }

abbrev pub at_end : Due → Played
at_end (due state s) = record { statements = s ∷ []; values = state.values; end = None }
at_end (ended state e) = record { statements = []; values = state.values; end = Some e }

abbrev pub by_due : Program → Due → Answer → (ProgramState → Played) → Played
by_due program (due state s) a further = before s (further (told program state s a))
by_due program (ended state e) a further = at_end (ended state e)

abbrev pub played_from : Lists → Program → ProgramState → List Answer → Played
played_from schema program state [] = at_end (next schema program state)
played_from schema program state (a ∷ as_) = by_due program (next schema program state) a (λ behind. played_from schema program behind as_)

abbrev pub played : Lists → Program → List Answer → Played
played schema program answers = played_from schema program (beginning program) answers
