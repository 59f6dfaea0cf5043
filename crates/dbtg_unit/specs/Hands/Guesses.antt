-- The guesses after a statement.
-- k is a key, s a set, t a record type, db a database.
use Rattle.std.specs.Prelude.{ℕ, cond, List, Option, Some, None, slice_set, [], ◌∷◌}
use Rattle.std.specs.Option.{option_or}
use Rattle.dbtg_schema.specs.Lists.{Lists}
use Rattle.dbtg_cells.specs.declared.key.DbKey.{DbKey}
use Rattle.dbtg_cells.specs.declared.key.Owner.{Owner}
use Rattle.dbtg_unit.specs.declared.statement.Statement.{Statement}
use Rattle.dbtg_unit.specs.declared.statement.Statement.TheVariants.{Find, Store, Insert, Remove}
use Rattle.dbtg_unit.specs.Database.State.Base.{Database, owner_of}
use Rattle.dbtg_unit.specs.Database.State.Units.{owners_of}
use Rattle.dbtg_unit.specs.Database.Statements.Codes.{is_done}
use Rattle.dbtg_unit.specs.Database.Statements.Effect.{StatementEffect}

-- what the current of run-unit, in the database after the statement, makes of the guesses
abbrev pub noted_guesses : Lists → ℕ → Database → Statement → List (Option Owner) → Option DbKey → List (Option Owner)
noted_guesses schema capacity db (Find suppress form) guesses (Some k) = owners_of schema capacity db k
noted_guesses schema capacity db (Store t items suppress) guesses (Some k) = owners_of schema capacity db k
noted_guesses schema capacity db (Insert s) guesses (Some k) = slice_set guesses s (owner_of schema capacity db s k)
noted_guesses schema capacity db (Remove s) guesses (Some k) = slice_set guesses s None
noted_guesses schema capacity db _ guesses _ = guesses

-- a FIND or STORE notes all owners of what is current now, an INSERT or REMOVE the one of its set; a refusal notes none
abbrev pub guesses_after : Lists → ℕ → Statement → List (Option Owner) → StatementEffect → List (Option Owner)
guesses_after schema capacity statement guesses outcome =
    cond (is_done outcome.answer.status) (noted_guesses schema capacity outcome.database statement guesses outcome.unit.currency.run_unit) guesses

-- the guesses with the owners that a turn back notes: an owner that it notes becomes the guess, elsewhere the guess stays
abbrev pub with_owners : List (Option Owner) → List (Option Owner) → List (Option Owner)
with_owners [] owners = owners
with_owners (g ∷ guesses) [] = g ∷ guesses
with_owners (g ∷ guesses) (o ∷ owners) = option_or o g ∷ with_owners guesses owners
