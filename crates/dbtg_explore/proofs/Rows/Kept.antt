-- What is kept, without versions: whether the record still has the version that is kept of it.
-- What is expected was worked out by hand, from the rule that stands above each.
use Rattle.std.specs.Prelude.{◌≡◌, refl, ℕ, List, [], ◌∷◌, ◌++◌, map}
use Rattle.dbtg_cells.specs.declared.key.DbKey.{DbKey}
use Rattle.dbtg_cells.specs.declared.key.Value.TheVariants.{Num}
use Rattle.dbtg_cells.specs.declared.usage.Mode.TheVariants.{Update}
use Rattle.dbtg_unit.specs.declared.statement.Erase.TheVariants.{Plain}
use Rattle.dbtg_unit.specs.declared.statement.Form.TheVariants.{Key}
use Rattle.dbtg_unit.specs.declared.statement.Statement.{Statement}
use Rattle.dbtg_unit.specs.declared.statement.Statement.TheVariants.{Delete, Keep, OpenArea}
use Rattle.dbtg_unit.specs.Database.Statements.Effect.{effect}
use Rattle.dbtg_unit.specs.Database.Laws.Replay.{opening_state, state_after}
use Rattle.dbtg_unit.proofs.Rows.Defined.Schemas.{card, customers, main}
use Rattle.dbtg_unit.proofs.Rows.Words.{by, customer_key, find, modify, store, text}
use Rattle.dbtg_explore.specs.Versions.{unversioned}

-- unit 1 stores a record and keeps it; unit 2 finds it
abbrev pub begun : List (ℕ × Statement)
begun =
    by 1 (
    OpenArea main Update ∷ store customers (Num 7 ∷ text "        " ∷ []) ∷ Keep ∷ [])
    ++ by 2 (
    OpenArea main Update ∷ find (Key (customer_key 1)) ∷ [])

-- what each unit keeps after these and other statements, without versions
abbrev pub kept_after : List (ℕ × Statement) → List (List (DbKey × ℕ))
kept_after more = map (λ u. u.kept) (unversioned (state_after card 100 (opening_state card 2) (begun ++ more))).units

-- the record has the version that is kept
still_own : kept_after [] ≡ ((customer_key 1, 1) ∷ []) ∷ [] ∷ []
unfolding effect
still_own = refl

-- another unit has changed it: once, twice and three times are the same
changed_once : kept_after (by 2 (
    modify customers 0 (Num 8) ∷ [])) ≡ ((customer_key 1, 0) ∷ []) ∷ [] ∷ []
unfolding effect
changed_once = refl

changed_twice : kept_after (by 2 (
    modify customers 0 (Num 8) ∷ modify customers 0 (Num 8) ∷ [])) ≡ ((customer_key 1, 0) ∷ []) ∷ [] ∷ []
unfolding effect
changed_twice = refl

changed_again : kept_after (by 2 (
    modify customers 0 (Num 8) ∷ modify customers 0 (Num 8) ∷ modify customers 0 (Num 8) ∷ [])) ≡ ((customer_key 1, 0) ∷ []) ∷ [] ∷ []
unfolding effect
changed_again = refl

-- the unit's own changes are noted, and so is a change of another unit where it keeps the record anew
changed_itself : kept_after (by 1 (
    modify customers 0 (Num 8) ∷ modify customers 0 (Num 8) ∷ [])) ≡ ((customer_key 1, 1) ∷ []) ∷ [] ∷ []
unfolding effect
changed_itself = refl

kept_anew : kept_after (by 2 (
    modify customers 0 (Num 8) ∷ [])
    ++ by 1 (
    Keep ∷ [])) ≡ ((customer_key 1, 1) ∷ []) ∷ [] ∷ []
unfolding effect
kept_anew = refl

-- a record that is gone has no version
gone : kept_after (by 2 (
    Delete Plain ∷ [])) ≡ ((customer_key 1, 0) ∷ []) ∷ [] ∷ []
unfolding effect
gone = refl
