-- What is kept is judged before the rest, and after what is deleted.
-- What is expected was worked out by hand, from the rule that stands above each.
use Rattle.std.specs.Prelude.{◌≡◌, refl, ℕ, List, [], ◌∷◌, ◌++◌, Some, None, true, false}
use Rattle.dbtg_cells.specs.declared.key.Value.TheVariants.{Num}
use Rattle.dbtg_cells.specs.declared.usage.Mode.TheVariants.{Update}
use Rattle.dbtg_unit.specs.declared.statement.Erase.TheVariants.{Plain, Only, All}
use Rattle.dbtg_unit.specs.declared.statement.Form.TheVariants.{Key}
use Rattle.dbtg_unit.specs.declared.statement.Statement.TheVariants.{OpenArea, Get, Insert, Remove, Delete, Keep, Free}
use Rattle.dbtg_unit.specs.declared.statement.Statement.{Statement}
use Rattle.dbtg_unit.specs.declared.unit.Cause.TheVariants.{ChangedByAnother, Deleted, NoSuchCurrent, NotKept}
use Rattle.dbtg_unit.specs.Database.Statements.Effect.{effect}
use Rattle.dbtg_unit.specs.Database.State.Image.{image_of}
use Rattle.dbtg_unit.proofs.Rows.Words.{find, store, modify, by, owner_itself, member, done, found, got, no, run, unit, key}
use Rattle.dbtg_unit.proofs.Rows.Defined.OwnSchemas.{wood, roots, branches, leaves, bears, sheds, tree}
use Rattle.dbtg_unit.specs.Database.Laws.Replay.{opening_state, state_after}

-- a unit's own changes by INSERT, REMOVE and MODIFY are noted in what it keeps, even if the value stays; another unit's are found out,
-- before not a member, already member, and owner has members, but after deleted
abbrev pub who_changed_it : List (ℕ × Statement)
who_changed_it =
    by 1 (
    OpenArea wood Update ∷ store roots (Num 1 ∷ []) ∷ store branches (Num 1 ∷ []) ∷ store leaves (Num 1 ∷ [])
    ∷ store leaves (Num 2 ∷ []) ∷ find (Key (key leaves 1)) ∷ Keep ∷ [])
    ++ by 2 (
    OpenArea wood Update ∷ find (Key (key leaves 1)) ∷ Keep ∷ [])
    ++ by 1 (
    Insert sheds ∷ Remove sheds ∷ modify leaves 0 (Num 5) ∷ modify leaves 0 (Num 5) ∷ [])
    ++ by 2 (
    Remove sheds ∷ Insert sheds ∷ Insert bears ∷ modify leaves 0 (Num 6) ∷ Delete Plain ∷ Get None ∷ Free false
    ∷ Free false ∷ Remove bears ∷ [])
    ++ by 1 (
    Remove bears ∷ Delete All ∷ find (Key (key branches 1)) ∷ Keep ∷ [])
    ++ by 2 (
    find (Key (key branches 1)) ∷ modify branches 0 (Num 2) ∷ [])
    ++ by 1 (
    Delete Plain ∷ [])
    ++ by 2 (
    Delete Only ∷ [])
    ++ by 1 (
    Delete Plain ∷ Keep ∷ Get None ∷ Free true ∷ Free false ∷ [])

who_changed_it_answers : (run tree 10 2 who_changed_it).answers
    ≡ done ∷ found (key roots 1) ∷ found (key branches 1) ∷ found (key leaves 1) ∷ found (key leaves 2)
    ∷ found (key leaves 1) ∷ done ∷ done ∷ found (key leaves 1) ∷ done ∷ done ∷ done ∷ done ∷ done
    ∷ no ChangedByAnother ∷ no NoSuchCurrent ∷ no ChangedByAnother ∷ no ChangedByAnother ∷ no ChangedByAnother
    ∷ got (key leaves 1) (Num 5 ∷ []) ∷ done ∷ no NotKept ∷ done ∷ no ChangedByAnother ∷ no ChangedByAnother
    ∷ found (key branches 1) ∷ done ∷ found (key branches 1) ∷ done ∷ no ChangedByAnother ∷ done ∷ no Deleted
    ∷ no Deleted ∷ no Deleted ∷ done ∷ no NotKept ∷ []
unfolding effect image_of
who_changed_it_answers = refl

who_changed_it_units : (run tree 10 2 who_changed_it).units
    ≡ unit 1 (Some (key branches 1)) (Some (key roots 1) ∷ Some (key branches 1) ∷ Some (key leaves 1) ∷ [])
    (member (key roots 1) (key branches 1) ∷ owner_itself (key branches 1) ∷ member (key roots 1) (key leaves 1) ∷ owner_itself (key branches 1) ∷ [])
    (Some (key branches 1) ∷ []) (Some Update ∷ []) ([])
    ∷ unit 2 None (None ∷ Some (key branches 1) ∷ Some (key leaves 1) ∷ [])
    (member (key roots 1) (key branches 1) ∷ owner_itself (key branches 1) ∷ None ∷ owner_itself (key branches 1) ∷ [])
    (Some (key branches 1) ∷ []) (Some Update ∷ []) ([])
    ∷ []
unfolding effect image_of
who_changed_it_units = refl

who_changed_it_versions : (image_of tree 10 (state_after tree 10 (opening_state tree 2) who_changed_it).database).versions
    ≡ (key roots 1, 1) ∷ (key leaves 1, 6) ∷ (key leaves 2, 2) ∷ []
unfolding effect image_of
who_changed_it_versions = refl
