-- Which modes of areas go together.
use Rattle.std.specs.Prelude.{◌≡◌, refl, [], ◌∷◌, ◌++◌, Some, None}
use Rattle.dbtg_cells.specs.declared.key.Owner.TheVariants.{System}
use Rattle.dbtg_cells.specs.declared.usage.Mode.TheVariants.{Retrieval, Update, ProtectedRetrieval, ProtectedUpdate, ExclusiveRetrieval}
use Rattle.dbtg_unit.specs.declared.statement.Statement.TheVariants.{OpenArea}
use Rattle.dbtg_unit.specs.declared.unit.Cause.TheVariants.{AreaAlreadyOpen, UsageConflict}
use Rattle.dbtg_unit.specs.Database.Statements.Effect.{effect}
use Rattle.dbtg_unit.specs.Database.State.Image.{image_of}
use Rattle.dbtg_unit.proofs.Rows.Defined.Schemas.{shop, main}
use Rattle.dbtg_unit.proofs.Rows.Words.{by, done, no, run, unit}

-- an update mode is there: nothing protected or exclusive comes in; no area is opened twice
pub modes_of_four_units : run shop 100 4 (by 1 (
    OpenArea main Retrieval ∷ [])
    ++ by 2 (
    OpenArea main Update ∷ [])
    ++ by 3 (
    OpenArea main ProtectedUpdate ∷ [])
    ++ by 4 (
    OpenArea main ProtectedRetrieval ∷ OpenArea main ExclusiveRetrieval ∷ OpenArea main Retrieval
    ∷ OpenArea main Retrieval ∷ []))
    ≡ record {
      answers =
          done ∷ done ∷ no UsageConflict ∷ no UsageConflict ∷ no UsageConflict ∷ done ∷ no AreaAlreadyOpen ∷ [];
      records =
          [];
      lists =
          ([])
          ∷ ([])
          ∷ ((System, []) ∷ [])
          ∷ [];
      next = 1 ∷ 1 ∷ 1 ∷ [];
      usage = ((1, Retrieval) ∷ (2, Update) ∷ (4, Retrieval) ∷ []) ∷ ([]) ∷ [];
      units =
          unit 1 None (None ∷ None ∷ None ∷ [])
          (None ∷ None ∷ None ∷ [])
          (None ∷ None ∷ []) (Some Retrieval ∷ None ∷ []) ([])
          ∷ unit 2 None (None ∷ None ∷ None ∷ [])
          (None ∷ None ∷ None ∷ [])
          (None ∷ None ∷ []) (Some Update ∷ None ∷ []) ([])
          ∷ unit 3 None (None ∷ None ∷ None ∷ [])
          (None ∷ None ∷ None ∷ [])
          (None ∷ None ∷ []) (None ∷ None ∷ []) ([])
          ∷ unit 4 None (None ∷ None ∷ None ∷ [])
          (None ∷ None ∷ None ∷ [])
          (None ∷ None ∷ []) (Some Retrieval ∷ None ∷ []) ([])
          ∷ [];
    }
unfolding effect image_of
modes_of_four_units = refl

-- protected update beside plain retrieval
pub protected_beside_retrieval : run shop 100 2 (by 1 (
    OpenArea main Retrieval ∷ [])
    ++ by 2 (
    OpenArea main ProtectedUpdate ∷ []))
    ≡ record {
      answers =
          done ∷ done ∷ [];
      records =
          [];
      lists =
          ([])
          ∷ ([])
          ∷ ((System, []) ∷ [])
          ∷ [];
      next = 1 ∷ 1 ∷ 1 ∷ [];
      usage = ((1, Retrieval) ∷ (2, ProtectedUpdate) ∷ []) ∷ ([]) ∷ [];
      units =
          unit 1 None (None ∷ None ∷ None ∷ [])
          (None ∷ None ∷ None ∷ [])
          (None ∷ None ∷ []) (Some Retrieval ∷ None ∷ []) ([])
          ∷ unit 2 None (None ∷ None ∷ None ∷ [])
          (None ∷ None ∷ None ∷ [])
          (None ∷ None ∷ []) (Some ProtectedUpdate ∷ None ∷ []) ([])
          ∷ [];
    }
unfolding effect image_of
protected_beside_retrieval = refl
