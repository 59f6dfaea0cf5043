-- Which usage modes go together, and in what order the units of an area stand.
-- Two modes conflict where either is exclusive, or where one is protected and the other is an update mode.
use Rattle.std.specs.Prelude.{◌≡◌, refl, List, drop, [], ◌∷◌, Option}
use Rattle.std.specs.List.{flat_map}
use Rattle.dbtg_cells.specs.declared.key.Value.TheVariants.{Num}
use Rattle.dbtg_cells.specs.declared.usage.Mode.{Mode}
use Rattle.dbtg_cells.specs.declared.usage.Mode.TheVariants.{Retrieval, Update, ProtectedRetrieval, ProtectedUpdate, ExclusiveRetrieval, ExclusiveUpdate}
use Rattle.dbtg_unit.specs.declared.statement.Statement.TheVariants.{OpenArea, CloseArea}
use Rattle.dbtg_unit.specs.declared.unit.Answer.{Answer}
use Rattle.dbtg_unit.specs.declared.unit.Cause.TheVariants.{AreaAlreadyOpen, AreaNotOpen, UpdateModeNeeded, UsageConflict}
use Rattle.dbtg_unit.specs.Database.Statements.Effect.{effect}
use Rattle.dbtg_unit.specs.Database.State.Image.{image_of}
use Rattle.dbtg_unit.proofs.Rows.Defined.Schemas.{shop, main, side, customers}
use Rattle.dbtg_unit.proofs.Rows.Words.{by, customer_key, done, found, no, run, store, text}

-- the answer to a second unit that opens the area in each of the six modes
abbrev pub beside : Mode → List (Option Answer)
beside mode =
    flat_map (λ other. drop 1 (run shop 10 2 ((1, OpenArea main mode) ∷ (2, OpenArea main other) ∷ [])).answers)
    (Retrieval ∷ Update ∷ ProtectedRetrieval ∷ ProtectedUpdate ∷ ExclusiveRetrieval ∷ ExclusiveUpdate ∷ [])

beside_retrieval : beside Retrieval ≡ done ∷ done ∷ done ∷ done ∷ no UsageConflict ∷ no UsageConflict ∷ []
unfolding effect image_of
beside_retrieval = refl

beside_update : beside Update ≡ done ∷ done ∷ no UsageConflict ∷ no UsageConflict ∷ no UsageConflict ∷ no UsageConflict ∷ []
unfolding effect image_of
beside_update = refl

beside_protected_retrieval : beside ProtectedRetrieval ≡ done ∷ no UsageConflict ∷ done ∷ no UsageConflict ∷ no UsageConflict ∷ no UsageConflict ∷ []
unfolding effect image_of
beside_protected_retrieval = refl

beside_protected_update : beside ProtectedUpdate ≡ done ∷ no UsageConflict ∷ no UsageConflict ∷ no UsageConflict ∷ no UsageConflict ∷ no UsageConflict ∷ []
unfolding effect image_of
beside_protected_update = refl

beside_exclusive_retrieval : beside ExclusiveRetrieval
    ≡ no UsageConflict ∷ no UsageConflict ∷ no UsageConflict ∷ no UsageConflict ∷ no UsageConflict ∷ no UsageConflict ∷ []
unfolding effect image_of
beside_exclusive_retrieval = refl

beside_exclusive_update : beside ExclusiveUpdate
    ≡ no UsageConflict ∷ no UsageConflict ∷ no UsageConflict ∷ no UsageConflict ∷ no UsageConflict ∷ no UsageConflict ∷ []
unfolding effect image_of
beside_exclusive_update = refl

-- units stand in the order of opening; a unit that closes the area and opens it again stands last; any one of the units can conflict
in_order_of_opening : (run shop 10 3 (
    (1, OpenArea main Retrieval) ∷ (2, OpenArea main Update) ∷ (2, OpenArea side ExclusiveUpdate) ∷ (3, OpenArea main Retrieval)
    ∷ (3, OpenArea main Retrieval) ∷ (3, OpenArea side Retrieval) ∷ (1, CloseArea main) ∷ (1, CloseArea main) ∷ (1, OpenArea main ProtectedRetrieval)
    ∷ (1, OpenArea main Retrieval) ∷ [])).answers
    ≡ done ∷ done ∷ done ∷ done ∷ no AreaAlreadyOpen ∷ no UsageConflict ∷ done ∷ no AreaNotOpen ∷ no UsageConflict ∷ done ∷ []
unfolding effect image_of
in_order_of_opening = refl

in_order_of_opening_usage : (run shop 10 3 (
    (1, OpenArea main Retrieval) ∷ (2, OpenArea main Update) ∷ (2, OpenArea side ExclusiveUpdate) ∷ (3, OpenArea main Retrieval)
    ∷ (3, OpenArea main Retrieval) ∷ (3, OpenArea side Retrieval) ∷ (1, CloseArea main) ∷ (1, CloseArea main) ∷ (1, OpenArea main ProtectedRetrieval)
    ∷ (1, OpenArea main Retrieval) ∷ [])).usage
    ≡ ((2, Update) ∷ (3, Retrieval) ∷ (1, Retrieval) ∷ []) ∷ ((2, ExclusiveUpdate) ∷ []) ∷ []
unfolding effect image_of
in_order_of_opening_usage = refl

-- records are changed in the update modes alone
update_modes : flat_map (λ mode. drop 1 (run shop 10 1 (by 1 (OpenArea main mode ∷ store customers (Num 7 ∷ text "ADA     " ∷ []) ∷ []))).answers)
    (Retrieval ∷ Update ∷ ProtectedRetrieval ∷ ProtectedUpdate ∷ ExclusiveRetrieval ∷ ExclusiveUpdate ∷ [])
    ≡ no UpdateModeNeeded ∷ found (customer_key 1) ∷ no UpdateModeNeeded ∷ found (customer_key 1) ∷ no UpdateModeNeeded ∷ found (customer_key 1) ∷ []
unfolding effect image_of
update_modes = refl
