-- What a set lets in and out.
use Rattle.std.specs.Prelude.{◌≡◌, refl, [], ◌∷◌, Some, None}
use Rattle.dbtg_cells.specs.declared.key.Owner.TheVariants.{System, Rec}
use Rattle.dbtg_cells.specs.declared.key.Value.TheVariants.{Num}
use Rattle.dbtg_cells.specs.declared.usage.Mode.TheVariants.{Update}
use Rattle.dbtg_unit.specs.declared.statement.Statement.TheVariants.{OpenArea, Insert, Remove}
use Rattle.dbtg_unit.specs.declared.unit.Cause.TheVariants.{Mandatory, MandatoryAutomatic, NotMember, OtherRecordType}
use Rattle.dbtg_unit.specs.Database.Statements.Effect.{effect}
use Rattle.dbtg_unit.specs.Database.State.Image.{image_of}
use Rattle.dbtg_unit.proofs.Rows.Defined.Schemas.{shop, main, side, customers, orders, items, has, lines}
use Rattle.dbtg_unit.proofs.Rows.Words.{store, by, customer_key, ordr_key, item_key, member, done, found, no, run, unit, text}

-- mandatory, automatic and optional members; not a member; no member type
pub classes_of_members : run shop 100 1 (by 1 (
    OpenArea main Update ∷ OpenArea side Update ∷ store customers (Num 7 ∷ text "ADA     " ∷ [])
    ∷ store orders (Num 1 ∷ []) ∷ Remove has ∷ Insert has ∷ store items (text "A   " ∷ Num 5 ∷ []) ∷ Remove lines
    ∷ Remove lines ∷ Insert has ∷ []))
    ≡ record {
      answers =
          done ∷ done ∷ found (customer_key 1) ∷ found (ordr_key 1) ∷ no Mandatory ∷ no MandatoryAutomatic
          ∷ found (item_key 1) ∷ done ∷ no NotMember ∷ no OtherRecordType ∷ [];
      records =
          (customer_key 1, Num 7 ∷ text "ADA     " ∷ []) ∷ (ordr_key 1, Num 1 ∷ [])
          ∷ (item_key 1, text "A   " ∷ Num 5 ∷ []) ∷ [];
      lists =
          ((Rec (customer_key 1), ordr_key 1 ∷ []) ∷ [])
          ∷ ((Rec (ordr_key 1), []) ∷ [])
          ∷ ((System, []) ∷ [])
          ∷ [];
      next = 2 ∷ 2 ∷ 2 ∷ [];
      usage = ((1, Update) ∷ []) ∷ ((1, Update) ∷ []) ∷ [];
      units =
          unit 1 (Some (item_key 1)) (Some (customer_key 1) ∷ Some (ordr_key 1) ∷ Some (item_key 1) ∷ [])
          (member (customer_key 1) (ordr_key 1) ∷ member (ordr_key 1) (item_key 1) ∷ None ∷ [])
          (Some (ordr_key 1) ∷ Some (item_key 1) ∷ []) (Some Update ∷ Some Update ∷ []) ([])
          ∷ [];
    }
unfolding effect image_of
classes_of_members = refl
