-- A number is used again, in its next generation.
use Rattle.std.specs.Prelude.{◌≡◌, refl, ℕ, zero, suc, List, Option, [], ◌∷◌, Some, None, true, false}
use Rattle.dbtg_cells.specs.declared.key.Owner.TheVariants.{System, Rec}
use Rattle.dbtg_cells.specs.declared.key.Value.TheVariants.{Num}
use Rattle.dbtg_cells.specs.declared.usage.Mode.TheVariants.{Update}
use Rattle.dbtg_unit.specs.declared.statement.Erase.TheVariants.{Plain}
use Rattle.dbtg_unit.specs.declared.statement.Form.TheVariants.{Key}
use Rattle.dbtg_unit.specs.declared.statement.Statement.TheVariants.{OpenArea, Store, Delete}
use Rattle.dbtg_unit.specs.declared.statement.Statement.{Statement}
use Rattle.dbtg_unit.specs.declared.unit.Answer.{Answer}
use Rattle.dbtg_unit.specs.declared.statement.Which.TheVariants.{First, Next}
use Rattle.dbtg_unit.specs.declared.unit.Cause.TheVariants.{End, NoRoom, NoneSatisfies}
use Rattle.dbtg_unit.specs.Database.Statements.Effect.{effect}
use Rattle.dbtg_unit.specs.Database.State.Image.{image_of}
use Rattle.dbtg_unit.proofs.Rows.Defined.Schemas.{card, shop, main, side, customers, orders, items, lines}
use Rattle.dbtg_unit.proofs.Rows.Words.{find, find_in_set, find_in_area, store, by, customer_key, ordr_key, item_key, member, done, found, no, run, unit, text}

-- the least free number, in its second generation
pub number_used_again : run shop 2 1 (by 1 (
    OpenArea main Update ∷ OpenArea side Update ∷ store customers (Num 7 ∷ text "ADA     " ∷ [])
    ∷ store orders (Num 1 ∷ []) ∷ store items (text "    " ∷ Num 0 ∷ []) ∷ store items (text "    " ∷ Num 0 ∷ [])
    ∷ store items (text "    " ∷ Num 0 ∷ []) ∷ find_in_set First lines ∷ Delete Plain
    ∷ store items (text "    " ∷ Num 0 ∷ []) ∷ []))
    ≡ record {
      answers =
          done ∷ done ∷ found (customer_key 1) ∷ found (ordr_key 1) ∷ found (item_key 1) ∷ found (item_key 2)
          ∷ no NoRoom ∷ found (item_key 1) ∷ done ∷ found (record (item_key 1) { generation = 2 }) ∷ [];
      records =
          (customer_key 1, Num 7 ∷ text "ADA     " ∷ []) ∷ (ordr_key 1, Num 1 ∷ [])
          ∷ (record (item_key 1) { generation = 2 }, text "    " ∷ Num 0 ∷ []) ∷ (item_key 2, text "    " ∷ Num 0 ∷ [])
          ∷ [];
      lists =
          ((Rec (customer_key 1), ordr_key 1 ∷ []) ∷ [])
          ∷ ((Rec (ordr_key 1), item_key 2 ∷ record (item_key 1) { generation = 2 } ∷ []) ∷ [])
          ∷ ((System, []) ∷ [])
          ∷ [];
      next = 2 ∷ 2 ∷ 0 ∷ [];
      usage = ((1, Update) ∷ []) ∷ ((1, Update) ∷ []) ∷ [];
      units =
          unit 1 (Some (record (item_key 1) { generation = 2 })) (Some (customer_key 1) ∷ Some (ordr_key 1) ∷ Some (record (item_key 1) { generation = 2 }) ∷ [])
          (member (customer_key 1) (ordr_key 1) ∷ member (ordr_key 1) (record (item_key 1) { generation = 2 }) ∷ None ∷ [])
          (Some (ordr_key 1) ∷ Some (record (item_key 1) { generation = 2 }) ∷ []) (Some Update ∷ Some Update ∷ []) ([])
          ∷ [];
    }
unfolding effect image_of
number_used_again = refl

-- the key of the first generation names nothing any more
pub first_generation_is_gone : run shop 2 1 (by 1 (
    OpenArea main Update ∷ OpenArea side Update ∷ store customers (Num 7 ∷ text "ADA     " ∷ [])
    ∷ store orders (Num 1 ∷ []) ∷ store items (text "    " ∷ Num 0 ∷ []) ∷ store items (text "    " ∷ Num 0 ∷ [])
    ∷ store items (text "    " ∷ Num 0 ∷ []) ∷ find_in_set First lines ∷ Delete Plain
    ∷ store items (text "    " ∷ Num 0 ∷ []) ∷ find (Key (item_key 1))
    ∷ find (Key (record (item_key 1) { generation = 2 })) ∷ []))
    ≡ record {
      answers =
          done ∷ done ∷ found (customer_key 1) ∷ found (ordr_key 1) ∷ found (item_key 1) ∷ found (item_key 2)
          ∷ no NoRoom ∷ found (item_key 1) ∷ done ∷ found (record (item_key 1) { generation = 2 }) ∷ no NoneSatisfies
          ∷ found (record (item_key 1) { generation = 2 }) ∷ [];
      records =
          (customer_key 1, Num 7 ∷ text "ADA     " ∷ []) ∷ (ordr_key 1, Num 1 ∷ [])
          ∷ (record (item_key 1) { generation = 2 }, text "    " ∷ Num 0 ∷ []) ∷ (item_key 2, text "    " ∷ Num 0 ∷ [])
          ∷ [];
      lists =
          ((Rec (customer_key 1), ordr_key 1 ∷ []) ∷ [])
          ∷ ((Rec (ordr_key 1), item_key 2 ∷ record (item_key 1) { generation = 2 } ∷ []) ∷ [])
          ∷ ((System, []) ∷ [])
          ∷ [];
      next = 2 ∷ 2 ∷ 0 ∷ [];
      usage = ((1, Update) ∷ []) ∷ ((1, Update) ∷ []) ∷ [];
      units =
          unit 1 (Some (record (item_key 1) { generation = 2 })) (Some (customer_key 1) ∷ Some (ordr_key 1) ∷ Some (record (item_key 1) { generation = 2 }) ∷ [])
          (member (customer_key 1) (ordr_key 1) ∷ member (ordr_key 1) (record (item_key 1) { generation = 2 }) ∷ None ∷ [])
          (Some (ordr_key 1) ∷ Some (record (item_key 1) { generation = 2 }) ∷ []) (Some Update ∷ Some Update ∷ []) ([])
          ∷ [];
    }
unfolding effect image_of
first_generation_is_gone = refl

-- in an area the second generation comes after the deleted first and before the next number
pub next_in_area : run shop 2 1 (by 1 (
    OpenArea main Update ∷ OpenArea side Update ∷ store customers (Num 7 ∷ text "ADA     " ∷ [])
    ∷ store orders (Num 1 ∷ []) ∷ store items (text "    " ∷ Num 0 ∷ []) ∷ store items (text "    " ∷ Num 0 ∷ [])
    ∷ store items (text "    " ∷ Num 0 ∷ []) ∷ find_in_set First lines ∷ Delete Plain
    ∷ Store items (text "    " ∷ Num 0 ∷ []) (record { types = false; areas = true; sets = 0 })
    ∷ find_in_area Next side ∷ find_in_area Next side ∷ find_in_area Next side ∷ []))
    ≡ record {
      answers =
          done ∷ done ∷ found (customer_key 1) ∷ found (ordr_key 1) ∷ found (item_key 1) ∷ found (item_key 2)
          ∷ no NoRoom ∷ found (item_key 1) ∷ done ∷ found (record (item_key 1) { generation = 2 })
          ∷ found (record (item_key 1) { generation = 2 }) ∷ found (item_key 2) ∷ no End ∷ [];
      records =
          (customer_key 1, Num 7 ∷ text "ADA     " ∷ []) ∷ (ordr_key 1, Num 1 ∷ [])
          ∷ (record (item_key 1) { generation = 2 }, text "    " ∷ Num 0 ∷ []) ∷ (item_key 2, text "    " ∷ Num 0 ∷ [])
          ∷ [];
      lists =
          ((Rec (customer_key 1), ordr_key 1 ∷ []) ∷ [])
          ∷ ((Rec (ordr_key 1), item_key 2 ∷ record (item_key 1) { generation = 2 } ∷ []) ∷ [])
          ∷ ((System, []) ∷ [])
          ∷ [];
      next = 2 ∷ 2 ∷ 0 ∷ [];
      usage = ((1, Update) ∷ []) ∷ ((1, Update) ∷ []) ∷ [];
      units =
          unit 1 (Some (item_key 2)) (Some (customer_key 1) ∷ Some (ordr_key 1) ∷ Some (item_key 2) ∷ [])
          (member (customer_key 1) (ordr_key 1) ∷ member (ordr_key 1) (item_key 2) ∷ None ∷ [])
          (Some (ordr_key 1) ∷ Some (item_key 2) ∷ []) (Some Update ∷ Some Update ∷ []) ([])
          ∷ [];
    }
unfolding effect image_of
next_in_area = refl

-- one number, stored and deleted again and again
abbrev pub again_and_again : ℕ → List Statement
again_and_again zero = store customers (Num 7 ∷ text "        " ∷ []) ∷ []
again_and_again (suc n) = store customers (Num 7 ∷ text "        " ∷ []) ∷ Delete Plain ∷ again_and_again n

-- their answers, where the first has generation g
abbrev pub each_its_generation : ℕ → ℕ → List (Option Answer)
each_its_generation g zero = no NoRoom ∷ []
each_its_generation g (suc n) = found (record (customer_key 1) { generation = g }) ∷ done ∷ each_its_generation (suc g) n

-- after 255 generations the number is spent
pub spent_number : run card 1 1 (by 1 (OpenArea main Update ∷ again_and_again 255))
    ≡ record {
      answers = done ∷ each_its_generation 1 255;
      records = [];
      lists = [];
      next = 0 ∷ [];
      usage = ((1, Update) ∷ []) ∷ [];
      units =
          unit 1 None (Some (record (customer_key 1) { generation = 255 }) ∷ [])
          ([])
          (Some (record (customer_key 1) { generation = 255 }) ∷ []) (Some Update ∷ []) ([])
          ∷ [];
    }
unfolding effect image_of
spent_number = refl
