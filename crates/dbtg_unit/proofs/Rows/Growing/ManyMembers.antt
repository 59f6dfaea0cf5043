-- Many members of one sorted set: ascending by quantity, duplicates LAST.
use Rattle.std.proofs.Common.{◌≡◌, refl, ◌∙◌, ap, ℕ, List, [], ◌∷◌, ◌++◌, Option, Some, map, drop, arith}
use Rattle.std.specs.Prelude.{pos, negsuc, replicate}
use Rattle.std.specs.List.{range_with_len}
use Rattle.dbtg_cells.specs.declared.key.Owner.TheVariants.{System, Rec}
use Rattle.dbtg_cells.specs.declared.key.Value.TheVariants.{Num}
use Rattle.dbtg_cells.specs.declared.usage.Mode.TheVariants.{Update}
use Rattle.dbtg_unit.specs.declared.statement.Statement.{Statement}
use Rattle.dbtg_unit.specs.declared.statement.Which.TheVariants.{First, Last, Next, Nth}
use Rattle.dbtg_unit.specs.declared.unit.Answer.{Answer}
use Rattle.dbtg_unit.specs.declared.unit.Cause.TheVariants.{End, NoRoom}
use Rattle.dbtg_unit.specs.Database.Statements.Effect.{effect}
use Rattle.dbtg_unit.specs.Database.State.Image.{image_of}
use Rattle.dbtg_unit.specs.Database.Laws.Replay.{State, answers, opening_state, state_after}
use Rattle.dbtg_unit.proofs.Rows.Defined.Schemas.{shop, items, lines}
use Rattle.dbtg_unit.proofs.Rows.Growing.ItemsInTurn.{by_quantity, first_items, shop_with, state_with, store_items, the_items, unit_at}
use Rattle.dbtg_unit.proofs.Rows.Growing.OpenedShop.{answers_in_turn, first_answers, first_statements, state_in_turn}
use Rattle.dbtg_unit.proofs.Rows.Words.{Run, by, customer_key, find_in_set, found, item_key, no, ordr_key, run, store, text}

-- THIRTY MEMBERS, ONE BY ONE

-- sorted ascending with duplicates LAST, from the first to the last and past it
thirty_in_order : drop 34 (run shop 30 1 (first_statements ++ (store_items 1 30 ++ by 1 (find_in_set First lines ∷ replicate 30 (find_in_set Next lines))))).answers
    ≡ map found (by_quantity 30) ++ no End ∷ []
unfolding effect image_of by_quantity
thirty_in_order = refl

-- A THOUSAND MEMBERS

-- the first, the hundred-and-first, the hundredth from the end, the last, one beyond it, and one more item than there is room for
abbrev pub last_statements : List (ℕ × Statement)
last_statements =
    by 1 (find_in_set First lines ∷ find_in_set (Nth (pos 101)) lines ∷ find_in_set (Nth (negsuc 99)) lines ∷ find_in_set Last lines
    ∷ find_in_set (Nth (pos 1001)) lines ∷ store items (text "    " ∷ Num 0 ∷ []) ∷ [])

abbrev pub last_answers : List (Option Answer)
last_answers = found (item_key 10) ∷ found (item_key 1) ∷ found (item_key 9) ∷ found (item_key 999) ∷ no End ∷ no NoRoom ∷ []

last_answered : answers shop 1000 (state_with 1000) last_statements ≡ last_answers
unfolding effect shop_with by_quantity
last_answered = refl

abbrev last_state : State
last_state = record { database = shop_with 1000; units = unit_at (item_key 999) (Some (item_key 999)) ∷ [] }

last_leave : state_after shop 1000 (state_with 1000) last_statements ≡ last_state
unfolding effect shop_with by_quantity
last_leave = refl

-- what a run shows of its answers and of its last state
abbrev shown : List (Option Answer) → State → Run
shown told end =
    let image = image_of shop 1000 end.database in
    record { answers = told; records = image.records; lists = image.lists; next = image.next; usage = image.usage; units = end.units }

-- every item, the list of them all by quantity, and no number left
abbrev pub a_thousand : Run
a_thousand =
    record {
      answers = first_answers ++ (map found (first_items 1000) ++ last_answers);
      records = (customer_key 1, Num 7 ∷ text "ADA     " ∷ []) ∷ (ordr_key 1, Num 1 ∷ []) ∷ map (λ n. (item_key n, the_items n)) (range_with_len 1 1000);
      lists = ((Rec (customer_key 1), ordr_key 1 ∷ []) ∷ []) ∷ ((Rec (ordr_key 1), by_quantity 1000) ∷ []) ∷ ((System, []) ∷ []) ∷ [];
      next = 2 ∷ 2 ∷ 0 ∷ [];
      usage = ((1, Update) ∷ []) ∷ ((1, Update) ∷ []) ∷ [];
      units = unit_at (item_key 999) (Some (item_key 999)) ∷ [];
    }

all_shown : shown a_thousand.answers last_state ≡ a_thousand
unfolding image_of shop_with
all_shown = refl

-- no state on the way is computed: a store leads from items 1 to k to items 1 to k + 1, and only the last state is looked at
thousand_in_order : run shop 1000 1 (first_statements ++ (store_items 1 1000 ++ last_statements)) ≡ a_thousand
thousand_in_order =
    (λ i. shown (told i) (left i)) ∙ all_shown where
      told : answers shop 1000 (opening_state shop 1) (first_statements ++ (store_items 1 1000 ++ last_statements)) ≡ a_thousand.answers
      told = answers_in_turn 1000 1000 (omega arith) (omega arith) last_statements ∙ ap (λ others. first_answers ++ (map found (first_items 1000) ++ others)) last_answered

      left : state_after shop 1000 (opening_state shop 1) (first_statements ++ (store_items 1 1000 ++ last_statements)) ≡ last_state
      left = state_in_turn 1000 1000 (omega arith) (omega arith) last_statements ∙ last_leave
