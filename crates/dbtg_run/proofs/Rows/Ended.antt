-- Two units of a card file, at capacity 2. The first opens the area and stores ADA; the second looks for ADA before it opens the area,
-- which is refused, and then opens it. What is expected was worked out by hand.
use Rattle.std.proofs.Common.{inl, inr, ⊎_elim, ap, sym, subst, arith, true≢false}
use Rattle.std.specs.Prelude.{◌≡◌, ℕ, zero, suc, ◌<◌, ◌≤◌, ◌==◌, false, refl, List, [], ◌∷◌, Option, Some, None, length, option_map, unwrap_or}
use Rattle.std.specs.List.{count_by}
use Rattle.atomic_table.specs.Seated.{TableId}
use Rattle.dbtg_schema.specs.Lists.{Lists}
use Rattle.dbtg_cells.specs.declared.key.Value.TheVariants.{Num}
use Rattle.dbtg_cells.specs.declared.usage.Mode.TheVariants.{Update}
use Rattle.dbtg_unit.specs.declared.statement.Form.TheVariants.{Key}
use Rattle.dbtg_unit.specs.declared.statement.Statement.{Statement}
use Rattle.dbtg_unit.specs.declared.statement.Statement.TheVariants.{Keep, OpenArea}
use Rattle.dbtg_unit.specs.declared.unit.Entry.{Entry}
use Rattle.dbtg_unit.specs.declared.unit.Unit.{Unit}
use Rattle.dbtg_unit.specs.Database.State.Image.{Image, image_of}
use Rattle.dbtg_unit.specs.Database.Statements.Effect.{effect}
use Rattle.dbtg_unit.specs.Database.Laws.Replay.{AnswersHold, IsHistoryOf, replay}
use Rattle.dbtg_unit.proofs.Rows.Defined.Histories.{fine, history, not_found, opened, stored}
use Rattle.dbtg_unit.proofs.Rows.Defined.Schemas.{card, main}
use Rattle.dbtg_unit.proofs.Rows.Words.{customer_key, find, text, unit}
use Rattle.dbtg_step.specs.Core.Audit.{LeadsTo}
use Rattle.dbtg_run.specs.declared.database.Database.{Database}
use Rattle.dbtg_run.specs.declared.settled.Settled.{Settled}
use Rattle.dbtg_run.specs.declared.view.About.{About}
use Rattle.dbtg_run.specs.Drawn.{IsDone}
use Rattle.dbtg_run.specs.Running.{IsRecorded, IsWhole, Ran}
use Rattle.dbtg_run.specs.Settling.{IsSettled}
use Rattle.dbtg_run.specs.UnitView.{UnitView, opening_view}
use Rattle.dbtg_run.specs.Views.{Has}

abbrev about : About
about = record { schema = record { marker = record {}; value = card }; capacity = 2; units = 2 }

-- the first unit stands at ADA
abbrev first : Unit
first = unit 1 (Some (customer_key 1)) (Some (customer_key 1) ∷ []) [] (Some (customer_key 1) ∷ []) (Some Update ∷ []) []

-- the second stands nowhere
abbrev second : Unit
second = unit 2 None (None ∷ []) [] (None ∷ []) (Some Update ∷ []) []

is_history : IsHistoryOf card 2 2 history
unfolding effect AnswersHold
is_history = record { tickets = refl; fitting = refl; answers_hold = (refl, (refl, (refl, (refl, tt)))) }

-- A TICKET

-- the second unit's OPEN has ticket 3, above that of its FIND
done : IsDone about (not_found ∷ []) (not_found ∷ opened 3 2 ∷ []) second (OpenArea main Update) fine
unfolding effect replay
done = record {
  before = opened 0 1 ∷ stored ∷ not_found ∷ [];
  journal = refl;
  above = λ e has. ⊎_elim (λ is. subst (λ (f : Entry). f.ticket < 3) is (omega arith)) (λ none. absurd none) has;
  history = is_history;
  unit_is = refl;
  entries = refl;
}

-- nothing is done if the journal has no new entry
not_done : IsDone about (not_found ∷ []) (not_found ∷ []) second (OpenArea main Update) fine → ⊥
not_done d = true≢false (ap (λ (journal : List Entry). length journal == 1) d.journal)

-- A SCRIPT

-- a unit at this table, with this journal
abbrev seen : TableId → Unit → List Entry → UnitView
seen table u journal = record { table = table; about = about; unit = u; journal = journal }

-- the second unit has made two of three statements
abbrev three : List Statement
three = find (Key (customer_key 1)) ∷ OpenArea main Update ∷ Keep ∷ []

recorded : (table : TableId) → IsRecorded (seen table second (not_found ∷ opened 3 2 ∷ []))
unfolding effect replay
recorded table = record { log = history; history = is_history; unit_is = refl; entries = refl }

ran : (table : TableId) → Ran three (opening_view table about 2) (seen table second (not_found ∷ opened 3 2 ∷ []))
ran table = record {
  made = not_found ∷ opened 3 2 ∷ [];
  left = Keep ∷ [];
  script_is = refl;
  journal = refl;
  own = refl;
  about = refl;
  table = refl;
  number = refl;
  unmade = λ none. absurd cc;
  recorded = inr (recorded table);
}

not_whole : (table : TableId) → IsWhole three (opening_view table about 2) (seen table second (not_found ∷ opened 3 2 ∷ [])) → ⊥
not_whole table = ⊎_elim (λ (all : 2 ≡ 3). absurd (omega arith)) (λ (full : 65535 ≤ 2). absurd (omega arith))

-- it has made all of the first two alone
whole : (table : TableId) → IsWhole (find (Key (customer_key 1)) ∷ OpenArea main Update ∷ []) (opening_view table about 2) (seen table second (not_found ∷ opened 3 2 ∷ []))
whole table = inl refl

-- A SETTLEMENT

abbrev left : Image
left =
    record {
      records = (customer_key 1, Num 7 ∷ text "ADA     " ∷ []) ∷ [];
      versions = (customer_key 1, 1) ∷ [];
      lists = [];
      next = 2 ∷ [];
      last = (1 ∷ 0 ∷ []) ∷ [];
      usage = ((1, Update) ∷ (2, Update) ∷ []) ∷ [];
    }

abbrev settled : Settled
settled = record { schema = card; image = left; history = history; units = first ∷ second ∷ [] }

-- the second unit came before the first
abbrev came : TableId → List UnitView
came table = seen table second (not_found ∷ opened 3 2 ∷ []) ∷ seen table first (opened 0 1 ∷ stored ∷ []) ∷ []

leads : LeadsTo card 2 2 history left (first ∷ second ∷ [])
unfolding effect image_of replay
leads = record { history_of = is_history; image_is = refl; units_are = refl }

-- what holds of both holds of each
of_both : (P : UnitView → Type 0) (a b : UnitView) → P a → P b → (u : UnitView) → Has u (a ∷ b ∷ []) → P u
of_both P a b p q u has = ⊎_elim (λ is. subst P is p) (λ other. ⊎_elim (λ is. subst P is q) (λ none. absurd none) other) has

once : (table : TableId) (n : ℕ) → 0 < n → n ≤ 2 → count_by (λ (u : UnitView). u.unit.number == n) (came table) ≡ 1
once table zero low high = absurd (omega arith)
once table (suc zero) low high = refl
once table (suc (suc zero)) low high = refl
once table (suc (suc (suc n))) low high = absurd (omega arith)

settled_to_the_end : (table : TableId) (db : Database) → db.schema ≡ card → db.about ≡ about → IsSettled db (came table) settled
settled_to_the_end table db schema_is about_is = record {
  schema = sym schema_is;
  leads =
      subst (λ (s : Lists). LeadsTo s db.about.capacity db.about.units history left (first ∷ second ∷ [])) (sym schema_is)
      (subst (λ (a : About). LeadsTo card a.capacity a.units history left (first ∷ second ∷ [])) (sym about_is) leads);
  journal = of_both _ _ _ refl refl;
  unit = of_both _ _ _ (omega arith, refl) (omega arith, refl);
  once = λ n low high. once table n low (subst (λ (a : About). n ≤ a.units) about_is high);
  count = ap (λ (a : About). a.units) (sym about_is);
}

-- with the units the other way round it is not settled
not_settled : (table : TableId) (db : Database) → IsSettled db (came table) (record settled { units = second ∷ first ∷ [] }) → ⊥
not_settled table db s =
    true≢false (ap (λ (o : Option Unit). unwrap_or (option_map (λ (u : Unit). u.number == 1) o) false) (s.unit (seen table second (not_found ∷ opened 3 2 ∷ [])) (inl refl)).1)
