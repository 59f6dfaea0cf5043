-- What a lawful machine says of one unit, in the words of statements and databases.
use Rattle.std.proofs.Common.{◌≡◌, ℕ, suc, true, not, List, [], ◌∷◌, ◌++◌, map, reverse, Option, Some, inl, inr, refl, sym, ap, ◌∙◌, subst}
use Rattle.std.proofs.lemmas.List.{reverse-reverse}
use Rattle.dbtg_cells.specs.declared.cell.Cell.{Cell}
use Rattle.dbtg_cells.specs.declared.name.CellName.{CellName}
use Rattle.dbtg_cells.specs.declared.key.Owner.{Owner}
use Rattle.dbtg_cells.specs.Cells.{shown}
use Rattle.dbtg_cells.specs.Names.{name_eq}
use Rattle.dbtg_cells.specs.Shown.{CellValue, UsageValue, ExtentValue, RingValue, SlotValue}
use Rattle.dbtg_cells.proofs.Public.{reverse_more}
use Rattle.dbtg_unit.specs.declared.held.Need.{Need}
use Rattle.dbtg_unit.specs.declared.held.Need.TheVariants.{Take}
use Rattle.dbtg_unit.specs.declared.statement.Statement.{Statement}
use Rattle.dbtg_unit.specs.declared.unit.Entry.{Entry}
use Rattle.dbtg_unit.specs.Database.State.Base.{Database}
use Rattle.dbtg_unit.specs.Database.State.Cells.{cell}
use Rattle.dbtg_unit.specs.Database.Statements.Fits.{fits}
use Rattle.dbtg_unit.specs.Database.State.Legal.{pairwise}
use Rattle.dbtg_unit.specs.Database.State.LegalWith.{IsUnitIn}
use Rattle.dbtg_unit.specs.Hands.Local.{Agrees, AllAgree}
use Rattle.dbtg_unit.specs.Hands.Needs.{need}
use Rattle.dbtg_unit.specs.Hands.Prepared.{values_of}
use Rattle.dbtg_unit.specs.Database.Laws.Replay.{opening_state, State as DatabaseState, replay as replay_entries}
use Rattle.dbtg_step.specs.Machine.SequentialDatabase.{In, MayMake, unit_at}
use Rattle.dbtg_step.specs.Inside.SequentialDatabase.{IsSequentialDatabase}
use Rattle.dbtg_step.specs.Machine.Machine.{State as Machine, replay, held_cells}
use Rattle.dbtg_step.specs.Machine.Lawful.{Lawful, AreDistinct}
use Rattle.dbtg_step.specs.Machine.Network.{next_need_of, noted_owners}
use Rattle.dbtg_step.specs.Machine.Headline.{entry_of}
use Rattle.dbtg_step.specs.Core.Parts.{held_of, note_of}
use Rattle.dbtg_step.proofs.Public.{entries_again, in_mapped, in_reverse, need_of_holding, once_of_distinct, replays_same, unit_found}
use Rattle.dbtg_run.specs.declared.view.About.{About}
use Rattle.dbtg_run.specs.declared.view.SeatUnit.{SeatUnit}
use Rattle.dbtg_run.specs.Inside.Views.{bare, bared, init, rest_of}
use Rattle.dbtg_run.specs.Inside.LatchRule.{net, opens, database_after, progress_of, hands_of, Shows}

-- LISTS BY THEIR ENDS

pub init_more : {X : Type 0} (xs : List X) (x : X) → init (xs ++ x ∷ []) ≡ xs
init_more xs x = ap (λ ys. reverse (rest_of ys)) (reverse_more xs x) ∙ reverse-reverse xs

-- CELLS WITHOUT ROOM

pub shown_bare : (v : CellValue) → shown (bare v) ≡ v
shown_bare (UsageValue users) = refl
shown_bare (ExtentValue numbers) = refl
shown_bare (RingValue occurrence) = refl
shown_bare (SlotValue stored) = refl

pub values_bared : (es : List (CellName × Cell)) → values_of (bared es) ≡ values_of es
values_bared [] = refl
values_bared (e ∷ es) = λ i. (e.0, shown_bare (shown e.1) i) ∷ values_bared es i

-- the same values, the same cells without room
pub bared_same : (es fs : List (CellName × Cell)) → values_of es ≡ values_of fs → bared es ≡ bared fs
bared_same [] [] e = refl
bared_same [] (f ∷ fs) e = absurd (cc (e))
bared_same (x ∷ es) [] e = absurd (cc (e))
bared_same (x ∷ es) (f ∷ fs) e =
    let first : ◌≡◌ {A = CellName × CellValue} (x.0, shown x.1) (f.0, shown f.1) = cc (e) in
    let rest : values_of es ≡ values_of fs = cc (e) in
    λ i. ((first i).0, bare (first i).1) ∷ bared_same es fs rest i

pub bared_more : (es : List (CellName × Cell)) (e : CellName × Cell) → bared (es ++ e ∷ []) ≡ bared es ++ (e.0, bare (shown e.1)) ∷ []
bared_more [] e = refl
bared_more (x ∷ es) e = ap (λ xs. (x.0, bare (shown x.1)) ∷ xs) (bared_more es e)

-- THE DATABASE OF A MACHINE

module _ (about : About) (machine : Machine (net about)) (lawful : Lawful (net about) (opens about) machine) where
  abbrev pub database_now : Database
  database_now = (replay (net about) (opens about) machine.history).database

  pub database_is : (log : List Entry) → machine.history ≡ map note_of log → database_now ≡ database_after about log
  database_is log e =
      ap (λ (q : DatabaseState). q.database) (replays_same about.schema.value about.capacity (opens about) machine.history)
      ∙ ap (λ es. (replay_entries about.schema.value about.capacity (opening_state about.schema.value about.units) es).database) (ap (map entry_of) e ∙ entries_again about.schema.value about.capacity log)

  agree_each : (db : Database) (cells : List (CellName × Cell)) → ((e : CellName × Cell) → In e cells → shown e.1 ≡ cell about.schema.value about.capacity db e.0) → AllAgree about.schema.value about.capacity db cells
  agree_each db [] h = tt
  agree_each db (e ∷ es) h = (h e (inl refl), agree_each db es (λ f i. h f (inr i)))

  module _ (u : ℕ) (m : SeatUnit) (sh : Shows about machine u m) where
    unit_here : unit_at (replay (net about) (opens about) machine.history).units (suc u) ≡ Some m.unit
    unit_here = unit_found (net about) (opens about) machine lawful (suc u) sh.state sh.found ∙ ap (λ x. Some x) sh.unit

    pub unit_in : IsUnitIn about.schema.value about.capacity database_now (suc u) m.unit
    unfolding unit_at
    unit_in = lawful.legal.each u m.unit unit_here

    pub agrees_now : Agrees about.schema.value about.capacity database_now (hands_of m) m.unit
    unfolding held_cells
    agrees_now = record {
      legal = lawful.legal.legal;
      cells = agree_each database_now m.held (λ e i.
          (lawful.each (suc u) sh.state sh.found).holding.values (held_of e)
          (subst (λ o. In (held_of e) (held_cells (net about) o)) (sym sh.progress) (in_reverse (held_of e) (map held_of m.held) (in_mapped held_of e m.held i))));
      usage = unit_in.usage;
    }

    pub once_now : pairwise (λ (e f : CellName × Cell). not (name_eq e.0 f.0)) m.held ≡ true
    unfolding held_cells
    once_now = once_of_distinct about.schema.value about.capacity m.held (subst (λ o. AreDistinct (net about) (held_cells (net about) o)) sh.progress (lawful.each (suc u) sh.state sh.found).holding.distinct)

    pub may_now : (x : Statement) → fits about.schema.value x ≡ true → MayMake (net about) database_now (replay (net about) (opens about) machine.history).units (suc u) m.unit x
    may_now x fit = record { legal = lawful.legal; found = unit_here; fits = fit }

    -- the machine's unit needs what the statement needs on every database that agrees with what is held
    pub needs_now : (x : Statement) (g : List (Option Owner)) (n : Need) → ((db : Database) → Agrees about.schema.value about.capacity db (hands_of m) m.unit → n ≡ need about.schema.value about.capacity db m.unit (record { areas = m.areas; cells = m.held; guesses = g }) x) →
        (net about).need database_now m.unit x g (progress_of about m).areas (progress_of about m).cells ≡ next_need_of (noted_owners about.schema.value about.capacity database_now m.unit x g) n
    needs_now x g n all = ap (next_need_of (noted_owners about.schema.value about.capacity database_now m.unit x g)) (need_of_holding about.schema.value about.capacity database_now m.unit x (record { areas = m.areas; cells = m.held; guesses = g }) ∙ sym (all database_now agrees_now))

    pub area_of_cell_held : (x : Statement) (g : List (Option Owner)) (c : CellName) → fits about.schema.value x ≡ true → ((db : Database) → Agrees about.schema.value about.capacity db (hands_of m) m.unit → Take c ≡ need about.schema.value about.capacity db m.unit (record { areas = m.areas; cells = m.held; guesses = g }) x) →
        (laws : IsSequentialDatabase (net about)) → In ((net about).area c) (progress_of about m).areas
    area_of_cell_held x g c fit all laws = laws.in_area database_now (replay (net about) (opens about) machine.history).units (suc u) m.unit x g (progress_of about m).areas (progress_of about m).cells c (may_now x fit) (needs_now x g (Take c) all)
