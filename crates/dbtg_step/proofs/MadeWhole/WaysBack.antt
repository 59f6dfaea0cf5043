-- Copies of the cells that a statement changes lead back over it.
-- c and d are names of cells, e an edit of a cell or a cell with its name, x and y cells, v what a cell shows.
use Rattle.std.proofs.Common.{ℕ, ◌≡◌, Bool, true, false, cond, not, ◌||◌, List, [], ◌∷◌, ◌++◌, map, Option, Some, None, inl, inr, refl, sym, ap, ◌∙◌, subst}
use Rattle.std.specs.Prelude.{⊤, option_map, option_to_list}
use Rattle.std.specs.List.{list_all, list_any}
use Rattle.std.proofs.lemmas.Bool.{and_parts, cases_Bool, false≢true, not-true}
use Rattle.std.proofs.lemmas.List.Folds.{list_all-map}
use Rattle.dbtg_schema.specs.Lists.{Lists}
use Rattle.dbtg_cells.specs.Cells.{shown}
use Rattle.dbtg_cells.specs.Names.{name_eq}
use Rattle.dbtg_cells.specs.Shown.{CellValue}
use Rattle.dbtg_cells.specs.declared.cell.Cell.{Cell}
use Rattle.dbtg_cells.specs.declared.name.CellName.{CellName}
use Rattle.dbtg_cells.specs.declared.name.CellName.TheVariants.{Slot}
use Rattle.dbtg_cells.proofs.Public.{name_eq_refl, same_name}
use Rattle.dbtg_unit.specs.declared.edit.CellEdit.{CellEdit}
use Rattle.dbtg_unit.specs.declared.statement.Statement.{Statement}
use Rattle.dbtg_unit.specs.declared.unit.Unit.{Unit}
use Rattle.dbtg_unit.specs.Database.State.Base.{Database}
use Rattle.dbtg_unit.specs.Database.State.Cells.{cell}
use Rattle.dbtg_unit.specs.Database.State.Legal.{pairwise}
use Rattle.dbtg_unit.specs.Database.Statements.Effect.{effect}
use Rattle.dbtg_unit.specs.Hands.Edits.{edited, edited_at}
use Rattle.dbtg_unit.specs.Hands.Hands.{Hands, cell_of}
use Rattle.dbtg_unit.specs.Hands.Lends.{with_cell}
use Rattle.dbtg_unit.specs.Hands.Local.{Agrees, AllAgree, holds, names_of}
use Rattle.dbtg_unit.specs.Hands.Making.{CanFinish, ShowsTheSame}
use Rattle.dbtg_unit.specs.Hands.Prepared.{Plan, values_of}
use Rattle.dbtg_unit.proofs.Public.{agrees_same, any_mapped, cell_of_other, held_cell_agrees, held_is_there, holds_any, holds_same, same_slot_same_last, written_over}
use Rattle.dbtg_step.specs.declared.way_back.WayBack.{WayBack}
use Rattle.dbtg_step.specs.Core.Reversible.{OnlyChanged, is_named}
use Rattle.dbtg_step.specs.Inside.Reversible.{IsWayBack, LeadBack, values_at, with_copies, with_names}
use Rattle.dbtg_step.proofs.MadeWhole.NamesOnce.{named_passes, once_named, once_pass, stand_once}

-- WHAT COPIES SHOW

-- what the held cell of a name shows, if one is held
abbrev value_at : CellName → Option Cell → List (CellName × CellValue)
value_at c o = option_to_list (option_map (λ x. (c, shown x)) o)

-- a value of this name is among them
abbrev has_value : CellName → List (CellName × CellValue) → Bool
has_value d = list_any (λ (v : CellName × CellValue). name_eq d v.0)

named_alike : (d : CellName) (es : List (CellName × Cell)) → holds es d ≡ has_value d (values_of es)
named_alike d es = sym (holds_any es d) ∙ sym (any_mapped (λ (v : CellName × CellValue). name_eq d v.0) (λ (e : CellName × Cell). (e.0, shown e.1)) es)

-- there is a copy of each held cell that is named
copied : (cells : List (CellName × Cell)) (d : CellName) (cs : List CellName) → holds cells d ≡ true → is_named cs d ≡ true → has_value d (values_at cells cs) ≡ true
copied cells d [] held named = absurd (false≢true named)
copied cells d (c ∷ cs) held named = elim (cases_Bool (name_eq d c)) [
  | inl same ↦
      let there = held_is_there cells c (ap (holds cells) (sym (same_name d c same)) ∙ held) in
      ap (λ o. has_value d (value_at c o ++ values_at cells cs)) there.1 ∙ ap (λ b. b || has_value d (values_at cells cs)) same
  | inr other ↦ further (cell_of c cells) (copied cells d cs held (sym (ap (λ b. b || is_named cs d) other) ∙ named))
]
  where
    further : (o : Option Cell) → has_value d (values_at cells cs) ≡ true → has_value d (value_at c o ++ values_at cells cs) ≡ true
    further None h = h
    further (Some x) h = either (name_eq d c) h
      where
        either : (b : Bool) → has_value d (values_at cells cs) ≡ true → (b || has_value d (values_at cells cs)) ≡ true
        either true h = refl
        either false h = h

module _ (schema : Lists) (capacity : ℕ) (db : Database) where
  -- the values are those of the database
  abbrev AreValues : List (CellName × CellValue) → Type 0
  AreValues [] = ⊤
  AreValues (v ∷ vs) = (v.1 ≡ cell schema capacity db v.0) × AreValues vs

  agree_by_values : (es : List (CellName × Cell)) → AreValues (values_of es) → AllAgree schema capacity db es
  agree_by_values [] h = tt
  agree_by_values (e ∷ es) h = (h.0, agree_by_values es h.1)

  held_values : (cells : List (CellName × Cell)) (cs : List CellName) → AllAgree schema capacity db cells → AreValues (values_at cells cs)
  held_values cells [] agree = tt
  held_values cells (c ∷ cs) agree = by (cell_of c cells) refl (held_values cells cs agree)
    where
      by : (o : Option Cell) → cell_of c cells ≡ o → AreValues (values_at cells cs) → AreValues (value_at c o ++ values_at cells cs)
      by None e rest = rest
      by (Some x) e rest = (held_cell_agrees schema capacity db cells c x agree e, rest)

  copies_agree : (cells copies : List (CellName × Cell)) (cs : List CellName) → values_of copies ≡ values_at cells cs → AllAgree schema capacity db cells → AllAgree schema capacity db copies
  copies_agree cells copies cs are agree = agree_by_values copies (subst AreValues (sym are) (held_values cells cs agree))

-- A CELL THAT IS NOT NAMED

-- edits of other cells leave the value of a cell
left_alone : (d : CellName) (es : List CellEdit) (v : CellValue) → is_named (map (λ (e : CellEdit). e.name) es) d ≡ false → edited_at d es v ≡ v
left_alone d [] v none = refl
left_alone d (e ∷ es) v none = by (name_eq d e.name) (left_alone d es v) none
  where
    by : (b : Bool) → (is_named (map (λ (f : CellEdit). f.name) es) d ≡ false → edited_at d es v ≡ v) → (b || is_named (map (λ (f : CellEdit). f.name) es) d) ≡ false → edited_at d es (cond b (edited e.edit v) v) ≡ v
    by true rest h = absurd (false≢true (sym h))
    by false rest h = rest h

-- a name of which no more is found where more is looked for is not found
not_found : (a b : Bool) → (a ≡ true → b ≡ true) → b ≡ false → a ≡ false
not_found true b more none = absurd (false≢true (sym none ∙ more refl))
not_found false b more none = refl

-- the names of a plan's edits, each once, and copies of their cells lead back from the statement's effect
module _ (schema : Lists) (capacity : ℕ) (unit : Unit) (old hands : Hands) (x : Statement) (plan : Plan) (way : WayBack) (shows : ShowsTheSame old hands) (can : CanFinish schema capacity unit hands x plan)
    (names : way.names ≡ with_names [] (map (λ (e : CellEdit). e.name) plan.cells)) (are : values_of way.cells ≡ values_at hands.cells way.names) where
  abbrev edited_names : List CellName
  edited_names = map (λ (e : CellEdit). e.name) plan.cells

  module _ (db : Database) (agrees : Agrees schema capacity db old unit) where
    now_agrees : Agrees schema capacity db hands unit
    now_agrees = agrees_same schema capacity db unit old hands shows agrees

    edited_held : list_all (holds hands.cells) way.names ≡ true
    edited_held =
        subst (λ ns. list_all (holds hands.cells) ns ≡ true) (sym names)
        (once_pass (holds hands.cells) [] edited_names refl (list_all-map (holds hands.cells) (λ (e : CellEdit). e.name) plan.cells ∙ can.prepared.held db now_agrees))

    all_held : list_all (holds old.cells) way.names ≡ true
    all_held = ap (λ p. list_all p way.names) (λ i c. sym (holds_same old hands shows c) i) ∙ edited_held

    unchanged : (c : CellName) → is_named way.names c ≡ false → cell schema capacity (effect schema capacity db unit x).database c ≡ cell schema capacity db c
    unchanged c none =
        (can.prepared.effects db now_agrees).cells c
        ∙ left_alone c plan.cells (cell schema capacity db c)
        (not_found (is_named edited_names c) (is_named way.names c) (λ named. ap (λ ns. is_named ns c) names ∙ once_named [] edited_names c named) none)

    not_copied : (c : CellName) → holds way.cells c ≡ false → is_named way.names c ≡ false
    not_copied c none =
        not_found (is_named way.names c) (holds way.cells c)
        (λ named. named_alike c way.cells ∙ ap (has_value c) are ∙ copied hands.cells c way.names (named_passes (holds hands.cells) way.names c edited_held named) named) none

    only_named : OnlyChanged schema capacity way.names db (effect schema capacity db unit x).database
    only_named = record { cells = unchanged; last = λ t n none. same_slot_same_last schema capacity db unit x t n (unchanged (Slot t n) none) }

    leads_back : LeadBack schema capacity db (effect schema capacity db unit x).database way.cells
    leads_back = record {
      copies_are = copies_agree schema capacity db hands.cells way.cells way.names are now_agrees.cells;
      others = λ c none. unchanged c (not_copied c none);
    }

  pub plan_leads_back : way.unit ≡ unit → IsWayBack schema capacity unit old x way
  plan_leads_back unit_is = record {
    cells = leads_back;
    only = only_named;
    held = all_held;
    once = ap (pairwise (λ c d. not (name_eq c d))) names ∙ stand_once [] edited_names refl;
    unit_is = unit_is;
  }

-- PUTTING COPIES BACK

-- where no cell of the name is held, nothing is written
pub none_written : (c : CellName) (y : Cell) (cells : List (CellName × Cell)) → cell_of c cells ≡ None → with_cell c y cells ≡ cells
none_written c y [] h = refl
none_written c y (e ∷ es) h = by (name_eq c e.0) (none_written c y es) h
  where
    by : (b : Bool) → (cell_of c es ≡ None → with_cell c y es ≡ es) → cond b (Some e.1) (cell_of c es) ≡ None → cond b ((e.0, y) ∷ es) (e ∷ with_cell c y es) ≡ e ∷ es
    by true rest h = absurd (cc (h))
    by false rest h = ap (λ l. e ∷ l) (rest h)

names_with : (c : CellName) (y : Cell) (cells : List (CellName × Cell)) → names_of (with_cell c y cells) ≡ names_of cells
names_with c y [] = refl
names_with c y (e ∷ es) = by (name_eq c e.0) (names_with c y es)
  where
    by : (b : Bool) → names_of (with_cell c y es) ≡ names_of es → names_of (cond b ((e.0, y) ∷ es) (e ∷ with_cell c y es)) ≡ names_of (e ∷ es)
    by true rest = refl
    by false rest = ap (λ ns. e.0 ∷ ns) rest

pub names_put_back : (es cells : List (CellName × Cell)) → names_of (with_copies es cells) ≡ names_of cells
names_put_back [] cells = refl
names_put_back (e ∷ es) cells = names_put_back es (with_cell e.0 e.1 cells) ∙ names_with e.0 e.1 cells

-- a cell that stands behind another has another name
named_apart : (c d : CellName) (x : Cell) (es : List (CellName × Cell)) → list_all (λ (e : CellName × Cell). not (name_eq c e.0)) es ≡ true → cell_of d es ≡ Some x → name_eq d c ≡ false
named_apart c d x [] once h = absurd (cc (h))
named_apart c d x (e ∷ es) once h =
    let parts = and_parts _ _ once in
    elim (cases_Bool (name_eq d e.0)) [
      | inl same ↦ not_this (name_eq d c) refl (ap (name_eq c) (same_name d e.0 same) ∙ not-true _ parts.0)
      | inr other ↦ named_apart c d x es parts.1 (sym (ap (λ b. cond b (Some e.1) (cell_of d es)) other) ∙ h)
    ]
  where
    not_this : (b : Bool) → name_eq d c ≡ b → name_eq c d ≡ false → b ≡ false
    not_this true e h = absurd (false≢true (sym h ∙ ap (name_eq c) (same_name d c e) ∙ name_eq_refl c))
    not_this false e h = refl

module _ (schema : Lists) (capacity : ℕ) (db : Database) where
  -- each held cell of which no copy is left shows what the database has
  abbrev AgreeBut : (copies cells : List (CellName × Cell)) → Type 0
  AgreeBut copies cells = (c : CellName) (x : Cell) → cell_of c cells ≡ Some x → holds copies c ≡ false → shown x ≡ cell schema capacity db c

  -- if no name stands twice, it is enough to look at the cell of each name
  agree_by_name : (cells : List (CellName × Cell)) → pairwise (λ (e f : CellName × Cell). not (name_eq e.0 f.0)) cells ≡ true → ((c : CellName) (x : Cell) → cell_of c cells ≡ Some x → shown x ≡ cell schema capacity db c) → AllAgree schema capacity db cells
  agree_by_name [] once h = tt
  agree_by_name (e ∷ es) once h =
      let parts = and_parts _ _ once in (
        h e.0 e.1 (ap (λ b. cond b (Some e.1) (cell_of e.0 es)) (name_eq_refl e.0)),
        agree_by_name es parts.1 (λ c x there. h c x (ap (λ b. cond b (Some e.1) (cell_of c es)) (named_apart e.0 c x es parts.0 there) ∙ there)),
      )

  -- one copy is put back
  one_back : (e : CellName × Cell) (es cells : List (CellName × Cell)) → shown e.1 ≡ cell schema capacity db e.0 → AgreeBut (e ∷ es) cells → AgreeBut es (with_cell e.0 e.1 cells)
  one_back e es cells shows but c x there none = elim (cases_Bool (name_eq c e.0)) [
    | inl same ↦
        let is = same_name c e.0 same in
        let over = written_over e.0 x e.1 cells (subst (λ (d : CellName). cell_of d (with_cell e.0 e.1 cells) ≡ Some x) is there) in
        ap shown over.0 ∙ shows ∙ ap (cell schema capacity db) (sym is)
    | inr other ↦ but c x (sym (cell_of_other e.0 c e.1 cells other) ∙ there) (ap (λ b. cond b true (holds es c)) other ∙ none)
  ]

  all_back : (es cells : List (CellName × Cell)) → AllAgree schema capacity db es → AgreeBut es cells → AgreeBut [] (with_copies es cells)
  all_back [] cells agree but = but
  all_back (e ∷ es) cells agree but = all_back es (with_cell e.0 e.1 cells) agree.1 (one_back e es cells agree.0 but)

  -- the held cells agree with the database before, once the copies are back
  pub put_back_agree : (after : Database) (copies cells : List (CellName × Cell)) → LeadBack schema capacity db after copies → AllAgree schema capacity after cells
      → pairwise (λ (e f : CellName × Cell). not (name_eq e.0 f.0)) (with_copies copies cells) ≡ true → AllAgree schema capacity db (with_copies copies cells)
  put_back_agree after copies cells lead agree once =
      let but = all_back copies cells lead.copies_are (λ c x there none. held_cell_agrees schema capacity after cells c x agree there ∙ lead.others c none) in
      agree_by_name (with_copies copies cells) once (λ c x there. but c x there refl)
