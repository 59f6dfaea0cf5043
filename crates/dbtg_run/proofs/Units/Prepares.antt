-- Hands that show the same are the same to all that a unit at work knows.
use Rattle.std.proofs.Common.{◌≡◌, Bool, true, false, not, ◌&&◌, nat_lt, cond, List, [], ◌∷◌, length, Some, refl, sym, ap, ◌∙◌}
use Rattle.std.specs.Prelude.{is_some}
use Rattle.std.specs.List.{list_all}
use Rattle.dbtg_cells.specs.declared.cell.Cell.{Cell}
use Rattle.dbtg_cells.specs.declared.cell.Cell.TheVariants.{Slot as SlotCell}
use Rattle.dbtg_cells.specs.declared.name.CellName.{CellName}
use Rattle.dbtg_cells.specs.CellNumbers.{cell_number}
use Rattle.dbtg_cells.specs.Names.{name_eq}
use Rattle.dbtg_cells.specs.Cells.{shown}
use Rattle.dbtg_cells.specs.Shown.{CellValue}
use Rattle.dbtg_unit.specs.declared.statement.Statement.{Statement}
use Rattle.dbtg_unit.specs.declared.unit.Entry.{Entry}
use Rattle.dbtg_unit.specs.declared.unit.Unit.{Unit}
use Rattle.dbtg_unit.specs.Hands.Hands.{Hands, cell_of}
use Rattle.dbtg_unit.specs.Database.State.Legal.{pairwise}
use Rattle.dbtg_unit.specs.Hands.Local.{names_of}
use Rattle.dbtg_unit.specs.Hands.Making.{HaveNextVersions, IsReady, ShowsTheSame}
use Rattle.dbtg_unit.specs.Hands.Needs.{need}
use Rattle.dbtg_unit.specs.Hands.Prepared.{values_of}
use Rattle.dbtg_unit.proofs.Public.{agrees_same, slot_shown}
use Rattle.dbtg_run.specs.declared.view.About.{About}
use Rattle.dbtg_run.specs.Inside.Views.{lone}
use Rattle.dbtg_run.specs.Inside.LatchRule.{IsReal, Sat, area_count}
use Rattle.dbtg_run.specs.Inside.Posed.{AreInside, member_of, posed}
use Rattle.dbtg_run.proofs.Units.Commits.{inside_named, names_of_values, slots_after}
use Rattle.dbtg_run.proofs.TheRule.Facts.{bared_same}
use Rattle.dbtg_run.proofs.Units.Uses.{need_bared}

once_named : (es : List (CellName × Cell)) → pairwise (λ (e f : CellName × Cell). not (name_eq e.0 f.0)) es ≡ pairwise (λ (c d : CellName). not (name_eq c d)) (names_of es)
once_named [] = refl
once_named (e ∷ es) = λ i. others es i && once_named es i
  where
    others : (ds : List (CellName × Cell)) → list_all (λ (f : CellName × Cell). not (name_eq e.0 f.0)) ds ≡ list_all (λ (d : CellName). not (name_eq e.0 d)) (names_of ds)
    others [] = refl
    others (d ∷ ds) = ap (λ b. not (name_eq e.0 d.0) && b) (others ds)

-- the cell of a name shows the same
cell_same : (c : CellName) (new old : List (CellName × Cell)) (x : Cell) → values_of new ≡ values_of old → cell_of c new ≡ Some x → (y : Cell) × (cell_of c old ≡ Some y) × (shown y ≡ shown x)
cell_same c [] old x e h = absurd (cc (h))
cell_same c (n ∷ ns) [] x e h = absurd (cc (e))
cell_same c (n ∷ ns) (o ∷ os) x e h =
    let first : ◌≡◌ {A = CellName × CellValue} (n.0, shown n.1) (o.0, shown o.1) = cc (e) in
    let rest : values_of ns ≡ values_of os = cc (e) in
    by (name_eq c n.0) h (ap (λ (v : CellName × CellValue). name_eq c v.0) first) (ap (λ (v : CellName × CellValue). v.1) first) (cell_same c ns os x rest)
  where
    by : (b : Bool) → cond b (Some n.1) (cell_of c ns) ≡ Some x → b ≡ name_eq c o.0 → shown n.1 ≡ shown o.1 → (cell_of c ns ≡ Some x → (y : Cell) × (cell_of c os ≡ Some y) × (shown y ≡ shown x))
        → (y : Cell) × (cond (name_eq c o.0) (Some o.1) (cell_of c os) ≡ Some y) × (shown y ≡ shown x)
    by true h q s later = let here : n.1 ≡ x = cc (h) in (o.1, ap (λ b. cond b (Some o.1) (cell_of c os)) (sym q), sym s ∙ ap shown here)
    by false h q s later = let l = later h in (l.0, ap (λ b. cond b (Some o.1) (cell_of c os)) (sym q) ∙ l.1, l.2)

versions_same : (new old : List (CellName × Cell)) → values_of new ≡ values_of old → HaveNextVersions old → HaveNextVersions new
versions_same new old e v c stored h =
    let s = cell_same c new old (SlotCell (Some stored)) e h in
    v c stored (s.1 ∙ ap (λ (y : Cell). Some y) (slot_shown s.0 (Some stored) s.2))

module _ (about : About) (old new : Hands) (s : ShowsTheSame old new) where
  names_same : names_of new.cells ≡ names_of old.cells
  names_same = names_of_values new.cells old.cells s.cells

  pub posed_same : (unit : Unit) (journal : List Entry) (exclusive : Bool) → posed about unit journal exclusive old ≡ posed about unit journal exclusive new
  posed_same unit journal exclusive = λ i. let y : Sat = (lone about (record { place = (member_of unit journal exclusive old).place; unit = unit; journal = journal; exclusive = exclusive; areas = sym s.areas i; held = bared_same old.cells new.cells (sym s.cells) i }), sym (slots_after about old.cells new.cells names_same) i) in y

  pub inside_same : AreInside about old → AreInside about new
  inside_same inside = record {
    areas = ap (list_all (λ a. nat_lt a (area_count about))) s.areas ∙ inside.areas;
    cells = inside_named about new.cells ∙ (ap (list_all (λ (c : CellName). is_some (cell_number about.schema.value about.capacity c))) names_same ∙ (sym (inside_named about old.cells) ∙ inside.cells));
    guesses = ap length s.guesses ∙ inside.guesses;
  }

  pub real_same : (unit : Unit) (journal : List Entry) → IsReal about unit journal old → IsReal about unit journal new
  real_same unit journal r = record {
    db = r.db;
    agrees = agrees_same about.schema.value about.capacity r.db unit old new s r.agrees;
    alone = r.alone;
    once = once_named new.cells ∙ (ap (pairwise (λ (c d : CellName). not (name_eq c d))) names_same ∙ (sym (once_named old.cells) ∙ r.once));
    versions = versions_same new.cells old.cells s.cells r.versions;
  }

  pub ready_same : (unit : Unit) (x : Statement) → IsReady about.schema.value about.capacity unit old x → IsReady about.schema.value about.capacity unit new x
  ready_same unit x ready db agrees =
      need_bared about.schema.value about.capacity db unit x new
      ∙ ((λ i. need about.schema.value about.capacity db unit (record { areas = s.areas i; cells = bared_same new.cells old.cells s.cells i; guesses = s.guesses i }) x)
      ∙ (sym (need_bared about.schema.value about.capacity db unit x old)
      ∙ ready db (agrees_same about.schema.value about.capacity db unit new old (record { areas = sym s.areas; cells = sym s.cells; guesses = sym s.guesses }) agrees)))
