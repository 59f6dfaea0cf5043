-- The owners that a unit guesses have rings, so that each cell that a statement needs has a number.
use Rattle.std.proofs.Common.{◌≡◌, true, List, Option, None, refl, sym, ap, ◌∙◌, subst}
use Rattle.std.specs.Prelude.{is_some}
use Rattle.std.proofs.lemmas.Bool.{false≢true}
use Rattle.dbtg_cells.specs.declared.key.Owner.{Owner}
use Rattle.dbtg_cells.specs.declared.name.CellName.{CellName}
use Rattle.dbtg_cells.specs.CellNumbers.{cell_number, is_cell}
use Rattle.dbtg_cells.proofs.Public.{has_number}
use Rattle.dbtg_unit.specs.declared.held.Need.TheVariants.{Take}
use Rattle.dbtg_unit.specs.declared.statement.Statement.{Statement}
use Rattle.dbtg_unit.specs.declared.unit.Entry.{Entry}
use Rattle.dbtg_unit.specs.declared.unit.Unit.{Unit}
use Rattle.dbtg_unit.specs.Database.Statements.Fits.{fits}
use Rattle.dbtg_unit.specs.Hands.Hands.{Hands}
use Rattle.dbtg_unit.specs.Hands.Making.{CanFinish}
use Rattle.dbtg_unit.specs.Hands.Needs.{cells_of, need}
use Rattle.dbtg_unit.specs.Hands.Prepared.{Plan, guesses_edited}
use Rattle.dbtg_unit.proofs.Public.{all_at, effect_step}
use Rattle.dbtg_step.specs.Machine.Network.{noted_owners}
use Rattle.dbtg_step.specs.Inside.Events.{HaveRings}
use Rattle.dbtg_step.proofs.Public.{cell_wanted, cells_exist, made_have_rings, not_beyond, turned_have_rings}
use Rattle.dbtg_run.specs.declared.view.About.{About}
use Rattle.dbtg_run.specs.Inside.LatchRule.{IsReal}
use Rattle.dbtg_run.specs.Inside.Posed.{IsOurs}

module _ (about : About) (unit : Unit) (journal : List Entry) (hands : Hands) (x : Statement) (ours : IsOurs about unit) (real : IsReal about unit journal hands)
    (fit : fits about.schema.value x ≡ true) (rings : HaveRings about.schema.value about.capacity hands.guesses) where
  -- after the statement
  pub rings_after : (plan : Plan) (guesses : List (Option Owner)) → CanFinish about.schema.value about.capacity unit hands x plan → guesses ≡ guesses_edited plan.unit hands.guesses
      → HaveRings about.schema.value about.capacity guesses
  rings_after plan guesses can made =
      let a = real.agrees in
      let step = effect_step about.schema.value about.capacity real.db unit unit.number ours.sound a.legal (record { number_is = refl; of_schema = ours.of_schema; within = ours.within; usage = a.usage }) x fit in
      subst (HaveRings about.schema.value about.capacity) (sym (made ∙ (can.prepared.effects real.db a).guesses_are))
      (made_have_rings about.schema.value about.capacity real.db unit x hands.guesses step.legal rings)

  -- after it turned back
  pub rings_turned : HaveRings about.schema.value about.capacity (noted_owners about.schema.value about.capacity real.db unit x hands.guesses)
  rings_turned = turned_have_rings about.schema.value about.capacity real.db real.agrees.legal unit hands.guesses x rings

  -- what it needs has a number
  pub needed_has_number : (c : CellName) → Take c ≡ need about.schema.value about.capacity real.db unit hands x → cell_number about.schema.value about.capacity c ≡ None → ⊥
  needed_has_number c e none =
      let a = real.agrees in
      let w = cell_wanted about.schema.value about.capacity real.db unit hands x c e in
      let exist = cells_exist about.schema.value about.capacity ours.sound real.db a.legal unit ours.of_schema ours.within hands.guesses rings x fit (not_beyond about.schema.value about.capacity unit x w.0) in
      let is = all_at (is_cell about.schema.value about.capacity) c (cells_of about.schema.value about.capacity real.db unit hands.guesses x) exist w.1 in
      false≢true (sym (ap is_some none) ∙ (has_number about.schema.value about.capacity c ∙ is))
