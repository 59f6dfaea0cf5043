-- A cell that a statement needs lies in an area that it holds.
use Rattle.std.proofs.Common.{◌≡◌, refl, sym, ◌∙◌, ap, ℕ, zero, suc, Bool, false, true, eqb, List, [], ◌∷◌, Option, Some, None, inl, inr}
use Rattle.std.specs.Prelude.{is_some}
use Rattle.std.specs.List.{list_any}
use Rattle.std.proofs.lemmas.Bool.{or_cases, false≢true, eqb-true}
use Rattle.dbtg_schema.specs.Lists.{Lists}
use Rattle.dbtg_schema.specs.Lookups.{first_cause}
use Rattle.dbtg_schema.specs.Sound.{IsSound}
use Rattle.dbtg_schema.proofs.Public.{none_is}
use Rattle.dbtg_cells.specs.declared.key.Owner.{Owner}
use Rattle.dbtg_cells.specs.declared.name.CellName.{CellName}
use Rattle.dbtg_cells.specs.Shown.{CellValue}
use Rattle.dbtg_unit.specs.declared.statement.Statement.{Statement}
use Rattle.dbtg_unit.specs.declared.unit.Cause.{Cause}
use Rattle.dbtg_unit.specs.declared.unit.Cause.TheVariants.{NoneSatisfies}
use Rattle.dbtg_unit.specs.declared.unit.Unit.{Unit}
use Rattle.dbtg_unit.specs.Database.State.Base.{Database}
use Rattle.dbtg_unit.specs.Database.State.Belongs.{IsUnitOf}
use Rattle.dbtg_unit.specs.Database.State.CellNames.{area_of_cell}
use Rattle.dbtg_unit.specs.Database.State.LegalWith.{IsUnitIn, LegalWith}
use Rattle.dbtg_unit.specs.Database.Statements.Checks.{checks_at_once, is_beyond, refused_at_once}
use Rattle.dbtg_unit.specs.Hands.Needs.{need}
use Rattle.dbtg_unit.proofs.Public.{In as Element, area_held, first_check_passes}
use Rattle.dbtg_step.specs.Machine.SequentialDatabase.{HeldCell, NeedsCell, In, MayMake, unit_at}
use Rattle.dbtg_step.specs.Machine.Network.{holding, network, noted_owners}
use Rattle.dbtg_step.proofs.Network.NetworkNeeds.{takes_cell}

-- where no check refuses, each was passed
passed : (checks : List (Bool × Cause)) → first_cause checks ≡ None → (check : Bool × Cause) → Element check checks → check.0 ≡ false
passed [] e check i = absurd i
passed (c ∷ checks) e check (inl q) = ap (λ (d : Bool × Cause). d.0) (sym q) ∙ (first_check_passes c checks e).0
passed (c ∷ checks) e check (inr i) = passed checks (first_check_passes c checks e).1 check i

-- a number that some element equals is an element
number_in : (a : ℕ) (areas : List ℕ) → list_any (λ b. eqb b a) areas ≡ true → In a areas
number_in a [] e = absurd (false≢true e)
number_in a (b ∷ areas) e = elim (or_cases (eqb b a) (list_any (λ b. eqb b a) areas) e) [ inl h ↦ inl (sym (eqb-true b a h)) | inr h ↦ inr (number_in a areas h) ]

-- a FIND KEY that is not refused at once is not beyond the capacity
pub not_beyond : (schema : Lists) (capacity : ℕ) (unit : Unit) (x : Statement) → is_some (refused_at_once schema capacity unit x) ≡ false → is_beyond capacity x ≡ false
not_beyond schema capacity unit x r = passed (checks_at_once schema capacity unit x) (none_is _ r) (is_beyond capacity x, NoneSatisfies) (inr (inr (inr (inr (inr (inr (inr (inr (inl refl)))))))))

module _ (schema : Lists) (capacity : ℕ) where
  -- a unit of a legal database is of the schema
  pub unit_is_in : (db : Database) (units : List Unit) (u : ℕ) (unit : Unit) → LegalWith schema capacity db units → unit_at units u ≡ Some unit → IsUnitIn schema capacity db u unit
  unfolding unit_at
  unit_is_in db units zero unit legal e = absurd (cc (e))
  unit_is_in db units (suc i) unit legal e = legal.each i unit e

  pub unit_of_schema : (db : Database) (units : List Unit) (u : ℕ) (unit : Unit) → LegalWith schema capacity db units → unit_at units u ≡ Some unit → IsUnitOf schema unit
  unit_of_schema db units u unit legal e = (unit_is_in db units u unit legal e).of_schema

  -- a cell that is needed lies in an area that is held
  pub needed_in_area : IsSound schema → (db : Database) (units : List Unit) (u : ℕ) (unit : Unit) (x : Statement) (g : List (Option Owner)) (areas : List ℕ) (cells : List (HeldCell CellName CellValue)) (c : CellName) →
      MayMake (network schema capacity) db units u unit x → (network schema capacity).need db unit x g areas cells ≡ NeedsCell c → In (area_of_cell schema c) areas
  needed_in_area sound db units u unit x g areas cells c may e =
      number_in (area_of_cell schema c) areas
      (area_held schema capacity db unit (holding g areas cells) x sound may.legal.legal (unit_of_schema db units u unit may.legal may.found) may.fits c (takes_cell (noted_owners schema capacity db unit x g) (need schema capacity db unit (holding g areas cells) x) c e))
