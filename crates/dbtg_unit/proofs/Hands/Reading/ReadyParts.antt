-- What a statement that is ready holds.
use Rattle.std.proofs.Common.{◌≡◌, refl, sym, subst, ℕ, Bool, true, false, cond, not, List, [], ◌∷◌, Option, Some, None, inl, inr}
use Rattle.std.specs.Prelude.{◌==◌, is_some}
use Rattle.std.specs.List.{list_any, find}
use Rattle.std.proofs.lemmas.Bool.{cases_Bool}
use Rattle.std.proofs.lemmas.Option.{none-some}
use Rattle.dbtg_schema.specs.Lists.{Lists}
use Rattle.dbtg_cells.specs.declared.name.CellName.{CellName}
use Rattle.dbtg_cells.specs.Names.{name_eq}
use Rattle.dbtg_unit.specs.declared.held.Need.TheVariants.{Ready}
use Rattle.dbtg_unit.specs.declared.statement.Statement.{Statement}
use Rattle.dbtg_unit.specs.declared.unit.Cause.{Cause}
use Rattle.dbtg_unit.specs.declared.unit.Unit.{Unit}
use Rattle.dbtg_unit.specs.Database.State.Base.{Database}
use Rattle.dbtg_unit.specs.Database.Statements.Checks.{refused_at_once}
use Rattle.dbtg_unit.specs.Hands.Hands.{Hands}
use Rattle.dbtg_unit.specs.Hands.Local.{Agrees, holds}
use Rattle.dbtg_unit.specs.Hands.Making.{IsReady}
use Rattle.dbtg_unit.specs.Hands.Needs.{areas_in_order, cells_of, is_stale, need, need_of_cells, next_of}
use Rattle.dbtg_unit.proofs.Lists.Membership.{In}
use Rattle.dbtg_unit.proofs.Hands.Untouched.LocalReady.{ready_has}

-- the areas and the cells that a statement needs are held, and no guess is wrong
pub record HasAll (schema : Lists) (capacity : ℕ) (db : Database) (unit : Unit) (hands : Hands) (statement : Statement) : Type 0 where
  pub areas : (a : ℕ) → In a (areas_in_order schema unit statement) → list_any (λ b. b == a) hands.areas ≡ true
  pub cells : (c : CellName) → In c (cells_of schema capacity db unit hands.guesses statement) → holds hands.cells c ≡ true
  pub fresh : is_stale schema capacity db unit hands.guesses statement ≡ false

no_area : (a : Option ℕ) (c : Option CellName) (stale : Bool) → next_of a c stale ≡ Ready → a ≡ None
no_area (Some a) c stale h = cc
no_area None c stale h = refl

-- if no area is missing, all are held
all_have : (held areas : List ℕ) → find (λ a. not (list_any (λ b. b == a) held)) areas ≡ None → (a : ℕ) → In a areas → list_any (λ b. b == a) held ≡ true
all_have held [] h a i = absurd i
all_have held (d ∷ areas) h a i =
    elim (cases_Bool (list_any (λ b. b == d) held)) [
      | inl has ↦
          let rest = subst (λ b. cond (not b) (Some d) (find (λ a. not (list_any (λ b. b == a) held)) areas) ≡ None) has h in
          elim i [ inl e ↦ subst (λ (x : ℕ). list_any (λ b. b == x) held ≡ true) e has | inr j ↦ all_have held areas rest a j ]
      | inr wanting ↦ absurd (none-some d (sym (subst (λ b. cond (not b) (Some d) (find (λ a. not (list_any (λ b. b == a) held)) areas) ≡ None) wanting h)))
    ]

module _ (schema : Lists) (capacity : ℕ) (unit : Unit) (hands : Hands) (statement : Statement) (passes : refused_at_once schema capacity unit statement ≡ None) where
  pub ready_has_all : (db : Database) → need schema capacity db unit hands statement ≡ Ready → HasAll schema capacity db unit hands statement
  unfolding need
  ready_has_all db ready =
      let has = ready_has schema capacity db unit hands statement passes ready in
      let wanted = no_area
      (find (λ a. not (list_any (λ b. b == a) hands.areas)) (areas_in_order schema unit statement))
      (find (λ c. not (list_any (λ e. name_eq c e.0) hands.cells)) (cells_of schema capacity db unit hands.guesses statement))
      (is_stale schema capacity db unit hands.guesses statement)
      (subst (λ (o : Option Cause). cond (is_some o) Ready (need_of_cells schema capacity db unit hands statement) ≡ Ready) passes ready) in
      record { areas = all_have hands.areas (areas_in_order schema unit statement) wanted; cells = has.0; fresh = has.1 }

  -- the same for each database that agrees with what is held
  pub prepared_has_all : IsReady schema capacity unit hands statement → (db : Database) → Agrees schema capacity db hands unit → HasAll schema capacity db unit hands statement
  prepared_has_all ready db agrees = ready_has_all db (ready db agrees)
