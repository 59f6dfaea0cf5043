-- What a statement that is ready holds, and that it changes no other cell.
use Rattle.std.proofs.Common.{◌≡◌, refl, sym, ◌∙◌, ap, subst, ℕ, Bool, true, false, cond, not, ◌||◌, List, [], ◌∷◌, Option, Some, None, eqb, inl, inr}
use Rattle.std.specs.Prelude.{is_some, option_map, ◌==◌}
use Rattle.std.specs.List.{list_any, find}
use Rattle.std.proofs.lemmas.Bool.{false≢true, false_from_ne_true, eqb-true, cases_Bool, not-false}
use Rattle.std.proofs.lemmas.Option.{none-some}
use Rattle.dbtg_schema.specs.Lists.{Lists}
use Rattle.dbtg_schema.specs.Lookups.{some_and}
use Rattle.dbtg_cells.specs.declared.key.DbKey.{DbKey}
use Rattle.dbtg_cells.specs.declared.name.CellName.{CellName}
use Rattle.dbtg_cells.specs.declared.cell.Cell.{Cell}
use Rattle.dbtg_cells.specs.Names.{name_eq}
use Rattle.dbtg_unit.specs.declared.held.Need.TheVariants.{Ready}
use Rattle.dbtg_unit.specs.declared.statement.Change.{Change}
use Rattle.dbtg_unit.specs.declared.statement.Statement.{Statement}
use Rattle.dbtg_unit.specs.declared.statement.Statement.TheVariants.{OpenArea, CloseArea, Find, Get, Store, Insert, Remove, Modify, Delete, Keep, Free}
use Rattle.dbtg_unit.specs.declared.unit.Unit.{Unit}
use Rattle.dbtg_unit.specs.declared.unit.Cause.{Cause}
use Rattle.dbtg_unit.specs.Database.State.Base.{Database}
use Rattle.dbtg_unit.specs.Database.State.Cells.{cell}
use Rattle.dbtg_unit.specs.Database.Statements.Checks.{refused_at_once}
use Rattle.dbtg_unit.specs.Database.Statements.Effect.{effect, effect_on_cells, unless_refused}
use Rattle.dbtg_unit.specs.Database.Statements.Found.{found}
use Rattle.dbtg_unit.specs.Hands.Hands.{Hands}
use Rattle.dbtg_unit.specs.Database.State.Legal.{Legal}
use Rattle.dbtg_unit.specs.Hands.Local.{Agrees, holds}
use Rattle.dbtg_unit.specs.Hands.Needs.{areas_in_order, cells_of, is_stale, need, need_of_cells, next_of}
use Rattle.dbtg_schema.specs.Sound.{IsSound}
use Rattle.dbtg_cells.proofs.Public.{same_name}
use Rattle.dbtg_unit.specs.Database.State.Belongs.{IsUnitOf, IsWithin}
use Rattle.dbtg_unit.specs.Database.Statements.Fits.{fits}
use Rattle.dbtg_unit.proofs.Database.Legal.LegalEffect.{effect_step}
use Rattle.dbtg_unit.proofs.Database.Legal.Outcomes.{of_current, of_done, of_finding}
use Rattle.dbtg_unit.proofs.Lists.Membership.{In, any_element}
use Rattle.dbtg_unit.proofs.Hands.Untouched.LocalStatements.{Stays, of_open, of_close, of_store, of_insert, of_remove, of_modify, of_delete}

-- a statement is ready if no area or cell is missing and no guess is wrong
pub ready_parts : (a : Option ℕ) (c : Option CellName) (stale : Bool) → next_of a c stale ≡ Ready → (c ≡ None) × (stale ≡ false)
ready_parts (Some a) c stale h = cc
ready_parts None (Some c) stale h = cc
ready_parts None None true h = cc
ready_parts None None false h = (refl, refl)

-- a cell is held if its name is among the held names
pub holds_any : (cells : List (CellName × Cell)) (c : CellName) → list_any (λ e. name_eq c e.0) cells ≡ holds cells c
holds_any [] c = refl
holds_any (e ∷ es) c = elim (name_eq c e.0) as (λ b. (b || list_any (λ e. name_eq c e.0) es) ≡ cond b true (holds es c)) [ true ↦ refl | false ↦ holds_any es c ]

-- if no cell is missing, all are held
pub all_held : (cells : List (CellName × Cell)) (names : List CellName) → find (λ c. not (list_any (λ e. name_eq c e.0) cells)) names ≡ None → (c : CellName) → In c names → holds cells c ≡ true
all_held cells [] h c i = absurd i
all_held cells (d ∷ names) h c i =
    elim (cases_Bool (list_any (λ e. name_eq d e.0) cells)) [
      | inl held ↦
          let rest = subst (λ b. cond (not b) (Some d) (find (λ c. not (list_any (λ e. name_eq c e.0) cells)) names) ≡ None) held h in
          elim i [ inl e ↦ subst (λ (x : CellName). holds cells x ≡ true) e (sym (holds_any cells d) ∙ held) | inr j ↦ all_held cells names rest c j ]
      | inr wanting ↦ absurd (none-some d (sym (subst (λ b. cond (not b) (Some d) (find (λ c. not (list_any (λ e. name_eq c e.0) cells)) names) ≡ None) wanting h)))
    ]

-- a cell that is not held is not named
pub not_named : (cells : List (CellName × Cell)) (names : List CellName) → ((c : CellName) → In c names → holds cells c ≡ true) → (c : CellName) → holds cells c ≡ false → list_any (name_eq c) names ≡ false
not_named cells names held c h =
    false_from_ne_true _ (λ m. let d = any_element (name_eq c) names m in
    false≢true (sym h ∙ ap (holds cells) (same_name c d.0 d.2) ∙ held d.0 d.1))

second_passes : (b d : Bool) (x y : Cause) (rest : Option Cause) → cond b (Some x) (cond d (Some y) rest) ≡ None → d ≡ false
second_passes true d x y rest h = absurd (none-some x (sym h))
second_passes false true x y rest h = absurd (none-some y (sym h))
second_passes false false x y rest h = refl

module _ (schema : Lists) (capacity : ℕ) (db : Database) (unit : Unit) (hands : Hands) where
  -- a statement that is not refused at once and is ready holds all its cells, and its guesses are right
  pub ready_has : (statement : Statement) → refused_at_once schema capacity unit statement ≡ None → need schema capacity db unit hands statement ≡ Ready
      → ((c : CellName) → In c (cells_of schema capacity db unit hands.guesses statement) → holds hands.cells c ≡ true) × (is_stale schema capacity db unit hands.guesses statement ≡ false)
  unfolding need
  ready_has statement passes h =
      let r = ready_parts
      (find (λ a. not (list_any (λ b. b == a) hands.areas)) (areas_in_order schema unit statement))
      (find (λ c. not (list_any (λ e. name_eq c e.0) hands.cells)) (cells_of schema capacity db unit hands.guesses statement))
      (is_stale schema capacity db unit hands.guesses statement)
      (subst (λ (o : Option Cause). cond (is_some o) Ready (need_of_cells schema capacity db unit hands statement) ≡ Ready) passes h) in
      (all_held hands.cells (cells_of schema capacity db unit hands.guesses statement) r.0, r.1)

  -- the current of run-unit of a MODIFY is of its type
  pub modify_typed : (t : ℕ) (changes : List Change) → refused_at_once schema capacity unit (Modify t changes) ≡ None → (k : DbKey) → unit.currency.run_unit ≡ Some k → k.rtype ≡ t
  modify_typed t changes passes k e =
      let other = second_passes _ (some_and (λ u. not (eqb u t)) (option_map (λ (x : DbKey). x.rtype) unit.currency.run_unit)) _ _ _ passes in
      eqb-true k.rtype t (not-false _ (sym (ap (λ (r : Option DbKey). some_and (λ u. not (eqb u t)) (option_map (λ (x : DbKey). x.rtype) r)) e) ∙ other))

  module _ (legal : Legal schema capacity db) where
    stays : (statement : Statement) → refused_at_once schema capacity unit statement ≡ None → is_stale schema capacity db unit hands.guesses statement ≡ false
        → Stays schema capacity db unit hands.guesses legal statement (effect_on_cells schema capacity db unit statement)
    stays (OpenArea a mode) passes fresh = of_open schema capacity db unit hands.guesses legal a mode
    stays (CloseArea a) passes fresh = of_close schema capacity db unit hands.guesses legal a
    stays (Find suppress form) passes fresh = of_finding db unit (Stays schema capacity db unit hands.guesses legal (Find suppress form)) (λ cause l c h. refl) (found schema capacity db unit form) _ (λ k e l c h. refl)
    stays (Get r) passes fresh = of_current db unit (Stays schema capacity db unit hands.guesses legal (Get r)) (λ cause l c h. refl) unit.currency.run_unit _ _ (λ k e checks l c h. refl)
    stays (Store t items suppress) passes fresh = of_store schema capacity db unit hands.guesses legal t items suppress
    stays (Insert s) passes fresh = of_insert schema capacity db unit hands.guesses legal s
    stays (Remove s) passes fresh = of_remove schema capacity db unit hands.guesses legal s fresh
    stays (Modify t changes) passes fresh = of_modify schema capacity db unit hands.guesses legal t changes fresh (modify_typed t changes passes)
    stays (Delete option) passes fresh = of_delete schema capacity db unit hands.guesses legal option
    stays Keep passes fresh = of_current db unit (Stays schema capacity db unit hands.guesses legal Keep) (λ cause l c h. refl) unit.currency.run_unit _ _ (λ k e checks l c h. refl)
    stays (Free true) passes fresh = λ l c h. refl
    stays (Free false) passes fresh = of_done db unit (Stays schema capacity db unit hands.guesses legal (Free false)) (λ cause l c h. refl) unit.currency.run_unit _ (λ k e l c h. refl)

  pub changes_only_its_cells : (statement : Statement) → Agrees schema capacity db hands unit → need schema capacity db unit hands statement ≡ Ready → Legal schema capacity (effect schema capacity db unit statement).database
      → (c : CellName) → holds hands.cells c ≡ false → cell schema capacity (effect schema capacity db unit statement).database c ≡ cell schema capacity db c
  unfolding effect
  changes_only_its_cells statement agrees ready legal' c free = by_refusal (refused_at_once schema capacity unit statement) refl legal' where
    by_refusal : (o : Option Cause) → refused_at_once schema capacity unit statement ≡ o
        → Legal schema capacity (unless_refused db unit o (effect_on_cells schema capacity db unit statement)).database
        → cell schema capacity (unless_refused db unit o (effect_on_cells schema capacity db unit statement)).database c ≡ cell schema capacity db c
    by_refusal (Some cause) e l = refl
    by_refusal None e l =
        let has = ready_has statement e ready in
        stays agrees.legal statement e has.1 l c (not_named hands.cells (cells_of schema capacity db unit hands.guesses statement) has.0 c free)

-- the effect of a statement that fits leaves a legal database
pub legal_after : (schema : Lists) (capacity : ℕ) (db : Database) (unit : Unit) (hands : Hands) → IsSound schema → IsUnitOf schema unit → IsWithin capacity unit → (statement : Statement) → fits schema statement ≡ true
    → Agrees schema capacity db hands unit → Legal schema capacity (effect schema capacity db unit statement).database
legal_after schema capacity db unit hands schema_is of_schema within statement fit agrees =
    (effect_step schema capacity db unit unit.number schema_is agrees.legal (record { number_is = refl; of_schema = of_schema; within = within; usage = agrees.usage }) statement fit).legal
