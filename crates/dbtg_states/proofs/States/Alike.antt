-- The same statements get the same answers from states that differ at most in the order in which units opened an area.
-- a and b are areas, u and n are units.
use Rattle.std.proofs.Common.{◌≡◌, refl, sym, ◌∙◌, ap, subst, ℕ, ◌-◌, Bool, true, false, not, List, [], ◌∷◌, ◌++◌, Option, Some, None, arith}
use Rattle.std.proofs.lemmas.List.Elements.{filter-append}
use Rattle.std.specs.Prelude.{◌==◌, Result, Ok, Err, filter, if◌then◌else◌, option_map, slice_set}
use Rattle.std.specs.List.{list_any}
use Rattle.dbtg_schema.specs.Lists.{Lists}
use Rattle.dbtg_schema.specs.Lookups.{first_cause}
use Rattle.dbtg_cells.specs.declared.key.DbKey.{DbKey}
use Rattle.dbtg_cells.specs.declared.usage.Mode.{Mode}
use Rattle.dbtg_cells.specs.Modes.{conflict}
use Rattle.dbtg_unit.specs.declared.statement.Form.{Form}
use Rattle.dbtg_unit.specs.declared.statement.Form.TheVariants.{Key, CurrentOfUnit, CurrentOfType, CurrentOfSet, CurrentOfArea, InSet, InArea, OwnerOf, Calc, NextDuplicate, Sorted}
use Rattle.dbtg_unit.specs.declared.statement.Statement.{Statement}
use Rattle.dbtg_unit.specs.declared.statement.Statement.TheVariants.{OpenArea, CloseArea, Find, Get, Store, Insert, Remove, Modify, Delete, Keep, Free}
use Rattle.dbtg_unit.specs.declared.unit.Cause.{Cause}
use Rattle.dbtg_unit.specs.declared.unit.Cause.TheVariants.{UsageConflict}
use Rattle.dbtg_unit.specs.declared.unit.Unit.{Unit}
use Rattle.dbtg_unit.specs.Database.State.Base.{Database, items_of}
use Rattle.dbtg_unit.specs.Database.State.Units.{forgotten, noted, seen}
use Rattle.dbtg_unit.specs.Database.Statements.Checks.{checks_on_cells, refused_at_once}
use Rattle.dbtg_unit.specs.Database.Statements.Effect.{StatementEffect, deleted, done, done_on_cells, done_on_current, effect, effect_on_cells, finding, inserted, modified, refused, removed, unless_refused, version_of}
use Rattle.dbtg_unit.specs.Database.Statements.Found.{found}
use Rattle.dbtg_unit.specs.Database.Statements.StoredFacts.{whole}
use Rattle.dbtg_unit.specs.Database.Laws.Replay.{State, after, after_effect, effect_of_unit, unit_of}
use Rattle.dbtg_states.specs.Alike.{GoOnAlike, unordered, uses_of}
use Rattle.dbtg_unit.proofs.Public.{In, any_element, any_in, in_filter, of_filter}

-- USERS

-- the same users, whatever their order
abbrev SameUsers : List (ℕ × Mode) → List (ℕ × Mode) → Type 0
SameUsers es fs = (u : ℕ) → uses_of u es ≡ uses_of u fs

any_moves : (test : ℕ × Mode → Bool) (es fs : List (ℕ × Mode)) → SameUsers es fs → list_any test es ≡ true → list_any test fs ≡ true
any_moves test es fs same h =
    let found = any_element test es h in
    let own : In found.0 (uses_of found.0.0 es) = in_filter (λ e. e.0 == found.0.0) found.0 es found.1 (grind arith) in
    any_in test found.0 fs (of_filter (λ e. e.0 == found.0.0) found.0 fs (subst (In found.0) (same found.0.0) own)).0 found.2

both_ways : (b c : Bool) → (b ≡ true → c ≡ true) → (c ≡ true → b ≡ true) → b ≡ c
both_ways true true f g = refl
both_ways true false f g = sym (f refl)
both_ways false true f g = g refl
both_ways false false f g = refl

any_same : (test : ℕ × Mode → Bool) (es fs : List (ℕ × Mode)) → SameUsers es fs → list_any test es ≡ list_any test fs
any_same test es fs same = both_ways _ _ (any_moves test es fs same) (any_moves test fs es (λ u. sym (same u)))

swapped : {X : Type 0} (p q : X → Bool) (xs : List X) → filter p (filter q xs) ≡ filter q (filter p xs)
swapped p q [] = refl
swapped p q (x ∷ xs) = by (swapped p q xs) (p x) (q x) refl refl where
  by : filter p (filter q xs) ≡ filter q (filter p xs) → (b c : Bool) → p x ≡ b → q x ≡ c → filter p (filter q (x ∷ xs)) ≡ filter q (filter p (x ∷ xs))
  by rest true true e f = rw e (rw f (rw e (ap (λ l. x ∷ l) rest)))
  by rest true false e f = rw e (rw f rest)
  by rest false true e f = rw e (rw f (rw e rest))
  by rest false false e f = rw e (rw f rest)

-- ONE STATEMENT

-- outcomes that differ at most in the order of users
pub record Alike (o p : StatementEffect) : Type 0 where
  pub answer : o.answer ≡ p.answer
  pub unit_is : o.unit ≡ p.unit
  pub records : o.database.records ≡ p.database.records
  pub lists : o.database.lists ≡ p.database.lists
  pub last : o.database.last ≡ p.database.last
  pub uses : (a : ℕ) → SameUsers (o.database.usage a) (p.database.usage a)

module _ (db : Database) (unit : Unit) (usage : ℕ → List (ℕ × Mode)) (same : (a : ℕ) → SameUsers (db.usage a) (usage a)) where
  -- the database with these users
  abbrev eb : Database
  eb = record db { usage = usage }

  refused_alike : (cause : Cause) → Alike (refused db unit cause) (refused eb unit cause)
  refused_alike cause = record { answer = refl; unit_is = refl; records = refl; lists = refl; last = refl; uses = same }

  unless : (check : Option Cause) (o p : StatementEffect) → Alike o p → Alike (unless_refused db unit check o) (unless_refused eb unit check p)
  unless None o p h = h
  unless (Some cause) o p h = refused_alike cause

  on_current : (current : Option DbKey) (o p : DbKey → StatementEffect) → ((k : DbKey) → Alike (o k) (p k)) → Alike (done_on_current db unit current o) (done_on_current eb unit current p)
  on_current None o p h = refused_alike _
  on_current (Some k) o p h = h k

  on_found : (result : Result DbKey Cause) (seen : DbKey → Unit) → Alike (finding db unit result seen) (finding eb unit result seen)
  on_found (Ok k) seen = record { answer = refl; unit_is = refl; records = refl; lists = refl; last = refl; uses = same }
  on_found (Err cause) seen = refused_alike cause

  opened : (a b : ℕ) (mode : Mode) (is : Bool) → SameUsers (if is then db.usage b ++ (unit.number, mode) ∷ [] else db.usage b) (if is then usage b ++ (unit.number, mode) ∷ [] else usage b)
  opened a b mode true u =
      filter-append (λ (e : ℕ × Mode). e.0 == u) (db.usage b) ((unit.number, mode) ∷ [])
      ∙ ap (λ l. l ++ uses_of u ((unit.number, mode) ∷ [])) (same b u)
      ∙ sym (filter-append (λ (e : ℕ × Mode). e.0 == u) (usage b) ((unit.number, mode) ∷ []))
  opened a b mode false u = same b u

  closed : (b : ℕ) (is : Bool) → SameUsers (if is then filter (λ e. not (e.0 == unit.number)) (db.usage b) else db.usage b) (if is then filter (λ e. not (e.0 == unit.number)) (usage b) else usage b)
  closed b true u =
      swapped (λ e. e.0 == u) (λ e. not (e.0 == unit.number)) (db.usage b)
      ∙ ap (filter (λ (e : ℕ × Mode). not (e.0 == unit.number))) (same b u)
      ∙ sym (swapped (λ e. e.0 == u) (λ e. not (e.0 == unit.number)) (usage b))
  closed b false u = same b u

  module _ (schema : Lists) (capacity : ℕ) where
    done_alike : (statement : Statement) → Alike (done_on_cells schema capacity db unit statement) (done_on_cells schema capacity eb unit statement)
    done_alike (OpenArea a mode) = record { answer = refl; unit_is = refl; records = refl; lists = refl; last = refl; uses = λ b. opened a b mode (b == a) }
    done_alike (CloseArea a) = record { answer = refl; unit_is = refl; records = refl; lists = refl; last = refl; uses = λ b. closed b (b == a) }
    done_alike (Find suppress form) = by form where
      by : (f : Form) → Alike (done_on_cells schema capacity db unit (Find suppress f)) (done_on_cells schema capacity eb unit (Find suppress f))
      by (Key k) = on_found (found schema capacity db unit (Key k)) (λ j. seen schema capacity db unit j suppress)
      by CurrentOfUnit = on_found (found schema capacity db unit CurrentOfUnit) (λ j. seen schema capacity db unit j suppress)
      by (CurrentOfType r) = on_found (found schema capacity db unit (CurrentOfType r)) (λ j. seen schema capacity db unit j suppress)
      by (CurrentOfSet s) = on_found (found schema capacity db unit (CurrentOfSet s)) (λ j. seen schema capacity db unit j suppress)
      by (CurrentOfArea a) = on_found (found schema capacity db unit (CurrentOfArea a)) (λ j. seen schema capacity db unit j suppress)
      by (InSet which r s) = on_found (found schema capacity db unit (InSet which r s)) (λ j. seen schema capacity db unit j suppress)
      by (InArea which r a) = on_found (found schema capacity db unit (InArea which r a)) (λ j. seen schema capacity db unit j suppress)
      by (OwnerOf s) = on_found (found schema capacity db unit (OwnerOf s)) (λ j. seen schema capacity db unit j suppress)
      by (Calc r values) = on_found (found schema capacity db unit (Calc r values)) (λ j. seen schema capacity db unit j suppress)
      by (NextDuplicate r) = on_found (found schema capacity db unit (NextDuplicate r)) (λ j. seen schema capacity db unit j suppress)
      by (Sorted s value) = on_found (found schema capacity db unit (Sorted s value)) (λ j. seen schema capacity db unit j suppress)
    done_alike (Get r) = on_current unit.currency.run_unit (λ k. done db unit (Some k) (Some (items_of db k))) (λ k. done eb unit (Some k) (Some (items_of eb k))) (λ k. record { answer = refl; unit_is = refl; records = refl; lists = refl; last = refl; uses = same })
    done_alike (Store t items suppress) = record { answer = refl; unit_is = refl; records = refl; lists = refl; last = refl; uses = same }
    done_alike (Insert s) = on_current unit.currency.run_unit (inserted schema db unit s) (inserted schema eb unit s) (λ k. record { answer = refl; unit_is = refl; records = refl; lists = refl; last = refl; uses = same })
    done_alike (Remove s) = on_current unit.currency.run_unit (removed db unit s) (removed eb unit s) (λ k. record { answer = refl; unit_is = refl; records = refl; lists = refl; last = refl; uses = same })
    done_alike (Modify t changes) = on_current unit.currency.run_unit (modified schema capacity db unit changes) (modified schema capacity eb unit changes) (λ k. record { answer = refl; unit_is = refl; records = refl; lists = refl; last = refl; uses = same })
    done_alike (Delete option) = on_current unit.currency.run_unit (deleted schema capacity db unit option) (deleted schema capacity eb unit option) (λ k. record { answer = refl; unit_is = refl; records = refl; lists = refl; last = refl; uses = same })
    done_alike Keep = on_current unit.currency.run_unit (λ k. done db (record unit { kept = noted k (version_of db k) unit.kept }) None None) (λ k. done eb (record unit { kept = noted k (version_of eb k) unit.kept }) None None) (λ k. record { answer = refl; unit_is = refl; records = refl; lists = refl; last = refl; uses = same })
    done_alike (Free true) = record { answer = refl; unit_is = refl; records = refl; lists = refl; last = refl; uses = same }
    done_alike (Free false) = on_current unit.currency.run_unit (λ k. done db (record unit { kept = forgotten k unit.kept }) None None) (λ k. done eb (record unit { kept = forgotten k unit.kept }) None None) (λ k. record { answer = refl; unit_is = refl; records = refl; lists = refl; last = refl; uses = same })

    checks_alike : (statement : Statement) → first_cause (checks_on_cells schema (whole schema capacity db) unit statement) ≡ first_cause (checks_on_cells schema (whole schema capacity eb) unit statement)
    checks_alike (OpenArea a mode) = ap (λ b. first_cause ((b, UsageConflict) ∷ [])) (any_same (λ e. conflict e.1 mode) (db.usage a) (usage a) (same a))
    checks_alike (CloseArea a) = refl
    checks_alike (Find suppress form) = refl
    checks_alike (Get r) = refl
    checks_alike (Store t items suppress) = refl
    checks_alike (Insert s) = refl
    checks_alike (Remove s) = refl
    checks_alike (Modify t changes) = refl
    checks_alike (Delete option) = refl
    checks_alike Keep = refl
    checks_alike (Free all) = refl

    pub effect_alike : (statement : Statement) → Alike (effect schema capacity db unit statement) (effect schema capacity eb unit statement)
    unfolding effect
    effect_alike statement =
        unless (refused_at_once schema capacity unit statement) (effect_on_cells schema capacity db unit statement) (effect_on_cells schema capacity eb unit statement)
        (subst (λ (check : Option Cause). Alike (effect_on_cells schema capacity db unit statement) (unless_refused eb unit check (done_on_cells schema capacity eb unit statement))) (checks_alike statement)
        (unless (first_cause (checks_on_cells schema (whole schema capacity db) unit statement)) (done_on_cells schema capacity db unit statement) (done_on_cells schema capacity eb unit statement) (done_alike statement)))

-- ALL LATER STATEMENTS

module _ (schema : Lists) (capacity : ℕ) where
  -- the answer, and the state after it
  pub record StepsAlike (one other : State) (u : ℕ) (s : Statement) : Type 0 where
    pub answer : option_map (λ o. o.answer) (effect_of_unit schema capacity one u s) ≡ option_map (λ o. o.answer) (effect_of_unit schema capacity other u s)
    pub alike : unordered (after_effect one u (effect_of_unit schema capacity one u s)) ≡ unordered (after_effect other u (effect_of_unit schema capacity other u s))

  -- the state with these users
  abbrev with_usage : State → (ℕ → List (ℕ × Mode)) → State
  with_usage one usage = record one { database = record one.database { usage = usage } }

  unordered_same : (one : State) (usage : ℕ → List (ℕ × Mode)) → ((a : ℕ) → SameUsers (one.database.usage a) (usage a)) → unordered one ≡ unordered (with_usage one usage)
  unordered_same one usage same = λ i. record { records = one.database.records; lists = one.database.lists; last = one.database.last; uses = λ a u. same a u i; units = one.units }

  after_alike : (one : State) (usage : ℕ → List (ℕ × Mode)) (u : ℕ) (o p : StatementEffect) → Alike o p → unordered (after one u o) ≡ unordered (after (with_usage one usage) u p)
  after_alike one usage u o p h =
      λ i. record { records = h.records i; lists = h.lists i; last = h.last i; uses = λ a v. h.uses a v i; units = slice_set one.units (u - 1) (h.unit_is i) }

  step_by : (one : State) (usage : ℕ → List (ℕ × Mode)) → ((a : ℕ) → SameUsers (one.database.usage a) (usage a)) → (u : ℕ) (s : Statement) → StepsAlike one (with_usage one usage) u s
  step_by one usage same u s = by (unit_of one u) refl where
    by : (unit : Option Unit) → unit_of one u ≡ unit → StepsAlike one (with_usage one usage) u s
    by None e = record { answer = rw e refl; alike = rw e (unordered_same one usage same) }
    by (Some unit) e =
        let h = effect_alike one.database unit usage same schema capacity s in
        record { answer = rw e (ap Some h.answer); alike = rw e (after_alike one usage u _ _ h) }

  pub steps_alike : (one other : State) (u : ℕ) (s : Statement) → unordered one ≡ unordered other → StepsAlike one other u s
  steps_alike one other u s e =
      let same : (a : ℕ) → SameUsers (one.database.usage a) (other.database.usage a) = λ a v i. (e i).uses a v in
      let there : with_usage one other.database.usage ≡ other = λ i. record { database = record { records = (e i).records; lists = (e i).lists; last = (e i).last; usage = other.database.usage }; units = (e i).units } in
      subst (λ (z : State). StepsAlike one z u s) there (step_by one other.database.usage same u s)

  pub go_on_alike : (one other : State) (statements : List (ℕ × Statement)) → unordered one ≡ unordered other → GoOnAlike schema capacity one other statements
  go_on_alike one other [] e = record { answers_are = refl; alike = e }
  go_on_alike one other (s ∷ statements) e =
      let step = steps_alike one other s.0 s.1 e in
      let rest = go_on_alike (after_effect one s.0 (effect_of_unit schema capacity one s.0 s.1)) (after_effect other s.0 (effect_of_unit schema capacity other s.0 s.1)) statements step.alike in
      record { answers_are = λ i. step.answer i ∷ rest.answers_are i; alike = rest.alike }
