-- States of histories go on alike where they differ at most in versions, and in the order in which units opened an area.
-- u is a unit's number, e is a record that a unit keeps, with the version that is kept of it.
use Rattle.std.proofs.Common.{◌≡◌, refl, sym, ◌∙◌, ap, subst, ℕ, zero, suc, ◌-◌, false, List, [], ◌∷◌, Option, Some, None, inl, inr, map, slice_get, ◌⊎◌, ⊎_elim, true≢false}
use Rattle.std.specs.Prelude.{◌==◌, if◌then◌else◌, option_map, slice_set}
use Rattle.std.specs.List.{range_with_len}
use Rattle.dbtg_schema.specs.Lists.{Lists}
use Rattle.dbtg_schema.specs.Lookups.{some_and}
use Rattle.dbtg_cells.specs.declared.key.DbKey.{DbKey}
use Rattle.dbtg_unit.specs.declared.statement.Statement.{Statement}
use Rattle.dbtg_unit.specs.declared.unit.Entry.{Entry}
use Rattle.dbtg_unit.specs.declared.unit.Unit.{Unit}
use Rattle.dbtg_unit.specs.Database.State.Base.{Database}
use Rattle.dbtg_unit.specs.Database.State.Units.{opening_unit}
use Rattle.dbtg_unit.specs.Database.Statements.Effect.{StatementEffect, effect}
use Rattle.dbtg_unit.specs.Database.Laws.Replay.{State, after, after_effect, after_entry, effect_of_unit, opening_state, replay, unit_of}
use Rattle.dbtg_unit.proofs.Public.{In, of_map}
use Rattle.dbtg_states.specs.Alike.{unordered}
use Rattle.dbtg_states.proofs.States.Alike.{steps_alike}
use Rattle.dbtg_explore.specs.Versions.{GoOnAlike, at_first, essential, unversioned, unversioned_database, unversioned_unit}
use Rattle.dbtg_explore.proofs.Versions.Steps.{Alike, effect_alike}
use Rattle.dbtg_explore.proofs.Versions.Stored.{first_twice, stays_same}
use Rattle.dbtg_explore.proofs.Versions.Twins.{AreKnown, IsWithin, Twins, kept_alike, twins_raised}

-- what holds of each state of a history: the number of a live key has had its generation, and so has that of a kept one, whose version is no
-- higher than that of its record
pub record IsKept (s : State) : Type 0 where
  pub known : AreKnown s.database
  pub within : (unit : Unit) → In unit s.units → (e : DbKey × ℕ) → In e unit.kept → IsWithin s.database e

-- UNITS

pub got_mapped : {X Y : Type 0} (f : X → Y) (xs : List X) (n : ℕ) → slice_get (map f xs) n ≡ option_map f (slice_get xs n)
got_mapped f [] n = refl
got_mapped f (x ∷ xs) zero = refl
got_mapped f (x ∷ xs) (suc n) = got_mapped f xs n

set_mapped : {X Y : Type 0} (f : X → Y) (xs : List X) (n : ℕ) (x : X) → map f (slice_set xs n x) ≡ slice_set (map f xs) n (f x)
set_mapped f [] n x = refl
set_mapped f (y ∷ xs) zero x = refl
set_mapped f (y ∷ xs) (suc n) x = ap (λ ys. f y ∷ ys) (set_mapped f xs n x)

of_set : {X : Type 0} (xs : List X) (n : ℕ) (x y : X) → In y (slice_set xs n x) → In y xs ⊎ (x ≡ y)
of_set [] n x y i = inl i
of_set (z ∷ xs) zero x y i = ⊎_elim (λ e. inr e) (λ j. inl (inr j)) i
of_set (z ∷ xs) (suc n) x y i = ⊎_elim (λ e. inl (inl e)) (λ j. ⊎_elim (λ k. inl (inr k)) (λ e. inr e) (of_set xs n x y j)) i

pub got_in : {X : Type 0} (xs : List X) (n : ℕ) (x : X) → slice_get xs n ≡ Some x → In x xs
got_in [] n x e = absurd cc
got_in (y ∷ xs) zero x e = inl cc
got_in (y ∷ xs) (suc n) x e = inr (got_in xs n x e)

unit_in : (s : State) (u : ℕ) (unit : Unit) → unit_of s u ≡ Some unit → In unit s.units
unit_in s zero unit e = absurd cc
unit_in s (suc n) unit e = got_in s.units n unit e

unit_there : (s : State) (u : ℕ) → unit_of (unversioned s) u ≡ option_map (unversioned_unit s.database) (unit_of s u)
unit_there s zero = refl
unit_there s (suc n) = got_mapped (unversioned_unit s.database) s.units n

units_alike : (db : Database) (known : AreKnown db) (new other : Database) → Twins db known new other → (units : List Unit)
    → ((unit : Unit) → In unit units → (e : DbKey × ℕ) → In e unit.kept → IsWithin db e) → map (unversioned_unit new) units ≡ map (unversioned_unit other) (map (unversioned_unit db) units)
units_alike db known new other t [] all = refl
units_alike db known new other t (unit ∷ units) all =
    λ i. record unit { kept = kept_alike db known new other t unit.kept (all unit (inl refl)) i } ∷ units_alike db known new other t units (λ v j. all v (inr j)) i

-- ONE STATEMENT

same_unversioned : (s : State) → IsKept s → unversioned s ≡ unversioned (unversioned s)
same_unversioned s k =
    let t = twins_raised s.database k.known (λ x. false) (λ x. false) s.database (unversioned_database s.database) (λ x. refl) (λ x. stays_same (s.database.records x)) refl refl refl refl in
    let units = units_alike s.database k.known s.database (unversioned_database s.database) t s.units k.within in
    λ i. record {
      database = record { records = λ x. first_twice (s.database.records x) i; lists = s.database.lists; last = s.database.last; usage = s.database.usage };
      units = units i;
    }

-- without versions, states that differ at most in the order of opening still do
unversioned_alike : (one other : State) → unordered one ≡ unordered other → essential one ≡ essential other
unversioned_alike one other e =
    λ i. record {
      records = λ k. option_map at_first ((e i).records k);
      lists = (e i).lists;
      last = (e i).last;
      uses = (e i).uses;
      units = map (λ (unit : Unit). record unit { kept = map {B = DbKey × ℕ} (λ x. (x.0, if some_and (λ r. x.1 == r.version) ((e i).records x.0) then 1 else 0)) unit.kept }) (e i).units;
    }

module _ (schema : Lists) (capacity : ℕ) where
  -- a statement gets the same answer without versions, and leads to the same state but for versions
  pub record StepsAlike (s : State) (u : ℕ) (statement : Statement) : Type 0 where
    pub kept : IsKept (after_effect s u (effect_of_unit schema capacity s u statement))
    pub answer : option_map (λ o. o.answer) (effect_of_unit schema capacity s u statement) ≡ option_map (λ o. o.answer) (effect_of_unit schema capacity (unversioned s) u statement)
    pub alike : unversioned (after_effect s u (effect_of_unit schema capacity s u statement)) ≡ unversioned (after_effect (unversioned s) u (effect_of_unit schema capacity (unversioned s) u statement))

  module _ (s : State) (k : IsKept s) (u : ℕ) (unit : Unit) (there : unit_of s u ≡ Some unit) where
    abbrev mine : (e : DbKey × ℕ) → In e unit.kept → IsWithin s.database e
    mine = k.within unit (unit_in s u unit there)

    after_kept : (o p : StatementEffect) → Alike s.database k.known unit mine o p → IsKept (after s u o)
    after_kept o p h = record {
      known = h.twins.are_known;
      within = λ v i e j. ⊎_elim
          (λ old. h.twins.within e (k.within v old e j))
          (λ same. h.within e (subst (λ (w : Unit). In e w.kept) (sym same) j))
          (of_set s.units (u - 1) o.unit v i);
    }

    after_alike : (o p : StatementEffect) → Alike s.database k.known unit mine o p → unversioned (after s u o) ≡ unversioned (after (unversioned s) u p)
    after_alike o p h =
        let others = units_alike s.database k.known o.database p.database h.twins s.units k.within in
        let stepped : unversioned_unit o.database o.unit ≡ unversioned_unit p.database p.unit = λ i. record { number = h.number i; currency = h.currency i; modes = h.modes i; kept = h.kept i } in
        let units = set_mapped (unversioned_unit o.database) s.units (u - 1) o.unit ∙ (λ i. slice_set (others i) (u - 1) (stepped i)) ∙ sym (set_mapped (unversioned_unit p.database) (map (unversioned_unit s.database) s.units) (u - 1) p.unit) in
        λ i. record {
          database = record { records = λ x. h.twins.first x i; lists = h.twins.lists i; last = h.twins.last i; usage = h.twins.usage i };
          units = units i;
        }

  step : (s : State) → IsKept s → (u : ℕ) (statement : Statement) → StepsAlike s u statement
  step s k u statement = by (unit_of s u) refl where
    by : (unit : Option Unit) → unit_of s u ≡ unit → StepsAlike s u statement
    by None e =
        let none : unit_of (unversioned s) u ≡ None = unit_there s u ∙ ap (option_map (unversioned_unit s.database)) e in
        record { kept = rw e k; answer = rw e (rw none refl); alike = rw e (rw none (same_unversioned s k)) }
    by (Some unit) e =
        let some : unit_of (unversioned s) u ≡ Some (unversioned_unit s.database unit) = unit_there s u ∙ ap (option_map (unversioned_unit s.database)) e in
        let h = effect_alike s.database k.known unit (mine s k u unit e) schema capacity statement in
        let o = effect schema capacity s.database unit statement in
        let p = effect schema capacity (unversioned_database s.database) (unversioned_unit s.database unit) statement in
        record {
          kept = rw e (after_kept s k u unit e o p h);
          answer = rw e (rw some (ap Some h.answer));
          alike = rw e (rw some (after_alike s k u unit e o p h));
        }

  -- two states that differ at most in versions and in the order of opening
  pub record BothStep (one other : State) (u : ℕ) (statement : Statement) : Type 0 where
    pub answer : option_map (λ o. o.answer) (effect_of_unit schema capacity one u statement) ≡ option_map (λ o. o.answer) (effect_of_unit schema capacity other u statement)
    pub alike : essential (after_effect one u (effect_of_unit schema capacity one u statement)) ≡ essential (after_effect other u (effect_of_unit schema capacity other u statement))

  pub both_step : (one other : State) → IsKept one → IsKept other → (u : ℕ) (statement : Statement) → essential one ≡ essential other → BothStep one other u statement
  both_step one other k k' u statement e =
      let first = step one k u statement in
      let second = step other k' u statement in
      let between = steps_alike schema capacity (unversioned one) (unversioned other) u statement e in
      record {
        answer = first.answer ∙ between.answer ∙ sym second.answer;
        alike = ap unordered first.alike ∙ unversioned_alike _ _ between.alike ∙ sym (ap unordered second.alike);
      }

  -- ALL LATER STATEMENTS

  go_on_alike : (one other : State) (statements : List (ℕ × Statement)) → IsKept one → IsKept other → essential one ≡ essential other → GoOnAlike schema capacity one other statements
  go_on_alike one other [] k k' e = record { answers_are = refl; alike = e }
  go_on_alike one other (s ∷ statements) k k' e =
      let both = both_step one other k k' s.0 s.1 e in
      let rest = go_on_alike (after_effect one s.0 (effect_of_unit schema capacity one s.0 s.1)) (after_effect other s.0 (effect_of_unit schema capacity other s.0 s.1)) statements (step one k s.0 s.1).kept (step other k' s.0 s.1).kept both.alike in
      record { answers_are = λ i. both.answer i ∷ rest.answers_are i; alike = rest.alike }

  -- THE STATES OF HISTORIES

  replay_kept : (s : State) (history : List Entry) → IsKept s → IsKept (replay schema capacity s history)
  unfolding replay
  replay_kept s [] k = k
  replay_kept s (e ∷ es) k = replay_kept (after_entry schema capacity s e) es (step s k e.unit e.statement).kept

  opening_kept : (units : ℕ) → IsKept (opening_state schema units)
  opening_kept units = record {
    known = λ k h. absurd (true≢false (sym h));
    within = λ unit i e j.
        let from = of_map (opening_unit schema) unit (range_with_len 1 units) i in
        absurd (subst (λ (v : Unit). In e v.kept) (sym from.2) j);
  }

  pub history_kept : (units : ℕ) (history : List Entry) → IsKept (replay schema capacity (opening_state schema units) history)
  history_kept units history = replay_kept (opening_state schema units) history (opening_kept units)

pub versions_are_no_state : (schema : Lists) (capacity units : ℕ) (history other : List Entry) (statements : List (ℕ × Statement))
    → essential (replay schema capacity (opening_state schema units) history) ≡ essential (replay schema capacity (opening_state schema units) other)
    → GoOnAlike schema capacity (replay schema capacity (opening_state schema units) history) (replay schema capacity (opening_state schema units) other) statements
versions_are_no_state schema capacity units history other statements e = go_on_alike schema capacity _ _ statements (history_kept schema capacity units history) (history_kept schema capacity units other) e
