-- The entries of a list that can be made: each can be, and the state behind it is that after its statement.
use Rattle.std.proofs.Common.{◌≡◌, refl, sym, ◌∙◌, ap, ℕ, ◌+◌, ◌<◌, ◌≤◌, Bool, true, false, List, [], ◌∷◌, ◌++◌, append_assoc, get_or, length, drop}
use Rattle.std.specs.Prelude.{◌&&◌, nat_lt, nat_le}
use Rattle.std.specs.List.{list_all}
use Rattle.std.proofs.lemmas.Bool.{and_parts, false≢true, ltb-true, leb-true}
use Rattle.std.proofs.lemmas.List.{drop_more}
use Rattle.std.proofs.lemmas.List.Folds.{list_all_at}
use Rattle.dbtg_schema.specs.Lists.{Lists}
use Rattle.dbtg_unit.specs.declared.unit.Entry.{Entry}
use Rattle.dbtg_unit.specs.Database.Statements.Fits.{fits}
use Rattle.dbtg_unit.specs.Database.Laws.Replay.{State, after_entry, after_effect, opening_state, replay}
use Rattle.dbtg_step.specs.Core.Audit.{MayBeHistory}
use Rattle.dbtg_step.specs.Core.Whole.{HasMade, Making, state_now}
use Rattle.dbtg_refusal.specs.Said.{said_from, said_in}

-- what all elements pass, the i-th passes
passes : {X : Type 0} (p : X → Bool) (xs : List X) (i : ℕ) (x : X) → list_all p xs ≡ true → i < length xs → x ≡ get_or xs i x → p x ≡ true
passes {X} p xs i x all below is = by (p x) refl where
  by : (b : Bool) → p x ≡ b → p x ≡ true
  by true e = e
  by false e = absurd (false≢true (sym (list_all_at p xs i x below (ap p (sym is) ∙ e)) ∙ all))

-- the i-th entry has a unit that is there, and a statement that fits
module _ (schema : Lists) (units : ℕ) (history : List Entry) (may : MayBeHistory schema units history) (i : ℕ) (e : Entry) (below : i < length history) (is : e ≡ get_or history i e) where
  pub numbered : (0 < e.unit) × (e.unit ≤ units)
  numbered =
      let both = and_parts _ _ (passes (λ (x : Entry). nat_lt 0 x.unit && nat_le x.unit units) history i e may.numbered below is) in
      (ltb-true _ _ both.0, leb-true _ _ both.1)

  pub fitting : fits schema e.statement ≡ true
  fitting = passes (λ (x : Entry). fits schema x.statement) history i e may.fitting below is

-- where nothing was made, the state is the opening one
pub state_at_first : (m : Making) → m.history ≡ [] → state_now m ≡ opening_state m.schema m.units
unfolding replay
state_at_first m none = ap (replay m.schema m.capacity (opening_state m.schema m.units)) none

-- with the statement of an entry made, the state is that after the entry
pub state_behind : (old new : Making) (e : Entry) → HasMade old e.unit e.statement new → state_now new ≡ after_entry old.schema old.capacity (state_now old) e
state_behind old new e has = has.state_is ∙ ap (after_effect (state_now old) e.unit) (sym has.outcome_is)

-- what is said from an entry on: of it, and from the next one on
pub said_next : (schema : Lists) (capacity : ℕ) (state : State) (history : List Entry) (i : ℕ) (e : Entry) → i < length history → e ≡ get_or history i e
    → said_from schema capacity state (drop i history) ≡ said_in schema capacity state e ∷ said_from schema capacity (after_entry schema capacity state e) (drop (i + 1) history)
said_next schema capacity state history i e below is =
    ap (said_from schema capacity state) (drop_more history i e below ∙ ap (λ x. x ∷ drop (i + 1) history) (sym is))

-- one text more behind those before
pub pushed : (texts new next all : List (List ℕ)) (x said : List ℕ) → new ≡ texts ++ x ∷ [] → x ≡ said → texts ++ (said ∷ next) ≡ all → new ++ next ≡ all
pushed texts new next all x said e same h = ap (λ ts. ts ++ next) e ∙ append_assoc texts (x ∷ []) next ∙ ap (λ (t : List ℕ). texts ++ (t ∷ next)) same ∙ h
