-- The history of a run of scripts that fit can be made again: its units exist, and its statements fit.
use Rattle.std.proofs.Common.{◌≡◌, ℕ, zero, suc, ◌≤◌, Bool, true, List, [], ◌∷◌, length, Some, slice_get, inl, inr, refl, sym, ap, ◌∙◌, subst, nat_le}
use Rattle.std.specs.Prelude.{◌&&◌, nat_lt}
use Rattle.std.specs.List.{list_all}
use Rattle.std.proofs.lemmas.Bool.{and_from, and_parts, le-leb, lt-ltb}
use Rattle.dbtg_schema.specs.Lists.{Lists}
use Rattle.dbtg_schema.specs.Sound.{IsSound}
use Rattle.dbtg_unit.specs.declared.statement.Statement.{Statement}
use Rattle.dbtg_unit.specs.declared.unit.Entry.{Entry}
use Rattle.dbtg_unit.specs.declared.unit.Unit.{Unit}
use Rattle.dbtg_unit.specs.Database.State.Image.{Image}
use Rattle.dbtg_unit.specs.Database.Statements.Fits.{fits}
use Rattle.dbtg_unit.specs.Database.Laws.Replay.{State, opening_state}
use Rattle.dbtg_unit.proofs.Public.{opening_length, replay_keeps_count}
use Rattle.dbtg_step.specs.declared.results.Run.{Run}
use Rattle.dbtg_step.specs.Core.Audit.{MayBeHistory}
use Rattle.dbtg_step.specs.Laws.{scripts_fit}
use Rattle.dbtg_step.specs.Machine.Headline.{IsSequential}
use Rattle.dbtg_step.specs.Machine.SequentialDatabase.{unit_at, with_unit_at}
use Rattle.dbtg_step.proofs.Public.{length_with, set_found}
use Rattle.dbtg_replay.specs.declared.replay.AnswerForm.{AnswerForm}
use Rattle.dbtg_replay.specs.declared.replay.AnswerForm.TheVariants.{Plain, Echo, Explained, Trace}
use Rattle.dbtg_replay.specs.Replaying.{CanShow}
use Rattle.dbtg_replay.proofs.UnitEntries.{AllWithin, Begins, all_within, goes_on, there}

-- if all elements pass a test, the one at a place passes it
pub at_place : {X : Type 0} (p : X → Bool) (xs : List X) (n : ℕ) (x : X) → list_all p xs ≡ true → slice_get xs n ≡ Some x → p x ≡ true
at_place p [] n x all at = absurd (cc (at))
at_place p (y ∷ ys) zero x all at = let e : y ≡ x = cc (at) in subst (λ z. p z ≡ true) e (and_parts _ _ all).0
at_place p (y ∷ ys) (suc n) x all at = at_place p ys n x (and_parts _ _ all).1 at

-- the script of each unit fits
abbrev EachFits : Lists → List (List Statement) → Type 0
EachFits lists scripts = (u : ℕ) (script : List Statement) → unit_at scripts u ≡ Some script → list_all (fits lists) script ≡ true

each_fits : (lists : Lists) (scripts : List (List Statement)) → scripts_fit lists scripts ≡ true → EachFits lists scripts
unfolding unit_at
each_fits lists scripts all zero script at = absurd (cc (at))
each_fits lists scripts all (suc n) script at = at_place (list_all (fits lists)) scripts n script all at

all_fit : (lists : Lists) (scripts : List (List Statement)) (es : List Entry) → AllWithin (length scripts) es → Begins scripts es → EachFits lists scripts → list_all (λ (e : Entry). fits lists e.statement) es ≡ true
all_fit lists scripts [] within begin fit = refl
all_fit lists scripts (e ∷ es) within begin fit =
    let found = there scripts e.unit within.0 within.1 in
    let here = goes_on scripts e es found.0 found.1 begin in
    let both = and_parts _ _ (ap (list_all (fits lists)) here.1 ∙ fit e.unit found.0 found.1) in
    let all = subst (λ n. AllWithin n es) (sym (length_with scripts e.unit here.0)) within.2 in
    and_from _ _ both.0 (all_fit lists (with_unit_at scripts e.unit here.0) es all here.2 (λ u other at. elim (set_found scripts e.unit u here.0 other at) [
      | inl p ↦ subst (λ xs. list_all (fits lists) xs ≡ true) p.1 both.1
      | inr p ↦ fit u other p.1
    ]))

all_numbered : (n : ℕ) (es : List Entry) → AllWithin n es → list_all (λ (e : Entry). nat_lt 0 e.unit && nat_le e.unit n) es ≡ true
all_numbered n [] within = refl
all_numbered n (e ∷ es) within = and_from _ _ (and_from _ _ (lt-ltb 0 e.unit within.0) (le-leb e.unit n within.1)) (all_numbered n es within.2)

module _ (lists : Lists) (capacity : ℕ) (scripts : List (List Statement)) (history : List Entry) (image : Image) (units : List Unit) (law : IsSequential lists capacity scripts history image units) where
  pub as_many_units : length units ≡ length scripts
  as_many_units = ap length law.units_are ∙ replay_keeps_count lists capacity (opening_state lists (length scripts)) history ∙ opening_length lists (length scripts)

  pub can_be_made : scripts_fit lists scripts ≡ true → MayBeHistory lists (length scripts) history
  can_be_made fit =
      let within = all_within lists capacity (length scripts) (opening_state lists (length scripts)) history (opening_length lists (length scripts)) law.answers in
      record {
        tickets = law.tickets;
        numbered = all_numbered (length scripts) history within;
        fitting = all_fit lists scripts history within law.scripts_begin (each_fits lists scripts fit);
      }

-- a run of scripts that fit can be shown in each form
pub can_show : (lists : Lists) (capacity : ℕ) (scripts : List (List Statement)) (given : Run) (form : AnswerForm) → IsSound lists → length scripts ≤ 255 → scripts_fit lists scripts ≡ true
    → IsSequential lists capacity scripts given.history given.image given.units → CanShow lists form given
can_show lists capacity scripts given Plain sound most fit law = tt
can_show lists capacity scripts given Echo sound most fit law = tt
can_show lists capacity scripts given Trace sound most fit law = tt
can_show lists capacity scripts given (Explained c) sound most fit law =
    let many = as_many_units lists capacity scripts given.history given.image given.units law in (
      sound,
      subst (λ n. n ≤ 255) (sym many) most,
      subst (λ n. MayBeHistory lists n given.history) (sym many) (can_be_made lists capacity scripts given.history given.image given.units law fit),
    )
