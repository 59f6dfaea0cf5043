-- An audit takes one entry after another: what it finds of each, and of the whole.
use Rattle.std.proofs.Common.{Bor, ℕ, zero, suc, ◌+◌, ◌-◌, ◌<◌, ◌≡◌, Bool, true, false, ◌&&◌, List, [], ◌∷◌, ◌++◌, length, take, drop, Some, slice_get, get_or, refl, sym, ap, ◌∙◌, subst, arith, length-append}
use Rattle.std.specs.Prelude.{nat_lt, nat_le, option_map, ◌==◌, OnErr, Result, Ok, Err}
use Rattle.std.specs.Bool.{Decides, MatchBool}
use Rattle.std.specs.List.{list_all}
use Rattle.std.proofs.lemmas.Bool.{and_parts, and_from, false≢true, eq-eqb, eqb-true, lt-ltb, le-leb, ltb-true, leb-true}
use Rattle.std.proofs.lemmas.List.Folds.{list_all-append}
use Rattle.std.proofs.lemmas.List.{length-map}
use Rattle.std.proofs.lemmas.Option.{same_Some, slice_get-map, slice_get_read}
use Rattle.dbtg_schema.specs.Lists.{Lists}
use Rattle.dbtg_cells.proofs.Public.{get_behind}
use Rattle.dbtg_unit.specs.declared.unit.Entry.{Entry}
use Rattle.dbtg_unit.specs.Database.Statements.Fits.{fits}
use Rattle.dbtg_unit.specs.Database.State.Image.{Image}
use Rattle.dbtg_unit.specs.declared.unit.Unit.{Unit}
use Rattle.dbtg_unit.specs.Database.Laws.Replay.{AnswersHold, IsHistoryOf, TicketsInOrder, opening_state}
use Rattle.dbtg_unit.proofs.Public.{answers_behind, opening_length, replays_one_more, slice_get_range, units_are_there}
use Rattle.dbtg_unit.specs.declared.unit.Answer.{Answer}
use Rattle.dbtg_step.specs.Core.Audit.{LeadsTo, MayBeHistory, entries_at}
use Rattle.dbtg_step.specs.Core.Bare.{Bare, Continues, OpensAt, StandsAfter}
use Rattle.dbtg_step.specs.Core.Whole.{Making}
use Rattle.dbtg_step.specs.Inside.Audit.{GoesOn, MayStand, with_history}

-- LISTS

pub newest_of : {X : Type 0} (xs all : List X) (x : X) → all ≡ xs ++ x ∷ [] → slice_get all (length all - 1) ≡ Some x
newest_of xs all x e =
    let l = length-append xs (x ∷ []) in
    let back : length (xs ++ x ∷ []) - 1 ≡ length xs = omega (arith, l) in
    subst (λ ys. slice_get ys (length ys - 1) ≡ Some x) (sym e) (ap (slice_get (xs ++ x ∷ [])) back ∙ get_behind xs x [])

-- a list around one of its entries
pub around : {X : Type 0} (xs : List X) (k : ℕ) (x : X) → slice_get xs k ≡ Some x → (take k xs ++ x ∷ drop (suc k) xs ≡ xs) × (take (suc k) xs ≡ take k xs ++ x ∷ []) × (length (take k xs) ≡ k)
around [] zero x e = absurd (cc (e))
around [] (suc k) x e = absurd (cc (e))
around (y ∷ ys) zero x e = let s = same_Some y x e in (ap (λ z. z ∷ ys) (sym s), ap (λ z. z ∷ []) s, refl)
around (y ∷ ys) (suc k) x e = let r = around ys k x e in (ap (λ zs. y ∷ zs) r.0, ap (λ zs. y ∷ zs) r.1, ap suc r.2)

pub on_err : {A E : Type 0} (r : Result A E) (P : Type 0) → P → OnErr r P
on_err (Ok x) P p = tt
on_err (Err e) P p = p

-- ENTRIES THAT STAND ELSEWHERE

pub entry_there : (history : List (Bor Entry)) (index : ℕ) (entry : Bor Entry) → index < length history → entry ≡ get_or history index entry → slice_get (entries_at history) index ≡ Some entry.now
entry_there history index entry below read = slice_get-map (λ (e : Bor Entry). e.now) history index ∙ ap (option_map (λ (e : Bor Entry). e.now)) (slice_get_read history _ index entry refl below read)

pub entries_counted : (history : List (Bor Entry)) → length (entries_at history) ≡ length history
entries_counted history = length-map history _

-- AN ENTRY

-- an entry of the statement and the answer is the database's next one, or does not go on
module _ (old new : Bare) (entry : Entry) (answer : Answer) where
  abbrev pub made_entry : Entry
  made_entry = record { ticket = old.count; unit = entry.unit; statement = entry.statement; answer = answer }

  module _ (made : Continues old (made_entry ∷ []) new) where
    same_answer : (history : List Entry) → StandsAfter old history → GoesOn (with_history old history) entry → entry.answer ≡ answer
    same_answer history stands goes =
        let after = made.stands history stands in
        let answers = subst (λ n. IsHistoryOf old.schema old.capacity n (history ++ made_entry ∷ [])) made.units_are
        (subst (λ schema. IsHistoryOf schema old.capacity (length new.units) (history ++ made_entry ∷ [])) made.schema_is
        (subst (λ capacity. IsHistoryOf new.schema capacity (length new.units) (history ++ made_entry ∷ [])) made.capacity_is after.whole.history_of)) in
        same_Some entry.answer answer (sym goes.answer ∙ (replays_one_more old.schema old.capacity (opening_state old.schema (length old.units)) history made_entry).answer_is answers.answers_hold)

    pub decided : entry.ticket ≡ old.count → (follows : Bool) → Decides follows (entry.answer ≡ answer)
        → MatchBool follows (Continues old (entry ∷ []) new) ((history : List Entry) → StandsAfter old history → GoesOn (with_history old history) entry → ⊥)
    decided ticket true d = subst (λ (e : Entry). Continues old (e ∷ []) new) (λ i. record { ticket = sym ticket i; unit = entry.unit; statement = entry.statement; answer = sym (d.0 refl) i }) made
    decided ticket false d = λ history stands goes. false≢true (d.1 (same_answer history stands goes))

-- WITHOUT A DATABASE

-- one entry more fits
pub fits_more : (schema : Lists) (past : List Entry) (entry : Entry) → list_all (λ (e : Entry). fits schema e.statement) past ≡ true → fits schema entry.statement ≡ true → list_all (λ (e : Entry). fits schema e.statement) (past ++ entry ∷ []) ≡ true
fits_more schema past entry h f = list_all-append (λ (e : Entry). fits schema e.statement) past (entry ∷ []) ∙ and_from _ _ h (and_from _ _ f refl)

-- what the tests of an entry say
module _ (schema : Lists) (units place : ℕ) (entry : Entry) where
  abbrev may : Bool
  may = entry.ticket == place && nat_lt 0 entry.unit && nat_le entry.unit units && fits schema entry.statement

  pub standing : may ≡ true → MayStand schema units place entry
  standing e =
      let a = and_parts _ _ e in
      let b = and_parts _ _ a.0 in
      let d = and_parts _ _ b.0 in
      record { ticket = eqb-true _ _ d.0; numbered = ltb-true _ _ d.1; within = leb-true _ _ b.1; fitting = a.1 }

  pub not_standing : may ≡ false → MayStand schema units place entry → ⊥
  not_standing e m = false≢true (sym e ∙ and_from _ _ (and_from _ _ (and_from _ _ (eq-eqb entry.ticket place m.ticket) (lt-ltb 0 entry.unit m.numbered)) (le-leb entry.unit units m.within)) m.fitting)

module _ (schema : Lists) (units : ℕ) where
  pub none_yet : MayBeHistory schema units []
  none_yet = record { tickets = refl; numbered = refl; fitting = refl }

  pub one_more : (past : List Entry) (entry : Entry) → MayBeHistory schema units past → MayStand schema units (length past) entry → MayBeHistory schema units (past ++ entry ∷ [])
  one_more past entry h m = record {
    tickets = (replays_one_more schema 0 (opening_state schema units) past entry).tickets_on h.tickets m.ticket;
    numbered = list_all-append (λ (e : Entry). nat_lt 0 e.unit && nat_le e.unit units) past (entry ∷ []) ∙ and_from _ _ h.numbered (and_from _ _ (and_from _ _ (lt-ltb 0 entry.unit m.numbered) (le-leb entry.unit units m.within)) refl);
    fitting = fits_more schema past entry h.fitting m.fitting;
  }

  -- each entry has its ticket
  ticket_at : (past rest : List Entry) (entry : Entry) → TicketsInOrder (past ++ entry ∷ rest) → entry.ticket ≡ length past
  ticket_at past rest entry h =
      let long : length past < length (past ++ entry ∷ rest) = let l = length-append past (entry ∷ rest) in omega (arith, l) in
      let ticket = sym (slice_get-map (λ (x : Entry). x.ticket) (past ++ entry ∷ rest) (length past) ∙ ap (option_map (λ (x : Entry). x.ticket)) (get_behind past entry rest)) ∙ ap (λ ts. slice_get ts (length past)) h ∙ slice_get_range (length (past ++ entry ∷ rest)) 0 (length past) long in
      same_Some entry.ticket (0 + length past) ticket ∙ omega arith

  pub stands_at : (history past rest : List Entry) (entry : Entry) → past ++ entry ∷ rest ≡ history → MayBeHistory schema units history → MayStand schema units (length past) entry
  stands_at history past rest entry e h =
      let all = subst (MayBeHistory schema units) (sym e) h in
      let numbers : (list_all (λ (x : Entry). nat_lt 0 x.unit && nat_le x.unit units) past ≡ true) × (list_all (λ (x : Entry). nat_lt 0 x.unit && nat_le x.unit units) (entry ∷ rest) ≡ true)
      = and_parts _ _ (sym (list_all-append (λ (x : Entry). nat_lt 0 x.unit && nat_le x.unit units) past (entry ∷ rest)) ∙ all.numbered) in
      let number = and_parts _ _ (and_parts _ _ numbers.1).0 in
      let fit : (list_all (λ (x : Entry). fits schema x.statement) past ≡ true) × (list_all (λ (x : Entry). fits schema x.statement) (entry ∷ rest) ≡ true) = and_parts _ _ (sym (list_all-append (λ (x : Entry). fits schema x.statement) past (entry ∷ rest)) ∙ all.fitting) in
      record { ticket = ticket_at past rest entry all.tickets; numbered = ltb-true _ _ number.0; within = leb-true _ _ number.1; fitting = (and_parts _ _ fit.1).0 }

-- a history shows so by itself
pub shows_so : (schema : Lists) (capacity units : ℕ) (history : List Entry) → IsHistoryOf schema capacity units history → MayBeHistory schema units history
shows_so schema capacity units history h = record {
  tickets = h.tickets;
  numbered = subst (λ (n : ℕ). list_all (λ (x : Entry). nat_lt 0 x.unit && nat_le x.unit n) history ≡ true) (opening_length schema units) (units_are_there schema capacity (opening_state schema units) history h.answers_hold);
  fitting = h.fitting;
}

-- THE WHOLE

abbrev pub stands : Lists → ℕ → ℕ → List Entry → Making
stands schema capacity units past = record { schema = schema; capacity = capacity; units = units; history = past }

module _ (schema : Lists) (capacity units : ℕ) (history : List Entry) where
  -- each entry of a history goes on
  goes_on : (past rest : List Entry) (entry : Entry) → past ++ entry ∷ rest ≡ history → IsHistoryOf schema capacity units history → GoesOn (stands schema capacity units past) entry
  unfolding AnswersHold
  goes_on past rest entry e h =
      let all = subst (IsHistoryOf schema capacity units) (sym e) h in
      let m = stands_at schema units history past rest entry e (shows_so schema capacity units history h) in
      record {
        ticket = m.ticket;
        fitting = m.fitting;
        answer = (answers_behind schema capacity (opening_state schema units) past (entry ∷ rest) all.answers_hold).0;
      }

  pub not_led : (past rest : List Entry) (entry : Entry) → past ++ entry ∷ rest ≡ history → (GoesOn (stands schema capacity units past) entry → ⊥) → IsHistoryOf schema capacity units history → ⊥
  not_led past rest entry e n h = n (goes_on past rest entry e h)

-- the next entry of a list that may be a history
module _ (opened m : Bare) (history past rest : List Entry) (entry : Entry) (split : past ++ entry ∷ rest ≡ history) (on : Continues opened past m) (fresh : StandsAfter opened []) where
  pub may_stand_next : MayBeHistory opened.schema (length opened.units) history → MayStand m.schema (length m.units) m.count entry
  may_stand_next may =
      subst (λ schema. MayStand schema (length m.units) m.count entry) (sym on.schema_is)
      (subst (λ n. MayStand opened.schema n m.count entry) (sym on.units_are)
      (subst (λ place. MayStand opened.schema (length opened.units) place entry) (sym (on.stands [] fresh).count_is) (stands_at opened.schema (length opened.units) history past rest entry split may)))

  same_making : stands opened.schema opened.capacity (length opened.units) past ≡ with_history m past
  same_making = λ i. record { schema = sym on.schema_is i; capacity = sym on.capacity_is i; units = sym on.units_are i; history = past }

  pub not_led_on : ((h : List Entry) → StandsAfter m h → GoesOn (with_history m h) entry → ⊥) → IsHistoryOf opened.schema opened.capacity (length opened.units) history → ⊥
  not_led_on refused = not_led opened.schema opened.capacity (length opened.units) history past rest entry split (λ g. refused past (on.stands [] fresh) (subst (λ (k : Making). GoesOn k entry) same_making g))

-- what holds of the schema, the capacity and the number of units of a database that was opened with these
module _ (P : Lists → ℕ → ℕ → Type 0) (schema : Lists) (capacity units : ℕ) (m : Bare) (opened : OpensAt schema capacity units m) where
  pub of_opened : P m.schema m.capacity (length m.units) → P schema capacity units
  of_opened p = subst (λ s. P s capacity units) opened.schema_is (subst (λ n. P m.schema n units) opened.capacity_is (subst (P m.schema m.capacity) opened.units_are p))

  pub as_opened : P schema capacity units → P m.schema m.capacity (length m.units)
  as_opened p = subst (P m.schema m.capacity) (sym opened.units_are) (subst (λ n. P m.schema n units) (sym opened.capacity_is) (subst (λ s. P s capacity units) (sym opened.schema_is) p))

-- what the last database leads to, the first does
pub led_on : (opened m : Bare) (history : List Entry) (image : Image) (units : List Unit) → Continues opened history m → StandsAfter opened [] → ((h : List Entry) → StandsAfter m h → LeadsTo m.schema m.capacity (length m.units) h image units)
    → LeadsTo opened.schema opened.capacity (length opened.units) history image units
led_on opened m history image units on fresh leads =
    subst (λ schema. LeadsTo schema opened.capacity (length opened.units) history image units) on.schema_is
    (subst (λ capacity. LeadsTo m.schema capacity (length opened.units) history image units) on.capacity_is
    (subst (λ n. LeadsTo m.schema m.capacity n history image units) on.units_are (leads history (on.stands [] fresh))))

pub refused_at : (b : Bool) (P Q : Type 0) → b ≡ false → MatchBool b P Q → Q
refused_at true P Q e h = absurd (false≢true (sym e))
refused_at false P Q e h = h

-- what a test decides, where it passes
pub match_true : (b : Bool) (P Q : Type 0) → b ≡ true → MatchBool b P Q → P
match_true true P Q e h = h
match_true false P Q e h = absurd (false≢true e)
