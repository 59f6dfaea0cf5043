-- The last statement of a session taken back.
use Rattle.std.proofs.Common.{◌≡◌, ℕ, zero, suc, ◌+◌, ◌-◌, ◌<◌, ◌≤◌, true, List, [], ◌∷◌, ◌++◌, drop, length, reverse, take, None, Some, Option, slice_get, slice_set, inl, inr, refl, sym, ap, ◌∙◌, subst, arith, length-append}
use Rattle.std.specs.Prelude.{option_map, unwrap_or}
use Rattle.std.specs.List.{list_all}
use Rattle.std.proofs.lemmas.Bool.{and_parts}
use Rattle.std.proofs.lemmas.List.Folds.{list_all-append}
use Rattle.std.proofs.lemmas.List.{append_assoc, length-map, length-reverse, length-set, reverse-append, reverse-reverse}
use Rattle.std.proofs.lemmas.Option.{slice_get-map}
use Rattle.dbtg_schema.specs.Lists.{Lists}
use Rattle.dbtg_cells.proofs.Public.{get_behind}
use Rattle.dbtg_unit.specs.Database.Laws.Replay.{AnswersHold, IsHistoryOf, after_effect, answer_to, entries_of, opening_state, effect_of_unit, replay}
use Rattle.dbtg_unit.specs.Database.Statements.Effect.{StatementEffect}
use Rattle.dbtg_unit.specs.Database.Statements.Fits.{fits}
use Rattle.dbtg_unit.specs.declared.unit.Answer.{Answer}
use Rattle.dbtg_unit.specs.declared.unit.Entry.{Entry}
use Rattle.dbtg_unit.proofs.Public.{answers_behind, entries_mine, entries_other, opening_length, replay_keeps_count, replays_one_more, slice_get_range, unit_is_there}
use Rattle.dbtg_step.specs.Core.Whole.{HasMade, Making, state_now}
use Rattle.dbtg_step.proofs.Public.{found_of}
use Rattle.dbtg_script.specs.declared.limits.TheConstants.{SCRIPT_BYTES}
use Rattle.dbtg_script.specs.Lines.{trimmed}
use Rattle.dbtg_script.specs.Statements.{line_statement}
use Rattle.dbtg_session.specs.Inside.Sessions.{BeginsHistory, HasGrown, IsOwnScript, IsScriptOf, IsSession}
use Rattle.dbtg_session.specs.Sessions.{HasTyped, text_of}
use Rattle.dbtg_session.specs.declared.session.Script.{Script}
use Rattle.dbtg_session.proofs.SessionSteps.{texts_in, texts_set, there, typed}

-- ONE ENTRY OF A HISTORY

same_number : (a b : ℕ) → Some a ≡ Some b → a ≡ b
same_number a b e = cc (e)

-- what an entry of a history is, after these
pub record Stands (schema : Lists) (capacity units : ℕ) (past : List Entry) (entry : Entry) : Type 0 where
  pub ticket : entry.ticket ≡ length past
  pub low : 0 < entry.unit
  pub high : entry.unit ≤ units
  pub fitting : fits schema entry.statement ≡ true
  pub answer : answer_to schema capacity (replay schema capacity (opening_state schema units) past) entry ≡ Some entry.answer

module _ (schema : Lists) (capacity units : ℕ) (past rest : List Entry) (entry : Entry) where
  pub stands_at : IsHistoryOf schema capacity units (past ++ entry ∷ rest) → Stands schema capacity units past entry
  unfolding AnswersHold
  stands_at h =
      let state = replay schema capacity (opening_state schema units) past in
      let answer : answer_to schema capacity state entry ≡ Some entry.answer = (answers_behind schema capacity (opening_state schema units) past (entry ∷ rest) h.answers_hold).0 in
      let there = unit_is_there schema capacity state entry answer in
      let many : length state.units ≡ units = replay_keeps_count schema capacity (opening_state schema units) past ∙ opening_length schema units in
      let long : length past < length (past ++ entry ∷ rest) = let l = length-append past (entry ∷ rest) in omega (arith, l) in
      let ticket = sym (slice_get-map (λ (x : Entry). x.ticket) (past ++ entry ∷ rest) (length past) ∙ ap (option_map (λ (x : Entry). x.ticket)) (get_behind past entry rest)) ∙ ap (λ ts. slice_get ts (length past)) h.tickets ∙ slice_get_range (length (past ++ entry ∷ rest)) 0 (length past) long in
      let fit : (list_all (λ (x : Entry). fits schema x.statement) past ≡ true) × (list_all (λ (x : Entry). fits schema x.statement) (entry ∷ rest) ≡ true) = and_parts _ _ (sym (list_all-append (λ (x : Entry). fits schema x.statement) past (entry ∷ rest)) ∙ h.fitting) in
      record {
        ticket = same_number entry.ticket (0 + length past) ticket ∙ omega arith;
        low = there.0;
        high = omega (arith, there.1, many);
        fitting = (and_parts _ _ fit.1).0;
        answer = answer;
      }

-- the entry of a statement that is made anew is the one that stood there
same_answer : (o : Option StatementEffect) (outcome : StatementEffect) (answer : Answer) → o ≡ Some outcome → option_map (λ (x : StatementEffect). x.answer) o ≡ Some answer → outcome.answer ≡ answer
same_answer o outcome answer is e = let h : Some outcome.answer ≡ Some answer = ap (option_map (λ (x : StatementEffect). x.answer)) (sym is) ∙ e in cc (h)

pub makes_again : (schema : Lists) (capacity units : ℕ) (past : List Entry) (entry : Entry) (old new : Making) → old ≡ record { schema = schema; capacity = capacity; units = units; history = past }
    → Stands schema capacity units past entry → HasMade old entry.unit entry.statement new → new ≡ record { schema = schema; capacity = capacity; units = units; history = past ++ entry ∷ [] }
makes_again schema capacity units past entry old new is s made =
    let before : Making = record { schema = schema; capacity = capacity; units = units; history = past } in
    let has : HasMade before entry.unit entry.statement new = subst (λ (m : Making). HasMade m entry.unit entry.statement new) is made in
    let answer : has.outcome.answer ≡ entry.answer = same_answer (effect_of_unit schema capacity (state_now before) entry.unit entry.statement) has.outcome entry.answer has.outcome_is s.answer in
    has.new_is ∙ (λ i. record { schema = schema; capacity = capacity; units = units; history = past ++ record { ticket = sym s.ticket i; unit = entry.unit; statement = entry.statement; answer = answer i } ∷ [] })

-- THE LAST LINE OF A SCRIPT

-- what is left of a script, and the line that is gone
pub record IsTakenBack (schema : Lists) (one : Script) (earlier : List Entry) (e : Entry) (front line : List ℕ) (begins : List ℕ) : Type 0 where
  pub text_is : one.text.items ≡ front ++ line ++ 10 ∷ []
  pub begins_are : one.begins.items ≡ begins ++ length front ∷ []
  pub says : line_statement schema (trimmed line) ≡ Some e.statement
  pub is_script : IsScriptOf schema front (length begins) earlier
  pub grown : HasGrown schema front (reverse begins) (reverse earlier)

module _ (schema : Lists) (one : Script) (earlier : List Entry) (e : Entry) where
  by_begins : (bs : List ℕ) → reverse one.begins.items ≡ bs → HasGrown schema one.text.items bs (e ∷ reverse earlier) → (front : List ℕ) × (line : List ℕ) × (begins : List ℕ) × IsTakenBack schema one earlier e front line begins
  by_begins [] is h = absurd h
  by_begins (b ∷ bs) is (front, line, last, script_of, grown) = (
    front,
    line,
    reverse bs,
    record {
      text_is = last.text_is;
      begins_are = sym (reverse-reverse one.begins.items) ∙ ap reverse is ∙ reverse-append (b ∷ []) bs ∙ ap (λ n. reverse bs ++ n ∷ []) last.begins;
      says = last.says;
      is_script =
          subst (λ (n : ℕ). IsScriptOf schema front n earlier) (sym (length-reverse bs))
          (subst (IsScriptOf schema front (length bs)) (reverse-reverse earlier) script_of);
      grown = subst (λ (xs : List ℕ). HasGrown schema front xs (reverse earlier)) (sym (reverse-reverse bs)) grown;
    },
  )

  pub last_line : IsOwnScript schema one (earlier ++ e ∷ []) → (front : List ℕ) × (line : List ℕ) × (begins : List ℕ) × IsTakenBack schema one earlier e front line begins
  last_line own = by_begins (reverse one.begins.items) refl (subst (HasGrown schema one.text.items (reverse one.begins.items)) (reverse-append earlier (e ∷ [])) own.grown)

-- THE SESSION BEFORE

set_twice : {X : Type 0} (xs : List X) (k : ℕ) (x y : X) → slice_set (slice_set xs k x) k y ≡ slice_set xs k y
set_twice [] k x y = refl
set_twice (z ∷ zs) zero x y = refl
set_twice (z ∷ zs) (suc k) x y = ap (λ (ys : List _). z ∷ ys) (set_twice zs k x y)

set_as_it_was : {X : Type 0} (xs : List X) (k : ℕ) (x : X) → slice_get xs k ≡ Some x → slice_set xs k x ≡ xs
set_as_it_was [] k x e = refl
set_as_it_was (z ∷ zs) zero x e = let h : z ≡ x = cc (e) in ap (λ (y : _). y ∷ zs) (sym h)
set_as_it_was (z ∷ zs) (suc k) x e = ap (λ (ys : List _). z ∷ ys) (set_as_it_was zs k x e)

pub get_set : {X : Type 0} (xs : List X) (k : ℕ) (x y : X) → slice_get xs k ≡ Some x → slice_get (slice_set xs k y) k ≡ Some y
get_set [] k x y e = absurd (cc (e))
get_set (z ∷ zs) zero x y e = refl
get_set (z ∷ zs) (suc k) x y e = get_set zs k x y e

module _ (schema : Lists) (capacity : ℕ) (old : Making) (scripts : List Script) (session : IsSession schema capacity old scripts) (earlier : List Entry) (last : Entry) (is : old.history ≡ earlier ++ last ∷ []) (one next : Script) (low : 0 < last.unit) (at : slice_get scripts (last.unit - 1) ≡ Some one) where
  abbrev u : ℕ
  u = last.unit

  abbrev before : Making
  before = record { schema = schema; capacity = capacity; units = old.units; history = earlier }

  number : u - 1 + 1 ≡ u
  number = omega (arith, low)

  mine_are : entries_of u old.history ≡ entries_of u earlier ++ last ∷ []
  mine_are = ap (entries_of u) is ∙ entries_mine u earlier last refl

  pub taken : (front : List ℕ) × (line : List ℕ) × (begins : List ℕ) × IsTakenBack schema one (entries_of u earlier) last front line begins
  taken = last_line schema one (entries_of u earlier) last (subst (IsOwnScript schema one) mine_are (subst (λ (n : ℕ). IsOwnScript schema one (entries_of n old.history)) number (session.each (u - 1) one at)))

  module _ (text_is : next.text.items ≡ taken.0) (begins_are : next.begins.items ≡ taken.2) where
    own_left : IsOwnScript schema next (entries_of u earlier)
    own_left =
        let t = taken.3 in
        record {
          is_script =
              subst (λ (bs : List ℕ). IsScriptOf schema next.text.items (length bs) (entries_of u earlier)) (sym begins_are)
              (subst (λ (x : List ℕ). IsScriptOf schema x (length taken.2) (entries_of u earlier)) (sym text_is) t.is_script);
          grown =
              subst (λ (bs : List ℕ). HasGrown schema next.text.items (reverse bs) (reverse (entries_of u earlier))) (sym begins_are)
              (subst (λ (x : List ℕ). HasGrown schema x (reverse taken.2) (reverse (entries_of u earlier))) (sym text_is) t.grown);
        }

    each_left : (j : ℕ) (other : Script) → slice_get (slice_set scripts (u - 1) next) j ≡ Some other → IsOwnScript schema other (entries_of (j + 1) earlier)
    each_left j other found =
        elim (found_of scripts (u - 1) j next other found) [
          | inl p ↦
              subst (λ (z : Script). IsOwnScript schema z (entries_of (j + 1) earlier)) p.1
              (subst (λ (n : ℕ). IsOwnScript schema next (entries_of n earlier)) (sym (ap (λ (n : ℕ). n + 1) p.0 ∙ number)) own_left)
          | inr p ↦
              subst (IsOwnScript schema other) (ap (entries_of (j + 1)) is ∙ entries_other (j + 1) earlier last (λ (q : u ≡ j + 1). p.0 (omega (arith, q)))) (session.each j other p.1)
        ]

    pub session_left : IsSession schema capacity before (slice_set scripts (u - 1) next)
    session_left = record {
      sound = session.sound;
      schema_is = refl;
      capacity_is = refl;
      many = length-set scripts (u - 1) next ∙ session.many;
      counted = session.counted;
      each = each_left;
    }

    made_once : IsHistoryOf schema capacity old.units (earlier ++ last ∷ []) → HasMade before u last.statement old
    made_once h = by (effect_of_unit schema capacity (state_now before) u last.statement) refl
      where
        stands : Stands schema capacity old.units earlier last
        stands = stands_at schema capacity old.units earlier [] last h

        old_is : old ≡ record { schema = schema; capacity = capacity; units = old.units; history = earlier ++ last ∷ [] }
        old_is = λ i. record { schema = session.schema_is i; capacity = session.capacity_is i; units = old.units; history = is i }

        by : (o : Option StatementEffect) → effect_of_unit schema capacity (state_now before) u last.statement ≡ o → HasMade before u last.statement old
        by None e = let h : None ≡ Some last.answer = ap (option_map (λ (x : StatementEffect). x.answer)) (sym e) ∙ stands.answer in absurd (cc (h))
        by (Some outcome) e =
            let answer : outcome.answer ≡ last.answer = same_answer (effect_of_unit schema capacity (state_now before) u last.statement) outcome last.answer e stands.answer in
            record {
              outcome = outcome;
              outcome_is = e;
              new_is = old_is ∙ (λ i. record { schema = schema; capacity = capacity; units = old.units; history = earlier ++ record { ticket = stands.ticket i; unit = u; statement = last.statement; answer = sym answer i } ∷ [] });
              state_is =
                  ap state_now old_is ∙ (replays_one_more schema capacity (opening_state schema old.units) earlier last).state_is
                  ∙ ap (after_effect (state_now before) u) e;
            }

    text_left : text_of (typed before (slice_set scripts (u - 1) next)) u ≡ next.text.items
    text_left =
        let there : slice_get (slice_set scripts (u - 1) next) (u - 1) ≡ Some next = get_set scripts (u - 1) one next at in
        ap (λ (o : Option (List ℕ)). unwrap_or o []) (slice_get-map (λ (z : Script). z.text.items) (slice_set scripts (u - 1) next) (u - 1) ∙ ap (option_map (λ (z : Script). z.text.items)) there)

    texts_again : texts_in scripts ≡ slice_set (texts_in (slice_set scripts (u - 1) next)) (u - 1) (text_of (typed before (slice_set scripts (u - 1) next)) u ++ taken.1 ++ 10 ∷ [])
    texts_again =
        let whole : text_of (typed before (slice_set scripts (u - 1) next)) u ++ taken.1 ++ 10 ∷ [] ≡ one.text.items = ap (λ (x : List ℕ). x ++ taken.1 ++ 10 ∷ []) (text_left ∙ text_is) ∙ sym taken.3.text_is in
        let here : slice_get (texts_in scripts) (u - 1) ≡ Some one.text.items = slice_get-map (λ (z : Script). z.text.items) scripts (u - 1) ∙ ap (option_map (λ (z : Script). z.text.items)) at in
        sym (
        ap (slice_set (texts_in (slice_set scripts (u - 1) next)) (u - 1)) whole
        ∙ ap (λ (ts : List (List ℕ)). slice_set ts (u - 1) one.text.items) (texts_set scripts (u - 1) next)
        ∙ set_twice (texts_in scripts) (u - 1) next.text.items one.text.items
        ∙ set_as_it_was (texts_in scripts) (u - 1) one.text.items here
        )

    room_again : length (text_of (typed before (slice_set scripts (u - 1) next)) u) + length taken.1 < SCRIPT_BYTES
    room_again =
        let own : IsOwnScript schema one (entries_of u old.history) = subst (λ (n : ℕ). IsOwnScript schema one (entries_of n old.history)) number (session.each (u - 1) one at) in
        let left : length (text_of (typed before (slice_set scripts (u - 1) next)) u) ≡ length taken.0 = ap length (text_left ∙ text_is) in
        let whole : length one.text.items ≡ length (taken.0 ++ taken.1 ++ 10 ∷ []) = ap length taken.3.text_is in
        let long = length-append (taken.0 ++ taken.1) (10 ∷ []) in
        let front = length-append taken.0 taken.1 in
        omega (arith, own.is_script.short, left, whole, long, front)

    pub typed_again : IsHistoryOf schema capacity old.units (earlier ++ last ∷ []) → HasTyped (typed before (slice_set scripts (u - 1) next)) u taken.1 (typed old scripts)
    typed_again h = record {
      statement = last.statement;
      says = taken.3.says;
      made = made_once h;
      of_unit = subst (λ (n : ℕ). u - 1 < n) (sym (length-map (slice_set scripts (u - 1) next) (λ (x : Script). x.text.items) ∙ length-set scripts (u - 1) next)) (there scripts (u - 1) one at);
      room = room_again;
      texts_are = texts_again;
    }

-- EACH ENTRY IN ITS PLACE

split_there : {X : Type 0} (xs : List X) (i : ℕ) (x : X) → slice_get xs i ≡ Some x → xs ≡ take i xs ++ x ∷ drop (suc i) xs
split_there [] i x e = absurd (cc (e))
split_there (y ∷ ys) zero x e = let h : y ≡ x = cc (e) in ap (λ (z : _). z ∷ ys) h
split_there (y ∷ ys) (suc i) x e = ap (λ (zs : List _). y ∷ zs) (split_there ys i x e)

pub stands_in : (schema : Lists) (capacity units : ℕ) (history : List Entry) (i : ℕ) (e : Entry) → slice_get history i ≡ Some e → BeginsHistory schema capacity units history → Stands schema capacity units (take i history) e
stands_in schema capacity units history i e at b =
    stands_at schema capacity units (take i history) (drop (suc i) history ++ b.0) e
    (subst (IsHistoryOf schema capacity units) (ap (λ (es : List Entry). es ++ b.0) (split_there history i e at) ∙ append_assoc (take i history) (e ∷ drop (suc i) history) b.0) b.1)

pub whole_history : (schema : Lists) (capacity : ℕ) (old : Making) (earlier : List Entry) (last : Entry) → old.schema ≡ schema → old.capacity ≡ capacity → old.history ≡ earlier ++ last ∷ []
    → IsHistoryOf old.schema old.capacity old.units old.history → IsHistoryOf schema capacity old.units (earlier ++ last ∷ [])
whole_history schema capacity old earlier last schema_is capacity_is is h =
    subst (IsHistoryOf schema capacity old.units) is
    (subst (λ (n : ℕ). IsHistoryOf schema n old.units old.history) capacity_is (subst (λ (s : Lists). IsHistoryOf s old.capacity old.units old.history) schema_is h))
