-- Units take turns: each turn is the events of one statement, and what turns come to.
use Rattle.std.proofs.Common.{ℕ, suc, ◌+◌, ◌-◌, ◌<◌, ◌≤◌, ◌≡◌, true, cond, List, [], ◌∷◌, ◌++◌, length, map, drop, take, get_or, Option, Some, None, inl, inr, slice_get, refl, sym, ap, ◌∙◌, subst, append_assoc, append-nil, arith}
use Rattle.std.specs.Prelude.{nat_lt, option_map}
use Rattle.std.specs.Option.{unwrap_or}
use Rattle.std.proofs.lemmas.Bool.{lt-ltb}
use Rattle.std.proofs.lemmas.List.{map-append, take_more, nil_from_length}
use Rattle.std.proofs.lemmas.Option.{same_Some}
use Rattle.dbtg_schema.specs.Lists.{Lists}
use Rattle.dbtg_schema.specs.Sound.{IsSound}
use Rattle.dbtg_unit.specs.declared.moves.Move.{Move}
use Rattle.dbtg_unit.specs.declared.moves.Move.TheVariants.{Step}
use Rattle.dbtg_unit.specs.declared.moves.Stepped.TheVariants.{Moved}
use Rattle.dbtg_unit.specs.declared.statement.Statement.{Statement}
use Rattle.dbtg_unit.specs.declared.unit.Entry.{Entry}
use Rattle.dbtg_unit.proofs.Public.{opening_is_legal}
use Rattle.dbtg_step.specs.declared.parts.Parts.{Parts}
use Rattle.dbtg_step.specs.declared.parts.UnitState.{UnitState as CoreUnit}
use Rattle.dbtg_step.specs.declared.results.Run.{Run}
use Rattle.dbtg_step.specs.declared.taking_turns.Noted.{Noted}
use Rattle.dbtg_step.specs.Machine.SequentialDatabase.{SequentialDatabase, unit_at, with_unit_at}
use Rattle.dbtg_step.specs.Machine.Machine.{HistoryEntry, SequentialState, State, UnitState}
use Rattle.dbtg_step.specs.Inside.Step.{IfMoved}
use Rattle.dbtg_step.specs.Machine.Step.{MovedTo, run, state_after, step, transition}
use Rattle.dbtg_step.specs.Machine.Network.{network}
use Rattle.dbtg_step.specs.Machine.Headline.{entry_of, machine_after, machine_of, opening_of, units_from}
use Rattle.dbtg_step.specs.Laws.{scripts_fit}
use Rattle.dbtg_step.specs.Core.Parts.{CoreParts, CoreState, machine, state_from, unit_state_of}
use Rattle.dbtg_step.specs.Inside.Parts.{core_of, state_of}
use Rattle.dbtg_step.specs.Inside.Events.{IsStepped, IsWell, opening_for}
use Rattle.dbtg_step.specs.Core.Runs.{IsHandedOut}
use Rattle.dbtg_step.specs.Core.Turns.{AllBetween, AreEvents, AreTurns, IsBefore, IsRunByTurns, IsTurnOf, left_of, made_turns}
use Rattle.dbtg_step.specs.Inside.Turns.{HaveTurned, IsDone, IsNoted, NotesMore, TurnsLead, lefts_of, turns_ahead}
use Rattle.dbtg_step.proofs.TheCore.Alone.{OneStep, StepsAlone, Unticketed, one_step}
use Rattle.dbtg_step.proofs.TheCore.EventsShown.{found}
use Rattle.dbtg_step.proofs.Runs.Headlines.{machine_is_opening, run_is_sequential}
use Rattle.dbtg_step.proofs.Network.NetworkFacts.{network_is_sequential}
use Rattle.dbtg_step.proofs.TheCore.QuitShown.{stepped_well}
use Rattle.dbtg_step.proofs.TheCore.RunsShown.{handed_sequential, history_handed}
use Rattle.dbtg_step.proofs.Runs.Serials.{run_append}
use Rattle.dbtg_step.proofs.EachEvent.UnitLists.{map_at, map_set, set_again, set_at, set_found, set_same}
use Rattle.dbtg_step.proofs.TheCore.Work.{IsAlone, parts_stay}

module _ (D : SequentialDatabase) (opening : SequentialState D) where
  -- MOVES

  -- one event more
  pub events_more : (u : ℕ) (s t r : State D) (ms : List Move) → AreEvents D opening u s ms t → step D opening t u ≡ MovedTo r → AreEvents D opening u s (ms ++ Step u ∷ []) r
  unfolding AreEvents
  events_more u s t r [] e f = (r, refl, subst (λ x. step D opening x u ≡ MovedTo r) e f, refl)
  events_more u s t r (m ∷ ms) e f = (e.0, e.1, e.2, events_more u e.0 t r ms e.3 f)

  events_run : (u : ℕ) (s t : State D) (ms : List Move) → AreEvents D opening u s ms t → t ≡ run D opening s ms
  unfolding AreEvents run transition state_after
  events_run u s t [] e = e
  events_run u s t (m ∷ ms) e =
      let there : state_after D s (transition D opening s m) ≡ e.0 = ap (λ k. state_after D s (transition D opening s k)) e.1 ∙ ap (state_after D s) e.2 in
      events_run u e.0 t ms e.3 ∙ ap (λ x. run D opening x ms) (sym there)

  turn_run : (u : ℕ) (xs : List D.Statement) (s t : State D) (ms : List Move) → IsTurnOf D opening u xs s ms t → t ≡ run D opening s ms
  unfolding run
  turn_run u [] s t ms e = e.1 ∙ ap (run D opening s) (sym e.0)
  turn_run u (x ∷ xs) s t ms e = events_run u s t ms e.0

  -- turns are a run of their moves
  pub turns_run : (us : List ℕ) (s t : State D) (ms : List Move) → AreTurns D opening us s ms t → t ≡ run D opening s ms
  unfolding AreTurns run
  turns_run [] s t ms e = e.1 ∙ ap (run D opening s) (sym e.0)
  turns_run (u ∷ us) s t ms e =
      turns_run us e.2 t e.1 e.5 ∙ ap (λ x. run D opening x e.1) (turn_run u (left_of D (unit_at s.units u)) s e.2 e.0 e.4)
      ∙ sym (run_append D opening s e.0 e.1) ∙ ap (run D opening s) (sym e.3)

  pub turns_append : (us vs : List ℕ) (s t r : State D) (ms ns : List Move) → AreTurns D opening us s ms t → AreTurns D opening vs t ns r → AreTurns D opening (us ++ vs) s (ms ++ ns) r
  unfolding AreTurns
  turns_append [] vs s t r ms ns e f = subst (λ x. AreTurns D opening vs x (ms ++ ns) r) e.1 (subst (λ ks. AreTurns D opening vs t (ks ++ ns) r) (sym e.0) f)
  turns_append (u ∷ us) vs s t r ms ns e f = (e.0, e.1 ++ ns, e.2, ap (λ ks. ks ++ ns) e.3 ∙ append_assoc e.0 e.1 ns, e.4, turns_append us vs e.2 t r e.1 ns e.5 f)

  -- ONE TURN

  -- a unit that makes its next statement goes on with it: it draws one ticket at most
  unfoldable pub more_alone : (u n : ℕ) (first s t : State D) (before : UnitState D) (a : StepsAlone D opening first u before s) → OneStep D opening s u a.new t → length before.remaining ≤ suc n → (Unticketed D a.new.progress → n < length a.new.remaining) → StepsAlone D opening first u before t
  more_alone u n first s t before a b few begun = record {
    new = b.alone.new;
    units = b.alone.units ∙ ap (λ us. with_unit_at us u b.alone.new) a.units ∙ set_again first.units u a.new b.alone.new;
    drawn = elim a.drawn [
      | inl p ↦ elim b.alone.drawn [
        | inl q ↦ inl (q.0 ∙ p.0, q.1 ∙ p.1)
        | inr d ↦ inr (record { x = d.x; xs = d.xs; before = sym p.1 ∙ d.before; after = d.after; entry = d.entry; history = d.history ∙ ap (λ h. h ++ d.entry ∷ []) p.0; unit = d.unit; statement = d.statement })
      ]
      | inr d ↦ elim b.alone.drawn [
        | inl q ↦ inr (record { x = d.x; xs = d.xs; before = d.before; after = q.1 ∙ d.after; entry = d.entry; history = q.0 ∙ d.history; unit = d.unit; statement = d.statement })
        | inr d2 ↦
            let from = b.drew d2 in
            let high = begun from in
            let was = ap length d.before in
            let is = ap length d.after in
            absurd (omega (arith, few, high, was, is))
      ]
    ];
  }

  -- a unit that has no statement left, or does not exist, has no turn
  pub no_turn : (u : ℕ) (s : State D) (more : List ℕ) → unwrap_or (unit_at (lefts_of D s) u) 0 ≡ 0 → turns_ahead D s (u ∷ more) ≡ turns_ahead D s more
  unfolding made_turns
  no_turn u s more e = ap (λ k. map (λ (h : HistoryEntry D). h.unit) s.history ++ cond (nat_lt 0 k) (u ∷ made_turns (with_unit_at (lefts_of D s) u (unwrap_or (unit_at (lefts_of D s) u) 0 - 1)) more) (made_turns (lefts_of D s) more)) e

  module _ (u n : ℕ) (first t : State D) (before : UnitState D) (at : unit_at first.units u ≡ Some before) (all : length before.remaining ≡ suc n) (a : StepsAlone D opening first u before t) (done : IsDone D n a.new) where
    left_at : unwrap_or (unit_at (lefts_of D first) u) 0 ≡ suc n
    left_at = ap (λ o. unwrap_or o 0) (map_at (λ (x : UnitState D). length x.remaining) first.units u ∙ ap (option_map (λ (x : UnitState D). length x.remaining)) at) ∙ all

    turned_ahead : (xs : List D.Statement) (entry : HistoryEntry D) → a.new.remaining ≡ xs → length xs ≡ n → t.history ≡ first.history ++ entry ∷ [] → entry.unit ≡ u → (more : List ℕ) → turns_ahead D first (u ∷ more) ≡ turns_ahead D t more
    unfolding made_turns
    turned_ahead xs entry after few history unit more =
        let left : lefts_of D t ≡ with_unit_at (lefts_of D first) u n = ap (map (λ (x : UnitState D). length x.remaining)) a.units ∙ map_set (λ (x : UnitState D). length x.remaining) first.units u a.new ∙ ap (with_unit_at (lefts_of D first) u) (ap length after ∙ few) in
        let own = map (λ (h : HistoryEntry D). h.unit) first.history in
        let drawn : map (λ (h : HistoryEntry D). h.unit) t.history ≡ own ++ u ∷ [] = ap (map (λ (h : HistoryEntry D). h.unit)) history ∙ map-append (λ (h : HistoryEntry D). h.unit) first.history (entry ∷ []) ∙ ap (λ k. own ++ k ∷ []) unit in
        let many : nat_lt 0 (unwrap_or (unit_at (lefts_of D first) u) 0) ≡ true = lt-ltb 0 _ (let all = left_at in omega (arith, all)) in
        let less : unwrap_or (unit_at (lefts_of D first) u) 0 - 1 ≡ n = (let all = left_at in omega (arith, all)) in
        (λ i. own ++ cond (many i) (u ∷ made_turns (with_unit_at (lefts_of D first) u (less i)) more) (made_turns (lefts_of D first) more))
        ∙ sym (append_assoc own (u ∷ []) (made_turns (with_unit_at (lefts_of D first) u n) more))
        ∙ (λ i. sym drawn i ++ made_turns (sym left i) more)

    -- the statement has been made, and its entry is there
    pub record HasMadeNext : Type 0 where
      pub x : D.Statement
      pub xs : List D.Statement
      pub before_is : before.remaining ≡ x ∷ xs
      pub after : IsBefore D u xs t
      pub ahead : (more : List ℕ) → turns_ahead D first (u ∷ more) ≡ turns_ahead D t more

    pub made_next : HasMadeNext
    made_next = elim a.drawn [
      | inl p ↦ (let few = done.few in let same = ap length p.1 in absurd (omega (arith, few, same, all)))
      | inr d ↦
          let count : length d.xs ≡ n = (let c = ap length d.before in omega (arith, c, all)) in
          record {
            x = d.x;
            xs = d.xs;
            before_is = d.before;
            after = record { state = a.new; found = subst (λ us. unit_at us u ≡ Some a.new) (sym a.units) (set_at first.units u before a.new at); between = done.between; left = d.after };
            ahead = turned_ahead d.xs d.entry d.after count d.history d.unit;
          }
    ]

-- WHAT IS NOTED

pub notes_none : (noted : Noted) → NotesMore noted noted []
notes_none noted = record { limit = refl; noted = λ before n. subst (λ ms. IsNoted noted ms) (sym (append-nil before)) n }

pub notes_append : (a b c : Noted) (ms ns : List Move) → NotesMore a b ms → NotesMore b c ns → NotesMore a c (ms ++ ns)
notes_append a b c ms ns p q = record { limit = q.limit ∙ p.limit; noted = λ before n. subst (λ ms. IsNoted c ms) (append_assoc before ms ns) (q.noted (before ++ ms) (p.noted before n)) }

-- THE PARTS IN A TURN

-- unit u is on its way from old to now, through a statement after which it has n left
pub record OnTheWay (schema : Lists) (capacity u n : ℕ) (old now : Parts) (before after : Noted) : Type 0 where
  pub well : IsWell schema capacity now
  pub count : length now.runners.items ≡ length old.runners.items
  pub alone : IsAlone schema capacity u n (state_of schema capacity now)
  pub first : UnitState (network schema capacity)
  pub at : unit_at (state_of schema capacity old).units u ≡ Some first
  pub left : length first.remaining ≡ suc n
  pub steps : StepsAlone (network schema capacity) (opening_for schema capacity old) (state_of schema capacity old) u first (state_of schema capacity now)
  pub moves : List Move
  pub events : AreEvents (network schema capacity) (opening_for schema capacity old) u (state_of schema capacity old) moves (state_of schema capacity now)
  pub noted : NotesMore before after moves

module _ (schema : Lists) (capacity u n : ℕ) where
  -- before the first step
  pub sets_out : (old : Parts) (noted : Noted) (r : CoreUnit) → IsWell schema capacity old → AllBetween (network schema capacity) (state_of schema capacity old) → 0 < u → slice_get old.runners.items (u - 1) ≡ Some r →
      length (unit_state_of schema capacity r).remaining ≡ suc n → OnTheWay schema capacity u n old old noted noted
  unfolding AreEvents
  sets_out old noted r well between numbered at left =
      let here = found schema capacity u old r well numbered at in
      let first = unit_state_of schema capacity r in
      record {
        well = well;
        count = refl;
        alone = record {
          work = record { state = first; found = here; others = λ w other m e. between w other e; in_turn = well.in_turn };
          few = omega (arith, left);
          begun = λ w e t. (let b = between u first here in absurd (cc (b, e)));
        };
        first = first;
        at = here;
        left = left;
        steps = record { new = first; units = sym (set_same (state_of schema capacity old).units u first here); drawn = inl (refl, refl) };
        moves = [];
        events = refl;
        noted = notes_none noted;
      }

  module _ (old now : Parts) (before after : Noted) (way : OnTheWay schema capacity u n old now before after) where
    new_found : unit_at (state_of schema capacity now).units u ≡ Some way.steps.new
    new_found = subst (λ us. unit_at us u ≡ Some way.steps.new) (sym way.steps.units) (set_at (state_of schema capacity old).units u way.first way.steps.new way.at)

    same : way.alone.work.state ≡ way.steps.new
    same = same_Some way.alone.work.state way.steps.new (sym way.alone.work.found ∙ new_found)

    -- one step more
    module _ (r : CoreUnit) (numbered : 0 < u) (at : slice_get now.runners.items (u - 1) ≡ Some r) (busy : IsDone (network schema capacity) n (unit_state_of schema capacity r) → ⊥) (new : Parts) (stepped : IsStepped schema capacity u Moved now new) where
      moved : step (network schema capacity) (opening_for schema capacity old) (state_of schema capacity now) u ≡ MovedTo (state_of schema capacity new)
      moved = subst (λ k. step (network schema capacity) (opening_of schema capacity k) (state_of schema capacity now) u ≡ MovedTo (state_of schema capacity new)) way.count stepped.tells

      one : OneStep (network schema capacity) (opening_for schema capacity old) (state_of schema capacity now) u way.steps.new (state_of schema capacity new)
      unfolding IfMoved
      one = subst (λ q. IfMoved (network schema capacity) q (OneStep (network schema capacity) (opening_for schema capacity old) (state_of schema capacity now) u way.steps.new)) moved (one_step (network schema capacity) (opening_for schema capacity old) (state_of schema capacity now) u way.steps.new new_found)

      well_after : IsWell schema capacity new
      well_after = stepped_well schema capacity u now new way.well Moved stepped

      pub goes_on : (then : Noted) → NotesMore after then (Step u ∷ []) → OnTheWay schema capacity u n old new before then
      unfolding more_alone one
      goes_on then more =
          let few : length way.first.remaining ≤ suc n = (let l = way.left in omega (arith, l)) in
          record {
            well = well_after;
            count = stepped.count ∙ way.count;
            alone = parts_stay schema capacity n u now way.well way.alone r numbered at busy new stepped;
            first = way.first;
            at = way.at;
            left = way.left;
            steps = more_alone (network schema capacity) (opening_for schema capacity old) u n (state_of schema capacity old) (state_of schema capacity now) (state_of schema capacity new) way.first way.steps one few
                (λ q. subst (λ (x : UnitState (network schema capacity)). n < length x.remaining) same (way.alone.begun q.0 (ap (λ (x : UnitState (network schema capacity)). x.progress) same ∙ q.1) q.2));
            moves = way.moves ++ Step u ∷ [];
            events = events_more (network schema capacity) (opening_for schema capacity old) u (state_of schema capacity old) (state_of schema capacity now) (state_of schema capacity new) way.moves way.events moved;
            noted = notes_append before after then way.moves (Step u ∷ []) way.noted more;
          }

    -- the unit is between statements again
    module _ (r : CoreUnit) (numbered : 0 < u) (at : slice_get now.runners.items (u - 1) ≡ Some r) (done : IsDone (network schema capacity) n (unit_state_of schema capacity r)) where
      is : unit_state_of schema capacity r ≡ way.steps.new
      is = same_Some _ way.steps.new (sym (found schema capacity u now r way.well numbered at) ∙ new_found)

      all_between : AllBetween (network schema capacity) (state_of schema capacity now)
      all_between w other e = elim (set_found (state_of schema capacity old).units u w way.steps.new other (subst (λ us. unit_at us w ≡ Some other) way.steps.units e)) [
        | inl p ↦ ap (λ (x : UnitState (network schema capacity)). x.progress) (sym p.1 ∙ sym is) ∙ done.between
        | inr p ↦ way.alone.work.others w other p.0 e
      ]

      pub arrives : HaveTurned (core_of schema capacity old) (u ∷ []) (core_of schema capacity now) before after
      unfolding AreTurns
      arrives =
          let next = made_next (network schema capacity) (opening_for schema capacity old) u n (state_of schema capacity old) (state_of schema capacity now) way.first way.at way.left way.steps (subst (IsDone (network schema capacity) n) is done) in
          record {
            moves = way.moves ++ [];
            lead = record {
              reached = state_of schema capacity now;
              is = λ i. record { schema = schema; capacity = capacity; opening = opening_of schema capacity (way.count i); state = state_of schema capacity now };
              between = all_between;
              turns_are = (way.moves, [], state_of schema capacity now, refl, subst (λ xs. IsTurnOf (network schema capacity) (opening_for schema capacity old) u xs (state_of schema capacity old) way.moves (state_of schema capacity now)) (sym (ap (left_of (network schema capacity)) way.at ∙ next.before_is)) (way.events, next.after), (refl, refl));
              in_turn = next.ahead;
            };
            noted = subst (NotesMore before after) (sym (append-nil way.moves)) way.noted;
          }

  -- a unit that is not there has nothing left, and one whose script is at its end neither
  pub not_there : (old : Parts) → unit_at old.runners.items u ≡ None → left_of (network schema capacity) (unit_at (state_of schema capacity old).units u) ≡ []
  unfolding state_from
  not_there old none = ap (left_of (network schema capacity)) (map_at (unit_state_of schema capacity) old.runners.items u ∙ ap (option_map (unit_state_of schema capacity)) none)

  pub at_its_end : (old : Parts) (r : CoreUnit) → IsWell schema capacity old → 0 < u → slice_get old.runners.items (u - 1) ≡ Some r → length (drop r.next r.script) ≡ 0 → left_of (network schema capacity) (unit_at (state_of schema capacity old).units u) ≡ []
  at_its_end old r well numbered at none = ap (left_of (network schema capacity)) (found schema capacity u old r well numbered at) ∙ nil_from_length (drop r.next r.script) none

  -- no turn
  pub stays : (old : Parts) (noted : Noted) → AllBetween (network schema capacity) (state_of schema capacity old) → left_of (network schema capacity) (unit_at (state_of schema capacity old).units u) ≡ [] → HaveTurned (core_of schema capacity old) (u ∷ []) (core_of schema capacity old) noted noted
  unfolding AreTurns
  stays old noted between none =
      let s = state_of schema capacity old in
      record {
        moves = [];
        noted = notes_none noted;
        lead = record {
          reached = s;
          is = refl;
          between = between;
          turns_are = ([], [], s, refl, subst (λ xs. IsTurnOf (network schema capacity) (opening_for schema capacity old) u xs s [] s) (sym none) (refl, refl), (refl, refl));
          in_turn = λ more. no_turn (network schema capacity) (opening_for schema capacity old) u s more (ap (λ o. unwrap_or o 0) (map_at (λ (x : UnitState (network schema capacity)). length x.remaining) s.units u) ∙ nothing (unit_at s.units u) none);
        };
      }
    where
      nothing : (o : Option (UnitState (network schema capacity))) → left_of (network schema capacity) o ≡ [] → unwrap_or (option_map (λ (x : UnitState (network schema capacity)). length x.remaining) o) 0 ≡ 0
      nothing None e = refl
      nothing (Some x) e = ap length e

-- ONE TURN AFTER ANOTHER

-- where each unit is between statements
abbrev pub IsBetween : CoreState → Type 0
IsBetween c = AllBetween (network c.schema c.capacity) c.state

pub led_nowhere : (c : CoreState) → IsBetween c → TurnsLead c [] [] c
unfolding AreTurns
led_nowhere c between = record { reached = c.state; is = refl; between = between; turns_are = (refl, refl); in_turn = λ more. refl }

pub before_turns : (c : CoreState) (noted : Noted) → IsBetween c → HaveTurned c [] c noted noted
before_turns c noted between = record { moves = []; lead = led_nowhere c between; noted = notes_none noted }

pub between_led : (us : List ℕ) (ms : List Move) (c d : CoreState) → TurnsLead c us ms d → IsBetween d
between_led us ms c d p = subst IsBetween (sym p.is) p.between

pub between_after : (us : List ℕ) (c d : CoreState) (a b : Noted) → HaveTurned c us d a b → IsBetween d
between_after us c d a b p = between_led us p.moves c d p.lead

pub led_more : (us vs : List ℕ) (ms ns : List Move) (c d e : CoreState) → TurnsLead c us ms d → TurnsLead d vs ns e → TurnsLead c (us ++ vs) (ms ++ ns) e
led_more us vs ms ns c d e p more =
    let q = subst (λ (x : CoreState). TurnsLead x vs ns e) p.is more in
    record {
      reached = q.reached;
      is = q.is;
      between = q.between;
      turns_are = turns_append (network c.schema c.capacity) c.opening us vs c.state p.reached q.reached ms ns p.turns_are q.turns_are;
      in_turn = λ ks. ap (turns_ahead (network c.schema c.capacity) c.state) (append_assoc us vs ks) ∙ p.in_turn (vs ++ ks) ∙ q.in_turn ks;
    }

pub turned_more : (us vs : List ℕ) (c d e : CoreState) (a b k : Noted) → HaveTurned c us d a b → HaveTurned d vs e b k → HaveTurned c (us ++ vs) e a k
turned_more us vs c d e a b k p q = record {
  moves = p.moves ++ q.moves;
  lead = led_more us vs p.moves q.moves c d e p.lead q.lead;
  noted = notes_append a b k p.moves q.moves p.noted q.noted;
}

pub turned_next : (turns : List ℕ) (i u : ℕ) → i < length turns → (c d e : CoreState) (a b k : Noted) → HaveTurned c (take i turns) d a b → HaveTurned d (get_or turns i u ∷ []) e b k → HaveTurned c (take (i + 1) turns) e a k
turned_next turns i u below c d e a b k p q = subst (λ us. HaveTurned c us e a k) (sym (take_more turns i u below)) (turned_more (take i turns) (get_or turns i u ∷ []) c d e a b k p q)

-- THE WHOLE RUN

module _ (schema : Lists) (capacity : ℕ) (scripts : List (List Statement)) (sound : IsSound schema) (fit : scripts_fit schema scripts ≡ true) where
  -- the core before its first turn
  abbrev pub opened : CoreState
  opened = record { schema = schema; capacity = capacity; opening = opening_of schema capacity (length scripts); state = machine_of schema capacity scripts }

  -- before the first turn every unit is between statements
  pub opens_between : (c : CoreState) → c ≡ opened → IsBetween c
  opens_between c is = subst IsBetween (sym is) (λ u state e. ((machine_is_opening schema capacity scripts (opening_is_legal schema capacity (length scripts)) fit).idle u state e).0)

  lefts_open : (n : ℕ) (all : List (List Statement)) → map (λ (x : UnitState (network schema capacity)). length x.remaining) (units_from schema capacity n all) ≡ map length all
  lefts_open n [] = refl
  lefts_open n (script ∷ all) = ap (λ ns. length script ∷ ns) (lefts_open (suc n) all)

  units_noted : (es : List (HistoryEntry (network schema capacity))) → map (λ (e : Entry). e.unit) (map entry_of es) ≡ map (λ (e : HistoryEntry (network schema capacity)). e.unit) es
  units_noted [] = refl
  units_noted (e ∷ es) = ap (λ ns. e.unit ∷ ns) (units_noted es)

  module _ (turns : List ℕ) (moves : List Move) (moved : CoreParts) (turned : TurnsLead opened turns moves (machine moved)) (given : Run) (handed : IsHandedOut moved [] given) where
    abbrev last : State (network schema capacity)
    last = machine_after schema capacity scripts moves

    last_is : turned.reached ≡ last
    unfolding machine_after
    last_is = turns_run (network schema capacity) (opening_of schema capacity (length scripts)) turns (machine_of schema capacity scripts) turned.reached moves turned.turns_are

    core_is : machine moved ≡ record { schema = schema; capacity = capacity; opening = opening_of schema capacity (length scripts); state = last }
    core_is = turned.is ∙ (λ i. record { schema = schema; capacity = capacity; opening = opening_of schema capacity (length scripts); state = last_is i })

    in_turn : map (λ (e : HistoryEntry (network schema capacity)). e.unit) last.history ≡ made_turns (map length scripts) turns
    unfolding made_turns
    in_turn =
        ap (λ (s : State (network schema capacity)). map (λ (e : HistoryEntry (network schema capacity)). e.unit) s.history) (sym last_is)
        ∙ sym (append-nil _) ∙ sym (turned.in_turn [])
        ∙ ap (made_turns (lefts_of (network schema capacity) (machine_of schema capacity scripts))) (append-nil turns)
        ∙ ap (λ ns. made_turns ns turns) (lefts_open 1 scripts)

    pub turns_handed : IsRunByTurns schema capacity scripts turns moves given
    unfolding machine_after
    turns_handed =
        let law = run_is_sequential schema capacity scripts (opening_is_legal schema capacity (length scripts)) fit (network_is_sequential schema capacity sound) moves in
        let history = history_handed schema capacity scripts moved last core_is law [] given handed in
        record {
          results_are = handed.results_are;
          moves_are = subst (AreTurns (network schema capacity) (opening_of schema capacity (length scripts)) turns (machine_of schema capacity scripts) moves) last_is turned.turns_are;
          between = subst (AllBetween (network schema capacity)) last_is turned.between;
          history_is = history;
          in_turn = ap (map (λ (e : Entry). e.unit)) history ∙ units_noted last.history ∙ in_turn;
          sequential = handed_sequential schema capacity scripts moved last core_is law [] given handed;
        }
