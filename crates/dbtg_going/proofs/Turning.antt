-- What turns lead to, and how members follow them.
use Rattle.std.proofs.Common.{◌≡◌, ◌≢◌, ℕ, zero, suc, ◌+◌, ◌-◌, ◌<◌, ◌≤◌, Bool, true, false, List, [], ◌∷◌, ◌++◌, length, Option, Some, None, ◌⊎◌, inl, inr, refl, ap, subst, sym, ◌∙◌, slice_get, slice_set, arith}
use Rattle.std.specs.Prelude.{Err, IfOk, Ok, OnOk, Result, slice_index_or, if◌then◌else◌, nat_lt, option_and_then, replicate}
use Rattle.std.proofs.lemmas.List.{length-append, replicate-append-replicate}
use Rattle.dbtg_schema.specs.Lists.{Lists}
use Rattle.dbtg_unit.specs.declared.statement.Statement.{Statement}
use Rattle.dbtg_unit.specs.declared.unit.Entry.{Entry}
use Rattle.dbtg_unit.specs.Database.Statements.Fits.{fits}
use Rattle.dbtg_unit.specs.Database.Laws.Replay.{entries_of, opening_state, effect_of_unit, replay}
use Rattle.dbtg_unit.proofs.Public.{entries_mine, entries_other}
use Rattle.dbtg_program.specs.declared.going.Due as code
use Rattle.dbtg_program.specs.declared.going.Due.TheVariants as code_due
use Rattle.dbtg_program.specs.declared.program.Program.{Program}
use Rattle.dbtg_program.specs.States.{ProgramState, beginning}
use Rattle.dbtg_program.specs.Going.{Due, GoOn, IsDue, after_due, due, next, state_after, told}
use Rattle.dbtg_program.specs.Views.{Stands, view_due}
use Rattle.dbtg_step.specs.Core.Whole.{HasMade, Making}
use Rattle.dbtg_step.specs.Machine.SequentialDatabase.{unit_at, with_unit_at}
use Rattle.dbtg_step.proofs.Public.{length_with, set_at, set_elsewhere}
use Rattle.dbtg_going.specs.declared.member.Going.{Going}
use Rattle.dbtg_going.specs.declared.member.Member.{Member}
use Rattle.dbtg_going.specs.Goings.{AreEach, IsAt, IsGoing, comes_of}
use Rattle.dbtg_going.specs.Turns.{after_turn, after_turns, comes, due_after, made, statement_due, statement_of, to_the_end, with_effect_of}
use Rattle.dbtg_unit.specs.declared.limits.TheConstants.{MOST_STATEMENTS}
use Rattle.dbtg_going.specs.Inside.Members.{AreAt, HaveTurned, IsUnderWay}

same_or_not : (m n : ℕ) → (m ≡ n) ⊎ (m ≢ n)
same_or_not zero zero = inl refl
same_or_not zero (suc n) = inr (omega arith)
same_or_not (suc m) zero = inr (omega arith)
same_or_not (suc m) (suc n) = elim (same_or_not m n) [ inl p ↦ inl (ap suc p) | inr p ↦ inr (λ q. p (cc)) ]

-- TURNS ONE AFTER ANOTHER

pub turns_behind : (schema : Lists) (capacity : ℕ) (programs : List Program) (history : List Entry) (us vs : List ℕ)
    → after_turns schema capacity programs history (us ++ vs) ≡ after_turns schema capacity programs (after_turns schema capacity programs history us) vs
unfolding after_turns
turns_behind schema capacity programs history [] vs = refl
turns_behind schema capacity programs history (u ∷ us) vs = turns_behind schema capacity programs (after_turn schema capacity programs history u) us vs

no_turns : (schema : Lists) (capacity : ℕ) (programs : List Program) (history : List Entry) → history ≡ after_turns schema capacity programs history []
unfolding after_turns
no_turns schema capacity programs history = refl

one_turn : (schema : Lists) (capacity : ℕ) (programs : List Program) (history : List Entry) (u : ℕ) → after_turn schema capacity programs history u ≡ after_turns schema capacity programs history (u ∷ [])
unfolding after_turns
one_turn schema capacity programs history u = refl

-- if a turn makes nothing, more of them make nothing
stays : (schema : Lists) (capacity : ℕ) (programs : List Program) (history : List Entry) (u n : ℕ) → after_turns schema capacity programs history (u ∷ []) ≡ history
    → after_turns schema capacity programs history (replicate n u) ≡ history
unfolding after_turns
stays schema capacity programs history u zero h = refl
stays schema capacity programs history u (suc n) h = ap (λ es. after_turns schema capacity programs es (replicate n u)) h ∙ stays schema capacity programs history u n h

module _ (schema : Lists) (programs : List Program) where
  abbrev pub Turned : Making → List ℕ → Making → List Member → Type 0
  Turned = HaveTurned schema programs

  pub not_turned : (m : Making) (members : List Member) → IsUnderWay schema programs m members → Turned m [] m members
  not_turned m members w = record { under_way = w; database = λ i. record m { history = no_turns schema m.capacity programs m.history i } }

  pub turned_on : (old mid new : Making) (us vs : List ℕ) (before after : List Member) → Turned old us mid before → Turned mid vs new after → Turned old (us ++ vs) new after
  turned_on old mid new us vs before after a b = record {
    under_way = b.under_way;
    database = b.database ∙ ap (λ (m : Making). record m { history = after_turns schema m.capacity programs m.history vs }) a.database
        ∙ (λ i. record old { history = sym (turns_behind schema old.capacity programs old.history us vs) i });
  }

  -- the same for an equal list of turns
  pub turned_to : (old new : Making) (us vs : List ℕ) (members : List Member) → us ≡ vs → Turned old us new members → Turned old vs new members
  turned_to old new us vs members e t = subst (λ ts. Turned old ts new members) e t

  -- a unit's turns one after another
  pub turned_again : (old mid new : Making) (u n : ℕ) (before after : List Member) → Turned old (replicate n u) mid before → Turned mid (u ∷ []) new after → Turned old (replicate (n + 1) u) new after
  turned_again old mid new u n before after a b =
      turned_to old new (replicate n u ++ u ∷ []) (replicate (n + 1) u) after (replicate-append-replicate n 1 u) (turned_on old mid new (replicate n u) (u ∷ []) before after a b)

  -- after a turn that makes nothing, the remaining turns of the unit make nothing
  pub turned_out : (old mid new : Making) (u n most : ℕ) (before after : List Member) → n < most → Turned old (replicate n u) mid before → Turned mid (u ∷ []) new after → new ≡ mid → Turned old (replicate most u) new after
  turned_out old mid new u n most before after few a b same =
      let none : after_turns schema mid.capacity programs mid.history (u ∷ []) ≡ mid.history = ap (λ (m : Making). m.history) (sym b.database ∙ same) in
      let rest : Turned mid (replicate (most - n) u) new after = record {
        under_way = b.under_way;
        database = same ∙ (λ i. record mid { history = sym (stays schema mid.capacity programs mid.history u (most - n) none) i });
      } in
      let sum : n + (most - n) ≡ most = omega arith in
      turned_to old new (replicate n u ++ replicate (most - n) u) (replicate most u) after (replicate-append-replicate n (most - n) u ∙ ap (λ k. replicate k u) sum)
      (turned_on old mid new (replicate n u) (replicate (most - n) u) before after a rest)

  pub not_begun : (m : Making) (members : List Member) (u : ℕ) → IsUnderWay schema programs m members → Turned m (replicate 0 u) m members
  not_begun m members u w = not_turned m members w

  pub at_the_end : (old new : Making) (u n : ℕ) (members : List Member) → n ≡ MOST_STATEMENTS → Turned old (replicate n u) new members → Turned old (to_the_end u) new members
  unfolding to_the_end
  at_the_end old new u n members e t = subst (λ k. Turned old (replicate k u) new members) e t

-- A PROGRAM AND ITS ENTRIES

-- the entries with one more, for the statement that is due
goes_on : (schema : Lists) (program : Program) (state : ProgramState) (es : List Entry) (e : Entry) → GoOn schema program state es → IsDue (next schema program (state_after schema program state es)) e.statement
    → GoOn schema program state (es ++ e ∷ [])
goes_on schema program state [] e g d = (d, tt)
goes_on schema program state (f ∷ es) e g d = (g.0, goes_on schema program (after_due program state (next schema program state) f) es e g.1 d)

pub state_behind : (schema : Lists) (program : Program) (state : ProgramState) (es : List Entry) (e : Entry)
    → state_after schema program state (es ++ e ∷ []) ≡ after_due program (state_after schema program state es) (next schema program (state_after schema program state es)) e
state_behind schema program state [] e = refl
state_behind schema program state (f ∷ es) e = state_behind schema program (after_due program state (next schema program state) f) es e

awaited : (schema : Lists) (program : Program) (es : List Entry) (g : Going) (s : Statement) → IsGoing schema program es g → g.due ≡ code_due.Statement s → next schema program (state_after schema program (beginning program) es) ≡ due g.state s
awaited schema program es g s at is = sym at.comes ∙ ap (view_due g.state) is

-- if a statement is due, the program stands at a sentence
pub stands_there : (schema : Lists) (program : Program) (es : List Entry) (g : Going) (s : Statement) → IsGoing schema program es g → g.due ≡ code_due.Statement s → g.state.at < length program.lines
stands_there schema program es g s at is = subst (Stands program g.state) is at.stands

-- a program after the entry of its statement
pub told_on : (schema : Lists) (program : Program) (es : List Entry) (e : Entry) (g : Going) (now after : ProgramState) (d : code.Due) → IsGoing schema program es g → g.due ≡ code_due.Statement e.statement
    → now ≡ told program g.state e.statement e.answer → view_due after d ≡ next schema program now → Stands program after d → IsGoing schema program (es ++ e ∷ []) (record { state = after; due = d })
told_on schema program es e g now after d at is now_is comes stands =
    let first = beginning program in
    let waits = awaited schema program es g e.statement at is in
    let state : state_after schema program first (es ++ e ∷ []) ≡ now
    = state_behind schema program first es e ∙ ap (λ (n : Due). after_due program (state_after schema program first es) n e) waits ∙ sym now_is in
    record {
      comes = comes ∙ ap (next schema program) (sym state);
      stands = stands;
      are_of = goes_on schema program first es e at.are_of (subst (λ (n : Due). IsDue n e.statement) (sym waits) refl);
    }

-- a member after this entry
pub member_told : (schema : Lists) (program : Program) (es : List Entry) (e : Entry) (m : Member) (g : Going) → IsAt schema program es m → IsGoing schema program (es ++ e ∷ []) g → IsAt schema program (es ++ e ∷ []) (record { going = g; made = m.made + 1 })
member_told schema program es e m g at on = record { made = ap (λ n. n + 1) at.made ∙ sym (length-append es (e ∷ [])); going = on }

-- a program before its first statement
pub begins : (schema : Lists) (program : Program) (g : Going) → comes_of g ≡ next schema program (beginning program) → Stands program g.state g.due → IsGoing schema program [] g
begins schema program g comes stands = record { comes = comes; stands = stands; are_of = tt }

-- THE STATEMENT OF A TURN

test_holds : {X : Type 0} (b : Bool) (o : Option X) (y : X) → (if b then o else None) ≡ Some y → (b ≡ true) × (o ≡ Some y)
test_holds true o y e = (refl, e)
test_holds false o y e = absurd cc

some_if : {X : Type 0} (b : Bool) (x y : X) → (if b then Some x else None) ≡ Some y → (b ≡ true) × (x ≡ y)
some_if true x y e = (refl, cc)
some_if false x y e = absurd cc

-- a statement that is due and that the schema has
pub is_due : (schema : Lists) (state : ProgramState) (d : code.Due) (x : Statement) → statement_due schema (view_due state d) ≡ Some x → (d ≡ code_due.Statement x) × (fits schema x ≡ true)
is_due schema state (code_due.End how) x e = absurd cc
is_due schema state (code_due.Statement s) x e =
    let found = some_if (fits schema s) s x e in
    (ap code_due.Statement found.1, subst (λ z. fits schema z ≡ true) found.1 found.0)

-- a statement that is to be made is due, is within the limit, and fits the schema
pub to_be_made : (schema : Lists) (n : ℕ) (state : ProgramState) (d : code.Due) (x : Statement) → due_after schema n (view_due state d) ≡ Some x → (d ≡ code_due.Statement x) × (nat_lt n MOST_STATEMENTS ≡ true) × (fits schema x ≡ true)
to_be_made schema n state d x e =
    let few = test_holds (nat_lt n MOST_STATEMENTS) (statement_due schema (view_due state d)) x e in
    let is = is_due schema state d x few.1 in
    (is.0, few.0, is.1)

paired : {X Y : Type 0} (xs : List X) (ys : List Y) (k : ℕ) (y : Y) → length ys ≡ length xs → slice_get ys k ≡ Some y → (x : X) × (slice_get xs k ≡ Some x)
paired [] [] k y count e = absurd cc
paired [] (z ∷ ys) k y count e = absurd (omega arith)
paired (x ∷ xs) [] k y count e = absurd (omega arith)
paired (x ∷ xs) (z ∷ ys) zero y count e = (x, refl)
paired (x ∷ xs) (z ∷ ys) (suc k) y count e = paired xs ys k y (omega arith) e

-- lists of the same length have elements with the same numbers
pub paired_at : {X Y : Type 0} (xs : List X) (ys : List Y) (u : ℕ) (y : Y) → length ys ≡ length xs → unit_at ys u ≡ Some y → (x : X) × (unit_at xs u ≡ Some x)
unfolding unit_at
paired_at xs ys zero y count e = absurd cc
paired_at xs ys (suc k) y count e = paired xs ys k y count e

none_beyond : {X : Type 0} (xs : List X) (k : ℕ) → length xs ≤ k → slice_get xs k ≡ None
none_beyond [] k h = refl
none_beyond (x ∷ xs) zero h = absurd (omega arith)
none_beyond (x ∷ xs) (suc k) h = none_beyond xs k (omega arith)

pub nobody : {X : Type 0} (xs : List X) (u : ℕ) → (u ≡ 0) ⊎ (length xs < u) → unit_at xs u ≡ None
unfolding unit_at
nobody xs zero h = refl
nobody xs (suc k) (inl e) = absurd (omega arith)
nobody xs (suc k) (inr h) = none_beyond xs k (omega arith)

-- the element at an index has the next number
pub numbered : {X : Type 0} (xs : List X) (u : ℕ) (x : X) → 0 < u → slice_get xs (u - 1) ≡ Some x → unit_at xs u ≡ Some x
unfolding unit_at
numbered xs zero x some e = absurd (omega arith)
numbered xs (suc k) x some e = let index : k ≡ suc k - 1 = omega arith in ap (slice_get xs) index ∙ e

pub written : {X : Type 0} (xs : List X) (u : ℕ) (x : X) → 0 < u → slice_set xs (u - 1) x ≡ with_unit_at xs u x
unfolding with_unit_at
written xs zero x some = absurd (omega arith)
written xs (suc k) x some = let index : suc k - 1 ≡ k = omega arith in ap (λ i. slice_set xs i x) index

there_is : {X : Type 0} (xs : List X) (k : ℕ) → k < length xs → (x : X) × (slice_get xs k ≡ Some x)
there_is [] k h = absurd (omega arith)
there_is (x ∷ xs) zero h = (x, refl)
there_is (x ∷ xs) (suc k) h = there_is xs k (omega arith)

pub numbered_one : {X : Type 0} (xs : List X) (u : ℕ) → 0 < u → u ≤ length xs → (x : X) × (unit_at xs u ≡ Some x)
unfolding unit_at
numbered_one xs zero some within = absurd (omega arith)
numbered_one xs (suc k) some within = there_is xs k (omega arith)

-- ELEMENTS BY INDEX

index_is : {X : Type 0} (xs : List X) (k : ℕ) (x d : X) → slice_get xs k ≡ Some x → slice_index_or xs k d ≡ x
index_is [] k x d e = absurd cc
index_is (y ∷ xs) zero x d e = cc
index_is (y ∷ xs) (suc k) x d e = index_is xs k x d e

-- the element with a number, by its index
pub index_at : {X : Type 0} (xs : List X) (u : ℕ) (x d : X) → unit_at xs u ≡ Some x → slice_index_or xs (u - 1) d ≡ x
unfolding unit_at
index_at xs zero x d e = absurd cc
index_at xs (suc k) x d e = let index : suc k - 1 ≡ k = omega arith in ap (λ i. slice_index_or xs i d) index ∙ index_is xs k x d e

-- the converse
pub at_index : {X : Type 0} (xs : List X) (u : ℕ) (d : X) → 0 < u → u ≤ length xs → unit_at xs u ≡ Some (slice_index_or xs (u - 1) d)
at_index xs u d some within = let x = numbered_one xs u some within in x.1 ∙ ap Some (sym (index_at xs u x.0 d x.1))

last_one : {X : Type 0} (xs : List X) (y : X) → slice_get (xs ++ y ∷ []) (length xs) ≡ Some y
last_one [] y = refl
last_one (z ∷ xs) y = last_one xs y

-- the last element
pub last_is : {X : Type 0} (all xs : List X) (y r : X) (i : ℕ) → all ≡ xs ++ y ∷ [] → i ≡ length xs → r ≡ slice_index_or all i r → r ≡ y
last_is all xs y r i are at is = is ∙ (ap (λ ys. slice_index_or ys i r) are ∙ (ap (λ k. slice_index_or (xs ++ y ∷ []) k r) at ∙ index_is (xs ++ y ∷ []) (length xs) y r (last_one xs y)))

pub on_ok : {A E P Q : Type 0} (r : Result A E) → (P → Q) → OnOk r P → OnOk r Q
on_ok (Ok x) f p = f p
on_ok (Err e) f p = p

pub if_both : {A E : Type 0} {P Q R : A → Type 0} (r : Result A E) → ((x : A) → P x → Q x → R x) → IfOk r P → IfOk r Q → IfOk r R
if_both (Ok x) f p q = f x p q
if_both (Err e) f p q = p

-- ONE ENTRY MORE

-- if an entry of unit u is added, and the relation holds for its program after it, there is again one for each program
module _ {X : Type 0} (Is : Program → List Entry → X → Type 0) (programs : List Program) (history : List Entry) (xs : List X) (are : AreEach Is programs history xs) (u : ℕ) (entry : Entry) (of_u : entry.unit ≡ u) (program : Program) (x new : X)
    (program_found : unit_at programs u ≡ Some program) (found : unit_at xs u ≡ Some x) (on : Is program (entries_of u history ++ entry ∷ []) new) where
  each_then : (v : ℕ) (p : Program) → unit_at programs v ≡ Some p → (y : X) × (unit_at (with_unit_at xs u new) v ≡ Some y) × Is p (entries_of v (history ++ entry ∷ [])) y
  each_then v p is = elim (same_or_not v u) [
    | inl e ↦
        let same : program ≡ p = cc (program_found, is, e) in (
          new,
          ap (unit_at (with_unit_at xs u new)) e ∙ set_at xs u x new found,
          subst (λ es. Is p es new) (sym (ap (λ n. entries_of n (history ++ entry ∷ [])) e ∙ entries_mine u history entry of_u)) (subst (λ q. Is q (entries_of u history ++ entry ∷ []) new) same on),
        )
    | inr d ↦
        let there = are.each v p is in (
          there.0,
          set_elsewhere xs u v new d ∙ there.1,
          subst (λ es. Is p es there.0) (sym (entries_other v history entry (λ q. d (sym q ∙ of_u)))) there.2,
        )
  ]

  pub one_more : AreEach Is programs (history ++ entry ∷ []) (with_unit_at xs u new)
  one_more = record { count = length_with xs u new ∙ are.count; each = each_then }

-- ONE ENTRY LESS

-- if an entry of unit u is taken back, and the relation holds for its program before it, there is again one for each program
module _ {X : Type 0} (Is : Program → List Entry → X → Type 0) (programs : List Program) (history : List Entry) (xs : List X) (u : ℕ) (entry : Entry) (of_u : entry.unit ≡ u) (are : AreEach Is programs (history ++ entry ∷ []) xs) (before : X)
    (was : (p : Program) → unit_at programs u ≡ Some p → Is p (entries_of u history) before) where
  each_before : (v : ℕ) (p : Program) → unit_at programs v ≡ Some p → (y : X) × (unit_at (with_unit_at xs u before) v ≡ Some y) × Is p (entries_of v history) y
  each_before v p is =
      let there = are.each v p is in
      elim (same_or_not v u) [
        | inl e ↦
            let here : unit_at xs u ≡ Some there.0 = ap (unit_at xs) (sym e) ∙ there.1 in (
              before,
              ap (unit_at (with_unit_at xs u before)) e ∙ set_at xs u there.0 before here,
              subst (λ n. Is p (entries_of n history) before) (sym e) (was p (ap (unit_at programs) (sym e) ∙ is)),
            )
        | inr d ↦ (
          there.0,
          set_elsewhere xs u v before d ∙ there.1,
          subst (λ es. Is p es there.0) (entries_other v history entry (λ q. d (sym q ∙ of_u))) there.2,
        )
      ]

  pub one_less : AreEach Is programs history (with_unit_at xs u before)
  one_less = record { count = length_with xs u before ∙ are.count; each = each_before }

-- the statement x is due in the program of unit u, which can make it
pub record Awaits (schema : Lists) (programs : List Program) (m : Making) (members : List Member) (u : ℕ) (x : Statement) : Type 0 where
  pub program : Program
  pub member : Member
  pub program_found : unit_at programs u ≡ Some program
  pub member_found : unit_at members u ≡ Some member
  pub at : IsAt schema program (entries_of u m.history) member
  pub due_is : member.going.due ≡ code_due.Statement x
  pub few : nat_lt member.made MOST_STATEMENTS ≡ true
  pub fit : fits schema x ≡ true

module _ (schema : Lists) (programs : List Program) (m : Making) (members : List Member) (w : IsUnderWay schema programs m members) (u : ℕ) where
  -- the statement that the member of a unit would make is that of the unit's turn
  pub said_by : (member : Member) → unit_at members u ≡ Some member → due_after schema member.made (comes_of member.going) ≡ statement_of schema programs m.history u
  said_by member found =
      let program = paired_at programs members u member w.are_at.count found in
      let there = w.are_at.each u program.0 program.1 in
      let same : member ≡ there.0 = cc (found, there.1) in
      ap (λ (x : Member). due_after schema x.made (comes_of x.going)) same
      ∙ (λ i. due_after schema (there.2.made i) (there.2.going.comes i))
      ∙ ap (option_and_then (λ (p : Program). due_after schema (length (entries_of u m.history)) (comes schema p u m.history))) (sym program.1)

  pub awaits : (x : Statement) → statement_of schema programs m.history u ≡ Some x → 0 < u → u ≤ length members → Awaits schema programs m members u x
  awaits x said some within =
      let program = numbered_one programs u some (omega (arith, w.are_at.count, within)) in
      let there = w.are_at.each u program.0 program.1 in
      let made = to_be_made schema there.0.made there.0.going.state there.0.going.due x (said_by there.0 there.1 ∙ said) in
      record { program = program.0; member = there.0; program_found = program.1; member_found = there.1; at = there.2; due_is = made.0; few = made.1; fit = made.2 }

  -- if there is no unit with this number, there is no statement
  pub said_by_nobody : (u ≡ 0) ⊎ (length members < u) → statement_of schema programs m.history u ≡ None
  said_by_nobody h =
      ap (option_and_then (λ (p : Program). due_after schema (length (entries_of u m.history)) (comes schema p u m.history)))
      (nobody programs u (elim h [ inl e ↦ inl e | inr l ↦ inr (omega (arith, w.are_at.count, l)) ]))

  -- a turn without a statement
  pub nothing_made : statement_of schema programs m.history u ≡ None → HaveTurned schema programs m (u ∷ []) m members
  nothing_made none =
      record {
        under_way = w;
        database = λ i. record m { history = (ap (made schema m.capacity (length programs) m.history u) (sym none) ∙ one_turn schema m.capacity programs m.history u) i };
      }

  module _ (x : Statement) (new : Making) (made_by : HasMade m u x new) where
    abbrev pub entry : Entry
    entry = record { ticket = length m.history; unit = u; statement = x; answer = made_by.outcome.answer }

    pub history_is : new.history ≡ m.history ++ entry ∷ []
    history_is = ap (λ (n : Making). n.history) made_by.new_is

    after_is : statement_of schema programs m.history u ≡ Some x → m.history ++ entry ∷ [] ≡ after_turn schema m.capacity programs m.history u
    after_is said =
        ap (with_effect_of m.history u x) (sym made_by.outcome_is)
        ∙ (λ i. with_effect_of m.history u x (effect_of_unit (w.schema_is i) m.capacity (replay (w.schema_is i) m.capacity (opening_state (w.schema_is i) (w.units i)) m.history) u x))
        ∙ ap (made schema m.capacity (length programs) m.history u) (sym said)

    module _ (program : Program) (member member' : Member) (program_found : unit_at programs u ≡ Some program) (found : unit_at members u ≡ Some member) (on : IsAt schema program (entries_of u m.history ++ entry ∷ []) member') where
      -- the turn in which the statement is made
      pub turn_made : statement_of schema programs m.history u ≡ Some x → HaveTurned schema programs m (u ∷ []) new (with_unit_at members u member')
      turn_made said =
          let after : new.history ≡ after_turns schema m.capacity programs m.history (u ∷ []) = history_is ∙ after_is said ∙ one_turn schema m.capacity programs m.history u in
          record {
            under_way = record {
              schema_is = ap (λ (n : Making). n.schema) made_by.new_is ∙ w.schema_is;
              units = ap (λ (n : Making). n.units) made_by.new_is ∙ w.units;
              are_at = subst (λ es. AreAt schema programs es (with_unit_at members u member')) (sym history_is) (one_more (IsAt schema) programs m.history members w.are_at u entry refl program member member' program_found found on);
            };
            database = made_by.new_is ∙ (λ i. record m { history = (after_is said ∙ one_turn schema m.capacity programs m.history u) i });
          }
