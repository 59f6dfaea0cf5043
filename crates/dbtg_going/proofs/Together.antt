-- Programs that begin together, and the result that is returned of them.
use Rattle.std.proofs.Common.{◌≡◌, ℕ, zero, suc, ◌+◌, List, [], ◌∷◌, ◌++◌, length, map, Some, ◌⊎◌, inl, inr, refl, ap, subst, sym, ◌∙◌, slice_get, append-nil, arith}
use Rattle.std.specs.Prelude.{option_map}
use Rattle.std.specs.List.{flat_map, range_with_len}
use Rattle.std.proofs.lemmas.List.{length-append, length-map}
use Rattle.std.proofs.lemmas.Grind.{flat_map-append}
use Rattle.dbtg_schema.specs.Lists.{Lists}
use Rattle.dbtg_unit.specs.declared.unit.Entry.{Entry}
use Rattle.dbtg_unit.specs.Database.Laws.Replay.{entries_of}
use Rattle.dbtg_unit.proofs.Public.{range_more}
use Rattle.dbtg_program.specs.declared.going.Due as code
use Rattle.dbtg_program.specs.declared.going.Due.TheVariants as code_due
use Rattle.dbtg_program.specs.declared.program.Program.{Program}
use Rattle.dbtg_program.specs.States.{ProgramState}
use Rattle.dbtg_program.specs.Going.{AreOf}
use Rattle.dbtg_program.specs.Views.{view_due}
use Rattle.dbtg_step.specs.Core.Whole.{IsMadeRun, Making}
use Rattle.dbtg_step.specs.Machine.SequentialDatabase.{unit_at}
use Rattle.dbtg_step.proofs.Public.{map_at}
use Rattle.dbtg_going.specs.declared.member.Going.{Going}
use Rattle.dbtg_going.specs.declared.member.Member.{Member}
use Rattle.dbtg_going.specs.declared.going.ProgramRun.{ProgramRun}
use Rattle.dbtg_going.specs.Turns.{IsRunOf, making_by, one_by_one, reached, standing, state_in, to_the_end}
use Rattle.dbtg_going.specs.Goings.{AreAfter, AreGoing, IsAt, reached_by}
use Rattle.dbtg_going.specs.Inside.Members.{AreAt, HaveTurned, IsUnderWay}
use Rattle.dbtg_going.proofs.Turning.{turned_on, turned_to}

-- EACH BEFORE ITS FIRST STATEMENT

old_or_last : {X : Type 0} (xs : List X) (y x : X) (k : ℕ) → slice_get (xs ++ y ∷ []) k ≡ Some x → (slice_get xs k ≡ Some x) ⊎ ((k ≡ length xs) × (y ≡ x))
old_or_last [] y x zero e = inr (refl, cc)
old_or_last [] y x (suc k) e = absurd cc
old_or_last (z ∷ xs) y x zero e = inl e
old_or_last (z ∷ xs) y x (suc k) e = elim (old_or_last xs y x k e) [ inl h ↦ inl h | inr h ↦ inr (ap suc h.0, h.1) ]

still_there : {X : Type 0} (xs : List X) (y x : X) (k : ℕ) → slice_get xs k ≡ Some x → slice_get (xs ++ y ∷ []) k ≡ Some x
still_there [] y x k e = absurd cc
still_there (z ∷ xs) y x zero e = e
still_there (z ∷ xs) y x (suc k) e = still_there xs y x k e

pub last_there : {X : Type 0} (xs : List X) (y : X) → slice_get (xs ++ y ∷ []) (length xs) ≡ Some y
last_there [] y = refl
last_there (z ∷ xs) y = last_there xs y

module _ (schema : Lists) where
  one_begins : (ps : List Program) (ms : List Member) (p : Program) (m : Member) → length ms ≡ length ps → ((u : ℕ) (program : Program) → unit_at ps u ≡ Some program → (n : Member) × (unit_at ms u ≡ Some n) × IsAt schema program [] n)
      → IsAt schema p [] m → (u : ℕ) (program : Program) → unit_at (ps ++ p ∷ []) u ≡ Some program → (n : Member) × (unit_at (ms ++ m ∷ []) u ≡ Some n) × IsAt schema program [] n
  unfolding unit_at
  one_begins ps ms p m count each at zero program e = absurd cc
  one_begins ps ms p m count each at (suc k) program e = elim (old_or_last ps p program k e) [
    | inl h ↦ let there = each (suc k) program h in (there.0, still_there ms m there.0 k there.1, there.2)
    | inr h ↦ (m, ap (slice_get (ms ++ m ∷ [])) (h.0 ∙ sym count) ∙ last_there ms m, subst (λ q. IsAt schema q [] m) h.1 at)
  ]

  none_begins : (u : ℕ) (program : Program) → unit_at [] u ≡ Some program → (n : Member) × (unit_at [] u ≡ Some n) × IsAt schema program [] n
  unfolding unit_at
  none_begins zero program e = absurd cc
  none_begins (suc k) program e = absurd cc

  pub nobody_yet : AreAt schema [] [] []
  nobody_yet = record { count = refl; each = none_begins }

  pub begins_also : (ps : List Program) (ms : List Member) (p : Program) (m : Member) → AreAt schema ps [] ms → IsAt schema p [] m → AreAt schema (ps ++ p ∷ []) [] (ms ++ m ∷ [])
  begins_also ps ms p m so_far at = record {
    count = length-append ms (m ∷ []) ∙ (ap (λ n. n + 1) so_far.count ∙ sym (length-append ps (p ∷ [])));
    each = one_begins ps ms p m so_far.count so_far.each at;
  }

-- TO THE END

next_unit : (turns : ℕ → List ℕ) (n : ℕ) → flat_map turns (range_with_len 1 (n + 1)) ≡ flat_map turns (range_with_len 1 n) ++ turns (n + 1)
next_unit turns n =
    let next : n + 1 ≡ suc n = omega arith in
    let last : 1 + n ≡ n + 1 = omega arith in
    ap (λ k. flat_map turns (range_with_len 1 k)) next ∙ ap (flat_map turns) (range_more n 1) ∙ flat_map-append turns (range_with_len 1 n) ((1 + n) ∷ [])
    ∙ ap (λ us. flat_map turns (range_with_len 1 n) ++ us) (append-nil (turns (1 + n)) ∙ ap turns last)

module _ (schema : Lists) (programs : List Program) (old mid new : Making) (n : ℕ) (before after : List Member) where
  pub unit_more : HaveTurned schema programs old (one_by_one n) mid before → HaveTurned schema programs mid (to_the_end (n + 1)) new after → HaveTurned schema programs old (one_by_one (n + 1)) new after
  unit_more a b = turned_to schema programs old new (one_by_one n ++ to_the_end (n + 1)) (one_by_one (n + 1)) after (sym (next_unit to_the_end n)) (turned_on schema programs old mid new (one_by_one n) (to_the_end (n + 1)) before after a b)

-- WHAT IS RETURNED

state_kept : (state : ProgramState) (d : code.Due) → state ≡ state_in (view_due state d)
state_kept state (code_due.Statement s) = refl
state_kept state (code_due.End how) = refl

-- a member is as far as the definition says of its program
pub reached_there : (schema : Lists) (program : Program) (u : ℕ) (history : List Entry) (m : Member) → IsAt schema program (entries_of u history) m → reached_by m ≡ reached schema program u history
reached_there schema program u history m at = λ i. record { standing = standing (at.made i) (at.going.comes i); state = (state_kept m.going.state m.going.due ∙ ap state_in at.going.comes) i }

module _ (schema : Lists) (capacity : ℕ) (programs : List Program) (turns : List ℕ) (made : Making) (members : List Member) (given : ProgramRun) where
  pub handed_out : HaveTurned schema programs (record { schema = schema; capacity = capacity; units = length programs; history = [] }) turns made members → IsMadeRun made given.run → given.programs ≡ map reached_by members → IsRunOf schema capacity programs turns given
  handed_out t run are =
      let by : made ≡ making_by schema capacity programs turns = t.database in
      let history : made.history ≡ given.run.history = sym run.history_is in
      let each = t.under_way.are_at.each in
      record {
        run = subst (λ m. IsMadeRun m given.run) by run;
        of_programs = λ u program is. subst (λ es. AreOf schema program (entries_of u es)) history (each u program is).2.going.are_of;
        count = ap length are ∙ (length-map members reached_by ∙ t.under_way.are_at.count);
        reached_are = λ u program is.
            let there = each u program is in
            ap (λ rs. unit_at rs u) are ∙ (map_at reached_by members u ∙ (ap (option_map reached_by) there.1 ∙ ap Some (reached_there schema program u made.history there.0 there.2 ∙ ap (reached schema program u) history)));
      }

-- the programs of members
pub goings_there : (schema : Lists) (programs : List Program) (history : List Entry) (members : List Member) → AreAt schema programs history members → AreGoing schema programs history (map (λ (m : Member). m.going) members)
goings_there schema programs history members are = record {
  count = length-map members (λ (m : Member). m.going) ∙ are.count;
  each = λ u program is.
      let there = are.each u program is in
      (there.0.going, map_at (λ (m : Member). m.going) members u ∙ ap (option_map (λ (m : Member). m.going)) there.1, there.2.going);
}

-- FROM THE OPENING ON

abbrev opened : Lists → ℕ → ℕ → Making
opened schema capacity units = record { schema = schema; capacity = capacity; units = units; history = [] }

pub opens : (schema : Lists) (capacity : ℕ) (programs : List Program) (members : List Member) (m : Making) (units : ℕ) → m ≡ opened schema capacity units → units ≡ length programs → AreAt schema programs [] members → IsUnderWay schema programs m members
opens schema capacity programs members m units is count at = record {
  schema_is = ap (λ (x : Making). x.schema) is;
  units = ap (λ (x : Making). x.units) is ∙ count;
  are_at = subst (λ es. AreAt schema programs es members) (sym (ap (λ (x : Making). x.history) is)) at;
}

pub handed : (schema : Lists) (capacity : ℕ) (programs : List Program) (turns : List ℕ) (m made : Making) (units : ℕ) (members : List Member) (given : ProgramRun) → m ≡ opened schema capacity units → units ≡ length programs
    → HaveTurned schema programs m turns made members → IsMadeRun made given.run → given.programs ≡ map reached_by members → IsRunOf schema capacity programs turns given
handed schema capacity programs turns m made units members given is count t run are =
    handed_out schema capacity programs turns made members given (subst (λ x. HaveTurned schema programs x turns made members) (is ∙ ap (opened schema capacity) count) t) run are

-- the programs where these turns have led them
pub led_on : (schema : Lists) (capacity : ℕ) (programs : List Program) (turns : List ℕ) (m made database : Making) (units : ℕ) (members : List Member) (goings : List Going) → m ≡ opened schema capacity units → units ≡ length programs
    → HaveTurned schema programs m turns made members → database ≡ made → goings ≡ map (λ (n : Member). n.going) members → AreAfter schema capacity programs turns database goings
led_on schema capacity programs turns m made database units members goings is count t same are =
    let start = subst (λ x. HaveTurned schema programs x turns made members) (is ∙ ap (opened schema capacity) count) t in
    record {
      database_is = same ∙ start.database;
      are_going = subst (λ gs. AreGoing schema programs database.history gs) (sym are) (subst (λ (d : Making). AreGoing schema programs d.history (map (λ (n : Member). n.going) members)) (sym same) (goings_there schema programs made.history members t.under_way.are_at));
    }
