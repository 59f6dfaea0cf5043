-- Histories in which each unit makes the beginning of its script: the units of the entries determine their statements.
use Rattle.std.proofs.Common.{◌≡◌, ℕ, zero, suc, ◌+◌, ◌-◌, ◌*◌, ◌<◌, ◌≤◌, List, [], ◌∷◌, ◌++◌, length, map, Option, Some, None, slice_get, slice_set, inl, inr, refl, sym, ap, ◌∙◌, subst, arith}
use Rattle.std.specs.Prelude.{nat_lt, ⊤}
use Rattle.std.specs.Option.{unwrap_or}
use Rattle.std.specs.List.{range_with_len}
use Rattle.std.proofs.lemmas.Bool.{cond-true, cond-false, eq-eqb, ne_eqb, lt-ltb}
use Rattle.std.proofs.lemmas.List.{length-map}
use Rattle.dbtg_schema.specs.Lists.{Lists}
use Rattle.dbtg_cells.proofs.Public.{there_is}
use Rattle.dbtg_unit.specs.declared.statement.Statement.{Statement}
use Rattle.dbtg_unit.specs.declared.unit.Entry.{Entry}
use Rattle.dbtg_unit.specs.declared.unit.Unit.{Unit}
use Rattle.dbtg_unit.specs.Database.Laws.Replay.{State, AnswersHold, TicketsInOrder, after_entry, answers, entries_of, effect_of_unit}
use Rattle.dbtg_unit.specs.Database.Laws.Replaying.{statements_of}
use Rattle.dbtg_unit.proofs.Public.{effect_keeps_count, statements_determine, unit_is_there}
use Rattle.dbtg_step.specs.Machine.SequentialDatabase.{unit_at, with_unit_at}
use Rattle.dbtg_step.specs.Core.Turns.{made_turns}
use Rattle.dbtg_step.proofs.Public.{entries_same, length_with, set_found}

-- LISTS BY NUMBER

pub there : {X : Type 0} (xs : List X) (u : ℕ) → 0 < u → u ≤ length xs → (x : X) × (unit_at xs u ≡ Some x)
unfolding unit_at
there xs zero some most = absurd (omega arith)
there xs (suc n) some most = there_is xs n (omega arith)

-- THE UNITS OF ENTRIES

-- each entry belongs to one of this many units
abbrev pub AllWithin : ℕ → List Entry → Type 0
AllWithin n [] = ⊤
AllWithin n (e ∷ es) = (0 < e.unit) × (e.unit ≤ n) × AllWithin n es

pub all_within : (schema : Lists) (capacity n : ℕ) (state : State) (es : List Entry) → length state.units ≡ n → AnswersHold schema capacity state es → AllWithin n es
unfolding AnswersHold
all_within schema capacity n state [] count holds = tt
all_within schema capacity n state (e ∷ es) count holds =
    let by = unit_is_there schema capacity state e holds.0 in
    (by.0, subst (λ k. e.unit ≤ k) count by.1, all_within schema capacity n (after_entry schema capacity state e) es (effect_keeps_count state e.unit (effect_of_unit schema capacity state e.unit e.statement) ∙ count) holds.1)

-- THE ENTRIES OF EACH UNIT

own_entry : (e : Entry) (es : List Entry) → entries_of e.unit (e ∷ es) ≡ e ∷ entries_of e.unit es
own_entry e es = cond-true _ _ _ (eq-eqb e.unit e.unit refl)

other_entry : (e : Entry) (es : List Entry) (u : ℕ) → (e.unit ≡ u → ⊥) → entries_of u (e ∷ es) ≡ entries_of u es
other_entry e es u differs = cond-false _ _ _ (ne_eqb e.unit u differs)

-- the entries of each unit are the beginning of its script
abbrev pub Begins : List (List Statement) → List Entry → Type 0
Begins scripts es = (u : ℕ) (script : List Statement) → unit_at scripts u ≡ Some script → (left : List Statement) × (map (λ (e : Entry). e.statement) (entries_of u es) ++ left ≡ script)

-- a unit makes the first statement of its script with its first entry, and goes on with the others
pub goes_on : (scripts : List (List Statement)) (e : Entry) (es : List Entry) (script : List Statement) → unit_at scripts e.unit ≡ Some script → Begins scripts (e ∷ es)
    → (rest : List Statement) × (e.statement ∷ rest ≡ script) × Begins (with_unit_at scripts e.unit rest) es
goes_on scripts e es script at begins = (
  rest,
  split,
  λ u other found. elim (set_found scripts e.unit u rest other found) [
    | inl p ↦ (here.0, ap (λ k. map (λ (f : Entry). f.statement) (entries_of k es) ++ here.0) p.0 ∙ p.1)
    | inr p ↦ let b = begins u other p.1 in (b.0, ap (λ fs. map (λ (f : Entry). f.statement) fs ++ b.0) (sym (other_entry e es u (λ q. p.0 (sym q)))) ∙ b.1)
  ],
)
  where
    here : (left : List Statement) × (map (λ (f : Entry). f.statement) (entries_of e.unit (e ∷ es)) ++ left ≡ script)
    here = begins e.unit script at

    rest : List Statement
    rest = map (λ (f : Entry). f.statement) (entries_of e.unit es) ++ here.0

    split : e.statement ∷ rest ≡ script
    split = ap (λ fs. map (λ (f : Entry). f.statement) fs ++ here.0) (sym (own_entry e es)) ∙ here.1

same_statements : (scripts : List (List Statement)) (es fs : List Entry) → AllWithin (length scripts) es → Begins scripts es → Begins scripts fs → map (λ (e : Entry). e.unit) es ≡ map (λ (e : Entry). e.unit) fs → statements_of es ≡ statements_of fs
same_statements scripts [] [] within a b units = refl
same_statements scripts [] (f ∷ fs) within a b units = absurd (cc (units))
same_statements scripts (e ∷ es) [] within a b units = absurd (cc (units))
same_statements scripts (e ∷ es) (f ∷ fs) within a b units =
    let unit : e.unit ≡ f.unit = cc (units) in
    let units_then : map (λ (e : Entry). e.unit) es ≡ map (λ (e : Entry). e.unit) fs = cc (units) in
    let found = there scripts e.unit within.0 within.1 in
    let one = goes_on scripts e es found.0 found.1 a in
    let other = goes_on scripts f fs found.0 (subst (λ u. unit_at scripts u ≡ Some found.0) unit found.1) b in
    let same : e.statement ∷ one.0 ≡ f.statement ∷ other.0 = one.1 ∙ sym other.1 in
    let statement : e.statement ≡ f.statement = cc (same) in
    let rest : one.0 ≡ other.0 = cc (same) in
    let then = subst (λ u. Begins (with_unit_at scripts u one.0) fs) (sym unit) (subst (λ xs. Begins (with_unit_at scripts f.unit xs) fs) (sym rest) other.2) in
    let all = subst (λ n. AllWithin n es) (sym (length_with scripts e.unit one.0)) within.2 in
    let behind = same_statements (with_unit_at scripts e.unit one.0) es fs all one.2 then units_then in
    λ i. (unit i, statement i) ∷ behind i

-- STATEMENTS DETERMINE A HISTORY

-- two histories of the same scripts are the same if their entries belong to the same units in turn
pub same_history : (schema : Lists) (capacity : ℕ) (state : State) (scripts : List (List Statement)) (es fs : List Entry) → length state.units ≡ length scripts
    → TicketsInOrder es → TicketsInOrder fs → AnswersHold schema capacity state es → AnswersHold schema capacity state fs → Begins scripts es → Begins scripts fs
    → map (λ (e : Entry). e.unit) es ≡ map (λ (e : Entry). e.unit) fs → es ≡ fs
same_history schema capacity state scripts es fs count t u a b begins also units =
    let s = same_statements scripts es fs (all_within schema capacity (length scripts) state es count a) begins also units in
    let many : length es ≡ length fs = sym (length-map es (λ (e : Entry). (e.unit, e.statement))) ∙ ap length s ∙ length-map fs (λ (e : Entry). (e.unit, e.statement)) in
    entries_same es fs (t ∙ ap (range_with_len 0) many ∙ sym u) s
    ((statements_determine schema capacity state es).answers_are a ∙ ap (λ ps. answers schema capacity state ps) s ∙ sym ((statements_determine schema capacity state fs).answers_are b))

-- THE TURNS IN WHICH A HISTORY IS MADE

-- no unit has more entries than it has statements left
abbrev pub Few : List ℕ → List Entry → Type 0
Few lefts es = (u k : ℕ) → unit_at lefts u ≡ Some k → length (entries_of u es) ≤ k

abbrev pub total : List ℕ → ℕ
total [] = 0
total (k ∷ ks) = k + total ks

set_total : (ks : List ℕ) (n k : ℕ) → slice_get ks n ≡ Some k → 0 < k → suc (total (slice_set ks n (k - 1))) ≡ total ks
set_total [] n k at some = cc
set_total (j ∷ ks) zero k at some = let e : j ≡ k = cc (at) in omega (arith, e)
set_total (j ∷ ks) (suc n) k at some = let e = set_total ks n k at some in omega (arith, e)

one_less : (ks : List ℕ) (u k : ℕ) → unit_at ks u ≡ Some k → 0 < k → suc (total (with_unit_at ks u (k - 1))) ≡ total ks
unfolding unit_at with_unit_at
one_less ks zero k at some = cc
one_less ks (suc n) k at some = set_total ks n k at some

pub total_few : (ks : List ℕ) (most : ℕ) → ((k : ℕ) → k < length ks → (j : ℕ) → slice_get ks k ≡ Some j → j ≤ most) → total ks ≤ length ks * most
total_few [] most few = omega arith
total_few (j ∷ ks) most few =
    let first = few 0 (omega arith) j refl in
    let rest = total_few ks most (λ k below i at. few (suc k) (omega (arith, below)) i at) in
    omega (arith, first, rest)

made_once : (lefts : List ℕ) (u k : ℕ) (us : List ℕ) → unit_at lefts u ≡ Some k → 0 < k → made_turns lefts (u ∷ us) ≡ u ∷ made_turns (with_unit_at lefts u (k - 1)) us
unfolding made_turns
made_once lefts u k us at some =
    let left : unwrap_or (unit_at lefts u) 0 ≡ k = ap (λ (o : Option ℕ). unwrap_or o 0) at in
    cond-true _ _ _ (ap (nat_lt 0) left ∙ lt-ltb 0 k some) ∙ ap (λ n. u ∷ made_turns (with_unit_at lefts u (n - 1)) us) left

pub all_made : (lefts : List ℕ) (es : List Entry) → AllWithin (length lefts) es → Few lefts es → (made_turns lefts (map (λ (e : Entry). e.unit) es) ≡ map (λ (e : Entry). e.unit) es) × (length es ≤ total lefts)
unfolding made_turns
all_made lefts [] within few = (refl, omega arith)
all_made lefts (e ∷ es) within few =
    let found = there lefts e.unit within.0 within.1 in
    let k = found.0 in
    let more : suc (length (entries_of e.unit es)) ≤ k = subst (λ n. n ≤ k) (ap length (own_entry e es)) (few e.unit k found.1) in
    let some : 0 < k = omega (arith, more) in
    let all = subst (λ n. AllWithin n es) (sym (length_with lefts e.unit (k - 1))) within.2 in
    let next = all_made (with_unit_at lefts e.unit (k - 1)) es all (λ u j at. elim (set_found lefts e.unit u (k - 1) j at) [
      | inl p ↦ let own : length (entries_of u es) ≡ length (entries_of e.unit es) = ap (λ n. length (entries_of n es)) p.0 in omega (arith, own, more, p.1)
      | inr p ↦ subst (λ n. n ≤ j) (ap length (other_entry e es u (λ q. p.0 (sym q)))) (few u j p.1)
    ]) in
    let less = one_less lefts e.unit k found.1 some in
    (made_once lefts e.unit k (map (λ (f : Entry). f.unit) es) found.1 some ∙ ap (λ us. e.unit ∷ us) next.0, omega (arith, next.1, less))
