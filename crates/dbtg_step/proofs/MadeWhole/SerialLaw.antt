-- Stepping one unit after another makes the statements of a serial run, and comes to its history.
use Rattle.std.proofs.Common.{ℕ, zero, suc, ◌≡◌, true, List, [], ◌∷◌, ◌++◌, length, map, Some, None, slice_get, refl, sym, ap, ◌∙◌, subst, arith, append_assoc}
use Rattle.std.proofs.lemmas.List.{length-append, length-map}
use Rattle.std.specs.Prelude.{replicate}
use Rattle.std.specs.List.{range_with_len}
use Rattle.dbtg_schema.specs.Lists.{Lists}
use Rattle.dbtg_schema.specs.Sound.{IsSound}
use Rattle.dbtg_cells.specs.declared.name.CellName.{CellName}
use Rattle.dbtg_cells.specs.Names.{name_below}
use Rattle.dbtg_cells.specs.Shown.{CellValue}
use Rattle.dbtg_unit.specs.declared.statement.Statement.{Statement}
use Rattle.dbtg_unit.specs.declared.unit.Entry.{Entry}
use Rattle.dbtg_unit.specs.Database.State.Image.{image_of}
use Rattle.dbtg_unit.specs.Database.Laws.Replay.{State as DatabaseState, AnswersHold, TicketsInOrder, answers, opening_state}
use Rattle.dbtg_unit.specs.Database.Laws.Replaying.{statements_of}
use Rattle.dbtg_unit.specs.Database.State.Units.{opening_unit}
use Rattle.dbtg_unit.proofs.Public.{opening_is_legal, statements_determine}
use Rattle.dbtg_step.specs.Machine.SequentialDatabase.{unit_at}
use Rattle.dbtg_step.specs.Machine.Machine.{HistoryEntry, CellLocation, SequentialState, State, UnitState, replay}
use Rattle.dbtg_step.specs.Machine.Lawful.{IsOpening}
use Rattle.dbtg_step.specs.Inside.NeverStuck.{AllInTurn}
use Rattle.dbtg_step.specs.Machine.Network.{network}
use Rattle.dbtg_step.specs.Machine.Headline.{IsSequential, entry_of, machine_after, machine_of, opening_of, units_from}
use Rattle.dbtg_step.specs.Laws.{SerialRunComesTo, scripts_fit}
use Rattle.dbtg_step.specs.Core.Serial.{in_turn_from}
use Rattle.dbtg_step.proofs.Runs.Headlines as headlines
use Rattle.dbtg_step.proofs.Network.NetworkFacts.{network_is_sequential}
use Rattle.dbtg_step.proofs.Runs.Opening.{opening_is_lawful}
use Rattle.dbtg_step.proofs.Runs.Serials.{AllBetween, ComeOut, Reached, Stand, all_reached, come_out}

-- STATEMENTS DETERMINE A HISTORY

-- entries with the same tickets, statements and answers are the same
pub entries_same : (es fs : List Entry) → map (λ (e : Entry). e.ticket) es ≡ map (λ (e : Entry). e.ticket) fs → statements_of es ≡ statements_of fs → map (λ (e : Entry). Some e.answer) es ≡ map (λ (e : Entry). Some e.answer) fs → es ≡ fs
entries_same [] [] t s a = refl
entries_same [] (f ∷ fs) t s a = absurd (cc (t))
entries_same (e ∷ es) [] t s a = absurd (cc (t))
entries_same (e ∷ es) (f ∷ fs) t s a =
    let ticket : e.ticket ≡ f.ticket = cc (t) in
    let tickets : map (λ (e : Entry). e.ticket) es ≡ map (λ (e : Entry). e.ticket) fs = cc (t) in
    let pair : (e.unit, e.statement) ≡ (f.unit, f.statement) = cc (s) in
    let unit = ap (λ (p : ℕ × Statement). p.0) pair in
    let statement = ap (λ (p : ℕ × Statement). p.1) pair in
    let statements : statements_of es ≡ statements_of fs = cc (s) in
    let answer : e.answer ≡ f.answer = cc (a) in
    let answers_then : map (λ (e : Entry). Some e.answer) es ≡ map (λ (e : Entry). Some e.answer) fs = cc (a) in
    λ i. record { ticket = ticket i; unit = unit i; statement = statement i; answer = answer i } ∷ entries_same es fs tickets statements answers_then i

pub same_history : (schema : Lists) (capacity : ℕ) (state : DatabaseState) (es fs : List Entry) → TicketsInOrder es → TicketsInOrder fs → AnswersHold schema capacity state es → AnswersHold schema capacity state fs → statements_of es ≡ statements_of fs → es ≡ fs
same_history schema capacity state es fs t u a b s =
    let count : length es ≡ length fs = sym (length-map es (λ (e : Entry). (e.unit, e.statement))) ∙ ap length s ∙ length-map fs (λ (e : Entry). (e.unit, e.statement)) in
    entries_same es fs (t ∙ ap (range_with_len 0) count ∙ sym u) s
    ((statements_determine schema capacity state es).answers_are a ∙ ap (λ ps. answers schema capacity state ps) s ∙ sym ((statements_determine schema capacity state fs).answers_are b))

-- BEFORE THE SCRIPTS

at_end : {X : Type 0} (xs ys : List X) (y : X) (n : ℕ) → n ≡ length xs → slice_get (xs ++ y ∷ ys) n ≡ Some y
at_end xs ys y n e = ap (slice_get (xs ++ y ∷ ys)) e ∙ here xs
  where
    here : (xs : List _) → slice_get (xs ++ y ∷ ys) (length xs) ≡ Some y
    here [] = refl
    here (x ∷ xs) = here xs

-- a unit that stands before its script
abbrev before_script : (schema : Lists) (capacity n : ℕ) → List Statement → UnitState (network schema capacity)
before_script schema capacity n script = record { unit = opening_unit schema n; guesses = replicate (length schema.sets) None; script = script; remaining = script; progress = None }

module _ (schema : Lists) (capacity : ℕ) (location : CellName → CellLocation CellValue) (history : List (HistoryEntry (network schema capacity))) (counter : ℕ) where
  stand_from : (front : List (UnitState (network schema capacity))) (scripts : List (List Statement)) (n : ℕ) → n ≡ suc (length front) →
      Stand schema capacity scripts n (record { location = location; history = history; counter = counter; units = front ++ units_from schema capacity n scripts })
  unfolding unit_at
  stand_from front [] n e = tt
  stand_from front (script ∷ scripts) zero e = absurd (omega (arith, e))
  stand_from front (script ∷ scripts) (suc n) e =
      let here : n ≡ length front = omega (arith, e) in
      let state = before_script schema capacity (suc n) script in
      let next : suc (suc n) ≡ suc (length (front ++ state ∷ [])) = let l = length-append front (state ∷ []) in omega (arith, e, l) in
      let rest = units_from schema capacity (suc (suc n)) scripts in (
        (state, at_end front rest state n here, refl),
        subst (λ (us : List (UnitState (network schema capacity))). Stand schema capacity scripts (suc (suc n)) (record { location = location; history = history; counter = counter; units = us })) (append_assoc front (state ∷ []) rest)
            (stand_from (front ++ state ∷ []) scripts (suc (suc n)) next),
      )

-- THE LAW

-- the statements of the machine's history, in its order
pub entries_made : (schema : Lists) (capacity : ℕ) (es : List (HistoryEntry (network schema capacity)))
    → statements_of (map entry_of es) ≡ map (λ (e : HistoryEntry (network schema capacity)). (e.unit, e.statement)) es
entries_made schema capacity [] = refl
entries_made schema capacity (e ∷ es) = ap (λ ps. (e.unit, e.statement) ∷ ps) (entries_made schema capacity es)

module _ (schema : Lists) (capacity : ℕ) (sound : IsSound schema) (scripts : List (List Statement)) (fit : scripts_fit schema scripts ≡ true) where
  abbrev first : State (network schema capacity)
  first = machine_of schema capacity scripts

  abbrev opening : SequentialState (network schema capacity)
  opening = opening_of schema capacity (length scripts)

  pub is_opening : IsOpening (network schema capacity) opening first
  is_opening = headlines.machine_is_opening schema capacity scripts (opening_is_legal schema capacity (length scripts)) fit

  pub between : AllBetween schema capacity first
  between w other e = (is_opening.idle w other e).0

  pub order : AllInTurn (network schema capacity) name_below first
  order = record { each = λ w state p e q t. let b = between w state e in absurd (cc (b, q)) }

  stand : Stand schema capacity scripts 1 first
  stand = stand_from schema capacity first.location [] 0 [] scripts 1 refl

  out : ComeOut schema capacity sound opening scripts 1 first
  out = come_out schema capacity sound opening scripts 1 first (opening_is_lawful (network schema capacity) (network_is_sequential schema capacity sound) opening first is_opening) order between stand

  reached : Reached (network schema capacity) opening first out.last
  reached = all_reached (network schema capacity) opening (length scripts) 1 first out.last out.steps

  is_run : out.last ≡ machine_after schema capacity scripts reached.0
  unfolding machine_after
  is_run = reached.1

  in_turn : statements_of (map entry_of out.last.history) ≡ in_turn_from 1 scripts
  in_turn = entries_made schema capacity out.last.history ∙ out.made

  sequential : IsSequential schema capacity scripts (map entry_of out.last.history) (image_of schema capacity (replay (network schema capacity) opening out.last.history).database) (map (λ (x : UnitState (network schema capacity)). x.unit) out.last.units)
  sequential =
      subst (λ (s : State (network schema capacity)). IsSequential schema capacity scripts (map entry_of s.history) (image_of schema capacity (replay (network schema capacity) opening s.history).database) (map (λ (x : UnitState (network schema capacity)). x.unit) s.units))
      (sym is_run) (headlines.run_is_sequential schema capacity scripts (opening_is_legal schema capacity (length scripts)) fit (network_is_sequential schema capacity sound) reached.0)

  pub comes_to : SerialRunComesTo schema capacity scripts
  comes_to = record {
    last = out.last;
    stepped = out.steps;
    moves = reached.0;
    is_run = is_run;
    serial = record { in_turn = in_turn; sequential = sequential };
    only = λ history image units h. same_history schema capacity (opening_state schema (length scripts)) history (map entry_of out.last.history) h.sequential.tickets sequential.tickets h.sequential.answers sequential.answers (h.in_turn ∙ sym in_turn);
  }
