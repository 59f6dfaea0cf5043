-- A program in the shell by one statement more.
use Rattle.std.proofs.Common.{◌≡◌, ℕ, suc, ◌+◌, ◌-◌, ◌<◌, Bool, true, false, List, [], ◌∷◌, ◌++◌, length, None, Some, Option, slice_get, inl, inr, refl, sym, ap, ◌∙◌, subst, arith, length-append}
use Rattle.std.specs.Prelude.{Err, Ok, OnOk, Result, unwrap_or}
use Rattle.std.proofs.lemmas.Option.{none-some}
use Rattle.dbtg_schema.specs.Lists.{Lists}
use Rattle.dbtg_unit.specs.declared.unit.Entry.{Entry}
use Rattle.dbtg_step.specs.Core.Whole.{Making}
use Rattle.dbtg_script.specs.declared.limits.TheConstants.{SCRIPT_BYTES}
use Rattle.dbtg_script.specs.Lines.{lines}
use Rattle.dbtg_program.specs.declared.program.Program as said
use Rattle.dbtg_program.specs.declared.fault.Fault.{Fault as ProgramRefusal}
use Rattle.dbtg_program.specs.Faults.{refusal}
use Rattle.dbtg_program.specs.Going.{next}
use Rattle.dbtg_program.specs.Reading.{program}
use Rattle.dbtg_program.specs.States.{beginning}
use Rattle.dbtg_command.specs.declared.fault.Fault.{Fault}
use Rattle.dbtg_command.specs.declared.fault.Fault.TheVariants.{Schema, Script, Program, Moves, Turns, Trace, MovesOver, StatesOver, Unreadable, ScriptCount, Memory}
use Rattle.dbtg_command.specs.Refusals.{RefusesProgram}
use Rattle.dbtg_session.specs.Sessions.{HasTyped, Typed, last_made, text_of}
use Rattle.dbtg_shell.specs.Programs.{Following, HasBegun, HasGoneOn, HasMadeDue, IsStopped, RunsText, begun, behind, line_due}
use Rattle.dbtg_shell.specs.Inside.Programs.{MakesDue, MayHaveMade, MayHaveTyped}
use Rattle.dbtg_session.proofs.Public.{found_below}
use Rattle.dbtg_session.proofs.Public.{last_entry}
use Rattle.dbtg_session.proofs.Public.{get_set}

-- the entry of a line that is typed
abbrev made_entry : (old : Typed) (u : ℕ) (line : List ℕ) (new : Typed) → HasTyped old u line new → Entry
made_entry old u line new t = record { ticket = length old.making.history; unit = u; statement = t.statement; answer = t.made.outcome.answer }

made_last : (old : Typed) (u : ℕ) (line : List ℕ) (new : Typed) (t : HasTyped old u line new) → last_made new ≡ Some (made_entry old u line new t)
made_last old u line new t = last_entry new.making.history old.making.history (made_entry old u line new t) (ap (λ (m : Making). m.history) t.made.new_is)

pub not_unanswered : (old : Typed) (u : ℕ) (line : List ℕ) (new : Typed) → HasTyped old u line new → None ≡ last_made new → ⊥
not_unanswered old u line new t none = none-some (made_entry old u line new t) (none ∙ made_last old u line new t)

-- the line that is due makes its statement, or not
pub due_typed : (u : ℕ) (old : Typed) (line : List ℕ) (new : Typed) (f : Following) → line_due f ≡ Some line → HasTyped old u line new → (g : Following) × HasMadeDue u old f new g
due_typed u old line new f is_due t = (
  behind f (made_entry old u line new t),
  record {
    line = line;
    is_due = is_due;
    typed = t;
    entry = made_entry old u line new t;
    last = made_last old u line new t;
    goes_on = refl;
  },
)

pub may_have_made : (u : ℕ) (old : Typed) (line : List ℕ) (new : Typed) (f : Following) → line_due f ≡ Some line → MayHaveTyped u old line new → MayHaveMade u old f new
may_have_made u old line new f is_due (inl same) = inl same
may_have_made u old line new f is_due (inr t) = inr (due_typed u old line new f is_due t)

-- ROOM

longer : (old : Typed) (u : ℕ) (line : List ℕ) (new : Typed) → HasTyped old u line new → length (text_of new u) ≡ length (text_of old u) + length line + 1
longer old u line new t =
    let there = found_below old.texts (u - 1) t.of_unit in
    let text : text_of new u ≡ text_of old u ++ line ++ 10 ∷ [] =
    ap (λ (ts : List (List ℕ)). unwrap_or (slice_get ts (u - 1)) []) t.texts_are
    ∙ ap (λ (o : Option (List ℕ)). unwrap_or o []) (get_set old.texts (u - 1) there.0 (text_of old u ++ line ++ 10 ∷ []) there.1) in
    let long : length (text_of new u) ≡ length (text_of old u ++ line ++ 10 ∷ []) = ap length text in
    let whole = length-append (text_of old u ++ line) (10 ∷ []) in
    let front = length-append (text_of old u) line in
    omega (arith, long, whole, front)

-- how many bytes the script of unit u has room for
abbrev pub room_left : Typed → ℕ → ℕ
room_left typed u = SCRIPT_BYTES - length (text_of typed u)

abbrev pub left_if : Bool → Typed → ℕ → ℕ
left_if true typed u = suc (room_left typed u)
left_if false typed u = 0

less_room : (u : ℕ) (old : Typed) (f : Following) (new : Typed) (g : Following) → HasMadeDue u old f new g → room_left new u < room_left old u
less_room u old f new g made = let more = longer old u made.line new made.typed in omega (arith, more, made.typed.room)

-- ONE STATEMENT MORE

module _ (u : ℕ) (old : Typed) (f : Following) (between : Typed) (h : Following) (new : Typed) (g : Following) where
  pub less_left : (made : Bool) → MakesDue u between h made new g → left_if made new u < left_if true between u
  less_left true m = let less = less_room u between h new g m in omega (arith, less)
  less_left false m = omega arith

  pub gone_on : HasGoneOn u old f between h → (made : Bool) → MakesDue u between h made new g → HasGoneOn u old f new g
  gone_on gone true m = (suc gone.0, (between, h, gone.1, m))
  gone_on gone false m = subst (λ (t : Typed). HasGoneOn u old f t g) (sym m.0) (subst (HasGoneOn u old f between) (sym m.1) gone)

  pub stopped : (made : Bool) → MakesDue u between h made new g → made ≡ false → IsStopped u new g
  stopped true m is = absurd (cc (is))
  stopped false m is = subst (λ (t : Typed). IsStopped u t g) (sym m.0) (subst (IsStopped u between) (sym m.1) m.2)

pub in_part : (u : ℕ) (old : Typed) (f : Following) (between : Typed) (h : Following) (new : Typed) → HasGoneOn u old f between h → MayHaveMade u between h new → (g : Following) × HasGoneOn u old f new g
in_part u old f between h new gone (inl same) = (h, subst (λ (t : Typed). HasGoneOn u old f t h) (sym same) gone)
in_part u old f between h new gone (inr made) = (made.0, (suc gone.0, (between, h, gone.1, made.1)))

-- THE BEGINNING

pub begins : (schema lists : Lists) (p : said.Program) (ls : List (List ℕ)) (text : List ℕ) → schema ≡ lists → p ≡ program lists text → ls ≡ lines text
    → record { schema = schema; program = p; lines = ls; due = next schema p (beginning p) } ≡ begun lists text
begins schema lists p ls text same is these = λ i. record { schema = same i; program = is i; lines = these i; due = next (same i) (is i) (beginning (is i)) }

pub nothing_yet : (u : ℕ) (old : Typed) (text : List ℕ) → HasBegun u old text old
nothing_yet u old text = (begun old.making.schema text, (0, (refl, refl)))

-- A TEXT THAT IS REFUSED

pub is_refused : (fault : Fault) (n : ℕ) (r : Option ProgramRefusal) → RefusesProgram fault n r → (fault ≡ Memory → ⊥) → r ≡ None → ⊥
is_refused (Program m line cause) n r told some none = none-some _ (sym none ∙ told.1)
is_refused Memory n r told some none = some refl
is_refused (Schema line cause) n r told some none = absurd told
is_refused (Script m line cause) n r told some none = absurd told
is_refused (Moves word cause) n r told some none = absurd told
is_refused (Turns word cause) n r told some none = absurd told
is_refused (Trace line cause) n r told some none = absurd told
is_refused MovesOver n r told some none = absurd told
is_refused (StatesOver limit) n r told some none = absurd told
is_refused (Unreadable path) n r told some none = absurd told
is_refused ScriptCount n r told some none = absurd told

-- what is told of a text changes nothing
pub told_of : {A E : Type 0} (result : Result A E) (u : ℕ) (old : Typed) (text : List ℕ) (schema : Lists) (fault : Fault) → schema ≡ old.making.schema → RefusesProgram fault 1 (refusal schema text) → OnOk result (fault ≡ Memory → ⊥) → OnOk result (RunsText u old text old)
told_of (Ok x) u old text schema fault same told some = inr ((λ none. is_refused fault 1 (refusal schema text) told some (ap (λ (s : Lists). refusal s text) same ∙ none)), refl)
told_of (Err e) u old text schema fault same told some = tt
