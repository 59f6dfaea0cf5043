-- What is told of a line.
use Rattle.std.proofs.Common.{◌≡◌, ℕ, true, false, Option, ◌+◌, ◌-◌, List, [], ◌∷◌, ◌++◌, length, Some, slice_get, inl, inr, ap, sym, ◌∙◌, subst, arith, length-append, IfOk, Result, Ok, Err, None}
use Rattle.std.specs.Prelude.{◌==◌, ◌&&◌, IfSome, OnErr, codes, if◌then◌else◌, option_map}
use Rattle.std.specs.Str.{bytes_eq}
use Rattle.std.proofs.lemmas.Bool.{and_parts}
use Rattle.std.proofs.lemmas.Slice.Eq.{bytes_eq-Decides}
use Rattle.dbtg_schema.specs.Lists.{Lists}
use Rattle.dbtg_cells.proofs.Public.{get_behind}
use Rattle.dbtg_step.specs.Core.Whole.{Making, state_now}
use Rattle.dbtg_draw.specs.Listing.{schema_lines}
use Rattle.dbtg_unit.specs.declared.unit.Entry.{Entry}
use Rattle.dbtg_script.specs.Printing.Spelling.{behind, in_front}
use Rattle.dbtg_script.specs.Printing.Texts.{units_text}
use Rattle.dbtg_script.specs.declared.fault.Cause.{Cause}
use Rattle.dbtg_session.specs.Asking.{asked_of, asks_undo, behind_spaces, is_unit, turn_after, turn_behind, turn_given}
use Rattle.dbtg_session.specs.Replies.{IsFaultText, answer_reply, database_text, explained_text, fault_page, no_unit_text, shown_by, unit_shown}
use Rattle.dbtg_session.specs.Sessions.{Answers, IsAnswered, IsText, IsUnmade, NotesAsked, Prints, RefusesLine, TakesAsked, TakesLine, Tells, Typed, last_made}
use Rattle.dbtg_session.specs.declared.asked.Asked.{Asked}
use Rattle.dbtg_session.specs.declared.commands.Reply.{Reply}
use Rattle.dbtg_session.specs.declared.commands.Reply.TheVariants as reply
use Rattle.dbtg_session.specs.declared.commands.TheConstants.{UNTOLD}
use Rattle.dbtg_session.specs.declared.session.Refusal.TheVariants as refusal
use Rattle.dbtg_explain.specs.declared.topic.Kind.{Kind}
use Rattle.dbtg_explain.specs.declared.topic.Kind.TheVariants as kind
use Rattle.dbtg_explain.specs.declared.topic.Topic.{Topic}
use Rattle.dbtg_explain.specs.declared.topic.Topic.TheVariants.{All, Done, Fault, Faults, Status, There}
use Rattle.dbtg_explain.specs.Explaining.{IsFault, fault_text, kind_row, topic_text}

-- THE LAST ENTRY

pub last_entry : (history before : List Entry) (e : Entry) → history ≡ before ++ e ∷ [] → slice_get history (length history - 1) ≡ Some e
last_entry history before e is =
    let many : length history ≡ length before + 1 = ap length is ∙ length-append before (e ∷ []) in
    let place : length history - 1 ≡ length before = omega (arith, many) in
    ap (slice_get history) place ∙ ap (λ (es : List Entry). slice_get es (length before)) is ∙ get_behind before e []

pub is_answered : (typed : Typed) (schema : Lists) (one : Entry) (out : List ℕ) → Some one ≡ last_made typed → schema ≡ typed.making.schema → Tells (answer_reply schema one) out → IsAnswered typed out
is_answered typed schema one out at same told =
    subst (λ (last : Option Entry). IfSome last (λ e. Tells (answer_reply typed.making.schema e) out)) at (subst (λ (s : Lists). Tells (answer_reply s one) out) same told)

-- what `explain` says of a topic is the page of its fault
pub page_of_fault : (n : ℕ) (topic : Topic) (out : List ℕ) → IsFault kind.Script n (Some topic) → out ≡ topic_text topic → Some out ≡ fault_page n
page_of_fault n (Fault which row) out is told = ap Some told ∙ ap (λ (w : Kind). Some (fault_text (kind_row w) row.now)) is.0 ∙ sym (ap (option_map (fault_text (kind_row kind.Script))) is.1)
page_of_fault n All out is told = absurd is
page_of_fault n Done out is told = absurd is
page_of_fault n (Faults which) out is told = absurd is
page_of_fault n (There row) out is told = absurd is
page_of_fault n (Status row cause) out is told = absurd is

-- WHAT IS TOLD

-- what holds whatever comes out
pub if_ok : {A E : Type 0} (result : Result A E) (P : Type 0) → P → IfOk result (λ x. P)
if_ok (Ok x) P p = p
if_ok (Err e) P p = tt

pub on_err : {A E : Type 0} (result : Result A E) (P : Type 0) → P → OnErr result P
on_err (Ok x) P p = tt
on_err (Err e) P p = p

is_text : (A B : List ℕ → Type 0) (r : Reply) → ((out : List ℕ) → A out → B out) → IsText A r → IsText B r
is_text A B (reply.Text out) f told = f out.items told
is_text A B reply.Untold f told = f UNTOLD.now told
is_text A B (reply.Save directory) f told = told
is_text A B (reply.Load path) f told = told
is_text A B (reply.Run path) f told = told
is_text A B reply.Quit f told = told

-- who takes a statement back keeps the turn
pub undo_keeps_turn : (units turn : ℕ) (command : List ℕ) → asks_undo command ≡ true → turn_behind units turn command ≡ turn
undo_keeps_turn units turn command asks =
    let word : in_front 32 command ≡ codes "undo" = (bytes_eq-Decides (in_front 32 command) (codes "undo")).0 (and_parts _ _ asks).0 in
    ap (λ (w : List ℕ). if bytes_eq w (codes "unit") then turn_given units turn (behind_spaces (behind 32 command)) else turn) word

-- and shows nothing
pub undo_shows : {E : Type 0} (m : Making) (turn : ℕ) (fault : Option ℕ) (command : List ℕ) (told : Result Reply E) → asks_undo command ≡ true → IfOk told (Prints (shown_by m turn fault command))
undo_shows m turn fault command told asks =
    let word : in_front 32 command ≡ codes "undo" = (bytes_eq-Decides (in_front 32 command) (codes "undo")).0 (and_parts _ _ asks).0 in
    let rest : List ℕ = behind_spaces (behind 32 command) in
    let none : shown_by m turn fault command ≡ None = ap (λ (w : List ℕ). if bytes_eq w (codes "unit") then unit_shown m turn rest
    else (if bytes_eq w (codes "units") && (length rest == 0) then Some (units_text m.schema (state_now m).units)
    else (if bytes_eq w (codes "schema") && (length rest == 0) then Some (schema_lines m.schema)
    else (if bytes_eq w (codes "database") && (length rest == 0) then Some (database_text m)
    else (if bytes_eq w (codes "explain") && (length rest == 0) then Some (explained_text m fault) else None))))) word in
    subst (λ (text : Option (List ℕ)). IfOk told (Prints text)) (sym none) (if_ok told (Unit {0}) tt)

-- a line comes to nothing if there is no such unit, and where it has a fault
module _ {E : Type 0} (u : ℕ) (old new : Typed) (line : List ℕ) (result : Result Reply E) (same : new ≡ old) where
  unmade : (A : List ℕ → Type 0) → ((out : List ℕ) → A out → IsUnmade old u line out) → IfOk result (IsText A) → TakesLine u old line result new
  unmade A f told = taken result told
    where
      taken : (r : Result Reply E) → IfOk r (IsText A) → TakesLine u old line r new
      taken (Ok it) h = inr (same, is_text A (IsUnmade old u line) it f h)
      taken (Err e) h = same

  pub without_unit : is_unit old.making.units u ≡ false → IfOk result (IsText (λ out. out ≡ no_unit_text old.making.units)) → TakesLine u old line result new
  without_unit none told = unmade (λ out. out ≡ no_unit_text old.making.units) (λ out h. inl (none, h)) told

  pub with_fault : (cause : Cause) → RefusesLine (refusal.Fault cause) old u line → IfOk result (IsText (IsFaultText old.making.schema line cause)) → TakesLine u old line result new
  with_fault cause refused told = unmade (IsFaultText old.making.schema line cause) (λ out h. inr (inr (cause, refused, h))) told

-- WHAT A LINE ASKS FOR IS DONE

pub answered : {E : Type 0} (line : List ℕ) (turn turn_now : ℕ) (fault fault_now : Option ℕ) (old new : Typed) (told : Result Reply E) (one asked : Asked)
    → asked_of line (behind_spaces line) one → one ≡ asked → TakesAsked turn fault old asked told new → IfOk told (λ x. turn_now ≡ turn_after old.making.units turn asked) → IfOk told (λ x. NotesAsked turn old fault asked new fault_now)
    → OnErr told ((turn_now ≡ turn) × (fault_now ≡ fault)) → Answers line turn fault old told turn_now fault_now new
answered line turn turn_now fault fault_now old new told one asked read is done given noted kept = record {
  one = one;
  is_read = read;
  is_done = subst (λ (it : Asked). TakesAsked turn fault old it told new) (sym is) done;
  given = subst (λ (it : Asked). IfOk told (λ x. turn_now ≡ turn_after old.making.units turn it)) (sym is) given;
  noted = subst (λ (it : Asked). IfOk told (λ x. NotesAsked turn old fault it new fault_now)) (sym is) noted;
  kept = kept;
}

-- of two that are kept where memory is refused
pub on_err_both : {A E : Type 0} (result : Result A E) (P Q : Type 0) → OnErr result P → OnErr result Q → OnErr result (P × Q)
on_err_both (Ok x) P Q p q = tt
on_err_both (Err e) P Q p q = (p, q)
