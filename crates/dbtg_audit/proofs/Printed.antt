-- The audit of a trace that was printed is equal.
use Rattle.std.proofs.Common.{◌≡◌, ℕ, ◌+◌, Bool, true, false, ◌&&◌, ◌||◌, List, [], ◌∷◌, ◌++◌, drop, length, map, Option, Some, None, refl, sym, ap, ◌∙◌, true≢false}
use Rattle.std.specs.List.{range_with_len}
use Rattle.std.proofs.lemmas.Bool.{and_from, eq-eqb}
use Rattle.std.proofs.Math.Seq.{drop-append_seam}
use Rattle.std.proofs.lemmas.List.{length-map, map-append}
use Rattle.dbtg_schema.specs.Lists.{Lists}
use Rattle.dbtg_cells.specs.Keys.{key_eq, values_eq}
use Rattle.dbtg_cells.specs.declared.key.DbKey.{DbKey}
use Rattle.dbtg_cells.specs.declared.key.Value.{Value}
use Rattle.dbtg_cells.proofs.Public.{key_eq_refl, values_eq_refl}
use Rattle.dbtg_unit.specs.declared.statement.Statement.{Statement}
use Rattle.dbtg_unit.specs.declared.unit.Entry.{Entry}
use Rattle.dbtg_unit.specs.Database.Laws.Replay.{IsHistoryOf, answers, opening_state}
use Rattle.dbtg_unit.specs.Database.Laws.Replaying.{statements_of}
use Rattle.dbtg_unit.specs.Database.Statements.Codes.{status_code}
use Rattle.dbtg_unit.proofs.Public.{statements_determine}
use Rattle.dbtg_trace.specs.Laws.{IsReadBack, all_said, as_said}
use Rattle.dbtg_audit.specs.declared.auditing.Audited.TheVariants.{Equal, Differs}
use Rattle.dbtg_audit.specs.Auditing.{agrees, all_so, asked, behind_load, is_so, loads, units_with}
use Rattle.dbtg_audit.specs.Laws.{PrintedTraceIsEqual, recorded_of}

-- WHAT IS SAID OF ENTRIES HOLDS OF THEM

key_agrees : (key : Option DbKey) → agrees key_eq key key ≡ true
key_agrees None = refl
key_agrees (Some k) = key_eq_refl k

items_agree : (items : Option (List Value)) → agrees values_eq items items ≡ true
items_agree None = refl
items_agree (Some vs) = values_eq_refl vs

either : (a b : Bool) → b ≡ true → (a || b) ≡ true
either true b h = refl
either false b h = h

own_so : (statuses : Bool) (n : ℕ) (e : Entry) → is_so statuses (as_said n e).said e ≡ true
own_so statuses n e =
    and_from _ _ (eq-eqb (status_code e.statement e.answer.status) (status_code e.statement e.answer.status) refl)
    (either statuses (agrees key_eq e.answer.key e.answer.key && agrees values_eq e.answer.items e.answer.items) (and_from _ _ (key_agrees e.answer.key) (items_agree e.answer.items)))

own_all_so : (statuses : Bool) (n : ℕ) (es : List Entry) → all_so statuses (all_said n es) es ≡ true
own_all_so statuses n [] = refl
own_all_so statuses n (e ∷ es) = and_from _ _ (own_so statuses n e) (own_all_so statuses (n + 1) es)

own_asked : (n : ℕ) (es : List Entry) → asked (all_said n es) ≡ statements_of es
own_asked n [] = refl
own_asked n (e ∷ es) = ap (λ (xs : List (ℕ × Statement)). (e.unit, e.statement) ∷ xs) (own_asked (n + 1) es)

-- STATEMENTS DETERMINE A HISTORY

same_entries : (xs ys : List Entry) → statements_of xs ≡ statements_of ys → map (λ e. Some e.answer) xs ≡ map (λ e. Some e.answer) ys → map (λ e. e.ticket) xs ≡ map (λ e. e.ticket) ys → xs ≡ ys
same_entries [] [] s a t = refl
same_entries [] (y ∷ ys) s a t = absurd cc
same_entries (x ∷ xs) [] s a t = absurd cc
same_entries (x ∷ xs) (y ∷ ys) s a t =
    let p : ◌≡◌ {A = ℕ × Statement} (x.unit, x.statement) (y.unit, y.statement) = cc (s) in
    let more : statements_of xs ≡ statements_of ys = cc (s) in
    let answer : x.answer ≡ y.answer = cc (a) in
    let answers : map (λ (e : Entry). Some e.answer) xs ≡ map (λ (e : Entry). Some e.answer) ys = cc (a) in
    let ticket : x.ticket ≡ y.ticket = cc (t) in
    let tickets : map (λ (e : Entry). e.ticket) xs ≡ map (λ (e : Entry). e.ticket) ys = cc (t) in
    let rest = same_entries xs ys more answers tickets in
    λ i. record { ticket = ticket i; unit = (p i).0; statement = (p i).1; answer = answer i } ∷ rest i

same_history : (schema : Lists) (capacity units : ℕ) (xs ys : List Entry) → IsHistoryOf schema capacity units xs → IsHistoryOf schema capacity units ys → statements_of xs ≡ statements_of ys → xs ≡ ys
same_history schema capacity units xs ys is_xs is_ys s =
    let state = opening_state schema units in
    let a = (statements_determine schema capacity state xs).answers_are is_xs.answers_hold in
    let b = (statements_determine schema capacity state ys).answers_are is_ys.answers_hold in
    let long : length xs ≡ length ys = sym (length-map xs (λ (e : Entry). (e.unit, e.statement))) ∙ ap length s ∙ length-map ys (λ (e : Entry). (e.unit, e.statement)) in
    same_entries xs ys s (a ∙ ap (answers schema capacity state) s ∙ sym b) (is_xs.tickets ∙ ap (range_with_len 0) long ∙ sym is_ys.tickets)

-- THE AUDIT

-- the statements of the script that is made first, and those of the trace
all_asked : (schema : Lists) (texts : List (List ℕ)) (load : Option (List Statement)) (begin entries : List Entry)
    → statements_of begin ≡ loads (length texts) load → IsReadBack schema texts entries
    → loads (length texts) load ++ asked (recorded_of schema texts load entries).traced ≡ statements_of (begin ++ entries)
all_asked schema texts load begin entries begun back =
    (λ i. sym begun i ++ (ap asked back.1 ∙ own_asked 1 entries) i) ∙ sym (map-append (λ (e : Entry). (e.unit, e.statement)) begin entries)

pub printed_is_equal : PrintedTraceIsEqual
printed_is_equal schema capacity texts load begin entries begun back is statuses (Equal given) audited =
    same_history schema capacity (units_with (length texts) load) given.history (begin ++ entries) audited.leads.history_of is (audited.statements_are ∙ all_asked schema texts load begin entries begun back)
printed_is_equal schema capacity texts load begin entries begun back is statuses (Differs found) audited =
    let recorded = recorded_of schema texts load entries in
    let long : length (loads (length texts) load) ≡ length begin = sym (ap length begun) ∙ length-map begin (λ (e : Entry). (e.unit, e.statement)) in
    let behind : behind_load recorded (begin ++ entries) ≡ entries = ap (λ n. drop n (begin ++ entries)) long ∙ drop-append_seam begin entries in
    let so : all_so statuses recorded.traced (behind_load recorded (begin ++ entries)) ≡ true = (λ i. all_so statuses (back.1 i) (behind i)) ∙ own_all_so statuses 1 entries in
    absurd (true≢false (sym so ∙ audited.1 (begin ++ entries) (record { statements_are = sym (all_asked schema texts load begin entries begun back); history_of = is })))
