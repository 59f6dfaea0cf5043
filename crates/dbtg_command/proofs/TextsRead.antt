-- Texts that are read one after another, and what then holds of all.
use Rattle.std.proofs.Common.{◌≡◌, ℕ, suc, ◌+◌, ◌<◌, List, [], ◌∷◌, ◌++◌, length, map, None, refl, sym, ap, ◌∙◌, subst, arith}
use Rattle.std.proofs.lemmas.List.{append-nil, append_assoc, length-append, map_push}
use Rattle.dbtg_schema.specs.Lists.{Lists}
use Rattle.dbtg_unit.specs.declared.statement.Statement.{Statement}
use Rattle.dbtg_script.specs.StatementFaults.{refusal as script_refusal}
use Rattle.dbtg_script.specs.Statements.{script}
use Rattle.dbtg_script.specs.Printing.Texts.{script_line}
use Rattle.dbtg_command.specs.declared.fault.Fault.{Fault}
use Rattle.dbtg_command.specs.declared.place.TextPlace.{TextPlace}
use Rattle.dbtg_command.specs.declared.place.TextPlace.TheVariants.{Script}
use Rattle.dbtg_command.specs.declared.order.Order.{Order}
use Rattle.dbtg_command.specs.declared.order.Order.TheVariants.{Serial}
use Rattle.dbtg_command.specs.Checking.{ChecksHeld, check_text, script_lines}
use Rattle.dbtg_command.specs.Refusals.{AcceptsTexts, AllAccepted, RefusesScriptText}
use Rattle.dbtg_command.specs.Sources.{HoldsOrder, HoldsScripts, ReadSchema, ReadScripts, Texts, ToldIn, ToldOfScripts, kind_of}
use Rattle.dbtg_command.proofs.InTurn.{accepted_behind, lines_behind}

-- a text that is held after others
pub held_behind : (holds : TextPlace → List ℕ → Type 0) (n : ℕ) (front : List (List ℕ)) (text : List ℕ) → HoldsScripts holds n front → holds (Script (n + length front)) text → HoldsScripts holds n (front ++ text ∷ [])
held_behind holds n [] text held one =
    let same : n + 0 ≡ n = omega arith in
    (subst (λ (k : ℕ). holds (Script k) text) same one, tt)
held_behind holds n (first ∷ front) text held one =
    let same : n + suc (length front) ≡ n + 1 + length front = omega arith in
    (held.0, held_behind holds (n + 1) front text held.1 (subst (λ (k : ℕ). holds (Script k) text) same one))

pub one_more : (holds : TextPlace → List ℕ → Type 0) (lists : Lists) (n : ℕ) (text : List ℕ) → ReadScripts holds lists n → holds (Script (n + 1)) text → script_refusal lists text ≡ None → ReadScripts holds lists (n + 1)
one_more holds lists n text read held accepted =
    let number : n + 1 ≡ 1 + length read.texts = omega (arith, read.many) in
    record {
      texts = read.texts ++ text ∷ [];
      many = length-append read.texts (text ∷ []) ∙ ap (λ (k : ℕ). k + 1) read.many;
      held = held_behind holds 1 read.texts text read.held (subst (λ (k : ℕ). holds (Script k) text) number held);
      accepted = accepted_behind lists read.texts (text ∷ []) read.accepted (accepted, tt);
    }

-- the lines of the scripts that were read, and then of one more
pub line_behind : (holds : TextPlace → List ℕ → Type 0) (lists : Lists) (n : ℕ) (text start before after : List ℕ)
    → (read : ReadScripts holds lists n) × (before ≡ start ++ script_lines lists 1 read.texts) → holds (Script (n + 1)) text → script_refusal lists text ≡ None
    → after ≡ before ++ script_line (n + 1) (length (script lists text)) → (read : ReadScripts holds lists (n + 1)) × (after ≡ start ++ script_lines lists 1 read.texts)
unfolding one_more
line_behind holds lists n text start before after so_far held e line =
    let texts = so_far.0.texts in
    let said = script_lines lists 1 texts in
    let number : n + 1 ≡ 1 + length texts = omega (arith, so_far.0.many) in
    let one : script_line (n + 1) (length (script lists text)) ≡ script_lines lists (1 + length texts) (text ∷ []) =
    ap (λ (k : ℕ). script_line k (length (script lists text))) number ∙ sym (append-nil (script_line (1 + length texts) (length (script lists text)))) in (
      one_more holds lists n text so_far.0 held e,
      line ∙ ap (λ (xs : List ℕ). xs ++ script_line (n + 1) (length (script lists text))) so_far.1
          ∙ append_assoc start said (script_line (n + 1) (length (script lists text)))
          ∙ ap (λ (xs : List ℕ). start ++ (said ++ xs)) one
          ∙ ap (λ (xs : List ℕ). start ++ xs) (sym (lines_behind lists 1 texts (text ∷ []))),
    )

-- the statements of the scripts that were read, with their texts, and then of one more
pub texts_behind : (holds : TextPlace → List ℕ → Type 0) (lists : Lists) (n : ℕ) (text : List ℕ) (before after : List (List Statement)) (texts more : List (List ℕ))
    → (read : ReadScripts holds lists n) × (before ≡ map (script lists) read.texts) × (texts ≡ read.texts) → holds (Script (n + 1)) text → script_refusal lists text ≡ None
    → after ≡ before ++ script lists text ∷ [] → more ≡ texts ++ text ∷ [] → (read : ReadScripts holds lists (n + 1)) × (after ≡ map (script lists) read.texts) × (more ≡ read.texts)
unfolding one_more
texts_behind holds lists n text before after texts more so_far held e taken kept = (
  one_more holds lists n text so_far.0 held e,
  taken ∙ ap (λ (xs : List (List Statement)). xs ++ script lists text ∷ []) so_far.1 ∙ sym (map_push (script lists) so_far.0.texts text),
  kept ∙ ap (λ (xs : List (List ℕ)). xs ++ text ∷ []) so_far.2,
)

-- a fault of the script after those that were read
pub told_here : (holds : TextPlace → List ℕ → Type 0) (fails : TextPlace → Fault → Type 0) (fault : Fault) (lists : Lists) (i count : ℕ) → ReadScripts holds lists i → i < count
    → ToldIn holds fails fault (Script (i + 1)) (RefusesScriptText fault (i + 1) lists) → ToldOfScripts holds fails fault lists count
told_here holds fails fault lists i count read within told = record { before = i; read = read; within = within; told = told }

-- the texts that were read are accepted by the schema that was read
pub all_accepted : (holds : TextPlace → List ℕ → Type 0) (lists : Lists) (count : ℕ) (read : ReadSchema holds lists) (scripts : ReadScripts holds lists count) → AcceptsTexts read.text scripts.texts
all_accepted holds lists count read scripts = (read.accepted, subst (λ (s : Lists). AllAccepted s scripts.texts) read.says scripts.accepted)

-- the texts that were read, in this order
abbrev pub read_texts : (holds : TextPlace → List ℕ → Type 0) (lists : Lists) (count : ℕ) → ReadSchema holds lists → ReadScripts holds lists count → (order : Order (List ℕ)) → HoldsOrder holds order → Texts holds count (kind_of order)
read_texts holds lists count read scripts order held = record {
  schema = read.text;
  scripts = scripts.texts;
  order = order;
  many = scripts.many;
  is_kind = refl;
  holds_schema = read.held;
  holds_scripts = scripts.held;
  holds_order = held;
}

pub check_tells : (holds : TextPlace → List ℕ → Type 0) (lists : Lists) (count : ℕ) (out : List ℕ) → ReadSchema holds lists → (scripts : ReadScripts holds lists count) → out ≡ check_text lists scripts.texts → ChecksHeld holds count out
check_tells holds lists count out read scripts e = (
  read_texts holds lists count read scripts Serial tt,
  record {
    texts = all_accepted holds lists count read scripts;
    is_text = subst (λ (s : Lists). out ≡ check_text s scripts.texts) read.says e;
  },
)
