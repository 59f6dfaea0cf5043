-- The line beside an answer says the statement that was answered.
use Rattle.std.proofs.Common.{◌≡◌, ℕ, ◌+◌, ◌-◌, ◌≤◌, Bool, true, false, cond, eqb, ◌&&◌, List, [], ◌∷◌, ◌++◌, length, map, filter, Option, Some, None, slice_get, refl, sym, ap, ◌∙◌, arith, append_assoc}
use Rattle.std.specs.Prelude.{nat_le, option_map, unwrap_or}
use Rattle.std.specs.List.{list_all}
use Rattle.std.proofs.lemmas.Bool.{and_parts, cond-true, eq-eqb, leb-true}
use Rattle.std.proofs.lemmas.List.{length-map, map-append}
use Rattle.std.proofs.lemmas.List.Elements.{filter-append}
use Rattle.std.proofs.lemmas.Option.{slice_get-map}
use Rattle.dbtg_schema.specs.Texts.Forms.{labels}
use Rattle.dbtg_schema.specs.Lists.{Lists}
use Rattle.dbtg_cells.proofs.Public.{get_behind, there_is}
use Rattle.dbtg_unit.specs.Database.Laws.Replay.{entries_of}
use Rattle.dbtg_unit.specs.declared.statement.Statement.{Statement}
use Rattle.dbtg_unit.specs.declared.unit.Entry.{Entry}
use Rattle.dbtg_script.specs.Printing.Echo.{line_beside, lines_beside, lines_for}
use Rattle.dbtg_script.specs.Laws.{BeginScripts, EchoedLinesSayTheirStatements, HaveScripts}
use Rattle.dbtg_script.specs.Lines.{is_statement, lines, statement_lines, trimmed}
use Rattle.dbtg_script.specs.StatementGrammar.{fits, statement}
use Rattle.dbtg_script.specs.Statements.{line_statement, prepend, script, statement_of, statements_of}
use Rattle.dbtg_script.specs.Tokens.{tokens}

-- EACH LINE THAT HOLDS A STATEMENT SAYS IT

each_says : (schema : Lists) (ls : List (List ℕ)) → map (line_statement schema) (filter is_statement (map trimmed ls)) ≡ map Some (statements_of schema ls)
each_says schema [] = refl
each_says schema (l ∷ ls) = by (each_says schema ls) (is_statement (trimmed l)) refl
  where
    s : Statement
    s = statement_of schema (labels fits statement (tokens false (trimmed l)))

    rest : List (List ℕ)
    rest = filter is_statement (map trimmed ls)

    by : map (line_statement schema) rest ≡ map Some (statements_of schema ls) → (b : Bool) → is_statement (trimmed l) ≡ b → map (line_statement schema) (cond (is_statement (trimmed l)) (trimmed l ∷ rest) rest) ≡ map Some (prepend (line_statement schema (trimmed l)) (statements_of schema ls))
    by more true e =
        let says : line_statement schema (trimmed l) ≡ Some s = ap (λ b. cond b (Some s) None) e in
        ap (λ b. map (line_statement schema) (cond b (trimmed l ∷ rest) rest)) e ∙ (λ i. says i ∷ more i) ∙ ap (λ o. map Some (prepend o (statements_of schema ls))) (sym says)
    by more false e =
        let none : line_statement schema (trimmed l) ≡ None = ap (λ b. cond b (Some s) None) e in
        ap (λ b. map (line_statement schema) (cond b (trimmed l ∷ rest) rest)) e ∙ more ∙ ap (λ o. map Some (prepend o (statements_of schema ls))) (sym none)

-- AT ITS PLACE

said_by : (schema : Lists) (o : Option (List ℕ)) (x : Statement) → option_map (line_statement schema) o ≡ Some (Some x) → line_statement schema (unwrap_or o []) ≡ Some x
said_by schema None x e = absurd cc
said_by schema (Some l) x e = cc

-- what an entry makes is the next statement of its unit's script
next_made : (e : Entry) (before es : List Entry) (left ss : List Statement) → map (λ (f : Entry). f.statement) (entries_of e.unit (before ++ e ∷ es)) ++ left ≡ ss → slice_get ss (length (entries_of e.unit before)) ≡ Some e.statement
next_made e before es left ss h =
    let mine : entries_of e.unit (before ++ e ∷ es) ≡ entries_of e.unit before ++ e ∷ entries_of e.unit es =
    filter-append (λ f. eqb f.unit e.unit) before (e ∷ es) ∙ ap (λ (xs : List Entry). entries_of e.unit before ++ xs) (cond-true _ _ _ (eq-eqb e.unit e.unit refl)) in
    let front = map (λ (f : Entry). f.statement) (entries_of e.unit before) in
    let back = map (λ (f : Entry). f.statement) (entries_of e.unit es) in
    let all : ss ≡ front ++ (e.statement ∷ (back ++ left)) =
    sym h ∙ ap (λ fs. map (λ (f : Entry). f.statement) fs ++ left) mine ∙ ap (λ (xs : List Statement). xs ++ left) (map-append (λ (f : Entry). f.statement) (entries_of e.unit before) (e ∷ entries_of e.unit es)) ∙ append_assoc front (e.statement ∷ back) left in
    ap (λ n. slice_get ss n) (sym (length-map (entries_of e.unit before) (λ (f : Entry). f.statement))) ∙ ap (λ xs. slice_get xs (length front)) all ∙ get_behind front e.statement (back ++ left)

module _ (schema : Lists) (texts : List (List ℕ)) (history : List Entry) (begin : BeginScripts schema texts history) where
  one_says : (before : List Entry) (e : Entry) (es : List Entry) → before ++ e ∷ es ≡ history → 1 ≤ e.unit → e.unit ≤ length texts → line_statement schema (line_beside (map statement_lines texts) before e) ≡ Some e.statement
  one_says before e es whole low high =
      let k = e.unit - 1 in
      let n = length (entries_of e.unit before) in
      let found = there_is texts k (omega arith) in
      let text = found.0 in
      let begins = begin k text found.1 in
      let same : k + 1 ≡ e.unit = omega arith in
      let made : map (λ (f : Entry). f.statement) (entries_of e.unit (before ++ e ∷ es)) ++ begins.0 ≡ script schema text =
      (λ i. map (λ (f : Entry). f.statement) (entries_of (sym same i) (whole i)) ++ begins.0) ∙ begins.1 in
      let own : lines_for (map statement_lines texts) e.unit ≡ statement_lines text =
      ap (λ o. unwrap_or o []) (slice_get-map statement_lines texts k ∙ ap (option_map statement_lines) found.1) in
      let at : option_map (line_statement schema) (slice_get (statement_lines text) n) ≡ Some (Some e.statement) =
      sym (slice_get-map (line_statement schema) (statement_lines text) n) ∙ ap (λ xs. slice_get xs n) (each_says schema (lines text)) ∙ slice_get-map Some (script schema text) n
      ∙ ap (option_map Some) (next_made e before es begins.0 (script schema text) made) in
      ap (λ ls. line_statement schema (unwrap_or (slice_get ls n) [])) own ∙ said_by schema (slice_get (statement_lines text) n) e.statement at

  all_say : (before es : List Entry) → before ++ es ≡ history → list_all (λ e. nat_le 1 e.unit && nat_le e.unit (length texts)) es ≡ true
      → map (line_statement schema) (lines_beside (map statement_lines texts) before es) ≡ map (λ (e : Entry). Some e.statement) es
  all_say before [] whole within = refl
  all_say before (e ∷ es) whole within =
      let parts = and_parts (nat_le 1 e.unit && nat_le e.unit (length texts)) (list_all (λ f. nat_le 1 f.unit && nat_le f.unit (length texts)) es) within in
      let bounds = and_parts (nat_le 1 e.unit) (nat_le e.unit (length texts)) parts.0 in
      let here = one_says before e es whole (leb-true 1 e.unit bounds.0) (leb-true e.unit (length texts) bounds.1) in
      let rest = all_say (before ++ e ∷ []) es (append_assoc before (e ∷ []) es ∙ whole) parts.1 in
      λ i. here i ∷ rest i

pub lines_say : EchoedLinesSayTheirStatements
lines_say schema texts history begin within = all_say schema texts history begin [] history refl within
