-- Each statement of a script that is read fits the schema.
use Rattle.std.proofs.Common.{◌≡◌, ℕ, ◌+◌, Bool, true, false, cond, not, ◌&&◌, List, [], ◌∷◌, ◌++◌, map, Some, None, refl, sym, ap, subst, ◌∙◌, inl, inr}
use Rattle.std.specs.Prelude.{codes, is_none, nat_le, Option, Result, Ok, Err, OnOk, IfOk, IfSome}
use Rattle.std.specs.List.{list_all}
use Rattle.std.proofs.lemmas.Bool.{not-false}
use Rattle.dbtg_schema.specs.Texts.Forms.{labelled, labels, some, Derives}
use Rattle.dbtg_schema.specs.Lists.{Lists}
use Rattle.dbtg_schema.specs.Lookups.{first}
use Rattle.dbtg_schema.specs.Sound.{IsSound}
use Rattle.dbtg_unit.specs.declared.limits.TheConstants.{MOST_STATEMENTS}
use Rattle.dbtg_unit.specs.Database.Statements.Fits.{fits as statement_fits, is_set, is_type, if_named}
use Rattle.dbtg_unit.specs.declared.statement.Statement.{Statement}
use Rattle.dbtg_unit.specs.declared.statement.Statement.TheVariants as unit_statement
use Rattle.dbtg_schema.specs.Structure.{item_list}
use Rattle.dbtg_schema.proofs.Public.{both_nil, none_at_all}
use Rattle.dbtg_script.specs.declared.fault.Fault.{Fault}
use Rattle.dbtg_script.specs.declared.fault.LineFault.{LineFault}
use Rattle.dbtg_script.specs.declared.fault.Cause.{Cause}
use Rattle.dbtg_script.specs.declared.fault.Cause.TheVariants.{LineNotAllowed, TooMuch, UnexpectedWord, UnknownSet}
use Rattle.dbtg_script.specs.declared.role.Role.{Role}
use Rattle.dbtg_script.specs.declared.role.Role.TheVariants as role
use Rattle.dbtg_script.specs.Labels.{has, lead, named, text_of, texts}
use Rattle.dbtg_script.specs.Lines.{ends_in_text, is_allowed, is_statement, lines, trimmed}
use Rattle.dbtg_script.specs.Lookups.{set_named, set_no, type_no}
use Rattle.dbtg_script.specs.StatementFaults.{count_after, too_long, faults_from, line_faults, lines_faults, refusal, statement_faults, type_in, type_text, when}
use Rattle.dbtg_script.specs.StatementGrammar.{Labelled, assignment, closing, deleting, find, fits, freeing, getting, inserting, key, modifying, opening, removing, statement, storing}
use Rattle.dbtg_script.specs.Statements.{change_of, line_statement, prepend, script, statement_by, statement_of, statements_of}
use Rattle.dbtg_script.specs.Tokens.{Token, tokens}
use Rattle.dbtg_script.proofs.Reading.Accepted.{derived_line, none_rest}
use Rattle.dbtg_script.proofs.Fitting.Derivations.{lacking, lead_of_derived, second, named_last}
use Rattle.dbtg_script.proofs.Fitting.FittingFinds.{find_fits}
use Rattle.dbtg_script.proofs.Fitting.FittingItems.{bits_fit, changes_differ, changes_fit, items_known, stored_fit}
use Rattle.dbtg_script.proofs.Fitting.FittingNames.{Clean, EachSaid, area_is, clean, not_when, set_is, type_is}
use Rattle.dbtg_script.proofs.Fitting.FittingValues.{all_sound, sound_labels, sound_tokens}

module _ (schema : Lists) (sound : IsSound schema) (ws : List Labelled) (c : Clean schema [] ws) (s : all_sound ws ≡ true) where
  -- INSERT and REMOVE name a set
  set_of : (r p : Role) (a b n : Token) → ws ≡ labelled r a ∷ labelled p b ∷ labelled role.SetName n ∷ [] → is_set schema (set_no schema (named role.SetName ws)) ≡ true
  set_of r p a b n e =
      let clean_words = subst (EachSaid schema []) e c.0 in
      ap (λ (z : List Labelled). is_set schema (set_no schema (named role.SetName z))) e
      ∙ ap (λ t. is_set schema (set_no schema t)) (named_last role.SetName (labelled r a ∷ labelled p b ∷ []) (labelled role.SetName n) [] refl refl)
      ∙ set_is schema (text_of n) (not_when (is_none (set_named schema (text_of n))) UnknownSet clean_words.1.1.0)

  modify_fits : Derives fits modifying ws → statement_fits schema (statement_by schema ws role.Modify) ≡ true
  modify_fits d =
      let n = d.4 in
      let t = text_of n.3.0 in
      let r = type_no schema t in
      let rest = n.1 in
      let front = labelled role.Modify d.3.0 ∷ labelled role.TypeName n.3.0 ∷ [] in
      let words : ws ≡ front ++ rest = d.2 ∙ (λ i. d.3.1 i ++ (n.2 ∙ ap (λ (z : List Labelled). z ++ n.1) n.3.1) i) in
      let no_type = lacking role.TypeName (some assignment) rest n.4 refl in
      let clean_rest = (subst (EachSaid schema []) words c.0).1.1 in
      let same : (xs : List Labelled) → has role.TypeName xs ≡ false → type_in schema (front ++ xs) ≡ r = λ xs h. ap (type_no schema) (named_last role.TypeName (labelled role.Modify d.3.0 ∷ []) (labelled role.TypeName n.3.0) xs refl h) in
      let cache = items_known schema r front same refl [] rest clean_rest refl no_type tt refl in
      let type : type_in schema ws ≡ r = ap (type_in schema) words ∙ same rest no_type in
      let names : texts role.ItemName ws ≡ texts role.ItemName rest = ap (texts role.ItemName) words in
      (λ i. statement_fits schema (unit_statement.Modify (type i) (map (change_of schema (type i) ws) (names i))))
      ∙ (λ i. (type_is schema sound.limits t i && changes_differ schema r ws (texts role.ItemName rest) cache.0 cache.1 i) && changes_fit schema r ws (texts role.ItemName rest) s cache.0 i)

  get_fits : statement_fits schema (statement_by schema ws role.Get) ≡ true
  get_fits = elim (has role.TypeName ws) as (λ b. if_named (is_type schema) (cond b (Some (type_in schema ws)) None) ≡ true) [ true ↦ type_is schema sound.limits (type_text ws) | false ↦ refl ]

  by_statement : Derives fits statement ws → statement_fits schema (statement_of schema ws) ≡ true
  by_statement (inl d) = ap (λ r. statement_fits schema (statement_by schema ws r)) (lead_of_derived role.Open (key (codes "OPEN")) (second opening) ws d) ∙ area_is schema sound.limits (named role.AreaName ws)
  by_statement (inr (inl d)) = ap (λ r. statement_fits schema (statement_by schema ws r)) (lead_of_derived role.Close (key (codes "CLOSE")) (second closing) ws d) ∙ area_is schema sound.limits (named role.AreaName ws)
  by_statement (inr (inr (inl d))) =
      ap (λ r. statement_fits schema (statement_by schema ws r)) (lead_of_derived role.Find (key (codes "FIND")) (second find) ws d) ∙ (λ i. find_fits schema sound ws c s d i && bits_fit ws schema.sets i)
  by_statement (inr (inr (inr (inl d)))) = ap (λ r. statement_fits schema (statement_by schema ws r)) (lead_of_derived role.Get (key (codes "GET")) (second getting) ws d) ∙ get_fits
  by_statement (inr (inr (inr (inr (inl d))))) =
      ap (λ r. statement_fits schema (statement_by schema ws r)) (lead_of_derived role.Store (key (codes "STORE")) (second storing) ws d)
      ∙ (λ i. (type_is schema sound.limits (type_text ws) i && stored_fit ws (item_list schema (type_in schema ws)) s i) && bits_fit ws schema.sets i)
  by_statement (inr (inr (inr (inr (inr (inl d)))))) =
      ap (λ r. statement_fits schema (statement_by schema ws r)) (lead_of_derived role.Insert (key (codes "INSERT")) (second inserting) ws d)
      ∙ set_of role.Insert role.Plain d.3.0 d.4.3.0 d.4.4.0 (d.2 ∙ (λ i. d.3.1 i ++ (d.4.2 ∙ (λ j. d.4.3.1 j ++ d.4.4.1 j)) i))
  by_statement (inr (inr (inr (inr (inr (inr (inl d))))))) =
      ap (λ r. statement_fits schema (statement_by schema ws r)) (lead_of_derived role.Remove (key (codes "REMOVE")) (second removing) ws d)
      ∙ set_of role.Remove role.Plain d.3.0 d.4.3.0 d.4.4.0 (d.2 ∙ (λ i. d.3.1 i ++ (d.4.2 ∙ (λ j. d.4.3.1 j ++ d.4.4.1 j)) i))
  by_statement (inr (inr (inr (inr (inr (inr (inr (inl d)))))))) = ap (λ r. statement_fits schema (statement_by schema ws r)) (lead_of_derived role.Modify (key (codes "MODIFY")) (second modifying) ws d) ∙ modify_fits d
  by_statement (inr (inr (inr (inr (inr (inr (inr (inr (inl d))))))))) = ap (λ r. statement_fits schema (statement_by schema ws r)) (lead_of_derived role.Delete (key (codes "DELETE")) (second deleting) ws d)
  by_statement (inr (inr (inr (inr (inr (inr (inr (inr (inr (inl d)))))))))) = ap (λ r. statement_fits schema (statement_by schema ws r)) (ap lead d.1)
  by_statement (inr (inr (inr (inr (inr (inr (inr (inr (inr (inr d)))))))))) = ap (λ r. statement_fits schema (statement_by schema ws r)) (lead_of_derived role.Free (key (codes "FREE")) (second freeing) ws d)

-- the statement of a line without faults fits
line_fits : (schema : Lists) → IsSound schema → (line : List ℕ) → is_allowed line ≡ true → first (statement_faults schema line) ≡ None → statement_fits schema (statement_of schema (labels fits statement (tokens false line))) ≡ true
line_fits schema sound line allowed h =
    let words = labels fits statement (tokens false line) in
    by_statement schema sound words (clean (tokens false line) schema [] statement (none_rest (when (ends_in_text false line) UnexpectedWord) (faults_from schema [] statement (tokens false line)) h))
    (sound_labels (tokens false line) statement (sound_tokens line allowed)) (derived_line schema line h)

-- A SCRIPT

none_later : (xs ys : List Fault) → first (xs ++ ys) ≡ None → first ys ≡ None
none_later [] ys h = h
none_later (x ∷ xs) ys h = absurd cc

pub none_here : (number : ℕ) (cs : List Cause) (ys : List Fault) → first (map (λ c. record { line = number; cause = c }) cs ++ ys) ≡ None → cs ≡ []
none_here number [] ys h = refl
none_here number (c ∷ cs) ys h = absurd cc

nothing_first : (cs : List Cause) → cs ≡ [] → first cs ≡ None
nothing_first cs h = ap first h

one_line : (schema : Lists) → IsSound schema → (count : ℕ) (line : List ℕ) (more : List Statement) → line_faults schema count line ≡ [] → list_all (statement_fits schema) more ≡ true → list_all (statement_fits schema) (prepend (line_statement schema line) more) ≡ true
one_line schema sound count line more h rest = by_kind (is_statement line) refl
  where
    parts : (b : Bool) → is_statement line ≡ b → (is_allowed line ≡ true) × (cond b (statement_faults schema line) [] ≡ [])
    parts b e =
        let a = both_nil (when (is_statement line && nat_le MOST_STATEMENTS count) TooMuch ++ when (not (is_allowed line)) LineNotAllowed) (cond (is_statement line) (statement_faults schema line) []) h in
        let x = both_nil (when (is_statement line && nat_le MOST_STATEMENTS count) TooMuch) (when (not (is_allowed line)) LineNotAllowed) a.0 in
        (not-false (is_allowed line) (not_when (not (is_allowed line)) LineNotAllowed x.1), ap (λ k. cond k (statement_faults schema line) []) (sym e) ∙ a.1)

    by_kind : (b : Bool) → is_statement line ≡ b → list_all (statement_fits schema) (prepend (cond b (Some (statement_of schema (labels fits statement (tokens false line)))) None) more) ≡ true
    by_kind true e = let p = parts true e in (λ i. line_fits schema sound line p.0 (nothing_first (statement_faults schema line) p.1) i && rest i)
    by_kind false e = rest

alone : (b : Bool) → b && true ≡ true → b ≡ true
alone true h = refl
alone false h = h

-- the statement of one line without faults, if it holds one
said_fits : (schema : Lists) → IsSound schema → (count : ℕ) (line : List ℕ) → first (line_faults schema count line) ≡ None → (said : Option Statement) → said ≡ line_statement schema line → IfSome said (λ x. statement_fits schema x ≡ true)
said_fits schema sound count line h None e = tt
said_fits schema sound count line h (Some x) e =
    alone (statement_fits schema x) (ap (λ s. list_all (statement_fits schema) (prepend s [])) e ∙ one_line schema sound count line [] (none_at_all (line_faults schema count line) h) refl)

pub line_read_fits : (schema : Lists) → IsSound schema → (count : ℕ) (line : List ℕ) (read : Result (Option Statement) LineFault) → OnOk read (first (line_faults schema count line) ≡ None) → IfOk read (λ said. said ≡ line_statement schema line)
    → IfOk read (λ said. IfSome said (λ x. statement_fits schema x ≡ true))
line_read_fits schema sound count line (Ok said) h e = said_fits schema sound count line h said e
line_read_fits schema sound count line (Err fault) h e = tt

each_line : (schema : Lists) → IsSound schema → (count number : ℕ) (ls : List (List ℕ)) → first (lines_faults schema count number ls) ≡ None → list_all (statement_fits schema) (statements_of schema ls) ≡ true
each_line schema sound count number [] h = refl
each_line schema sound count number (l ∷ ls) h =
    let later = lines_faults schema (count_after count (trimmed l)) (number + 1) ls in
    one_line schema sound count (trimmed l) (statements_of schema ls) (none_here number (line_faults schema count (trimmed l)) later h)
    (each_line schema sound (count_after count (trimmed l)) (number + 1) ls (none_later (map (λ c. record { line = number; cause = c }) (line_faults schema count (trimmed l))) later h))

-- every statement of a script without faults fits
pub script_fits : (schema : Lists) → IsSound schema → (text : List ℕ) → refusal schema text ≡ None → list_all (statement_fits schema) (script schema text) ≡ true
script_fits schema sound text h = each_line schema sound 0 1 (lines text) (none_later (too_long text) (lines_faults schema 0 1 (lines text)) h)
