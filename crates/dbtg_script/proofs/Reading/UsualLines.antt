-- Lines of usual forms say the statements that they are read as.
use Rattle.std.proofs.Common.{◌≡◌, ℕ, suc, ◌+◌, ◌<◌, Bool, true, false, not, ◌&&◌, cond, List, [], ◌∷◌, map, Option, Some, None, refl, sym, ap, ◌∙◌, inl, inr, arith, codes, true≢false}
use Rattle.std.specs.Prelude.{◌==◌, ◌^◌, Result, Ok, Err, IfOk, IfSome, min, nat_le, option_map, slice_get, unwrap_or}
use Rattle.std.specs.List.{position_from}
use Rattle.std.specs.Str.{bytes_eq}
use Rattle.std.proofs.lemmas.Bool.{cases_Bool, eq-eqb, ne_eqb}
use Rattle.std.proofs.lemmas.Bool.Decides.{nat_tests}
use Rattle.std.proofs.lemmas.Slice.Eq.{bytes_eq-Decides}
use Rattle.dbtg_schema.specs.Lists.{Lists}
use Rattle.dbtg_schema.specs.Lookups.{first}
use Rattle.dbtg_schema.specs.declared.shape.Calc.{Calc}
use Rattle.dbtg_schema.specs.declared.shape.Item.{Item}
use Rattle.dbtg_schema.specs.declared.shape.Picture.{Picture}
use Rattle.dbtg_schema.specs.Structure.{calc_of, item_list, order_of, picture_of}
use Rattle.dbtg_schema.specs.WellFormed.{is_sorted}
use Rattle.dbtg_cells.specs.declared.key.Value.{Value}
use Rattle.dbtg_schema.specs.Texts.Forms.{labelled, labels, start_with, starts}
use Rattle.dbtg_schema.proofs.Public.{bytes_same}
use Rattle.dbtg_unit.specs.declared.limits.TheConstants.{MOST_STATEMENTS}
use Rattle.dbtg_unit.specs.declared.statement.Statement.{Statement}
use Rattle.dbtg_unit.specs.declared.statement.Statement.TheVariants as statement
use Rattle.dbtg_unit.specs.declared.statement.Form.TheVariants as form
use Rattle.dbtg_unit.specs.declared.statement.Which.TheVariants as which
use Rattle.dbtg_script.specs.declared.automaton.State.TheVariants as state
use Rattle.dbtg_script.specs.declared.fault.Cause.TheVariants as cause
use Rattle.dbtg_script.specs.declared.role.Role.TheVariants as role
use Rattle.dbtg_script.specs.Inside.Automaton.{rest_of}
use Rattle.dbtg_script.specs.Inside.LineCache.{Says}
use Rattle.dbtg_script.specs.Lines.{ends_in_text, is_allowed, is_statement}
use Rattle.dbtg_script.specs.Lookups.{item_named, set_named, sort_picture, type_named}
use Rattle.dbtg_script.specs.Printing.Spelling.{is_key, is_signed, number}
use Rattle.dbtg_script.specs.Reading.{verdict}
use Rattle.dbtg_script.specs.StatementFaults.{differs_from, key_faults, value_faults, when, without_minus}
use Rattle.dbtg_script.specs.StatementGrammar.{Labelled, fits}
use Rattle.dbtg_script.specs.StatementGrammar as grammar
use Rattle.dbtg_script.specs.Statements.{calc_value, calc_values, key_of, name_at, signed, statement_of}
use Rattle.dbtg_script.specs.Tokens.{Token, equals, plain, tokens}
use Rattle.dbtg_script.specs.Inside.Usual.{AreSaid, IsCalcType, IsOfSet, IsOnlyGiven, calc_items, nothing}
use Rattle.dbtg_script.specs.Values.{spelled, up_to}
use Rattle.dbtg_script.proofs.Reading.ScriptSteps.{closed_line}
use Rattle.dbtg_script.proofs.Reading.Suppressed.{none_suppressed}
use Rattle.dbtg_script.proofs.Reading.Firsts.{first_else}
use Rattle.dbtg_script.proofs.Reading.Steps.{goes_on}
use Rattle.dbtg_script.proofs.Reading.UsualStores.{spelled_faultless}

-- A LINE

line_faultless : (schema : Lists) (count : ℕ) (line : List ℕ) → count < MOST_STATEMENTS → is_statement line ≡ true → is_allowed line ≡ true → ends_in_text false line ≡ false
    → verdict schema [] grammar.statement (tokens false line) ≡ None → (s : Statement) → statement_of schema (labels fits grammar.statement (tokens false line)) ≡ s → Says schema count line s
line_faultless schema count line few one allowed closed none s said =
    let room : nat_le MOST_STATEMENTS count ≡ false = grind (arith, nat_tests) in
    record {
      faultless = rw (one, room, allowed) (closed_line schema line closed ∙ none);
      said = rw one (ap Some said);
    }

by_parts : (allowed open_text : Bool) → (allowed && not open_text) ≡ true → (allowed ≡ true) × (open_text ≡ false)
by_parts true false h = (refl, refl)
by_parts true true h = absurd cc
by_parts false open_text h = absurd cc

pub allowed_and_closed : (line : List ℕ) → (is_allowed line && not (ends_in_text false line)) ≡ true → (is_allowed line ≡ true) × (ends_in_text false line ≡ false)
allowed_and_closed line = by_parts (is_allowed line) (ends_in_text false line)

pub line_says : (schema : Lists) (line : List ℕ) (s : Statement) → is_statement line ≡ true → is_allowed line ≡ true → ends_in_text false line ≡ false
    → AreSaid schema (tokens false line) s → (count : ℕ) → count < MOST_STATEMENTS → Says schema count line s
line_says schema line s one allowed closed h count few = line_faultless schema count line few one allowed closed h.faultless s h.said

pub what_is_said_is_so : {E : Type 0} (schema : Lists) (line : List ℕ) (r : Result (Option Statement) E) → is_statement line ≡ true → is_allowed line ≡ true → ends_in_text false line ≡ false
    → IfOk r (λ found. IfSome found (λ s. AreSaid schema (tokens false line) s)) → IfOk r (λ found. IfSome found (λ s. (count : ℕ) → count < MOST_STATEMENTS → Says schema count line s))
what_is_said_is_so schema line (Err e) one allowed closed h = tt
what_is_said_is_so schema line (Ok None) one allowed closed h = tt
what_is_said_is_so schema line (Ok (Some s)) one allowed closed h = line_says schema line s one allowed closed h

-- GET

pub get_said : (schema : Lists) (ts : List Token) → ts ≡ [] → AreSaid schema (plain (codes "GET") ∷ ts) (statement.Get None)
unfolding verdict
get_said schema ts none = record { faultless = rw none refl; said = rw none refl }

-- FIND KEY k

pub key_said : (schema : Lists) (t : List ℕ) → is_key t ≡ true → first (key_faults schema t) ≡ None
    → AreSaid schema (plain (codes "FIND") ∷ plain (codes "KEY") ∷ plain t ∷ []) (statement.Find nothing (form.Key (key_of schema t)))
unfolding verdict
key_said schema t key none = record {
  faultless = rw key (first_else (key_faults schema t) _ none);
  said = rw (key, none_suppressed _ schema.sets refl) refl;
}

-- FIND n OF s SET

-- a number is no word of letters
apart : (t k : List ℕ) → is_signed t ≡ true → is_signed k ≡ false → bytes_eq t k ≡ false
apart t k h g = elim (cases_Bool (bytes_eq t k)) [
  | inl e ↦ absurd (true≢false (sym h ∙ ap is_signed ((bytes_eq-Decides t k).0 e) ∙ g))
  | inr f ↦ f
]

number_starts : (t : List ℕ) → is_signed t ≡ true → start_with fits (plain t) (starts (rest_of state.Find)) ≡ Some (record { kind = grammar.signed; role = role.WhichNumber; rest = rest_of state.WhichOf })
number_starts t h =
    rw (
      apart t (codes "KEY") h refl,
      apart t (codes "CURRENT") h refl,
      apart t (codes "OWNER") h refl,
      apart t (codes "CALC") h refl,
      apart t (codes "SORTED") h refl,
      apart t (codes "NEXT") h refl,
      apart t (codes "FIRST") h refl,
      apart t (codes "LAST") h refl,
      apart t (codes "PRIOR") h refl,
      h,
    ) refl

-- a number that is capped high up is in range where the number is
pub capped : (n : ℕ) → up_to 999999 (min n (10 ^ 18)) ≡ up_to 999999 n
capped n = grind (arith, nat_tests)

in_range : (n : ℕ) → (n ≡ 0 → ⊥) → first (when (n == 0) cause.OutOfRange) ≡ None
in_range n some = rw (ne_eqb n 0 some) refl

of_set_said : (schema : Lists) (t name : List ℕ) (set : ℕ) → is_signed t ≡ true → (up_to 999999 (number (without_minus t)) ≡ 0 → ⊥) → set_named schema name ≡ Some set
    → AreSaid schema (plain (codes "FIND") ∷ plain t ∷ plain (codes "OF") ∷ plain name ∷ plain (codes "SET") ∷ []) (statement.Find nothing (form.InSet (which.Nth (signed t)) None set))
unfolding verdict
of_set_said schema t name set h some cache = record {
  faultless =
      goes_on schema (labelled role.Find (plain (codes "FIND")) ∷ []) (rest_of state.Find) (plain t) (plain (codes "OF") ∷ plain name ∷ plain (codes "SET") ∷ [])
      (record { kind = grammar.signed; role = role.WhichNumber; rest = rest_of state.WhichOf }) (number_starts t h) (in_range (up_to 999999 (number (without_minus t))) some)
      ∙ rw cache refl;
  said = rw (number_starts t h, cache, none_suppressed _ schema.sets refl) refl;
}

pub nth_said : (schema : Lists) (t : List ℕ) (ts : List Token) (set : ℕ) → is_signed t ≡ true → (up_to 999999 (number (without_minus t)) ≡ 0 → ⊥) → IsOfSet schema ts set
    → AreSaid schema (plain (codes "FIND") ∷ plain t ∷ ts) (statement.Find nothing (form.InSet (which.Nth (signed t)) None set))
nth_said schema t ts set h some of = rw of.words (of_set_said schema t of.name set h some of.cache)

-- FIND SORTED v OF s SET

by_key_of_set : (schema : Lists) (t : Token) (name : List ℕ) (set : ℕ) (p : Picture) (v : Value) → fits grammar.value t ≡ true → set_named schema name ≡ Some set → is_sorted (order_of schema set) ≡ true
    → sort_picture schema set ≡ Some p → spelled p t ≡ Some v
    → AreSaid schema (plain (codes "FIND") ∷ plain (codes "SORTED") ∷ t ∷ plain (codes "OF") ∷ plain name ∷ plain (codes "SET") ∷ []) (statement.Find nothing (form.Sorted set v))
unfolding verdict
by_key_of_set schema t name set p v h cache order picture is = record {
  faultless = rw (h, cache, order, picture) (spelled_faultless p t v is);
  said = rw (h, cache, picture, is, none_suppressed _ schema.sets refl) refl;
}

pub sorted_said : (schema : Lists) (t : Token) (ts : List Token) (set : ℕ) (p : Picture) (v : Value) → fits grammar.value t ≡ true → IsOfSet schema ts set → is_sorted (order_of schema set) ≡ true
    → sort_picture schema set ≡ Some p → spelled p t ≡ Some v
    → AreSaid schema (plain (codes "FIND") ∷ plain (codes "SORTED") ∷ t ∷ ts) (statement.Find nothing (form.Sorted set v))
sorted_said schema t ts set p v h of order picture is = rw of.words (by_key_of_set schema t of.name set p v h of.cache order picture is)

-- MODIFY r i = v

change_said : (schema : Lists) (name item : List ℕ) (t : Token) (r i : ℕ) (p : Picture) (v : Value) → type_named schema name ≡ Some r → item_named schema r item ≡ Some i → picture_of schema r i ≡ Some p
    → fits grammar.value t ≡ true → spelled p t ≡ Some v
    → AreSaid schema (plain (codes "MODIFY") ∷ plain name ∷ plain item ∷ equals ∷ t ∷ []) (statement.Modify r (record { item = i; value = v } ∷ []))
unfolding verdict
change_said schema name item t r i p v cache named picture h is = record {
  faultless = rw (h, cache, named, picture) (first_else (value_faults (Some p) t) _ (spelled_faultless p t v is));
  said = rw (h, cache, named, picture, bytes_same item, is) refl;
}

pub modify_said : (schema : Lists) (name : List ℕ) (ts : List Token) (r i : ℕ) (v : Value) → type_named schema name ≡ Some r → IsOnlyGiven schema r ts i v
    → AreSaid schema (plain (codes "MODIFY") ∷ plain name ∷ ts) (statement.Modify r (record { item = i; value = v } ∷ []))
modify_said schema name ts r i v cache g = rw g.words (change_said schema name g.name g.token r i g.picture v cache g.cache g.pictured g.value_word g.value_is)

-- FIND CALC r RECORD USING i = v

-- where a name is found, an item with this name stands
found_name : (n : List ℕ) (k : ℕ) (items : List Item) (j : ℕ) → position_from (bytes_eq n) k (map (λ (x : Item). x.name) items) ≡ Some j
    → (d : ℕ) × (j ≡ k + d) × (unwrap_or (option_map (λ (x : Item). x.name) (slice_get items d)) [] ≡ n)
found_name n k [] j e = absurd cc
found_name n k (x ∷ items) j e = elim (cases_Bool (bytes_eq n x.name)) [
  | inl h ↦ let at : Some k ≡ Some j = sym (ap (λ b. cond b (Some k) (position_from (bytes_eq n) (k + 1) (map (λ (x : Item). x.name) items))) h) ∙ e in
      let same : k ≡ j = cc in
      (0, omega (arith, same), sym ((bytes_eq-Decides n x.name).0 h))
  | inr h ↦ let r = found_name n (k + 1) items j (sym (ap (λ b. cond b (Some k) (position_from (bytes_eq n) (k + 1) (map (λ (x : Item). x.name) items))) h) ∙ e) in
      (suc r.0, omega (arith, r.1), r.2)
]

name_is : (schema : Lists) (r : ℕ) (n : List ℕ) (i : ℕ) → item_named schema r n ≡ Some i → name_at schema r i ≡ n
name_is schema r n i e =
    let f = found_name n 0 (item_list schema r) i e in
    let same : i ≡ f.0 = omega (arith, f.1) in
    ap (name_at schema r) same ∙ f.2

-- a CALC clause of one item
used_rightly : (calc : Option Calc) (i : ℕ) → calc_items calc ≡ i ∷ [] → differs_from calc (i ∷ []) ≡ false
used_rightly None i e = absurd cc
used_rightly (Some calc) i e = rw (e, eq-eqb i i refl) refl

one_value : (schema : Lists) (r : ℕ) (ws : List Labelled) (calc : Option Calc) (i : ℕ) → calc_items calc ≡ i ∷ [] → calc_values schema r ws calc ≡ calc_value schema r ws i ∷ []
one_value schema r ws None i e = absurd cc
one_value schema r ws (Some calc) i e = ap (map (calc_value schema r ws)) e

calc_said : (schema : Lists) (name item : List ℕ) (t : Token) (r i : ℕ) (p : Picture) (v : Value) → type_named schema name ≡ Some r → calc_items (calc_of schema r) ≡ i ∷ [] → item_named schema r item ≡ Some i
    → picture_of schema r i ≡ Some p → fits grammar.value t ≡ true → spelled p t ≡ Some v
    → AreSaid schema (plain (codes "FIND") ∷ plain (codes "CALC") ∷ plain name ∷ plain (codes "RECORD") ∷ plain (codes "USING") ∷ plain item ∷ equals ∷ t ∷ []) (statement.Find nothing (form.Calc r (v ∷ [])))
unfolding verdict
calc_said schema name item t r i p v cache calc named picture h is = record {
  faultless = rw (h, cache, named, picture, used_rightly (calc_of schema r) i calc) (first_else (value_faults (Some p) t) _ (spelled_faultless p t v is));
  said = rw (h, cache, one_value schema r _ (calc_of schema r) i calc, name_is schema r item i named, picture, bytes_same item, is, none_suppressed _ schema.sets refl) refl;
}

pub find_calc_said : (schema : Lists) (before after : List Token) (r i : ℕ) (v : Value) → IsCalcType schema r before after → calc_items (calc_of schema r) ≡ i ∷ [] → IsOnlyGiven schema r after i v
    → AreSaid schema (plain (codes "FIND") ∷ plain (codes "CALC") ∷ before) (statement.Find nothing (form.Calc r (v ∷ [])))
find_calc_said schema before after r i v c calc g =
    rw (c.words, g.words) (calc_said schema c.name g.name g.token r i g.picture v c.cache calc g.cache g.pictured g.value_word g.value_is)
