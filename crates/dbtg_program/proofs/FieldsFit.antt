-- The fields of a program that was read hold their values, whatever it does.
use Rattle.std.proofs.Common.{◌≡◌, ℕ, zero, suc, ◌+◌, ◌-◌, ◌*◌, ◌<◌, ◌≤◌, ◌^◌, Bool, true, false, cond, ◌&&◌, List, [], ◌∷◌, ◌++◌, length, map, Some, None, refl, sym, ap, ◌∙◌, arith, append_assoc}
use Rattle.std.specs.Prelude.{Option, option_map, slice_get, slice_set, unwrap_or, ◌==◌}
use Rattle.std.specs.List.{All, flat_map, list_all}
use Rattle.std.proofs.Math.Nat.{pow-succ'}
use Rattle.std.proofs.lemmas.Bool.{and_parts, eqb-true}
use Rattle.std.proofs.lemmas.Bool.Decides.{nat_tests}
use Rattle.std.proofs.lemmas.List.{length-append, length-map}
use Rattle.std.proofs.lemmas.List.Elements.{All-head, All-tail}
use Rattle.dbtg_schema.specs.Lists.{Lists}
use Rattle.dbtg_schema.specs.Lookups.{some_and}
use Rattle.dbtg_schema.specs.Sound.{IsSound}
use Rattle.dbtg_schema.specs.Structure.{pictures}
use Rattle.dbtg_schema.specs.WellFormed.{IsPicture, IsRecordType}
use Rattle.dbtg_schema.specs.declared.shape.Item.{Item}
use Rattle.dbtg_schema.specs.declared.shape.Picture.{Picture}
use Rattle.dbtg_schema.specs.declared.shape.Picture.TheVariants.{Number, Text as TextPicture}
use Rattle.dbtg_schema.specs.declared.shape.RecordType.{RecordType}
use Rattle.dbtg_cells.specs.declared.key.DbKey.{DbKey}
use Rattle.dbtg_cells.specs.declared.key.Value.{Value}
use Rattle.dbtg_cells.specs.declared.key.Value.TheVariants.{Num, Text}
use Rattle.dbtg_unit.specs.Database.Statements.Codes.{is_done}
use Rattle.dbtg_unit.specs.Database.Statements.Fits.{is_text_byte, value_fits, values_fit}
use Rattle.dbtg_unit.specs.declared.statement.Statement as said
use Rattle.dbtg_program.specs.declared.program.End.TheVariants as ending
use Rattle.dbtg_program.specs.declared.program.Line.{Line}
use Rattle.dbtg_program.specs.declared.program.Program.{Program}
use Rattle.dbtg_program.specs.declared.program.Sentence.{Sentence}
use Rattle.dbtg_program.specs.declared.program.Sentence.TheVariants.{Heading, Statement, Filled, Move, Add, Subtract, GoTo, If, Assert, Stop}
use Rattle.dbtg_program.specs.Conditions.{field_value, holds, value_of}
use Rattle.dbtg_program.specs.Going.{Due, Step, at_line, done, ends, filled, from_step, goes, has_room, line_at, line_number, made, makes, onward, placed, put, read_words, said_word, with_record, within}
use Rattle.dbtg_program.specs.Laws.{FieldsHoldTheirValues, are_held, items_fit, state_of}
use Rattle.dbtg_program.specs.Reading.{program}
use Rattle.dbtg_program.specs.States.{ProgramState}
use Rattle.dbtg_program.specs.Values.{added, as_field, can_hold, empty_value, field_of, fields_of, in_front_of, records_from, stripped, subtracted}

-- VALUES

power_grows : (n d : ℕ) → 10 ^ n ≤ 10 ^ (n + d)
power_grows n zero = let e : n + 0 ≡ n = omega arith in rw e (omega arith)
power_grows n (suc d) =
    let e : n + suc d ≡ suc (n + d) = omega arith in
    let h = power_grows n d in
    let p : 10 ^ suc (n + d) ≡ 10 * 10 ^ (n + d) = pow-succ' 10 (n + d) in
    let more : 10 ^ n ≤ 10 * 10 ^ (n + d) = omega arith in
    rw (e, p) more

empty_held : (p : Picture) → can_hold p (empty_value p) ≡ true
empty_held (Number n) = let h = power_grows 0 n in let e : 0 + n ≡ n = omega arith in let some : 0 < 10 ^ n = rw e at h in grind (arith, nat_tests)
empty_held (TextPicture n) = grind (arith, nat_tests)

all_empty : (fields : List Item) → are_held fields (map (λ (f : Item). empty_value f.picture) fields) ≡ true
all_empty [] = refl
all_empty (f ∷ fs) = λ i. empty_held f.picture i && all_empty fs i

set_held : (fields : List Item) (values : List Value) (k : ℕ) (v : Value) → are_held fields values ≡ true → some_and (λ (f : Item). can_hold f.picture v) (slice_get fields k) ≡ true → are_held fields (slice_set values k v) ≡ true
set_held [] [] k v h room = refl
set_held [] (w ∷ ws) k v h room = absurd cc
set_held (f ∷ fs) [] k v h room = absurd cc
set_held (f ∷ fs) (w ∷ ws) zero v h room = let p = and_parts (can_hold f.picture w) (are_held fs ws) h in (λ i. room i && p.1 i)
set_held (f ∷ fs) (w ∷ ws) (suc k) v h room = let p = and_parts (can_hold f.picture w) (are_held fs ws) h in (λ i. p.0 i && set_held fs ws k v p.1 room i)

-- UP TO THE NEXT STATEMENT

-- a step that goes on keeps the fields
abbrev Keeps : Program → Step → Type 0
Keeps p (goes state) = are_held p.fields state.values ≡ true
Keeps p (makes s) = Unit {0}
Keeps p (ends e) = Unit {0}

module _ (schema : Lists) (p : Program) where
  put_keeps : (state : ProgramState) (line f : ℕ) (v : Option Value) → are_held p.fields state.values ≡ true → Keeps p (put p state line f v)
  put_keeps state line f None h = tt
  put_keeps state line f (Some v) h = by_room (has_room p f v) refl
    where
      by_room : (b : Bool) → has_room p f v ≡ b → Keeps p (cond b (goes (record (onward state) { values = slice_set state.values f v })) (ends (ending.Size line)))
      by_room true e = set_held p.fields state.values f v h e
      by_room false e = tt

  made_keeps : (line : ℕ) (s : Option said.Statement) → Keeps p (made line s)
  made_keeps line None = tt
  made_keeps line (Some s) = tt

  sentence_keeps : (state : ProgramState) (line : ℕ) (s : Sentence) → are_held p.fields state.values ≡ true → Keeps p (done schema p state line s)
  sentence_keeps state line Heading h = h
  sentence_keeps state line (Statement s) h = tt
  sentence_keeps state line (Filled words) h = made_keeps line (read_words schema (map (said_word state) words))
  sentence_keeps state line (Move x f) h = put_keeps state line f (Some (value_of state x)) h
  sentence_keeps state line (Add x f) h = put_keeps state line f (added (value_of state x) (field_value state f)) h
  sentence_keeps state line (Subtract x f) h = put_keeps state line f (subtracted (value_of state x) (field_value state f)) h
  sentence_keeps state line (GoTo at) h = h
  sentence_keeps state line (If c at) h = elim (holds state c) as (λ b. are_held p.fields (cond b (record state { at = at }) (onward state)).values ≡ true) [ true ↦ h | false ↦ h ]
  sentence_keeps state line (Assert c) h = elim (holds state c) as (λ b. Keeps p (cond b (goes (onward state)) (ends (ending.Assert line)))) [ true ↦ h | false ↦ tt ]
  sentence_keeps state line Stop h = tt

  line_keeps : (state : ProgramState) (l : Option Line) → are_held p.fields state.values ≡ true → Keeps p (at_line schema p state l)
  line_keeps state None h = tt
  line_keeps state (Some l) h = sentence_keeps state l.number l.sentence h

  step_keeps : (step : Step) (state : ProgramState) (further : ProgramState → Due) → Keeps p step → are_held p.fields state.values ≡ true
      → ((behind : ProgramState) → are_held p.fields behind.values ≡ true → are_held p.fields (state_of (further behind)).values ≡ true) → are_held p.fields (state_of (from_step step state further)).values ≡ true
  step_keeps (goes behind) state further k h later = later behind k
  step_keeps (makes s) state further k h later = h
  step_keeps (ends e) state further k h later = h

  within_keeps : (n line : ℕ) (state : ProgramState) → are_held p.fields state.values ≡ true → are_held p.fields (state_of (within schema p n line state)).values ≡ true
  unfolding within
  within_keeps zero line state h = h
  within_keeps (suc n) line state h =
      step_keeps (at_line schema p state (line_at p state)) state (λ behind. within schema p n (line_number p state) behind) (line_keeps state (line_at p state) h) h
      (λ behind k. within_keeps n (line_number p state) behind k)

-- AFTER AN ANSWER

stripped_short : (t : List ℕ) → length (stripped t) ≤ length t
stripped_short [] = omega arith
stripped_short (b ∷ bs) = by_rest (stripped bs) (stripped_short bs)
  where
    by_rest : (xs : List ℕ) → length xs ≤ length bs → length (in_front_of b xs) ≤ length (b ∷ bs)
    by_rest [] h = elim (b == 32) as (λ t. length (cond t [] (b ∷ [])) ≤ length (b ∷ bs)) [ true ↦ omega arith | false ↦ omega arith ]
    by_rest (x ∷ xs) h = omega arith

fits_held : (p : Picture) (v : Value) → IsPicture p → value_fits p v ≡ true → can_hold p (as_field v) ≡ true
fits_held (Number n) (Num k) is h =
    let grows = power_grows n (18 - n) in
    let top : n + (18 - n) ≡ 18 = omega (arith, is.1) in
    let below : 10 ^ n ≤ 10 ^ 18 = rw top at grows in
    grind (arith, nat_tests)
fits_held (TextPicture n) (Text t) is h =
    let size : length t ≡ n = eqb-true (length t) n (and_parts (length t == n) (list_all is_text_byte t) h).0 in
    let short = stripped_short t in
    grind (arith, nat_tests)
fits_held (Number n) (Text t) is h = absurd cc
fits_held (TextPicture n) (Num k) is h = absurd cc

-- the fields from number k on have room for the values
abbrev have_room : List Item → ℕ → List Value → Bool
have_room fields k [] = true
have_room fields k (v ∷ vs) = some_and (λ (f : Item). can_hold f.picture v) (slice_get fields k) && have_room fields (k + 1) vs

placed_held : (fields : List Item) (values : List Value) (k : ℕ) (vs : List Value) → are_held fields values ≡ true → have_room fields k vs ≡ true → are_held fields (placed values k vs) ≡ true
placed_held fields values k [] h room = h
placed_held fields values k (v ∷ vs) h room =
    let p = and_parts (some_and (λ (f : Item). can_hold f.picture v) (slice_get fields k)) (have_room fields (k + 1) vs) room in
    set_held fields (placed values (k + 1) vs) k v (placed_held fields values (k + 1) vs h p.1) p.0

there : (front : List Item) (x : Item) (rest : List Item) → slice_get (front ++ x ∷ rest) (length front) ≡ Some x
there [] x rest = refl
there (y ∷ front) x rest = there front x rest

-- the fields of a record type have room for the values of its items
items_room : (t : RecordType) (items front rest : List Item) (vs : List Value) → All (λ i. IsPicture i.picture) items → values_fit (map (λ i. i.picture) items) vs ≡ true
    → have_room (front ++ (map (field_of t) items ++ rest)) (length front) (map as_field vs) ≡ true
items_room t [] front rest [] all h = refl
items_room t [] front rest (v ∷ vs) all h = absurd cc
items_room t (x ∷ xs) front rest [] all h = absurd cc
items_room t (x ∷ xs) front rest (v ∷ vs) all h =
    let q = and_parts (value_fits x.picture v) (values_fit (map (λ i. i.picture) xs) vs) h in
    let one = ap (some_and (λ (f : Item). can_hold f.picture (as_field v))) (there front (field_of t x) (map (field_of t) xs ++ rest)) ∙ fits_held x.picture v (All-head (λ i. IsPicture i.picture) x xs all) q.0 in
    let more = items_room t xs (front ++ field_of t x ∷ []) rest vs (All-tail (λ i. IsPicture i.picture) x xs all) q.1 in
    let moved : (front ++ field_of t x ∷ []) ++ (map (field_of t) xs ++ rest) ≡ front ++ (field_of t x ∷ (map (field_of t) xs ++ rest)) = append_assoc front (field_of t x ∷ []) (map (field_of t) xs ++ rest) in
    let count : length (front ++ field_of t x ∷ []) ≡ length front + 1 = length-append front (field_of t x ∷ []) in
    (λ i. one i && (sym (λ j. have_room (moved j) (count j) (map as_field vs)) ∙ more) i)

-- the fields of each record type have room too, from the first field that is kept for it
record_room : (schema : Lists) (types : List RecordType) (front rest : List Item) (r k : ℕ) (vs : List Value) → All (IsRecordType schema) types → slice_get (records_from (length front) types) r ≡ Some k
    → values_fit (map (λ i. i.picture) (unwrap_or (option_map (λ (t : RecordType). t.items) (slice_get types r)) [])) vs ≡ true
    → have_room (front ++ (flat_map fields_of types ++ rest)) k (map as_field vs) ≡ true
record_room schema [] front rest zero k vs all at h = absurd cc
record_room schema [] front rest (suc r) k vs all at h = absurd cc
record_room schema (t ∷ ts) front rest zero k vs all at h =
    let here : length front ≡ k = cc in
    let room = items_room t t.items front (flat_map fields_of ts ++ rest) vs (All-head (IsRecordType schema) t ts all).pictures h in
    ap (λ (fs : List Item). have_room (front ++ fs) k (map as_field vs)) (append_assoc (fields_of t) (flat_map fields_of ts) rest) ∙ ap (λ (n : ℕ). have_room (front ++ (fields_of t ++ (flat_map fields_of ts ++ rest))) n (map as_field vs)) (sym here) ∙ room
record_room schema (t ∷ ts) front rest (suc r) k vs all at h =
    let count : length (front ++ fields_of t) ≡ length front + length t.items = length-append front (fields_of t) ∙ ap (λ (n : ℕ). length front + n) (length-map t.items (field_of t)) in
    let more = record_room schema ts (front ++ fields_of t) rest r k vs (All-tail (IsRecordType schema) t ts all) (ap (λ (n : ℕ). slice_get (records_from n ts) r) count ∙ at) h in
    ap (λ (fs : List Item). have_room fs k (map as_field vs)) (ap (λ (gs : List Item). front ++ gs) (append_assoc (fields_of t) (flat_map fields_of ts) rest) ∙ sym (append_assoc front (fields_of t) (flat_map fields_of ts ++ rest))) ∙ more

module _ (schema : Lists) (text : List ℕ) (sound : IsSound schema) where
  record_held : (values : List Value) (k : Option ℕ) (key : DbKey) (items : List Value) → slice_get (program schema text).records key.rtype ≡ k → are_held (program schema text).fields values ≡ true
      → values_fit (pictures schema key.rtype) items ≡ true → are_held (program schema text).fields (with_record values k items) ≡ true
  record_held values None key items e h fit = h
  record_held values (Some k) key items e h fit =
      placed_held (program schema text).fields values k (map as_field items) h (record_room schema schema.types [] _ key.rtype k items sound.limits.types e fit)

  filled_held : (values : List Value) (items : Option (List Value)) (key : Option DbKey) → are_held (program schema text).fields values ≡ true → items_fit schema items key ≡ true
      → are_held (program schema text).fields (filled (program schema text) values items key) ≡ true
  filled_held values (Some items) (Some key) h fit = record_held values (slice_get (program schema text).records key.rtype) key items refl h fit
  filled_held values (Some items) None h fit = h
  filled_held values None key h fit = h

pub fields_hold : FieldsHoldTheirValues
fields_hold schema text sound = record {
  at_first = all_empty (program schema text).fields;
  at_next = λ state h. within_keeps schema (program schema text) 100000 0 state h;
  after = λ state s answer h fit.
      elim (is_done answer.status) as (λ b. are_held (program schema text).fields (cond b (filled (program schema text) state.values answer.items answer.key) state.values) ≡ true)
      [ true ↦ filled_held schema text sound state.values answer.items answer.key h fit | false ↦ h ];
}
