-- The values that a program has can be spelled in a line, and so can the words of each statement that is due.
use Rattle.std.proofs.Common.{◌≡◌, ℕ, zero, suc, ◌+◌, ◌-◌, ◌^◌, Bool, true, false, List, [], ◌∷◌, length, map, Option, Some, None, slice_get, refl, arith}
use Rattle.std.specs.Prelude.{◌==◌, decimal, if◌then◌else◌, nat_le, nat_lt, slice_set, unwrap_or}
use Rattle.std.specs.List.{All, list_all}
use Rattle.std.proofs.lemmas.Bool.{and_from, and_parts, lt-ltb, ltb-true}
use Rattle.std.proofs.lemmas.List.Elements.{All-head, All-tail}
use Rattle.dbtg_schema.specs.Lists.{Lists}
use Rattle.dbtg_schema.specs.Sound.{IsSound}
use Rattle.dbtg_schema.specs.Structure.{item_list}
use Rattle.dbtg_schema.specs.WellFormed.{IsPicture}
use Rattle.dbtg_schema.specs.Texts.Spelling.{is_digit}
use Rattle.dbtg_schema.specs.declared.shape.Item.{Item}
use Rattle.dbtg_schema.specs.declared.shape.Picture.{Picture}
use Rattle.dbtg_schema.specs.declared.shape.Picture.TheVariants.{Number, Text as TextPicture}
use Rattle.dbtg_cells.specs.declared.key.DbKey.{DbKey}
use Rattle.dbtg_cells.specs.declared.key.Value.{Value}
use Rattle.dbtg_cells.specs.declared.key.Value.TheVariants.{Num, Text}
use Rattle.dbtg_unit.specs.Database.Statements.Codes.{is_done}
use Rattle.dbtg_unit.specs.Database.Statements.Fits.{is_text_byte, value_fits, values_fit}
use Rattle.dbtg_unit.specs.declared.statement.Statement as said
use Rattle.dbtg_unit.specs.declared.unit.Answer.{Answer}
use Rattle.dbtg_script.specs.Tokens.{plain, literal}
use Rattle.dbtg_program.specs.declared.program.Word.{Word}
use Rattle.dbtg_program.specs.declared.program.Word.TheVariants as word
use Rattle.dbtg_program.specs.declared.program.Operand.{Operand}
use Rattle.dbtg_program.specs.declared.program.Operand.TheVariants as operand
use Rattle.dbtg_program.specs.declared.program.Sentence.{Sentence}
use Rattle.dbtg_program.specs.declared.program.Sentence.TheVariants.{Heading, Statement, Filled, Move, Add, Subtract, GoTo, If, Assert, Stop}
use Rattle.dbtg_program.specs.declared.program.Line.{Line}
use Rattle.dbtg_program.specs.declared.program.Program.{Program}
use Rattle.dbtg_program.specs.declared.program.End.TheVariants as ending
use Rattle.dbtg_program.specs.Conditions.{field_value, holds, value_of}
use Rattle.dbtg_program.specs.Going.{Due, Step, at_line, done, due, ended, ends, filled, from_step, goes, has_room, line_at, line_number, literal_of, made, makes, placed, put, read_words, said_word, told, with_record, within}
use Rattle.dbtg_program.specs.States.{ProgramState}
use Rattle.dbtg_program.specs.Values.{added, as_field, empty_value, in_front_of, stripped, subtracted}
use Rattle.dbtg_trace.specs.Laws.{IsSayable}
use Rattle.dbtg_trace.proofs.Public.{all_digits, all_imply, digit_shows, items_pass, letters_of_number, number_is_low, shows}
use Rattle.dbtg_running.proofs.ReadBack.Words.{is_word}

-- VALUES

-- the value can be spelled
abbrev pub can_say : Value → Bool
can_say (Num n) = nat_lt n (2 ^ 64)
can_say (Text t) = list_all is_text_byte t

-- each value of a state can be spelled
abbrev pub Says : List Value → Type 0
Says values = list_all can_say values ≡ true

literal_is_word : (v : Value) → can_say v ≡ true → is_word (literal_of v) ≡ true
literal_is_word (Num n) h =
    let low = ltb-true n (2 ^ 64) h in
    let d = and_parts (nat_lt 0 (length (decimal n))) (list_all is_digit (decimal n)) (all_digits n low) in
    and_from _ _ (and_from _ _ d.0 (letters_of_number n low)) (all_imply is_digit shows digit_shows (decimal n) d.1)
literal_is_word (Text t) h = h

pub at_or : {X : Type 0} (p : X → Bool) (xs : List X) (n : ℕ) (d : X) → list_all p xs ≡ true → p d ≡ true → p (unwrap_or (slice_get xs n) d) ≡ true
at_or p [] n d h e = e
at_or p (x ∷ xs) zero d h e = (and_parts (p x) (list_all p xs) h).0
at_or p (x ∷ xs) (suc n) d h e = at_or p xs n d (and_parts (p x) (list_all p xs) h).1 e

field_says : (state : ProgramState) (f : ℕ) → Says state.values → can_say (field_value state f) ≡ true
field_says state f h = at_or can_say state.values f (Num 0) h (lt-ltb 0 (2 ^ 64) (omega arith))

set_says : (values : List Value) (k : ℕ) (v : Value) → Says values → can_say v ≡ true → Says (slice_set values k v)
set_says [] k v h e = refl
set_says (x ∷ xs) zero v h e = and_from _ _ e (and_parts (can_say x) (list_all can_say xs) h).1
set_says (x ∷ xs) (suc k) v h e = let p = and_parts (can_say x) (list_all can_say xs) h in and_from _ _ p.0 (set_says xs k v p.1 e)

-- AN ANSWER

front_says : (b : ℕ) (ts : List ℕ) → is_text_byte b ≡ true → list_all is_text_byte ts ≡ true → list_all is_text_byte (in_front_of b ts) ≡ true
front_says b [] h g = by (b == 32)
  where
    by : (k : Bool) → list_all is_text_byte (if k then [] else b ∷ []) ≡ true
    by true = refl
    by false = and_from _ _ h refl
front_says b (c ∷ cs) h g = and_from _ _ h g

pub stripped_says : (t : List ℕ) → list_all is_text_byte t ≡ true → list_all is_text_byte (stripped t) ≡ true
stripped_says [] h = refl
stripped_says (b ∷ bs) h = let p = and_parts (is_text_byte b) (list_all is_text_byte bs) h in front_says b (stripped bs) p.0 (stripped_says bs p.1)

item_says : (p : Picture) (v : Value) → IsPicture p → value_fits p v ≡ true → can_say (as_field v) ≡ true
item_says (Number n) (Num v) is h = lt-ltb v (2 ^ 64) (number_is_low n v is.1 h)
item_says (Number n) (Text t) is h = absurd cc
item_says (TextPicture n) (Num v) is h = absurd cc
item_says (TextPicture n) (Text t) is h = stripped_says t (and_parts (length t == n) (list_all is_text_byte t) h).1

items_say : (items : List Item) (vs : List Value) → All (λ i. IsPicture i.picture) items → values_fit (map (λ i. i.picture) items) vs ≡ true → Says (map as_field vs)
items_say items [] good h = refl
items_say [] (v ∷ vs) good h = absurd cc
items_say (i ∷ items) (v ∷ vs) good h =
    let p = and_parts (value_fits i.picture v) (values_fit (map (λ i. i.picture) items) vs) h in
    and_from _ _ (item_says i.picture v (All-head (λ (j : Item). IsPicture j.picture) i items good) p.0) (items_say items vs (All-tail (λ (j : Item). IsPicture j.picture) i items good) p.1)

placed_says : (values : List Value) (k : ℕ) (vs : List Value) → Says values → Says vs → Says (placed values k vs)
placed_says values k [] h g = h
placed_says values k (v ∷ vs) h g = let p = and_parts (can_say v) (list_all can_say vs) g in set_says (placed values (k + 1) vs) k v (placed_says values (k + 1) vs h p.1) p.0

module _ (schema : Lists) (sound : IsSound schema) (program : Program) where
  filled_says : (values : List Value) (items : Option (List Value)) (key : Option DbKey) → IsSayable schema key items → Says values → Says (filled program values items key)
  filled_says values None key is h = h
  filled_says values (Some items) None is h = h
  filled_says values (Some items) (Some key) is h = by (slice_get program.records key.rtype)
    where
      good : All (λ i. IsPicture i.picture) (item_list schema key.rtype)
      good = items_pass (λ i. IsPicture i.picture) schema.types key.rtype (λ k d below. let t = sound.limits.types k d below in t.pictures)

      by : (o : Option ℕ) → Says (with_record values o items)
      by None = h
      by (Some k) = placed_says values k (map as_field items) h (items_say (item_list schema key.rtype) items good is.1)

  -- after an answer that can be said, the values can still be spelled
  pub told_says : (state : ProgramState) (s : said.Statement) (answer : Answer) → IsSayable schema answer.key answer.items → Says state.values → Says (told program state s answer).values
  told_says state s answer is h = by (is_done answer.status)
    where
      by : (k : Bool) → Says (if k then filled program state.values answer.items answer.key else state.values)
      by true = filled_says state.values answer.items answer.key is h
      by false = h

pub beginning_says : (items : List Item) → Says (map (λ f. empty_value f.picture) items)
beginning_says [] = refl
beginning_says (i ∷ items) = and_from _ _ (empty i.picture) (beginning_says items)
  where
    empty : (p : Picture) → can_say (empty_value p) ≡ true
    empty (Number n) = lt-ltb 0 (2 ^ 64) (omega arith)
    empty (TextPicture n) = refl

-- A SENTENCE

-- the operand can be spelled, and the word can stand in a line
abbrev pub operand_says : Operand → Bool
operand_says (operand.Literal v) = can_say v
operand_says (operand.Field f) = true

abbrev pub word_says : Word → Bool
word_says (word.Plain t) = is_word (plain t)
word_says word.Equals = true
word_says (word.Literal t) = is_word (literal t)
word_says (word.Field f) = true

abbrev pub sentence_says : Sentence → Bool
sentence_says (Filled words) = list_all word_says words
sentence_says (Move x f) = operand_says x
sentence_says _ = true

pub words_said : (state : ProgramState) (words : List Word) → list_all word_says words ≡ true → Says state.values → list_all is_word (map (said_word state) words) ≡ true
words_said state [] h g = refl
words_said state (w ∷ words) h g = let p = and_parts (word_says w) (list_all word_says words) h in and_from _ _ (one w p.0) (words_said state words p.1 g)
  where
    one : (w : Word) → word_says w ≡ true → is_word (said_word state w) ≡ true
    one (word.Plain t) e = e
    one word.Equals e = refl
    one (word.Literal t) e = e
    one (word.Field f) e = literal_is_word (field_value state f) (field_says state f g)

value_says : (state : ProgramState) (x : Operand) → Says state.values → operand_says x ≡ true → can_say (value_of state x) ≡ true
value_says state (operand.Literal v) h e = e
value_says state (operand.Field f) h e = field_says state f h

-- a value, if there is one, can be spelled
abbrev MaySay : Option Value → Type 0
MaySay None = Unit {0}
MaySay (Some v) = can_say v ≡ true

added_says : (x f : Value) → MaySay (added x f)
added_says (Num x) (Num f) = by (nat_lt (f + x) (10 ^ 18)) refl
  where
    by : (k : Bool) → nat_lt (f + x) (10 ^ 18) ≡ k → MaySay (if k then Some (Num (f + x)) else None)
    by true e = lt-ltb (f + x) (2 ^ 64) (number_is_low 18 (f + x) (omega arith) e)
    by false e = tt
added_says (Num x) (Text f) = tt
added_says (Text x) f = tt

subtracted_says : (x f : Value) → can_say f ≡ true → MaySay (subtracted x f)
subtracted_says (Num x) (Num f) h = by (nat_le x f)
  where
    by : (k : Bool) → MaySay (if k then Some (Num (f - x)) else None)
    by true = let low = ltb-true f (2 ^ 64) h in lt-ltb (f - x) (2 ^ 64) (omega (arith, low))
    by false = tt
subtracted_says (Num x) (Text f) h = tt
subtracted_says (Text x) f h = tt

-- a step leaves values that can be spelled
abbrev Kept : Step → Type 0
Kept (goes state) = Says state.values
Kept (makes s) = Unit {0}
Kept (ends how) = Unit {0}

put_kept : (program : Program) (state : ProgramState) (line f : ℕ) (v : Option Value) → Says state.values → MaySay v → Kept (put program state line f v)
put_kept program state line f None h e = tt
put_kept program state line f (Some v) h e = by (has_room program f v)
  where
    by : (k : Bool) → Kept (if k then goes (record { at = state.at + 1; values = slice_set state.values f v; status = state.status }) else put program state line f None)
    by true = set_says state.values f v h e
    by false = tt

made_kept : (line : ℕ) (o : Option said.Statement) → Kept (made line o)
made_kept line None = tt
made_kept line (Some s) = tt

done_kept : (schema : Lists) (program : Program) (state : ProgramState) (line : ℕ) (s : Sentence) → Says state.values → sentence_says s ≡ true → Kept (done schema program state line s)
done_kept schema program state line Heading h e = h
done_kept schema program state line (Statement s) h e = tt
done_kept schema program state line (Filled words) h e = made_kept line (read_words schema (map (said_word state) words))
done_kept schema program state line (Move x f) h e = put_kept program state line f (Some (value_of state x)) h (value_says state x h e)
done_kept schema program state line (Add x f) h e = put_kept program state line f (added (value_of state x) (field_value state f)) h (added_says (value_of state x) (field_value state f))
done_kept schema program state line (Subtract x f) h e =
    put_kept program state line f (subtracted (value_of state x) (field_value state f)) h (subtracted_says (value_of state x) (field_value state f) (field_says state f h))
done_kept schema program state line (GoTo at) h e = h
done_kept schema program state line (If condition at) h e = by (holds state condition)
  where
    by : (k : Bool) → Kept (goes (if k then record state { at = at } else record state { at = state.at + 1 }))
    by true = h
    by false = h
done_kept schema program state line (Assert condition) h e = by (holds state condition)
  where
    by : (k : Bool) → Kept (if k then goes (record state { at = state.at + 1 }) else ends (ending.Assert line))
    by true = h
    by false = tt
done_kept schema program state line Stop h e = tt

-- UP TO THE NEXT STATEMENT

module _ (schema : Lists) (program : Program) (each : (x : Line) (i : ℕ) → slice_get program.lines i ≡ Some x → sentence_says x.sentence ≡ true) where
  at_kept : (state : ProgramState) → Says state.values → Kept (at_line schema program state (line_at program state))
  at_kept state h = by (line_at program state) refl
    where
      by : (o : Option Line) → line_at program state ≡ o → Kept (at_line schema program state o)
      by None e = tt
      by (Some l) e = done_kept schema program state l.number l.sentence h (each l state.at e)

  -- if a statement is due, the values can be spelled, and the line at which the program stands makes it
  abbrev pub Stands : Due → Type 0
  Stands (due at s) = Says at.values × (at_line schema program at (line_at program at) ≡ makes s)
  Stands (ended at how) = Unit {0}

  pub within_stands : (n line : ℕ) (state : ProgramState) → Says state.values → Stands (within schema program n line state)
  unfolding within
  within_stands zero line state h = tt
  within_stands (suc n) line state h = by (λ m behind k. within_stands n m behind k) (at_line schema program state (line_at program state)) refl (at_kept state h)
    where
      by : ((m : ℕ) (behind : ProgramState) → Says behind.values → Stands (within schema program n m behind)) → (x : Step) → at_line schema program state (line_at program state) ≡ x → Kept x → Stands (from_step x state (λ behind. within schema program n (line_number program state) behind))
      by further (goes behind) e k = further (line_number program state) behind k
      by further (makes s) e k = (h, e)
      by further (ends how) e k = tt
