-- A printed answer is read back.
use Rattle.std.proofs.Common.{◌≡◌, ℕ, zero, suc, ◌+◌, ◌*◌, ◌-◌, ◌/◌, ◌%◌, ◌^◌, ◌<◌, ◌≤◌, Bool, true, false, not, ◌&&◌, ◌||◌, List, [], ◌∷◌, ◌++◌, length, map, replicate, Option, Some, None, refl, ap, ◌∙◌, arith, append_assoc}
use Rattle.std.proofs.Math.Nat.{pow-succ'}
use Rattle.std.specs.Prelude.{◌==◌, decimal, if◌then◌else◌, is_none, nat_le, nat_lt, option_and_then, option_map, slice_get, unwrap_or}
use Rattle.std.specs.List.{All, list_all}
use Rattle.std.proofs.lemmas.Bool.{and_from, and_parts, eqb-true}
use Rattle.std.proofs.lemmas.Bool.Decides.{nat_tests}
use Rattle.std.proofs.lemmas.List.{append-nil}
use Rattle.std.proofs.lemmas.List.Elements.{All-head, All-tail}
use Rattle.std.proofs.lemmas.Slice.Eq.{bytes_eq-Decides}
use Rattle.dbtg_schema.specs.Lists.{Lists}
use Rattle.dbtg_schema.specs.Lookups.{first}
use Rattle.dbtg_schema.specs.Named.{IsNamed}
use Rattle.dbtg_schema.specs.Texts.Spelling.{is_digit, is_name, is_name_byte}
use Rattle.dbtg_schema.specs.WellFormed.{IsPicture}
use Rattle.dbtg_schema.specs.declared.shape.Item.{Item}
use Rattle.dbtg_schema.specs.declared.shape.Picture.{Picture}
use Rattle.dbtg_schema.specs.declared.shape.Picture.TheVariants.{Number, Text as TextPicture}
use Rattle.dbtg_schema.specs.declared.shape.RecordType.{RecordType}
use Rattle.dbtg_cells.specs.declared.key.DbKey.{DbKey}
use Rattle.dbtg_cells.specs.declared.key.Value.{Value}
use Rattle.dbtg_cells.specs.declared.key.Value.TheVariants.{Num, Text}
use Rattle.dbtg_unit.specs.Database.Statements.Codes.{cause_code, statement_code, status_code}
use Rattle.dbtg_unit.specs.Database.Statements.Fits.{is_text_byte, value_fits, values_fit}
use Rattle.dbtg_unit.specs.declared.statement.Statement.{Statement}
use Rattle.dbtg_unit.specs.declared.statement.Statement.TheVariants as statement
use Rattle.dbtg_unit.specs.declared.unit.Cause.{Cause}
use Rattle.dbtg_unit.specs.declared.unit.Cause.TheVariants as why
use Rattle.dbtg_unit.specs.declared.unit.Status.{Status}
use Rattle.dbtg_unit.specs.declared.unit.Status.TheVariants.{Done, Refused}
use Rattle.dbtg_script.specs.declared.fault.Cause.TheVariants as cause
use Rattle.dbtg_script.specs.Laws.{IsKeyOf}
use Rattle.dbtg_script.specs.Lookups.{type_named}
use Rattle.dbtg_script.specs.Printing.Spelling.{behind, generation, has_byte, in_front, is_key, is_number, key_name, key_number, number}
use Rattle.dbtg_script.specs.Printing.Texts.{four_digits, generation_text, items_text, key_text, type_name, value_text}
use Rattle.dbtg_script.specs.StatementFaults.{key_faults, when}
use Rattle.dbtg_script.specs.Statements.{key_of}
use Rattle.dbtg_script.specs.Tokens.{Token, plain, equals, literal, is_letter, tokens}
use Rattle.dbtg_script.specs.Values.{filled, spelled, up_to}
use Rattle.dbtg_script.proofs.Public.{behind_of, front_of, no_digit, number_decimal, number_part, printed_key, there}
use Rattle.dbtg_trace.specs.Answers.{key_in, status_in, value_in, values_in}
use Rattle.dbtg_trace.proofs.ReadBack.Grammar.{some_bytes}
use Rattle.dbtg_trace.proofs.ReadBack.Words.{all_append, all_digits, all_imply, apart, behind_equals, behind_space, digit_is_letter, digits, text_of, word_of}

-- THE STATUS

few_statements : (s : Statement) → statement_code s ≤ 11
few_statements (statement.OpenArea a m) = omega arith
few_statements (statement.CloseArea a) = omega arith
few_statements (statement.Find s f) = omega arith
few_statements (statement.Get r) = omega arith
few_statements (statement.Store r v s) = omega arith
few_statements (statement.Insert s) = omega arith
few_statements (statement.Remove s) = omega arith
few_statements (statement.Modify r c) = omega arith
few_statements (statement.Delete o) = omega arith
few_statements statement.Keep = omega arith
few_statements (statement.Free a) = omega arith

few_causes : (c : Cause) → cause_code c ≤ 31
few_causes why.AreaNotOpen = omega arith
few_causes why.ChangedByAnother = omega arith
few_causes why.DuplicatesNotAllowed = omega arith
few_causes why.NoSuchCurrent = omega arith
few_causes why.End = omega arith
few_causes why.UpdateModeNeeded = omega arith
few_causes why.NoRoom = omega arith
few_causes why.NoCurrentOfRunUnit = omega arith
few_causes why.MandatoryAutomatic = omega arith
few_causes why.Mandatory = omega arith
few_causes why.AlreadyMember = omega arith
few_causes why.Deleted = omega arith
few_causes why.OtherRecordType = omega arith
few_causes why.NotMember = omega arith
few_causes why.PositionLost = omega arith
few_causes why.NoneSatisfies = omega arith
few_causes why.AreaAlreadyOpen = omega arith
few_causes why.UsageConflict = omega arith
few_causes why.OwnerHasMembers = omega arith
few_causes why.NotKept = omega arith

pub short_status : (s : Statement) (st : Status) → status_code s st < 10000
short_status s Done = omega arith
short_status s (Refused c) = let a = few_statements s in let b = few_causes c in omega (arith, a, b)

a_digit : (n : ℕ) → n ≤ 9 → is_digit (48 + n) ≡ true
a_digit n h = grind (arith, nat_tests)

pub status_digits : (n : ℕ) → n < 10000 → list_all is_digit (four_digits n) ≡ true
status_digits n h =
    and_from _ _ (a_digit (n / 1000) (omega arith)) (and_from _ _ (a_digit (n / 100 % 10) (omega arith)) (and_from _ _ (a_digit (n / 10 % 10) (omega arith)) (and_from _ _ (a_digit (n % 10) (omega arith)) refl)))

four_spell : (n : ℕ) → n < 10000 → number (four_digits n) ≡ n
four_spell n h = omega arith

pub status_back : (n : ℕ) → n < 10000 → status_in (four_digits n) ≡ Some n
status_back n h =
    ap (λ (b : Bool). if b then Some (number (four_digits n)) else None) (and_from _ _ refl (and_from _ _ refl (status_digits n h))) ∙ ap (λ (k : ℕ). Some k) (four_spell n h)

-- NAMES

name_is_letter : (b : ℕ) → is_name_byte b ≡ true → is_letter b ≡ true
name_is_letter b h = grind (arith, nat_tests, h)

pub name_bytes : (w : List ℕ) → is_name w ≡ true → list_all is_name_byte w ≡ true
name_bytes w h = (and_parts _ _ (and_parts _ _ (and_parts _ _ h).0).0).1

pub some_name : (w : List ℕ) → is_name w ≡ true → nat_lt 0 (length w) ≡ true
some_name w h = (and_parts _ _ (and_parts _ _ (and_parts _ _ (and_parts _ _ (and_parts _ _ h).0).0).0).0).0

pub letters_of_name : (w : List ℕ) → is_name w ≡ true → list_all is_letter w ≡ true
letters_of_name w h = all_imply is_name_byte is_letter name_is_letter w (name_bytes w h)

pub letters_of_number : (n : ℕ) → n < 2 ^ 64 → list_all is_letter (decimal n) ≡ true
letters_of_number n h = all_imply is_digit is_letter digit_is_letter (decimal n) (digits n h)

pub type_is_named : (ts : List RecordType) (r : ℕ) → r < length ts → All (λ t. is_name t.name ≡ true) ts → is_name (unwrap_or (option_map (λ t. t.name) (slice_get ts r)) []) ≡ true
type_is_named [] r h all = absurd (omega (arith, h))
type_is_named (t ∷ ts) zero h all = All-head (λ (t : RecordType). is_name t.name ≡ true) t ts all
type_is_named (t ∷ ts) (suc r) h all = type_is_named ts r (omega (arith, h)) (All-tail (λ (t : RecordType). is_name t.name ≡ true) t ts all)

pub items_pass : (P : Item → Type 0) (ts : List RecordType) (r : ℕ) → All (λ t. All P t.items) ts → All P (unwrap_or (option_map (λ t. t.items) (slice_get ts r)) [])
items_pass P [] r all = λ k d below. absurd (omega (arith, below))
items_pass P (t ∷ ts) zero all = All-head (λ (t : RecordType). All P t.items) t ts all
items_pass P (t ∷ ts) (suc r) all = items_pass P ts r (All-tail (λ (t : RecordType). All P t.items) t ts all)

pub items_there : (ts : List RecordType) (r : ℕ) → r < length ts → All (λ t. 0 < length t.items) ts → 0 < length (unwrap_or (option_map (λ t. t.items) (slice_get ts r)) [])
items_there [] r h all = absurd (omega (arith, h))
items_there (t ∷ ts) zero h all = All-head (λ (t : RecordType). 0 < length t.items) t ts all
items_there (t ∷ ts) (suc r) h all = items_there ts r (omega (arith, h)) (All-tail (λ (t : RecordType). 0 < length t.items) t ts all)

-- THE KEY

-- what follows the colon of a key
abbrev numbers : DbKey → List ℕ
numbers k = decimal k.number ++ generation_text k.generation

shape : (schema : Lists) (k : DbKey) → key_text schema k ≡ type_name schema k.rtype ++ 58 ∷ numbers k
shape schema k = append_assoc (type_name schema k.rtype) (58 ∷ decimal k.number) (generation_text k.generation)

generation_spelled : (n g : ℕ) → n < 2 ^ 64 → g < 2 ^ 64
    → (if has_byte 46 (decimal n ++ generation_text g) then is_number (behind 46 (decimal n ++ generation_text g)) else true) ≡ true
generation_spelled n g h k = by (g == 1)
  where
    clear : has_byte 46 (decimal n) ≡ false
    clear = no_digit 46 (omega arith) n h

    by : (b : Bool) → (if has_byte 46 (decimal n ++ (if b then [] else 46 ∷ decimal g)) then is_number (behind 46 (decimal n ++ (if b then [] else 46 ∷ decimal g))) else true) ≡ true
    by true = rw (append-nil (decimal n), clear) refl
    by false = rw (there 46 (decimal n) (decimal g) clear, behind_of 46 (decimal n) (decimal g) clear) (all_digits g k)

module _ (schema : Lists) (named : IsNamed schema) (k : DbKey) (is : IsKeyOf schema k) (within : k.rtype < length schema.types) where
  abbrev name : List ℕ
  name = type_name schema k.rtype

  is_named : is_name name ≡ true
  is_named = type_is_named schema.types k.rtype within named.types

  low : (k.number < 2 ^ 64) × (k.generation < 2 ^ 64)
  low = let a = is.number_to in let b = is.generation_to in (omega (arith, a), omega (arith, b))

  front : key_name (key_text schema k) ≡ name
  front = ap (in_front 58) (shape schema k) ∙ front_of 58 name (numbers k) is.no_colon

  after : behind 58 (key_text schema k) ≡ numbers k
  after = ap (behind 58) (shape schema k) ∙ behind_of 58 name (numbers k) is.no_colon

  key_is_key : is_key (key_text schema k) ≡ true
  key_is_key =
      let some : nat_lt 0 (length (key_name (key_text schema k))) ≡ true = ap (λ (t : List ℕ). nat_lt 0 (length t)) front ∙ some_name name is_named in
      let digits_in : is_number (key_number (key_text schema k)) ≡ true = ap (λ (t : List ℕ). is_number (in_front 46 t)) after ∙ ap is_number (number_part k.number k.generation low.0) ∙ all_digits k.number low.0 in
      let rest = ap (λ (t : List ℕ). if has_byte 46 t then is_number (behind 46 t) else true) after ∙ generation_spelled k.number k.generation low.0 low.1 in
      and_from _ _ (and_from _ _ some digits_in) rest

  read : key_of schema (key_text schema k) ≡ k
  read = printed_key schema k is

  no_fault : first (key_faults schema (key_text schema k)) ≡ None
  no_fault =
      let cache : is_none (type_named schema (key_name (key_text schema k))) ≡ false = ap (λ (t : List ℕ). is_none (type_named schema t)) front ∙ ap is_none is.cache in
      let a = is.number_from in
      let b = is.generation_from in
      let n : (k.number == 0) ≡ false = grind (arith, nat_tests, a) in
      let g : (k.generation == 0) ≡ false = grind (arith, nat_tests, b) in
      let number_in : (up_to 999999 (number (key_number (key_text schema k))) == 0) ≡ false = ap (λ (x : DbKey). x.number == 0) read ∙ n in
      let generation_in : (up_to 255 (generation (key_text schema k)) == 0) ≡ false = ap (λ (x : DbKey). x.generation == 0) read ∙ g in
      (λ i. first (when (cache i) cause.UnknownRecordType ++ when (number_in i) cause.OutOfRange ++ when (generation_in i) cause.OutOfRange))

  pub key_back : key_in schema (key_text schema k) ≡ Some k
  key_back =
      ap (λ (b : Bool). if b then Some (key_of schema (key_text schema k)) else None) (and_from _ _ key_is_key (ap is_none no_fault)) ∙ ap (λ (x : DbKey). Some x) read

  pub key_letters : list_all is_letter (key_text schema k) ≡ true
  key_letters =
      all_append is_letter (name ++ 58 ∷ decimal k.number) (generation_text k.generation) (all_append is_letter name (58 ∷ decimal k.number) (letters_of_name name is_named) (letters_of_number k.number low.0)) (by (k.generation == 1))
    where
      by : (b : Bool) → list_all is_letter (if b then [] else 46 ∷ decimal k.generation) ≡ true
      by true = refl
      by false = letters_of_number k.generation low.1

  pub some_key : nat_lt 0 (length (key_text schema k)) ≡ true
  some_key = by (key_text schema k) key_is_key
    where
      by : (t : List ℕ) → is_key t ≡ true → nat_lt 0 (length t) ≡ true
      by [] h = absurd cc
      by (b ∷ t) h = some_bytes (length t)

-- ITEMS

-- the word of a value
abbrev pub value_word : Value → Token
value_word (Num n) = plain (decimal n)
value_word (Text t) = literal t

-- the words of items
abbrev pub items_words : List Value → List Item → List Token
items_words [] items = []
items_words (v ∷ vs) [] = []
items_words (v ∷ vs) (i ∷ items) = plain i.name ∷ equals ∷ value_word v ∷ items_words vs items

more_power : (n k : ℕ) → 10 ^ n ≤ 10 ^ (k + n)
more_power n zero =
    let z : 0 + n ≡ n = omega arith in
    let e : 10 ^ (0 + n) ≡ 10 ^ n = ap (λ (j : ℕ). 10 ^ j) z in
    omega (arith, e)
more_power n (suc k) =
    let h = more_power n k in
    let z : suc k + n ≡ suc (k + n) = omega arith in
    let e : 10 ^ (suc k + n) ≡ 10 * 10 ^ (k + n) = ap (λ (j : ℕ). 10 ^ j) z ∙ pow-succ' 10 (k + n) in
    omega (arith, h, e)

least : (n v : ℕ) → n ≤ 18 → v < 10 ^ n → v < 10 ^ 18
least n v h g =
    let m = more_power n (18 - n) in
    let e : 18 - n + n ≡ 18 = omega arith in
    let k = ap (λ (j : ℕ). 10 ^ j) e in
    omega (arith, m, k, g)

pub text_is_no_quote : (b : ℕ) → is_text_byte b ≡ true → not (b == 34) ≡ true
text_is_no_quote b h = (and_parts _ _ h).1

-- a value that is written, and fits its picture, is read
value_back : (p : Picture) (v : Value) → IsPicture p → value_fits p v ≡ true → spelled p (value_word v) ≡ Some v
value_back (Number n) (Num v) is h =
    let below : v < 10 ^ n = grind (arith, nat_tests, h) in
    let small = least n v is.1 below in
    let e = number_decimal v (omega (arith, small)) in
    let low : nat_lt v (10 ^ 18) ≡ true = grind (arith, nat_tests, small) in
    ap (λ (k : ℕ). if nat_lt k (10 ^ 18) && nat_lt k (10 ^ n) then Some (Num k) else None) e ∙ ap (λ (b : Bool). if b then Some (Num v) else None) (and_from _ _ low h)
value_back (Number n) (Text t) is h = absurd cc
value_back (TextPicture n) (Num v) is h = absurd cc
value_back (TextPicture n) (Text t) is h =
    let p = and_parts (length t == n) (list_all is_text_byte t) h in
    let long = eqb-true (length t) n p.0 in
    let none : n - length t ≡ 0 = omega (arith, long) in
    let fits : nat_le (length t) n ≡ true = grind (arith, nat_tests, long) in
    let all : filled n t ≡ t = ap (λ (k : ℕ). t ++ replicate k 32) none ∙ append-nil t in
    ap (λ (b : Bool). if b then Some (Text (filled n t)) else None) fits ∙ ap (λ (x : List ℕ). Some (Text x)) all

pub number_is_low : (n v : ℕ) → n ≤ 18 → nat_lt v (10 ^ n) ≡ true → v < 2 ^ 64
number_is_low n v h g = let below : v < 10 ^ n = grind (arith, nat_tests, g) in let small = least n v h below in omega (arith, small)

value_words : (p : Picture) (v : Value) (rest : List ℕ) → IsPicture p → value_fits p v ≡ true → apart rest ≡ true → tokens false (value_text v ++ rest) ≡ value_word v ∷ tokens false rest
value_words (Number n) (Num v) rest is h a =
    let low = number_is_low n v is.1 h in
    word_of (decimal v) rest (and_parts (nat_lt 0 (length (decimal v))) (list_all is_digit (decimal v)) (all_digits v low)).0 (letters_of_number v low) a
value_words (Number n) (Text t) rest is h a = absurd cc
value_words (TextPicture n) (Num v) rest is h a = absurd cc
value_words (TextPicture n) (Text t) rest is h a =
    ap (λ (xs : List ℕ). tokens false (34 ∷ xs)) (append_assoc t (34 ∷ []) rest)
    ∙ text_of t rest (all_imply is_text_byte (λ b. not (b == 34)) text_is_no_quote t (and_parts (length t == n) (list_all is_text_byte t) h).1)

pub items_apart : (vs : List Value) (items : List Item) → apart (items_text vs items) ≡ true
items_apart [] items = refl
items_apart (v ∷ vs) [] = refl
items_apart (v ∷ vs) (i ∷ items) = refl

pub words_of_items : (vs : List Value) (items : List Item) → All (λ i. is_name i.name ≡ true) items → All (λ i. IsPicture i.picture) items → values_fit (map (λ i. i.picture) items) vs ≡ true
    → tokens false (items_text vs items) ≡ items_words vs items
unfolding tokens
words_of_items [] items named good h = refl
words_of_items (v ∷ vs) [] named good h = refl
words_of_items (v ∷ vs) (i ∷ items) named good h =
    let p = and_parts (value_fits i.picture v) (values_fit (map (λ i. i.picture) items) vs) h in
    let rest = items_text vs items in
    let name = All-head (λ (j : Item). is_name j.name ≡ true) i items named in
    let picture = All-head (λ (j : Item). IsPicture j.picture) i items good in
    let more = words_of_items vs items (All-tail (λ (j : Item). is_name j.name ≡ true) i items named) (All-tail (λ (j : Item). IsPicture j.picture) i items good) p.1 in
    behind_space ((i.name ++ 61 ∷ value_text v) ++ rest) ∙ ap (tokens false) (append_assoc i.name (61 ∷ value_text v) rest)
    ∙ word_of i.name (61 ∷ (value_text v ++ rest)) (some_name i.name name) (letters_of_name i.name name) refl
    ∙ ap (λ (ts : List Token). plain i.name ∷ ts) (behind_equals (value_text v ++ rest) ∙ ap (λ (ts : List Token). equals ∷ ts) (value_words i.picture v rest picture p.0 (items_apart vs items) ∙ ap (λ (ts : List Token). value_word v ∷ ts) more))

item_back : (i : Item) (v : Value) (ts : List Token) → IsPicture i.picture → value_fits i.picture v ≡ true → value_in i (plain i.name ∷ equals ∷ value_word v ∷ ts) ≡ Some (v, ts)
item_back i v ts is h =
    ap (λ (b : Bool). if b then option_map {U = Value × List Token} (λ x. (x, ts)) (spelled i.picture (value_word v)) else None) ((bytes_eq-Decides i.name i.name).1 refl)
    ∙ ap (option_map {U = Value × List Token} (λ x. (x, ts))) (value_back i.picture v is h)

pub items_back : (vs : List Value) (items : List Item) → All (λ i. IsPicture i.picture) items → values_fit (map (λ i. i.picture) items) vs ≡ true → values_in items (items_words vs items) ≡ Some vs
items_back [] [] good h = refl
items_back [] (i ∷ items) good h = absurd cc
items_back (v ∷ vs) [] good h = absurd cc
items_back (v ∷ vs) (i ∷ items) good h =
    let p = and_parts (value_fits i.picture v) (values_fit (map (λ i. i.picture) items) vs) h in
    let one = item_back i v (items_words vs items) (All-head (λ (j : Item). IsPicture j.picture) i items good) p.0 in
    let more = items_back vs items (All-tail (λ (j : Item). IsPicture j.picture) i items good) p.1 in
    ap (option_and_then (λ r. option_map (λ us. r.0 ∷ us) (values_in items r.1))) one ∙ ap (option_map (λ us. v ∷ us)) more
