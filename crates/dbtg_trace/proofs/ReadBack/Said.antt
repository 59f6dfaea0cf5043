-- A printed answer as a whole: it is closed, printable, and read back.
use Rattle.std.proofs.Common.{◌≡◌, ℕ, ◌+◌, ◌%◌, ◌^◌, ◌<◌, ◌≤◌, Bool, true, false, not, ◌&&◌, List, [], ◌∷◌, ◌++◌, length, map, Option, Some, None, inl, inr, refl, sym, ap, subst, ◌∙◌, arith, append_assoc, true≢false}
use Rattle.std.specs.Prelude.{◌==◌, decimal, if◌then◌else◌, nat_le, nat_lt, option_and_then, option_map}
use Rattle.std.specs.List.{All, list_all}
use Rattle.std.proofs.lemmas.Bool.{and_parts}
use Rattle.std.proofs.lemmas.Bool.Decides.{nat_tests}
use Rattle.std.proofs.lemmas.List.{append-nil}
use Rattle.std.proofs.lemmas.List.Elements.{All-head, All-tail}
use Rattle.dbtg_schema.specs.Lists.{Lists}
use Rattle.dbtg_schema.specs.Named.{IsNamed}
use Rattle.dbtg_schema.specs.Sound.{IsSound}
use Rattle.dbtg_schema.specs.Structure.{item_list, pictures}
use Rattle.dbtg_schema.specs.Texts.Spelling.{is_digit, is_name, is_name_byte}
use Rattle.dbtg_schema.specs.WellFormed.{IsPicture}
use Rattle.dbtg_schema.specs.declared.shape.Item.{Item}
use Rattle.dbtg_schema.specs.declared.shape.Picture.{Picture}
use Rattle.dbtg_schema.specs.declared.shape.Picture.TheVariants.{Number, Text as TextPicture}
use Rattle.dbtg_cells.specs.declared.key.DbKey.{DbKey}
use Rattle.dbtg_cells.specs.declared.key.Value.{Value}
use Rattle.dbtg_cells.specs.declared.key.Value.TheVariants.{Num, Text}
use Rattle.dbtg_unit.specs.Database.Statements.Fits.{is_text_byte, value_fits, values_fit}
use Rattle.dbtg_script.specs.Lines.{ends_in_text}
use Rattle.dbtg_script.specs.Printing.Texts.{answered_text, found_text, four_digits, generation_text, items_text, key_text, type_name, value_text}
use Rattle.dbtg_script.specs.Tokens.{Token, plain, is_letter, tokens}
use Rattle.dbtg_trace.specs.Answers.{answer_in, said_of, said_of_key, said_of_status, values_in}
use Rattle.dbtg_trace.specs.Laws.{IsSayable, IsWithin}
use Rattle.dbtg_trace.specs.declared.traced.Said.{Said}
use Rattle.dbtg_trace.proofs.ReadBack.Spelled.{items_apart, items_back, items_pass, items_there, items_words, key_back, key_letters, letters_of_name, letters_of_number, name_bytes, number_is_low, some_key, status_back, status_digits, text_is_no_quote, type_is_named, words_of_items}
use Rattle.dbtg_trace.proofs.ReadBack.Periods.{last_of, not_all}
use Rattle.dbtg_trace.proofs.ReadBack.Words.{all_append, all_digits, all_imply, apart, behind_space, digits, digit_is_letter, ends_as_begun, ends_behind, letter_is_no_quote, word_of}

-- A PRINTABLE BYTE

abbrev pub shows : ℕ → Bool
shows b = nat_le 32 b && nat_le b 126

pub digit_shows : (b : ℕ) → is_digit b ≡ true → shows b ≡ true
digit_shows b h = grind (arith, nat_tests, h)

name_shows : (b : ℕ) → is_name_byte b ≡ true → shows b ≡ true
name_shows b h = grind (arith, nat_tests, h)

pub text_shows : (b : ℕ) → is_text_byte b ≡ true → shows b ≡ true
text_shows b h = (and_parts _ _ h).0

-- THE LAST BYTE

-- bytes that end neither in a carriage return nor in a period
abbrev pub EndsWell : List ℕ → Type 0
EndsWell xs = (front : List ℕ) × (c : ℕ) × (xs ≡ front ++ c ∷ []) × ((c == 13) ≡ false) × ((c == 46) ≡ false)

pub well_behind : (xs ys : List ℕ) → EndsWell ys → EndsWell (xs ++ ys)
well_behind xs ys e = (xs ++ e.0, e.1, ap (λ (zs : List ℕ). xs ++ zs) e.2 ∙ sym (append_assoc xs e.0 (e.1 ∷ [])), e.3, e.4)

pub last_passes : (p : ℕ → Bool) (xs : List ℕ) (c : ℕ) → list_all p (xs ++ c ∷ []) ≡ true → p c ≡ true
last_passes p xs c h = by (p c) refl
  where
    by : (b : Bool) → p c ≡ b → p c ≡ true
    by true e = e
    by false e = absurd (true≢false (sym h ∙ not_all p xs c e))

digits_end_well : (xs : List ℕ) → nat_lt 0 (length xs) ≡ true → list_all is_digit xs ≡ true → EndsWell xs
digits_end_well xs some h = elim (last_of xs) [
  | inl e ↦ absurd (true≢false (sym some ∙ ap (λ (ys : List ℕ). nat_lt 0 (length ys)) e))
  | inr e ↦
      let digit : is_digit e.1 ≡ true = last_passes is_digit e.0 e.1 (ap (list_all is_digit) (sym e.2) ∙ h) in
      (e.0, e.1, e.2, grind (arith, nat_tests, digit), grind (arith, nat_tests, digit))
]

number_ends_well : (n : ℕ) → n < 2 ^ 64 → EndsWell (decimal n)
number_ends_well n h = let p = and_parts (nat_lt 0 (length (decimal n))) (list_all is_digit (decimal n)) (all_digits n h) in digits_end_well (decimal n) p.0 p.1

-- VALUES

no_quotes : (w : List ℕ) → list_all is_letter w ≡ true → list_all (λ b. not (b == 34)) w ≡ true
no_quotes w h = all_imply is_letter (λ b. not (b == 34)) letter_is_no_quote w h

-- the text of a value is printable, ends as it began, and ends well
value_shows : (p : Picture) (v : Value) → IsPicture p → value_fits p v ≡ true → list_all shows (value_text v) ≡ true
value_shows (Number n) (Num v) is h = all_imply is_digit shows digit_shows (decimal v) (digits v (number_is_low n v is.1 h))
value_shows (Number n) (Text t) is h = absurd cc
value_shows (TextPicture n) (Num v) is h = absurd cc
value_shows (TextPicture n) (Text t) is h =
    all_append shows t (34 ∷ []) (all_imply is_text_byte shows text_shows t (and_parts (length t == n) (list_all is_text_byte t) h).1) refl

value_closed : (p : Picture) (v : Value) (rest : List ℕ) → IsPicture p → value_fits p v ≡ true → ends_in_text false (value_text v ++ rest) ≡ ends_in_text false rest
value_closed (Number n) (Num v) rest is h =
    ends_behind false (decimal v) rest ∙ ap (λ (k : Bool). ends_in_text k rest) (ends_as_begun false (decimal v) (no_quotes (decimal v) (letters_of_number v (number_is_low n v is.1 h))))
value_closed (Number n) (Text t) rest is h = absurd cc
value_closed (TextPicture n) (Num v) rest is h = absurd cc
value_closed (TextPicture n) (Text t) rest is h =
    let clear = all_imply is_text_byte (λ b. not (b == 34)) text_is_no_quote t (and_parts (length t == n) (list_all is_text_byte t) h).1 in
    ap (ends_in_text true) (append_assoc t (34 ∷ []) rest) ∙ ends_behind true t (34 ∷ rest) ∙ ap (λ (k : Bool). ends_in_text k (34 ∷ rest)) (ends_as_begun true t clear)

value_ends_well : (p : Picture) (v : Value) → IsPicture p → value_fits p v ≡ true → EndsWell (value_text v)
value_ends_well (Number n) (Num v) is h = number_ends_well v (number_is_low n v is.1 h)
value_ends_well (Number n) (Text t) is h = absurd cc
value_ends_well (TextPicture n) (Num v) is h = absurd cc
value_ends_well (TextPicture n) (Text t) is h = (34 ∷ t, 34, refl, refl, refl)

-- ITEMS

items_show : (vs : List Value) (items : List Item) → All (λ i. is_name i.name ≡ true) items → All (λ i. IsPicture i.picture) items → values_fit (map (λ i. i.picture) items) vs ≡ true → list_all shows (items_text vs items) ≡ true
items_show [] items named good h = refl
items_show (v ∷ vs) [] named good h = refl
items_show (v ∷ vs) (i ∷ items) named good h =
    let p = and_parts (value_fits i.picture v) (values_fit (map (λ i. i.picture) items) vs) h in
    let name = name_bytes i.name (All-head (λ (j : Item). is_name j.name ≡ true) i items named) in
    let value = value_shows i.picture v (All-head (λ (j : Item). IsPicture j.picture) i items good) p.0 in
    let more = items_show vs items (All-tail (λ (j : Item). is_name j.name ≡ true) i items named) (All-tail (λ (j : Item). IsPicture j.picture) i items good) p.1 in
    all_append shows (i.name ++ 61 ∷ value_text v) (items_text vs items) (all_append shows i.name (61 ∷ value_text v) (all_imply is_name_byte shows name_shows i.name name) value) more

items_closed : (vs : List Value) (items : List Item) → All (λ i. is_name i.name ≡ true) items → All (λ i. IsPicture i.picture) items → values_fit (map (λ i. i.picture) items) vs ≡ true → ends_in_text false (items_text vs items) ≡ false
items_closed [] items named good h = refl
items_closed (v ∷ vs) [] named good h = refl
items_closed (v ∷ vs) (i ∷ items) named good h =
    let p = and_parts (value_fits i.picture v) (values_fit (map (λ i. i.picture) items) vs) h in
    let rest = items_text vs items in
    let name = no_quotes i.name (letters_of_name i.name (All-head (λ (j : Item). is_name j.name ≡ true) i items named)) in
    let more = items_closed vs items (All-tail (λ (j : Item). is_name j.name ≡ true) i items named) (All-tail (λ (j : Item). IsPicture j.picture) i items good) p.1 in
    ap (ends_in_text false) (append_assoc i.name (61 ∷ value_text v) rest)
    ∙ ends_behind false i.name (61 ∷ (value_text v ++ rest)) ∙ ap (λ (k : Bool). ends_in_text k (61 ∷ (value_text v ++ rest))) (ends_as_begun false i.name name)
    ∙ value_closed i.picture v rest (All-head (λ (j : Item). IsPicture j.picture) i items good) p.0 ∙ more

items_end_well : (front : List ℕ) (vs : List Value) (items : List Item) → EndsWell front → All (λ i. IsPicture i.picture) items → values_fit (map (λ i. i.picture) items) vs ≡ true → EndsWell (front ++ items_text vs items)
items_end_well front [] items e good h = subst EndsWell (sym (append-nil front)) e
items_end_well front (v ∷ vs) [] e good h = subst EndsWell (sym (append-nil front)) e
items_end_well front (v ∷ vs) (i ∷ items) e good h =
    let p = and_parts (value_fits i.picture v) (values_fit (map (λ i. i.picture) items) vs) h in
    let value = value_ends_well i.picture v (All-head (λ (j : Item). IsPicture j.picture) i items good) p.0 in
    let here = well_behind front (32 ∷ (i.name ++ 61 ∷ value_text v)) (well_behind (32 ∷ i.name) (61 ∷ value_text v) (well_behind (61 ∷ []) (value_text v) value)) in
    subst EndsWell (append_assoc front (32 ∷ (i.name ++ 61 ∷ value_text v)) (items_text vs items))
    (items_end_well (front ++ 32 ∷ (i.name ++ 61 ∷ value_text v)) vs items here (All-tail (λ (j : Item). IsPicture j.picture) i items good) p.1)

not_empty : (vs : List Value) (items : List Item) → 0 < length items → values_fit (map (λ i. i.picture) items) vs ≡ true → (t : Token) × (ts : List Token) × (items_words vs items ≡ t ∷ ts)
not_empty vs [] some h = absurd (omega (arith, some))
not_empty [] (i ∷ items) some h = absurd cc
not_empty (v ∷ vs) (i ∷ items) some h = (_, _, refl)

-- THE ANSWER

abbrev said : ℕ → Option DbKey → Option (List Value) → Said
said s key items = record { status = s; key = key; items = items }

module _ (schema : Lists) (sound : IsSound schema) (named : IsNamed schema) where
  names : (r : ℕ) → All (λ i. is_name i.name ≡ true) (item_list schema r)
  names r = items_pass (λ i. is_name i.name ≡ true) schema.types r named.items

  good : (r : ℕ) → All (λ i. IsPicture i.picture) (item_list schema r)
  good r = items_pass (λ i. IsPicture i.picture) schema.types r (λ k d below. let t = sound.limits.types k d below in t.pictures)

  some : (r : ℕ) → r < length schema.types → 0 < length (item_list schema r)
  some r h = items_there schema.types r h (λ k d below. let t = sound.limits.types k d below in t.some_item)

  key_shows : (k : DbKey) → IsWithin schema k → list_all shows (key_text schema k) ≡ true
  key_shows k is =
      let a = is.0.number_to in
      let b = is.0.generation_to in
      let n : k.number < 2 ^ 64 = omega (arith, a) in
      let g : k.generation < 2 ^ 64 = omega (arith, b) in
      all_append shows (type_name schema k.rtype ++ 58 ∷ decimal k.number) (generation_text k.generation)
      (all_append shows (type_name schema k.rtype) (58 ∷ decimal k.number) (all_imply is_name_byte shows name_shows (type_name schema k.rtype) (name_bytes (type_name schema k.rtype) (type_is_named schema.types k.rtype is.1 named.types)))
      (all_imply is_digit shows digit_shows (decimal k.number) (digits k.number n))) (by g (k.generation == 1))
    where
      by : k.generation < 2 ^ 64 → (b : Bool) → list_all shows (if b then [] else 46 ∷ decimal k.generation) ≡ true
      by g true = refl
      by g false = all_imply is_digit shows digit_shows (decimal k.generation) (digits k.generation g)

  key_ends_well : (k : DbKey) → IsWithin schema k → EndsWell (key_text schema k)
  key_ends_well k is = by (k.generation == 1)
    where
      n : k.number < 2 ^ 64
      n = let a = is.0.number_to in omega (arith, a)

      g : k.generation < 2 ^ 64
      g = let b = is.0.generation_to in omega (arith, b)

      front : List ℕ
      front = type_name schema k.rtype ++ 58 ∷ decimal k.number

      well : EndsWell front
      well = well_behind (type_name schema k.rtype) (58 ∷ decimal k.number) (well_behind (58 ∷ []) (decimal k.number) (number_ends_well k.number n))

      by : (b : Bool) → EndsWell (front ++ (if b then [] else 46 ∷ decimal k.generation))
      by true = subst EndsWell (sym (append-nil front)) well
      by false = well_behind front (46 ∷ decimal k.generation) (well_behind (46 ∷ []) (decimal k.generation) (number_ends_well k.generation g))

  key_closed : (k : DbKey) (rest : List ℕ) → IsWithin schema k → ends_in_text false (key_text schema k ++ rest) ≡ ends_in_text false rest
  key_closed k rest is =
      ends_behind false (key_text schema k) rest ∙ ap (λ (b : Bool). ends_in_text b rest) (ends_as_begun false (key_text schema k) (no_quotes (key_text schema k) (key_letters schema named k is.0 is.1)))

  found_shows : (key : Option DbKey) (items : Option (List Value)) → IsSayable schema key items → list_all shows (found_text schema key items) ≡ true
  found_shows None items is = refl
  found_shows (Some k) None is = key_shows k is
  found_shows (Some k) (Some vs) is = all_append shows (32 ∷ key_text schema k) (items_text vs (item_list schema k.rtype)) (key_shows k is.0) (items_show vs (item_list schema k.rtype) (names k.rtype) (good k.rtype) is.1)

  found_closed : (key : Option DbKey) (items : Option (List Value)) → IsSayable schema key items → ends_in_text false (found_text schema key items) ≡ false
  found_closed None items is = refl
  found_closed (Some k) None is = ap (ends_in_text false) (sym (append-nil (key_text schema k))) ∙ key_closed k [] is
  found_closed (Some k) (Some vs) is = key_closed k (items_text vs (item_list schema k.rtype)) is.0 ∙ items_closed vs (item_list schema k.rtype) (names k.rtype) (good k.rtype) is.1

  found_apart : (key : Option DbKey) (items : Option (List Value)) → apart (found_text schema key items) ≡ true
  found_apart None items = refl
  found_apart (Some k) None = refl
  found_apart (Some k) (Some vs) = refl

  found_back : (key : Option DbKey) (items : Option (List Value)) (s : ℕ) → IsSayable schema key items → said_of_status schema (tokens false (found_text schema key items)) s ≡ Some (said s key items)
  unfolding tokens
  found_back None items s is = ap (λ (o : Option (List Value)). Some (said s None o)) (sym is)
  found_back (Some k) None s is =
      let key = key_text schema k in
      let words = behind_space key ∙ ap (tokens false) (sym (append-nil key)) ∙ word_of key [] (some_key schema named k is.0 is.1) (key_letters schema named k is.0 is.1) refl in
      ap (λ (ts : List Token). said_of_status schema ts s) words ∙ ap (option_and_then (said_of_key schema s [])) (key_back schema named k is.0 is.1)
  found_back (Some k) (Some vs) s is =
      let key = key_text schema k in
      let items = item_list schema k.rtype in
      let words = behind_space (key ++ items_text vs items) ∙ word_of key (items_text vs items) (some_key schema named k is.0.0 is.0.1) (key_letters schema named k is.0.0 is.0.1) (items_apart vs items)
      ∙ ap (λ (ts : List Token). plain key ∷ ts) (words_of_items vs items (names k.rtype) (good k.rtype) is.1) in
      let first = not_empty vs items (some k.rtype is.0.1) is.1 in
      let values = ap (values_in items) (sym first.2) ∙ items_back vs items (good k.rtype) is.1 in
      ap (λ (ts : List Token). said_of_status schema ts s) words ∙ ap (option_and_then (said_of_key schema s (items_words vs items))) (key_back schema named k is.0.0 is.0.1)
      ∙ ap (λ (ts : List Token). said_of_key schema s ts k) first.2 ∙ ap (option_map (λ us. said s (Some k) (Some us))) values

  pub answer_shows : (s : ℕ) (key : Option DbKey) (items : Option (List Value)) → s < 10000 → IsSayable schema key items → list_all shows (answered_text schema s key items) ≡ true
  answer_shows s key items h is = all_append shows (four_digits s) (found_text schema key items) (all_imply is_digit shows digit_shows (four_digits s) (status_digits s h)) (found_shows key items is)

  pub answer_ends_well : (s : ℕ) (key : Option DbKey) (items : Option (List Value)) → s < 10000 → IsSayable schema key items → EndsWell (answered_text schema s key items)
  answer_ends_well s None items h is = subst EndsWell (sym (append-nil (four_digits s))) (digits_end_well (four_digits s) refl (status_digits s h))
  answer_ends_well s (Some k) None h is = well_behind (four_digits s) (32 ∷ key_text schema k) (well_behind (32 ∷ []) (key_text schema k) (key_ends_well k is))
  answer_ends_well s (Some k) (Some vs) h is =
      well_behind (four_digits s) ((32 ∷ key_text schema k) ++ items_text vs (item_list schema k.rtype))
      (items_end_well (32 ∷ key_text schema k) vs (item_list schema k.rtype) (well_behind (32 ∷ []) (key_text schema k) (key_ends_well k is.0)) (good k.rtype) is.1)

  pub answer_back : (s : ℕ) (key : Option DbKey) (items : Option (List Value)) → s < 10000 → IsSayable schema key items → answer_in schema (32 ∷ answered_text schema s key items) ≡ Some (said s key items)
  answer_back s key items h is =
      let found = found_text schema key items in
      let letters = all_imply is_digit is_letter digit_is_letter (four_digits s) (status_digits s h) in
      let words = behind_space (four_digits s ++ found) ∙ word_of (four_digits s) found refl letters (found_apart key items) in
      let closed : ends_in_text false (32 ∷ (four_digits s ++ found)) ≡ false =
      ends_behind false (four_digits s) found ∙ ap (λ (b : Bool). ends_in_text b found) (ends_as_begun false (four_digits s) (no_quotes (four_digits s) letters)) ∙ found_closed key items is in
      ap (λ (b : Bool). if b then None else said_of schema (tokens false (32 ∷ (four_digits s ++ found)))) closed ∙ ap (said_of schema) words
      ∙ ap (option_and_then (said_of_status schema (tokens false found))) (status_back s h) ∙ found_back key items s is
