-- A printed key, read again.
use Rattle.std.proofs.Common.{◌≡◌, ℕ, ◌+◌, ◌*◌, ◌-◌, ◌/◌, ◌%◌, ◌^◌, ◌<◌, ◌≤◌, Bool, true, false, List, [], ◌∷◌, ◌++◌, Option, refl, sym, ap, ◌∙◌, arith, eqb, append_assoc}
use Rattle.std.specs.Prelude.{decimal, nat_le, unwrap_or, if◌then◌else◌}
use Rattle.std.proofs.lemmas.Fmt.{decimal_by_steps}
use Rattle.std.proofs.lemmas.List.{append-nil}
use Rattle.std.proofs.lemmas.Bool.Decides.{nat_tests}
use Rattle.std.proofs.lemmas.Bool.{or_parts}
use Rattle.dbtg_schema.specs.Lists.{Lists}
use Rattle.dbtg_cells.specs.declared.key.DbKey.{DbKey}
use Rattle.dbtg_script.specs.Printing.Spelling.{number, number_after, in_front, behind, has_byte, key_name, key_number, generation}
use Rattle.dbtg_script.specs.Lookups.{type_no}
use Rattle.dbtg_script.specs.Values.{up_to}
use Rattle.dbtg_script.specs.Statements.{key_of}
use Rattle.dbtg_script.specs.Printing.Texts.{key_text, type_name, generation_text}
use Rattle.dbtg_script.specs.Laws.{IsKeyOf}

-- bytes that stand nowhere
pub clear_append : (c : ℕ) (xs ys : List ℕ) → has_byte c xs ≡ false → has_byte c ys ≡ false → has_byte c (xs ++ ys) ≡ false
clear_append c [] ys h g = g
clear_append c (x ∷ xs) ys h g = let p = or_parts (eqb x c) (has_byte c xs) h in rw p.0 (clear_append c xs ys p.1 g)

pub there : (c : ℕ) (xs ys : List ℕ) → has_byte c xs ≡ false → has_byte c (xs ++ c ∷ ys) ≡ true
there c [] ys h = let e : eqb c c ≡ true = grind (arith, nat_tests) in rw e refl
there c (x ∷ xs) ys h = let p = or_parts (eqb x c) (has_byte c xs) h in rw p.0 (there c xs ys p.1)

pub front_of : (c : ℕ) (xs ys : List ℕ) → has_byte c xs ≡ false → in_front c (xs ++ c ∷ ys) ≡ xs
front_of c [] ys h = let e : eqb c c ≡ true = grind (arith, nat_tests) in rw e refl
front_of c (x ∷ xs) ys h = let p = or_parts (eqb x c) (has_byte c xs) h in rw p.0 (ap (λ (t : List ℕ). x ∷ t) (front_of c xs ys p.1))

pub front_all : (c : ℕ) (xs : List ℕ) → has_byte c xs ≡ false → in_front c xs ≡ xs
front_all c [] h = refl
front_all c (x ∷ xs) h = let p = or_parts (eqb x c) (has_byte c xs) h in rw p.0 (ap (λ (t : List ℕ). x ∷ t) (front_all c xs p.1))

pub behind_of : (c : ℕ) (xs ys : List ℕ) → has_byte c xs ≡ false → behind c (xs ++ c ∷ ys) ≡ ys
behind_of c [] ys h = let e : eqb c c ≡ true = grind (arith, nat_tests) in rw e refl
behind_of c (x ∷ xs) ys h = let p = or_parts (eqb x c) (has_byte c xs) h in rw p.0 (behind_of c xs ys p.1)

-- the digits of a number
digit_is_other : (c n : ℕ) → c < 48 → has_byte c ((48 + n) ∷ []) ≡ false
digit_is_other c n h = let e : eqb (48 + n) c ≡ false = grind (arith, nat_tests) in rw e refl

pub no_digit : (c : ℕ) → c < 48 → (n : ℕ) → n < 2 ^ 64 → has_byte c (decimal n) ≡ false
no_digit c small =
    decimal_by_steps (λ n ds. has_byte c ds ≡ false) (λ n h. digit_is_other c n small)
    (λ n ds h g. clear_append c ds ((48 + n % 10) ∷ []) g (digit_is_other c (n % 10) small))

no_period : (n : ℕ) → n < 2 ^ 64 → has_byte 46 (decimal n) ≡ false
no_period = no_digit 46 (omega arith)

number_append : (m : ℕ) (xs ys : List ℕ) → number_after m (xs ++ ys) ≡ number_after (number_after m xs) ys
number_append m [] ys = refl
number_append m (x ∷ xs) ys = number_append (10 * m + (x - 48)) xs ys

one_more_digit : (m n : ℕ) → m ≡ n / 10 → 10 * m + (48 + n % 10 - 48) ≡ n
one_more_digit m n h = omega arith

pub number_decimal : (n : ℕ) → n < 2 ^ 64 → number (decimal n) ≡ n
number_decimal = decimal_by_steps (λ n ds. number ds ≡ n) (λ n h. omega arith) (λ n ds h g. number_append 0 ds ((48 + n % 10) ∷ []) ∙ one_more_digit (number ds) n g)

-- the parts of a printed key
pub number_part : (n g : ℕ) → n < 2 ^ 64 → in_front 46 (decimal n ++ generation_text g) ≡ decimal n
number_part n g h = by_cases (eqb g 1) where
  by_cases : (b : Bool) → in_front 46 (decimal n ++ (if b then [] else 46 ∷ decimal g)) ≡ decimal n
  by_cases true = ap (λ (t : List ℕ). in_front 46 t) (append-nil (decimal n)) ∙ front_all 46 (decimal n) (no_period n h)
  by_cases false = front_of 46 (decimal n) (decimal g) (no_period n h)

abbrev pub generation_of : ℕ → List ℕ → ℕ
generation_of g t = if has_byte 46 t then number (behind 46 t) else 1

pub generation_part : (n g : ℕ) → n < 2 ^ 64 → g < 2 ^ 64 → generation_of g (decimal n ++ generation_text g) ≡ g
generation_part n g h k = by_cases (eqb g 1) refl where
  by_cases : (b : Bool) → eqb g 1 ≡ b → generation_of g (decimal n ++ (if b then [] else 46 ∷ decimal g)) ≡ g
  by_cases true e = rw (append-nil (decimal n), no_period n h) (let one : g ≡ 1 = grind (arith, nat_tests) in sym one)
  by_cases false e = rw (there 46 (decimal n) (decimal g) (no_period n h), behind_of 46 (decimal n) (decimal g) (no_period n h)) (number_decimal g k)

in_range : (n most : ℕ) → n ≤ most → up_to most n ≡ n
in_range n most h = let e : nat_le n most ≡ true = grind (arith, nat_tests) in rw e refl

pub printed_key : (schema : Lists) (k : DbKey) → IsKeyOf schema k → key_of schema (key_text schema k) ≡ k
printed_key schema k h =
    let name = type_name schema k.rtype in
    let rest = decimal k.number ++ generation_text k.generation in
    let shape : key_text schema k ≡ name ++ 58 ∷ rest = append_assoc name (58 ∷ decimal k.number) (generation_text k.generation) in
    let front : key_name (key_text schema k) ≡ name = ap (in_front 58) shape ∙ front_of 58 name rest h.no_colon in
    let after : behind 58 (key_text schema k) ≡ rest = ap (behind 58) shape ∙ behind_of 58 name rest h.no_colon in
    let number_text : key_number (key_text schema k) ≡ decimal k.number = ap (λ (t : List ℕ). in_front 46 t) after ∙ number_part k.number k.generation (omega arith) in
    let n : up_to 999999 (number (key_number (key_text schema k))) ≡ k.number = ap (λ (t : List ℕ). up_to 999999 (number t)) number_text ∙ ap (up_to 999999) (number_decimal k.number (omega arith)) ∙ in_range k.number 999999 h.number_to in
    let g : up_to 255 (generation (key_text schema k)) ≡ k.generation = ap (λ (t : List ℕ). up_to 255 (generation_of k.generation t)) after ∙ ap (up_to 255) (generation_part k.number k.generation (omega arith) (omega arith)) ∙ in_range k.generation 255 h.generation_to in
    let r : type_no schema (key_name (key_text schema k)) ≡ k.rtype = ap (type_no schema) front ∙ ap (λ (o : Option ℕ). unwrap_or o 0) h.cache in
    made k r n g where
      made : {r n g : ℕ} (k : DbKey) → r ≡ k.rtype → n ≡ k.number → g ≡ k.generation → let x : DbKey = record { rtype = r; number = n; generation = g } in x ≡ k
      made k r n g = rw (r, n, g) refl
