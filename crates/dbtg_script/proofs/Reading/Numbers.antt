-- Numbers that are capped while they are read, or are short; keys that name no generation.
use Rattle.std.proofs.Common.{◌≡◌, ℕ, zero, suc, ◌+◌, ◌*◌, ◌-◌, ◌<◌, ◌≤◌, ◌^◌, true, false, List, [], ◌∷◌, length, Some, None, refl, sym, ap, arith}
use Rattle.std.specs.Prelude.{◌==◌, min, nat_le, nat_lt}
use Rattle.std.specs.List.{list_all}
use Rattle.std.proofs.lemmas.Bool.{and_parts, ne_eqb}
use Rattle.std.proofs.lemmas.Bool.Decides.{nat_tests}
use Rattle.std.proofs.Math.Nat.{pow-succ'}
use Rattle.dbtg_schema.specs.Lists.{Lists}
use Rattle.dbtg_schema.specs.Lookups.{first}
use Rattle.dbtg_schema.specs.Texts.Spelling.{is_digit}
use Rattle.dbtg_schema.specs.declared.shape.Picture.TheVariants.{Number}
use Rattle.dbtg_cells.specs.declared.key.Value.TheVariants.{Num}
use Rattle.dbtg_script.specs.Lookups.{type_named}
use Rattle.dbtg_script.specs.Printing.Spelling.{behind, has_byte, in_front, is_key, is_number, key_name, number, number_after}
use Rattle.dbtg_script.specs.StatementFaults.{key_faults}
use Rattle.dbtg_script.specs.Statements.{key_of}
use Rattle.dbtg_script.specs.Tokens.{plain}
use Rattle.dbtg_script.specs.Values.{spelled}

capped_step : (x y v : ℕ) → min x (10 ^ 18) ≡ min y (10 ^ 18) → min (10 * x + v) (10 ^ 18) ≡ min (10 * y + v) (10 ^ 18)
capped_step x y v h = omega arith

pub capped_alike : (x y : ℕ) (ds : List ℕ) → min x (10 ^ 18) ≡ min y (10 ^ 18) → min (number_after x ds) (10 ^ 18) ≡ min (number_after y ds) (10 ^ 18)
capped_alike x y [] h = h
capped_alike x y (d ∷ ds) h = capped_alike (10 * x + (d - 48)) (10 * y + (d - 48)) ds (capped_step x y (d - 48) h)

pub capped_again : (x n : ℕ) (ds : List ℕ) → n ≡ min x (10 ^ 18) → min (number_after n ds) (10 ^ 18) ≡ min (number_after x ds) (10 ^ 18)
capped_again x n ds h = capped_alike n x ds (omega arith)

-- SHORT NUMBERS

pub power_within : (i j : ℕ) → i ≤ j → 10 ^ i ≤ 10 ^ j
power_within zero zero h = omega arith
power_within zero (suc j) h = let more = power_within zero j (omega arith) in let q : 10 ^ suc j ≡ 10 * 10 ^ j = pow-succ' 10 j in omega (arith, more, q)
power_within (suc i) zero h = absurd (omega (arith, h))
power_within (suc i) (suc j) h =
    let more = power_within i j (omega (arith, h)) in
    let p : 10 ^ suc i ≡ 10 * 10 ^ i = pow-succ' 10 i in
    let q : 10 ^ suc j ≡ 10 * 10 ^ j = pow-succ' 10 j in
    omega (arith, more, p, q)

-- a number of at most as many digits as its picture has
pub short_is_spelled : (d : ℕ) (t : List ℕ) (n : ℕ) → n ≡ number t → n < 10 ^ length t → length t ≤ 18 → length t ≤ d → spelled (Number d) (plain t) ≡ Some (Num n)
short_is_spelled d t n e low short within =
    let least = power_within (length t) 18 short in
    let fits = power_within (length t) d within in
    let a : nat_lt (number t) (10 ^ 18) ≡ true = grind (arith, nat_tests, e, low, least) in
    let b : nat_lt (number t) (10 ^ d) ≡ true = grind (arith, nat_tests, e, low, fits) in
    rw (a, b) (ap (λ m. Some (Num m)) (sym e))

-- KEYS WITHOUT A GENERATION

digit_is_no_period : (b : ℕ) → is_digit b ≡ true → (b == 46) ≡ false
digit_is_no_period b h = grind (arith, nat_tests, h)

digits_whole : (t : List ℕ) → list_all is_digit t ≡ true → in_front 46 t ≡ t
digits_whole [] h = refl
digits_whole (b ∷ bs) h = let p = and_parts (is_digit b) (list_all is_digit bs) h in rw (digit_is_no_period b p.0) (ap (λ ds. b ∷ ds) (digits_whole bs p.1))

digits_alone : (t : List ℕ) → list_all is_digit t ≡ true → has_byte 46 t ≡ false
digits_alone [] h = refl
digits_alone (b ∷ bs) h = let p = and_parts (is_digit b) (list_all is_digit bs) h in rw (digit_is_no_period b p.0) (digits_alone bs p.1)

module _ (t : List ℕ) (digits : is_number (behind 58 t) ≡ true) where
  all_digits : list_all is_digit (behind 58 t) ≡ true
  all_digits = (and_parts (nat_lt 0 (length (behind 58 t))) (list_all is_digit (behind 58 t)) digits).1

  pub short_key : nat_lt 0 (length (key_name t)) ≡ true → is_key t ≡ true
  short_key named = rw (named, digits_whole (behind 58 t) all_digits, digits, digits_alone (behind 58 t) all_digits) refl

  module _ (schema : Lists) (r n : ℕ) (named : type_named schema (key_name t) ≡ Some r) (value : n ≡ number (behind 58 t)) (low : n ≤ 999999) where
    within : nat_le (number (behind 58 t)) 999999 ≡ true
    within = grind (arith, nat_tests, value, low)

    pub short_key_is : record { rtype = r; number = n; generation = 1 } ≡ key_of schema t
    short_key_is =
        rw (named, digits_whole (behind 58 t) all_digits, digits_alone (behind 58 t) all_digits, within)
        (ap (λ (m : ℕ). record { rtype = r; number = m; generation = 1 }) value)

    pub short_key_faultless : (n ≡ 0 → ⊥) → first (key_faults schema t) ≡ None
    short_key_faultless some =
        let other : (number (behind 58 t) == 0) ≡ false = ne_eqb (number (behind 58 t)) 0 (λ e. some (omega (arith, value, e))) in
        rw (named, digits_whole (behind 58 t) all_digits, digits_alone (behind 58 t) all_digits, within, other) refl
