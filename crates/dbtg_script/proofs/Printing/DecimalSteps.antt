-- The digits of a number.
use Rattle.std.proofs.Common.{◌≡◌, ℕ, ◌+◌, ◌/◌, ◌%◌, ◌<◌, ◌≤◌, ◌^◌, List, [], ◌∷◌, ◌++◌, ap, ◌∙◌, append_assoc, arith}
use Rattle.std.specs.Prelude.{decimal}
use Rattle.std.proofs.lemmas.Fmt.{decimal_digit, decimal_step}
use Rattle.dbtg_script.specs.Printing.Texts.{four_digits}

-- the last digit after the others
digit_more : (n : ℕ) (ds : List ℕ) → 10 ≤ n → n < 2 ^ 64 → decimal (n / 10) ≡ ds → decimal n ≡ ds ++ (48 + n % 10) ∷ []
digit_more n ds h small e = decimal_step n h small ∙ ap (λ (xs : List ℕ). xs ++ (48 + n % 10) ∷ []) e

-- numbers of one digit, of two, of three and of four
pub one_digit : (n : ℕ) → n < 10 → decimal n ≡ (48 + n) ∷ []
one_digit n h = decimal_digit n h

pub two_digits : (n : ℕ) → 10 ≤ n → n < 100 → decimal n ≡ (48 + n / 10) ∷ (48 + n % 10) ∷ []
two_digits n h l = digit_more n _ h (omega arith) (one_digit (n / 10) (omega arith))

pub three_digits : (n : ℕ) → 100 ≤ n → n < 1000 → decimal n ≡ (48 + n / 10 / 10) ∷ (48 + n / 10 % 10) ∷ (48 + n % 10) ∷ []
three_digits n h l = digit_more n _ (omega arith) (omega arith) (two_digits (n / 10) (omega arith) (omega arith))

pub digits_of_four : (n : ℕ) → 1000 ≤ n → n < 10000 → decimal n ≡ (48 + n / 10 / 10 / 10) ∷ (48 + n / 10 / 10 % 10) ∷ (48 + n / 10 % 10) ∷ (48 + n % 10) ∷ []
digits_of_four n h l = digit_more n _ (omega arith) (omega arith) (three_digits (n / 10) (omega arith) (omega arith))

-- the last four digits after the others
pub last_four : (n : ℕ) → 10000 ≤ n → n < 2 ^ 64 → decimal n ≡ decimal (n / 10000) ++ four_digits (n % 10000)
last_four n h small =
    let thousands = digit_more (n / 10 / 10 / 10) _ (omega arith) (omega arith) (λ i. decimal (n / 10 / 10 / 10 / 10)) in
    let hundreds = digit_more (n / 10 / 10) _ (omega arith) (omega arith) thousands in
    let tens = digit_more (n / 10) _ (omega arith) (omega arith) hundreds in
    let front : n / 10 / 10 / 10 / 10 ≡ n / 10000 = omega arith in
    let a : n / 10 / 10 / 10 % 10 ≡ n % 10000 / 1000 = omega arith in
    let b : n / 10 / 10 % 10 ≡ n % 10000 / 100 % 10 = omega arith in
    let c : n / 10 % 10 ≡ n % 10000 / 10 % 10 = omega arith in
    let d : n % 10 ≡ n % 10000 % 10 = omega arith in
    let ds = decimal (n / 10 / 10 / 10 / 10) in
    let w = 48 + n / 10 / 10 / 10 % 10 in
    let x = 48 + n / 10 / 10 % 10 in
    let y = 48 + n / 10 % 10 in
    let z = 48 + n % 10 in
    digit_more n _ (omega arith) small tens
    ∙ append_assoc ((ds ++ w ∷ []) ++ x ∷ []) (y ∷ []) (z ∷ [])
    ∙ append_assoc (ds ++ w ∷ []) (x ∷ []) (y ∷ z ∷ [])
    ∙ append_assoc ds (w ∷ []) (x ∷ y ∷ z ∷ [])
    ∙ (λ i. decimal (front i) ++ (48 + a i) ∷ (48 + b i) ∷ (48 + c i) ∷ (48 + d i) ∷ [])
