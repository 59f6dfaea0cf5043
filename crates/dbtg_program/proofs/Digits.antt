-- A number is not a name and has no period, so it is not a field.
use Rattle.std.proofs.Common.{◌≡◌, ℕ, Bool, true, false, cond, not, ◌&&◌, ◌||◌, eqb, List, [], ◌∷◌, length, refl, sym, ap, ◌∙◌, arith}
use Rattle.std.specs.Prelude.{nat_le, nat_lt, map, slice_index, ◌-◌, ◌==◌}
use Rattle.std.specs.List.{list_all}
use Rattle.std.proofs.lemmas.Bool.{and_parts}
use Rattle.std.proofs.lemmas.Bool.Decides.{nat_tests}
use Rattle.dbtg_schema.specs.Texts.Spelling.{among, is_capital, is_digit, is_name, is_name_byte, reserved}
use Rattle.dbtg_script.specs.Printing.Spelling.{behind, has_byte, in_front, is_number}
use Rattle.dbtg_program.specs.declared.grammar.Keyword.TheVariants as keyword
use Rattle.dbtg_program.specs.Sentences.{is_own_name, is_two_parts, spelling, verbs}

third : (a b c d e f : Bool) → c ≡ false → (a && b && c && d && e && f) ≡ false
third false b c d e f h = refl
third true false c d e f h = refl
third true true true d e f h = absurd cc
third true true false d e f h = refl

second : (a b c : Bool) → b ≡ false → (a && b && c) ≡ false
second false b c h = refl
second true true c h = absurd cc
second true false c h = refl

no_capital : (b : ℕ) → is_digit b ≡ true → is_capital b ≡ false
no_capital b h = let p = and_parts (nat_le 48 b) (nat_le b 57) h in grind (arith, nat_tests)

no_period : (b : ℕ) → is_digit b ≡ true → eqb b 46 ≡ false
no_period b h = let p = and_parts (nat_le 48 b) (nat_le b 57) h in grind (arith, nat_tests)

nothing_behind : (t : List ℕ) → list_all is_digit t ≡ true → behind 46 t ≡ []
nothing_behind [] h = refl
nothing_behind (b ∷ bs) h =
    let p = and_parts (is_digit b) (list_all is_digit bs) h in
    ap (λ (x : Bool). cond x bs (behind 46 bs)) (no_period b p.0) ∙ nothing_behind bs p.1

pub number_no_field : (t : List ℕ) → is_number t ≡ true → false ≡ (is_own_name t || is_two_parts t)
number_no_field [] h = absurd cc
number_no_field (b ∷ bs) h =
    let digits = (and_parts (nat_lt 0 (length (b ∷ bs))) (list_all is_digit (b ∷ bs)) h).1 in
    let first = (and_parts (is_digit b) (list_all is_digit bs) digits).0 in
    let no_name : is_name (b ∷ bs) ≡ false =
    third (nat_lt 0 (length (b ∷ bs))) (nat_le (length (b ∷ bs)) 30) (is_capital b) (list_all is_name_byte (b ∷ bs)) (not (slice_index (b ∷ bs) (length (b ∷ bs) - 1) == 45)) (not (among (b ∷ bs) reserved)) (no_capital b first) in
    let one_part : is_two_parts (b ∷ bs) ≡ false =
    second (nat_lt 0 (length (in_front 46 (b ∷ bs)))) (nat_lt 0 (length (behind 46 (b ∷ bs)))) (not (has_byte 46 (behind 46 (b ∷ bs)))) (ap (λ (w : List ℕ). nat_lt 0 (length w)) (nothing_behind (b ∷ bs) digits)) in
    let own : is_own_name (b ∷ bs) ≡ false = ap (λ (x : Bool). x && not (among (b ∷ bs) (map spelling (keyword.To ∷ keyword.Status ∷ verbs)))) no_name in
    sym (λ i. own i || one_part i)
