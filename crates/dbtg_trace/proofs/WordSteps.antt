-- The status of an answer, and one value further in it.
use Rattle.std.proofs.Common.{◌≡◌, ℕ, ◌∙◌, ◌+◌, ◌-◌, ◌^◌, ◌<◌, ◌≤◌, ◌&&◌, Bool, true, false, length, arith, List, [], ◌∷◌, ◌++◌, Option, Some, None, refl, sym, ap, append_assoc}
use Rattle.std.specs.Prelude.{IfOk, MatchOption, Result, Ok, Err, min, option_map, if◌then◌else◌}
use Rattle.std.proofs.lemmas.Bool.{and_parts}
use Rattle.std.proofs.lemmas.Bool.Decides.{nat_tests}
use Rattle.dbtg_schema.specs.Texts.Spelling.{is_digit}
use Rattle.dbtg_script.specs.Printing.Spelling.{is_number, number}
use Rattle.std.specs.Str.{bytes_eq}
use Rattle.std.proofs.lemmas.Slice.Eq.{bytes_eq-Decides}
use Rattle.dbtg_schema.specs.declared.shape.Item.{Item}
use Rattle.dbtg_cells.specs.declared.key.Value.{Value}
use Rattle.dbtg_script.specs.Tokens.{Token, equals, literal, plain}
use Rattle.dbtg_script.specs.Values.{spelled}
use Rattle.dbtg_trace.specs.Answers.{value_in, values_in}

behind : (vs : List Value) (v : Value) (o : Option (List Value)) → option_map (λ more. vs ++ more) (option_map (λ more. v ∷ more) o) ≡ option_map (λ more. (vs ++ v ∷ []) ++ more) o
behind vs v None = refl
behind vs v (Some more) = ap (λ (all : List Value). Some all) (sym (append_assoc vs (v ∷ []) more))

pub one_value_more : (i : Item) (items : List Item) (ts left : List Token) (v : Value) (vs : List Value) → value_in i ts ≡ Some (v, left)
    → option_map (λ more. vs ++ more) (values_in (i ∷ items) ts) ≡ option_map (λ more. (vs ++ v ∷ []) ++ more) (values_in items left)
one_value_more i items ts left v vs h = rw h (behind vs v (values_in items left))

pub no_value : (i : Item) (items : List Item) (ts : List Token) → value_in i ts ≡ None → values_in (i ∷ items) ts ≡ None
no_value i items ts h = rw h refl

-- the words that name the item and give it a value
given : (i : Item) (t : Token) (left : List Token) → value_in i (plain i.name ∷ equals ∷ t ∷ left) ≡ option_map {U = Value × List Token} (λ v. (v, left)) (spelled i.picture t)
given i t left = let e : bytes_eq i.name i.name ≡ true = (bytes_eq-Decides i.name i.name).1 refl in rw e refl

pub value_read : {E : Type 0} (i : Item) (ts left : List Token) (t : Token) (read : Result (Option Value) E) → ts ≡ plain i.name ∷ equals ∷ t ∷ left → IfOk read (λ v. v ≡ spelled i.picture t)
    → IfOk read (λ found. MatchOption found (value_in i ts ≡ None) (λ v. value_in i ts ≡ Some (v, left)))
value_read i ts left t (Err e) h s = tt
value_read i ts left t (Ok None) h s = rw h (given i t left ∙ ap (option_map {U = Value × List Token} (λ v. (v, left))) (sym s))
value_read i ts left t (Ok (Some v)) h s = rw h (given i t left ∙ ap (option_map {U = Value × List Token} (λ v. (v, left))) (sym s))

pub value_missing : (i : Item) (ts : List Token) → ts ≡ plain i.name ∷ equals ∷ [] → value_in i ts ≡ None
value_missing i ts h = rw h refl

other_name : (i : Item) (name : List ℕ) (t : Token) (left : List Token) (b : Bool) → bytes_eq i.name name ≡ b → ((ts : List Token) → plain name ∷ equals ∷ t ∷ left ≡ plain i.name ∷ equals ∷ ts → ⊥)
    → (if b then option_map {U = Value × List Token} (λ v. (v, left)) (spelled i.picture t) else None) ≡ None
other_name i name t left true h other = absurd (other (t ∷ left) (ap (λ (n : List ℕ). plain n ∷ equals ∷ t ∷ left) (sym ((bytes_eq-Decides i.name name).0 h))))
other_name i name t left false h other = refl

pub not_named : (i : Item) (ts : List Token) → ((left : List Token) → ts ≡ plain i.name ∷ equals ∷ left → ⊥) → value_in i ts ≡ None
not_named i [] other = refl
not_named i (equals ∷ ts) other = refl
not_named i (literal t ∷ ts) other = refl
not_named i (plain name ∷ []) other = refl
not_named i (plain name ∷ plain t ∷ ts) other = refl
not_named i (plain name ∷ literal t ∷ ts) other = refl
not_named i (plain name ∷ equals ∷ []) other = refl
not_named i (plain name ∷ equals ∷ t ∷ ts) other = other_name i name t ts (bytes_eq i.name name) refl other

-- four digits spell a number below 10,000
small : (d : ℕ) → is_digit d ≡ true → d - 48 ≤ 9
small d h = grind (arith, nat_tests)

below : (t : List ℕ) → length t ≡ 4 → is_number t ≡ true → number t < 10000
below (a ∷ b ∷ c ∷ d ∷ []) len h =
    let all : is_digit a && (is_digit b && (is_digit c && (is_digit d && true))) ≡ true = h in
    let p = and_parts (is_digit a) (is_digit b && (is_digit c && (is_digit d && true))) all in
    let q = and_parts (is_digit b) (is_digit c && (is_digit d && true)) p.1 in
    let r = and_parts (is_digit c) (is_digit d && true) q.1 in
    let s = and_parts (is_digit d) true r.1 in
    omega (arith, small a p.0, small b q.0, small c r.0, small d s.0)
below [] len h = absurd (omega arith)
below (a ∷ []) len h = absurd (omega arith)
below (a ∷ b ∷ []) len h = absurd (omega arith)
below (a ∷ b ∷ c ∷ []) len h = absurd (omega arith)
below (a ∷ b ∷ c ∷ d ∷ e ∷ t) len h = absurd (omega arith)

pub four_digits : (t : List ℕ) → length t ≡ 4 → is_number t ≡ true → min (number t) (10 ^ 18) < 10000
four_digits t len h = let b = below t len h in grind (arith, nat_tests)

pub status_read : (t : List ℕ) → length t ≡ 4 → is_number t ≡ true → min (number t) (10 ^ 18) ≡ number t
status_read t len h = let b = below t len h in grind (arith, nat_tests)
