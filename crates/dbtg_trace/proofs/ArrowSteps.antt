-- The unit before the colon, and one byte further on the way to the arrow.
use Rattle.std.proofs.Common.{◌≡◌, ℕ, suc, ◌+◌, ◌^◌, ◌<◌, ◌≤◌, Bool, true, false, not, ◌&&◌, List, [], ◌∷◌, drop, length, take, zero, ◌-◌, Option, Some, None, refl, sym, ap, ◌∙◌, arith}
use Rattle.std.proofs.lemmas.List.{drop_all}
use Rattle.std.specs.Prelude.{◌==◌, IfSome, is_some, min, option_map, if◌then◌else◌}
use Rattle.std.proofs.lemmas.Bool.Decides.{nat_tests}
use Rattle.dbtg_trace.specs.Parts.{arrow_at, begins_arrow, is_unit}

pub here : (inside : Bool) (b : ℕ) (bs : List ℕ) → not inside && begins_arrow (b ∷ bs) ≡ true → arrow_at inside (b ∷ bs) ≡ Some 0
unfolding arrow_at
here inside b bs h = rw h refl

pub not_here : (inside : Bool) (b : ℕ) (bs : List ℕ) → not inside && begins_arrow (b ∷ bs) ≡ false → arrow_at inside (b ∷ bs) ≡ option_map suc (arrow_at (if b == 34 then not inside else inside) bs)
unfolding arrow_at
not_here inside b bs h = rw h refl

pub nowhere : (inside : Bool) → arrow_at inside [] ≡ None
unfolding arrow_at
nowhere inside = refl

pub one_further : (at : ℕ) (o : Option ℕ) → option_map (λ n. at + n) (option_map suc o) ≡ option_map (λ n. at + 1 + n) o
one_further at None = refl
one_further at (Some n) = let e : at + suc n ≡ at + 1 + n = omega arith in ap (λ (k : ℕ). Some k) e

-- an arrow has two bytes
pub two_bytes : (bs : List ℕ) → begins_arrow bs ≡ true → 2 ≤ length bs
two_bytes [] h = absurd cc
two_bytes (b ∷ []) h = absurd (by (b == 61) h) where
  by : (k : Bool) → k && false ≡ true → ⊥
  by true h = cc
  by false h = cc
two_bytes (b ∷ c ∷ bs) h = omega arith

-- a number capped at 10^18 names a unit exactly when the number itself does
capped : (units n : ℕ) → units < 256 → is_unit units (min n (10 ^ 18)) ≡ is_unit units n
capped units n few = grind (arith, nat_tests)

uncapped : (units n : ℕ) → units < 256 → is_unit units n ≡ true → min n (10 ^ 18) ≡ n
uncapped units n few h = grind (arith, nat_tests)

pub named : (units n : ℕ) (found : Option ℕ) → units < 256 → IfSome found (λ u. u ≡ min n (10 ^ 18)) → is_some found ≡ is_unit units (min n (10 ^ 18)) → found ≡ (if is_unit units n then Some n else None)
named units n None few u t = let e : is_unit units n ≡ false = sym (capped units n few) ∙ sym t in rw e refl
named units n (Some x) few u t =
    let e : is_unit units n ≡ true = sym (capped units n few) ∙ sym t in
    rw e (ap (λ (k : ℕ). Some k) (u ∙ uncapped units n few e))

-- where no arrow begins here, the search goes on one byte further
pub further : (at : ℕ) (inside : Bool) (left : List ℕ) (b : ℕ) (bs : List ℕ) → left ≡ b ∷ bs → not inside && begins_arrow left ≡ false
    → option_map (λ n. at + 1 + n) (arrow_at (if b == 34 then not inside else inside) bs) ≡ option_map (λ n. at + n) (arrow_at inside left)
further at inside left b bs is h =
    let none : not inside && begins_arrow (b ∷ bs) ≡ false = ap (λ (xs : List ℕ). not inside && begins_arrow xs) (sym is) ∙ h in
    sym (one_further at (arrow_at (if b == 34 then not inside else inside) bs)) ∙ ap (option_map (λ n. at + n)) (sym (not_here inside b bs none))
    ∙ ap (λ (xs : List ℕ). option_map (λ n. at + n) (arrow_at inside xs)) (sym is)

-- where an arrow begins here, it is the first
pub found_here : (at : ℕ) (inside : Bool) (left : List ℕ) (b : ℕ) (bs : List ℕ) (o : Option ℕ) → left ≡ b ∷ bs → not inside && begins_arrow (b ∷ bs) ≡ true → option_map (λ n. at + n) (arrow_at inside left) ≡ o → Some at ≡ o
found_here at inside left b bs o is h e =
    let z : at ≡ at + 0 = omega arith in
    ap (λ (k : ℕ). Some k) z ∙ sym (ap (λ (xs : List ℕ). option_map (λ n. at + n) (arrow_at inside xs)) is ∙ ap (option_map (λ n. at + n)) (here inside b bs h)) ∙ e

take_full : (xs : List ℕ) → take (length xs) xs ≡ xs
take_full [] = refl
take_full (x ∷ xs) = ap (λ (ys : List ℕ). x ∷ ys) (take_full xs)

take_none : (k : ℕ) (xs : List ℕ) → xs ≡ [] → take k xs ≡ []
take_none zero xs e = refl
take_none (suc k) xs e = ap (take (suc k)) e

-- the slice from a place on
pub rest_from : (n : ℕ) (xs : List ℕ) → take (length xs - n) (drop n xs) ≡ drop n xs
rest_from zero xs = let all : length xs - 0 ≡ length xs = omega arith in ap (λ (n : ℕ). take n xs) all ∙ take_full xs
rest_from (suc n) [] = take_none _ (drop (suc n) []) refl
rest_from (suc n) (x ∷ xs) = let less : length (x ∷ xs) - suc n ≡ length xs - n = omega arith in ap (λ (k : ℕ). take k (drop n xs)) less ∙ rest_from n xs

-- past the last byte there is no arrow
pub past_all : (at : ℕ) (inside : Bool) (text : List ℕ) (o : Option ℕ) → length text ≤ at → option_map (λ n. at + n) (arrow_at inside (drop at text)) ≡ o → None ≡ o
past_all at inside text o past e = sym (ap (λ (xs : List ℕ). option_map (λ n. at + n) (arrow_at inside xs)) (drop_all at text past) ∙ ap (option_map (λ n. at + n)) (nowhere inside)) ∙ e
