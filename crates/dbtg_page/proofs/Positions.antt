-- Where a name stands among the names of parts.
use Rattle.std.proofs.Common.{◌≡◌, ◌<◌, ℕ, Bool, Bor, false, cond, not, List, [], ◌∷◌, ◌+◌, length}
use Rattle.std.proofs.Common.{map, nat_le, nat_lt, position, Option, Some, None, get_or, refl, ap, ◌∙◌, sym, bytes_eq, arith}
use Rattle.std.specs.Prelude.{◌||◌, option_and_then}
use Rattle.std.specs.List.{list_any, position_or_len, prefix_len}
use Rattle.std.proofs.lemmas.Bool.Decides.{nat_tests}
use Rattle.std.proofs.lemmas.List.{length-map}
use Rattle.std.proofs.lemmas.List.Quantifiers.{position-Some}
use Rattle.dbtg_page.specs.declared.changes.Kind.{Kind}
use Rattle.dbtg_page.specs.Changes.{met, name_by, stays}
use Rattle.dbtg_page.specs.Inside.Telling.{names}

module _ {X Y : Type 0} (f : X → Y) where
  before_same : (test : Y → Bool) (xs : List X) → prefix_len (λ x. not (test (f x))) xs ≡ prefix_len (λ y. not (test y)) (map f xs)
  before_same test [] = refl
  before_same test (x ∷ xs) = ap (λ n. cond (not (test (f x))) (1 + n) 0) (before_same test xs)

  position_map : (test : Y → Bool) (xs : List X) → position (λ x. test (f x)) xs ≡ position test (map f xs)
  position_map test xs =
      ap (λ n. cond (nat_lt n (length xs)) (Some n) None) (before_same test xs)
      ∙ ap (λ n. cond (nat_lt (position_or_len test (map f xs)) n) (Some (position_or_len test (map f xs))) None) (sym (length-map xs f))

  any_map : (test : Y → Bool) (xs : List X) → list_any (λ x. test (f x)) xs ≡ list_any test (map f xs)
  any_map test [] = refl
  any_map test (x ∷ xs) = ap (λ b. test (f x) || b) (any_map test xs)

module _ (kind : Kind) where
  pub place_among : (name : List ℕ) (parts : List (Bor (List ℕ))) → position (λ other. bytes_eq (name_by kind other.now) name) parts
      ≡ position (λ other. bytes_eq other name) (names kind parts)
  place_among name parts = position_map (λ p. p.now) (λ p. bytes_eq (name_by kind p) name) parts
      ∙ position_map (name_by kind) (λ other. bytes_eq other name) (map (λ p. p.now) parts)

  pub any_among : (name : List ℕ) (parts : List (Bor (List ℕ))) → list_any (λ other. bytes_eq name (name_by kind other.now)) parts
      ≡ list_any (bytes_eq name) (names kind parts)
  any_among name parts = any_map (λ p. p.now) (λ p. bytes_eq name (name_by kind p)) parts ∙ any_map (name_by kind) (bytes_eq name) (map (λ p. p.now) parts)

  pub long_names : (parts : List (Bor (List ℕ))) → length (names kind parts) ≡ length parts
  long_names parts = length-map (map (λ p. p.now) parts) (name_by kind) ∙ length-map parts (λ p. p.now)

  pub first_name : (parts : List (Bor (List ℕ))) (d : Bor (List ℕ)) → 0 < length parts → get_or (names kind parts) 0 [] ≡ name_by kind (get_or parts 0 d).now
  first_name [] d lt = absurd (omega arith)
  first_name (p ∷ parts) d lt = refl

pub met_none : (old : List (List ℕ)) (name : List ℕ) (later : List (List ℕ)) → position (λ other. bytes_eq other name) old ≡ None → met old name later ≡ None
met_none old name later e = ap (λ o. option_and_then (λ p. cond (stays old p later) (Some p) None) o) e

pub met_some : (old : List (List ℕ)) (name : List ℕ) (later : List (List ℕ)) (p : ℕ) (b : Bool) → position (λ other. bytes_eq other name) old ≡ Some p
    → stays old p later ≡ b → met old name later ≡ cond b (Some p) None
met_some old name later p b e s = ap (λ o. option_and_then (λ q. cond (stays old q later) (Some q) None) o) e ∙ ap (λ k. cond k (Some p) None) s

pub stands : (kind : Kind) (old : List (Bor (List ℕ))) (name : List ℕ) (p : ℕ) → position (λ other. bytes_eq other name) (names kind old) ≡ Some p
    → p < length old
stands kind old name p e = let found = position-Some (λ other. bytes_eq other name) (names kind old) p [] e in omega (arith, found.0, long_names kind old)

-- behind more than one, it depends on the first
pub stays_far : (kind : Kind) (old later : List (Bor (List ℕ))) (d : Bor (List ℕ)) (place : ℕ) (among : Bool) (first : List ℕ) → 1 < place
    → 0 < length old → first ≡ name_by kind (get_or old 0 d).now
    → among ≡ list_any (λ other. bytes_eq first (name_by kind other.now)) later → not among ≡ stays (names kind old) place (names kind later)
stays_far kind old later d place among first far some is found =
    let f : nat_le place 1 ≡ false = grind (arith, nat_tests) in
    ap not (found ∙ any_among kind first later ∙ ap (λ n. list_any (bytes_eq n) (names kind later)) (is ∙ sym (first_name kind old d some)))
    ∙ sym (ap (λ b. b || not (list_any (bytes_eq (get_or (names kind old) 0 [])) (names kind later))) f)

-- what was looked for among the parts stands there among their names
pub placed : (kind : Kind) (old : List (Bor (List ℕ))) (name wanted : List ℕ) (r : Option ℕ) → name ≡ wanted → r
    ≡ position (λ other. bytes_eq (name_by kind other.now) name) old
    → position (λ other. bytes_eq other wanted) (names kind old) ≡ r
placed kind old name wanted r e is =
    sym (place_among kind wanted old) ∙ ap (λ n. position (λ other. bytes_eq (name_by kind other.now) n) old) (sym e) ∙ sym is
