-- A text of turns names no unit above 99.
use Rattle.std.proofs.Common.{◌≡◌, ℕ, zero, suc, ◌&&◌, Bool, true, false, cond, not, List, [], ◌∷◌, map, replicate, Option, Some, None, refl, sym, ◌∙◌, nat_le}
use Rattle.std.specs.List.{list_all}
use Rattle.std.specs.Prelude.{⊤}
use Rattle.std.proofs.lemmas.List.Folds.{list_all-append}
use Rattle.dbtg_script.specs.declared.limits.TheConstants.{MOST_MOVES}
use Rattle.dbtg_script.specs.Moves.{begins_with, counted, plain_number, repeated, said, spelled_turn, times}
use Rattle.dbtg_script.specs.Printing.Spelling.{is_number, number, in_front, behind, has_byte}
use Rattle.dbtg_script.specs.Turns.{turns_of}

-- the word says nothing, or a unit of at most 99
abbrev IsSmall : Option (ℕ × ℕ) → Type 0
IsSmall None = ⊤
IsSmall (Some r) = nat_le r.0 99 ≡ true

small_number : (a b : Bool) (n k : ℕ) → b ≡ nat_le n 99 → IsSmall (times (cond (a && b) (Some n) None) k)
small_number true true n k e = sym e
small_number true false n k e = tt
small_number false b n k e = tt

small_times : (t : List ℕ) (k : ℕ) → IsSmall (times (plain_number 99 t) k)
small_times t k = small_number (is_number t && not (begins_with 48 t)) (nat_le (number t) 99) (number t) k refl

small_counted : (t : List ℕ) (o : Option ℕ) → IsSmall (counted t o)
small_counted t None = tt
small_counted t (Some k) = small_times t k

small_of : (b : Bool) (x y : Option (ℕ × ℕ)) → IsSmall x → IsSmall y → IsSmall (cond b x y)
small_of true x y p q = p
small_of false x y p q = q

small_turn : (t : List ℕ) → IsSmall (spelled_turn t)
small_turn t = small_of (has_byte 42 t) (counted (in_front 42 t) (plain_number MOST_MOVES (behind 42 t))) (times (plain_number 99 t) 1) (small_counted (in_front 42 t) (plain_number MOST_MOVES (behind 42 t))) (small_times t 1)

many_small : (k u : ℕ) → nat_le u 99 ≡ true → list_all (λ v. nat_le v 99) (replicate k u) ≡ true
many_small zero u e = refl
many_small (suc k) u e = rw e (many_small k u e)

repeated_small : (o : Option (ℕ × ℕ)) → IsSmall o → list_all (λ v. nat_le v 99) (repeated o) ≡ true
repeated_small None e = refl
repeated_small (Some r) e = many_small r.1 r.0 e

pub turns_small : (ws : List (List ℕ)) → list_all (λ v. nat_le v 99) (turns_of ws) ≡ true
turns_small [] = refl
turns_small (w ∷ ws) =
    list_all-append (λ v. nat_le v 99) (repeated (spelled_turn w)) (said (map spelled_turn ws)) ∙ rw (repeated_small (spelled_turn w) (small_turn w), turns_small ws) refl
