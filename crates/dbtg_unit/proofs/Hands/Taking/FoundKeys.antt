-- What a FIND finds is among the keys that it goes over.
use Rattle.std.proofs.Common.{◌≡◌, refl, ap, subst, Bool, true, false, cond, List, [], ◌∷◌, reverse, Option, Some, None, inl, inr, ⊎_elim}
use Rattle.std.specs.Prelude.{ℤ, pos, negsuc, pred, Result, Ok, filter}
use Rattle.std.proofs.lemmas.Option.{same_Some}
use Rattle.std.proofs.lemmas.List.{reverse-append}
use Rattle.dbtg_schema.specs.Lookups.{first, final, behind, in_front, nth, some_and}
use Rattle.dbtg_cells.specs.declared.key.DbKey.{DbKey}
use Rattle.dbtg_cells.specs.Keys.{key_eq, key_below}
use Rattle.dbtg_unit.specs.declared.statement.Which.{Which}
use Rattle.dbtg_unit.specs.declared.statement.Which.TheVariants.{First, Last, Next, Prior, Nth}
use Rattle.dbtg_unit.specs.declared.unit.Cause.{Cause}
use Rattle.dbtg_unit.specs.Database.Statements.Found.{chosen, chosen_by_key, earlier, found_unless, later, with_current}
use Rattle.dbtg_unit.proofs.Hands.Untouched.InTurn.{element_at}
use Rattle.dbtg_unit.proofs.Lists.Membership.{In, of_append, of_filter}

pub first_in : {X : Type 0} (xs : List X) (x : X) → first xs ≡ Some x → In x xs
first_in [] x e = absurd (cc (e))
first_in (y ∷ ys) x e = inl (same_Some y x e)

pub of_reverse : {X : Type 0} (x : X) (xs : List X) → In x (reverse xs) → In x xs
of_reverse x [] i = i
of_reverse {X} x (y ∷ ys) i = ⊎_elim (λ j. inr (of_reverse x ys j)) (λ j. ⊎_elim (λ e. inl e) (λ n. absurd n) j)
    (of_append x (reverse ys) (y ∷ []) (subst (λ (zs : List X). In x zs) (reverse-append (y ∷ []) ys) i))

final_in : {X : Type 0} (xs : List X) (x : X) → final xs ≡ Some x → In x xs
final_in xs x e = of_reverse x xs (first_in (reverse xs) x e)

nth_in : {X : Type 0} (n : ℤ) (xs : List X) (x : X) → nth n xs ≡ Some x → In x xs
nth_in (pos n) xs x e = element_at xs (pred n) x e
nth_in (negsuc n) xs x e = of_reverse x xs (element_at (reverse xs) n x e)

of_behind : {X : Type 0} (is : X → Bool) (x : X) (xs : List X) → In x (behind is xs) → In x xs
of_behind is x [] i = i
of_behind {X} is x (y ∷ ys) i = elim (is y) as (λ b. In x (cond b ys (behind is ys)) → In x (y ∷ ys)) [ true ↦ λ j. inr j | false ↦ λ j. inr (of_behind is x ys j) ] i

of_front : {X : Type 0} (is : X → Bool) (x : X) (xs : List X) → In x (in_front is xs) → In x xs
of_front is x [] i = i
of_front {X} is x (y ∷ ys) i = elim (is y) as (λ b. In x (cond b [] (y ∷ in_front is ys)) → In x (y ∷ ys)) [ true ↦ λ j. absurd j | false ↦ λ j. ⊎_elim (λ e. inl e) (λ k. inr (of_front is x ys k)) j ] i

of_later : (p : Option DbKey) (k : DbKey) (ks : List DbKey) → In k (later p ks) → In k ks
of_later None k ks i = i
of_later (Some p) k ks i = of_behind (key_eq p) k ks i

of_earlier : (p : Option DbKey) (k : DbKey) (ks : List DbKey) → In k (earlier p ks) → In k ks
of_earlier None k ks i = i
of_earlier (Some p) k ks i = of_front (key_eq p) k ks i

pub chosen_in : (which : Which) (test : DbKey → Bool) (p : Option DbKey) (ks : List DbKey) (k : DbKey) → chosen which test p ks ≡ Some k → In k ks × (test k ≡ true)
chosen_in First test p ks k e = of_filter test k ks (first_in (filter test ks) k e)
chosen_in Last test p ks k e = of_filter test k ks (final_in (filter test ks) k e)
chosen_in Next test p ks k e = let r = of_filter test k (later p ks) (first_in (filter test (later p ks)) k e) in (of_later p k ks r.0, r.1)
chosen_in Prior test p ks k e = let r = of_filter test k (earlier p ks) (final_in (filter test (earlier p ks)) k e) in (of_earlier p k ks r.0, r.1)
chosen_in (Nth n) test p ks k e = of_filter test k ks (nth_in n (filter test ks) k e)

pub chosen_by_key_in : (which : Which) (p : Option DbKey) (ks : List DbKey) (k : DbKey) → chosen_by_key which p ks ≡ Some k → In k ks
chosen_by_key_in First p ks k e = first_in ks k e
chosen_by_key_in Last p ks k e = final_in ks k e
chosen_by_key_in Next p ks k e = (of_filter (λ x. some_and (λ c. key_below c x) p) k ks (first_in _ k e)).0
chosen_by_key_in Prior p ks k e = (of_filter (λ x. some_and (λ c. key_below x c) p) k ks (final_in _ k e)).0
chosen_by_key_in (Nth n) p ks k e = nth_in n ks k e

pub first_of_filter : (test : DbKey → Bool) (ks : List DbKey) (k : DbKey) → first (filter test ks) ≡ Some k → In k ks × (test k ≡ true)
first_of_filter test ks k e = of_filter test k ks (first_in (filter test ks) k e)

pub first_is_in : (ks : List DbKey) (k : DbKey) → first ks ≡ Some k → In k ks
first_is_in = first_in

-- what was found under no condition
pub found_is : (check : Option Cause) (key : Option DbKey) (none : Cause) (k : DbKey) → found_unless check key none ≡ Ok k → key ≡ Some k
found_is (Some cause) key none k e = absurd (cc (e))
found_is None (Some key) none k e = let q : key ≡ k = cc in ap Some q
found_is None None none k e = absurd (cc (e))

-- there is a current, and from it the key was found
pub current_is : {X : Type 0} (o : Option X) (f : X → Result DbKey Cause) (k : DbKey) → with_current o f ≡ Ok k → (x : X) × (o ≡ Some x) × (f x ≡ Ok k)
current_is None f k e = absurd (cc (e))
current_is (Some x) f k e = (x, refl, e)
