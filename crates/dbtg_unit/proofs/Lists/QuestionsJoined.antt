-- A question asked of the areas of a list, by their numbers, and of the types of a set's members, by its clauses.
use Rattle.std.proofs.Common.{◌≡◌, ◌∙◌, refl, sym, subst, ap, ℕ, ◌<◌, ◌≤◌, Bool, true, false, cond, ◌&&◌, ◌==◌, eq-eqb, eqb-true, List, [], ◌∷◌, Some, inl, inr, arith}
use Rattle.std.specs.Prelude.{filter, is_some, nat_lt}
use Rattle.std.specs.List.{All, find, list_all, list_any, range_with_len}
use Rattle.std.proofs.lemmas.Bool.{and_from, and_parts, cases_Bool, false≢true, ltb-true}
use Rattle.dbtg_schema.specs.Erasing.{marked}
use Rattle.dbtg_schema.specs.declared.shape.Member.{Member}
use Rattle.dbtg_schema.proofs.Public.{some_is}
use Rattle.dbtg_cells.proofs.Public.{same_truth}
use Rattle.dbtg_unit.proofs.Database.Records.SortKeysCompare.{all_at_entry}
use Rattle.dbtg_unit.proofs.Lists.Membership.{In, all_at, any_element, any_in, find_element, in_filter, in_range, of_filter, of_range, place_of_element}

-- where the marks below 8 are those of a list, whose numbers are all below n, one of it passes if and only if one that is marked does
pub asked_by_mark : (p : ℕ → Bool) (marks : List Bool) (xs : List ℕ) (n : ℕ) → n ≤ 8 → ((a : ℕ) → a < 8 → marked marks a ≡ list_any (λ b. b == a) xs)
    → list_all (λ a. nat_lt a n) xs ≡ true → list_any (λ a. marked marks a && p a) (range_with_len 0 n) ≡ list_any p xs
asked_by_mark p marks xs n few right below = same_truth _ _ there back
  where
    there : list_any (λ a. marked marks a && p a) (range_with_len 0 n) ≡ true → list_any p xs ≡ true
    there h =
        let a = any_element (λ a. marked marks a && p a) (range_with_len 0 n) h in
        let parts = and_parts _ _ a.2 in
        let within = (of_range n 0 a.0 a.1).1 in
        let b = any_element (λ b. b == a.0) xs (sym (right a.0 (omega (arith, within, few))) ∙ parts.0) in
        any_in p b.0 xs b.1 (subst (λ k. p k ≡ true) (sym (eqb-true b.0 a.0 b.2)) parts.1)

    back : list_any p xs ≡ true → list_any (λ a. marked marks a && p a) (range_with_len 0 n) ≡ true
    back h =
        let a = any_element p xs h in
        let small = ltb-true a.0 n (all_at (λ k. nat_lt k n) a.0 xs below a.1) in
        let is_marked = right a.0 (omega (arith, small, few)) ∙ any_in (λ b. b == a.0) a.0 xs a.1 (eq-eqb a.0 a.0 refl) in
        any_in (λ k. marked marks k && p k) a.0 (range_with_len 0 n) (in_range n 0 a.0 (omega arith) (omega (arith, small))) (and_from _ _ is_marked a.2)

-- a member's type has a clause
has_clause : (m : Member) (members : List Member) → In m members → is_some (find (λ k. k.rtype == m.rtype) members) ≡ true
has_clause m [] i = absurd i
has_clause m (k ∷ ks) i =
    elim (cases_Bool (k.rtype == m.rtype)) [
      | inl e ↦ ap (λ b. is_some (cond b (Some k) (find (λ k. k.rtype == m.rtype) ks))) e
      | inr e ↦ ap (λ b. is_some (cond b (Some k) (find (λ k. k.rtype == m.rtype) ks))) e ∙ has_clause m ks (behind e i)
    ]
  where
    behind : (k.rtype == m.rtype) ≡ false → In m (k ∷ ks) → In m ks
    behind e (inl same) = absurd (false≢true (sym e ∙ eq-eqb k.rtype m.rtype (ap (λ (x : Member). x.rtype) same)))
    behind e (inr j) = j

-- the types below n that have a clause among these
abbrev with_clause : List Member → ℕ → List ℕ
with_clause members n = filter (λ t. is_some (find (λ m. m.rtype == t) members)) (range_with_len 0 n)

-- where the types of these clauses are all below n, a type with a clause passes if and only if that of a clause does
pub asked_by_clauses : (p : ℕ → Bool) (members : List Member) (n : ℕ) → All (λ (m : Member). m.rtype < n) members
    → list_any (λ (m : Member). p m.rtype) members ≡ list_any p (with_clause members n)
asked_by_clauses p members n below = same_truth _ _ there back
  where
    there : list_any (λ (m : Member). p m.rtype) members ≡ true → list_any p (with_clause members n) ≡ true
    there h =
        let m = any_element (λ (m : Member). p m.rtype) members h in
        let at = place_of_element m.0 members m.1 in
        let low : m.0.rtype < n = all_at_entry (λ (m : Member). m.rtype < n) members at.0 m.0 below at.1 in
        any_in p m.0.rtype (with_clause members n) (in_filter _ m.0.rtype (range_with_len 0 n) (in_range n 0 m.0.rtype (omega arith) (omega (arith, low))) (has_clause m.0 members m.1)) m.2

    back : list_any p (with_clause members n) ≡ true → list_any (λ (m : Member). p m.rtype) members ≡ true
    back h =
        let t = any_element p (with_clause members n) h in
        let clause = some_is (find (λ m. m.rtype == t.0) members) (of_filter (λ t. is_some (find (λ m. m.rtype == t) members)) t.0 (range_with_len 0 n) t.1).1 in
        let it = find_element (λ m. m.rtype == t.0) members clause.0 clause.1 in
        any_in (λ (m : Member). p m.rtype) clause.0 members it.0 (subst (λ k. p k ≡ true) (sym (eqb-true clause.0.rtype t.0 it.1)) t.2)

-- where none passes none is kept
pub none_kept : (xs : List ℕ) → filter (λ x. false) xs ≡ []
none_kept [] = refl
none_kept (x ∷ xs) = none_kept xs
