-- Lists of keys, each once, as they grow.
use Rattle.std.proofs.Common.{◌≡◌, refl, ◌∙◌, ap, ℕ, suc, ◌+◌, ◌-◌, ◌<◌, arith, append_assoc, cond, List, [], ◌∷◌, ◌++◌, Some, None}
use Rattle.std.specs.Prelude.{slice_get}
use Rattle.dbtg_cells.specs.declared.key.DbKey.{DbKey}
use Rattle.dbtg_cells.specs.Keys.{is_member}
use Rattle.dbtg_unit.specs.Hands.Erasing.{brought, brought_from, with_those}
use Rattle.dbtg_erase.proofs.Bringing.{past, stable}

-- those of a list, and then of another
pub with_those_append : (order xs ys : List DbKey) → with_those order (xs ++ ys) ≡ with_those (with_those order xs) ys
with_those_append order [] ys = refl
with_those_append order (x ∷ xs) ys = with_those_append (cond (is_member x order) order (order ++ x ∷ [])) xs ys

-- the key at i brings those that it takes along
pub brought_next : (taken : DbKey → List DbKey) (n i : ℕ) (order : List DbKey) (d : DbKey) → i < n → slice_get order i ≡ Some d
    → brought taken (n - i) i order ≡ brought taken (n - (i + 1)) (i + 1) (with_those order (taken d))
brought_next taken n i order d below at =
    let more : n - i ≡ suc (n - (i + 1)) = omega arith in
    let next : suc i ≡ i + 1 = omega arith in
    ap (λ m. brought taken m i order) more
    ∙ ap (λ g. brought taken (n - (i + 1)) (suc i) (brought_from taken order g)) at
    ∙ ap (λ j. brought taken (n - (i + 1)) j (with_those order (taken d))) next

-- where no key stands at i, nothing more is brought
pub brought_ended : (taken : DbKey → List DbKey) (n i : ℕ) (order : List DbKey) → slice_get order i ≡ None → brought taken n i order ≡ order
brought_ended taken n i order at = stable taken n i order (past i order at)

pub append_nil : {X : Type 0} (xs : List X) → xs ++ [] ≡ xs
append_nil [] = refl
append_nil (x ∷ xs) = ap (λ ys. x ∷ ys) (append_nil xs)

-- one list after two others, however they are grouped
pub keys_append : (xs ys zs : List DbKey) → (xs ++ ys) ++ zs ≡ xs ++ (ys ++ zs)
keys_append xs ys zs = append_assoc xs ys zs
