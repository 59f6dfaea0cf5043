-- Owners by set, of which one alone may be there.
use Rattle.std.proofs.Common.{◌≡◌, ◌≢◌, ◌∙◌, ℕ, zero, suc, true, false, List, [], ◌∷◌, length, take, drop, None, Some, Option, replicate, slice_set, refl, sym, ap, is_none, is_some}
use Rattle.std.specs.List.{list_all}
use Rattle.dbtg_schema.specs.Lookups.{at}
use Rattle.dbtg_cells.specs.declared.key.Owner.{Owner}
use Rattle.dbtg_cells.specs.Inside.RecordOwners.{alone}

-- a list without an owner
pub none_each : (xs : List (Option Owner)) → list_all is_none xs ≡ true → xs ≡ replicate (length xs) None
none_each [] none = refl
none_each (None ∷ xs) none = ap (λ l. None ∷ l) (none_each xs none)
none_each (Some o ∷ xs) none = absurd (cc (none))

-- no owner in a set of sets without one
pub none_alone : (sets set : ℕ) → alone sets set None ≡ replicate sets None
none_alone zero set = refl
none_alone (suc sets) zero = refl
none_alone (suc sets) (suc set) = ap (λ l. None ∷ l) (none_alone sets set)

-- another owner in the same set
pub same_set : (sets set : ℕ) (x y : Option Owner) → slice_set (alone sets set x) set y ≡ alone sets set y
same_set zero set x y = refl
same_set (suc sets) zero x y = refl
same_set (suc sets) (suc set) x y = ap (λ l. None ∷ l) (same_set sets set x y)

-- an owner where there was none in any set
pub first_there : (sets own set : ℕ) (none x : Option Owner) → is_some none ≡ false → alone sets set x ≡ slice_set (alone sets own none) set x
first_there sets own set None x nobody = ap (λ l. slice_set l set x) (sym (none_alone sets own))
first_there sets own set (Some o) x nobody = absurd (cc (nobody))

-- no owner in another set, where there was none
pub none_elsewhere : (sets set other : ℕ) (x : Option Owner) → other ≢ set → slice_set (alone sets set x) other None ≡ alone sets set x
none_elsewhere zero set other x apart = refl
none_elsewhere (suc sets) zero zero x apart = absurd (apart refl)
none_elsewhere (suc sets) zero (suc other) x apart = ap (λ l. x ∷ l) (none_alone sets other)
none_elsewhere (suc sets) (suc set) zero x apart = refl
none_elsewhere (suc sets) (suc set) (suc other) x apart = ap (λ l. None ∷ l) (none_elsewhere sets set other x (λ e. apart (ap suc e)))

-- a list in two parts, and nothing behind its first sets
pub none_behind : (xs : List (Option Owner)) (set : ℕ) (before rest : List (Option Owner)) → before ≡ take set xs → rest ≡ drop set xs → length rest ≡ 0 → list_all is_none before ≡ true
    → xs ≡ alone (length xs) set (at xs set)
none_behind [] set before rest front back nothing none = refl
none_behind (x ∷ xs) zero before rest front back nothing none = absurd (cc (back, nothing))
none_behind (None ∷ xs) (suc set) before rest front back nothing none = ap (λ l. None ∷ l) (none_behind xs set (take set xs) (drop set xs) refl refl (sym (ap length back) ∙ nothing) (ap (list_all is_none) (sym front) ∙ none))
none_behind (Some o ∷ xs) (suc set) before rest front back nothing none = absurd (cc (ap (list_all is_none) (sym front) ∙ none))

-- the same with one in that place, and none behind it
pub none_but_between : (xs : List (Option Owner)) (set : ℕ) (before behind : List (Option Owner)) (x : Option Owner) → before ≡ take set xs → drop set xs ≡ x ∷ behind
    → list_all is_none before ≡ true → list_all is_none behind ≡ true → xs ≡ alone (length xs) set (at xs set)
none_but_between [] zero before behind x front back none after = absurd (cc (back))
none_but_between [] (suc set) before behind x front back none after = absurd (cc (back))
none_but_between (y ∷ xs) zero before behind x front back none after = ap (λ l. y ∷ l) (none_each xs (ap (list_all is_none) (let same : xs ≡ behind = cc in same) ∙ after))
none_but_between (None ∷ xs) (suc set) before behind x front back none after =
    ap (λ l. None ∷ l) (none_but_between xs set (take set xs) behind x refl back (ap (list_all is_none) (sym front) ∙ none) after)
none_but_between (Some o ∷ xs) (suc set) before behind x front back none after = absurd (cc (ap (list_all is_none) (sym front) ∙ none))
