-- Units that belong to a database.
use Rattle.std.proofs.Common.{◌≡◌, zero, suc, List, [], ◌∷◌, ◌++◌, All, length, Option, Some, refl, subst, arith, get_or, length-append}
use Rattle.std.specs.Prelude.{option_to_list}
use Rattle.std.proofs.lemmas.List.{get_or_append_left}
use Rattle.dbtg_run.specs.declared.database.Database.{Database}
use Rattle.dbtg_run.specs.UnitView.{BelongsTo, UnitView}

at_last : (xs : List UnitView) (x d : UnitView) → get_or (xs ++ x ∷ []) (length xs) d ≡ x
at_last [] x d = refl
at_last (y ∷ ys) x d = at_last ys x d

last_belongs : (db : Database) (units others : List UnitView) (u : UnitView) → units ≡ others ++ u ∷ [] → All (BelongsTo db) units → BelongsTo db u
last_belongs db units others u is all =
    subst (BelongsTo db) (at_last others u u) (subst (All (BelongsTo db)) is all (length others) u (let l = length-append others (u ∷ []) in omega arith))

others_belong : (db : Database) (units others : List UnitView) (u : UnitView) → units ≡ others ++ u ∷ [] → All (BelongsTo db) units → All (BelongsTo db) others
others_belong db units others u is all k d below =
    subst (BelongsTo db) (get_or_append_left others (u ∷ []) d k below) (subst (All (BelongsTo db)) is all k d (let l = length-append others (u ∷ []) in omega arith))

-- the last of the units, and the last but one
pub last_two_belong : (db : Database) (units others rest : List UnitView) (second first : Option UnitView) (v u : UnitView)
    → units ≡ others ++ option_to_list second → others ≡ rest ++ option_to_list first → second ≡ Some v → first ≡ Some u → All (BelongsTo db) units
    → BelongsTo db u × BelongsTo db v
last_two_belong db units others rest second first v u is less second_is first_is all =
    let whole : units ≡ others ++ v ∷ [] = subst (λ o. units ≡ others ++ option_to_list o) second_is is in
    let part : others ≡ rest ++ u ∷ [] = subst (λ o. others ≡ rest ++ option_to_list o) first_is less in
    (last_belongs db others rest u part (others_belong db units others v whole all), last_belongs db units others v whole all)

pub both_belong : (db : Database) (a b : UnitView) → BelongsTo db a → BelongsTo db b → All (BelongsTo db) (a ∷ b ∷ [])
both_belong db a b p q zero d below = p
both_belong db a b p q (suc zero) d below = q
both_belong db a b p q (suc (suc k)) d below = absurd (omega arith)
