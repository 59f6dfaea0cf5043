-- Values that are of their pictures, and lists of values that are the same.
use Rattle.std.proofs.Common.{◌≡◌, refl, sym, subst, ℕ, zero, suc, true, List, [], ◌∷◌, Option, Some, None}
use Rattle.std.specs.Prelude.{slice_get, slice_index_or}
use Rattle.std.proofs.lemmas.Bool.{and_parts, and_from, false≢true}
use Rattle.dbtg_schema.specs.declared.shape.Picture.{Picture}
use Rattle.dbtg_schema.specs.declared.shape.Picture.TheVariants.{Number, Text as TextPicture}
use Rattle.dbtg_cells.specs.declared.key.Value.{Value}
use Rattle.dbtg_cells.specs.declared.key.Value.TheVariants.{Num, Text}
use Rattle.dbtg_cells.specs.Keys.{value_eq, values_eq}
use Rattle.dbtg_schema.specs.Lookups.{some_and}
use Rattle.dbtg_cells.proofs.Public.{same_value}
use Rattle.dbtg_unit.specs.Database.Statements.Fits.{value_fits, values_fit}
use Rattle.dbtg_unit.specs.Database.Laws.Placing.{comparable}

pub values_swap : (these those : List Value) → values_eq these those ≡ true → values_eq those these ≡ true
values_swap [] [] h = refl
values_swap (a ∷ these) (b ∷ those) h =
    let hs = and_parts _ _ h in
    let same = same_value a b hs.0 in
    and_from _ _ (subst (λ (c : Value). value_eq b c ≡ true) (sym same) (subst (λ (c : Value). value_eq c b ≡ true) same hs.0)) (values_swap these those hs.1)
values_swap [] (b ∷ those) h = absurd (false≢true h)
values_swap (a ∷ these) [] h = absurd (false≢true h)

-- two keys of one picture can be compared
pub comparable_from : (p : Picture) (a b : Option Value) → some_and (value_fits p) a ≡ true → some_and (value_fits p) b ≡ true → comparable a b ≡ true
comparable_from p None b h g = absurd (false≢true h)
comparable_from p (Some a) None h g = absurd (false≢true g)
comparable_from p (Some (Num a)) (Some (Num b)) h g = refl
comparable_from p (Some (Text a)) (Some (Text b)) h g = refl
comparable_from (Number n) (Some (Num a)) (Some (Text b)) h g = absurd (false≢true g)
comparable_from (TextPicture n) (Some (Num a)) (Some (Text b)) h g = absurd (false≢true h)
comparable_from (Number n) (Some (Text a)) (Some (Num b)) h g = absurd (false≢true h)
comparable_from (TextPicture n) (Some (Text a)) (Some (Num b)) h g = absurd (false≢true g)

pub fits_at : (ps : List Picture) (vs : List Value) (i : ℕ) (p : Picture) → values_fit ps vs ≡ true → slice_get ps i ≡ Some p → value_fits p (slice_index_or vs i (Num 0)) ≡ true
fits_at [] vs i p h e = absurd (none_some e) where
  none_some : {x : Picture} → None ≡ Some x → ⊥
  none_some h = cc
fits_at (q ∷ ps) [] i p h e = absurd (false≢true h)
fits_at (q ∷ ps) (v ∷ vs) zero p h e = let same : q ≡ p = cc in subst (λ (r : Picture). value_fits r v ≡ true) same (and_parts _ _ h).0
fits_at (q ∷ ps) (v ∷ vs) (suc i) p h e = fits_at ps vs i p (and_parts _ _ h).1 e
