-- The first of some names in the order of cells that passes.
use Rattle.std.proofs.Common.{◌≡◌, ◌⊎◌, refl, sym, ◌∙◌, ap, subst, Bool, true, false, cond, List, [], ◌∷◌, Option, Some, None, inl, inr}
use Rattle.std.specs.Prelude.{filter, ⊤}
use Rattle.std.specs.List.{find}
use Rattle.std.proofs.lemmas.Bool.{and_parts, cases_Bool, false≢true, false_from_ne_true}
use Rattle.std.proofs.lemmas.Option.{none-some, same_Some}
use Rattle.dbtg_cells.specs.declared.name.CellName.{CellName}
use Rattle.dbtg_cells.specs.Names.{name_below}
use Rattle.dbtg_cells.proofs.Public.{either_way}
use Rattle.dbtg_unit.specs.Database.State.Legal.{pairwise}
use Rattle.dbtg_unit.proofs.Public.{In, all_at, in_filter, name_chain, name_never, of_filter}
use Rattle.dbtg_erase.specs.NextCell.{least_name, nearer}

-- c, or a later name
abbrev pub AtOrBehind : CellName → CellName → Type 0
AtOrBehind c d = (d ≡ c) ⊎ (name_below c d ≡ true)

not_before : (c d : CellName) → AtOrBehind c d → name_below d c ≡ false
not_before c d (inl e) = false_from_ne_true _ (λ h. name_never c (subst (λ (x : CellName). name_below x c ≡ true) e h))
not_before c d (inr b) = false_from_ne_true _ (λ h. name_never c (name_chain c d c b h))

-- once it is the best it stays
stays_best : (c : CellName) (xs : List CellName) → ((d : CellName) → In d xs → AtOrBehind c d) → least_name (Some c) xs ≡ Some c
stays_best c [] h = refl
stays_best c (x ∷ xs) h = ap (λ b. least_name (Some (cond b x c)) xs) (not_before c x (h x (inl refl))) ∙ stays_best c xs (λ d i. h d (inr i))

-- it becomes the best where it is among the names, and the others are later
becomes_best : (c : CellName) (best : Option CellName) (xs : List CellName) → ((b : CellName) → best ≡ Some b → AtOrBehind c b) → In c xs → ((d : CellName) → In d xs → AtOrBehind c d) → least_name best xs ≡ Some c
becomes_best c best [] behind i h = absurd i
becomes_best c best (x ∷ xs) behind (inl e) h = ap (λ (b : CellName). least_name (Some b) xs) (now best behind) ∙ stays_best c xs (λ d j. h d (inr j)) where
  now : (best : Option CellName) → ((b : CellName) → best ≡ Some b → AtOrBehind c b) → nearer best x ≡ c
  now None behind = e
  now (Some b) behind = by (behind b refl) where
    by : AtOrBehind c b → cond (name_below x b) x b ≡ c
    by (inl same) = ap (λ (y : CellName). cond (name_below y b) y b) e ∙ ap (λ (y : CellName). cond (name_below c y) c y) same ∙ either_way (name_below c c) c
    by (inr later) = ap (λ (y : CellName). cond (name_below y b) y b) e ∙ ap (λ t. cond t c b) later
becomes_best c best (x ∷ xs) behind (inr i) h = becomes_best c (Some (nearer best x)) xs (λ b e. subst (AtOrBehind c) (same_Some (nearer best x) b e) (one best behind)) i (λ d j. h d (inr j)) where
  one : (best : Option CellName) → ((b : CellName) → best ≡ Some b → AtOrBehind c b) → AtOrBehind c (nearer best x)
  one None behind = h x (inl refl)
  one (Some b) behind = elim (name_below x b) as (λ t. AtOrBehind c (cond t x b)) [ true ↦ h x (inl refl) | false ↦ behind b refl ]

nothing_passes : (p : CellName → Bool) (ys : List CellName) → ((y : CellName) → In y ys → p y ≡ false) → filter p ys ≡ []
nothing_passes p [] h = refl
nothing_passes p (y ∷ ys) h = ap (λ b. cond b (y ∷ filter p ys) (filter p ys)) (h y (inl refl)) ∙ nothing_passes p ys (λ z i. h z (inr i))

-- each name of a list is followed by none that is before it
abbrev pub Ascends : List CellName → Type 0
Ascends [] = ⊤
Ascends (c ∷ cs) = ((d : CellName) → In d cs → AtOrBehind c d) × Ascends cs

pub ascends_of : (cs : List CellName) → pairwise name_below cs ≡ true → Ascends cs
ascends_of [] h = tt
ascends_of (c ∷ cs) h = let parts = and_parts _ _ h in (λ d i. inr (all_at (name_below c) d cs parts.0 i), ascends_of cs parts.1)

-- the first of an ascending list that passes, as the least of the same names in any order
pub first_is_least : (p : CellName → Bool) (xs ys : List CellName) → Ascends xs → ((c : CellName) → In c xs → In c ys) → ((c : CellName) → In c ys → In c xs) → find p xs ≡ least_name None (filter p ys)
first_is_least p xs ys ascends there back = by (find p xs) refl where
  fails : (zs : List CellName) → find p zs ≡ None → (c : CellName) → In c zs → p c ≡ false
  fails [] h c i = absurd i
  fails (z ∷ zs) h c i =
      elim (cases_Bool (p z)) [
        | inl e ↦ absurd (none-some z (sym h ∙ ap (λ b. cond b (Some z) (find p zs)) e))
        | inr e ↦ elim i [ inl same ↦ ap p (sym same) ∙ e | inr j ↦ fails zs (sym (ap (λ b. cond b (Some z) (find p zs)) e) ∙ h) c j ]
      ]

  found : (zs : List CellName) (c : CellName) → Ascends zs → find p zs ≡ Some c → In c zs × (p c ≡ true) × ((d : CellName) → In d zs → p d ≡ true → AtOrBehind c d)
  found [] c a h = absurd (none-some c h)
  found (z ∷ zs) c a h =
      elim (cases_Bool (p z)) [
        | inl e ↦
            let same : z ≡ c = same_Some z c (sym (ap (λ b. cond b (Some z) (find p zs)) e) ∙ h) in
            (inl same, ap p (sym same) ∙ e, λ d i q. elim i [ inl f ↦ inl (sym f ∙ same) | inr j ↦ subst (λ (y : CellName). AtOrBehind y d) same (a.0 d j) ])
        | inr e ↦
            let rest = found zs c a.1 (sym (ap (λ b. cond b (Some z) (find p zs)) e) ∙ h) in
            (inr rest.0, rest.1, λ d i q. elim i [ inl f ↦ absurd (false≢true (sym e ∙ ap p f ∙ q)) | inr j ↦ rest.2 d j q ])
      ]

  by : (o : Option CellName) → find p xs ≡ o → find p xs ≡ least_name None (filter p ys)
  by None h = h ∙ sym (ap (least_name None) (nothing_passes p ys (λ y i. fails xs h y (back y i))))
  by (Some c) h =
      let f = found xs c ascends h in
      h ∙ sym (becomes_best c None (filter p ys) (λ b e. absurd (none-some b e)) (in_filter p c ys (there c f.0) f.1) (λ d i. let of = of_filter p d ys i in f.2 d (back d of.0) of.1))
