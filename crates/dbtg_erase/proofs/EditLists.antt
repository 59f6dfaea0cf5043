-- Lists of edits, as they grow.
use Rattle.std.proofs.Common.{◌≡◌, refl, sym, ◌∙◌, ap, ℕ, ◌+◌, ◌<◌, ◌≤◌, Bool, true, false, cond, List, [], ◌∷◌, ◌++◌, drop, map, append_assoc, append-nil}
use Rattle.std.proofs.lemmas.List.{map-append}
use Rattle.std.specs.Prelude.{filter, Option, Some}
use Rattle.std.specs.List.{flat_map, range_with_len}
use Rattle.dbtg_schema.specs.Lists.{Lists}
use Rattle.dbtg_schema.specs.Structure.{owns, set_numbers}
use Rattle.dbtg_cells.specs.declared.key.DbKey.{DbKey}
use Rattle.dbtg_cells.specs.declared.key.Owner.{Owner}
use Rattle.dbtg_cells.specs.declared.name.CellName.{CellName}
use Rattle.dbtg_cells.specs.declared.name.CellName.TheVariants.{Ring}
use Rattle.dbtg_cells.proofs.Public.{map_twice}
use Rattle.dbtg_unit.specs.declared.edit.CellEdit.{CellEdit}
use Rattle.dbtg_unit.specs.declared.edit.Edit.TheVariants.{Vacate}
use Rattle.dbtg_unit.specs.declared.erased.Erased.{Erased}
use Rattle.dbtg_unit.specs.Hands.EditsOf.{close_ring, closing_edits, edits_of_erased, leave_number, leaving_edits, slot_edit}
use Rattle.dbtg_unit.specs.Hands.Erasing.{own_rings}
use Rattle.dbtg_schema.proofs.Public.{numbers_end, numbers_next}
use Rattle.dbtg_erase.specs.Inside.ErasePlan.{going_edits}

pub edits_append : (edits xs ys : List CellEdit) → (edits ++ xs) ++ ys ≡ edits ++ (xs ++ ys)
edits_append edits xs ys = append_assoc edits xs ys

pub names_append : (names xs ys : List CellName) → (names ++ xs) ++ ys ≡ names ++ (xs ++ ys)
names_append names xs ys = append_assoc names xs ys

-- four parts, and then another
pub four_append : (vs ws xs ys zs : List CellEdit) → (vs ++ (ws ++ (xs ++ ys))) ++ zs ≡ vs ++ (ws ++ (xs ++ (ys ++ zs)))
four_append vs ws xs ys zs =
    append_assoc vs (ws ++ (xs ++ ys)) zs
    ∙ ap (λ l. vs ++ l) (append_assoc ws (xs ++ ys) zs)
    ∙ ap (λ l. vs ++ (ws ++ l)) (append_assoc xs ys zs)

-- the rings that records own are closed one after another
pub rings_closed : (schema : Lists) (gone : List DbKey) → map close_ring (flat_map (own_rings schema) gone) ≡ flat_map (closing_edits schema) gone
rings_closed schema [] = refl
rings_closed schema (d ∷ ds) =
    map-append close_ring (own_rings schema d) (flat_map (own_rings schema) ds)
    ∙ ap (λ l. l ++ map close_ring (flat_map (own_rings schema) ds)) (map_twice close_ring (λ s. Ring s (Some (d.rtype, d.number))) (filter (λ s. owns schema s d.rtype) (set_numbers schema)))
    ∙ ap (λ l. closing_edits schema d ++ l) (rings_closed schema ds)

-- what is told by the records is what goes
pub told_by_records : (schema : Lists) (owner : ℕ → DbKey → Option Owner) (gone : List DbKey) (e : Erased)
    → e.gone ≡ gone → e.places ≡ flat_map (leaving_edits schema owner gone) gone → e.rings ≡ flat_map (own_rings schema) gone → edits_of_erased e ≡ going_edits schema owner gone
told_by_records schema owner gone e gone_are places_are rings_are =
    (λ i. map leave_number (gone_are i) ++ (places_are i ++ (map close_ring (rings_are i) ++ map (λ d. slot_edit d Vacate) (gone_are i))))
    ∙ ap (λ l. map leave_number gone ++ (flat_map (leaving_edits schema owner gone) gone ++ (l ++ map (λ d. slot_edit d Vacate) gone))) (rings_closed schema gone)

split : (f : ℕ → CellEdit) (p : ℕ → Bool) (i : ℕ) (xs : List ℕ) → map f (filter p (i ∷ xs)) ≡ map f (filter p (i ∷ [])) ++ map f (filter p xs)
split f p i xs = elim (p i) as (λ b. map f (cond b (i ∷ filter p xs) (filter p xs)) ≡ map f (cond b (i ∷ []) []) ++ map f (filter p xs)) [ true ↦ refl | false ↦ refl ]

-- number by number, the edits of the numbers that pass
pub edits_of_next : (edits new goal : List CellEdit) (f : ℕ → CellEdit) (p : ℕ → Bool) (n i set : ℕ) → i < n → set ≡ i
    → new ≡ edits ++ (map f (filter p (set ∷ [])))
    → edits ++ (map f (filter p (drop i (range_with_len 0 n)))) ≡ goal
    → new ++ (map f (filter p (drop (i + 1) (range_with_len 0 n)))) ≡ goal
edits_of_next edits new goal f p n i set below is new_is h =
    ap (λ es. es ++ (map f (filter p (drop (i + 1) (range_with_len 0 n))))) (new_is ∙ ap (λ s. edits ++ (map f (filter p (s ∷ [])))) is)
    ∙ edits_append edits (map f (filter p (i ∷ []))) (map f (filter p (drop (i + 1) (range_with_len 0 n))))
    ∙ ap (λ es. edits ++ es) (sym (ap (λ xs. map f (filter p xs)) (numbers_next n i below) ∙ split f p i (drop (i + 1) (range_with_len 0 n))))
    ∙ h

-- past the last number none is left
pub edits_of_end : {X : Type 0} (edits goal : List X) (f : List ℕ → List X) (n i : ℕ) → n ≤ i → f [] ≡ []
    → edits ++ (f (drop i (range_with_len 0 n))) ≡ goal → edits ≡ goal
edits_of_end edits goal f n i past none h =
    sym (append-nil edits) ∙ ap (λ es. edits ++ es) (sym (ap f (numbers_end n i past) ∙ none)) ∙ h

-- number by number, the edits of each
pub edits_of_each : (edits new goal : List CellEdit) (f : ℕ → List CellEdit) (n i : ℕ) → i < n
    → new ≡ edits ++ f i
    → edits ++ (flat_map f (drop i (range_with_len 0 n))) ≡ goal
    → new ++ (flat_map f (drop (i + 1) (range_with_len 0 n))) ≡ goal
edits_of_each edits new goal f n i below new_is h =
    ap (λ es. es ++ (flat_map f (drop (i + 1) (range_with_len 0 n)))) new_is
    ∙ edits_append edits (f i) (flat_map f (drop (i + 1) (range_with_len 0 n)))
    ∙ ap (λ es. edits ++ es) (sym (ap (flat_map f) (numbers_next n i below)))
    ∙ h
