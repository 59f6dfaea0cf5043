-- Items after a MODIFY: those that are not named stay, and each is of its picture.
use Rattle.std.proofs.Common.{◌||◌, ◌≡◌, refl, sym, ◌∙◌, ap, ℕ, zero, suc, Bool, true, false, List, [], ◌∷◌, length, Option, Some, None, eqb, map, get_or-set_other, arith}
use Rattle.std.specs.Prelude.{is_some, slice_index_or, slice_set, slice_get, option_map, option_and_then, unwrap_or}
use Rattle.std.specs.List.{list_any, list_all, find}
use Rattle.std.proofs.lemmas.Bool.{and_parts, and_from, or_parts, false≢true, eqb-false, false_from_ne_true}
use Rattle.std.proofs.lemmas.Option.{slice_get_within}
use Rattle.dbtg_schema.specs.Lists.{Lists}
use Rattle.dbtg_schema.specs.declared.numbers.ItemNo.{ItemNo}
use Rattle.dbtg_schema.specs.declared.shape.Calc.{Calc}
use Rattle.dbtg_schema.specs.declared.shape.Member.{Member}
use Rattle.dbtg_schema.specs.declared.shape.Picture.{Picture}
use Rattle.dbtg_schema.specs.declared.shape.SetType.{SetType}
use Rattle.dbtg_schema.specs.Lookups.{some_and}
use Rattle.dbtg_schema.specs.Structure.{calc_of, member_clause, picture_of, pictures, rekeyed_sets, set_numbers}
use Rattle.dbtg_cells.specs.declared.key.Value.{Value}
use Rattle.dbtg_cells.specs.declared.key.Value.TheVariants.{Num}
use Rattle.dbtg_unit.specs.declared.statement.Change.{Change}
use Rattle.dbtg_unit.specs.Database.State.Base.{picked, calc_items, key_item}
use Rattle.dbtg_unit.specs.Database.Statements.Fits.{value_fits, values_fit}
use Rattle.dbtg_unit.specs.Database.Statements.Effect.{changed_items, names_calc}
use Rattle.dbtg_unit.proofs.Database.Legal.PassedChecks.{has_number, number_kept, number_in}

-- an element of a mapped list passes
pub any_mapped : {X Y : Type 0} (p : Y → Bool) (f : X → Y) (xs : List X) → list_any p (map f xs) ≡ list_any (λ x. p (f x)) xs
any_mapped p f [] = refl
any_mapped p f (x ∷ xs) = ap (λ b. p (f x) || b) (any_mapped p f xs)

-- an item that no change names
unnamed : (changes : List Change) (items : List Value) (i : ℕ) → list_any (λ c. eqb c.item i) changes ≡ false → slice_index_or (changed_items changes items) i (Num 0) ≡ slice_index_or items i (Num 0)
unnamed [] items i h = refl
unnamed (c ∷ changes) items i h =
    let hs = or_parts (eqb c.item i) (list_any (λ c. eqb c.item i) changes) h in
    unnamed changes (slice_set items c.item c.value) i hs.1 ∙ get_or-set_other items c.item i c.value (Num 0) (λ e. eqb-false c.item i hs.0 (sym e))

unnamed_picked : (changes : List Change) (items : List Value) (numbers : List ItemNo) → list_any (λ i. list_any (λ c. eqb c.item i) changes) numbers ≡ false → picked numbers (changed_items changes items) ≡ picked numbers items
unnamed_picked changes items [] h = refl
unnamed_picked changes items (i ∷ numbers) h =
    let hs = or_parts (list_any (λ c. eqb c.item i) changes) (list_any (λ i. list_any (λ c. eqb c.item i) changes) numbers) h in
    λ d. unnamed changes items i hs.0 d ∷ unnamed_picked changes items numbers hs.1 d

-- the CALC items stay where none is named
pub same_calc_items : (schema : Lists) (t : ℕ) (changes : List Change) (items : List Value) → names_calc schema t changes ≡ false → calc_items schema t (changed_items changes items) ≡ calc_items schema t items
same_calc_items schema t changes items h =
    (elim (calc_of schema t) as (λ calc. some_and (λ c. list_any (λ i. list_any (λ d. eqb d.item i) changes) c.items) calc ≡ false
    → unwrap_or (option_map (λ (c : Calc). picked c.items (changed_items changes items)) calc) [] ≡ unwrap_or (option_map (λ (c : Calc). picked c.items items) calc) []) [
      | None ↦ λ h. refl
      | Some calc ↦ λ h. unnamed_picked changes items calc.items h
    ]) h

-- the number of a set with a member clause
pub set_has_number : (schema : Lists) (s t : ℕ) → is_some (member_clause schema s t) ≡ true → has_number s (set_numbers schema) ≡ true
set_has_number schema s t h = go (slice_get schema.sets s) refl h where
  go : (set : Option SetType) → slice_get schema.sets s ≡ set → is_some (option_and_then (λ x. find (λ member. eqb member.rtype t) x.members) set) ≡ true → has_number s (set_numbers schema) ≡ true
  go None e h = absurd (false≢true h)
  go (Some set) e h = let low = slice_get_within schema.sets s set e in number_in s 0 (length schema.sets) (omega arith) (omega arith)

-- the sort key stays in a set whose key item is not named
pub same_key_item : (schema : Lists) (s t : ℕ) (changes : List Change) (items : List Value) → has_number s (rekeyed_sets schema t (map (λ c. c.item) changes)) ≡ false
    → key_item schema s t (changed_items changes items) ≡ key_item schema s t items
same_key_item schema s t changes items h = go (member_clause schema s t) refl where
  q : ℕ → Bool
  q r = some_and (λ m. some_and (λ i. list_any (λ j. eqb j i) (map (λ c. c.item) changes)) m.key) (member_clause schema r t)

  at_key : (m : Member) (key : Option ℕ) → m.key ≡ key → member_clause schema s t ≡ Some m → option_map (λ i. slice_index_or (changed_items changes items) i (Num 0)) key ≡ option_map (λ i. slice_index_or items i (Num 0)) key
  at_key m None e at = refl
  at_key m (Some i) e at =
      ap Some (unnamed changes items i (sym (any_mapped (λ j. eqb j i) (λ c. c.item) changes) ∙ false_from_ne_true _ (λ named.
      false≢true (sym h ∙ number_kept q s (set_numbers schema) (set_has_number schema s t (ap is_some at))
      (ap (some_and (λ (m : Member). some_and (λ i. list_any (λ j. eqb j i) (map (λ (c : Change). c.item) changes)) m.key)) at ∙ ap (some_and (λ i. list_any (λ j. eqb j i) (map (λ (c : Change). c.item) changes))) e ∙ named)))))

  go : (m : Option Member) → member_clause schema s t ≡ m → key_item schema s t (changed_items changes items) ≡ key_item schema s t items
  go None at = ap (option_and_then (λ (m : Member). option_map (λ i. slice_index_or (changed_items changes items) i (Num 0)) m.key)) at ∙ ap (option_and_then (λ (m : Member). option_map (λ i. slice_index_or items i (Num 0)) m.key)) (sym at)
  go (Some m) at =
      ap (option_and_then (λ (m : Member). option_map (λ i. slice_index_or (changed_items changes items) i (Num 0)) m.key)) at
      ∙ at_key m m.key refl at
      ∙ ap (option_and_then (λ (m : Member). option_map (λ i. slice_index_or items i (Num 0)) m.key)) (sym at)

-- each item of its picture, after a change to a value of its picture
fits_set : (ps : List Picture) (vs : List Value) (i : ℕ) (v : Value) → values_fit ps vs ≡ true → some_and (λ p. value_fits p v) (slice_get ps i) ≡ true → values_fit ps (slice_set vs i v) ≡ true
fits_set [] [] i v h g = absurd (false≢true g)
fits_set [] (w ∷ vs) i v h g = absurd (false≢true h)
fits_set (p ∷ ps) [] i v h g = absurd (false≢true h)
fits_set (p ∷ ps) (w ∷ vs) zero v h g = and_from _ _ g (and_parts _ _ h).1
fits_set (p ∷ ps) (w ∷ vs) (suc i) v h g = let hs = and_parts _ _ h in and_from _ _ hs.0 (fits_set ps vs i v hs.1 g)

pub changed_fit : (schema : Lists) (t : ℕ) (changes : List Change) (items : List Value) → list_all (λ c. some_and (λ p. value_fits p c.value) (picture_of schema t c.item)) changes ≡ true
    → values_fit (pictures schema t) items ≡ true → values_fit (pictures schema t) (changed_items changes items) ≡ true
changed_fit schema t [] items h g = g
changed_fit schema t (c ∷ changes) items h g =
    let hs = and_parts _ _ h in
    changed_fit schema t changes (slice_set items c.item c.value) hs.1 (fits_set (pictures schema t) items c.item c.value g hs.0)
