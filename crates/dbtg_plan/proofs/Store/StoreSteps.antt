-- The steps of a STORE over the sets of a schema.
-- s is a set, t a record type, i the number of sets that were passed.
use Rattle.std.proofs.Common.{◌≡◌, refl, sym, ◌∙◌, ap, subst, ℕ, zero, suc, ◌+◌, ◌<◌, Bool, true, false, cond, ◌&&◌, ◌||◌, List, [], ◌∷◌, ◌++◌, Option, Some, None, eqb, inl, inr, map, drop, get_or, length, append_assoc, arith}
use Rattle.std.specs.Prelude.{is_some, option_and_then, replicate, slice_get, slice_set}
use Rattle.std.specs.List.{enumerate_from, find, flat_map, list_any, range_with_len}
use Rattle.std.proofs.lemmas.Bool.{cases_Bool, eq-eqb, eqb-false, eqb-true, false_from_ne_true, false≢true}
use Rattle.std.proofs.lemmas.List.{drop_more}
use Rattle.std.proofs.lemmas.List.Folds.{find-append}
use Rattle.dbtg_schema.specs.Lists.{Lists}
use Rattle.dbtg_schema.specs.Lookups.{first_cause, some_and}
use Rattle.dbtg_schema.specs.Structure.{automatic_sets, is_automatic, member_clause, set_numbers}
use Rattle.dbtg_schema.specs.declared.shape.SetType.{SetType}
use Rattle.dbtg_cells.specs.declared.key.DbKey.{DbKey}
use Rattle.dbtg_cells.specs.declared.key.Owner.{Owner}
use Rattle.dbtg_cells.specs.declared.key.Value.{Value}
use Rattle.dbtg_cells.specs.declared.name.CellName.{CellName}
use Rattle.dbtg_cells.specs.declared.name.CellName.TheVariants.{Ring}
use Rattle.dbtg_cells.specs.Names.{place_eq}
use Rattle.dbtg_cells.specs.Shown.{first_version}
use Rattle.dbtg_cells.proofs.Public.{index_within}
use Rattle.dbtg_unit.specs.declared.edit.CellEdit.{CellEdit}
use Rattle.dbtg_unit.specs.declared.edit.Edit.TheVariants.{Fill}
use Rattle.dbtg_unit.specs.declared.unit.Unit.{Unit}
use Rattle.dbtg_unit.specs.Database.State.Base.{key_item}
use Rattle.dbtg_unit.specs.Database.State.CellNames.{place_of}
use Rattle.dbtg_unit.specs.Hands.EditsOf.{first_owners, joining_edits, slot_edit, store_edits}
use Rattle.dbtg_unit.specs.Hands.Hands.{Hands}
use Rattle.dbtg_unit.specs.Hands.Needs.{current_owner, first_missing, is_missing}
use Rattle.dbtg_unit.specs.Hands.Reserving.{CanTakeMember, KeepsOthers, OfHeld}
use Rattle.dbtg_unit.proofs.Public.{has_number_filter, has_number_passes, has_number_range, map_same}
use Rattle.dbtg_unit.specs.Database.Statements.Conditions.{joined_place}
use Rattle.dbtg_plan.specs.Inside.Store.{HasRoom, entering_edit, edits_of_opening}
use Rattle.dbtg_plan.proofs.Store.SetSteps.{first_cause_append, flat_step, or_first, or_second}

-- SETS IN WHICH STORE CONNECTS

pub connected : (schema : Lists) (s t : ℕ) → some_and (λ m. is_automatic m.class) (member_clause schema s t) ≡ list_any (λ s'. eqb s' s) (automatic_sets schema t)
connected schema s t =
    let passes : ℕ → Bool = λ s. some_and (λ m. is_automatic m.class) (member_clause schema s t) in
    elim (cases_Bool (passes s)) [
      | inl e ↦
          let low = index_within schema.sets s (there s e) in
          e ∙ sym (has_number_filter passes s (set_numbers schema) e (has_number_range s 0 (length schema.sets) (omega arith) (omega arith)))
      | inr e ↦ e ∙ sym (false_from_ne_true _ (λ h. false≢true (sym e ∙ has_number_passes passes s (set_numbers schema) h)))
    ] where
      of_set : (set : Option SetType) → some_and (λ m. is_automatic m.class) (option_and_then (λ (x : SetType). find (λ member. eqb member.rtype t) x.members) set) ≡ true → is_some set ≡ true
      of_set None h = h
      of_set (Some x) h = refl

      there : (s : ℕ) → some_and (λ m. is_automatic m.class) (member_clause schema s t) ≡ true → is_some (slice_get schema.sets s) ≡ true
      there s h = of_set (slice_get schema.sets s) h

-- CELLS THAT ARE MISSING

pub missing_here : (hands : Hands) (xs ys : List CellName) → is_some (first_missing hands xs) ≡ true → first_missing hands (xs ++ ys) ≡ first_missing hands xs
missing_here hands xs ys h = find-append (is_missing hands) xs ys ∙ or_first (first_missing hands xs) (first_missing hands ys) h

pub missing_behind : (hands : Hands) (xs ys : List CellName) → is_some (first_missing hands xs) ≡ false → first_missing hands (xs ++ ys) ≡ first_missing hands ys
missing_behind hands xs ys h = find-append (is_missing hands) xs ys ∙ or_second (first_missing hands xs) (first_missing hands ys) h

pub missing_found : (hands : Hands) (f : ℕ → List CellName) (n i : ℕ) → i < n → is_some (first_missing hands (f i)) ≡ true → first_missing hands (flat_map f (drop i (range_with_len 0 n))) ≡ first_missing hands (f i)
missing_found hands f n i h there = ap (first_missing hands) (flat_step f n i h) ∙ missing_here hands (f i) (flat_map f (drop (i + 1) (range_with_len 0 n))) there

pub missing_passed : (hands : Hands) (f : ℕ → List CellName) (n i : ℕ) → i < n → is_some (first_missing hands (f i)) ≡ false
    → first_missing hands (flat_map f (drop i (range_with_len 0 n))) ≡ first_missing hands (flat_map f (drop (i + 1) (range_with_len 0 n)))
missing_passed hands f n i h none = ap (first_missing hands) (flat_step f n i h) ∙ missing_behind hands (f i) (flat_map f (drop (i + 1) (range_with_len 0 n))) none

-- IN EACH SET OF A LIST

-- the next set comes first of what is left
pub left_next : (sets : List ℕ) (i x : ℕ) → i < length sets → x ≡ get_or sets i x → drop i sets ≡ x ∷ drop (i + 1) sets
left_next sets i x below is = drop_more sets i x below ∙ ap (λ s. s ∷ drop (i + 1) sets) (sym is)

-- CAUSES

pub cause_here : {C : Type 0} (xs ys : List (Bool × C)) → is_some (first_cause xs) ≡ true → first_cause (xs ++ ys) ≡ first_cause xs
cause_here xs ys h = first_cause_append xs ys ∙ or_first (first_cause xs) (first_cause ys) h

pub cause_behind : {C : Type 0} (xs ys : List (Bool × C)) → is_some (first_cause xs) ≡ false → first_cause (xs ++ ys) ≡ first_cause ys
cause_behind xs ys h = first_cause_append xs ys ∙ or_second (first_cause xs) (first_cause ys) h

-- EDITS THAT ARE PUSHED

-- the edits of a STORE, as they were pushed
pub edits_pushed : (schema : Lists) (unit : Unit) (k : DbKey) (items : List Value) (entered joined opened filled : List CellEdit)
    → entered ≡ [] ++ entering_edit schema k items ∷ []
    → joined ≡ entered ++ flat_map (λ s. joining_edits schema unit s k (key_item schema s k.rtype items)) (automatic_sets schema k.rtype)
    → opened ≡ joined ++ edits_of_opening schema k
    → filled ≡ opened ++ slot_edit k (Fill (first_version k.generation items (first_owners schema unit k.rtype))) ∷ []
    → filled ≡ store_edits schema unit k items
edits_pushed schema unit k items entered joined opened filled enters joins opens fills =
    let joining = flat_map (λ s. joining_edits schema unit s k (key_item schema s k.rtype items)) (automatic_sets schema k.rtype) in
    let opening = edits_of_opening schema k in
    let last = slot_edit k (Fill (first_version k.generation items (first_owners schema unit k.rtype))) ∷ [] in
    fills ∙ ap (λ es. es ++ last) (opens ∙ ap (λ es. es ++ opening) (joins ∙ ap (λ es. es ++ joining) enters))
    ∙ append_assoc (entering_edit schema k items ∷ joining) opening last

-- and as they are made
pub edits_made : (schema : Lists) (unit : Unit) (k : DbKey) (items : List Value) (enter fill : CellEdit) (joins : List CellEdit)
    → enter ≡ entering_edit schema k items
    → joins ≡ flat_map (λ s. joining_edits schema unit s k (key_item schema s k.rtype items)) (automatic_sets schema k.rtype)
    → fill ≡ slot_edit k (Fill (first_version k.generation items (first_owners schema unit k.rtype)))
    → enter ∷ (joins ++ (edits_of_opening schema k ++ fill ∷ [])) ≡ store_edits schema unit k items
edits_made schema unit k items enter fill joins enters are_joins fills = λ i. enters i ∷ (are_joins i ++ (edits_of_opening schema k ++ fills i ∷ []))

-- OWNERS

-- an owner for each set, before any is noted
pub owners_before : (f : ℕ → Option Owner) (n a : ℕ) → map {B = Option Owner} (λ (e : ℕ × Option Owner). f e.0) (enumerate_from a (replicate n None)) ≡ map f (range_with_len a n)
owners_before f zero a = refl
owners_before f (suc n) a = ap (λ ys. f a ∷ ys) (owners_before f n (a + 1))

-- no owner for any set, as a list over the sets
nobody : (n a : ℕ) → ◌≡◌ {A = List (Option Owner)} (replicate n None) (map (λ s. None) (range_with_len a n))
nobody zero a = refl
nobody (suc n) a = ap (λ ys. None ∷ ys) (nobody n (a + 1))

-- what is noted at x leaves the entries behind x
behind_stay : {Y : Type 0} (g : ℕ → Y) (v : Y) (x n a : ℕ) → x < a → map g (range_with_len a n) ≡ map (λ s. cond (eqb x s) v (g s)) (range_with_len a n)
behind_stay g v x zero a h = refl
behind_stay g v x (suc n) a h =
    let other : eqb x a ≡ false = false_from_ne_true (eqb x a) (λ e. let same : x ≡ a = eqb-true x a e in omega arith) in
    λ i. cond (sym other i) v (g a) ∷ behind_stay g v x n (a + 1) (omega arith) i

-- an entry for each number from a on, once v is noted in place x of them
noted_in : {Y : Type 0} (g : ℕ → Y) (v : Y) (n a x : ℕ) → slice_set (map g (range_with_len a n)) x v ≡ map (λ s. cond (eqb (a + x) s) v (g s)) (range_with_len a n)
noted_in g v zero a x = refl
noted_in g v (suc n) a zero =
    let here : a + 0 ≡ a = omega arith in
    let this : eqb a a ≡ true = eq-eqb a a refl in
    (λ i. cond (sym this i) v (g a) ∷ behind_stay g v a n (a + 1) (omega arith) i) ∙ ap (λ x. map (λ s. cond (eqb x s) v (g s)) (range_with_len a (suc n))) (sym here)
noted_in g v (suc n) a (suc x) =
    let next : (a + 1) + x ≡ a + suc x = omega arith in
    let other : eqb (a + suc x) a ≡ false = false_from_ne_true (eqb (a + suc x) a) (λ e. let same : a + suc x ≡ a = eqb-true (a + suc x) a e in omega arith) in
    λ i. cond (sym other i) v (g a) ∷ (noted_in g v n (a + 1) x ∙ ap (λ x. map (λ s. cond (eqb x s) v (g s)) (range_with_len (a + 1) n)) next) i

-- the owners, once those in some sets are noted
abbrev pub noted : {Y : Type 0} → (ℕ → Y) → List ℕ → List Y → List Y
noted f [] owners = owners
noted f (s ∷ sets) owners = noted f sets (slice_set owners s (f s))

noted_each : {Y : Type 0} (f g : ℕ → Y) (n : ℕ) (sets : List ℕ) → noted f sets (map g (range_with_len 0 n)) ≡ map (λ s. cond (list_any (λ s'. eqb s' s) sets) (f s) (g s)) (range_with_len 0 n)
noted_each f g n [] = refl
noted_each f g n (x ∷ sets) =
    let zero_first : 0 + x ≡ x = omega arith in
    ap (noted f sets) (noted_in g (f x) n 0 x ∙ ap (λ x'. map (λ s. cond (eqb x' s) (f x) (g s)) (range_with_len 0 n)) zero_first)
    ∙ noted_each f (λ s. cond (eqb x s) (f x) (g s)) n sets
    ∙ map_same (λ s. cond (list_any (λ s'. eqb s' s) sets) (f s) (cond (eqb x s) (f x) (g s))) (λ s. cond (eqb x s || list_any (λ s'. eqb s' s) sets) (f s) (g s)) (range_with_len 0 n) at where
      at : (s : ℕ) → cond (list_any (λ s'. eqb s' s) sets) (f s) (cond (eqb x s) (f x) (g s)) ≡ cond (eqb x s || list_any (λ s'. eqb s' s) sets) (f s) (g s)
      at s =
          elim (cases_Bool (eqb x s)) [
            | inl e ↦
                let same : x ≡ s = eqb-true x s e in
                (λ i. cond (list_any (λ s'. eqb s' s) sets) (f s) (cond (e i) (f (same i)) (g s)))
                ∙ elim (list_any (λ s'. eqb s' s) sets) as (λ b. cond b (f s) (f s) ≡ f s) [ true ↦ refl | false ↦ refl ]
                ∙ ap (λ b. cond (b || list_any (λ s'. eqb s' s) sets) (f s) (g s)) (sym e)
            | inr e ↦ (λ i. cond (list_any (λ s'. eqb s' s) sets) (f s) (cond (e i) (f x) (g s))) ∙ ap (λ b. cond (b || list_any (λ s'. eqb s' s) sets) (f s) (g s)) (sym e)
          ]

-- the first owners: the current ones in the sets in which STORE connects, and nobody elsewhere
pub first_owners_noted : (schema : Lists) (unit : Unit) (t : ℕ) → noted (current_owner schema unit) (automatic_sets schema t) (replicate (length schema.sets) None) ≡ first_owners schema unit t
first_owners_noted schema unit t =
    ap (noted (current_owner schema unit) (automatic_sets schema t)) (nobody (length schema.sets) 0)
    ∙ noted_each (current_owner schema unit) (λ s. None) (length schema.sets) (automatic_sets schema t)

-- ROOMS

-- there is room in each set in which STORE connects, except those that are left
abbrev pub RoomsBut : Lists → Unit → Hands → DbKey → List ℕ → Type 0
RoomsBut schema unit hands k left = (s : ℕ) → list_any (λ s'. eqb s' s) left ≡ false → HasRoom schema unit hands k s

-- room is made in the next set
pub rooms_next : (schema : Lists) (unit : Unit) (old new : Hands) (k : DbKey) (x : ℕ) (left : List ℕ)
    → KeepsOthers (Ring x (place_of (joined_place schema unit x).owner)) old.cells new.cells
    → OfHeld (Ring x (place_of (joined_place schema unit x).owner)) new.cells (CanTakeMember k)
    → RoomsBut schema unit old k (x ∷ left) → RoomsBut schema unit new k left
rooms_next schema unit old new k x left others room rooms s passed joins =
    elim (cases_Bool (eqb x s)) [
      | inl e ↦ subst (λ (s : ℕ). OfHeld (Ring s (place_of (joined_place schema unit s).owner)) new.cells (CanTakeMember k)) (eqb-true x s e) room
      | inr e ↦ λ cell is.
          let apart : eqb s x ≡ false = false_from_ne_true (eqb s x) (λ h. eqb-false x s e (sym (eqb-true s x h))) in
          rooms s (ap (λ b. b || list_any (λ s'. eqb s' s) left) e ∙ passed) joins cell
          (sym (others (Ring s (place_of (joined_place schema unit s).owner)) (ap (λ b. b && place_eq (place_of (joined_place schema unit s).owner) (place_of (joined_place schema unit x).owner)) apart)) ∙ is)
    ]
