-- The FIND of a line without faults names what the schema has.
use Rattle.std.proofs.Common.{◌≡◌, ℕ, zero, suc, pos, ◌<◌, ◌≤◌, Bool, true, false, cond, not, ◌&&◌, ◌||◌, List, [], ◌∷◌, ◌++◌, length, map, get_or, Option, Some, None, refl, sym, ap, subst, ◌∙◌, append_assoc, arith, inl, inr, true≢false}
use Rattle.std.specs.Prelude.{codes, is_none, is_some, nat_le, nat_lt, option_and_then, option_map, slice_get, unwrap_or, IfSome, ◌==◌}
use Rattle.std.specs.List.{All, list_all}
use Rattle.std.proofs.lemmas.Bool.Decides.{nat_tests}
use Rattle.std.proofs.lemmas.Bool.{not-false}
use Rattle.dbtg_schema.specs.declared.shape.Calc.{Calc}
use Rattle.dbtg_schema.specs.declared.shape.Item.{Item}
use Rattle.dbtg_schema.specs.declared.shape.Member.{Member}
use Rattle.dbtg_schema.specs.declared.shape.Order.TheVariants as order
use Rattle.dbtg_schema.specs.declared.shape.Picture.{Picture}
use Rattle.dbtg_schema.specs.declared.shape.SetType.{SetType}
use Rattle.dbtg_cells.specs.declared.key.Value.{Value}
use Rattle.dbtg_schema.specs.declared.shape.Picture.TheVariants.{Number}
use Rattle.dbtg_schema.specs.Texts.Forms.{◌▹◌, one, maybe, labelled, Derives}
use Rattle.dbtg_schema.specs.Lists.{Lists}
use Rattle.dbtg_schema.specs.Lookups.{first, some_and}
use Rattle.dbtg_schema.specs.Sound.{IsSound, IsSoundSet}
use Rattle.dbtg_schema.specs.Structure.{area_of, calc_of, is_system, item_list, member_clause, order_of, picture_of}
use Rattle.dbtg_schema.specs.WellFormed.{IsSetType, is_sorted, key_picture_of}
use Rattle.dbtg_schema.proofs.Public.{both_nil, none_at_all, some_from_none}
use Rattle.dbtg_unit.specs.declared.statement.Form as unit_form
use Rattle.dbtg_unit.specs.declared.statement.Form.TheVariants as form
use Rattle.dbtg_unit.specs.declared.statement.Which as unit_which
use Rattle.dbtg_unit.specs.declared.statement.Which.TheVariants as which
use Rattle.dbtg_unit.specs.Database.Statements.Fits.{form_fits, if_named, is_area, is_set, is_type, pictures_at, value_fits, values_fit, which_fits, member_key_fits}
use Rattle.dbtg_script.specs.declared.fault.Cause.TheVariants.{NotThere, NotThisWay, OutOfRange, UnknownRecordType}
use Rattle.dbtg_script.specs.declared.role.Role.{Role}
use Rattle.dbtg_script.specs.declared.role.Role.TheVariants as role
use Rattle.dbtg_script.specs.Labels.{first_word, given, has, named, text_of}
use Rattle.dbtg_script.specs.Lookups.{sort_picture, type_named, type_no}
use Rattle.dbtg_script.specs.Printing.Spelling.{generation, key_name, key_number, number}
use Rattle.dbtg_script.specs.StatementFaults.{area_in, differs_from, end_faults, is_misused, is_outside, items_in, key_faults, set_in, sorted_faults, type_in, when, without_minus}
use Rattle.dbtg_script.specs.StatementGrammar.{signed as signed_kind}
use Rattle.dbtg_script.specs.StatementGrammar.{Form, Labelled, find, fits, by_calc, by_current, by_key, by_owner, by_sort_key, current, find_form, inside, name, of_set, of_type, place, record_word, say, suppress, word}
use Rattle.dbtg_script.specs.Statements.{calc_value, calc_values, current_of, form_of, in_place, is_negative, key_of, minus, name_at, named_type, signed, sorted_value, which_of}
use Rattle.dbtg_script.specs.Values.{up_to, value_for}
use Rattle.dbtg_script.proofs.Fitting.Derivations.{lacks, lacking, having, has_append, named_last, neither}
use Rattle.dbtg_script.proofs.Fitting.FittingNames.{Clean, EachSaid, area_is, not_when, set_before, type_is}
use Rattle.dbtg_script.proofs.Fitting.FittingValues.{all_sound, first_word_sound, given_sound, made_fits}

-- a FIND in one of its forms
abbrev finding : Form → Form
finding f = word (codes "FIND") role.Find ▹ f ▹ maybe suppress

-- what remains of the forms of a FIND, from the first test on
abbrev otherwise_5 : Lists → List Labelled → unit_form.Form
otherwise_5 schema ws = in_place schema ws

abbrev otherwise_4 : Lists → List Labelled → unit_form.Form
otherwise_4 schema ws = cond (has role.FindDuplicate ws) (form.NextDuplicate (type_in schema ws)) (otherwise_5 schema ws)

abbrev otherwise_3 : Lists → List Labelled → unit_form.Form
otherwise_3 schema ws = cond (has role.FindSorted ws) (form.Sorted (set_in schema ws) (sorted_value schema ws)) (otherwise_4 schema ws)

abbrev otherwise_2 : Lists → List Labelled → unit_form.Form
otherwise_2 schema ws = cond (has role.FindCalc ws) (form.Calc (type_in schema ws) (calc_values schema (type_in schema ws) ws (calc_of schema (type_in schema ws)))) (otherwise_3 schema ws)

abbrev otherwise_1 : Lists → List Labelled → unit_form.Form
otherwise_1 schema ws = cond (has role.FindOwner ws) (form.OwnerOf (set_in schema ws)) (otherwise_2 schema ws)

abbrev otherwise_0 : Lists → List Labelled → unit_form.Form
otherwise_0 schema ws = cond (has role.FindCurrent ws) (current_of schema ws) (otherwise_1 schema ws)

-- what remains of the words that say which member
abbrev otherwise_which_4 : List Labelled → unit_which.Which
otherwise_which_4 ws = which.Nth (signed (named role.WhichNumber ws))

abbrev otherwise_which_3 : List Labelled → unit_which.Which
otherwise_which_3 ws = cond (has role.WhichPrior ws) which.Prior (otherwise_which_4 ws)

abbrev otherwise_which_2 : List Labelled → unit_which.Which
otherwise_which_2 ws = cond (has role.WhichNext ws) which.Next (otherwise_which_3 ws)

abbrev otherwise_which_1 : List Labelled → unit_which.Which
otherwise_which_1 ws = cond (has role.WhichLast ws) which.Last (otherwise_which_2 ws)

-- WHAT NO FIND WITHOUT FAULTS DOES

at_end : (schema : Lists) (ws : List Labelled) → first (end_faults schema ws) ≡ None → (is_outside schema ws ≡ false) × (is_misused schema ws ≡ false)
at_end schema ws h =
    let a = both_nil (when (is_outside schema ws) NotThere ++ when (is_misused schema ws) NotThisWay) (sorted_faults (sort_picture schema (set_in schema ws)) (first_word role.SortedValue ws)) (none_at_all (end_faults schema ws) h) in
    let b = both_nil (when (is_outside schema ws) NotThere) (when (is_misused schema ws) NotThisWay) a.0 in
    (not_when (is_outside schema ws) NotThere b.0, not_when (is_misused schema ws) NotThisWay b.1)

-- none of four tests holds
none_of_four : (a b c d : Bool) → (a || b || c || d) ≡ false → (a ≡ false) × (b ≡ false) × (c ≡ false) × (d ≡ false)
none_of_four true b c d h = absurd cc
none_of_four false true c d h = absurd cc
none_of_four false false true d h = absurd cc
none_of_four false false false true h = absurd cc
none_of_four false false false false h = (refl, refl, refl, refl)

-- a use that is right where its word is there
right_use : (a b : Bool) → a ≡ true → (a && b) ≡ false → b ≡ false
right_use true b h k = k
right_use false b h k = absurd cc

module _ (schema : Lists) (sound : IsSound schema) (ws : List Labelled) (c : Clean schema [] ws) (s : all_sound ws ≡ true) where
  misuse : (has role.FindCalc ws && differs_from (calc_of schema (type_in schema ws)) (items_in schema ws) ≡ false)
      × (has role.FindDuplicate ws && is_none (calc_of schema (type_in schema ws)) ≡ false)
      × (has role.FindSorted ws && not (is_sorted (order_of schema (set_in schema ws))) ≡ false)
      × (has role.FindOwner ws && is_system schema (set_in schema ws) ≡ false)
  misuse =
      none_of_four (has role.FindCalc ws && differs_from (calc_of schema (type_in schema ws)) (items_in schema ws)) (has role.FindDuplicate ws && is_none (calc_of schema (type_in schema ws)))
      (has role.FindSorted ws && not (is_sorted (order_of schema (set_in schema ws)))) (has role.FindOwner ws && is_system schema (set_in schema ws)) (at_end schema ws c.1).1

  -- CALC

  calc_there : (o : Option Calc) → differs_from o (items_in schema ws) ≡ false → (calc : Calc) × (o ≡ Some calc)
  calc_there None h = absurd cc
  calc_there (Some calc) h = (calc, refl)

  calc_fit : (r : ℕ) (items : List ℕ) → values_fit (pictures_at schema r items) (map (calc_value schema r ws) items) ≡ true
  calc_fit r [] = refl
  calc_fit r (i ∷ items) = (λ k. made_fits (unwrap_or (picture_of schema r i) (Number 0)) (given (name_at schema r i) ws) (given_sound (name_at schema r i) ws s) k && calc_fit r items k)

  pub calc_form : has role.FindCalc ws ≡ true → form_fits schema (form.Calc (type_in schema ws) (calc_values schema (type_in schema ws) ws (calc_of schema (type_in schema ws)))) ≡ true
  calc_form h =
      let r = type_in schema ws in
      let calc = calc_there (calc_of schema r) (right_use (has role.FindCalc ws) (differs_from (calc_of schema r) (items_in schema ws)) h misuse.0) in
      (λ i. some_and (λ k. values_fit (pictures_at schema r k.items) (calc_values schema r ws (calc.1 i))) (calc.1 i)) ∙ calc_fit r calc.0.items

  pub duplicate_form : has role.FindDuplicate ws ≡ true → form_fits schema (form.NextDuplicate (type_in schema ws)) ≡ true
  duplicate_form h = some_from_none (calc_of schema (type_in schema ws)) (right_use (has role.FindDuplicate ws) (is_none (calc_of schema (type_in schema ws))) h misuse.1)

  pub owner_form : has role.FindOwner ws ≡ true → is_set schema (set_in schema ws) ≡ true → form_fits schema (form.OwnerOf (set_in schema ws)) ≡ true
  owner_form h cache = (λ i. cache i && not (right_use (has role.FindOwner ws) (is_system schema (set_in schema ws)) h misuse.3 i))

  -- WHICH MEMBER

  not_zero : (n : ℕ) → (n == 0) ≡ false → 0 < n
  not_zero n h = grind (arith, nat_tests)

  at_most : (n : ℕ) → up_to 999999 n ≤ 999999
  at_most n = elim (nat_le n 999999) as (λ b. nat_le n 999999 ≡ b → cond b n 0 ≤ 999999) [ true ↦ λ e. grind (arith, nat_tests) | false ↦ λ e. omega arith ] refl

  number_fits : (negative : Bool) (n : ℕ) → 0 < n → n ≤ 999999 → which_fits (which.Nth (cond negative (minus n) (pos n))) ≡ true
  number_fits true zero h k = absurd (omega arith)
  number_fits false zero h k = absurd (omega arith)
  number_fits true (suc n) h k = grind (arith, nat_tests)
  number_fits false (suc n) h k = grind (arith, nat_tests)

  pub signed_fits : (t : List ℕ) → (up_to 999999 (number (without_minus t)) == 0) ≡ false → which_fits (which.Nth (signed t)) ≡ true
  signed_fits t h = number_fits (is_negative t) (up_to 999999 (number (without_minus t))) (not_zero _ h) (at_most (number (without_minus t)))

  -- IN A SET OR AN AREA

  outside : is_outside schema ws ≡ false
  outside = (at_end schema ws c.1).0

  placed_in : (a b x y : Bool) → a ≡ true → b ≡ true → (a && ((b && x) || y)) ≡ false → x ≡ false
  placed_in true true false y h k e = refl
  placed_in true true true y h k e = absurd cc
  placed_in true false x y h k e = absurd cc
  placed_in false b x y h k e = absurd cc

  placed_at : (a b x y : Bool) → a ≡ true → b ≡ true → (a && (x || (b && not y))) ≡ false → y ≡ true
  placed_at true true true y h k e = absurd cc
  placed_at true true false true h k e = refl
  placed_at true true false false h k e = absurd cc
  placed_at true false x y h k e = absurd cc
  placed_at false b x y h k e = absurd cc

  member_named : has role.KindSet ws ≡ true → if_named (λ t. is_some (member_clause schema (set_in schema ws) t)) (named_type schema ws role.RecordName) ≡ true
  member_named h = by_name (has role.RecordName ws) refl
    where
      by_name : (b : Bool) → has role.RecordName ws ≡ b → if_named (λ t. is_some (member_clause schema (set_in schema ws) t)) (cond b (Some (type_in schema ws)) None) ≡ true
      by_name true e = some_from_none (member_clause schema (set_in schema ws) (type_in schema ws)) (placed_in (has role.RecordName ws) (has role.KindSet ws) (is_none (member_clause schema (set_in schema ws) (type_in schema ws))) _ e h outside)
      by_name false e = refl

  type_is_in : is_type schema (type_in schema ws) ≡ true
  type_is_in = type_is schema sound.limits _

  area_is_in : is_area schema (area_in schema ws) ≡ true
  area_is_in = area_is schema sound.limits _

  type_placed : has role.KindArea ws ≡ true → if_named (λ t. is_type schema t && area_of schema t == area_in schema ws) (named_type schema ws role.RecordName) ≡ true
  type_placed h = by_name (has role.RecordName ws) refl
    where
      by_name : (b : Bool) → has role.RecordName ws ≡ b → if_named (λ t. is_type schema t && area_of schema t == area_in schema ws) (cond b (Some (type_in schema ws)) None) ≡ true
      by_name true e = (λ i. type_is_in i && placed_at (has role.RecordName ws) (has role.KindArea ws) (has role.KindSet ws && is_none (member_clause schema (set_in schema ws) (type_in schema ws))) (area_of schema (type_in schema ws) == area_in schema ws) e h outside i)
      by_name false e = refl

  pub set_form : has role.KindSet ws ≡ true → is_set schema (set_in schema ws) ≡ true → which_fits (which_of ws) ≡ true → form_fits schema (in_place schema ws) ≡ true
  set_form h cache chosen = ap (λ b. form_fits schema (cond b (form.InSet (which_of ws) (named_type schema ws role.RecordName) (set_in schema ws)) (form.InArea (which_of ws) (named_type schema ws role.RecordName) (area_in schema ws)))) h ∙ (λ i. cache i && chosen i && member_named h i)

  pub area_form : has role.KindSet ws ≡ false → has role.KindArea ws ≡ true → which_fits (which_of ws) ≡ true → form_fits schema (in_place schema ws) ≡ true
  area_form h k chosen = ap (λ b. form_fits schema (cond b (form.InSet (which_of ws) (named_type schema ws role.RecordName) (set_in schema ws)) (form.InArea (which_of ws) (named_type schema ws role.RecordName) (area_in schema ws)))) h ∙ (λ i. area_is_in i && chosen i && type_placed k i)

  -- BY SORT KEY

  at_index : {X : Type 0} (P : X → Type 0) (xs : List X) → All P xs → (i : ℕ) → nat_lt i (length xs) ≡ true → (x : X) × (slice_get xs i ≡ Some x) × P x
  at_index P [] all i h = absurd (let e : i < 0 = grind (arith, nat_tests) in omega arith)
  at_index P (x ∷ xs) all zero h = (x, refl, all 0 x (omega arith))
  at_index P (x ∷ xs) all (suc i) h = at_index P xs (λ k d e. all (suc k) d (omega arith)) i (grind (arith, nat_tests))

  each_passes : {X : Type 0} (test : X → Bool) (xs : List X) → All (λ x. test x ≡ true) xs → list_all test xs ≡ true
  each_passes test [] all = refl
  each_passes test (x ∷ xs) all = (λ i. all 0 x (omega arith) i && each_passes test xs (λ k d e. all (suc k) d (omega arith)) i)

  some_member : (set : SetType) → 0 < length set.members → (m : Member) × (first set.members ≡ Some m) × (get_or set.members 0 m ≡ m)
  some_member set h = by_list set.members h
    where
      by_list : (ms : List Member) → 0 < length ms → (m : Member) × (first ms ≡ Some m) × (get_or ms 0 m ≡ m)
      by_list [] h = absurd (omega arith)
      by_list (m ∷ ms) h = (m, refl, refl)

  -- a key item has a picture
  pictured : (m : Member) → is_some m.key ≡ true → IfSome m.key (λ i. i < length (item_list schema m.rtype)) → (p : Picture) × (key_picture_of schema m ≡ Some p)
  pictured m h k = by_key m.key h k
    where
      item_at : (items : List Item) (i : ℕ) → i < length items → (p : Picture) × (slice_get (map (λ x. x.picture) items) i ≡ Some p)
      item_at [] i h = absurd (omega arith)
      item_at (x ∷ items) zero h = (x.picture, refl)
      item_at (x ∷ items) (suc i) h = item_at items i (omega arith)

      by_key : (o : Option ℕ) → is_some o ≡ true → IfSome o (λ i. i < length (item_list schema m.rtype)) → (p : Picture) × (option_and_then (λ i. picture_of schema m.rtype i) o ≡ Some p)
      by_key None h k = absurd cc
      by_key (Some i) h k = item_at (item_list schema m.rtype) i k

  key_test : (v : Value) (m : Member) → member_key_fits schema v m ≡ some_and (λ p. value_fits p v) (key_picture_of schema m)
  key_test v m = by_key m.key
    where
      by_key : (o : Option ℕ) → some_and (λ i. some_and (λ p. value_fits p v) (picture_of schema m.rtype i)) o ≡ some_and (λ p. value_fits p v) (option_and_then (λ i. picture_of schema m.rtype i) o)
      by_key None = refl
      by_key (Some i) = refl

  pub sorted_form : has role.FindSorted ws ≡ true → is_set schema (set_in schema ws) ≡ true → form_fits schema (form.Sorted (set_in schema ws) (sorted_value schema ws)) ≡ true
  sorted_form h cache =
      let n = set_in schema ws in
      let set = at_index (IsSoundSet schema) schema.sets sound.sets n cache in
      let kept = at_index (IsSetType schema) schema.sets sound.limits.sets n cache in
      let same : set.0 ≡ kept.0 = one_value (sym set.1 ∙ kept.1) in
      let sorted : is_sorted set.0.order ≡ true =
      ap (λ o. is_sorted (unwrap_or (option_map (λ x. x.order) o) order.Last)) (sym set.1) ∙ not-false (is_sorted (order_of schema n)) (right_use (has role.FindSorted ws) (not (is_sorted (order_of schema n))) h misuse.2) in
      let some = subst (λ (x : SetType). 0 < length x.members) (sym same) kept.2.some_member in
      let items = subst (λ (x : SetType). All (λ m. IfSome m.key (λ i. i < length (item_list schema m.rtype))) x.members) (sym same) kept.2.key_items in
      let m = some_member set.0 some in
      let key : is_some m.0.key ≡ true = ap (λ (x : Member). is_some x.key) (sym m.2) ∙ set.2.keys 0 m.0 some ∙ ap (λ (x : Bool). x) sorted in
      let p = pictured m.0 key (subst (λ (x : Member). IfSome x.key (λ i. i < length (item_list schema x.rtype))) m.2 (items 0 m.0 some)) in
      let kind : sort_picture schema n ≡ Some p.0 =
      ap (option_and_then (λ x. option_and_then (λ y. option_and_then (λ i. picture_of schema y.rtype i) y.key) (first x.members))) set.1 ∙ ap (option_and_then (λ y. option_and_then (λ i. picture_of schema y.rtype i) y.key)) m.1 ∙ p.1 in
      let v = sorted_value schema ws in
      let fits_it : value_fits p.0 v ≡ true = ap (λ o. value_fits p.0 (value_for (unwrap_or o (Number 0)) (first_word role.SortedValue ws))) kind ∙ made_fits p.0 (first_word role.SortedValue ws) (first_word_sound role.SortedValue ws s) in
      ap (some_and (λ x. list_all (member_key_fits schema v) x.members)) set.1
      ∙ each_passes (member_key_fits schema v) set.0.members
      (λ k d e. key_test v (get_or set.0.members k d)
      ∙ ap (some_and (λ t. value_fits t v)) (set.2.key_pictures k d e 0 m.0 some ∙ ap (key_picture_of schema) m.2 ∙ p.1) ∙ fits_it)
    where
      one_value : {x y : SetType} → Some x ≡ Some y → x ≡ y
      one_value e = cc

  -- BY KEY

  key_form : (t : List ℕ) → key_faults schema t ≡ [] → form_fits schema (form.Key (key_of schema t)) ≡ true
  key_form t h =
      let n = up_to 999999 (number (key_number t)) in
      let g = up_to 255 (generation t) in
      let a = both_nil (when (is_none (type_named schema (key_name t))) UnknownRecordType ++ when (n == 0) OutOfRange) (when (g == 0) OutOfRange) h in
      let b = both_nil (when (is_none (type_named schema (key_name t))) UnknownRecordType) (when (n == 0) OutOfRange) a.0 in
      let from = not_zero n (not_when (n == 0) OutOfRange b.1) in
      let first_one = not_zero g (not_when (g == 0) OutOfRange a.1) in
      let last = at_most (number (key_number t)) in
      let last_one : g ≤ 255 = generation_at_most (generation t) in
      (λ i. type_is schema sound.limits (key_name t) i && above n from i && not_above n 999999 last i && above g first_one i && not_above g 255 last_one i)
    where
      generation_at_most : (n : ℕ) → up_to 255 n ≤ 255
      generation_at_most n = elim (nat_le n 255) as (λ b. nat_le n 255 ≡ b → cond b n 0 ≤ 255) [ true ↦ λ e. grind (arith, nat_tests) | false ↦ λ e. omega arith ] refl

      above : (n : ℕ) → 0 < n → nat_lt 0 n ≡ true
      above n h = grind (arith, nat_tests)

      not_above : (n m : ℕ) → n ≤ m → nat_le n m ≡ true
      not_above n m h = grind (arith, nat_tests)

  -- EACH FORM

  -- the set before SET, wherever that stands
  set_named_by : (front p sup : List Labelled) → ws ≡ front ++ (p ++ sup) → Derives fits of_set p → Derives fits (maybe suppress) sup → is_set schema (set_in schema ws) ≡ true
  set_named_by front p sup e d dsup =
      let words : p ++ sup ≡ labelled role.Plain d.3.0 ∷ labelled role.Name d.4.3.0 ∷ labelled role.KindSet d.4.4.0 ∷ sup = ap (λ (z : List Labelled). z ++ sup) (d.2 ∙ (λ i. d.3.1 i ++ (d.4.2 ∙ (λ j. d.4.3.1 j ++ d.4.4.1 j)) i)) in
      let whole : ws ≡ front ++ labelled role.Plain d.3.0 ∷ labelled role.Name d.4.3.0 ∷ labelled role.KindSet d.4.4.0 ∷ sup = e ∙ ap (λ (z : List Labelled). front ++ z) words in
      ap (λ (z : List Labelled). is_set schema (set_in schema z)) whole
      ∙ set_before schema front d.3.0 d.4.3.0 d.4.4.0 sup (subst (EachSaid schema []) whole c.0) (lacking role.Name (maybe suppress) sup dsup refl)

  aside : (f a p z : List Labelled) → f ++ ((a ++ p) ++ z) ≡ (f ++ a) ++ (p ++ z)
  aside f a p z = ap (λ (x : List Labelled). f ++ x) (append_assoc a p z) ∙ sym (append_assoc f a (p ++ z))

  further_aside : (f a b p z : List Labelled) → f ++ ((a ++ (b ++ p)) ++ z) ≡ (f ++ (a ++ b)) ++ (p ++ z)
  further_aside f a b p z = ap (λ (x : List Labelled). f ++ (x ++ z)) (sym (append_assoc a b p)) ∙ aside f (a ++ b) p z

  -- the words of a FIND: FIND, its form, what it suppresses
  whole_find : (f : Form) → (d : Derives fits (finding f) ws) → ws ≡ d.0 ++ (d.4.0 ++ d.4.1)
  whole_find f d = d.2 ∙ ap (λ (z : List Labelled). d.0 ++ z) d.4.2

  by_key_fits : Derives fits (finding by_key) ws → form_fits schema (form_of schema ws) ≡ true
  by_key_fits d =
      let k = d.4.3 in
      let words : ws ≡ labelled role.Find d.3.0 ∷ labelled role.FindKey k.3.0 ∷ labelled role.Key k.4.0 ∷ d.4.1 = whole_find by_key d ∙ (λ i. d.3.1 i ++ ((k.2 ∙ (λ j. k.3.1 j ++ k.4.1 j)) i ++ d.4.1)) in
      let clean_words = subst (EachSaid schema []) words c.0 in
      let t = text_of k.4.0 in
      let key : named role.Key ws ≡ t = ap (named role.Key) words ∙ named_last role.Key (labelled role.Find d.3.0 ∷ labelled role.FindKey k.3.0 ∷ []) (labelled role.Key k.4.0) d.4.1 refl (lacking role.Key (maybe suppress) d.4.1 d.4.4 refl) in
      ap (λ b. form_fits schema (cond b (form.Key (key_of schema (named role.Key ws))) (otherwise_0 schema ws))) (having role.FindKey (finding by_key) ws d refl)
      ∙ ap (λ n. form_fits schema (form.Key (key_of schema n))) key ∙ key_form t clean_words.1.1.0

  by_current_fits : Derives fits (finding by_current) ws → form_fits schema (form_of schema ws) ≡ true
  by_current_fits d =
      ap (λ b. form_fits schema (cond b (form.Key (key_of schema (named role.Key ws))) (otherwise_0 schema ws))) (lacking role.FindKey (finding by_current) ws d refl)
      ∙ ap (λ b. form_fits schema (cond b (current_of schema ws) (otherwise_1 schema ws))) (having role.FindCurrent (finding by_current) ws d refl)
      ∙ any_current (has role.RunUnit ws) (has role.KindRecord ws) (has role.KindSet ws) refl
    where
      k : Derives fits by_current d.4.0
      k = d.4.3

      front : List Labelled
      front = d.0 ++ k.0

      whole : (p : List Labelled) → k.1 ≡ k.4.0 ++ p → ws ≡ front ++ ((k.4.0 ++ p) ++ d.4.1)
      whole p e = whole_find by_current d ∙ ap (λ (z : List Labelled). d.0 ++ (z ++ d.4.1)) (k.2 ∙ ap (λ (z : List Labelled). k.0 ++ z) e) ∙ aside d.0 k.0 (k.4.0 ++ p) d.4.1

      -- the same FIND by a narrower form
      narrow : (g : Form) → Derives fits g k.4.1 → Derives fits (finding (word (codes "CURRENT") role.FindCurrent ▹ say (codes "OF") ▹ g)) ws
      narrow g e = (d.0, d.1, d.2, d.3, (d.4.0, d.4.1, d.4.2, (k.0, k.1, k.2, k.3, (k.4.0, k.4.1, k.4.2, k.4.3, e)), d.4.4))

      absurd_set : has role.KindSet ws ≡ false → has role.KindSet ws ≡ true → is_set schema (set_in schema ws) ≡ true
      absurd_set e h = absurd (true≢false (sym h ∙ e))

      set_known : Derives fits current k.4.1 → has role.KindSet ws ≡ true → is_set schema (set_in schema ws) ≡ true
      set_known (inl u) h = absurd_set (lacking role.KindSet (finding (word (codes "CURRENT") role.FindCurrent ▹ say (codes "OF") ▹ word (codes "RUN-UNIT") role.RunUnit)) ws (narrow (word (codes "RUN-UNIT") role.RunUnit) u) refl) h
      set_known (inr (n, x, f, dn, inl r)) h =
          absurd_set (lacking role.KindSet (finding (word (codes "CURRENT") role.FindCurrent ▹ say (codes "OF") ▹ (one name role.Name ▹ word (codes "RECORD") role.KindRecord))) ws (narrow (one name role.Name ▹ word (codes "RECORD") role.KindRecord) (n, x, f, dn, r)) refl) h
      set_known (inr (n, x, f, dn, inr (inl t))) h = set_named_by front (k.4.0 ++ (n ++ x)) d.4.1 (whole (n ++ x) (k.4.2 ∙ ap (λ (z : List Labelled). k.4.0 ++ z) f)) (k.4.0, n ++ x, refl, k.4.3, (n, x, refl, dn, t)) d.4.4
      set_known (inr (n, x, f, dn, inr (inr a))) h =
          absurd_set (lacking role.KindSet (finding (word (codes "CURRENT") role.FindCurrent ▹ say (codes "OF") ▹ (one name role.Name ▹ word (codes "AREA") role.KindArea))) ws (narrow (one name role.Name ▹ word (codes "AREA") role.KindArea) (n, x, f, dn, a)) refl) h

      any_current : (u r t : Bool) → has role.KindSet ws ≡ t → form_fits schema (cond u form.CurrentOfUnit (cond r (form.CurrentOfType (type_no schema (named role.Name ws))) (cond t (form.CurrentOfSet (set_in schema ws)) (form.CurrentOfArea (area_in schema ws))))) ≡ true
      any_current true r t e = refl
      any_current false true t e = type_is schema sound.limits (named role.Name ws)
      any_current false false true e = set_known k.4.4 e
      any_current false false false e = area_is_in

  by_owner_fits : Derives fits (finding by_owner) ws → form_fits schema (form_of schema ws) ≡ true
  by_owner_fits d =
      let o = d.4.3 in
      ap (λ b. form_fits schema (cond b (form.Key (key_of schema (named role.Key ws))) (otherwise_0 schema ws))) (lacking role.FindKey (finding by_owner) ws d refl)
      ∙ ap (λ b. form_fits schema (cond b (current_of schema ws) (otherwise_1 schema ws))) (lacking role.FindCurrent (finding by_owner) ws d refl)
      ∙ ap (λ b. form_fits schema (cond b (form.OwnerOf (set_in schema ws)) (otherwise_2 schema ws))) (having role.FindOwner (finding by_owner) ws d refl)
      ∙ owner_form (having role.FindOwner (finding by_owner) ws d refl)
      (set_named_by (d.0 ++ o.0) o.1 d.4.1 (whole_find by_owner d ∙ ap (λ (z : List Labelled). d.0 ++ (z ++ d.4.1)) o.2 ∙ aside d.0 o.0 o.1 d.4.1) o.4 d.4.4)

  by_calc_fits : Derives fits (finding by_calc) ws → form_fits schema (form_of schema ws) ≡ true
  by_calc_fits d =
      ap (λ b. form_fits schema (cond b (form.Key (key_of schema (named role.Key ws))) (otherwise_0 schema ws))) (lacking role.FindKey (finding by_calc) ws d refl)
      ∙ ap (λ b. form_fits schema (cond b (current_of schema ws) (otherwise_1 schema ws))) (lacking role.FindCurrent (finding by_calc) ws d refl)
      ∙ ap (λ b. form_fits schema (cond b (form.OwnerOf (set_in schema ws)) (otherwise_2 schema ws))) (lacking role.FindOwner (finding by_calc) ws d refl)
      ∙ ap (λ b. form_fits schema (cond b (form.Calc (type_in schema ws) (calc_values schema (type_in schema ws) ws (calc_of schema (type_in schema ws)))) (otherwise_3 schema ws))) (having role.FindCalc (finding by_calc) ws d refl)
      ∙ calc_form (having role.FindCalc (finding by_calc) ws d refl)

  by_sort_key_fits : Derives fits (finding by_sort_key) ws → form_fits schema (form_of schema ws) ≡ true
  by_sort_key_fits d =
      let k = d.4.3 in
      ap (λ b. form_fits schema (cond b (form.Key (key_of schema (named role.Key ws))) (otherwise_0 schema ws))) (lacking role.FindKey (finding by_sort_key) ws d refl)
      ∙ ap (λ b. form_fits schema (cond b (current_of schema ws) (otherwise_1 schema ws))) (lacking role.FindCurrent (finding by_sort_key) ws d refl)
      ∙ ap (λ b. form_fits schema (cond b (form.OwnerOf (set_in schema ws)) (otherwise_2 schema ws))) (lacking role.FindOwner (finding by_sort_key) ws d refl)
      ∙ ap (λ b. form_fits schema (cond b (form.Calc (type_in schema ws) (calc_values schema (type_in schema ws) ws (calc_of schema (type_in schema ws)))) (otherwise_3 schema ws))) (lacking role.FindCalc (finding by_sort_key) ws d refl)
      ∙ ap (λ b. form_fits schema (cond b (form.Sorted (set_in schema ws) (sorted_value schema ws)) (otherwise_4 schema ws))) (having role.FindSorted (finding by_sort_key) ws d refl)
      ∙ sorted_form (having role.FindSorted (finding by_sort_key) ws d refl)
      (set_named_by (d.0 ++ (k.0 ++ k.4.0)) k.4.1 d.4.1 (whole_find by_sort_key d ∙ ap (λ (z : List Labelled). d.0 ++ (z ++ d.4.1)) (k.2 ∙ ap (λ (z : List Labelled). k.0 ++ z) k.4.2) ∙ further_aside d.0 k.0 k.4.0 k.4.1 d.4.1) k.4.4 d.4.4)

  by_duplicate_fits : Derives fits (finding (word (codes "NEXT") role.WhichNext ▹ word (codes "DUPLICATE") role.FindDuplicate ▹ of_type)) ws → form_fits schema (form_of schema ws) ≡ true
  by_duplicate_fits d =
      let f = finding (word (codes "NEXT") role.WhichNext ▹ word (codes "DUPLICATE") role.FindDuplicate ▹ of_type) in
      ap (λ b. form_fits schema (cond b (form.Key (key_of schema (named role.Key ws))) (otherwise_0 schema ws))) (lacking role.FindKey f ws d refl)
      ∙ ap (λ b. form_fits schema (cond b (current_of schema ws) (otherwise_1 schema ws))) (lacking role.FindCurrent f ws d refl)
      ∙ ap (λ b. form_fits schema (cond b (form.OwnerOf (set_in schema ws)) (otherwise_2 schema ws))) (lacking role.FindOwner f ws d refl)
      ∙ ap (λ b. form_fits schema (cond b (form.Calc (type_in schema ws) (calc_values schema (type_in schema ws) ws (calc_of schema (type_in schema ws)))) (otherwise_3 schema ws))) (lacking role.FindCalc f ws d refl)
      ∙ ap (λ b. form_fits schema (cond b (form.Sorted (set_in schema ws) (sorted_value schema ws)) (otherwise_4 schema ws))) (lacking role.FindSorted f ws d refl)
      ∙ ap (λ b. form_fits schema (cond b (form.NextDuplicate (type_in schema ws)) (otherwise_5 schema ws))) (having role.FindDuplicate f ws d refl) ∙ duplicate_form (having role.FindDuplicate f ws d refl)

  -- a member of a set or an area, by a word that says which
  module _ (w : Form) (d : Derives fits (finding (w ▹ inside)) ws)
      (no_key : lacks role.FindKey w ≡ true) (no_current : lacks role.FindCurrent w ≡ true) (no_owner : lacks role.FindOwner w ≡ true) (no_calc : lacks role.FindCalc w ≡ true) (no_sorted : lacks role.FindSorted w ≡ true) (no_duplicate : lacks role.FindDuplicate w ≡ true)
      (no_set : lacks role.KindSet w ≡ true) (chosen : which_fits (which_of ws) ≡ true) where
    abbrev here : Derives fits (w ▹ inside) d.4.0
    here = d.4.3

    lacked : (r : Role) → lacks r w ≡ true → lacks r inside ≡ true → lacks r (word (codes "FIND") role.Find) ≡ true → lacks r (maybe suppress) ≡ true → has r ws ≡ false
    lacked r a b x y = lacking r (finding (w ▹ inside)) ws d ((λ i. x i && ((a i && b i) && y i)))

    of_place : (front p : List Labelled) → ws ≡ front ++ (p ++ d.4.1) → Derives fits place p → has role.KindSet front ≡ false → form_fits schema (in_place schema ws) ≡ true
    of_place front p e (o, x, eo, dof, (n, k, en, dn, inl t)) none =
        let q : Derives fits of_set p = (o, x, eo, dof, (n, k, en, dn, t)) in
        let there : has role.KindSet ws ≡ true = ap (has role.KindSet) e ∙ has_append role.KindSet front (p ++ d.4.1) ∙ (λ i. none i || (has_append role.KindSet p d.4.1 ∙ ap (λ b. b || has role.KindSet d.4.1) (having role.KindSet of_set p q refl)) i) in
        set_form there (set_named_by front p d.4.1 e q d.4.4) chosen
    of_place front p e (o, x, eo, dof, (n, k, en, dn, inr t)) none =
        let area_place : Form = say (codes "OF") ▹ one name role.Name ▹ word (codes "AREA") role.KindArea in
        let q : Derives fits area_place p = (o, x, eo, dof, (n, k, en, dn, t)) in
        let no : has role.KindSet ws ≡ false = ap (has role.KindSet) e ∙ neither role.KindSet front (p ++ d.4.1) none (neither role.KindSet p d.4.1 (lacking role.KindSet area_place p q refl) (lacking role.KindSet (maybe suppress) d.4.1 d.4.4 refl)) in
        let there : has role.KindArea ws ≡ true = ap (has role.KindArea) e ∙ has_append role.KindArea front (p ++ d.4.1) ∙ either_way (has role.KindArea front) _ (has_append role.KindArea p d.4.1 ∙ ap (λ b. b || has role.KindArea d.4.1) (having role.KindArea area_place p q refl)) in
        area_form no there chosen
      where
        either_way : (a b : Bool) → b ≡ true → (a || b) ≡ true
        either_way true b h = refl
        either_way false b h = h

    no_set_before : (r : List Labelled) → has role.KindSet r ≡ false → has role.KindSet (d.0 ++ (here.0 ++ r)) ≡ false
    no_set_before r h = neither role.KindSet d.0 (here.0 ++ r) (lacking role.KindSet (word (codes "FIND") role.Find) d.0 d.3 refl) (neither role.KindSet here.0 r (lacking role.KindSet w here.0 here.3 no_set) h)

    in_any : Derives fits inside here.1 → form_fits schema (in_place schema ws) ≡ true
    in_any (inl p) =
        of_place (d.0 ++ here.0) here.1 (whole_find (w ▹ inside) d ∙ ap (λ (z : List Labelled). d.0 ++ (z ++ d.4.1)) here.2 ∙ aside d.0 here.0 here.1 d.4.1) p
        (neither role.KindSet d.0 here.0 (lacking role.KindSet (word (codes "FIND") role.Find) d.0 d.3 refl) (lacking role.KindSet w here.0 here.3 no_set))
    in_any (inr (r, x, e, dr, (k, p, f, dk, q))) =
        of_place (d.0 ++ (here.0 ++ (r ++ k))) p
        (whole_find (w ▹ inside) d ∙ ap (λ (z : List Labelled). d.0 ++ (z ++ d.4.1)) (here.2 ∙ ap (λ (z : List Labelled). here.0 ++ z) (e ∙ ap (λ (z : List Labelled). r ++ z) f ∙ sym (append_assoc r k p))) ∙ further_aside d.0 here.0 (r ++ k) p d.4.1) q
        (no_set_before (r ++ k) (neither role.KindSet r k (lacking role.KindSet (one name role.RecordName) r dr refl) (lacking role.KindSet record_word k dk refl)))

    pub in_place_fits : form_fits schema (form_of schema ws) ≡ true
    in_place_fits =
        ap (λ b. form_fits schema (cond b (form.Key (key_of schema (named role.Key ws))) (otherwise_0 schema ws))) (lacked role.FindKey no_key refl refl refl)
        ∙ ap (λ b. form_fits schema (cond b (current_of schema ws) (otherwise_1 schema ws))) (lacked role.FindCurrent no_current refl refl refl)
        ∙ ap (λ b. form_fits schema (cond b (form.OwnerOf (set_in schema ws)) (otherwise_2 schema ws))) (lacked role.FindOwner no_owner refl refl refl)
        ∙ ap (λ b. form_fits schema (cond b (form.Calc (type_in schema ws) (calc_values schema (type_in schema ws) ws (calc_of schema (type_in schema ws)))) (otherwise_3 schema ws))) (lacked role.FindCalc no_calc refl refl refl)
        ∙ ap (λ b. form_fits schema (cond b (form.Sorted (set_in schema ws) (sorted_value schema ws)) (otherwise_4 schema ws))) (lacked role.FindSorted no_sorted refl refl refl)
        ∙ ap (λ b. form_fits schema (cond b (form.NextDuplicate (type_in schema ws)) (otherwise_5 schema ws))) (lacked role.FindDuplicate no_duplicate refl refl refl) ∙ in_any here.4

  -- ANY FORM

  by_first_fits : Derives fits (finding (word (codes "FIRST") role.WhichFirst ▹ inside)) ws → form_fits schema (form_of schema ws) ≡ true
  by_first_fits d =
      let f = finding (word (codes "FIRST") role.WhichFirst ▹ inside) in
      in_place_fits (word (codes "FIRST") role.WhichFirst) d refl refl refl refl refl refl refl (ap (λ b. which_fits (cond b which.First (otherwise_which_1 ws))) (having role.WhichFirst f ws d refl))

  by_last_fits : Derives fits (finding (word (codes "LAST") role.WhichLast ▹ inside)) ws → form_fits schema (form_of schema ws) ≡ true
  by_last_fits d =
      let f = finding (word (codes "LAST") role.WhichLast ▹ inside) in
      in_place_fits (word (codes "LAST") role.WhichLast) d refl refl refl refl refl refl refl (ap (λ b. which_fits (cond b which.First (otherwise_which_1 ws))) (lacking role.WhichFirst f ws d refl) ∙ ap (λ b. which_fits (cond b which.Last (otherwise_which_2 ws))) (having role.WhichLast f ws d refl))

  by_next_fits : Derives fits (finding (word (codes "NEXT") role.WhichNext ▹ inside)) ws → form_fits schema (form_of schema ws) ≡ true
  by_next_fits d =
      let f = finding (word (codes "NEXT") role.WhichNext ▹ inside) in
      in_place_fits (word (codes "NEXT") role.WhichNext) d refl refl refl refl refl refl refl (ap (λ b. which_fits (cond b which.First (otherwise_which_1 ws))) (lacking role.WhichFirst f ws d refl) ∙ ap (λ b. which_fits (cond b which.Last (otherwise_which_2 ws))) (lacking role.WhichLast f ws d refl) ∙ ap (λ b. which_fits (cond b which.Next (otherwise_which_3 ws))) (having role.WhichNext f ws d refl))

  by_prior_fits : Derives fits (finding (word (codes "PRIOR") role.WhichPrior ▹ inside)) ws → form_fits schema (form_of schema ws) ≡ true
  by_prior_fits d =
      let f = finding (word (codes "PRIOR") role.WhichPrior ▹ inside) in
      in_place_fits (word (codes "PRIOR") role.WhichPrior) d refl refl refl refl refl refl refl (ap (λ b. which_fits (cond b which.First (otherwise_which_1 ws))) (lacking role.WhichFirst f ws d refl) ∙ ap (λ b. which_fits (cond b which.Last (otherwise_which_2 ws))) (lacking role.WhichLast f ws d refl) ∙ ap (λ b. which_fits (cond b which.Next (otherwise_which_3 ws))) (lacking role.WhichNext f ws d refl) ∙ ap (λ b. which_fits (cond b which.Prior (otherwise_which_4 ws))) (having role.WhichPrior f ws d refl))

  by_number_fits : Derives fits (finding (one signed_kind role.WhichNumber ▹ inside)) ws → form_fits schema (form_of schema ws) ≡ true
  by_number_fits d =
      let f = finding (one signed_kind role.WhichNumber ▹ inside) in
      let k = d.4.3 in
      let n = text_of k.3.0 in
      let words : ws ≡ labelled role.Find d.3.0 ∷ labelled role.WhichNumber k.3.0 ∷ (k.1 ++ d.4.1) = whole_find (one signed_kind role.WhichNumber ▹ inside) d ∙ (λ i. d.3.1 i ++ ((k.2 ∙ ap (λ (z : List Labelled). z ++ k.1) k.3.1) i ++ d.4.1)) in
      let clean_words = subst (EachSaid schema []) words c.0 in
      let behind = neither role.WhichNumber k.1 d.4.1 (lacking role.WhichNumber inside k.1 k.4 refl) (lacking role.WhichNumber (maybe suppress) d.4.1 d.4.4 refl) in
      let number_there : named role.WhichNumber ws ≡ n = ap (named role.WhichNumber) words ∙ named_last role.WhichNumber (labelled role.Find d.3.0 ∷ []) (labelled role.WhichNumber k.3.0) (k.1 ++ d.4.1) refl behind in
      in_place_fits (one signed_kind role.WhichNumber) d refl refl refl refl refl refl refl
      (ap (λ b. which_fits (cond b which.First (otherwise_which_1 ws))) (lacking role.WhichFirst f ws d refl) ∙ ap (λ b. which_fits (cond b which.Last (otherwise_which_2 ws))) (lacking role.WhichLast f ws d refl)
      ∙ ap (λ b. which_fits (cond b which.Next (otherwise_which_3 ws))) (lacking role.WhichNext f ws d refl) ∙ ap (λ b. which_fits (cond b which.Prior (otherwise_which_4 ws))) (lacking role.WhichPrior f ws d refl)
      ∙ ap (λ t. which_fits (which.Nth (signed t))) number_there ∙ signed_fits n (not_when (up_to 999999 (number (without_minus n)) == 0) OutOfRange clean_words.1.0))

  -- the FIND of a line without faults fits
  pub find_fits : Derives fits find ws → form_fits schema (form_of schema ws) ≡ true
  find_fits d = by_form d.4.3
    where
      narrow : (f : Form) → Derives fits f d.4.0 → Derives fits (finding f) ws
      narrow f e = (d.0, d.1, d.2, d.3, (d.4.0, d.4.1, d.4.2, e, d.4.4))

      by_form : Derives fits find_form d.4.0 → form_fits schema (form_of schema ws) ≡ true
      by_form (inl e) = by_key_fits (narrow by_key e)
      by_form (inr (inl e)) = by_current_fits (narrow by_current e)
      by_form (inr (inr (inl e))) = by_owner_fits (narrow by_owner e)
      by_form (inr (inr (inr (inl e)))) = by_calc_fits (narrow by_calc e)
      by_form (inr (inr (inr (inr (inl e))))) = by_sort_key_fits (narrow by_sort_key e)
      by_form (inr (inr (inr (inr (inr (inl (w, x, e, dw, inl n))))))) = by_duplicate_fits (narrow (word (codes "NEXT") role.WhichNext ▹ word (codes "DUPLICATE") role.FindDuplicate ▹ of_type) (w, x, e, dw, n))
      by_form (inr (inr (inr (inr (inr (inl (w, x, e, dw, inr n))))))) = by_next_fits (narrow (word (codes "NEXT") role.WhichNext ▹ inside) (w, x, e, dw, n))
      by_form (inr (inr (inr (inr (inr (inr (w, x, e, inl o, i))))))) = by_first_fits (narrow (word (codes "FIRST") role.WhichFirst ▹ inside) (w, x, e, o, i))
      by_form (inr (inr (inr (inr (inr (inr (w, x, e, inr (inl o), i))))))) = by_last_fits (narrow (word (codes "LAST") role.WhichLast ▹ inside) (w, x, e, o, i))
      by_form (inr (inr (inr (inr (inr (inr (w, x, e, inr (inr (inl o)), i))))))) = by_prior_fits (narrow (word (codes "PRIOR") role.WhichPrior ▹ inside) (w, x, e, o, i))
      by_form (inr (inr (inr (inr (inr (inr (w, x, e, inr (inr (inr o)), i))))))) = by_number_fits (narrow (one signed_kind role.WhichNumber ▹ inside) (w, x, e, o, i))
