-- What is judged of words depends on their values only by the kinds of these.
use Rattle.std.proofs.Common.{◌≡◌, ℕ, Bool, true, false, cond, not, ◌&&◌, ◌||◌, ◌==◌, List, [], ◌∷◌, ◌++◌, map, Some, None, refl, sym, ap, ◌∙◌}
use Rattle.std.specs.Prelude.{Option, is_none, option_map}
use Rattle.std.specs.List.{list_all}
use Rattle.std.proofs.lemmas.Bool.{eqb-true}
use Rattle.dbtg_schema.specs.Lists.{Lists}
use Rattle.dbtg_schema.proofs.Public.{both_nil}
use Rattle.dbtg_schema.specs.Structure.{area_of, calc_of, is_system, member_clause, order_of}
use Rattle.dbtg_schema.specs.Texts.Forms.{labelled}
use Rattle.dbtg_schema.specs.Texts.Spelling.{among}
use Rattle.dbtg_schema.specs.WellFormed.{is_sorted}
use Rattle.dbtg_schema.specs.declared.shape.Picture.{Picture}
use Rattle.dbtg_schema.specs.declared.shape.Picture.TheVariants.{Number, Text as TextPicture}
use Rattle.dbtg_script.specs.declared.fault.Cause.{Cause}
use Rattle.dbtg_script.specs.declared.fault.Cause.TheVariants as cause
use Rattle.dbtg_script.specs.declared.role.Role.{Role}
use Rattle.dbtg_script.specs.declared.role.Role.TheVariants as role
use Rattle.dbtg_script.specs.Labels.{first_word, has, is, last_text, named, number, text_of, texts}
use Rattle.dbtg_script.specs.Lookups.{area_named, area_no, item_named, item_no, item_picture, set_no, sort_picture, type_named, type_no}
use Rattle.dbtg_script.specs.StatementFaults.{area_in, differs_from, end_faults, is_misused, is_outside, items_in, said, set_in, sorted_faults, type_in, value_faults, when}
use Rattle.dbtg_script.specs.StatementGrammar.{Labelled}
use Rattle.dbtg_script.specs.Tokens.{Token, plain, equals, literal}
use Rattle.dbtg_script.specs.Values.{is_of_kind, spelled}
use Rattle.dbtg_program.specs.Laws.{says_too_great}

-- a word without its text
abbrev pub shape : Token → Token
shape (plain t) = plain []
shape equals = equals
shape (literal t) = literal []

-- a word in this role is a value
abbrev pub is_valued : Role → Bool
is_valued r = number r == number role.Value || number r == number role.SortedValue

-- a word, without its text if it is a value
abbrev pub bare : Labelled → Labelled
bare w = cond (is_valued w.role) (labelled w.role (shape w.word)) w

-- WHAT WORDS SAY BY THEIR ROLES

role_bare : (w : Labelled) → (bare w).role ≡ w.role
role_bare w = elim (is_valued w.role) as (λ b. (cond b (labelled w.role (shape w.word)) w).role ≡ w.role) [ true ↦ refl | false ↦ refl ]

has_bare : (r : Role) (ws : List Labelled) → has r (map bare ws) ≡ has r ws
has_bare r [] = refl
has_bare r (w ∷ ws) = λ i. (number (role_bare w i) == number r) || has_bare r ws i

last_bare : (r p : Role) (x : Token) (t : List ℕ) → is_valued r ≡ false
    → cond (is r (bare (labelled p x))) (text_of (bare (labelled p x)).word) t ≡ cond (is r (labelled p x)) (text_of x) t
last_bare r p x t h = by_role (number p == number r) refl
  where
    by_role : (b : Bool) → (number p == number r) ≡ b → cond (is r (bare (labelled p x))) (text_of (bare (labelled p x)).word) t ≡ cond (is r (labelled p x)) (text_of x) t
    by_role true e =
        let other : is_valued p ≡ false = ap (λ (n : ℕ). n == number role.Value || n == number role.SortedValue) (eqb-true (number p) (number r) e) ∙ h in
        ap (λ (w : Labelled). cond (is r w) (text_of w.word) t) (ap (λ b. cond b (labelled p (shape x)) (labelled p x)) other)
    by_role false e =
        let other : is r (bare (labelled p x)) ≡ false = ap (λ (q : Role). number q == number r) (role_bare (labelled p x)) ∙ e in
        ap (λ b. cond b (text_of (bare (labelled p x)).word) t) other ∙ sym (ap (λ b. cond b (text_of x) t) e)

named_from : (r : Role) (t : List ℕ) (ws : List Labelled) → is_valued r ≡ false → last_text r t (map bare ws) ≡ last_text r t ws
named_from r t [] h = refl
named_from r t (w ∷ ws) h = ap (λ u. last_text r u (map bare ws)) (last_bare r w.role w.word t h) ∙ named_from r (cond (is r w) (text_of w.word) t) ws h

named_bare : (r : Role) (ws : List Labelled) → is_valued r ≡ false → named r (map bare ws) ≡ named r ws
named_bare r ws h = named_from r [] ws h

item_bare : (p : Role) (x : Token) (ws : List Labelled) → texts role.ItemName (map bare ws) ≡ texts role.ItemName ws → texts role.ItemName (bare (labelled p x) ∷ map bare ws) ≡ texts role.ItemName (labelled p x ∷ ws)
item_bare role.ItemName x ws h = ap (λ (ts : List (List ℕ)). text_of x ∷ ts) h
item_bare _ x ws h = h

items_bare : (ws : List Labelled) → texts role.ItemName (map bare ws) ≡ texts role.ItemName ws
items_bare [] = refl
items_bare (w ∷ ws) = item_bare w.role w.word ws (items_bare ws)

sorted_bare : (p : Role) (x : Token) (ws : List Labelled) → first_word role.SortedValue (map bare ws) ≡ option_map shape (first_word role.SortedValue ws)
    → first_word role.SortedValue (bare (labelled p x) ∷ map bare ws) ≡ option_map shape (first_word role.SortedValue (labelled p x ∷ ws))
sorted_bare role.SortedValue x ws h = refl
sorted_bare _ x ws h = h

first_bare : (ws : List Labelled) → first_word role.SortedValue (map bare ws) ≡ option_map shape (first_word role.SortedValue ws)
first_bare [] = refl
first_bare (w ∷ ws) = sorted_bare w.role w.word ws (first_bare ws)

-- WHAT IS WRONG WITH THEM

module _ (schema : Lists) (ws : List Labelled) where
  type_bare : type_in schema (map bare ws) ≡ type_in schema ws
  type_bare = λ i. type_no schema (cond (has_bare role.TypeName ws i) (named_bare role.TypeName ws refl i) (named_bare role.RecordName ws refl i))

  set_bare : set_in schema (map bare ws) ≡ set_in schema ws
  set_bare = ap (set_no schema) (named_bare role.Name ws refl)

  area_bare : area_in schema (map bare ws) ≡ area_in schema ws
  area_bare = ap (area_no schema) (named_bare role.Name ws refl)

  picture_bare : item_picture schema (type_in schema (map bare ws)) (named role.ItemName (map bare ws)) ≡ item_picture schema (type_in schema ws) (named role.ItemName ws)
  picture_bare = λ i. item_picture schema (type_bare i) (named_bare role.ItemName ws refl i)

  said_bare : (t : Token) (r : Role) → said schema (map bare ws) t r ≡ said schema ws t r
  said_bare t role.KindArea = ap (λ n. when (is_none (area_named schema n)) cause.UnknownArea) (named_bare role.Name ws refl)
  said_bare t role.KindRecord = ap (λ n. when (is_none (type_named schema n)) cause.UnknownRecordType) (named_bare role.Name ws refl)
  said_bare t role.KindSet = ap (λ n. said schema (labelled role.Name (plain n) ∷ []) t role.KindSet) (named_bare role.Name ws refl)
  said_bare t role.RecordWord = ap (λ n. when (is_none (type_named schema n)) cause.UnknownRecordType) (named_bare role.RecordName ws refl)
  said_bare t role.ItemName = λ i. when (is_none (item_named schema (type_bare i) (text_of t))) cause.UnknownItem ++ when (among (text_of t) (items_bare ws i)) cause.ItemTwice
  said_bare t role.Value = ap (λ p. value_faults p t) picture_bare
  said_bare t _ = refl

  outside_bare : is_outside schema (map bare ws) ≡ is_outside schema ws
  outside_bare = λ i.
      has_bare role.RecordName ws i
      && ((has_bare role.KindSet ws i && is_none (member_clause schema (set_bare i) (type_bare i)))
      || (has_bare role.KindArea ws i && not (area_of schema (type_bare i) == area_bare i)))

  named_items_bare : items_in schema (map bare ws) ≡ items_in schema ws
  named_items_bare = λ i. map (item_no schema (type_bare i)) (items_bare ws i)

  misused_bare : is_misused schema (map bare ws) ≡ is_misused schema ws
  misused_bare = λ i.
      (has_bare role.FindCalc ws i && differs_from (calc_of schema (type_bare i)) (named_items_bare i))
      || (has_bare role.FindDuplicate ws i && is_none (calc_of schema (type_bare i)))
      || (has_bare role.FindSorted ws i && not (is_sorted (order_of schema (set_bare i))))
      || (has_bare role.FindOwner ws i && is_system schema (set_bare i))

-- VALUES

right_kind : (b : Bool) (rest : List Cause) → when (not b) cause.OtherKind ++ rest ≡ [] → b ≡ true
right_kind true rest h = refl
right_kind false rest h = absurd cc

kind_of_shape : (p : Picture) (t : Token) → is_of_kind p (shape t) ≡ is_of_kind p t
kind_of_shape (Number n) (plain t) = refl
kind_of_shape (Number n) equals = refl
kind_of_shape (Number n) (literal t) = refl
kind_of_shape (TextPicture n) (plain t) = refl
kind_of_shape (TextPicture n) equals = refl
kind_of_shape (TextPicture n) (literal t) = refl

only_too_great : (b : Bool) → list_all says_too_great (when b cause.TooGreat) ≡ true
only_too_great true = refl
only_too_great false = refl

-- if a value has no fault, another of the same kind is at most too great
pub may_be_too_great : (p : Option Picture) (v w : Token) → shape v ≡ shape w → value_faults p v ≡ [] → list_all says_too_great (value_faults p w) ≡ true
may_be_too_great None v w same h = refl
may_be_too_great (Some p) v w same h =
    let kind : is_of_kind p w ≡ true = sym (kind_of_shape p w) ∙ ap (is_of_kind p) (sym same) ∙ kind_of_shape p v ∙ right_kind (is_of_kind p v) (when (is_none (spelled p v)) cause.TooGreat) h in
    ap (λ (b : Bool). list_all says_too_great (when (not b) cause.OtherKind ++ when (is_none (spelled p w)) cause.TooGreat)) kind ∙ only_too_great (is_none (spelled p w))

sorted_same : (p : Option Picture) (v w : Option Token) → option_map shape v ≡ option_map shape w → sorted_faults p v ≡ [] → list_all says_too_great (sorted_faults p w) ≡ true
sorted_same p None None same h = refl
sorted_same p None (Some w) same h = absurd cc
sorted_same p (Some v) None same h = absurd cc
sorted_same p (Some v) (Some w) same h = let e : shape v ≡ shape w = cc in may_be_too_great p v w e h

-- WORDS THAT ARE THE SAME WHEN BARE

module _ (schema : Lists) (xs ys : List Labelled) (alike : map bare xs ≡ map bare ys) where
  pub said_alike : (t : Token) (r : Role) → said schema xs t r ≡ said schema ys t r
  said_alike t r = sym (said_bare schema xs t r) ∙ ap (λ (zs : List Labelled). said schema zs t r) alike ∙ said_bare schema ys t r

  pub picture_alike : item_picture schema (type_in schema xs) (named role.ItemName xs) ≡ item_picture schema (type_in schema ys) (named role.ItemName ys)
  picture_alike = sym (picture_bare schema xs) ∙ ap (λ (zs : List Labelled). item_picture schema (type_in schema zs) (named role.ItemName zs)) alike ∙ picture_bare schema ys

  outside_alike : is_outside schema xs ≡ is_outside schema ys
  outside_alike = sym (outside_bare schema xs) ∙ ap (is_outside schema) alike ∙ outside_bare schema ys

  misused_alike : is_misused schema xs ≡ is_misused schema ys
  misused_alike = sym (misused_bare schema xs) ∙ ap (is_misused schema) alike ∙ misused_bare schema ys

  set_alike : set_in schema xs ≡ set_in schema ys
  set_alike = sym (set_bare schema xs) ∙ ap (set_in schema) alike ∙ set_bare schema ys

  first_alike : option_map shape (first_word role.SortedValue xs) ≡ option_map shape (first_word role.SortedValue ys)
  first_alike = sym (first_bare xs) ∙ ap (first_word role.SortedValue) alike ∙ first_bare ys

  -- a statement as a whole: if one has no fault, the value of the other is at most too great
  pub end_alike : end_faults schema xs ≡ [] → list_all says_too_great (end_faults schema ys) ≡ true
  end_alike h =
      let a = both_nil (when (is_outside schema xs) cause.NotThere ++ when (is_misused schema xs) cause.NotThisWay) (sorted_faults (sort_picture schema (set_in schema xs)) (first_word role.SortedValue xs)) h in
      let b = both_nil (when (is_outside schema xs) cause.NotThere) (when (is_misused schema xs) cause.NotThisWay) a.0 in
      let outside = sym outside_alike in
      let misused = sym misused_alike in
      let sorted = sorted_same (sort_picture schema (set_in schema ys)) (first_word role.SortedValue xs) (first_word role.SortedValue ys) first_alike
      (ap (λ s. sorted_faults (sort_picture schema s) (first_word role.SortedValue xs)) (sym set_alike) ∙ a.1) in
      (λ i. list_all says_too_great (when (outside i) cause.NotThere ++ when (misused i) cause.NotThisWay ++ sorted_faults (sort_picture schema (set_in schema ys)) (first_word role.SortedValue ys)))
      ∙ (λ i. list_all says_too_great (b.0 i ++ b.1 i ++ sorted_faults (sort_picture schema (set_in schema ys)) (first_word role.SortedValue ys))) ∙ sorted
