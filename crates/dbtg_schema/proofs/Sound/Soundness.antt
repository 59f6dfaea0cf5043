-- A schema that is read is sound: its parts fit together.
use Rattle.std.proofs.Common.{◌≡◌, ℕ, Bool, true, false, cond, not, ◌||◌, List, [], ◌∷◌, ◌++◌, map, Option, Some, None, refl, sym, ap, subst, ◌∙◌, append_assoc, ◌⊎◌, inl, inr, true≢false}
use Rattle.std.specs.Prelude.{codes, filter, is_some, option_and_then, IfSome, ◌==◌}
use Rattle.std.specs.List.{list_any, All, AllByRecursion}
use Rattle.std.specs.Str.{bytes_eq}
use Rattle.std.proofs.lemmas.Bool.{cases_Bool, eqb-true, not-false}
use Rattle.std.proofs.lemmas.List.{append-nil}
use Rattle.std.proofs.lemmas.List.Elements.{All-nil, All-cons}
use Rattle.std.proofs.lemmas.List.Folds.{list_any-append}
use Rattle.dbtg_schema.specs.declared.role.Role.{Role}
use Rattle.dbtg_schema.specs.declared.role.Role.TheVariants as role
use Rattle.dbtg_schema.specs.declared.shape.Calc.{Calc}
use Rattle.dbtg_schema.specs.declared.shape.Item.{Item}
use Rattle.dbtg_schema.specs.declared.shape.Member.{Member}
use Rattle.dbtg_schema.specs.declared.shape.Picture.{Picture}
use Rattle.dbtg_schema.specs.declared.shape.RecordType.{RecordType}
use Rattle.dbtg_schema.specs.declared.shape.SetType.{SetType}
use Rattle.dbtg_schema.specs.Texts.Forms.{many, both, labels, Derives}
use Rattle.dbtg_schema.specs.declared.fault.Cause.TheVariants.{UnknownRecordType}
use Rattle.dbtg_schema.specs.Texts.SchemaGrammar.{Form, Labelled, area, fits, key, member, rec, set, schema}
use Rattle.dbtg_schema.specs.Texts.Labels.{is, named, until, entries, first_named}
use Rattle.dbtg_schema.specs.Structure.{picture_of}
use Rattle.dbtg_schema.specs.Texts.SchemaFaults.{at_word, said, when, fault, items_of, key_picture, unequal}
use Rattle.dbtg_schema.specs.declared.shape.Order.TheVariants as order
use Rattle.dbtg_schema.specs.declared.shape.Picture.TheVariants as picture
use Rattle.dbtg_schema.specs.Texts.SchemaLists.{duplicates_from, has, number_of, area_from, areas_from, calc_from, calc_items_from, items_at, items_from, member_from, order_from, owner_from, record_type_from, schema_of, set_from, sets_from, type_named, types_from}
use Rattle.dbtg_schema.specs.Sound.{IsSound, IsSoundSet, IsSoundType}
use Rattle.dbtg_schema.specs.Texts.Spelling.{among}
use Rattle.dbtg_schema.specs.WellFormed.{distinct, is_sorted, key_picture_of, same_number}
use Rattle.dbtg_schema.specs.Texts.Words.{Word}
use Rattle.dbtg_schema.specs.Inside.Reading.{verdict}
use Rattle.dbtg_schema.proofs.Forms.Accepted.{derived}
use Rattle.dbtg_schema.proofs.Sound.Closings.{Closed, each_ends as each_type_ends, ends_well}
use Rattle.dbtg_schema.proofs.Sound.Distinct.{all_among, bytes_same, distinct_numbers, one_name, same_bytes, name_among_append, second_of_two}
use Rattle.dbtg_schema.proofs.Sound.Keeps.{accepted_is_schema, all_made}
use Rattle.dbtg_schema.proofs.Sound.KeyPictures.{SaysNoTypes, items_told, picture_told, type_told, items_before, items_by_part, items_of_part, item_picture_told, told_before}
use Rattle.dbtg_schema.proofs.Sound.KeyNumbers.{KeyKnown, key_known, key_there, picture_by_name}
use Rattle.dbtg_schema.proofs.Sound.Limits.{clean_until, not_when}
use Rattle.dbtg_schema.proofs.Sound.NamesDiffer.{calc_names, item_names_are, item_names_differ, names_differ, unsaid}
use Rattle.dbtg_schema.proofs.Forms.Parts.{flat, begins, clean_parts, entries_are, named_append, named_none, named_parts}
use Rattle.dbtg_schema.proofs.Forms.Grammar.{right, lacks, lacking, any_append, entries_behind}
use Rattle.dbtg_schema.proofs.Sound.MembersFit.{EachEnds, Fit, all_more, flat_more, one_further, each_ends, members_differ, members_fit, pictures_agree}
use Rattle.dbtg_schema.proofs.Sound.TextParts.{Text, text_of, opening, member_head, named_whole, before_sets, set_head, set_parts, all_begin, none_in_parts, area_entry_names, type_entries, type_names, set_entries, set_names}
use Rattle.dbtg_schema.proofs.Forms.Walks.{EachClean, clean, keeps}

-- RECORD TYPES

-- what a record type keeps, by its words
abbrev TypeWords : List Labelled → Type 0
TypeWords p = Derives fits rec p × (distinct bytes_eq (named role.ItemName p) ≡ true) × Closed p

calc_differs : (items : List Item) (p : List Labelled) → (map (λ i. i.name) items ≡ named role.ItemName p) → all_among (named role.ItemName p) (named role.CalcItem p) → distinct bytes_eq (named role.CalcItem p) ≡ true
    → IfSome {T = Calc} (calc_from items p) (λ c. distinct same_number c.items ≡ true)
calc_differs items p e all d = elim (has role.CalcItem p) as (λ b. IfSome {T = Calc} (cond b (Some (record { items = calc_items_from items p; duplicates_allowed = not (has role.Unique p) })) None) (λ c. distinct same_number c.items ≡ true)) [
  | true ↦ distinct_numbers (map (λ i. i.name) items) (named role.CalcItem p) (subst (λ z. all_among z (named role.CalcItem p)) (sym e) all) d
  | false ↦ tt
]

sound_type : (areas : List _) (p : List Labelled) → TypeWords p → IsSoundType (record_type_from areas p)
sound_type areas p h =
    let e = item_names_are p h.0 in
    let c = calc_names p h.0 h.2 in
    record {
      item_names = ap (distinct bytes_eq) e ∙ h.1;
      calc_once = calc_differs (items_from p) p e c.0 c.1;
    }

-- three facts for every entry
three : (P Q R : List Labelled → Type 0) (es : List (List Labelled)) → AllByRecursion P es → AllByRecursion Q es → AllByRecursion R es → AllByRecursion (λ e. P e × Q e × R e) es
three P Q R [] p q r = tt
three P Q R (e ∷ es) p q r = ((p.0, q.0, r.0), three P Q R es p.1 q.1 r.1)

-- NAMES

pub map_names : {X : Type 0} (name : X → List ℕ) (f : List Labelled → X) (r : Role) (es : List (List Labelled)) → ((e : List Labelled) → name (f e) ≡ first_named r e) → map name (map f es) ≡ map (first_named r) es
map_names name f r [] same = refl
map_names name f r (e ∷ es) same = λ i. same e i ∷ map_names name f r es same i

-- NAMES THAT ARE KNOWN

among_more : (n : List ℕ) (xs ys : List (List ℕ)) → among n xs ≡ true → among n (xs ++ ys) ≡ true
among_more n xs ys h = name_among_append n xs ys ∙ ap (λ b. b || among n ys) h

all_among_more : (xs ys ns : List (List ℕ)) → all_among xs ns → all_among (xs ++ ys) ns
all_among_more xs ys [] h = tt
all_among_more xs ys (n ∷ ns) h = (among_more n xs ys h.0, all_among_more xs ys ns h.1)

all_among_append : (xs ms ns : List (List ℕ)) → all_among xs ms → all_among xs ns → all_among xs (ms ++ ns)
all_among_append xs [] ns h k = k
all_among_append xs (m ∷ ms) ns h k = (h.0, all_among_append xs ms ns h.1 k)

all_among_parts : (xs ms ns : List (List ℕ)) → all_among xs (ms ++ ns) → all_among xs ms × all_among xs ns
all_among_parts xs [] ns h = (tt, h)
all_among_parts xs (m ∷ ms) ns h = let r = all_among_parts xs ms ns h.1 in ((h.0, r.0), r.1)

one_of_them : (n : List ℕ) (xs ns : List (List ℕ)) → all_among xs ns → among n ns ≡ true → among n xs ≡ true
one_of_them n xs [] h a = absurd cc
one_of_them n xs (m ∷ ns) h a = elim (cases_Bool (bytes_eq n m)) [
  | inl t ↦ ap (λ z. among z xs) (same_bytes n m t) ∙ h.0
  | inr f ↦ one_of_them n xs ns h.1 (second_of_two (bytes_eq n m) (among n ns) f a)
]

-- where each word of a role names a record type before it, all of them do
known : (r : Role) → ((ws : List Labelled) (l : Labelled) → at_word ws l ≡ [] → is r l ≡ true → among l.word.text (named role.RecordName ws) ≡ true)
    → (ls : List Labelled) → EachClean [] ls → all_among (named role.RecordName ls) (named r ls)
known r said_so ls c = keeps (λ ws. all_among (named role.RecordName ws) (named r ws)) step [] ls c tt
  where
    step : (ws : List Labelled) (l : Labelled) → at_word ws l ≡ [] → all_among (named role.RecordName ws) (named r ws) → all_among (named role.RecordName (ws ++ l ∷ [])) (named r (ws ++ l ∷ []))
    step ws l clean q =
        let types = named role.RecordName ws in
        let new = named role.RecordName (l ∷ []) in
        (λ (z : all_among (types ++ new) (named r ws ++ named r (l ∷ []))). subst (λ (t : List (List ℕ)). all_among t (named r (ws ++ l ∷ []))) (sym (named_append role.RecordName ws (l ∷ [])))
        (subst (all_among (types ++ new)) (sym (named_append r ws (l ∷ []))) z))
        (all_among_append (types ++ new) (named r ws) (named r (l ∷ [])) (all_among_more types new (named r ws) q) (one types new (cases_Bool (is r l)) (said_so ws l clean)))
      where
        one : (types new : List (List ℕ)) → (is r l ≡ true) ⊎ (is r l ≡ false) → (is r l ≡ true → among l.word.text types ≡ true) → all_among (types ++ new) (named r (l ∷ []))
        one types new (inl t) there = subst (all_among (types ++ new)) (sym (ap (λ b. map (λ (w : Labelled). w.word.text) (cond b (l ∷ []) [])) t)) (among_more l.word.text types new (there t), tt)
        one types new (inr f) there = subst (all_among (types ++ new)) (sym (ap (λ b. map (λ (w : Labelled). w.word.text) (cond b (l ∷ []) [])) f)) tt

all_parts : (r : Role) (names : List (List ℕ)) (parts : List (List Labelled)) → all_among names (named r (flat parts)) → AllByRecursion (λ p. all_among names (named r p)) parts
all_parts r names [] h = tt
all_parts r names (p ∷ parts) h =
    let two = all_among_parts names (named r p) (named r (flat parts)) (subst (all_among names) (named_append r p (flat parts)) h) in
    (two.0, all_parts r names parts two.1)

-- SETS

says_both : (xs ys : List Labelled) → SaysNoTypes xs → SaysNoTypes ys → SaysNoTypes (xs ++ ys)
says_both xs ys a b = record {
  no_type = any_append role.RecordEntry xs ys a.no_type b.no_type;
  no_type_name = any_append role.RecordName xs ys a.no_type_name b.no_type_name;
  no_item = any_append role.ItemEntry xs ys a.no_item b.no_item;
  no_item_name = any_append role.ItemName xs ys a.no_item_name b.no_item_name;
  no_picture = any_append role.Picture xs ys a.no_picture b.no_picture;
}

-- what is derived by a form without record types and items
says_none : (f : Form) (zs : List Labelled) → Derives fits f zs → lacks role.RecordEntry f ≡ true → lacks role.RecordName f ≡ true → lacks role.ItemEntry f ≡ true → lacks role.ItemName f ≡ true → lacks role.Picture f ≡ true → SaysNoTypes zs
says_none f zs d a b c e g = record {
  no_type = lacking role.RecordEntry f zs d a;
  no_type_name = lacking role.RecordName f zs d b;
  no_item = lacking role.ItemEntry f zs d c;
  no_item_name = lacking role.ItemName f zs d e;
  no_picture = lacking role.Picture f zs d g;
}

first_among : (r : Role) (ws : List Labelled) → list_any (is r) ws ≡ true → among (first_named r ws) (named r ws) ≡ true
first_among r [] h = absurd cc
first_among r (w ∷ ws) h = step (is r w) h (λ k. first_among r ws k)
  where
    step : (b : Bool) → (b || list_any (is r) ws) ≡ true → (list_any (is r) ws ≡ true → among (first_named r ws) (named r ws) ≡ true)
        → among (cond b w.word.text (first_named r ws)) (map (λ (x : Labelled). x.word.text) (cond b (w ∷ filter (is r) ws) (filter (is r) ws))) ≡ true
    step true h k = ap (λ b. b || among w.word.text (named r ws)) (bytes_same w.word.text)
    step false h k = k h

-- all have the same value
all_alike : {X Y : Type 0} (f : X → Y) (make : List Labelled → X) (v : Y) (parts : List (List Labelled)) → AllByRecursion (λ p. f (make p) ≡ v) parts → All (λ m. All (λ n. f m ≡ f n) (map make parts)) (map make parts)
all_alike {X} {Y} f make v parts h = outer parts h
  where
    inner : (a : Y) → a ≡ v → (ps : List (List Labelled)) → AllByRecursion (λ p. f (make p) ≡ v) ps → All (λ n. a ≡ f n) (map make ps)
    inner a e [] all = All-nil (λ n. a ≡ f n)
    inner a e (p ∷ ps) all = All-cons (λ n. a ≡ f n) (make p) (map make ps) (e ∙ sym all.0) (inner a e ps all.1)

    outer : (ps : List (List Labelled)) → AllByRecursion (λ p. f (make p) ≡ v) ps → All (λ m. All (λ n. f m ≡ f n) (map make parts)) (map make ps)
    outer [] all = All-nil (λ m. All (λ n. f m ≡ f n) (map make parts))
    outer (p ∷ ps) all = All-cons (λ m. All (λ n. f m ≡ f n) (map make parts)) (make p) (map make ps) (inner (f (make p)) all.0 parts h) (outer ps all.1)

sorted_order : (p : List Labelled) → is_sorted (order_from p) ≡ has role.Sorted p
sorted_order p = by_words (has role.Sorted p) (has role.OrderFirst p) (has role.OrderLast p) (has role.OrderNext p)
  where
    by_words : (s f l n : Bool) → is_sorted (cond s (order.Sorted (has role.Ascending p) (duplicates_from p)) (cond f order.First (cond l order.Last (cond n order.Next order.Prior)))) ≡ s
    by_words true f l n = refl
    by_words false true l n = refl
    by_words false false true n = refl
    by_words false false false true = refl
    by_words false false false false = refl

-- pictures that are not unequal are the same
same_picture : (a b : Option Picture) (p q : Picture) → a ≡ Some p → b ≡ Some q → unequal a b ≡ false → p ≡ q
same_picture a b p q e f h = alike p q ((λ i. unequal (sym e i) (sym f i)) ∙ h)
  where
    of_not : (m n : ℕ) → not (m == n) ≡ false → m ≡ n
    of_not m n h = eqb-true m n (not-false (m == n) h)

    alike : (p q : Picture) → unequal (Some p) (Some q) ≡ false → p ≡ q
    alike (picture.Number m) (picture.Number n) h = ap picture.Number (of_not m n h)
    alike (picture.Text m) (picture.Text n) h = ap picture.Text (of_not m n h)
    alike (picture.Number m) (picture.Text n) h = absurd cc
    alike (picture.Text m) (picture.Number n) h = absurd cc

module _ (ws : List Labelled) (c : EachClean [] ws) (d : Derives fits schema ws) (closed : AllByRecursion Closed (entries role.RecordEntry (until role.SetEntry ws))) where
  abbrev text : Text ws
  text = text_of ws d

  sound_types : All IsSoundType (types_from (areas_from ws) ws)
  sound_types =
      let e = type_entries ws text in
      subst (λ (z : List (List Labelled)). All IsSoundType (map (record_type_from (areas_from ws)) z)) (sym e)
      (all_made IsSoundType TypeWords (record_type_from (areas_from ws)) text.types (sound_type (areas_from ws))
      (three (Derives fits rec) (λ p. distinct bytes_eq (named role.ItemName p) ≡ true) Closed text.types text.each_type
      (subst (AllByRecursion (λ p. distinct bytes_eq (named role.ItemName p) ≡ true)) e (item_names_differ (until role.SetEntry ws) (clean_until role.SetEntry [] ws c)))
      (subst (AllByRecursion Closed) e closed)))

  type_names_are : map (λ (r : RecordType). r.name) (types_from (areas_from ws) ws) ≡ named role.RecordName ws
  type_names_are = map_names (λ (r : RecordType). r.name) (record_type_from (areas_from ws)) role.RecordName (entries role.RecordEntry (until role.SetEntry ws)) (λ e. refl) ∙ ap (map (first_named role.RecordName)) (type_entries ws text) ∙ sym (type_names ws text)

  sound_names : distinct bytes_eq (map (λ a. a.name) (areas_from ws) ++ map (λ (r : RecordType). r.name) (types_from (areas_from ws) ws) ++ map (λ (s : SetType). s.name) (sets_from (types_from (areas_from ws) ws) ws)) ≡ true
  sound_names =
      (λ i. distinct bytes_eq (
      (map_names (λ a. a.name) area_from role.AreaName (entries role.AreaEntry ws) (λ e. refl) ∙ area_entry_names ws text) i ++ type_names_are i
      ++ (map_names (λ (s : SetType). s.name) (set_from (types_from (areas_from ws) ws)) role.SetName (entries role.SetEntry ws) (λ e. refl) ∙ ap (map (first_named role.SetName)) (set_entries ws text) ∙ sym (set_names ws text)) i))
      ∙ names_differ ws c

  -- the record types are those that the schema has
  abbrev types : List RecordType
  types = types_from (areas_from ws) ws

  abbrev type_names_there : List (List ℕ)
  type_names_there = map (λ (r : RecordType). r.name) types

  -- what stands before the sets
  abbrev before_sets_words : List Labelled
  before_sets_words = text.front ++ (flat text.areas ++ flat text.types)

  types_made : types ≡ map (record_type_from (areas_from ws)) text.types
  types_made = ap (map (record_type_from (areas_from ws))) (type_entries ws text)

  type_parts_before : entries role.RecordEntry before_sets_words ≡ text.types
  type_parts_before = ap (entries role.RecordEntry) (sym (before_sets ws text)) ∙ type_entries ws text

  -- the picture of a member's key, wherever it is asked for after the record types
  picture_asked : (zs m : List Labelled) → SaysNoTypes zs → key_picture (before_sets_words ++ zs) m ≡ picture_by_name text.types m
  picture_asked zs m says =
      item_picture_told (first_named role.MemberName m) (first_named role.KeyItem m) (before_sets_words ++ zs)
      ∙ ap (λ t. picture_told (first_named role.KeyItem m) (items_told (first_named role.MemberName m) t)) (told_before before_sets_words zs says ∙ ap (map type_told) type_parts_before)

  items_asked : (more zs : List Labelled) (r : List ℕ) → SaysNoTypes more → SaysNoTypes zs → items_of r ((before_sets_words ++ more) ++ zs) ≡ items_of_part r text.types
  items_asked more zs r a b =
      ap (items_of r) (append_assoc before_sets_words more zs) ∙ items_before r before_sets_words (more ++ zs) (says_both more zs a b) ∙ items_by_part r before_sets_words text.types type_parts_before

  module _ (more p : List Labelled) (says : SaysNoTypes more) (is_set : Derives fits set p) (clean_set : EachClean (before_sets_words ++ more) p)
      (members_known : all_among type_names_there (named role.MemberName p)) (owner_known : all_among type_names_there (named role.OwnerName p)) where
    abbrev split : Derives fits (both set_head (both member (many member))) p
    split = set_parts p is_set

    abbrev head : List Labelled
    head = split.0

    abbrev parts : List (List Labelled)
    parts = split.4.0 ∷ split.4.4.0

    each_member : AllByRecursion (Derives fits member) parts
    each_member = (split.4.3, split.4.4.2)

    whole_set : p ≡ head ++ flat parts
    whole_set = split.2 ∙ ap (λ (z : List Labelled). head ++ z) (split.4.2 ∙ ap (λ (z : List Labelled). split.4.0 ++ z) split.4.4.1)

    clean_members : EachClean ((before_sets_words ++ more) ++ head) (flat parts)
    clean_members = (clean_parts (before_sets_words ++ more) head (flat parts) (subst (EachClean (before_sets_words ++ more)) whole_set clean_set)).1

    abbrev before_set : List Labelled
    before_set = before_sets_words ++ more

    ends : EachEnds (before_set ++ (head ++ [])) parts
    ends =
        subst (λ (z : List Labelled). EachEnds (before_set ++ z) parts) (sym (append-nil head))
        (each_ends (before_set ++ head) parts [] each_member (subst (EachClean (before_set ++ head)) (sym (append-nil (flat parts))) clean_members))

    member_entries : entries role.MemberEntry p ≡ parts
    member_entries =
        ap (entries role.MemberEntry) whole_set ∙ entries_behind role.MemberEntry head (flat parts) (lacking role.MemberEntry set_head head split.3 refl)
        ∙ entries_are role.MemberEntry parts (all_begin role.MemberEntry member parts each_member (λ q e. begins role.MemberEntry (key (codes "MEMBER")) (right member) q e refl))

    fit : Fit head parts
    fit = members_fit before_set head split.3 [] parts tt each_member ends

    member_names : named role.MemberName p ≡ map (first_named role.MemberName) parts
    member_names =
        ap (named role.MemberName) whole_set ∙ named_append role.MemberName head (flat parts)
        ∙ (λ i. named_none role.MemberName head (lacking role.MemberName set_head head split.3 refl) i ++ named_parts role.MemberName member parts each_member refl refl refl i)

    owner_names : named role.OwnerName p ≡ named role.OwnerName head
    owner_names =
        ap (named role.OwnerName) whole_set ∙ named_append role.OwnerName head (flat parts)
        ∙ ap (λ z. named role.OwnerName head ++ z) (named_none role.OwnerName (flat parts) (none_in_parts role.OwnerName member parts each_member refl)) ∙ append-nil (named role.OwnerName head)

    sorted_here : has role.Sorted p ≡ has role.Sorted head
    sorted_here =
        ap (has role.Sorted) whole_set ∙ list_any-append (is role.Sorted) head (flat parts) ∙ ap (λ b. has role.Sorted head || b) (none_in_parts role.Sorted member parts each_member refl) ∙ or_false (has role.Sorted head)
      where
        or_false : (b : Bool) → (b || false) ≡ b
        or_false true = refl
        or_false false = refl

    each_known : all_among type_names_there (map (first_named role.MemberName) parts)
    each_known = subst (all_among type_names_there) member_names members_known

    members_once : distinct same_number (map (λ (m : Member). m.rtype) (map (member_from types) parts)) ≡ true
    members_once =
        ap (distinct same_number) (numbers parts)
        ∙ distinct_numbers type_names_there (map (first_named role.MemberName) parts) each_known (members_differ before_set head split.3 [] parts tt each_member ends refl)
      where
        numbers : (ps : List (List Labelled)) → map (λ (m : Member). m.rtype) (map (member_from types) ps) ≡ map (λ n. number_of n type_names_there) (map (first_named role.MemberName) ps)
        numbers [] = refl
        numbers (q ∷ ps) = ap (λ z. number_of (first_named role.MemberName q) type_names_there ∷ z) (numbers ps)

    owner_apart : has role.OwnerName p ≡ true → (ps : List (List Labelled)) → Fit head ps → all_among type_names_there (map (first_named role.MemberName) ps) → list_any (λ (m : Member). m.rtype == type_named types role.OwnerName p) (map (member_from types) ps) ≡ false
    owner_apart there [] f all = refl
    owner_apart there (q ∷ ps) f all = (λ i. other i || owner_apart there ps f.1 all.1 i)
      where
        owner : List ℕ
        owner = first_named role.OwnerName p

        other : (type_named types role.MemberName q == type_named types role.OwnerName p) ≡ false
        other = elim (cases_Bool (type_named types role.MemberName q == type_named types role.OwnerName p)) [
          | inl e ↦
              let in_set = first_among role.OwnerName p there in
              let one : first_named role.MemberName q ≡ first_named role.OwnerName p = one_name (first_named role.MemberName q) (first_named role.OwnerName p) type_names_there all.0 (one_of_them (first_named role.OwnerName p) type_names_there (named role.OwnerName p) owner_known in_set) (eqb-true _ _ e) in
              absurd (true≢false (sym in_set ∙ (λ i. among (sym one i) (owner_names i)) ∙ f.0.0))
          | inr n ↦ n
        ]

    owner_is_no_member : IfSome {T = ℕ} (owner_from types p) (λ o. list_any (λ (m : Member). m.rtype == o) (map (member_from types) parts) ≡ false)
    owner_is_no_member = by_owner (has role.OwnerName p) refl
      where
        by_owner : (b : Bool) → has role.OwnerName p ≡ b → IfSome {T = ℕ} (cond b (Some (type_named types role.OwnerName p)) None) (λ o. list_any (λ (m : Member). m.rtype == o) (map (member_from types) parts) ≡ false)
        by_owner true e = owner_apart e parts fit each_known
        by_owner false e = tt

    keys_right : (ps : List (List Labelled)) → Fit head ps → All (λ (m : Member). is_some m.key ≡ is_sorted (order_from p)) (map (member_from types) ps)
    keys_right [] f = All-nil (λ (m : Member). is_some m.key ≡ is_sorted (order_from p))
    keys_right (q ∷ ps) f =
        All-cons (λ (m : Member). is_some m.key ≡ is_sorted (order_from p)) (member_from types q) (map (member_from types) ps)
        (is_there (has role.KeyItem q) ∙ f.0.1 ∙ sym sorted_here ∙ sym (sorted_order p)) (keys_right ps f.1)
      where
        is_there : (b : Bool) → is_some (cond b (Some (number_of (first_named role.KeyItem q) (map (λ (i : Item). i.name) (items_at types (type_named types role.MemberName q))))) None) ≡ b
        is_there true = refl
        is_there false = refl

    -- in a set that is not sorted no member has a key picture
    no_pictures : has role.Sorted head ≡ false → (ps : List (List Labelled)) → Fit head ps → AllByRecursion (λ q. key_picture_of (schema_of ws) (member_from types q) ≡ None) ps
    no_pictures e [] f = tt
    no_pictures e (q ∷ ps) f = (ap (λ b. option_and_then (λ i. picture_of (schema_of ws) (type_named types role.MemberName q) i) (cond b (Some (number_of (first_named role.KeyItem q) (map (λ (i : Item). i.name) (items_at types (type_named types role.MemberName q))))) None)) (f.0.1 ∙ e), no_pictures e ps f.1)

    -- words of the set up to some sentences say nothing of record types
    says_so_far : (earlier : List (List Labelled)) → AllByRecursion (Derives fits member) earlier → SaysNoTypes (head ++ flat earlier)
    says_so_far earlier all = says_both head (flat earlier) (says_none set_head head split.3 refl refl refl refl refl) (says_none (many member) (flat earlier) (earlier, refl, all) refl refl refl refl refl)

    known_here : all_among (map (first_named role.RecordName) text.types) (map (first_named role.MemberName) parts)
    known_here = subst (λ z. all_among z (map (first_named role.MemberName) parts)) (type_names_are ∙ type_names ws text) each_known

    -- in a sorted set each member's key is known
    keys_known : has role.Sorted head ≡ true → (earlier ps : List (List Labelled)) → AllByRecursion (Derives fits member) earlier → AllByRecursion (Derives fits member) ps
        → EachClean (before_set ++ (head ++ flat earlier)) (flat ps) → Fit head ps → all_among (map (first_named role.RecordName) text.types) (map (first_named role.MemberName) ps) → AllByRecursion (KeyKnown (schema_of ws) text.types) ps
    keys_known e earlier [] all each clean f names = tt
    keys_known e earlier (q ∷ ps) all each clean f names =
        let so_far = head ++ flat earlier in
        let two = clean_parts (before_set ++ so_far) q (flat ps) clean in
        let has_key = f.0.1 ∙ e in
        let there = key_there (before_set ++ so_far) q text.types each.0 two.0 (asked so_far (says_so_far earlier all)) has_key in (
          key_known (schema_of ws) text.types types_made text.each_type q has_key names.0 there,
          keys_known e (earlier ++ q ∷ []) ps (all_more earlier q all each.0) each.1 (subst (λ (z : List Labelled). EachClean z (flat ps)) (further earlier q) two.1) f.1 names.1,
        )
      where
        asked : (so_far : List Labelled) → SaysNoTypes so_far → (zs : List Labelled) (r : List ℕ) → SaysNoTypes zs → items_of r ((before_set ++ so_far) ++ zs) ≡ items_of_part r text.types
        asked so_far a zs r b = ap (items_of r) (append_assoc before_set so_far zs) ∙ items_asked more (so_far ++ zs) r says (says_both so_far zs a b)

        further : (earlier : List (List Labelled)) (q : List Labelled) → (before_set ++ (head ++ flat earlier)) ++ q ≡ before_set ++ (head ++ flat (earlier ++ q ∷ []))
        further earlier q = append_assoc before_set (head ++ flat earlier) q ∙ ap (λ (z : List Labelled). before_set ++ z) (append_assoc head (flat earlier) q ∙ ap (λ (z : List Labelled). head ++ z) (sym (flat_more earlier q)))

    asked_there : (earlier : List (List Labelled)) (body m : List Labelled) → AllByRecursion (Derives fits member) earlier → Derives fits member_head body → key_picture ((before_set ++ (head ++ flat earlier)) ++ body) m ≡ picture_by_name text.types m
    asked_there earlier body m all d =
        let so_far = head ++ flat earlier in
        ap (λ (z : List Labelled). key_picture z m) (append_assoc before_set so_far body ∙ append_assoc before_sets_words more (so_far ++ body))
        ∙ picture_asked (more ++ (so_far ++ body)) m (says_both more (so_far ++ body) says (says_both so_far body (says_so_far earlier all) (says_none member_head body d refl refl refl refl refl)))

    -- in a sorted set each member's key has the picture of the first
    one_picture : has role.Sorted head ≡ true → All (λ m. All (λ n. key_picture_of (schema_of ws) m ≡ key_picture_of (schema_of ws) n) (map (member_from types) parts)) (map (member_from types) parts)
    one_picture e =
        let clean_first = subst (λ (z : List Labelled). EachClean (before_set ++ z) (flat parts)) (sym (append-nil head)) clean_members in
        let all_known = keys_known e [] parts tt each_member clean_first fit known_here in
        let agree = pictures_agree before_set head split.3 (picture_by_name text.types) asked_there split.4.0 [] split.4.4.0 (split.4.3, tt) split.4.4.2 (one_further before_set head split.3 [] split.4.0 split.4.4.0 ends.1)
        (λ q body t. λ i. picture_told (t.key_name i) (items_told (t.name i) (map type_told text.types))) in
        all_alike (key_picture_of (schema_of ws)) (member_from types) (Some all_known.0.picture) parts (all_known.0.by_number, the_same all_known.0 split.4.4.0 all_known.1 agree)
      where
        the_same : (k : KeyKnown (schema_of ws) text.types split.4.0) (ps : List (List Labelled)) → AllByRecursion (KeyKnown (schema_of ws) text.types) ps → AllByRecursion (λ q. unequal (picture_by_name text.types split.4.0) (picture_by_name text.types q) ≡ false) ps
            → AllByRecursion (λ q. key_picture_of (schema_of ws) (member_from types q) ≡ Some k.picture) ps
        the_same k [] all agree = tt
        the_same k (q ∷ ps) all agree =
            (all.0.by_number ∙ ap Some (sym (same_picture (picture_by_name text.types split.4.0) (picture_by_name text.types q) k.picture all.0.picture k.by_name all.0.by_name agree.0)), the_same k ps all.1 agree.1)

    sound_set : IsSoundSet (schema_of ws) (set_from types p)
    sound_set =
        subst (λ (z : List (List Labelled)). IsSoundSet (schema_of ws) (record { name = first_named role.SetName p; order = order_from p; owner = owner_from types p; members = map (member_from types) z })) (sym member_entries) (record {
          members_once = members_once;
          owner_is_no_member = owner_is_no_member;
          keys = keys_right parts fit;
          key_pictures = elim (cases_Bool (has role.Sorted head)) [
            | inl e ↦ one_picture e
            | inr e ↦ all_alike (key_picture_of (schema_of ws)) (member_from types) None parts (no_pictures e parts fit)
          ];
        })

  -- each set, after the sets before it
  each_sound_set : (earlier sets : List (List Labelled)) → AllByRecursion (Derives fits set) earlier → AllByRecursion (Derives fits set) sets → EachClean (before_sets_words ++ flat earlier) (flat sets)
      → AllByRecursion (λ q. all_among type_names_there (named role.MemberName q)) sets → AllByRecursion (λ q. all_among type_names_there (named role.OwnerName q)) sets
      → All (IsSoundSet (schema_of ws)) (map (set_from types) sets)
  each_sound_set earlier [] all each clean members owners = All-nil (IsSoundSet (schema_of ws))
  each_sound_set earlier (p ∷ sets) all each clean members owners =
      let two = clean_parts (before_sets_words ++ flat earlier) p (flat sets) clean in
      let says = says_none (many set) (flat earlier) (earlier, refl, all) refl refl refl refl refl in
      All-cons (IsSoundSet (schema_of ws)) (set_from types p) (map (set_from types) sets) (sound_set (flat earlier) p says each.0 two.0 members.0 owners.0)
      (each_sound_set (earlier ++ p ∷ []) sets (more_sets earlier p all each.0) each.1
      (subst (λ (z : List Labelled). EachClean z (flat sets)) (append_assoc before_sets_words (flat earlier) p ∙ ap (λ (z : List Labelled). before_sets_words ++ z) (sym (flat_more earlier p))) two.1) members.1 owners.1)
    where
      more_sets : (earlier : List (List Labelled)) (p : List Labelled) → AllByRecursion (Derives fits set) earlier → Derives fits set p → AllByRecursion (Derives fits set) (earlier ++ p ∷ [])
      more_sets [] p all d = (d, tt)
      more_sets (q ∷ earlier) p all d = (all.0, more_sets earlier p all.1 d)

  -- the names that sets name are those of record types
  named_in_sets : (r : Role) → lacks r opening ≡ true → lacks r area ≡ true → lacks r rec ≡ true → all_among (named role.RecordName ws) (named r ws) → AllByRecursion (λ q. all_among type_names_there (named r q)) text.sets
  named_in_sets r a b c all =
      all_parts r type_names_there text.sets
      (subst (λ z. all_among z (named r (flat text.sets))) (sym type_names_are) (subst (all_among (named role.RecordName ws)) in_sets all))
    where
      in_sets : named r ws ≡ named r (flat text.sets)
      in_sets =
          named_whole ws text r
          ∙ (λ i. named_none r text.front (lacking r opening text.front text.is_front a) i
          ++ (named_none r (flat text.areas) (none_in_parts r area text.areas text.each_area b) i
          ++ (named_none r (flat text.types) (none_in_parts r rec text.types text.each_type c) i ++ named r (flat text.sets))))

  whole_text : ws ≡ before_sets_words ++ flat text.sets
  whole_text =
      text.whole ∙ ap (λ (z : List Labelled). text.front ++ z) (sym (append_assoc (flat text.areas) (flat text.types) (flat text.sets))) ∙ sym (append_assoc text.front (flat text.areas ++ flat text.types) (flat text.sets))

  names_known : (r : Role) → ((xs : List Labelled) (l : Labelled) → said xs l r ≡ when (not (among l.word.text (named role.RecordName xs))) (fault UnknownRecordType l.word.line)) → all_among (named role.RecordName ws) (named r ws)
  names_known r says = known r there ws c
    where
      there : (xs : List Labelled) (l : Labelled) → at_word xs l ≡ [] → is r l ≡ true → among l.word.text (named role.RecordName xs) ≡ true
      there xs l clean t = not-false (among l.word.text (named role.RecordName xs)) (not_when (not (among l.word.text (named role.RecordName xs))) (fault UnknownRecordType l.word.line) (sym (says xs l) ∙ unsaid r xs l clean t))

  sound_sets : All (IsSoundSet (schema_of ws)) (sets_from types ws)
  sound_sets =
      let clean_sets = (clean_parts [] before_sets_words (flat text.sets) (subst (EachClean []) whole_text c)).1 in
      subst (λ (z : List (List Labelled)). All (IsSoundSet (schema_of ws)) (map (set_from types) z)) (sym (set_entries ws text))
      (each_sound_set [] text.sets tt text.each_set (subst (λ (z : List Labelled). EachClean z (flat text.sets)) (sym (append-nil before_sets_words)) clean_sets)
      (named_in_sets role.MemberName refl refl refl (names_known role.MemberName (λ xs l. refl))) (named_in_sets role.OwnerName refl refl refl (names_known role.OwnerName (λ xs l. refl))))

-- the schema of a text without faults is sound
pub accepted_is_sound : (left : List Word) (end : ℕ) → verdict end [] schema left ≡ None → IsSound (schema_of (labels fits schema left))
accepted_is_sound left end h =
    let ws = labels fits schema left in
    let c = clean left end [] schema h in
    let d = derived left end [] schema h in
    let closed = each_type_ends [] ws refl c (ends_well left end [] schema h) in
    record { limits = accepted_is_schema left end h; types = sound_types ws c d closed; sets = sound_sets ws c d closed; names = sound_names ws c d closed }
