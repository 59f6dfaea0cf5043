-- The picture of a member's key item, by the numbers in the schema, is the one that its names say.
use Rattle.std.proofs.Common.{◌≡◌, ℕ, true, cond, not, List, [], ◌∷◌, ◌++◌, map, Option, Some, None, refl, sym, ap, subst, ◌∙◌, append_assoc, arith, inl, inr, true≢false}
use Rattle.std.specs.Prelude.{codes, option_map, option_and_then, slice_get, unwrap_or}
use Rattle.std.specs.List.{AllByRecursion}
use Rattle.std.proofs.lemmas.Option.{slice_get-map}
use Rattle.std.proofs.lemmas.Bool.{not-false}
use Rattle.dbtg_schema.specs.declared.fault.Cause.TheVariants.{UnknownItem}
use Rattle.dbtg_schema.specs.declared.role.Role.TheVariants as role
use Rattle.dbtg_schema.specs.declared.shape.Area.{Area}
use Rattle.dbtg_schema.specs.declared.shape.Item.{Item}
use Rattle.dbtg_schema.specs.declared.shape.Picture.{Picture}
use Rattle.dbtg_schema.specs.declared.shape.RecordType.{RecordType}
use Rattle.dbtg_schema.specs.Texts.Forms.{labelled, Derives}
use Rattle.dbtg_schema.specs.Texts.SchemaGrammar.{Labelled, fits, key, member, rec, say}
use Rattle.dbtg_schema.specs.Texts.Labels.{first_named, since}
use Rattle.dbtg_schema.specs.Lists.{Lists}
use Rattle.dbtg_schema.specs.Texts.SchemaFaults.{fault, items_of}
use Rattle.dbtg_schema.specs.Texts.SchemaLists.{has, item_from, items_at, member_from, number_of, record_type_from, type_named}
use Rattle.dbtg_schema.specs.Texts.Spelling.{among}
use Rattle.dbtg_schema.specs.Structure.{picture_of}
use Rattle.dbtg_schema.specs.WellFormed.{key_picture_of}
use Rattle.dbtg_schema.proofs.Forms.Grammar.{right, left, lacking, any_append}
use Rattle.dbtg_schema.proofs.Sound.KeyPictures.{SaysNoTypes, first_named_behind, at_number, type_at, item_entries, items_of_part, items_told, picture_told, type_told, item_told}
use Rattle.dbtg_schema.proofs.Sound.Limits.{not_when}
use Rattle.dbtg_schema.proofs.Sound.NamesDiffer.{item_names_are, unsaid}
use Rattle.dbtg_schema.proofs.Forms.Parts.{Begins, begins_append, begins_more, begins_one, clean_parts, first_named_front, since_begins}
use Rattle.dbtg_schema.proofs.Sound.TextParts.{behind, front, regroup}
use Rattle.dbtg_schema.proofs.Forms.Walks.{EachClean}
use Rattle.dbtg_schema.specs.Texts.Words.{Word}

-- the picture of a member's key, by the names in its sentence
abbrev pub picture_by_name : List (List Labelled) → List Labelled → Option Picture
picture_by_name types p = picture_told (first_named role.KeyItem p) (items_told (first_named role.MemberName p) (map type_told types))

-- and by the numbers in the schema
pub record KeyKnown (schema : Lists) (types : List (List Labelled)) (p : List Labelled) : Type 0 where
  pub picture : Picture
  pub by_name : picture_by_name types p ≡ Some picture
  pub by_number : key_picture_of schema (member_from schema.types p) ≡ Some picture

names_of_types : (areas : List Area) (types : List (List Labelled)) → map (λ (r : RecordType). r.name) (map (record_type_from areas) types) ≡ map (first_named role.RecordName) types
names_of_types areas [] = refl
names_of_types areas (p ∷ types) = ap (λ z. first_named role.RecordName p ∷ z) (names_of_types areas types)

names_of_items : (es : List (List Labelled)) → map (λ (i : Item). i.name) (map item_from es) ≡ map (first_named role.ItemName) es
names_of_items [] = refl
names_of_items (e ∷ es) = ap (λ z. first_named role.ItemName e ∷ z) (names_of_items es)

pub key_known : (schema : Lists) (types : List (List Labelled)) → schema.types ≡ map (record_type_from schema.areas) types → AllByRecursion (Derives fits rec) types → (p : List Labelled) → has role.KeyItem p ≡ true
    → among (first_named role.MemberName p) (map (first_named role.RecordName) types) ≡ true → among (first_named role.KeyItem p) (items_of_part (first_named role.MemberName p) types) ≡ true → KeyKnown schema types p
key_known schema types are all p has_key known item_known =
    let r = first_named role.MemberName p in
    let i = first_named role.KeyItem p in
    let t = type_at r types all 0 known in
    let es = item_entries t.part t.is_part in
    let there : among i (map (first_named role.ItemName) es.0) ≡ true =
    ap (among i) (sym (names_of_items es.0) ∙ ap (λ (z : List (List Labelled)). map (λ (x : Item). x.name) (map item_from z)) (sym es.1) ∙ item_names_are t.part t.is_part ∙ sym t.names) ∙ item_known in
    let a = at_number i es.0 es.2 0 there in
    let rtype : type_named schema.types role.MemberName p ≡ t.number =
    ap (λ (z : List RecordType). number_of r (map (λ (x : RecordType). x.name) z)) are ∙ ap (number_of r) (names_of_types schema.areas types) ∙ ap (λ o. unwrap_or o 0) t.place ∙ omega arith in
    let items : items_at schema.types t.number ≡ map item_from es.0 =
    ap (λ (z : List RecordType). items_at z t.number) are
    ∙ ap (λ (o : Option RecordType). unwrap_or (option_map (λ (x : RecordType). x.items) o) []) (slice_get-map (record_type_from schema.areas) types t.number ∙ ap (option_map (record_type_from schema.areas)) t.by_number)
    ∙ ap (map item_from) es.1 in
    let item_number : number_of i (map (λ (x : Item). x.name) (items_at schema.types t.number)) ≡ a.number =
    ap (λ (z : List Item). number_of i (map (λ (x : Item). x.name) z)) items ∙ ap (number_of i) (names_of_items es.0) ∙ ap (λ o. unwrap_or o 0) a.place ∙ omega arith in
    record {
      picture = a.picture;
      by_name = ap (picture_told i) (t.items ∙ ap (map item_told) es.1) ∙ a.by_name;
      by_number =
          ap (λ b. option_and_then (λ n. picture_of schema (type_named schema.types role.MemberName p) n) (cond b (Some (number_of i (map (λ (x : Item). x.name) (items_at schema.types (type_named schema.types role.MemberName p))))) None)) has_key
          ∙ ap (λ m. picture_of schema m (number_of i (map (λ (x : Item). x.name) (items_at schema.types m)))) rtype
          ∙ (λ j. slice_get (map (λ (x : Item). x.picture) (items j)) (item_number j)) ∙ a.by_number;
    }

-- THE KEY ITEM IS ONE OF THE MEMBER'S

-- after these words a MEMBER sentence without faults names as its key an item of its record type
pub key_there : (before p : List Labelled) (types : List (List Labelled)) → Derives fits member p → EachClean before p
    → ((zs : List Labelled) (r : List ℕ) → SaysNoTypes zs → items_of r (before ++ zs) ≡ items_of_part r types)
    → has role.KeyItem p ≡ true → among (first_named role.KeyItem p) (items_of_part (first_named role.MemberName p) types) ≡ true
key_there before p types d c same has_key =
    let t = regroup (front 2 member) (left (behind 3 member)) (behind 4 member) p
    (regroup (front 1 member) (left (behind 2 member)) (behind 3 member) p
    (regroup (front 0 member) (left (behind 1 member)) (behind 2 member) p d)) in
    by_key t.0 t.3 t.1 t.2 t.4.0 t.4.1 t.4.2 t.4.3 t.4.4
  where
    head_begins : (ws : List Labelled) → Derives fits (front 3 member) ws → Begins role.MemberEntry ws
    head_begins ws d =
        begins_more role.MemberEntry (front 2 member) (left (behind 3 member)) ws
        (λ p d. begins_more role.MemberEntry (front 1 member) (left (behind 2 member)) p
        (λ p d. begins_more role.MemberEntry (front 0 member) (left (behind 1 member)) p
        (λ p d. begins_one role.MemberEntry (key (codes "MEMBER")) p d) refl d) refl d) refl d

    at_key : (head k : List Labelled) (w : Word) (rest : List Labelled) → Derives fits (front 3 member) head → Derives fits (say (codes "KEY")) k → Derives fits (right (right (behind 3 member))) rest
        → p ≡ (head ++ k) ++ labelled role.KeyItem w ∷ rest → among (first_named role.KeyItem p) (items_of_part (first_named role.MemberName p) types) ≡ true
    at_key head k w rest is_head is_k is_rest whole =
        let front_words = head ++ k in
        let parts = clean_parts before front_words (labelled role.KeyItem w ∷ rest) (subst (EachClean before) whole c) in
        let said_it = unsaid role.KeyItem (before ++ front_words) (labelled role.KeyItem w) parts.1.0 refl in
        let r = first_named role.MemberName (since role.MemberEntry (before ++ front_words)) in
        let there = not-false (among w.text (items_of r (before ++ front_words))) (not_when (not (among w.text (items_of r (before ++ front_words)))) (fault UnknownItem w.line) said_it) in
        let starts = begins_append role.MemberEntry head k (head_begins head is_head) (lacking role.MemberEntry (say (codes "KEY")) k is_k refl) in
        let name : first_named role.MemberName p ≡ r =
        ap (first_named role.MemberName) whole
        ∙ first_named_front role.MemberName front_words (labelled role.KeyItem w ∷ rest) (lacking role.MemberName (right (right (behind 3 member))) rest is_rest refl)
        ∙ ap (first_named role.MemberName) (sym (since_begins role.MemberEntry before front_words starts)) in
        let key_name : first_named role.KeyItem p ≡ w.text =
        ap (first_named role.KeyItem) whole
        ∙ first_named_behind role.KeyItem front_words (labelled role.KeyItem w ∷ rest) (any_append role.KeyItem head k (lacking role.KeyItem (front 3 member) head is_head refl) (lacking role.KeyItem (say (codes "KEY")) k is_k refl)) in
        let says : SaysNoTypes front_words = record {
          no_type = any_append role.RecordEntry head k (lacking role.RecordEntry (front 3 member) head is_head refl) (lacking role.RecordEntry (say (codes "KEY")) k is_k refl);
          no_type_name = any_append role.RecordName head k (lacking role.RecordName (front 3 member) head is_head refl) (lacking role.RecordName (say (codes "KEY")) k is_k refl);
          no_item = any_append role.ItemEntry head k (lacking role.ItemEntry (front 3 member) head is_head refl) (lacking role.ItemEntry (say (codes "KEY")) k is_k refl);
          no_item_name = any_append role.ItemName head k (lacking role.ItemName (front 3 member) head is_head refl) (lacking role.ItemName (say (codes "KEY")) k is_k refl);
          no_picture = any_append role.Picture head k (lacking role.Picture (front 3 member) head is_head refl) (lacking role.Picture (say (codes "KEY")) k is_k refl);
        } in
        (λ i. among (key_name i) (items_of_part (name i) types)) ∙ ap (among w.text) (sym (same front_words r says)) ∙ there

    by_key : (head : List Labelled) → Derives fits (front 3 member) head → (tail : List Labelled) → p ≡ head ++ tail → (m rest : List Labelled) → tail ≡ m ++ rest → Derives fits (left (behind 4 member)) m → Derives fits (right (behind 4 member)) rest
        → among (first_named role.KeyItem p) (items_of_part (first_named role.MemberName p) types) ≡ true
    by_key head is_head tail whole m rest e (inl k) is_rest =
        at_key head k.0 k.4.0 rest is_head k.3 is_rest
        (whole ∙ ap (λ (z : List Labelled). head ++ z) (e ∙ ap (λ (z : List Labelled). z ++ rest) (k.2 ∙ ap (λ (z : List Labelled). k.0 ++ z) k.4.1) ∙ append_assoc k.0 (labelled role.KeyItem k.4.0 ∷ []) rest)
        ∙ sym (append_assoc head k.0 (labelled role.KeyItem k.4.0 ∷ rest)))
    by_key head is_head tail whole m rest e (inr none) is_rest =
        absurd (true≢false (sym has_key ∙ ap (has role.KeyItem) (whole ∙ ap (λ (z : List Labelled). head ++ z) (e ∙ ap (λ (z : List Labelled). z ++ rest) none))
        ∙ any_append role.KeyItem head rest (lacking role.KeyItem (front 3 member) head is_head refl) (lacking role.KeyItem (right (behind 4 member)) rest is_rest refl)))
