-- The picture of an item, looked up by its name and its record type's, is the same from anywhere after the record types.
use Rattle.std.proofs.Common.{◌≡◌, ℕ, suc, ◌+◌, Bool, true, false, cond, ◌||◌, List, [], ◌∷◌, ◌++◌, map, Option, Some, None, refl, sym, ap, ◌∙◌, arith, inl, inr}
use Rattle.std.specs.Prelude.{codes, is_some, slice_get, unwrap_or}
use Rattle.std.specs.List.{list_any, position_from, AllByRecursion}
use Rattle.std.specs.Str.{bytes_eq}
use Rattle.std.proofs.lemmas.Bool.{cases_Bool}
use Rattle.std.proofs.lemmas.List.{append-nil}
use Rattle.dbtg_schema.specs.declared.role.Role.{Role}
use Rattle.dbtg_schema.specs.declared.role.Role.TheVariants as role
use Rattle.dbtg_schema.specs.declared.shape.Item.{Item}
use Rattle.dbtg_schema.specs.declared.shape.Picture.{Picture}
use Rattle.dbtg_schema.specs.declared.shape.Picture.TheVariants.{Number}
use Rattle.dbtg_schema.specs.Texts.Forms.{Derives}
use Rattle.dbtg_schema.specs.Texts.SchemaGrammar.{Labelled, fits, key, item, rec}
use Rattle.dbtg_schema.specs.Texts.Labels.{is, named, entries, first_named}
use Rattle.dbtg_schema.specs.Texts.SchemaFaults.{item_picture, items_of, picture_in, record_named}
use Rattle.dbtg_schema.specs.Texts.SchemaLists.{item_from}
use Rattle.dbtg_schema.specs.Texts.Spelling.{among, spelled_picture}
use Rattle.dbtg_schema.proofs.Sound.Distinct.{other_bytes, same_bytes, bytes_same, second_of_two}
use Rattle.dbtg_schema.proofs.Forms.Grammar.{right, left, lacking, entries_behind}
use Rattle.dbtg_schema.proofs.Forms.Parts.{flat, begins, entries_are, named_append, named_none, first_named_front, read_entries}
use Rattle.dbtg_schema.proofs.Sound.TextParts.{type_head, type_parts, all_begin}

-- a record type as it is looked up: its name, and each item with its spelled picture
abbrev pub Told : Type 0
Told = List ℕ × List (List ℕ × List ℕ)

-- an item: its name and its spelled picture
abbrev pub item_told : List Labelled → List ℕ × List ℕ
item_told e = (first_named role.ItemName e, first_named role.Picture e)

abbrev pub type_told : List Labelled → Told
type_told e = (first_named role.RecordName e, map item_told (entries role.ItemEntry e))

-- the items of the record type with this name
abbrev pub items_told : List ℕ → List Told → List (List ℕ × List ℕ)
items_told r [] = []
items_told r (t ∷ types) = cond (bytes_eq t.0 r) t.1 (items_told r types)

-- the picture of the item with this name
abbrev pub picture_told : List ℕ → List (List ℕ × List ℕ) → Option Picture
picture_told i [] = None
picture_told i (x ∷ items) = cond (bytes_eq x.0 i) (spelled_picture x.1) (picture_told i items)

picture_as_told : (i : List ℕ) (es : List (List Labelled)) → picture_in i es ≡ picture_told i (map item_told es)
picture_as_told i [] = refl
picture_as_told i (e ∷ es) = ap (cond (bytes_eq (first_named role.ItemName e) i) (spelled_picture (first_named role.Picture e))) (picture_as_told i es)

items_as_told : (r : List ℕ) (es : List (List Labelled)) → map item_told (entries role.ItemEntry (record_named r es)) ≡ items_told r (map type_told es)
items_as_told r [] = refl
items_as_told r (e ∷ es) = step (bytes_eq (first_named role.RecordName e) r) (items_as_told r es)
  where
    step : (b : Bool) → map item_told (entries role.ItemEntry (record_named r es)) ≡ items_told r (map type_told es)
        → map item_told (entries role.ItemEntry (cond b e (record_named r es))) ≡ cond b (map item_told (entries role.ItemEntry e)) (items_told r (map type_told es))
    step true h = refl
    step false h = h

-- the picture of an item, by what the entries tell
pub item_picture_told : (r i : List ℕ) (ws : List Labelled) → item_picture r i ws ≡ picture_told i (items_told r (map type_told (entries role.RecordEntry ws)))
item_picture_told r i ws = picture_as_told i (entries role.ItemEntry (record_named r (entries role.RecordEntry ws))) ∙ ap (picture_told i) (items_as_told r (entries role.RecordEntry ws))

-- the item names of the record type with this name
abbrev pub items_of_part : List ℕ → List (List Labelled) → List (List ℕ)
items_of_part r [] = []
items_of_part r (p ∷ ps) = cond (bytes_eq (first_named role.RecordName p) r) (named role.ItemName p) (items_of_part r ps)

-- words that say nothing of record types and items
pub record SaysNoTypes (zs : List Labelled) : Type 0 where
  pub no_type : list_any (is role.RecordEntry) zs ≡ false
  pub no_type_name : list_any (is role.RecordName) zs ≡ false
  pub no_item : list_any (is role.ItemEntry) zs ≡ false
  pub no_item_name : list_any (is role.ItemName) zs ≡ false
  pub no_picture : list_any (is role.Picture) zs ≡ false

-- they change nothing of what is told
pub told_before : (xs zs : List Labelled) → SaysNoTypes zs → map type_told (entries role.RecordEntry (xs ++ zs)) ≡ map type_told (entries role.RecordEntry xs)
told_before xs zs s = read_entries type_told role.RecordEntry zs s.no_type same xs
  where
    same_item : (e : List Labelled) → item_told (e ++ zs) ≡ item_told e
    same_item e = λ i. (first_named_front role.ItemName e zs s.no_item_name i, first_named_front role.Picture e zs s.no_picture i)

    same : (e : List Labelled) → type_told (e ++ zs) ≡ type_told e
    same e = λ i. (first_named_front role.RecordName e zs s.no_type_name i, read_entries item_told role.ItemEntry zs s.no_item same_item e i)

-- the item names of a record type that is named, likewise
abbrev names_told : List Labelled → List ℕ × List (List ℕ)
names_told e = (first_named role.RecordName e, named role.ItemName e)

abbrev item_names_of : List ℕ → List (List ℕ × List (List ℕ)) → List (List ℕ)
item_names_of r [] = []
item_names_of r (t ∷ types) = cond (bytes_eq t.0 r) t.1 (item_names_of r types)

names_as_told : (r : List ℕ) (es : List (List Labelled)) → named role.ItemName (record_named r es) ≡ item_names_of r (map names_told es)
names_as_told r [] = refl
names_as_told r (e ∷ es) = step (bytes_eq (first_named role.RecordName e) r) (names_as_told r es)
  where
    step : (b : Bool) → named role.ItemName (record_named r es) ≡ item_names_of r (map names_told es) → named role.ItemName (cond b e (record_named r es)) ≡ cond b (named role.ItemName e) (item_names_of r (map names_told es))
    step true h = refl
    step false h = h

names_of_parts : (r : List ℕ) (es : List (List Labelled)) → item_names_of r (map names_told es) ≡ items_of_part r es
names_of_parts r [] = refl
names_of_parts r (e ∷ es) = ap (cond (bytes_eq (first_named role.RecordName e) r) (named role.ItemName e)) (names_of_parts r es)

-- the item names of a record type that stands before words that say nothing of any
pub items_by_part : (r : List ℕ) (xs : List Labelled) (ps : List (List Labelled)) → entries role.RecordEntry xs ≡ ps → items_of r xs ≡ items_of_part r ps
items_by_part r xs ps e = names_as_told r (entries role.RecordEntry xs) ∙ names_of_parts r (entries role.RecordEntry xs) ∙ ap (items_of_part r) e

pub items_before : (r : List ℕ) (xs zs : List Labelled) → SaysNoTypes zs → items_of r (xs ++ zs) ≡ items_of r xs
items_before r xs zs s =
    names_as_told r (entries role.RecordEntry (xs ++ zs)) ∙ ap (item_names_of r) (read_entries names_told role.RecordEntry zs s.no_type same xs) ∙ sym (names_as_told r (entries role.RecordEntry xs))
  where
    same : (e : List Labelled) → names_told (e ++ zs) ≡ names_told e
    same e = λ i. (first_named_front role.RecordName e zs s.no_type_name i, (named_append role.ItemName e zs ∙ ap (λ z. named role.ItemName e ++ z) (named_none role.ItemName zs s.no_item_name) ∙ append-nil (named role.ItemName e)) i)

-- FROM NAMES TO NUMBERS

pub first_named_behind : (r : Role) (xs ys : List Labelled) → list_any (is r) xs ≡ false → first_named r (xs ++ ys) ≡ first_named r ys
first_named_behind r [] ys h = refl
first_named_behind r (x ∷ xs) ys h = step (is r x) (list_any (is r) xs) h (λ k. first_named_behind r xs ys k)
  where
    step : (a b : Bool) → (a || b) ≡ false → (b ≡ false → first_named r (xs ++ ys) ≡ first_named r ys) → cond a x.word.text (first_named r (xs ++ ys)) ≡ first_named r ys
    step true b h k = absurd cc
    step false b h k = k h

-- every item is spelled with a picture
spelled_item : (e : List Labelled) → Derives fits item e → is_some (spelled_picture (first_named role.Picture e)) ≡ true
spelled_item e d =
    let n = d.4 in
    let k = n.4 in
    let p = k.4 in
    let w = p.3.0 in
    let here : first_named role.Picture e ≡ w.text =
    ap (first_named role.Picture) d.2 ∙ first_named_behind role.Picture d.0 d.1 (lacking role.Picture (left item) d.0 d.3 refl)
    ∙ ap (first_named role.Picture) n.2 ∙ first_named_behind role.Picture n.0 n.1 (lacking role.Picture (left (right item)) n.0 n.3 refl)
    ∙ ap (first_named role.Picture) k.2 ∙ first_named_behind role.Picture k.0 k.1 (lacking role.Picture (left (right (right item))) k.0 k.3 refl)
    ∙ ap (first_named role.Picture) (p.2 ∙ ap (λ (z : List Labelled). z ++ p.1) p.3.1) in
    ap (λ z. is_some (spelled_picture z)) here ∙ p.3.2

-- what is there
there : (o : Option Picture) → is_some o ≡ true → (p : Picture) × (o ≡ Some p)
there None h = absurd cc
there (Some p) h = (p, refl)

-- an item's picture, by its number
pub record AtNumber (i : List ℕ) (es : List (List Labelled)) (k : ℕ) : Type 0 where
  pub picture : Picture
  pub number : ℕ
  pub by_name : picture_told i (map item_told es) ≡ Some picture
  pub place : position_from (bytes_eq i) k (map (first_named role.ItemName) es) ≡ Some (k + number)
  pub by_number : slice_get (map (λ (x : Item). x.picture) (map item_from es)) number ≡ Some picture

pub at_number : (i : List ℕ) (es : List (List Labelled)) → AllByRecursion (Derives fits item) es → (k : ℕ) → among i (map (first_named role.ItemName) es) ≡ true → AtNumber i es k
at_number i [] all k h = absurd cc
at_number i (e ∷ es) all k h = elim (cases_Bool (bytes_eq i (first_named role.ItemName e))) [
  | inl t ↦
      let s = there (spelled_picture (first_named role.Picture e)) (spelled_item e all.0) in
      let t2 : bytes_eq (first_named role.ItemName e) i ≡ true = ap (λ z. bytes_eq z i) (sym (same_bytes i (first_named role.ItemName e) t)) ∙ bytes_same i in
      record {
        picture = s.0;
        number = 0;
        by_name = ap (λ b. cond b (spelled_picture (first_named role.Picture e)) (picture_told i (map item_told es))) t2 ∙ s.1;
        place = ap (λ b. cond b (Some k) (position_from (bytes_eq i) (k + 1) (map (first_named role.ItemName) es))) t ∙ ap Some (omega arith);
        by_number = ap (λ o. Some (unwrap_or o (Number 1))) s.1;
      }
  | inr f ↦
      let r = at_number i es all.1 (k + 1) (second_of_two (bytes_eq i (first_named role.ItemName e)) (among i (map (first_named role.ItemName) es)) f h) in
      record {
        picture = r.picture;
        number = suc r.number;
        by_name = ap (λ b. cond b (spelled_picture (first_named role.Picture e)) (picture_told i (map item_told es))) (other_bytes i (first_named role.ItemName e) f) ∙ r.by_name;
        place = ap (λ b. cond b (Some k) (position_from (bytes_eq i) (k + 1) (map (first_named role.ItemName) es))) f ∙ r.place ∙ ap Some (omega arith);
        by_number = r.by_number;
      }
]

-- the items of a record type are its entries
pub item_entries : (p : List Labelled) → Derives fits rec p → (es : List (List Labelled)) × (entries role.ItemEntry p ≡ es) × AllByRecursion (Derives fits item) es
item_entries p d =
    let t = type_parts p d in
    let parts = t.4.0 in
    let whole : p ≡ t.0 ++ flat parts = t.2 ∙ ap (λ (z : List Labelled). t.0 ++ z) t.4.1 in (
      parts,
      ap (entries role.ItemEntry) whole ∙ entries_behind role.ItemEntry t.0 (flat parts) (lacking role.ItemEntry type_head t.0 t.3 refl)
          ∙ entries_are role.ItemEntry parts (all_begin role.ItemEntry item parts t.4.2 (λ q e. begins role.ItemEntry (key (codes "02")) (right item) q e refl)),
      t.4.2,
    )

-- a record type by its name and by its number
pub record TypeAt (r : List ℕ) (ps : List (List Labelled)) (k : ℕ) : Type 0 where
  pub part : List Labelled
  pub is_part : Derives fits rec part
  pub number : ℕ
  pub items : items_told r (map type_told ps) ≡ map item_told (entries role.ItemEntry part)
  pub names : items_of_part r ps ≡ named role.ItemName part
  pub place : position_from (bytes_eq r) k (map (first_named role.RecordName) ps) ≡ Some (k + number)
  pub by_number : slice_get ps number ≡ Some part

pub type_at : (r : List ℕ) (ps : List (List Labelled)) → AllByRecursion (Derives fits rec) ps → (k : ℕ) → among r (map (first_named role.RecordName) ps) ≡ true → TypeAt r ps k
type_at r [] all k h = absurd cc
type_at r (p ∷ ps) all k h = elim (cases_Bool (bytes_eq r (first_named role.RecordName p))) [
  | inl t ↦
      let t2 : bytes_eq (first_named role.RecordName p) r ≡ true = ap (λ z. bytes_eq z r) (sym (same_bytes r (first_named role.RecordName p) t)) ∙ bytes_same r in
      record {
        part = p;
        is_part = all.0;
        number = 0;
        items = ap (λ b. cond b (map item_told (entries role.ItemEntry p)) (items_told r (map type_told ps))) t2;
        names = ap (λ b. cond b (named role.ItemName p) (items_of_part r ps)) t2;
        place = ap (λ b. cond b (Some k) (position_from (bytes_eq r) (k + 1) (map (first_named role.RecordName) ps))) t ∙ ap Some (omega arith);
        by_number = refl;
      }
  | inr g ↦
      let q = type_at r ps all.1 (k + 1) (second_of_two (bytes_eq r (first_named role.RecordName p)) (among r (map (first_named role.RecordName) ps)) g h) in
      let g2 = other_bytes r (first_named role.RecordName p) g in
      record {
        part = q.part;
        is_part = q.is_part;
        number = suc q.number;
        items = ap (λ b. cond b (map item_told (entries role.ItemEntry p)) (items_told r (map type_told ps))) g2 ∙ q.items;
        names = ap (λ b. cond b (named role.ItemName p) (items_of_part r ps)) g2 ∙ q.names;
        place = ap (λ b. cond b (Some k) (position_from (bytes_eq r) (k + 1) (map (first_named role.RecordName) ps))) g ∙ q.place ∙ ap Some (omega arith);
        by_number = q.by_number;
      }
]
