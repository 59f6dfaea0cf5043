-- In what the grammar of schemas derives, names are spelled as names.
use Rattle.std.proofs.Common.{◌≡◌, ℕ, Bool, true, false, cond, not, ◌&&◌, ◌||◌, List, [], ◌∷◌, map, refl, sym, ap, subst, ◌∙◌, inl, inr}
use Rattle.std.specs.Prelude.{◌==◌}
use Rattle.std.specs.List.{flat_map, list_all, All, AllByRecursion}
use Rattle.std.proofs.lemmas.Bool.{and_parts, and_from}
use Rattle.std.proofs.lemmas.List.Elements.{All-nil, All-cons}
use Rattle.std.proofs.lemmas.List.Folds.{list_all-append, list_all-map}
use Rattle.std.proofs.lemmas.List.Sums.{AllPass-from_list_all}
use Rattle.dbtg_schema.specs.declared.role.Role.{Role}
use Rattle.dbtg_schema.specs.declared.role.Role.TheVariants as role
use Rattle.dbtg_schema.specs.declared.shape.Area.{Area}
use Rattle.dbtg_schema.specs.declared.shape.Item.{Item}
use Rattle.dbtg_schema.specs.declared.shape.RecordType.{RecordType}
use Rattle.dbtg_schema.specs.declared.shape.SetType.{SetType}
use Rattle.dbtg_schema.specs.Texts.Forms.{nothing, one, both, either, many, Derives}
use Rattle.dbtg_schema.specs.Texts.SchemaGrammar.{Form, Kind, key, name, picture, Labelled, fits, rec, schema}
use Rattle.dbtg_schema.specs.Texts.SchemaFaults.{is_name_kind}
use Rattle.dbtg_schema.specs.Texts.Labels.{number, named, until, entries, first_named}
use Rattle.dbtg_schema.specs.Texts.SchemaLists.{area_from, areas_from, items_from, record_type_from, schema_of, set_from, types_from}
use Rattle.dbtg_schema.specs.Texts.Spelling.{is_name}
use Rattle.dbtg_schema.specs.Texts.Words.{Word}
use Rattle.dbtg_schema.specs.Named.{IsNamed}
use Rattle.dbtg_schema.proofs.Sound.NamesDiffer.{item_names_are}
use Rattle.dbtg_schema.proofs.Forms.Parts.{named_append, once}
use Rattle.dbtg_schema.proofs.Sound.Soundness.{map_names}
use Rattle.dbtg_schema.proofs.Sound.TextParts.{text_of, area_entry_names, set_entries, set_names, type_entries, type_names}

-- each word of the form with this role is to be a name
abbrev asks_for_name : Role → Form → Bool
asks_for_name r nothing = true
asks_for_name r (one k q) = not (number q == number r) || is_name_kind k
asks_for_name r (both f g) = asks_for_name r f && asks_for_name r g
asks_for_name r (either f g) = asks_for_name r f && asks_for_name r g
asks_for_name r (many f) = asks_for_name r f

fits_name : (k : Kind) (w : Word) → is_name_kind k ≡ true → fits k w ≡ true → is_name w.text ≡ true
fits_name name w h t = t
fits_name (key k) w h t = absurd cc
fits_name picture w h t = absurd cc

-- the words with this role are spelled as names
spelled : (r : Role) (f : Form) (ws : List Labelled) → Derives fits f ws → asks_for_name r f ≡ true → list_all is_name (named r ws) ≡ true
spelled r nothing ws d h = ap (λ (z : List Labelled). list_all is_name (named r z)) d
spelled r (one k q) ws d h = ap (λ (z : List Labelled). list_all is_name (named r z)) d.1 ∙ one_word (number q == number r) h
  where
    one_word : (b : Bool) → (not b || is_name_kind k) ≡ true → list_all is_name (map (λ (w : Labelled). w.word.text) (cond b (record { role = q; word = d.0 } ∷ []) [])) ≡ true
    one_word true h = and_from (is_name d.0.text) true (fits_name k d.0 h d.2) refl
    one_word false h = refl
spelled r (both f g) ws d h =
    let p = and_parts (asks_for_name r f) (asks_for_name r g) h in
    ap (λ (z : List Labelled). list_all is_name (named r z)) d.2 ∙ ap (list_all is_name) (named_append r d.0 d.1) ∙ list_all-append is_name (named r d.0) (named r d.1)
    ∙ and_from (list_all is_name (named r d.0)) (list_all is_name (named r d.1)) (spelled r f d.0 d.3 p.0) (spelled r g d.1 d.4 p.1)
spelled r (either f g) ws (inl d) h = spelled r f ws d (and_parts (asks_for_name r f) (asks_for_name r g) h).0
spelled r (either f g) ws (inr d) h = spelled r g ws d (and_parts (asks_for_name r f) (asks_for_name r g) h).1
spelled r (many f) ws d h = ap (λ (z : List Labelled). list_all is_name (named r z)) d.1 ∙ in_parts d.0 d.2 (λ vs c. spelled r f vs c h)
  where
    in_parts : (parts : List (List Labelled)) → AllByRecursion (Derives fits f) parts → ((vs : List Labelled) → Derives fits f vs → list_all is_name (named r vs) ≡ true) → list_all is_name (named r (flat_map (λ part. part) parts)) ≡ true
    in_parts [] all each = refl
    in_parts (p ∷ parts) all each =
        ap (list_all is_name) (named_append r p (flat_map (λ part. part) parts)) ∙ list_all-append is_name (named r p) (named r (flat_map (λ part. part) parts))
        ∙ and_from (list_all is_name (named r p)) (list_all is_name (named r (flat_map (λ part. part) parts))) (each p all.0) (in_parts parts all.1 each)

-- what is named by these names is named by names
of_names : {X : Type 0} (named_as : X → List ℕ) (xs : List X) (names : List (List ℕ)) → map named_as xs ≡ names → list_all is_name names ≡ true → All (λ x. is_name (named_as x) ≡ true) xs
of_names named_as xs names e h = AllPass-from_list_all (λ x. is_name (named_as x)) xs (sym (list_all-map is_name named_as xs) ∙ ap (list_all is_name) e ∙ h)

all_items : (areas : List Area) (parts : List (List Labelled)) → AllByRecursion (Derives fits rec) parts → All (λ r. All (λ i. is_name i.name ≡ true) r.items) (map (record_type_from areas) parts)
all_items areas [] all = All-nil (λ (r : RecordType). All (λ i. is_name i.name ≡ true) r.items)
all_items areas (p ∷ parts) all =
    All-cons (λ (r : RecordType). All (λ i. is_name i.name ≡ true) r.items) (record_type_from areas p) (map (record_type_from areas) parts)
    (of_names (λ (i : Item). i.name) (items_from p) (named role.ItemName p) (item_names_are p all.0) (spelled role.ItemName rec p all.0 refl)) (all_items areas parts all.1)

pub has_names : (ws : List Labelled) → Derives fits schema ws → IsNamed (schema_of ws)
has_names ws d =
    let text = text_of ws d in
    let types = types_from (areas_from ws) ws in
    record {
      name = (and_parts (is_name (first_named role.SchemaName ws)) true (ap (list_all is_name) (sym (once role.SchemaName schema ws d refl refl refl)) ∙ spelled role.SchemaName schema ws d refl)).0;
      areas = of_names (λ (a : Area). a.name) (areas_from ws) (named role.AreaName ws) (map_names (λ (a : Area). a.name) area_from role.AreaName (entries role.AreaEntry ws) (λ e. refl) ∙ area_entry_names ws text) (spelled role.AreaName schema ws d refl);
      types = of_names (λ (r : RecordType). r.name) types (named role.RecordName ws) (map_names (λ (r : RecordType). r.name) (record_type_from (areas_from ws)) role.RecordName (entries role.RecordEntry (until role.SetEntry ws)) (λ e. refl)
          ∙ ap (map (first_named role.RecordName)) (type_entries ws text) ∙ sym (type_names ws text)) (spelled role.RecordName schema ws d refl);
      items = subst (λ (z : List (List Labelled)). All (λ r. All (λ i. is_name i.name ≡ true) r.items) (map (record_type_from (areas_from ws)) z)) (sym (type_entries ws text)) (all_items (areas_from ws) text.types text.each_type);
      sets = of_names (λ (s : SetType). s.name) (schema_of ws).sets (named role.SetName ws) (map_names (λ (s : SetType). s.name) (set_from types) role.SetName (entries role.SetEntry ws) (λ e. refl)
          ∙ ap (map (first_named role.SetName)) (set_entries ws text) ∙ sym (set_names ws text)) (spelled role.SetName schema ws d refl);
    }
