-- The indexes of names, as names are entered, and what they lead to.
use Rattle.std.proofs.Common.{◌≡◌, ℕ, suc, zero, ◌+◌, ◌<◌, Bool, true, false, cond, List, [], ◌∷◌, ◌++◌, length, get_or, take, map, slice_get, Some, None, refl, sym, ap, subst, ◌∙◌, arith}
use Rattle.std.specs.Prelude.{option_map, option_and_then, unwrap_or}
use Rattle.std.specs.Map.{lookup}
use Rattle.std.specs.Option.{option_or}
use Rattle.std.specs.Str.{bytes_eq}
use Rattle.std.proofs.lemmas.List.{length-map, length-take-le, map_more, take_more}
use Rattle.indexmap.proofs.SetLemmas.{AllZip-push}
use Rattle.dbtg_schema.proofs.Indexes.Positions.{position_more}
use Rattle.dbtg_schema.specs.Structure.{place_of}
use Rattle.dbtg_schema.specs.Inside.NameIndexes.{leads_to, AreItemIndexes, IsIndexOf, NamesAreIndexed, IsSchemaIndex}
use Rattle.dbtg_schema.specs.declared.index.NameIndex.{NameIndex}
use Rattle.dbtg_schema.specs.declared.shape.Item.{Item}
use Rattle.dbtg_schema.specs.declared.shape.RecordType.{RecordType}
use Rattle.dbtg_schema.specs.declared.shape.Area.{Area}
use Rattle.dbtg_schema.specs.declared.shape.SetType.{SetType}
use Rattle.dbtg_schema.specs.declared.index.SchemaIndex.{SchemaIndex}

-- what is found among entries with one more after them
pub lookup_more : {K X : Type 0} (t : K → Bool) (es : List (K × X)) (k : K) (v : X) → lookup t (es ++ (k, v) ∷ []) ≡ option_or (lookup t es) (cond (t k) (Some v) None)
lookup_more t [] k v = refl
lookup_more t (e ∷ es) k v = elim (t e.0) as (λ b. cond b (Some e.1) (lookup t (es ++ (k, v) ∷ [])) ≡ option_or (cond b (Some e.1) (lookup t es)) (cond (t k) (Some v) None)) [ true ↦ refl | false ↦ lookup_more t es k v ]

-- the name at i is entered
pub entered_name : {X : Type 0} (name_of : X → List ℕ) (old new : NameIndex) (xs : List X) (i : ℕ) (x : X) → i < length xs → x ≡ get_or xs i x → IsIndexOf old (map name_of (take i xs))
    → ((q : List ℕ) → leads_to new q ≡ option_or (leads_to old q) (cond (bytes_eq q (name_of x)) (Some i) None)) → IsIndexOf new (map name_of (take (i + 1) xs))
entered_name {X} name_of old new xs i x lt is before enters q =
    let names = map name_of (take i xs) in
    let long : 0 + length names ≡ i = omega (arith, length-map (take i xs) name_of, length-take-le i xs (omega arith)) in
    enters q
    ∙ ap (λ o. option_or o (cond (bytes_eq q (name_of x)) (Some i) None)) (before q)
    ∙ ap (λ (k : ℕ). option_or (place_of q names) (cond (bytes_eq q (name_of x)) (Some k) None)) (sym long)
    ∙ sym (position_more (bytes_eq q) 0 names (name_of x))
    ∙ ap (λ (z : X). place_of q (names ++ name_of z ∷ [])) is
    ∙ ap (place_of q) (sym (map_more name_of xs i x lt))

-- the index for the items of one record type more
pub one_type_more : (old new : List NameIndex) (types : List RecordType) (i : ℕ) (index : NameIndex) (r : RecordType) → i < length types → r ≡ get_or types i r → AreItemIndexes old (take i types) → IsIndexOf index (map (λ (x : Item). x.name) r.items)
    → new ≡ old ++ index ∷ [] → AreItemIndexes new (take (i + 1) types)
one_type_more old new types i index r lt is before leads pushed =
    let more : AreItemIndexes (old ++ index ∷ []) (take i types ++ r ∷ []) = AllZip-push (λ x s. IsIndexOf x (map (λ (y : Item). y.name) s.items)) old (take i types) index r before leads in
    subst (λ (z : List NameIndex). AreItemIndexes z (take (i + 1) types)) (sym pushed)
    (subst (AreItemIndexes (old ++ index ∷ [])) (ap (λ (z : RecordType). take i types ++ z ∷ []) is ∙ sym (take_more types i r lt)) more)

-- an item is looked up among the items of its record type
pub items_found : (indexes : List NameIndex) (types : List RecordType) (t : ℕ) (name : List ℕ) → AreItemIndexes indexes types
    → option_and_then (λ index. leads_to index name) (slice_get indexes t) ≡ place_of name (map (λ (i : Item). i.name) (unwrap_or (option_map (λ r. r.items) (slice_get types t)) []))
items_found [] [] t name are = refl
items_found [] (r ∷ types) t name are = absurd are
items_found (index ∷ indexes) [] t name are = absurd are
items_found (index ∷ indexes) (r ∷ types) zero name are = are.0 name
items_found (index ∷ indexes) (r ∷ types) (suc t) name are = items_found indexes types t name are.1

-- what the indexes of a schema are made of, and what they give
pub indexed : {index : SchemaIndex} {areas : List Area} {types : List RecordType} {sets : List SetType} → NamesAreIndexed index areas types sets → IsSchemaIndex index areas types sets
unfolding IsSchemaIndex
indexed are = are

pub are_indexed : {index : SchemaIndex} {areas : List Area} {types : List RecordType} {sets : List SetType} → IsSchemaIndex index areas types sets → NamesAreIndexed index areas types sets
unfolding IsSchemaIndex
are_indexed is = is
