-- Names are entered one after another, and lead to the place where they first stand.
use Rattle.std.proofs.Common.{◌≡◌, ℕ, ◌+◌, ◌<◌, ◌≤◌, cond, List, [], ◌∷◌, ◌++◌, length, get_or, take, drop, refl, map, Some, None, sym, ap, ◌∙◌, arith}
use Rattle.std.specs.Option.{option_or}
use Rattle.std.specs.Str.{bytes_eq}
use Rattle.std.proofs.lemmas.List.{get_or_default, length-append, length-map, length-take-le, map_more}
use Rattle.dbtg_schema.specs.Lookups.{some_and}
use Rattle.dbtg_schema.specs.Structure.{place_of}
use Rattle.dbtg_schema.specs.declared.shape.Item.{Item}
use Rattle.dbtg_schema.proofs.Public.{position_more}
use Rattle.dbtg_program.specs.declared.cutting.Holding as code
use Rattle.dbtg_program.specs.declared.places.Places.{Places}
use Rattle.dbtg_program.specs.Sentences.{Holding, field_named, paragraph_at}
use Rattle.dbtg_program.specs.Inside.Gathered.{leads_to}
use Rattle.dbtg_program.specs.Inside.Views.{view_holding}

-- the sentence at i is entered, with the paragraph that it begins, if any
pub paragraph_entered : (old new : Places) (xs : List code.Holding) (i : ℕ) (d : code.Holding) → i < length xs → ((q : List ℕ) → leads_to old q ≡ paragraph_at (map view_holding (take i xs)) q)
    → ((q : List ℕ) → leads_to new q ≡ option_or (leads_to old q) (cond (some_and (bytes_eq q) (view_holding (get_or xs i d)).paragraph) (Some i) None)) → (q : List ℕ) → leads_to new q ≡ paragraph_at (map view_holding (take (i + 1) xs)) q
paragraph_entered old new xs i d lt before enters q =
    let x = get_or xs i d in
    let is : x ≡ get_or xs i x = get_or_default xs i d x lt in
    let ls = map view_holding (take i xs) in
    let long : 0 + length ls ≡ i = omega (arith, length-map (take i xs) view_holding, length-take-le i xs (omega arith)) in
    enters q
    ∙ ap (λ o. option_or o (cond (some_and (bytes_eq q) (view_holding x).paragraph) (Some i) None)) (before q)
    ∙ ap (λ (k : ℕ). option_or (paragraph_at ls q) (cond (some_and (bytes_eq q) (view_holding x).paragraph) (Some k) None)) (sym long)
    ∙ sym (position_more (λ (l : Holding). some_and (bytes_eq q) l.paragraph) 0 ls (view_holding x))
    ∙ ap (λ (z : code.Holding). paragraph_at (ls ++ view_holding z ∷ []) q) is
    ∙ ap (λ (zs : List Holding). paragraph_at zs q) (sym (map_more view_holding xs i x lt))

-- the field at i is entered
pub field_entered : (old new : Places) (xs : List Item) (i : ℕ) (x : Item) → i < length xs → x ≡ get_or xs i x → ((q : List ℕ) → leads_to old q ≡ field_named (take i xs) q)
    → ((q : List ℕ) → leads_to new q ≡ option_or (leads_to old q) (cond (bytes_eq q x.name) (Some i) None)) → (q : List ℕ) → leads_to new q ≡ field_named (take (i + 1) xs) q
field_entered old new xs i x lt is before enters q =
    let names = map (λ (f : Item). f.name) (take i xs) in
    let long : 0 + length names ≡ i = omega (arith, length-map (take i xs) (λ (f : Item). f.name), length-take-le i xs (omega arith)) in
    enters q
    ∙ ap (λ o. option_or o (cond (bytes_eq q x.name) (Some i) None)) (before q)
    ∙ ap (λ (k : ℕ). option_or (field_named (take i xs) q) (cond (bytes_eq q x.name) (Some k) None)) (sym long)
    ∙ sym (position_more (bytes_eq q) 0 names x.name)
    ∙ ap (λ (z : Item). place_of q (names ++ z.name ∷ [])) is
    ∙ ap (place_of q) (sym (map_more (λ (f : Item). f.name) xs i x lt))

-- what was appended is behind what was there
pub behind_front : {X : Type 0} (xs ys : List X) (n : ℕ) → n ≡ length xs → drop n (xs ++ ys) ≡ ys
behind_front [] ys n e = rw e refl
behind_front (x ∷ xs) ys n e = rw e (behind_front xs ys (length xs) refl)

pub front_within : {X : Type 0} (xs ys : List X) (n : ℕ) → n ≡ length xs → n ≤ length (xs ++ ys)
front_within xs ys n e = omega (arith, e, length-append xs ys)
