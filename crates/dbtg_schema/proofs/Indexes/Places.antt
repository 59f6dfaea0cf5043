-- Steps of a search for a name, and the number of entries.
use Rattle.std.proofs.Common.{◌≡◌, ℕ, zero, suc, ◌+◌, ◌<◌, Bool, true, false, cond, List, [], ◌∷◌, length, get_or, drop, map, Some, refl, sym, ap, ◌∙◌, arith, add-one}
use Rattle.std.specs.List.{position_from, filter}
use Rattle.std.proofs.lemmas.List.{length-map}
use Rattle.dbtg_schema.specs.declared.role.Role.{Role}
use Rattle.dbtg_schema.specs.Texts.SchemaGrammar.{Labelled}
use Rattle.dbtg_schema.specs.Texts.Labels.{is, count_of, entries, until}

next_place : {X : Type 0} (t : List ℕ → Bool) (name : X → List ℕ) (k i : ℕ) (xs : List X) (x : X) → i < length xs → x ≡ get_or xs i x
    → position_from t k (map name (drop i xs)) ≡ cond (t (name x)) (Some k) (position_from t (k + 1) (map name (drop (suc i) xs)))
next_place t name k i [] x lt e = absurd (omega arith)
next_place {X} t name k zero (y ∷ ys) x lt e = ap (λ (z : X). cond (t (name z)) (Some k) (position_from t (k + 1) (map name ys))) (sym e)
next_place t name k (suc i) (y ∷ ys) x lt e = next_place t name k i ys x (omega arith) e

-- the name stands at i
pub here : {X : Type 0} (t : List ℕ → Bool) (name : X → List ℕ) (i : ℕ) (xs : List X) (x : X) → i < length xs → x ≡ get_or xs i x → t (name x) ≡ true → position_from t i (map name (drop i xs)) ≡ Some i
here t name i xs x lt e h = next_place t name i i xs x lt e ∙ ap (λ b. cond b (Some i) (position_from t (i + 1) (map name (drop (suc i) xs)))) h

-- the name does not stand at i
pub further : {X : Type 0} (t : List ℕ → Bool) (name : X → List ℕ) (i : ℕ) (xs : List X) (x : X) → i < length xs → x ≡ get_or xs i x → t (name x) ≡ false → position_from t (i + 1) (map name (drop (i + 1) xs)) ≡ position_from t i (map name (drop i xs))
further t name i xs x lt e h = ap (λ (m : ℕ). position_from t (i + 1) (map name (drop m xs))) (add-one i) ∙ sym (next_place t name i i xs x lt e ∙ ap (λ b. cond b (Some i) (position_from t (i + 1) (map name (drop (suc i) xs)))) h)

one_more : {X Y : Type 0} (b : Bool) (x : X) (xs : List X) (y : Y) (ys : List Y) → length xs ≡ length ys → length (cond b (x ∷ xs) xs) ≡ length (cond b (y ∷ ys) ys)
one_more true x xs y ys h = ap suc h
one_more false x xs y ys h = h

pub length_entries : (r : Role) (ws : List Labelled) → length (entries r ws) ≡ count_of r ws
length_entries r [] = refl
length_entries r (w ∷ ws) = one_more (is r w) (w ∷ until r ws) (entries r ws) w (filter (is r) ws) (length_entries r ws)

pub length_mapped : {X : Type 0} (f : List Labelled → X) (r : Role) (ws : List Labelled) → length (map f (entries r ws)) ≡ count_of r ws
length_mapped f r ws = rw length-map (length_entries r ws)
