-- A text part by part: what is derived by a form that begins with a word of its own role is one entry of that role.
use Rattle.std.proofs.Common.{◌≡◌, ℕ, ◌+◌, ◌≤◌, Bool, true, false, cond, ◌&&◌, ◌||◌, List, [], ◌∷◌, ◌++◌, length, map, max, refl, sym, ap, subst, ◌∙◌, append_assoc, arith, inl, inr}
use Rattle.std.specs.Prelude.{filter, ◌==◌}
use Rattle.std.specs.List.{flat_map, list_any, AllByRecursion}
use Rattle.std.proofs.lemmas.Bool.{cases_Bool, eqb-true, eq-eqb, and_parts}
use Rattle.std.proofs.lemmas.List.{append-nil, map-append, nil_from_length}
use Rattle.std.proofs.lemmas.List.Elements.{filter-append}
use Rattle.dbtg_schema.specs.declared.role.Role.{Role}
use Rattle.dbtg_schema.specs.Texts.Forms.{nothing, one, both, either, many, labelled, Derives}
use Rattle.dbtg_schema.specs.Texts.SchemaGrammar.{Form, Kind, Labelled, fits}
use Rattle.dbtg_schema.specs.Texts.Labels.{number, is, named, count_of, since, until, entries, first_named}
use Rattle.dbtg_schema.proofs.Forms.Walks.{EachClean, since_last}
use Rattle.dbtg_schema.proofs.Forms.Grammar.{lacks, any_append, at_least, lacking, counted, count_append, until_behind, entries_behind}

-- all words of some parts
abbrev pub flat : List (List Labelled) → List Labelled
flat parts = flat_map (λ part. part) parts

-- HOW OFTEN A ROLE STANDS IN WHAT IS DERIVED

-- the role stands in no part that can come again
abbrev pub few : Role → Form → Bool
few r nothing = true
few r (one k q) = true
few r (both f g) = few r f && few r g
few r (either f g) = few r f && few r g
few r (many f) = lacks r f

-- at most this many words have this role
abbrev pub at_most : Role → Form → ℕ
at_most r nothing = 0
at_most r (one k q) = cond (number q == number r) 1 0
at_most r (both f g) = at_most r f + at_most r g
at_most r (either f g) = max (at_most r f) (at_most r g)
at_most r (many f) = 0

none_counted : (r : Role) (ws : List Labelled) → list_any (is r) ws ≡ false → count_of r ws ≡ 0
none_counted r [] h = refl
none_counted r (w ∷ ws) h = step (is r w) (list_any (is r) ws) h (λ k. none_counted r ws k)
  where
    step : (a b : Bool) → (a || b) ≡ false → (b ≡ false → length (filter (is r) ws) ≡ 0) → length (cond a (w ∷ filter (is r) ws) (filter (is r) ws)) ≡ 0
    step true b h k = absurd cc
    step false b h k = k h

pub counted_most : (r : Role) (f : Form) (ws : List Labelled) → Derives fits f ws → few r f ≡ true → count_of r ws ≤ at_most r f
counted_most r nothing ws d h = rw d (omega arith)
counted_most r (one k q) ws d h = subst (λ (z : List Labelled). count_of r z ≤ cond (number q == number r) 1 0) (sym d.1) (same (number q == number r) (labelled q d.0))
  where
    same : (b : Bool) (l : Labelled) → length (cond b (l ∷ []) []) ≤ cond b 1 0
    same true l = omega arith
    same false l = omega arith
counted_most r (both f g) ws d h =
    let p = and_parts (few r f) (few r g) h in
    subst (λ (z : List Labelled). count_of r z ≤ at_most r f + at_most r g) (sym d.2)
    (let a = counted_most r f d.0 d.3 p.0 in let b = counted_most r g d.1 d.4 p.1 in let c = count_append r d.0 d.1 in omega arith)
counted_most r (either f g) ws (inl d) h = let a = counted_most r f ws d (and_parts (few r f) (few r g) h).0 in omega arith
counted_most r (either f g) ws (inr d) h = let a = counted_most r g ws d (and_parts (few r f) (few r g) h).1 in omega arith
counted_most r (many f) ws d h = let n = none_counted r ws (lacking r (many f) ws d h) in omega arith

one_named : (r : Role) (ws : List Labelled) → count_of r ws ≡ 1 → named r ws ≡ first_named r ws ∷ []
one_named r [] h = absurd (omega (arith, h))
one_named r (w ∷ ws) h = step (is r w) h (λ k. one_named r ws k)
  where
    step : (b : Bool) → length (cond b (w ∷ filter (is r) ws) (filter (is r) ws)) ≡ 1 → (length (filter (is r) ws) ≡ 1 → map (λ (w : Labelled). w.word.text) (filter (is r) ws) ≡ first_named r ws ∷ [])
        → map (λ (w : Labelled). w.word.text) (cond b (w ∷ filter (is r) ws) (filter (is r) ws)) ≡ cond b w.word.text (first_named r ws) ∷ []
    step true h k = ap (λ (z : List Labelled). w.word.text ∷ map (λ (w : Labelled). w.word.text) z) (nil_from_length (filter (is r) ws) (omega (arith, h)))
    step false h k = k h

-- a role that stands once
pub once : (r : Role) (f : Form) (ws : List Labelled) → Derives fits f ws → few r f ≡ true → at_least r f ≡ 1 → at_most r f ≡ 1 → named r ws ≡ first_named r ws ∷ []
once r f ws d few least most = one_named r ws (let a = counted r f ws d in let b = counted_most r f ws d few in omega arith)

-- NAMES

pub named_append : (r : Role) (xs ys : List Labelled) → named r (xs ++ ys) ≡ named r xs ++ named r ys
named_append r xs ys = ap (map (λ (w : Labelled). w.word.text)) (filter-append (is r) xs ys) ∙ map-append (λ (w : Labelled). w.word.text) (filter (is r) xs) (filter (is r) ys)

pub named_none : (r : Role) (ws : List Labelled) → list_any (is r) ws ≡ false → named r ws ≡ []
named_none r ws h = ap (map (λ (w : Labelled). w.word.text)) (nil_from_length (filter (is r) ws) (none_counted r ws h))

-- for parts that each have a role once
pub named_parts : (r : Role) (f : Form) (parts : List (List Labelled)) → AllByRecursion (Derives fits f) parts → few r f ≡ true → at_least r f ≡ 1 → at_most r f ≡ 1 → named r (flat parts) ≡ map (first_named r) parts
named_parts r f [] all few least most = refl
named_parts r f (p ∷ parts) all few least most =
    named_append r p (flat parts) ∙ ap (λ (z : List (List ℕ)). z ++ named r (flat parts)) (once r f p all.0 few least most) ∙ ap (λ (z : List (List ℕ)). first_named r p ∷ z) (named_parts r f parts all.1 few least most)

-- the first word with a role is among the first words, where it is there
pub first_named_front : (r : Role) (xs ys : List Labelled) → list_any (is r) ys ≡ false → first_named r (xs ++ ys) ≡ first_named r xs
first_named_front r [] ys h = none ys h
  where
    none : (ys : List Labelled) → list_any (is r) ys ≡ false → first_named r ys ≡ []
    none [] h = refl
    none (y ∷ ys) h = step (is r y) (list_any (is r) ys) h (λ k. none ys k)
      where
        step : (a b : Bool) → (a || b) ≡ false → (b ≡ false → first_named r ys ≡ []) → cond a y.word.text (first_named r ys) ≡ []
        step true b h k = absurd cc
        step false b h k = k h
first_named_front r (x ∷ xs) ys h = ap (λ (z : List ℕ). cond (is r x) x.word.text z) (first_named_front r xs ys h)

-- the role of a word that has another
pub is_other : (r s : Role) (l : Labelled) → is r l ≡ true → is s l ≡ (number r == number s)
is_other r s l h = ap (λ n. n == number s) (eqb-true (number l.role) (number r) h)

-- ENTRIES

-- a part that begins with a word of this role and has no other
abbrev pub Begins : Role → List Labelled → Type 0
Begins r [] = ⊥
Begins r (w ∷ ws) = (is r w ≡ true) × (list_any (is r) ws ≡ false)

pub until_parts : (r : Role) (parts : List (List Labelled)) → AllByRecursion (Begins r) parts → until r (flat parts) ≡ []
until_parts r [] all = refl
until_parts r ([] ∷ parts) all = absurd all.0
until_parts r ((w ∷ p) ∷ parts) all = ap (λ b. cond b [] (w ∷ until r (p ++ flat parts))) all.0.0

-- the entries are the parts
pub entries_are : (r : Role) (parts : List (List Labelled)) → AllByRecursion (Begins r) parts → entries r (flat parts) ≡ parts
entries_are r [] all = refl
entries_are r ([] ∷ parts) all = absurd all.0
entries_are r ((w ∷ p) ∷ parts) all =
    ap (λ b. cond b ((w ∷ until r (p ++ flat parts)) ∷ entries r (p ++ flat parts)) (entries r (p ++ flat parts))) all.0.0
    ∙ ap (λ (z : List Labelled). (w ∷ z) ∷ entries r (p ++ flat parts)) (until_behind r p (flat parts) all.0.1 ∙ ap (λ (z : List Labelled). p ++ z) (until_parts r parts all.1) ∙ append-nil p)
    ∙ ap (λ (z : List (List Labelled)). (w ∷ p) ∷ z) (entries_behind r p (flat parts) all.0.1 ∙ entries_are r parts all.1)

-- what is derived by a form whose first word alone has this role
pub begins : (r : Role) (k : Kind) (g : Form) (ws : List Labelled) → Derives fits (both (one k r) g) ws → lacks r g ≡ true → Begins r ws
begins r k g ws d h =
    let head : ws ≡ labelled r d.3.0 ∷ d.1 = d.2 ∙ ap (λ (z : List Labelled). z ++ d.1) d.3.1 in
    subst (Begins r) (sym head) (eq-eqb (number r) (number r) refl, lacking r g d.1 d.4 h)

pub begins_one : (r : Role) (k : Kind) (ws : List Labelled) → Derives fits (one k r) ws → Begins r ws
begins_one r k ws d = subst (Begins r) (sym d.1) (eq-eqb (number r) (number r) refl, refl)

pub begins_append : (r : Role) (xs ys : List Labelled) → Begins r xs → list_any (is r) ys ≡ false → Begins r (xs ++ ys)
begins_append r [] ys b h = absurd b
begins_append r (w ∷ xs) ys b h = (b.0, any_append r xs ys b.1 h)

-- a first part that begins so, and another that has no such word
pub begins_more : (r : Role) (f g : Form) (ws : List Labelled) → ((p : List Labelled) → Derives fits f p → Begins r p) → lacks r g ≡ true → Derives fits (both f g) ws → Begins r ws
begins_more r f g ws first h d = subst (Begins r) (sym d.2) (begins_append r d.0 d.1 (first d.0 d.3) (lacking r g d.1 d.4 h))

-- from its beginning on
pub since_begins : (r : Role) (before ws : List Labelled) → Begins r ws → since r (before ++ ws) ≡ ws
since_begins r before [] b = absurd b
since_begins r before (w ∷ ws) b = since_last r before w ws b.0 b.1

-- READING EACH ENTRY

until_none : (r : Role) (ws : List Labelled) → list_any (is r) ws ≡ false → until r ws ≡ ws
until_none r ws h = sym (ap (until r) (append-nil ws)) ∙ until_behind r ws [] h ∙ append-nil ws

until_front : (r : Role) (xs zs : List Labelled) → list_any (is r) xs ≡ true → until r (xs ++ zs) ≡ until r xs
until_front r [] zs h = absurd cc
until_front r (x ∷ xs) zs h = step (is r x) h (λ k. until_front r xs zs k)
  where
    step : (b : Bool) → (b || list_any (is r) xs) ≡ true → (list_any (is r) xs ≡ true → until r (xs ++ zs) ≡ until r xs) → cond b [] (x ∷ until r (xs ++ zs)) ≡ cond b [] (x ∷ until r xs)
    step true h k = refl
    step false h k = ap (λ (z : List Labelled). x ∷ z) (k h)

-- what is read of each entry is the same where words follow that have nothing of it
pub read_entries : {X : Type 0} (read : List Labelled → X) (r : Role) (zs : List Labelled) → list_any (is r) zs ≡ false → ((e : List Labelled) → read (e ++ zs) ≡ read e)
    → (xs : List Labelled) → map read (entries r (xs ++ zs)) ≡ map read (entries r xs)
read_entries {X} read r zs none same [] = ap (map read) (sym (ap (entries r) (append-nil zs)) ∙ entries_behind r zs [] none)
read_entries {X} read r zs none same (x ∷ xs) = step (is r x) (read_entries read r zs none same xs)
  where
    one_entry : read (x ∷ until r (xs ++ zs)) ≡ read (x ∷ until r xs)
    one_entry = elim (cases_Bool (list_any (is r) xs)) [
      | inl t ↦ ap (λ (z : List Labelled). read (x ∷ z)) (until_front r xs zs t)
      | inr f ↦
          ap (λ (z : List Labelled). read (x ∷ z)) (until_behind r xs zs f ∙ ap (λ (z : List Labelled). xs ++ z) (until_none r zs none))
          ∙ same (x ∷ xs) ∙ ap (λ (z : List Labelled). read (x ∷ z)) (sym (until_none r xs f))
    ]

    step : (b : Bool) → map read (entries r (xs ++ zs)) ≡ map read (entries r xs)
        → map read (cond b ((x ∷ until r (xs ++ zs)) ∷ entries r (xs ++ zs)) (entries r (xs ++ zs))) ≡ map read (cond b ((x ∷ until r xs) ∷ entries r xs) (entries r xs))
    step true h = λ i. one_entry i ∷ h i
    step false h = h

-- WORDS WITHOUT FAULTS

pub clean_parts : (before xs ys : List Labelled) → EachClean before (xs ++ ys) → EachClean before xs × EachClean (before ++ xs) ys
clean_parts before [] ys c = (tt, subst (λ (z : List Labelled). EachClean z ys) (sym (append-nil before)) c)
clean_parts before (x ∷ xs) ys c =
    let more = clean_parts (before ++ x ∷ []) xs ys c.1 in
    ((c.0, more.0), subst (λ (z : List Labelled). EachClean z ys) (append_assoc before (x ∷ []) xs) more.1)
