-- What the grammar gives: some areas, some record types, some members in each set.
use Rattle.std.proofs.Common.{◌≡◌, ℕ, ◌+◌, ◌<◌, ◌≤◌, Bool, true, false, cond, not, ◌&&◌, ◌||◌, List, [], ◌∷◌, ◌++◌, length, min, refl, sym, ap, subst, ◌∙◌, arith, inl, inr}
use Rattle.std.specs.Prelude.{filter, ◌==◌}
use Rattle.std.specs.List.{flat_map, list_any, AllByRecursion}
use Rattle.std.proofs.lemmas.Bool.{and_parts}
use Rattle.dbtg_schema.specs.declared.role.Role.{Role}
use Rattle.dbtg_schema.specs.declared.role.Role.TheVariants as role
use Rattle.dbtg_schema.specs.Texts.Forms.{nothing, one, both, either, many, labelled, Derives, some}
use Rattle.dbtg_schema.specs.Texts.SchemaGrammar.{Form, Labelled, fits, set, schema}
use Rattle.dbtg_schema.specs.Texts.Labels.{number, is, count_of, until, entries}

-- no word of the form has this role
abbrev pub lacks : Role → Form → Bool
lacks r nothing = true
lacks r (one k q) = not (number q == number r)
lacks r (both f g) = lacks r f && lacks r g
lacks r (either f g) = lacks r f && lacks r g
lacks r (many f) = lacks r f

-- at least this many words have this role
abbrev pub at_least : Role → Form → ℕ
at_least r nothing = 0
at_least r (one k q) = cond (number q == number r) 1 0
at_least r (both f g) = at_least r f + at_least r g
at_least r (either f g) = min (at_least r f) (at_least r g)
at_least r (many f) = 0

pub any_append : (r : Role) (xs ys : List Labelled) → list_any (is r) xs ≡ false → list_any (is r) ys ≡ false → list_any (is r) (xs ++ ys) ≡ false
any_append r [] ys h k = k
any_append r (x ∷ xs) ys h k = neither (is r x) (list_any (is r) xs) _ h (λ g. any_append r xs ys g k)
  where
    neither : (a b c : Bool) → (a || b) ≡ false → (b ≡ false → c ≡ false) → (a || c) ≡ false
    neither true b c h k = absurd cc
    neither false b c h k = k h

lacking_parts : (r : Role) (f : Form) (parts : List (List Labelled)) → AllByRecursion (Derives fits f) parts → ((ws : List Labelled) → Derives fits f ws → list_any (is r) ws ≡ false) → list_any (is r) (flat_map (λ part. part) parts) ≡ false
lacking_parts r f [] all each = refl
lacking_parts r f (p ∷ parts) all each = any_append r p (flat_map (λ part. part) parts) (each p all.0) (lacking_parts r f parts all.1 each)

pub lacking : (r : Role) (f : Form) (ws : List Labelled) → Derives fits f ws → lacks r f ≡ true → list_any (is r) ws ≡ false
lacking r nothing ws d h = rw d refl
lacking r (one k q) ws d h = rw d.1 (no_role (number q == number r) h)
  where
    no_role : (b : Bool) → not b ≡ true → (b || false) ≡ false
    no_role true h = absurd cc
    no_role false h = refl
lacking r (both f g) ws d h =
    let p = and_parts (lacks r f) (lacks r g) h in
    subst (λ (z : List Labelled). list_any (is r) z ≡ false) (sym d.2) (any_append r d.0 d.1 (lacking r f d.0 d.3 p.0) (lacking r g d.1 d.4 p.1))
lacking r (either f g) ws (inl d) h = lacking r f ws d (and_parts (lacks r f) (lacks r g) h).0
lacking r (either f g) ws (inr d) h = lacking r g ws d (and_parts (lacks r f) (lacks r g) h).1
lacking r (many f) ws d h = subst (λ (z : List Labelled). list_any (is r) z ≡ false) (sym d.1) (lacking_parts r f d.0 d.2 (λ vs c. lacking r f vs c h))

pub count_append : (r : Role) (xs ys : List Labelled) → count_of r (xs ++ ys) ≡ count_of r xs + count_of r ys
count_append r [] ys = omega arith
count_append r (x ∷ xs) ys = step (is r x) (filter (is r) (xs ++ ys)) (filter (is r) xs) (count_of r ys) (count_append r xs ys)
  where
    step : (b : Bool) (us vs : List Labelled) (n : ℕ) → length us ≡ length vs + n → length (cond b (x ∷ us) us) ≡ length (cond b (x ∷ vs) vs) + n
    step true us vs n h = omega (arith, h)
    step false us vs n h = h

pub counted : (r : Role) (f : Form) (ws : List Labelled) → Derives fits f ws → at_least r f ≤ count_of r ws
counted r nothing ws d = omega arith
counted r (one k q) ws d = subst (λ (z : List Labelled). cond (number q == number r) 1 0 ≤ count_of r z) (sym d.1) (same (number q == number r) (labelled q d.0))
  where
    same : (b : Bool) (l : Labelled) → cond b 1 0 ≤ length (cond b (l ∷ []) [])
    same true l = omega arith
    same false l = omega arith
counted r (both f g) ws d =
    subst (λ (z : List Labelled). at_least r f + at_least r g ≤ count_of r z) (sym d.2)
    (let a = counted r f d.0 d.3 in let b = counted r g d.1 d.4 in let c = count_append r d.0 d.1 in omega arith)
counted r (either f g) ws (inl d) = let a = counted r f ws d in omega arith
counted r (either f g) ws (inr d) = let a = counted r g ws d in omega arith
counted r (many f) ws d = omega arith

pub until_behind : (r : Role) (xs ys : List Labelled) → list_any (is r) xs ≡ false → until r (xs ++ ys) ≡ xs ++ until r ys
until_behind r [] ys h = refl
until_behind r (x ∷ xs) ys h = step (is r x) (list_any (is r) xs) h (λ g. until_behind r xs ys g)
  where
    step : (a b : Bool) → (a || b) ≡ false → (b ≡ false → until r (xs ++ ys) ≡ xs ++ until r ys) → cond a [] (x ∷ until r (xs ++ ys)) ≡ (x ∷ xs) ++ until r ys
    step true b h k = absurd cc
    step false b h k = ap (λ (z : List Labelled). x ∷ z) (k h)

-- what follows a first part counts no more
behind_first : (r s : Role) (f g : Form) (ws : List Labelled) (d : Derives fits (both f g) ws) → lacks r f ≡ true → at_least s f + count_of s (until r d.1) ≤ count_of s (until r ws)
behind_first r s f g ws d h =
    subst (λ (z : List Labelled). at_least s f + count_of s (until r d.1) ≤ count_of s (until r z)) (sym d.2)
    (subst (λ (z : List Labelled). at_least s f + count_of s (until r d.1) ≤ count_of s z) (sym (until_behind r d.0 d.1 (lacking r f d.0 d.3 h)))
    (let a = counted s f d.0 d.3 in let b = count_append s d.0 (until r d.1) in omega arith))

abbrev pub left : Form → Form
left (both f g) = f
left f = f

abbrev pub right : Form → Form
right (both f g) = g
right f = f

abbrev behind_1 : Form
behind_1 = right schema

abbrev behind_2 : Form
behind_2 = right behind_1

abbrev behind_3 : Form
behind_3 = right behind_2

abbrev behind_4 : Form
behind_4 = right behind_3

abbrev behind_5 : Form
behind_5 = right behind_4

pub some_area : (ws : List Labelled) → Derives fits schema ws → 1 ≤ count_of role.AreaEntry ws
some_area ws d = counted role.AreaEntry schema ws d

pub some_type : (ws : List Labelled) → Derives fits schema ws → 1 ≤ count_of role.RecordEntry (until role.SetEntry ws)
some_type ws d =
    let a = behind_first role.SetEntry role.RecordEntry (left schema) (right schema) ws d refl in
    let b = behind_first role.SetEntry role.RecordEntry (left behind_1) (right behind_1) d.1 d.4 refl in
    let c = behind_first role.SetEntry role.RecordEntry (left behind_2) (right behind_2) d.4.1 d.4.4 refl in
    let e = behind_first role.SetEntry role.RecordEntry (left behind_3) (right behind_3) d.4.4.1 d.4.4.4 refl in
    let f = behind_first role.SetEntry role.RecordEntry (left behind_4) (right behind_4) d.4.4.4.1 d.4.4.4.4 refl in
    let g = behind_first role.SetEntry role.RecordEntry (left behind_5) (right behind_5) d.4.4.4.4.1 d.4.4.4.4.4 refl in
    omega arith

pub entries_behind : (r : Role) (xs ys : List Labelled) → list_any (is r) xs ≡ false → entries r (xs ++ ys) ≡ entries r ys
entries_behind r [] ys h = refl
entries_behind r (x ∷ xs) ys h = step (is r x) (list_any (is r) xs) h (λ g. entries_behind r xs ys g)
  where
    step : (a b : Bool) → (a || b) ≡ false → (b ≡ false → entries r (xs ++ ys) ≡ entries r ys) → cond a ((x ∷ until r (xs ++ ys)) ∷ entries r (xs ++ ys)) (entries r (xs ++ ys)) ≡ entries r ys
    step true b h k = absurd cc
    step false b h k = k h

abbrev pub HasMember : List Labelled → Type 0
HasMember e = 0 < count_of role.MemberEntry e

-- the entry of a set that is derived
one_set : (l : Labelled) (tail more : List Labelled) → is role.SetEntry l ≡ true → list_any (is role.SetEntry) tail ≡ false → HasMember (l ∷ tail) → AllByRecursion HasMember (entries role.SetEntry more)
    → AllByRecursion HasMember (entries role.SetEntry ((l ∷ tail) ++ more))
one_set l tail more h none some rest =
    subst (λ (b : Bool). AllByRecursion HasMember (cond b ((l ∷ until role.SetEntry (tail ++ more)) ∷ entries role.SetEntry (tail ++ more)) (entries role.SetEntry (tail ++ more)))) (sym h) (
      subst (λ (z : List Labelled). HasMember (l ∷ z)) (sym (until_behind role.SetEntry tail more none)) (let a = count_append role.MemberEntry (l ∷ tail) (until role.SetEntry more) in omega arith),
      subst (AllByRecursion HasMember) (sym (entries_behind role.SetEntry tail more none)) rest,
    )

each_set : (parts : List (List Labelled)) → AllByRecursion (Derives fits set) parts → AllByRecursion HasMember (entries role.SetEntry (flat_map (λ part. part) parts))
each_set [] all = tt
each_set (p ∷ parts) all =
    let d = all.0 in
    let none = lacking role.SetEntry (right set) d.1 d.4 refl in
    let head : p ≡ labelled role.SetEntry d.3.0 ∷ d.1 = d.2 ∙ ap (λ (z : List Labelled). z ++ d.1) d.3.1 in
    let some = subst HasMember head (counted role.MemberEntry set p d) in
    subst (λ (z : List Labelled). AllByRecursion HasMember (entries role.SetEntry (z ++ flat_map (λ part. part) parts))) (sym head)
    (one_set (labelled role.SetEntry d.3.0) d.1 (flat_map (λ part. part) parts) refl none some (each_set parts all.1))

skip_first : (r : Role) (f g : Form) (ws : List Labelled) (d : Derives fits (both f g) ws) → lacks r f ≡ true → entries r ws ≡ entries r d.1
skip_first r f g ws d h = ap (entries r) d.2 ∙ entries_behind r d.0 d.1 (lacking r f d.0 d.3 h)

pub some_members : (ws : List Labelled) → Derives fits schema ws → AllByRecursion HasMember (entries role.SetEntry ws)
some_members ws d =
    let sets = d.4.4.4.4.4.4 in
    let all = subst (λ (z : List Labelled). AllByRecursion HasMember (entries role.SetEntry z)) (sym sets.1) (each_set sets.0 sets.2) in
    let same = skip_first role.SetEntry (left schema) (right schema) ws d refl ∙ skip_first role.SetEntry (left behind_1) (right behind_1) d.1 d.4 refl ∙ skip_first role.SetEntry (left behind_2) (right behind_2) d.4.1 d.4.4 refl ∙ skip_first role.SetEntry (left behind_3) (right behind_3) d.4.4.1 d.4.4.4 refl
    ∙ skip_first role.SetEntry (left behind_4) (right behind_4) d.4.4.4.1 d.4.4.4.4 refl ∙ skip_first role.SetEntry (left behind_5) (right behind_5) d.4.4.4.4.1 d.4.4.4.4.4 refl in
    subst (AllByRecursion HasMember) (sym same) all
