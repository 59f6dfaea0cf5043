-- What the grammar of a statement gives: roles that are there, roles that are not, and the last word with a role.
use Rattle.std.proofs.Common.{◌≡◌, ℕ, Bool, true, false, cond, not, ◌&&◌, ◌||◌, List, [], ◌∷◌, ◌++◌, refl, ap, ◌∙◌, inl, inr}
use Rattle.std.specs.Prelude.{◌==◌}
use Rattle.std.specs.List.{flat_map, AllByRecursion}
use Rattle.std.proofs.lemmas.List.Folds.{list_any-append}
use Rattle.std.proofs.lemmas.Bool.{and_parts}
use Rattle.dbtg_schema.specs.Texts.Forms.{nothing, one, both, either, many, Derives}
use Rattle.dbtg_script.specs.declared.role.Role.{Role}
use Rattle.dbtg_script.specs.Labels.{number, is, has, lead, last_text, named, text_of}
use Rattle.dbtg_script.specs.StatementGrammar.{Form, Kind, Labelled, fits}

-- no word of the form has this role
abbrev pub lacks : Role → Form → Bool
lacks r nothing = true
lacks r (one k q) = not (number q == number r)
lacks r (both f g) = lacks r f && lacks r g
lacks r (either f g) = lacks r f && lacks r g
lacks r (many f) = lacks r f

-- a word with this role is there however the form is met
abbrev pub wants : Role → Form → Bool
wants r nothing = false
wants r (one k q) = number q == number r
wants r (both f g) = wants r f || wants r g
wants r (either f g) = wants r f && wants r g
wants r (many f) = false

pub has_append : (r : Role) (xs ys : List Labelled) → has r (xs ++ ys) ≡ (has r xs || has r ys)
has_append r xs ys = list_any-append (is r) xs ys

pub neither : (r : Role) (xs ys : List Labelled) → has r xs ≡ false → has r ys ≡ false → has r (xs ++ ys) ≡ false
neither r xs ys h k = has_append r xs ys ∙ (λ i. h i || k i)

no_role : (b : Bool) → not b ≡ true → (b || false) ≡ false
no_role true h = absurd cc
no_role false h = refl

lacking_parts : (r : Role) (f : Form) (parts : List (List Labelled)) → AllByRecursion (Derives fits f) parts → ((ws : List Labelled) → Derives fits f ws → has r ws ≡ false) → has r (flat_map (λ part. part) parts) ≡ false
lacking_parts r f [] all each = refl
lacking_parts r f (p ∷ parts) all each = neither r p (flat_map (λ part. part) parts) (each p all.0) (lacking_parts r f parts all.1 each)

pub lacking : (r : Role) (f : Form) (ws : List Labelled) → Derives fits f ws → lacks r f ≡ true → has r ws ≡ false
lacking r nothing ws d h = rw d refl
lacking r (one k q) ws d h = rw d.1 (no_role (number q == number r) h)
lacking r (both f g) ws d h =
    let p = and_parts (lacks r f) (lacks r g) h in
    ap (has r) d.2 ∙ neither r d.0 d.1 (lacking r f d.0 d.3 p.0) (lacking r g d.1 d.4 p.1)
lacking r (either f g) ws (inl d) h = lacking r f ws d (and_parts (lacks r f) (lacks r g) h).0
lacking r (either f g) ws (inr d) h = lacking r g ws d (and_parts (lacks r f) (lacks r g) h).1
lacking r (many f) ws d h = ap (has r) d.1 ∙ lacking_parts r f d.0 d.2 (λ vs c. lacking r f vs c h)

one_of : (a b x y : Bool) → (a || b) ≡ true → (a ≡ true → x ≡ true) → (b ≡ true → y ≡ true) → (x || y) ≡ true
one_of true b x y h f g = ap (λ z. z || y) (f refl)
one_of false true true y h f g = refl
one_of false true false y h f g = g refl
one_of false false x y h f g = absurd cc

pub having : (r : Role) (f : Form) (ws : List Labelled) → Derives fits f ws → wants r f ≡ true → has r ws ≡ true
having r nothing ws d h = absurd cc
having r (one k q) ws d h = rw (d.1, h) refl
having r (both f g) ws d h = ap (has r) d.2 ∙ has_append r d.0 d.1 ∙ one_of (wants r f) (wants r g) (has r d.0) (has r d.1) h (having r f d.0 d.3) (having r g d.1 d.4)
having r (either f g) ws (inl d) h = having r f ws d (and_parts (wants r f) (wants r g) h).0
having r (either f g) ws (inr d) h = having r g ws d (and_parts (wants r f) (wants r g) h).1
having r (many f) ws d h = absurd cc

-- what follows the first part
abbrev pub second : Form → Form
second (both f g) = g
second f = f

-- the role of the first word
pub lead_of_derived : (r : Role) (k : Kind) (g : Form) (ws : List Labelled) → Derives fits (both (one k r) g) ws → lead ws ≡ r
lead_of_derived r k g ws d = ap lead (d.2 ∙ ap (λ (z : List Labelled). z ++ d.1) d.3.1)

-- THE LAST WORD WITH A ROLE

last_text_append : (r : Role) (t : List ℕ) (xs ys : List Labelled) → last_text r t (xs ++ ys) ≡ last_text r (last_text r t xs) ys
last_text_append r t [] ys = refl
last_text_append r t (x ∷ xs) ys = last_text_append r (cond (is r x) (text_of x.word) t) xs ys

last_text_none : (r : Role) (t : List ℕ) (ys : List Labelled) → has r ys ≡ false → last_text r t ys ≡ t
last_text_none r t [] h = refl
last_text_none r t (y ∷ ys) h = step (is r y) (has r ys) h (λ k. last_text_none r t ys k)
  where
    step : (a b : Bool) → (a || b) ≡ false → (b ≡ false → last_text r t ys ≡ t) → last_text r (cond a (text_of y.word) t) ys ≡ t
    step true b h k = absurd cc
    step false b h k = k h

-- after a word with the role there is no other
pub named_last : (r : Role) (xs : List Labelled) (l : Labelled) (ys : List Labelled) → is r l ≡ true → has r ys ≡ false → named r (xs ++ l ∷ ys) ≡ text_of l.word
named_last r xs l ys t h = last_text_append r [] xs (l ∷ ys) ∙ ap (λ b. last_text r (cond b (text_of l.word) (named r xs)) ys) t ∙ last_text_none r (text_of l.word) ys h
