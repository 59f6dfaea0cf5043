-- One word more after the words of a line.
use Rattle.std.proofs.Common.{◌≡◌, ℕ, ◌<◌, Bool, true, false, cond, ◌||◌, List, [], ◌∷◌, ◌++◌, length, get_or, set, Option, Some, None, refl, sym, ap, subst, ◌∙◌}
use Rattle.std.specs.Prelude.{IfSome}
use Rattle.std.proofs.lemmas.Bool.{eqb-false, eqb-true, or_parts}
use Rattle.std.proofs.lemmas.List.{get_or-set_other}
use Rattle.std.proofs.lemmas.List.Folds.{list_any-append}
use Rattle.std.proofs.lemmas.Grind.{get_or-set_at}
use Rattle.dbtg_script.specs.declared.role.Role.{Role}
use Rattle.dbtg_script.specs.declared.role.Role.TheVariants as role
use Rattle.dbtg_script.specs.Labels.{first_word, has, is, last_text, named, number, text_of}
use Rattle.dbtg_script.specs.Lookups.{item_picture, type_named}
use Rattle.dbtg_script.specs.StatementFaults.{type_in, type_text}
use Rattle.dbtg_script.specs.StatementGrammar.{Labelled}
use Rattle.dbtg_script.specs.Inside.Words.{AreNoted, LineWords}
use Rattle.dbtg_schema.specs.declared.shape.Picture.{Picture}
use Rattle.dbtg_script.proofs.Reading.Roles.{role_is}

-- a role that no word has has no first word
pub no_first : (r : Role) (ws : List Labelled) → has r ws ≡ false → first_word r ws ≡ None
no_first r [] h = refl
no_first r (w ∷ ws) h = let p = or_parts (is r w) (has r ws) h in rw p.0 (no_first r ws p.1)

or_false : (b : Bool) → (b || false) ≡ b
or_false true = refl
or_false false = refl

pub has_behind : (r : Role) (ws : List Labelled) (w : Labelled) → has r (ws ++ w ∷ []) ≡ (has r ws || is r w)
has_behind r ws w = list_any-append (is r) ws (w ∷ []) ∙ ap (λ b. has r ws || b) (or_false (is r w))

last_behind : (r : Role) (t : List ℕ) (ws : List Labelled) (w : Labelled) → last_text r t (ws ++ w ∷ []) ≡ cond (is r w) (text_of w.word) (last_text r t ws)
last_behind r t [] w = refl
last_behind r t (v ∷ ws) w = last_behind r (cond (is r v) (text_of v.word) t) ws w

pub named_there : (r : Role) (ws : List Labelled) (w : Labelled) → is r w ≡ true → named r (ws ++ w ∷ []) ≡ text_of w.word
named_there r ws w h = last_behind r [] ws w ∙ ap (λ b. cond b (text_of w.word) (named r ws)) h

pub named_kept : (r : Role) (ws : List Labelled) (w : Labelled) → is r w ≡ false → named r (ws ++ w ∷ []) ≡ named r ws
named_kept r ws w h = last_behind r [] ws w ∙ ap (λ b. cond b (text_of w.word) (named r ws)) h

-- the type that is named after a word that names one
pub type_there : (ws : List Labelled) (w : Labelled) → is role.TypeName w ≡ true → type_text (ws ++ w ∷ []) ≡ text_of w.word
type_there ws w h =
    let e : has role.TypeName (ws ++ w ∷ []) ≡ true = has_behind role.TypeName ws w ∙ ap (λ b. has role.TypeName ws || b) h ∙ or_true (has role.TypeName ws) in
    rw e (named_there role.TypeName ws w h)
  where
    or_true : (b : Bool) → (b || true) ≡ true
    or_true true = refl
    or_true false = refl

has_kept : (r : Role) (ws : List Labelled) (w : Labelled) → is r w ≡ false → has r (ws ++ w ∷ []) ≡ has r ws
has_kept r ws w h = has_behind r ws w ∙ ap (λ b. has r ws || b) h ∙ or_false (has r ws)

-- before RECORD it counts where no other word names one
pub record_there : (ws : List Labelled) (w : Labelled) → is role.TypeName w ≡ false → has role.TypeName ws ≡ false → is role.RecordName w ≡ true → type_text (ws ++ w ∷ []) ≡ text_of w.word
record_there ws w other none h = rw (has_kept role.TypeName ws w other, none) (named_there role.RecordName ws w h)

-- any other word leaves it as it was
pub type_kept : (ws : List Labelled) (w : Labelled) → is role.TypeName w ≡ false → is role.RecordName w ≡ false → type_text (ws ++ w ∷ []) ≡ type_text ws
type_kept ws w h g = rw (has_kept role.TypeName ws w h, named_kept role.TypeName ws w h, named_kept role.RecordName ws w g) refl

-- a word that names an item names no type
pub no_type : (w : Labelled) → is role.ItemName w ≡ true → is role.TypeName w ≡ false
no_type w h = rw (role_is role.ItemName w h) refl

pub no_record : (w : Labelled) → is role.ItemName w ≡ true → is role.RecordName w ≡ false
no_record w h = rw (role_is role.ItemName w h) refl

-- the roles with that of a word more
pub roles_behind : (roles : List Bool) (ws : List Labelled) (w : Labelled) → number w.role < length roles → ((r : Role) → get_or roles (number r) false ≡ has r ws)
    → (r : Role) → get_or (set roles (number w.role) true) (number r) false ≡ has r (ws ++ w ∷ [])
roles_behind roles ws w room h r = by (is r w) refl
  where
    or_true : (b : Bool) → (b || true) ≡ true
    or_true true = refl
    or_true false = refl

    here : is r w ≡ true → has r (ws ++ w ∷ []) ≡ true
    here e = has_behind r ws w ∙ ap (λ b. has r ws || b) e ∙ or_true (has r ws)

    differs : is r w ≡ false → number r ≡ number w.role → ⊥
    differs e same = eqb-false (number w.role) (number r) e (sym same)

    by : (b : Bool) → is r w ≡ b → get_or (set roles (number w.role) true) (number r) false ≡ has r (ws ++ w ∷ [])
    by true e = get_or-set_at roles (number w.role) (number r) true false (sym (eqb-true (number w.role) (number r) e)) room ∙ sym (here e)
    by false e = get_or-set_other roles (number w.role) (number r) true false (differs e) ∙ h r ∙ sym (has_kept r ws w e)

-- what is noted after a word more
pub noted_behind : (old : LineWords) (roles : List Bool) (rtype : Option (Option ℕ)) (picture : Option (Option Picture)) (w : Labelled) (at : ℕ) (ws : List Labelled)
    → at ≡ number w.role → at < length roles → ((r : Role) → get_or roles (number r) false ≡ has r old.words)
    → IfSome rtype (λ r. r ≡ type_named old.schema (type_text (old.words ++ w ∷ [])))
    → IfSome picture (λ p. p ≡ item_picture old.schema (type_in old.schema (old.words ++ w ∷ [])) (named role.ItemName (old.words ++ w ∷ [])))
    → ws ≡ old.words ++ w ∷ [] → AreNoted old.schema ws (set roles at true) rtype picture
noted_behind old roles rtype picture w at ws place room h typed pictured e =
    let fits : number w.role < length roles = subst (λ (n : ℕ). n < length roles) place room in
    let P : List Labelled → ℕ → Type 0 = λ vs n. AreNoted old.schema vs (set roles n true) rtype picture in
    let noted : P (old.words ++ w ∷ []) (number w.role) = record { roles_are = roles_behind roles old.words w fits h; type_is = typed; picture_is = pictured } in
    subst (λ (vs : List Labelled). P vs at) (sym e) (subst (λ (n : ℕ). P (old.words ++ w ∷ []) n) (sym place) noted)
