-- Words that differ only in values of the same kinds are read alike.
use Rattle.std.proofs.Common.{◌≡◌, Bool, true, false, cond, not, ◌&&◌, List, [], ◌∷◌, ◌++◌, map, Some, None, refl, sym, ap, subst, ◌∙◌, inl, inr, true≢false}
use Rattle.std.specs.Prelude.{Option, ⊤, ◌⊎◌}
use Rattle.std.specs.List.{list_all}
use Rattle.std.proofs.lemmas.Bool.{and_parts}
use Rattle.std.proofs.lemmas.List.{map-append}
use Rattle.std.proofs.lemmas.List.Folds.{list_all-append, list_all-map}
use Rattle.dbtg_schema.proofs.Public.{both_nil}
use Rattle.dbtg_schema.specs.Lists.{Lists}
use Rattle.dbtg_schema.specs.Texts.Forms as forms
use Rattle.dbtg_schema.specs.Texts.Forms.{nothing, one, both, either, many, by_start, followed, followed_by, labelled, may_end, start_with, starts}
use Rattle.dbtg_script.specs.declared.fault.Cause.TheVariants.{UnexpectedWord}
use Rattle.dbtg_script.specs.declared.role.Role.{Role}
use Rattle.dbtg_script.specs.declared.role.Role.TheVariants as role
use Rattle.dbtg_script.specs.Labels.{named}
use Rattle.dbtg_script.specs.Lookups.{item_picture}
use Rattle.dbtg_script.specs.StatementFaults.{at_other, end_faults, faults_from, said, type_in, value_faults}
use Rattle.dbtg_script.specs.StatementGrammar.{Form, Kind, Labelled, fits, is_equals, is_value, key, other_than, name, equals_sign, signed, keyed, value}
use Rattle.dbtg_script.specs.Tokens.{Token, plain, equals, literal}
use Rattle.dbtg_program.specs.Laws.{says_too_great}
use Rattle.dbtg_program.specs.Sentences.{is_equals as is_sign}
use Rattle.dbtg_program.proofs.Bare.{bare, end_alike, is_valued, may_be_too_great, picture_alike, said_alike, shape}

abbrev Start : Type 0
Start = forms.Start Kind Role

-- WHERE VALUES STAND

-- the form begins with a value
abbrev pub only_value : Form → Bool
only_value (one k r) = is_value k && is_valued r
only_value (both f g) = only_value f
only_value _ = false

-- the form is the sign =
abbrev is_equals_sign : Form → Bool
is_equals_sign (one k r) = is_equals k
is_equals_sign _ = false

-- a value follows each sign =
abbrev pub follows : Form → Bool
follows nothing = true
follows (one k r) = not (is_equals k)
follows (both f g) = cond (is_equals_sign f) (only_value g) (follows f) && follows g
follows (either f g) = follows f && follows g
follows (many f) = follows f

-- a value follows each sign =, at this start and after it
abbrev keeps : Start → Bool
keeps s = follows s.rest && cond (is_equals s.kind) (only_value s.rest) true

-- a start is a value
abbrev begins_value : Start → Bool
begins_value s = is_value s.kind && is_valued s.role

only_followed : (f g : Form) → only_value f ≡ true → only_value (followed f g) ≡ true
only_followed nothing g h = absurd cc
only_followed (one k r) g h = h
only_followed (both a b) g h = h
only_followed (either a b) g h = absurd cc
only_followed (many a) g h = absurd cc

follows_followed : (f g : Form) → follows f ≡ true → follows g ≡ true → follows (followed f g) ≡ true
follows_followed nothing g h k = k
follows_followed (one kind r) g h k = elim (is_equals kind) as (λ b. not b ≡ true → cond b (only_value g) (not b) && follows g ≡ true) [ true ↦ λ x. absurd (true≢false (sym x)) | false ↦ λ x. k ] h
follows_followed (both a b) g h k = λ i. h i && k i
follows_followed (either a b) g h k = λ i. h i && k i
follows_followed (many a) g h k = λ i. h i && k i

keeps_followed : (s : Start) (g : Form) → keeps s ≡ true → follows g ≡ true → keeps (followed_by g s) ≡ true
keeps_followed s g h k =
    let p = and_parts (follows s.rest) (cond (is_equals s.kind) (only_value s.rest) true) h in
    let only = elim (is_equals s.kind) as (λ b. cond b (only_value s.rest) true ≡ true → cond b (only_value (followed s.rest g)) true ≡ true) [ true ↦ only_followed s.rest g | false ↦ λ x. refl ] p.1 in
    (λ i. follows_followed s.rest g p.0 k i && only i)

keep_followed : (ss : List Start) (g : Form) → list_all keeps ss ≡ true → follows g ≡ true → list_all keeps (map (followed_by g) ss) ≡ true
keep_followed [] g h k = refl
keep_followed (s ∷ ss) g h k = let p = and_parts (keeps s) (list_all keeps ss) h in (λ i. keeps_followed s g p.0 k i && keep_followed ss g p.1 k i)

after : (f g : Form) → list_all keeps (starts f) ≡ true → follows g ≡ true → list_all keeps (starts g) ≡ true → list_all keeps (starts (both f g)) ≡ true
after f g h k later =
    list_all-append keeps (map (followed_by g) (starts f)) (cond (may_end f) (starts g) [])
    ∙ (λ i. keep_followed (starts f) g h k i && elim (may_end f) as (λ b. list_all keeps (cond b (starts g) []) ≡ true) [ true ↦ later | false ↦ refl ] i)

starts_keep : (f : Form) → follows f ≡ true → list_all keeps (starts f) ≡ true
starts_keep nothing h = refl
starts_keep (one k r) h = elim (is_equals k) as (λ b. not b ≡ true → (true && cond b false true) && true ≡ true) [ true ↦ λ x. absurd (true≢false (sym x)) | false ↦ λ x. refl ] h
starts_keep (both nothing g) h = starts_keep g h
starts_keep (both (one k r) g) h =
    let p = and_parts (cond (is_equals k) (only_value g) (not (is_equals k))) (follows g) h in
    let only = elim (is_equals k) as (λ b. cond b (only_value g) (not b) ≡ true → cond b (only_value g) true ≡ true) [ true ↦ λ x. x | false ↦ λ x. refl ] p.0 in
    (λ i. (p.1 i && only i) && true)
starts_keep (both (both a b) g) h = let p = and_parts (follows (both a b)) (follows g) h in after (both a b) g (starts_keep (both a b) p.0) p.1 (starts_keep g p.1)
starts_keep (both (either a b) g) h = let p = and_parts (follows (either a b)) (follows g) h in after (either a b) g (starts_keep (either a b) p.0) p.1 (starts_keep g p.1)
starts_keep (both (many a) g) h = let p = and_parts (follows (many a)) (follows g) h in after (many a) g (starts_keep (many a) p.0) p.1 (starts_keep g p.1)
starts_keep (either f g) h = let p = and_parts (follows f) (follows g) h in list_all-append keeps (starts f) (starts g) ∙ (λ i. starts_keep f p.0 i && starts_keep g p.1 i)
starts_keep (many f) h = keep_followed (starts f) (many f) (starts_keep f h) h

never_ends : (f : Form) → only_value f ≡ true → may_end f ≡ false
never_ends nothing h = absurd cc
never_ends (one k r) h = refl
never_ends (both f g) h = ap (λ b. b && may_end g) (never_ends f h)
never_ends (either f g) h = absurd cc
never_ends (many f) h = absurd cc

values_begin : (f : Form) → only_value f ≡ true → list_all begins_value (starts f) ≡ true
values_begin nothing h = absurd cc
values_begin (one k r) h = ap (λ b. b && true) h
values_begin (both f g) h =
    ap (λ b. list_all begins_value (map (followed_by g) (starts f) ++ cond b (starts g) [])) (never_ends f h)
    ∙ list_all-append begins_value (map (followed_by g) (starts f)) [] ∙ (λ i. (list_all-map begins_value (followed_by g) (starts f) ∙ values_begin f h) i && true)
values_begin (either f g) h = absurd cc
values_begin (many f) h = absurd cc

-- THE START THAT A WORD FITS

-- what holds of all starts holds of the one that is found, and the word fits it
found : (p : Start → Bool) (ss : List Start) (t : Token) (s : Start) → list_all p ss ≡ true → start_with fits t ss ≡ Some s → (p s ≡ true) × (fits s.kind t ≡ true)
found p [] t s h e = absurd cc
found p (x ∷ ss) t s h e = by_fit (fits x.kind t) refl (found p ss t s parts.1)
  where
    parts : (p x ≡ true) × (list_all p ss ≡ true)
    parts = and_parts (p x) (list_all p ss) h

    by_fit : (b : Bool) → fits x.kind t ≡ b → (start_with fits t ss ≡ Some s → (p s ≡ true) × (fits s.kind t ≡ true)) → (p s ≡ true) × (fits s.kind t ≡ true)
    by_fit true f later =
        let here : Some x ≡ Some s = ap (λ b. cond b (Some x) (start_with fits t ss)) (sym f) ∙ e in
        let same : x ≡ s = cc in
        (ap p (sym same) ∙ parts.0, ap (λ (y : Start). fits y.kind t) (sym same) ∙ f)
    by_fit false f later = later (ap (λ b. cond b (Some x) (start_with fits t ss)) (sym f) ∙ e)

value_fits : (k : Kind) (t : Token) → is_value k ≡ true → fits value t ≡ true → fits k t ≡ true
value_fits value t h f = f
value_fits (key a) t h f = absurd cc
value_fits (other_than a) t h f = absurd cc
value_fits name t h f = absurd cc
value_fits equals_sign t h f = absurd cc
value_fits signed t h f = absurd cc
value_fits keyed t h f = absurd cc

-- where a value stands, two values begin at the same start
begin_alike : (ss : List Start) (v w : Token) → list_all begins_value ss ≡ true → fits value v ≡ true → fits value w ≡ true → start_with fits v ss ≡ start_with fits w ss
begin_alike [] v w h f g = refl
begin_alike (s ∷ ss) v w h f g =
    let p = and_parts (begins_value s) (list_all begins_value ss) h in
    let k = and_parts (is_value s.kind) (is_valued s.role) p.0 in
    ap (λ b. cond b (Some s) (start_with fits v ss)) (value_fits s.kind v k.0 f) ∙ sym (ap (λ b. cond b (Some s) (start_with fits w ss)) (value_fits s.kind w k.0 g))

-- WORDS

-- the same word, or two values of the same kind in a value's place
abbrev pub AreSame : Bool → Token → Token → Type 0
AreSame here v w = (v ≡ w) ⊎ ((here ≡ true) × (fits value v ≡ true) × (fits value w ≡ true) × (shape v ≡ shape w))

-- words that differ only in values that follow a sign =; the flag says that the first is in a value's place
abbrev pub AreAlike : Bool → List Token → List Token → Type 0
AreAlike here [] [] = ⊤
AreAlike here [] (w ∷ ws) = ⊥
AreAlike here (v ∷ vs) [] = ⊥
AreAlike here (v ∷ vs) (w ∷ ws) = AreSame here v w × AreAlike (is_sign v) vs ws

sign_fits : (v : Token) (k : Kind) → is_sign v ≡ true → fits k v ≡ true → is_equals k ≡ true
sign_fits equals k h f = f
sign_fits (plain t) k h f = absurd cc
sign_fits (literal t) k h f = absurd cc

shape_only : (r : Role) (v w : Token) → is_valued r ≡ true → shape v ≡ shape w → bare (labelled r v) ≡ bare (labelled r w)
shape_only r v w h same = ap (λ b. cond b (labelled r (shape v)) (labelled r v)) h ∙ ap (labelled r) same ∙ ap (λ b. cond b (labelled r (shape w)) (labelled r w)) (sym h)

value_said : (schema : Lists) (xs ys : List Labelled) (v w : Token) (r : Role) → map bare xs ≡ map bare ys → is_valued r ≡ true → shape v ≡ shape w → said schema xs v r ≡ [] → list_all says_too_great (said schema ys w r) ≡ true
value_said schema xs ys v w role.Value alike h same none =
    may_be_too_great (item_picture schema (type_in schema ys) (named role.ItemName ys)) v w same (ap (λ p. value_faults p v) (sym (picture_alike schema xs ys alike)) ∙ none)
value_said schema xs ys v w role.SortedValue alike h same none = refl
value_said schema xs ys v w _ alike h same none = absurd cc

module _ (schema : Lists) (v w : Token) (vs ws : List Token)
    (further : (xs ys : List Labelled) (wanted : Form) → map bare xs ≡ map bare ys → follows wanted ≡ true → (is_sign v ≡ true → only_value wanted ≡ true) → faults_from schema xs wanted vs ≡ []
    → list_all says_too_great (faults_from schema ys wanted ws) ≡ true)
    (xs ys : List Labelled) (wanted : Form) (here : Bool) (alike : map bare xs ≡ map bare ys) (kept : follows wanted ≡ true) (placed : here ≡ true → only_value wanted ≡ true) where
  role_valued : (s : Start) → here ≡ true → start_with fits v (starts wanted) ≡ Some s → is_valued s.role ≡ true
  role_valued s h e = (and_parts (is_value s.kind) (is_valued s.role) (found begins_value (starts wanted) v s (values_begin wanted (placed h)) e).0).1

  begun : (s : Start) → AreSame here v w → start_with fits v (starts wanted) ≡ Some s → start_with fits w (starts wanted) ≡ Some s
  begun s (inl same) e = subst (λ (t : Token). start_with fits t (starts wanted) ≡ Some s) same e
  begun s (inr q) e = sym (begin_alike (starts wanted) v w (values_begin wanted (placed q.0)) q.1 q.2) ∙ e

  bare_alike : (s : Start) → AreSame here v w → start_with fits v (starts wanted) ≡ Some s → bare (labelled s.role v) ≡ bare (labelled s.role w)
  bare_alike s (inl same) e = ap (λ (t : Token). bare (labelled s.role t)) same
  bare_alike s (inr q) e = shape_only s.role v w (role_valued s q.0 e) q.3

  said_so : (s : Start) → AreSame here v w → start_with fits v (starts wanted) ≡ Some s → said schema xs v s.role ≡ [] → list_all says_too_great (said schema ys w s.role) ≡ true
  said_so s (inl same) e none = ap (list_all says_too_great) (ap (λ (t : Token). said schema ys t s.role) (sym same) ∙ sym (said_alike schema xs ys alike v s.role) ∙ none)
  said_so s (inr q) e none = value_said schema xs ys v w s.role alike (role_valued s q.0 e) q.3 none

  one_further : (o : Option Start) → AreSame here v w → start_with fits v (starts wanted) ≡ o → faults_from schema xs wanted (v ∷ vs) ≡ [] → list_all says_too_great (faults_from schema ys wanted (w ∷ ws)) ≡ true
  one_further None same e none =
      let wrong : at_other xs ∷ [] ≡ [] =
      ap (λ (o : Option Start). by_start o (λ s. said schema xs v s.role ++ faults_from schema (xs ++ labelled s.role v ∷ []) s.rest vs) (at_other xs ∷ [])) (sym e) ∙ none in
      absurd cc
  one_further (Some s) same e none =
      let here_none : said schema xs v s.role ++ faults_from schema (xs ++ labelled s.role v ∷ []) s.rest vs ≡ [] =
      ap (λ (o : Option Start). by_start o (λ s. said schema xs v s.role ++ faults_from schema (xs ++ labelled s.role v ∷ []) s.rest vs) (at_other xs ∷ [])) (sym e) ∙ none in
      let parts = both_nil (said schema xs v s.role) (faults_from schema (xs ++ labelled s.role v ∷ []) s.rest vs) here_none in
      let good = found keeps (starts wanted) v s (starts_keep wanted kept) e in
      let keeps_on = and_parts (follows s.rest) (cond (is_equals s.kind) (only_value s.rest) true) good.0 in
      let value_next : is_sign v ≡ true → only_value s.rest ≡ true =
      λ h. ap (λ b. cond b (only_value s.rest) true) (sym (sign_fits v s.kind h good.1)) ∙ keeps_on.1 in
      let bares : map bare (xs ++ labelled s.role v ∷ []) ≡ map bare (ys ++ labelled s.role w ∷ []) =
      map-append bare xs (labelled s.role v ∷ []) ∙ (λ i. alike i ++ bare_alike s same e i ∷ []) ∙ sym (map-append bare ys (labelled s.role w ∷ [])) in
      let rest = further (xs ++ labelled s.role v ∷ []) (ys ++ labelled s.role w ∷ []) s.rest bares keeps_on.0 value_next parts.1 in
      ap (λ (o : Option Start). list_all says_too_great (by_start o (λ s. said schema ys w s.role ++ faults_from schema (ys ++ labelled s.role w ∷ []) s.rest ws) (at_other ys ∷ []))) (begun s same e)
      ∙ list_all-append says_too_great (said schema ys w s.role) (faults_from schema (ys ++ labelled s.role w ∷ []) s.rest ws) ∙ (λ i. said_so s same e parts.0 i && rest i)

-- if words have no fault, words that differ only in values have at most the fault that a value is too great
pub read_alike : (schema : Lists) (here : Bool) (vs ws : List Token) → AreAlike here vs ws → (xs ys : List Labelled) (wanted : Form) → map bare xs ≡ map bare ys → follows wanted ≡ true → (here ≡ true → only_value wanted ≡ true)
    → faults_from schema xs wanted vs ≡ [] → list_all says_too_great (faults_from schema ys wanted ws) ≡ true
read_alike schema here [] [] a xs ys wanted alike kept placed none = by_end (may_end wanted) none
  where
    by_end : (b : Bool) → cond b (end_faults schema xs) (UnexpectedWord ∷ []) ≡ [] → list_all says_too_great (cond b (end_faults schema ys) (UnexpectedWord ∷ [])) ≡ true
    by_end true h = end_alike schema xs ys alike h
    by_end false h = absurd cc
read_alike schema here [] (w ∷ ws) a xs ys wanted alike kept placed none = absurd a
read_alike schema here (v ∷ vs) [] a xs ys wanted alike kept placed none = absurd a
read_alike schema here (v ∷ vs) (w ∷ ws) a xs ys wanted alike kept placed none =
    one_further schema v w vs ws (read_alike schema (is_sign v) vs ws a.1) xs ys wanted here alike kept placed (start_with fits v (starts wanted)) a.0 refl none
