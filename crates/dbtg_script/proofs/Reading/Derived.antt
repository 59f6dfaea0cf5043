-- A line that has a derivation is read by it: no fault of the grammar, and the same roles.
use Rattle.std.proofs.Common.{◌≡◌, Bool, true, false, List, [], ◌∷◌, ◌++◌, Option, Some, None, refl, sym, ap, subst, ◌∙◌, ◌⊎◌, inl, inr}
use Rattle.dbtg_schema.specs.Texts.Forms.{starts, labelled, start_with, by_start, labels, Derives}
use Rattle.dbtg_schema.proofs.Public.{Among, Ranked, chosen, in_order, no_way_on, ranked_rest, start_found, starts_all, starts_derive, words_of}
use Rattle.dbtg_script.specs.declared.role.Role.{Role}
use Rattle.dbtg_script.specs.Derivations.{CanStand, TakesKeywords, is_name}
use Rattle.dbtg_script.specs.Tokens.{Token}
use Rattle.dbtg_script.specs.StatementGrammar.{Form, Labelled, fits}
use Rattle.dbtg_script.specs.Inside.StatementGrammar.{Start}
use Rattle.dbtg_script.proofs.Reading.Kinds.{are_named, before, named_start, some_words, told}

-- among the kinds with which the form can go on, keywords come before names
abbrev pub KeywordsFirst : Form → Type 0
KeywordsFirst f = Ranked (λ j k. before j k ≡ true) f × (are_named f ≡ true)

pub first_behind : (f : Form) (s : Start) → KeywordsFirst f → Among s (starts f) → KeywordsFirst s.rest
first_behind f s t a = (ranked_rest (λ j k. before j k ≡ true) f t.0 s a, (named_start f t.1 s a).1)

not_name : (b c : Bool) → b ≡ c → c ≡ false → b ≡ true → ⊥
not_name true c e h t = absurd cc
not_name false c e h t = absurd cc

-- a start that fits the word is the one that is found, or that has a keyword's role and this one a name's
same_or_name : (f : Form) (w : Token) (found s : Start) → KeywordsFirst f → start_with fits w (starts f) ≡ Some found → Among s (starts f) → fits s.kind w ≡ true
    → (s ≡ found) ⊎ ((is_name found.role ≡ false) × (is_name s.role ≡ true))
same_or_name f w found s t e a h =
    let m = start_found fits w (starts f) found e in
    elim (chosen fits (λ j k. before j k ≡ true) w (starts f) (in_order (λ j k. before j k ≡ true) f t.0) found s e a h) [
      | inl same ↦ inl same
      | inr b ↦ let k = told found.kind s.kind w b m.1 h in inr ((named_start f t.1 found m.0).0 ∙ k.0, (named_start f t.1 s a).0 ∙ k.1)
    ]

-- the start by which words are derived, keywords where they can stand, is the one that is found
pub the_start : (f : Form) (l : Labelled) (left : List Labelled) (found s : Start) → KeywordsFirst f → TakesKeywords f (l ∷ left) → start_with fits l.word (starts f) ≡ Some found
    → Among s (starts f) → s.role ≡ l.role → fits s.kind l.word ≡ true → s ≡ found
the_start f l left found s t k e a same h = elim (same_or_name f l.word found s t e a h) [
  | inl c ↦ c
  | inr c ↦
      let m = start_found fits l.word (starts f) found e in
      let some = some_words found.rest in
      let is = ap is_name (sym same) ∙ c.1 in
      absurd (not_name (is_name found.role) (is_name found.role) refl c.0 (k [] l left found.role refl is (some.0, starts_derive fits f found l.word some.0 m.0 m.1 some.1)))
]

-- the words after take keywords where they can stand, too
pub keywords_behind : (f : Form) (l : Labelled) (left : List Labelled) (s : Start) → TakesKeywords f (l ∷ left) → Among s (starts f) → s.role ≡ l.role → fits s.kind l.word ≡ true → TakesKeywords s.rest left
keywords_behind f l left s k a same h = λ before x behind r e is c.
    k (l ∷ before) x behind r (ap (λ (z : List Labelled). l ∷ z) e) is (
      c.0,
      subst (λ (q : Role). Derives fits f (labelled q l.word ∷ (before ++ labelled r x.word ∷ c.0))) same (starts_derive fits f s l.word (before ++ labelled r x.word ∷ c.0) a h c.1),
    )

-- what follows from a derived word: a start is found for it, by which what comes after it is derived
pub record Found (f : Form) (l : Labelled) (left : List Labelled) : Type 0 where
  pub start : Start
  pub found : start_with fits l.word (starts f) ≡ Some start
  pub role : start.role ≡ l.role
  pub first : KeywordsFirst start.rest
  pub derives : Derives fits start.rest left
  pub keywords : TakesKeywords start.rest left

pub found_for : (f : Form) (l : Labelled) (left : List Labelled) → KeywordsFirst f → Derives fits f (l ∷ left) → TakesKeywords f (l ∷ left) → Found f l left
found_for f l left t d k = by_case (start_with fits l.word (starts f)) refl
  where
    by_case : (o : Option Start) → start_with fits l.word (starts f) ≡ o → Found f l left
    by_case None e = absurd (no_way_on fits f l left e d)
    by_case (Some s) e =
        let r = starts_all fits f l left d in
        let same = the_start f l left s r.0 t k e r.1 r.2 r.3 in
        let m = start_found fits l.word (starts f) s e in
        let role : s.role ≡ l.role = subst (λ (y : Start). y.role ≡ l.role) same r.2 in
        record { start = s; found = e; role = role; first = first_behind f s t m.0; derives = subst (λ (y : Start). Derives fits y.rest left) same r.4; keywords = keywords_behind f l left s k m.0 role m.1 }

-- words that are derived, keywords where they can stand, are read with their roles
pub read_so : (ws : List Labelled) (f : Form) → KeywordsFirst f → Derives fits f ws → TakesKeywords f ws → labels fits f (words_of ws) ≡ ws
read_so [] f t d k = refl
read_so (l ∷ ws) f t d k =
    let x = found_for f l ws t d k in
    rw x.found (λ i. labelled (x.role i) l.word ∷ read_so ws x.start.rest x.first x.derives x.keywords i)

-- AND THE OTHER WAY

no_split : (before behind : List Labelled) (l : Labelled) → [] ≡ before ++ l ∷ behind → ⊥
no_split [] behind l e = cc
no_split (x ∷ before) behind l e = cc

module _ (f : Form) (w : Token) (left : List Token) (t : KeywordsFirst f) (s : Start) (found : start_with fits w (starts f) ≡ Some s) where
  takes_here : (l : Labelled) (r : Role) → labelled s.role w ≡ l → is_name l.role ≡ true → CanStand f [] r l.word → is_name r ≡ true
  takes_here l r head is c =
      let d = starts_all fits f (labelled r l.word) c.0 c.1 in
      let fit = subst (λ (z : Labelled). fits d.0.kind z.word ≡ true) (sym head) d.3 in
      elim (same_or_name f w s d.0 t found d.1 fit) [
        | inl same ↦ ap is_name (sym d.2) ∙ ap (λ (y : Start). is_name y.role) same ∙ ap (λ (z : Labelled). is_name z.role) head ∙ is
        | inr b ↦ absurd (not_name (is_name s.role) (is_name s.role) refl b.0 (ap (λ (z : Labelled). is_name z.role) head ∙ is))
      ]

  can_stand_behind : (x : Labelled) (before : List Labelled) (r : Role) (u : Token) → labelled s.role w ≡ x → CanStand f (x ∷ before) r u → CanStand s.rest before r u
  can_stand_behind x before r u head c =
      let d = starts_all fits f x (before ++ labelled r u ∷ c.0) c.1 in
      let fit = subst (λ (z : Labelled). fits d.0.kind z.word ≡ true) (sym head) d.3 in
      elim (same_or_name f w s d.0 t found d.1 fit) [
        | inl same ↦ (c.0, subst (λ (y : Start). Derives fits y.rest (before ++ labelled r u ∷ c.0)) same d.4)
        | inr b ↦ absurd (not_name (is_name s.role) (is_name s.role) refl b.0 (ap (λ (z : Labelled). is_name z.role) head ∙ ap is_name (sym d.2) ∙ b.1))
      ]

  takes_on : TakesKeywords s.rest (labels fits s.rest left) → TakesKeywords f (labelled s.role w ∷ labels fits s.rest left)
  takes_on rest [] l behind r e is c = let head : labelled s.role w ≡ l = cc in takes_here l r head is c
  takes_on rest (x ∷ before) l behind r e is c =
      let head : labelled s.role w ≡ x = cc in
      let tail : labels fits s.rest left ≡ before ++ l ∷ behind = cc in
      rest before l behind r tail is (can_stand_behind x before r l.word head c)

takes_by : (f : Form) (w : Token) (left : List Token) → KeywordsFirst f → (o : Option Start) → start_with fits w (starts f) ≡ o → ((s : Start) → KeywordsFirst s.rest → TakesKeywords s.rest (labels fits s.rest left))
    → TakesKeywords f (by_start o (λ s. labelled s.role w ∷ labels fits s.rest left) [])
takes_by f w left t None found rest = λ before l behind r e. absurd (no_split before behind l e)
takes_by f w left t (Some s) found rest = takes_on f w left t s found (rest s (first_behind f s t (start_found fits w (starts f) s found).0))

-- words that are read take keywords where they can stand
pub takes_keywords : (left : List Token) (f : Form) → KeywordsFirst f → TakesKeywords f (labels fits f left)
takes_keywords [] f t = λ before l behind r e. absurd (no_split before behind l e)
takes_keywords (w ∷ left) f t = takes_by f w left t (start_with fits w (starts f)) refl (λ s u. takes_keywords left s.rest u)
