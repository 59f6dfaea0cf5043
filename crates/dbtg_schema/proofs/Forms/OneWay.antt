-- Two readings of a form over the same words. If the next word always tells how the form goes on, they are one, or a word follows that could have continued the form.
use Rattle.std.proofs.Common.{◌≡◌, Bool, true, false, cond, not, ◌&&◌, List, [], ◌∷◌, ◌++◌, map, refl, sym, ap, subst, ◌∙◌, ◌⊎◌, inl, inr}
use Rattle.std.specs.List.{flat_map, list_any, list_all, AllByRecursion}
use Rattle.std.proofs.lemmas.Bool.{and_parts, or_cases, or_left, or_right, not-true}
use Rattle.std.proofs.lemmas.List.Folds.{list_any-append}
use Rattle.dbtg_schema.specs.Texts.Forms.{Form, nothing, one, both, either, many, Start, starts, may_end, Labelled, labelled, Derives}
use Rattle.dbtg_schema.proofs.Forms.Derived.{Among}
use Rattle.dbtg_schema.proofs.Forms.Wanted.{ended, starts_all}

-- the kinds of the words with which a form can begin
abbrev pub firsts : {K R : Type 0} → Form K R → List K
firsts f = map (λ s. s.kind) (starts f)

-- the kinds of the words with which the second form can begin where the first is nothing
abbrev pub instead : {K R : Type 0} → Form K R → Form K R → List K
instead f g = cond (may_end f) (firsts g) []

-- the kinds of the words with which a form can go on where it could have ended
abbrev pub further : {K R : Type 0} → Form K R → List K
further nothing = []
further (one k r) = []
further (both f g) = further g ++ cond (may_end g) (further f) []
further (either f g) = (further f ++ further g) ++ (instead f g ++ instead g f)
further (many f) = further f ++ firsts f

-- no word is of a kind of both lists, by a test that tells two kinds apart
abbrev pub all_apart : {K : Type 0} → (K → K → Bool) → List K → List K → Bool
all_apart apart js ks = list_all (λ j. list_all (λ k. apart j k) ks) js

-- the next word tells how the form goes on, at each place
abbrev pub is_told : {K R : Type 0} → (K → K → Bool) → Form K R → Bool
is_told apart nothing = true
is_told apart (one k r) = true
is_told apart (both f g) = is_told apart f && is_told apart g && all_apart apart (further f) (firsts g)
is_told apart (either f g) = is_told apart f && is_told apart g && all_apart apart (firsts f) (firsts g) && not (may_end f && may_end g)
is_told apart (many f) = is_told apart f && not (may_end f) && all_apart apart (further f) (firsts f)

-- the words of labelled words
abbrev pub words_of : {R W : Type 0} → List (Labelled W R) → List W
words_of ws = map (λ l. l.word) ws

-- the words of two parts, and what is left behind them
pub in_parts : {R W : Type 0} (xs ys : List (Labelled W R)) (left : List W) → words_of (xs ++ ys) ++ left ≡ words_of xs ++ (words_of ys ++ left)
in_parts [] ys left = refl
in_parts {R} {W} (x ∷ xs) ys left = ap (λ (z : List W). x.word ∷ z) (in_parts xs ys left)

module _ {K W : Type 0} (fits : K → W → Bool) where
  -- the word is of one of these kinds
  abbrev pub is_one : List K → W → Bool
  is_one ks w = list_any (λ k. fits k w) ks

  -- the next word is of one of these kinds
  abbrev pub meets : List K → List W → Bool
  meets ks [] = false
  meets ks (w ∷ ws) = is_one ks w

  meets_left : (js ks : List K) (ws : List W) → meets js ws ≡ true → meets (js ++ ks) ws ≡ true
  meets_left js ks [] h = h
  meets_left js ks (w ∷ ws) h = list_any-append (λ k. fits k w) js ks ∙ or_left (is_one js w) (is_one ks w) h

  meets_right : (js ks : List K) (ws : List W) → meets ks ws ≡ true → meets (js ++ ks) ws ≡ true
  meets_right js ks [] h = h
  meets_right js ks (w ∷ ws) h = list_any-append (λ k. fits k w) js ks ∙ or_right (is_one js w) (is_one ks w) h

  meets_where : (b : Bool) (ks : List K) (ws : List W) → b ≡ true → meets ks ws ≡ true → meets (cond b ks []) ws ≡ true
  meets_where b ks ws t h = rw t h

  -- no word is of a kind of both lists
  abbrev pub Apart : List K → List K → Type 0
  Apart js ks = (w : W) → is_one js w ≡ true → is_one ks w ≡ true → ⊥

module _ {K R W : Type 0} (fits : K → W → Bool) where
  is_among : (w : W) (s : Start K R) (ss : List (Start K R)) → Among s ss → fits s.kind w ≡ true → is_one fits (map (λ s. s.kind) ss) w ≡ true
  is_among w s [] h t = absurd h
  is_among w s (x ∷ xs) (inl e) t = or_left (fits x.kind w) (is_one fits (map (λ s. s.kind) xs) w) (subst (λ (y : Start K R). fits y.kind w ≡ true) e t)
  is_among w s (x ∷ xs) (inr h) t = or_right (fits x.kind w) (is_one fits (map (λ s. s.kind) xs) w) (is_among w s xs h t)

  -- what is derived begins with a word that the form can begin with
  pub begins : (f : Form K R) (l : Labelled W R) (ws : List (Labelled W R)) → Derives fits f (l ∷ ws) → is_one fits (firsts f) l.word ≡ true
  begins f l ws d = let r = starts_all fits f l ws d in is_among l.word r.0 (starts f) r.1 r.3

  -- what two readings of the same words come to, with what each leaves
  abbrev pub Alike : Form K R → List (Labelled W R) → List W → List (Labelled W R) → List W → Type 0
  Alike f xs left ys rest = ((xs ≡ ys) × (left ≡ rest)) ⊎ ((meets fits (further f) left ≡ true) ⊎ (meets fits (further f) rest ≡ true))

  -- the second part is nothing, and the first could go on
  passed : (f g : Form K R) (ys : List (Labelled W R)) (left : List W) → Apart fits (further f) (firsts g) → Derives fits g ys → meets fits (further f) (words_of ys ++ left) ≡ true → meets fits (further (both f g)) left ≡ true
  passed f g [] left differ d h = meets_right fits (further g) (cond (may_end g) (further f) []) left (meets_where fits (may_end g) (further f) left (ended fits g d) h)
  passed f g (l ∷ ys) left differ d h = absurd (differ l.word h (begins g l ys d))

  both_alike : (f g : Form K R) (xs ys : List (Labelled W R)) (left rest : List W) → Apart fits (further f) (firsts g)
      → ((us vs : List (Labelled W R)) (a b : List W) → words_of us ++ a ≡ words_of vs ++ b → Derives fits f us → Derives fits f vs → Alike f us a vs b)
      → ((us vs : List (Labelled W R)) (a b : List W) → words_of us ++ a ≡ words_of vs ++ b → Derives fits g us → Derives fits g vs → Alike g us a vs b)
      → words_of xs ++ left ≡ words_of ys ++ rest → Derives fits (both f g) xs → Derives fits (both f g) ys → Alike (both f g) xs left ys rest
  both_alike f g xs ys left rest differ same_f same_g e d c =
      let shape = sym (in_parts d.0 d.1 left) ∙ sym (ap (λ (z : List (Labelled W R)). words_of z ++ left) d.2) ∙ e ∙ ap (λ (z : List (Labelled W R)). words_of z ++ rest) c.2 ∙ in_parts c.0 c.1 rest in
      elim (same_f d.0 c.0 (words_of d.1 ++ left) (words_of c.1 ++ rest) shape d.3 c.3) [
        | inl p ↦ elim (same_g d.1 c.1 left rest p.1 d.4 c.4) [
          | inl q ↦ inl (d.2 ∙ (λ i. p.0 i ++ q.0 i) ∙ sym c.2, q.1)
          | inr m ↦ inr (elim m [
            | inl a ↦ inl (meets_left fits (further g) (cond (may_end g) (further f) []) left a)
            | inr b ↦ inr (meets_left fits (further g) (cond (may_end g) (further f) []) rest b)
          ])
        ]
        | inr m ↦ inr (elim m [
          | inl a ↦ inl (passed f g d.1 left differ d.4 a)
          | inr b ↦ inr (passed f g c.1 rest differ c.4 b)
        ])
      ]

  -- one reading by each of two forms
  crossed : (f g : Form K R) (xs ys : List (Labelled W R)) (left rest : List W) → Apart fits (firsts f) (firsts g) → words_of xs ++ left ≡ words_of ys ++ rest → Derives fits f xs → Derives fits g ys
      → ((xs ≡ ys) × (left ≡ rest)) ⊎ ((meets fits (instead f g) left ≡ true) ⊎ (meets fits (instead g f) rest ≡ true))
  crossed f g [] [] left rest differ e d c = inl (refl, e)
  crossed f g [] (l ∷ ys) left rest differ e d c =
      inr (inl (meets_where fits (may_end f) (firsts g) left (ended fits f d) (subst (λ (z : List W). meets fits (firsts g) z ≡ true) (sym e) (begins g l ys c))))
  crossed f g (l ∷ xs) [] left rest differ e d c =
      inr (inr (meets_where fits (may_end g) (firsts f) rest (ended fits g c) (subst (λ (z : List W). meets fits (firsts f) z ≡ true) e (begins f l xs d))))
  crossed f g (l ∷ xs) (m ∷ ys) left rest differ e d c = let same : l.word ≡ m.word = cc in absurd (differ m.word (subst (λ (w : W). is_one fits (firsts f) w ≡ true) same (begins f l xs d)) (begins g m ys c))

  either_alike : (f g : Form K R) (xs ys : List (Labelled W R)) (left rest : List W) → Apart fits (firsts f) (firsts g)
      → ((us vs : List (Labelled W R)) (a b : List W) → words_of us ++ a ≡ words_of vs ++ b → Derives fits f us → Derives fits f vs → Alike f us a vs b)
      → ((us vs : List (Labelled W R)) (a b : List W) → words_of us ++ a ≡ words_of vs ++ b → Derives fits g us → Derives fits g vs → Alike g us a vs b)
      → words_of xs ++ left ≡ words_of ys ++ rest → Derives fits (either f g) xs → Derives fits (either f g) ys → Alike (either f g) xs left ys rest
  either_alike f g xs ys left rest differ same_f same_g e d c = told d c where
    goes_on : (ws : List W) → (meets fits (further f) ws ≡ true) ⊎ (meets fits (further g) ws ≡ true) → meets fits (further (either f g)) ws ≡ true
    goes_on ws h = meets_left fits (further f ++ further g) (instead f g ++ instead g f) ws (elim h [ inl a ↦ meets_left fits (further f) (further g) ws a | inr b ↦ meets_right fits (further f) (further g) ws b ])

    begins_now : (ws : List W) → (meets fits (instead f g) ws ≡ true) ⊎ (meets fits (instead g f) ws ≡ true) → meets fits (further (either f g)) ws ≡ true
    begins_now ws h = meets_right fits (further f ++ further g) (instead f g ++ instead g f) ws (elim h [ inl a ↦ meets_left fits (instead f g) (instead g f) ws a | inr b ↦ meets_right fits (instead f g) (instead g f) ws b ])

    told : Derives fits f xs ⊎ Derives fits g xs → Derives fits f ys ⊎ Derives fits g ys → Alike (either f g) xs left ys rest
    told (inl a) (inl b) = elim (same_f xs ys left rest e a b) [ inl p ↦ inl p | inr m ↦ inr (elim m [ inl h ↦ inl (goes_on left (inl h)) | inr h ↦ inr (goes_on rest (inl h)) ]) ]
    told (inl a) (inr b) = elim (crossed f g xs ys left rest differ e a b) [ inl p ↦ inl p | inr m ↦ inr (elim m [ inl h ↦ inl (begins_now left (inl h)) | inr h ↦ inr (begins_now rest (inr h)) ]) ]
    told (inr a) (inl b) = elim (crossed g f xs ys left rest (λ w h k. differ w k h) e a b) [ inl p ↦ inl p | inr m ↦ inr (elim m [ inl h ↦ inl (begins_now left (inr h)) | inr h ↦ inr (begins_now rest (inl h)) ]) ]
    told (inr a) (inr b) = elim (same_g xs ys left rest e a b) [ inl p ↦ inl p | inr m ↦ inr (elim m [ inl h ↦ inl (goes_on left (inr h)) | inr h ↦ inr (goes_on rest (inr h)) ]) ]

  -- the words of all parts
  abbrev pub joined : List (List (Labelled W R)) → List (Labelled W R)
  joined parts = flat_map (λ part. part) parts

  -- after one part the next begins
  next_part : (f : Form K R) (ps : List (List (Labelled W R))) (left : List W) → may_end f ≡ false → Apart fits (further f) (firsts f) → AllByRecursion (Derives fits f) ps
      → meets fits (further f) (words_of (joined ps) ++ left) ≡ true → meets fits (further (many f)) left ≡ true
  next_part f [] left some differ all h = meets_left fits (further f) (firsts f) left h
  next_part f ([] ∷ ps) left some differ all h = absurd (let t = ended fits f all.0 in cc)
  next_part f ((l ∷ p) ∷ ps) left some differ all h = absurd (differ l.word h (begins f l p all.0))

  pub parts_alike : (f : Form K R) (ps qs : List (List (Labelled W R))) (left rest : List W) → may_end f ≡ false → Apart fits (further f) (firsts f)
      → ((us vs : List (Labelled W R)) (a b : List W) → words_of us ++ a ≡ words_of vs ++ b → Derives fits f us → Derives fits f vs → Alike f us a vs b)
      → words_of (joined ps) ++ left ≡ words_of (joined qs) ++ rest → AllByRecursion (Derives fits f) ps → AllByRecursion (Derives fits f) qs
      → ((ps ≡ qs) × (left ≡ rest)) ⊎ ((meets fits (further (many f)) left ≡ true) ⊎ (meets fits (further (many f)) rest ≡ true))
  parts_alike f [] [] left rest some differ same e d c = inl (refl, e)
  parts_alike f [] ([] ∷ qs) left rest some differ same e d c = absurd (let t = ended fits f c.0 in cc)
  parts_alike f [] ((l ∷ q) ∷ qs) left rest some differ same e d c =
      inr (inl (meets_right fits (further f) (firsts f) left (subst (λ (z : List W). meets fits (firsts f) z ≡ true) (sym e) (begins f l q c.0))))
  parts_alike f ([] ∷ ps) qs left rest some differ same e d c = absurd (let t = ended fits f d.0 in cc)
  parts_alike f ((l ∷ p) ∷ ps) [] left rest some differ same e d c =
      inr (inr (meets_right fits (further f) (firsts f) rest (subst (λ (z : List W). meets fits (firsts f) z ≡ true) e (begins f l p d.0))))
  parts_alike f ((l ∷ p) ∷ ps) (q ∷ qs) left rest some differ same e d c =
      let shape = sym (in_parts (l ∷ p) (joined ps) left) ∙ e ∙ in_parts q (joined qs) rest in
      elim (same (l ∷ p) q (words_of (joined ps) ++ left) (words_of (joined qs) ++ rest) shape d.0 c.0) [
        | inl h ↦ elim (parts_alike f ps qs left rest some differ same h.1 d.1 c.1) [
          | inl k ↦ inl ((λ i. h.0 i ∷ k.0 i), k.1)
          | inr m ↦ inr m
        ]
        | inr m ↦ inr (elim m [
          | inl a ↦ inl (next_part f ps left some differ d.1 a)
          | inr b ↦ inr (next_part f qs rest some differ c.1 b)
        ])
      ]

  one_alike : (k : K) (r : R) (xs ys : List (Labelled W R)) (left rest : List W) → words_of xs ++ left ≡ words_of ys ++ rest → Derives fits (one k r) xs → Derives fits (one k r) ys → Alike (one k r) xs left ys rest
  one_alike k r xs ys left rest e d c =
      let shape : d.0 ∷ left ≡ c.0 ∷ rest = sym (ap (λ (z : List (Labelled W R)). words_of z ++ left) d.1) ∙ e ∙ ap (λ (z : List (Labelled W R)). words_of z ++ rest) c.1 in
      let word : d.0 ≡ c.0 = cc in
      let tail : left ≡ rest = cc in
      inl (d.1 ∙ ap (λ (w : W). labelled r w ∷ []) word ∙ sym c.1, tail)

module _ {K W : Type 0} (fits : K → W → Bool) (apart : K → K → Bool) (told_apart : (j k : K) (w : W) → apart j k ≡ true → fits j w ≡ true → fits k w ≡ true → ⊥) where
  one_apart : (j : K) (ks : List K) (w : W) → list_all (λ k. apart j k) ks ≡ true → fits j w ≡ true → is_one fits ks w ≡ true → ⊥
  one_apart j [] w h t m = absurd cc
  one_apart j (k ∷ ks) w h t m = let p = and_parts (apart j k) (list_all (λ k. apart j k) ks) h in elim (or_cases (fits k w) (is_one fits ks w) m) [ inl s ↦ told_apart j k w p.0 t s | inr n ↦ one_apart j ks w p.1 t n ]

  pub are_apart : (js ks : List K) → all_apart apart js ks ≡ true → Apart fits js ks
  are_apart [] ks h w t m = absurd cc
  are_apart (j ∷ js) ks h w t m =
      let p = and_parts (list_all (λ k. apart j k) ks) (all_apart apart js ks) h in
      elim (or_cases (fits j w) (is_one fits js w) t) [ inl s ↦ one_apart j ks w p.0 s m | inr n ↦ are_apart js ks p.1 w n m ]

module _ {K R W : Type 0} (fits : K → W → Bool) (apart : K → K → Bool) (told_apart : (j k : K) (w : W) → apart j k ≡ true → fits j w ≡ true → fits k w ≡ true → ⊥) where
  -- two readings of the same words are one, or a word follows that could have continued the form
  pub alike : (f : Form K R) → is_told apart f ≡ true → (xs ys : List (Labelled W R)) (left rest : List W) → words_of xs ++ left ≡ words_of ys ++ rest → Derives fits f xs → Derives fits f ys → Alike fits f xs left ys rest
  alike nothing t xs ys left rest e d c = inl (d ∙ sym c, sym (ap (λ (z : List (Labelled W R)). words_of z ++ left) d) ∙ e ∙ ap (λ (z : List (Labelled W R)). words_of z ++ rest) c)
  alike (one k r) t xs ys left rest e d c = one_alike fits k r xs ys left rest e d c
  alike (both f g) t xs ys left rest e d c =
      let p = and_parts (is_told apart f && is_told apart g) (all_apart apart (further f) (firsts g)) t in
      let q = and_parts (is_told apart f) (is_told apart g) p.0 in
      both_alike fits f g xs ys left rest (are_apart fits apart told_apart (further f) (firsts g) p.1) (alike f q.0) (alike g q.1) e d c
  alike (either f g) t xs ys left rest e d c =
      let p = and_parts (is_told apart f && is_told apart g && all_apart apart (firsts f) (firsts g)) (not (may_end f && may_end g)) t in
      let q = and_parts (is_told apart f && is_told apart g) (all_apart apart (firsts f) (firsts g)) p.0 in
      let s = and_parts (is_told apart f) (is_told apart g) q.0 in
      either_alike fits f g xs ys left rest (are_apart fits apart told_apart (firsts f) (firsts g) q.1) (alike f s.0) (alike g s.1) e d c
  alike (many f) t xs ys left rest e d c =
      let p = and_parts (is_told apart f && not (may_end f)) (all_apart apart (further f) (firsts f)) t in
      let q = and_parts (is_told apart f) (not (may_end f)) p.0 in
      let shape = sym (ap (λ (z : List (Labelled W R)). words_of z ++ left) d.1) ∙ e ∙ ap (λ (z : List (Labelled W R)). words_of z ++ rest) c.1 in
      elim (parts_alike fits f d.0 c.0 left rest (not-true (may_end f) q.1) (are_apart fits apart told_apart (further f) (firsts f) p.1) (alike f q.0) shape d.2 c.2) [
        | inl h ↦ inl (d.1 ∙ ap (joined fits) h.0 ∙ sym c.1, h.1)
        | inr m ↦ inr m
      ]
