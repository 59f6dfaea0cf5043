-- If the words that can continue a form are ranked, the start that derives the words is the one that is found, or comes after it.
use Rattle.std.proofs.Common.{◌≡◌, Bool, true, false, cond, not, ◌&&◌, List, [], ◌∷◌, ◌++◌, Some, map, refl, sym, ap, subst, ◌∙◌, ◌⊎◌, inl, inr}
use Rattle.std.specs.List.{list_all}
use Rattle.std.proofs.lemmas.Bool.{and_parts, or_cases}
use Rattle.dbtg_schema.specs.Texts.Forms.{Form, nothing, one, both, either, many, Start, starts, may_end, followed, followed_by, start_with}
use Rattle.dbtg_schema.proofs.Forms.Derived.{Among, among_append, among_map}
use Rattle.dbtg_schema.proofs.Forms.OneWay.{further, firsts, instead, is_told, all_apart}
use Rattle.dbtg_schema.proofs.Forms.Wanted.{among_left, among_right}

-- LISTS

in_true : {X : Type 0} (b : Bool) (x : X) (xs : List X) → b ≡ true → Among x xs → Among x (cond b xs [])
in_true true x xs h a = a
in_true false x xs h a = absurd cc

pub from_cond : {X : Type 0} (b : Bool) (x : X) (xs : List X) → Among x (cond b xs []) → (b ≡ true) × Among x xs
from_cond true x xs a = (refl, a)
from_cond false x xs a = absurd a

in_cond : {X : Type 0} (b : Bool) (x : X) (xs ys : List X) → (Among x xs → Among x ys) → Among x (cond b xs []) → Among x (cond b ys [])
in_cond true x xs ys h a = h a
in_cond false x xs ys h a = a

kind_among : {K R : Type 0} (s : Start K R) (ss : List (Start K R)) → Among s ss → Among s.kind (map (λ x. x.kind) ss)
kind_among s [] a = absurd a
kind_among {K} {R} s (x ∷ xs) (inl e) = inl (ap (λ (y : Start K R). y.kind) e)
kind_among s (x ∷ xs) (inr a) = inr (kind_among s xs a)

-- WHAT IS RANKED

module _ {K R : Type 0} (Before : K → K → Type 0) where
  -- each kind of the first list comes before each start of the second
  abbrev pub AreBefore : List K → List (Start K R) → Type 0
  AreBefore ks ss = (k : K) (s : Start K R) → Among k ks → Among s ss → Before k s.kind

  -- the first of two words that can continue the form comes before the second
  abbrev pub Ranked : Form K R → Type 0
  Ranked nothing = Unit {0}
  Ranked (one k r) = Unit {0}
  Ranked (both f g) = Ranked f × Ranked g × AreBefore (further f) (starts g)
  Ranked (either f g) = Ranked f × Ranked g × AreBefore (firsts f) (starts g)
  Ranked (many f) = Ranked f × AreBefore (further f) (starts f)

  -- each start comes before those after it
  abbrev pub InOrder : List (Start K R) → Type 0
  InOrder [] = Unit {0}
  InOrder (x ∷ xs) = ((s : Start K R) → Among s xs → Before x.kind s.kind) × InOrder xs

-- A TEST THAT RANKS

module _ {K R : Type 0} (before : K → K → Bool) where
  before_each : (j : K) (ss : List (Start K R)) → list_all (λ k. before j k) (map (λ s. s.kind) ss) ≡ true → (s : Start K R) → Among s ss → before j s.kind ≡ true
  before_each j [] h s a = absurd a
  before_each j (x ∷ xs) h s (inl e) = let p = and_parts (before j x.kind) (list_all (λ k. before j k) (map (λ s. s.kind) xs)) h in subst (λ (y : Start K R). before j y.kind ≡ true) (sym e) p.0
  before_each j (x ∷ xs) h s (inr a) = let p = and_parts (before j x.kind) (list_all (λ k. before j k) (map (λ s. s.kind) xs)) h in before_each j xs p.1 s a

  each_before : (js : List K) (ss : List (Start K R)) → all_apart before js (map (λ s. s.kind) ss) ≡ true → AreBefore (λ j k. before j k ≡ true) js ss
  each_before [] ss h k s a b = absurd a
  each_before (j ∷ js) ss h k s (inl e) b =
      let p = and_parts (list_all (λ k. before j k) (map (λ s. s.kind) ss)) (all_apart before js (map (λ s. s.kind) ss)) h in
      subst (λ (i : K). before i s.kind ≡ true) (sym e) (before_each j ss p.0 s b)
  each_before (j ∷ js) ss h k s (inr a) b =
      let p = and_parts (list_all (λ k. before j k) (map (λ s. s.kind) ss)) (all_apart before js (map (λ s. s.kind) ss)) h in
      each_before js ss p.1 k s a b

  pub ranked : (f : Form K R) → is_told before f ≡ true → Ranked (λ j k. before j k ≡ true) f
  ranked nothing t = tt
  ranked (one k r) t = tt
  ranked (both f g) t =
      let p = and_parts (is_told before f && is_told before g) (all_apart before (further f) (firsts g)) t in
      let q = and_parts (is_told before f) (is_told before g) p.0 in
      (ranked f q.0, ranked g q.1, each_before (further f) (starts g) p.1)
  ranked (either f g) t =
      let p = and_parts (is_told before f && is_told before g && all_apart before (firsts f) (firsts g)) (not (may_end f && may_end g)) t in
      let q = and_parts (is_told before f && is_told before g) (all_apart before (firsts f) (firsts g)) p.0 in
      let s = and_parts (is_told before f) (is_told before g) q.0 in
      (ranked f s.0, ranked g s.1, each_before (firsts f) (starts g) q.1)
  ranked (many f) t =
      let p = and_parts (is_told before f && not (may_end f)) (all_apart before (further f) (firsts f)) t in
      let q = and_parts (is_told before f) (not (may_end f)) p.0 in
      (ranked f q.0, each_before (further f) (starts f) p.1)

-- WHAT IS LEFT BEHIND A START IS RANKED

module _ {K R : Type 0} where
  further_followed : (r g : Form K R) (k : K) → Among k (further (followed r g)) → Among k (further (both r g))
  further_followed nothing g k a = among_left k (further g) (cond (may_end g) [] []) a
  further_followed (one c r) g k a = a
  further_followed (both f h) g k a = a
  further_followed (either f h) g k a = a
  further_followed (many f) g k a = a

  behind_front : (f g r : Form K R) (k : K) → (Among k (further r) → Among k (further f)) → Among k (further (followed r g)) → Among k (further (both f g))
  behind_front f g r k h a = elim (among_append k (further g) (cond (may_end g) (further r) []) (further_followed r g k a)) [
    | inl b ↦ among_left k (further g) (cond (may_end g) (further f) []) b
    | inr b ↦ among_right k (further g) (cond (may_end g) (further f) []) (in_cond (may_end g) k (further r) (further f) h b)
  ]

  -- what is left behind a start goes on with nothing else
  further_rest : (f : Form K R) (s : Start K R) → Among s (starts f) → (k : K) → Among k (further s.rest) → Among k (further f)
  further_rest nothing s h k a = absurd h
  further_rest (one c r) s (inl e) k a = subst (λ (y : Start K R). Among k (further y.rest)) e a
  further_rest (one c r) s (inr h) k a = absurd h
  further_rest (both f g) s h k a = elim (among_append s (map (followed_by g) (starts f)) (cond (may_end f) (starts g) []) h) [
    | inl b ↦ let m = among_map (followed_by g) s (starts f) b in behind_front f g m.0.rest k (λ c. further_rest f m.0 m.2 k c) (subst (λ (y : Start K R). Among k (further y.rest)) m.1 a)
    | inr b ↦ among_left k (further g) (cond (may_end g) (further f) []) (further_rest g s (from_cond (may_end f) s (starts g) b).1 k a)
  ]
  further_rest (either f g) s h k a = among_left k (further f ++ further g) (instead f g ++ instead g f) (elim (among_append s (starts f) (starts g) h) [
    | inl b ↦ among_left k (further f) (further g) (further_rest f s b k a)
    | inr b ↦ among_right k (further f) (further g) (further_rest g s b k a)
  ])
  further_rest (many f) s h k a =
      let m = among_map (followed_by (many f)) s (starts f) h in
      elim (among_append k (further f ++ firsts f) (further m.0.rest) (further_followed m.0.rest (many f) k (subst (λ (y : Start K R). Among k (further y.rest)) m.1 a))) [
        | inl b ↦ b
        | inr b ↦ among_left k (further f) (firsts f) (further_rest f m.0 m.2 k b)
      ]

module _ {K R : Type 0} (Before : K → K → Type 0) where
  ranked_followed : (r g : Form K R) → Ranked Before r → Ranked Before g → AreBefore Before (further r) (starts g) → Ranked Before (followed r g)
  ranked_followed nothing g a b c = b
  ranked_followed (one k r) g a b c = (a, b, c)
  ranked_followed (both f h) g a b c = (a, b, c)
  ranked_followed (either f h) g a b c = (a, b, c)
  ranked_followed (many f) g a b c = (a, b, c)

  -- a start that goes on with a form comes where it came
  before_followed : (g : Form K R) (k : K) (s : Start K R) (ss : List (Start K R)) → Among s (map (followed_by g) ss) → ((x : Start K R) → Among x ss → Before k x.kind) → Before k s.kind
  before_followed g k s ss a h = let m = among_map (followed_by g) s ss a in subst (λ (y : Start K R). Before k y.kind) (sym m.1) (h m.0 m.2)

  pub ranked_rest : (f : Form K R) → Ranked Before f → (s : Start K R) → Among s (starts f) → Ranked Before s.rest
  ranked_rest nothing t s h = absurd h
  ranked_rest (one k r) t s (inl e) = subst (λ (y : Start K R). Ranked Before y.rest) (sym e) tt
  ranked_rest (one k r) t s (inr h) = absurd h
  ranked_rest (both f g) t s h = elim (among_append s (map (followed_by g) (starts f)) (cond (may_end f) (starts g) []) h) [
    | inl b ↦
        let m = among_map (followed_by g) s (starts f) b in
        subst (λ (y : Start K R). Ranked Before y.rest) (sym m.1) (ranked_followed m.0.rest g (ranked_rest f t.0 m.0 m.2) t.1 (λ k x a c. t.2 k x (further_rest f m.0 m.2 k a) c))
    | inr b ↦ ranked_rest g t.1 s (from_cond (may_end f) s (starts g) b).1
  ]
  ranked_rest (either f g) t s h = elim (among_append s (starts f) (starts g) h) [ inl b ↦ ranked_rest f t.0 s b | inr b ↦ ranked_rest g t.1 s b ]
  ranked_rest (many f) t s h =
      let m = among_map (followed_by (many f)) s (starts f) h in
      subst (λ (y : Start K R). Ranked Before y.rest) (sym m.1)
      (ranked_followed m.0.rest (many f) (ranked_rest f t.0 m.0 m.2) t (λ k x a c. before_followed (many f) k x (starts f) c (λ y d. t.1 k y (further_rest f m.0 m.2 k a) d)))

-- STARTS ARE IN ORDER

module _ {K R : Type 0} where
  -- a form that may end goes on with what it can begin with
  further_first : (f : Form K R) → may_end f ≡ true → (s : Start K R) → Among s (starts f) → Among s.kind (further f)
  further_first nothing t s h = absurd h
  further_first (one k r) t s h = absurd cc
  further_first (both f g) t s h =
      let p = and_parts (may_end f) (may_end g) t in
      elim (among_append s (map (followed_by g) (starts f)) (cond (may_end f) (starts g) []) h) [
        | inl b ↦
            let m = among_map (followed_by g) s (starts f) b in
            among_right s.kind (further g) (cond (may_end g) (further f) []) (in_true (may_end g) s.kind (further f) p.1 (subst (λ (y : Start K R). Among y.kind (further f)) (sym m.1) (further_first f p.0 m.0 m.2)))
        | inr b ↦ among_left s.kind (further g) (cond (may_end g) (further f) []) (further_first g p.1 s (from_cond (may_end f) s (starts g) b).1)
      ]
  further_first (either f g) t s h = elim (among_append s (starts f) (starts g) h) [
    | inl b ↦ elim (or_cases (may_end f) (may_end g) t) [
      | inl c ↦ among_left s.kind (further f ++ further g) (instead f g ++ instead g f) (among_left s.kind (further f) (further g) (further_first f c s b))
      | inr c ↦ among_right s.kind (further f ++ further g) (instead f g ++ instead g f) (among_right s.kind (instead f g) (instead g f) (in_true (may_end g) s.kind (firsts f) c (kind_among s (starts f) b)))
    ]
    | inr b ↦ elim (or_cases (may_end f) (may_end g) t) [
      | inl c ↦ among_right s.kind (further f ++ further g) (instead f g ++ instead g f) (among_left s.kind (instead f g) (instead g f) (in_true (may_end f) s.kind (firsts g) c (kind_among s (starts g) b)))
      | inr c ↦ among_left s.kind (further f ++ further g) (instead f g ++ instead g f) (among_right s.kind (further f) (further g) (further_first g c s b))
    ]
  ]
  further_first (many f) t s h =
      let m = among_map (followed_by (many f)) s (starts f) h in
      among_right s.kind (further f) (firsts f) (subst (λ (y : Start K R). Among y.kind (firsts f)) (sym m.1) (kind_among m.0 (starts f) m.2))

module _ {K R : Type 0} (Before : K → K → Type 0) where
  order_append : (xs ys : List (Start K R)) → InOrder Before xs → InOrder Before ys → ((x y : Start K R) → Among x xs → Among y ys → Before x.kind y.kind) → InOrder Before (xs ++ ys)
  order_append [] ys a b c = b
  order_append (x ∷ xs) ys a b c = (λ s h. elim (among_append s xs ys h) [ inl m ↦ a.0 s m | inr m ↦ c x s (inl refl) m ], order_append xs ys a.1 b (λ u v m n. c u v (inr m) n))

  order_map : (g : Form K R) (xs : List (Start K R)) → InOrder Before xs → InOrder Before (map (followed_by g) xs)
  order_map g [] a = tt
  order_map g (x ∷ xs) a = (λ s h. before_followed Before g x.kind s xs h a.0, order_map g xs a.1)

  order_where : (b : Bool) (xs : List (Start K R)) → InOrder Before xs → InOrder Before (cond b xs [])
  order_where true xs a = a
  order_where false xs a = tt

  pub in_order : (f : Form K R) → Ranked Before f → InOrder Before (starts f)
  in_order nothing t = tt
  in_order (one k r) t = (λ s h. absurd h, tt)
  in_order (both f g) t = order_append (map (followed_by g) (starts f)) (cond (may_end f) (starts g) []) (order_map g (starts f) (in_order f t.0)) (order_where (may_end f) (starts g) (in_order g t.1)) (λ x y a b.
      let m = among_map (followed_by g) x (starts f) a in
      let c = from_cond (may_end f) y (starts g) b in
      subst (λ (z : Start K R). Before z.kind y.kind) (sym m.1) (t.2 m.0.kind y (further_first f c.0 m.0 m.2) c.1))
  in_order (either f g) t = order_append (starts f) (starts g) (in_order f t.0) (in_order g t.1) (λ x y a b. t.2 x.kind y (kind_among x (starts f) a) b)
  in_order (many f) t = order_map (many f) (starts f) (in_order f t.0)

module _ {K R W : Type 0} (fits : K → W → Bool) (Before : K → K → Type 0) where
  chosen_at : (w : W) (x : Start K R) (xs : List (Start K R)) (found s : Start K R) (b : Bool) → fits x.kind w ≡ b → cond b (Some x) (start_with fits w xs) ≡ Some found → (s ≡ x) ⊎ Among s xs → fits s.kind w ≡ true
      → ((y : Start K R) → Among y xs → Before x.kind y.kind) → (start_with fits w xs ≡ Some found → Among s xs → (s ≡ found) ⊎ Before found.kind s.kind) → (s ≡ found) ⊎ Before found.kind s.kind
  chosen_at w x xs found s true h e (inl m) t o rest = let same : x ≡ found = cc in inl (m ∙ same)
  chosen_at w x xs found s true h e (inr m) t o rest = let same : x ≡ found = cc in inr (subst (λ (y : Start K R). Before y.kind s.kind) same (o s m))
  chosen_at w x xs found s false h e (inl m) t o rest = absurd (let k = subst (λ (y : Start K R). fits y.kind w ≡ true) m t in cc)
  chosen_at w x xs found s false h e (inr m) t o rest = rest e m

  -- a start that a word fits is the one that is found for it, or comes after it
  pub chosen : (w : W) (ss : List (Start K R)) → InOrder Before ss → (found s : Start K R) → start_with fits w ss ≡ Some found → Among s ss → fits s.kind w ≡ true → (s ≡ found) ⊎ Before found.kind s.kind
  chosen w [] o found s e a t = absurd a
  chosen w (x ∷ xs) o found s e a t = chosen_at w x xs found s (fits x.kind w) refl e a t o.0 (λ h m. chosen w xs o.1 found s h m t)
