-- Where no start fits a word, no derivation goes on with it.
use Rattle.std.proofs.Common.{◌≡◌, Bool, true, false, cond, List, [], ◌∷◌, ◌++◌, Some, None, map, refl, sym, ap, subst, ◌∙◌, ◌⊎◌, inl, inr}
use Rattle.std.specs.List.{flat_map, AllByRecursion}
use Rattle.std.proofs.lemmas.Bool.{or_left, or_right, and_from}
use Rattle.dbtg_schema.specs.Texts.Forms.{Form, nothing, one, both, either, many, Start, starts, may_end, followed_by, Labelled, labelled, start_with, Derives}
use Rattle.dbtg_schema.proofs.Forms.Derived.{Among}

pub among_left : {S : Type 0} (s : S) (xs ys : List S) → Among s xs → Among s (xs ++ ys)
among_left s [] ys h = absurd h
among_left s (x ∷ xs) ys (inl e) = inl e
among_left s (x ∷ xs) ys (inr h) = inr (among_left s xs ys h)

pub among_right : {S : Type 0} (s : S) (xs ys : List S) → Among s ys → Among s (xs ++ ys)
among_right s [] ys h = h
among_right s (x ∷ xs) ys h = inr (among_right s xs ys h)

among_mapped : {S : Type 0} (f : S → S) (s : S) (xs : List S) → Among s xs → Among (f s) (map f xs)
among_mapped f s [] h = absurd h
among_mapped f s (x ∷ xs) (inl e) = inl (ap f e)
among_mapped f s (x ∷ xs) (inr h) = inr (among_mapped f s xs h)

split_nil : {X : Type 0} (a b : List X) → [] ≡ a ++ b → (a ≡ []) × (b ≡ [])
split_nil [] b e = (refl, sym e)
split_nil (x ∷ a) b e = absurd cc

module _ {K R W : Type 0} (fits : K → W → Bool) where
  joined : (g : Form K R) (s : Start K R) (front back : List (Labelled W R)) → Derives fits s.rest front → Derives fits g back → Derives fits (followed_by g s).rest (front ++ back)
  joined g s front back d dg = elim s.rest as (λ x. Derives fits x front → Derives fits (followed_by g (record s { rest = x })).rest (front ++ back)) [
    | nothing ↦ λ e. subst (λ (z : List (Labelled W R)). Derives fits g (z ++ back)) (sym e) dg
    | one k r ↦ λ e. (front, back, refl, e, dg)
    | both a b ↦ λ e. (front, back, refl, e, dg)
    | either a b ↦ λ e. (front, back, refl, e, dg)
    | many a ↦ λ e. (front, back, refl, e, dg)
  ] d

  pub ended : (f : Form K R) → Derives {K = K} {R = R} {W = W} fits f [] → may_end f ≡ true
  ended nothing d = refl
  ended (one k r) d = absurd (let e = d.1 in cc)
  ended (both f g) d = let p = split_nil d.0 d.1 d.2 in and_from (may_end f) (may_end g) (ended f (subst (Derives fits f) p.0 d.3)) (ended g (subst (Derives fits g) p.1 d.4))
  ended (either f g) (inl d) = or_left (may_end f) (may_end g) (ended f d)
  ended (either f g) (inr d) = or_right (may_end f) (may_end g) (ended g d)
  ended (many f) d = refl

  -- a start that fits the first word, and whose rest derives the others
  abbrev pub Begins : Form K R → Labelled W R → List (Labelled W R) → Type 0
  Begins f l ws = (s : Start K R) × Among s (starts f) × (s.role ≡ l.role) × (fits s.kind l.word ≡ true) × Derives fits s.rest ws

  both_starts : (f g : Form K R) (l : Labelled W R) (ws front back : List (Labelled W R)) → l ∷ ws ≡ front ++ back → Derives fits f front → Derives fits g back
      → ((m : Labelled W R) (vs : List (Labelled W R)) → Derives fits f (m ∷ vs) → Begins f m vs) → ((m : Labelled W R) (vs : List (Labelled W R)) → Derives fits g (m ∷ vs) → Begins g m vs) → Begins (both f g) l ws
  both_starts f g l ws [] back e df dg sf sg =
      let r = sg l ws (subst (Derives fits g) (sym e) dg) in
      (r.0, among_right r.0 (map (followed_by g) (starts f)) (cond (may_end f) (starts g) []) (subst (λ (b : Bool). Among r.0 (cond b (starts g) [])) (sym (ended f df)) r.1), r.2, r.3, r.4)
  both_starts f g l ws (m ∷ front) back e df dg sf sg =
      let head : l ≡ m = cc in
      let tail : ws ≡ front ++ back = cc in
      let r = sf m front df in (
        followed_by g r.0,
        among_left (followed_by g r.0) (map (followed_by g) (starts f)) (cond (may_end f) (starts g) []) (among_mapped (followed_by g) r.0 (starts f) r.1),
        r.2 ∙ sym (ap (λ (z : Labelled W R). z.role) head),
        subst (λ (z : Labelled W R). fits r.0.kind z.word ≡ true) (sym head) r.3,
        subst (λ (z : List (Labelled W R)). Derives fits (followed_by g r.0).rest z) (sym tail) (joined g r.0 front back r.4 dg),
      )

  many_starts : (f : Form K R) (l : Labelled W R) (ws : List (Labelled W R)) (parts : List (List (Labelled W R))) → l ∷ ws ≡ flat_map (λ part. part) parts → AllByRecursion (Derives fits f) parts
      → ((m : Labelled W R) (vs : List (Labelled W R)) → Derives fits f (m ∷ vs) → Begins f m vs) → Begins (many f) l ws
  many_starts f l ws [] e all sf = absurd cc
  many_starts f l ws ([] ∷ parts) e all sf = many_starts f l ws parts e all.1 sf
  many_starts f l ws ((m ∷ part) ∷ parts) e all sf =
      let head : l ≡ m = cc in
      let tail : ws ≡ part ++ flat_map (λ part. part) parts = cc in
      let r = sf m part all.0 in (
        followed_by (many f) r.0,
        among_mapped (followed_by (many f)) r.0 (starts f) r.1,
        r.2 ∙ sym (ap (λ (z : Labelled W R). z.role) head),
        subst (λ (z : Labelled W R). fits r.0.kind z.word ≡ true) (sym head) r.3,
        subst (λ (z : List (Labelled W R)). Derives fits (followed_by (many f) r.0).rest z) (sym tail) (joined (many f) r.0 part (flat_map (λ part. part) parts) r.4 (parts, refl, all.1)),
      )

  one_begins : (k : K) (r : R) (l : Labelled W R) (ws : List (Labelled W R)) → Derives fits (one k r) (l ∷ ws) → Begins (one k r) l ws
  one_begins k r l ws d =
      let e = d.1 in
      let head : l ≡ labelled r d.0 = cc in
      let tail : ws ≡ [] = cc in
      (record { kind = k; role = r; rest = nothing }, inl refl, sym (ap (λ (z : Labelled W R). z.role) head), subst (λ (z : Labelled W R). fits k z.word ≡ true) (sym head) d.2, tail)

  pub starts_all : (f : Form K R) (l : Labelled W R) (ws : List (Labelled W R)) → Derives fits f (l ∷ ws) → Begins f l ws
  starts_all nothing l ws d = absurd cc
  starts_all (one k r) l ws d = one_begins k r l ws d
  starts_all (both f g) l ws d = both_starts f g l ws d.0 d.1 d.2 d.3 d.4 (λ m vs c. starts_all f m vs c) (λ m vs c. starts_all g m vs c)
  starts_all (either f g) l ws (inl d) = let r = starts_all f l ws d in (r.0, among_left r.0 (starts f) (starts g) r.1, r.2, r.3, r.4)
  starts_all (either f g) l ws (inr d) = let r = starts_all g l ws d in (r.0, among_right r.0 (starts f) (starts g) r.1, r.2, r.3, r.4)
  starts_all (many f) l ws d = many_starts f l ws d.0 d.1 d.2 (λ m vs c. starts_all f m vs c)

  misses : (w : W) (ss : List (Start K R)) (s : Start K R) → start_with fits w ss ≡ None → Among s ss → fits s.kind w ≡ true → ⊥
  misses w [] s e m t = m
  misses w (x ∷ xs) s e m t = misses_at w x xs s (fits x.kind w) refl e m t (λ h k. misses w xs s h k t)
    where
      misses_at : (w : W) (x : Start K R) (xs : List (Start K R)) (s : Start K R) (b : Bool) → fits x.kind w ≡ b → cond b (Some x) (start_with fits w xs) ≡ None → (s ≡ x) ⊎ Among s xs → fits s.kind w ≡ true → (start_with fits w xs ≡ None → Among s xs → ⊥) → ⊥
      misses_at w x xs s true t e m h rest = cc
      misses_at w x xs s false t e (inl same) h rest = absurd (let k = subst (λ (y : Start K R). fits y.kind w ≡ true) same h in cc)
      misses_at w x xs s false t e (inr m) h rest = rest e m

  -- where no start fits a word, no derivation goes on with it
  pub no_way_on : (f : Form K R) (l : Labelled W R) (ws : List (Labelled W R)) → start_with fits l.word (starts f) ≡ None → Derives fits f (l ∷ ws) → ⊥
  no_way_on f l ws e d = let r = starts_all f l ws d in misses l.word (starts f) r.0 e r.1 r.3
