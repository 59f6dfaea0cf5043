-- What is labelled to its end is derived by the form.
use Rattle.std.proofs.Common.{◌≡◌, Bool, true, false, cond, List, [], ◌∷◌, ◌++◌, Some, map, refl, sym, ap, subst, ◌∙◌, ◌⊎◌, inl, inr}
use Rattle.std.proofs.lemmas.Bool.{and_parts, or_cases}
use Rattle.dbtg_schema.specs.Texts.Forms.{Form, nothing, one, both, either, many, Start, starts, may_end, followed_by, Labelled, labelled, start_with, Derives}

abbrev pub Among : {S : Type 0} → S → List S → Type 0
Among s [] = ⊥
Among s (x ∷ xs) = (s ≡ x) ⊎ Among s xs

pub among_append : {S : Type 0} (s : S) (xs ys : List S) → Among s (xs ++ ys) → Among s xs ⊎ Among s ys
among_append s [] ys h = inr h
among_append s (x ∷ xs) ys (inl e) = inl (inl e)
among_append s (x ∷ xs) ys (inr h) = elim (among_append s xs ys h) [ inl a ↦ inl (inr a) | inr b ↦ inr b ]

pub among_map : {S : Type 0} (f : S → S) (s : S) (xs : List S) → Among s (map f xs) → (x : S) × (s ≡ f x) × Among x xs
among_map f s [] h = absurd h
among_map f s (x ∷ xs) (inl e) = (x, e, inl refl)
among_map f s (x ∷ xs) (inr h) = let r = among_map f s xs h in (r.0, r.1, inr r.2)

module _ {K R W : Type 0} (fits : K → W → Bool) where
  pub derives_nothing : (f : Form K R) → may_end f ≡ true → Derives {K = K} {R = R} {W = W} fits f []
  derives_nothing nothing h = refl
  derives_nothing (one k r) h = absurd cc
  derives_nothing (both f g) h = let p = and_parts (may_end f) (may_end g) h in ([], [], refl, derives_nothing f p.0, derives_nothing g p.1)
  derives_nothing (either f g) h = elim (or_cases (may_end f) (may_end g) h) [ inl a ↦ inl (derives_nothing f a) | inr b ↦ inr (derives_nothing g b) ]
  derives_nothing (many f) h = ([], refl, tt)

  -- what follows a start, parted
  parted : (g : Form K R) (s : Start K R) (ws : List (Labelled W R)) → Derives fits (followed_by g s).rest ws → (front : List (Labelled W R)) × (back : List (Labelled W R)) × (ws ≡ front ++ back) × Derives fits s.rest front × Derives fits g back
  parted g s ws h = elim s.rest as (λ x. Derives fits (followed_by g (record s { rest = x })).rest ws → (front : List (Labelled W R)) × (back : List (Labelled W R)) × (ws ≡ front ++ back) × Derives fits x front × Derives fits g back) [
    | nothing ↦ λ d. ([], ws, refl, refl, d)
    | one k r ↦ λ d. d
    | both a b ↦ λ d. d
    | either a b ↦ λ d. d
    | many a ↦ λ d. d
  ] h

  one_start : (k : K) (r : R) (s : Start K R) (w : W) (ws : List (Labelled W R)) → s ≡ record { kind = k; role = r; rest = nothing } → fits s.kind w ≡ true → Derives fits s.rest ws → Derives fits (one k r) (labelled s.role w ∷ ws)
  one_start k r s w ws e t d =
      subst (λ (x : Start K R). fits x.kind w ≡ true → Derives fits x.rest ws → Derives fits (one k r) (labelled x.role w ∷ ws)) (sym e) (λ u c. (w, ap (λ (z : List (Labelled W R)). labelled r w ∷ z) c, u)) t d

  -- a start that is kept only where the first part may be nothing
  kept : (b : Bool) (s : Start K R) (xs : List (Start K R)) → Among s (cond b xs []) → (b ≡ true) × Among s xs
  kept true s xs h = (refl, h)
  kept false s xs h = absurd h

  front_ok : (f g : Form K R) (s x : Start K R) (w : W) (ws : List (Labelled W R)) → s ≡ followed_by g x → Among x (starts f) → fits s.kind w ≡ true → ((vs : List (Labelled W R)) → fits x.kind w ≡ true → Derives fits x.rest vs → Derives fits f (labelled x.role w ∷ vs)) → Derives fits s.rest ws
      → (front : List (Labelled W R)) × (back : List (Labelled W R)) × (labelled s.role w ∷ ws ≡ front ++ back) × Derives fits f front × Derives fits g back
  front_ok f g s x w ws e m t step d =
      let d2 = subst (λ (y : Start K R). Derives fits y.rest ws) e d in
      let t2 = subst (λ (y : Start K R). fits y.kind w ≡ true) e t in
      let p = parted g x ws d2 in
      (labelled x.role w ∷ p.0, p.1, ap (λ (y : Start K R). labelled y.role w ∷ ws) e ∙ ap (λ (z : List (Labelled W R)). labelled x.role w ∷ z) p.2, step p.0 t2 p.3, p.4)

  -- a word that fits a start, and what is derived by its rest
  pub starts_derive : (f : Form K R) (s : Start K R) (w : W) (ws : List (Labelled W R)) → Among s (starts f) → fits s.kind w ≡ true → Derives fits s.rest ws → Derives fits f (labelled s.role w ∷ ws)
  starts_derive nothing s w ws h t d = absurd h
  starts_derive (one k r) s w ws (inl e) t d = one_start k r s w ws e t d
  starts_derive (one k r) s w ws (inr h) t d = absurd h
  starts_derive (both f g) s w ws h t d = elim (among_append s (map (followed_by g) (starts f)) (cond (may_end f) (starts g) []) h) [
    | inl a ↦ let m = among_map (followed_by g) s (starts f) a in front_ok f g s m.0 w ws m.1 m.2 t (λ vs u c. starts_derive f m.0 w vs m.2 u c) d
    | inr b ↦ let k = kept (may_end f) s (starts g) b in ([], labelled s.role w ∷ ws, refl, derives_nothing f k.0, starts_derive g s w ws k.1 t d)
  ]
  starts_derive (either f g) s w ws h t d = elim (among_append s (starts f) (starts g) h) [ inl a ↦ inl (starts_derive f s w ws a t d) | inr b ↦ inr (starts_derive g s w ws b t d) ]
  starts_derive (many f) s w ws h t d =
      let m = among_map (followed_by (many f)) s (starts f) h in
      let p = front_ok f (many f) s m.0 w ws m.1 m.2 t (λ vs u c. starts_derive f m.0 w vs m.2 u c) d in
      (p.0 ∷ p.4.0, p.2 ∙ ap (λ (z : List (Labelled W R)). p.0 ++ z) p.4.1, (p.3, p.4.2))

  found_at : (w : W) (x s : Start K R) (xs : List (Start K R)) (b : Bool) → fits x.kind w ≡ b → (start_with fits w xs ≡ Some s → Among s xs × (fits s.kind w ≡ true)) → cond b (Some x) (start_with fits w xs) ≡ Some s → Among s (x ∷ xs) × (fits s.kind w ≡ true)
  found_at w x s xs true t rest e = let same : x ≡ s = cc in (inl (sym same), subst (λ (y : Start K R). fits y.kind w ≡ true) same t)
  found_at w x s xs false t rest e = let r = rest e in (inr r.0, r.1)

  pub start_found : (w : W) (ss : List (Start K R)) (s : Start K R) → start_with fits w ss ≡ Some s → Among s ss × (fits s.kind w ≡ true)
  start_found w [] s e = absurd cc
  start_found w (x ∷ xs) s e = found_at w x s xs (fits x.kind w) refl (λ h. start_found w xs s h) e
