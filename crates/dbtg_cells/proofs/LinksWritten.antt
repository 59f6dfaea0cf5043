-- What writes into nodes do to the links.
use Rattle.std.proofs.Common.{◌≡◌, ◌≢◌, ℕ, zero, suc, ◌+◌, List, [], ◌∷◌, ◌++◌, map, reverse, length, Option, Some, None, refl, sym, ap, ◌∙◌, arith, zero-add}
use Rattle.std.proofs.lemmas.List.{append_assoc, reverse-append, get_or-set_other}
use Rattle.std.specs.Option.{option_map}
use Rattle.dbtg_cells.specs.declared.links.Node.{Node}
use Rattle.dbtg_cells.specs.Inside.Chain.{Slots, Link, slot, node_of, head_at, last_at, Seg, Avoids, Apart, follow, follow_back}
use Rattle.dbtg_cells.specs.Inside.Links.{put, put_if, with_next, with_prior, as_linked, as_unlinked, linked_in, linked_out}

-- a write elsewhere leaves the slot
pub slot_put_other : (i j : ℕ) (f : Node → Node) (s : Slots) → j ≢ i → slot (put i f s) j ≡ slot s j
slot_put_other i j f s ne = get_or-set_other s i j _ None ne

-- a write changes what is there
pub slot_put_at : (i : ℕ) (f : Node → Node) (s : Slots) → slot (put i f s) i ≡ option_map f (slot s i)
slot_put_at i f [] = refl
slot_put_at zero f (x ∷ s) = refl
slot_put_at (suc i) f (x ∷ s) = slot_put_at i f s

pub slot_put_same : (i : ℕ) (f : Node → Node) (n : Node) (s : Slots) → slot s i ≡ Some n → slot (put i f s) i ≡ Some (f n)
slot_put_same i f n s h = slot_put_at i f s ∙ ap (option_map f) h

module _ (q : Option ℕ) where
  pub Seg_append : (s : Slots) (p : Option ℕ) (a b : List Link) → Seg s p a (head_at b q) → Seg s (last_at p a) b q → Seg s p (a ++ b) q
  Seg_append s p [] b h k = k
  Seg_append s p (e ∷ []) b h k = (h.0, k)
  Seg_append s p (e ∷ f ∷ a) b h k = (h.0, Seg_append s (Some e.at) (f ∷ a) b h.1 k)

  pub Seg_left : (s : Slots) (p : Option ℕ) (a b : List Link) → Seg s p (a ++ b) q → Seg s p a (head_at b q)
  Seg_left s p [] b h = tt
  Seg_left s p (e ∷ []) b h = (h.0, tt)
  Seg_left s p (e ∷ f ∷ a) b h = (h.0, Seg_left s (Some e.at) (f ∷ a) b h.1)

  pub Seg_right : (s : Slots) (p : Option ℕ) (a b : List Link) → Seg s p (a ++ b) q → Seg s (last_at p a) b q
  Seg_right s p [] b h = h
  Seg_right s p (e ∷ a) b h = Seg_right s (Some e.at) a b h.1

-- a write at a place that they avoid
pub Seg_put : (i : ℕ) (f : Node → Node) (s : Slots) (p : Option ℕ) (es : List Link) (q : Option ℕ) → Avoids i es → Seg s p es q → Seg (put i f s) p es q
Seg_put i f s p [] q away h = tt
Seg_put i f s p (e ∷ es) q away h = (slot_put_other i e.at f s away.0 ∙ h.0, Seg_put i f s (Some e.at) es q away.1 h.1)

-- where there may be no node
abbrev pub AvoidsIf : Option ℕ → List Link → Type 0
AvoidsIf None es = Unit {0}
AvoidsIf (Some i) es = Avoids i es

pub Seg_put_if : (o : Option ℕ) (f : Node → Node) (s : Slots) (p : Option ℕ) (es : List Link) (q : Option ℕ) → AvoidsIf o es → Seg s p es q → Seg (put_if o f s) p es q
Seg_put_if None f s p es q away h = h
Seg_put_if (Some i) f s p es q away h = Seg_put i f s p es q away h

-- it is another place
pub slot_put_if_other : (o : Option ℕ) (j : ℕ) (f : Node → Node) (s : Slots) → (o ≡ Some j → ⊥) → slot (put_if o f s) j ≡ slot s j
slot_put_if_other None j f s ne = refl
slot_put_if_other (Some i) j f s ne = slot_put_other i j f s (λ same. ne (ap Some (sym same)))

pub last_other : (i : ℕ) (es : List Link) → Avoids i es → last_at None es ≡ Some i → ⊥
last_other i [] away same = cc
last_other i (e ∷ []) away same = away.0 (cc)
last_other i (e ∷ f ∷ es) away same = last_other i (f ∷ es) away.1 same

pub head_other : (i : ℕ) (es : List Link) → Avoids i es → head_at es None ≡ Some i → ⊥
head_other i [] away same = cc
head_other i (e ∷ es) away same = away.0 (cc)

-- the last of them is given another next
pub Seg_set_next : (s : Slots) (p : Option ℕ) (es : List Link) (q q' : Option ℕ) → Apart es → Seg s p es q → Seg (put_if (last_at None es) (with_next q') s) p es q'
Seg_set_next s p [] q q' apart h = tt
Seg_set_next s p (e ∷ []) q q' apart h = (slot_put_same e.at (with_next q') (node_of e p q) s h.0, tt)
Seg_set_next s p (e ∷ f ∷ es) q q' apart h = (keeps (f ∷ es) apart.0 ∙ h.0, Seg_set_next s (Some e.at) (f ∷ es) q q' apart.1 h.1)
  where
    keeps : (fs : List Link) → Avoids e.at fs → slot (put_if (last_at None fs) (with_next q') s) e.at ≡ slot s e.at
    keeps [] away = refl
    keeps (f ∷ []) away = slot_put_other f.at e.at (with_next q') s (λ same. away.0 (sym same))
    keeps (f ∷ g ∷ fs) away = keeps (g ∷ fs) away.1

-- the first of them is given another prior
pub Seg_set_prior : (s : Slots) (p p' : Option ℕ) (es : List Link) (q : Option ℕ) → Apart es → Seg s p es q → Seg (put_if (head_at es None) (with_prior p') s) p' es q
Seg_set_prior s p p' [] q apart h = tt
Seg_set_prior s p p' (e ∷ es) q apart h = (slot_put_same e.at (with_prior p') (node_of e p (head_at es q)) s h.0, Seg_put e.at (with_prior p') s (Some e.at) es q apart.0 h.1)

-- what `next` reads is the chain
pub follow_Seg : (s : Slots) (p : Option ℕ) (es : List Link) (q : Option ℕ) → Seg s p es q → follow (length es) s (head_at es q) ≡ map (λ e. e.member) es
follow_Seg s p [] q h = refl
follow_Seg s p (e ∷ es) q h = rw h.0 (ap (λ ms. e.member ∷ ms) (follow_Seg s (Some e.at) es q h.1))

-- what `prior` reads is the chain from its end, and then what is before it
pub follow_back_Seg : (s : Slots) (p : Option ℕ) (es : List Link) (q : Option ℕ) (m : ℕ) → Seg s p es q → follow_back (length es + m) s (last_at p es) ≡ reverse (map (λ e. e.member) es) ++ follow_back m s p
follow_back_Seg s p [] q m h = rw zero-add refl
follow_back_Seg s p (e ∷ es) q m h =
    let more : length (e ∷ es) + m ≡ length es + suc m = omega arith in
    rw more (follow_back_Seg s (Some e.at) es q (suc m) h.1 ∙ ap (λ ms. reverse (map (λ e. e.member) es) ++ ms) (here h.0) ∙ shift)
  where
    here : slot s e.at ≡ Some (node_of e p (head_at es q)) → follow_back (suc m) s (Some e.at) ≡ e.member ∷ follow_back m s p
    here read = rw read refl

    shift : reverse (map (λ e. e.member) es) ++ (e.member ∷ follow_back m s p) ≡ reverse (map (λ e. e.member) (e ∷ es)) ++ follow_back m s p
    shift = sym (ap (λ ms. ms ++ follow_back m s p) (reverse-append (e.member ∷ []) (map (λ e. e.member) es)) ∙ append_assoc (reverse (map (λ e. e.member) es)) (e.member ∷ []) (follow_back m s p))

-- apartness of the parts
pub Avoids_left : (i : ℕ) (a b : List Link) → Avoids i (a ++ b) → Avoids i a
Avoids_left i [] b h = tt
Avoids_left i (e ∷ a) b h = (h.0, Avoids_left i a b h.1)

pub Avoids_right : (i : ℕ) (a b : List Link) → Avoids i (a ++ b) → Avoids i b
Avoids_right i [] b h = h
Avoids_right i (e ∷ a) b h = Avoids_right i a b h.1

pub Avoids_append : (i : ℕ) (a b : List Link) → Avoids i a → Avoids i b → Avoids i (a ++ b)
Avoids_append i [] b h k = k
Avoids_append i (e ∷ a) b h k = (h.0, Avoids_append i a b h.1 k)

pub Apart_left : (a b : List Link) → Apart (a ++ b) → Apart a
Apart_left [] b h = tt
Apart_left (e ∷ a) b h = (Avoids_left e.at a b h.0, Apart_left a b h.1)

pub Apart_right : (a b : List Link) → Apart (a ++ b) → Apart b
Apart_right [] b h = h
Apart_right (e ∷ a) b h = Apart_right a b h.1

-- a part without one of them
pub Apart_without : (a : List Link) (e : Link) (b : List Link) → Apart (a ++ e ∷ b) → Apart (a ++ b) × Avoids e.at (a ++ b)
Apart_without [] e b h = (h.1, h.0)
Apart_without (f ∷ a) e b h =
    let rest = Apart_without a e b h.1 in
    ((Avoids_append f.at a b (Avoids_left f.at a (e ∷ b) h.0) (Avoids_right f.at a (e ∷ b) h.0).1, rest.0), (λ same. (Avoids_right f.at a (e ∷ b) h.0).0 (sym same), rest.1))

-- with one more
pub Apart_with : (a : List Link) (e : Link) (b : List Link) → Apart (a ++ b) → Avoids e.at (a ++ b) → Apart (a ++ e ∷ b)
Apart_with [] e b h away = (away, h)
Apart_with (f ∷ a) e b h away =
    (Avoids_append f.at a (e ∷ b) (Avoids_left f.at a b h.0) (λ same. away.0 (sym same), Avoids_right f.at a b h.0), Apart_with a e b h.1 away.1)

-- the last of one part is not in the other
pub last_avoids : (a b : List Link) → Apart (a ++ b) → AvoidsIf (last_at None a) b
last_avoids [] b h = tt
last_avoids (e ∷ []) b h = h.0
last_avoids (e ∷ f ∷ a) b h = last_avoids (f ∷ a) b h.1

-- the first of one part is not in the other
pub head_avoids : (a b : List Link) → Apart (a ++ b) → AvoidsIf (head_at b None) a
head_avoids a [] h = tt
head_avoids [] (e ∷ b) h = tt
head_avoids (f ∷ a) (e ∷ b) h = (λ same. (Avoids_right f.at a (e ∷ b) h.0).0 (sym same), head_avoids a (e ∷ b) h.1)

-- a node goes in between two parts
pub Seg_linked_in : (s : Slots) (a b : List Link) (e : Link) (n : Node) → slot s e.at ≡ Some n → Apart (a ++ b) → Avoids e.at (a ++ b) → Seg s None (a ++ b) None
    → Seg (linked_in e.at e.member (last_at None a) (head_at b None) s) None (a ++ e ∷ b) None
Seg_linked_in s a b e n there apart away h =
    let p = last_at None a in
    let q = head_at b None in
    let f1 = as_linked e.member p q in
    let s1 = put e.at f1 s in
    let s2 = put_if p (with_next (Some e.at)) s1 in
    let away_a = Avoids_left e.at a b away in
    let away_b = Avoids_right e.at a b away in
    let node1 : slot s1 e.at ≡ Some (node_of e p q) = slot_put_same e.at f1 n s there in
    let node2 : slot s2 e.at ≡ Some (node_of e p q) = slot_put_if_other p e.at (with_next (Some e.at)) s1 (last_other e.at a away_a) ∙ node1 in
    let node3 : slot (put_if q (with_prior (Some e.at)) s2) e.at ≡ Some (node_of e p q) = slot_put_if_other q e.at (with_prior (Some e.at)) s2 (head_other e.at b away_b) ∙ node2 in
    let a1 : Seg s1 None a q = Seg_put e.at f1 s None a q away_a (Seg_left None s None a b h) in
    let b1 : Seg s1 p b None = Seg_put e.at f1 s p b None away_b (Seg_right None s None a b h) in
    let a2 : Seg s2 None a (Some e.at) = Seg_set_next s1 None a q (Some e.at) (Apart_left a b apart) a1 in
    let b2 : Seg s2 p b None = Seg_put_if p (with_next (Some e.at)) s1 p b None (last_avoids a b apart) b1 in
    let a3 = Seg_put_if q (with_prior (Some e.at)) s2 None a (Some e.at) (head_avoids a b apart) a2 in
    let b3 = Seg_set_prior s2 p (Some e.at) b None (Apart_right a b apart) b2 in
    Seg_append None _ None a (e ∷ b) a3 (node3, b3)

-- and a node is taken from between them
pub Seg_linked_out : (s : Slots) (a b : List Link) (e : Link) → Apart (a ++ e ∷ b) → Seg s None (a ++ e ∷ b) None
    → Seg (linked_out e.at (last_at None a) (head_at b None) s) None (a ++ b) None
Seg_linked_out s a b e apart h =
    let p = last_at None a in
    let q = head_at b None in
    let parts = Apart_without a e b apart in
    let s1 = put_if p (with_next q) s in
    let s2 = put_if q (with_prior p) s1 in
    let b0 : Seg s (Some e.at) b None = (Seg_right None s None a (e ∷ b) h).1 in
    let a0 : Seg s None a (Some e.at) = Seg_left None s None a (e ∷ b) h in
    let a1 : Seg s1 None a q = Seg_set_next s None a (Some e.at) q (Apart_left a b parts.0) a0 in
    let b1 : Seg s1 (Some e.at) b None = Seg_put_if p (with_next q) s (Some e.at) b None (last_avoids a b parts.0) b0 in
    let a2 : Seg s2 None a q = Seg_put_if q (with_prior p) s1 None a q (head_avoids a b parts.0) a1 in
    let b2 : Seg s2 p b None = Seg_set_prior s1 (Some e.at) p b None (Apart_right a b parts.0) b1 in
    Seg_put e.at as_unlinked s2 None (a ++ b) None parts.1 (Seg_append None s2 None a b a2 b2)
