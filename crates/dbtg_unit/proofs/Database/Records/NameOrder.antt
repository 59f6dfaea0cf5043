-- The order of cells is strict.
use Rattle.std.proofs.Common.{ℕ, zero, suc, ◌⊎◌, ◌≡◌, Bool, true, ◌&&◌, ◌||◌, Option, Some, None, refl, sym, ap, ◌∙◌, inl, inr, arith}
use Rattle.std.specs.Prelude.{nat_lt, ◌==◌}
use Rattle.std.proofs.lemmas.Bool.{and_parts, and_from, or_cases, or_left, or_right, ltb-true, lt-ltb, eqb-true, eq-eqb}
use Rattle.dbtg_cells.specs.declared.name.CellName.{CellName}
use Rattle.dbtg_cells.specs.declared.name.CellName.TheVariants.{Usage, Extent, Ring, Slot}
use Rattle.dbtg_cells.specs.Names.{place_lt, name_below}

-- by a number first, and by something else where that is the same
chain_of : (a b c : ℕ) (x y z : Bool) → (x ≡ true → y ≡ true → z ≡ true) → (nat_lt a b || (a == b && x)) ≡ true → (nat_lt b c || (b == c && y)) ≡ true → (nat_lt a c || (a == c && z)) ≡ true
chain_of a b c x y z f p q = elim (or_cases _ _ p) [
  | inl s ↦ elim (or_cases _ _ q) [
    | inl t ↦ let i = ltb-true a b s in let j = ltb-true b c t in or_left _ _ (lt-ltb a c (omega arith))
    | inr t ↦ let i = ltb-true a b s in let j = eqb-true b c (and_parts _ _ t).0 in or_left _ _ (lt-ltb a c (omega arith))
  ]
  | inr s ↦ elim (or_cases _ _ q) [
    | inl t ↦ let i = eqb-true a b (and_parts _ _ s).0 in let j = ltb-true b c t in or_left _ _ (lt-ltb a c (omega arith))
    | inr t ↦ or_right _ _ (and_from _ _ (eq-eqb a c (eqb-true a b (and_parts _ _ s).0 ∙ eqb-true b c (and_parts _ _ t).0)) (f (and_parts _ _ s).1 (and_parts _ _ t).1))
  ]
]

pub number_total : (a b : ℕ) → (nat_lt a b ≡ true) ⊎ ((a ≡ b) ⊎ (nat_lt b a ≡ true))
number_total zero zero = inr (inl refl)
number_total zero (suc b) = inl (lt-ltb 0 (suc b) (omega arith))
number_total (suc a) zero = inr (inr (lt-ltb 0 (suc a) (omega arith)))
number_total (suc a) (suc b) = elim (number_total a b) [
  | inl h ↦ let i = ltb-true a b h in inl (lt-ltb (suc a) (suc b) (omega arith))
  | inr (inl e) ↦ inr (inl (ap suc e))
  | inr (inr h) ↦ let i = ltb-true b a h in inr (inr (lt-ltb (suc b) (suc a) (omega arith)))
]

total_of : (a b : ℕ) (x : Bool) (S : Type 0) (y : Bool) → (x ≡ true) ⊎ (S ⊎ (y ≡ true)) → ((nat_lt a b || (a == b && x)) ≡ true) ⊎ (((a ≡ b) × S) ⊎ ((nat_lt b a || (b == a && y)) ≡ true))
total_of a b x S y t = elim (number_total a b) [
  | inl h ↦ inl (or_left _ _ h)
  | inr (inl e) ↦ elim t [
    | inl h ↦ inl (or_right _ _ (and_from _ _ (eq-eqb a b e) h))
    | inr (inl s) ↦ inr (inl (e, s))
    | inr (inr h) ↦ inr (inr (or_right _ _ (and_from _ _ (eq-eqb b a (sym e)) h)))
  ]
  | inr (inr h) ↦ inr (inr (or_left _ _ h))
]

pub number_never : (a : ℕ) → nat_lt a a ≡ true → ⊥
number_never a e = let i = ltb-true a a e in absurd (omega arith)

pub number_chain : (a b c : ℕ) → nat_lt a b ≡ true → nat_lt b c ≡ true → nat_lt a c ≡ true
number_chain a b c p q = let i = ltb-true a b p in let j = ltb-true b c q in lt-ltb a c (omega arith)

never_of : (a : ℕ) (x : Bool) → (x ≡ true → ⊥) → (nat_lt a a || (a == a && x)) ≡ true → ⊥
never_of a x f e = elim (or_cases _ _ e) [ inl s ↦ number_never a s | inr s ↦ f (and_parts _ _ s).1 ]

place_never : (p : Option (ℕ × ℕ)) → place_lt p p ≡ true → ⊥
place_never None e = absurd (cc (e))
place_never (Some p) e = never_of p.0 (nat_lt p.1 p.1) (number_never p.1) e

place_chain : (p q r : Option (ℕ × ℕ)) → place_lt p q ≡ true → place_lt q r ≡ true → place_lt p r ≡ true
place_chain None None r e f = absurd (cc (e))
place_chain None (Some q) None e f = absurd (cc (f))
place_chain None (Some q) (Some r) e f = refl
place_chain (Some p) None r e f = absurd (cc (e))
place_chain (Some p) (Some q) None e f = absurd (cc (f))
place_chain (Some p) (Some q) (Some r) e f = chain_of p.0 q.0 r.0 (nat_lt p.1 q.1) (nat_lt q.1 r.1) (nat_lt p.1 r.1) (number_chain p.1 q.1 r.1) e f

place_total : (p q : Option (ℕ × ℕ)) → (place_lt p q ≡ true) ⊎ ((p ≡ q) ⊎ (place_lt q p ≡ true))
place_total None None = inr (inl refl)
place_total None (Some q) = inl refl
place_total (Some p) None = inr (inr refl)
place_total (Some p) (Some q) = elim (total_of p.0 q.0 (nat_lt p.1 q.1) (p.1 ≡ q.1) (nat_lt q.1 p.1) (number_total p.1 q.1)) [
  | inl h ↦ inl h
  | inr (inl e) ↦ inr (inl (λ i. Some (e.0 i, e.1 i)))
  | inr (inr h) ↦ inr (inr h)
]

pub name_never : (c : CellName) → name_below c c ≡ true → ⊥
name_never (Usage a) e = number_never a e
name_never (Extent t) e = number_never t e
name_never (Ring s o) e = never_of s (place_lt o o) (place_never o) e
name_never (Slot t n) e = never_of t (nat_lt n n) (number_never n) e

pub name_chain : (c d e : CellName) → name_below c d ≡ true → name_below d e ≡ true → name_below c e ≡ true
name_chain (Usage a) (Usage b) (Usage c) f g = number_chain a b c f g
name_chain (Usage a) d (Extent t) f g = refl
name_chain (Usage a) d (Ring s o) f g = refl
name_chain (Usage a) d (Slot t n) f g = refl
name_chain (Usage a) (Extent t) (Usage c) f g = absurd (cc (g))
name_chain (Usage a) (Ring s o) (Usage c) f g = absurd (cc (g))
name_chain (Usage a) (Slot t n) (Usage c) f g = absurd (cc (g))
name_chain (Extent t) (Usage a) e f g = absurd (cc (f))
name_chain (Extent t) (Extent u) (Usage a) f g = absurd (cc (g))
name_chain (Extent t) (Extent u) (Extent v) f g = number_chain t u v f g
name_chain (Extent t) d (Ring s o) f g = refl
name_chain (Extent t) d (Slot u n) f g = refl
name_chain (Extent t) (Ring s o) (Usage a) f g = absurd (cc (g))
name_chain (Extent t) (Ring s o) (Extent u) f g = absurd (cc (g))
name_chain (Extent t) (Slot u n) (Usage a) f g = absurd (cc (g))
name_chain (Extent t) (Slot u n) (Extent v) f g = absurd (cc (g))
name_chain (Ring s o) (Usage a) e f g = absurd (cc (f))
name_chain (Ring s o) (Extent a) e f g = absurd (cc (f))
name_chain (Ring s o) (Ring t p) (Usage a) f g = absurd (cc (g))
name_chain (Ring s o) (Ring t p) (Extent a) f g = absurd (cc (g))
name_chain (Ring s o) (Ring t p) (Ring u q) f g = chain_of s t u (place_lt o p) (place_lt p q) (place_lt o q) (place_chain o p q) f g
name_chain (Ring s o) d (Slot u n) f g = refl
name_chain (Ring s o) (Slot u n) (Usage a) f g = absurd (cc (g))
name_chain (Ring s o) (Slot u n) (Extent a) f g = absurd (cc (g))
name_chain (Ring s o) (Slot u n) (Ring t p) f g = absurd (cc (g))
name_chain (Slot t n) (Usage a) e f g = absurd (cc (f))
name_chain (Slot t n) (Extent a) e f g = absurd (cc (f))
name_chain (Slot t n) (Ring s o) e f g = absurd (cc (f))
name_chain (Slot t n) (Slot u m) (Usage a) f g = absurd (cc (g))
name_chain (Slot t n) (Slot u m) (Extent a) f g = absurd (cc (g))
name_chain (Slot t n) (Slot u m) (Ring s o) f g = absurd (cc (g))
name_chain (Slot t n) (Slot u m) (Slot v k) f g = chain_of t u v (nat_lt n m) (nat_lt m k) (nat_lt n k) (number_chain n m k) f g

pub name_total : (c d : CellName) → (name_below c d ≡ true) ⊎ ((c ≡ d) ⊎ (name_below d c ≡ true))
name_total (Usage a) (Usage b) = elim (number_total a b) [ inl h ↦ inl h | inr (inl e) ↦ inr (inl (ap Usage e)) | inr (inr h) ↦ inr (inr h) ]
name_total (Usage a) (Extent t) = inl refl
name_total (Usage a) (Ring s o) = inl refl
name_total (Usage a) (Slot t n) = inl refl
name_total (Extent t) (Usage a) = inr (inr refl)
name_total (Extent t) (Extent u) = elim (number_total t u) [ inl h ↦ inl h | inr (inl e) ↦ inr (inl (ap Extent e)) | inr (inr h) ↦ inr (inr h) ]
name_total (Extent t) (Ring s o) = inl refl
name_total (Extent t) (Slot u n) = inl refl
name_total (Ring s o) (Usage a) = inr (inr refl)
name_total (Ring s o) (Extent t) = inr (inr refl)
name_total (Ring s o) (Ring t p) = elim (total_of s t (place_lt o p) (o ≡ p) (place_lt p o) (place_total o p)) [ inl h ↦ inl h | inr (inl e) ↦ inr (inl (λ i. Ring (e.0 i) (e.1 i))) | inr (inr h) ↦ inr (inr h) ]
name_total (Ring s o) (Slot t n) = inl refl
name_total (Slot t n) (Usage a) = inr (inr refl)
name_total (Slot t n) (Extent u) = inr (inr refl)
name_total (Slot t n) (Ring s o) = inr (inr refl)
name_total (Slot t n) (Slot u m) = elim (total_of t u (nat_lt n m) (n ≡ m) (nat_lt m n) (number_total n m)) [ inl h ↦ inl h | inr (inl e) ↦ inr (inl (λ i. Slot (e.0 i) (e.1 i))) | inr (inr h) ↦ inr (inr h) ]
