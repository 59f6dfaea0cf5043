-- Orders, one before another.
use Rattle.std.proofs.Common.{◌≡◌, ℕ, ◌+◌, ◌<◌, List, [], ◌∷◌, ◌++◌, length, refl, sym, ◌∙◌, ap, subst, arith, inl, inr, ◌⊎◌, length-append}
use Rattle.std.proofs.lemmas.Bool.{cases_lt}
use Rattle.dbtg_explore.specs.Orders.{IsLower, IsBefore, IsNoLater}

pub lower_trans : (a b c : List ℕ) → IsLower a b → IsLower b c → IsLower a c
lower_trans [] b c h g = absurd h
lower_trans (x ∷ a) [] c h g = absurd h
lower_trans (x ∷ a) (y ∷ b) [] h g = absurd g
lower_trans (x ∷ a) (y ∷ b) (z ∷ c) (inl l) (inl m) = inl (omega arith)
lower_trans (x ∷ a) (y ∷ b) (z ∷ c) (inl l) (inr m) = let e = m.0 in inl (omega arith)
lower_trans (x ∷ a) (y ∷ b) (z ∷ c) (inr l) (inl m) = let e = l.0 in inl (omega arith)
lower_trans (x ∷ a) (y ∷ b) (z ∷ c) (inr l) (inr m) = inr (l.0 ∙ m.0, lower_trans a b c l.1 m.1)

pub lower_total : (a b : List ℕ) → length a ≡ length b → (a ≡ b) ⊎ (IsLower a b ⊎ IsLower b a)
lower_total [] [] e = inl refl
lower_total [] (y ∷ b) e = absurd (omega arith)
lower_total (x ∷ a) [] e = absurd (omega arith)
lower_total (x ∷ a) (y ∷ b) e =
    elim (cases_lt x y) [
      | inl low ↦ inr (inl (inl low))
      | inr high ↦ elim (cases_lt y x) [
        | inl low ↦ inr (inr (inl low))
        | inr same ↦
            let here : x ≡ y = omega arith in
            elim (lower_total a b (omega arith)) [
              | inl rest ↦ inl (λ i. here i ∷ rest i)
              | inr (inl below) ↦ inr (inl (inr (here, below)))
              | inr (inr above) ↦ inr (inr (inr (sym here, above)))
            ]
      ]
    ]

lower_push : (a b : List ℕ) (u v : ℕ) → IsLower a b → IsLower (a ++ u ∷ []) (b ++ v ∷ [])
lower_push [] b u v h = absurd h
lower_push (x ∷ a) [] u v h = absurd h
lower_push (x ∷ a) (y ∷ b) u v (inl l) = inl l
lower_push (x ∷ a) (y ∷ b) u v (inr l) = inr (l.0, lower_push a b u v l.1)

lower_last : (a : List ℕ) (u v : ℕ) → u < v → IsLower (a ++ u ∷ []) (a ++ v ∷ [])
lower_last [] u v low = inl low
lower_last (x ∷ a) u v low = inr (refl, lower_last a u v low)

length_push : (a : List ℕ) (u : ℕ) → length (a ++ u ∷ []) ≡ length a + 1
length_push a u = length-append a (u ∷ [])

pub before_trans : (a b c : List ℕ) → IsBefore a b → IsBefore b c → IsBefore a c
before_trans a b c (inl l) (inl m) = inl (omega arith)
before_trans a b c (inl l) (inr m) = let e = m.0 in inl (omega arith)
before_trans a b c (inr l) (inl m) = let e = l.0 in inl (omega arith)
before_trans a b c (inr l) (inr m) = inr (l.0 ∙ m.0, lower_trans a b c l.1 m.1)

pub before_push : (a b : List ℕ) (u v : ℕ) → IsBefore a b → IsBefore (a ++ u ∷ []) (b ++ v ∷ [])
before_push a b u v (inl l) = inl (omega (arith, length_push a u, length_push b v))
before_push a b u v (inr l) = let e = l.0 in inr (omega (arith, length_push a u, length_push b v), lower_push a b u v l.1)

pub before_last : (a : List ℕ) (u v : ℕ) → u < v → IsBefore (a ++ u ∷ []) (a ++ v ∷ [])
before_last a u v low = inr (omega (arith, length_push a u, length_push a v), lower_last a u v low)

-- an order is before each order that continues it
pub before_next : (a : List ℕ) (u : ℕ) → IsBefore a (a ++ u ∷ [])
before_next a u = inl (omega (arith, length_push a u))

pub no_later_push : (a b : List ℕ) (u : ℕ) → IsNoLater a b → IsNoLater (a ++ u ∷ []) (b ++ u ∷ [])
no_later_push a b u (inl e) = inl (ap (λ (l : List ℕ). l ++ u ∷ []) e)
no_later_push a b u (inr h) = inr (before_push a b u u h)

pub no_later_trans : (a b c : List ℕ) → IsNoLater a b → IsNoLater b c → IsNoLater a c
no_later_trans a b c (inl e) g = subst (λ (l : List ℕ). IsNoLater l c) (sym e) g
no_later_trans a b c (inr h) (inl e) = subst (λ (l : List ℕ). IsNoLater a l) e (inr h)
no_later_trans a b c (inr h) (inr g) = inr (before_trans a b c h g)

pub before_no_later : (a b c : List ℕ) → IsBefore a b → IsNoLater b c → IsBefore a c
before_no_later a b c h (inl e) = subst (IsBefore a) e h
before_no_later a b c h (inr g) = before_trans a b c h g
