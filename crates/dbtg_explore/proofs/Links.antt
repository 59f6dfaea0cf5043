-- Orders as links: how many they are, one more, and the order at a place.
-- os are orders, ls are links.
use Rattle.std.proofs.Common.{◌≡◌, ℕ, zero, suc, ◌+◌, ◌<◌, List, [], ◌∷◌, ◌++◌, length, refl, sym, ◌∙◌, ap, subst, arith, get_or, ◌-◌, reverse, append_assoc}
use Rattle.std.proofs.lemmas.List.{get_or_append_left, length_push, reverse-append}
use Rattle.std.proofs.Math.Seq.{get_or-append_seam}
use Rattle.dbtg_explore.specs.declared.orders.Link.{Link}
use Rattle.dbtg_explore.specs.Inside.Links.{AreLinked, IsLast, order_by, orders_on, orders_of}

length_on : (os : List (List ℕ)) (ls : List Link) → length (orders_on os ls) ≡ length os + length ls
length_on os [] = omega arith
length_on os (l ∷ ls) =
    let more = length_on (os ++ order_by os l ∷ []) ls in
    let one = length_push os (order_by os l) in
    omega arith

push_on : (os : List (List ℕ)) (ls : List Link) (l : Link) → orders_on os (ls ++ l ∷ []) ≡ orders_on os ls ++ order_by (orders_on os ls) l ∷ []
push_on os [] l = refl
push_on os (k ∷ ls) l = push_on (os ++ order_by os k ∷ []) ls l

kept_on : (os : List (List ℕ)) (ls : List Link) (i : ℕ) → i < length os → get_or (orders_on os ls) i [] ≡ get_or os i []
kept_on os [] i low = refl
kept_on os (l ∷ ls) i low =
    let one = length_push os (order_by os l) in
    kept_on (os ++ order_by os l ∷ []) ls i (omega arith) ∙ get_or_append_left os (order_by os l ∷ []) [] i low

at_on : (os : List (List ℕ)) (n : ℕ) → length os ≡ n → (ls : List Link) → AreLinked n ls → (k i : ℕ) → i ≡ n + k → k < length ls → (d : Link) → get_or (orders_on os ls) i [] ≡ order_by (orders_on os ls) (get_or ls k d)
at_on os n many [] h k i at low d = absurd (omega arith)
at_on os n many (l ∷ ls) h zero i at low d =
    let next = os ++ order_by os l ∷ [] in
    let one = length_push os (order_by os l) in
    let same : get_or (orders_on next ls) l.before [] ≡ get_or os l.before [] = kept_on next ls l.before (omega (arith, h.0)) ∙ get_or_append_left os (order_by os l ∷ []) [] l.before (omega (arith, h.0)) in
    let here : i ≡ length os = omega arith in
    kept_on next ls i (omega arith) ∙ (ap (λ (j : ℕ). get_or next j []) here ∙ (get_or-append_seam os (order_by os l) [] [] ∙ ap (λ (o : List ℕ). o ++ l.unit ∷ []) (sym same)))
at_on os n many (l ∷ ls) h (suc k) i at low d =
    let one = length_push os (order_by os l) in
    at_on (os ++ order_by os l ∷ []) (n + 1) (omega arith) ls h.1 k i (omega arith) (omega arith) d

before_on : (n : ℕ) (ls : List Link) → AreLinked n ls → (k : ℕ) → k < length ls → (d : Link) → (get_or ls k d).before < n + k
before_on n [] h k low d = absurd (omega arith)
before_on n (l ∷ ls) h zero low d = omega (arith, h.0)
before_on n (l ∷ ls) h (suc k) low d = let more = before_on (n + 1) ls h.1 k (omega arith) d in omega arith

linked_push : (n : ℕ) (ls : List Link) (l : Link) → AreLinked n ls → l.before < n + length ls → AreLinked n (ls ++ l ∷ [])
linked_push n [] l h low = (omega arith, tt)
linked_push n (k ∷ ls) l h low = (h.0, linked_push (n + 1) ls l h.1 (omega arith))

-- THE FIRST IS EMPTY

pub length_of : (ls : List Link) → length (orders_of ls) ≡ length ls + 1
length_of ls = let all = length_on ([] ∷ []) ls in omega arith

pub first_of : (ls : List Link) → get_or (orders_of ls) 0 [] ≡ []
first_of ls = kept_on ([] ∷ []) ls 0 (omega arith)

-- the order at a later place, by its link
pub order_at : (ls : List Link) → AreLinked 1 ls → (i : ℕ) → 0 < i → i - 1 < length ls → (d : Link) → get_or (orders_of ls) i [] ≡ order_by (orders_of ls) (get_or ls (i - 1) d)
order_at ls h i low within d = at_on ([] ∷ []) 1 refl ls h (i - 1) i (omega arith) within d

pub before_at : (ls : List Link) → AreLinked 1 ls → (i : ℕ) → 0 < i → i - 1 < length ls → (d : Link) → (get_or ls (i - 1) d).before < i
before_at ls h i low within d = let below = before_on 1 ls h (i - 1) within d in omega arith

-- one link more
module _ (os : List (List ℕ)) (ls new : List Link) (is : orders_of ls ≡ os) (l : Link) (more : new ≡ ls ++ l ∷ []) where
  pub pushed : (b u : ℕ) → l ≡ record { before = b; unit = u } → orders_of new ≡ os ++ (get_or os b [] ++ u ∷ []) ∷ []
  pushed b u at = ap orders_of more ∙ (push_on ([] ∷ []) ls l ∙ (λ i. is i ++ order_by (is i) (at i) ∷ []))

  pub still_linked : AreLinked 1 ls → l.before < length os → AreLinked 1 new
  still_linked h low =
      let long : length (orders_of ls) ≡ length os = ap length is in
      let many = length_of ls in
      subst (AreLinked 1) (sym more) (linked_push 1 ls l h (omega arith))

-- the last turn of an order
module _ (ls : List Link) (h : AreLinked 1 ls) (i : ℕ) (low : 0 < i) (within : i < length (orders_of ls)) (link : Link) (is : link ≡ get_or ls (i - 1) link) where
  pub is_before : link.before < i
  is_before =
      let many = length_of ls in
      let same : link.before ≡ (get_or ls (i - 1) link).before = ap (λ (l : Link). l.before) is in
      let below = before_at ls h i low (omega arith) link in
      omega arith

  pub is_last : (os : List (List ℕ)) → orders_of ls ≡ os → IsLast os i link
  is_last os all =
      let many = length_of ls in
      subst (λ (ps : List (List ℕ)). IsLast ps i link) all (record { earlier = is_before; order_is = order_at ls h i low (omega arith) link ∙ ap (order_by (orders_of ls)) (sym is) })

-- from an order back to the one before it, by its last turn
pub gone_back : (os : List (List ℕ)) (i : ℕ) (link : Link) (turns more whole : List ℕ) → IsLast os i link → more ≡ turns ++ link.unit ∷ [] → get_or os i [] ++ reverse turns ≡ whole → get_or os link.before [] ++ reverse more ≡ whole
gone_back os i link turns more whole is more_is gone =
    let before = get_or os link.before [] in
    let last : reverse more ≡ link.unit ∷ reverse turns = ap reverse more_is ∙ reverse-append turns (link.unit ∷ []) in
    ap (λ (us : List ℕ). before ++ us) last ∙ sym (append_assoc before (link.unit ∷ []) (reverse turns)) ∙ ap (λ (o : List ℕ). o ++ reverse turns) (sym is.order_is) ∙ gone
