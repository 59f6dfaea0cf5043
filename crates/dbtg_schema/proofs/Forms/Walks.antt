-- What is kept from word to word of a text without faults, and from word to word of an entry.
use Rattle.std.proofs.Common.{◌≡◌, ℕ, Bool, true, false, cond, not, ◌&&◌, ◌||◌, List, [], ◌∷◌, ◌++◌, Option, Some, None, refl, sym, subst, append_assoc, inl, inr}
use Rattle.std.specs.List.{flat_map, list_any, AllByRecursion}
use Rattle.std.proofs.lemmas.List.{append-nil}
use Rattle.std.proofs.lemmas.Bool.{cases_Bool}
use Rattle.dbtg_schema.specs.declared.fault.Fault.{Fault}
use Rattle.dbtg_schema.specs.declared.role.Role.{Role}
use Rattle.dbtg_schema.specs.Lookups.{first}
use Rattle.dbtg_schema.specs.Texts.Words.{Word}
use Rattle.dbtg_schema.specs.Texts.Forms.{starts, labelled, start_with, by_start, labels}
use Rattle.dbtg_schema.specs.Texts.SchemaGrammar.{Form, Start, Labelled, fits}
use Rattle.dbtg_schema.specs.Texts.Labels.{is, since, until, entries}
use Rattle.dbtg_schema.specs.Texts.SchemaFaults.{at_word, at_other, places}
use Rattle.dbtg_schema.specs.Inside.Reading.{verdict}
use Rattle.dbtg_schema.proofs.Forms.Accepted.{none_rest, never}

-- after the words ws none of these words has a fault
abbrev pub EachClean : List Labelled → List Labelled → Type 0
EachClean ws [] = Unit {0}
EachClean ws (l ∷ ls) = (at_word ws l ≡ []) × EachClean (ws ++ l ∷ []) ls

pub none_here : (xs ys : List Fault) → first (xs ++ ys) ≡ None → xs ≡ []
none_here [] ys h = refl
none_here (x ∷ xs) ys h = absurd cc

clean_by : (w : Word) (left : List Word) (end : ℕ) (ws : List Labelled) (f : Form) (o : Option Start)
    → ((s : Start) → first (flat_map (λ here. here) (places end (ws ++ labelled s.role w ∷ []) s.rest left)) ≡ None → EachClean (ws ++ labelled s.role w ∷ []) (labels fits s.rest left))
    → first (flat_map (λ here. here) (by_start o (λ s. at_word ws (labelled s.role w) ∷ places end (ws ++ labelled s.role w ∷ []) s.rest left) (at_other ws (starts f) w ∷ []))) ≡ None
    → EachClean ws (by_start o (λ s. labelled s.role w ∷ labels fits s.rest left) [])
clean_by w left end ws f None rest h = absurd (never _ [] _ h)
clean_by w left end ws f (Some s) rest h =
    let later = flat_map (λ here. here) (places end (ws ++ labelled s.role w ∷ []) s.rest left) in
    (none_here (at_word ws (labelled s.role w)) later h, rest s (none_rest (at_word ws (labelled s.role w)) later h))

-- a text without faults has none at any word
pub clean : (left : List Word) (end : ℕ) (ws : List Labelled) (f : Form) → verdict end ws f left ≡ None → EachClean ws (labels fits f left)
unfolding verdict
clean [] end ws f h = tt
clean (w ∷ left) end ws f h = clean_by w left end ws f (start_with fits w (starts f)) (λ s. clean left end (ws ++ labelled s.role w ∷ []) s.rest) h

-- what each word keeps, all of them keep
pub keeps : (Q : List Labelled → Type 0) → ((ws : List Labelled) (l : Labelled) → at_word ws l ≡ [] → Q ws → Q (ws ++ l ∷ [])) → (ws ls : List Labelled) → EachClean ws ls → Q ws → Q (ws ++ ls)
keeps Q step ws [] c q = subst Q (sym (append-nil ws)) q
keeps Q step ws (l ∷ ls) c q = subst Q (append_assoc ws (l ∷ []) ls) (keeps Q step (ws ++ l ∷ []) ls c.1 (step ws l c.0 q))

any_behind : (r : Role) (before : List Labelled) (w : Labelled) (p : List Labelled) → is r w ≡ true → list_any (is r) (before ++ w ∷ p) ≡ true
any_behind r [] w p h = rw h refl
any_behind r (b ∷ before) w p h = or_second (is r b) _ (any_behind r before w p h)
  where
    or_second : (a b : Bool) → b ≡ true → (a || b) ≡ true
    or_second true b h = refl
    or_second false b h = h

-- the last entry, where no other begins after it
pub since_last : (r : Role) (before : List Labelled) (w : Labelled) (p : List Labelled) → is r w ≡ true → list_any (is r) p ≡ false → since r (before ++ w ∷ p) ≡ w ∷ p
since_last r [] w p h none = rw (h, none) refl
since_last r (b ∷ before) w p h none = not_last _ _ _ (is r b) (list_any (is r) (before ++ w ∷ p)) (any_behind r before w p h) (since_last r before w p h none)
  where
    not_last : (x y z : List Labelled) (a c : Bool) → c ≡ true → y ≡ z → cond (a && not c) x y ≡ z
    not_last x y z true c h e = rw h e
    not_last x y z false c h e = e

pub any_snoc : (r : Role) (p : List Labelled) (l : Labelled) → list_any (is r) p ≡ false → is r l ≡ false → list_any (is r) (p ++ l ∷ []) ≡ false
any_snoc r [] l h n = rw n refl
any_snoc r (x ∷ p) l h n = both_false (is r x) (list_any (is r) p) _ h (λ k. any_snoc r p l k n)
  where
    both_false : (a b c : Bool) → (a || b) ≡ false → (b ≡ false → c ≡ false) → (a || c) ≡ false
    both_false true b c h k = absurd cc
    both_false false b c h k = k h

module _ (r : Role) (P : List Labelled → Type 0) (start : (l : Labelled) → is r l ≡ true → P (l ∷ []))
    (step : (ws e : List Labelled) (l : Labelled) → since r ws ≡ e → at_word ws l ≡ [] → is r l ≡ false → P e → P (e ++ l ∷ [])) where
  walk : (before : List Labelled) (w : Labelled) (p ls : List Labelled) → is r w ≡ true → list_any (is r) p ≡ false → EachClean (before ++ w ∷ p) ls → P (w ∷ p) → P ((w ∷ p) ++ until r ls)
  walk before w p [] h none c q = subst P (sym (append-nil (w ∷ p))) q
  walk before w p (l ∷ ls) h none c q = elim (cases_Bool (is r l)) [
    | inl t ↦ subst (λ (b : Bool). P ((w ∷ p) ++ cond b [] (l ∷ until r ls))) (sym t) (subst P (sym (append-nil (w ∷ p))) q)
    | inr n ↦
        let q2 = step (before ++ w ∷ p) (w ∷ p) l (since_last r before w p h none) c.0 n q in
        let c2 = subst (λ (z : List Labelled). EachClean z ls) (append_assoc before (w ∷ p) (l ∷ [])) c.1 in
        let more = walk before w (p ++ l ∷ []) ls h (any_snoc r p l none n) c2 q2 in
        subst (λ (b : Bool). P ((w ∷ p) ++ cond b [] (l ∷ until r ls))) (sym n) (subst (λ (z : List Labelled). P (w ∷ z)) (append_assoc p (l ∷ []) (until r ls)) more)
  ]

  -- what each word of an entry keeps holds of each entry
  pub each_entry : (before ls : List Labelled) → EachClean before ls → AllByRecursion P (entries r ls)
  each_entry before [] c = tt
  each_entry before (l ∷ ls) c = elim (cases_Bool (is r l)) [
    | inl t ↦ subst (λ (b : Bool). AllByRecursion P (cond b ((l ∷ until r ls) ∷ entries r ls) (entries r ls))) (sym t) (walk before l [] ls t refl c.1 (start l t), each_entry (before ++ l ∷ []) ls c.1)
    | inr n ↦ subst (λ (b : Bool). AllByRecursion P (cond b ((l ∷ until r ls) ∷ entries r ls) (entries r ls))) (sym n) (each_entry (before ++ l ∷ []) ls c.1)
  ]
