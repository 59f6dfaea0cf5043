-- What stands before a line feed is one line.
use Rattle.std.proofs.Common.{◌≡◌, ℕ, zero, suc, ◌<◌, ◌≤◌, Bool, true, false, eqb, List, [], ◌∷◌, ◌++◌, length, get_or, take, drop, refl, sym, ap, ◌∙◌, ◌||◌, arith}
use Rattle.std.proofs.lemmas.Bool.{eqb-false, eqb-true, ne_eqb}
use Rattle.dbtg_script.specs.Lines.{closes, lines, onto_line}
use Rattle.dbtg_script.specs.Printing.Spelling.{has_byte}

-- the first byte belongs to the line
onto_is : (b : ℕ) (bs : List ℕ) → (b ≡ 10 → ⊥) → lines (b ∷ bs) ≡ onto_line b (lines bs)
unfolding lines
onto_is b bs h = rw (ne_eqb b 10 h) refl

feed_is : (bs : List ℕ) → lines (10 ∷ bs) ≡ [] ∷ lines bs
unfolding lines
feed_is bs = refl

none_is : lines [] ≡ []
unfolding lines
none_is = refl

line_is : (n : ℕ) (b : ℕ) (bs : List ℕ) → n ≤ length (b ∷ bs) → ((k : ℕ) → k < n → get_or (b ∷ bs) k 0 ≡ 10 → ⊥) → (n < length (b ∷ bs) → get_or (b ∷ bs) n 0 ≡ 10)
    → lines (b ∷ bs) ≡ take n (b ∷ bs) ∷ lines (drop 1 (drop n (b ∷ bs)))
line_is zero b bs le each stops = let e : b ≡ 10 = stops (omega arith) in rw e (feed_is bs)
line_is (suc zero) b [] le each stops = onto_is b [] (each 0 (omega arith)) ∙ rw none_is refl
line_is (suc (suc n)) b [] le each stops = absurd (omega arith)
line_is (suc n) b (c ∷ cs) le each stops =
    let inner = line_is n c cs (omega arith) (λ k h. each (suc k) (omega arith)) (λ h. stops (omega arith)) in
    onto_is b (c ∷ cs) (each 0 (omega arith)) ∙ ap (λ (x : List (List ℕ)). onto_line b x) inner

pub next_line : (n : ℕ) (rest line tail behind : List ℕ) → (length rest ≡ 0 → ⊥) → n ≤ length rest → ((k : ℕ) → k < n → get_or rest k 0 ≡ 10 → ⊥) → (n < length rest → get_or rest n 0 ≡ 10)
    → line ≡ take n rest → tail ≡ drop n rest → behind ≡ drop 1 tail → lines rest ≡ line ∷ lines behind
next_line n [] line tail behind some le each stops l t h = absurd (some refl)
next_line n (b ∷ bs) line tail behind some le each stops l t h = rw (l, h, t) (line_is n b bs le each stops)

pub no_line : (rest : List ℕ) → length rest ≡ 0 → lines rest ≡ []
no_line [] h = none_is
no_line (b ∷ bs) h = absurd (omega arith)

-- ---- one line more

starts : (b : ℕ) (bs : List ℕ) → eqb b 10 ≡ false → lines (b ∷ bs) ≡ onto_line b (lines bs)
starts b bs h = onto_is b bs (eqb-false b 10 h)

ends : (b : ℕ) (bs : List ℕ) → eqb b 10 ≡ true → lines (b ∷ bs) ≡ [] ∷ lines bs
ends b bs h = ap (λ (c : ℕ). lines (c ∷ bs)) (eqb-true b 10 h) ∙ feed_is bs

none_in : (b : Bool) (rest : Bool) → b || rest ≡ false → (b ≡ false) × (rest ≡ false)
none_in true rest h = absurd cc
none_in false rest h = (refl, h)

alone : (line : List ℕ) → has_byte 10 line ≡ false → lines (line ++ 10 ∷ []) ≡ line ∷ []
alone [] h = feed_is [] ∙ ap (λ (ls : List (List ℕ)). [] ∷ ls) none_is
alone (b ∷ bs) h =
    let parts = none_in (eqb b 10) (has_byte 10 bs) h in
    starts b (bs ++ 10 ∷ []) parts.0 ∙ ap (onto_line b) (alone bs parts.1)

onto_some : (b : ℕ) (ls : List (List ℕ)) → onto_line b ls ≡ [] → ⊥
onto_some b [] e = absurd cc
onto_some b (l ∷ ls) e = absurd cc

some_lines : (b : ℕ) (bs : List ℕ) → lines (b ∷ bs) ≡ [] → ⊥
some_lines b bs e = by (eqb b 10) refl
  where
    by : (k : Bool) → eqb b 10 ≡ k → ⊥
    by true h = let f : [] ∷ lines bs ≡ [] = sym (ends b bs h) ∙ e in absurd cc
    by false h = onto_some b (lines bs) (sym (starts b bs h) ∙ e)

onto_front : (b : ℕ) (ls more : List (List ℕ)) → (ls ≡ [] → ⊥) → onto_line b (ls ++ more) ≡ onto_line b ls ++ more
onto_front b [] more some = absurd (some refl)
onto_front b (l ∷ ls) more some = refl

some_closed : (bs : List ℕ) → closes false bs ≡ true → lines bs ≡ [] → ⊥
some_closed [] h e = absurd cc
some_closed (b ∷ bs) h e = some_lines b bs e

-- a line after whole lines
pub line_behind : (closed : Bool) (text line : List ℕ) → closes closed text ≡ true → has_byte 10 line ≡ false → lines (text ++ (line ++ 10 ∷ [])) ≡ lines text ++ line ∷ []
line_behind closed [] line whole h = alone line h ∙ ap (λ (ls : List (List ℕ)). ls ++ line ∷ []) (sym none_is)
line_behind closed (b ∷ bs) line whole h = by (λ k some. line_behind k bs line some h) (eqb b 10) refl
  where
    by : ((k : Bool) → closes k bs ≡ true → lines (bs ++ (line ++ 10 ∷ [])) ≡ lines bs ++ line ∷ []) → (k : Bool) → eqb b 10 ≡ k → lines (b ∷ (bs ++ (line ++ 10 ∷ []))) ≡ lines (b ∷ bs) ++ line ∷ []
    by then true e =
        ends b (bs ++ (line ++ 10 ∷ [])) e ∙ ap (λ (ls : List (List ℕ)). [] ∷ ls) (then true (ap (λ k. closes k bs) (sym e) ∙ whole))
        ∙ ap (λ (ls : List (List ℕ)). ls ++ line ∷ []) (sym (ends b bs e))
    by then false e =
        let rest : closes false bs ≡ true = ap (λ k. closes k bs) (sym e) ∙ whole in
        starts b (bs ++ (line ++ 10 ∷ [])) e ∙ ap (onto_line b) (then false rest) ∙ onto_front b (lines bs) (line ∷ []) (some_closed bs rest)
        ∙ ap (λ (ls : List (List ℕ)). ls ++ line ∷ []) (sym (starts b bs e))

pub feed_closes : (closed : Bool) (text : List ℕ) → closes closed (text ++ 10 ∷ []) ≡ true
feed_closes closed [] = refl
feed_closes closed (b ∷ bs) = feed_closes (eqb b 10) bs
