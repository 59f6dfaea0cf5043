-- A run of letters is one word, and what stands between two quotes.
use Rattle.std.proofs.Common.{◌≡◌, ℕ, zero, suc, ◌<◌, ◌≤◌, Bool, true, false, not, ◌&&◌, List, [], ◌∷◌, length, get_or, take, drop, refl, sym, ap, ◌∙◌, arith, eqb}
use Rattle.std.proofs.lemmas.Bool.{false≢true, ne_eqb}
use Rattle.dbtg_script.specs.Tokens.{Token, plain, equals, literal, tokens, onto, into, is_letter}

letter_is : (a b c : Bool) → (not a && not b && not c) ≡ true → (a ≡ false) × (b ≡ false) × (c ≡ false)
letter_is true b c h = absurd cc
letter_is false true c h = absurd cc
letter_is false false true h = absurd cc
letter_is false false false h = (refl, refl, refl)

letter_token : (b : ℕ) (bs : List ℕ) → is_letter b ≡ true → tokens false (b ∷ bs) ≡ onto b bs (tokens false bs)
unfolding tokens
letter_token b bs h = let l = letter_is (eqb b 32) (eqb b 61) (eqb b 34) h in rw (l.0, l.1, l.2) refl

onto_new : (b c : ℕ) (cs : List ℕ) (ts : List Token) → is_letter c ≡ false → onto b (c ∷ cs) ts ≡ plain (b ∷ []) ∷ ts
unfolding onto
onto_new b c cs [] h = refl
onto_new b c cs (plain t ∷ ts) h = rw h refl
onto_new b c cs (equals ∷ ts) h = refl
onto_new b c cs (literal t ∷ ts) h = refl

onto_more : (b c : ℕ) (cs t : List ℕ) (ts : List Token) → is_letter c ≡ true → onto b (c ∷ cs) (plain t ∷ ts) ≡ plain (b ∷ t) ∷ ts
unfolding onto
onto_more b c cs t ts h = rw h refl

onto_last : (b : ℕ) (ts : List Token) → onto b [] ts ≡ plain (b ∷ []) ∷ ts
unfolding onto
onto_last b ts = refl

run_is : (n : ℕ) (bs : List ℕ) → n < length bs → ((k : ℕ) → k < suc n → is_letter (get_or bs k 0) ≡ true) → (suc n < length bs → is_letter (get_or bs (suc n) 0) ≡ false) → tokens false bs ≡ plain (take (suc n) bs) ∷ tokens false (drop (suc n) bs)
run_is n [] lt each stops = absurd (omega arith)
run_is zero (b ∷ []) lt each stops = letter_token b [] (each 0 (omega arith)) ∙ onto_last b (tokens false [])
run_is zero (b ∷ c ∷ cs) lt each stops = letter_token b (c ∷ cs) (each 0 (omega arith)) ∙ onto_new b c cs (tokens false (c ∷ cs)) (stops (omega arith))
run_is (suc n) (b ∷ []) lt each stops = absurd (omega arith)
run_is (suc n) (b ∷ c ∷ cs) lt each stops =
    let inner = run_is n (c ∷ cs) (omega arith) (λ k h. each (suc k) (omega arith)) (λ h. stops (omega arith)) in
    letter_token b (c ∷ cs) (each 0 (omega arith)) ∙ ap (λ (x : List Token). onto b (c ∷ cs) x) inner ∙ onto_more b c cs (take (suc n) (c ∷ cs)) (tokens false (drop (suc n) (c ∷ cs))) (each 1 (omega arith))

literal_is : (n : ℕ) (bs : List ℕ) → n ≤ length bs → ((k : ℕ) → k < n → get_or bs k 0 ≡ 34 → ⊥) → (n < length bs → get_or bs n 0 ≡ 34) → tokens true bs ≡ literal (take n bs) ∷ tokens false (drop 1 (drop n bs))
unfolding tokens into
literal_is zero [] le each stops = refl
literal_is zero (b ∷ bs) le each stops = let e : b ≡ 34 = stops (omega arith) in rw e refl
literal_is (suc n) [] le each stops = absurd (omega arith)
literal_is (suc n) (b ∷ bs) le each stops =
    let inner = literal_is n bs (omega arith) (λ k h. each (suc k) (omega arith)) (λ h. stops (omega arith)) in
    let ne : eqb b 34 ≡ false = ne_eqb b 34 (each 0 (omega arith)) in
    rw (ne, inner) refl

-- ---- the steps, over the first byte and what follows it

pub space_step : (rest after : List ℕ) (b : ℕ) → rest ≡ b ∷ after → b ≡ 32 → tokens false after ≡ tokens false rest
unfolding tokens
space_step rest after b e h = rw (e, h) refl

pub equals_step : (rest after : List ℕ) (b : ℕ) → rest ≡ b ∷ after → b ≡ 61 → tokens false rest ≡ equals ∷ tokens false after
unfolding tokens
equals_step rest after b e h = rw (e, h) refl

open_step : (rest after : List ℕ) (b : ℕ) → rest ≡ b ∷ after → b ≡ 34 → tokens false rest ≡ tokens true after
unfolding tokens
open_step rest after b e h = rw (e, h) refl

pub literal_step : (rest after : List ℕ) (b n : ℕ) (text tail behind : List ℕ) → rest ≡ b ∷ after → b ≡ 34 → n ≤ length after → ((k : ℕ) → k < n → get_or after k 0 ≡ 34 → ⊥) → (n < length after → get_or after n 0 ≡ 34)
    → text ≡ take n after → tail ≡ drop n after → behind ≡ drop 1 tail → tokens false rest ≡ literal text ∷ tokens false behind
literal_step rest after b n text tail behind e h le each stops t d r = open_step rest after b e h ∙ rw (t, r, d) (literal_is n after le each stops)

pub plain_step : (rest after : List ℕ) (b n : ℕ) (text tail : List ℕ) → rest ≡ b ∷ after → eqb b 32 ≡ false → eqb b 61 ≡ false → eqb b 34 ≡ false → n ≤ length rest → ((k : ℕ) → k < n → is_letter (get_or rest k 0) ≡ true)
    → (n < length rest → is_letter (get_or rest n 0) ≡ false) → text ≡ take n rest → tail ≡ drop n rest → tokens false rest ≡ plain text ∷ tokens false tail
plain_step rest after b zero text tail e p q r le each stops t d =
    let letter : is_letter (get_or rest 0 0) ≡ true = rw (e, p, q, r) refl in
    let short : 0 < length rest = rw e (omega arith) in
    absurd (false≢true (sym (stops short) ∙ letter))
plain_step rest after b (suc n) text tail e p q r le each stops t d = rw (t, d) (run_is n rest (omega arith) each stops)

pub none_left : (rest : List ℕ) → length rest ≡ 0 → tokens false rest ≡ []
unfolding tokens
none_left [] h = refl
none_left (b ∷ bs) h = absurd (omega arith)
