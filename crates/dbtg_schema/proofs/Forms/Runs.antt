-- A run of letters is one word.
use Rattle.std.proofs.Common.{◌≡◌, ℕ, zero, suc, ◌<◌, ◌≤◌, Bool, true, false, not, ◌&&◌, List, [], ◌∷◌, length, get_or, take, drop, refl, sym, ap, ◌∙◌, arith, eqb}
use Rattle.std.proofs.lemmas.Bool.{false≢true}
use Rattle.dbtg_schema.specs.Texts.Words.{Word, words, onto, is_gap, is_letter, line_after}

gap_not : (g p : Bool) → (not g && not p) ≡ true → (g ≡ false) × (p ≡ false)
gap_not true p h = absurd cc
gap_not false true h = absurd cc
gap_not false false h = (refl, refl)

pub letter_word : (b line : ℕ) (bs : List ℕ) → is_letter b ≡ true → words line (b ∷ bs) ≡ onto b line bs (words line bs)
unfolding words
letter_word b line bs h =
    let g = gap_not (is_gap b) (eqb b 46) h in
    rw (g.0, g.1) refl

onto_new : (b line c : ℕ) (cs : List ℕ) (ws : List Word) → is_letter c ≡ false → onto b line (c ∷ cs) ws ≡ record { text = b ∷ []; line = line } ∷ ws
unfolding onto
onto_new b line c cs [] h = refl
onto_new b line c cs (w ∷ ws) h = rw h refl

onto_more : (b line c : ℕ) (cs : List ℕ) (w : Word) (ws : List Word) → is_letter c ≡ true → onto b line (c ∷ cs) (w ∷ ws) ≡ record { text = b ∷ w.text; line = w.line } ∷ ws
unfolding onto
onto_more b line c cs w ws h = rw h refl

onto_last : (b line : ℕ) (ws : List Word) → onto b line [] ws ≡ record { text = b ∷ []; line = line } ∷ ws
unfolding onto
onto_last b line ws = refl

pub run_is : (n line : ℕ) (bs : List ℕ) → n < length bs → ((k : ℕ) → k < suc n → is_letter (get_or bs k 0) ≡ true) → (suc n < length bs → is_letter (get_or bs (suc n) 0) ≡ false)
    → words line bs ≡ record { text = take (suc n) bs; line = line } ∷ words line (drop (suc n) bs)
run_is n line [] lt each stops = absurd (omega arith)
run_is zero line (b ∷ []) lt each stops = letter_word b line [] (each 0 (omega arith)) ∙ onto_last b line (words line [])
run_is zero line (b ∷ c ∷ cs) lt each stops = letter_word b line (c ∷ cs) (each 0 (omega arith)) ∙ onto_new b line c cs (words line (c ∷ cs)) (stops (omega arith))
run_is (suc n) line (b ∷ []) lt each stops = absurd (omega arith)
run_is (suc n) line (b ∷ c ∷ cs) lt each stops =
    let inner = run_is n line (c ∷ cs) (omega arith) (λ k h. each (suc k) (omega arith)) (λ h. stops (omega arith)) in
    letter_word b line (c ∷ cs) (each 0 (omega arith)) ∙ ap (λ (x : List Word). onto b line (c ∷ cs) x) inner ∙ onto_more b line c cs (record { text = take (suc n) (c ∷ cs); line = line }) (words line (drop (suc n) (c ∷ cs))) (each 1 (omega arith))

pub gap_word : (b line : ℕ) (bs : List ℕ) → is_gap b ≡ true → words line (b ∷ bs) ≡ words (line_after b line) bs
unfolding words
gap_word b line bs h = rw h refl

-- ---- the three steps of a scan, over the front and the rest

pub gap_step : (rest after : List ℕ) (b line : ℕ) → rest ≡ b ∷ after → is_gap b ≡ true → words (line_after b line) after ≡ words line rest
gap_step rest after b line e h = rw e (sym (gap_word b line after h))

pub period_step : (rest after : List ℕ) (b line : ℕ) → rest ≡ b ∷ after → is_gap b ≡ false → b ≡ 46 → words line rest ≡ record { text = 46 ∷ []; line = line } ∷ words line after
unfolding words
period_step rest after b line e g h = rw (e, h) refl

pub run_step : (rest after : List ℕ) (b line n : ℕ) (first rear : List ℕ) → rest ≡ b ∷ after → is_gap b ≡ false → eqb b 46 ≡ false → n ≤ length rest → ((k : ℕ) → k < n → is_letter (get_or rest k 0) ≡ true)
    → (n < length rest → is_letter (get_or rest n 0) ≡ false) → first ≡ take n rest → rear ≡ drop n rest → words line rest ≡ record { text = first; line = line } ∷ words line rear
run_step rest after b line zero first rear e g p fits each stops f r =
    let letter : is_letter (get_or rest 0 0) ≡ true = rw (e, g, p) refl in
    let short : 0 < length rest = rw e (omega arith) in
    absurd (false≢true (sym (stops short) ∙ letter))
run_step rest after b line (suc n) first rear e g p fits each stops f r = rw (f, r) (run_is n line rest (omega arith) each stops)

pub none_left : (rest : List ℕ) (line : ℕ) → length rest ≡ 0 → words line rest ≡ []
unfolding words
none_left [] line h = refl
none_left (b ∷ bs) line h = absurd (omega arith)
