-- A run of bytes without a gap is one word; one word of moves further.
use Rattle.std.proofs.Common.{◌≡◌, ℕ, zero, suc, ◌+◌, ◌<◌, ◌≤◌, true, false, List, [], ◌∷◌, ◌++◌, length, get_or, take, drop, Option, Some, None, refl, sym, ap, ◌∙◌, arith, length-append}
use Rattle.std.specs.Prelude.{nat_lt, replicate}
use Rattle.std.proofs.lemmas.List.{length-replicate}
use Rattle.std.proofs.lemmas.Bool.{false≢true}
use Rattle.std.proofs.lemmas.Bool.Decides.{nat_tests}
use Rattle.dbtg_script.specs.declared.limits.TheConstants.{MOST_MOVES}
use Rattle.dbtg_script.specs.declared.moves.MovesCause.TheVariants.{NotAMove, TooManyMoves}
use Rattle.dbtg_script.specs.Moves.{is_gap, onto_word, words, refused_word}

pub letter_word : (b : ℕ) (bs : List ℕ) → is_gap b ≡ false → words (b ∷ bs) ≡ onto_word b bs (words bs)
unfolding words
letter_word b bs h = rw h refl

onto_last : (b : ℕ) (ws : List (List ℕ)) → onto_word b [] ws ≡ (b ∷ []) ∷ ws
unfolding onto_word
onto_last b ws = refl

pub onto_new : (b c : ℕ) (cs : List ℕ) (ws : List (List ℕ)) → is_gap c ≡ true → onto_word b (c ∷ cs) ws ≡ (b ∷ []) ∷ ws
unfolding onto_word
onto_new b c cs [] h = refl
onto_new b c cs (w ∷ ws) h = rw h refl

pub onto_more : (b c : ℕ) (cs w : List ℕ) (ws : List (List ℕ)) → is_gap c ≡ false → onto_word b (c ∷ cs) (w ∷ ws) ≡ (b ∷ w) ∷ ws
unfolding onto_word
onto_more b c cs w ws h = rw h refl

run_is : (n : ℕ) (bs : List ℕ) → n < length bs → ((k : ℕ) → k < suc n → is_gap (get_or bs k 0) ≡ false) → (suc n < length bs → is_gap (get_or bs (suc n) 0) ≡ true) → words bs ≡ take (suc n) bs ∷ words (drop (suc n) bs)
run_is n [] lt each stops = absurd (omega arith)
run_is zero (b ∷ []) lt each stops = letter_word b [] (each 0 (omega arith)) ∙ onto_last b (words [])
run_is zero (b ∷ c ∷ cs) lt each stops = letter_word b (c ∷ cs) (each 0 (omega arith)) ∙ onto_new b c cs (words (c ∷ cs)) (stops (omega arith))
run_is (suc n) (b ∷ []) lt each stops = absurd (omega arith)
run_is (suc n) (b ∷ c ∷ cs) lt each stops =
    let inner = run_is n (c ∷ cs) (omega arith) (λ k h. each (suc k) (omega arith)) (λ h. stops (omega arith)) in
    letter_word b (c ∷ cs) (each 0 (omega arith)) ∙ ap (λ (x : List (List ℕ)). onto_word b (c ∷ cs) x) inner ∙ onto_more b c cs (take (suc n) (c ∷ cs)) (words (drop (suc n) (c ∷ cs))) (each 1 (omega arith))

pub gap_step : (rest after : List ℕ) (b : ℕ) → rest ≡ b ∷ after → is_gap b ≡ true → words after ≡ words rest
unfolding words
gap_step rest after b e h = rw (e, h) refl

pub word_step : (rest after : List ℕ) (b n : ℕ) (text tail : List ℕ) → rest ≡ b ∷ after → is_gap b ≡ false → n ≤ length rest → ((k : ℕ) → k < n → is_gap (get_or rest k 0) ≡ false)
    → (n < length rest → is_gap (get_or rest n 0) ≡ true) → text ≡ take n rest → tail ≡ drop n rest → words rest ≡ text ∷ words tail
word_step rest after b zero text tail e h le each stops t d =
    let letter : is_gap (get_or rest 0 0) ≡ false = rw (e, h) refl in
    let short : 0 < length rest = rw e (omega arith) in
    absurd (false≢true (sym letter ∙ stops short))
word_step rest after b (suc n) text tail e h le each stops t d = rw (t, d) (run_is n rest (omega arith) each stops)

pub none_left : (rest : List ℕ) → length rest ≡ 0 → words rest ≡ []
unfolding words
none_left [] h = refl
none_left (b ∷ bs) h = absurd (omega arith)

-- a word that says nothing
pub no_move : {A : Type 0} (total number : ℕ) (s : Option (A × ℕ)) (left : List (Option (A × ℕ))) → s ≡ None → refused_word total number (s ∷ left) ≡ Some (number, NotAMove)
unfolding refused_word
no_move total number s left h = rw h refl

-- a word with which the total passes the limit
pub too_many : {A : Type 0} (total number : ℕ) (s : Option (A × ℕ)) (left : List (Option (A × ℕ))) (m : A) (k : ℕ) → s ≡ Some (m, k) → MOST_MOVES < total + k → refused_word total number (s ∷ left) ≡ Some (number, TooManyMoves)
unfolding refused_word
too_many total number s left m k h more = let e : nat_lt MOST_MOVES (total + k) ≡ true = grind (arith, nat_tests) in rw (h, e) refl

-- a word with its entries
pub word_fits : {A : Type 0} (total number : ℕ) (s : Option (A × ℕ)) (left : List (Option (A × ℕ))) (m : A) (k : ℕ) → s ≡ Some (m, k) → total + k ≤ MOST_MOVES
    → refused_word total number (s ∷ left) ≡ refused_word (total + k) (number + 1) left
unfolding refused_word
word_fits total number s left m k h few = let e : nat_lt MOST_MOVES (total + k) ≡ false = grind (arith, nat_tests) in rw (h, e) refl

pub moves_on : {A : Type 0} (ms : List A) (number : ℕ) (s : Option (A × ℕ)) (left : List (Option (A × ℕ))) (m : A) (k : ℕ) → s ≡ Some (m, k) → length ms + k ≤ MOST_MOVES
    → refused_word (length ms) number (s ∷ left) ≡ refused_word (length (ms ++ replicate k m)) (number + 1) left
moves_on ms number s left m k h few =
    let n : length (ms ++ replicate k m) ≡ length ms + k = length-append ms (replicate k m) ∙ ap (λ (x : ℕ). length ms + x) (length-replicate k m) in
    rw n (word_fits (length ms) number s left m k h few)

pub no_words : {A : Type 0} (total number : ℕ) (ss : List (Option (A × ℕ))) → ss ≡ [] → refused_word total number ss ≡ None
unfolding refused_word
no_words total number ss h = rw h refl

-- the first word, or no bytes if there is none
abbrev pub first_word : List (List ℕ) → List ℕ
first_word [] = []
first_word (w ∷ ws) = w

-- the word that is taken is the first of the text, where all its words are left
pub first_is_taken : (w taken : List ℕ) (ws rest all left : List (List ℕ)) → all ≡ w ∷ ws → left ≡ all → left ≡ taken ∷ rest → taken ≡ w
first_is_taken w taken ws rest all left first_is same found = ap first_word (sym found ∙ same ∙ first_is)
