-- A run of bytes that are not signs is one part of a word, and so is a sign.
use Rattle.std.proofs.Common.{◌≡◌, None, ℕ, zero, suc, ◌<◌, ◌≤◌, Bool, true, false, cond, ◌||◌, List, [], ◌∷◌, length, get_or, take, drop, refl, sym, ap, ◌∙◌, arith}
use Rattle.std.specs.List.{list_any}
use Rattle.dbtg_script.specs.Tokens.{Token, equals, literal, plain}
use Rattle.dbtg_program.specs.Sentences.{is_sign, onto_part, paragraph_in, parts}

sign_first : (b : ℕ) (bs : List ℕ) → is_sign b ≡ true → parts (b ∷ bs) ≡ (b ∷ []) ∷ parts bs
sign_first b bs h = ap (λ (t : Bool). cond t ((b ∷ []) ∷ parts bs) (onto_part b (parts bs))) h

plain_first : (b : ℕ) (bs : List ℕ) → is_sign b ≡ false → parts (b ∷ bs) ≡ onto_part b (parts bs)
plain_first b bs h = ap (λ (t : Bool). cond t ((b ∷ []) ∷ parts bs) (onto_part b (parts bs))) h

onto_sign : (b : ℕ) (p : List ℕ) (ps : List (List ℕ)) → list_any is_sign p ≡ true → onto_part b (p ∷ ps) ≡ (b ∷ []) ∷ p ∷ ps
onto_sign b p ps h = ap (λ (t : Bool). cond t ((b ∷ []) ∷ p ∷ ps) ((b ∷ p) ∷ ps)) h

onto_more : (b : ℕ) (p : List ℕ) (ps : List (List ℕ)) → list_any is_sign p ≡ false → onto_part b (p ∷ ps) ≡ (b ∷ p) ∷ ps
onto_more b p ps h = ap (λ (t : Bool). cond t ((b ∷ []) ∷ p ∷ ps) ((b ∷ p) ∷ ps)) h

no_sign : (n : ℕ) (bs : List ℕ) → ((k : ℕ) → k < n → is_sign (get_or bs k 0) ≡ false) → list_any is_sign (take n bs) ≡ false
no_sign zero bs each = refl
no_sign (suc n) [] each = refl
no_sign (suc n) (b ∷ bs) each = ap (λ (t : Bool). t || list_any is_sign (take n bs)) (each 0 (omega arith)) ∙ no_sign n bs (λ k h. each (suc k) (omega arith))

run_is : (n : ℕ) (b : ℕ) (bs : List ℕ) → suc n ≤ length (b ∷ bs) → ((k : ℕ) → k < suc n → is_sign (get_or (b ∷ bs) k 0) ≡ false) → (suc n < length (b ∷ bs) → is_sign (get_or (b ∷ bs) (suc n) 0) ≡ true)
    → parts (b ∷ bs) ≡ take (suc n) (b ∷ bs) ∷ parts (drop (suc n) (b ∷ bs))
run_is zero b [] le each stops = plain_first b [] (each 0 (omega arith))
run_is zero b (c ∷ cs) le each stops =
    let s : is_sign c ≡ true = stops (omega arith) in
    plain_first b (c ∷ cs) (each 0 (omega arith)) ∙ ap (onto_part b) (sign_first c cs s) ∙ onto_sign b (c ∷ []) (parts cs) (ap (λ (t : Bool). t || false) s)
    ∙ ap (λ (ps : List (List ℕ)). (b ∷ []) ∷ ps) (sym (sign_first c cs s))
run_is (suc n) b [] le each stops = absurd (omega arith)
run_is (suc n) b (c ∷ cs) le each stops =
    let further : (k : ℕ) → k < suc n → is_sign (get_or (c ∷ cs) k 0) ≡ false = λ k h. each (suc k) (omega arith) in
    plain_first b (c ∷ cs) (each 0 (omega arith)) ∙ ap (onto_part b) (run_is n c cs (omega arith) further (λ h. stops (omega arith)))
    ∙ onto_more b (take (suc n) (c ∷ cs)) (parts (drop (suc n) (c ∷ cs))) (no_sign (suc n) (c ∷ cs) further)

-- a sign is a part
pub first_sign : (n : ℕ) (bs : List ℕ) → n ≡ 0 → 0 < length bs → (n < length bs → is_sign (get_or bs n 0) ≡ true) → parts bs ≡ take 1 bs ∷ parts (drop 1 bs)
first_sign zero [] none some stops = absurd (omega arith)
first_sign zero (b ∷ bs) none some stops = sign_first b bs (stops (omega arith))
first_sign (suc n) bs none some stops = absurd (omega arith)

-- a run up to a sign, or to the end, is a part
pub first_run : (n : ℕ) (bs : List ℕ) → (n ≡ 0 → ⊥) → n ≤ length bs → ((k : ℕ) → k < n → is_sign (get_or bs k 0) ≡ false) → (n < length bs → is_sign (get_or bs n 0) ≡ true) → parts bs ≡ take n bs ∷ parts (drop n bs)
first_run zero bs some le each stops = absurd (some refl)
first_run (suc n) [] some le each stops = absurd (omega arith)
first_run (suc n) (b ∷ bs) some le each stops = run_is n b bs le each stops

-- where nothing is left there is no part
pub no_part : (bs : List ℕ) → length bs ≡ 0 → parts bs ≡ []
no_part [] h = refl
no_part (b ∷ bs) h = absurd (omega arith)

-- no paragraph begins with more than one word
no_more : (has : Bool) (w x : Token) (us : List Token) → None ≡ paragraph_in has (w ∷ x ∷ us)
no_more true (plain t) x us = refl
no_more true equals x us = refl
no_more true (literal t) x us = refl
no_more false w x us = refl

pub two_words : (has : Bool) (ws ts us : List Token) (w x : Token) → ws ≡ w ∷ ts → ts ≡ x ∷ us → None ≡ paragraph_in has ws
two_words has ws ts us w x is more = no_more has w x us ∙ ap (paragraph_in has) (sym (is ∙ ap (λ (rest : List Token). w ∷ rest) more))
