-- Printed moves and turns, read again.
use Rattle.std.proofs.Common.{◌≡◌, ℕ, suc, ◌+◌, ◌<◌, ◌≤◌, ◌^◌, ◌%◌, Bool, true, false, not, ◌&&◌, List, [], ◌∷◌, ◌++◌, length, get_or, map, Option, Some, None, refl, sym, ap, ◌∙◌, arith, eqb}
use Rattle.std.specs.Prelude.{decimal, nat_le, nat_lt, replicate, if◌then◌else◌}
use Rattle.std.specs.List.{list_all}
use Rattle.std.proofs.lemmas.Bool.{and_parts, leb-true, lt-ltb, ltb-true}
use Rattle.std.proofs.lemmas.Bool.Decides.{nat_tests}
use Rattle.std.proofs.lemmas.Fmt.{decimal_by_steps, decimal_nonempty, first_decimal}
use Rattle.std.proofs.lemmas.List.{append-nil, map-id}
use Rattle.std.proofs.lemmas.List.Folds.{list_all-append}
use Rattle.dbtg_schema.specs.Texts.Spelling.{is_digit}
use Rattle.dbtg_unit.specs.declared.moves.Move.{Move}
use Rattle.dbtg_unit.specs.declared.moves.Move.TheVariants.{Step, Quit}
use Rattle.dbtg_script.specs.declared.limits.TheConstants.{MOST_MOVES}
use Rattle.dbtg_script.specs.Printing.Spelling.{number, has_byte}
use Rattle.dbtg_script.specs.Moves.{is_gap, words, onto_word, begins_with, plain_number, spelled_turn, spelled_move, refused_word, said}
use Rattle.dbtg_script.specs.Printing.WordTexts.{in_one_word, onto_run, runs, times_text, move_word, run_words, gap_before, line_of, moves_words_text, turns_text}
use Rattle.dbtg_script.specs.Laws.{is_unit_number, has_unit_number, PrintedMovesAreReadBack, PrintedTurnsAreReadBack}
use Rattle.dbtg_script.proofs.Printing.KeyText.{there, front_of, behind_of, no_digit, number_decimal}
use Rattle.dbtg_script.proofs.Reading.MoveSteps.{letter_word, onto_new, onto_more, gap_step, none_left, word_fits, no_words}
use Rattle.dbtg_script.proofs.Printing.WordRuns.{same_unit}

-- DIGITS

digit : (n : ℕ) → n < 10 → is_digit (48 + n) ≡ true
digit n h = let a : nat_le 48 (48 + n) ≡ true = grind (arith, nat_tests) in let b : nat_le (48 + n) 57 ≡ true = grind (arith, nat_tests) in rw (a, b) refl

digits : (n : ℕ) → n < 2 ^ 64 → list_all is_digit (decimal n) ≡ true
digits =
    decimal_by_steps (λ n ds. list_all is_digit ds ≡ true) (λ n h. rw (digit n h) refl)
    (λ n ds h g. rw (list_all-append is_digit ds ((48 + n % 10) ∷ []), g, digit (n % 10) (omega arith)) refl)

first_other : (c : ℕ) (ds : List ℕ) → c < get_or ds 0 0 → begins_with c ds ≡ false
first_other c [] h = refl
first_other c (d ∷ ds) h = let e : eqb d c ≡ false = grind (arith, nat_tests) in e

pub plain : (most n : ℕ) → 1 ≤ n → n ≤ most → most < 2 ^ 64 → plain_number most (decimal n) ≡ Some n
plain most n some fits small =
    let low : n < 2 ^ 64 = omega arith in
    let long : nat_lt 0 (length (decimal n)) ≡ true = lt-ltb 0 (length (decimal n)) (decimal_nonempty n low) in
    let all : list_all is_digit (decimal n) ≡ true = digits n low in
    let first : begins_with 48 (decimal n) ≡ false = first_other 48 (decimal n) (first_decimal n (omega arith) low) in
    let value : number (decimal n) ≡ n = number_decimal n low in
    let le : nat_le n most ≡ true = grind (arith, nat_tests) in
    rw (long, all, first, value, le) refl

-- WORDS

-- bytes without a gap
abbrev solid : List ℕ → Bool
solid w = list_all (λ b. not (is_gap b)) w

abbrev is_word : List ℕ → Bool
is_word w = nat_lt 0 (length w) && solid w

apart : (b : ℕ) → 48 ≤ b → not (is_gap b) ≡ true
apart b h =
    let p : eqb b 32 ≡ false = grind (arith, nat_tests) in
    let q : eqb b 9 ≡ false = grind (arith, nat_tests) in
    let r : eqb b 10 ≡ false = grind (arith, nat_tests) in
    let s : eqb b 13 ≡ false = grind (arith, nat_tests) in
    rw (p, q, r, s) refl

solid_digits : (ds : List ℕ) → list_all is_digit ds ≡ true → solid ds ≡ true
solid_digits [] h = refl
solid_digits (d ∷ ds) h =
    let p = and_parts (is_digit d) (list_all is_digit ds) h in
    let low : 48 ≤ d = leb-true 48 d (and_parts (nat_le 48 d) (nat_le d 57) p.0).0 in
    rw (apart d low, solid_digits ds p.1) refl

solid_decimal : (n : ℕ) → n < 2 ^ 64 → solid (decimal n) ≡ true
solid_decimal n h = solid_digits (decimal n) (digits n h)

solid_append : (xs ys : List ℕ) → solid xs ≡ true → solid ys ≡ true → solid (xs ++ ys) ≡ true
solid_append xs ys h g = rw (list_all-append (λ b. not (is_gap b)) xs ys, h, g) refl

solid_times : (k : ℕ) → k < 2 ^ 64 → solid (times_text k) ≡ true
solid_times k h = by_cases (eqb k 1) where
  by_cases : (b : Bool) → solid (if b then [] else 42 ∷ decimal k) ≡ true
  by_cases true = refl
  by_cases false = solid_decimal k h

longer : (xs ys : List ℕ) → 0 < length xs → nat_lt 0 (length (xs ++ ys)) ≡ true
longer [] ys h = absurd (omega arith)
longer (x ∷ xs) ys h = lt-ltb 0 (length (x ∷ xs ++ ys)) (omega arith)

step_word : (u k : ℕ) → u < 2 ^ 64 → k < 2 ^ 64 → is_word (decimal u ++ times_text k) ≡ true
step_word u k h g = rw (longer (decimal u) (times_text k) (decimal_nonempty u h), solid_append (decimal u) (times_text k) (solid_decimal u h) (solid_times k g)) refl

quit_word : (u : ℕ) → u < 2 ^ 64 → is_word (81 ∷ decimal u) ≡ true
quit_word u h = rw (lt-ltb 0 (length (81 ∷ decimal u)) (omega arith), solid_decimal u h) refl

no_gap : (b : ℕ) → not (is_gap b) ≡ true → is_gap b ≡ false
no_gap b h = opposite (is_gap b) h where
  opposite : (x : Bool) → not x ≡ true → x ≡ false
  opposite true h = absurd cc
  opposite false h = refl

first_word : (w rest : List ℕ) (g : ℕ) → is_gap g ≡ true → solid w ≡ true → 0 < length w → words (w ++ g ∷ rest) ≡ w ∷ words rest
first_word [] rest g gap h long = absurd (omega arith)
first_word (b ∷ []) rest g gap h long =
    let p = and_parts (not (is_gap b)) true h in
    letter_word b (g ∷ rest) (no_gap b p.0) ∙ onto_new b g rest (words (g ∷ rest)) gap ∙ ap (λ (ws : List (List ℕ)). (b ∷ []) ∷ ws) (sym (gap_step (g ∷ rest) rest g refl gap))
first_word (b ∷ c ∷ cs) rest g gap h long =
    let p = and_parts (not (is_gap b)) (solid (c ∷ cs)) h in
    let q = and_parts (not (is_gap c)) (solid cs) p.1 in
    letter_word b (c ∷ cs ++ g ∷ rest) (no_gap b p.0) ∙ ap (λ (ws : List (List ℕ)). onto_word b (c ∷ cs ++ g ∷ rest) ws) (first_word (c ∷ cs) rest g gap p.1 (omega arith))
    ∙ onto_more b c (cs ++ g ∷ rest) (c ∷ cs) (words rest) (no_gap c q.0)

words_back : (ws : List (List ℕ)) → list_all is_word ws ≡ true → words (line_of ws) ≡ ws
words_back [] h = none_left [] refl
words_back (w ∷ ws) h =
    let p = and_parts (is_word w) (list_all is_word ws) h in
    let q = and_parts (nat_lt 0 (length w)) (solid w) p.0 in
    first_word w (line_of ws) (gap_before ws) (is_gap_before ws) q.1 (ltb-true 0 (length w) q.0) ∙ ap (λ (vs : List (List ℕ)). w ∷ vs) (words_back ws p.1)
  where
    is_gap_before : (vs : List (List ℕ)) → is_gap (gap_before vs) ≡ true
    is_gap_before [] = refl
    is_gap_before (v ∷ vs) = refl

-- WHAT A WORD SAYS

turn_back : (u k : ℕ) → 1 ≤ u → u ≤ 99 → 1 ≤ k → k ≤ MOST_MOVES → spelled_turn (decimal u ++ times_text k) ≡ Some (u, k)
turn_back u k some fits more few = by_cases (eqb k 1) refl where
  unit : plain_number 99 (decimal u) ≡ Some u
  unit = plain 99 u some fits (omega arith)

  count : plain_number MOST_MOVES (decimal k) ≡ Some k
  count = plain MOST_MOVES k more few (omega arith)

  clear : has_byte 42 (decimal u) ≡ false
  clear = no_digit 42 (omega arith) u (omega arith)

  by_cases : (b : Bool) → eqb k 1 ≡ b → spelled_turn (decimal u ++ (if b then [] else 42 ∷ decimal k)) ≡ Some (u, k)
  by_cases true e = let one : k ≡ 1 = grind (arith, nat_tests) in rw (append-nil (decimal u), clear, unit, one) refl
  by_cases false e = rw (there 42 (decimal u) (decimal k) clear, front_of 42 (decimal u) (decimal k) clear, behind_of 42 (decimal u) (decimal k) clear, count, unit) refl

no_letter : (ds t : List ℕ) → list_all is_digit ds ≡ true → 0 < length ds → begins_with 81 (ds ++ t) ≡ false
no_letter [] t h long = absurd (omega arith)
no_letter (d ∷ ds) t h long =
    let p = and_parts (is_digit d) (list_all is_digit ds) h in
    let high : d ≤ 57 = leb-true d 57 (and_parts (nat_le 48 d) (nat_le d 57) p.0).1 in
    let e : eqb d 81 ≡ false = grind (arith, nat_tests) in e

step_back : (u k : ℕ) → 1 ≤ u → u ≤ 99 → 1 ≤ k → k ≤ MOST_MOVES → spelled_move (decimal u ++ times_text k) ≡ Some (Step u, k)
step_back u k some fits more few =
    rw (no_letter (decimal u) (times_text k) (digits u (omega arith)) (decimal_nonempty u (omega arith)), turn_back u k some fits more few) refl

quit_back : (u : ℕ) → 1 ≤ u → u ≤ 99 → spelled_move (81 ∷ decimal u) ≡ Some (Quit u, 1)
quit_back u some fits = rw (plain 99 u some fits (omega arith)) refl

-- RUNS

-- a run of steps has a unit that can be named, and is not empty; a quit is alone
abbrev IsRun : Move → ℕ → Type 0
IsRun (Step u) k = (1 ≤ u) × (u ≤ 99) × (1 ≤ k)
IsRun (Quit u) k = (1 ≤ u) × (u ≤ 99) × (k ≡ 1)

-- and a run of turns is one of steps
abbrev IsTurnRun : Move → ℕ → Type 0
IsTurnRun (Step u) k = (1 ≤ u) × (u ≤ 99) × (1 ≤ k)
IsTurnRun (Quit u) k = ⊥

abbrev AllRuns : (Move → ℕ → Type 0) → List (Move × ℕ) → Type 0
AllRuns P [] = Unit {0}
AllRuns P (r ∷ rs) = P r.0 r.1 × AllRuns P rs

turn_is_run : (m : Move) (k : ℕ) → IsTurnRun m k → IsRun m k
turn_is_run (Step u) k h = h
turn_is_run (Quit u) k h = absurd h

weaker : (P Q : Move → ℕ → Type 0) → ((m : Move) (k : ℕ) → P m k → Q m k) → (rs : List (Move × ℕ)) → AllRuns P rs → AllRuns Q rs
weaker P Q f [] h = tt
weaker P Q f (r ∷ rs) h = (f r.0 r.1 h.0, weaker P Q f rs h.1)

onto_fits : (P : Move → ℕ → Type 0) (m : Move) (rs : List (Move × ℕ)) → P m 1 → ((n : Move) (k : ℕ) → in_one_word m n ≡ true → P m (1 + k)) → AllRuns P rs → AllRuns P (onto_run m rs)
onto_fits P m [] one more h = (one, tt)
onto_fits P m (r ∷ rs) one more h = by_cases (in_one_word m r.0) refl where
  by_cases : (b : Bool) → in_one_word m r.0 ≡ b → AllRuns P (if b then (m, 1 + r.1) ∷ rs else (m, 1) ∷ r ∷ rs)
  by_cases true e = (more r.0 r.1 e, h.1)
  by_cases false e = (one, h)

unit_from : (u : ℕ) → is_unit_number u ≡ true → 1 ≤ u
unit_from u h = leb-true 1 u (and_parts (nat_le 1 u) (nat_le u 99) h).0

unit_to : (u : ℕ) → is_unit_number u ≡ true → u ≤ 99
unit_to u h = leb-true u 99 (and_parts (nat_le 1 u) (nat_le u 99) h).1

one_run : (m : Move) → has_unit_number m ≡ true → IsRun m 1
one_run (Step u) h = (unit_from u h, unit_to u h, omega arith)
one_run (Quit u) h = (unit_from u h, unit_to u h, refl)

more_run : (m n : Move) (k : ℕ) → has_unit_number m ≡ true → in_one_word m n ≡ true → IsRun m (1 + k)
more_run (Step u) n k h e = (unit_from u h, unit_to u h, omega arith)
more_run (Quit u) n k h e = absurd cc

all_runs : (ms : List Move) → list_all has_unit_number ms ≡ true → AllRuns IsRun (runs ms)
all_runs [] h = tt
all_runs (m ∷ ms) h =
    let p = and_parts (has_unit_number m) (list_all has_unit_number ms) h in
    onto_fits IsRun m (runs ms) (one_run m p.0) (λ n k e. more_run m n k p.0 e) (all_runs ms p.1)

all_turns : (us : List ℕ) → list_all is_unit_number us ≡ true → AllRuns IsTurnRun (runs (map Step us))
all_turns [] h = tt
all_turns (u ∷ us) h =
    let p = and_parts (is_unit_number u) (list_all is_unit_number us) h in
    onto_fits IsTurnRun (Step u) (runs (map Step us)) (unit_from u p.0, unit_to u p.0, omega arith) (λ n k e. (unit_from u p.0, unit_to u p.0, omega arith)) (all_turns us p.1)

-- how many moves runs have
abbrev counts : List (Move × ℕ) → ℕ
counts [] = 0
counts (r ∷ rs) = r.1 + counts rs

onto_counts : (m : Move) (rs : List (Move × ℕ)) → counts (onto_run m rs) ≡ 1 + counts rs
onto_counts m [] = omega arith
onto_counts m (r ∷ rs) = by_cases (in_one_word m r.0) where
  by_cases : (b : Bool) → counts (if b then (m, 1 + r.1) ∷ rs else (m, 1) ∷ r ∷ rs) ≡ 1 + (r.1 + counts rs)
  by_cases true = omega arith
  by_cases false = omega arith

counts_all : (ms : List Move) → counts (runs ms) ≡ length ms
counts_all [] = refl
counts_all (m ∷ ms) = onto_counts m (runs ms) ∙ ap (λ (n : ℕ). 1 + n) (counts_all ms) ∙ all_but_one (length ms) where
  all_but_one : (n : ℕ) → 1 + n ≡ suc n
  all_but_one n = omega arith

-- RUNS ARE WORDS

word_of_run : (m : Move) (k : ℕ) → IsRun m k → k ≤ MOST_MOVES → is_word (move_word m k) ≡ true
word_of_run (Step u) k h few = step_word u k (omega (arith, h.1)) (omega arith)
word_of_run (Quit u) k h few = quit_word u (omega (arith, h.1))

all_words : (rs : List (Move × ℕ)) → AllRuns IsRun rs → counts rs ≤ MOST_MOVES → list_all is_word (run_words rs) ≡ true
all_words [] h few = refl
all_words (r ∷ rs) h few = rw (word_of_run r.0 r.1 h.0 (omega arith), all_words rs h.1 (omega arith)) refl

-- what the words of runs say, an entry for each move
abbrev told : {A : Type 0} → (Move → A) → List (Move × ℕ) → List (Option (A × ℕ))
told f rs = map (λ r. Some (f r.0, r.1)) rs

all_told : {A : Type 0} (f : Move → A) (spelled : List ℕ → Option (A × ℕ)) (P : Move → ℕ → Type 0) → ((m : Move) (k : ℕ) → P m k → k ≤ MOST_MOVES → spelled (move_word m k) ≡ Some (f m, k))
    → (rs : List (Move × ℕ)) → AllRuns P rs → counts rs ≤ MOST_MOVES → map spelled (run_words rs) ≡ told f rs
all_told f spelled P each [] h few = refl
all_told f spelled P each (r ∷ rs) h few = rw (each r.0 r.1 h.0 (omega arith), all_told f spelled P each rs h.1 (omega arith)) refl

run_back : (m : Move) (k : ℕ) → IsRun m k → k ≤ MOST_MOVES → spelled_move (move_word m k) ≡ Some (m, k)
run_back (Step u) k h few = step_back u k h.0 h.1 h.2 few
run_back (Quit u) k h few = quit_back u h.0 h.1 ∙ ap (λ (n : ℕ). Some (Quit u, n)) (sym h.2)

unit_of : Move → ℕ
unit_of (Step u) = u
unit_of (Quit u) = u

turn_run_back : (m : Move) (k : ℕ) → IsTurnRun m k → k ≤ MOST_MOVES → spelled_turn (move_word m k) ≡ Some (unit_of m, k)
unfolding unit_of
turn_run_back (Step u) k h few = turn_back u k h.0 h.1 h.2 few
turn_run_back (Quit u) k h few = absurd h

-- NO FAULT, AND THE SAME

no_fault : {A : Type 0} (f : Move → A) (total number : ℕ) (rs : List (Move × ℕ)) → total + counts rs ≤ MOST_MOVES → refused_word total number (told f rs) ≡ None
no_fault f total number [] few = no_words total number [] refl
no_fault f total number (r ∷ rs) few =
    word_fits total number (Some (f r.0, r.1)) (told f rs) (f r.0) r.1 refl (omega arith) ∙ no_fault f (total + r.1) (number + 1) rs (omega arith)

once_more : {A : Type 0} (k : ℕ) (a : A) → replicate (1 + k) a ≡ a ∷ replicate k a
once_more k a = let e : 1 + k ≡ suc k = omega arith in rw e refl

onto_said : {A : Type 0} (f : Move → A) (m : Move) (rs : List (Move × ℕ)) → said (told f (onto_run m rs)) ≡ f m ∷ said (told f rs)
onto_said f m [] = refl
onto_said f m (r ∷ rs) = by_cases (in_one_word m r.0) refl where
  by_cases : (b : Bool) → in_one_word m r.0 ≡ b → said (told f (if b then (m, 1 + r.1) ∷ rs else (m, 1) ∷ r ∷ rs)) ≡ f m ∷ said (told f (r ∷ rs))
  by_cases true e =
      let same : m ≡ r.0 = same_unit m r.0 e in
      ap (λ x. x ++ said (told f rs)) (once_more r.1 (f m)) ∙ ap (λ (n : Move). f m ∷ (replicate r.1 (f n) ++ said (told f rs))) same
  by_cases false e = refl

all_said : {A : Type 0} (f : Move → A) (ms : List Move) → said (told f (runs ms)) ≡ map f ms
all_said f [] = refl
all_said f (m ∷ ms) = onto_said f m (runs ms) ∙ ap (λ xs. f m ∷ xs) (all_said f ms)

few_in_runs : (ms : List Move) → length ms ≤ MOST_MOVES → counts (runs ms) ≤ MOST_MOVES
few_in_runs ms few = let e = counts_all ms in omega (arith, e)

pub moves_read_back : PrintedMovesAreReadBack
moves_read_back ms named few =
    let fit = all_runs ms named in
    let small = few_in_runs ms few in
    let back : words (moves_words_text ms) ≡ run_words (runs ms) = words_back (run_words (runs ms)) (all_words (runs ms) fit small) in
    let says : map spelled_move (words (moves_words_text ms)) ≡ told (λ m. m) (runs ms) = ap (map spelled_move) back ∙ all_told (λ m. m) spelled_move IsRun run_back (runs ms) fit small in
    (ap (refused_word 0 1) says ∙ no_fault (λ m. m) 0 1 (runs ms) (omega arith), ap said says ∙ all_said (λ m. m) ms ∙ map-id ms)

unit_of_step : (us : List ℕ) → map unit_of (map Step us) ≡ us
unfolding unit_of
unit_of_step [] = refl
unit_of_step (u ∷ us) = ap (λ (vs : List ℕ). u ∷ vs) (unit_of_step us)

length_steps : (us : List ℕ) → length (map Step us) ≡ length us
length_steps [] = refl
length_steps (u ∷ us) = ap suc (length_steps us)

pub turns_read_back : PrintedTurnsAreReadBack
turns_read_back us named few =
    let ms = map Step us in
    let fit = all_turns us named in
    let small = few_in_runs ms (let e = length_steps us in omega (arith, e)) in
    let back : words (turns_text us) ≡ run_words (runs ms) = words_back (run_words (runs ms)) (all_words (runs ms) (weaker IsTurnRun IsRun turn_is_run (runs ms) fit) small) in
    let says : map spelled_turn (words (turns_text us)) ≡ told unit_of (runs ms) = ap (map spelled_turn) back ∙ all_told unit_of spelled_turn IsTurnRun turn_run_back (runs ms) fit small in
    (ap (refused_word 0 1) says ∙ no_fault unit_of 0 1 (runs ms) (omega arith), ap said says ∙ all_said unit_of ms ∙ unit_of_step us)
