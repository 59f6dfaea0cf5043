-- Lists of keys one after another, by number from 0 up.
-- n is how many there are, i the next.
use Rattle.std.proofs.Common.{◌≡◌, refl, sym, ◌∙◌, ap, ℕ, zero, suc, ◌+◌, ◌-◌, ◌<◌, ◌≤◌, Bool, true, false, List, [], ◌∷◌, ◌++◌, drop, length, Option, Some, None, arith, reverse, length-append}
use Rattle.std.specs.Prelude.{filter, is_some, slice_get}
use Rattle.std.specs.List.{flat_map, range_with_len}
use Rattle.std.specs.Option.{option_or}
use Rattle.std.proofs.lemmas.Bool.{false≢true}
use Rattle.std.proofs.lemmas.List.{reverse-append}
use Rattle.std.proofs.lemmas.List.Elements.{filter-append}
use Rattle.dbtg_schema.specs.Lookups.{final, first}
use Rattle.dbtg_schema.proofs.Public.{numbers_end, numbers_next}
use Rattle.dbtg_unit.proofs.Public.{slice_get_front}

-- those from number i on
abbrev pub lists_from : {Y : Type 0} → (ℕ → List Y) → ℕ → ℕ → List Y
lists_from g n i = flat_map g (drop i (range_with_len 0 n))

pub lists_next : {Y : Type 0} (g : ℕ → List Y) (n i : ℕ) → i < n → lists_from g n i ≡ g i ++ lists_from g n (i + 1)
lists_next g n i low = ap (flat_map g) (numbers_next n i low)

pub lists_end : {Y : Type 0} (g : ℕ → List Y) (n i : ℕ) → n ≤ i → lists_from g n i ≡ []
lists_end g n i high = ap (flat_map g) (numbers_end n i high)

first_append : {Y : Type 0} (xs ys : List Y) → first (xs ++ ys) ≡ option_or (first xs) (first ys)
first_append [] ys = refl
first_append (x ∷ xs) ys = refl

-- the first that passes
pub first_step : {Y : Type 0} (p : Y → Bool) (g : ℕ → List Y) (n i : ℕ) → i < n
    → first (filter p (lists_from g n i)) ≡ option_or (first (filter p (g i))) (first (filter p (lists_from g n (i + 1))))
first_step p g n i low =
    ap (λ ys. first (filter p ys)) (lists_next g n i low) ∙ ap first (filter-append p (g i) (lists_from g n (i + 1)))
    ∙ first_append (filter p (g i)) (filter p (lists_from g n (i + 1)))

-- the last that passes
pub last_step : {Y : Type 0} (p : Y → Bool) (g : ℕ → List Y) (n i : ℕ) → i < n
    → final (filter p (lists_from g n i)) ≡ option_or (final (filter p (lists_from g n (i + 1)))) (final (filter p (g i)))
last_step p g n i low =
    ap (λ ys. final (filter p ys)) (lists_next g n i low) ∙ ap final (filter-append p (g i) (lists_from g n (i + 1)))
    ∙ ap first (reverse-append (filter p (g i)) (filter p (lists_from g n (i + 1))))
    ∙ first_append (reverse (filter p (lists_from g n (i + 1)))) (reverse (filter p (g i)))

pub or_or : {Y : Type 0} (a b c : Option Y) → option_or a (option_or b c) ≡ option_or (option_or a b) c
or_or None b c = refl
or_or (Some y) b c = refl

pub or_some : {Y : Type 0} (a b : Option Y) → is_some a ≡ true → a ≡ option_or a b
or_some None b h = absurd (false≢true h)
or_some (Some y) b h = refl

pub or_skip : {Y : Type 0} (a b : Option Y) → is_some a ≡ false → b ≡ option_or a b
or_skip None b h = refl
or_skip (Some y) b h = absurd (false≢true (sym h))

-- how many
pub count_step : {Y : Type 0} (g : ℕ → List Y) (n i : ℕ) → i < n → length (lists_from g n i) ≡ length (g i) + length (lists_from g n (i + 1))
count_step g n i low = ap length (lists_next g n i low) ∙ length-append (g i) (lists_from g n (i + 1))

-- the one at a place
get_right : {Y : Type 0} (xs ys : List Y) (k : ℕ) → length xs ≤ k → slice_get (xs ++ ys) k ≡ slice_get ys (k - length xs)
get_right [] ys k high = ap (slice_get ys) (omega arith)
get_right (x ∷ xs) ys zero high = absurd (omega arith)
get_right (x ∷ xs) ys (suc k) high = get_right xs ys k (omega arith) ∙ ap (slice_get ys) (omega arith)

pub place_here : {Y : Type 0} (g : ℕ → List Y) (n i k : ℕ) → i < n → k < length (g i) → slice_get (lists_from g n i) k ≡ slice_get (g i) k
place_here g n i k low inside = ap (λ ys. slice_get ys k) (lists_next g n i low) ∙ slice_get_front (g i) (lists_from g n (i + 1)) k inside

pub place_behind : {Y : Type 0} (g : ℕ → List Y) (n i k : ℕ) → i < n → length (g i) ≤ k → slice_get (lists_from g n i) k ≡ slice_get (lists_from g n (i + 1)) (k - length (g i))
place_behind g n i k low past = ap (λ ys. slice_get ys k) (lists_next g n i low) ∙ get_right (g i) (lists_from g n (i + 1)) k past
