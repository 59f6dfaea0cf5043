-- The keys of one record type by their numbers.
-- k is a key, t a record type, n and m numbers, g a generation.
use Rattle.std.proofs.Common.{◌≡◌, refl, sym, ◌∙◌, ap, ℕ, pos, zero, suc, ◌+◌, ◌-◌, ◌<◌, Bool, true, false, cond, List, [], ◌∷◌, None, arith, map, reverse, add-one}
use Rattle.std.specs.Prelude.{◌==◌, ◌&&◌, ◌||◌, nat_lt, filter, option_map, pred, slice_get}
use Rattle.std.proofs.lemmas.Option.{slice_get-map}
use Rattle.std.proofs.lemmas.Bool.Decides.{nat_tests}
use Rattle.std.proofs.lemmas.List.Elements.{filter_agree}
use Rattle.dbtg_schema.specs.Lookups.{final, first, nth}
use Rattle.dbtg_cells.specs.declared.extent.Number.{Number}
use Rattle.dbtg_cells.specs.declared.key.DbKey.{DbKey}
use Rattle.dbtg_cells.specs.Keys.{key_below}
use Rattle.dbtg_cells.specs.Numbers.{is_used, last_of, numbers_where}
use Rattle.dbtg_cells.proofs.Public.{map_reverse}
use Rattle.dbtg_unit.specs.Inside.InHand.{key_of}
use Rattle.dbtg_unit.proofs.Public.{filter_all, filter_map, first_map}
use Rattle.dbtg_plan.specs.Inside.Finding.{is_below, keys_of_type, number_above, number_below}

-- a number with a generation after another is not 0
numbered : (g n : ℕ) (numbers : List Number) → nat_lt g (last_of n numbers) ≡ true → 0 < n
numbered g zero numbers h = let none : nat_lt g 0 ≡ true = h in absurd (grind (arith, nat_tests))
numbered g (suc n) numbers h = omega arith

above_tests : (m n g a b : ℕ) → (nat_lt g a ≡ true → 0 < m) → (m ≡ n → a ≡ b) → nat_lt m n || (m == n && nat_lt g b) ≡ nat_lt (cond (nat_lt g a) (m - 1) m) n
above_tests m n g a b low same = grind (arith, nat_tests)

below_tests : (m n g a b : ℕ) → (m ≡ n → a ≡ b) → nat_lt n m || (n == m && nat_lt b g) ≡ nat_lt n (cond (nat_lt a g) (m + 1) m)
below_tests m n g a b same = grind (arith, nat_tests)

-- where no element passes, and where each does
pub none_kept : {X : Type 0} (xs : List X) → filter (λ x. false) xs ≡ []
none_kept [] = refl
none_kept (x ∷ xs) = none_kept xs

pub final_map : {X Y : Type 0} (f : X → Y) (xs : List X) → final (map f xs) ≡ option_map f (final xs)
final_map f xs = ap first (sym (map_reverse f xs)) ∙ first_map f (reverse xs)

module _ (t : ℕ) (numbers : List Number) (k : DbKey) where
  abbrev live : List ℕ
  live = numbers_where is_used numbers

  -- keys of the bound's own type
  pub above_own : k.rtype ≡ t → (n : ℕ) → key_below k (key_of numbers t n) ≡ nat_lt (number_above numbers k) n
  above_own is_t n =
      split is_t n ∙ above_tests k.number n k.generation (last_of k.number numbers) (last_of n numbers) (numbered k.generation k.number numbers) (λ e. ap (λ m. last_of m numbers) e) where
        split : k.rtype ≡ t → (n : ℕ) → key_below k (key_of numbers t n) ≡ nat_lt k.number n || (k.number == n && nat_lt k.generation (last_of n numbers))
        split is_t n = grind (arith, nat_tests, is_t)

  pub below_own : k.rtype ≡ t → (n : ℕ) → key_below (key_of numbers t n) k ≡ nat_lt n (number_below numbers k)
  below_own is_t n =
      split is_t n ∙ below_tests k.number n k.generation (last_of k.number numbers) (last_of n numbers) (λ e. ap (λ m. last_of m numbers) e) where
        split : k.rtype ≡ t → (n : ℕ) → key_below (key_of numbers t n) k ≡ nat_lt n k.number || (n == k.number && nat_lt (last_of n numbers) k.generation)
        split is_t n = grind (arith, nat_tests, is_t)

  earlier : t < k.rtype → (n : ℕ) → (key_below k (key_of numbers t n) ≡ false) × (key_below (key_of numbers t n) k ≡ true)
  earlier h n = (grind (arith, nat_tests), grind (arith, nat_tests))

  later : k.rtype < t → (n : ℕ) → (key_below k (key_of numbers t n) ≡ true) × (key_below (key_of numbers t n) k ≡ false)
  later h n = (grind (arith, nat_tests), grind (arith, nat_tests))

  abbrev keys : List DbKey
  keys = keys_of_type t numbers

  abbrev before : DbKey → Bool
  before x = key_below x k

  -- the keys of a type before the bound's, of the bound's own, and of a later one
  pub none_above : t < k.rtype → None ≡ first (filter (key_below k) keys)
  none_above h = ap first (sym (filter_map (key_below k) (key_of numbers t) live ∙ ap (map (key_of numbers t)) (filter_agree (λ n. key_below k (key_of numbers t n)) (λ n. false) (λ n. (earlier h n).0) live ∙ none_kept live)))

  pub next_own : k.rtype ≡ t → option_map (key_of numbers t) (first (filter (nat_lt (number_above numbers k)) live)) ≡ first (filter (key_below k) keys)
  next_own is_t =
      sym (ap first (filter_map (key_below k) (key_of numbers t) live ∙ ap (map (key_of numbers t)) (filter_agree (λ n. key_below k (key_of numbers t n)) (nat_lt (number_above numbers k)) (above_own is_t) live))
      ∙ first_map (key_of numbers t) (filter (nat_lt (number_above numbers k)) live))

  pub all_below : t < k.rtype → option_map (key_of numbers t) (final live) ≡ final (filter before keys)
  all_below h =
      sym (ap final (filter_map before (key_of numbers t) live ∙ ap (map (key_of numbers t)) (filter_agree (λ n. key_below (key_of numbers t n) k) (λ n. true) (λ n. (earlier h n).1) live ∙ filter_all live))
      ∙ final_map (key_of numbers t) live)

  pub prior_own : k.rtype ≡ t → option_map (key_of numbers t) (final (filter (λ n. nat_lt n (number_below numbers k)) live)) ≡ final (filter before keys)
  prior_own is_t =
      sym (ap final (filter_map before (key_of numbers t) live ∙ ap (map (key_of numbers t)) (filter_agree (λ n. key_below (key_of numbers t n) k) (λ n. nat_lt n (number_below numbers k)) (below_own is_t) live))
      ∙ final_map (key_of numbers t) (filter (λ n. nat_lt n (number_below numbers k)) live))

  pub none_below : k.rtype < t → None ≡ final (filter before keys)
  none_below h = ap final (sym (filter_map before (key_of numbers t) live ∙ ap (map (key_of numbers t)) (filter_agree (λ n. key_below (key_of numbers t n) k) (λ n. false) (λ n. (later h n).1) live ∙ none_kept live)))

-- the last, where there is no bound
pub last_of_all : (t : ℕ) (numbers : List Number) → option_map (key_of numbers t) (final (numbers_where is_used numbers)) ≡ final (filter (is_below None) (keys_of_type t numbers))
last_of_all t numbers = sym (ap final (filter_all (keys_of_type t numbers)) ∙ final_map (key_of numbers t) (numbers_where is_used numbers))

-- the one at a place
pub key_at_place : (t : ℕ) (numbers : List Number) (place : ℕ) → option_map (key_of numbers t) (nth (pos (place + 1)) (numbers_where is_used numbers)) ≡ slice_get (keys_of_type t numbers) place
key_at_place t numbers place =
    ap (λ i. option_map (key_of numbers t) (slice_get (numbers_where is_used numbers) i)) before_next
    ∙ sym (slice_get-map (key_of numbers t) (numbers_where is_used numbers) place) where
      before_next : pred (place + 1) ≡ place
      before_next = ap pred (add-one place)
