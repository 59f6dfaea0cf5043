-- Numbers that have no entry, since they and all above were never used: what is read and written among all numbers is read and
-- written among the entries.
use Rattle.std.proofs.Common.{◌≡◌, ℕ, zero, suc, ◌+◌, ◌-◌, ◌≤◌, Bool, true, false, cond, List, [], ◌∷◌, ◌++◌, length, slice_get, Option, Some, None, refl, sym, ap, ◌∙◌, arith, true≢false, add-one, replicate, append_assoc, length-append}
use Rattle.std.proofs.lemmas.List.{length-replicate, replicate_more, replicate-append-replicate}
use Rattle.std.specs.Prelude.{option_and_then, option_map, unwrap_or}
use Rattle.std.specs.List.{range_with_len}
use Rattle.std.specs.Ordering.{is_lt}
use Rattle.dbtg_schema.specs.Lookups.{first, some_and}
use Rattle.dbtg_cells.specs.declared.extent.Number.{Number}
use Rattle.dbtg_cells.specs.Numbers.{numbers_from, numbers_where, entry_of, with_entry, last_of, is_used, is_free}
use Rattle.dbtg_cells.specs.Inside.Numbering.{IsNumbered, HasRoom}
use Rattle.dbtg_cells.specs.Inside.ByCalc.{place_cmp, values_of, stands_before, IsByCalc}
use Rattle.dbtg_cells.proofs.NumbersWritten.{unused, length_written, range_push, same_numbered}
use Rattle.dbtg_cells.proofs.CalcOrder.{same_by_calc}
use Rattle.dbtg_cells.proofs.Rising.{rising_same}

-- the entries, and for each number above them up to the capacity that of a number that was never used
abbrev pub all_numbers : List Number → ℕ → List Number
all_numbers ns capacity = ns ++ replicate (capacity - length ns) unused

-- WHAT IS READ

-- what does not tell an unused number from none is read of the entries
read_alike : {X : Type 0} (f : Option Number → X) (n : ℕ) (ns : List Number) (k : ℕ) → f (Some unused) ≡ f None → f (entry_of n (ns ++ replicate k unused)) ≡ f (entry_of n ns)
read_alike f zero ns k same = refl
read_alike f (suc i) ns k same = at i ns
  where
    past : (i k : ℕ) → f (slice_get (replicate k unused) i) ≡ f None
    past i zero = refl
    past zero (suc k) = same
    past (suc i) (suc k) = past i k

    at : (i : ℕ) (ns : List Number) → f (slice_get (ns ++ replicate k unused) i) ≡ f (slice_get ns i)
    at i [] = past i k
    at zero (x ∷ xs) = refl
    at (suc i) (x ∷ xs) = at i xs

numbers_joined : (t : Number → Bool) (n : ℕ) (ns more : List Number) → numbers_from n t (ns ++ more) ≡ numbers_from n t ns ++ numbers_from (length ns + n) t more
numbers_joined t n [] more = ap (λ m. numbers_from m t more) (zero_more n)
  where
    zero_more : (n : ℕ) → n ≡ 0 + n
    zero_more n = omega arith
numbers_joined t n (e ∷ es) more = by (t e) (numbers_joined t (suc n) es more ∙ ap (λ m. numbers_from (suc n) t es ++ numbers_from m t more) (place (length es) n))
  where
    place : (a b : ℕ) → a + suc b ≡ suc a + b
    place a b = omega arith

    by : (b : Bool) → numbers_from (suc n) t (es ++ more) ≡ numbers_from (suc n) t es ++ numbers_from (suc (length es) + n) t more
        → cond b (n ∷ numbers_from (suc n) t (es ++ more)) (numbers_from (suc n) t (es ++ more)) ≡ cond b (n ∷ numbers_from (suc n) t es) (numbers_from (suc n) t es) ++ numbers_from (suc (length es) + n) t more
    by false rest = rest
    by true rest = ap (λ l. n ∷ l) rest

none_pass : (t : Number → Bool) (n k : ℕ) → t unused ≡ false → numbers_from n t (replicate k unused) ≡ []
none_pass t n zero fails = refl
none_pass t n (suc k) fails = rw fails (none_pass t (suc n) k fails)

all_free : (n k : ℕ) → numbers_from n is_free (replicate k unused) ≡ range_with_len n k
all_free n zero = refl
all_free n (suc k) = ap (λ l. n ∷ l) (all_free (suc n) k ∙ ap (λ m. range_with_len m k) (sym (add-one n)))

append_nothing : (l : List ℕ) → l ++ [] ≡ l
append_nothing [] = refl
append_nothing (n ∷ l) = ap (λ m. n ∷ m) (append_nothing l)

-- a test that unused numbers fail
pub listed_alike : (t : Number → Bool) (ns : List Number) (k : ℕ) → t unused ≡ false → numbers_where t ns ≡ numbers_where t (ns ++ replicate k unused)
listed_alike t ns k fails =
    sym (numbers_joined t 1 ns (replicate k unused) ∙ ap (λ l. numbers_where t ns ++ l) (none_pass t (length ns + 1) k fails) ∙ append_nothing (numbers_where t ns))

-- the least free number, if one is listed and if none is
pub least_listed : (free more : List ℕ) (n : ℕ) → Some n ≡ slice_get free 0 → Some n ≡ first (free ++ more)
least_listed [] more n h = absurd (cc)
least_listed (m ∷ free) more n h = h

pub none_listed : (free more : List ℕ) → None ≡ slice_get free 0 → first more ≡ first (free ++ more)
none_listed [] more h = refl
none_listed (m ∷ free) more h = absurd (cc)

-- NUMBERS GET AN ENTRY

-- one more entry
pub entry_pushed : (ns : List Number) (n : ℕ) → length ns ≤ n → (ns ++ replicate (n - length ns) unused) ++ unused ∷ [] ≡ ns ++ replicate (n + 1 - length ns) unused
entry_pushed ns n h =
    let more : n - length ns + 1 ≡ n + 1 - length ns = omega (arith, h) in
    append_assoc ns _ _ ∙ ap (λ l. ns ++ l) (replicate_more (n - length ns) unused ∙ ap (λ k. replicate k unused) more)

pub number_pushed : (free : List ℕ) (m n : ℕ) → m ≤ n → (free ++ range_with_len (m + 1) (n - m)) ++ (n + 1) ∷ [] ≡ free ++ range_with_len (m + 1) (n + 1 - m)
number_pushed free m n h =
    let more : n - m + 1 ≡ n + 1 - m = omega (arith, h) in
    let last : n + 1 ≡ n - m + (m + 1) = omega (arith, h) in
    append_assoc free _ _ ∙ ap (λ l. free ++ l) (ap (λ k. range_with_len (m + 1) (n - m) ++ k ∷ []) last ∙ sym (range_push (m + 1) (n - m)) ∙ ap (range_with_len (m + 1)) more)

-- those that get an entry are free
numbered_on : (ns : List Number) (live free : List ℕ) (k : ℕ) → IsNumbered ns live free → IsNumbered (ns ++ replicate k unused) live (free ++ range_with_len (length ns + 1) k)
numbered_on ns live free k N = record {
  live_is = N.live_is ∙ listed_alike is_used ns k refl;
  free_is =
      ap (λ l. l ++ range_with_len (length ns + 1) k) N.free_is
      ∙ ap (λ l. numbers_where is_free ns ++ l) (sym (all_free (length ns + 1) k))
      ∙ sym (numbers_joined is_free 1 ns (replicate k unused));
}

pub all_numbered : (ns : List Number) (live free : List ℕ) (capacity : ℕ) → IsNumbered ns live free → IsNumbered (all_numbers ns capacity) live (free ++ range_with_len (length ns + 1) (capacity - length ns))
all_numbered ns live free capacity N = numbered_on ns live free (capacity - length ns) N

by_calc_on : (ns : List Number) (listed : List ℕ) (k : ℕ) → IsByCalc ns listed → IsByCalc (ns ++ replicate k unused) listed
by_calc_on ns listed k B = record {
  members = λ n. B.members n ∙ sym (read_alike (some_and is_used) n ns k refl);
  rising = rising_same (stands_before ns) (stands_before all) listed (λ x y r s. same x y) B.rising;
  count = B.count ∙ ap length (listed_alike is_used ns k refl);
}
  where
    all : List Number
    all = ns ++ replicate k unused

    kept : (m : ℕ) → values_of all m ≡ values_of ns m
    kept m = read_alike (λ o. unwrap_or (option_and_then (λ (e : Number). e.calc) o) []) m ns k refl

    same : (x y : ℕ) → stands_before all x y ≡ stands_before ns x y
    same x y = ap (λ v. is_lt (place_cmp (v, x) (values_of all y, y))) (kept x) ∙ ap (λ v. is_lt (place_cmp (values_of ns x, x) (v, y))) (kept y)

-- the same numbers as before
all_alike : (ns : List Number) (n capacity : ℕ) → n ≤ capacity → all_numbers (ns ++ replicate (n - length ns) unused) capacity ≡ all_numbers ns capacity
all_alike ns n capacity h =
    let given = n - length ns in
    let left : given + (capacity - length (ns ++ replicate given unused)) ≡ capacity - length ns = omega (arith, h, length-append ns (replicate given unused), length-replicate given unused) in
    append_assoc ns (replicate given unused) _ ∙ ap (λ l. ns ++ l) (replicate-append-replicate given _ unused ∙ ap (λ k. replicate k unused) left)

-- WHAT IS WRITTEN

pub has_entry : (t : Number → Bool) (n : ℕ) (ns : List Number) → some_and t (entry_of n ns) ≡ true → n ≤ length ns
has_entry t zero ns h = omega arith
has_entry t (suc i) ns h = within i ns h
  where
    within : (i : ℕ) (ns : List Number) → some_and t (slice_get ns i) ≡ true → suc i ≤ length ns
    within i [] h = absurd (true≢false (sym h))
    within zero (x ∷ xs) h = omega arith
    within (suc i) (x ∷ xs) h = let rest = within i xs h in omega (arith, rest)

read_within : (n : ℕ) (ns more : List Number) → n ≤ length ns → entry_of n (ns ++ more) ≡ entry_of n ns
read_within zero ns more h = refl
read_within (suc i) ns more h = at i ns h
  where
    at : (i : ℕ) (ns : List Number) → suc i ≤ length ns → slice_get (ns ++ more) i ≡ slice_get ns i
    at i [] h = absurd (omega (arith, h))
    at zero (x ∷ xs) h = refl
    at (suc i) (x ∷ xs) h = at i xs (omega (arith, h))

written_within : (n : ℕ) (ns more : List Number) (e : Number) → n ≤ length ns → with_entry n e (ns ++ more) ≡ with_entry n e ns ++ more
written_within zero ns more e h = refl
written_within (suc i) ns more e h = at i ns h
  where
    at : (i : ℕ) (ns : List Number) → suc i ≤ length ns → with_entry (suc i) e (ns ++ more) ≡ with_entry (suc i) e ns ++ more
    at i [] h = absurd (omega (arith, h))
    at zero (x ∷ xs) h = refl
    at (suc i) (x ∷ xs) h = ap (λ l. x ∷ l) (at i xs (omega (arith, h)))

-- an entry in the next state of a number is written: it is written among all numbers
pub written_among_all : (n : ℕ) (ns now all : List Number) (capacity last : ℕ) (e : ℕ → Number) → all_numbers ns capacity ≡ all → n ≤ length ns → last ≡ last_of n ns → now ≡ with_entry n (e last) ns → all_numbers now capacity ≡ with_entry n (e (last_of n all)) all
written_among_all n ns now all capacity last e is_all within known written =
    let rest = replicate (capacity - length ns) unused in
    let same = known ∙ sym (read_alike (λ o. unwrap_or (option_map (λ (x : Number). x.last) o) 0) n ns (capacity - length ns) refl) ∙ ap (last_of n) is_all in
    ap (λ l. all_numbers l capacity) written
    ∙ ap (λ m. with_entry n (e last) ns ++ replicate (capacity - m) unused) (length_written n ns (e last))
    ∙ sym (written_within n ns rest (e last) within)
    ∙ ap (with_entry n (e last)) is_all
    ∙ ap (λ l. with_entry n (e l) all) same

pub used_of_all : (n : ℕ) (ns all : List Number) (capacity : ℕ) → all_numbers ns capacity ≡ all → some_and is_used (entry_of n all) ≡ true → some_and is_used (entry_of n ns) ≡ true
used_of_all n ns all capacity is_all h = sym (read_alike (some_and is_used) n ns (capacity - length ns) refl) ∙ ap (λ l. some_and is_used (entry_of n l)) is_all ∙ h

-- the room stays
pub room_kept : (capacity entries numbers live free by_calc entries' numbers' live' free' by_calc' : ℕ) → entries' ≡ entries → numbers' ≡ numbers → live' ≡ live → free' ≡ free → by_calc' ≡ by_calc → HasRoom capacity entries numbers live free by_calc → HasRoom capacity entries' numbers' live' free' by_calc'
room_kept capacity entries numbers live free by_calc entries' numbers' live' free' by_calc' a b c d e R = record {
  few = R.few;
  within = omega (arith, R.within, a);
  of_numbers = omega (arith, R.of_numbers, b);
  of_live = omega (arith, R.of_live, c);
  of_free = omega (arith, R.of_free, d);
  of_by_calc = omega (arith, R.of_by_calc, e);
}

-- A NUMBER BEHIND THE ENTRIES IS ENTERED

-- a number that is free among all is none above the capacity
pub free_of_all : (n : ℕ) (ns all : List Number) (capacity : ℕ) → all_numbers ns capacity ≡ all → length ns ≤ capacity → some_and is_free (entry_of n all) ≡ true → n ≤ capacity
free_of_all n ns all capacity is_all few was =
    let low = has_entry is_free n all was in
    omega (arith, low, few, ap length is_all, length-append ns (replicate (capacity - length ns) unused), length-replicate (capacity - length ns) unused)

-- each number up to n, which is free, has an entry, and nothing else has changed
pub record IsGiven (n : ℕ) (all : List Number) (capacity : ℕ) (ns : List Number) (live free listed : List ℕ) : Type 0 where
  pub is_all : all_numbers ns capacity ≡ all
  pub within : length ns ≤ capacity
  pub was : some_and is_free (entry_of n ns) ≡ true
  pub numbered : IsNumbered ns live free
  pub by_calc : IsByCalc ns listed

pub entries_given : (n : ℕ) (all : List Number) (capacity : ℕ) (ns now : List Number) (live free more listed : List ℕ) → all_numbers ns capacity ≡ all → length ns ≤ capacity → some_and is_free (entry_of n all) ≡ true → IsNumbered ns live free → IsByCalc ns listed
    → now ≡ ns ++ replicate (n - length ns) unused → more ≡ free ++ range_with_len (length ns + 1) (n - length ns) → IsGiven n all capacity now live more listed
entries_given n all capacity ns now live free more listed is_all few was N B given freed =
    let k = n - length ns in
    let low = free_of_all n ns all capacity is_all few was in
    let length_now = ap length given ∙ length-append ns (replicate k unused) in
    let same = ap (λ l. all_numbers l capacity) given ∙ all_alike ns n capacity low ∙ is_all in
    let reached : n ≤ length now = omega (arith, length_now, length-replicate k unused) in
    record {
      is_all = same;
      within = omega (arith, few, low, length_now, length-replicate k unused);
      was = ap (some_and is_free) (sym (read_within n now (replicate (capacity - length now) unused) reached) ∙ ap (entry_of n) same) ∙ was;
      numbered = same_numbered _ _ _ _ _ _ given refl freed (numbered_on ns live free k N);
      by_calc = same_by_calc _ _ _ _ given refl (by_calc_on ns listed k B);
    }
