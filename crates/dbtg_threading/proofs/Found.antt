-- Turns of a first program, of others, and of a last one are found as such.
-- u and v are units, us are turns, p is a test of units.
use Rattle.std.proofs.Common.{◌≡◌, ◌≢◌, ◌⊎◌, refl, sym, ◌∙◌, ap, subst, ℕ, zero, suc, ◌+◌, ◌<◌, ◌≤◌, true, false, Bool, ◌&&◌, List, [], ◌∷◌, ◌++◌, length, take, drop, inl, inr, arith, append-nil}
use Rattle.std.specs.Prelude.{◌==◌, replicate, slice_index, ⊤}
use Rattle.std.specs.List.{list_all}
use Rattle.std.proofs.Math.Seq.{drop-append_seam}
use Rattle.std.proofs.lemmas.Bool.{and_parts}
use Rattle.std.proofs.lemmas.Bool.Decides.{nat_tests}
use Rattle.std.proofs.lemmas.List.{length-append, length-replicate}
use Rattle.dbtg_unit.specs.declared.limits.TheConstants.{MOST_STATEMENTS}
use Rattle.dbtg_going.specs.declared.around.Around.{Around}
use Rattle.dbtg_going.specs.Turns.{others}
use Rattle.dbtg_threading.specs.Threading.{is_between}
use Rattle.dbtg_threading.specs.Inside.Between.{AreBetween}
use Rattle.dbtg_threading.proofs.Around.{last_is_not, not_first, same_unit}

-- the next turn, if there is one, fails the test
abbrev Stops : (ℕ → Bool) → List ℕ → Type 0
Stops p [] = ⊤
Stops p (u ∷ us) = p u ≡ false

-- at most m turns of the front pass the test, and those behind it begin with one that does not: the first n that pass are the front
lead_is : (p : ℕ → Bool) (m n : ℕ) (front rest : List ℕ) → list_all p front ≡ true → Stops p rest → length front ≤ m → n ≤ length (front ++ rest)
    → list_all p (take n (front ++ rest)) ≡ true
    → (n < length (front ++ rest) → n < m → p (slice_index (front ++ rest) n) ≡ false) → n ≡ length front
lead_is p m zero [] rest all stops few within are end = refl
lead_is p m (suc n) [] [] all stops few within are end = absurd (omega (arith, within))
lead_is p m (suc n) [] (u ∷ rest) all stops few within are end =
    let passes = (and_parts (p u) (list_all p (take n rest)) are).0 in
    absurd (cc (passes, stops))
lead_is p m zero (u ∷ front) rest all stops few within are end =
    let passes = (and_parts (p u) (list_all p front) all).0 in
    let fails : p u ≡ false = end (omega arith) (omega (arith, few)) in
    absurd (cc (passes, fails))
lead_is p zero (suc n) (u ∷ front) rest all stops few within are end = absurd (omega (arith, few))
lead_is p (suc m) (suc n) (u ∷ front) rest all stops few within are end =
    ap suc (lead_is p m n front rest (and_parts (p u) (list_all p front) all).1 stops (omega (arith, few)) (omega (arith, within)) (and_parts (p u) (list_all p (take n (front ++ rest))) are).1
    (λ below fewer. end (omega (arith, below)) (omega (arith, fewer))))

not_equal : (v u : ℕ) → v ≢ u → (v == u) ≡ false
not_equal v u other = grind (arith, nat_tests, other)

pub all_equal : (u n : ℕ) → list_all (λ v. v == u) (replicate n u) ≡ true
all_equal u zero = refl
all_equal u (suc n) = ap (λ b. b && list_all (λ v. v == u) (replicate n u)) (same_unit u) ∙ all_equal u n

-- the first turns are those of one unit, k of them
unit_is : (u m n k : ℕ) (us rest : List ℕ) → us ≡ replicate k u ++ rest → Stops (λ v. v == u) rest → k ≤ m → n ≤ length us → take n us ≡ replicate n u
    → (n < length us → n < m → slice_index us n ≢ u) → n ≡ k
unit_is u m n k us rest split stops few within are end =
    let p : ℕ → Bool = λ v. v == u in
    let long = ap length split in
    let count = length-replicate k u in
    lead_is p m n (replicate k u) rest (all_equal u k) stops (omega (arith, few, count)) (omega (arith, within, long))
    (ap (λ vs. list_all p (take n vs)) (sym split) ∙ ap (list_all p) are ∙ all_equal u n)
    (λ below fewer. ap (λ vs. p (slice_index vs n)) (sym split) ∙ not_equal (slice_index us n) u (end (omega (arith, below, long)) fewer)) ∙ count

module _ (around : Around) (units : ℕ) (turns between : List ℕ) (is : AreBetween around units turns between) where
  abbrev first : ℕ
  first = others around units + 1

  abbrev backs : List ℕ
  backs = replicate is.back units

  last_stops : (b : Bool) → around.last ≡ b → Stops (is_between around units) backs
  last_stops true h = some is.back
    where
      some : (n : ℕ) → Stops (is_between around units) (replicate n units)
      some zero = tt
      some (suc n) = last_is_not around units h
  last_stops false h = subst (λ n. Stops (is_between around units) (replicate n units)) (sym (is.back_none h)) tt

  first_stops : around.first ≡ true → (us : List ℕ) → list_all (is_between around units) us ≡ true → (n : ℕ) → (n ≡ 0) ⊎ (first ≢ units)
      → Stops (λ u. u == first) (us ++ replicate n units)
  first_stops h [] all zero apart = tt
  first_stops h [] all (suc n) (inl none) = absurd (cc (none))
  first_stops h [] all (suc n) (inr other) = not_equal units first (λ same. other (sym same))
  first_stops h (u ∷ us) all n apart = not_equal u first (not_first around units u h (and_parts (is_between around units u) (list_all (is_between around units) us) all).0)

  front_is : (b : Bool) → around.first ≡ b → (n : ℕ) → n ≤ length turns → take n turns ≡ replicate n first → (around.first ≡ false → n ≡ 0)
      → (around.first ≡ true → n < length turns → n < MOST_STATEMENTS → slice_index turns n ≢ first) → n ≡ is.front
  front_is true h n within are none end = unit_is first MOST_STATEMENTS n is.front turns (between ++ backs) is.turns_are (first_stops h between is.others_only is.back (is.apart h)) is.front_few within are (end h)
  front_is false h n within are none end = none h ∙ sym (is.front_none h)

  behind_is : (behind : List ℕ) (n : ℕ) → behind ≡ drop n turns → n ≡ is.front → behind ≡ between ++ backs
  behind_is behind n cut same =
      let count = length-replicate is.front first in
      cut ∙ (λ i. drop ((same ∙ sym count) i) (is.turns_are i)) ∙ drop-append_seam (replicate is.front first) (between ++ backs)

  between_is : (us : List ℕ) (n : ℕ) → us ≡ between ++ backs → n ≤ length us → list_all (is_between around units) (take n us) ≡ true
      → (n < length us → is_between around units (slice_index us n) ≡ false) → n ≡ length between
  between_is us n split within are end =
      let long = ap length split in
      let p = is_between around units in
      let count = length-append between backs in
      lead_is p (length us) n between backs is.others_only (last_stops around.last refl) (omega (arith, long, count)) (omega (arith, within, long))
      (ap (λ vs. list_all p (take n vs)) (sym split) ∙ are)
      (λ below fewer. ap (λ vs. p (slice_index vs n)) (sym split) ∙ end fewer)

  back_is : (b : Bool) → around.last ≡ b → (us : List ℕ) (n : ℕ) → us ≡ backs → n ≤ length us → take n us ≡ replicate n units → (around.last ≡ false → n ≡ 0)
      → (around.last ≡ true → n < length us → n < MOST_STATEMENTS → slice_index us n ≢ units) → n ≡ is.back
  back_is true h us n split within are none end = unit_is units MOST_STATEMENTS n is.back us [] (split ∙ sym (append-nil backs)) tt is.back_few within are (end h)
  back_is false h us n split within are none end = none h ∙ sym (is.back_none h)

  -- what is left behind the first unit's turns and those between are all of the last unit, and as many as are found of it
  pub all_found : (behind rest : List ℕ) (front count back : ℕ) → behind ≡ drop front turns → rest ≡ drop count behind
      → front ≤ length turns → take front turns ≡ replicate front first → (around.first ≡ false → front ≡ 0)
      → (around.first ≡ true → front < length turns → front < MOST_STATEMENTS → slice_index turns front ≢ first)
      → count ≤ length behind → list_all (is_between around units) (take count behind) ≡ true
      → (count < length behind → is_between around units (slice_index behind count) ≡ false)
      → back ≤ length rest → take back rest ≡ replicate back units → (around.last ≡ false → back ≡ 0)
      → (around.last ≡ true → back < length rest → back < MOST_STATEMENTS → slice_index rest back ≢ units)
      → (back ≡ length rest) × (back ≡ is.back)
  all_found behind rest front count back cut cut_again front_within fronts front_none front_end count_within others_only count_end back_within backs_are back_none back_end =
      let split = behind_is behind front cut (front_is around.first refl front front_within fronts front_none front_end) in
      let between_all = between_is behind count split count_within others_only count_end in
      let left : rest ≡ backs = cut_again ∙ (λ i. drop (between_all i) (split i)) ∙ drop-append_seam between backs in
      let all = back_is around.last refl rest back left back_within backs_are back_none back_end in
      (all ∙ sym (length-replicate is.back units) ∙ sym (ap length left), all)
