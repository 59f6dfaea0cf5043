-- The tests of keys, owners, names and values tell whether two are the same.
use Rattle.std.proofs.Common.{◌≡◌, ◌==◌, sym, ◌&&◌, Bool, true, false, ap, arith, refl, ℕ, List, [], ◌∷◌, Option, Some, None, true≢false}
use Rattle.std.proofs.lemmas.Bool.Decides.{nat_tests}
use Rattle.dbtg_cells.specs.declared.key.DbKey.{DbKey}
use Rattle.std.proofs.lemmas.Bool.{and_from, and_parts, eqb-true}
use Rattle.dbtg_cells.specs.declared.key.Owner.{Owner}
use Rattle.dbtg_cells.specs.declared.key.Owner.TheVariants.{System, Rec}
use Rattle.dbtg_cells.specs.declared.key.Value.{Value}
use Rattle.dbtg_cells.specs.declared.key.Value.TheVariants.{Num, Text}
use Rattle.dbtg_cells.specs.declared.name.CellName.{CellName}
use Rattle.dbtg_cells.specs.declared.name.CellName.TheVariants.{Usage, Extent, Ring, Slot}
use Rattle.dbtg_cells.specs.Keys.{key_eq, owner_eq, bytes_same, value_eq, values_eq}
use Rattle.dbtg_cells.specs.Names.{place_eq, name_eq}

eqb_refl : (n : ℕ) → n == n ≡ true
eqb_refl n = grind (arith, nat_tests)

pub key_eq_refl : (a : DbKey) → key_eq a a ≡ true
key_eq_refl a = grind (arith, nat_tests)

pub same_key : (a b : DbKey) → key_eq a b ≡ true → a ≡ b
same_key a b h =
    let r : a.rtype ≡ b.rtype = grind (arith, nat_tests) in
    let n : a.number ≡ b.number = grind (arith, nat_tests) in
    let g : a.generation ≡ b.generation = grind (arith, nat_tests) in
    λ i. record { rtype = r i; number = n i; generation = g i }

-- the test as a derived comparison writes it
pub key_test : (a b : DbKey) → key_eq a b ≡ (a.number == b.number) && ((a.rtype == b.rtype) && (a.generation == b.generation))
key_test a b = by (a.rtype == b.rtype) (a.number == b.number)
  where
    by : (r n : Bool) → (r && n) && (a.generation == b.generation) ≡ n && (r && (a.generation == b.generation))
    by true true = refl
    by true false = refl
    by false true = refl
    by false false = refl

pub owner_eq_refl : (a : Owner) → owner_eq a a ≡ true
owner_eq_refl System = refl
owner_eq_refl (Rec k) = key_eq_refl k

pub same_owner : (a b : Owner) → owner_eq a b ≡ true → a ≡ b
same_owner System System h = refl
same_owner (Rec j) (Rec k) h = ap Rec (same_key j k h)
same_owner System (Rec k) h = absurd (true≢false (sym h))
same_owner (Rec j) System h = absurd (true≢false (sym h))

pub bytes_same_refl : (a : List ℕ) → bytes_same a a ≡ true
bytes_same_refl [] = refl
bytes_same_refl (x ∷ xs) = and_from (x == x) (bytes_same xs xs) (eqb_refl x) (bytes_same_refl xs)

pub bytes_same_same : (a b : List ℕ) → bytes_same a b ≡ true → a ≡ b
bytes_same_same [] [] h = refl
bytes_same_same (x ∷ xs) (y ∷ ys) h =
    let hs = and_parts (x == y) (bytes_same xs ys) h in
    λ i. eqb-true x y hs.0 i ∷ bytes_same_same xs ys hs.1 i
bytes_same_same [] (y ∷ ys) h = absurd (true≢false (sym h))
bytes_same_same (x ∷ xs) [] h = absurd (true≢false (sym h))

pub value_eq_refl : (a : Value) → value_eq a a ≡ true
value_eq_refl (Num n) = eqb_refl n
value_eq_refl (Text bytes) = bytes_same_refl bytes

pub same_value : (a b : Value) → value_eq a b ≡ true → a ≡ b
same_value (Num m) (Num n) h = ap Num (eqb-true m n h)
same_value (Text a) (Text b) h = ap Text (bytes_same_same a b h)
same_value (Num m) (Text b) h = absurd (true≢false (sym h))
same_value (Text a) (Num n) h = absurd (true≢false (sym h))

pub values_eq_refl : (a : List Value) → values_eq a a ≡ true
values_eq_refl [] = refl
values_eq_refl (x ∷ xs) = and_from (value_eq x x) (values_eq xs xs) (value_eq_refl x) (values_eq_refl xs)

pub values_eq_same : (a b : List Value) → values_eq a b ≡ true → a ≡ b
values_eq_same [] [] h = refl
values_eq_same (x ∷ xs) (y ∷ ys) h =
    let hs = and_parts (value_eq x y) (values_eq xs ys) h in
    λ i. same_value x y hs.0 i ∷ values_eq_same xs ys hs.1 i
values_eq_same [] (y ∷ ys) h = absurd (true≢false (sym h))
values_eq_same (x ∷ xs) [] h = absurd (true≢false (sym h))

pub place_eq_refl : (a : Option (ℕ × ℕ)) → place_eq a a ≡ true
place_eq_refl None = refl
place_eq_refl (Some p) = and_from (p.0 == p.0) (p.1 == p.1) (eqb_refl p.0) (eqb_refl p.1)

pub same_place : (a b : Option (ℕ × ℕ)) → place_eq a b ≡ true → a ≡ b
same_place None None h = refl
same_place (Some p) (Some q) h =
    let hs = and_parts (p.0 == q.0) (p.1 == q.1) h in
    λ i. Some (eqb-true p.0 q.0 hs.0 i, eqb-true p.1 q.1 hs.1 i)
same_place None (Some q) h = absurd (true≢false (sym h))
same_place (Some p) None h = absurd (true≢false (sym h))

pub name_eq_refl : (a : CellName) → name_eq a a ≡ true
name_eq_refl (Usage a) = eqb_refl a
name_eq_refl (Extent t) = eqb_refl t
name_eq_refl (Ring s o) = and_from (s == s) (place_eq o o) (eqb_refl s) (place_eq_refl o)
name_eq_refl (Slot t n) = and_from (t == t) (n == n) (eqb_refl t) (eqb_refl n)

pub same_name : (a b : CellName) → name_eq a b ≡ true → a ≡ b
same_name (Usage a) (Usage b) h = ap Usage (eqb-true a b h)
same_name (Extent t) (Extent u) h = ap Extent (eqb-true t u h)
same_name (Ring s o) (Ring t p) h =
    let hs = and_parts (s == t) (place_eq o p) h in
    λ i. Ring (eqb-true s t hs.0 i) (same_place o p hs.1 i)
same_name (Slot t n) (Slot u m) h =
    let hs = and_parts (t == u) (n == m) h in
    λ i. Slot (eqb-true t u hs.0 i) (eqb-true n m hs.1 i)
same_name (Usage a) (Extent u) h = absurd (true≢false (sym h))
same_name (Usage a) (Ring t p) h = absurd (true≢false (sym h))
same_name (Usage a) (Slot u m) h = absurd (true≢false (sym h))
same_name (Extent t) (Usage b) h = absurd (true≢false (sym h))
same_name (Extent t) (Ring u p) h = absurd (true≢false (sym h))
same_name (Extent t) (Slot u m) h = absurd (true≢false (sym h))
same_name (Ring s o) (Usage b) h = absurd (true≢false (sym h))
same_name (Ring s o) (Extent u) h = absurd (true≢false (sym h))
same_name (Ring s o) (Slot u m) h = absurd (true≢false (sym h))
same_name (Slot t n) (Usage b) h = absurd (true≢false (sym h))
same_name (Slot t n) (Extent u) h = absurd (true≢false (sym h))
same_name (Slot t n) (Ring u p) h = absurd (true≢false (sym h))
