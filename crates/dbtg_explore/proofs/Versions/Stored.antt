-- What is stored under a key before and after a statement, in a database and in the same one without versions.
-- o is what was stored, u and v are what is stored after it: u in the database, v in the one without versions; n is a kept version.
use Rattle.std.proofs.Common.{◌≡◌, refl, sym, ◌∙◌, ap, ℕ, ◌+◌, ◌≤◌, ◌<◌, Bool, true, false, List, [], Option, Some, None, arith}
use Rattle.std.proofs.lemmas.Bool.{eq-eqb, ne_eqb, true≢false}
use Rattle.std.specs.Prelude.{◌==◌, ⊤, if◌then◌else◌, is_some, option_map, unwrap_or}
use Rattle.dbtg_schema.specs.Lookups.{some_and}
use Rattle.dbtg_cells.specs.declared.key.Value.{Value}
use Rattle.dbtg_unit.specs.Database.State.Base.{Record}
use Rattle.dbtg_unit.specs.Database.Statements.Effect.{next_version, with_its_items}
use Rattle.dbtg_explore.specs.Versions.{at_first}

-- the record that is stored has this version
abbrev pub has_version : ℕ → Option Record → Bool
has_version n o = some_and (λ r. n == r.version) o

-- 1 if it has, and 0 otherwise
abbrev pub flag : ℕ → Option Record → ℕ
flag n o = if has_version n o then 1 else 0

pub same_flag : (b c : Bool) → ◌≡◌ {A = ℕ} (if b then 1 else 0) (if c then 1 else 0) → b ≡ c
same_flag true true h = refl
same_flag false false h = refl
same_flag true false h = absurd cc
same_flag false true h = absurd cc

abbrev pub version_in : Option Record → ℕ
version_in o = unwrap_or (option_map (λ (r : Record). r.version) o) 0

abbrev pub items_in : Option Record → List Value
items_in o = unwrap_or (option_map (λ (r : Record). r.items) o) []

-- the next version, if the statement raises it
abbrev pub raised_if : Bool → Option Record → Option Record
raised_if b o = if b then option_map next_version o else o

-- WITHOUT VERSIONS

pub first_lives : (o : Option Record) → is_some o ≡ is_some (option_map at_first o)
first_lives None = refl
first_lives (Some r) = refl

pub first_items : (o : Option Record) → items_in o ≡ items_in (option_map at_first o)
first_items None = refl
first_items (Some r) = refl

pub first_twice : (o : Option Record) → option_map at_first o ≡ option_map at_first (option_map at_first o)
first_twice None = refl
first_twice (Some r) = refl

pub first_flag : (o : Option Record) (n : ℕ) → has_version n o ≡ has_version (flag n o) (option_map at_first o)
first_flag None n = refl
first_flag (Some r) n = by (n == r.version) where
  by : (b : Bool) → b ≡ ((if b then 1 else 0) == 1)
  by true = refl
  by false = refl

-- a live record has the version that is kept of it, or has another, in both
pub first_changed : (o : Option Record) (n : ℕ) → is_some o ≡ true → (n == version_in o) ≡ (flag n o == version_in (option_map at_first o))
first_changed None n h = absurd (true≢false (sym h))
first_changed (Some r) n h = first_flag (Some r) n

-- the version of a live record is its own
pub own_version : (o : Option Record) → has_version (version_in o) o ≡ is_some o
own_version None = refl
own_version (Some r) = eq-eqb r.version r.version refl

-- AFTER A STATEMENT

-- nothing is stored, or the same items as before at the old version, and at version 1
abbrev pub Stays : Option Record → Option Record → Option Record → Type 0
Stays None None None = ⊤
Stays (Some r) None None = ⊤
Stays (Some r) (Some x) (Some y) = (x.version ≡ r.version) × (x.items ≡ y.items) × (y.version ≡ 1)
Stays None None (Some y) = ⊥
Stays None (Some x) v = ⊥
Stays (Some r) None (Some y) = ⊥
Stays (Some r) (Some x) None = ⊥

pub stays_same : (o : Option Record) → Stays o o (option_map at_first o)
stays_same None = tt
stays_same (Some r) = (refl, refl, refl)

pub stays_with_items : (o : Option Record) (b : Bool) (one other : List Value) → one ≡ other
    → Stays o (if b then option_map (with_its_items one) o else o) (if b then option_map (with_its_items other) (option_map at_first o) else option_map at_first o)
stays_with_items None true one other e = tt
stays_with_items None false one other e = tt
stays_with_items (Some r) true one other e = (refl, e, refl)
stays_with_items (Some r) false one other e = (refl, refl, refl)

pub stays_or_goes : (o : Option Record) (b c : Bool) → b ≡ c → Stays o (if b then None else o) (if c then None else option_map at_first o)
stays_or_goes None true true e = tt
stays_or_goes (Some r) true true e = tt
stays_or_goes None false false e = tt
stays_or_goes (Some r) false false e = (refl, refl, refl)
stays_or_goes o true false e = absurd (true≢false e)
stays_or_goes o false true e = absurd (true≢false (sym e))

other_number : (n m : ℕ) → n < m → (n == m) ≡ false
other_number n m low = ne_eqb n m (λ e. omega (arith, low, e))

pub raised_first : (o u v : Option Record) (b : Bool) → Stays o u v → option_map at_first (raised_if b u) ≡ option_map at_first (raised_if b v)
raised_first None None None true s = refl
raised_first None None None false s = refl
raised_first (Some r) None None true s = refl
raised_first (Some r) None None false s = refl
raised_first (Some r) (Some x) (Some y) true s = ap (λ l. Some (record { items = l; version = 1 })) s.1
raised_first (Some r) (Some x) (Some y) false s = ap (λ l. Some (record { items = l; version = 1 })) s.1
raised_first None None (Some y) b s = absurd s
raised_first None (Some x) v b s = absurd s
raised_first (Some r) None (Some y) b s = absurd s
raised_first (Some r) (Some x) None b s = absurd s

pub raised_flag : (o u v : Option Record) (b : Bool) (n : ℕ) → Stays o u v → (is_some o ≡ true → n ≤ version_in o) → has_version n (raised_if b u) ≡ has_version (flag n o) (raised_if b v)
raised_flag None None None true n s low = refl
raised_flag None None None false n s low = refl
raised_flag (Some r) None None true n s low = refl
raised_flag (Some r) None None false n s low = refl
raised_flag (Some r) (Some x) (Some y) true n s low =
    let few = low refl in
    other_number n (x.version + 1) (omega (arith, few, s.0)) ∙ sym (other_number (flag n (Some r)) (y.version + 1) (below (n == r.version))) where
      below : (b : Bool) → (if b then 1 else 0) < y.version + 1
      below true = omega (arith, s.2)
      below false = omega (arith, s.2)
raised_flag (Some r) (Some x) (Some y) false n s low = ap (λ k. n == k) s.0 ∙ first_flag (Some r) n ∙ ap (λ k. flag n (Some r) == k) (sym s.2)
raised_flag None None (Some y) b n s low = absurd s
raised_flag None (Some x) v b n s low = absurd s
raised_flag (Some r) None (Some y) b n s low = absurd s
raised_flag (Some r) (Some x) None b n s low = absurd s

-- what is stored afterwards was stored before
pub raised_lived : (o u v : Option Record) (b : Bool) → Stays o u v → is_some (raised_if b u) ≡ true → is_some o ≡ true
raised_lived None None None true s h = h
raised_lived None None None false s h = h
raised_lived (Some r) u v b s h = refl
raised_lived None None (Some y) b s h = absurd s
raised_lived None (Some x) v b s h = absurd s

-- at no lower version
pub raised_rises : (o u v : Option Record) (b : Bool) → Stays o u v → is_some (raised_if b u) ≡ true → version_in o ≤ version_in (raised_if b u)
raised_rises None None None true s h = omega arith
raised_rises None None None false s h = omega arith
raised_rises (Some r) None None true s h = absurd (true≢false (sym h))
raised_rises (Some r) None None false s h = absurd (true≢false (sym h))
raised_rises (Some r) (Some x) (Some y) true s h = omega (arith, s.0)
raised_rises (Some r) (Some x) (Some y) false s h = omega (arith, s.0)
raised_rises None None (Some y) b s h = absurd s
raised_rises None (Some x) v b s h = absurd s
raised_rises (Some r) None (Some y) b s h = absurd s
raised_rises (Some r) (Some x) None b s h = absurd s

-- the same items
pub stays_items : (o u v : Option Record) → Stays o u v → items_in u ≡ items_in v
stays_items o u v s = first_items u ∙ ap items_in (raised_first o u v false s) ∙ sym (first_items v)
