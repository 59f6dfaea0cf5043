-- An option: whether it is something, and what.
use Rattle.std.proofs.Common.{◌≡◌, refl, None, Option, true, Some, false, true≢false}
use Rattle.std.specs.Prelude.{is_some, is_none}
use Rattle.std.specs.Option.{option_or}
use Rattle.std.proofs.lemmas.Bool.{false≢true}

-- it is something: what it is
pub some_is : {X : Type 0} (o : Option X) → is_some o ≡ true → (x : X) × (o ≡ Some x)
some_is None h = absurd (false≢true h)
some_is (Some x) h = (x, refl)

-- it is not something: it is nothing
pub none_is : {X : Type 0} (o : Option X) → is_some o ≡ false → o ≡ None
none_is None h = refl
none_is (Some x) h = absurd (true≢false h)

-- it is not nothing: it is something
pub some_from_none : {X : Type 0} (o : Option X) → is_none o ≡ false → is_some o ≡ true
some_from_none None h = absurd (true≢false h)
some_from_none (Some x) h = refl

-- or else nothing: it stays as it is
pub or_none : {Y : Type 0} (o : Option Y) → option_or o None ≡ o
or_none None = refl
or_none (Some y) = refl
