-- How each part of a state is spelled in numbers.
use Rattle.std.specs.Prelude.{ℕ, ◌==◌, if◌then◌else◌, ◌≡◌, List, [], ◌∷◌, ◌++◌, Some, None, length, flat_map}
use Rattle.std.proofs.Common.{refl, sym, ◌∙◌, ap, append_assoc, arith}
use Rattle.dbtg_cells.specs.declared.key.Owner.TheVariants.{System, Rec}
use Rattle.dbtg_cells.specs.declared.key.Value.TheVariants.{Num, Text}
use Rattle.dbtg_cells.specs.declared.usage.Mode.{Mode}
use Rattle.dbtg_cells.specs.declared.usage.Mode.TheVariants as mode
use Rattle.dbtg_states.specs.Spelling.{Apart, key_numbers, list_numbers, mode_number, mode_numbers, one_number, option_numbers, owner_numbers, pair_numbers, value_numbers}
use Rattle.dbtg_states.specs.Inside.SpelledUnits.{currency_numbers, kept_numbers, place_numbers, unit_numbers}

pub one_apart : Apart one_number
one_apart x y a b e = (cc, cc)

pub option_apart : {X : Type 0} (f : X → List ℕ) → Apart f → Apart (option_numbers f)
option_apart f h None None a b e = (refl, cc)
option_apart f h None (Some y) a b e = absurd (cc)
option_apart f h (Some x) None a b e = absurd (cc)
option_apart f h (Some x) (Some y) a b e =
    let inner : f x ++ a ≡ f y ++ b = cc in
    let r = h x y a b inner in
    (ap Some r.0, r.1)

pub pair_apart : {X Y : Type 0} (f : X → List ℕ) (g : Y → List ℕ) → Apart f → Apart g → Apart (pair_numbers f g)
pair_apart f g hf hg x y a b e =
    let first = hf x.0 y.0 (g x.1 ++ a) (g y.1 ++ b) (sym (append_assoc (f x.0) (g x.1) a) ∙ e ∙ append_assoc (f y.0) (g y.1) b) in
    let second = hg x.1 y.1 a b first.1 in
    (λ i. (first.0 i, second.0 i), second.1)

items_apart : {X : Type 0} (f : X → List ℕ) → Apart f → (xs ys : List X) (a b : List ℕ) → length xs ≡ length ys → flat_map f xs ++ a ≡ flat_map f ys ++ b → (xs ≡ ys) × (a ≡ b)
items_apart f h [] [] a b n e = (refl, e)
items_apart f h [] (y ∷ ys) a b n e = absurd (omega arith)
items_apart f h (x ∷ xs) [] a b n e = absurd (omega arith)
items_apart f h (x ∷ xs) (y ∷ ys) a b n e =
    let first = h x y (flat_map f xs ++ a) (flat_map f ys ++ b) (sym (append_assoc (f x) (flat_map f xs) a) ∙ e ∙ append_assoc (f y) (flat_map f ys) b) in
    let rest = items_apart f h xs ys a b (omega arith) first.1 in
    (λ i. first.0 i ∷ rest.0 i, rest.1)

pub list_apart : {X : Type 0} (f : X → List ℕ) → Apart f → Apart (list_numbers f)
list_apart f h xs ys a b e =
    let n : length xs ≡ length ys = cc in
    let inner : flat_map f xs ++ a ≡ flat_map f ys ++ b = cc in
    items_apart f h xs ys a b n inner

pub key_apart : Apart key_numbers
key_apart x y a b e =
    let t : x.rtype ≡ y.rtype = cc in
    let n : x.number ≡ y.number = cc in
    let g : x.generation ≡ y.generation = cc in
    (λ i. record { rtype = t i; number = n i; generation = g i }, cc)

pub owner_apart : Apart owner_numbers
owner_apart System System a b e = (refl, cc)
owner_apart System (Rec k) a b e = absurd (cc)
owner_apart (Rec j) System a b e = absurd (cc)
owner_apart (Rec j) (Rec k) a b e =
    let inner : key_numbers j ++ a ≡ key_numbers k ++ b = cc in
    let r = key_apart j k a b inner in
    (ap Rec r.0, r.1)

-- the mode of a number
mode_of : ℕ → Mode
mode_of n = if n == 0 then mode.Retrieval else if n == 1 then mode.Update else if n == 2 then mode.ProtectedRetrieval else if n == 3 then mode.ProtectedUpdate else if n == 4 then mode.ExclusiveRetrieval else mode.ExclusiveUpdate

mode_back : (m : Mode) → mode_of (mode_number m) ≡ m
unfolding mode_of
mode_back mode.Retrieval = refl
mode_back mode.Update = refl
mode_back mode.ProtectedRetrieval = refl
mode_back mode.ProtectedUpdate = refl
mode_back mode.ExclusiveRetrieval = refl
mode_back mode.ExclusiveUpdate = refl

pub mode_apart : Apart mode_numbers
mode_apart x y a b e =
    let n : mode_number x ≡ mode_number y = cc in
    (sym (mode_back x) ∙ ap mode_of n ∙ mode_back y, cc)

pub place_apart : Apart place_numbers
place_apart x y a b e =
    let r = pair_apart owner_numbers (option_numbers key_numbers) owner_apart (option_apart key_numbers key_apart) (x.owner, x.at) (y.owner, y.at) a b e in
    (λ i. record { owner = (r.0 i).0; at = (r.0 i).1 }, r.1)

pub value_apart : Apart value_numbers
value_apart (Num m) (Num n) a b e =
    let same : m ≡ n = cc in
    (ap Num same, cc)
value_apart (Num m) (Text t) a b e = absurd (cc)
value_apart (Text s) (Num n) a b e = absurd (cc)
value_apart (Text s) (Text t) a b e =
    let inner : list_numbers one_number s ++ a ≡ list_numbers one_number t ++ b = cc in
    let r = list_apart one_number one_apart s t a b inner in
    (ap Text r.0, r.1)

pub kept_apart : Apart kept_numbers
kept_apart = list_apart (pair_numbers key_numbers one_number) (pair_apart key_numbers one_number key_apart one_apart)

currents_apart : Apart (list_numbers (option_numbers key_numbers))
currents_apart = list_apart (option_numbers key_numbers) (option_apart key_numbers key_apart)

-- one thing after another, and what follows both
pub behind : {X : Type 0} (f : X → List ℕ) → Apart f → (x y : X) (p q a b : List ℕ) → (f x ++ p) ++ a ≡ (f y ++ q) ++ b → (x ≡ y) × (p ++ a ≡ q ++ b)
behind f h x y p q a b e = h x y (p ++ a) (q ++ b) (sym (append_assoc (f x) p a) ∙ e ∙ append_assoc (f y) q b)

pub currency_apart : Apart currency_numbers
currency_apart x y a b e =
    let one = behind (option_numbers key_numbers) (option_apart key_numbers key_apart) x.run_unit y.run_unit _ _ a b e in
    let two = behind (list_numbers (option_numbers key_numbers)) currents_apart x.types y.types _ _ a b one.1 in
    let three = behind (list_numbers (option_numbers key_numbers)) currents_apart x.areas y.areas _ _ a b two.1 in
    let four = list_apart (option_numbers place_numbers) (option_apart place_numbers place_apart) x.sets y.sets a b three.1 in
    (λ i. record { run_unit = one.0 i; types = two.0 i; areas = three.0 i; sets = four.0 i }, four.1)

pub unit_apart : Apart unit_numbers
unit_apart x y a b e =
    let one = behind one_number one_apart x.number y.number _ _ a b e in
    let two = behind currency_numbers currency_apart x.currency y.currency _ _ a b one.1 in
    let three = behind (list_numbers (option_numbers mode_numbers)) (list_apart (option_numbers mode_numbers) (option_apart mode_numbers mode_apart)) x.modes y.modes _ _ a b two.1 in
    let four = kept_apart x.kept y.kept a b three.1 in
    (λ i. record { number = one.0 i; currency = two.0 i; modes = three.0 i; kept = four.0 i }, four.1)
