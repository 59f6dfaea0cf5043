-- Numbers and keys, as they are spelled in a statement.
use Rattle.std.specs.Prelude.{ℕ, ◌+◌, ◌*◌, ◌-◌, Bool, true, false, ◌&&◌, ◌==◌, nat_lt, List, [], ◌∷◌, length, if◌then◌else◌}
use Rattle.std.specs.List.{list_any, list_all}
use Rattle.dbtg_schema.specs.Texts.Spelling.{is_digit}

-- one or more digits
abbrev pub is_number : List ℕ → Bool
is_number t = nat_lt 0 (length t) && list_all is_digit t

-- the number that the digits spell, after what was read before them
abbrev pub number_after : ℕ → List ℕ → ℕ
number_after n [] = n
number_after n (d ∷ ds) = number_after (10 * n + (d - 48)) ds

-- the number that digits spell
abbrev pub number : List ℕ → ℕ
number t = number_after 0 t

-- n or -n
abbrev pub is_signed : List ℕ → Bool
is_signed [] = false
is_signed (b ∷ bs) = if b == 45 then is_number bs else is_number (b ∷ bs)

-- the bytes before the first c; all without a c
abbrev pub in_front : ℕ → List ℕ → List ℕ
in_front c [] = []
in_front c (b ∷ bs) = if b == c then [] else b ∷ in_front c bs

-- the bytes after the first c; none without a c
abbrev pub behind : ℕ → List ℕ → List ℕ
behind c [] = []
behind c (b ∷ bs) = if b == c then bs else behind c bs

-- there is a c in the text
abbrev pub has_byte : ℕ → List ℕ → Bool
has_byte c t = list_any (λ b. b == c) t

-- the name of a key, which is NAME:number or NAME:number.generation
abbrev pub key_name : List ℕ → List ℕ
key_name t = in_front 58 t

-- the digits of its number
abbrev pub key_number : List ℕ → List ℕ
key_number t = in_front 46 (behind 58 t)

-- the digits of its generation
abbrev pub key_generation : List ℕ → List ℕ
key_generation t = behind 46 (behind 58 t)

-- the key names a generation
abbrev pub has_generation : List ℕ → Bool
has_generation t = has_byte 46 (behind 58 t)

-- a name, a colon and digits, perhaps followed by a period and digits
abbrev pub is_key : List ℕ → Bool
is_key t = nat_lt 0 (length (key_name t)) && is_number (key_number t) && (if has_generation t then is_number (key_generation t) else true)

-- the generation that a key names: 1 if it names none
abbrev pub generation : List ℕ → ℕ
generation t = if has_generation t then number (key_generation t) else 1
