-- Every fault of a schema text, place by place, and at a place in their order. A place is a word, or the end of the text.
use Rattle.std.specs.Prelude.{ℕ, Bool, true, false, ◌&&◌, ◌||◌, not, List, [], ◌∷◌, ◌++◌, length, filter, Option, Some, None, if◌then◌else◌, codes, nat_le, nat_lt, ◌==◌, count_by}
use Rattle.std.specs.List.{list_any, list_all, flat_map}
use Rattle.std.specs.Str.{bytes_eq}
use Rattle.dbtg_schema.specs.declared.limits.TheConstants.{MOST_AREAS, MOST_CALC_ITEMS, MOST_ITEMS, MOST_MEMBERS, MOST_RECORD_TYPES, MOST_SETS, SCHEMA_BYTES}
use Rattle.dbtg_schema.specs.declared.role.Role.{Role}
use Rattle.dbtg_schema.specs.declared.role.Role.TheVariants as role
use Rattle.dbtg_schema.specs.declared.fault.Fault.{Fault}
use Rattle.dbtg_schema.specs.declared.fault.Cause.{Cause}
use Rattle.dbtg_schema.specs.declared.fault.Cause.TheVariants.{ByteNotAllowed, TextTooLong, UnexpectedWord, NotAName, NameTaken, ItemNameTwice, UnknownArea, UnknownRecordType, UnknownItem, UnknownSet, NotAPicture, OwnerIsMember, MemberTwice, KeyPicturesDiffer, KeyMisplaced, OverLimit, NoItems, CalcItemTwice}
use Rattle.dbtg_schema.specs.declared.shape.Picture.{Picture}
use Rattle.dbtg_schema.specs.declared.shape.Picture.TheVariants.{Number, Text}
use Rattle.dbtg_schema.specs.Lookups.{first}
use Rattle.dbtg_schema.specs.Texts.Words.{Word, text_words, last_line}
use Rattle.dbtg_schema.specs.Texts.Spelling.{among, spelled_picture}
use Rattle.dbtg_schema.specs.Texts.Forms.{starts, may_end, start_with, by_start, labelled}
use Rattle.dbtg_schema.specs.Texts.SchemaGrammar.{Kind, key, name, picture, fits, Form, Start, Labelled, schema}
use Rattle.dbtg_schema.specs.Texts.Labels.{number, is, named, count_of, since, entries, first_named}

-- the entry of the record type with this name
abbrev pub record_named : List ℕ → List (List Labelled) → List Labelled
record_named n [] = []
record_named n (e ∷ es) = if bytes_eq (first_named role.RecordName e) n then e else record_named n es

-- the record type that is still open: none after the first SET entry
abbrev pub open_record : List Labelled → List Labelled
open_record ws = if list_any (is role.SetEntry) ws then [] else since role.RecordEntry ws

-- the item names of the record type with this name
abbrev pub items_of : List ℕ → List Labelled → List (List ℕ)
items_of n ws = named role.ItemName (record_named n (entries role.RecordEntry ws))

-- the fault, if the test holds
abbrev pub when : Bool → Fault → List Fault
when b f = if b then f ∷ [] else []

-- a fault with its line
abbrev pub fault : Cause → ℕ → Fault
fault cause line = record { line = line; cause = cause }

-- CALC item by CALC item: one that is unknown, one that is repeated
abbrev pub calc_faults : List (List ℕ) → List (List ℕ) → List Labelled → List Fault
calc_faults items before [] = []
calc_faults items before (w ∷ ws) =
    when (not (among w.word.text items)) (fault UnknownItem w.word.line) ++ when (among w.word.text before) (fault CalcItemTwice w.word.line) ++ calc_faults items (before ++ w.word.text ∷ []) ws

-- the checks at the end of a record type
abbrev pub record_end : List Labelled → List Fault
record_end [] = []
record_end (w ∷ ws) =
    when (not (list_any (is role.ItemEntry) ws)) (fault NoItems w.word.line) ++ calc_faults (named role.ItemName ws) [] (filter (is role.CalcItem) ws)

-- a word that begins an entry or a CALC item past the limit
abbrev pub is_surplus : List Labelled → Role → Bool
is_surplus ws role.AreaEntry = nat_le MOST_AREAS (count_of role.AreaEntry ws)
is_surplus ws role.RecordEntry = nat_le MOST_RECORD_TYPES (count_of role.RecordEntry ws)
is_surplus ws role.SetEntry = nat_le MOST_SETS (count_of role.SetEntry ws)
is_surplus ws role.ItemEntry = nat_le MOST_ITEMS (count_of role.ItemEntry (since role.RecordEntry ws))
is_surplus ws role.MemberEntry = nat_le MOST_MEMBERS (count_of role.MemberEntry (since role.SetEntry ws))
is_surplus ws role.CalcItem = nat_le MOST_CALC_ITEMS (count_of role.CalcItem (since role.RecordEntry ws))
is_surplus ws _ = false

-- the picture of the item with this name, among these item entries
abbrev pub picture_in : List ℕ → List (List Labelled) → Option Picture
picture_in n [] = None
picture_in n (e ∷ es) = if bytes_eq (first_named role.ItemName e) n then spelled_picture (first_named role.Picture e) else picture_in n es

-- the picture of an item of a record type
abbrev pub item_picture : List ℕ → List ℕ → List Labelled → Option Picture
item_picture r i ws = picture_in i (entries role.ItemEntry (record_named r (entries role.RecordEntry ws)))

-- the picture of the key of a member sentence
abbrev pub key_picture : List Labelled → List Labelled → Option Picture
key_picture ws m = item_picture (first_named role.MemberName m) (first_named role.KeyItem m) ws

-- two pictures, of unequal kind or length
abbrev pub unequal : Option Picture → Option Picture → Bool
unequal (Some (Number m)) (Some (Number n)) = not (m == n)
unequal (Some (Text m)) (Some (Text n)) = not (m == n)
unequal (Some (Number m)) (Some (Text n)) = true
unequal (Some (Text m)) (Some (Number n)) = true
unequal _ _ = false

-- the line of the first word
abbrev pub line_of : List Labelled → ℕ
line_of [] = 0
line_of (w ∷ ws) = w.word.line

-- the member sentence and the set that are open, and the member's record type
abbrev pub this_member : List Labelled → List Labelled
this_member ws = since role.MemberEntry ws

-- the words from the last SET entry on
abbrev pub this_set : List Labelled → List Labelled
this_set ws = since role.SetEntry ws

-- the record type that the last MEMBER names
abbrev pub member_type : List Labelled → List ℕ
member_type ws = first_named role.MemberName (this_member ws)

-- the member type is the owner type
abbrev pub is_owner : List Labelled → Bool
is_owner ws = among (member_type ws) (named role.OwnerName (this_set ws))

-- the member type is named twice in the set
abbrev pub is_there_twice : List Labelled → Bool
is_there_twice ws = nat_le 2 (count_by (bytes_eq (member_type ws)) (named role.MemberName (this_set ws)))

-- KEY is missing in a sorted set, or present in another
abbrev pub is_key_wrong : List Labelled → Bool
is_key_wrong ws = if list_any (is role.KeyItem) (this_member ws) then not (list_any (is role.Sorted) (this_set ws)) else list_any (is role.Sorted) (this_set ws)

-- a key of the set has a different picture from this member's
abbrev pub has_other_key : List Labelled → Bool
has_other_key ws = list_any (λ m. unequal (key_picture ws m) (key_picture ws (this_member ws))) (entries role.MemberEntry (this_set ws))

-- the checks at the period of a MEMBER sentence
abbrev pub member_end : List Labelled → List Fault
member_end ws =
    when (is_owner ws) (fault OwnerIsMember (line_of (this_member ws)))
    ++ when (is_there_twice ws) (fault MemberTwice (line_of (this_member ws)))
    ++ when (is_key_wrong ws) (fault KeyMisplaced (line_of (this_member ws)))
    ++ when (has_other_key ws) (fault KeyPicturesDiffer (line_of (this_member ws)))

-- an area, a record type or a set has this name already
abbrev pub is_taken : List ℕ → List Labelled → Bool
is_taken n ws = among n (named role.AreaName ws) || among n (named role.RecordName ws) || among n (named role.SetName ws)

-- what is wrong with a word that the grammar wants, for what it says
abbrev pub said : List Labelled → Labelled → Role → List Fault
said ws w role.AreaName = when (is_taken w.word.text ws) (fault NameTaken w.word.line)
said ws w role.RecordName = when (is_taken w.word.text ws) (fault NameTaken w.word.line)
said ws w role.SetName = when (is_taken w.word.text ws) (fault NameTaken w.word.line)
said ws w role.ItemName = when (among w.word.text (named role.ItemName (since role.RecordEntry ws))) (fault ItemNameTwice w.word.line)
said ws w role.WithinArea = when (not (among w.word.text (named role.AreaName ws))) (fault UnknownArea w.word.line)
said ws w role.OwnerName = when (not (among w.word.text (named role.RecordName ws))) (fault UnknownRecordType w.word.line)
said ws w role.MemberName = when (not (among w.word.text (named role.RecordName ws))) (fault UnknownRecordType w.word.line)
said ws w role.KeyItem = when (not (among w.word.text (items_of (first_named role.MemberName (since role.MemberEntry ws)) ws))) (fault UnknownItem w.word.line)
said ws w role.MemberEnd = member_end ws
said ws w _ = []

-- what ends with a word of this role: a RECORD or a SET entry ends the record type before it
abbrev pub ended : List Labelled → Role → List Fault
ended ws role.RecordEntry = record_end (open_record ws)
ended ws role.SetEntry = record_end (open_record ws)
ended ws _ = []

-- the faults at a word that the grammar wants, after the words ws
abbrev pub at_word : List Labelled → Labelled → List Fault
at_word ws w = ended ws w.role ++ when (is_surplus ws w.role) (fault OverLimit w.word.line) ++ said ws w w.role

-- printable ASCII, tab, carriage return and line feed
abbrev pub is_allowed : ℕ → Bool
is_allowed b = (nat_le 32 b && nat_le b 126) || b == 9 || b == 13 || b == 10

-- a name is wanted
abbrev pub is_name_kind : Kind → Bool
is_name_kind name = true
is_name_kind (key k) = false
is_name_kind picture = false

-- a picture is wanted
abbrev pub is_picture_kind : Kind → Bool
is_picture_kind picture = true
is_picture_kind (key k) = false
is_picture_kind name = false

-- a name is wanted here
abbrev pub wants_name : List Start → Bool
wants_name ss = list_any (λ s. is_name_kind s.kind) ss

-- a picture is wanted here
abbrev pub wants_picture : List Start → Bool
wants_picture ss = list_any (λ s. is_picture_kind s.kind) ss

-- one more CALC item could come here
abbrev pub wants_calc : List Start → Bool
wants_calc ss = list_any (λ s. number s.role == number role.CalcItem) ss

-- the faults at a word that the grammar does not want, after the words ws
abbrev pub at_other : List Labelled → List Start → Word → List Fault
at_other ws wanted w =
    let a_word = not (bytes_eq w.text (codes ".")) in
    when (not (list_all is_allowed w.text)) (fault ByteNotAllowed w.line)
    ++ when (a_word && wants_calc wanted && is_surplus ws role.CalcItem) (fault OverLimit w.line)
    ++ (if a_word && wants_name wanted then fault NotAName w.line
    else (if a_word && wants_picture wanted then fault NotAPicture w.line
    else fault UnexpectedWord w.line)) ∷ []

-- the sets after VIA that do not exist
abbrev pub unknown_vias : List Labelled → List Labelled → List Fault
unknown_vias ws [] = []
unknown_vias ws (w ∷ rest) = when (is role.ViaSet w && not (among w.word.text (named role.SetName ws))) (fault UnknownSet w.word.line) ++ unknown_vias ws rest

-- the faults at the end of the text
abbrev pub at_end : ℕ → List Labelled → Form → List Fault
at_end line ws wanted = if may_end wanted then record_end (open_record ws) ++ unknown_vias ws ws else fault UnexpectedWord line ∷ []

-- the faults place by place: a place is a word of the text, or its end
abbrev pub places : ℕ → List Labelled → Form → List Word → List (List Fault)
places end ws wanted [] = at_end end ws wanted ∷ []
places end ws wanted (w ∷ rest) =
    by_start (start_with fits w (starts wanted)) (λ s. at_word ws (labelled s.role w) ∷ places end (ws ++ labelled s.role w ∷ []) s.rest rest) (at_other ws (starts wanted) w ∷ [])

-- more than 65,536 bytes
abbrev pub too_long : List ℕ → List Fault
too_long text = when (nat_lt SCHEMA_BYTES (length text)) (fault TextTooLong 1)

-- every fault of a text, in the order of their places, and at a place in their order there
abbrev pub faults : List ℕ → List Fault
faults text = too_long text ++ flat_map (λ here. here) (places (last_line text) [] schema (text_words text))

-- the first fault of a text, which is the refusal
abbrev pub refusal : List ℕ → Option Fault
refusal text = first (faults text)
