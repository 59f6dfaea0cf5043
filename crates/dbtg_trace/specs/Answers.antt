-- What follows the arrow: a status, perhaps a key, and perhaps the items of its record type.
use Rattle.std.specs.Prelude.{ℕ, false, ◌&&◌, ◌==◌, List, [], ◌∷◌, length, Option, Some, None, is_none, if◌then◌else◌, option_and_then, option_map}
use Rattle.std.specs.Str.{bytes_eq}
use Rattle.dbtg_schema.specs.Lists.{Lists}
use Rattle.dbtg_schema.specs.Lookups.{first}
use Rattle.dbtg_schema.specs.Structure.{item_list}
use Rattle.dbtg_schema.specs.declared.shape.Item.{Item}
use Rattle.dbtg_cells.specs.declared.key.DbKey.{DbKey}
use Rattle.dbtg_cells.specs.declared.key.Value.{Value}
use Rattle.dbtg_script.specs.Lines.{ends_in_text}
use Rattle.dbtg_script.specs.Printing.Spelling.{is_key, is_number, number}
use Rattle.dbtg_script.specs.StatementFaults.{key_faults}
use Rattle.dbtg_script.specs.Statements.{key_of}
use Rattle.dbtg_script.specs.Tokens.{Token, plain, equals, tokens}
use Rattle.dbtg_script.specs.Values.{spelled}
use Rattle.dbtg_trace.specs.declared.traced.Said.{Said}

-- a status of four digits
abbrev pub status_in : List ℕ → Option ℕ
status_in t = if length t == 4 && is_number t then Some (number t) else None

-- a key, as a statement may name it
abbrev pub key_in : Lists → List ℕ → Option DbKey
key_in schema t = if is_key t && is_none (first (key_faults schema t)) then Some (key_of schema t) else None

-- the value that NAME = value gives to the item, and the words after it
abbrev pub value_in : Item → List Token → Option (Value × List Token)
value_in i (plain name ∷ equals ∷ t ∷ ts) = if bytes_eq i.name name then option_map (λ v. (v, ts)) (spelled i.picture t) else None
value_in i _ = None

-- the values of all these items, in their order, and no word after them
abbrev pub values_in : List Item → List Token → Option (List Value)
values_in [] [] = Some []
values_in [] (t ∷ ts) = None
values_in (i ∷ items) ts = option_and_then (λ r. option_map (λ vs. r.0 ∷ vs) (values_in items r.1)) (value_in i ts)

-- an answer with this status and key, and with the items that the words after the key say
abbrev pub said_of_key : Lists → ℕ → List Token → DbKey → Option Said
said_of_key schema status [] key = Some (record { status = status; key = Some key; items = None })
said_of_key schema status (t ∷ ts) key =
    option_map (λ vs. record { status = status; key = Some key; items = Some vs }) (values_in (item_list schema key.rtype) (t ∷ ts))

-- an answer with this status, and with what the words after it say
abbrev pub said_of_status : Lists → List Token → ℕ → Option Said
said_of_status schema [] status = Some (record { status = status; key = None; items = None })
said_of_status schema (plain t ∷ ts) status = option_and_then (said_of_key schema status ts) (key_in schema t)
said_of_status schema _ status = None

-- the answer that words say
abbrev pub said_of : Lists → List Token → Option Said
said_of schema (plain t ∷ ts) = option_and_then (said_of_status schema ts) (status_in t)
said_of schema _ = None

-- the answer that is written after an arrow, each text closed
abbrev pub answer_in : Lists → List ℕ → Option Said
answer_in schema text = if ends_in_text false text then None else said_of schema (tokens false text)
