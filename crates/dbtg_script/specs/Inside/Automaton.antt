-- What is left of the grammar in each state of the reader.
use Rattle.std.specs.Prelude.{ℕ, List, map, codes}
use Rattle.dbtg_schema.specs.Texts.Forms.{nothing, one, either, many, maybe, ◌▹◌}
use Rattle.dbtg_script.specs.declared.role.Role.TheVariants as role
use Rattle.dbtg_script.specs.declared.automaton.State.{State}
use Rattle.dbtg_script.specs.declared.automaton.State.TheVariants as state
use Rattle.dbtg_script.specs.declared.automaton.Kind as code_kind
use Rattle.dbtg_script.specs.declared.automaton.Kind.TheVariants as code
use Rattle.dbtg_script.specs.declared.automaton.Start as code_start
use Rattle.dbtg_script.specs.declared.keyword.Keyword.{Keyword}
use Rattle.dbtg_script.specs.declared.keyword.Keyword.TheVariants as keyword
use Rattle.dbtg_script.specs.StatementGrammar.{Kind, key, other_than, name, equals_sign, signed, keyed, value, Form, say, word, currents, suppress, assignment, further, set_word, record_word, set_or_area, place, inside, of_set, of_type, any_kind, current, calc_items, next_one, find_form, sharing, access, usage_mode, statement}
use Rattle.dbtg_script.specs.Inside.StatementGrammar.{Start}

-- the form of the words that are still to come in a state
abbrev pub rest_of : State → Form
rest_of state.Opening = statement
rest_of state.OpenArea = (say (codes "AREA")) ▹ ((one name role.AreaName) ▹ usage_mode)
rest_of state.CloseArea = (say (codes "AREA")) ▹ (one name role.AreaName)
rest_of state.Find = find_form ▹ (maybe suppress)
rest_of state.GetType = maybe (one name role.TypeName)
rest_of state.StoreType = (one name role.TypeName) ▹ ((many further) ▹ (maybe suppress))
rest_of state.Into = (say (codes "INTO")) ▹ (one name role.SetName)
rest_of state.From = (say (codes "FROM")) ▹ (one name role.SetName)
rest_of state.ModifyType = (one name role.TypeName) ▹ (assignment ▹ (many assignment))
rest_of state.DeleteOption = maybe (either (word (codes "ONLY") role.Only) (either (word (codes "SELECTIVE") role.Selective) (word (codes "ALL") role.All)))
rest_of state.Ended = nothing
rest_of state.FreeOption = maybe (word (codes "ALL") role.FreeAll)
rest_of state.OpenedArea = (one name role.AreaName) ▹ usage_mode
rest_of state.ClosedArea = one name role.AreaName
rest_of state.Key = (one keyed role.Key) ▹ (maybe suppress)
rest_of state.CurrentOf = ((say (codes "OF")) ▹ current) ▹ (maybe suppress)
rest_of state.SetOf = of_set ▹ (maybe suppress)
rest_of state.CalcType = ((one name role.RecordName) ▹ (record_word ▹ calc_items)) ▹ (maybe suppress)
rest_of state.SortedValue = ((one value role.SortedValue) ▹ of_set) ▹ (maybe suppress)
rest_of state.NextOf = next_one ▹ (maybe suppress)
rest_of state.WhichOf = inside ▹ (maybe suppress)
rest_of state.MoreItems = (many further) ▹ (maybe suppress)
rest_of state.SetName = one name role.SetName
rest_of state.FirstChange = assignment ▹ (many assignment)
rest_of state.UsageMode = usage_mode
rest_of state.Suppress = maybe suppress
rest_of state.CurrentName = current ▹ (maybe suppress)
rest_of state.NameOfSet = ((one name role.Name) ▹ set_word) ▹ (maybe suppress)
rest_of state.CalcRecord = (record_word ▹ calc_items) ▹ (maybe suppress)
rest_of state.DuplicateOf = of_type ▹ (maybe suppress)
rest_of state.NameOfPlace = ((one name role.Name) ▹ set_or_area) ▹ (maybe suppress)
rest_of state.InRecord = (record_word ▹ place) ▹ (maybe suppress)
rest_of state.ItemEquals = (((one equals_sign role.Plain) ▹ (one value role.Value)) ▹ (many further)) ▹ (maybe suppress)
rest_of state.Suppressed = either (word (codes "ALL") role.SuppressAll) (currents ▹ (many currents))
rest_of state.ChangeEquals = ((one equals_sign role.Plain) ▹ (one value role.Value)) ▹ (many assignment)
rest_of state.ModeIs = (maybe (say (codes "IS"))) ▹ ((maybe sharing) ▹ access)
rest_of state.CurrentKind = any_kind ▹ (maybe suppress)
rest_of state.SetWord = set_word ▹ (maybe suppress)
rest_of state.Using = calc_items ▹ (maybe suppress)
rest_of state.DuplicateType = ((one name role.RecordName) ▹ record_word) ▹ (maybe suppress)
rest_of state.PlaceKind = set_or_area ▹ (maybe suppress)
rest_of state.PlaceOf = place ▹ (maybe suppress)
rest_of state.ItemValue = ((one value role.Value) ▹ (many further)) ▹ (maybe suppress)
rest_of state.MoreSuppressed = many currents
rest_of state.ChangeValue = (one value role.Value) ▹ (many assignment)
rest_of state.Sharing = (maybe sharing) ▹ access
rest_of state.Access = access
rest_of state.CalcItem = (assignment ▹ (many further)) ▹ (maybe suppress)
rest_of state.DuplicateRecord = record_word ▹ (maybe suppress)
rest_of state.MoreChanges = many assignment

-- the word of a keyword
abbrev pub spelling : Keyword → List ℕ
spelling keyword.Open = codes "OPEN"
spelling keyword.Close = codes "CLOSE"
spelling keyword.Find = codes "FIND"
spelling keyword.Get = codes "GET"
spelling keyword.Store = codes "STORE"
spelling keyword.Insert = codes "INSERT"
spelling keyword.Remove = codes "REMOVE"
spelling keyword.Modify = codes "MODIFY"
spelling keyword.Delete = codes "DELETE"
spelling keyword.Keep = codes "KEEP"
spelling keyword.Free = codes "FREE"
spelling keyword.Area = codes "AREA"
spelling keyword.Key = codes "KEY"
spelling keyword.Current = codes "CURRENT"
spelling keyword.Owner = codes "OWNER"
spelling keyword.Calc = codes "CALC"
spelling keyword.Sorted = codes "SORTED"
spelling keyword.Next = codes "NEXT"
spelling keyword.First = codes "FIRST"
spelling keyword.Last = codes "LAST"
spelling keyword.Prior = codes "PRIOR"
spelling keyword.Into = codes "INTO"
spelling keyword.From = codes "FROM"
spelling keyword.Only = codes "ONLY"
spelling keyword.Selective = codes "SELECTIVE"
spelling keyword.All = codes "ALL"
spelling keyword.Of = codes "OF"
spelling keyword.Duplicate = codes "DUPLICATE"
spelling keyword.Suppress = codes "SUPPRESS"
spelling keyword.UsageMode = codes "USAGE-MODE"
spelling keyword.RunUnit = codes "RUN-UNIT"
spelling keyword.Record = codes "RECORD"
spelling keyword.Is = codes "IS"
spelling keyword.Protected = codes "PROTECTED"
spelling keyword.Exclusive = codes "EXCLUSIVE"
spelling keyword.Retrieval = codes "RETRIEVAL"
spelling keyword.Update = codes "UPDATE"
spelling keyword.Set = codes "SET"
spelling keyword.Using = codes "USING"

-- a kind of word of the code, as the grammar has it
abbrev pub view_kind : code_kind.Kind → Kind
view_kind (code.Key k) = key (spelling k)
view_kind (code.OtherThan k) = other_than (spelling k)
view_kind code.Name = name
view_kind code.Equals = equals_sign
view_kind code.Signed = signed
view_kind code.Keyed = keyed
view_kind code.Value = value

-- a word that may come next: its kind, its role, and what is left after it
abbrev pub view_start : code_start.Start → Start
view_start s = record { kind = view_kind s.kind; role = s.role; rest = rest_of s.next }

-- the words that may come next
abbrev pub view_starts : List code_start.Start → List Start
view_starts ss = map view_start ss
