-- Bytes in memory as a source: the texts that it gives are just those bytes.
use Rattle.std.proofs.Common.{◌≡◌, ℕ, ◌+◌, ◌-◌, List, [], ◌∷◌, ◌++◌, length, Some, None, inl, inr, ⊎_elim, refl, sym, ap, ◌∙◌, subst, arith}
use Rattle.std.specs.Prelude.{slice_get}
use Rattle.std.proofs.Math.Seq.{get_or-append_seam}
use Rattle.std.proofs.lemmas.List.{append-nil, append_assoc, length-append, nil_from_length}
use Rattle.std.proofs.lemmas.Option.{get_or_from_slice_get, slice_get_within}
use Rattle.dbtg_schema.specs.Lists.{Lists}
use Rattle.dbtg_schema.specs.Texts.SchemaFaults.{refusal as schema_refusal}
use Rattle.dbtg_script.specs.StatementFaults.{refusal as script_refusal}
use Rattle.dbtg_command.specs.declared.fault.Fault.{Fault}
use Rattle.dbtg_command.specs.declared.fault.Fault.TheVariants.{Memory}
use Rattle.dbtg_command.specs.declared.order.Order.{Order}
use Rattle.dbtg_command.specs.declared.order.Order.TheVariants as by
use Rattle.dbtg_command.specs.declared.order.OrderKind.{OrderKind}
use Rattle.dbtg_command.specs.declared.order.OrderKind.TheVariants as kind
use Rattle.dbtg_command.specs.declared.place.TextPlace.{TextPlace}
use Rattle.dbtg_command.specs.declared.place.TextPlace.TheVariants.{Script}
use Rattle.dbtg_command.specs.Checking.{ChecksHeld, IsCheck}
use Rattle.dbtg_command.specs.Refusals.{AcceptsTexts, RefusesReplay, RefusesSchema, RefusesScript, RefusesScriptText, RefusesOneScript, RefusesOrder, RefusesTexts, schema_in}
use Rattle.dbtg_command.specs.Sources.{HoldsOrder, HoldsScripts, ToldOfOrder, ToldOfRun, ToldOfSchema, ToldOfScripts, ToldOfTexts, kind_of, order_map}
use Rattle.dbtg_command.specs.Inside.Sources.{StandsIn}
use Rattle.dbtg_command.proofs.InTurn.{memory_refuses, refused_behind}
use Rattle.dbtg_command.proofs.TextsRead.{all_accepted, held_behind}

-- the texts that are held from a number on are the next ones in memory
first_are : (schema : List ℕ) (order : Order (List ℕ)) (front rest texts : List (List ℕ)) → HoldsScripts (StandsIn schema (front ++ rest) order) (length front + 1) texts → (tail : List (List ℕ)) × (rest ≡ texts ++ tail)
first_are schema order front rest [] held = (rest, refl)
first_are schema order front [] (text ∷ texts) held =
    let within = slice_get_within (front ++ []) (length front + 1 - 1) text held.0 in
    let empty : List (List ℕ) = [] in
    absurd (omega (arith, within, length-append front empty))
first_are schema order front (first ∷ rest) (text ∷ texts) held =
    let place : length front + 1 - 1 ≡ length front = omega arith in
    let here = subst (λ (k : ℕ). slice_get (front ++ first ∷ rest) k ≡ Some text) place held.0 in
    let same : first ≡ text = sym (get_or-append_seam front first rest text) ∙ get_or_from_slice_get (front ++ first ∷ rest) (length front) text text here in
    let longer : front ++ first ∷ rest ≡ (front ++ first ∷ []) ++ rest = sym (append_assoc front (first ∷ []) rest) in
    let number : length front + 1 + 1 ≡ length (front ++ first ∷ []) + 1 = ap (λ (k : ℕ). k + 1) (sym (length-append front (first ∷ []))) in
    let moved = subst (λ (xs : List (List ℕ)). HoldsScripts (StandsIn schema xs order) (length front + 1 + 1) texts) longer held.1 in
    let next = first_are schema order (front ++ first ∷ []) rest texts (subst (λ (k : ℕ). HoldsScripts (StandsIn schema ((front ++ first ∷ []) ++ rest) order) k texts) number moved) in
    (next.0, ap (λ (xs : List (List ℕ)). first ∷ xs) next.1 ∙ ap (λ (x : List ℕ). x ∷ (texts ++ next.0)) same)

pub all_are : (schema : List ℕ) (order : Order (List ℕ)) (scripts texts : List (List ℕ)) → HoldsScripts (StandsIn schema scripts order) 1 texts → length texts ≡ length scripts → texts ≡ scripts
all_are schema order scripts texts held many =
    let first = first_are schema order [] scripts texts held in
    let none = nil_from_length first.0 (omega (arith, many, ap length first.1, length-append texts first.0)) in
    sym (first.1 ∙ ap (λ (xs : List (List ℕ)). texts ++ xs) none ∙ append-nil texts)

pub order_is : (schema : List ℕ) (scripts : List (List ℕ)) (given order : Order (List ℕ)) → HoldsOrder (StandsIn schema scripts given) order → kind_of order ≡ kind_of given → order ≡ given
order_is schema scripts by.Serial by.Serial held same = refl
order_is schema scripts (by.Moves text) by.Serial held same = cc
order_is schema scripts (by.Turns text) by.Serial held same = cc
order_is schema scripts given (by.Moves text) held same = sym held
order_is schema scripts given (by.Turns text) held same = sym held

pub same_kind : {A B : Type 0} (f : A → B) (order : Order A) → kind_of order ≡ kind_of (order_map f order)
same_kind f by.Serial = refl
same_kind f (by.Moves it) = refl
same_kind f (by.Turns it) = refl

pub at_hand_check : (schema : List ℕ) (scripts : List (List ℕ)) (out : List ℕ) → ChecksHeld (StandsIn schema scripts by.Serial) (length scripts) out → IsCheck schema scripts out
at_hand_check schema scripts out held =
    let texts = held.0 in
    subst (λ (s : List ℕ). IsCheck s scripts out) texts.holds_schema
    (subst (λ (ss : List (List ℕ)). IsCheck texts.schema ss out) (all_are schema by.Serial scripts texts.scripts texts.holds_scripts texts.many) held.1)

-- a text in memory can fail to be given only for want of memory
abbrev pub OnlyMemory : TextPlace → Fault → Type 0
OnlyMemory place fault = fault ≡ Memory

pub schema_told : (fault : Fault) (schema : List ℕ) (scripts : List (List ℕ)) (order : Order (List ℕ)) → ToldOfSchema (StandsIn schema scripts order) OnlyMemory fault → RefusesSchema fault (schema_refusal schema)
schema_told fault schema scripts order (inl memory) = subst (λ (f : Fault). RefusesSchema f (schema_refusal schema)) (sym memory) tt
schema_told fault schema scripts order (inr told) = subst (λ (text : List ℕ). RefusesSchema fault (schema_refusal text)) told.1 told.2.0

scripts_told : (fault : Fault) (lists : Lists) (schema : List ℕ) (scripts : List (List ℕ)) (order : Order (List ℕ))
    → ToldOfScripts (StandsIn schema scripts order) OnlyMemory fault lists (length scripts) → RefusesOneScript fault lists 1 scripts
scripts_told fault lists schema scripts order told = ⊎_elim
    (λ (memory : fault ≡ Memory). subst (λ (f : Fault). RefusesOneScript f lists 1 scripts) (sym memory) (memory_refuses lists 1 scripts))
    (λ (here : (text : List ℕ) × StandsIn schema scripts order (Script (told.before + 1)) text × RefusesScriptText fault (told.before + 1) lists text). refused here)
    told.told
  where
    refused : (text : List ℕ) × StandsIn schema scripts order (Script (told.before + 1)) text × RefusesScriptText fault (told.before + 1) lists text → RefusesOneScript fault lists 1 scripts
    refused here =
        let before = told.read.texts in
        let number : told.before + 1 ≡ 1 + length before = omega (arith, told.read.many) in
        let held = held_behind (StandsIn schema scripts order) 1 before here.0 told.read.held (subst (λ (k : ℕ). StandsIn schema scripts order (Script k) here.0) number here.1) in
        let first = first_are schema order [] scripts (before ++ here.0 ∷ []) held in
        let split : scripts ≡ before ++ here.0 ∷ first.0 = first.1 ∙ append_assoc before (here.0 ∷ []) first.0 in
        subst (λ (ss : List (List ℕ)). RefusesOneScript fault lists 1 ss) (sym split)
        (refused_behind fault lists 1 before (here.0 ∷ first.0) told.read.accepted
        (inl (subst (λ (k : ℕ). RefusesScript fault k (script_refusal lists here.0)) number here.2.0)))

pub texts_told : (fault : Fault) (schema : List ℕ) (scripts : List (List ℕ)) (order : Order (List ℕ))
    → ToldOfTexts (StandsIn schema scripts order) OnlyMemory fault (length scripts) → RefusesTexts fault schema scripts
texts_told fault schema scripts order (inl told) = inl (schema_told fault schema scripts order told)
texts_told fault schema scripts order (inr told) =
    let read = told.1 in
    let says : told.0 ≡ schema_in schema = read.says ∙ ap schema_in read.held in
    inr (
      subst (λ (text : List ℕ). schema_refusal text ≡ None) read.held read.accepted,
      subst (λ (lists : Lists). RefusesOneScript fault lists 1 scripts) says (scripts_told fault told.0 schema scripts order told.2),
    )

memory_of_order : (fault : Fault) (order : Order (List ℕ)) → fault ≡ Memory → RefusesOrder fault order
memory_of_order fault by.Serial memory = memory
memory_of_order fault (by.Moves text) memory = subst (λ (f : Fault). RefusesOrder f (by.Moves text)) (sym memory) tt
memory_of_order fault (by.Turns text) memory = subst (λ (f : Fault). RefusesOrder f (by.Turns text)) (sym memory) tt

order_told : (fault : Fault) (schema : List ℕ) (scripts : List (List ℕ)) (order : Order (List ℕ)) (which : OrderKind) → ToldOfOrder (StandsIn schema scripts order) OnlyMemory fault which → RefusesOrder fault order
order_told fault schema scripts order kind.Serial memory = memory_of_order fault order memory
order_told fault schema scripts order kind.Moves (inl memory) = memory_of_order fault order memory
order_told fault schema scripts order kind.Moves (inr told) = subst (λ (o : Order (List ℕ)). RefusesOrder fault o) (sym told.1) told.2.0
order_told fault schema scripts order kind.Turns (inl memory) = memory_of_order fault order memory
order_told fault schema scripts order kind.Turns (inr told) = subst (λ (o : Order (List ℕ)). RefusesOrder fault o) (sym told.1) told.2.0

pub run_told : (fault : Fault) (schema : List ℕ) (scripts : List (List ℕ)) (order : Order (List ℕ)) (which : OrderKind)
    → ToldOfRun (StandsIn schema scripts order) OnlyMemory fault (length scripts) which → RefusesReplay fault schema scripts order
run_told fault schema scripts order which (inl wrong) = inl wrong
run_told fault schema scripts order which (inr (right, inl told)) = inr (right, inl (texts_told fault schema scripts order told))
run_told fault schema scripts order which (inr (right, inr told)) =
    let accepted = all_accepted (StandsIn schema scripts order) told.0 (length scripts) told.1 told.2 in
    let all = subst (λ (ss : List (List ℕ)). AcceptsTexts told.1.text ss) (all_are schema order scripts told.2.texts told.2.held told.2.many) accepted in
    inr (right, inr (subst (λ (text : List ℕ). AcceptsTexts text scripts) told.1.held all, order_told fault schema scripts order which told.3))
