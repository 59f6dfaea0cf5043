-- A session by one line more.
use Rattle.std.proofs.Common.{◌≡◌, ℕ, zero, suc, ◌+◌, ◌-◌, ◌<◌, ◌≤◌, Bool, true, false, List, [], ◌∷◌, ◌++◌, length, map, reverse, None, Some, slice_get, slice_set, inl, inr, refl, sym, ap, ◌∙◌, subst, arith, length-append, Option}
use Rattle.std.specs.Prelude.{Err, IfOk, Ok, OnErr, Result, nat_le, option_map, replicate, unwrap_or}
use Rattle.std.proofs.lemmas.Bool.{and_parts, leb-true}
use Rattle.std.proofs.lemmas.List.{length-map, length-reverse, length-set, map_push, reverse-append, reverse-reverse}
use Rattle.std.proofs.lemmas.Option.{slice_get-map}
use Rattle.dbtg_schema.specs.Lists.{Lists}
use Rattle.dbtg_schema.specs.Lookups.{first}
use Rattle.dbtg_schema.specs.Sound.{IsSound}
use Rattle.dbtg_unit.specs.Database.Laws.Replay.{entries_of}
use Rattle.dbtg_unit.specs.declared.unit.Entry.{Entry}
use Rattle.dbtg_unit.proofs.Public.{entries_mine, entries_other}
use Rattle.dbtg_step.specs.Core.Whole.{Making}
use Rattle.dbtg_step.proofs.Public.{found_of}
use Rattle.dbtg_script.specs.declared.limits.TheConstants.{SCRIPT_BYTES}
use Rattle.dbtg_script.specs.Lines.{closes, trimmed}
use Rattle.dbtg_script.specs.StatementFaults.{line_faults, refusal as script_refusal}
use Rattle.dbtg_script.specs.Statements.{line_statement, prepend, script}
use Rattle.dbtg_script.proofs.Public.{is_read_behind, nothing_read}
use Rattle.dbtg_session.specs.Inside.Sessions.{HasGrown, HasMadeLine, IsAsBefore, IsOwnScript, IsScriptOf, IsSession, MakesLine}
use Rattle.dbtg_explain.specs.Units.{is_count}
use Rattle.dbtg_session.specs.Sessions.{HasScripts, IsNote, RefusesBehind, RefusesLine, Takes, Typed, text_of}
use Rattle.dbtg_session.specs.declared.session.Refusal.{Refusal}
use Rattle.dbtg_session.specs.declared.session.Script.{Script}

-- at most 8 units
pub few_units : (n : ℕ) → is_count n ≡ true → n ≤ 8
few_units n h = leb-true n 8 (and_parts (nat_le 1 n) (nat_le n 8) h).1

-- SCRIPTS

-- the text of each
abbrev pub texts_in : List Script → List (List ℕ)
texts_in scripts = map (λ (x : Script). x.text.items) scripts

pub texts_set : (xs : List Script) (k : ℕ) (y : Script) → texts_in (slice_set xs k y) ≡ slice_set (texts_in xs) k y.text.items
texts_set [] k y = refl
texts_set (x ∷ xs) zero y = refl
texts_set (x ∷ xs) (suc k) y = ap (λ (ts : List (List ℕ)). x.text.items ∷ ts) (texts_set xs k y)

texts_same : (xs : List Script) (k : ℕ) (x y : Script) → slice_get xs k ≡ Some x → y.text.items ≡ x.text.items → texts_in (slice_set xs k y) ≡ texts_in xs
texts_same [] k x y e q = refl
texts_same (z ∷ xs) zero x y e q = let h : z ≡ x = cc (e) in ap (λ (t : List ℕ). t ∷ texts_in xs) (q ∙ ap (λ (w : Script). w.text.items) (sym h))
texts_same (z ∷ xs) (suc k) x y e q = ap (λ (ts : List (List ℕ)). z.text.items ∷ ts) (texts_same xs k x y e q)

-- what a caller sees of a database and its scripts
abbrev pub typed : Making → List Script → Typed
typed making scripts = record { making = making; texts = texts_in scripts }

-- a place in a list has something
pub found_below : {X : Type 0} (xs : List X) (k : ℕ) → k < length xs → (x : X) × (slice_get xs k ≡ Some x)
found_below [] k h = absurd (omega (arith, h))
found_below (x ∷ xs) zero h = (x, refl)
found_below (x ∷ xs) (suc k) h = found_below xs k (omega (arith, h))

-- a script that is there has a place
pub there : (xs : List Script) (k : ℕ) (x : Script) → slice_get xs k ≡ Some x → k < length xs
there [] k x e = absurd (cc (e))
there (z ∷ xs) zero x e = omega arith
there (z ∷ xs) (suc k) x e = let more = there xs k x e in omega (arith, more)

text_at : (making : Making) (xs : List Script) (u : ℕ) (x : Script) → slice_get xs (u - 1) ≡ Some x → text_of (typed making xs) u ≡ x.text.items
text_at making xs u x e = ap (λ (o : Option (List ℕ)). unwrap_or o []) (slice_get-map (λ (z : Script). z.text.items) xs (u - 1) ∙ ap (option_map (λ (z : Script). z.text.items)) e)

-- what a caller is told of the scripts
module _ (schema : Lists) (capacity : ℕ) (making : Making) (scripts : List Script) (session : IsSession schema capacity making scripts) where
  abbrev Says : ℕ → Lists → List ℕ → Type 0
  Says k s text = (script_refusal s text ≡ None) × (script s text ≡ map (λ (e : Entry). e.statement) (entries_of (k + 1) making.history))

  says : (k : ℕ) (text : List ℕ) (o : Option Script) → slice_get scripts k ≡ o → option_map (λ (x : Script). x.text.items) o ≡ Some text → Says k schema text
  says k text None at e = absurd (cc (e))
  says k text (Some one) at e =
      let is : one.text.items ≡ text = cc (e) in
      let own = (session.each k one at).is_script in
      subst (Says k schema) is (own.accepted, own.says)

  pub has_scripts : HasScripts (typed making scripts)
  has_scripts = record {
    counted = session.counted;
    many = length-map scripts (λ (x : Script). x.text.items) ∙ session.many;
    each = λ k text at.
        subst (λ (s : Lists). Says k s text) (sym session.schema_is)
        (says k text (slice_get scripts k) refl (sym (slice_get-map (λ (x : Script). x.text.items) scripts k) ∙ at));
  }

-- ONE LINE

reverse_push : {X : Type 0} (xs : List X) (y : X) → reverse (xs ++ y ∷ []) ≡ y ∷ reverse xs
reverse_push xs y = reverse-append xs (y ∷ [])

module _ (schema : Lists) (capacity : ℕ) (old new : Making) (scripts : List Script) (session : IsSession schema capacity old scripts) (u : ℕ) (low : 0 < u) (one next : Script) (at : slice_get scripts (u - 1) ≡ Some one) (line : List ℕ) where
  number : u - 1 + 1 ≡ u
  number = omega (arith, low)

  abbrev mine : List Entry
  mine = entries_of u old.history

  own : IsOwnScript schema one mine
  own = subst (λ (n : ℕ). IsOwnScript schema one (entries_of n old.history)) number (session.each (u - 1) one at)

  own_as_before : IsAsBefore one next → IsOwnScript schema next mine
  own_as_before same = record {
    is_script =
        subst (λ (bs : List ℕ). IsScriptOf schema next.text.items (length bs) mine) (sym same.begins)
        (subst (λ (t : List ℕ). IsScriptOf schema t (length one.begins.items) mine) (sym same.text) own.is_script);
    grown =
        subst (λ (bs : List ℕ). HasGrown schema next.text.items (reverse bs) (reverse mine)) (sym same.begins)
        (subst (λ (t : List ℕ). HasGrown schema t (reverse one.begins.items) (reverse mine)) (sym same.text) own.grown);
  }

  each_as_before : IsAsBefore one next → (j : ℕ) (other : Script) → slice_get (slice_set scripts (u - 1) next) j ≡ Some other → IsOwnScript schema other (entries_of (j + 1) old.history)
  each_as_before same j other found =
      elim (found_of scripts (u - 1) j next other found) [
        | inl p ↦
            subst (λ (z : Script). IsOwnScript schema z (entries_of (j + 1) old.history)) p.1
            (subst (λ (n : ℕ). IsOwnScript schema next (entries_of n old.history)) (sym (ap (λ (n : ℕ). n + 1) p.0 ∙ number)) (own_as_before same))
        | inr p ↦ session.each j other p.1
      ]

  session_as_before : new ≡ old → IsAsBefore one next → IsSession schema capacity new (slice_set scripts (u - 1) next)
  session_as_before unchanged same = subst (λ (m : Making). IsSession schema capacity m (slice_set scripts (u - 1) next)) (sym unchanged) (record {
    sound = session.sound;
    schema_is = session.schema_is;
    capacity_is = session.capacity_is;
    many = length-set scripts (u - 1) next ∙ session.many;
    counted = session.counted;
    each = each_as_before same;
  })

  module _ (m : HasMadeLine schema old one u line new next) where
    abbrev entry : Entry
    entry = record { ticket = length old.history; unit = u; statement = m.statement; answer = m.made.outcome.answer }

    abbrev longer : List ℕ
    longer = one.text.items ++ line ++ 10 ∷ []

    many_made : length (script schema one.text.items) ≡ length one.begins.items
    many_made = ap length own.is_script.says ∙ length-map mine (λ (e : Entry). e.statement) ∙ sym own.is_script.count_is

    read : (script_refusal schema longer ≡ None) × (script schema longer ≡ script schema one.text.items ++ prepend (line_statement schema (trimmed line)) []) × (closes true longer ≡ true)
    read = is_read_behind schema one.text.items line own.is_script.closed m.room own.is_script.accepted (ap (λ (n : ℕ). first (line_faults schema n (trimmed line))) many_made ∙ m.fine)

    more : entries_of u (old.history ++ entry ∷ []) ≡ mine ++ entry ∷ []
    more = entries_mine u old.history entry refl

    says_then : script schema longer ≡ map (λ (e : Entry). e.statement) (entries_of u (old.history ++ entry ∷ []))
    says_then =
        read.1 ∙ (λ i. own.is_script.says i ++ prepend (m.says i) []) ∙ sym (map_push (λ (e : Entry). e.statement) mine entry)
        ∙ ap (map (λ (e : Entry). e.statement)) (sym more)

    short_then : length longer ≤ SCRIPT_BYTES
    short_then =
        let long = length-append (one.text.items ++ line) (10 ∷ []) in
        let front = length-append one.text.items line in
        omega (arith, long, front, m.room)

    count_then : length next.begins.items ≡ length (entries_of u (old.history ++ entry ∷ []))
    count_then =
        let grown : length (entries_of u (old.history ++ entry ∷ [])) ≡ length mine + 1 = ap length more ∙ length-append mine (entry ∷ []) in
        let begun : length next.begins.items ≡ length one.begins.items + 1 = ap length m.entered.begins ∙ length-append one.begins.items (length one.text.items ∷ []) in
        omega (arith, begun, own.is_script.count_is, grown)

    -- what stood there is the script of the entries before
    front_is : IsScriptOf schema one.text.items (length (reverse one.begins.items)) (reverse (reverse mine))
    front_is =
        subst (λ (n : ℕ). IsScriptOf schema one.text.items n (reverse (reverse mine))) (sym (length-reverse one.begins.items))
        (subst (IsScriptOf schema one.text.items (length one.begins.items)) (sym (reverse-reverse mine)) own.is_script)

    grown_then : HasGrown schema next.text.items (reverse next.begins.items) (reverse (entries_of u (old.history ++ entry ∷ [])))
    grown_then =
        subst (λ (t : List ℕ). HasGrown schema t (reverse next.begins.items) (reverse (entries_of u (old.history ++ entry ∷ [])))) (sym m.entered.text)
        (subst (λ (bs : List ℕ). HasGrown schema longer bs (reverse (entries_of u (old.history ++ entry ∷ [])))) (sym (ap reverse m.entered.begins ∙ reverse_push one.begins.items (length one.text.items)))
        (subst (HasGrown schema longer (length one.text.items ∷ reverse one.begins.items)) (sym (ap reverse more ∙ reverse_push mine entry))
        (one.text.items, line, record { text_is = refl; begins = refl; says = m.says }, front_is, own.grown)))

    own_then : IsOwnScript schema next (entries_of u (old.history ++ entry ∷ []))
    own_then = record {
      is_script = subst (λ (t : List ℕ). IsScriptOf schema t (length next.begins.items) (entries_of u (old.history ++ entry ∷ []))) (sym m.entered.text) (record {
        accepted = read.0;
        says = says_then;
        closed = read.2;
        short = short_then;
        count_is = count_then;
      });
      grown = grown_then;
    }

    each_then : (j : ℕ) (other : Script) → slice_get (slice_set scripts (u - 1) next) j ≡ Some other → IsOwnScript schema other (entries_of (j + 1) (old.history ++ entry ∷ []))
    each_then j other found =
        elim (found_of scripts (u - 1) j next other found) [
          | inl p ↦
              subst (λ (z : Script). IsOwnScript schema z (entries_of (j + 1) (old.history ++ entry ∷ []))) p.1
              (subst (λ (n : ℕ). IsOwnScript schema next (entries_of n (old.history ++ entry ∷ []))) (sym (ap (λ (n : ℕ). n + 1) p.0 ∙ number)) own_then)
          | inr p ↦ subst (IsOwnScript schema other) (sym (entries_other (j + 1) old.history entry (λ (q : u ≡ j + 1). p.0 (omega (arith, q))))) (session.each j other p.1)
        ]

    session_made : IsSession schema capacity new (slice_set scripts (u - 1) next)
    session_made = record {
      sound = session.sound;
      schema_is = ap (λ (x : Making). x.schema) m.made.new_is ∙ session.schema_is;
      capacity_is = ap (λ (x : Making). x.capacity) m.made.new_is ∙ session.capacity_is;
      many = length-set scripts (u - 1) next ∙ session.many ∙ ap (λ (x : Making). x.units) (sym m.made.new_is);
      counted = ap (λ (x : Making). is_count x.units) m.made.new_is ∙ session.counted;
      each = λ j other found. subst (λ (es : List Entry). IsOwnScript schema other (entries_of (j + 1) es)) (ap (λ (x : Making). x.history) (sym m.made.new_is)) (each_then j other found);
    }

  -- whatever the line comes to, it leaves a session
  pub session_then : (result : Result Bool Refusal) → IfOk result (λ made. MakesLine schema old one u line made new next) → OnErr result (new ≡ old) → OnErr result (IsAsBefore one next) → IsSession schema capacity new (slice_set scripts (u - 1) next)
  session_then (Ok true) taken unchanged same = session_made taken
  session_then (Ok false) taken unchanged same = session_as_before taken.0 taken.1
  session_then (Err refusal) taken unchanged same = session_as_before unchanged same

  -- as a caller sees it
  typed_same : new ≡ old → IsAsBefore one next → typed new (slice_set scripts (u - 1) next) ≡ typed old scripts
  typed_same unchanged same = λ i. record { making = unchanged i; texts = texts_same scripts (u - 1) one next at same.text i }

  pub typed_unchanged : (result : Result Bool Refusal) → OnErr result (new ≡ old) → OnErr result (IsAsBefore one next) → OnErr result (typed new (slice_set scripts (u - 1) next) ≡ typed old scripts)
  typed_unchanged (Ok made) unchanged same = tt
  typed_unchanged (Err refusal) unchanged same = typed_same unchanged same

  pub typed_then : (made : Bool) → MakesLine schema old one u line made new next → Takes (typed old scripts) u line made (typed new (slice_set scripts (u - 1) next))
  typed_then true m = record {
    statement = m.statement;
    says = subst (λ (s : Lists). line_statement s (trimmed line) ≡ Some m.statement) (sym session.schema_is) m.says;
    made = m.made;
    of_unit = subst (λ (n : ℕ). u - 1 < n) (sym (length-map scripts (λ (x : Script). x.text.items))) (there scripts (u - 1) one at);
    room = subst (λ (t : List ℕ). length t + length line < SCRIPT_BYTES) (sym (text_at old scripts u one at)) m.room;
    texts_are = texts_set scripts (u - 1) next ∙ ap (slice_set (texts_in scripts) (u - 1)) (m.entered.text ∙ ap (λ (t : List ℕ). t ++ line ++ 10 ∷ []) (sym (text_at old scripts u one at)));
  }
  typed_then false m = (
    typed_same m.0 m.1,
    subst (λ (s : Lists). IsNote s (length (entries_of u old.history)) line) (sym session.schema_is)
        (subst (λ (n : ℕ). IsNote schema n line) own.is_script.count_is m.2),
  )

  pub typed_refused : (refusal : Refusal) → RefusesBehind refusal schema (length one.begins.items) (length one.text.items) line → RefusesLine refusal (typed old scripts) u line
  typed_refused refusal h =
      subst (λ (s : Lists). RefusesBehind refusal s (length (entries_of u old.history)) (length (text_of (typed old scripts) u)) line) (sym session.schema_is)
      (subst (λ (n : ℕ). RefusesBehind refusal schema n (length (text_of (typed old scripts) u)) line) own.is_script.count_is
      (subst (λ (n : ℕ). RefusesBehind refusal schema (length one.begins.items) n line) (ap length (sym (text_at old scripts u one at))) h))

-- AT THE OPENING

emptied : (scripts : List Script) (n k : ℕ) (one : Script) → texts_in scripts ≡ replicate n [] → map (λ (x : Script). x.begins.items) scripts ≡ replicate n [] → slice_get scripts k ≡ Some one → (one.text.items ≡ []) × (one.begins.items ≡ [])
emptied [] n k one texts counts at = absurd (cc (at))
emptied (x ∷ xs) zero k one texts counts at = absurd (cc)
emptied (x ∷ xs) (suc n) zero one texts counts at =
    let same : x ≡ one = cc (at) in
    let text : x.text.items ≡ [] = cc in
    let begins : x.begins.items ≡ [] = cc (counts) in
    (ap (λ (z : Script). z.text.items) (sym same) ∙ text, ap (λ (z : Script). z.begins.items) (sym same) ∙ begins)
emptied (x ∷ xs) (suc n) (suc k) one texts counts at =
    let texts_then : texts_in xs ≡ replicate n [] = cc (texts) in
    let counts_then : map (λ (z : Script). z.begins.items) xs ≡ replicate n [] = cc (counts) in
    emptied xs n k one texts_then counts_then at

no_script : (schema : Lists) → IsScriptOf schema [] 0 []
no_script schema = record { accepted = read.0; says = read.1; closed = refl; short = omega arith; count_is = refl }
  where
    read : (script_refusal schema [] ≡ None) × (script schema [] ≡ [])
    read = nothing_read schema

pub opening_session : (schema : Lists) (making : Making) (scripts : List Script) (capacity n : ℕ) → IsSound schema → making ≡ record { schema = schema; capacity = capacity; units = n; history = [] } → is_count n ≡ true
    → length scripts ≡ n → texts_in scripts ≡ replicate n [] → map (λ (x : Script). x.begins.items) scripts ≡ replicate n [] → IsSession schema capacity making scripts
opening_session schema making scripts capacity n sound is counted many texts counts = record {
  sound = sound;
  schema_is = ap (λ (m : Making). m.schema) is;
  capacity_is = ap (λ (m : Making). m.capacity) is;
  many = many ∙ ap (λ (m : Making). m.units) (sym is);
  counted = ap (λ (m : Making). is_count m.units) is ∙ counted;
  each = λ k one at.
      let nothing = emptied scripts n k one texts counts at in
      subst (λ (es : List Entry). IsOwnScript schema one (entries_of (k + 1) es)) (ap (λ (m : Making). m.history) (sym is)) (record {
        is_script =
            subst (λ (bs : List ℕ). IsScriptOf schema one.text.items (length bs) []) (sym nothing.1)
            (subst (λ (t : List ℕ). IsScriptOf schema t 0 []) (sym nothing.0) (no_script schema));
        grown = subst (λ (bs : List ℕ). HasGrown schema one.text.items (reverse bs) []) (sym nothing.1) nothing.0;
      });
}
