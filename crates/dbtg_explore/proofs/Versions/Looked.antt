-- What a statement looks at determines what it does, but for versions: where its unit and the cells that it holds are told the same, what is
-- told of them after it is the same.
-- c is the name of a cell, t a record type, k a number of it, v a unit, e is a record that a unit keeps, with the version that is kept of it;
-- o and p are what the statement does in the one state and in the other.
use Rattle.std.proofs.Common.{◌≡◌, refl, sym, ◌∙◌, ap, subst, ℕ, zero, suc, ◌+◌, ◌≤◌, Bool, true, false, List, [], ◌∷◌, length, Option, Some, None, inl, inr, ⊎_elim, arith, map, slice_get}
use Rattle.std.specs.Prelude.{◌==◌, ◌&&◌, if◌then◌else◌, is_some, nat_le, nat_lt, option_map, slice_set, unwrap_or}
use Rattle.std.specs.List.{list_all}
use Rattle.std.proofs.lemmas.Bool.{cases_Bool, cases_eq, eqb-true, false_from_ne_true, true≢false}
use Rattle.std.proofs.lemmas.Option.{same_Some, slice_get_within}
use Rattle.dbtg_schema.specs.Lists.{Lists}
use Rattle.dbtg_schema.specs.Lookups.{at, some_and}
use Rattle.dbtg_schema.specs.Sound.{IsSound}
use Rattle.dbtg_cells.specs.declared.key.DbKey.{DbKey}
use Rattle.dbtg_cells.specs.declared.name.CellName.{CellName}
use Rattle.dbtg_cells.specs.declared.name.CellName.TheVariants.{Slot}
use Rattle.dbtg_cells.proofs.Public.{get_set_other, get_set_same}
use Rattle.dbtg_unit.specs.declared.statement.Statement.{Statement}
use Rattle.dbtg_unit.specs.declared.unit.Unit.{Unit}
use Rattle.dbtg_unit.specs.Database.State.Base.{Database, Record, is_live, version_of}
use Rattle.dbtg_unit.specs.Database.State.Cells.{cell}
use Rattle.dbtg_unit.specs.Database.State.Legal.{Legal, mode_in}
use Rattle.dbtg_unit.specs.Database.State.LegalWith.{IsUnitIn}
use Rattle.dbtg_unit.specs.Database.Statements.Effect.{StatementEffect, effect}
use Rattle.dbtg_unit.specs.Database.Statements.Fits.{fits}
use Rattle.dbtg_unit.specs.Database.Laws.Replay.{State}
use Rattle.dbtg_unit.specs.Database.Laws.StaysLegal.{IsLegalState}
use Rattle.dbtg_unit.specs.Hands.Hands.{Hands}
use Rattle.dbtg_unit.specs.Hands.Local.{holds}
use Rattle.dbtg_unit.proofs.Public.{In, effect_keeps_legal}
use Rattle.dbtg_states.specs.Looked.{HoldsAll, IsStateWith, LookAlike, LookedAtDetermines, says}
use Rattle.dbtg_states.specs.Parts.{shown_numbers}
use Rattle.dbtg_explore.specs.Versions.{is_own, unversioned_database, unversioned_entry, unversioned_unit}
use Rattle.dbtg_explore.proofs.Parts.{shown_first}
use Rattle.dbtg_explore.proofs.Versions.Images.{own_shown}
use Rattle.dbtg_explore.proofs.Versions.Matched.{matched, matched_first, matched_known, matched_legal, matched_live, matched_says, matched_unit, matched_within, own_matched, says_less, shows_the_same}
use Rattle.dbtg_explore.proofs.Versions.Noted.{old_or_own}
use Rattle.dbtg_explore.proofs.Versions.Same.{IsKept, got_in}
use Rattle.dbtg_explore.proofs.Versions.Steps.{Alike, effect_alike}
use Rattle.dbtg_explore.proofs.Versions.Stored.{own_version, same_flag}
use Rattle.dbtg_explore.proofs.Versions.Twins.{AreKnown, IsWithin, Twins}

-- what a cell of a database says without versions
abbrev pub tells : Lists → ℕ → ℕ → Database → CellName → List ℕ
tells schema capacity n db c = shown_numbers true n (cell schema capacity (unversioned_database db) c)

-- RECORDS THAT A UNIT KEEPS

version_is : (d : Database) (k : DbKey) (n : ℕ) → is_own d (k, n) ≡ true → (is_live d k ≡ true) × (n ≡ version_of d k)
version_is d k n h = by (d.records k) h where
  by : (o : Option Record) → some_and (λ r. n == r.version) o ≡ true → (is_some o ≡ true) × (n ≡ unwrap_or (option_map (λ (r : Record). r.version) o) 0)
  by None h = absurd (true≢false (sym h))
  by (Some r) h = (refl, eqb-true n r.version h)

own_at : (d : Database) (k : DbKey) → is_live d k ≡ true → is_own d (k, version_of d k) ≡ true
own_at d k live = own_version (d.records k) ∙ live

-- what a statement makes of a database, and of the same without versions
module _ (db : Database) (known : AreKnown db) (new other : Database) (t : Twins db known new other) where
  own_by : (e x : DbKey × ℕ) → IsWithin db e → IsWithin db x → e.0 ≡ x.0 → is_own db e ≡ is_own db x → is_own new e ≡ is_own new x
  own_by e x w y key same =
      let entry : unversioned_entry db e ≡ unversioned_entry db x = λ i. (key i, if same i then 1 else 0) in
      let told : unversioned_entry new e ≡ unversioned_entry new x = t.entries e w ∙ ap (unversioned_entry other) entry ∙ sym (t.entries x y) in
      same_flag (is_own new e) (is_own new x) (ap (λ (z : DbKey × ℕ). z.1) told)

  -- a record that has not the version that is kept does not get it
  stays_other : (e : DbKey × ℕ) → IsWithin db e → is_own db e ≡ false → is_own new e ≡ false
  stays_other e w apart =
      false_from_ne_true (is_own new e) (λ own.
      let now = version_is new e.0 e.1 own in
      elim (cases_Bool (is_live db e.0)) [
        | inl live ↦
            let at : IsWithin db (e.0, version_of db e.0) = record { generation = w.generation; version = λ h. omega arith } in
            let rises = (t.within (e.0, version_of db e.0) at).version now.0 in
            let low = w.version live in
            let is = now.1 in
            let same : version_of db e.0 ≡ e.1 = omega (arith, rises, low, is) in
            true≢false (sym (subst (λ n. is_own db (e.0, n) ≡ true) same (own_at db e.0 live)) ∙ apart)
        | inr dead ↦
            let next : IsWithin db (e.0, e.1 + 1) = record { generation = w.generation; version = λ h. absurd (true≢false (sym h ∙ dead)) } in
            let none : is_own db (e.0, e.1 + 1) ≡ false = false_from_ne_true (is_own db (e.0, e.1 + 1)) (λ h. true≢false (sym (version_is db e.0 (e.1 + 1) h).0 ∙ dead)) in
            let also = version_is new e.0 (e.1 + 1) (sym (own_by e (e.0, e.1 + 1) w next refl (apart ∙ sym none)) ∙ own) in
            let one = now.1 in
            let two = also.1 in
            omega (arith, one, two)
      ])

-- THE STATEMENT IN BOTH STATES

-- what is told after it
pub record LeadAlike (schema : Lists) (capacity n : ℕ) (hands : Hands) (one other : State) (o p : StatementEffect) : Type 0 where
  pub answer : o.answer ≡ p.answer
  pub unit : unversioned_unit o.database o.unit ≡ unversioned_unit p.database p.unit
  pub held : (c : CellName) → holds hands.cells c ≡ true → tells schema capacity n o.database c ≡ tells schema capacity n p.database c
  pub others : (c : CellName) → holds hands.cells c ≡ false → tells schema capacity n p.database c ≡ tells schema capacity n other.database c
  pub beside : ((t k : ℕ) → cell schema capacity o.database (Slot t k) ≡ cell schema capacity one.database (Slot t k))
      → (v : Unit) → ((e : DbKey × ℕ) → In e v.kept → IsWithin other.database e) → unversioned_unit p.database v ≡ unversioned_unit other.database v

as_long : {X : Type 0} (xs : List X) (i : ℕ) (x : X) → length (slice_set xs i x) ≡ length xs
as_long [] i x = refl
as_long (y ∷ ys) zero x = refl
as_long (y ∷ ys) (suc i) x = ap suc (as_long ys i x)

module _ (determines : LookedAtDetermines) (schema : Lists) (capacity n i : ℕ) (hands : Hands) (x : Statement) (one other : State) (unit own : Unit)
    (sound : IsSound schema) (fit : fits schema x ≡ true) (first : IsStateWith schema capacity n i unit one) (second : IsStateWith schema capacity n i own other) (all : HoldsAll schema capacity one.database hands unit x)
    (kept : IsKept one) (kept' : IsKept other) (units : unversioned_unit one.database unit ≡ unversioned_unit other.database own)
    (same : (c : CellName) → holds hands.cells c ≡ true → tells schema capacity n one.database c ≡ tells schema capacity n other.database c) where
  abbrev db : Database
  db = one.database

  abbrev eb : Database
  eb = other.database

  within : (e : DbKey × ℕ) → In e unit.kept → IsWithin db e
  within = kept.within unit (got_in one.units i unit first.stands)

  within' : (e : DbKey × ℕ) → In e own.kept → IsWithin eb e
  within' = kept'.within own (got_in other.units i own second.stands)

  -- the other state with the versions of the one
  abbrev mb : Database
  mb = matched db eb unit own units within within' kept'.known

  abbrev state : State
  state = record { database = mb; units = slice_set other.units i unit }

  its_place : i ≤ length other.units
  its_place = let low = slice_get_within other.units i own second.stands in omega (arith, low)

  legal : IsLegalState schema capacity state
  legal = record {
    legal = matched_legal db eb unit own units within within' kept'.known schema capacity second.legal.legal;
    each = λ j v at.
        elim (cases_eq j i) [
          | inl here ↦
              let low = slice_get_within other.units i own second.stands in
              let is : unit ≡ v = same_Some unit v (sym (get_set_same other.units i unit low) ∙ ap (slice_get (slice_set other.units i unit)) (sym here) ∙ at) in
              subst (λ k. IsUnitIn schema capacity mb (suc k) v) (sym here) (subst (IsUnitIn schema capacity mb (suc i)) is its_unit)
          | inr apart ↦
              let its = second.legal.each j v (sym (get_set_other other.units i j unit apart) ∙ at) in
              record { number_is = its.number_is; of_schema = its.of_schema; within = its.within; usage = its.usage }
        ];
    users = λ a. subst (λ k. list_all (λ e. nat_lt 0 e.0 && nat_le e.0 k) (eb.usage a) ≡ true) (sym (as_long other.units i unit)) (second.legal.users a);
  } where
    its_unit : IsUnitIn schema capacity mb (suc i) unit
    its_unit =
        let mine = first.legal.each i unit first.stands in
        let its = second.legal.each i own second.stands in
        record {
          number_is = mine.number_is;
          of_schema = mine.of_schema;
          within = mine.within;
          usage = subst (λ (v : Unit). (a : ℕ) → mode_in (eb.usage a) v.number ≡ at v.modes a) (sym units) its.usage;
        }

  stands : slice_get state.units i ≡ Some unit
  stands = get_set_same other.units i unit (slice_get_within other.units i own second.stands)

  abbrev third : IsStateWith schema capacity n i unit state
  third = record { legal = legal; count = as_long other.units i unit ∙ second.count; stands = stands }

  less : (c : CellName) → tells schema capacity n db c ≡ tells schema capacity n eb c → shown_numbers false n (cell schema capacity db c) ≡ shown_numbers false n (cell schema capacity eb c)
  less c e = shown_first schema capacity db n c ∙ e ∙ sym (shown_first schema capacity eb n c)

  says_same : (c : CellName) → holds hands.cells c ≡ true → says schema capacity n db c ≡ says schema capacity n mb c
  says_same c held = matched_says db eb unit own units within within' kept'.known schema capacity n c (less c (same c held))

  -- what it does in the one state, in that with its versions, and in the other
  abbrev o : StatementEffect
  o = effect schema capacity db unit x

  abbrev q : StatementEffect
  q = effect schema capacity mb unit x

  abbrev p : StatementEffect
  p = effect schema capacity eb own x

  look : LookAlike schema capacity n hands mb o q
  look = determines schema capacity n i hands unit x one state sound fit first third all says_same

  look_at_one : LookAlike schema capacity n hands db o o
  look_at_one = determines schema capacity n i hands unit x one one sound fit first first all (λ c held. refl)

  abbrev without : StatementEffect
  without = effect schema capacity (unversioned_database eb) (unversioned_unit eb own) x

  alike : Alike eb kept'.known own within' p without
  alike = effect_alike eb kept'.known own within' schema capacity x

  abbrev known : AreKnown mb
  known = matched_known db eb unit own units within within' kept'.known

  abbrev within_there : (e : DbKey × ℕ) → In e unit.kept → IsWithin mb e
  within_there = matched_within db eb unit own units within within' kept'.known

  alike' : Alike mb known unit within_there q without
  alike' =
      subst (Alike mb known unit within_there q)
      (λ j. effect schema capacity (matched_first db eb unit own units within within' kept'.known j) (matched_unit db eb unit own units within within' kept'.known j) x)
      (effect_alike mb known unit within_there schema capacity x)

  database_same : unversioned_database q.database ≡ unversioned_database p.database
  database_same =
      let a = alike.twins in
      let b = alike'.twins in
      λ j. record {
        records = λ k. (b.first k ∙ sym (a.first k)) j;
        lists = (b.lists ∙ sym a.lists) j;
        last = (b.last ∙ sym a.last) j;
        usage = (b.usage ∙ sym a.usage) j;
      }

  unit_same : unversioned_unit q.database q.unit ≡ unversioned_unit p.database p.unit
  unit_same = λ j. record {
    number = (alike'.number ∙ sym alike.number) j;
    currency = (alike'.currency ∙ sym alike.currency) j;
    modes = (alike'.modes ∙ sym alike.modes) j;
    kept = (alike'.kept ∙ sym alike.kept) j;
  }

  tells_by : (d e : Database) (c : CellName) → says schema capacity n d c ≡ says schema capacity n e c → tells schema capacity n d c ≡ tells schema capacity n e c
  tells_by d e c h = sym (shown_first schema capacity d n c) ∙ says_less schema capacity n d e c h ∙ shown_first schema capacity e n c

  tells_there : (c : CellName) → tells schema capacity n q.database c ≡ tells schema capacity n p.database c
  tells_there c = ap (λ (d : Database). shown_numbers true n (cell schema capacity d c)) database_same

  tells_matched : (c : CellName) → tells schema capacity n mb c ≡ tells schema capacity n eb c
  tells_matched c = ap (λ (d : Database). shown_numbers true n (cell schema capacity d c)) (matched_first db eb unit own units within within' kept'.known)

  -- WHAT THE UNIT KEEPS

  legal_o : Legal schema capacity o.database
  legal_o = (effect_keeps_legal schema capacity db one.units i unit x sound first.legal first.stands fit).legal

  legal_q : Legal schema capacity q.database
  legal_q = (effect_keeps_legal schema capacity mb state.units i unit x sound legal stands fit).legal

  -- where two databases say the same in its slot, a record has the same version
  own_by_slot : (d e : Database) → Legal schema capacity d → Legal schema capacity e → (y : DbKey × ℕ) → says schema capacity n d (Slot y.0.rtype y.0.number) ≡ says schema capacity n e (Slot y.0.rtype y.0.number) → is_own d y ≡ is_own e y
  own_by_slot d e l m y h = sym (own_shown schema capacity d l y) ∙ shows_the_same schema capacity n d e y.0.rtype y.0.number y h ∙ own_shown schema capacity e m y

  own_after : (e : DbKey × ℕ) → In e o.unit.kept → is_own o.database e ≡ is_own q.database e
  own_after e j = elim (cases_Bool (holds hands.cells (Slot e.0.rtype e.0.number))) [
    | inl held ↦ own_by_slot o.database q.database legal_o legal_q e (look.held (Slot e.0.rtype e.0.number) held)
    | inr free ↦
        let old : In e unit.kept → is_own o.database e ≡ is_own q.database e = λ k.
        own_by_slot o.database db legal_o first.legal.legal e (look_at_one.others (Slot e.0.rtype e.0.number) free)
        ∙ sym (own_matched db eb unit own units within within' kept'.known e k)
        ∙ sym (own_by_slot q.database mb legal_q legal.legal e (look.others (Slot e.0.rtype e.0.number) free)) in
        ⊎_elim old (λ h. ⊎_elim old (λ g. h ∙ sym g) (old_or_own schema capacity mb unit legal.legal x e (subst (λ (v : Unit). In e v.kept) look.unit j))) (old_or_own schema capacity db unit first.legal.legal x e j)
  ]

  own_unit : unversioned_unit o.database o.unit ≡ unversioned_unit p.database p.unit
  own_unit =
      ap (λ (es : List (DbKey × ℕ)). record o.unit { kept = es }) (each o.unit.kept (λ e j. ap (λ b. (e.0, if b then 1 else 0)) (own_after e j)))
      ∙ ap (unversioned_unit q.database) look.unit
      ∙ unit_same where
        each : (es : List (DbKey × ℕ)) → ((e : DbKey × ℕ) → In e es → unversioned_entry o.database e ≡ unversioned_entry q.database e) → map (unversioned_entry o.database) es ≡ map (unversioned_entry q.database) es
        each [] h = refl
        each (e ∷ es) h = λ i. h e (inl refl) i ∷ each es (λ y j. h y (inr j)) i

  -- WHAT OTHERS KEEP

  module _ (unchanged : (t k : ℕ) → cell schema capacity o.database (Slot t k) ≡ cell schema capacity db (Slot t k)) where
    slot_stays : (t k : ℕ) → says schema capacity n q.database (Slot t k) ≡ says schema capacity n mb (Slot t k)
    slot_stays t k = elim (cases_Bool (holds hands.cells (Slot t k))) [
      | inl held ↦ sym (look.held (Slot t k) held) ∙ ap (shown_numbers true n) (unchanged t k) ∙ says_same (Slot t k) held
      | inr free ↦ look.others (Slot t k) free
    ]

    own_stays : (e : DbKey × ℕ) → is_own q.database e ≡ is_own mb e
    own_stays e = own_by_slot q.database mb legal_q legal.legal e (slot_stays e.0.rtype e.0.number)

    kept_beside : (e : DbKey × ℕ) → IsWithin eb e → is_own p.database e ≡ is_own eb e
    kept_beside e w = by (is_own eb e) refl where
      by : (b : Bool) → is_own eb e ≡ b → is_own p.database e ≡ is_own eb e
      by false apart = stays_other eb kept'.known p.database without.database alike.twins e w apart ∙ sym apart
      by true is =
          let live : is_live mb e.0 ≡ true = sym (matched_live db eb unit own units within within' kept'.known e.0) ∙ (version_is eb e.0 e.1 is).0 in
          let now : DbKey × ℕ = (e.0, version_of mb e.0) in
          let own_there : is_own mb now ≡ true = own_at mb e.0 live in
          let entry : unversioned_entry eb e ≡ unversioned_entry mb now = λ j. (e.0, if (is ∙ sym own_there) j then 1 else 0) in
          let told : unversioned_entry p.database e ≡ unversioned_entry q.database now
          = alike.twins.entries e w ∙ ap (unversioned_entry without.database) entry ∙ sym (alike'.twins.entries now (record { generation = w.generation; version = λ h. omega arith })) in
          same_flag (is_own p.database e) (is_own q.database now) (ap (λ (z : DbKey × ℕ). z.1) told) ∙ own_stays now ∙ own_there ∙ sym is

    pub stays_beside : (v : Unit) → ((e : DbKey × ℕ) → In e v.kept → IsWithin eb e) → unversioned_unit p.database v ≡ unversioned_unit eb v
    stays_beside v w = ap (λ (es : List (DbKey × ℕ)). record v { kept = es }) (each v.kept w) where
      each : (es : List (DbKey × ℕ)) → ((e : DbKey × ℕ) → In e es → IsWithin eb e) → map (unversioned_entry p.database) es ≡ map (unversioned_entry eb) es
      each [] h = refl
      each (e ∷ es) h = λ i. (e.0, if kept_beside e (h e (inl refl)) i then 1 else 0) ∷ each es (λ y j. h y (inr j)) i

  pub leads_alike : LeadAlike schema capacity n hands one other o p
  leads_alike = record {
    answer = look.answer ∙ alike'.answer ∙ sym alike.answer;
    unit = own_unit;
    held = λ c h. tells_by o.database q.database c (look.held c h) ∙ tells_there c;
    others = λ c h. sym (tells_there c) ∙ tells_by q.database mb c (look.others c h) ∙ tells_matched c;
    beside = stays_beside;
  }
