-- What a statement holds, as the parts of a state say it, determines what it does to every state of which they say the same.
-- n is the number of units, c the name of a cell, a an area; one and other are states, db and eb databases.
use Rattle.std.proofs.Common.{◌≡◌, refl, sym, ◌∙◌, ap, subst, ◌&&◌, ℕ, Bool, true, false, cond, List, [], ◌∷◌}
use Rattle.std.specs.Prelude.{nat_le, nat_lt, if◌then◌else◌}
use Rattle.std.specs.List.{list_all}
use Rattle.std.proofs.lemmas.Bool.{false≢true}
use Rattle.dbtg_schema.specs.Lists.{Lists}
use Rattle.dbtg_schema.specs.Lookups.{at}
use Rattle.dbtg_schema.specs.Sound.{IsSound}
use Rattle.dbtg_cells.specs.Names.{name_eq}
use Rattle.dbtg_cells.specs.Shown.{UsageValue}
use Rattle.dbtg_cells.specs.declared.cell.Cell.{Cell}
use Rattle.dbtg_cells.specs.declared.name.CellName.{CellName}
use Rattle.dbtg_cells.specs.declared.name.CellName.TheVariants.{Usage, Extent, Ring, Slot}
use Rattle.dbtg_cells.specs.declared.usage.Mode.{Mode}
use Rattle.dbtg_cells.proofs.Public.{name_eq_refl}
use Rattle.dbtg_unit.specs.declared.held.Need.TheVariants.{Ready}
use Rattle.dbtg_unit.specs.declared.statement.Statement.{Statement}
use Rattle.dbtg_unit.specs.declared.statement.Statement.TheVariants.{Delete}
use Rattle.dbtg_unit.specs.declared.unit.Unit.{Unit}
use Rattle.dbtg_unit.specs.Database.State.Base.{Database}
use Rattle.dbtg_unit.specs.Database.State.Belongs.{IsUnitOf, IsWithin}
use Rattle.dbtg_unit.specs.Database.State.Cells.{cell}
use Rattle.dbtg_unit.specs.Database.State.Legal.{Legal, UsageAgrees, agree, mode_in, pairwise}
use Rattle.dbtg_unit.specs.Database.Statements.Effect.{effect}
use Rattle.dbtg_unit.specs.Database.Statements.Fits.{fits}
use Rattle.dbtg_unit.specs.Database.Laws.Replay.{State}
use Rattle.dbtg_unit.specs.Hands.Hands.{Hands}
use Rattle.dbtg_unit.specs.Hands.Local.{Agrees, AllAgree, holds}
use Rattle.dbtg_unit.specs.Hands.Locality.{DoTheSame}
use Rattle.dbtg_unit.specs.Hands.Needs.{need}
use Rattle.dbtg_unit.proofs.Public.{changes_only_its_cells, legal_after}
use Rattle.dbtg_plan.specs.Locality.{EachIsDetermined}
use Rattle.dbtg_erase.specs.Locality.{DeleteIsDetermined}
use Rattle.dbtg_states.specs.Alike.{uses_of}
use Rattle.dbtg_states.specs.Looked.{HeldSayTheSame, HoldsAll, IsStateWith, LookAlike, LookedAtDetermines, says}
use Rattle.dbtg_states.specs.Parts.{shown_numbers}
use Rattle.dbtg_states.proofs.States.Alike.{effect_alike}
use Rattle.dbtg_states.proofs.States.SameImages.{uses_from}
use Rattle.dbtg_states.proofs.States.SameParts.{cells_same}
use Rattle.dbtg_states.proofs.States.ShownParts.{same_by_unit, same_shown}

-- HELD CELLS

-- one list or the other
chosen : (b : Bool) (xs ys : List (ℕ × Mode)) (P : List (ℕ × Mode) → Type 0) → (b ≡ true → P xs) → (b ≡ false → P ys) → P (if b then xs else ys)
chosen true xs ys P f g = f refl
chosen false xs ys P f g = g refl

-- held cells agree with each database that shows the same in them
all_agree : (schema : Lists) (capacity : ℕ) (db eb : Database) (cells : List (CellName × Cell)) → ((c : CellName) → holds cells c ≡ true → cell schema capacity db c ≡ cell schema capacity eb c) → AllAgree schema capacity db cells → AllAgree schema capacity eb cells
all_agree schema capacity db eb [] same h = tt
all_agree schema capacity db eb (e ∷ es) same h = (
  h.0 ∙ same e.0 (ap (λ b. cond b true (holds es e.0)) (name_eq_refl e.0)),
  all_agree schema capacity db eb es (λ c held. same c (elim (name_eq c e.0) as (λ b. cond b true (holds es c) ≡ true) [ true ↦ refl | false ↦ held ])) h.1,
)

-- each statement is determined by what it holds
determined : EachIsDetermined → DeleteIsDetermined → (schema : Lists) (capacity : ℕ) (db eb : Database) (hands : Hands) (unit : Unit) (x : Statement) → IsSound schema → IsUnitOf schema unit → IsWithin capacity unit → fits schema x ≡ true
    → Agrees schema capacity db hands unit → Agrees schema capacity eb hands unit → need schema capacity db unit hands x ≡ Ready → DoTheSame schema capacity hands (effect schema capacity db unit x) (effect schema capacity eb unit x)
determined each del schema capacity db eb hands unit (Delete option) sound of within fit h g ready = del schema capacity db eb hands unit option sound of within h g ready
determined each del schema capacity db eb hands unit x sound of within fit h g ready = each schema capacity db eb hands unit x sound of within fit refl h g ready

-- ONE STATEMENT

-- databases that differ at most in the order in which units opened an area say the same
says_alike : (schema : Lists) (capacity n : ℕ) (db eb : Database) → db.records ≡ eb.records → db.lists ≡ eb.lists → db.last ≡ eb.last → ((a u : ℕ) → uses_of u (db.usage a) ≡ uses_of u (eb.usage a))
    → (c : CellName) → says schema capacity n db c ≡ says schema capacity n eb c
says_alike schema capacity n db eb records lists last uses =
    cells_same schema capacity n (record { database = db; units = [] }) (record { database = eb; units = [] }) (λ i. record { records = records i; lists = lists i; last = last i; uses = λ a u. uses a u i; units = [] })

module _ (each : EachIsDetermined) (del : DeleteIsDetermined) (schema : Lists) (capacity n i : ℕ) (hands : Hands) (unit : Unit) (x : Statement) (one other : State)
    (sound : IsSound schema) (fit : fits schema x ≡ true) (first : IsStateWith schema capacity n i unit one) (second : IsStateWith schema capacity n i unit other) (all : HoldsAll schema capacity one.database hands unit x)
    (same : HeldSayTheSame schema capacity n hands one.database other.database) where
  -- the other database with the users of the one where they are held
  abbrev mixed : Database
  mixed = record other.database { usage = λ a. if holds hands.cells (Usage a) then one.database.usage a else other.database.usage a }

  mixed_by : (a : ℕ) (P : List (ℕ × Mode) → Type 0) → (holds hands.cells (Usage a) ≡ true → P (one.database.usage a)) → (holds hands.cells (Usage a) ≡ false → P (other.database.usage a)) → P (mixed.usage a)
  mixed_by a P f g = chosen (holds hands.cells (Usage a)) (one.database.usage a) (other.database.usage a) P f g

  mixed_legal : Legal schema capacity mixed
  mixed_legal =
      let l = second.legal.legal in
      record {
        keys = l.keys;
        items = l.items;
        generations = l.generations;
        no_number = l.no_number;
        no_area = λ a high. mixed_by a (λ es. es ≡ []) (λ _. first.legal.legal.no_area a high) (λ _. l.no_area a high);
        pairs = l.pairs;
        members = l.members;
        in_one = l.in_one;
        once = l.once;
        sorted = l.sorted;
        calc = l.calc;
        mandatory_automatic = l.mandatory_automatic;
        usage = λ a. mixed_by a (λ es. pairwise agree es ≡ true) (λ _. first.legal.legal.usage a) (λ _. l.usage a);
      }

  mixed_usage : UsageAgrees mixed unit
  mixed_usage a = mixed_by a (λ es. mode_in es unit.number ≡ at unit.modes a) (λ _. (first.legal.each i unit first.stands).usage a) (λ _. (second.legal.each i unit second.stands).usage a)

  mixed_shows : (c : CellName) → holds hands.cells c ≡ true → cell schema capacity one.database c ≡ cell schema capacity mixed c
  unfolding cell
  mixed_shows (Usage a) held = ap UsageValue (mixed_by a (λ es. one.database.usage a ≡ es) (λ _. refl) (λ free. absurd (false≢true (sym free ∙ held))))
  mixed_shows (Extent t) held = same_shown schema capacity n one.database other.database (Extent t) refl (same (Extent t) held)
  mixed_shows (Ring s o) held = same_shown schema capacity n one.database other.database (Ring s o) refl (same (Ring s o) held)
  mixed_shows (Slot t k) held = same_shown schema capacity n one.database other.database (Slot t k) refl (same (Slot t k) held)

  users_of : (state : State) → IsStateWith schema capacity n i unit state → (a : ℕ) → list_all (λ e. nat_lt 0 e.0 && nat_le e.0 n) (state.database.usage a) ≡ true
  users_of state is a = subst (λ k. list_all (λ e. nat_lt 0 e.0 && nat_le e.0 k) (state.database.usage a) ≡ true) is.count (is.legal.users a)

  mixed_users : (a u : ℕ) → uses_of u (other.database.usage a) ≡ uses_of u (mixed.usage a)
  mixed_users a =
      mixed_by a (λ es. (u : ℕ) → uses_of u (other.database.usage a) ≡ uses_of u es)
      (λ held. uses_from n (other.database.usage a) (one.database.usage a) (users_of other second a) (users_of one first a) (same_by_unit schema capacity n other.database one.database a (sym (same (Usage a) held))))
      (λ _ u. refl)

  agree_one : Agrees schema capacity one.database hands unit
  agree_one = record { legal = first.legal.legal; cells = all.agree; usage = (first.legal.each i unit first.stands).usage }

  agree_mixed : Agrees schema capacity mixed hands unit
  agree_mixed = record { legal = mixed_legal; cells = all_agree schema capacity one.database mixed hands.cells mixed_shows all.agree; usage = mixed_usage }

  does_the_same : LookAlike schema capacity n hands other.database (effect schema capacity one.database unit x) (effect schema capacity other.database unit x)
  does_the_same =
      let in_schema = second.legal.each i unit second.stands in
      let same_here = determined each del schema capacity one.database mixed hands unit x sound in_schema.of_schema in_schema.within fit agree_one agree_mixed (all.ready one.database agree_one) in
      let alike = effect_alike other.database unit mixed.usage mixed_users schema capacity x in
      let legal = legal_after schema capacity mixed unit hands sound in_schema.of_schema in_schema.within x fit agree_mixed in
      let after : (c : CellName) → says schema capacity n (effect schema capacity other.database unit x).database c ≡ says schema capacity n (effect schema capacity mixed unit x).database c
      = says_alike schema capacity n (effect schema capacity other.database unit x).database (effect schema capacity mixed unit x).database alike.records alike.lists alike.last alike.uses in
      record {
        answer = same_here.answer ∙ sym alike.answer;
        unit = same_here.unit ∙ sym alike.unit_is;
        held = λ c held. ap (shown_numbers true n) (same_here.cells c held) ∙ sym (after c);
        others = λ c free.
            after c
            ∙ ap (shown_numbers true n) (changes_only_its_cells schema capacity mixed unit hands x agree_mixed (all.ready mixed agree_mixed) legal c free)
            ∙ sym (says_alike schema capacity n other.database mixed refl refl refl mixed_users c);
      }

pub looked_at_determines : EachIsDetermined → DeleteIsDetermined → LookedAtDetermines
looked_at_determines each del schema capacity n i hands unit x one other sound fit first second all same = does_the_same each del schema capacity n i hands unit x one other sound fit first second all same
