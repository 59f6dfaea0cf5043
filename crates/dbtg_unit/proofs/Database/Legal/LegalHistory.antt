-- The opening state is legal, and so is each state that statements lead to from a legal one.
use Rattle.std.proofs.Common.{◌≡◌, refl, sym, ◌∙◌, ap, subst, ℕ, zero, suc, ◌+◌, ◌-◌, true, false, cond, ◌&&◌, List, [], ◌∷◌, length, Option, Some, None, map, arith}
use Rattle.std.specs.Prelude.{is_some, option_map, slice_get, slice_set, unwrap_or}
use Rattle.std.specs.List.{list_all, range_with_len}
use Rattle.std.proofs.lemmas.Bool.{and_parts, and_right, false≢true}
use Rattle.dbtg_schema.specs.Lists.{Lists}
use Rattle.dbtg_schema.specs.Sound.{IsSound}
use Rattle.dbtg_schema.specs.Structure.{is_system, owns}
use Rattle.dbtg_cells.specs.declared.key.DbKey.{DbKey}
use Rattle.dbtg_cells.specs.declared.key.Owner.{Owner}
use Rattle.dbtg_cells.specs.declared.key.Owner.TheVariants.{System, Rec}
use Rattle.dbtg_cells.specs.Keys.{owner_eq}
use Rattle.dbtg_unit.specs.declared.statement.Statement.{Statement}
use Rattle.dbtg_unit.specs.declared.unit.Entry.{Entry}
use Rattle.dbtg_unit.specs.declared.unit.Unit.{Unit}
use Rattle.dbtg_unit.specs.Database.State.Base.{is_member, opening}
use Rattle.dbtg_unit.specs.Database.State.Units.{opening_unit}
use Rattle.dbtg_unit.specs.Database.Statements.Fits.{fits}
use Rattle.dbtg_unit.specs.Database.Statements.Effect.{effect}
use Rattle.dbtg_unit.specs.Database.State.Legal.{Legal, has_occurrence, pairwise, differ, in_order}
use Rattle.dbtg_unit.specs.Database.State.LegalWith.{IsUnitIn, LegalWith}
use Rattle.dbtg_unit.specs.Database.Laws.Replay.{State, after_entry, after_effect, effect_of_unit, replay}
use Rattle.dbtg_unit.specs.Database.Laws.StaysLegal.{IsLegalState, OpeningIsLegal, ReplayKeepsLegal}
use Rattle.dbtg_unit.proofs.Database.Legal.LegalUnits.{effect_keeps_legal}
use Rattle.dbtg_unit.proofs.Database.Records.Openings.{nothing_at, opening_unit_of_schema, opening_unit_within}

-- THE OPENING STATE

module _ (schema : Lists) where
  -- an opening list has no member
  empty : (s : ℕ) (o : Owner) → unwrap_or ((opening schema).lists s o) [] ≡ []
  empty s o = elim (is_system schema s && owner_eq o System) as (λ b. unwrap_or {T = List DbKey} (cond b (Some []) None) [] ≡ []) [ true ↦ refl | false ↦ refl ]

  no_member : (s : ℕ) (o : Owner) (m : DbKey) → is_member m (unwrap_or ((opening schema).lists s o) []) ≡ true → ⊥
  no_member s o m h = false≢true (sym (ap (is_member m) (empty s o)) ∙ h)

  opening_pairs : (s : ℕ) (o : Owner) → is_some ((opening schema).lists s o) ≡ has_occurrence schema (opening schema) s o
  opening_pairs s System = elim (is_system schema s) as (λ b. is_some {T = List DbKey} (cond (b && true) (Some []) None) ≡ b) [ true ↦ refl | false ↦ refl ]
  opening_pairs s (Rec k) =
      ap (λ b. is_some {T = List DbKey} (cond b (Some []) None)) (and_right (is_system schema s) false refl) ∙ sym (and_right (owns schema s k.rtype) false refl)

  opening_legal : (capacity : ℕ) → Legal schema capacity (opening schema)
  opening_legal capacity =
      record {
        keys = λ k h. absurd (false≢true h);
        items = λ k h. absurd (false≢true h);
        generations = λ t n. omega arith;
        no_number = λ t n h. refl;
        no_area = λ a h. refl;
        pairs = opening_pairs;
        members = λ s o m h. absurd (no_member s o m h);
        in_one = λ s o p m ho hp. absurd (no_member s o m ho);
        once = λ s o. ap (pairwise differ) (empty s o);
        sorted = λ s o. ap (pairwise (in_order schema (opening schema) s)) (empty s o);
        calc = λ j k hj hk same unique eq. absurd (false≢true hj);
        mandatory_automatic = λ s m h fix. absurd (false≢true h);
        usage = λ a. refl;
      }

  opening_unit_in : (capacity number : ℕ) → IsUnitIn schema capacity (opening schema) number (opening_unit schema number)
  opening_unit_in capacity number =
      record { number_is = refl; of_schema = opening_unit_of_schema schema number; within = opening_unit_within schema capacity number; usage = λ a. sym (nothing_at (length schema.areas) a) }

  -- the unit at a place has the number from which they are counted
  opening_units : (from count i : ℕ) (unit : Unit) → slice_get (map (opening_unit schema) (range_with_len from count)) i ≡ Some unit → unit ≡ opening_unit schema (from + i)
  opening_units from zero i unit h = absurd (none_some h) where
    none_some : None ≡ Some unit → ⊥
    none_some h = cc
  opening_units from (suc count) zero unit h = let e : from ≡ from + 0 = omega arith in let same : unit ≡ opening_unit schema from = cc in same ∙ ap (opening_unit schema) e
  opening_units from (suc count) (suc i) unit h = let e : (from + 1) + i ≡ from + suc i = omega arith in opening_units (from + 1) count i unit h ∙ ap (opening_unit schema) e

pub opening_is_legal : OpeningIsLegal
opening_is_legal schema capacity units =
    record {
      legal = opening_legal schema capacity;
      each = λ i unit h.
          let e : 1 + i ≡ suc i = omega arith in
          subst (λ (v : Unit). IsUnitIn schema capacity (opening schema) (suc i) v) (sym (opening_units schema 1 units i unit h ∙ ap (opening_unit schema) e)) (opening_unit_in schema capacity (suc i));
      users = λ a. refl;
    }

-- A HISTORY

module _ (schema : Lists) (capacity : ℕ) (schema_is : IsSound schema) where
  after_statement : (state : State) (number : ℕ) (statement : Statement) → IsLegalState schema capacity state → fits schema statement ≡ true → IsLegalState schema capacity (after_effect state number (effect_of_unit schema capacity state number statement))
  after_statement state zero statement legal fit = legal
  after_statement state (suc i) statement legal fit = at (slice_get state.units i) refl where
    at : (found : Option Unit) → slice_get state.units i ≡ found → IsLegalState schema capacity (after_effect state (suc i) (option_map (λ unit. effect schema capacity state.database unit statement) found))
    at None is = legal
    at (Some unit) is =
        let e : i ≡ suc i - 1 = omega arith in
        subst (λ n. LegalWith schema capacity (effect schema capacity state.database unit statement).database (slice_set state.units n (effect schema capacity state.database unit statement).unit)) e
        (effect_keeps_legal schema capacity state.database state.units i unit statement schema_is legal is fit)

  along : (state : State) (history : List Entry) → IsLegalState schema capacity state → list_all (λ entry. fits schema entry.statement) history ≡ true → IsLegalState schema capacity (replay schema capacity state history)
  unfolding replay
  along state [] legal fit = legal
  along state (entry ∷ history) legal fit =
      let fits = and_parts _ _ fit in
      along (after_entry schema capacity state entry) history (after_statement state entry.unit entry.statement legal fits.0) fits.1

pub replay_keeps_legal : ReplayKeepsLegal
replay_keeps_legal schema capacity state history schema_is legal fit = along schema capacity schema_is state history legal fit
