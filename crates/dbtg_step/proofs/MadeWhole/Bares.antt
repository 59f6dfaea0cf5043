-- A database that keeps no history stands after each history that its statements continue.
use Rattle.std.proofs.Common.{ℕ, suc, ◌+◌, ◌-◌, ◌<◌, ◌≤◌, ◌≡◌, ◌^◌, true, List, [], ◌∷◌, ◌++◌, length, Some, slice_get, slice_set, get_or, refl, sym, ap, ◌∙◌, subst, arith, append_assoc, append-nil, length-append}
use Rattle.std.proofs.lemmas.List.{length-set}
use Rattle.std.proofs.lemmas.Option.{slice_get_read}
use Rattle.dbtg_cells.specs.declared.name.CellName.{CellName}
use Rattle.dbtg_unit.specs.declared.statement.Statement.{Statement}
use Rattle.dbtg_unit.specs.declared.unit.Answer.{Answer}
use Rattle.dbtg_unit.specs.declared.unit.Entry.{Entry}
use Rattle.dbtg_unit.specs.declared.unit.Unit.{Unit}
use Rattle.dbtg_unit.specs.Database.State.Base.{Database}
use Rattle.dbtg_unit.specs.Database.State.Image.{Image}
use Rattle.dbtg_unit.specs.Database.State.LegalWith.{IsUnitIn}
use Rattle.dbtg_unit.specs.Database.Laws.Replay.{State, opening_state, replay}
use Rattle.dbtg_unit.specs.Database.Statements.Fits.{fits}
use Rattle.dbtg_unit.specs.Hands.Hands.{Hands, cell_of}
use Rattle.dbtg_unit.specs.Hands.Local.{Agrees}
use Rattle.dbtg_unit.specs.Hands.Making.{HaveNextVersions}
use Rattle.dbtg_unit.specs.Hands.Prepared.{values_of}
use Rattle.dbtg_step.specs.Core.Audit.{LeadsTo}
use Rattle.dbtg_step.specs.Core.Bare.{Bare, Continues, HoldsAll, StandsAfter}
use Rattle.dbtg_step.specs.Inside.Imaging.{image_from}
use Rattle.dbtg_step.specs.Inside.Whole.{IsEffect}
use Rattle.dbtg_step.proofs.MadeWhole.Wholes.{maker, maker_agrees, may_go_on, unmade_at, whole_image, whole_then}

abbrev state_after_all : Bare → List Entry → State
state_after_all m history = replay m.schema m.capacity (opening_state m.schema (length m.units)) history

-- nothing, and then more
pub continues_nothing : (m : Bare) → Continues m [] m
continues_nothing m = record { schema_is = refl; capacity_is = refl; units_are = refl; stands = λ history s. subst (StandsAfter m) (sym (append-nil history)) s }

pub continues_on : (a b c : Bare) (xs ys : List Entry) → Continues a xs b → Continues b ys c → Continues a (xs ++ ys) c
continues_on a b c xs ys p q = record {
  schema_is = q.schema_is ∙ p.schema_is;
  capacity_is = q.capacity_is ∙ p.capacity_is;
  units_are = q.units_are ∙ p.units_are;
  stands = λ history s. subst (StandsAfter c) (append_assoc history xs ys) (q.stands (history ++ xs) (p.stands history s));
}

-- a statement of unit u, which is read from the units of a database m that is viewed as p
module _ (m p : Bare) (view : m ≡ p) (after : (history : List Entry) × StandsAfter p history) (u : ℕ) (r : Unit) (numbered : 0 < u) (within : u ≤ length p.units) (read : r ≡ get_or m.units (u - 1) r) where
  stood : StandsAfter m after.0
  stood = subst (λ k. StandsAfter k after.0) (sym view) after.1

  there : slice_get m.units (u - 1) ≡ Some r
  there = let count = ap (λ (k : Bare). length k.units) view in slice_get_read m.units (length m.units) (u - 1) r refl (omega (arith, within, numbered, count)) read

  pub reads_unit : IsUnitIn m.schema m.capacity (state_after_all m after.0).database (suc (u - 1)) r
  reads_unit = maker m.schema m.capacity m.hands m.units after.0 stood.whole u r numbered there

  pub reads_agrees : (db : Database) × Agrees m.schema m.capacity db m.hands r
  reads_agrees = ((state_after_all m after.0).database, maker_agrees m.schema m.capacity m.hands m.units after.0 stood.whole u r numbered there)

  pub reads_versions : m.count + 1 < 2 ^ 64 → HaveNextVersions m.hands.cells
  reads_versions few = may_go_on m.schema m.capacity m.hands m.units after.0 stood.whole (let count = stood.count_is in omega (arith, few, count))

  module _ (unit' : Unit) (new : Hands) (all : HoldsAll m.schema m.capacity new) where
    abbrev with_unit : ℕ → Bare
    with_unit count = record { schema = m.schema; capacity = m.capacity; hands = new; units = slice_set m.units (u - 1) unit'; count = count }

    -- once it is made
    pub made_more : (x : Statement) (answer : Answer) (count : ℕ) → fits p.schema x ≡ true → ((db : Database) → Agrees m.schema m.capacity db m.hands r → IsEffect m.schema m.capacity db x r unit' new answer) → count ≡ m.count + 1
        → Continues p (record { ticket = p.count; unit = u; statement = x; answer = answer } ∷ []) (with_unit count)
    made_more x answer count fit effects next =
        let fitting : fits m.schema x ≡ true = subst (λ (k : Bare). fits k.schema x ≡ true) (sym view) fit in
        subst (λ (k : Bare). Continues k (record { ticket = k.count; unit = u; statement = x; answer = answer } ∷ []) (with_unit count)) view (record {
          schema_is = refl;
          capacity_is = refl;
          units_are = length-set m.units (u - 1) unit';
          stands = λ history s.
              subst (λ t. StandsAfter (with_unit count) (history ++ record { ticket = t; unit = u; statement = x; answer = answer } ∷ [])) (sym s.count_is) (record {
                whole = whole_then m.schema m.capacity m.hands m.units history s.whole u r numbered there x fitting unit' new answer
                    (effects (state_after_all m history).database (maker_agrees m.schema m.capacity m.hands m.units history s.whole u r numbered there)) all;
                count_is = let counted = s.count_is in let longer = length-append history (record { ticket = length history; unit = u; statement = x; answer = answer } ∷ []) in omega (arith, next, counted, longer);
              });
        })

    -- where memory was refused
    pub made_nothing : unit' ≡ r → values_of new.cells ≡ values_of m.hands.cells → Continues p [] (with_unit m.count)
    made_nothing same shows = subst (λ (k : Bare). Continues k [] (with_unit m.count)) view (record {
      schema_is = refl;
      capacity_is = refl;
      units_are = length-set m.units (u - 1) unit';
      stands = λ history s. subst (StandsAfter (with_unit m.count)) (sym (append-nil history)) (record {
        whole = unmade_at m.schema m.capacity m.hands m.units history s.whole u r unit' new there same all shows;
        count_is = s.count_is;
      });
    })

-- its image and units are those to which the history leads
pub leads : (m : Bare) (image : Image) (units : List Unit) → image ≡ image_from m.schema (λ (c : CellName). cell_of c m.hands.cells) → units ≡ m.units → (history : List Entry) → StandsAfter m history → LeadsTo m.schema m.capacity (length m.units) history image units
leads m image units read are history s = record {
  history_of = s.whole.history_of;
  image_is = read ∙ whole_image m.schema m.capacity m.hands m.units history s.whole;
  units_are = are ∙ s.whole.units_are;
}
