-- The scripts and the turns of a session: `replay` by them prints what was made in it.
use Rattle.std.proofs.Common.{◌≡◌, ℕ, zero, suc, ◌+◌, true, List, [], ◌∷◌, ◌++◌, length, map, None, Option, Some, slice_get, refl, sym, ap, ◌∙◌, subst, arith}
use Rattle.std.specs.Prelude.{option_map}
use Rattle.std.proofs.lemmas.List.{append-nil, length-map}
use Rattle.std.proofs.lemmas.Option.{slice_get-map}
use Rattle.dbtg_schema.specs.Lists.{Lists}
use Rattle.dbtg_schema.specs.Texts.SchemaFaults.{refusal as schema_refusal}
use Rattle.dbtg_unit.specs.Database.State.Image.{Image, image_of}
use Rattle.dbtg_unit.specs.Database.Laws.Replay.{IsHistoryOf, entries_of}
use Rattle.dbtg_unit.specs.declared.statement.Statement.{Statement}
use Rattle.dbtg_unit.specs.declared.unit.Entry.{Entry}
use Rattle.dbtg_step.specs.Machine.Headline.{IsSequential}
use Rattle.dbtg_step.specs.Machine.SequentialDatabase.{unit_at}
use Rattle.dbtg_step.specs.Core.Audit.{LeadsTo}
use Rattle.dbtg_step.specs.Core.Whole.{Making, state_now}
use Rattle.dbtg_script.specs.StatementFaults.{refusal as script_refusal}
use Rattle.dbtg_script.specs.Statements.{script}
use Rattle.dbtg_script.specs.Printing.Texts.{run_text}
use Rattle.dbtg_script.specs.Turns.{turns_refusal}
use Rattle.dbtg_script.specs.Printing.WordTexts.{turns_text}
use Rattle.dbtg_session.specs.Sessions.{HasScripts, Typed}
use Rattle.dbtg_command.specs.declared.order.Order.TheVariants.{Turns}
use Rattle.dbtg_command.specs.Refusals.{AllAccepted, is_count, schema_in}
use Rattle.dbtg_replay.specs.Replaying.{IsReplay}
use Rattle.dbtg_replay.proofs.Public.{made_again}
use Rattle.dbtg_shell.specs.Turns.{AreTurnsOf}

all_accepted : (schema : Lists) (texts : List (List ℕ)) → ((k : ℕ) (text : List ℕ) → slice_get texts k ≡ Some text → script_refusal schema text ≡ None) → AllAccepted schema texts
all_accepted schema [] each = tt
all_accepted schema (x ∷ xs) each = (each 0 x refl, all_accepted schema xs (λ k text at. each (suc k) text at))

module _ (typed : Typed) (has : HasScripts typed) (of : IsHistoryOf typed.making.schema typed.making.capacity typed.making.units typed.making.history) where
  abbrev making : Making
  making = typed.making

  abbrev says : List (List Statement)
  says = map (script making.schema) typed.texts

  many : length says ≡ making.units
  many = length-map typed.texts (script making.schema) ∙ has.many

  own_of : (k : ℕ) (said : List Statement) (o : Option (List ℕ)) → slice_get typed.texts k ≡ o → option_map (script making.schema) o ≡ Some said
      → (left : List Statement) × (map (λ (e : Entry). e.statement) (entries_of (k + 1) making.history) ++ left ≡ said)
  own_of k said None at e = absurd (cc (e))
  own_of k said (Some text) at e =
      let is : script making.schema text ≡ said = cc (e) in
      ([], append-nil (map (λ (x : Entry). x.statement) (entries_of (k + 1) making.history)) ∙ sym (has.each k text at).1 ∙ is)

  begins : (u : ℕ) (said : List Statement) → unit_at says u ≡ Some said → (left : List Statement) × (map (λ (e : Entry). e.statement) (entries_of u making.history) ++ left ≡ said)
  unfolding unit_at
  begins zero said at = absurd (cc (at))
  begins (suc k) said at =
      let own = own_of k said (slice_get typed.texts k) refl (sym (slice_get-map (script making.schema) typed.texts k) ∙ at) in
      let number : k + 1 ≡ suc k = omega arith in
      (own.0, ap (λ n. map (λ (e : Entry). e.statement) (entries_of n making.history) ++ own.0) (sym number) ∙ own.1)

  abbrev image : Image
  image = image_of making.schema making.capacity (state_now making).database

  sequential : IsSequential making.schema making.capacity says making.history image (state_now making).units
  sequential =
      let led = subst (λ n. LeadsTo making.schema making.capacity n making.history image (state_now making).units) (sym many) (record { history_of = of; image_is = refl; units_are = refl }) in
      record { tickets = led.history_of.tickets; answers = led.history_of.answers_hold; image_is = led.image_is; units_are = led.units_are; scripts_begin = begins }

  pub are_turns : (turns : List ℕ) → turns ≡ turns_text (map (λ (e : Entry). e.unit) making.history) → AreTurnsOf typed turns
  are_turns turns are = record { again = λ text fine says_schema. by text fine says_schema }
    where
      by : (text : List ℕ) → schema_refusal text ≡ None → schema_in text ≡ making.schema → (turns_refusal turns ≡ None) × ((printed : List ℕ) → IsReplay text typed.texts (Turns turns) making.capacity printed
          → printed ≡ run_text making.schema making.history image.records image.lists image.next image.usage (state_now making).units)
      by text fine same =
          let counted : is_count (length typed.texts) ≡ true = ap is_count has.many ∙ has.counted in
          let accepted = all_accepted making.schema typed.texts (λ k one at. (has.each k one at).0) in
          let again = made_again text typed.texts making.capacity making.history image (state_now making).units turns counted (fine, subst (λ (s : Lists). AllAccepted s typed.texts) (sym same) accepted)
          (subst (λ (s : Lists). IsSequential s making.capacity (map (script s) typed.texts) making.history image (state_now making).units) (sym same) sequential) are in
          (again.0, λ printed replayed. again.1 printed replayed ∙ ap (λ (s : Lists). run_text s making.history image.records image.lists image.next image.usage (state_now making).units) same)
