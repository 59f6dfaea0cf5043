-- What is printed of texts in memory is what is printed of a source that gives them.
use Rattle.std.proofs.Common.{◌≡◌, ℕ, false, List, length, ◌∙◌, subst}
use Rattle.dbtg_command.specs.declared.order.Order.{Order}
use Rattle.dbtg_command.specs.declared.order.OrderKind.{OrderKind}
use Rattle.dbtg_command.specs.Sources.{kind_of}
use Rattle.dbtg_command.specs.Inside.Sources.{StandsIn}
use Rattle.dbtg_command.proofs.Public.{all_are, order_is}
use Rattle.dbtg_replay.specs.declared.replay.AnswerForm.TheVariants.{Plain}
use Rattle.dbtg_replay.specs.Replaying.{IsReplay, ReplaysHeld}

pub at_hand_replay : (schema : List ℕ) (scripts : List (List ℕ)) (order : Order (List ℕ)) (which : OrderKind) (capacity : ℕ) (out : List ℕ) → which ≡ kind_of order
    → ReplaysHeld (StandsIn schema scripts order) (length scripts) which false Plain capacity out → IsReplay schema scripts order capacity out
at_hand_replay schema scripts order which capacity out e held =
    let texts = held.0 in
    subst (λ (s : List ℕ). IsReplay s scripts order capacity out) texts.holds_schema
    (subst (λ (ss : List (List ℕ)). IsReplay texts.schema ss order capacity out) (all_are schema order scripts texts.scripts texts.holds_scripts texts.many)
    (subst (λ (o : Order (List ℕ)). IsReplay texts.schema texts.scripts o capacity out) (order_is schema scripts order texts.order texts.holds_order (texts.is_kind ∙ e)) held.1))
