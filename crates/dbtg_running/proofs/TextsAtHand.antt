-- What `threads` prints of texts in memory is what it prints of a source that gives them.
use Rattle.std.proofs.Common.{ℕ, Bool, List, length, subst}
use Rattle.dbtg_command.specs.declared.order.Order.TheVariants.{Serial}
use Rattle.dbtg_command.specs.Inside.Sources.{StandsIn}
use Rattle.dbtg_command.proofs.Public.{all_are}
use Rattle.dbtg_replay.specs.declared.replay.AnswerForm.{AnswerForm}
use Rattle.dbtg_running.specs.ScriptsOnThreads.{IsThreads, ThreadsHeld}

pub at_hand_threads : (schema : List ℕ) (scripts : List (List ℕ)) (first : Bool) (form : AnswerForm) (capacity : ℕ) (out turns : List ℕ) → ThreadsHeld (StandsIn schema scripts Serial) (length scripts) first form capacity out turns
    → IsThreads first form schema scripts capacity out turns
at_hand_threads schema scripts first form capacity out turns held =
    let texts = held.0 in
    subst (λ (s : List ℕ). IsThreads first form s scripts capacity out turns) texts.holds_schema
    (subst (λ (ss : List (List ℕ)). IsThreads first form texts.schema ss capacity out turns) (all_are schema Serial scripts texts.scripts texts.holds_scripts texts.many) held.1)
