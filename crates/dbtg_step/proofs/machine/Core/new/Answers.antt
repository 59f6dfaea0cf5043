use Rattle.std.proofs.Common.{◌∙◌, ap, sym, subst}
use Rattle.dbtg_schema.specs.Lists.{Lists}
use Rattle.dbtg_step.specs.Inside.Events.{IsWell}
use Rattle.dbtg_step.specs.Inside.Parts.{core_of}
use Rattle.dbtg_step.proofs.machine.Core.new.Goals as goal

pub invariant_of-result : goal.invariant_of-result
invariant_of-result c = subst (λ (s : Lists). IsWell s c.args.capacity c.in_ok-parts.parts) (sym c.in_ok-own.ensures) c.in_ok-parts.ensures.well

pub returns : goal.returns
returns c = ap (λ (s : Lists). core_of s c.args.capacity c.in_ok-parts.parts) c.in_ok-own.ensures ∙ c.in_ok-parts.ensures.opening
