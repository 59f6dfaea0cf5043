use Rattle.std.proofs.Common.{◌≡◌, ℕ, [], length, map, refl, ap, ◌∙◌, subst, arith}
use Rattle.std.proofs.lemmas.Grind.{common_steps}
use Rattle.dbtg_step.specs.Laws.{scripts_fit}
use Rattle.dbtg_script.specs.Statements.{script}
use Rattle.dbtg_command.specs.Sources.{ReadScripts}
use Rattle.dbtg_command.proofs.Public.{texts_behind}
use Rattle.dbtg_replay.proofs.scripts.read_scripts_with_texts.Goals as goal

pub loop-i-init : goal.loop-i-init
loop-i-init g c =
    let none = c.of.ensures ∙ c.new.ensures.items in
    let no_text = c.of-2.ensures ∙ c.new-2.ensures.items in
    record {
      so_far = (record { texts = []; many = refl; held = tt; accepted = tt }, none, no_text);
      many = ap length none;
      fit = λ _. ap (scripts_fit c.args.schema.now) none;
    }

pub loop-i-preserved : goal.loop-i-preserved
loop-i-preserved g c =
    let taken = c.in_ok-take_next.ensures.taken in
    record {
      so_far = texts_behind (g.S.Source.holds c.args.source.now) c.args.schema.now c.loop-i.i taken.0 c.loop-i.scripts.statements _ c.loop-i.scripts.texts _ c.loop-i.invariant.so_far
          taken.1 taken.2 taken.3 taken.4;
      many = grind (arith, common_steps);
      fit = λ sound. c.in_ok-take_next.ensures.fitting sound (c.loop-i.invariant.fit sound);
    }

pub returns-clause-read : goal.returns-clause-read
returns-clause-read g c =
    let all : c.loop-i.i ≡ g.S.Source.count c.args.source.now = omega (arith, c.count-i-end.ensures) in
    subst (λ (n : ℕ). (read : ReadScripts (g.S.Source.holds c.args.source.now) c.args.schema.now n) × (c.loop-i.scripts.statements ≡ map (script c.args.schema.now) read.texts) × (c.loop-i.scripts.texts ≡ read.texts)) all c.loop-i.invariant.so_far
