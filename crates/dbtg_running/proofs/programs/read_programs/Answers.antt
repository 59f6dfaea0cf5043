use Rattle.std.proofs.Common.{rules, ◌≡◌, ℕ, [], map, refl, subst, arith}
use Rattle.dbtg_program.specs.Reading.{program}
use Rattle.dbtg_running.specs.Reading.{ReadPrograms, ToldOfPrograms}
use Rattle.dbtg_running.proofs.ProgramsRead.{programs_behind}
use Rattle.dbtg_running.proofs.programs.read_programs.Goals as goal

pub loop-i-init : goal.loop-i-init
loop-i-init g c = record { so_far = (record { texts = []; many = refl; held = tt; accepted = tt }, c.new.ensures.items, c.new-2.ensures.items) }

pub loop-i-preserved : goal.loop-i-preserved
loop-i-preserved g c =
    let taken = c.in_ok-take_next.ensures.taken in
    record {
      so_far = programs_behind (g.S.Source.holds c.args.source.now) c.args.schema.now c.loop-i.i taken.0 c.loop-i.programs.list.items _ c.loop-i.programs.texts.items _ c.loop-i.invariant.so_far taken.1 taken.2 taken.3 taken.4;
    }

pub returns-clause-read : goal.returns-clause-read
returns-clause-read g c =
    let all : c.loop-i.i ≡ g.S.Source.count c.args.source.now = omega (arith, c.count-i-end.ensures) in
    subst
    (λ (n : ℕ). (read : ReadPrograms (g.S.Source.holds c.args.source.now) c.args.schema.now n) × (c.loop-i.programs.list.items ≡ map (program c.args.schema.now) read.texts) × (c.loop-i.programs.texts.items ≡ read.texts))
    all c.loop-i.invariant.so_far

pub returns-in_err-take_next-clause-refused : goal.returns-in_err-take_next-clause-refused
returns-in_err-take_next-clause-refused g c =
    let told : ToldOfPrograms (g.S.Source.holds c.args.source.now) (g.S.Source.fails c.args.source.now) c.in_err-take_next.field-0.0 c.args.schema.now (g.S.Source.count c.args.source.now) = record {
      before = c.loop-i.i;
      read = c.loop-i.invariant.so_far.0;
      within = omega (arith, c.loop-i-test.true);
      told = c.in_err-take_next.ensures.refused;
    } in
    search (rules, told)
