use Rattle.std.proofs.Common.{◌+◌, ap, arith, length, List, subst, sym, ℕ}
use Rattle.dbtg_interned.specs.Arrays.{AreArrays, KeptArrays, elements, size}
use Rattle.dbtg_interned.proofs.Places.{read_root, read_under}
use Rattle.dbtg_interned.proofs.Several.{AreChanged, none_changed, one_changed, one_passed}
use Rattle.dbtg_interned.proofs.arrays.Arrays.with_elements.Goals as goal
use Rattle.dbtg_interned.proofs.arrays.Arrays.with_elements.Goals.{then-change-len+in_ok-root, else-change-len}

pub numbers-root-requires : goal.numbers-root-requires
numbers-root-requires c = omega (arith, (c.requires.array.known 1).0, ap (λ (s : KeptArrays). length s.nodes) c.self.view_is)

pub loop-change-init : goal.loop-change-init
loop-change-init c =
    let here : KeptArrays = record { nodes = c.self.inside.nodes; places = c.self.inside.places.items; used = c.self.inside.used } in
    none_changed c.args.self.now c.args.changes.now (elements c.args.self.now c.args.array) c.numbers-root.result (subst (λ (s : KeptArrays). AreArrays s) c.self.view_is c.self.invariant)
    (read_root c.args.self.now here c.self.view_is c.args.array c.numbers-root.result c.self.invariant c.requires.array c.numbers-root.ensures.numbers)
    (read_under c.args.self.now here c.self.view_is c.args.array c.numbers-root.result c.self.invariant c.requires.array c.numbers-root.ensures.numbers)

pub loop-change-preserved : goal.loop-change-preserved
loop-change-preserved c =
    let es = elements c.args.self.now c.args.array in
    let i = c.loop-change.change-index in
    elim c.if-change-len.branch [
      | then-change-len+in_ok-root w ↦
          subst (λ (s : KeptArrays). AreChanged c.args.self.now s c.args.changes.now (i + 1) es c.if-change-len.root) (sym w.self-is)
          (subst (λ (r : List ℕ). AreChanged c.args.self.now w.with_changed.new.self c.args.changes.now (i + 1) es r) (sym w.root-is)
          (one_changed c.args.self.now c.loop-change.self c.args.changes.now i es c.loop-change.root c.loop-change.invariant c.loop-change-test.true
          w.with_changed.new.self w.in_ok-root.ensures.grows w.in_ok-root.ensures.used w.in_ok-root.ensures.few w.in_ok-root.root w.in_ok-root.ensures.sound w.in_ok-root.ensures.root w.in_ok-root.ensures.elements))
      | else-change-len w ↦
          subst (λ (s : KeptArrays). AreChanged c.args.self.now s c.args.changes.now (i + 1) es c.if-change-len.root) (sym w.self-is)
          (subst (λ (r : List ℕ). AreChanged c.args.self.now c.loop-change.self c.args.changes.now (i + 1) es r) (sym w.root-is)
          (one_passed c.args.self.now c.loop-change.self c.args.changes.now i es c.loop-change.root c.loop-change.invariant c.loop-change-test.true
          (omega (arith, w.if-change-len.false, c.len.ensures, ap (λ (s : KeptArrays). size s) c.self-in-loop-change.view_is))))
    ]
