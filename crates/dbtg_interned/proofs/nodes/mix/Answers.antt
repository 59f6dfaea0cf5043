use Rattle.std.proofs.Common.{◌≡◌, ◌∙◌, refl, sym, ap, ℕ, ◌+◌, ◌*◌, ◌%◌, ◌^◌, List, add-one, get_or, bit_or, bit_xor}
use Rattle.dbtg_interned.specs.Inside.Mixed.{mixed}
use Rattle.dbtg_interned.proofs.nodes.mix.Goals as goal

-- two children more
more : (children : List ℕ) (n m : ℕ) → m ≡ mixed children n
    → bit_xor m (bit_or (get_or children (2 * n) 0) (get_or children (2 * n + 1) 0 * 2 ^ 32 % 2 ^ 64)) * 0x9e37_79b9_7f4a_7c15 % 2 ^ 64 ≡ mixed children (n + 1)
unfolding mixed
more children n m h =
    ap (λ x. bit_xor x (bit_or (get_or children (2 * n) 0) (get_or children (2 * n + 1) 0 * 2 ^ 32 % 2 ^ 64)) * 0x9e37_79b9_7f4a_7c15 % 2 ^ 64) h
    ∙ ap (mixed children) (sym (add-one n))

pub loop-i-init : goal.loop-i-init
unfolding mixed
loop-i-init c = refl

pub loop-i-preserved : goal.loop-i-preserved
loop-i-preserved c = more c.args.numbers.now c.loop-i.i c.loop-i.mix c.loop-i.invariant
