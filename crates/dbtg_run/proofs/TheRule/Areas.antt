-- The bits of an area's word, and who has the area.
use Rattle.std.proofs.Common.{◌≡◌, ◌≢◌, ℕ, ◌+◌, ◌-◌, ◌*◌, ◌%◌, ◌<◌, ◌≤◌, ◌^◌, Bool, true, false, cond, refl, sym, ap, ◌∙◌, subst, arith, eq-eqb, ne_eqb, max}
use Rattle.std.proofs.lemmas.Nat.{or_lt, and_le_l, pow_below}
use Rattle.std.proofs.lemmas.Nat.Bits.{bit_at_or, bit_at-pow_same, bit_at-pow_other, bit_at_above, bit_at-lt, bit_at-zero, same_from_bits_below, bit_at_clear_same, bit_at_clear_other}
use Rattle.std.specs.Int.{bit_at, bit_not, w64}
use Rattle.std.specs.Int.RustNames.{bit_or, bit_and}
use mathlib.Core.Logic.{dite}
use native.Mathlib.Decide.{ℕ_discrete, dec_lt}
use Rattle.dbtg_run.specs.Inside.Views.{put}
use Rattle.dbtg_run.specs.Inside.LatchRule.{AreaOk}

-- who has the area in which way, if the one at place u has it as h says
abbrev pub had : (Bool → ℕ → ℕ) → ℕ → (Bool → ℕ) → Bool → ℕ → ℕ
had has u h x v = put (has x) u (h x) v

put_at : (f : ℕ → ℕ) (k x : ℕ) → put f k x k ≡ x
put_at f k x = ap (λ b. cond b x (f k)) (eq-eqb k k refl)

put_off : (f : ℕ → ℕ) (k x j : ℕ) → j ≢ k → put f k x j ≡ f j
put_off f k x j n = ap (λ b. cond b x (f j)) (ne_eqb j k n)

-- the same counts
pub ok_same : (word : ℕ) (has has' : Bool → ℕ → ℕ) → ((x : Bool) (u : ℕ) → has' x u ≡ has x u) → AreaOk word has → AreaOk word has'
ok_same word has has' e ok = record { small = ok.small; shared = λ u l. ok.shared u l ∙ sym (e false u); alone = λ u l. ok.alone u l ∙ sym (e true u) }

-- u takes it shared; the word has no exclusive bit
pub takes_shared : (old u : ℕ) (has : Bool → ℕ → ℕ) (h : Bool → ℕ) → u < 8 → old < 256 → h false ≡ 1 → h true ≡ 0 → AreaOk old has → AreaOk (bit_or old (2 ^ u)) (had has u h)
takes_shared old u has h small free one none ok = record {
  small = or_lt 16 old (2 ^ u) ok.small (pow_below u 16 (omega arith));
  shared = λ v l. dite (ℕ_discrete v u)
      (λ e. let b : bit_at (bit_or old (2 ^ u)) v ≡ max (bit_at old v) (bit_at (2 ^ u) v) = bit_at_or old (2 ^ u) v in
      let c : bit_at (2 ^ u) v ≡ 1 = subst (λ i. bit_at (2 ^ u) i ≡ 1) (sym e) (bit_at-pow_same u) in
      let k : bit_at old v < 2 = bit_at-lt old v in
      let p : had has u h false v ≡ 1 = subst (λ i. put (has false) u (h false) i ≡ 1) (sym e) (put_at (has false) u (h false) ∙ one) in omega arith)
      (λ ne. let b : bit_at (bit_or old (2 ^ u)) v ≡ max (bit_at old v) (bit_at (2 ^ u) v) = bit_at_or old (2 ^ u) v in
      let c : bit_at (2 ^ u) v ≡ 0 = bit_at-pow_other u v ne in
      let d : bit_at old v ≡ has false v = ok.shared v l in
      let p : had has u h false v ≡ has false v = put_off (has false) u (h false) v ne in omega arith);
  alone = λ v l. let b : bit_at (bit_or old (2 ^ u)) (8 + v) ≡ max (bit_at old (8 + v)) (bit_at (2 ^ u) (8 + v)) = bit_at_or old (2 ^ u) (8 + v) in
      let c : bit_at (2 ^ u) (8 + v) ≡ 0 = bit_at-pow_other u (8 + v) (λ e. omega arith) in
      let z : bit_at old (8 + v) ≡ 0 = bit_at_above old 8 (8 + v) free (omega arith) in
      let d : bit_at old (8 + v) ≡ has true v = ok.alone v l in
      dite (ℕ_discrete v u)
      (λ e. let p : had has u h true v ≡ 0 = subst (λ i. put (has true) u (h true) i ≡ 0) (sym e) (put_at (has true) u (h true) ∙ none) in omega arith)
      (λ ne. let p : had has u h true v ≡ has true v = put_off (has true) u (h true) v ne in omega arith);
}

-- u takes it exclusively; nobody has it
pub takes_alone : (u : ℕ) (has : Bool → ℕ → ℕ) (h : Bool → ℕ) → u < 8 → h true ≡ 1 → h false ≡ 0 → AreaOk 0 has → AreaOk (2 ^ (8 + u)) (had has u h)
takes_alone u has h small one none ok = record {
  small = pow_below (8 + u) 16 (omega arith);
  shared = λ v l. let c : bit_at (2 ^ (8 + u)) v ≡ 0 = bit_at-pow_other (8 + u) v (λ e. omega arith) in
      let d : 0 ≡ has false v = sym (bit_at-zero v) ∙ ok.shared v l in
      dite (ℕ_discrete v u)
      (λ e. let p : had has u h false v ≡ 0 = subst (λ i. put (has false) u (h false) i ≡ 0) (sym e) (put_at (has false) u (h false) ∙ none) in omega arith)
      (λ ne. let p : had has u h false v ≡ has false v = put_off (has false) u (h false) v ne in omega arith);
  alone = λ v l. let d : 0 ≡ has true v = sym (bit_at-zero (8 + v)) ∙ ok.alone v l in
      dite (ℕ_discrete v u)
      (λ e. let c : bit_at (2 ^ (8 + u)) (8 + v) ≡ 1 = subst (λ i. bit_at (2 ^ (8 + u)) (8 + i) ≡ 1) (sym e) (bit_at-pow_same (8 + u)) in
      let p : had has u h true v ≡ 1 = subst (λ i. put (has true) u (h true) i ≡ 1) (sym e) (put_at (has true) u (h true) ∙ one) in omega arith)
      (λ ne. let c : bit_at (2 ^ (8 + u)) (8 + v) ≡ 0 = bit_at-pow_other (8 + u) (8 + v) (λ e. ne (omega arith)) in
      let p : had has u h true v ≡ has true v = put_off (has true) u (h true) v ne in omega arith);
}

abbrev pub clear : ℕ → ℕ → ℕ
clear n b = bit_and n (bit_not w64 (1 * 2 ^ b % 2 ^ 64))

-- u leaves it, which it had shared
pub leaves_shared : (n u : ℕ) (has : Bool → ℕ → ℕ) (h : Bool → ℕ) → u < 8 → h false ≡ 0 → h true ≡ has true u → AreaOk n has → AreaOk (clear n u) (had has u h)
leaves_shared n u has h small none same ok = record {
  small = let a : clear n u ≤ n = and_le_l n (bit_not w64 (1 * 2 ^ u % 2 ^ 64)) in let k = ok.small in omega arith;
  shared = λ v l. dite (ℕ_discrete v u)
      (λ e. subst (λ i. bit_at (clear n u) i ≡ had has u h false i) (sym e) (bit_at_clear_same w64 n u (omega arith) ∙ sym (put_at (has false) u (h false) ∙ none)))
      (λ ne. bit_at_clear_other w64 n u (omega arith) v (omega arith) ne ∙ ok.shared v l ∙ sym (put_off (has false) u (h false) v ne));
  alone = λ v l. bit_at_clear_other w64 n u (omega arith) (8 + v) (omega arith) (λ e. omega arith) ∙ ok.alone v l ∙ dite (ℕ_discrete v u)
      (λ e. subst (λ i. has true i ≡ had has u h true i) (sym e) (sym (put_at (has true) u (h true) ∙ same)))
      (λ ne. sym (put_off (has true) u (h true) v ne));
}

-- u leaves it, which it had exclusively
pub leaves_alone : (n u : ℕ) (has : Bool → ℕ → ℕ) (h : Bool → ℕ) → u < 8 → h true ≡ 0 → h false ≡ has false u → AreaOk n has → AreaOk (clear n (8 + u)) (had has u h)
leaves_alone n u has h small none same ok = record {
  small = let a : clear n (8 + u) ≤ n = and_le_l n (bit_not w64 (1 * 2 ^ (8 + u) % 2 ^ 64)) in let k = ok.small in omega arith;
  shared = λ v l. bit_at_clear_other w64 n (8 + u) (omega arith) v (omega arith) (λ e. omega arith) ∙ ok.shared v l ∙ dite (ℕ_discrete v u)
      (λ e. subst (λ i. has false i ≡ had has u h false i) (sym e) (sym (put_at (has false) u (h false) ∙ same)))
      (λ ne. sym (put_off (has false) u (h false) v ne));
  alone = λ v l. dite (ℕ_discrete v u)
      (λ e. subst (λ i. bit_at (clear n (8 + u)) (8 + i) ≡ had has u h true i) (sym e) (bit_at_clear_same w64 n (8 + u) (omega arith) ∙ sym (put_at (has true) u (h true) ∙ none)))
      (λ ne. bit_at_clear_other w64 n (8 + u) (omega arith) (8 + v) (omega arith) (λ e. ne (omega arith)) ∙ ok.alone v l ∙ sym (put_off (has true) u (h true) v ne));
}

-- nobody has it: the word is 0
pub free_word : (word : ℕ) (has : Bool → ℕ → ℕ) → ((x : Bool) (u : ℕ) → u < 8 → has x u ≡ 0) → AreaOk word has → word ≡ 0
free_word word has none ok = same_from_bits_below 16 word 0 ok.small (omega arith)
    (λ i b. dite (dec_lt i 8)
    (λ (low : i < 8). ok.shared i low ∙ none false i low ∙ sym (bit_at-zero i))
    (λ (high : (i < 8) → ⊥). subst (λ n. bit_at word n ≡ 0) (let e : 8 + (i - 8) ≡ i = omega arith in e) (ok.alone (i - 8) (omega arith) ∙ none true (i - 8) (omega arith)) ∙ sym (bit_at-zero i)))
