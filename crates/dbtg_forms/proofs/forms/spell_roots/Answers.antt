use Rattle.std.proofs.Common.{◌≡◌, refl, sym, ◌∙◌, ap, subst, ℕ, ◌+◌, List, map, slice_get}
use Rattle.dbtg_interned.specs.Kept.{IsContents, Keeps}
use Rattle.dbtg_interned.proofs.Public.{keeps_trans}
use Rattle.dbtg_forms.specs.Forms.{is_root, spelling}
use Rattle.dbtg_forms.proofs.Rooted.{no_root, one_root}
use Rattle.dbtg_forms.proofs.forms.spell_roots.Goals as goal
use Rattle.dbtg_forms.proofs.forms.spell_roots.Goals.{then-is_root+in_ok-spelled+in_ok-enter+in_ok-push, else-is_root}

pub loop-place-preserved : goal.loop-place-preserved
loop-place-preserved c =
    let graph = c.args.graph.now in
    let i = c.loop-place.place in
    let old : List (List ℕ) = c.loop-place.spellings in
    let ns = c.loop-place.numbers.items in
    let vertex : c.in_ok-vertex.vertex ≡ i = c.in_ok-vertex.ensures in
    let tested : is_root graph i ≡ c.is_root.result = ap (is_root graph) (sym vertex) ∙ sym c.is_root.ensures in
    elim c.if-is_root.branch [
      | then-is_root+in_ok-spelled+in_ok-enter+in_ok-push w ↦
          let new : List (List ℕ) = w.enter.new.self in
          record {
            sound = subst IsContents (sym w.spellings-is) w.in_ok-enter.ensures.sound;
            keeps = subst (λ (s : List (List ℕ)). Keeps c.args.spellings.now s) (sym w.spellings-is) (keeps_trans c.args.spellings.now old new c.loop-place.invariant.keeps w.in_ok-enter.ensures.keeps);
            numbers = (λ k. map (slice_get (w.spellings-is k)) (w.numbers-is k).items)
                ∙ ap (map (slice_get new)) w.in_ok-push.ensures.items
                ∙ one_root graph old ns i (i + 1) refl c.loop-place.invariant.numbers new w.in_ok-enter.field-0 w.as_slice.result.now (tested ∙ w.if-is_root.true) w.in_ok-enter.ensures.keeps
                (w.as_slice.ensures.value ∙ w.in_ok-spelled.ensures ∙ ap (spelling graph) vertex) w.in_ok-enter.ensures.number;
          }
      | else-is_root w ↦ record {
        sound = subst IsContents (sym w.spellings-is) c.loop-place.invariant.sound;
        keeps = subst (λ (s : List (List ℕ)). Keeps c.args.spellings.now s) (sym w.spellings-is) c.loop-place.invariant.keeps;
        numbers = (λ k. map (slice_get (w.spellings-is k)) (w.numbers-is k).items) ∙ no_root graph old ns i (i + 1) refl c.loop-place.invariant.numbers (tested ∙ w.if-is_root.false);
      }
    ]
