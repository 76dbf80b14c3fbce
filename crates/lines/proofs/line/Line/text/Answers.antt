use Rattle.std.proofs.Common.{◌≡◌, ◌+◌, ◌-◌, ◌++◌, length, take, drop, refl, ap, ◌∙◌, arith}
use Rattle.std.proofs.lemmas.List.{drop-drop}
use Rattle.row.specs.Put.{put}
use Rattle.lines.proofs.line.Line.text.Goals as goal

pub returns : goal.returns
unfolding put
returns c =
    let s = c.args.self.now.space.now in
    let at = c.args.self.now.at in
    let t = c.args.text.now in
    let n : at + length t - at ≡ length t = omega arith in
    record {
      left = ap (λ x. take at s ++ (x ++ drop (at + length t - at) (drop at s))) c.copy_from_slice.ensures.after
          ∙ ap (λ k. take at s ++ (t ++ drop k (drop at s))) n
          ∙ ap (λ d. take at s ++ (t ++ d)) (drop-drop (length t) at s);
      next = refl;
      held = refl;
    }
