-- A line written piece by piece.
use Rattle.std.proofs.Common.{ℕ, List, ◌++◌, length, ap, ◌∙◌, arith, length-append}
use Rattle.row.specs.Put.{put}
use Rattle.row.proofs.Puts.{length_put, put_more}
use Rattle.lines.specs.declared.line.Line.{Line}
use Rattle.lines.specs.Written.{HasRoom, Written}

module _ (a b : Line) (t u : List ℕ) (room : HasRoom a (t ++ u)) (w : Written a b t) where
  -- there is room for what comes next
  pub room_left : HasRoom b u
  room_left =
      let l = length-append t u in
      let k = ap length w.left ∙ length_put a.space.now a.at t (omega arith) in
      let e = w.next in
      omega arith

  pub written_more : (c : Line) → Written b c u → Written a c (t ++ u)
  written_more c v =
      let l = length-append t u in
      let e = w.next in
      let f = v.next in
      record {
        left = v.left
            ∙ ap (λ s. put s b.at u) w.left
            ∙ ap (λ k. put (put a.space.now a.at t) k u) e
            ∙ put_more a.space.now a.at t u (omega arith);
        next = omega arith;
        held = v.held ∙ w.held;
      }
