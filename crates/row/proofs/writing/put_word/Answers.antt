use Rattle.std.proofs.Common.{◌≡◌, ◌+◌, ◌/◌, ◌%◌, get_or, set, ◌∙◌, rules, arith}
use Rattle.row.proofs.Puts.{put_two}
use Rattle.row.proofs.writing.put_word.Goals as goal

pub returns : goal.returns
returns c =
    let s = c.args.space.now in
    let at = c.args.at in
    let low : get_or c.to_le_bytes.result 0 0 ≡ c.args.n % 256 = search rules in
    let high : get_or c.to_le_bytes.result 1 0 ≡ c.args.n / 256 = search rules in
    (λ i. set (set s at (low i)) (at + 1) (high i)) ∙ put_two s at (c.args.n % 256) (c.args.n / 256) (omega arith)
