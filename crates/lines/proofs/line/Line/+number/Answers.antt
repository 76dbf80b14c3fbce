use Rattle.std.proofs.Common.{◌/◌, ◌%◌, [], ◌∷◌, length, ap, arith}
use Rattle.lines.specs.Decimal.{digit, decimal}
use Rattle.lines.proofs.Decimals.{decimal_step}
use Rattle.lines.proofs.Writing.{room_left, written_more}
use Rattle.lines.proofs.line.Line.+number.Goals as goal

pub byte-requires-else-n-lt10 : goal.byte-requires-else-n-lt10
byte-requires-else-n-lt10 t c =
    let n = c.args.n in
    let e = ap length (decimal_step n (omega arith)) in
    room_left c.args.self.now c.number.new.self (decimal (n / 10)) (digit (n % 10) ∷ []) (omega arith) c.number.ensures

pub returns-else-n-lt10 : goal.returns-else-n-lt10
returns-else-n-lt10 t c =
    let n = c.args.n in
    let e = decimal_step n (omega arith) in
    let l = ap length e in
    rw e (written_more c.args.self.now c.number.new.self (decimal (n / 10)) (digit (n % 10) ∷ []) (omega arith) c.number.ensures _ c.byte-else-n-lt10.ensures)
