use Rattle.std.proofs.Common.{[], ◌∷◌, ◌++◌, arith, length-append}
use Rattle.lines.specs.Decimal.{decimal}
use Rattle.lines.proofs.Writing.{room_left, written_more}
use Rattle.lines.proofs.line.Line.counted.Goals as goal

pub number-requires : goal.number-requires
number-requires c =
    let d = decimal c.args.n in
    let r = room_left c.args.self.now c.text.new.self c.args.text.now (d ++ 10 ∷ []) c.requires c.text.ensures in
    let l = length-append d (10 ∷ []) in
    omega arith

pub byte-requires : goal.byte-requires
byte-requires c =
    let d = decimal c.args.n in
    let r = room_left c.args.self.now c.text.new.self c.args.text.now (d ++ 10 ∷ []) c.requires c.text.ensures in
    room_left c.text.new.self c.number.new.self d (10 ∷ []) r c.number.ensures

pub returns : goal.returns
returns c =
    let d = decimal c.args.n in
    let r = room_left c.args.self.now c.text.new.self c.args.text.now (d ++ 10 ∷ []) c.requires c.text.ensures in
    written_more _ _ _ _ c.requires c.text.ensures _ (written_more _ _ d (10 ∷ []) r c.number.ensures _ c.byte.ensures)
