use Rattle.std.proofs.Common.{◌≡◌, [], ◌∷◌, arith}
use Rattle.numbers.specs.Stored.{number}
use Rattle.lines.specs.Lines.{shown}
use Rattle.lines.proofs.Writing.{room_left, written_more}
use Rattle.lines.proofs.line.Line.pair.Goals as goal

pub byte-requires : goal.byte-requires
byte-requires c =
    let e : c.from_le_bytes.result ≡ number c.args.pair 0 = omega arith in
    room_left c.args.self.now c.entry.new.self (shown (number c.args.pair 0)) (c.args.stop ∷ []) c.requires.room (rw e at c.entry.ensures)

pub returns : goal.returns
returns c =
    let e : c.from_le_bytes.result ≡ number c.args.pair 0 = omega arith in
    written_more _ _ (shown (number c.args.pair 0)) (c.args.stop ∷ []) c.requires.room (rw e at c.entry.ensures) _ c.byte.ensures
