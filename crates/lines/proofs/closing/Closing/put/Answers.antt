use Rattle.std.proofs.Common.{◌≡◌, [], ◌∷◌, ◌++◌, codes, arith, length-append}
use Rattle.lines.specs.Decimal.{decimal}
use Rattle.lines.proofs.Writing.{room_left, written_more}
use Rattle.lines.proofs.closing.Closing.put.Goals as goal

pub number-requires : goal.number-requires
number-requires c =
    let its : c.from.result ≡ c.in-Refused.number = omega arith in
    let n = decimal c.in-Refused.number in
    let rest = 32 ∷ (decimal c.in-Refused.place ++ (10 ∷ [])) in
    let r = room_left c.args.line.now c.text.new.self (codes "refused ") (n ++ rest) (rw c.in-Refused.is at c.requires) c.text.ensures in
    let l = length-append n rest in
    rw its (omega arith)

pub counted-requires-in-Refused : goal.counted-requires-in-Refused
counted-requires-in-Refused c =
    let its : c.from.result ≡ c.in-Refused.number = omega arith in
    let n = decimal c.in-Refused.number in
    let rest = 32 ∷ (decimal c.in-Refused.place ++ (10 ∷ [])) in
    let r = room_left c.args.line.now c.text.new.self (codes "refused ") (n ++ rest) (rw c.in-Refused.is at c.requires) c.text.ensures in
    room_left c.text.new.self c.number.new.self n rest r (rw its at c.number.ensures)

pub returns-in-Refused : goal.returns-in-Refused
returns-in-Refused c =
    let its : c.from.result ≡ c.in-Refused.number = omega arith in
    let n = decimal c.in-Refused.number in
    let rest = 32 ∷ (decimal c.in-Refused.place ++ (10 ∷ [])) in
    let room = rw c.in-Refused.is at c.requires in
    let r = room_left c.args.line.now c.text.new.self (codes "refused ") (n ++ rest) room c.text.ensures in
    rw c.in-Refused.is (written_more _ _ (codes "refused ") (n ++ rest) room c.text.ensures _ (written_more _ _ n rest r (rw its at c.number.ensures) _ c.counted-in-Refused.ensures))
