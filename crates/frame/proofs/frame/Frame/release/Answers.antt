use Rattle.std.proofs.Common.{List, Some, ap, sym, ◌∙◌, subst}
use Rattle.frame.specs.Book.{OpenRow}
use Rattle.frame.specs.Placed.{Placed}
use Rattle.frame.specs.View.{open_row, open_rows, position_in, occupied_in}
use Rattle.frame.proofs.Opens.{map_removed}
use Rattle.frame.proofs.frame.Frame.release.Goals as goal

pub returns-clause-after : goal.returns-clause-after
returns-clause-after c =
    let f = c.args.self.now in
    let F : List OpenRow → Type 0 = λ rows. Placed rows c.args.slip.serial (Some c.in-Some.i) in
    let placed = subst F c.open_routes.ensures c.in-Some.ensures in
    let rows = ap open_rows c.remove.ensures.items ∙ map_removed open_row c.in-Some.i f.routes.items ∙ sym placed.2 in
    ap (λ (opened : List OpenRow). record { position = position_in f.reversed; occupied = occupied_in f.occupied; opened = opened; given = f.given }) rows
