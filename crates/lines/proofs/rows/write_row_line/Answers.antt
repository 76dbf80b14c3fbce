use Rattle.std.proofs.Common.{◌≡◌, ◌≤◌, length, Ok, sym, ap, ◌∙◌, arith, rules}
use Rattle.std.proofs.lemmas.Bool.{cond-true}
use Rattle.row.specs.Put.{put}
use Rattle.row.specs.Row.{entries_of}
use Rattle.row.proofs.Puts.{long_enough}
use Rattle.lines.specs.Lines.{row_line, row_line_left}
use Rattle.lines.proofs.Shown.{row_most}
use Rattle.lines.proofs.rows.write_row_line.Goals as goal
use Rattle.lines.proofs.rows.write_row_line.Goals.{else-space-entry_count-via-then-space-entry_count+else-space-line_count, else-space-entry_count-via-else-space-entry_count}

pub row-requires-clause-room : goal.row-requires-clause-room
row-requires-clause-room c =
    let most = row_most c.args.row.now (sym c.if-not-is_row.ensures) in
    elim c.else-space-entry_count.branch [
      | else-space-entry_count-via-then-space-entry_count+else-space-line_count w ↦ omega (arith, w.line_count.ensures, w.if-space-line_count.false)
      | else-space-entry_count-via-else-space-entry_count w ↦ omega (arith, w.if-space-entry_count.false)
    ]

pub returns : goal.returns
returns c =
    let line = row_line (entries_of c.args.row.now) in
    let t = sym c.if-not-is_row.ensures in
    let most = row_most c.args.row.now t in
    let room : length line ≤ length c.args.space.now =
    elim c.else-space-entry_count.branch [
      | else-space-entry_count-via-then-space-entry_count+else-space-line_count w ↦ omega (arith, w.line_count.ensures, w.if-space-line_count.false)
      | else-space-entry_count-via-else-space-entry_count w ↦ omega (arith, w.if-space-entry_count.false)
    ] in
    let long = long_enough line c.args.space.now room in
    let size : c.row.new.self.at ≡ length line = omega arith in
    let told = ap Ok size ∙ long.0 ∙ sym (cond-true _ _ _ t) in
    let left : put c.args.space.now 0 line ≡ row_line_left c.args.row.now c.args.space.now = long.1 ∙ sym (cond-true _ _ _ t) in
    record { told = told; left = search rules }
