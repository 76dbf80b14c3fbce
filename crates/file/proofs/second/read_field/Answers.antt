use Rattle.std.proofs.Common.{sym, ◌∙◌, rules}
use Rattle.file.proofs.Readings.{field_named, field_unnamed}
use Rattle.file.proofs.second.read_field.Goals as goal

pub returns-in-Some : goal.returns-in-Some
returns-in-Some c =
    c.read_named.ensures ∙ sym (field_named c.args.file.now.bytes.now c.args.port c.in-Some.named (sym c.in-Some.ensures))

pub returns-in-None : goal.returns-in-None
returns-in-None c =
    let e = field_unnamed c.args.file.now.bytes.now c.args.port (sym c.in-None.ensures) in
    search rules

pub returns-in-None-2 : goal.returns-in-None-2
returns-in-None-2 c =
    let e = field_unnamed c.args.file.now.bytes.now c.args.port (sym c.in-None.ensures) in
    search rules
