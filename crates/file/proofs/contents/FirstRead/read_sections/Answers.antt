use Rattle.std.proofs.Common.{sym, arith, rules}
use Rattle.file.specs.Contents.{section_count}
use Rattle.file.specs.Readings.{section_check}
use Rattle.file.proofs.Checks.{each_none, each_more, each_stop}
use Rattle.file.proofs.contents.FirstRead.read_sections.Goals as goal

pub loop-section-init : goal.loop-section-init
loop-section-init c = each_none (section_check c.args.self.now.file.bytes.now)

pub returns-in_err-read_section : goal.returns-in_err-read_section
returns-in_err-read_section c =
    let s = c.args.self.now.file.bytes.now in
    let stop = each_stop (section_count s) c.loop-section.section (section_check s) c.in_err-read_section.field-0.0 (omega arith) c.loop-section.invariant (sym c.in_err-read_section.ensures) in
    search rules

pub loop-section-preserved : goal.loop-section-preserved
loop-section-preserved c = each_more c.loop-section.section (section_check c.args.self.now.file.bytes.now) c.loop-section.invariant (sym c.in_ok-read_section.ensures)
