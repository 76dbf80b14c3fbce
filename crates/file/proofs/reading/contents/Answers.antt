use Rattle.std.proofs.Common.{rules}
use Rattle.file.specs.Contents.{signal_count, switch_count, straight_count, section_count}
use Rattle.file.proofs.reading.contents.Goals as goal

pub invariant_of-result : goal.invariant_of-result
unfolding signal_count switch_count straight_count section_count
invariant_of-result c = record {
  signals_counted = c.number_at-signals.ensures;
  switches_counted = search rules;
  straights_counted = search rules;
  sections_counted = search rules;
}
