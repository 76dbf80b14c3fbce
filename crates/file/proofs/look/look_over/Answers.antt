use Rattle.std.proofs.Common.{◌≡◌, sym, rules}
use Rattle.file.specs.Readings.{look}
use Rattle.file.proofs.Whole.{read_whole}
use Rattle.file.proofs.Accepted.{accepted_exactly, means}
use Rattle.file.proofs.look.look_over.Goals as goal

first_break : (c : goal.After-from_residual) → c.from_residual.result ≡ look c.args.bytes.now
unfolding look
first_break c = search rules

pub returns-in_err-first_reading : goal.returns-in_err-first_reading
returns-in_err-first_reading c = record {
  first = first_break c;
  accepted = accepted_exactly c.args.bytes.now c.from_residual.result (first_break c);
  means = means c.args.bytes.now c.from_residual.result (first_break c);
}

pub invariant_of-second_reading : goal.invariant_of-second_reading
invariant_of-second_reading c = record { few = (read_whole c.contents-file.result.bytes.now (sym c.in_ok-first_reading.ensures)).few }

first_end : (c : goal.After-second_reading) → c.second_reading.result ≡ look c.args.bytes.now
unfolding look
first_end c = search rules

pub returns : goal.returns
returns c = record {
  first = first_end c;
  accepted = accepted_exactly c.args.bytes.now c.second_reading.result (first_end c);
  means = means c.args.bytes.now c.second_reading.result (first_end c);
}
