use Rattle.std.proofs.Common.{rules}
use Rattle.plan.proofs.Blank.{blanks_match_nothing, connected_is}
use Rattle.plan.proofs.Ports.{far_equal}
use Rattle.plan.proofs.connection.connected.Goals as goal

pub returns-in_err-far : goal.returns-in_err-far
returns-in_err-far g c = record { told = search rules; blanks = blanks_match_nothing }

pub returns-in_err-far-2 : goal.returns-in_err-far-2
returns-in_err-far-2 g c = record { told = search rules; blanks = blanks_match_nothing }

pub returns : goal.returns
returns g c = record {
  told = connected_is _ _ _ _ _ _ c.args.b _ c.in_ok-far.ensures c.in_ok-far-2.ensures (search (rules, far_equal));
  blanks = blanks_match_nothing;
}
