use Rattle.std.proofs.Common.{refl}
use Rattle.route.proofs.Lex.{strict_and_total}
use Rattle.register.proofs.Handing.{first_none}
use Rattle.register.proofs.registers.Register.new.Goals as goal

pub returns : goal.returns
returns g c = record { plan = refl; history = record { first = first_none _; count = refl; stands = c.first_route-next.ensures }; order = strict_and_total }
