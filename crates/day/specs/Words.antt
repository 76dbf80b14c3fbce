-- Orders and answers in words.
use Rattle.std.specs.Prelude.{ℕ, List, Some, Ok, Err, vec_items, vec_len, Option, Result, codes, decimal}
use Rattle.std.specs.Fmt.{◌++?◌, debug_list}
use Rattle.fault.specs.declared.kinds.BoxFault.{BoxFault}
use Rattle.fault.specs.Shown.{told_text}
use Rattle.fault.specs.Table.{box_told}
use Rattle.plan.specs.declared.parts.Position.TheVariants.{Normal, Reverse}
use Rattle.day.specs.declared.orders.Order.{Order}
use Rattle.day.specs.declared.orders.Order.TheVariants.{Turn, Restart, Throw, Occupy, Clear, Open, Release}
use Rattle.day.specs.declared.orders.Answer.{Answer}
use Rattle.day.specs.declared.orders.Answer.TheVariants as says

abbrev pub words : List ℕ → Option (List ℕ)
words text = Some text

abbrev pub number : ℕ → Option (List ℕ)
number n = Some (decimal n)

abbrev pub order_words : Order → Option (List ℕ)
order_words (Turn space) = words (codes "turn, ") ++? number (vec_len space) ++? words (codes " bytes")
order_words Restart = words (codes "restart")
order_words (Throw switch Normal) = words (codes "throw ") ++? number switch ++? words (codes " normal")
order_words (Throw switch Reverse) = words (codes "throw ") ++? number switch ++? words (codes " reverse")
order_words (Occupy section) = words (codes "occupy ") ++? number section
order_words (Clear section) = words (codes "clear ") ++? number section
order_words (Open row) = words (codes "open ") ++? debug_list number (vec_items row)
order_words (Release place) = words (codes "release the slip at ") ++? number place

abbrev pub refused_words : BoxFault → Option (List ℕ)
refused_words fault = words (codes "refused ") ++? words (told_text (box_told fault))

abbrev pub done_words : Result (Unit {0}) BoxFault → Option (List ℕ)
done_words (Ok u) = words (codes "done")
done_words (Err fault) = refused_words fault

abbrev pub answer_words : Answer → Option (List ℕ)
answer_words (says.Turned space (Ok length)) = number length ++? words (codes " bytes: ") ++? debug_list number (vec_items space)
answer_words (says.Turned space (Err fault)) = refused_words fault
answer_words says.Restarted = words (codes "done")
answer_words (says.Thrown done) = done_words done
answer_words (says.Occupied done) = done_words done
answer_words (says.Cleared done) = done_words done
answer_words (says.Opened (Ok serial)) = words (codes "slip ") ++? number serial
answer_words (says.Opened (Err fault)) = refused_words fault
answer_words (says.Released serial (Ok u)) = words (codes "slip ") ++? number serial ++? words (codes " closed its route")
answer_words (says.Released serial (Err fault)) = words (codes "slip ") ++? number serial ++? words (codes " ") ++? refused_words fault
answer_words says.NoSlip = words (codes "no such slip")
