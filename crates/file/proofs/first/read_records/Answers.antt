use Rattle.std.proofs.Common.{◌≡◌, ℕ, ◌+◌, ◌*◌, List, Result, sym, ap, ◌∙◌, arith, rules}
use Rattle.fault.specs.declared.kinds.FileFault.{FileFault}
use Rattle.file.specs.declared.sorts.Sort.{Sort}
use Rattle.file.specs.Checks.{first_failing}
use Rattle.file.specs.Readings.{size, record_checks, nth_record}
use Rattle.file.proofs.Checks.{each_none, each_more, each_stop}
use Rattle.file.proofs.first.read_records.Goals as goal

-- the record that was read is the next one
next : (s : List ℕ) (from i n : ℕ) (k : Sort) (r : Result (Unit {0}) FileFault) → n ≡ size k → r ≡ first_failing (record_checks s (from + n * i) k) → first_failing (nth_record s from k i) ≡ r
next s from i n k r e h = sym (h ∙ ap (λ m. first_failing (record_checks s (from + m * i) k)) e)

pub loop-i-init : goal.loop-i-init
loop-i-init c = each_none (nth_record c.args.bytes.now c.args.from c.args.sort)

pub returns-in_err-read_record : goal.returns-in_err-read_record
returns-in_err-read_record c =
    let f = nth_record c.args.bytes.now c.args.from c.args.sort in
    let e = next c.args.bytes.now c.args.from c.loop-i.i c.size.result c.args.sort c.read_record.result c.size.ensures c.read_record.ensures in
    let stop = each_stop c.args.count c.loop-i.i f c.in_err-read_record.field-0.0 (omega arith) c.loop-i.invariant (e ∙ c.in_err-read_record.was) in
    search rules

pub loop-i-preserved : goal.loop-i-preserved
loop-i-preserved c =
    let f = nth_record c.args.bytes.now c.args.from c.args.sort in
    let e = next c.args.bytes.now c.args.from c.loop-i.i c.size.result c.args.sort c.read_record.result c.size.ensures c.read_record.ensures in
    each_more c.loop-i.i f c.loop-i.invariant (e ∙ c.in_ok-read_record.was)
